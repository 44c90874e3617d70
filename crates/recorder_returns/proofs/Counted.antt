-- What is kept of functions after a Ret.
use Rattle.std.proofs.Common.{◌≡◌, ℕ, Bool, true, false, cond, ◌||◌, eqb, List, ◌∷◌, Option, Some, refl, sym, ap, ◌∙◌, eqb-true}
use Rattle.std.proofs.lemmas.Bool.{true≢false}
use Rattle.run_events.specs.declared.key.Class.TheVariants.{Callback}
use Rattle.marks.specs.Marks.{Mark}
use Rattle.marks.specs.Bytes.{Byte}
use Rattle.replay_runs.specs.Interface.{Interface}
use Rattle.replay_runs.specs.Keys.{key}
use Rattle.replay_runs.specs.Laws.{fresh}
use Rattle.replay_runs.specs.Pool.{is_call, is_call_event, registered_from}
use Rattle.replay_runs.specs.Runs.{OfKey, has, marks_of, new_events}
use Rattle.steps_above_interface.specs.State.{KeptState}
use Rattle.steps_above_interface.specs.Returns.{act_index, index_after, last_index}
use Rattle.steps_above_interface.specs.Stands.{CountsReturn, IsReturnOf, IsStateOf}
use Rattle.steps_above_interface.proofs.Returned.{last_kept}
use Rattle.recorder_returns.specs.Recording.{CountsIfCached}

module _ (t f n : ℕ) (m : Mark) (q : IsReturnOf t f n m) (i : Interface) (memory : ℕ → Byte) (past : List Mark) (none : i.is_cached f ≡ false) where
  no_call : is_call m.act ≡ false
  no_call = ap is_call q.act ∙ ap is_call_event q.kind

  abbrev registrations : ℕ → List Mark
  registrations g = new_events (OfKey (key Callback g)) past

  registers : (g : ℕ) (b : Bool) → registered_from false (cond b (m ∷ registrations g) (registrations g)) ≡ registered_from false (registrations g)
  registers g true = ap (λ b. b || registered_from false (registrations g)) no_call
  registers g false = refl

  other : (g : ℕ) (last : Option ℕ) → i.is_cached g ≡ true → (b : Bool) → eqb f g ≡ b → cond b (Some m.index) last ≡ last
  other g last cached true e = absurd (true≢false (sym cached ∙ (ap i.is_cached (sym (eqb-true f g e)) ∙ none)))
  other g last cached false e = refl

  keeps : (g : ℕ) (last : Option ℕ) → i.is_cached g ≡ true → act_index g m.index m.act last ≡ last
  keeps g last cached = ap (λ a. act_index g m.index a last) q.act ∙ (ap (λ k. index_after g m.index k last) q.kind ∙ other g last cached (eqb f g) refl)

  -- of a function without `cache` nothing is kept
  pub not_kept : (s : KeptState) → IsStateOf i memory past s → IsStateOf i memory (m ∷ past) s
  not_kept s h = record {
    registered = λ g lt. h.registered g lt ∙ sym (registers g (has m (OfKey (key Callback g))));
    returned = λ u g lt few cached. h.returned u g lt few cached ∙ sym (last_kept memory past m u g (keeps g (last_index g (marks_of (fresh memory) u past)) cached));
  }

pub not_counted : (t f n : ℕ) (s : KeptState) (cached : Bool) → cached ≡ false → CountsIfCached cached t f n s s
not_counted t f n s cached off i memory past m is q h = not_kept t f n m q i memory past (sym is ∙ off) s h

pub counted : (t f n : ℕ) (old new : KeptState) (cached : Bool) → CountsReturn t f n old new → CountsIfCached cached t f n old new
counted t f n old new cached counts i memory past m is q h = counts i memory past m q h
