-- What a Ret leaves of the rest of the state, and what is kept of returns for the next one.
use Rattle.std.proofs.Common.{◌≡◌, ℕ, Bool, true, false, cond, ◌&&◌, eqb, List, [], ◌∷◌, ◌++◌, map, reverse, Option, Some, None, refl, sym, ap, ◌∙◌, subst, eqb-true}
use Rattle.std.proofs.lemmas.Bool.{true≢false}
use Rattle.run_events.specs.declared.key.Class.TheVariants.{Async, Callback, Out}
use Rattle.run_events.specs.declared.event.Record.{Record}
use Rattle.run_events.specs.declared.key.Key.{Key}
use Rattle.run_events.specs.declared.key.KeyMark.{KeyMark}
use Rattle.marks.specs.Ranges.{Piece}
use Rattle.marks.specs.Bytes.{Byte}
use Rattle.marks.specs.Marks.{Commit, EventKind, Call, Ret, Up, UpRet, Alloc, Free, Stop, Act, Turn, Load, Store, Enter, Leave, Step, Fault, Made, Event, Mark, released}
use Rattle.replay_runs.specs.Interface.{Committing, Interface}
use Rattle.replay_runs.specs.Keys.{commit_keys, key, sorted_keys}
use Rattle.replay_runs.specs.Laws.{fresh}
use Rattle.replay_runs.specs.Pool.{registered_from}
use Rattle.replay_runs.specs.Records.{printed_by}
use Rattle.replay_runs.specs.Runs.{OfKey, OfThread, has, history, is_listed, keys_of, marks_of, new_events}
use Rattle.replay_runs.specs.Threads.{last_return, same_return}
use Rattle.replay_runs.proofs.Keys.{listed_last}
use Rattle.space_memory_access.specs.Held.{HeldState}
use Rattle.space_memory_laws.specs.Returns.{CommitsAs}
use Rattle.steps_above_interface.specs.State.{KeptState}
use Rattle.steps_above_interface.specs.Returns.{ShowReturns, ShowsAct, last_index}
use Rattle.steps_above_interface.specs.Stands.{AnswersRepeats, IsStateOf}
use Rattle.steps_above_interface.proofs.Showing.{records_show}
use Rattle.steps_above_stamps.specs.declared.stamps.EventStamp.{EventStamp}
use Rattle.whole_runs.specs.World.{World, begin, interface, program_of}
use Rattle.whole_runs.specs.Sides.{seen}
use Rattle.whole_runs.specs.Log.{replay_output, system_output}
use Rattle.whole_runs.specs.Records.{full_record}
use Rattle.whole_runs.specs.Steps.{Picked}
use Rattle.whole_runs.specs.Ends.{Follows}
use Rattle.whole_runs.specs.Fits.{IsFit}
use Rattle.whole_runs_laws.proofs.FaultsAbove.{events_seen}
use Rattle.whole_runs_seen.proofs.Calm.{calm_run}
use Rattle.recorder_memory.specs.Stands.{placed}
use Rattle.recorder_events.specs.Making.{event_mark, own_above}
use Rattle.recorder_returns.specs.Bringing.{CommitsUnder, IsCommitOf, committing_of}

append_nil : {X : Type 0} (xs : List X) → xs ++ [] ≡ xs
append_nil [] = refl
append_nil (x ∷ xs) = ap (λ ys. x ∷ ys) (append_nil xs)

-- ---- what was printed, and which functions are registered

module _ (w : World) (past : List Mark) (s : Picked w past) (stamp : EventStamp) (f : ℕ) (args : List ℕ) (v : ℕ) (same : Bool) (up : List Piece) (commit : Commit) where
  abbrev m : Mark
  m = event_mark w past s (Ret f args v same up commit) stamp

  pub same_output : replay_output w (m ∷ past) ≡ replay_output w past
  same_output = by (has m (OfKey (key Out 0)))
    where
      by : (b : Bool) → printed_by (cond b (m ∷ new_events (OfKey (key Out 0)) (seen past)) (new_events (OfKey (key Out 0)) (seen past))) ≡ printed_by (new_events (OfKey (key Out 0)) (seen past))
      by true = append_nil (printed_by (new_events (OfKey (key Out 0)) (seen past)))
      by false = refl

  pub same_system_output : system_output (m ∷ past) ≡ system_output past
  same_system_output = append_nil (system_output past)

  -- of a function without `cache` no return is kept
  pub not_kept : (i : Interface) (memory : ℕ → Byte) (st : KeptState) → i.is_cached f ≡ false → IsStateOf i memory (seen past) st → IsStateOf i memory (m ∷ seen past) st
  not_kept i memory st none h = record {
    registered = λ g lt. h.registered g lt ∙ sym (registers g (has m (OfKey (key Callback g))));
    returned = λ t g lt few cached. h.returned t g lt few cached ∙ sym (returns t g cached (eqb s.thread t));
  }
    where
      registers : (g : ℕ) (b : Bool) → registered_from false (cond b (m ∷ new_events (OfKey (key Callback g)) (seen past)) (new_events (OfKey (key Callback g)) (seen past))) ≡ registered_from false (new_events (OfKey (key Callback g)) (seen past))
      registers g true = refl
      registers g false = refl

      other : (g n : ℕ) (last : Option ℕ) → i.is_cached g ≡ true → (b : Bool) → eqb f g ≡ b → cond b (Some n) last ≡ last
      other g n last cached true e = absurd (true≢false (sym cached ∙ (ap i.is_cached (sym (eqb-true f g e)) ∙ none)))
      other g n last cached false e = refl

      returns : (t g : ℕ) → i.is_cached g ≡ true → (b : Bool) → last_index g (cond b (m ∷ marks_of (fresh memory) t (seen past)) (marks_of (fresh memory) t (seen past))) ≡ last_index g (marks_of (fresh memory) t (seen past))
      returns t g cached true = other g m.index (last_index g (marks_of (fresh memory) t (seen past))) cached (eqb f g) refl
      returns t g cached false = refl

-- ---- what is committed

module _ (held : HeldState) (m : Mark) (e : Event) (act_is : m.act ≡ Made e) (xs : List Key) (commit : Commit) where
  as_under : (c : Committing) (o : Option ℕ) → map (λ (q : KeyMark). q.key) e.keys ≡ sorted_keys (xs ++ (key Async c.key ∷ [])) → CommitsUnder held.regions c.key o commit → CommitsAs m held (committing_of (Some (record { key = c.key; used = o }))) commit
  as_under c None keys h = subst (λ q. released q ≡ []) (sym h) refl
  as_under c (Some n) keys h = subst (CommitsAs m held (Some (c.key, n))) (sym h.1)
      (h.2, refl, ap (λ a. is_listed (keys_of a) (key Async c.key)) act_is ∙ listed_last e.keys xs (key Async c.key) keys)

  pub commits_as : (o : Option Committing) → map (λ (q : KeyMark). q.key) e.keys ≡ sorted_keys (xs ++ commit_keys o) → IsCommitOf held.regions o commit → CommitsAs m held (committing_of o) commit
  commits_as None keys h = subst (λ q. released q ≡ []) (sym h) refl
  commits_as (Some c) keys h = as_under c c.used keys h

-- ---- what the records show

shows_act : (m : Mark) (a : Act) → m.act ≡ a → ShowsAct (full_record m).event a
shows_act m Turn e = tt
shows_act m (Load o at bytes) e = tt
shows_act m (Store o at bytes) e = tt
shows_act m (Enter f args at bytes) e = tt
shows_act m (Leave at size) e = tt
shows_act m (Step f args v ins pieces freed) e = tt
shows_act m (Fault k c ins outs at) e = tt
shows_act m (Made ev) e = by ev.kind refl
  where
    by : (k : EventKind) → ev.kind ≡ k → ShowsAct (full_record m).event (Made (record ev { kind = k }))
    by (Call f args ins outs prepared) z = tt
    by (Ret f args v same up commit) z =
        let q : Mark = record { thread = m.thread; side = m.side; index = m.index; act = Made (record ev { kind = Ret f args v same up commit }) } in
        let is : m ≡ q = (λ j. record { thread = m.thread; side = m.side; index = m.index; act = (e ∙ ap (λ k. Made (record ev { kind = k })) z) j }) in
        subst (λ (n : Mark). ShowsAct (full_record n).event (Made (record ev { kind = Ret f args v same up commit }))) (sym is) (refl, refl)
    by (Up f args) z = tt
    by (UpRet f v) z = tt
    by (Alloc at size) z = tt
    by (Free at size) z = tt
    by (Stop fault) z = tt

module _ (w : World) (fit : IsFit w) (past : List Mark) (follows : Follows w past) (t : ℕ) where
  -- the records of a thread show its returns
  pub are_shown : ShowReturns (reverse (history full_record (begin w) t past)) (marks_of (begin w) t (seen past))
  are_shown = subst (λ es. ShowReturns (reverse (map full_record es)) (marks_of (begin w) t (seen past))) (sym (events_seen w past follows (OfThread t)))
      (records_show full_record (λ m. shows_act m m.act refl) (placed w) t (program_of w) (seen past) (calm_run w fit past follows).steps)

  -- so they tell whether a return has the form `same`
  pub same_so : (st : KeptState) (records : List Record) (f v : ℕ) (pieces : List (List ℕ)) (answer cached : Bool) → IsStateOf (interface w) (placed w) (seen past) st → records ≡ reverse (history full_record (begin w) t past) → AnswersRepeats st records t f v pieces answer
      → (interface w).is_cached f ≡ cached → (cached && answer) ≡ ((interface w).is_cached f && same_return (last_return ((begin w).returned t f) f (own_above w t past)) (record { result = v; bytes = pieces }))
  same_so st records f v pieces answer true stands are answers cached =
      answers (interface w) (placed w) (seen past) stands cached (subst (λ rs. ShowReturns rs (marks_of (begin w) t (seen past))) (sym are) are_shown)
      ∙ ap (λ b. b && same_return (last_return ((begin w).returned t f) f (own_above w t past)) (record { result = v; bytes = pieces })) (sym cached)
  same_so st records f v pieces answer false stands are answers cached =
      ap (λ b. b && same_return (last_return ((begin w).returned t f) f (own_above w t past)) (record { result = v; bytes = pieces })) (sym cached)
