-- Which functions are registered after a mark.
use Rattle.std.proofs.Common.{◌≡◌, ℕ, Bool, true, false, ◌||◌, cond, List, [], ◌∷◌, map, refl, sym, ap, ◌∙◌}
use Rattle.std.proofs.lemmas.Bool.{true≢false}
use Rattle.run_events.specs.declared.key.Class.TheVariants.{Callback}
use Rattle.run_events.specs.declared.key.Key.{Key}
use Rattle.run_events.specs.declared.key.KeyMark.{KeyMark}
use Rattle.marks.specs.Marks.{Mark}
use Rattle.marks.specs.Bytes.{Byte}
use Rattle.logical_clock.specs.Events.{is_among}
use Rattle.replay_runs.specs.Runs.{OfKey, has, is_listed, keys_of, new_events, same_key}
use Rattle.replay_runs.specs.Keys.{key}
use Rattle.replay_runs.specs.Pool.{is_call, is_registered, registered_from}
use Rattle.replay_runs.specs.Laws.{fresh}
use Rattle.steps_above_interface.specs.Stands.{IsCallWith}

listed_is : (qs : List KeyMark) (k : Key) → is_among (map (λ (q : KeyMark). q.key) qs) k ≡ is_listed qs k
listed_is [] k = refl
listed_is (q ∷ qs) k = ap (λ b. same_key q.key k || b) (listed_is qs k)

module _ (memory : ℕ → Byte) (past : List Mark) (m : Mark) (f : ℕ) where
  abbrev was : Bool
  was = is_registered (fresh memory) f past

  after : is_registered (fresh memory) f (m ∷ past) ≡ cond (has m (OfKey (key Callback f))) (is_call m.act || was) was
  after = go (has m (OfKey (key Callback f)))
    where
      go : (b : Bool) → registered_from false (cond b (m ∷ new_events (OfKey (key Callback f)) past) (new_events (OfKey (key Callback f)) past)) ≡ cond b (is_call m.act || was) was
      go true = refl
      go false = refl

  called : (b c r : Bool) → c ≡ true → cond b (c || r) r ≡ (r || b)
  called true true true e = refl
  called true true false e = refl
  called false true true e = refl
  called false true false e = refl
  called b false r e = absurd (true≢false (sym e))

  -- a Call registers the functions of its keys
  pub call_registers : (keys : List Key) → IsCallWith keys m → is_registered (fresh memory) f (m ∷ past) ≡ (was || is_among keys (key Callback f))
  call_registers keys c =
      after
      ∙ called (has m (OfKey (key Callback f))) (is_call m.act) was (ap is_call c.act ∙ c.call)
      ∙ ap (λ b. was || b) (ap (λ a. is_listed (keys_of a) (key Callback f)) c.act ∙ sym (listed_is c.event.keys (key Callback f)) ∙ ap (λ ks. is_among ks (key Callback f)) c.keys_are)
