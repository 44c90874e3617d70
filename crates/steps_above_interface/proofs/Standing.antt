-- The state after a mark.
use Rattle.std.proofs.Common.{◌≡◌, ℕ, ◌+◌, ◌<◌, Bool, true, false, ◌||◌, List, [], ◌∷◌, ◌++◌, length, get_or, take, refl, sym, ap, ◌∙◌, arith}
use Rattle.std.proofs.lemmas.List.{take_more}
use Rattle.run_events.specs.declared.key.Class.TheVariants.{Callback}
use Rattle.run_events.specs.declared.key.Key.{Key}
use Rattle.marks.specs.Marks.{Mark}
use Rattle.marks.specs.Bytes.{Byte}
use Rattle.logical_clock.specs.Events.{is_among}
use Rattle.replay_runs.specs.Runs.{same_key}
use Rattle.replay_runs.specs.Interface.{Interface}
use Rattle.replay_runs.specs.Keys.{key}
use Rattle.steps_above_interface.specs.State.{AreRegistered, KeptState, kept_of}
use Rattle.steps_above_interface.specs.Stands.{IsCallWith, IsStateOf}
use Rattle.steps_above_interface.proofs.Registered.{call_registers}
use Rattle.steps_above_interface.proofs.Returned.{call_keeps}

-- ---- key after key

or_assoc : (a b c : Bool) → ((a || b) || c) ≡ (a || (b || c))
or_assoc true b c = refl
or_assoc false b c = refl

or_false : (b : Bool) → (b || false) ≡ b
or_false true = refl
or_false false = refl

among_last : (ks : List Key) (k j : Key) → is_among (ks ++ k ∷ []) j ≡ (is_among ks j || same_key k j)
among_last [] k j = or_false (same_key k j)
among_last (i ∷ ks) k j = ap (λ b. same_key i j || b) (among_last ks k j) ∙ sym (or_assoc (same_key i j) (is_among ks j) (same_key k j))

pub registered_more : (ks : List Key) (i : ℕ) (d : Key) (old mid new : List Bool) → i < length ks → AreRegistered (is_among (take i ks)) old mid → AreRegistered (same_key (get_or ks i d)) mid new → AreRegistered (is_among (take (i + 1) ks)) old new
registered_more ks i d old mid new lt first then' = record {
  functions = then'.functions ∙ first.functions;
  are = λ f below.
      let k = key Callback f in
      then'.are f (omega (arith, below, first.functions))
      ∙ ap (λ b. b || same_key (get_or ks i d) k) (first.are f below)
      ∙ or_assoc (get_or old f false) (is_among (take i ks) k) (same_key (get_or ks i d) k)
      ∙ ap (λ b. get_or old f false || b) (sym (ap (λ qs. is_among qs k) (take_more ks i d lt) ∙ among_last (take i ks) (get_or ks i d) k));
}

-- ---- a Call

pub called : (i : Interface) (memory : ℕ → Byte) (past : List Mark) (m : Mark) (keys : List Key) (old new : KeptState) → IsCallWith keys m → AreRegistered (is_among keys) old.registered new.registered → new.returned ≡ old.returned → IsStateOf i memory past old → IsStateOf i memory (m ∷ past) new
called i memory past m keys old new call are same h = record {
  registered = λ f below.
      let there : f < length old.registered = omega (arith, below, are.functions) in
      are.are f there ∙ ap (λ b. b || is_among keys (key Callback f)) (h.registered f there) ∙ sym (call_registers memory past m f keys call);
  returned = λ t f lt below cached.
      ap (λ rows. kept_of rows t f) same ∙ h.returned t f lt (omega (arith, below, are.functions)) cached ∙ sym (call_keeps memory past m t f keys call);
}
