-- What the checks find at ranges of which it is known how the first bad one is bad.
use Rattle.std.proofs.Common.{◌≡◌, inl, inr, ⊎_elim, ℕ, Bool, true, false, ◌||◌, List, [], ◌∷◌, ◌++◌, refl, sym, ◌∙◌}
use Rattle.std.proofs.lemmas.Bool.{or_from, true≢false}
use Rattle.marks.specs.declared.side.Side.{Side}
use Rattle.marks.specs.declared.side.Side.TheVariants.{Replay}
use Rattle.marks.specs.declared.fault.FaultKind.TheVariants.{NotLive, ReadOnly}
use Rattle.marks.specs.declared.range.Range.{Range}
use Rattle.marks.specs.Ranges.{covers, any_range}
use Rattle.marks.specs.Marks.{Mark}
use Rattle.marks.specs.Bytes.{Cell, Dead, Live, Held, IsLive, IsHeld, AllLive, SomeDead}
use Rattle.replay_runs.specs.Runs.{Start, byte}
use Rattle.replay_runs.specs.Interface.{Interface}
use Rattle.replay_runs.specs.Rules.{AllMayRun, Apart, SomeConstant}
use Rattle.replay_runs.specs.Checks.{Checks, Finding, FaultFound, Finds, range_checks, read_checks, hold_checks, mode_checks, indirect_check}
use Rattle.replay_runs.specs.Passing.{Unraced, InOwnSpace, MayRead, MayWrite, AllMayRead, AllMayWrite}
use Rattle.replay_runs.proofs.Passing.{Clear, AllClear, clear_more}

dead_live : (c : Cell) → c ≡ Dead → IsLive c → ⊥
dead_live Dead e h = h
dead_live (Live v) e h = cc
dead_live (Held v) e h = h

held_live : (c : Cell) → IsHeld c → IsLive c → ⊥
held_live Dead h l = h
held_live (Live v) h l = h
held_live (Held v) h l = l

no_two : {P : Type 0} (b : Bool) → b ≡ true → b ≡ false → P
no_two b e f = absurd (true≢false (sym e ∙ f))

-- ranges that were tested, the last one first
abbrev pub piled : List Range → List Range → List Range
piled [] more = more
piled (r ∷ rs) more = piled rs (r ∷ more)

pub piled_clear : (rs more : List Range) (x : ℕ) → any_range rs x ≡ false → any_range more x ≡ false → any_range (piled rs more) x ≡ false
piled_clear [] more x e f = f
piled_clear (r ∷ rs) more x e f = piled_clear rs (r ∷ more) x (parts (covers r x) (any_range rs x) e).1 (or_from (covers r x) (any_range more x) (parts (covers r x) (any_range rs x) e).0 f)
  where
    parts : (a b : Bool) → (a || b) ≡ false → (a ≡ false) × (b ≡ false)
    parts true b e = no_two (true || b) refl e
    parts false b e = (refl, e)

module _ (s : Start) (past : List Mark) (t : ℕ) where
  -- a range with a dead byte
  pub dead_found : (w : Bool) (more : List Range) (r : Range) (cs : Checks) (f : Finding) → InOwnSpace r → Unraced past t w r → SomeDead r (λ x. byte s x past) → Finds (range_checks s past t w more r cs) f → f ≡ FaultFound NotLive
  dead_found w more r cs f own free dead (inl h) = no_two _ h.1.0.1 (own h.0 h.1.0.0)
  dead_found w more r cs f own free dead (inr (n, inl h)) = absurd (free h.0 h.1.0.1.0 h.1.0.0 h.1.0.1.1)
  dead_found w more r cs f own free dead (inr (n, inr (n', inl h))) = h.2
  dead_found w more r cs f own free dead (inr (n, inr (n', inr k))) = absurd (k.0 dead.0 (dead.1, dead.2))

  -- a range that is live, and of which a constant is to be written
  pub constant_found : (more : List Range) (r : Range) (cs : Checks) (f : Finding) → InOwnSpace r → Unraced past t true r → AllLive r (λ x. byte s x past) → Clear more r → SomeConstant r → Finds (range_checks s past t true more r cs) f → f ≡ FaultFound ReadOnly
  constant_found more r cs f own free live clear const (inl h) = no_two _ h.1.0.1 (own h.0 h.1.0.0)
  constant_found more r cs f own free live clear const (inr (n, inl h)) = absurd (free h.0 h.1.0.1.0 h.1.0.0 h.1.0.1.1)
  constant_found more r cs f own free live clear const (inr (n, inr (n', inl h))) = absurd (dead_live (byte s h.0 past).cell h.1.0.1 (live h.0 h.1.0.0))
  constant_found more r cs f own free live clear const (inr (n, inr (n', inr (n'', inl h)))) = absurd (⊎_elim (λ z. held_live (byte s h.0 past).cell z (live h.0 h.1.0.0)) (λ z. no_two _ z (clear h.0 h.1.0.0)) h.1.0.1)
  constant_found more r cs f own free live clear const (inr (n, inr (n', inr (n'', inr (n''', inl h))))) = h.2
  constant_found more r cs f own free live clear const (inr (n, inr (n', inr (n'', inr (n''', inr k))))) = absurd (k.0 const.0 (const.1, refl, const.2))

  -- a range that passes
  pub past_read : (r : Range) (cs : Checks) (f : Finding) → MayRead s past t r → Finds (range_checks s past t false [] r cs) f → Finds cs f
  past_read r cs f may (inl h) = no_two _ h.1.0.1 (may.own_space h.0 h.1.0.0)
  past_read r cs f may (inr (n, inl h)) = absurd (may.unraced h.0 h.1.0.1.0 h.1.0.0 h.1.0.1.1)
  past_read r cs f may (inr (n, inr (n', inl h))) = absurd (dead_live (byte s h.0 past).cell h.1.0.1 (may.live h.0 h.1.0.0))
  past_read r cs f may (inr (n, inr (n', inr (n'', inl h)))) = absurd (⊎_elim (λ z. held_live (byte s h.0 past).cell z (may.live h.0 h.1.0.0)) (λ z. true≢false (sym z)) h.1.0.1)
  past_read r cs f may (inr (n, inr (n', inr (n'', inr (n''', inl h))))) = absurd (true≢false (sym h.1.0.1))
  past_read r cs f may (inr (n, inr (n', inr (n'', inr (n''', inr k))))) = k.1

  pub past_write : (more : List Range) (r : Range) (cs : Checks) (f : Finding) → MayWrite s past t r → Clear more r → Finds (range_checks s past t true more r cs) f → Finds cs f
  past_write more r cs f may clear (inl h) = no_two _ h.1.0.1 (may.own_space h.0 h.1.0.0)
  past_write more r cs f may clear (inr (n, inl h)) = absurd (may.unraced h.0 h.1.0.1.0 h.1.0.0 h.1.0.1.1)
  past_write more r cs f may clear (inr (n, inr (n', inl h))) = absurd (dead_live (byte s h.0 past).cell h.1.0.1 (may.live h.0 h.1.0.0))
  past_write more r cs f may clear (inr (n, inr (n', inr (n'', inl h)))) = absurd (⊎_elim (λ z. held_live (byte s h.0 past).cell z (may.live h.0 h.1.0.0)) (λ z. no_two _ z (clear h.0 h.1.0.0)) h.1.0.1)
  past_write more r cs f may clear (inr (n, inr (n', inr (n'', inr (n''', inl h))))) = no_two _ h.1.0.2 (may.writable h.0 h.1.0.0)
  past_write more r cs f may clear (inr (n, inr (n', inr (n'', inr (n''', inr k))))) = k.1

  pub past_reads : (before rest : List Range) (cs : Checks) (f : Finding) → AllMayRead s past t before → Finds (read_checks s past t (before ++ rest) cs) f → Finds (read_checks s past t rest cs) f
  past_reads [] rest cs f may h = h
  past_reads (r ∷ before) rest cs f may h = past_reads before rest cs f may.1 (past_read r (read_checks s past t (before ++ rest) cs) f may.0 h)

  pub past_holds : (before rest more : List Range) (cs : Checks) (f : Finding) → AllMayWrite s past t before → Apart before → AllClear s past t more before → Finds (hold_checks s past t more (before ++ rest) cs) f → Finds (hold_checks s past t (piled before more) rest cs) f
  past_holds [] rest more cs f may apart clear h = h
  past_holds (r ∷ before) rest more cs f may apart clear h =
      past_holds before rest (r ∷ more) cs f may.1 apart.1 (clear_more s past t r more before clear.1 apart.0) (past_write more r (hold_checks s past t (r ∷ more) (before ++ rest) cs) f may.0 clear.0 h)

-- functions that may run
pub past_modes : (i : Interface) (fs : List ℕ) (cs : Checks) (f : Finding) → AllMayRun i fs → Finds (mode_checks i Replay fs cs) f → Finds cs f
past_modes i [] cs f may h = h
past_modes i (g ∷ fs) cs f may (inl h) = no_two _ may.0 h.1.0.1
past_modes i (g ∷ fs) cs f may (inr h) = past_modes i fs cs f may.1 h.1

pub past_indirect : (i : Interface) (indirect : Bool) (side : Side) (g : ℕ) (cs : Checks) (f : Finding) → (indirect ≡ true → i.may_run side g ≡ true) → Finds (indirect_check i indirect side g cs) f → Finds cs f
past_indirect i false side g cs f may h = h
past_indirect i true side g cs f may (inl h) = no_two _ (may refl) h.1.0.1
past_indirect i true side g cs f may (inr h) = h.1
