-- What the tests of a range say of its bytes, where they pass.
use Rattle.std.proofs.Common.{◌≡◌, inl, ℕ, ◌^◌, ◌<◌, Bool, true, false, List, [], Option, Some, None, refl, sym, ap, ◌∙◌, arith, ltb}
use Rattle.std.proofs.lemmas.Bool.{ltb-false, ltb-true}
use Rattle.marks.specs.declared.side.Side.{Side}
use Rattle.marks.specs.declared.side.Side.TheVariants.{Replay, System}
use Rattle.marks.specs.Places.{is_system}
use Rattle.marks.specs.declared.range.Range.{Range}
use Rattle.marks.specs.Ranges.{covers, range}
use Rattle.marks.specs.Marks.{Mark}
use Rattle.marks.specs.Bytes.{Cell, Dead, Held, IsHeld, IsLive, Live}
use Rattle.marks.specs.Wants.{Loads}
use Rattle.replay_runs.specs.Runs.{byte}
use Rattle.replay_runs.specs.Checks.{Done, Passes, range_checks}
use Rattle.whole_runs.specs.World.{World, begin}
use Rattle.whole_runs.specs.Sides.{seen}
use Rattle.whole_runs.specs.Memory.{real}
use Rattle.whole_runs.specs.Tests.{tests}
use Rattle.whole_runs.specs.Ends.{Follows}
use Rattle.whole_runs.specs.Fits.{IsFit}
use Rattle.whole_runs_memory.specs.Plain.{IsReally}
use Rattle.whole_runs_memory.proofs.RealRuns.{real_above}
use Rattle.reference_recorder_laws.proofs.Low.{low}

no_true : (b : Bool) → (b ≡ true → ⊥) → b ≡ false
no_true true h = absurd (h refl)
no_true false h = refl

live_cell : (c : Cell) → (c ≡ Dead → ⊥) → (IsHeld c → ⊥) → IsLive c
live_cell Dead dead held = dead refl
live_cell (Live v) dead held = tt
live_cell (Held v) dead held = held tt

-- a live byte is what it really is
live_there : (c : Cell) (now : Option ℕ) → IsReally c now → IsLive c → now ≡ None → ⊥
live_there Dead now really live none = live
live_there (Live v) now really live none = let e : ◌≡◌ {A = Option ℕ} (Some v) None = sym really ∙ none in absurd cc
live_there (Held v) now really live none = live

live_shown : (c : Cell) (now : Option ℕ) (v : ℕ) → IsReally c now → IsLive c → now ≡ Some v → c ≡ Live v
live_shown Dead now v really live is = absurd live
live_shown (Live u) now v really live is =
    let e : ◌≡◌ {A = Option ℕ} (Some u) (Some v) = sym really ∙ is in
    let same : u ≡ v = cc in
    ap Live same
live_shown (Held u) now v really live is = absurd live

module _ (w : World) (run : List Mark) (t : ℕ) (write : Bool) (r : Range) where
  pub live_above : Passes (range_checks (begin w) (seen run) t write [] r Done) → (x : ℕ) → covers r x ≡ true → IsLive (byte (begin w) x (seen run)).cell
  live_above p x e = live_cell (byte (begin w) x (seen run)).cell (λ d. p.1.1.0 x (e, d)) (λ h. p.1.1.1.0 x (e, inl h))

  module _ (fit : IsFit w) (follows : Follows w run) where
    really : Passes (range_checks (begin w) (seen run) t write [] r Done) → (x : ℕ) → covers r x ≡ true → IsReally (byte (begin w) x (seen run)).cell (real w run x)
    really p x e = real_above w fit run follows x (no_true (is_system x) (λ z. p.0 x (e, z)))

    pub there_above : Passes (range_checks (begin w) (seen run) t write [] r Done) → (x : ℕ) → covers r x ≡ true → real w run x ≡ None → ⊥
    there_above p x e none = live_there (byte (begin w) x (seen run)).cell (real w run x) (really p x e) (live_above p x e) none

    -- a replay sees it so
    pub shown_above : Passes (range_checks (begin w) (seen run) t write [] r Done) → (x v : ℕ) → covers r x ≡ true → real w run x ≡ Some v → (byte (begin w) x (seen run)).cell ≡ Live v
    shown_above p x v e is = live_shown (byte (begin w) x (seen run)).cell (real w run x) v (really p x e) (live_above p x e) is

-- on both sides a byte that is read is there
pub read_there : (w : World) (run : List Mark) (fit : IsFit w) (follows : Follows w run) (t : ℕ) (side : Side) (o : Option ℕ) (at n : ℕ) →
    Passes (tests w run t side (Loads o at n)) → (x : ℕ) → covers (range at n) x ≡ true → real w run x ≡ None → ⊥
read_there w run fit follows t Replay o at n p x e none = there_above w run t false (range at n) fit follows p x e none
read_there w run fit follows t System o at n p x e none = p.1.0 x (e, none)

-- what is there has an address
pub low_there : (w : World) (fit : IsFit w) (run : List Mark) → Follows w run → (x : ℕ) → (real w run x ≡ None → ⊥) → x < 2 ^ 64
low_there w fit run follows x there = by (ltb x (2 ^ 31)) refl
  where
    by : (b : Bool) → ltb x (2 ^ 31) ≡ b → x < 2 ^ 64
    by true e = let lt = ltb-true x (2 ^ 31) e in omega (arith, lt)
    by false e = absurd (there (low w fit run follows x (ltb-false x (2 ^ 31) e)).1)
