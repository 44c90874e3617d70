-- Marks that are none of a run.
use Rattle.std.proofs.Common.{◌≡◌, ⊎_elim, ℕ, ◌≤◌, Bool, true, false, ◌&&◌, leb, ltb, List, [], ◌∷◌, Option, Some, None, refl, sym, ap, ◌∙◌, arith}
use Rattle.std.specs.Prelude.{is_some}
use Rattle.std.proofs.lemmas.Bool.{leb-true, ltb-true, and_parts, true≢false}
use Rattle.marks.specs.declared.side.Side.{Side}
use Rattle.marks.specs.Places.{pool_size, replay_pool}
use Rattle.marks.specs.declared.range.Range.{Range}
use Rattle.marks.specs.Marks.{Enter, Mark}
use Rattle.marks.specs.Wants.{Want, Answer}
use Rattle.c_code.specs.Machine.{Config}
use Rattle.c_code.specs.MarkLists.{Wants, reply}
use Rattle.replay_runs.specs.Pool.{Fits, IsPlace}
use Rattle.whole_runs.specs.World.{World}
use Rattle.whole_runs.specs.Sides.{place_on}
use Rattle.whole_runs.specs.Threads.{comes}
use Rattle.whole_runs.specs.Picks.{stepping}
use Rattle.whole_runs.specs.Ends.{Follows}
use Rattle.whole_runs_laws.proofs.Picking.{IsPick, picks_this}
use Rattle.whole_runs_examples.specs.Play.{mark_for}

-- one that doesn't answer what the code wants
pub not_wanted : (w : World) (past : List Mark) (m : Mark) (t : ℕ) (side : Side) (want : Want) (to : Answer → Config) → stepping w past ≡ Some t → comes w past t ≡ Wants side want to → is_some (reply side want m) ≡ false → Follows w (m ∷ past) → ⊥
not_wanted w past m t side want to s c fails h =
    let p : IsPick w past t side want h.0.step = picks_this w past t side want to s c h.0.step in
    let same : is_some (reply h.0.step.side h.0.step.want m) ≡ is_some (reply side want m) = ap (λ d. is_some (reply d h.0.step.want m)) p.side_is ∙ ap (λ v. is_some (reply side v m)) p.want_is in
    true≢false (sym h.0.made.replies ∙ (same ∙ fails))

-- a frame of a run lies where the next one on its side does
pub placed_by : (w : World) (past : List Mark) (u : ℕ) (on : Side) (t : ℕ) (side : Side) (want : Want) (to : Answer → Config) (f : ℕ) (args : List ℕ) (at : ℕ) (bytes : List ℕ) → stepping w past ≡ Some t → comes w past t ≡ Wants side want to → Follows w (mark_for w past u on (Enter f args at bytes) ∷ past) → at ≡ place_on w side t past
placed_by w past u on t side want to f args at bytes s c h =
    let p : IsPick w past t side want h.0.step = picks_this w past t side want to s c h.0.step in
    h.0.made.agrees.1 ∙ (ap (λ d. place_on w d h.0.step.thread past) p.side_is ∙ ap (λ v. place_on w side v past) p.thread)

abbrev no_blocks : List Range → Bool
no_blocks [] = true
no_blocks (b ∷ bs) = false

-- in an empty pool no block lies past its beginning
pub not_first : (bs : List Range) (size at : ℕ) → no_blocks bs ≡ true → (leb 1 size && leb size pool_size) ≡ true → ltb replay_pool at ≡ true → IsPlace replay_pool bs size at → ⊥
not_first (b ∷ bs) size at n h l p = true≢false (sym n)
not_first [] size at n h l p =
    let a = and_parts (leb 1 size) (leb size pool_size) h in
    let some : 1 ≤ size = leb-true _ _ a.0 in
    let high : size ≤ pool_size = leb-true _ _ a.1 in
    let further = ltb-true replay_pool at l in
    let first : Fits replay_pool [] size replay_pool = record { some = some; aligned = refl; low = omega arith; high = omega (arith, high); free = tt } in
    ⊎_elim
    (λ z. let least : at ≤ replay_pool = z.1 replay_pool first in omega (arith, further, least))
    (λ z. let none : at ≡ 0 = z.0 in omega (arith, further, none))
    p

abbrev number_in : Option ℕ → ℕ
number_in None = 0
number_in (Some v) = v

pub same_some : (x y : ℕ) → Some x ≡ Some y → x ≡ y
same_some x y e = ap number_in e
