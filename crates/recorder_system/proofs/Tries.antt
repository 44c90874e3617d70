-- Which thread is to be tried.
use Rattle.std.proofs.Common.{◌≡◌, ℕ, ◌<◌, ◌≤◌, Bool, true, false, List, length, Option, Some, None, IfSome, IsNone, ◌↔◌, refl, sym, ap, ◌∙◌, arith}
use Rattle.std.specs.Prelude.{find}
use Rattle.std.proofs.lemmas.Bool.{true≢false}
use Rattle.std.proofs.lemmas.Option.{slice_get_within}
use Rattle.marks.specs.Places.{thread_count}
use Rattle.marks.specs.Marks.{Mark}
use Rattle.system_side.specs.Schedule.{wish_at}
use Rattle.system_side.specs.Threads.{has_not_ended, is_ready, order_of}
use Rattle.system_side.specs.System.{SystemState}
use Rattle.whole_runs.specs.World.{World}
use Rattle.whole_runs.specs.Picks.{can_step, stepping}
use Rattle.recorder_system.specs.Stands.{IsSystemOf}
use Rattle.recorder_system.specs.Calls.{GivesTry}
use Rattle.recorder_system.proofs.Lists.{found_passes, found_too, none_found}
use Rattle.recorder_system.proofs.Standing.{can_is_ready, ready_runs, ready_there}

can_none : (w : World) (past : List Mark) (s : SystemState) → IsSystemOf w past s → ((t : ℕ) → is_ready s.threads t ≡ false) → (t : ℕ) → can_step w past t ≡ false
can_none w past s h none t = go (can_step w past t) refl
  where
    go : (b : Bool) → can_step w past t ≡ b → b ≡ false
    go false e = refl
    go true e = absurd (true≢false (sym (can_is_ready w past s h t e) ∙ none t))

-- what `pick` answers
pub is_try : (s : SystemState) (wish : ℕ) (r : Option ℕ) → r ≡ find (is_ready s.threads) (order_of wish) → (IsNone r ↔ ((t : ℕ) → is_ready s.threads t ≡ false)) → GivesTry s wish r
is_try s wish None e none w past h k =
    let on : stepping w past ≡ find (can_step w past) (order_of wish) = ap (λ items. find (can_step w past) (order_of (wish_at items (length past)))) (sym h.schedule) ∙ ap (λ n. find (can_step w past) (order_of n)) (sym k) in
    on ∙ none_found (can_step w past) (order_of wish) (can_none w past s h (none.0 refl))
is_try s wish (Some t) e none w past h k =
    let on : stepping w past ≡ find (can_step w past) (order_of wish) = ap (λ items. find (can_step w past) (order_of (wish_at items (length past)))) (sym h.schedule) ∙ ap (λ n. find (can_step w past) (order_of n)) (sym k) in
    let ready : is_ready s.threads t ≡ true = found_passes (is_ready s.threads) (order_of wish) t (sym e) in
    let lt : t < length s.threads = slice_get_within s.threads t _ (ready_there s.threads t ready) in
    let count = h.count in
    (omega (arith, lt, count), λ can. on ∙ found_too (is_ready s.threads) (can_step w past) (order_of wish) t (can_is_ready w past s h) (sym e) can)

pub picked_ready : (s : SystemState) (wish : ℕ) (r : Option ℕ) → r ≡ find (is_ready s.threads) (order_of wish) → IfSome r (λ t. is_ready s.threads t ≡ true)
picked_ready s wish None e = tt
picked_ready s wish (Some t) e = found_passes (is_ready s.threads) (order_of wish) t (sym e)

pub picked_running : (s : SystemState) (wish : ℕ) (r : Option ℕ) → r ≡ find (is_ready s.threads) (order_of wish) → IfSome r (λ t. has_not_ended s.threads t ≡ true)
picked_running s wish None e = tt
picked_running s wish (Some t) e = ready_runs s.threads t (found_passes (is_ready s.threads) (order_of wish) t (sym e))

pub picked_few : (s : SystemState) (wish : ℕ) (r : Option ℕ) → length s.threads ≤ 32 → r ≡ find (is_ready s.threads) (order_of wish) → IfSome r (λ t. t < thread_count)
picked_few s wish None few e = tt
picked_few s wish (Some t) few e =
    let lt : t < length s.threads = slice_get_within s.threads t _ (ready_there s.threads t (found_passes (is_ready s.threads) (order_of wish) t (sym e))) in
    omega (arith, lt, few)
