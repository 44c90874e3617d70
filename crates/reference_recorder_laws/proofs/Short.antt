-- How many marks, events and bytes a run has.
use Rattle.std.proofs.Common.{◌≡◌, ◌≤◌, Bool, true, false, cond, List, [], ◌∷◌, length, refl, ap, ◌∙◌, arith}
use Rattle.std.specs.Prelude.{sum_by}
use Rattle.std.proofs.lemmas.List.Sums.{sum_by-cons}
use Rattle.marks.specs.Marks.{Act, Turn, Load, Store, Enter, Leave, Step, Fault, Made, Mark, is_event}
use Rattle.whole_runs.specs.World.{World}
use Rattle.whole_runs.specs.Records.{size_of}
use Rattle.whole_runs.specs.Ends.{Follows, bytes_of, events_of, most_bytes, most_events}
use Rattle.whole_runs.specs.Fits.{IsFit}
use Rattle.reference_recorder_marks.specs.Marks.{without_origin, without_origins}

module _ (w : World) where
  pub few_marks : IsFit w → (run : List Mark) → Follows w run → length run ≤ 100_000_000
  few_marks fit [] follows = omega arith
  few_marks fit (m ∷ past) follows =
      let room = follows.0.step.goes_on.in_budget in
      let most = fit.file.budget in
      omega (arith, room, most)

  pub few_events : (run : List Mark) → Follows w run → length (events_of run) ≤ most_events
  few_events [] follows = omega arith
  few_events (m ∷ past) follows = go (is_event m.act) refl (few_events past follows.1)
    where
      go : (b : Bool) → is_event m.act ≡ b → length (events_of past) ≤ most_events → length (cond b (m ∷ events_of past) (events_of past)) ≤ most_events
      go true event before = let room = follows.0.room.events event in omega (arith, room)
      go false event before = before

  pub few_bytes : (run : List Mark) → Follows w run → bytes_of run ≤ most_bytes
  few_bytes [] follows = omega arith
  few_bytes (m ∷ past) follows = go (is_event m.act) refl (few_bytes past follows.1)
    where
      go : (b : Bool) → is_event m.act ≡ b → bytes_of past ≤ most_bytes → sum_by size_of (cond b (m ∷ events_of past) (events_of past)) ≤ most_bytes
      go true event before = let room = follows.0.room.bytes event in omega (arith, room, sum_by-cons size_of m (events_of past))
      go false event before = before

-- events have no origins
pub same_act : (a : Act) → is_event a ≡ true → without_origin a ≡ a
same_act Turn e = absurd cc
same_act (Load o at bytes) e = absurd cc
same_act (Store o at bytes) e = absurd cc
same_act (Enter f args at bytes) e = absurd cc
same_act (Leave at size) e = absurd cc
same_act (Step f args v ins pieces freed) e = absurd cc
same_act (Fault kind crosses ins outs access) e = absurd cc
same_act (Made event) e = refl

pub event_without : (a : Act) → is_event (without_origin a) ≡ is_event a
event_without Turn = refl
event_without (Load o at bytes) = refl
event_without (Store o at bytes) = refl
event_without (Enter f args at bytes) = refl
event_without (Leave at size) = refl
event_without (Step f args v ins pieces freed) = refl
event_without (Fault kind crosses ins outs access) = refl
event_without (Made event) = refl

pub same_events : (run : List Mark) → events_of (without_origins run) ≡ events_of run
same_events [] = refl
same_events (m ∷ past) =
    ap (λ b. cond b (record m { act = without_origin m.act } ∷ events_of (without_origins past)) (events_of (without_origins past))) (event_without m.act)
    ∙ go (is_event m.act) refl (same_events past)
  where
    go : (b : Bool) → is_event m.act ≡ b → events_of (without_origins past) ≡ events_of past →
        cond b (record m { act = without_origin m.act } ∷ events_of (without_origins past)) (events_of (without_origins past)) ≡ cond b (m ∷ events_of past) (events_of past)
    go true event rest = ap (λ (a : Act). record m { act = a } ∷ events_of (without_origins past)) (same_act m.act event) ∙ ap (λ ms. m ∷ ms) rest
    go false event rest = rest
