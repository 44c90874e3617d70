-- The events of a run stand above the cut, and their clocks are no greater than their number.
use Rattle.std.proofs.Common.{◌≡◌, ℕ, suc, ◌≤◌, Bool, true, false, cond, List, [], ◌∷◌, ◌++◌, length, Some, None, refl, sym, ap, ◌∙◌, arith}
use Rattle.std.proofs.lemmas.Bool.{true≢false}
use Rattle.marks.specs.declared.side.Side.{Side}
use Rattle.marks.specs.declared.side.Side.TheVariants.{Replay}
use Rattle.marks.specs.declared.fault.FaultKind.{FaultKind}
use Rattle.marks.specs.Marks.{Act, Turn, Load, Store, Enter, Leave, Step, Fault, Made, Mark, is_event, side_of}
use Rattle.replay_runs.specs.Runs.{Link, clock_of, events_with, has, last_clock, new_events}
use Rattle.replay_runs.specs.Threads.{act_fault}
use Rattle.replay_runs.proofs.Canon.{has_made}
use Rattle.whole_runs.specs.declared.ending.Ending.{Ending}
use Rattle.whole_runs.specs.World.{World, begin}
use Rattle.whole_runs.specs.Sides.{seen}
use Rattle.whole_runs.specs.Steps.{Picked, IsMade}
use Rattle.whole_runs.specs.Ends.{Follows, IsLast, done, budget, blocked, fault, breach, script, events, full}
use Rattle.whole_runs_laws.proofs.FaultsAbove.{events_seen}
use Rattle.whole_runs_laws.proofs.OneFault.{no_event}
use Rattle.whole_runs_memory.proofs.KeptOff.{replied}
use Rattle.reference_recorder_marks.specs.Marks.{without_origins}
use Rattle.reference_recorder_origins.proofs.Parts.{new_seen, new_without}
use Rattle.reference_recorder_stamps.specs.Numbers.{SeesEvents}

stands_above : (side : Side) (a : Act) → is_event a ≡ true → side_of side a ≡ Replay
stands_above side Turn e = absurd (true≢false (sym e))
stands_above side (Load o at bytes) e = absurd (true≢false (sym e))
stands_above side (Store o at bytes) e = absurd (true≢false (sym e))
stands_above side (Enter f args at bytes) e = absurd (true≢false (sym e))
stands_above side (Leave at size) e = absurd (true≢false (sym e))
stands_above side (Step f args v ins pieces freed) e = absurd (true≢false (sym e))
stands_above side (Fault kind crosses ins outs access) e = absurd (true≢false (sym e))
stands_above side (Made event) e = refl

pub above : (w : World) (past : List Mark) (m : Mark) (s : Picked w past) → IsMade w past s m → is_event m.act ≡ true → m.side ≡ Replay
above w past m s made event = sym (replied s.side s.want m made.replies).0 ∙ stands_above s.side m.act event

module _ (w : World) where
  -- an event's clock is one more than that of an earlier one
  clock_before : (past : List Mark) (s : Picked w past) (m : Mark) → IsMade w past s m → Follows w past → ((l : Link) → last_clock (new_events l past) ≤ length past) → is_event m.act ≡ true → clock_of m.act ≤ suc (length past)
  clock_before past s m made follows before event =
      let least = (made.mark.above (above w past m s made event)).least event in
      let same : last_clock (new_events least.0 past) ≡ last_clock (events_with (begin w) least.0 (seen past)) = ap last_clock (events_seen w past follows least.0) in
      let le = before least.0 in
      let is = least.2 in
      omega (arith, same, le, is)

  pub clocks_count : (run : List Mark) → Follows w run → (l : Link) → last_clock (new_events l run) ≤ length run
  clocks_count [] follows l = omega arith
  clocks_count (m ∷ past) follows l = go (has m l) refl (clocks_count past follows.1)
    where
      go : (b : Bool) → has m l ≡ b → ((k : Link) → last_clock (new_events k past) ≤ length past) →
          last_clock (cond b (m ∷ new_events l past) (new_events l past)) ≤ suc (length past)
      go true there before = clock_before past follows.0.step m follows.0.made follows.1 before (has_made m l there)
      go false there before = let le = before l in omega (arith, le)

  -- so no clock exceeds the number of marks
  pub clock_low : (past : List Mark) (s : Picked w past) (m : Mark) → IsMade w past s m → Follows w past → is_event m.act ≡ true → clock_of m.act ≤ suc (length past)
  clock_low past s m made follows event = clock_before past s m made follows (clocks_count past follows) event

  pub sees_events : (run : List Mark) → Follows w run → SeesEvents (without_origins run)
  sees_events run follows l = new_without l run ∙ (events_seen w run follows l ∙ sym (new_seen l run))

  -- the fault that ends a run is no event
  after_fault : (past : List Mark) (m : Mark) (kind : FaultKind) → Follows w past → act_fault m.act None ≡ Some kind → (l : Link) → last_clock (new_events l (m ∷ past)) ≤ length past
  after_fault past m kind follows met l = go (has m l) refl
    where
      go : (b : Bool) → has m l ≡ b → last_clock (cond b (m ∷ new_events l past) (new_events l past)) ≤ length past
      go true there = absurd (true≢false (sym (has_made m l there) ∙ no_event m.act kind met))
      go false there = clocks_count past follows l

  pub clocks_at_end : (past last : List Mark) (e : Ending) → Follows w past → IsLast w past last e → (l : Link) → last_clock (new_events l (last ++ past)) ≤ length past
  clocks_at_end past last e follows (done a) l = clocks_count past follows l
  clocks_at_end past last e follows (budget a b) l = clocks_count past follows l
  clocks_at_end past last e follows (blocked a b) l = clocks_count past follows l
  clocks_at_end past last e follows (fault {m = m} kind s found h) l = after_fault past m kind follows h.kind_is l
  clocks_at_end past last e follows (breach kind x other s found) l = clocks_count past follows l
  clocks_at_end past last e follows (script s passes lacks) l = clocks_count past follows l
  clocks_at_end past last e follows (events m s made many) l = clocks_count past follows l
  clocks_at_end past last e follows (full m s made room many) l = clocks_count past follows l

  pub length_at_end : (past last : List Mark) (e : Ending) → IsLast w past last e → length (last ++ past) ≤ suc (length past)
  length_at_end past last e (done a) = omega arith
  length_at_end past last e (budget a b) = omega arith
  length_at_end past last e (blocked a b) = omega arith
  length_at_end past last e (fault {m = m} kind s found h) = omega arith
  length_at_end past last e (breach kind x other s found) = omega arith
  length_at_end past last e (script s passes lacks) = omega arith
  length_at_end past last e (events m s made many) = omega arith
  length_at_end past last e (full m s made room many) = omega arith

-- so are those of its marks without the globals that paths begin with
pub clocks_without : (n : ℕ) (run : List Mark) → ((l : Link) → last_clock (new_events l run) ≤ n) → (l : Link) → last_clock (new_events l (without_origins run)) ≤ n
clocks_without n run h l = let same = ap last_clock (new_without l run) in let le = h l in omega (arith, same, le)
