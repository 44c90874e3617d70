-- One mark more among those of a thread above the cut.
use Rattle.std.proofs.Common.{◌≡◌, ℕ, suc, ◌+◌, ◌<◌, ◌≤◌, Bool, true, false, ◌&&◌, cond, eqb, Option, List, [], ◌∷◌, length, get_or, take, refl, sym, ap, ◌∙◌}
use Rattle.std.proofs.lemmas.Bool.{and_parts}
use Rattle.std.proofs.lemmas.List.{take_all}
use Rattle.marks.specs.declared.side.Side.TheVariants.{Replay}
use Rattle.run_events.specs.declared.key.KeyMark.{KeyMark}
use Rattle.marks.specs.declared.fault.FaultKind.{FaultKind}
use Rattle.marks.specs.Marks.{Act, Made, Mark, Stop}
use Rattle.marks.specs.Bytes.{Byte}
use Rattle.c_code.specs.MarkLists.{same_side}
use Rattle.replay_runs.specs.Runs.{OfThread, last_clock, new_events, steps_since}
use Rattle.replay_runs.specs.Threads.{fault_of}
use Rattle.whole_runs.specs.World.{World, begin}
use Rattle.whole_runs.specs.Sides.{events_by}
use Rattle.whole_runs.specs.Ends.{stop_of}
use Rattle.reference_recorder_marks.specs.declared.mark.Mark as coded
use Rattle.reference_recorder_marks.specs.Marks.{act_of, mark_of, past}
use Rattle.reference_recorder_stamps.proofs.Counted.{own_more, other_more}
use Rattle.reference_recorder_calls.specs.Mine.{mine}

-- a look back over a thread's marks goes by what one of its marks does to it
pub look_more : {Y : Type 0} (F : List Mark → Y) (step : Act → Y → Y) → ((m : Mark) (p : List Mark) → F (m ∷ p) ≡ step m.act (F p))
    → (ms : List coded.Mark) (i : ℕ) (m : coded.Mark) → i < length ms → m ≡ get_or ms i m → (t : ℕ) (now next : Y)
    → next ≡ cond (same_side m.side Replay && eqb m.thread t) (step (act_of m.act) now) now
    → ((memory : ℕ → Byte) → now ≡ F (mine memory t (past (take i ms)))) → (memory : ℕ → Byte) → next ≡ F (mine memory t (past (take (i + 1) ms)))
look_more {Y} F step looks ms i m lt is t now next e h memory = go (same_side m.side Replay && eqb m.thread t) refl e
  where
    go : (b : Bool) → (same_side m.side Replay && eqb m.thread t) ≡ b → next ≡ cond b (step (act_of m.act) now) now → next ≡ F (mine memory t (past (take (i + 1) ms)))
    go true own z =
        let p = and_parts (same_side m.side Replay) (eqb m.thread t) own in
        z ∙ ap (step (act_of m.act)) (h memory) ∙ sym (own_more ms i m lt is F memory t p.0 p.1 ∙ looks (mark_of m) (mine memory t (past (take i ms))))
    go false other z = z ∙ h memory ∙ sym (other_more ms i m lt is F memory t other)

pub look_all : {Y : Type 0} (F : List Mark → Y) (ms : List coded.Mark) (i : ℕ) → length ms ≤ i → (t : ℕ) (now : Y) → ((memory : ℕ → Byte) → now ≡ F (mine memory t (past (take i ms)))) → (memory : ℕ → Byte) → now ≡ F (mine memory t (past ms))
look_all F ms i le t now h memory = h memory ∙ ap (λ xs. F (mine memory t (past xs))) (take_all i ms le)

-- the Stop of a thread, from its parts
pub stop_path : (w : World) (run : List Mark) (t index steps clock : ℕ) (fault : Option FaultKind) (keys : List KeyMark)
    → index ≡ events_by w t run → fault ≡ fault_of (mine (begin w).memory t run) → steps ≡ steps_since (mine (begin w).memory t run) → keys ≡ [] → clock ≡ suc (last_clock (new_events (OfThread t) run))
    → record { thread = t; side = Replay; index = index; act = Made (record { kind = Stop fault; steps = steps; keys = keys; clock = clock }) } ≡ stop_of w run t
stop_path w run t index steps clock fault keys at met made none late = λ i. record { thread = t; side = Replay; index = at i; act = Made (record { kind = Stop (met i); steps = made i; keys = none i; clock = late i }) }
