use Rattle.std.proofs.Common.{◌≡◌, ℕ, ◌<◌, ◌^◌, List, sym, ◌∙◌, subst}
use Rattle.std.specs.Prelude.{MatchOption}
use Rattle.marks.specs.Places.{stack}
use Rattle.marks.specs.declared.range.Range.{Range}
use Rattle.replay_runs.specs.Threads.{end_of}
use Rattle.reference_recorder_regions.specs.Room.{HasRoomIn}
use Rattle.reference_recorder_regions.proofs.Stacks.{stack_low}
use Rattle.reference_recorder_regions.proofs.room.room_on.Goals as goal

pub room_in-requires : goal.room_in-requires
room_in-requires c = subst (λ (n : ℕ). n < 2 ^ 32) (sym c.stack.ensures) (stack_low c.args.side c.args.thread c.requires)

-- the stack and its frames are those of the run
pub returns : goal.returns
returns c = λ w.
    subst (λ (fs : List Range). MatchOption c.room_in.result (HasRoomIn (stack c.args.side c.args.thread) fs c.args.size → ⊥)
    (λ place. HasRoomIn (stack c.args.side c.args.thread) fs c.args.size × (place ≡ end_of (stack c.args.side c.args.thread) fs)))
    (c.deref.ensures.value ∙ c.in_ok-frames.ensures w)
    (subst (λ (base : ℕ). MatchOption c.room_in.result (HasRoomIn base c.deref.result.now c.args.size → ⊥)
    (λ place. HasRoomIn base c.deref.result.now c.args.size × (place ≡ end_of base c.deref.result.now))) c.stack.ensures c.room_in.ensures)
