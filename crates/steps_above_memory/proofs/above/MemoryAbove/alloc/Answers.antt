use Rattle.marks.specs.declared.side.Side.TheVariants.{Replay}
use Rattle.space_memory_laws.specs.Changes.{IsTaken}
use Rattle.steps_above_memory.proofs.Happening.{taken_made, taken_place, refused_made, refused_place}
use Rattle.steps_above_memory.proofs.above.MemoryAbove.alloc.Goals as goal

pub returns-in_ok-accessed-in-Some-clause-place : goal.returns-in_ok-accessed-in-Some-clause-place
returns-in_ok-accessed-in-Some-clause-place c =
    let taken : IsTaken Replay c.args.self.now.spaces c.alloc_in.new.self c.args.size c.in-Some.addr =
    record {
      least = c.in-Some.ensures.place;
      some = c.in-Some.ensures.some;
      sides = c.in-Some.ensures.taken;
      fills =
          c.in-Some.ensures.zero;
      held = c.alloc_in.ensures.held;
    } in
    taken_place c.args.self.now c.alloc_in.new.self c.args.thread c.args.size c.in-Some.addr taken

pub returns-in_ok-accessed-in-Some-clause-made : goal.returns-in_ok-accessed-in-Some-clause-made
returns-in_ok-accessed-in-Some-clause-made c =
    let taken : IsTaken Replay c.args.self.now.spaces c.alloc_in.new.self c.args.size c.in-Some.addr =
    record {
      least = c.in-Some.ensures.place;
      some = c.in-Some.ensures.some;
      sides = c.in-Some.ensures.taken;
      fills =
          c.in-Some.ensures.zero;
      held = c.alloc_in.ensures.held;
    } in
    taken_made c.args.self.now _ c.args.thread c.args.size c.in-Some.addr c.event.new.self taken c.in_ok-event.ensures.told c.in_ok-accessed-in-Some.ensures.told

pub returns-in_ok-accessed-in-None-clause-place : goal.returns-in_ok-accessed-in-None-clause-place
returns-in_ok-accessed-in-None-clause-place c = refused_place c.args.self.now c.args.thread c.args.size c.in-None.ensures.none

pub returns-in_ok-accessed-in-None-clause-made : goal.returns-in_ok-accessed-in-None-clause-made
returns-in_ok-accessed-in-None-clause-made c = refused_made c.args.self.now c.args.thread c.args.size c.in-None.ensures.none _ c.event.new.self c.in-None.ensures.unchanged c.in_ok-event.ensures.told c.in_ok-accessed-in-None.ensures.told
