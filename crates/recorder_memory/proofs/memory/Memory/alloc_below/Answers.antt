use Rattle.std.proofs.Common.{refl, sym, subst}
use Rattle.recorder_memory.specs.Below.{GivesBlock}
use Rattle.recorder_memory.proofs.Marking.{with_spaces}
use Rattle.recorder_memory.proofs.Pool.{taken_given, none_given}
use Rattle.recorder_memory.proofs.memory.Memory.alloc_below.Goals as goal

pub returns-in-Some : goal.returns-in-Some
returns-in-Some c = taken_given c.args.self.now _ c.args.size c.in-Some.addr refl (record {
  least = c.in-Some.ensures.place;
  some = c.in-Some.ensures.some;
  sides = c.in-Some.ensures.taken;
  fills = c.in-Some.ensures.zero;
  held = c.alloc_in.ensures.held;
})

pub returns-in-None : goal.returns-in-None
returns-in-None c = subst (GivesBlock c.args.self.now c.args.size 0) (sym (with_spaces c.args.self.now c.alloc_in.new.self _ c.in-None.ensures.unchanged)) (none_given c.args.self.now c.args.size c.in-None.ensures.none)
