use Rattle.reference_recorder_spaces.proofs.Pooled.{takes, takes_none}
use Rattle.reference_recorder_spaces.proofs.events.take.Goals as goal

pub returns-in-Some : goal.returns-in-Some
returns-in-Some c = λ thread at e kind n. takes c.args.spaces.now thread e n at c.args.size kind c.alloc_in.new.self c.in-Some.field-0 (record {
  least = c.in-Some.ensures.place;
  some = c.in-Some.ensures.some;
  sides = c.in-Some.ensures.taken;
  fills = c.in-Some.ensures.zero;
  held = c.alloc_in.ensures.held;
})

pub returns-in-None : goal.returns-in-None
returns-in-None c = λ thread at e kind n. takes_none c.args.spaces.now thread e n at c.args.size kind c.alloc_in.new.self c.in-None.ensures.unchanged c.in-None.ensures.none
