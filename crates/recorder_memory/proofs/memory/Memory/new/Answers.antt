use Rattle.std.proofs.Common.{[], sym, subst}
use Rattle.race_watch.specs.Stands.{Stands}
use Rattle.recorder_memory.proofs.Begins.{IsNew, begins}
use Rattle.recorder_memory.proofs.memory.Memory.new.Goals as goal

pub returns : goal.returns
returns c = begins c.args.placed.now _
    (subst (IsNew c.args.placed.now) (sym c.new-above.ensures.spaces) (record {
      globals = c.requires.globals;
      strings = c.requires.strings;
      bytes = c.in_ok-spaces.ensures.bytes;
      held = c.in_ok-spaces.ensures.held;
      sides = c.in_ok-spaces.ensures.sides;
    }))
    (subst (Stands []) (sym c.new-above.ensures.watch) c.in_ok-watch.ensures.stands)
