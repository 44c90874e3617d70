use Rattle.std.proofs.Common.{OnOk, sym, subst}
use Rattle.c_builtins.specs.Table.{number_of}
use Rattle.recorder_system.specs.Calls.{Notes}
use Rattle.recorder_system.proofs.Changes.{notes_other}
use Rattle.recorder_system.proofs.system.RunSystem.note_builtin.Goals as goal

pub returns-in-Spawn-clause-noted : goal.returns-in-Spawn-clause-noted
returns-in-Spawn-clause-noted c = subst (λ b. Notes c.args.thread (number_of b) c.args.args.now c.args.self.now c.spawn.new.self) (sym c.in-Spawn.is) (c.spawn.ensures.noted c.args.thread c.args.args.now)

pub returns-in-Lock-clause-noted : goal.returns-in-Lock-clause-noted
returns-in-Lock-clause-noted c = subst (λ b. OnOk c.lock.result (Notes c.args.thread (number_of b) c.args.args.now c.args.self.now c.lock.new.self)) (sym c.in-Lock.is) c.lock.ensures.noted

pub returns-in-Unlock-clause-noted : goal.returns-in-Unlock-clause-noted
returns-in-Unlock-clause-noted c = subst (λ b. Notes c.args.thread (number_of b) c.args.args.now c.args.self.now c.unlock.new.self) (sym c.in-Unlock.is) c.unlock.ensures.noted

pub returns-in-Malloc : goal.returns-in-Malloc
returns-in-Malloc c = record {
  noted = notes_other c.args.self.now c.args.thread c.args.args.now c.args.builtin c.in-Malloc.is;
  unchanged = tt;
  running = c.requires.running;
}
