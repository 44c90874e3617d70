use Rattle.std.proofs.Common.{◌≤◌}
use Rattle.c_machine.specs.declared.wants.Answer.{Answer}
use Rattle.c_machine.specs.Answers.{IsNeeded}
use Rattle.c_machine.specs.Positions.{laid}
use Rattle.c_machine.specs.Moves.{IsInside, MayFeed}
use Rattle.c_machine.specs.Wants.{told}
use Rattle.bench_steps.proofs.thread.made.Given as goal

abbrev pub invariant-loop-step : goal.invariant-loop-step
invariant-loop-step l = record {
  inside : IsInside (laid l.code l.placed) l.thread.config;
  answers : (x : Answer) → IsNeeded l.want x → MayFeed (laid l.code l.placed) l.thread.config (told x);
  few : l.calls ≤ l.step;
}
