use Rattle.std.proofs.Common.{◌≡◌, ◌++◌, map, take, drop}
use Rattle.system_side.specs.Threads.{woken, HasBits}
use Rattle.system_side.proofs.threads.wake_all.Given as goal

abbrev pub invariant-loop-at : goal.invariant-loop-at
invariant-loop-at l = record { changed : l.standings ≡ map (woken l.wait) (take l.at l.initial.standings) ++ drop l.at l.initial.standings; bits : HasBits l.ready l.standings }
