use Rattle.std.proofs.Common.{map, take}
use Rattle.r2_cli_outcome.specs.World.{World, Later, world}
use Rattle.r2_cli_outcome.specs.After.{After}
use Rattle.r2_cli_outcome.specs.Plans.{write_of}
use Rattle.r2_cli_outcome.proofs.writing.write_all.Given as goal

abbrev pub invariant-loop-write : goal.invariant-loop-write
invariant-loop-write g l =
    let F = g.F.Files in
    let S = g.S.Sink in
    let E = g.E.Sink in
    let a : World = world (F.seen l.fn.files) (S.seen l.fn.out) (E.seen l.fn.err) in
    let b : World = world (F.seen l.files) (S.seen l.out) (E.seen l.err) in
    record {
      after : After (map write_of (take l.write-index l.writes)) a b;
      later : Later a b;
    }
