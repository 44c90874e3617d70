use Rattle.std.proofs.Common.{List, ℕ, drop}
use Rattle.std.specs.Prelude.{Option}
use Rattle.isolation_check_findings.specs.Named.{IsNotedByValues}
use Rattle.isolation_check_findings.proofs.named.note_values.Given as goal

-- what is left makes the whole
abbrev pub invariant-loop-place : goal.invariant-loop-place
invariant-loop-place l =
    (q : List (Option ℕ)) →
    IsNotedByValues l.function l.row.items (drop l.place l.tables) (drop l.place l.values) q →
    IsNotedByValues l.function l.initial.row.items l.tables l.values q
