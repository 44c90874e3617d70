use Rattle.std.proofs.Common.{List, ℕ, drop}
use Rattle.std.specs.Prelude.{Option}
use Rattle.isolation_check_rows.specs.Rows.{IsNoted}
use Rattle.isolation_check_rows.proofs.row.note.Given as goal

-- what is left makes the whole
abbrev pub invariant-loop-mention : goal.invariant-loop-mention
invariant-loop-mention l =
    (q : List (Option ℕ)) →
    IsNoted l.kind l.function l.row.items (drop l.mention-index l.mentions) q →
    IsNoted l.kind l.function l.initial.row.items l.mentions q
