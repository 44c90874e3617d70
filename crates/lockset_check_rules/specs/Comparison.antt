-- How findings are compared: by offset, by the place of the word among all words, and by name.
use Rattle.std.specs.Prelude.{ℕ, ◌==◌, Bool, List, []}
use Rattle.std.specs.declared.cmp.Ordering.{Ordering}
use Rattle.std.specs.Ordering.{nat_cmp, on, then_cmp, eq_of_both}
use Rattle.std.specs.Cmp.Lexicographic.{pointwise, slice_cmp}
use Rattle.lockset_check_rules.specs.declared.finding.LockFinding.{LockFinding}
use Rattle.lockset_check_rules.specs.declared.finding.LockFinding.TheVariants.{Unheld, Address, NotConstant, UnlockUnheld, LoopLocks, ReturnLocks}
use Rattle.lockset_check_rules.specs.Order.{offset_of}

-- the place of a finding's word among the words of all lines, in the order of bytes
abbrev pub rank_of : LockFinding → ℕ
rank_of (Address from name) = 0
rank_of (LoopLocks from) = 1
rank_of (NotConstant from) = 2
rank_of (ReturnLocks from) = 3
rank_of (Unheld from name) = 4
rank_of (UnlockUnheld from) = 5

abbrev pub name_in : LockFinding → List ℕ
name_in (Address from name) = name
name_in (LoopLocks from) = []
name_in (NotConstant from) = []
name_in (ReturnLocks from) = []
name_in (Unheld from name) = name
name_in (UnlockUnheld from) = []

abbrev pub line_cmp : LockFinding → LockFinding → Ordering
line_cmp = then_cmp (on offset_of nat_cmp) (then_cmp (on rank_of nat_cmp) (on name_in (slice_cmp nat_cmp)))

abbrev pub line_eq : LockFinding → LockFinding → Bool
line_eq = eq_of_both (on offset_of ◌==◌) (eq_of_both (on rank_of ◌==◌) (on name_in (pointwise ◌==◌)))
