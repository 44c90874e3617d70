-- Findings in order.
use Rattle.std.specs.Prelude.{◌≡◌, ◌↔◌, ℕ, List, map, Some, slice_get}
use Rattle.std.specs.Ordering.{nat_cmp}
use Rattle.std.specs.Cmp.Lexicographic.{slice_cmp}
use Rattle.std.specs.List.Sorted.{IsSorted}
use Rattle.std.specs.List.{All, Contains}
use Rattle.cut_graph_rules.specs.Findings as rules
use Rattle.cut_graph_rules.specs.Findings.{line_of}
use Rattle.isolation_check_findings.specs.declared.finding.Finding.{Finding}
use Rattle.isolation_check_findings.specs.Found.{HasLine, finding_of}

-- the same findings; where each has its line, these are in the order of bytes, and none stands twice
pub record AreSorted (found sorted : List Finding) : Type 0 where
  pub same : (x : rules.Finding) → Contains (map finding_of sorted) x ↔ Contains (map finding_of found) x
  pub order : All HasLine found → IsSorted (slice_cmp nat_cmp) (map line_of (map finding_of sorted))
  pub once : All HasLine found → (i j : ℕ) (x : rules.Finding) →
      slice_get (map finding_of sorted) i ≡ Some x → slice_get (map finding_of sorted) j ≡ Some x → i ≡ j
  pub lines : All HasLine found → All HasLine sorted
