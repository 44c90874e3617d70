-- All that is wrong, in order.
use Rattle.std.proofs.Common.{◌≡◌, inl, inr, Bool, List, [], length, map, sym, subst, arith}
use Rattle.std.specs.List.{All, Contains}
use Rattle.std.proofs.lemmas.List.Elements.{All-nil}
use Rattle.c_types_program.specs.Declarations.{Declared}
use Rattle.cut_graph_rules.specs.Sources.{Mentioned}
use Rattle.cut_graph_rules.specs.Findings as rules
use Rattle.cut_graph_rules.specs.Findings.{AreFindings, Cut, IsFinding}
use Rattle.isolation_check_findings.specs.declared.finding.Finding.{Finding}
use Rattle.isolation_check_findings.specs.Given.{IsCut}
use Rattle.isolation_check_findings.specs.Found.{Adds, HasLine, IsAbove, IsBelow, IsSharedAt, finding_of}
use Rattle.isolation_check_findings.specs.Sorted.{AreSorted}
use Rattle.isolation_check_findings.proofs.Adding.{both}
use Rattle.isolation_check_findings.proofs.Exact.{exact_from, exact_to}

none_in : (x : rules.Finding) → Contains [] x → ⊥
none_in x h = omega (arith, h.1)

pub all_lines : (P Q : rules.Finding → Type 0) (a b c r : List Finding) → a ≡ [] → Adds P a b → Adds Q b c → AreSorted c r → All HasLine r
all_lines P Q a b c r empty f g s = s.lines (g.lines (f.lines (subst (All HasLine) (sym empty) (All-nil HasLine))))

module _ (p : Declared) (n : Mentioned) (above below faces : List Bool) (c : Cut) (k : IsCut p n above below faces c) where
  pub whole : (start one two r : List Finding) → start ≡ []
      → Adds (IsBelow (length p.globals) (IsSharedAt p n.functions above below)) start one
      → Adds (IsBelow (length n.functions) (IsAbove p n above faces (length p.functions))) one two
      → AreSorted two r → AreFindings c (map finding_of r)
  whole start one two r empty f g s =
      let all = both (IsBelow (length p.globals) (IsSharedAt p n.functions above below))
      (IsBelow (length n.functions) (IsAbove p n above faces (length p.functions))) start one two f g in
      let lines = all.lines (subst (All HasLine) (sym empty) (All-nil HasLine)) in
      record {
        exact = λ x. (
          λ h. elim (all.sound x ((s.same x).0 h)) [
            | inl old ↦ absurd (none_in x (subst (λ (l : List Finding). Contains (map finding_of l) x) empty old))
            | inr new ↦ exact_to p n above below faces c k x new
          ],
          λ h. (s.same x).1 (all.complete x (exact_from p n above below faces c k x h)),
        );
        sorted = s.order lines;
        once = s.once lines;
      }
