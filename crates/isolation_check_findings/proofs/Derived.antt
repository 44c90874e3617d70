-- What the comparison of findings says of their lines and of what they stand for.
use Rattle.std.proofs.Common.{◌≡◌, true, false, refl, sym, ap, ◌∙◌}
use Rattle.std.specs.Cmp.{IsTotalOrder}
use Rattle.std.specs.Cmp.Lexicographic.{bytes_decides, lists_total, slice_cmp}
use Rattle.std.specs.Cmp.{nat_cmp_total}
use Rattle.std.specs.Ordering.{is_eq, is_lt, nat_cmp, ordering_reverse, ordering_then}
use Rattle.std.specs.declared.cmp.Ordering.{Ordering}
use Rattle.std.specs.declared.cmp.Ordering.TheVariants.{Less, Equal, Greater}
use Rattle.std.proofs.lemmas.Bool.{and_from, and_parts}
use Rattle.cut_graph_rules.specs.Findings.{Above, Shared}
use Rattle.isolation_check_findings.specs.declared.finding.Cause.{Cause}
use Rattle.isolation_check_findings.specs.declared.finding.Cause.TheVariants as causes
use Rattle.isolation_check_findings.specs.declared.finding.Finding.{Finding}
use Rattle.isolation_check_findings.specs.Found.{cause_of, finding_of}
use Rattle.isolation_check_findings.specs.contracts.finding.CauseOrd.TheImpl as cause_order
use Rattle.isolation_check_findings.specs.contracts.finding.CausePartialEq.TheImpl as cause_test
use Rattle.isolation_check_findings.specs.contracts.finding.FindingOrd.TheImpl as order
use Rattle.isolation_check_findings.specs.contracts.finding.FindingOrd.TheImpl.Laws.{matches_eq-law}
use Rattle.isolation_check_findings.specs.contracts.finding.FindingPartialEq.TheImpl as test

-- ---- lines come first

turned : (a b : Ordering) → a ≡ ordering_reverse b → (b ≡ Greater → ⊥) → is_lt a ≡ false
turned a Less e not_greater = ap is_lt e
turned a Equal e not_greater = ap is_lt e
turned a Greater e not_greater = absurd (not_greater refl)

greater_first : (first rest : Ordering) → ordering_then first rest ≡ Less → first ≡ Greater → ⊥
greater_first Less rest e g = cc
greater_first Equal rest e g = cc
greater_first Greater rest e g = cc

pub lines_first : (x y : Finding) → order.ghosts.cmp x y ≡ Less → is_lt (slice_cmp nat_cmp y.line.items x.line.items) ≡ false
lines_first x y less =
    let total : IsTotalOrder (slice_cmp nat_cmp) = lists_total nat_cmp_total in
    let first = slice_cmp nat_cmp x.line.items y.line.items in
    turned (slice_cmp nat_cmp y.line.items x.line.items) first (total.antisymm y.line.items x.line.items)
    (greater_first first (cause_order.ghosts.cmp x.cause y.cause) less)

-- ---- what is equal

same_cause : (a b : Cause) → cause_test.ghosts.eq a b ≡ true → cause_of a ≡ cause_of b
same_cause (causes.Shared g a b) (causes.Shared h c d) e =
    let p = and_parts _ _ e in
    let q = and_parts _ _ p.1 in
    let e1 : g.now ≡ h.now = (bytes_decides g.now h.now).0 p.0 in
    let e2 : a.now ≡ c.now = (bytes_decides a.now c.now).0 q.0 in
    let e3 : b.now ≡ d.now = (bytes_decides b.now d.now).0 q.1 in
    λ i. Shared (e1 i) (e2 i) (e3 i)
same_cause (causes.Shared g a b) (causes.Above h c) e = cc
same_cause (causes.Above g a) (causes.Shared h c d) e = cc
same_cause (causes.Above g a) (causes.Above h c) e =
    let p = and_parts _ _ e in
    let e1 : g.now ≡ h.now = (bytes_decides g.now h.now).0 p.0 in
    let e2 : a.now ≡ c.now = (bytes_decides a.now c.now).0 p.1 in
    λ i. Above (e1 i) (e2 i)

equal_cause : (a b : Cause) → cause_of a ≡ cause_of b → cause_test.ghosts.eq a b ≡ true
equal_cause (causes.Shared g a b) (causes.Shared h c d) e =
    let s : Shared g.now a.now b.now ≡ Shared h.now c.now d.now = e in
    let e1 : g.now ≡ h.now = cc in
    let e2 : a.now ≡ c.now = cc in
    let e3 : b.now ≡ d.now = cc in
    and_from _ _ ((bytes_decides g.now h.now).1 e1) (and_from _ _ ((bytes_decides a.now c.now).1 e2) ((bytes_decides b.now d.now).1 e3))
equal_cause (causes.Shared g a b) (causes.Above h c) e = let s : Shared g.now a.now b.now ≡ Above h.now c.now = e in cc
equal_cause (causes.Above g a) (causes.Shared h c d) e = let s : Above g.now a.now ≡ Shared h.now c.now d.now = e in cc
equal_cause (causes.Above g a) (causes.Above h c) e =
    let s : Above g.now a.now ≡ Above h.now c.now = e in
    let e1 : g.now ≡ h.now = cc in
    let e2 : a.now ≡ c.now = cc in
    and_from _ _ ((bytes_decides g.now h.now).1 e1) ((bytes_decides a.now c.now).1 e2)

pub same : (x y : Finding) → test.ghosts.eq x y ≡ true → finding_of x ≡ finding_of y
same x y e = same_cause x.cause y.cause (and_parts _ _ e).1

is_equal : (o : Ordering) → is_eq o ≡ true → o ≡ Equal
is_equal Less e = cc
is_equal Equal e = refl
is_equal Greater e = cc

pub equal : (x y : Finding) → x.line.items ≡ y.line.items → finding_of x ≡ finding_of y → order.ghosts.cmp x y ≡ Equal
equal x y lines causes_are =
    let tested : test.ghosts.eq x y ≡ true = and_from _ _ ((bytes_decides x.line.items y.line.items).1 lines) (equal_cause x.cause y.cause causes_are) in
    is_equal (order.ghosts.cmp x y) (sym (matches_eq-law x y) ∙ tested)
