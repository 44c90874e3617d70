-- The bytes of a source and the name of a cut decide what is found, and the text of the stubs.
use Rattle.std.proofs.Common.{◌≡◌, ℕ, Bool, true, false, List, [], ◌∷◌, map, ◌++◌, refl, sym, ap, ◌∙◌, subst, arith}
use Rattle.std.proofs.lemmas.Option.{same_Some}
use Rattle.c_syntax.specs.Syntax.{Decls}
use Rattle.c_types_rules.specs.Limits.{Typed, outcome}
use Rattle.c_types_rules.specs.Sources.{Program}
use Rattle.annot_reader_rules.specs.Cuts.{annotations}
use Rattle.annot_reader_rules.specs.Notes.{Annotated}
use Rattle.cut_graph_rules.specs.Findings.{AreFindings, Cut, Finding, IsAccepted, line_of}
use Rattle.lockset_check_rules.specs.declared.finding.LockFinding.{LockFinding}
use Rattle.lockset_check_rules.specs.Annotations.{guarded}
use Rattle.lockset_check_rules.specs.Lines as locks
use Rattle.lockset_check_rules.specs.Order.{AreSorted}
use Rattle.lockset_check_rules.specs.Sources.{source_found}
use Rattle.lockset_check_lines.proofs.OneOrder as guards
use Rattle.stub_operations.specs.declared.purpose.Purpose.TheVariants.{Record, Replay}
use Rattle.front_end.proofs.OneAnswer.{one_source}
use Rattle.cut_check.specs.Sources.{Says, cut_of, found}
use Rattle.cut_check.specs.Lines.{AreRunning, FindingsOf, LinesOf, LockFindingsOf, of_cut, of_guards}
use Rattle.cut_check.specs.Stubs.{StubsText, of_source, stubs_text}
use Rattle.cut_check.proofs.OneOrder.{one_order}

-- ---- sources

same_source : {bytes cut : List ℕ} {p q : Program} {a b : Annotated} → (s : Says bytes cut p a) (t : Says bytes cut q b) → s.right.ds ≡ t.right.ds
same_source {bytes} s t = one_source bytes s.right.ds t.right.ds s.right.source t.right.source

pub one_program : {bytes cut : List ℕ} {p q : Program} {a b : Annotated} → Says bytes cut p a → Says bytes cut q b → p ≡ q
one_program {p = p} {q = q} s t = let both : Typed p ≡ Typed q = sym s.declares ∙ (ap outcome (same_source s t) ∙ t.declares) in cc

pub one_annotated : {bytes cut : List ℕ} {p q : Program} {a b : Annotated} → Says bytes cut p a → Says bytes cut q b → a ≡ b
one_annotated {p = p} {q = q} {a = a} {b = b} s t =
    same_Some a b (sym s.annotated ∙ (ap (λ (ds : Decls). found (annotations ds p)) (same_source s t) ∙
    (ap (λ (r : Program). found (annotations t.right.ds r)) (one_program s t) ∙ t.annotated)))

-- ---- lines

same_lines : (c : Cut) (xs ys : List Finding) → AreFindings c xs → AreFindings c ys → map line_of xs ≡ map line_of ys
same_lines c xs ys f g =
    one_order line_of xs ys (λ z h. (g.exact z).1 ((f.exact z).0 h)) (λ z h. (f.exact z).1 ((g.exact z).0 h)) f.once g.once f.sorted g.sorted

one_cut : {bytes cut : List ℕ} {p q : Program} {a b : Annotated} → Says bytes cut p a → Says bytes cut q b → cut_of cut p a ≡ cut_of cut q b
one_cut {cut = cut} {q = q} {a = a} s t = ap (λ (r : Program). cut_of cut r a) (one_program s t) ∙ ap (λ (n : Annotated). cut_of cut q n) (one_annotated s t)

same_findings : {bytes cut : List ℕ} {xs ys : List Finding} → FindingsOf bytes cut xs → FindingsOf bytes cut ys → map line_of xs ≡ map line_of ys
same_findings {cut = cut} {xs = xs} {ys = ys} f g =
    same_lines (cut_of cut f.program f.annotated) xs ys f.are (subst (λ (c : Cut). AreFindings c ys) (sym (one_cut f.says g.says)) g.are)

-- nothing is found in an accepted cut
none_found : (c : Cut) (xs : List Finding) → AreFindings c xs → IsAccepted c → xs ≡ []
none_found c [] are accepted = refl
none_found c (x ∷ xs) are accepted = absurd (accepted x ((are.exact x).0 (0, omega arith, refl)))

either_found : {bytes cut : List ℕ} {xs : List Finding} {ys : List LockFinding} → FindingsOf bytes cut xs → LockFindingsOf bytes cut ys → xs ≡ []
either_found {cut = cut} {xs = xs} f g =
    none_found (cut_of cut f.program f.annotated) xs f.are (subst IsAccepted (one_cut g.says f.says) g.accepted)

-- ---- lines of guards

same_flag : (x y : Bool) → (x ≡ true → y ≡ true) → (y ≡ true → x ≡ true) → x ≡ y
same_flag true true to back = refl
same_flag true false to back = sym (to refl)
same_flag false true to back = back refl
same_flag false false to back = refl

same_runs : (c : Cut) (f g : ℕ → Bool) → AreRunning c f → AreRunning c g → f ≡ g
same_runs c f g a b = λ j number. same_flag (f number) (g number) (λ h. (b number).1 ((a number).0 h)) (λ h. (a number).1 ((b number).0 h)) j

same_guards : {bytes cut : List ℕ} {xs ys : List LockFinding} → LockFindingsOf bytes cut xs → LockFindingsOf bytes cut ys → xs ≡ ys
same_guards {cut = cut} {xs = xs} {ys = ys} f g =
    let running : AreRunning (cut_of cut f.program f.annotated) g.runs = subst (λ (c : Cut). AreRunning c g.runs) (sym (one_cut f.says g.says)) g.running in
    let runs : f.runs ≡ g.runs = same_runs (cut_of cut f.program f.annotated) f.runs g.runs f.running running in
    let found : source_found (guarded f.program f.annotated) f.runs ≡ source_found (guarded g.program g.annotated) g.runs =
    ap (λ (p : Program). source_found (guarded p f.annotated) f.runs) (one_program f.says g.says) ∙
    (ap (λ (a : Annotated). source_found (guarded g.program a) f.runs) (one_annotated f.says g.says) ∙
    ap (λ (r : ℕ → Bool). source_found (guarded g.program g.annotated) r) runs) in
    guards.one_order (source_found (guarded g.program g.annotated) g.runs) xs ys (subst (λ (fs : List LockFinding). AreSorted fs xs) found f.are) g.are

-- they decide the lines of what is found
pub one_lines : {bytes cut : List ℕ} {xs ys : List (List ℕ)} → LinesOf bytes cut xs → LinesOf bytes cut ys → xs ≡ ys
one_lines (of_cut f some) (of_cut g more) = same_findings f g
one_lines (of_cut f some) (of_guards g) = absurd (some (either_found f g))
one_lines (of_guards f) (of_cut g more) = absurd (more (either_found g f))
one_lines (of_guards f) (of_guards g) = ap (λ (xs : List LockFinding). map locks.line_of xs) (same_guards f g)

-- ---- stubs

-- and the text of the stubs
pub one_stubs : {bytes cut : List ℕ} {t u : List ℕ} → StubsText bytes cut t → StubsText bytes cut u → t ≡ u
one_stubs {cut = cut} (of_source {p = p} {a = a} s) (of_source {p = q} {a = b} t) =
    ap (λ (r : Program). stubs_text Record cut r a ++ stubs_text Replay cut r a) (one_program s t) ∙
    ap (λ (n : Annotated). stubs_text Record cut q n ++ stubs_text Replay cut q n) (one_annotated s t)
