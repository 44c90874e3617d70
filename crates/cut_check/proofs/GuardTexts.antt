-- The text of what is found of guards is that of the source.
use Rattle.std.proofs.Common.{◌≡◌, ◌⊎◌, inl, inr, ℕ, Bool, true, false, ◌||◌, List, [], ◌∷◌, ◌++◌, map, refl, sym, ap, ◌∙◌, subst, arith, ⊎_elim}
use Rattle.std.specs.List.{Contains, flat_map}
use Rattle.marks.specs.declared.side.Side.{Side}
use Rattle.marks.specs.declared.side.Side.TheVariants.{Replay, System}
use Rattle.c_types_program.specs.Declarations.{Declared}
use Rattle.cut_graph_rules.specs.Findings.{AreFindings, Cut, IsAccepted, May}
use Rattle.cut_graph_rules.specs.Sources.{Mentioned}
use Rattle.front_end.specs.declared.source.CheckedSource.{CheckedSource}
use Rattle.isolation_check_findings.specs.declared.finding.Finding.{Finding}
use Rattle.isolation_check_findings.specs.Found.{finding_of}
use Rattle.isolation_check_findings.specs.Given.{IsCut}
use Rattle.isolation_check_rows.specs.Rows.{flag}
use Rattle.lockset_check_rules.specs.declared.finding.LockFinding.{LockFinding}
use Rattle.lockset_check_rules.specs.Annotations.{guarded}
use Rattle.lockset_check_rules.specs.Lines as locks
use Rattle.lockset_check_rules.specs.Sources.{source_found}
use Rattle.lockset_check_lines.specs.Texts.{ended_line}
use Rattle.cut_check.specs.Guards.{IsGuardsText, runs}
use Rattle.cut_check.specs.Lines.{AreRunning, FoundText, of_guards, of_lines, text_of}
use Rattle.cut_check.specs.Sources.{cut_of}
use Rattle.cut_check.proofs.Accepted.{Known}

no_findings : (c : Cut) (xs : List Finding) → AreFindings c (map finding_of xs) → xs ≡ [] → IsAccepted c
no_findings c xs are e = λ x is.
    let there : Contains (map finding_of xs) x = (are.exact x).1 is in
    let nowhere : Contains [] x = subst (λ (ys : List Finding). Contains (map finding_of ys) x) e there in
    omega (arith, nowhere.1)

either_side : (a b : Bool) → (a || b) ≡ true → (a ≡ true) ⊎ (b ≡ true)
either_side true b h = inl refl
either_side false b h = inr h

first_side : (a b : Bool) → a ≡ true → (a || b) ≡ true
first_side true b h = refl
first_side false b h = absurd cc

second_side : (a b : Bool) → b ≡ true → (a || b) ≡ true
second_side true b h = refl
second_side false b h = h

-- flags of both sides are those of all functions that may run
running : (d : Declared) (n : Mentioned) (above below faces : List Bool) (c : Cut) → IsCut d n above below faces c → AreRunning c (runs above below)
running d n above below faces c is number = (
  λ h. ⊎_elim (λ up. (Replay, (is.replay number).0 up)) (λ down. (System, (is.system number).0 down)) (either_side (flag above number) (flag below number) h),
  λ h. by h.0 h.1,
)
  where
    by : (side : Side) → May c side number → (flag above number || flag below number) ≡ true
    by Replay m = first_side (flag above number) (flag below number) ((is.replay number).1 m)
    by System m = second_side (flag above number) (flag below number) ((is.system number).1 m)

guard_lines_are : (xs : List LockFinding) → flat_map ended_line xs ≡ text_of (map locks.line_of xs)
guard_lines_are [] = refl
guard_lines_are (x ∷ xs) = ap (λ t. ended_line x ++ t) (guard_lines_are xs)

-- what is found of the guards, where nothing is found in the cut
pub guards_text_is : (bytes cut : List ℕ) (c : CheckedSource) (k : Known bytes cut c) (n : Mentioned) (above below faces : List Bool) (xs : List Finding) (text : List ℕ)
    → IsCut c.program n above below faces (cut_of cut k.program k.annotated) → AreFindings (cut_of cut k.program k.annotated) (map finding_of xs) → xs ≡ []
    → IsGuardsText (source_found (guarded k.program k.annotated) (runs above below)) text → FoundText bytes cut text
guards_text_is bytes cut c k n above below faces xs text is are none found =
    let mine = cut_of cut k.program k.annotated in
    subst (λ t. FoundText bytes cut t) (sym (found.lines ∙ guard_lines_are found.sorted))
    (of_lines (of_guards (record {
      program = k.program;
      annotated = k.annotated;
      says = k.says;
      accepted = no_findings mine xs are none;
      runs = runs above below;
      running = running c.program n above below faces mine is;
      are = found.are;
    })))
