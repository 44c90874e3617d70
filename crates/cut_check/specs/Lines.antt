-- What is found in a right source, as lines.
use Rattle.std.specs.Prelude.{◌≡◌, ◌≢◌, ◌↔◌, ℕ, Bool, true, List, [], ◌++◌, map, codes}
use Rattle.std.specs.List.{flat_map}
use Rattle.marks.specs.declared.side.Side.{Side}
use Rattle.c_types_rules.specs.Sources.{Program}
use Rattle.annot_reader_rules.specs.Notes.{Annotated}
use Rattle.cut_graph_rules.specs.Findings.{AreFindings, Cut, Finding, IsAccepted, May, line_of}
use Rattle.lockset_check_rules.specs.declared.finding.LockFinding.{LockFinding}
use Rattle.lockset_check_rules.specs.Annotations.{guarded}
use Rattle.lockset_check_rules.specs.Lines as locks
use Rattle.lockset_check_rules.specs.Order.{AreSorted}
use Rattle.lockset_check_rules.specs.Sources.{source_found}
use Rattle.cut_check.specs.Sources.{Says, cut_of}

-- the source is right, and these are the findings of its cut
pub record FindingsOf (bytes cut : List ℕ) (xs : List Finding) : Type 0 where
  pub program : Program
  pub annotated : Annotated
  pub says : Says bytes cut program annotated
  pub are : AreFindings (cut_of cut program annotated) xs

-- exactly those functions that may run above the cut or below it
abbrev pub AreRunning : Cut → (runs : ℕ → Bool) → Type 0
AreRunning c runs = (number : ℕ) → (runs number ≡ true) ↔ ((side : Side) × May c side number)

-- the source is right, its cut is accepted, and these are the findings of its guards, by offset and then by text
pub record LockFindingsOf (bytes cut : List ℕ) (xs : List LockFinding) : Type 0 where
  pub program : Program
  pub annotated : Annotated
  pub says : Says bytes cut program annotated
  pub accepted : IsAccepted (cut_of cut program annotated)
  pub runs : ℕ → Bool
  pub running : AreRunning (cut_of cut program annotated) runs
  pub are : AreSorted (source_found (guarded program annotated) runs) xs

-- the lines of all that is found in a right source: in its cut, or else of its guards; none where nothing is
pub data LinesOf (bytes cut : List ℕ) : List (List ℕ) → Type 0 where
  of_cut : {xs : List Finding} → FindingsOf bytes cut xs → xs ≢ [] → LinesOf bytes cut (map line_of xs)
  of_guards : {xs : List LockFinding} → LockFindingsOf bytes cut xs →
      LinesOf bytes cut (map locks.line_of xs)

-- lines with their ends
abbrev pub text_of : List (List ℕ) → List ℕ
text_of lines = flat_map (λ line. line ++ codes "\n") lines

-- the text of all that is found
pub data FoundText (bytes cut : List ℕ) : List ℕ → Type 0 where
  of_lines : {lines : List (List ℕ)} → LinesOf bytes cut lines → FoundText bytes cut (text_of lines)
