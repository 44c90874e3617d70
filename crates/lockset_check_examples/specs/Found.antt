-- What is found in small sources, each once and in order.
use Rattle.std.specs.Prelude.{ℕ, Bool, true, if◌then◌else◌, List, [], ◌∷◌, Option, Some, None}
use Rattle.c_syntax.specs.Syntax.{Decl, Decls}
use Rattle.c_types_rules.specs.Checked.{Checked, Fine, Noted, Broken}
use Rattle.c_types_rules.specs.Sources.{Program}
use Rattle.c_types_rules.specs.Limits.{Outcome, outcome}
use Rattle.c_types_rules.specs.Limits as limits
use Rattle.annot_reader_rules.specs.Notes.{Annotated}
use Rattle.annot_reader_rules.specs.Cuts.{annotations}
use Rattle.lockset_check_examples.specs.Pieces.{source}
use Rattle.lockset_check_rules.specs.declared.finding.LockFinding.{LockFinding}
use Rattle.lockset_check_rules.specs.Annotations.{guarded}
use Rattle.lockset_check_rules.specs.Sources.{source_found}
use Rattle.lockset_check_rules.specs.Order.{comes_before}

-- a finding at its place among others, where it isn't there
abbrev placed : LockFinding → List LockFinding → List LockFinding
placed f [] = f ∷ []
placed f (g ∷ gs) =
    if comes_before f g then f ∷ (g ∷ gs)
    else if comes_before g f then g ∷ placed f gs
    else g ∷ gs

abbrev in_order : List LockFinding → List LockFinding
in_order [] = []
in_order (f ∷ fs) = placed f (in_order fs)

abbrev by_annotations : (may_run : ℕ → Bool) → Program → Checked Annotated → Option (List LockFinding)
by_annotations may_run p (Fine a) = Some (in_order (source_found (guarded p a) may_run))
by_annotations may_run p (Noted n a) = Some (in_order (source_found (guarded p a) may_run))
by_annotations may_run p (Broken from rule) = None

abbrev by_outcome : (may_run : ℕ → Bool) → Decls → Outcome → Option (List LockFinding)
by_outcome may_run ds (limits.Typed p) = by_annotations may_run p (annotations ds p)
by_outcome may_run ds (limits.Rule from rule) = None
by_outcome may_run ds (limits.Limit which) = None

-- what is found where these functions may run; None of a source that breaks a rule of types or annotations
abbrev pub found_where : (may_run : ℕ → Bool) → List Decl → Option (List LockFinding)
found_where may_run ds = by_outcome may_run (source ds) (outcome (source ds))

-- the same where every function may run
abbrev pub found : List Decl → Option (List LockFinding)
found ds = found_where (λ number. true) ds
