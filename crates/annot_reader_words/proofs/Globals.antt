-- What is said of a global.
use Rattle.std.proofs.Common.{◌≡◌, ℕ, ℤ, pos, Option, None, Ok, Err, sym, ap, ◌∙◌}
use Rattle.std.specs.Option.{option_map}
use Rattle.c_syntax.specs.declared.declaration.Decl.{Decl as DeclNode}
use Rattle.c_syntax.specs.Nodes.{Nodes}
use Rattle.c_syntax.specs.Syntax.{Annots, Decl, Declare}
use Rattle.c_syntax.specs.Stands.{StandAnnots}
use Rattle.c_types_rules.specs.Checked.{Checked, ◌>>◌}
use Rattle.annot_reader_rules.specs.Misplaced.{bare_annots, bare_parts, bare_rest}
use Rattle.annot_reader_rules.specs.Functions.{global_notes, guards}
use Rattle.annot_reader_words.specs.declared.error.AnnotationError.{AnnotationError}
use Rattle.annot_reader_words.specs.Answers.{Passes, Tells, Unsaid}
use Rattle.annot_reader_words.proofs.Composing.{assoc, goes_on, same_error, same_tells, stops_there, tells_too}
use Rattle.annot_reader_words.specs.Shown.{Shows}
use Rattle.annot_reader_words.specs.Readings.{IsMutex, IsSame}
use Rattle.annot_reader_words.specs.Steps.{bare_around}

abbrev guards_of : Decl → Checked (Option ℕ)
guards_of (Declare from an b ps n r) = guards an None

global_is : (d : Decl) → global_notes d ≡ (bare_around d >> guards_of d)
global_is (Declare from an b ps n r) =
    sym (assoc (bare_annots an) (bare_parts ps >> bare_rest r) (guards an None) ∙ ap (λ c. bare_annots an >> c) (assoc (bare_parts ps) (bare_rest r) (guards an None)))

pub broken_around : (d : Decl) (e : AnnotationError) → Passes (bare_around d) (Err e) → Tells IsMutex (global_notes d) (Err e)
broken_around d e h = same_tells IsMutex (global_notes d) (bare_around d >> guards_of d) (Err e) (global_is d) (stops_there Unsaid IsMutex (bare_around d) (guards_of d) e h)

pub broken_word : (N : Nodes) (v : DeclNode) (d : Decl) (e : AnnotationError) → Shows N v d → Passes (bare_around d) (Ok tt) → ((an : Annots) → StandAnnots N v.annots an → Tells IsSame (guards an None) (Err e)) → Tells IsMutex (global_notes d) (Err e)
broken_word N v (Declare from an b ps n r) e s h f =
    let d = Declare from an b ps n r in
    same_tells IsMutex (global_notes d) (bare_around d >> guards an None) (Err e) (global_is d) (goes_on Unsaid IsMutex (bare_around d) (guards an None) tt (Err e) h (same_error IsSame IsMutex (guards an None) e (f an s.1)))

pub guarded : (N : Nodes) (v : DeclNode) (d : Decl) (g : Option ℕ) (z : Option ℤ) → Shows N v d → Passes (bare_around d) (Ok tt) → ((an : Annots) → StandAnnots N v.annots an → Tells IsSame (guards an None) (Ok g)) → IsMutex g z → Tells IsMutex (global_notes d) (Ok z)
guarded N v (Declare from an b ps n r) g z s h f m =
    let d = Declare from an b ps n r in
    same_tells IsMutex (global_notes d) (bare_around d >> guards an None) (Ok z) (global_is d) (goes_on Unsaid IsMutex (bare_around d) (guards an None) tt (Ok z) h (tells_too IsSame IsMutex (guards an None) g z (λ x e. m ∙ ap (option_map pos) e) (f an s.1)))
