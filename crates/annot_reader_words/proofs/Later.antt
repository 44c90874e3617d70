-- What a later declaration of a function breaks.
use Rattle.std.proofs.Common.{◌≡◌, List, Result, Ok, Err, sym, subst}
use Rattle.c_syntax.specs.declared.id.DeclId.{DeclId}
use Rattle.c_syntax.specs.declared.declaration.Annot.{Annot}
use Rattle.c_syntax.specs.declared.declaration.Part.{Part}
use Rattle.c_syntax.specs.declared.declaration.Decl.{Decl as DeclNode}
use Rattle.c_syntax.specs.Nodes.{Nodes}
use Rattle.c_syntax.specs.Syntax.{Annots, Decl, Decls, Declare, Parts, Rest}
use Rattle.c_syntax.specs.Stands.{StandAnnots, StandDecls, StandParts, StandsRest}
use Rattle.c_types_rules.specs.Checked.{◌>>◌}
use Rattle.annot_reader_rules.specs.Misplaced.{bare_parts, bare_rest}
use Rattle.annot_reader_rules.specs.Functions.{declared_later, none_again, nothing_again, own_parameters, result_parts}
use Rattle.annot_reader_words.specs.declared.error.AnnotationError.{AnnotationError}
use Rattle.annot_reader_words.specs.Answers.{Passes, Unsaid}
use Rattle.annot_reader_words.specs.Places.{AreDecls, AreParts}
use Rattle.annot_reader_words.proofs.Composing.{goes_on, stops_there}
use Rattle.annot_reader_words.specs.Shown.{IsShown, Shows}

-- what is found of the parts of a later declaration, one after another
pub record Found (N : Nodes) (v : DeclNode) (annots : List Annot) (own : List DeclId) (outer : List Part) : Type 0 where
  pub same_annots : annots ≡ v.annots
  pub own_parts : (ps : Parts) → StandParts N v.parts ps → StandDecls N own (own_parameters ps)
  pub outer_parts : (ps : Parts) → StandParts N v.parts ps → StandParts N outer (result_parts ps)

module _ (N : Nodes) (v : DeclNode) (annots : List Annot) (own : List DeclId) (outer : List Part) (f : Found N v annots own outer) where
  pub are_decls : IsShown N v → AreDecls N own
  are_decls (Declare from an b ps n r, h) = (own_parameters ps, f.own_parts ps h.3)

  pub are_parts : IsShown N v → AreParts N outer
  are_parts (Declare from an b ps n r, h) = (result_parts ps, f.outer_parts ps h.3)

  abbrev OfAnnots : Result (Unit {0}) AnnotationError → Type 0
  OfAnnots r = (an : Annots) → StandAnnots N annots an → Passes (nothing_again an) r

  abbrev OfOwn : Result (Unit {0}) AnnotationError → Type 0
  OfOwn r = (ds : Decls) → StandDecls N own ds → Passes (none_again ds) r

  abbrev OfOuter : Result (Unit {0}) AnnotationError → Type 0
  OfOuter r = (ps : Parts) → StandParts N outer ps → Passes (bare_parts ps) r

  abbrev OfRest : Result (Unit {0}) AnnotationError → Type 0
  OfRest r = (x : Rest) → StandsRest N v.rest x → Passes (bare_rest x) r

  at_annots : (an : Annots) (r : Result (Unit {0}) AnnotationError) → StandAnnots N v.annots an → OfAnnots r → Passes (nothing_again an) r
  at_annots an r s g = g an (subst (λ vs. StandAnnots N vs an) (sym f.same_annots) s)

  pub in_annots : (d : Decl) (e : AnnotationError) → Shows N v d → OfAnnots (Err e) → Passes (declared_later d) (Err e)
  in_annots (Declare from an b ps n r) e h g =
      stops_there Unsaid Unsaid (nothing_again an >> none_again (own_parameters ps) >> bare_parts (result_parts ps)) (bare_rest r) e
      (stops_there Unsaid Unsaid (nothing_again an >> none_again (own_parameters ps)) (bare_parts (result_parts ps)) e
      (stops_there Unsaid Unsaid (nothing_again an) (none_again (own_parameters ps)) e (at_annots an (Err e) h.1 g)))

  pub in_own : (d : Decl) (e : AnnotationError) → Shows N v d → OfAnnots (Ok tt) → OfOwn (Err e) → Passes (declared_later d) (Err e)
  in_own (Declare from an b ps n r) e h g o =
      stops_there Unsaid Unsaid (nothing_again an >> none_again (own_parameters ps) >> bare_parts (result_parts ps)) (bare_rest r) e
      (stops_there Unsaid Unsaid (nothing_again an >> none_again (own_parameters ps)) (bare_parts (result_parts ps)) e
      (goes_on Unsaid Unsaid (nothing_again an) (none_again (own_parameters ps)) tt (Err e) (at_annots an (Ok tt) h.1 g) (o (own_parameters ps) (f.own_parts ps h.3))))

  both : (an : Annots) (ps : Parts) → StandAnnots N v.annots an → StandParts N v.parts ps → OfAnnots (Ok tt) → OfOwn (Ok tt) → Passes (nothing_again an >> none_again (own_parameters ps)) (Ok tt)
  both an ps s t g o = goes_on Unsaid Unsaid (nothing_again an) (none_again (own_parameters ps)) tt (Ok tt) (at_annots an (Ok tt) s g) (o (own_parameters ps) (f.own_parts ps t))

  pub in_outer : (d : Decl) (e : AnnotationError) → Shows N v d → OfAnnots (Ok tt) → OfOwn (Ok tt) → OfOuter (Err e) → Passes (declared_later d) (Err e)
  in_outer (Declare from an b ps n r) e h g o p =
      stops_there Unsaid Unsaid (nothing_again an >> none_again (own_parameters ps) >> bare_parts (result_parts ps)) (bare_rest r) e
      (goes_on Unsaid Unsaid (nothing_again an >> none_again (own_parameters ps)) (bare_parts (result_parts ps)) tt (Err e) (both an ps h.1 h.3 g o) (p (result_parts ps) (f.outer_parts ps h.3)))

  pub in_rest : (d : Decl) (x : Result (Unit {0}) AnnotationError) → Shows N v d → OfAnnots (Ok tt) → OfOwn (Ok tt) → OfOuter (Ok tt) → OfRest x → Passes (declared_later d) x
  in_rest (Declare from an b ps n r) x h g o p q =
      goes_on Unsaid Unsaid (nothing_again an >> none_again (own_parameters ps) >> bare_parts (result_parts ps)) (bare_rest r) tt x
      (goes_on Unsaid Unsaid (nothing_again an >> none_again (own_parameters ps)) (bare_parts (result_parts ps)) tt (Ok tt) (both an ps h.1 h.3 g o) (p (result_parts ps) (f.outer_parts ps h.3)))
      (q r h.5)
