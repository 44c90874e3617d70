-- What the first declaration of a function says of it.
use Rattle.std.proofs.Common.{◌≡◌, ℕ, zero, suc, ◌<◌, ◌||◌, List, [], ◌∷◌, length, get_or, Vec, Global, Result, Ok, Err, sym, ap, ◌∙◌, subst, arith}
use Rattle.c_syntax.specs.declared.id.DeclId.{DeclId}
use Rattle.c_syntax.specs.declared.declaration.Annot.{Annot}
use Rattle.c_syntax.specs.declared.declaration.Decl.{Decl as DeclNode}
use Rattle.c_syntax.specs.declared.declaration.Item.{Item}
use Rattle.c_syntax.specs.Nodes.{Nodes}
use Rattle.c_syntax.specs.Syntax.{Items, NoItems, MoreItems, Annots, Annotate, NoAnnots, MoreAnnots, Decl, Decls, Declare, Parts, Params, NoParts, Pointer, Array}
use Rattle.c_syntax.specs.Stands.{StandAnnots, StandDecls, StandItems, StandParts, StandsDecl, StandsItem}
use Rattle.c_syntax_laws.specs.Numbers.{FitsAnnots, FitsDecls, FitsItems, FitsParts}
use Rattle.c_types_model.specs.Types.{CType, CTypes}
use Rattle.c_types_rules.specs.Checked.{Checked, Fine, keep, ◌>>=◌, ◌>>◌}
use Rattle.c_types_rules.specs.Environment.{Environment, inner}
use Rattle.annot_reader_rules.specs.Misplaced.{bare_annots, bare_parts, bare_rest}
use Rattle.annot_reader_rules.specs.Functions.{FunctionKind, all_noted, all_parameters, function_notes, is_empty, no_holds, nothing, own_parameters, result_parts, within}
use Rattle.annot_reader_rules.specs.Notes.{Notes, Parameter}
use Rattle.annot_reader_rules.specs.Regions.{Signature}
use Rattle.annot_reader_words.specs.declared.error.AnnotationError.{AnnotationError}
use Rattle.annot_reader_words.specs.Answers.{Passes, Tells, Unsaid}
use Rattle.annot_reader_words.proofs.Composing.{assoc, follows, goes_on, same_tells, stops, stops_there}
use Rattle.annot_reader_words.specs.declared.notes.Param.{Param}
use Rattle.annot_reader_words.specs.Shown.{IsDecl, Shows}
use Rattle.annot_reader_words.proofs.Folding.{same_after}
use Rattle.annot_reader_functions.specs.Rules.{IsTypeName}
use Rattle.annot_reader_functions.specs.Sizing.{IsItem}
use Rattle.annot_reader_functions.specs.declared.notes.FunctionNotes.{FunctionNotes}
use Rattle.annot_reader_functions.specs.declared.said.Said.{Said}
use Rattle.annot_reader_functions.specs.First.{bare_outside, heading, signature_with}
use Rattle.annot_reader_functions.specs.Parameters.{AreAnnots, AreDecls, AreItems, AreRead}
use Rattle.annot_reader_functions.specs.Sayings.{AreSaid, IsNoted, IsSaid}
use Rattle.annot_reader_functions.proofs.Listing.{AreIn}
use Rattle.annot_reader_functions.proofs.Steps.{after_assoc, bind_assoc}

-- the declared parameters
abbrev pub own_of : Decl → Decls
own_of (Declare from an b ps n r) = own_parameters ps

abbrev pub rest_of : Environment → Signature → (own : Decls) → CTypes → Notes → Checked Notes
rest_of env s own ts m = all_parameters own (within s (inner env)) 0 ts >>= λ params. Fine (record m { params = params })

-- in three steps
pub function_is : (env : Environment) (k : FunctionKind) (d : Decl) (t : CType) (ts : CTypes) →
    function_notes env k d t ts ≡ (bare_outside d >> (heading (signature_with env (own_of d) t ts) k d >>= rest_of env (signature_with env (own_of d) t ts) (own_of d) ts))
function_is env k (Declare from an b ps n r) t ts =
    let s = signature_with env (own_parameters ps) t ts in
    let g = rest_of env s (own_parameters ps) ts in
    let test : Notes → Checked (Unit {0}) = λ m. keep from 8 (no_holds m.holds || is_empty m.cuts) in
    let one : Notes → Checked Notes = λ m. test m >> Fine m in
    let h = all_noted an s k nothing >>= λ m. (test m >> g m) in
    let in_two : (heading s k (Declare from an b ps n r) >>= g) ≡ h = bind_assoc (all_noted an s k nothing) one g ∙ same_after (all_noted an s k nothing) (λ m. one m >>= g) (λ m. test m >> g m) (λ m. after_assoc (test m) (Fine m) g) in
    sym (ap (λ c. bare_outside (Declare from an b ps n r) >> c) in_two
    ∙ (assoc (bare_annots an) (bare_parts (result_parts ps) >> bare_rest r) h ∙ ap (λ c. bare_annots an >> c) (assoc (bare_parts (result_parts ps)) (bare_rest r) h)))

module _ (cut : List ℕ) (env : Environment) (k : FunctionKind) (d : Decl) (t : CType) (ts : CTypes) where
  abbrev pub S : Signature
  S = signature_with env (own_of d) t ts

  abbrev Answer : Type 0
  Answer = Result FunctionNotes AnnotationError

  abbrev pub OfFunction : Answer → Type 0
  OfFunction r = Tells (IsNoted cut) (function_notes env k d t ts) r

  pub in_steps : (r : Answer) → Tells (IsNoted cut) (bare_outside d >> (heading S k d >>= rest_of env S (own_of d) ts)) r → OfFunction r
  in_steps r h = same_tells (IsNoted cut) (function_notes env k d t ts) _ r (function_is env k d t ts) h

  pub breaks_outside : (e : AnnotationError) → Passes (bare_outside d) (Err e) → OfFunction (Err e)
  breaks_outside e h = in_steps (Err e) (stops_there Unsaid (IsNoted cut) (bare_outside d) _ e h)

  pub breaks_heading : (e : AnnotationError) → Passes (bare_outside d) (Ok tt) → Tells (AreSaid cut) (heading S k d) (Err e) → OfFunction (Err e)
  breaks_heading e h l = in_steps (Err e) (goes_on Unsaid (IsNoted cut) (bare_outside d) _ tt (Err e) h (stops (AreSaid cut) (IsNoted cut) (heading S k d) _ e l))

  abbrev pub OfParameters : Result (Vec Param Global) AnnotationError → Type 0
  OfParameters r = Tells AreIn (all_parameters (own_of d) (within S (inner env)) 0 ts) r

  pub breaks_parameters : (said : Said) (e : AnnotationError) → Passes (bare_outside d) (Ok tt) → Tells (AreSaid cut) (heading S k d) (Ok said) → OfParameters (Err e) → OfFunction (Err e)
  breaks_parameters said e h l m =
      in_steps (Err e) (goes_on Unsaid (IsNoted cut) (bare_outside d) _ tt (Err e) h
      (follows (AreSaid cut) (IsNoted cut) (heading S k d) (rest_of env S (own_of d) ts) said (Err e) l (λ n i.
      stops AreIn (IsNoted cut) (all_parameters (own_of d) (within S (inner env)) 0 ts) _ e m)))

  pub function_tells : (said : Said) (params : Vec Param Global) (v : FunctionNotes) → Passes (bare_outside d) (Ok tt) → Tells (AreSaid cut) (heading S k d) (Ok said) → OfParameters (Ok params) →
      ((n : Notes) (ps : List Parameter) → IsSaid cut said n → AreRead ps params.items → IsNoted cut (record n { params = ps }) v) → OfFunction (Ok v)
  function_tells said params v h l m f =
      in_steps (Ok v) (goes_on Unsaid (IsNoted cut) (bare_outside d) _ tt (Ok v) h
      (follows (AreSaid cut) (IsNoted cut) (heading S k d) (rest_of env S (own_of d) ts) said (Ok v) l (λ n i.
      follows AreIn (IsNoted cut) (all_parameters (own_of d) (within S (inner env)) 0 ts) (λ ps. Fine (record n { params = ps })) params (Ok v) m (λ ps j. f n ps i j))))

-- ---- what the parts of a declaration are

pub is_decl : (N : Nodes) (i : DeclId) → IsTypeName N i → IsDecl N i
is_decl N i (d, h, f) = (d, h)

own_fits : (ps : Parts) → FitsParts ps → FitsDecls (own_parameters ps)
own_fits NoParts f = tt
own_fits (Pointer from ps) f = own_fits ps f
own_fits (Array from x ps) f = own_fits ps f.1
own_fits (Params from ds NoParts) f = f.0
own_fits (Params from ds (Pointer g ps)) f = own_fits (Pointer g ps) f.1
own_fits (Params from ds (Array g x ps)) f = own_fits (Array g x ps) f.1
own_fits (Params from ds (Params g es ps)) f = own_fits (Params g es ps) f.1

pub own_decls : (N : Nodes) (i : DeclId) (v : DeclNode) (own : List DeclId) → IsTypeName N i → ((d : Decl) → StandsDecl N i d → Shows N v d) → ((ps : Parts) → StandParts N v.parts ps → StandDecls N own (own_parameters ps)) → AreDecls N own
own_decls N i v own (Declare from an b ps n r, h, f) s o = (own_parameters ps, o ps (s (Declare from an b ps n r) h).3, own_fits ps f.1)

pub own_stand : (N : Nodes) (v : DeclNode) (own : List DeclId) (d : Decl) → Shows N v d → ((ps : Parts) → StandParts N v.parts ps → StandDecls N own (own_parameters ps)) → StandDecls N own (own_of d)
own_stand N v own (Declare from an b ps n r) s o = o ps s.3

pub own_annots : (N : Nodes) (i : DeclId) (v : DeclNode) → IsTypeName N i → ((d : Decl) → StandsDecl N i d → Shows N v d) → AreAnnots N v.annots
own_annots N i v (Declare from an b ps n r, h, f) s = (an, (s (Declare from an b ps n r) h).1, f.0)

items_in : (N : Nodes) (vs : List Annot) (an : Annots) (k : ℕ) (d : Annot) → StandAnnots N vs an → FitsAnnots an → k < length vs → AreItems N (get_or vs k d).items
items_in N [] an k d h f l = absurd (omega arith)
items_in N (v ∷ vs) NoAnnots k d h f l = absurd cc
items_in N (v ∷ vs) (MoreAnnots (Annotate from word is) xs) zero d (w, ws, e, p, q) f l = let one : w ≡ v = cc in (is, subst (λ (z : Annot). StandItems N z.items is) one p.2, f.0)
items_in N (v ∷ vs) (MoreAnnots (Annotate from word is) xs) (suc k) d (w, ws, e, p, q) f l = let rest : ws ≡ vs = cc in items_in N vs xs k d (subst (λ zs. StandAnnots N zs xs) rest q) f.1 (omega arith)

pub items_at : (N : Nodes) (vs : List Annot) (k : ℕ) (d : Annot) → AreAnnots N vs → k < length vs → AreItems N (get_or vs k d).items
items_at N vs k d (an, h, f) l = items_in N vs an k d h f l

item_in : (N : Nodes) (vs : List Item) (is : Items) (k : ℕ) (d : Item) → StandItems N vs is → FitsItems is → k < length vs → IsItem N (get_or vs k d)
item_in N [] is k d h f l = absurd (omega arith)
item_in N (v ∷ vs) NoItems k d h f l = absurd cc
item_in N (v ∷ vs) (MoreItems x xs) zero d (w, ws, e, p, q) f l = let one : w ≡ v = cc in (x, subst (λ (z : Item). StandsItem N z x) one p, f.0)
item_in N (v ∷ vs) (MoreItems x xs) (suc k) d (w, ws, e, p, q) f l = let rest : ws ≡ vs = cc in item_in N vs xs k d (subst (λ zs. StandItems N zs xs) rest q) f.1 (omega arith)

pub item_at : (N : Nodes) (vs : List Item) (k : ℕ) (d : Item) → AreItems N vs → k < length vs → IsItem N (get_or vs k d)
item_at N vs k d (is, h, f) l = item_in N vs is k d h f l
