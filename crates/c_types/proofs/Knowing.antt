-- What is known of the specifiers of a declaration, and how it goes on.
use Rattle.std.proofs.Common.{◌≡◌, ◌||◌, Bool, true, false, List, [], ◌∷◌, Option, Some, None, Result, Ok, Err, OnOk, ℕ, refl, sym, ap, ◌∙◌, subst}
use Rattle.c_syntax.specs.declared.declaration.Decl.{Decl as DeclNode}
use Rattle.c_syntax.specs.declared.id.DeclId.{DeclId}
use Rattle.c_syntax.specs.Alike.{AreAlike, ShareSpecifiers}
use Rattle.c_syntax.specs.Nodes.{Nodes, decl_at}
use Rattle.c_syntax.specs.Stands.{StandAnnots}
use Rattle.c_syntax.specs.Syntax.{Annots, Decl, Declare}
use Rattle.c_types_model.specs.Types.{CType}
use Rattle.c_types_rules.specs.Checked.{Checked, Fine, Noted, Broken, Notes}
use Rattle.c_types_rules.specs.Environment.{Environment, Meaning, Struct}
use Rattle.c_types_rules.specs.Expressions.{annotation_types, declared_name}
use Rattle.c_types_rules.specs.Sources.{Program, at_file, function_or_global}
use Rattle.c_scopes.specs.Scopes.{Scope}
use Rattle.c_types_operators.specs.declared.error.TypeError.{TypeError}
use Rattle.c_types_operators.specs.Answers.{IsNothing}
use Rattle.c_types_environment.specs.States.{State, notes_of}
use Rattle.c_types_expressions.specs.declared.known.Specified.{Specified}
use Rattle.c_types_expressions.specs.Found.{Finds, Found}
use Rattle.c_types_expressions.specs.Specified.{IsOf, IsSpecified}
use Rattle.c_types_expressions.proofs.Specifying.{specified_on}
use Rattle.c_types.specs.declared.declarations.Declarations.{Declarations}
use Rattle.c_types.specs.Known.{AreRead, IsKnown, ReadsAnnots}
use Rattle.c_types.specs.Pieces.{typed}
use Rattle.c_types.specs.Quiet.{large_noted, quiet}
use Rattle.c_types.specs.States.{Follows, GoesOn, IsSound, program_of}
use Rattle.c_types.proofs.Adding.{Adds, Yields, declared_adds, sees_more}
use Rattle.c_types.proofs.Followed.{at_file_is, small_before}
use Rattle.c_types.proofs.Quieting.{quiet_found}
use Rattle.c_types.proofs.Wider.{Same, annotations_same, same}

-- ---- annotations that are read

abbrev only : Bool → Notes
only b = record { large = b; unevaluated = [] }

twice : (n k l : Bool) → l ≡ (n || k) → l ≡ (n || l)
twice true k l e = e
twice false k l e = refl

read_again : (k l : Bool) (c : Checked (Unit {0})) → Found {B = Unit {0}} (only k) (only l) IsNothing (quiet c) (Ok tt) → Found {B = Unit {0}} (only l) (only l) IsNothing (quiet c) (Ok tt)
read_again k l (Fine x) h = (tt, refl)
read_again k l (Noted n x) h = (tt, ap only (twice n.large k l (ap (λ (m : Notes). m.large) h.1)))
read_again k l (Broken from rule) h = absurd h

pub read_found : (N : Nodes) (i : DeclId) (e : DeclNode) (a b : State) (r : Result (Unit {0}) TypeError) → decl_at N i ≡ Some e → ((xs : Annots) → StandAnnots N e.annots xs → Finds a b IsNothing (annotation_types xs a.env) r) → ReadsAnnots N i a b r
read_found N i e a b r at h d an is s =
    let same : d ≡ e = cc in
    quiet_found (notes_of a) (notes_of b) IsNothing (annotation_types an a.env) r (h an (subst (λ (x : DeclNode). StandAnnots N x.annots an) same s))

-- once they are read they are
pub read_then : (N : Nodes) (i : DeclId) (a b : State) (r : Result (Unit {0}) TypeError) → b.env ≡ a.env → ReadsAnnots N i a b r → OnOk r (AreRead N b i)
read_then N i a b (Ok x) e h = λ d an at s.
    subst (λ E. Found {B = Unit {0}} (large_noted b) (large_noted b) IsNothing (quiet (annotation_types an E)) (Ok tt)) (sym e) (read_again a.found_large b.found_large (annotation_types an a.env) (h d an at s))
read_then N i a b (Err x) e h = tt

still : (n k l : Bool) → (k ≡ true → l ≡ true) → k ≡ (n || k) → l ≡ (n || l)
still true k l m e = m e
still false k l m e = refl

read_so : (k l : Bool) (c d : Checked (Unit {0})) → (k ≡ true → l ≡ true) → Same c d → Found {B = Unit {0}} (only k) (only k) IsNothing (quiet c) (Ok tt) → Found {B = Unit {0}} (only l) (only l) IsNothing (quiet d) (Ok tt)
read_so k l (Fine x) d m e h = subst (λ v. Found {B = Unit {0}} (only l) (only l) IsNothing (quiet v) (Ok tt)) e.so (tt, refl)
read_so k l (Noted n x) d m e h =
    subst (λ v. Found {B = Unit {0}} (only l) (only l) IsNothing (quiet v) (Ok tt)) e.so (tt, ap only (still n.large k l m (ap (λ (z : Notes). z.large) h.1)))
read_so k l (Broken from rule) d m e h = absurd h

-- they stay so where they mean the same
read_later : (N : Nodes) (i : DeclId) (a b : State) → (a.found_large ≡ true → b.found_large ≡ true) → ((an : Annots) → Same (annotation_types an a.env) (annotation_types an b.env)) → AreRead N a i → AreRead N b i
read_later N i a b large e h d an at s = read_so a.found_large b.found_large (annotation_types an a.env) (annotation_types an b.env) large (e an) (h d an at s)

large_stays : (k l : Bool) → (l ≡ false → k ≡ false) → k ≡ true → l ≡ true
large_stays k true h e = refl
large_stays k false h e = let wrong : true ≡ false = sym e ∙ h refl in absurd cc

pub read_on : (N : Nodes) (i : DeclId) (a b : State) → b.env ≡ a.env → (b.found_large ≡ false → a.found_large ≡ false) → AreRead N a i → AreRead N b i
read_on N i a b e small h =
    read_later N i a b (large_stays a.found_large b.found_large small) (λ an. subst (λ E. Same (annotation_types an a.env) (annotation_types an E)) (sym e) (same (annotation_types an a.env))) h

-- those of one are those of another
pub read_alike : (N : Nodes) (s : State) (i j : DeclId) → ShareSpecifiers N.decls i j → AreRead N s i → AreRead N s j
read_alike N s i j w h e an at stand = by (decl_at N i) refl
  where
    by : (o : Option DeclNode) → decl_at N i ≡ o → Found {B = Unit {0}} (large_noted s) (large_noted s) IsNothing (quiet (annotation_types an s.env)) (Ok tt)
    by None is = absurd (subst (λ o. AreAlike o (decl_at N j)) is w)
    by (Some d) is =
        let both : AreAlike (Some d) (Some e) = subst (AreAlike (Some d)) at (subst (λ o. AreAlike o (decl_at N j)) is w) in
        h d an is (subst (λ vs. StandAnnots N vs an) (sym both.0) stand)

-- ---- what is known

pub known_specified : (N : Nodes) (s : State) (o : Option Specified) → IsKnown N s o → IsSpecified s N o
known_specified N s None h = tt
known_specified N s (Some x) h = h.0

abbrev env_of : List (List ℕ) → List Struct → Scope Meaning → Environment
env_of tags structs names = record { tags = tags; structs = structs; scopes = names ∷ [] }

found_yields : (f g : Notes) (new : Declarations) (c : Checked Program) → Found {B = Unit {0}} f g (λ p _. program_of new ≡ p) c (Ok tt) → Yields c (program_of new)
found_yields f g new (Fine p) h = sym h.0
found_yields f g new (Noted n p) h = sym h.0
found_yields f g new (Broken from rule) h = absurd h

module _ (N : Nodes) (i : DeclId) (w new : Declarations) (sound : IsSound w) (t : CType) where
  abbrev p : Program
  p = program_of w

  abbrev q : Program
  q = program_of new

  adds : (y : Decl) → Found {B = Unit {0}} (notes_of w.env) (notes_of new.env) (λ p _. program_of new ≡ p) (typed w.env.env.tags p t y) (Ok tt) → Adds p q
  adds (Declare from an b ps n r) f = declared_adds w.env.env.tags p q from (declared_name n) t ps r (found_yields (notes_of w.env) (notes_of new.env) new (function_or_global w.env.env.tags p from (declared_name n) t ps r) f)

  means_same : Adds p q → GoesOn w new → (an : Annots) → Same (annotation_types an w.env.env) (annotation_types an new.env.env)
  means_same a goes an =
      let there : env_of w.env.env.tags p.structs q.names ≡ new.env.env =
      ap (λ tags. env_of tags p.structs q.names) (sym goes.tags) ∙ (ap (λ ss. env_of new.env.env.tags ss q.names) (sym a.structs) ∙ at_file_is new goes.sound) in
      subst (λ E. Same (annotation_types an E) (annotation_types an new.env.env)) (at_file_is w sound)
      (subst (λ F. Same (annotation_types an (at_file w.env.env.tags p)) (annotation_types an F)) there
      (annotations_same w.env.env.tags p.structs an (p.names ∷ []) (q.names ∷ []) (sees_more p q a)))

  -- it is known after a function or a global of these specifiers
  pub known_then : (o : Option Specified) (y : Decl) (r : Result (Unit {0}) TypeError) → IsOf i o → IsSpecified w.env N o → AreRead N w.env i → Follows w new (typed w.env.env.tags p t y) r → OnOk r (IsKnown N new.env o)
  known_then o y (Err e) of known read f = tt
  known_then None y (Ok x) of known read f = absurd of
  known_then (Some s) y (Ok x) of known read f =
      let goes : GoesOn w new = f.kept in
      let small = small_before (notes_of w.env) (notes_of new.env) (λ p _. program_of new ≡ p) (typed w.env.env.tags p t y) tt f.agrees in
      let later : AreRead N new.env i = read_later N i w.env new.env (large_stays w.env.found_large new.env.found_large small) (means_same (adds y f.agrees) goes) read in
      (specified_on w.env new.env N (Some s) goes.numbers goes.tags known, subst (AreRead N new.env) (sym of) later)

pub nothing_known : (r : Result (Unit {0}) TypeError) → OnOk r (Unit {0})
nothing_known (Ok x) = tt
nothing_known (Err e) = tt
