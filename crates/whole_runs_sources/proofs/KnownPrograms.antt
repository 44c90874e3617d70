-- The functions of a typed source name globals that it declares and strings that stand in it.
use Rattle.std.proofs.Common.{◌≡◌, ◌⊎◌, inl, inr, ℕ, zero, suc, ◌+◌, ◌-◌, ◌<◌, Bool, true, false, cond, List, [], ◌∷◌, ◌++◌, length, length-append, Option, Some, None, sym, ap, ◌∙◌, subst, arith, ⊎_elim}
use Rattle.std.specs.Prelude.{slice_get, nat_le, not, is_some}
use Rattle.std.proofs.lemmas.Option.{same_Some}
use Rattle.source_limits.specs.Limits.{greatest_object}
use Rattle.c_syntax.specs.declared.declaration.Base.{Base}
use Rattle.c_syntax.specs.declared.declaration.Base.TheVariants as bases
use Rattle.c_syntax.specs.Syntax.{Decl, Decls, Annots, Parts, Rest, Declare, NoDecls, MoreDecls, NoRest, Initial, Body, Members}
use Rattle.c_builtins.specs.Table.{first_source_function}
use Rattle.c_scopes.specs.Scopes.{same_name, meaning_in}
use Rattle.c_types_model.specs.Layouts.{struct_of}
use Rattle.c_types_model.specs.Types.{CType, Void, Integer, PointerTo, ArrayOf, StructOf, UndefinedStruct, FunctionOf}
use Rattle.c_types_model.specs.declared.extent.Extent.{Extent}
use Rattle.c_types_rules.specs.Checked.{Checked, Fine as Right, Noted, Broken, heard, keep, small, ◌>>=◌, ◌>>◌}
use Rattle.c_types_rules.specs.Expressions.{annotation_types, complete, declared_name, declared_type}
use Rattle.c_types_rules.specs.Environment.{Meaning, FunctionNamed, GlobalNamed, LocalNamed, declarable, extents, is_reserved, place_in}
use Rattle.c_types_rules.specs.Limits.{Which, Typed, decided, first_limit, outcome, unless}
use Rattle.c_types_rules.specs.Sources.{Function, Global, Program, at_file, body_at, body_of, declaration, declarations, declared_again, extents_of, function, function_declared, function_or_global, function_rest, global, global_value, has_main, is_main, is_next, members_from, nothing, program, struct_defined, tags_of, with_body}
use Rattle.c_types_rules.specs.TypedTree as typed
use Rattle.c_types_rules.specs.TypeTests.{same_type}
use Rattle.c_lower_laws.proofs.Held.{Holds, holds_then, holds_on, holds_after}
use Rattle.c_lower.specs.Named.{statement_names}
use Rattle.whole_runs_sources.proofs.Strings.{HasDecl, HasDecls, HasRest}
use Rattle.whole_runs_sources.proofs.KnownExpressions.{AreKnown, NamesAre, more_known}
use Rattle.whole_runs_sources.proofs.KnownBodies.{body_known, or_none}

more_has : {A : Type 0} (xs : List A) (y x : A) (i : ℕ) → slice_get (xs ++ y ∷ []) i ≡ Some x → (slice_get xs i ≡ Some x) ⊎ (y ≡ x)
more_has [] y x zero e = inr (same_Some y x e)
more_has [] y x (suc i) e = absurd cc
more_has (z ∷ xs) y x zero e = inl e
more_has (z ∷ xs) y x (suc i) e = more_has xs y x i e

-- a function that gets its body
given_has : (fs : List Function) (place : ℕ) (b : typed.Body) (i : ℕ) (x : Function) → slice_get (with_body fs place b) i ≡ Some x → (slice_get fs i ≡ Some x) ⊎ (x.body ≡ Some b)
given_has [] place b i x e = absurd cc
given_has (f ∷ fs) zero b zero x e = inr (sym (ap (λ (g : Function). g.body) (same_Some (record f { body = Some b }) x e)))
given_has (f ∷ fs) zero b (suc i) x e = inl e
given_has (f ∷ fs) (suc place) b zero x e = inl e
given_has (f ∷ fs) (suc place) b (suc i) x e = given_has fs place b i x e

abbrev bare : List ℕ → CType → Function
bare name t = record { name = name; type = t; body = None }

abbrev with_function : Program → List ℕ → CType → Program
with_function p name t = record p { functions = p.functions ++ bare name t ∷ []; names = (name, FunctionNamed (length p.functions + first_source_function) t) ∷ p.names }

no_function : (number : ℕ) (t : CType) (place : ℕ) (u : CType) → FunctionNamed number t ≡ GlobalNamed place u → ⊥
no_function number t place u e = cc

one_global : (a : ℕ) (t : CType) (b : ℕ) (u : CType) → GlobalNamed a t ≡ GlobalNamed b u → a ≡ b
one_global a t b u e = cc

module _ (T : List ℕ) where
  abbrev Known : ℕ → typed.Body → Type 0
  Known globals b = AreKnown globals (length T) (statement_names T b.statements)

  -- bodies name what is declared so far
  pub record Good (p : Program) : Type 0 where
    pub bodies : (i : ℕ) (f : Function) (b : typed.Body) → slice_get p.functions i ≡ Some f → f.body ≡ Some b → Known (length p.globals) b
    pub named : (name : List ℕ) (place : ℕ) (t : CType) → meaning_in name p.names ≡ Some (GlobalNamed place t) → place < length p.globals

  abbrev Numbered : ℕ × Program → Type 0
  Numbered a = Good a.1

  with_function_good : (p : Program) (name : List ℕ) (t : CType) → Good p → Good (with_function p name t)
  with_function_good p name t g = record {
    bodies = λ i f b e eb.
        ⊎_elim (λ old. g.bodies i f b old eb) (λ (new : bare name t ≡ f). let none : (bare name t).body ≡ Some b = ap (λ (h : Function). h.body) new ∙ eb in absurd cc) (more_has p.functions (bare name t) f i e);
    named = λ other place u e. by (same_name other name) other place u e;
  }
    where
      by : (b : Bool) (other : List ℕ) (place : ℕ) (u : CType) → cond b (Some (FunctionNamed (length p.functions + first_source_function) t)) (meaning_in other p.names) ≡ Some (GlobalNamed place u) → place < length p.globals
      by true other place u e = absurd (no_function (length p.functions + first_source_function) t place u (same_Some (FunctionNamed (length p.functions + first_source_function) t) (GlobalNamed place u) e))
      by false other place u e = g.named other place u e

  again_good : (p : Program) (from : ℕ) (t : CType) (o : Option Meaning) (name : List ℕ) → Good p → Holds Numbered (declared_again p from t o name)
  again_good p from t (Some (FunctionNamed number u)) name g = holds_after Numbered (keep from 1 (same_type t u)) (Right (number, p)) g
  again_good p from t (Some (GlobalNamed place u)) name g = tt
  again_good p from t (Some (LocalNamed place u)) name g = tt
  again_good p from t None name g = with_function_good p name t g

  declared_good : (p : Program) (from : ℕ) (t : CType) (name : List ℕ) → Good p → Holds Numbered (function_declared p from t name)
  declared_good p from t name g = holds_after Numbered (keep from 19 (not (is_reserved name))) (declared_again p from t (meaning_in name p.names) name) (again_good p from t (meaning_in name p.names) name g)

  -- ---- bodies of functions

  names_at_file : (tags : List (List ℕ)) (p : Program) → Good p → NamesAre (length p.globals) T (at_file tags p)
  names_at_file tags p g name place t e = g.named name place t (sym (or_none (meaning_in name p.names)) ∙ e)

  defined_good : (p : Program) (place : ℕ) (b : typed.Body) → Good p → Known (length p.globals) b → Good (record p { functions = with_body p.functions place b })
  defined_good p place b g h = record {
    bodies = λ i f c e ec. ⊎_elim (λ old. g.bodies i f c old ec) (λ (new : f.body ≡ Some b). subst (Known (length p.globals)) (same_Some b c (sym new ∙ ec)) h) (given_has p.functions place b i f e);
    named = g.named;
  }

  rest_good : (tags : List (List ℕ)) (p : Program) (from place : ℕ) (name : List ℕ) (t : CType) (ps : Parts) (r : Rest) → HasRest T r → Good p → Holds Good (function_rest tags p from place name t ps r)
  rest_good tags p from place name t ps NoRest x g = g
  rest_good tags p from place name t ps (Initial v) x g = tt
  rest_good tags p from place name t ps (Body s) x g =
      let given : Checked Program = body_of (at_file tags p) t ps s >>= (λ b. Right (record p { functions = with_body p.functions place b })) in
      holds_after Good (keep from 21 (not (is_some (body_at p.functions place)))) (keep from 18 (is_main name t) >> given) (holds_after Good (keep from 18 (is_main name t)) given
      (holds_then (Known (length p.globals)) Good (body_of (at_file tags p) t ps s) (λ b. Right (record p { functions = with_body p.functions place b }))
      (body_known (length p.globals) T (at_file tags p) t ps s (names_at_file tags p g) x) (λ b h. defined_good p place b g h)))
  rest_good tags p from place name t ps (Members ds) x g = tt

  function_good : (tags : List (List ℕ)) (p : Program) (from : ℕ) (name : List ℕ) (t : CType) (ps : Parts) (r : Rest) → HasRest T r → Good p → Holds Good (function tags p from name t ps r)
  function_good tags p from name t ps r x g =
      holds_then Numbered Good (function_declared p from t name) (λ a. function_rest tags a.1 from (a.0 - first_source_function) name t ps r) (declared_good p from t name g)
      (λ a h. rest_good tags a.1 from (a.0 - first_source_function) name t ps r x h)

  -- ---- other declarations

  global_named_good : (p : Program) (name : List ℕ) (t : CType) (v : Global) → Good p → Good (record p { names = (name, GlobalNamed (length p.globals) t) ∷ p.names; globals = p.globals ++ v ∷ [] })
  global_named_good p name t v g = record {
    bodies = λ i f b e eb. more_known (length p.globals) (length (p.globals ++ v ∷ [])) (length T) (statement_names T b.statements) (omega (arith, many)) (g.bodies i f b e eb);
    named = λ other place u e. by (same_name other name) other place u e;
  }
    where
      many : length (p.globals ++ v ∷ []) ≡ length p.globals + 1
      many = length-append p.globals (v ∷ [])

      by : (b : Bool) (other : List ℕ) (place : ℕ) (u : CType) → cond b (Some (GlobalNamed (length p.globals) t)) (meaning_in other p.names) ≡ Some (GlobalNamed place u) → place < length (p.globals ++ v ∷ [])
      by true other place u e = let same = one_global (length p.globals) t place u (same_Some (GlobalNamed (length p.globals) t) (GlobalNamed place u) e) in omega (arith, same, many)
      by false other place u e = let low = g.named other place u e in omega (arith, low, many)

  global_good : (tags : List (List ℕ)) (p : Program) (from : ℕ) (name : List ℕ) (t : CType) (r : Rest) → Good p → Holds Good (global tags p from name t r)
  global_good tags p from name t r g =
      holds_after Good (complete (extents (at_file tags p)) from t) _ (holds_after Good (declarable (at_file tags p) from name) _
      (holds_on Good (heard (global_value tags (record p { names = (name, GlobalNamed (length p.globals) t) ∷ p.names }) from t r)) _
      (λ x. global_named_good p name t (record { name = name; type = t; value = x.0; unevaluated = x.1 }) g)))

  struct_good : (tags : List (List ℕ)) (p : Program) (from : ℕ) (tag : List ℕ) (ds : Decls) → Good p → Holds Good (struct_defined tags p from tag ds)
  struct_good tags p from tag ds g =
      let extent : List (List ℕ × CType) → Extent = λ ms. struct_of (extents_of (extents (at_file tags p)) ms) in
      holds_after Good (keep from 19 (not (is_reserved tag))) _ (holds_after Good (keep from 1 (is_next (length p.structs) (place_in tag tags))) _
      (holds_on Good (members_from (at_file tags p) [] ds) _
      (λ ms. holds_after Good (small (nat_le (extent ms).size greatest_object)) (Right (record p { structs = p.structs ++ record { members = ms; extent = extent ms } ∷ [] }))
      (record { bodies = g.bodies; named = g.named }))))

  either_good : (tags : List (List ℕ)) (p : Program) (from : ℕ) (name : List ℕ) (t : CType) (ps : Parts) (r : Rest) → HasRest T r → Good p → Holds Good (function_or_global tags p from name t ps r)
  either_good tags p from name (FunctionOf t ts) ps r x g = function_good tags p from name (FunctionOf t ts) ps r x g
  either_good tags p from name Void ps r x g = global_good tags p from name Void r g
  either_good tags p from name (Integer k) ps r x g = global_good tags p from name (Integer k) r g
  either_good tags p from name (PointerTo t) ps r x g = global_good tags p from name (PointerTo t) r g
  either_good tags p from name (ArrayOf n t) ps r x g = global_good tags p from name (ArrayOf n t) r g
  either_good tags p from name (StructOf n) ps r x g = global_good tags p from name (StructOf n) r g
  either_good tags p from name (UndefinedStruct tag) ps r x g = global_good tags p from name (UndefinedStruct tag) r g

  -- what is declared by a declarator
  abbrev declares : List (List ℕ) → Program → (from : ℕ) → Annots → Base → Parts → Option (List ℕ) → Rest → Checked Program
  declares tags p from an b ps n r =
      annotation_types an (at_file tags p) >> (declared_type (Declare from an b ps n r) (at_file tags p) >>= (λ t. function_or_global tags p from (declared_name n) t ps r))

  declares_good : (tags : List (List ℕ)) (p : Program) (from : ℕ) (an : Annots) (b : Base) (ps : Parts) (n : Option (List ℕ)) (r : Rest) → HasRest T r → Good p → Holds Good (declares tags p from an b ps n r)
  declares_good tags p from an b ps n r x g =
      holds_after Good (annotation_types an (at_file tags p)) (declared_type (Declare from an b ps n r) (at_file tags p) >>= (λ t. function_or_global tags p from (declared_name n) t ps r))
      (holds_on Good (declared_type (Declare from an b ps n r) (at_file tags p)) (λ t. function_or_global tags p from (declared_name n) t ps r) (λ t. either_good tags p from (declared_name n) t ps r x g))

  declaration_good : (tags : List (List ℕ)) (p : Program) (d : Decl) → HasDecl T d → Good p → Holds Good (declaration tags p d)
  declaration_good tags p (Declare from an (bases.Struct tag) ps n (Members ds)) x g = struct_good tags p from tag ds g
  declaration_good tags p (Declare from an (bases.Struct tag) ps n NoRest) x g = declares_good tags p from an (bases.Struct tag) ps n NoRest x.2 g
  declaration_good tags p (Declare from an (bases.Struct tag) ps n (Initial v)) x g = declares_good tags p from an (bases.Struct tag) ps n (Initial v) x.2 g
  declaration_good tags p (Declare from an (bases.Struct tag) ps n (Body s)) x g = declares_good tags p from an (bases.Struct tag) ps n (Body s) x.2 g
  declaration_good tags p (Declare from an bases.Void ps n r) x g = declares_good tags p from an bases.Void ps n r x.2 g
  declaration_good tags p (Declare from an (bases.Int bytes signed) ps n r) x g = declares_good tags p from an (bases.Int bytes signed) ps n r x.2 g

  declarations_good : (tags : List (List ℕ)) (ds : Decls) (p : Program) → HasDecls T ds → Good p → Holds Good (declarations tags p ds)
  declarations_good tags NoDecls p x g = g
  declarations_good tags (MoreDecls d ds) p x g = holds_then Good Good (declaration tags p d) (λ q. declarations tags q ds) (declaration_good tags p d x.0 g) (λ q h. declarations_good tags ds q x.1 h)

  -- ---- sources

  nothing_good : Good nothing
  nothing_good = record { bodies = λ i f b e eb. absurd (no_one i f e); named = λ name place t e. absurd (no_name name place t e) }
    where
      no_one : (i : ℕ) (f : Function) → slice_get {X = Function} [] i ≡ Some f → ⊥
      no_one i f e = cc

      no_name : (name : List ℕ) (place : ℕ) (t : CType) → meaning_in {V = Meaning} name [] ≡ Some (GlobalNamed place t) → ⊥
      no_name name place t e = cc

  source_good : (ds : Decls) → HasDecls T ds → Holds Good (program ds)
  source_good ds x = holds_then Good Good (declarations (tags_of ds) nothing ds) _ (declarations_good (tags_of ds) ds nothing x nothing_good) (λ p g. holds_after Good (keep 0 18 (has_main p.functions)) (Right p) g)

  unless_typed : (q p : Program) (w : Option Which) → Good q → unless q w ≡ Typed p → Good p
  unless_typed q p None g e = let is : q ≡ p = cc in subst Good is g
  unless_typed q p (Some w) g e = absurd cc

  decided_good : (c : Checked Program) (p : Program) → Holds Good c → decided c ≡ Typed p → Good p
  decided_good (Right q) p g e = unless_typed q p (first_limit true q) g e
  decided_good (Noted n q) p g e = unless_typed q p (first_limit (not n.large) q) g e
  decided_good (Broken from rule) p g e = absurd cc

  pub typed_good : (ds : Decls) (p : Program) → HasDecls T ds → outcome ds ≡ Typed p → Good p
  typed_good ds p x e = decided_good (program ds) p (source_good ds x) e
