-- Functions: declared, declared again, and defined.
use Rattle.std.proofs.Common.{◌≡◌, ◌↔◌, IsTrue, ℕ, zero, suc, ◌+◌, ◌-◌, ◌<◌, ◌≤◌, Bool, true, false, not, ◌||◌, ◌&&◌, ◌==◌, get_or, slice_set, is_some, List, [], ◌∷◌, ◌++◌, length, map, Option, Some, None, Result, Ok, Err, refl, sym, ap, ◌∙◌, subst, arith}
use Rattle.std.proofs.lemmas.List.{length-map}
use Rattle.std.specs.Option.{option_map}
use Rattle.std.specs.List.{All}
use Rattle.c_builtins.specs.Table.{first_source_function}
use Rattle.c_scopes.specs.Scopes.{meaning_in, same_name}
use Rattle.c_syntax.specs.declared.id.DeclId.{DeclId}
use Rattle.c_syntax.specs.declared.id.StmtId.{StmtId}
use Rattle.c_syntax.specs.declared.declaration.Base.{Base}
use Rattle.c_syntax.specs.declared.declaration.Decl.{Decl as DeclNode}
use Rattle.c_syntax.specs.declared.declaration.Rest.TheVariants as rests
use Rattle.c_syntax.specs.declared.declaration.Value.{Value as Given}
use Rattle.c_syntax.specs.Nodes.{Nodes, decl_at}
use Rattle.c_syntax.specs.Syntax.{Annots, Decl, Parts, Rest, Stmt, Declare, NoRest, Initial, Body, Members}
use Rattle.c_syntax.specs.Stands.{StandParts, StandsDecl, StandsRest, StandsStmt}
use Rattle.r2_num.specs.declared.kinds.IntKind.TheVariants.{I32}
use Rattle.c_types_model.specs.Types.{CType, Integer}
use Rattle.c_types_table.specs.declared.ids.TypeId.{TypeId}
use Rattle.c_types_table.specs.declared.ty.Ty.TheVariants as nodes
use Rattle.c_types_table.specs.Tables.{at, made, type_at}
use Rattle.c_types_rules.specs.Checked.{Checked, Fine, Broken, keep, ◌>>=◌, ◌>>◌}
use Rattle.c_types_rules.specs.Environment.{Meaning, FunctionNamed, is_reserved}
use Rattle.c_types_rules.specs.Expressions.{declared_name}
use Rattle.c_types_rules.specs.TypeTests.{same_type}
use Rattle.c_types_rules.proofs.SameTypes.{types_compared}
use Rattle.c_types_rules.specs.TypedTree as typed
use Rattle.c_types_rules.specs.Sources.{Program, at_file, body_at, body_of, declared_again, function_declared, function_defined, function_rest, is_main, main, main_type, with_body}
use Rattle.c_types_operators.specs.declared.error.TypeError.{TypeError}
use Rattle.c_types_operators.specs.declared.error.TypeError.TheVariants as operators
use Rattle.c_types_operators.specs.Answers.{Agrees}
use Rattle.c_types_nodes.specs.Tables.{Table}
use Rattle.c_types_program.specs.declared.function.Body.{Body as TypedBody}
use Rattle.c_types_program.specs.declared.function.Function.{Function}
use Rattle.c_types_program.specs.Declarations.{IsBody, IsFunction, body_in, function_in}
use Rattle.c_types_environment.specs.declared.meaning.Meaning.{Meaning as Known}
use Rattle.c_types_environment.specs.declared.meaning.Meaning.TheVariants as knowns
use Rattle.c_types_environment.specs.Reading.{meaning_by}
use Rattle.c_types_environment.specs.States.{State, notes_of}
use Rattle.c_types_expressions.specs.Found.{Finds, Found, Stays}
use Rattle.c_types_expressions.proofs.Kept.{same_table}
use Rattle.c_types_statements.specs.Typed.{BodyStands}
use Rattle.c_types.specs.declared.declarations.Declarations.{Declarations}
use Rattle.c_types.specs.States.{Follows, GoesOn, IsFunctionPlace, IsSound, Steps, program_of}
use Rattle.c_types.specs.Pieces.{defined_of, function_of}
use Rattle.c_types.proofs.Followed.{at_file_is, going_on, program_on, small_before, sound_on}
use Rattle.c_types.proofs.Naming.{IsProgramOf}
use Rattle.c_types.proofs.Parts.{IsNode, node_is}
use Rattle.c_types.proofs.Pushed.{function_goes, function_program, named_goes, named_notes, named_program, named_sound, with_one}
use Rattle.c_types.proofs.Stepping.{breaks, goes_through, goes_to, is_broken, is_kept, stands_still, steps_as, stopped, then_steps, then_stops}
use Rattle.c_types.proofs.Stepping as stepping

-- ---- what follows the declaration of a function

module _ (N : Nodes) (i : DeclId) (e : DeclNode) (there : decl_at N i ≡ Some e) (d m : Declarations) (t : CType) (name : List ℕ) (named : name ≡ declared_name e.name) where
  abbrev tags : List (List ℕ)
  tags = d.env.env.tags

  -- what the rules say of the declaration
  abbrev first : Checked (ℕ × Program)
  first = function_declared (program_of d) e.from t name

  first_is : (from : ℕ) (an : Annots) (b : Base) (ps : Parts) (n : Option (List ℕ)) (q : Rest) → IsNode N e from an b ps n q → function_declared (program_of d) from t (declared_name n) ≡ first
  first_is from an b ps n q k = sym (ap (λ v. function_declared (program_of d) e.from t v) (named ∙ ap declared_name k.name) ∙ ap (λ v. function_declared (program_of d) v t (declared_name n)) k.offset)

  pub declaration_stops : (x : TypeError) → Steps d m (IsFunctionPlace m) first (Err x) → (y : Decl) → StandsDecl N i y → Follows d m (function_of tags (program_of d) t y) (Err x)
  declaration_stops x s (Declare from an b ps n q) z =
      let k = node_is N i e from an b ps n q z there in
      steps_as d m (IsProgramOf m) _ (first >>= (λ a. function_rest tags a.1 from (a.0 - first_source_function) (declared_name n) t ps q)) (Err x)
      (ap (λ c. c >>= (λ a. function_rest tags a.1 from (a.0 - first_source_function) (declared_name n) t ps q)) (first_is from an b ps n q k))
      (then_stops d m m (IsFunctionPlace m) (IsProgramOf m) first (λ a. function_rest tags a.1 from (a.0 - first_source_function) (declared_name n) t ps q) x s.agrees)

  module _ (place : ℕ) (s : Steps d m (IsFunctionPlace m) first (Ok place)) where
    rest_follows : (new : Declarations) (r : Result (Unit {0}) TypeError)
        → ((from : ℕ) (an : Annots) (b : Base) (ps : Parts) (n : Option (List ℕ)) (q : Rest) → StandsDecl N i (Declare from an b ps n q) → IsNode N e from an b ps n q → Steps m new (IsProgramOf new) (function_rest tags (program_of m) from place (declared_name n) t ps q) r)
        → (y : Decl) → StandsDecl N i y → Follows d new (function_of tags (program_of d) t y) r
    rest_follows new r f (Declare from an b ps n q) z =
        let k = node_is N i e from an b ps n q z there in
        steps_as d new (IsProgramOf new) _ (first >>= (λ a. function_rest tags a.1 from (a.0 - first_source_function) (declared_name n) t ps q)) r
        (ap (λ c. c >>= (λ a. function_rest tags a.1 from (a.0 - first_source_function) (declared_name n) t ps q)) (first_is from an b ps n q k))
        (then_steps d m new (IsFunctionPlace m) (IsProgramOf new) first (λ a. function_rest tags a.1 from (a.0 - first_source_function) (declared_name n) t ps q) place r s
        (λ a w. subst (λ v. Steps m new (IsProgramOf new) (function_rest tags v from (a.0 - first_source_function) (declared_name n) t ps q) r) w.0
        (subst (λ v. Steps m new (IsProgramOf new) (function_rest tags (program_of m) from v (declared_name n) t ps q) r) w.1 (f from an b ps n q z k))))

    pub nothing_more : e.rest ≡ rests.None → (y : Decl) → StandsDecl N i y → Follows d m (function_of tags (program_of d) t y) (Ok tt)
    nothing_more w = rest_follows m (Ok tt) (λ from an b ps n q z k. by from ps n q k.rest)
      where
        by : (from : ℕ) (ps : Parts) (n : Option (List ℕ)) (q : Rest) → StandsRest N e.rest q → Steps m m (IsProgramOf m) (function_rest tags (program_of m) from place (declared_name n) t ps q) (Ok tt)
        by from ps n NoRest p = stepping.there m m (IsProgramOf m) (program_of m) tt refl refl (stands_still m s.kept.sound)
        by from ps n (Initial v) (x, p, o) = absurd cc
        by from ps n (Body b) (x, p, o) = absurd cc
        by from ps n (Members ds) (x, p, o) = absurd cc

    pub value_after : (g : Given) → e.rest ≡ rests.Value g → (y : Decl) → StandsDecl N i y → Follows d m (function_of tags (program_of d) t y) (Err (operators.Rule e.from 16))
    value_after g w = rest_follows m (Err (operators.Rule e.from 16)) (λ from an b ps n q z k. by from ps n q k.offset k.rest)
      where
        by : (from : ℕ) (ps : Parts) (n : Option (List ℕ)) (q : Rest) → e.from ≡ from → StandsRest N e.rest q → Steps m m (IsProgramOf m) (function_rest tags (program_of m) from place (declared_name n) t ps q) (Err (operators.Rule e.from 16))
        by from ps n NoRest f p = absurd cc
        by from ps n (Initial v) f (x, p, o) = breaks m m (IsProgramOf m) (Broken from 16) e.from 16 (ap (λ v. Broken v 16) (sym f))
        by from ps n (Body b) f (x, p, o) = absurd cc
        by from ps n (Members ds) f (x, p, o) = absurd cc

    pub members_after : (is : List DeclId) → e.rest ≡ rests.Members is → (y : Decl) → StandsDecl N i y → Follows d m (function_of tags (program_of d) t y) (Err (operators.Rule e.from 3))
    members_after is w = rest_follows m (Err (operators.Rule e.from 3)) (λ from an b ps n q z k. by from ps n q k.offset k.rest)
      where
        by : (from : ℕ) (ps : Parts) (n : Option (List ℕ)) (q : Rest) → e.from ≡ from → StandsRest N e.rest q → Steps m m (IsProgramOf m) (function_rest tags (program_of m) from place (declared_name n) t ps q) (Err (operators.Rule e.from 3))
        by from ps n NoRest f p = absurd cc
        by from ps n (Initial v) f (x, p, o) = absurd cc
        by from ps n (Body b) f (x, p, o) = absurd cc
        by from ps n (Members ds) f (x, p, o) = breaks m m (IsProgramOf m) (Broken from 3) e.from 3 (ap (λ v. Broken v 3) (sym f))

    pub body_after : (j : StmtId) → e.rest ≡ rests.Body j → (new : Declarations) (r : Result (Unit {0}) TypeError) → ((y : Decl) (b : Stmt) → StandsDecl N i y → StandsStmt N j b → Follows m new (defined_of m.env.env.tags (program_of m) place t y b) r)
        → (y : Decl) → StandsDecl N i y → Follows d new (function_of tags (program_of d) t y) r
    body_after j w new r g = rest_follows new r (λ from an b ps n q z k. by from an b ps n q z k.rest)
      where
        by : (from : ℕ) (an : Annots) (b : Base) (ps : Parts) (n : Option (List ℕ)) (q : Rest) → StandsDecl N i (Declare from an b ps n q) → StandsRest N e.rest q → Steps m new (IsProgramOf new) (function_rest tags (program_of m) from place (declared_name n) t ps q) r
        by from an b ps n NoRest z p = absurd cc
        by from an b ps n (Initial v) z (x, p, o) = absurd cc
        by from an b ps n (Body x) z (l, p, o) =
            let same : l ≡ j = cc in
            subst (λ v. Steps m new (IsProgramOf new) (function_defined v (program_of m) from place (declared_name n) t ps x) r) s.kept.tags (g (Declare from an b ps n (Body x)) x z (subst (λ v. StandsStmt N v x) same o))
        by from an b ps n (Members ds) z (x, p, o) = absurd cc

-- ---- equal types

equal_tests : (r s : Bool) (t u : CType) → IsTrue r ↔ (t ≡ u) → IsTrue s ↔ (t ≡ u) → r ≡ s
equal_tests true true t u h k = refl
equal_tests true false t u h k = sym (k.1 (h.0 refl))
equal_tests false true t u h k = h.1 (k.0 refl)
equal_tests false false t u h k = refl

pub same_as_test : (r : Bool) (t u : CType) → IsTrue r ↔ (t ≡ u) → r ≡ same_type t u
same_as_test r t u h = equal_tests r (same_type t u) t u h (types_compared t u)

-- ---- the declaration

module _ (d : Declarations) (from : ℕ) (t : CType) (name : List ℕ) where
  abbrev again : Option Meaning → Checked (ℕ × Program)
  again o = declared_again (program_of d) from t o name

  pub reserved_function : is_reserved name ≡ true → Steps d d (IsFunctionPlace d) (function_declared (program_of d) from t name) (Err (operators.Rule from 19))
  reserved_function w = is_broken d d (IsFunctionPlace d) from 19 (not (is_reserved name)) (again (meaning_in name (program_of d).names)) (ap not w)

  pub allowed_function : (o : Option Meaning) (new : Declarations) (r : Result ℕ TypeError) → is_reserved name ≡ false → o ≡ meaning_in name (program_of d).names → Steps d new (IsFunctionPlace new) (again o) r → Steps d new (IsFunctionPlace new) (function_declared (program_of d) from t name) r
  allowed_function o new r w e s =
      is_kept d new (IsFunctionPlace new) from 19 (not (is_reserved name)) (again (meaning_in name (program_of d).names)) r (ap not w) (subst (λ v. Steps d new (IsFunctionPlace new) (again v) r) e s)

  -- declared before
  pub function_again : (number : ℕ) (u : CType) (r : Result ℕ TypeError) → IsSound d → Agrees (λ _ place. place ≡ number - first_source_function) (keep from 1 (same_type t u)) r → Steps d d (IsFunctionPlace d) (again (Some (FunctionNamed number u))) r
  function_again number u r h = by (same_type t u) r
    where
      by : (b : Bool) (r : Result ℕ TypeError) → Agrees (λ _ place. place ≡ number - first_source_function) (keep from 1 b) r → Steps d d (IsFunctionPlace d) (keep from 1 b >> Fine (number, program_of d)) r
      by b (Err operators.Memory) p = stepping.no_memory d d (IsFunctionPlace d) (keep from 1 b >> Fine (number, program_of d))
      by true (Ok place) p = stepping.there d d (IsFunctionPlace d) (number, program_of d) place refl (refl, p) (stands_still d h)
      by true (Err (operators.Rule a c)) p = absurd p
      by false (Ok place) p = absurd p
      by false (Err (operators.Rule a c)) p = record { agrees = p; kept = tt }

  -- declared as something else
  pub another_sort : (ts : List CType) (m : Known) → ((number : ℕ) (u : TypeId) → m ≡ knowns.Function number u → ⊥) → Steps d d (IsFunctionPlace d) (again (Some (meaning_by ts m))) (Err (operators.Rule from 1))
  another_sort ts (knowns.Function number u) f = absurd (f number u refl)
  another_sort ts (knowns.Global place u) f = record { agrees = (refl, refl); kept = tt }
  another_sort ts (knowns.Local place u) f = record { agrees = (refl, refl); kept = tt }

-- ---- a new function

module _ (d : Declarations) (s : State) (n : Declarations) (name : List ℕ) (ty : TypeId) (number : ℕ) (h : IsSound d) (lt : ty.0 < length d.env.table.types)
    (e : s ≡ with_one d.env name (FunctionNamed number (type_at d.env.table.types ty)))
    (same : n ≡ record (going_on d s) { functions = n.functions }) (pushed : n.functions.items ≡ d.functions.items ++ record { name = name; ty = ty; body = None } ∷ [])
    (counted : number ≡ length d.functions.items + first_source_function) where
  abbrev function : Function
  function = record { name = name; ty = ty; body = None }

  abbrev t : CType
  t = type_at d.env.table.types ty

  table_is : s.table ≡ d.env.table
  table_is = ap (λ v. v.table) e

  in_table : IsFunction s.table function
  in_table = subst (λ v. IsFunction v function) (sym table_is) (record { type = lt; body = tt })

  goes : GoesOn d n
  goes = goes_through d (going_on d s) n (named_goes d s name (FunctionNamed number t) h e) (function_goes (going_on d s) function n (named_sound d s name (FunctionNamed number t) h e) in_table same pushed)

  abbrev grown : ℕ → Table → Program → Program
  grown k v p = record p { functions = p.functions ++ function_in v function ∷ []; names = (name, FunctionNamed k t) ∷ p.names }

  program_is : program_of n ≡ grown number d.env.table (program_of d)
  program_is =
      function_program (going_on d s) function n (named_sound d s name (FunctionNamed number t) h e) in_table same pushed
      ∙ (ap {A = Program} (λ p. record p { functions = p.functions ++ function_in s.table function ∷ [] }) (named_program d s name (FunctionNamed number t) h e)
      ∙ ap (λ v. grown number v (program_of d)) table_is)

  length_is : number ≡ length (program_of d).functions + first_source_function
  length_is = let l = length-map d.functions.items (function_in d.env.table) in omega arith

  pub function_new : (from place : ℕ) → place ≡ length d.functions.items → Steps d n (IsFunctionPlace n) (declared_again (program_of d) from t None name) (Ok place)
  function_new from place at =
      let large : (notes_of n.env) ≡ (notes_of d.env) = ap (λ x. notes_of x.env) same ∙ named_notes d s name (FunctionNamed number t) h e in
      let l = length-map d.functions.items (function_in d.env.table) in
      let where_it_is : place ≡ length (program_of d).functions + first_source_function - first_source_function = omega arith in
      stepping.there d n (IsFunctionPlace n) _ place large (program_is ∙ ap (λ k. grown k d.env.table (program_of d)) length_is, where_it_is) goes

-- ---- functions at their places

still_there : {A B : Type 0} (f : A → B) (o : Option A) → is_some o ≡ is_some (option_map f o)
still_there f None = refl
still_there f (Some x) = refl

pub body_there : (t : Table) (fs : List Function) (i : ℕ) (f d : Function) → i < length fs → f ≡ get_or fs i d → is_some f.body ≡ is_some (body_at (map (function_in t) fs) i)
body_there t [] i f d lt e = absurd (omega arith)
body_there t (g ∷ fs) zero f d lt e = ap (λ x. is_some x.body) e ∙ still_there (body_in t) g.body
body_there t (g ∷ fs) (suc i) f d lt e = body_there t fs i f d (omega arith) e

pub no_body_there : (t : Table) (fs : List Function) (i : ℕ) → length fs ≤ i → false ≡ is_some (body_at (map (function_in t) fs) i)
no_body_there t [] i le = refl
no_body_there t (g ∷ fs) zero le = absurd (omega arith)
no_body_there t (g ∷ fs) (suc i) le = no_body_there t fs i (omega arith)

pub body_set : (t : Table) (fs : List Function) (i : ℕ) (d : Function) (b : TypedBody) → i < length fs → map (function_in t) (slice_set fs i (record (get_or fs i d) { body = Some b })) ≡ with_body (map (function_in t) fs) i (body_in t b)
body_set t [] i d b lt = absurd (omega arith)
body_set t (g ∷ fs) zero d b lt = refl
body_set t (g ∷ fs) (suc i) d b lt = ap (λ gs. function_in t g ∷ gs) (body_set t fs i d b (omega arith))

pub no_body_set : (t : Table) (fs : List Function) (i : ℕ) (b : TypedBody) → length fs ≤ i → map (function_in t) fs ≡ with_body (map (function_in t) fs) i (body_in t b)
no_body_set t [] i b le = refl
no_body_set t (g ∷ fs) zero b le = absurd (omega arith)
no_body_set t (g ∷ fs) (suc i) b le = ap (λ gs. function_in t g ∷ gs) (no_body_set t fs i b (omega arith))

-- ---- main

and_false : (b : Bool) → (b && false) ≡ false
and_false true = refl
and_false false = refl

-- a function that takes something isn't of the type of main
pub with_params : (ts : List CType) (r : TypeId) (ps : List TypeId) (b : Bool) → b ≡ (length ps == 0) → b ≡ false → same_type (made ts (nodes.Function r ps)) main_type ≡ false
with_params ts r [] b e w = absurd cc
with_params ts r (p ∷ ps) b e w = and_false (same_type (at ts r) (Integer I32))

-- main has its type
pub of_main : (name text : List ℕ) (r : Bool) (t : CType) (b : Bool) → text ≡ main → r ≡ same_name name text → r ≡ true → b ≡ same_type t main_type → is_main name t ≡ b
of_main name text r t b e s w h = ap (λ v. not v || same_type t main_type) (ap (same_name name) (sym e) ∙ (sym s ∙ w)) ∙ sym h

-- any other function has any type
pub another_name : (name text : List ℕ) (r : Bool) (t : CType) → text ≡ main → r ≡ same_name name text → r ≡ false → is_main name t ≡ true
another_name name text r t e s w = ap (λ v. not v || same_type t main_type) (ap (same_name name) (sym e) ∙ (sym s ∙ w))

-- ---- the body

module _ (N : Nodes) (i : DeclId) (e : DeclNode) (there : decl_at N i ≡ Some e) (d : Declarations) (place : ℕ) (t : CType) (name : List ℕ) (named : name ≡ declared_name e.name) where
  abbrev p : Program
  p = program_of d

  abbrev all : Decl → Stmt → Checked Program
  all y x = defined_of d.env.env.tags p place t y x

  pub body_twice : is_some (body_at p.functions place) ≡ true → (y : Decl) (x : Stmt) → StandsDecl N i y → Follows d d (all y x) (Err (operators.Rule e.from 21))
  body_twice w (Declare from an b ps n q) x z =
      let k = node_is N i e from an b ps n q z there in
      subst (λ f. Follows d d (all (Declare from an b ps n q) x) (Err (operators.Rule f 21))) (sym k.offset)
      (is_broken d d (IsProgramOf d) from 21 (not (is_some (body_at p.functions place))) _ (ap not w))

  module _ (once : is_some (body_at p.functions place) ≡ false) where
    pub main_broken : is_main name t ≡ false → (y : Decl) (x : Stmt) → StandsDecl N i y → Follows d d (all y x) (Err (operators.Rule e.from 18))
    main_broken w (Declare from an b ps n q) x z =
        let k = node_is N i e from an b ps n q z there in
        let main_is : is_main (declared_name n) t ≡ false = ap (λ v. is_main v t) (sym (named ∙ ap declared_name k.name)) ∙ w in
        subst (λ f. Follows d d (all (Declare from an b ps n q) x) (Err (operators.Rule f 18))) (sym k.offset)
        (is_kept d d (IsProgramOf d) from 21 (not (is_some (body_at p.functions place))) _ _ (ap not once)
        (is_broken d d (IsProgramOf d) from 18 (is_main (declared_name n) t) _ main_is))

    module _ (main_kept : is_main name t ≡ true) (h : IsSound d) (s : State) (j : StmtId) where
      abbrev BodyFound : Result TypedBody TypeError → Type 0
      BodyFound r = (ps : Parts) (x : Stmt) → StandParts N e.parts ps → StandsStmt N j x → Finds d.env s (BodyStands s.table) (body_of d.env.env t ps x) r

      body_here : (r : Result TypedBody TypeError) → BodyFound r → (from : ℕ) (an : Annots) (b : Base) (ps : Parts) (n : Option (List ℕ)) (q : Rest) (x : Stmt) → IsNode N e from an b ps n q → StandsStmt N j x → Found (notes_of d.env) (notes_of s) (BodyStands s.table) (body_of (at_file d.env.env.tags p) t ps x) r
      body_here r f from an b ps n q x k o = subst (λ v. Found (notes_of d.env) (notes_of s) (BodyStands s.table) (body_of v t ps x) r) (sym (at_file_is d h)) (f ps x k.parts o)

      -- what follows the tests
      tested : (new : Declarations) (r : Result (Unit {0}) TypeError) (from : ℕ) (an : Annots) (b : Base) (ps : Parts) (n : Option (List ℕ)) (q : Rest) (x : Stmt) → IsNode N e from an b ps n q
          → Steps d new (IsProgramOf new) (body_of (at_file d.env.env.tags p) t ps x >>= (λ b. Fine (record p { functions = with_body p.functions place b }))) r → Follows d new (all (Declare from an b ps n q) x) r
      tested new r from an b ps n q x k v =
          let main_is : is_main (declared_name n) t ≡ true = ap (λ w. is_main w t) (sym (named ∙ ap declared_name k.name)) ∙ main_kept in
          is_kept d new (IsProgramOf new) from 21 (not (is_some (body_at p.functions place))) _ r (ap not once)
          (is_kept d new (IsProgramOf new) from 18 (is_main (declared_name n) t) _ r main_is v)

      pub body_stops : (x : TypeError) → BodyFound (Err x) → (y : Decl) (b : Stmt) → StandsDecl N i y → StandsStmt N j b → Follows d (going_on d s) (all y b) (Err x)
      body_stops x f (Declare from an b ps n q) c z o =
          let k = node_is N i e from an b ps n q z there in
          tested (going_on d s) (Err x) from an b ps n q c k
          (then_stops d (going_on d s) (going_on d s) (BodyStands s.table) (IsProgramOf (going_on d s)) (body_of (at_file d.env.env.tags p) t ps c) (λ b. Fine (record p { functions = with_body p.functions place b })) x
          (body_here (Err x) f from an b ps n q c k o))

      module _ (body : TypedBody) (f : BodyFound (Ok body)) (l : Stays d.env s) (new : Declarations) (same : new ≡ record (going_on d s) { functions = new.functions })
          (given : (v : Table) → map (function_in v) new.functions.items ≡ with_body (map (function_in v) d.functions.items) place (body_in v body))
          (are : (v : Table) → IsBody v (Some body) → All (IsFunction v) d.functions.items → All (IsFunction v) new.functions.items) where
        pub body_given : (y : Decl) (b : Stmt) → StandsDecl N i y → StandsStmt N j b → Follows d new (all y b) (Ok tt)
        body_given (Declare from an b ps n q) c z o =
            let k = node_is N i e from an b ps n q z there in
            let found = body_here (Ok body) f from an b ps n q c k o in
            let sound : IsSound (going_on d s) = sound_on d s l h (small_before (notes_of d.env) (notes_of s) (BodyStands s.table) (body_of (at_file d.env.env.tags p) t ps c) body found) in
            tested new (Ok tt) from an b ps n q c k
            (then_steps d (going_on d s) new (BodyStands s.table) (IsProgramOf new) (body_of (at_file d.env.env.tags p) t ps c) (λ b. Fine (record p { functions = with_body p.functions place b })) body (Ok tt)
            (record { agrees = found; kept = goes_to d s l sound })
            (λ x w. stepping.there (going_on d s) new (IsProgramOf new) (record p { functions = with_body p.functions place x }) tt (ap (λ v. notes_of v.env) same) (program_is sound x w) (goes sound x w)))
          where
            goes : IsSound (going_on d s) → (x : typed.Body) → BodyStands s.table x body → GoesOn (going_on d s) new
            goes sound x w = subst (GoesOn (going_on d s)) (sym same) (record {
              tags = refl;
              numbers = same_table s.table;
              sound = record {
                functions = are s.table w.inside sound.functions;
                globals = sound.globals;
                members = sound.members;
                small = sound.small;
                aligned = sound.aligned;
                outermost = sound.outermost;
              };
            })

            program_is : IsSound (going_on d s) → (x : typed.Body) → BodyStands s.table x body → program_of new ≡ record p { functions = with_body p.functions place x }
            program_is sound x w =
                ap program_of same
                ∙ (ap (λ fs. record (program_of (going_on d s)) { functions = fs }) (given s.table ∙ ap (with_body (map (function_in s.table) d.functions.items) place) w.is)
                ∙ ap {A = Program} (λ v. record v { functions = with_body v.functions place x }) (program_on d s l h))
