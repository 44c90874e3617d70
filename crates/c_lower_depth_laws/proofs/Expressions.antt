-- An expression that keeps the rules of types is as deep as its syntax says, and so is what isn't evaluated in it.
use Rattle.std.proofs.Common.{◌≡◌, ℕ, ◌+◌, ◌≤◌, max, Bool, true, false, List, Some, None, refl, sym, ap, ◌∙◌, subst, arith}
use Rattle.std.specs.Prelude.{pos, not}
use Rattle.r2_num.specs.declared.kinds.IntKind.TheVariants.{U64}
use Rattle.c_syntax.specs.Syntax.{Expr, Exprs, Decl, Decls, Annots, Annot, Items, Item, Atom, Parts, Name, Number, Char, Text, Binary, Assign, Cond, Prefix, Postfix, SizeofExpr, SizeofType, Cast, Index, Call, Member, Arrow, NoExprs, MoreExprs, Declare, NoDecls, MoreDecls, NoAnnots, MoreAnnots, Annotate, NoItems, MoreItems, OneFactor, TwoFactors, NameAtom, NumberAtom, ReturnAtom, SizeofAtom, NoParts, Pointer, Array, Params}
use Rattle.c_types_model.specs.Types.{CType, CTypes, PointerTo, ArrayOf, FunctionOf, NoTypes, MoreTypes}
use Rattle.c_scopes.specs.Scopes.{meaning_of}
use Rattle.c_types_rules.specs.Checked.{Checked, Fine, Noted, Broken, keep, small, unevaluated, ◌>>=◌, ◌>>◌}
use Rattle.c_types_rules.specs.TypeTests.{is_complete, is_result, is_scalar}
use Rattle.c_types_rules.specs.Constants.{integer_constant}
use Rattle.c_types_rules.specs.TypedTree.{Value, Values, Typed, MoreValues, typed_type, value_of, value_type}
use Rattle.c_types_rules.specs.Operators.{assigned, assignment, binary, cast, choice, operator_in, size_in}
use Rattle.c_types_rules.specs.Environment.{Environment, base_type, extents, inner}
use Rattle.c_types_rules.specs.Expressions.{a_value, adjusted, annotation_type, annotation_types, arguments, arrow_of, atom_type, builtin_called, builtin_in, called, constant, declarator_type, declared_type, expression, is_small, item_type, item_types, length_of, member, parameter_scope, parameter_type, parameter_types, postfixed, prefixed, rule_of_incomplete, start_of, subscript_of}
use Rattle.c_lower_placement.specs.Heights.{pair_depth, value_depth, values_depth}
use Rattle.c_lower_depth_laws.specs.Expressions.{annot_depth, annots_depth, arguments_depth, arguments_unevaluated, assignment_depth, atom_depth, binary_depth, call_depth, expression_depth, is_direct, item_depth, items_depth, lengths_depth, param_depth, params_depth, parts_depth, prefix_depth, unevaluated_depth, with_param}
use Rattle.c_lower_depth_laws.specs.Laws.{Gives}
use Rattle.c_lower_depth_laws.proofs.Found.{Finds, finds_after, finds_as, finds_kept, finds_last, finds_on, finds_small, finds_then}
use Rattle.c_lower_depth_laws.proofs.Operators.{Deep, assigned_deep, binary_deep, cast_deep, choice_deep}
use Rattle.c_lower_depth_laws.specs.Names.{AgreesIn}
use Rattle.c_lower_depth_laws.proofs.Agreeing.{agrees_inner, param_agrees}
use Rattle.c_lower_depth_laws.proofs.Positive.{depth_positive}
use Rattle.c_lower_depth_laws.proofs.Typings.{Is, array_found, arrow_is, assignment_found, depth_of, is_as, meant_is, named_member_is, postfixed_is, prefixed_is, sized_is, subscript_is, value_deep, value_is}
use Rattle.c_lower_depth_laws.proofs.Calls.{Below, builtin_direct, callee_found}

-- what an expression is
abbrev pub Fits : Expr → List (List ℕ) → Typed → Type 0
Fits x objects = Is (expression_depth x objects) (is_direct x objects)

-- anything
abbrev pub Any : {A : Type 0} → A → Type 0
Any a = Unit {0}

-- the value of what an expression is
pub fits_deep : (x : Expr) (objects : List (List ℕ)) (a : Typed) → Fits x objects a → value_depth (value_of a) ≡ expression_depth x objects
fits_deep x objects a h = value_deep a ∙ h.0

-- arguments above so many values
abbrev pub Stacked : Exprs → List (List ℕ) → Values → Type 0
Stacked xs objects vs = (below least : ℕ) → below ≤ least → max least (arguments_depth xs objects below) ≡ max least (below + values_depth vs)

no_arguments : (below least : ℕ) → below ≤ least → max least 0 ≡ max least (below + 0)
no_arguments below least h = omega (arith, h)

one_argument : (w a m below least : ℕ) → max (max least (below + w)) a ≡ max (max least (below + w)) ((1 + below) + m) → max least (max (below + w) a) ≡ max least (below + max w (1 + m))
one_argument w a m below least e = omega (arith, e)

room : (w below least : ℕ) → 1 ≤ w → 1 + below ≤ max least (below + w)
room w below least h = omega (arith, h)

-- one argument more
stacked : (x : Expr) (xs : Exprs) (objects : List (List ℕ)) (v : Value) (vs : Values) → value_depth v ≡ expression_depth x objects → Stacked xs objects vs → Stacked (MoreExprs x xs) objects (MoreValues v vs)
stacked x xs objects v vs e h below least le =
    one_argument (expression_depth x objects) (arguments_depth xs objects (1 + below)) (values_depth vs) below least
    (h (1 + below) (max least (below + expression_depth x objects)) (room (expression_depth x objects) below least (depth_positive x objects)))
    ∙ ap (λ n. max least (below + max n (1 + values_depth vs))) (sym e)

bare : (n : ℕ) → 0 + n ≡ n
bare n = omega arith

-- a call's depth
call_deep : (direct : Bool) (w n a b : ℕ) → max 1 a ≡ max 1 (0 + n) → max w b ≡ max w (1 + n) → call_depth direct w n (1 + n) ≡ call_depth direct w a b
call_deep true w n a b e f = sym (e ∙ ap (max 1) (bare n))
call_deep false w n a b e f = sym f

zero_below : 0 ≤ 1
zero_below = omega arith

called_deep : (x : Expr) (xs : Exprs) (objects : List (List ℕ)) (vs : Values) → Stacked xs objects vs → call_depth (is_direct x objects) (expression_depth x objects) (values_depth vs) (1 + values_depth vs) ≡ expression_depth (Call 0 x xs) objects
called_deep x xs objects vs h =
    call_deep (is_direct x objects) (expression_depth x objects) (values_depth vs) (arguments_depth xs objects 0) (arguments_depth xs objects 1)
    (h 0 1 zero_below) (h 1 (expression_depth x objects) (depth_positive x objects))

-- two operands
both : (f : ℕ → ℕ → ℕ) (a b m n : ℕ) → a ≡ m → b ≡ n → f a b ≡ f m n
both f a b m n e g = ap (λ i. f i b) e ∙ ap (f m) g

-- three operands
three : (a b c k m n : ℕ) → a ≡ k → b ≡ m → c ≡ n → max a (max b c) ≡ max k (max m n)
three a b c k m n e f g = both max a (max b c) k (max m n) e (both max b c m n f g)

grouped : (a b c : ℕ) → max a (max b c) ≡ max (max a b) c
grouped a b c = omega arith

keeps : (from rule : ℕ) (b : Bool) → Finds Any 0 (keep from rule b)
keeps from rule true = (tt, refl)
keeps from rule false = tt

mutual
  pub expression_found : (x : Expr) (objects : List (List ℕ)) (env : Environment) → AgreesIn objects env → Finds (Fits x objects) (unevaluated_depth x objects) (expression x env)
  expression_found (Name from name) objects env agrees = meant_is from name (meaning_of name env.scopes) (is_direct (Name from name) objects) (ap not (sym (agrees.names name))) (agrees.functions name)
  expression_found (Number from n suffix decimal) objects env agrees = ((refl, refl, tt), refl)
  expression_found (Char from n) objects env agrees = ((refl, refl, tt), refl)
  expression_found (Text from bytes) objects env agrees = ((refl, refl, tt), refl)
  expression_found (Binary from s x y) objects env agrees =
      finds_then (Fits x objects) (Fits (Binary from s x y) objects) (unevaluated_depth x objects) (unevaluated_depth y objects) (expression x env) _ (expression_found x objects env agrees)
      (λ a h. finds_last (Fits y objects) (Fits (Binary from s x y) objects) (unevaluated_depth y objects) (expression y env) _ (expression_found y objects env agrees)
      (λ b k. let op = binary (extents env) from s (value_of a) (value_of b) in
      is_as (binary_depth s (value_depth (value_of a)) (value_depth (value_of b))) (expression_depth (Binary from s x y) objects) false 0 (a_value op)
      (both (binary_depth s) (value_depth (value_of a)) (value_depth (value_of b)) (expression_depth x objects) (expression_depth y objects) (fits_deep x objects a h) (fits_deep y objects b k))
      (value_is (binary_depth s (value_depth (value_of a)) (value_depth (value_of b))) op (binary_deep (extents env) from s (value_of a) (value_of b)))))
  expression_found (Assign from s x y) objects env agrees =
      finds_then (Fits x objects) (Fits (Assign from s x y) objects) (unevaluated_depth x objects) (unevaluated_depth y objects) (expression x env) _ (expression_found x objects env agrees)
      (λ a h. finds_last (Fits y objects) (Fits (Assign from s x y) objects) (unevaluated_depth y objects) (expression y env) _ (expression_found y objects env agrees)
      (λ b k. let op = assignment (extents env) from s a (value_of b) in
      is_as (assignment_depth (operator_in s) (depth_of a) (value_depth (value_of b))) (expression_depth (Assign from s x y) objects) false 0 (a_value op)
      (both (assignment_depth (operator_in s)) (depth_of a) (value_depth (value_of b)) (expression_depth x objects) (expression_depth y objects) h.0 (fits_deep y objects b k))
      (value_is (assignment_depth (operator_in s) (depth_of a) (value_depth (value_of b))) op (assignment_found (extents env) from s a (value_of b)))))
  expression_found (Cond from x y z) objects env agrees =
      finds_then (Fits x objects) (Fits (Cond from x y z) objects) (unevaluated_depth x objects) (max (unevaluated_depth y objects) (unevaluated_depth z objects)) (expression x env) _ (expression_found x objects env agrees)
      (λ a h. finds_then (Fits y objects) (Fits (Cond from x y z) objects) (unevaluated_depth y objects) (unevaluated_depth z objects) (expression y env) _ (expression_found y objects env agrees)
      (λ b k. finds_last (Fits z objects) (Fits (Cond from x y z) objects) (unevaluated_depth z objects) (expression z env) _ (expression_found z objects env agrees)
      (λ c j. let n = max (value_depth (value_of a)) (max (value_depth (value_of b)) (value_depth (value_of c))) in
      is_as n (expression_depth (Cond from x y z) objects) false 0 (a_value (choice from (value_of a) (value_of b) (value_of c)))
      (three (value_depth (value_of a)) (value_depth (value_of b)) (value_depth (value_of c)) (expression_depth x objects) (expression_depth y objects) (expression_depth z objects) (fits_deep x objects a h) (fits_deep y objects b k) (fits_deep z objects c j))
      (value_is n (choice from (value_of a) (value_of b) (value_of c)) (choice_deep from (value_of a) (value_of b) (value_of c))))))
  expression_found (Prefix from s x) objects env agrees =
      finds_last (Fits x objects) (Fits (Prefix from s x) objects) (unevaluated_depth x objects) (expression x env) _ (expression_found x objects env agrees)
      (λ a h. is_as (prefix_depth s (depth_of a)) (expression_depth (Prefix from s x) objects) false 0 (prefixed (extents env) from s a) (ap (prefix_depth s) h.0) (prefixed_is (extents env) from s a))
  expression_found (Postfix from s x) objects env agrees =
      finds_last (Fits x objects) (Fits (Postfix from s x) objects) (unevaluated_depth x objects) (expression x env) _ (expression_found x objects env agrees)
      (λ a h. is_as (max (depth_of a) 2) (expression_depth (Postfix from s x) objects) false 0 (postfixed (extents env) from s a) (ap (λ n. max n 2) h.0) (postfixed_is (extents env) from s a))
  expression_found (SizeofExpr from x) objects env agrees =
      finds_then (Fits x objects) (Fits (SizeofExpr from x) objects) (unevaluated_depth x objects) (expression_depth x objects) (expression x env) _ (expression_found x objects env agrees)
      (λ a h. finds_as (Is 1 false) (depth_of a) (expression_depth x objects) (unevaluated a >> (keep from 15 (is_complete (extents env) (typed_type a)) >> constant U64 (pos (size_in (extents env) (typed_type a))))) h.0 (sized_is (extents env) from a h.2))
  expression_found (SizeofType from d) objects env agrees =
      finds_last Any (Fits (SizeofType from d) objects) (lengths_depth d objects) (declared_type d env) _ (declared_found d objects env agrees)
      (λ t h. finds_kept (Fits (SizeofType from d) objects) 0 from 15 (is_complete (extents env) t) (constant U64 (pos (size_in (extents env) t))) ((refl, refl, tt), refl))
  expression_found (Cast from d x) objects env agrees =
      finds_then Any (Fits (Cast from d x) objects) (lengths_depth d objects) (unevaluated_depth x objects) (declared_type d env) _ (declared_found d objects env agrees)
      (λ t h. finds_last (Fits x objects) (Fits (Cast from d x) objects) (unevaluated_depth x objects) (expression x env) _ (expression_found x objects env agrees)
      (λ a k. is_as (value_depth (value_of a)) (expression_depth x objects) false 0 (a_value (cast from t (value_of a))) (fits_deep x objects a k) (value_is (value_depth (value_of a)) (cast from t (value_of a)) (cast_deep from t (value_of a)))))
  expression_found (Index from x y) objects env agrees =
      finds_then (Fits x objects) (Fits (Index from x y) objects) (unevaluated_depth x objects) (unevaluated_depth y objects) (expression x env) _ (expression_found x objects env agrees)
      (λ a h. finds_last (Fits y objects) (Fits (Index from x y) objects) (unevaluated_depth y objects) (expression y env) _ (expression_found y objects env agrees)
      (λ b k. is_as (pair_depth (value_depth (value_of a)) (value_depth (value_of b))) (expression_depth (Index from x y) objects) false 0 (subscript_of (extents env) from (value_of a) (value_of b) (value_type (value_of a)) (value_type (value_of b)))
      (both pair_depth (value_depth (value_of a)) (value_depth (value_of b)) (expression_depth x objects) (expression_depth y objects) (fits_deep x objects a h) (fits_deep y objects b k))
      (subscript_is (extents env) from (value_of a) (value_of b) (value_type (value_of a)) (value_type (value_of b)))))
  expression_found (Call from x xs) objects env agrees =
      finds_then (Below (is_direct x objects) (expression_depth x objects)) (Fits (Call from x xs) objects) (unevaluated_depth x objects) (arguments_unevaluated xs objects)
      (elim (builtin_in env x) [ Some f ↦ builtin_called (start_of x) f | None ↦ expression x env >>= called from ]) _
      (callee_found from (start_of x) (builtin_in env x) (expression x env) (is_direct x objects) (expression_depth x objects) (unevaluated_depth x objects) (λ f e. builtin_direct x objects env f agrees e) (expression_found x objects env agrees))
      (λ f h. finds_last (Stacked xs objects) (Fits (Call from x xs) objects) (arguments_unevaluated xs objects) (arguments xs env from f.2) _ (arguments_found xs objects env from f.2 agrees)
      (λ vs k. ((h (values_depth vs) ∙ called_deep x xs objects vs k, refl, tt), refl)))
  expression_found (Member from x name) objects env agrees =
      finds_last (Fits x objects) (Fits (Member from x name) objects) (unevaluated_depth x objects) (expression x env) _ (expression_found x objects env agrees)
      (λ a h. is_as (depth_of a) (expression_depth x objects) false 0 (member env from a name) h.0 (named_member_is env from a name))
  expression_found (Arrow from x name) objects env agrees =
      finds_last (Fits x objects) (Fits (Arrow from x name) objects) (unevaluated_depth x objects) (expression x env) _ (expression_found x objects env agrees)
      (λ a h. is_as (value_depth (value_of a)) (expression_depth x objects) false 0 (arrow_of env from (value_of a) (value_type (value_of a)) name) (fits_deep x objects a h) (arrow_is env from (value_of a) (value_type (value_of a)) name))

  arguments_found : (xs : Exprs) (objects : List (List ℕ)) (env : Environment) (from : ℕ) (ts : CTypes) → AgreesIn objects env → Finds (Stacked xs objects) (arguments_unevaluated xs objects) (arguments xs env from ts)
  arguments_found NoExprs objects env from NoTypes agrees = (no_arguments, refl)
  arguments_found NoExprs objects env from (MoreTypes t ts) agrees = tt
  arguments_found (MoreExprs x xs) objects env from NoTypes agrees = tt
  arguments_found (MoreExprs x xs) objects env from (MoreTypes t ts) agrees =
      finds_then (Fits x objects) (Stacked (MoreExprs x xs) objects) (unevaluated_depth x objects) (arguments_unevaluated xs objects) (expression x env) _ (expression_found x objects env agrees)
      (λ a h. finds_on (Deep (value_depth (value_of a))) (Stacked (MoreExprs x xs) objects) (arguments_unevaluated xs objects) (assigned (start_of x) t (value_of a)) _ (assigned_deep (start_of x) t (value_of a))
      (λ v e. finds_last (Stacked xs objects) (Stacked (MoreExprs x xs) objects) (arguments_unevaluated xs objects) (arguments xs env from ts) _ (arguments_found xs objects env from ts agrees)
      (λ vs k. (stacked x xs objects v vs (e ∙ fits_deep x objects a h) k, refl))))

  pub declared_found : (d : Decl) (objects : List (List ℕ)) (env : Environment) → AgreesIn objects env → Finds Any (lengths_depth d objects) (declared_type d env)
  declared_found (Declare from an b ps n r) objects env agrees =
      finds_last Any Any (parts_depth ps objects) (declarator_type ps env (base_type env b)) _ (parts_found ps objects env (base_type env b) agrees)
      (λ t h. finds_small Any 0 (is_small (extents env) t) (Fine t) (tt, refl))

  parts_found : (ps : Parts) (objects : List (List ℕ)) (env : Environment) (t : CType) → AgreesIn objects env → Finds Any (parts_depth ps objects) (declarator_type ps env t)
  parts_found NoParts objects env t agrees = (tt, refl)
  parts_found (Pointer from ps) objects env t agrees =
      finds_small Any (parts_depth ps objects) (is_small (extents env) t) (declarator_type ps env (PointerTo t)) (parts_found ps objects env (PointerTo t) agrees)
  parts_found (Array from x ps) objects env t agrees =
      let rest = expression x env >>= (λ a. unevaluated a >> (length_of from (integer_constant (value_of a)) >>= (λ n. declarator_type ps env (ArrayOf n t)))) in
      finds_kept Any (parts_depth (Array from x ps) objects) from (rule_of_incomplete t) (is_complete (extents env) t) (small (is_small (extents env) t) >> rest)
      (finds_small Any (parts_depth (Array from x ps) objects) (is_small (extents env) t) rest
      (finds_as Any (max (unevaluated_depth x objects) (max (expression_depth x objects) (parts_depth ps objects))) (parts_depth (Array from x ps) objects) rest (grouped (unevaluated_depth x objects) (expression_depth x objects) (parts_depth ps objects))
      (finds_then (Fits x objects) Any (unevaluated_depth x objects) (max (expression_depth x objects) (parts_depth ps objects)) (expression x env) _ (expression_found x objects env agrees)
      (λ a h. finds_as Any (max (depth_of a) (parts_depth ps objects)) (max (expression_depth x objects) (parts_depth ps objects)) (unevaluated a >> (length_of from (integer_constant (value_of a)) >>= (λ n. declarator_type ps env (ArrayOf n t)))) (ap (λ m. max m (parts_depth ps objects)) h.0)
      (array_found Any (parts_depth ps objects) from a (λ n. declarator_type ps env (ArrayOf n t)) (λ n. parts_found ps objects env (ArrayOf n t) agrees))))))
  parts_found (Params from ds ps) objects env t agrees =
      finds_kept Any (parts_depth (Params from ds ps) objects) from 3 (is_result t) (parameter_types ds (inner env) 0 >>= (λ ts. declarator_type ps env (FunctionOf t ts)))
      (finds_then Any Any (params_depth ds objects) (parts_depth ps objects) (parameter_types ds (inner env) 0) _ (params_found ds objects (inner env) 0 (agrees_inner objects env agrees))
      (λ ts h. parts_found ps objects env (FunctionOf t ts) agrees))

  pub params_found : (ds : Decls) (objects : List (List ℕ)) (env : Environment) (place : ℕ) → AgreesIn objects env → Finds Any (params_depth ds objects) (parameter_types ds env place)
  params_found NoDecls objects env place agrees = (tt, refl)
  params_found (MoreDecls d ds) objects env place agrees =
      finds_then Any Any (param_depth d objects) (params_depth ds (with_param d objects)) (parameter_type d env) _ (param_found d objects env agrees)
      (λ t h. finds_on (AgreesIn (with_param d objects)) Any (params_depth ds (with_param d objects)) (parameter_scope d env place t) _ (param_agrees d objects env place t agrees)
      (λ within k. finds_last Any Any (params_depth ds (with_param d objects)) (parameter_types ds within (place + 1)) _ (params_found ds (with_param d objects) within (place + 1) k) (λ ts j. (tt, refl))))

  param_found : (d : Decl) (objects : List (List ℕ)) (env : Environment) → AgreesIn objects env → Finds Any (param_depth d objects) (parameter_type d env)
  param_found (Declare from an b ps n r) objects env agrees =
      finds_after Any Any (annots_depth an objects) (parts_depth ps objects) (annotation_types an env) _ (annots_found an objects env agrees)
      (finds_last Any Any (parts_depth ps objects) (declarator_type ps env (base_type env b)) _ (parts_found ps objects env (base_type env b) agrees)
      (λ t h. finds_kept Any 0 from 3 (is_scalar (adjusted t)) (Fine (adjusted t)) (tt, refl)))

  annots_found : (an : Annots) (objects : List (List ℕ)) (env : Environment) → AgreesIn objects env → Finds Any (annots_depth an objects) (annotation_types an env)
  annots_found NoAnnots objects env agrees = (tt, refl)
  annots_found (MoreAnnots x xs) objects env agrees = finds_after Any Any (annot_depth x objects) (annots_depth xs objects) (annotation_type x env) (annotation_types xs env) (annot_found x objects env agrees) (annots_found xs objects env agrees)

  annot_found : (x : Annot) (objects : List (List ℕ)) (env : Environment) → AgreesIn objects env → Finds Any (annot_depth x objects) (annotation_type x env)
  annot_found (Annotate from name is) objects env agrees = items_found is objects env agrees

  items_found : (is : Items) (objects : List (List ℕ)) (env : Environment) → AgreesIn objects env → Finds Any (items_depth is objects) (item_types is env)
  items_found NoItems objects env agrees = (tt, refl)
  items_found (MoreItems x xs) objects env agrees = finds_after Any Any (item_depth x objects) (items_depth xs objects) (item_type x env) (item_types xs env) (item_found x objects env agrees) (items_found xs objects env agrees)

  item_found : (x : Item) (objects : List (List ℕ)) (env : Environment) → AgreesIn objects env → Finds Any (item_depth x objects) (item_type x env)
  item_found (OneFactor from a) objects env agrees = atom_found a objects env from agrees
  item_found (TwoFactors from a b) objects env agrees = finds_after Any Any (atom_depth a objects) (atom_depth b objects) (atom_type a env from) (atom_type b env from) (atom_found a objects env from agrees) (atom_found b objects env from agrees)

  atom_found : (a : Atom) (objects : List (List ℕ)) (env : Environment) (from : ℕ) → AgreesIn objects env → Finds Any (atom_depth a objects) (atom_type a env from)
  atom_found (NameAtom name) objects env from agrees = (tt, refl)
  atom_found (NumberAtom n) objects env from agrees = (tt, refl)
  atom_found ReturnAtom objects env from agrees = (tt, refl)
  atom_found (SizeofAtom d) objects env from agrees =
      finds_last Any Any (lengths_depth d objects) (declared_type d env) _ (declared_found d objects env agrees) (λ t h. keeps from 15 (is_complete (extents env) t))

-- whatever is noted on the way
found_gives : {A : Type 0} (P : A → Type 0) (k : ℕ) (c : Checked A) (a : A) → Finds P k c → Gives c a → P a
found_gives P k (Fine x) a h e = subst P e h.0
found_gives P k (Noted n x) a h e = subst P e h.0
found_gives P k (Broken from rule) a h e = absurd e

pub expressions_are_counted : (x : Expr) (objects : List (List ℕ)) (env : Environment) (a : Typed) → AgreesIn objects env → Gives (expression x env) a → value_depth (value_of a) ≡ expression_depth x objects
expressions_are_counted x objects env a agrees e = fits_deep x objects a (found_gives (Fits x objects) (unevaluated_depth x objects) (expression x env) a (expression_found x objects env agrees) e)
