-- The types of expressions and declarators (C11 6.5, 6.7.6, 6.7.7).
use Rattle.std.specs.Prelude.{ℕ, zero, suc, ℤ, pos, ◌+◌, nat_lt, nat_le, Bool, true, false, if◌then◌else◌, List, [], ◌∷◌, length, Option, Some, None, ◌^◌}
use Rattle.source_limits.specs.Limits.{greatest_object}
use Rattle.r2_num.specs.declared.kinds.IntKind.{IntKind}
use Rattle.r2_num.specs.declared.kinds.IntKind.TheVariants.{I32, U32, I64, U64}
use Rattle.c_lexer.specs.declared.token.Sign.{Sign}
use Rattle.c_lexer.specs.declared.token.Sign.TheVariants as signs
use Rattle.c_lexer.specs.declared.token.Suffix.{Suffix}
use Rattle.c_lexer.specs.declared.token.Suffix.TheVariants as suffixes
use Rattle.c_syntax.specs.Syntax.{Expr, Exprs, Decl, Decls, Annots, Annot, Items, Item, Atom, Parts, Name, Number, Char, Text, Binary, Assign, Cond, Prefix, Postfix, SizeofExpr, SizeofType, Cast, Index, Call, Member, Arrow, NoExprs, MoreExprs, Declare, NoDecls, MoreDecls, NoAnnots, MoreAnnots, Annotate, NoItems, MoreItems, OneFactor, TwoFactors, SizeofAtom, NoParts, Pointer, Array, Params}
use Rattle.c_types_model.specs.Types.{CType, CTypes, PointerTo, ArrayOf, StructOf, UndefinedStruct, FunctionOf, NoTypes, MoreTypes}
use Rattle.c_types_model.specs.declared.extent.Extent.{Extent}
use Rattle.c_builtins.specs.declared.builtin.Builtin.{Builtin}
use Rattle.c_builtins.specs.Table.{prototype_of}
use Rattle.c_scopes.specs.Scopes.{same_name, meaning_of}
use Rattle.c_types_rules.specs.Checked.{Checked, Fine, Broken, keep, need, small, unevaluated, ◌>>=◌, ◌>>◌}
use Rattle.c_types_rules.specs.TypeTests.{is_scalar, is_result, is_complete, is_integer}
use Rattle.c_types_rules.specs.Constants.{integer_constant}
use Rattle.c_types_rules.specs.Operators.{assigned, assignment, binary, cast, choice, signed_operand, size_in, step, to_kind}
use Rattle.c_types_rules.specs.TypedTree.{Object, Value, Values, Callee, Typed, Sum, GlobalObject, LocalObject, TextObject, Pointed, Element, MemberOf, Constant, AddressOf, CallOf, NoValues, MoreValues, SourceFunction, BuiltinFunction, Through, AnObject, AFunction, AValue, PointerPlus, PlusPointer, New, Old, Up, Down, object_type, value_type, typed_type, value_of, address_of_callee}
use Rattle.c_types_rules.specs.Environment.{Environment, Meaning, Struct, FunctionNamed, GlobalNamed, LocalNamed, extents, base_type, builtin_of, inner, with_name, declarable}

-- the offset of an expression's first token
abbrev pub start_of : Expr → ℕ
start_of (Name from n) = from
start_of (Number from n s d) = from
start_of (Char from n) = from
start_of (Text from bytes) = from
start_of (Binary from s x y) = from
start_of (Assign from s x y) = from
start_of (Cond from x y z) = from
start_of (Prefix from s x) = from
start_of (Postfix from s x) = from
start_of (SizeofExpr from x) = from
start_of (SizeofType from d) = from
start_of (Cast from d x) = from
start_of (Index from x y) = from
start_of (Call from x xs) = from
start_of (Member from x name) = from
start_of (Arrow from x name) = from

-- ---- names and constants (C11 6.5.1, 6.4.4.1)

abbrev pub unknown_name : (from : ℕ) → Option Builtin → Checked Typed
unknown_name from (Some b) = Broken from 19
unknown_name from None = Broken from 1

abbrev pub meant : (from : ℕ) → (name : List ℕ) → Option Meaning → Checked Typed
meant from name (Some (FunctionNamed number t)) = Fine (AFunction (SourceFunction from number) t)
meant from name (Some (GlobalNamed place t)) = Fine (AnObject (GlobalObject from place t))
meant from name (Some (LocalNamed place t)) = Fine (AnObject (LocalObject place t))
meant from name None = unknown_name from (builtin_of name)

-- what a name is that stands elsewhere than as what is called
abbrev pub named : Environment → (from : ℕ) → (name : List ℕ) → Checked Typed
named env from name = meant from name (meaning_of name env.scopes)

-- the type of a number is the first of its list that can represent it (C11 6.4.4.1, 5)
abbrev pub number_kind : (value : ℕ) → Suffix → (decimal : Bool) → IntKind
number_kind n suffixes.Plain true = if nat_lt n (2 ^ 31) then I32 else I64
number_kind n suffixes.Plain false = if nat_lt n (2 ^ 31) then I32 else if nat_lt n (2 ^ 32) then U32 else
    if nat_lt n (2 ^ 63) then I64 else U64
number_kind n suffixes.U decimal = if nat_lt n (2 ^ 32) then U32 else U64
number_kind n suffixes.L true = I64
number_kind n suffixes.L false = if nat_lt n (2 ^ 63) then I64 else U64
number_kind n suffixes.UL decimal = U64

abbrev pub constant : IntKind → ℤ → Checked Typed
constant k n = Fine (AValue (Constant k n))

-- ---- members (C11 6.5.2.3)

-- the number and the type of a member
abbrev pub member_from : ℕ → List ℕ → List (List ℕ × CType) → Option (ℕ × CType)
member_from at name [] = None
member_from at name ((other, t) ∷ members) = if same_name name other then Some (
  at,
  t,
) else member_from (at + 1) name members

abbrev pub member_in : List Struct → ℕ → List ℕ → Option (ℕ × CType)
member_in [] number name = None
member_in (s ∷ structs) zero name = member_from 0 name s.members
member_in (s ∷ structs) (suc number) name = member_in structs number name

abbrev pub member_of : Environment → (from : ℕ) → Object → CType → (name : List ℕ) → Checked Typed
member_of env from o (StructOf number) name = do
  m ← need from 13 (member_in env.structs number name)
  Fine (AnObject (MemberOf o m.0 m.1))
member_of env from o t name = Broken from 13

abbrev pub member : Environment → (from : ℕ) → Typed → (name : List ℕ) → Checked Typed
member env from (AnObject o) name = member_of env from o (object_type o) name
member env from x name = Broken from 13

abbrev pub arrow_of : Environment → (from : ℕ) → Value → CType → (name : List ℕ) → Checked Typed
arrow_of env from v (PointerTo (UndefinedStruct tag)) name = Broken from 2
arrow_of env from v (PointerTo (StructOf number)) name = do
  keep from 2 (is_complete (extents env) (StructOf number))
  member_of env from (Pointed v (StructOf number)) (StructOf number) name
arrow_of env from v t name = Broken from 13

-- ---- pointers (C11 6.5.2.1, 6.5.3.2)

abbrev pub pointed_of : (structs : List Extent) → (from : ℕ) → Value → CType → Checked Typed
pointed_of structs from v (PointerTo (FunctionOf r ps)) = Fine (AFunction (Through v) (FunctionOf r ps))
pointed_of structs from v (PointerTo t) = keep from 14 (is_complete structs t) >> Fine
    (AnObject (Pointed v t))
pointed_of structs from v t = Broken from 14

-- `*` and its operand
abbrev pub pointed : (structs : List Extent) → (from : ℕ) → Value → Checked Typed
pointed structs from v = pointed_of structs from v (value_type v)

abbrev pub element : (structs : List Extent) → (from : ℕ) → Sum → (target : CType) →
    (pointer index : Value) → Checked Typed
element structs from s t p i = do
  keep from 14 (is_complete structs t)
  keep from 14 (is_integer (value_type i))
  Fine (AnObject (Element s p (to_kind I64 i) t))

abbrev pub subscript_of : (structs : List Extent) → (from : ℕ) → Value → Value → CType → CType →
    Checked Typed
subscript_of structs from a b (PointerTo t) u = element structs from PointerPlus t a b
subscript_of structs from a b t (PointerTo u) = element structs from PlusPointer u b a
subscript_of structs from a b t u = Broken from 14

-- a pointer and an integer, in either order
abbrev pub subscript : (structs : List Extent) → (from : ℕ) → Value → Value → Checked Typed
subscript structs from a b = subscript_of structs from a b (value_type a) (value_type b)

-- `&` and its operand
abbrev pub address : (from : ℕ) → Typed → Checked Typed
address from (AnObject o) = Fine (AValue (AddressOf o (PointerTo (object_type o))))
address from (AFunction f t) = Fine (AValue (address_of_callee f t))
address from (AValue v) = Broken from 8

abbrev pub a_value : Checked Value → Checked Typed
a_value c = do
  v ← c
  Fine (AValue v)

-- a prefix operator and its operand; there is no other (C11 6.5.3)
abbrev pub prefixed : (structs : List Extent) → (from : ℕ) → Sign → Typed → Checked Typed
prefixed structs from signs.Increment x = a_value (step structs from Up New x)
prefixed structs from signs.Decrement x = a_value (step structs from Down New x)
prefixed structs from signs.Ampersand x = address from x
prefixed structs from signs.Star x = pointed structs from (value_of x)
prefixed structs from s x = a_value (signed_operand from s (value_of x))

abbrev pub postfixed : (structs : List Extent) → (from : ℕ) → Sign → Typed → Checked Typed
postfixed structs from signs.Increment x = a_value (step structs from Up Old x)
postfixed structs from signs.Decrement x = a_value (step structs from Down Old x)
postfixed structs from s x = Broken from 8

-- ---- calls (C11 6.5.2.2)

abbrev pub function_type : (from : ℕ) → CType → Checked (CType × CTypes)
function_type from (FunctionOf r ps) = Fine (r, ps)
function_type from t = Broken from 9

abbrev pub called_value : (from : ℕ) → Value → CType → Checked (Callee × CType × CTypes)
called_value from v (PointerTo t) = do
  f ← function_type from t
  Fine (Through v, f.0, f.1)
called_value from v t = Broken from 9

-- what is called, what it gives and what it takes
abbrev pub called : (from : ℕ) → Typed → Checked (Callee × CType × CTypes)
called from (AFunction f t) = do
  g ← function_type from t
  Fine (f, g.0, g.1)
called from x = called_value from (value_of x) (value_type (value_of x))

-- a builtin, whose name stands at this offset
abbrev pub builtin_called : (from : ℕ) → Builtin → Checked (Callee × CType × CTypes)
builtin_called from b = do
  g ← function_type from (prototype_of b)
  Fine (BuiltinFunction from b, g.0, g.1)

-- the builtin that an expression names; None of any other expression
abbrev pub builtin_unless : Option Meaning → List ℕ → Option Builtin
builtin_unless (Some m) name = None
builtin_unless None name = builtin_of name

abbrev pub builtin_in : Environment → Expr → Option Builtin
builtin_in env (Name from name) = builtin_unless (meaning_of name env.scopes) name
builtin_in env x = None

-- ---- declarators (C11 6.7.6)

-- a length of 1 or more
abbrev pub length_of : (from : ℕ) → Option ℤ → Checked ℕ
length_of from (Some (pos n)) = keep from 4 (nat_lt 0 n) >> Fine n
length_of from _ = Broken from 4

-- the rule that an array's element breaks: a struct that isn't defined here, or no object
abbrev pub rule_of_incomplete : CType → ℕ
rule_of_incomplete (StructOf number) = 2
rule_of_incomplete (UndefinedStruct tag) = 2
rule_of_incomplete t = 3

-- an object of this type is not too large
abbrev pub is_small : (structs : List Extent) → CType → Bool
is_small structs t = nat_le (size_in structs t) greatest_object

abbrev pub complete : (structs : List Extent) → (from : ℕ) → CType → Checked (Unit {0})
complete structs from t = keep from (rule_of_incomplete t) (is_complete structs t)

-- an array as a parameter is a pointer to its element (C11 6.7.6.3, 7)
abbrev pub adjusted : CType → CType
adjusted (ArrayOf n t) = PointerTo t
adjusted t = t

abbrev pub declared_name : Option (List ℕ) → List ℕ
declared_name (Some name) = name
declared_name None = []

-- the scope of a parameter, where it has a name
abbrev pub with_parameter : Environment → (from place : ℕ) → Option (List ℕ) → CType → Checked Environment
with_parameter env from place None t = Fine env
with_parameter env from place (Some name) t = do
  declarable env from name
  Fine (with_name env name (LocalNamed place t))

abbrev mutual
  -- what an expression is, or a rule that it breaks
  pub expression : Expr → Environment → Checked Typed
  expression (Name from name) env = named env from name
  expression (Number from n suffix decimal) env = constant (number_kind n suffix decimal) (pos n)
  expression (Char from n) env = constant I32 n
  expression (Text from bytes) env = Fine (AnObject (TextObject from (length bytes)))
  expression (Binary from s x y) env = do
    a ← expression x env
    b ← expression y env
    a_value (binary (extents env) from s (value_of a) (value_of b))
  expression (Assign from s x y) env = do
    a ← expression x env
    b ← expression y env
    a_value (assignment (extents env) from s a (value_of b))
  expression (Cond from x y z) env = do
    a ← expression x env
    b ← expression y env
    c ← expression z env
    a_value (choice from (value_of a) (value_of b) (value_of c))
  expression (Prefix from s x) env = do
    a ← expression x env
    prefixed (extents env) from s a
  expression (Postfix from s x) env = do
    a ← expression x env
    postfixed (extents env) from s a
  expression (SizeofExpr from x) env = do
    a ← expression x env
    unevaluated a
    keep from 15 (is_complete (extents env) (typed_type a))
    constant U64 (pos (size_in (extents env) (typed_type a)))
  expression (SizeofType from d) env = do
    t ← declared_type d env
    keep from 15 (is_complete (extents env) t)
    constant U64 (pos (size_in (extents env) t))
  expression (Cast from d x) env = do
    t ← declared_type d env
    a ← expression x env
    a_value (cast from t (value_of a))
  expression (Index from x y) env = do
    a ← expression x env
    b ← expression y env
    subscript (extents env) from (value_of a) (value_of b)
  expression (Call from x xs) env = do
    f ← elim (builtin_in env x) [
      | Some b ↦ builtin_called (start_of x) b
      | None ↦ expression x env >>=
          called from
    ]
    vs ← arguments xs env from f.2
    Fine (AValue (CallOf f.0 vs f.1))
  expression (Member from x name) env = do
    a ← expression x env
    member env from a name
  expression (Arrow from x name) env = do
    a ← expression x env
    arrow_of env from (value_of a) (value_type (value_of a)) name

  -- as many arguments as parameters, each converted as if by assignment
  pub arguments : Exprs → Environment → (from : ℕ) → CTypes → Checked Values
  arguments NoExprs env from NoTypes = Fine NoValues
  arguments NoExprs env from (MoreTypes t ts) = Broken from 9
  arguments (MoreExprs x xs) env from NoTypes = Broken from 9
  arguments (MoreExprs x xs) env from (MoreTypes t ts) = do
    a ← expression x env
    v ← assigned (start_of x) t (value_of a)
    vs ← arguments xs env from ts
    Fine (MoreValues v vs)

  -- the type that a declaration gives its name
  pub declared_type : Decl → Environment → Checked CType
  declared_type (Declare from an b ps n r) env = do
    t ← declarator_type ps env (base_type env b)
    small (is_small (extents env) t)
    Fine t

  -- the type of a declarator, from the part farthest from the name to the nearest; what a pointer leads to
  -- and an array consists of is small
  pub declarator_type : Parts → Environment → CType → Checked CType
  declarator_type NoParts env t = Fine t
  declarator_type (Pointer from ps) env t = do
    small (is_small (extents env) t)
    declarator_type ps env (PointerTo t)
  declarator_type (Array from x ps) env t = do
    complete (extents env) from t
    small (is_small (extents env) t)
    a ← expression x env
    unevaluated a
    n ← length_of from (integer_constant (value_of a))
    declarator_type ps env (ArrayOf n t)
  declarator_type (Params from ds ps) env t = do
    keep from 3 (is_result t)
    ts ← parameter_types ds (inner env) 0
    declarator_type ps env (FunctionOf t ts)

  -- the types of parameters, from the one of this place on; each name is declared from there on
  pub parameter_types : Decls → Environment → (place : ℕ) → Checked CTypes
  parameter_types NoDecls env place = Fine NoTypes
  parameter_types (MoreDecls d ds) env place = do
    t ← parameter_type d env
    within ← parameter_scope d env place t
    ts ← parameter_types ds within (place + 1)
    Fine (MoreTypes t ts)

  pub parameter_type : Decl → Environment → Checked CType
  parameter_type (Declare from an b ps n r) env = do
    annotation_types an env
    t ← declarator_type ps env (base_type env b)
    keep from 3 (is_scalar (adjusted t))
    Fine (adjusted t)

  pub parameter_scope : Decl → Environment → (place : ℕ) → CType → Checked Environment
  parameter_scope (Declare from an b ps n r) env place t = with_parameter env from place n t

  -- each sizeof in annotations has a complete object type
  pub annotation_types : Annots → Environment → Checked (Unit {0})
  annotation_types NoAnnots env = Fine tt
  annotation_types (MoreAnnots x xs) env = do
    annotation_type x env
    annotation_types xs env

  pub annotation_type : Annot → Environment → Checked (Unit {0})
  annotation_type (Annotate from n is) env = item_types is env

  pub item_types : Items → Environment → Checked (Unit {0})
  item_types NoItems env = Fine tt
  item_types (MoreItems x xs) env = do
    item_type x env
    item_types xs env

  pub item_type : Item → Environment → Checked (Unit {0})
  item_type (OneFactor from a) env = atom_type a env from
  item_type (TwoFactors from a b) env = do
    atom_type a env from
    atom_type b env from

  pub atom_type : Atom → Environment → (from : ℕ) → Checked (Unit {0})
  atom_type (SizeofAtom d) env from = do
    t ← declared_type d env
    keep from 15 (is_complete (extents env) t)
  atom_type _ env from = Fine tt
