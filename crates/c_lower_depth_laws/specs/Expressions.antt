-- The depth of the evaluation stack by the syntax of expressions: how many values are on it at most while
-- an expression is evaluated, its own value among them. `objects` has the names that stand for objects; any
-- other name that is called is a function's.
use Rattle.std.specs.Prelude.{ℕ, ◌+◌, max, Bool, true, false, not, if◌then◌else◌, List, [], ◌∷◌, Option, Some, None}
use Rattle.r2_num.specs.declared.operations.Op.{Op}
use Rattle.c_lexer.specs.declared.token.Sign.{Sign}
use Rattle.c_lexer.specs.declared.token.Sign.TheVariants as signs
use Rattle.c_syntax.specs.Syntax.{Expr, Exprs, Decl, Decls, Annots, Annot, Items, Item, Atom, Parts, Name, Number, Char, Text, Binary, Assign, Cond, Prefix, Postfix, SizeofExpr, SizeofType, Cast, Index, Call, Member, Arrow, NoExprs, MoreExprs, Declare, NoDecls, MoreDecls, NoAnnots, MoreAnnots, Annotate, NoItems, MoreItems, OneFactor, TwoFactors, NameAtom, NumberAtom, ReturnAtom, SizeofAtom, NoParts, Pointer, Array, Params}
use Rattle.c_scopes.specs.Scopes.{same_name}
use Rattle.c_types_rules.specs.Operators.{operator_in}

-- whether a name is one of these
abbrev pub among : List ℕ → List (List ℕ) → Bool
among name [] = false
among name (other ∷ names) = if same_name name other then true else among name names

-- whether what is called is the name of a function
abbrev pub is_direct : Expr → (objects : List (List ℕ)) → Bool
is_direct (Name from name) objects = not (among name objects)
is_direct x objects = false

-- the right side is evaluated above the left value; of `&&`, `||` and `,` nothing is left of it by then
abbrev pub binary_depth : Sign → (left right : ℕ) → ℕ
binary_depth signs.Comma a b = max a b
binary_depth signs.OrOr a b = max a b
binary_depth signs.AndAnd a b = max a b
binary_depth s a b = max a (1 + b)

-- the right side is evaluated above the address on the left; of a compound one the old value is above that
abbrev pub assignment_depth : (compound : Option Op) → (left right : ℕ) → ℕ
assignment_depth None a b = max a (1 + b)
assignment_depth (Some op) a b = max a (2 + b)

-- `++` and `--` have the old value above the address
abbrev pub prefix_depth : Sign → ℕ → ℕ
prefix_depth signs.Increment a = max a 2
prefix_depth signs.Decrement a = max a 2
prefix_depth s a = a

-- arguments are evaluated one above the other, and those of a pointer to a function above it
abbrev pub call_depth : (direct : Bool) → (called : ℕ) → (arguments above : ℕ) → ℕ
call_depth true called arguments above = max 1 arguments
call_depth false called arguments above = max called above

abbrev mutual
  -- of an expression; brackets leave no node
  pub expression_depth : Expr → (objects : List (List ℕ)) → ℕ
  expression_depth (Name from name) objects = 1
  expression_depth (Number from n suffix decimal) objects = 1
  expression_depth (Char from n) objects = 1
  expression_depth (Text from bytes) objects = 1
  expression_depth (Binary from s x y) objects =
      binary_depth s (expression_depth x objects) (expression_depth y objects)
  expression_depth (Assign from s x y) objects =
      assignment_depth (operator_in s) (expression_depth x objects) (expression_depth y objects)
  expression_depth (Cond from x y z) objects =
      max (expression_depth x objects) (max (expression_depth y objects) (expression_depth z objects))
  expression_depth (Prefix from s x) objects = prefix_depth s (expression_depth x objects)
  expression_depth (Postfix from s x) objects = max (expression_depth x objects) 2
  expression_depth (SizeofExpr from x) objects = 1
  expression_depth (SizeofType from d) objects = 1
  expression_depth (Cast from d x) objects = expression_depth x objects
  expression_depth (Index from x y) objects =
      max (expression_depth x objects) (1 + expression_depth y objects)
  expression_depth (Call from x xs) objects =
      call_depth (is_direct x objects) (expression_depth x objects) (arguments_depth xs objects 0)
      (arguments_depth xs objects 1)
  expression_depth (Member from x name) objects = expression_depth x objects
  expression_depth (Arrow from x name) objects = expression_depth x objects

  -- of arguments, where so many values are below the first
  pub arguments_depth : Exprs → (objects : List (List ℕ)) → (below : ℕ) → ℕ
  arguments_depth NoExprs objects below = 0
  arguments_depth (MoreExprs x xs) objects below =
      max (below + expression_depth x objects) (arguments_depth xs objects (1 + below))

-- the objects after a parameter, which may lack a name
abbrev pub with_param : Decl → (objects : List (List ℕ)) → List (List ℕ)
with_param (Declare from an b ps None r) objects = objects
with_param (Declare from an b ps (Some name) r) objects = name ∷ objects

abbrev mutual
  -- the greatest depth over what an expression has that isn't evaluated: operands of `sizeof`, and the
  -- lengths of arrays in its type names
  pub unevaluated_depth : Expr → (objects : List (List ℕ)) → ℕ
  unevaluated_depth (Name from name) objects = 0
  unevaluated_depth (Number from n suffix decimal) objects = 0
  unevaluated_depth (Char from n) objects = 0
  unevaluated_depth (Text from bytes) objects = 0
  unevaluated_depth (Binary from s x y) objects =
      max (unevaluated_depth x objects) (unevaluated_depth y objects)
  unevaluated_depth (Assign from s x y) objects =
      max (unevaluated_depth x objects) (unevaluated_depth y objects)
  unevaluated_depth (Cond from x y z) objects =
      max (unevaluated_depth x objects) (max (unevaluated_depth y objects) (unevaluated_depth z objects))
  unevaluated_depth (Prefix from s x) objects = unevaluated_depth x objects
  unevaluated_depth (Postfix from s x) objects = unevaluated_depth x objects
  unevaluated_depth (SizeofExpr from x) objects =
      max (unevaluated_depth x objects) (expression_depth x objects)
  unevaluated_depth (SizeofType from d) objects = lengths_depth d objects
  unevaluated_depth (Cast from d x) objects = max (lengths_depth d objects) (unevaluated_depth x objects)
  unevaluated_depth (Index from x y) objects =
      max (unevaluated_depth x objects) (unevaluated_depth y objects)
  unevaluated_depth (Call from x xs) objects =
      max (unevaluated_depth x objects) (arguments_unevaluated xs objects)
  unevaluated_depth (Member from x name) objects = unevaluated_depth x objects
  unevaluated_depth (Arrow from x name) objects = unevaluated_depth x objects

  -- the same of arguments
  pub arguments_unevaluated : Exprs → (objects : List (List ℕ)) → ℕ
  arguments_unevaluated NoExprs objects = 0
  arguments_unevaluated (MoreExprs x xs) objects =
      max (unevaluated_depth x objects) (arguments_unevaluated xs objects)

  -- the greatest depth over the lengths of arrays in a declarator
  pub lengths_depth : Decl → (objects : List (List ℕ)) → ℕ
  lengths_depth (Declare from an b ps n r) objects = parts_depth ps objects

  -- the same of the parts of a declarator
  pub parts_depth : Parts → (objects : List (List ℕ)) → ℕ
  parts_depth NoParts objects = 0
  parts_depth (Pointer from ps) objects = parts_depth ps objects
  parts_depth (Array from x ps) objects =
      max (max (unevaluated_depth x objects) (expression_depth x objects)) (parts_depth ps objects)
  parts_depth (Params from ds ps) objects = max (params_depth ds objects) (parts_depth ps objects)

  -- a parameter's name stands for it from there on
  pub params_depth : Decls → (objects : List (List ℕ)) → ℕ
  params_depth NoDecls objects = 0
  params_depth (MoreDecls d ds) objects = max (param_depth d objects) (params_depth ds (with_param d objects))

  -- of a parameter, with its annotations
  pub param_depth : Decl → (objects : List (List ℕ)) → ℕ
  param_depth (Declare from an b ps n r) objects = max (annots_depth an objects) (parts_depth ps objects)

  -- the greatest depth over the lengths of arrays in annotations
  pub annots_depth : Annots → (objects : List (List ℕ)) → ℕ
  annots_depth NoAnnots objects = 0
  annots_depth (MoreAnnots x xs) objects = max (annot_depth x objects) (annots_depth xs objects)

  -- of one annotation
  pub annot_depth : Annot → (objects : List (List ℕ)) → ℕ
  annot_depth (Annotate from name is) objects = items_depth is objects

  -- of its items
  pub items_depth : Items → (objects : List (List ℕ)) → ℕ
  items_depth NoItems objects = 0
  items_depth (MoreItems x xs) objects = max (item_depth x objects) (items_depth xs objects)

  -- of an item
  pub item_depth : Item → (objects : List (List ℕ)) → ℕ
  item_depth (OneFactor from a) objects = atom_depth a objects
  item_depth (TwoFactors from a b) objects = max (atom_depth a objects) (atom_depth b objects)

  -- of a factor, which may be the size of a type
  pub atom_depth : Atom → (objects : List (List ℕ)) → ℕ
  atom_depth (NameAtom name) objects = 0
  atom_depth (NumberAtom n) objects = 0
  atom_depth ReturnAtom objects = 0
  atom_depth (SizeofAtom d) objects = lengths_depth d objects

-- the greatest depth over an expression and what it has that isn't evaluated
abbrev pub whole_depth : Expr → (objects : List (List ℕ)) → ℕ
whole_depth x objects = max (expression_depth x objects) (unevaluated_depth x objects)
