-- How many nodes a source has. A node is a statement, an expression, a value in braces, or a declarator:
-- each part of one, and its name or the place where it lacks one.
use Rattle.std.specs.Prelude.{◌≡◌, ℕ, ◌+◌, ◌==◌, ◌-◌, ◌^◌, min, Bool, false, if◌then◌else◌, List, Option, Some, None}
use Rattle.c_syntax.specs.Syntax.{Expr, Exprs, MaybeExpr, Decl, Decls, Annots, Annot, Items, Item, Atom, Parts, Value, Values, Rest, Stmt, Entries, Entry, First, Name, Number, Char, Text, Binary, Assign, Cond, Prefix, Postfix, SizeofExpr, SizeofType, Cast, Index, Call, Member, Arrow, NoExprs, MoreExprs, NoExpr, OneExpr, Declare, NoDecls, MoreDecls, NoAnnots, MoreAnnots, Annotate, NoItems, MoreItems, OneFactor, TwoFactors, NameAtom, NumberAtom, ReturnAtom, SizeofAtom, NoParts, Pointer, Array, Params, Plain, Braces, NoValues, MoreValues, NoRest, Initial, Body, Members, Block, Expression, If, IfElse, While, Do, For, Break, Continue, Return, NoEntries, MoreEntries, LocalEntry, StmtEntry, NoFirst, LocalFirst, ExprFirst}
use Rattle.c_parser_moves.specs.declared.action.Action.{Action}
use Rattle.c_parser_actions.specs.Builds.{Builds}

abbrev mutual
  pub expr_nodes : Expr → ℕ
  expr_nodes (Name f n) = 1
  expr_nodes (Number f v s d) = 1
  expr_nodes (Char f v) = 1
  expr_nodes (Text f n) = 1
  expr_nodes (Binary f s x y) = 1 + (expr_nodes x + expr_nodes y)
  expr_nodes (Assign f s x y) = 1 + (expr_nodes x + expr_nodes y)
  expr_nodes (Cond f x y z) = 1 + (expr_nodes x + (expr_nodes y + expr_nodes z))
  expr_nodes (Prefix f s x) = 1 + expr_nodes x
  expr_nodes (Postfix f s x) = 1 + expr_nodes x
  expr_nodes (SizeofExpr f x) = 1 + expr_nodes x
  expr_nodes (SizeofType f d) = 1 + decl_nodes d
  expr_nodes (Cast f d x) = 1 + (decl_nodes d + expr_nodes x)
  expr_nodes (Index f x y) = 1 + (expr_nodes x + expr_nodes y)
  expr_nodes (Call f x xs) = 1 + (expr_nodes x + exprs_nodes xs)
  expr_nodes (Member f x n) = 1 + expr_nodes x
  expr_nodes (Arrow f x n) = 1 + expr_nodes x

  pub exprs_nodes : Exprs → ℕ
  exprs_nodes NoExprs = 0
  exprs_nodes (MoreExprs x xs) = expr_nodes x + exprs_nodes xs

  pub maybe_nodes : MaybeExpr → ℕ
  maybe_nodes NoExpr = 0
  maybe_nodes (OneExpr x) = expr_nodes x

  -- a struct's definition has no declarator
  pub decl_nodes : Decl → ℕ
  decl_nodes (Declare f an b ps n (Members ds)) = decls_nodes ds
  decl_nodes (Declare f an b ps n r) = annots_nodes an + (parts_nodes ps + rest_nodes r)

  pub decls_nodes : Decls → ℕ
  decls_nodes NoDecls = 0
  decls_nodes (MoreDecls d ds) = decl_nodes d + decls_nodes ds

  pub annots_nodes : Annots → ℕ
  annots_nodes NoAnnots = 0
  annots_nodes (MoreAnnots x xs) = annot_nodes x + annots_nodes xs

  pub annot_nodes : Annot → ℕ
  annot_nodes (Annotate f n is) = items_nodes is

  pub items_nodes : Items → ℕ
  items_nodes NoItems = 0
  items_nodes (MoreItems x xs) = item_nodes x + items_nodes xs

  pub item_nodes : Item → ℕ
  item_nodes (OneFactor f a) = atom_nodes a
  item_nodes (TwoFactors f a b) = atom_nodes a + atom_nodes b

  pub atom_nodes : Atom → ℕ
  atom_nodes (NameAtom n) = 0
  atom_nodes (NumberAtom v) = 0
  atom_nodes ReturnAtom = 0
  atom_nodes (SizeofAtom d) = decl_nodes d

  -- the name, or the place where it is lacking, is one
  pub parts_nodes : Parts → ℕ
  parts_nodes NoParts = 1
  parts_nodes (Pointer f ps) = 1 + parts_nodes ps
  parts_nodes (Array f x ps) = 1 + (expr_nodes x + parts_nodes ps)
  parts_nodes (Params f ds ps) = 1 + (decls_nodes ds + parts_nodes ps)

  pub value_nodes : Value → ℕ
  value_nodes (Plain x) = expr_nodes x
  value_nodes (Braces f vs) = 1 + values_nodes vs

  pub values_nodes : Values → ℕ
  values_nodes NoValues = 0
  values_nodes (MoreValues v vs) = value_nodes v + values_nodes vs

  pub rest_nodes : Rest → ℕ
  rest_nodes NoRest = 0
  rest_nodes (Initial v) = value_nodes v
  rest_nodes (Body s) = stmt_nodes s
  rest_nodes (Members ds) = decls_nodes ds

  pub stmt_nodes : Stmt → ℕ
  stmt_nodes (Block f es) = 1 + entries_nodes es
  stmt_nodes (Expression f x) = 1 + maybe_nodes x
  stmt_nodes (If f x s) = 1 + (expr_nodes x + stmt_nodes s)
  stmt_nodes (IfElse f x s z) = 1 + (expr_nodes x + (stmt_nodes s + stmt_nodes z))
  stmt_nodes (While f x s) = 1 + (expr_nodes x + stmt_nodes s)
  stmt_nodes (Do f s x) = 1 + (stmt_nodes s + expr_nodes x)
  stmt_nodes (For f a x y s) = 1 + (first_nodes a + (maybe_nodes x + (maybe_nodes y + stmt_nodes s)))
  stmt_nodes (Break f) = 1
  stmt_nodes (Continue f) = 1
  stmt_nodes (Return f x) = 1 + maybe_nodes x

  pub entries_nodes : Entries → ℕ
  entries_nodes NoEntries = 0
  entries_nodes (MoreEntries x xs) = entry_nodes x + entries_nodes xs

  pub entry_nodes : Entry → ℕ
  entry_nodes (LocalEntry ds) = decls_nodes ds
  entry_nodes (StmtEntry s) = stmt_nodes s

  pub first_nodes : First → ℕ
  first_nodes NoFirst = 0
  first_nodes (LocalFirst ds) = decls_nodes ds
  first_nodes (ExprFirst x) = expr_nodes x

-- where a list of annotations begins; None of an empty one
abbrev pub list_offset : Annots → Option ℕ
list_offset NoAnnots = None
list_offset (MoreAnnots (Annotate f n is) an) = Some f

-- whether two lists begin at one place, so that they are one list before several names
abbrev pub is_same_list : Option ℕ → Option ℕ → Bool
is_same_list (Some f) (Some g) = f == g
is_same_list _ _ = false

-- the nodes of a list of annotations, but none where the declaration before has the same list
abbrev pub new_nodes : (before : Option ℕ) → Annots → ℕ
new_nodes before an = if is_same_list before (list_offset an) then 0 else annots_nodes an

abbrev pub list_offset_of : Decl → Option ℕ
list_offset_of (Declare f an b ps n r) = list_offset an

-- a declaration outside any other, whose list of annotations may be that of the declaration before
abbrev pub top_nodes : (before : Option ℕ) → Decl → ℕ
top_nodes before (Declare f an b ps n (Members ds)) = decls_nodes ds
top_nodes before (Declare f an b ps n r) = new_nodes before an + (parts_nodes ps + rest_nodes r)

abbrev pub tops_nodes : (before : Option ℕ) → Decls → ℕ
tops_nodes before NoDecls = 0
tops_nodes before (MoreDecls d ds) = top_nodes before d + tops_nodes (list_offset_of d) ds

-- the nodes of a source; a list of annotations before several names counts once
abbrev pub source_nodes : Decls → ℕ
source_nodes ds = tops_nodes None ds

-- a count of 64 bits; one that is greater counts as the greatest
abbrev pub capped : ℕ → ℕ
capped n = min n (2 ^ 64 - 1)

-- as many nodes has each source that the actions build
abbrev pub IsCount : List Action → ℕ → Type 0
IsCount v count = (ds : Decls) → Builds v ds → count ≡ capped (source_nodes ds)
