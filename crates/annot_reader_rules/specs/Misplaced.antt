-- Annotations of parameters that stand elsewhere than in a function's own list of parameters.
use Rattle.std.specs.Prelude.{ℕ, Option, Some, None}
use Rattle.c_syntax.specs.Syntax.{Expr, Exprs, MaybeExpr, Decl, Decls, Annots, Annot, Items, Item, Atom, Parts, Value, Values, Rest, Stmt, Entries, Entry, First, Name, Number, Char, Text, Binary, Assign, Cond, Prefix, Postfix, SizeofExpr, SizeofType, Cast, Index, Call, Member, Arrow, NoExprs, MoreExprs, NoExpr, OneExpr, Declare, NoDecls, MoreDecls, NoAnnots, MoreAnnots, Annotate, NoItems, MoreItems, OneFactor, TwoFactors, NameAtom, NumberAtom, ReturnAtom, SizeofAtom, NoParts, Pointer, Array, Params, Plain, Braces, NoValues, MoreValues, NoRest, Initial, Body, Members, Block, Expression, If, IfElse, While, Do, For, Break, Continue, Return, NoEntries, MoreEntries, LocalEntry, StmtEntry, NoFirst, LocalFirst, ExprFirst}
use Rattle.c_types_rules.specs.Checked.{Checked, Fine, Broken, ◌>>=◌, ◌>>◌}

-- the word of an annotation stands only in its place
abbrev pub word_out_of_place : Annots → Checked (Unit {0})
word_out_of_place NoAnnots = Fine tt
word_out_of_place (MoreAnnots (Annotate from n is) xs) = Broken from 1

-- no parameter in the expression, declarator, statement and so on has annotations
abbrev mutual
  pub bare : Expr → Checked (Unit {0})
  bare (Name f n) = Fine tt
  bare (Number f v s d) = Fine tt
  bare (Char f v) = Fine tt
  bare (Text f n) = Fine tt
  bare (Binary f s x y) = bare x >> bare y
  bare (Assign f s x y) = bare x >> bare y
  bare (Cond f x y z) = bare x >> bare y >> bare z
  bare (Prefix f s x) = bare x
  bare (Postfix f s x) = bare x
  bare (SizeofExpr f x) = bare x
  bare (SizeofType f d) = bare_decl d
  bare (Cast f d x) = bare_decl d >> bare x
  bare (Index f x y) = bare x >> bare y
  bare (Call f x xs) = bare x >> bare_exprs xs
  bare (Member f x n) = bare x
  bare (Arrow f x n) = bare x

  pub bare_exprs : Exprs → Checked (Unit {0})
  bare_exprs NoExprs = Fine tt
  bare_exprs (MoreExprs x xs) = bare x >> bare_exprs xs

  pub bare_maybe : MaybeExpr → Checked (Unit {0})
  bare_maybe NoExpr = Fine tt
  bare_maybe (OneExpr x) = bare x

  -- the declaration has none of its own either
  pub bare_decl : Decl → Checked (Unit {0})
  bare_decl (Declare f an b ps n r) = word_out_of_place an >> bare_parts ps >> bare_rest r

  pub bare_decls : Decls → Checked (Unit {0})
  bare_decls NoDecls = Fine tt
  bare_decls (MoreDecls d ds) = bare_decl d >> bare_decls ds

  pub bare_parts : Parts → Checked (Unit {0})
  bare_parts NoParts = Fine tt
  bare_parts (Pointer f ps) = bare_parts ps
  bare_parts (Array f x ps) = bare x >> bare_parts ps
  bare_parts (Params f ds ps) = bare_decls ds >> bare_parts ps

  pub bare_annots : Annots → Checked (Unit {0})
  bare_annots NoAnnots = Fine tt
  bare_annots (MoreAnnots x xs) = bare_annot x >> bare_annots xs

  pub bare_annot : Annot → Checked (Unit {0})
  bare_annot (Annotate f n is) = bare_items is

  pub bare_items : Items → Checked (Unit {0})
  bare_items NoItems = Fine tt
  bare_items (MoreItems x xs) = bare_item x >> bare_items xs

  pub bare_item : Item → Checked (Unit {0})
  bare_item (OneFactor f a) = bare_atom a
  bare_item (TwoFactors f a b) = bare_atom a >> bare_atom b

  pub bare_atom : Atom → Checked (Unit {0})
  bare_atom (SizeofAtom d) = bare_decl d
  bare_atom _ = Fine tt

  pub bare_value : Value → Checked (Unit {0})
  bare_value (Plain x) = bare x
  bare_value (Braces f vs) = bare_values vs

  pub bare_values : Values → Checked (Unit {0})
  bare_values NoValues = Fine tt
  bare_values (MoreValues v vs) = bare_value v >> bare_values vs

  pub bare_rest : Rest → Checked (Unit {0})
  bare_rest NoRest = Fine tt
  bare_rest (Initial v) = bare_value v
  bare_rest (Body s) = bare_stmt s
  bare_rest (Members ds) = bare_decls ds

  pub bare_stmt : Stmt → Checked (Unit {0})
  bare_stmt (Block f es) = bare_entries es
  bare_stmt (Expression f x) = bare_maybe x
  bare_stmt (If f x s) = bare x >> bare_stmt s
  bare_stmt (IfElse f x s z) = bare x >> bare_stmt s >> bare_stmt z
  bare_stmt (While f x s) = bare x >> bare_stmt s
  bare_stmt (Do f s x) = bare_stmt s >> bare x
  bare_stmt (For f a x y s) = bare_first a >> bare_maybe x >> bare_maybe y >> bare_stmt s
  bare_stmt (Break f) = Fine tt
  bare_stmt (Continue f) = Fine tt
  bare_stmt (Return f x) = bare_maybe x

  pub bare_entries : Entries → Checked (Unit {0})
  bare_entries NoEntries = Fine tt
  bare_entries (MoreEntries x xs) = bare_entry x >> bare_entries xs

  pub bare_entry : Entry → Checked (Unit {0})
  bare_entry (LocalEntry ds) = bare_decls ds
  bare_entry (StmtEntry s) = bare_stmt s

  pub bare_first : First → Checked (Unit {0})
  bare_first NoFirst = Fine tt
  bare_first (LocalFirst ds) = bare_decls ds
  bare_first (ExprFirst x) = bare x
