-- Which numbers stand in sources.
use Rattle.std.specs.Prelude.{ℕ, ◌<◌, Bool, List, [], ◌∷◌}
use Rattle.c_lexer.specs.declared.token.Suffix.{Suffix}
use Rattle.c_lexer.specs.declared.token.Kind.{Kind}
use Rattle.c_lexer.specs.declared.token.Kind.TheVariants as kinds
use Rattle.c_lexer.specs.declared.token.Token.{Token}
use Rattle.c_lexer.specs.Numbers.{limit}
use Rattle.c_syntax.specs.Syntax.{Expr, Exprs, MaybeExpr, Decl, Decls, Annots, Annot, Items, Item, Atom, Parts, Value, Values, Rest, Stmt, Entries, Entry, First, Name, Number, Char, Text, Binary, Assign, Cond, Prefix, Postfix, SizeofExpr, SizeofType, Cast, Index, Call, Member, Arrow, NoExprs, MoreExprs, NoExpr, OneExpr, Declare, NoDecls, MoreDecls, NoAnnots, MoreAnnots, Annotate, NoItems, MoreItems, OneFactor, TwoFactors, NameAtom, NumberAtom, ReturnAtom, SizeofAtom, NoParts, Pointer, Array, Params, Plain, Braces, NoValues, MoreValues, NoRest, Initial, Body, Members, Block, Expression, If, IfElse, While, Do, For, Break, Continue, Return, NoEntries, MoreEntries, LocalEntry, StmtEntry, NoFirst, LocalFirst, ExprFirst}

-- a number that a token can have, by its value, its suffix and whether it is decimal: a type can represent
-- it (C11 6.4.4.1)
abbrev pub IsNumber : ℕ → Suffix → Bool → Type 0
IsNumber v suffix decimal = v < limit suffix decimal

-- each number in an expression is such
abbrev mutual
  pub FitsExpr : Expr → Type 0
  FitsExpr (Name f n) = Unit {0}
  FitsExpr (Number f v s d) = IsNumber v s d
  FitsExpr (Char f v) = Unit {0}
  FitsExpr (Text f n) = Unit {0}
  FitsExpr (Binary f s x y) = FitsExpr x × FitsExpr y
  FitsExpr (Assign f s x y) = FitsExpr x × FitsExpr y
  FitsExpr (Cond f x y z) = FitsExpr x × FitsExpr y × FitsExpr z
  FitsExpr (Prefix f s x) = FitsExpr x
  FitsExpr (Postfix f s x) = FitsExpr x
  FitsExpr (SizeofExpr f x) = FitsExpr x
  FitsExpr (SizeofType f d) = FitsDecl d
  FitsExpr (Cast f d x) = FitsDecl d × FitsExpr x
  FitsExpr (Index f x y) = FitsExpr x × FitsExpr y
  FitsExpr (Call f x xs) = FitsExpr x × FitsExprs xs
  FitsExpr (Member f x n) = FitsExpr x
  FitsExpr (Arrow f x n) = FitsExpr x

  pub FitsExprs : Exprs → Type 0
  FitsExprs NoExprs = Unit {0}
  FitsExprs (MoreExprs x xs) = FitsExpr x × FitsExprs xs

  pub FitsMaybe : MaybeExpr → Type 0
  FitsMaybe NoExpr = Unit {0}
  FitsMaybe (OneExpr x) = FitsExpr x

  pub FitsDecl : Decl → Type 0
  FitsDecl (Declare f an b ps n r) = FitsAnnots an × FitsParts ps × FitsRest r

  pub FitsDecls : Decls → Type 0
  FitsDecls NoDecls = Unit {0}
  FitsDecls (MoreDecls d ds) = FitsDecl d × FitsDecls ds

  pub FitsAnnots : Annots → Type 0
  FitsAnnots NoAnnots = Unit {0}
  FitsAnnots (MoreAnnots x xs) = FitsAnnot x × FitsAnnots xs

  pub FitsAnnot : Annot → Type 0
  FitsAnnot (Annotate f n is) = FitsItems is

  pub FitsItems : Items → Type 0
  FitsItems NoItems = Unit {0}
  FitsItems (MoreItems x xs) = FitsItem x × FitsItems xs

  pub FitsItem : Item → Type 0
  FitsItem (OneFactor f a) = FitsAtom a
  FitsItem (TwoFactors f a b) = FitsAtom a × FitsAtom b

  -- a number that is an annotation's factor is no expression
  pub FitsAtom : Atom → Type 0
  FitsAtom (NameAtom n) = Unit {0}
  FitsAtom (NumberAtom v) = Unit {0}
  FitsAtom ReturnAtom = Unit {0}
  FitsAtom (SizeofAtom d) = FitsDecl d

  pub FitsParts : Parts → Type 0
  FitsParts NoParts = Unit {0}
  FitsParts (Pointer f ps) = FitsParts ps
  FitsParts (Array f x ps) = FitsExpr x × FitsParts ps
  FitsParts (Params f ds ps) = FitsDecls ds × FitsParts ps

  pub FitsValue : Value → Type 0
  FitsValue (Plain x) = FitsExpr x
  FitsValue (Braces f vs) = FitsValues vs

  pub FitsValues : Values → Type 0
  FitsValues NoValues = Unit {0}
  FitsValues (MoreValues v vs) = FitsValue v × FitsValues vs

  pub FitsRest : Rest → Type 0
  FitsRest NoRest = Unit {0}
  FitsRest (Initial v) = FitsValue v
  FitsRest (Body s) = FitsStmt s
  FitsRest (Members ds) = FitsDecls ds

  pub FitsStmt : Stmt → Type 0
  FitsStmt (Block f es) = FitsEntries es
  FitsStmt (Expression f x) = FitsMaybe x
  FitsStmt (If f x s) = FitsExpr x × FitsStmt s
  FitsStmt (IfElse f x s z) = FitsExpr x × FitsStmt s × FitsStmt z
  FitsStmt (While f x s) = FitsExpr x × FitsStmt s
  FitsStmt (Do f s x) = FitsStmt s × FitsExpr x
  FitsStmt (For f a x y s) = FitsFirst a × FitsMaybe x × FitsMaybe y × FitsStmt s
  FitsStmt (Break f) = Unit {0}
  FitsStmt (Continue f) = Unit {0}
  FitsStmt (Return f x) = FitsMaybe x

  pub FitsEntries : Entries → Type 0
  FitsEntries NoEntries = Unit {0}
  FitsEntries (MoreEntries x xs) = FitsEntry x × FitsEntries xs

  pub FitsEntry : Entry → Type 0
  FitsEntry (LocalEntry ds) = FitsDecls ds
  FitsEntry (StmtEntry s) = FitsStmt s

  pub FitsFirst : First → Type 0
  FitsFirst NoFirst = Unit {0}
  FitsFirst (LocalFirst ds) = FitsDecls ds
  FitsFirst (ExprFirst x) = FitsExpr x

-- the number of a token is such
abbrev pub FitsKind : Kind → Type 0
FitsKind (kinds.Number s d v) = IsNumber v s d
FitsKind _ = Unit {0}

-- each number among the tokens is such
abbrev pub FitsTokens : List Token → Type 0
FitsTokens [] = Unit {0}
FitsTokens (t ∷ ts) = FitsKind t.kind × FitsTokens ts
