-- Sources as trees. Each node has the offset of its first token.
use Rattle.std.specs.Prelude.{ℕ, ℤ, Bool, List, Option}
use Rattle.c_lexer.specs.declared.token.Sign.{Sign}
use Rattle.c_lexer.specs.declared.token.Suffix.{Suffix}
use Rattle.c_syntax.specs.declared.declaration.Base.{Base}

mutual
  -- C11 6.5
  pub data Expr : Type 0 where
    Name : (from : ℕ) → (name : List ℕ) → Expr
    Number : (from value : ℕ) → Suffix → (decimal : Bool) → Expr
    Char : (from : ℕ) → (value : ℤ) → Expr
    Text : (from : ℕ) → (bytes : List ℕ) → Expr
    Binary : (from : ℕ) → Sign → Expr → Expr → Expr
    Assign : (from : ℕ) → Sign → Expr → Expr → Expr
    Cond : (from : ℕ) → Expr → Expr → Expr → Expr
    Prefix : (from : ℕ) → Sign → Expr → Expr
    Postfix : (from : ℕ) → Sign → Expr → Expr
    SizeofExpr : (from : ℕ) → Expr → Expr
    SizeofType : (from : ℕ) → Decl → Expr
    Cast : (from : ℕ) → Decl → Expr → Expr
    Index : (from : ℕ) → Expr → Expr → Expr
    Call : (from : ℕ) → Expr → Exprs → Expr
    Member : (from : ℕ) → Expr → (name : List ℕ) → Expr
    Arrow : (from : ℕ) → Expr → (name : List ℕ) → Expr

  pub data Exprs : Type 0 where
    NoExprs : Exprs
    MoreExprs : Expr → Exprs → Exprs

  pub data MaybeExpr : Type 0 where
    NoExpr : MaybeExpr
    OneExpr : Expr → MaybeExpr

  -- a declared name, a parameter, a member, a type name or a struct's definition (C11 6.7)
  pub data Decl : Type 0 where
    Declare : (from : ℕ) → Annots → Base → Parts → (name : Option (List ℕ)) → Rest → Decl

  pub data Decls : Type 0 where
    NoDecls : Decls
    MoreDecls : Decl → Decls → Decls

  pub data Annots : Type 0 where
    NoAnnots : Annots
    MoreAnnots : Annot → Annots → Annots

  pub data Annot : Type 0 where
    Annotate : (from : ℕ) → (name : List ℕ) → Items → Annot

  pub data Items : Type 0 where
    NoItems : Items
    MoreItems : Item → Items → Items

  -- an item is a factor, or the product of two
  pub data Item : Type 0 where
    OneFactor : (from : ℕ) → Atom → Item
    TwoFactors : (from : ℕ) → Atom → Atom → Item

  pub data Atom : Type 0 where
    NameAtom : (name : List ℕ) → Atom
    NumberAtom : (value : ℕ) → Atom
    ReturnAtom : Atom
    SizeofAtom : Decl → Atom

  -- the parts of a declarator, the one farthest from the name first (C11 6.7.6)
  pub data Parts : Type 0 where
    NoParts : Parts
    Pointer : (from : ℕ) → Parts → Parts
    Array : (from : ℕ) → Expr → Parts → Parts
    Params : (from : ℕ) → Decls → Parts → Parts

  -- C11 6.7.9
  pub data Value : Type 0 where
    Plain : Expr → Value
    Braces : (from : ℕ) → Values → Value

  pub data Values : Type 0 where
    NoValues : Values
    MoreValues : Value → Values → Values

  -- what follows a declarator, or is in a struct's definition
  pub data Rest : Type 0 where
    NoRest : Rest
    Initial : Value → Rest
    Body : Stmt → Rest
    Members : Decls → Rest

  -- C11 6.8
  pub data Stmt : Type 0 where
    Block : (from : ℕ) → Entries → Stmt
    Expression : (from : ℕ) → MaybeExpr → Stmt
    If : (from : ℕ) → Expr → Stmt → Stmt
    IfElse : (from : ℕ) → Expr → Stmt → Stmt → Stmt
    While : (from : ℕ) → Expr → Stmt → Stmt
    Do : (from : ℕ) → Stmt → Expr → Stmt
    For : (from : ℕ) → First → MaybeExpr → MaybeExpr → Stmt → Stmt
    Break : (from : ℕ) → Stmt
    Continue : (from : ℕ) → Stmt
    Return : (from : ℕ) → MaybeExpr → Stmt

  pub data Entries : Type 0 where
    NoEntries : Entries
    MoreEntries : Entry → Entries → Entries

  -- what stands in a block: the names of a declaration, or a statement
  pub data Entry : Type 0 where
    LocalEntry : Decls → Entry
    StmtEntry : Stmt → Entry

  pub data First : Type 0 where
    NoFirst : First
    LocalFirst : Decls → First
    ExprFirst : Expr → First

-- the list with one more at its end
abbrev pub exprs_then : Exprs → Expr → Exprs
exprs_then NoExprs z = MoreExprs z NoExprs
exprs_then (MoreExprs x xs) z = MoreExprs x (exprs_then xs z)

-- the list with one more at its end
abbrev pub decls_then : Decls → Decl → Decls
decls_then NoDecls z = MoreDecls z NoDecls
decls_then (MoreDecls x xs) z = MoreDecls x (decls_then xs z)

-- the list with one more at its end
abbrev pub annots_then : Annots → Annot → Annots
annots_then NoAnnots z = MoreAnnots z NoAnnots
annots_then (MoreAnnots x xs) z = MoreAnnots x (annots_then xs z)

-- the list with one more at its end
abbrev pub items_then : Items → Item → Items
items_then NoItems z = MoreItems z NoItems
items_then (MoreItems x xs) z = MoreItems x (items_then xs z)

-- the list with one more at its end
abbrev pub values_then : Values → Value → Values
values_then NoValues z = MoreValues z NoValues
values_then (MoreValues x xs) z = MoreValues x (values_then xs z)

-- the list with one more at its end
abbrev pub entries_then : Entries → Entry → Entries
entries_then NoEntries z = MoreEntries z NoEntries
entries_then (MoreEntries x xs) z = MoreEntries x (entries_then xs z)
