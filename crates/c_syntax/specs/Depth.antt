-- How deep nodes lie. A node is a statement, an expression, a value in braces, or a declarator: each part
-- of one, and its name or the place where it lacks one.
use Rattle.std.specs.Prelude.{◌≡◌, ◌⊎◌, ℕ, zero, suc, max}
use Rattle.c_syntax.specs.Syntax.{Expr, Exprs, MaybeExpr, Decl, Decls, Annots, Annot, Items, Item, Atom, Parts, Value, Values, Rest, Stmt, Entries, Entry, First, Name, Number, Char, Text, Binary, Assign, Cond, Prefix, Postfix, SizeofExpr, SizeofType, Cast, Index, Call, Member, Arrow, NoExprs, MoreExprs, NoExpr, OneExpr, Declare, NoDecls, MoreDecls, NoAnnots, MoreAnnots, Annotate, NoItems, MoreItems, OneFactor, TwoFactors, NameAtom, NumberAtom, ReturnAtom, SizeofAtom, NoParts, Pointer, Array, Params, Plain, Braces, NoValues, MoreValues, NoRest, Initial, Body, Members, Block, Expression, If, IfElse, While, Do, For, Break, Continue, Return, NoEntries, MoreEntries, LocalEntry, StmtEntry, NoFirst, LocalFirst, ExprFirst}

-- a node at the offset f, or one below it, which it holds
abbrev pub At : ℕ → (ℕ → Type 0) → ℕ → ℕ → Type 0
At f below zero o = o ≡ f
At f below (suc k) o = below k

-- a leaf at the offset f
abbrev pub Leaf : ℕ → ℕ → ℕ → Type 0
Leaf f k o = (k ≡ 0) × (o ≡ f)

-- the tree has a node at the offset o that k nodes of the tree hold
abbrev mutual
  pub Lies : Expr → ℕ → ℕ → Type 0
  Lies (Name f n) k o = Leaf f k o
  Lies (Number f v s d) k o = Leaf f k o
  Lies (Char f v) k o = Leaf f k o
  Lies (Text f n) k o = Leaf f k o
  Lies (Binary f s x y) k o = At f (λ j. Lies x j o ⊎ Lies y j o) k o
  Lies (Assign f s x y) k o = At f (λ j. Lies x j o ⊎ Lies y j o) k o
  Lies (Cond f x y z) k o = At f (λ j. (Lies x j o ⊎ Lies y j o) ⊎ Lies z j o) k o
  Lies (Prefix f s x) k o = At f (λ j. Lies x j o) k o
  Lies (Postfix f s x) k o = At f (λ j. Lies x j o) k o
  Lies (SizeofExpr f x) k o = At f (λ j. Lies x j o) k o
  Lies (SizeofType f d) k o = At f (λ j. LiesDecl d j o) k o
  Lies (Cast f d x) k o = At f (λ j. LiesDecl d j o ⊎ Lies x j o) k o
  Lies (Index f x y) k o = At f (λ j. Lies x j o ⊎ Lies y j o) k o
  Lies (Call f x xs) k o = At f (λ j. Lies x j o ⊎ LieExprs xs j o) k o
  Lies (Member f x n) k o = At f (λ j. Lies x j o) k o
  Lies (Arrow f x n) k o = At f (λ j. Lies x j o) k o

  pub LieExprs : Exprs → ℕ → ℕ → Type 0
  LieExprs NoExprs k o = ⊥
  LieExprs (MoreExprs x xs) k o = Lies x k o ⊎ LieExprs xs k o

  pub LiesMaybe : MaybeExpr → ℕ → ℕ → Type 0
  LiesMaybe NoExpr k o = ⊥
  LiesMaybe (OneExpr x) k o = Lies x k o

  pub LiesDecl : Decl → ℕ → ℕ → Type 0
  LiesDecl (Declare f an b ps n (Members ds)) k o = LieDecls ds k o
  LiesDecl (Declare f an b ps n r) k o = (LieAnnots an k o ⊎ LieParts ps f k o) ⊎ LiesRest r k o

  pub LieDecls : Decls → ℕ → ℕ → Type 0
  LieDecls NoDecls k o = ⊥
  LieDecls (MoreDecls d ds) k o = LiesDecl d k o ⊎ LieDecls ds k o

  pub LieAnnots : Annots → ℕ → ℕ → Type 0
  LieAnnots NoAnnots k o = ⊥
  LieAnnots (MoreAnnots x xs) k o = LiesAnnot x k o ⊎ LieAnnots xs k o

  pub LiesAnnot : Annot → ℕ → ℕ → Type 0
  LiesAnnot (Annotate f n is) k o = LieItems is k o

  pub LieItems : Items → ℕ → ℕ → Type 0
  LieItems NoItems k o = ⊥
  LieItems (MoreItems x xs) k o = LiesItem x k o ⊎ LieItems xs k o

  pub LiesItem : Item → ℕ → ℕ → Type 0
  LiesItem (OneFactor f a) k o = LiesAtom a k o
  LiesItem (TwoFactors f a b) k o = LiesAtom a k o ⊎ LiesAtom b k o

  pub LiesAtom : Atom → ℕ → ℕ → Type 0
  LiesAtom (NameAtom n) k o = ⊥
  LiesAtom (NumberAtom v) k o = ⊥
  LiesAtom ReturnAtom k o = ⊥
  LiesAtom (SizeofAtom d) k o = LiesDecl d k o

  -- each part holds the parts nearer to the name, and all hold the name, or the place where it is lacking,
  -- at the offset f
  pub LieParts : Parts → ℕ → ℕ → ℕ → Type 0
  LieParts NoParts f k o = Leaf f k o
  LieParts (Pointer g ps) f k o = At g (λ j. LieParts ps f j o) k o
  LieParts (Array g x ps) f k o = At g (λ j. Lies x j o ⊎ LieParts ps f j o) k o
  LieParts (Params g ds ps) f k o = At g (λ j. LieDecls ds j o ⊎ LieParts ps f j o) k o

  pub LiesValue : Value → ℕ → ℕ → Type 0
  LiesValue (Plain x) k o = Lies x k o
  LiesValue (Braces f vs) k o = At f (λ j. LieValues vs j o) k o

  pub LieValues : Values → ℕ → ℕ → Type 0
  LieValues NoValues k o = ⊥
  LieValues (MoreValues v vs) k o = LiesValue v k o ⊎ LieValues vs k o

  pub LiesRest : Rest → ℕ → ℕ → Type 0
  LiesRest NoRest k o = ⊥
  LiesRest (Initial v) k o = LiesValue v k o
  LiesRest (Body s) k o = LiesStmt s k o
  LiesRest (Members ds) k o = ⊥

  pub LiesStmt : Stmt → ℕ → ℕ → Type 0
  LiesStmt (Block f es) k o = At f (λ j. LieEntries es j o) k o
  LiesStmt (Expression f x) k o = At f (λ j. LiesMaybe x j o) k o
  LiesStmt (If f x s) k o = At f (λ j. Lies x j o ⊎ LiesStmt s j o) k o
  LiesStmt (IfElse f x s z) k o = At f (λ j. (Lies x j o ⊎ LiesStmt s j o) ⊎ LiesStmt z j o) k o
  LiesStmt (While f x s) k o = At f (λ j. Lies x j o ⊎ LiesStmt s j o) k o
  LiesStmt (Do f s x) k o = At f (λ j. LiesStmt s j o ⊎ Lies x j o) k o
  LiesStmt (For f a x y s) k o = At f (λ j. ((LiesFirst a j o ⊎ LiesMaybe x j o) ⊎ LiesMaybe y j o) ⊎
      LiesStmt s j o) k o
  LiesStmt (Break f) k o = Leaf f k o
  LiesStmt (Continue f) k o = Leaf f k o
  LiesStmt (Return f x) k o = At f (λ j. LiesMaybe x j o) k o

  pub LieEntries : Entries → ℕ → ℕ → Type 0
  LieEntries NoEntries k o = ⊥
  LieEntries (MoreEntries x xs) k o = LiesEntry x k o ⊎ LieEntries xs k o

  pub LiesEntry : Entry → ℕ → ℕ → Type 0
  LiesEntry (LocalEntry ds) k o = LieDecls ds k o
  LiesEntry (StmtEntry s) k o = LiesStmt s k o

  pub LiesFirst : First → ℕ → ℕ → Type 0
  LiesFirst NoFirst k o = ⊥
  LiesFirst (LocalFirst ds) k o = LieDecls ds k o
  LiesFirst (ExprFirst x) k o = Lies x k o

-- the greatest number of nodes of which each but the first is held by the one before
abbrev mutual
  pub tall : Expr → ℕ
  tall (Name f n) = 1
  tall (Number f v s d) = 1
  tall (Char f v) = 1
  tall (Text f n) = 1
  tall (Binary f s x y) = suc (max (tall x) (tall y))
  tall (Assign f s x y) = suc (max (tall x) (tall y))
  tall (Cond f x y z) = suc (max (max (tall x) (tall y)) (tall z))
  tall (Prefix f s x) = suc (tall x)
  tall (Postfix f s x) = suc (tall x)
  tall (SizeofExpr f x) = suc (tall x)
  tall (SizeofType f d) = suc (tall_decl d)
  tall (Cast f d x) = suc (max (tall_decl d) (tall x))
  tall (Index f x y) = suc (max (tall x) (tall y))
  tall (Call f x xs) = suc (max (tall x) (tall_exprs xs))
  tall (Member f x n) = suc (tall x)
  tall (Arrow f x n) = suc (tall x)

  pub tall_exprs : Exprs → ℕ
  tall_exprs NoExprs = 0
  tall_exprs (MoreExprs x xs) = max (tall x) (tall_exprs xs)

  pub tall_maybe : MaybeExpr → ℕ
  tall_maybe NoExpr = 0
  tall_maybe (OneExpr x) = tall x

  -- a struct's definition has no declarator
  pub tall_decl : Decl → ℕ
  tall_decl (Declare f an b ps n (Members ds)) = tall_decls ds
  tall_decl (Declare f an b ps n r) = max (max (tall_annots an) (tall_parts ps)) (tall_rest r)

  pub tall_decls : Decls → ℕ
  tall_decls NoDecls = 0
  tall_decls (MoreDecls d ds) = max (tall_decl d) (tall_decls ds)

  pub tall_annots : Annots → ℕ
  tall_annots NoAnnots = 0
  tall_annots (MoreAnnots x xs) = max (tall_annot x) (tall_annots xs)

  pub tall_annot : Annot → ℕ
  tall_annot (Annotate f n is) = tall_items is

  pub tall_items : Items → ℕ
  tall_items NoItems = 0
  tall_items (MoreItems x xs) = max (tall_item x) (tall_items xs)

  pub tall_item : Item → ℕ
  tall_item (OneFactor f a) = tall_atom a
  tall_item (TwoFactors f a b) = max (tall_atom a) (tall_atom b)

  pub tall_atom : Atom → ℕ
  tall_atom (SizeofAtom d) = tall_decl d
  tall_atom _ = 0

  -- the name, or the place where it is lacking, is one
  pub tall_parts : Parts → ℕ
  tall_parts NoParts = 1
  tall_parts (Pointer f ps) = suc (tall_parts ps)
  tall_parts (Array f x ps) = suc (max (tall x) (tall_parts ps))
  tall_parts (Params f ds ps) = suc (max (tall_decls ds) (tall_parts ps))

  pub tall_value : Value → ℕ
  tall_value (Plain x) = tall x
  tall_value (Braces f vs) = suc (tall_values vs)

  pub tall_values : Values → ℕ
  tall_values NoValues = 0
  tall_values (MoreValues v vs) = max (tall_value v) (tall_values vs)

  pub tall_rest : Rest → ℕ
  tall_rest NoRest = 0
  tall_rest (Initial v) = tall_value v
  tall_rest (Body s) = tall_stmt s
  tall_rest (Members ds) = 0

  pub tall_stmt : Stmt → ℕ
  tall_stmt (Block f es) = suc (tall_entries es)
  tall_stmt (Expression f x) = suc (tall_maybe x)
  tall_stmt (If f x s) = suc (max (tall x) (tall_stmt s))
  tall_stmt (IfElse f x s z) = suc (max (max (tall x) (tall_stmt s)) (tall_stmt z))
  tall_stmt (While f x s) = suc (max (tall x) (tall_stmt s))
  tall_stmt (Do f s x) = suc (max (tall_stmt s) (tall x))
  tall_stmt (For f a x y s) = suc (max (max (max (tall_first a) (tall_maybe x)) (tall_maybe y))
      (tall_stmt s))
  tall_stmt (Break f) = 1
  tall_stmt (Continue f) = 1
  tall_stmt (Return f x) = suc (tall_maybe x)

  pub tall_entries : Entries → ℕ
  tall_entries NoEntries = 0
  tall_entries (MoreEntries x xs) = max (tall_entry x) (tall_entries xs)

  pub tall_entry : Entry → ℕ
  tall_entry (LocalEntry ds) = tall_decls ds
  tall_entry (StmtEntry s) = tall_stmt s

  pub tall_first : First → ℕ
  tall_first NoFirst = 0
  tall_first (LocalFirst ds) = tall_decls ds
  tall_first (ExprFirst x) = tall x
