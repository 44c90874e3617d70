-- What a state of the machine has read: each open construct is the prefix of a production.
use Rattle.std.proofs.Common.{◌≡◌, ℕ, ◌+◌, ◌≤◌, Bool, true, false, List, [], ◌∷◌, Option, Some, ◌⊎◌}
use Rattle.c_lexer.specs.declared.token.Sign.TheVariants as signs
use Rattle.c_lexer.specs.declared.token.Word.TheVariants as words
use Rattle.c_lexer.specs.declared.token.Kind.TheVariants as kinds
use Rattle.c_lexer.specs.declared.token.Token.{Token}
use Rattle.c_syntax.specs.declared.declaration.Base.{Base}
use Rattle.c_syntax.specs.Syntax.{Expr, Exprs, MaybeExpr, Decl, Decls, Annots, Items, Item, Atom, Parts, Value, Values, Stmt, Entries, First, NoExprs, NoDecls, NoAnnots, Annotate, NoItems, NoValues}
use Rattle.c_syntax.specs.Levels.{level_of, is_assignment, is_prefix, opens_type, lone_void, from_of}
use Rattle.c_parser_moves.specs.declared.frame.Naming.{Naming}
use Rattle.c_parser_moves.specs.declared.frame.Naming.TheVariants as namings
use Rattle.c_parser_moves.specs.declared.frame.Target.{Target}
use Rattle.c_parser_moves.specs.declared.frame.Target.TheVariants as targets
use Rattle.c_parser_moves.specs.declared.frame.DeclaredIn.{DeclaredIn}
use Rattle.c_parser_moves.specs.declared.frame.DeclaredIn.TheVariants as places
use Rattle.c_parser_moves.specs.declared.frame.Frame.{Frame}
use Rattle.c_parser_moves.specs.declared.frame.Frame.TheVariants as fr
use Rattle.c_parser_moves.specs.declared.frame.Next.{Next}
use Rattle.c_parser_moves.specs.declared.frame.Next.TheVariants as nx
use Rattle.c_parser_actions.specs.Pieces.{Piece, PExpr, PExprs, PMaybe, PDeclr, PSpecs, PDecl, PDecls, PAnnots, PAnnot, PItem, PAtom, PValue, PValues, PEntries, PStmt, PFirst, PTag}
use Rattle.c_parser_moves.proofs.MachineDeclr.{groups}
use Rattle.c_parser_moves.proofs.MachineExpr.{start}
use Rattle.c_syntax.specs.Grammar.{IsPostfix, IsUnary, IsExpr, IsArgs, IsTypeName, IsSpecs, IsConsts, IsDeclr, IsDirect, IsParamList, IsAnnotation, IsAnnots, IsAnnot, IsItems, IsItem, IsAtom, Label, Named, label_from, label_name}
use Rattle.c_syntax.specs.Sources.{IsValue, IsValues, IsNames, IsMaybe, IsFirst, IsStmt, IsEntries, IsMembers, IsTops}
use Rattle.c_parser_actions.proofs.Runs.{TState}
use Rattle.c_parser_actions.proofs.MovesSource.{valued}
use Rattle.c_parser_actions.proofs.Complete.{Allows}

-- a list that goes on: nothing so far, or some with a comma
abbrev pub ArgsPrefix : List Token → Exprs → List Token → Type 0
ArgsPrefix vs xs us = ((xs ≡ NoExprs) × (us ≡ vs)) ⊎ ((c : Token) × IsArgs vs xs (c ∷ us) × (c.kind ≡ kinds.Sign signs.Comma))

abbrev pub ParamsPrefix : List Token → Decls → List Token → Type 0
ParamsPrefix vs xs us = ((xs ≡ NoDecls) × (us ≡ vs)) ⊎ ((c : Token) × IsParamList vs xs (c ∷ us) × (c.kind ≡ kinds.Sign signs.Comma))

abbrev pub AnnotsPrefix : List Token → Annots → List Token → Type 0
AnnotsPrefix vs xs us = ((xs ≡ NoAnnots) × (us ≡ vs)) ⊎ ((c : Token) × IsAnnots vs xs (c ∷ us) × (c.kind ≡ kinds.Sign signs.Comma))

abbrev pub ItemsPrefix : List Token → Items → List Token → Type 0
ItemsPrefix vs xs us = ((xs ≡ NoItems) × (us ≡ vs)) ⊎ ((c : Token) × IsItems vs xs (c ∷ us) × (c.kind ≡ kinds.Sign signs.Comma))

abbrev pub ValuesPrefix : List Token → Values → List Token → Type 0
ValuesPrefix vs xs us = ((xs ≡ NoValues) × (us ≡ vs)) ⊎ ((c : Token) × IsValues vs xs (c ∷ us) × (c.kind ≡ kinds.Sign signs.Comma))

abbrev pub NamesPrefix : Bool → Annots → Base → Decls → List Token → Decls → List Token → Bool → Type 0
NamesPrefix values an b before vs ds us first = (((first ≡ true) × (ds ≡ before)) × (us ≡ vs)) ⊎ ((first ≡ false) × ((c : Token) × IsNames values an b before vs ds (c ∷ us) × (c.kind ≡ kinds.Sign signs.Comma)))

abbrev pub MembersPrefix : List Token → Decls → List Token → Type 0
MembersPrefix vs xs us = ((xs ≡ NoDecls) × (us ≡ vs)) ⊎ IsMembers vs xs us

-- a direct declarator, of a declarator that is wanted
abbrev pub DirectOf : (Naming → ℕ → List Token → Type 0) → Parts → Option (List ℕ) → ℕ → List Token → Type 0
DirectOf W ps n h rest = (us : List Token) × (l : Label) × (c : Naming) × (f : ℕ) × IsDirect us ps l rest × (n ≡ label_name l) × (h ≡ label_from f l) × Allows c l × W c f us

-- the parts of a for
abbrev pub HeadOf : (List Token → Type 0) → ℕ → List Token → Type 0
HeadOf W f us = (t u : Token) × (f ≡ t.from) × (t.kind ≡ kinds.Word words.For) × (u.kind ≡ kinds.Sign signs.OpenParenthesis) × W (t ∷ u ∷ us)

abbrev pub TestOf : (List Piece → List Token → Type 0) → List Piece → ℕ → List Token → Type 0
TestOf W P f us = (a : First) × (Q : List Piece) × (ts : List Token) × (P ≡ PFirst a ∷ Q) × IsFirst ts a us × HeadOf (W Q) f ts

abbrev pub StepOf : (List Piece → List Token → Type 0) → List Piece → ℕ → List Token → Type 0
StepOf W P f us = (x : MaybeExpr) × (Q : List Piece) × (ts : List Token) × (t : Token) × (P ≡ PMaybe x ∷ Q) × IsMaybe ts x (t ∷ us) × (t.kind ≡ kinds.Sign signs.Semicolon) × TestOf W Q f ts

-- parameters so far, of a function's declarator
abbrev pub ParamsOf : (List Piece → Naming → ℕ → List Token → Type 0) → List Piece → ℕ → Decls → List Token → Type 0
ParamsOf W Q h ds ts = (qs : Parts) × (n : Option (List ℕ)) × (k : ℕ) × (R : List Piece) × (t : Token) × (ws : List Token) ×
    (Q ≡ PDeclr qs n k ∷ R) × (h ≡ t.from) × (t.kind ≡ kinds.Sign signs.OpenParenthesis) × (lone_void ws ≡ false) × ParamsPrefix ws ds ts × DirectOf (W R) qs n k (t ∷ ws)

-- a struct whose members are read so far
abbrev pub StructOf : List Token → (List Token → Decls → List Token → Type 0) → List Piece → List Frame → Decls → List Token → Type 0
StructOf all M Q K ms us = (f : ℕ) × (n : List ℕ) × (ds : Decls) × (t u v : Token) × (ws : List Token) × (Q ≡ PTag f n ∷ PDecls ds ∷ []) × (K ≡ fr.Struct ∷ []) × (f ≡ t.from) ×
    (t.kind ≡ kinds.Word words.Struct) × (u.kind ≡ kinds.Name n) × (v.kind ≡ kinds.Sign signs.OpenBrace) × M ws ms us × IsTops all ds (t ∷ u ∷ v ∷ ws)

-- the source so far
abbrev pub TopOf : List Token → List Piece → List Frame → Decls → List Token → Type 0
TopOf all Q K ds us = (Q ≡ []) × (K ≡ []) × IsTops all ds us

-- where names stand, which begin there
abbrev pub PlaceOf : List Token → (List Piece → List Token → Type 0) → (List Piece → List Token → Type 0) → DeclaredIn → List Piece → List Frame → Annots → Base → Decls → List Token → Type 0
PlaceOf all E W places.Local Q K an b before start = (ts : List Token) × (an ≡ NoAnnots) × (before ≡ NoDecls) × IsSpecs false ts b start × E Q ts
PlaceOf all E W (places.For f) Q K an b before start = (ts : List Token) × (an ≡ NoAnnots) × (before ≡ NoDecls) × IsSpecs false ts b start × HeadOf (W Q) f ts
PlaceOf all E W places.Member Q K an b before start = (ts : List Token) × (an ≡ NoAnnots) × IsSpecs false ts b start × StructOf all MembersPrefix Q K before ts
PlaceOf all E W places.Top Q K an b before start = (ts vs : List Token) × IsAnnotation ts an vs × IsSpecs true vs b start × TopOf all Q K before ts

module _ (all : List Token) where
  abbrev mutual
    -- an operand is wanted
    pub Wants : List Piece → List Frame → List Token → Type 0
    Wants P (fr.Climb m f ∷ K) us = (f ≡ from_of us) × Fits P K m us
    Wants P (fr.Prefix f x ∷ K) us = (t : Token) × (f ≡ t.from) × (t.kind ≡ kinds.Sign x) × (is_prefix x ≡ true) × Wants P K (t ∷ us)
    Wants P (fr.Sizeof f ∷ K) us = (t : Token) × (f ≡ t.from) × (t.kind ≡ kinds.Word words.Sizeof) × (opens_type us ≡ false) × Wants P K (t ∷ us)
    Wants P (fr.Cast f ∷ K) us = (t u : Token) × (ts : List Token) × (d : Decl) × (Q : List Piece) × (P ≡ PDecl d ∷ Q) × (f ≡ t.from) × (t.kind ≡ kinds.Sign signs.OpenParenthesis) × IsTypeName ts d (u ∷ us) × (u.kind ≡ kinds.Sign signs.CloseParenthesis) × Wants Q K (t ∷ ts)
    Wants P _ us = ⊥

    -- an expression of level m is wanted
    pub Fits : List Piece → List Frame → ℕ → List Token → Type 0
    Fits P (fr.Binary l f x ∷ K) m us = (a : Expr) × (Q : List Piece) × (t : Token) × (ts : List Token) × (P ≡ PExpr a ∷ Q) × (m ≡ l + 1) × (f ≡ from_of ts) × IsExpr l ts a (t ∷ us) × (t.kind ≡ kinds.Sign x) × (level_of x ≡ Some l) × Wants Q K ts
    Fits P (fr.Assign f x ∷ K) m us = (a : Expr) × (Q : List Piece) × (t : Token) × (ts : List Token) × (P ≡ PExpr a ∷ Q) × (m ≡ 2) × (f ≡ from_of ts) × IsUnary ts a (t ∷ us) × (t.kind ≡ kinds.Sign x) × (is_assignment x ≡ true) × Wants Q K ts
    Fits P (fr.Middle f ∷ K) m us = (a : Expr) × (Q : List Piece) × (t : Token) × (ts : List Token) × (P ≡ PExpr a ∷ Q) × (m ≡ 1) × (f ≡ from_of ts) × IsExpr 4 ts a (t ∷ us) × (t.kind ≡ kinds.Sign signs.Question) × Wants Q K ts
    Fits P (fr.Last f ∷ K) m us = (a b : Expr) × (Q : List Piece) × (t u : Token) × (ts vs : List Token) × (P ≡ PExpr b ∷ PExpr a ∷ Q) × (m ≡ 3) × (f ≡ from_of ts) × IsExpr 4 ts a (t ∷ vs) × (t.kind ≡ kinds.Sign signs.Question) × IsExpr 1 vs b (u ∷ us) × (u.kind ≡ kinds.Sign signs.Colon) × Wants Q K ts
    Fits P (fr.Group f ∷ K) m us = (t : Token) × (m ≡ 1) × (f ≡ t.from) × (t.kind ≡ kinds.Sign signs.OpenParenthesis) × Wants P K (t ∷ us)
    Fits P (fr.Index f ∷ K) m us = (a : Expr) × (Q : List Piece) × (t : Token) × (ts : List Token) × (P ≡ PExpr a ∷ Q) × (m ≡ 1) × (f ≡ from_of ts) × IsPostfix ts a (t ∷ us) × (t.kind ≡ kinds.Sign signs.OpenBracket) × Wants Q K ts
    Fits P (fr.Args f ∷ K) m us = (xs : Exprs) × (a : Expr) × (Q : List Piece) × (t : Token) × (ts vs : List Token) × (P ≡ PExprs xs ∷ PExpr a ∷ Q) × (m ≡ 2) × (f ≡ from_of ts) × IsPostfix ts a (t ∷ vs) × (t.kind ≡ kinds.Sign signs.OpenParenthesis) × ArgsPrefix vs xs us × Wants Q K ts
    Fits P (fr.Length f ∷ K) m us = (ps : Parts) × (n : Option (List ℕ)) × (h : ℕ) × (Q : List Piece) × (t : Token) × (P ≡ PDeclr ps n h ∷ Q) × (m ≡ 3) × (f ≡ t.from) × (t.kind ≡ kinds.Sign signs.OpenBracket) × DirectOf (λ c k vs. WantsDeclr Q K c k vs) ps n h (t ∷ us)
    Fits P (fr.Plain ∷ K) m us = (m ≡ 2) × WantsValue P K us
    Fits P (fr.Expression f ∷ K) m us = (m ≡ 1) × (f ≡ from_of us) × WantsStmt P K us
    Fits P (fr.IfCond f ∷ K) m us = (t u : Token) × (m ≡ 1) × (f ≡ t.from) × (t.kind ≡ kinds.Word words.If) × (u.kind ≡ kinds.Sign signs.OpenParenthesis) × WantsStmt P K (t ∷ u ∷ us)
    Fits P (fr.WhileCond f ∷ K) m us = (t u : Token) × (m ≡ 1) × (f ≡ t.from) × (t.kind ≡ kinds.Word words.While) × (u.kind ≡ kinds.Sign signs.OpenParenthesis) × WantsStmt P K (t ∷ u ∷ us)
    Fits P (fr.DoCond f ∷ K) m us = (z : Stmt) × (Q : List Piece) × (t u v : Token) × (ts : List Token) × (P ≡ PStmt z ∷ Q) × (m ≡ 1) × (f ≡ t.from) × (t.kind ≡ kinds.Word words.Do) × IsStmt ts z (u ∷ v ∷ us) × (u.kind ≡ kinds.Word words.While) × (v.kind ≡ kinds.Sign signs.OpenParenthesis) × WantsStmt Q K (t ∷ ts)
    Fits P (fr.ForFirst f ∷ K) m us = (m ≡ 1) × HeadOf (λ vs. WantsStmt P K vs) f us
    Fits P (fr.ForTest f ∷ K) m us = (m ≡ 1) × TestOf (λ Q vs. WantsStmt Q K vs) P f us
    Fits P (fr.ForStep f ∷ K) m us = (m ≡ 1) × StepOf (λ Q vs. WantsStmt Q K vs) P f us
    Fits P (fr.Return f ∷ K) m us = (t : Token) × (m ≡ 1) × (f ≡ t.from) × (t.kind ≡ kinds.Word words.Return) × WantsStmt P K (t ∷ us)
    Fits P _ m us = ⊥

    -- a declarator is wanted, of a declaration that began at f
    pub WantsDeclr : List Piece → List Frame → Naming → ℕ → List Token → Type 0
    WantsDeclr P (fr.Pointer h ∷ K) c f us = (t : Token) × (ts : List Token) × (h ≡ t.from) × (t.kind ≡ kinds.Sign signs.Star) × IsConsts ts us × WantsDeclr P K c f (t ∷ ts)
    WantsDeclr P (fr.Grouped ∷ K) c f us = (t : Token) × (t.kind ≡ kinds.Sign signs.OpenParenthesis) × (groups c us ≡ true) × WantsDeclr P K c f (t ∷ us)
    WantsDeclr P (fr.CastType h ∷ K) c f us = (b : Base) × (Q : List Piece) × (t : Token) × (ts : List Token) × (P ≡ PSpecs NoAnnots b ∷ Q) × (c ≡ namings.Never) × (f ≡ from_of ts) × IsSpecs false ts b us × (h ≡ t.from) × (t.kind ≡ kinds.Sign signs.OpenParenthesis) × Wants Q K (t ∷ ts)
    WantsDeclr P (fr.SizeofType h ∷ K) c f us = (b : Base) × (Q : List Piece) × (t u : Token) × (ts : List Token) × (P ≡ PSpecs NoAnnots b ∷ Q) × (c ≡ namings.Never) × (f ≡ from_of ts) × IsSpecs false ts b us × (h ≡ t.from) × (t.kind ≡ kinds.Word words.Sizeof) × (u.kind ≡ kinds.Sign signs.OpenParenthesis) × Wants Q K (t ∷ u ∷ ts)
    WantsDeclr P (fr.SizeofAtom ∷ K) c f us = (b : Base) × (Q : List Piece) × (t u : Token) × (ts : List Token) × (P ≡ PSpecs NoAnnots b ∷ Q) × (c ≡ namings.Never) × (f ≡ from_of ts) × IsSpecs false ts b us × (t.kind ≡ kinds.Word words.Sizeof) × (u.kind ≡ kinds.Sign signs.OpenParenthesis) × WantsAtom Q K (t ∷ u ∷ ts)
    WantsDeclr P (fr.Params h ∷ K) c f us = (an : Annots) × (b : Base) × (ds : Decls) × (Q : List Piece) × (ts vs : List Token) × (P ≡ PSpecs an b ∷ PDecls ds ∷ Q) × (c ≡ namings.Either) × (f ≡ from_of ts) × IsAnnotation ts an vs × IsSpecs false vs b us × ParamsOf (λ R d k ws. WantsDeclr R K d k ws) Q h ds ts
    WantsDeclr P (fr.Names pl first ∷ K) c f us = (an : Annots) × (b : Base) × (before ds : Decls) × (Q : List Piece) × (start : List Token) × (P ≡ PSpecs an b ∷ PDecls ds ∷ Q) × (c ≡ namings.Always) × NamesPrefix (valued pl) an b before start ds us first × PlaceOf all (λ R ws. WantsEntry R K ws) (λ R ws. WantsStmt R K ws) pl Q K an b before start
    WantsDeclr P _ c f us = ⊥

    pub WantsAtom : List Piece → List Frame → List Token → Type 0
    WantsAtom P (fr.FirstFactor f ∷ K) us = (f ≡ from_of us) × WantsItem P K us
    WantsAtom P (fr.SecondFactor f ∷ K) us = (a : Atom) × (Q : List Piece) × (t : Token) × (ts : List Token) × (P ≡ PAtom a ∷ Q) × (f ≡ from_of ts) × IsAtom ts a (t ∷ us) × (t.kind ≡ kinds.Sign signs.Star) × WantsItem Q K ts
    WantsAtom P _ us = ⊥

    pub WantsItem : List Piece → List Frame → List Token → Type 0
    WantsItem P (fr.Items ∷ K) us = (f : ℕ) × (n : List ℕ) × (is : Items) × (Q : List Piece) × (t u : Token) × (ts : List Token) × (P ≡ PAnnot f n is ∷ Q) × (f ≡ t.from) × (t.kind ≡ kinds.Name n) × (u.kind ≡ kinds.Sign signs.OpenParenthesis) × ItemsPrefix ts is us × WantsAnnot Q K (t ∷ u ∷ ts)
    WantsItem P _ us = ⊥

    pub WantsAnnot : List Piece → List Frame → List Token → Type 0
    WantsAnnot P (fr.Annots tg ∷ K) us = (an : Annots) × (Q : List Piece) × (t : Token) × (ts : List Token) × (P ≡ PAnnots an ∷ Q) × (t.kind ≡ kinds.Sign signs.OpenBracket) × AnnotsPrefix ts an us × WantsTarget tg Q K (t ∷ ts)
    WantsAnnot P _ us = ⊥

    -- annotations or a type are wanted
    pub WantsTarget : Target → List Piece → List Frame → List Token → Type 0
    WantsTarget (targets.Param f) P (fr.Params h ∷ K) us = (ds : Decls) × (Q : List Piece) × (P ≡ PDecls ds ∷ Q) × (f ≡ from_of us) × ParamsOf (λ R d k ws. WantsDeclr R K d k ws) Q h ds us
    WantsTarget targets.Top P K us = (ds : Decls) × (Q : List Piece) × (P ≡ PDecls ds ∷ Q) × TopOf all Q K ds us
    WantsTarget _ P K us = ⊥

    -- a value is wanted
    pub WantsValue : List Piece → List Frame → List Token → Type 0
    WantsValue P (fr.Braces f ∷ K) us = (vs : Values) × (Q : List Piece) × (t : Token) × (ts : List Token) × (P ≡ PValues vs ∷ Q) × (f ≡ t.from) × (t.kind ≡ kinds.Sign signs.OpenBrace) × ValuesPrefix ts vs us × WantsValue Q K (t ∷ ts)
    WantsValue P (fr.Init pl ∷ K) us = (ps : Parts) × (n : List ℕ) × (f : ℕ) × (an : Annots) × (b : Base) × (before ds : Decls) × (Q : List Piece) × (t : Token) × (start vs : List Token) × (first : Bool) ×
        (P ≡ PDeclr ps (Some n) f ∷ PSpecs an b ∷ PDecls ds ∷ Q) × IsDeclr vs ps (Named f n) (t ∷ us) × (t.kind ≡ kinds.Sign signs.Assign) × (valued pl ≡ true) × NamesPrefix (valued pl) an b before start ds vs first × PlaceOf all (λ R ws. WantsEntry R K ws) (λ R ws. WantsStmt R K ws) pl Q K an b before start
    WantsValue P _ us = ⊥

    -- a statement is wanted
    pub WantsStmt : List Piece → List Frame → List Token → Type 0
    WantsStmt P (fr.Block f ∷ K) us = (es : Entries) × (Q : List Piece) × (t : Token) × (ts : List Token) × (P ≡ PEntries es ∷ Q) × (f ≡ t.from) × (t.kind ≡ kinds.Sign signs.OpenBrace) × IsEntries ts es us × WantsStmt Q K (t ∷ ts)
    WantsStmt P (fr.IfThen f ∷ K) us = (a : Expr) × (Q : List Piece) × (t u v : Token) × (ts : List Token) × (P ≡ PExpr a ∷ Q) × (f ≡ t.from) × (t.kind ≡ kinds.Word words.If) × (u.kind ≡ kinds.Sign signs.OpenParenthesis) × IsExpr 1 ts a (v ∷ us) × (v.kind ≡ kinds.Sign signs.CloseParenthesis) × WantsStmt Q K (t ∷ u ∷ ts)
    WantsStmt P (fr.IfElse f ∷ K) us = (a : Expr) × (z : Stmt) × (Q : List Piece) × (t u v w : Token) × (ts vs : List Token) × (P ≡ PStmt z ∷ PExpr a ∷ Q) × (f ≡ t.from) × (t.kind ≡ kinds.Word words.If) × (u.kind ≡ kinds.Sign signs.OpenParenthesis) × IsExpr 1 ts a (v ∷ vs) × (v.kind ≡ kinds.Sign signs.CloseParenthesis) × IsStmt vs z (w ∷ us) × (w.kind ≡ kinds.Word words.Else) × WantsStmt Q K (t ∷ u ∷ ts)
    WantsStmt P (fr.WhileBody f ∷ K) us = (a : Expr) × (Q : List Piece) × (t u v : Token) × (ts : List Token) × (P ≡ PExpr a ∷ Q) × (f ≡ t.from) × (t.kind ≡ kinds.Word words.While) × (u.kind ≡ kinds.Sign signs.OpenParenthesis) × IsExpr 1 ts a (v ∷ us) × (v.kind ≡ kinds.Sign signs.CloseParenthesis) × WantsStmt Q K (t ∷ u ∷ ts)
    WantsStmt P (fr.DoBody f ∷ K) us = (t : Token) × (f ≡ t.from) × (t.kind ≡ kinds.Word words.Do) × WantsStmt P K (t ∷ us)
    WantsStmt P (fr.ForBody f ∷ K) us = (y : MaybeExpr) × (Q : List Piece) × (t : Token) × (ts : List Token) × (P ≡ PMaybe y ∷ Q) × IsMaybe ts y (t ∷ us) × (t.kind ≡ kinds.Sign signs.CloseParenthesis) × StepOf (λ R vs. WantsStmt R K vs) Q f ts
    WantsStmt P (fr.Body ∷ K) us = (ps : Parts) × (n : List ℕ) × (f : ℕ) × (an : Annots) × (b : Base) × (ds : Decls) × (Q : List Piece) × (ts vs start ws : List Token) × (t : Token) × (P ≡ PDeclr ps (Some n) f ∷ PSpecs an b ∷ PDecls ds ∷ Q) × (us ≡ t ∷ ws) × (t.kind ≡ kinds.Sign signs.OpenBrace) × IsDeclr start ps (Named f n) us × IsAnnotation ts an vs × IsSpecs true vs b start × TopOf all Q K ds ts
    WantsStmt P _ us = ⊥

    -- an entry of a block is wanted
    pub WantsEntry : List Piece → List Frame → List Token → Type 0
    WantsEntry P (fr.Block f ∷ K) us = (es : Entries) × (Q : List Piece) × (t : Token) × (ts : List Token) × (P ≡ PEntries es ∷ Q) × (f ≡ t.from) × (t.kind ≡ kinds.Sign signs.OpenBrace) × IsEntries ts es us × WantsStmt Q K (t ∷ ts)
    WantsEntry P _ us = ⊥

  -- a type is wanted
  abbrev pub WantsType : List Piece → List Frame → List Token → Type 0
  WantsType P (fr.CastType f ∷ K) us = (t : Token) × (f ≡ t.from) × (t.kind ≡ kinds.Sign signs.OpenParenthesis) × Wants P K (t ∷ us)
  WantsType P (fr.SizeofType f ∷ K) us = (t u : Token) × (f ≡ t.from) × (t.kind ≡ kinds.Word words.Sizeof) × (u.kind ≡ kinds.Sign signs.OpenParenthesis) × Wants P K (t ∷ u ∷ us)
  WantsType P (fr.SizeofAtom ∷ K) us = (t u : Token) × (t.kind ≡ kinds.Word words.Sizeof) × (u.kind ≡ kinds.Sign signs.OpenParenthesis) × WantsAtom P K (t ∷ u ∷ us)
  WantsType P _ us = ⊥

  -- a parameter is wanted
  abbrev pub WantsParam : List Piece → List Frame → List Token → Type 0
  WantsParam P (fr.Params h ∷ K) us = (ds : Decls) × (Q : List Piece) × (P ≡ PDecls ds ∷ Q) × ParamsOf (λ R d k ws. WantsDeclr R K d k ws) Q h ds us
  WantsParam P _ us = ⊥

  -- names with a type are wanted
  abbrev pub WantsNames : DeclaredIn → List Piece → List Frame → List Token → Type 0
  WantsNames places.Local P K us = WantsEntry P K us
  WantsNames (places.For f) P K us = HeadOf (λ vs. WantsStmt P K vs) f us
  WantsNames places.Member P K us = (ms : Decls) × (Q : List Piece) × (P ≡ PDecls ms ∷ Q) × StructOf all MembersPrefix Q K ms us
  WantsNames places.Top P K us = ⊥

  -- what the next step is about has been read
  abbrev pub Read : Next → List Piece → List Token → List Frame → Type 0
  Read nx.Operand P ts K = Wants P K ts
  Read (nx.After f) P ts K = (e : Expr) × (us : List Token) × (Q : List Piece) × (P ≡ PExpr e ∷ Q) × (f ≡ from_of us) × IsPostfix us e ts × Wants Q K us
  Read (nx.Done k) P ts K = (e : Expr) × (us : List Token) × (Q : List Piece) × (P ≡ PExpr e ∷ Q) × IsExpr k us e ts × (14 ≤ k → IsUnary us e ts) × Wants Q K us
  Read nx.Value P ts K = (e : Expr) × (m : ℕ) × (us : List Token) × (Q : List Piece) × (P ≡ PExpr e ∷ Q) × IsExpr m us e ts × Fits Q K m us
  Read nx.TypeName P ts K = WantsType P K ts
  Read (nx.Declr c f) P ts K = WantsDeclr P K c f ts
  Read nx.Direct P ts K = (ps : Parts) × (n : Option (List ℕ)) × (h : ℕ) × (Q : List Piece) × (P ≡ PDeclr ps n h ∷ Q) × DirectOf (λ c k vs. WantsDeclr Q K c k vs) ps n h ts
  Read nx.DeclrDone P ts K = (ps : Parts) × (n : Option (List ℕ)) × (h : ℕ) × (Q : List Piece) × (us : List Token) × (l : Label) × (c : Naming) × (f : ℕ) × (P ≡ PDeclr ps n h ∷ Q) × IsDeclr us ps l ts × (n ≡ label_name l) × (h ≡ label_from f l) × Allows c l × WantsDeclr Q K c f us
  Read nx.Param P ts K = WantsParam P K ts
  Read (nx.Specs tg) P ts K = (an : Annots) × (us : List Token) × (Q : List Piece) × (P ≡ PAnnots an ∷ Q) × IsAnnotation us an ts × WantsTarget tg Q K us
  Read (nx.Names pl) P ts K = WantsNames pl P K ts
  Read nx.Annot P ts K = WantsAnnot P K ts
  Read nx.AnnotDone P ts K = (f : ℕ) × (n : List ℕ) × (is : Items) × (us : List Token) × (Q : List Piece) × (P ≡ PAnnot f n is ∷ Q) × IsAnnot us (Annotate f n is) ts × WantsAnnot Q K us
  Read nx.Item P ts K = WantsItem P K ts
  Read nx.Atom P ts K = WantsAtom P K ts
  Read nx.AtomDone P ts K = (a : Atom) × (us : List Token) × (Q : List Piece) × (P ≡ PAtom a ∷ Q) × IsAtom us a ts × WantsAtom Q K us
  Read nx.ItemDone P ts K = (x : Item) × (us : List Token) × (Q : List Piece) × (P ≡ PItem x ∷ Q) × IsItem us x ts × WantsItem Q K us
  Read nx.Initial P ts K = WantsValue P K ts
  Read nx.ValueDone P ts K = (v : Value) × (us : List Token) × (Q : List Piece) × (P ≡ PValue v ∷ Q) × IsValue us v ts × WantsValue Q K us
  Read nx.Stmt P ts K = WantsStmt P K ts
  Read nx.StmtDone P ts K = (z : Stmt) × (us : List Token) × (Q : List Piece) × (P ≡ PStmt z ∷ Q) × IsStmt us z ts × WantsStmt Q K us
  Read nx.Entry P ts K = WantsEntry P K ts
  Read (nx.ForFirst f) P ts K = HeadOf (λ vs. WantsStmt P K vs) f ts
  Read (nx.ForTest f) P ts K = TestOf (λ Q vs. WantsStmt Q K vs) P f ts
  Read (nx.ForStep f) P ts K = StepOf (λ Q vs. WantsStmt Q K vs) P f ts
  Read nx.MemberEnd P ts K = (ms : Decls) × (Q : List Piece) × (P ≡ PDecls ms ∷ Q) × StructOf all IsMembers Q K ms ts
  Read nx.Top P ts K = (ds : Decls) × (Q : List Piece) × (P ≡ PDecls ds ∷ Q) × TopOf all Q K ds ts
  Read nx.Fail P ts K = Unit {0}
  Read nx.End P ts K = (ds : Decls) × (P ≡ PDecls ds ∷ []) × (ts ≡ []) × (K ≡ []) × IsTops all ds []

  abbrev pub Good : TState → Type 0
  Good z = Read z.next z.pieces z.rest z.opens
