-- What the actions make, on a stack: pieces of a source's tree.
use Rattle.std.specs.Prelude.{ℕ, List, [], ◌∷◌, Option, Some, None}
use Rattle.c_syntax.specs.declared.declaration.Base.{Base}
use Rattle.c_syntax.specs.declared.declaration.Base.TheVariants as bases
use Rattle.c_syntax.specs.Syntax.{Expr, Exprs, MaybeExpr, Decl, Decls, Annots, Items, Item, Atom, Parts, Value, Values, Stmt, Entries, First, Name, Number, Char, Text, Binary, Assign, Cond, Prefix, Postfix, SizeofExpr, SizeofType, Cast, Index, Call, Member, Arrow, NoExprs, NoExpr, OneExpr, Declare, NoDecls, NoAnnots, Annotate, NoItems, OneFactor, TwoFactors, NameAtom, NumberAtom, ReturnAtom, SizeofAtom, NoParts, Pointer, Array, Params, Plain, Braces, NoValues, NoRest, Initial, Body, Members, Block, Expression, If, IfElse, While, Do, For, Break, Continue, Return, NoEntries, LocalEntry, StmtEntry, NoFirst, LocalFirst, ExprFirst, exprs_then, decls_then, annots_then, items_then, values_then, entries_then}
use Rattle.c_parser_moves.specs.declared.action.Action.{Action}
use Rattle.c_parser_moves.specs.declared.action.Action.TheVariants as acts

-- a declarator has the offset of its name, or of its declaration, beside its parts; a type has the
-- annotations before it
pub data Piece : Type 0 where
  PExpr : Expr → Piece
  PExprs : Exprs → Piece
  PMaybe : MaybeExpr → Piece
  PDeclr : Parts → Option (List ℕ) → (from : ℕ) → Piece
  PSpecs : Annots → Base → Piece
  PDecl : Decl → Piece
  PDecls : Decls → Piece
  PAnnots : Annots → Piece
  PAnnot : (from : ℕ) → (name : List ℕ) → Items → Piece
  PItem : Item → Piece
  PAtom : Atom → Piece
  PValue : Value → Piece
  PValues : Values → Piece
  PEntries : Entries → Piece
  PStmt : Stmt → Piece
  PFirst : First → Piece
  PTag : (from : ℕ) → (name : List ℕ) → Piece
  -- an action didn't find what it takes
  PBroken : Piece

-- the stack after an action; where what it takes isn't there, one piece that no action takes
abbrev pub act : Action → List Piece → List Piece
act (acts.Name f n) P = PExpr (Name f n) ∷ P
act (acts.Number f v s d) P = PExpr (Number f v s d) ∷ P
act (acts.Char f v) P = PExpr (Char f v) ∷ P
act (acts.Text f n) P = PExpr (Text f n) ∷ P
act (acts.Binary f s) (PExpr y ∷ PExpr x ∷ P) = PExpr (Binary f s x y) ∷ P
act (acts.Assign f s) (PExpr y ∷ PExpr x ∷ P) = PExpr (Assign f s x y) ∷ P
act (acts.Cond f) (PExpr z ∷ PExpr y ∷ PExpr x ∷ P) = PExpr (Cond f x y z) ∷ P
act (acts.Prefix f s) (PExpr x ∷ P) = PExpr (Prefix f s x) ∷ P
act (acts.Postfix f s) (PExpr x ∷ P) = PExpr (Postfix f s x) ∷ P
act (acts.SizeofExpr f) (PExpr x ∷ P) = PExpr (SizeofExpr f x) ∷ P
act (acts.SizeofType f) (PDecl d ∷ P) = PExpr (SizeofType f d) ∷ P
act (acts.Cast f) (PExpr x ∷ PDecl d ∷ P) = PExpr (Cast f d x) ∷ P
act (acts.Index f) (PExpr y ∷ PExpr x ∷ P) = PExpr (Index f x y) ∷ P
act acts.NoExprs P = PExprs NoExprs ∷ P
act acts.AddExpr (PExpr x ∷ PExprs xs ∷ P) = PExprs (exprs_then xs x) ∷ P
act (acts.Call f) (PExprs xs ∷ PExpr x ∷ P) = PExpr (Call f x xs) ∷ P
act (acts.Member f n) (PExpr x ∷ P) = PExpr (Member f x n) ∷ P
act (acts.Arrow f n) (PExpr x ∷ P) = PExpr (Arrow f x n) ∷ P
act acts.NoExpr P = PMaybe NoExpr ∷ P
act acts.OneExpr (PExpr x ∷ P) = PMaybe (OneExpr x) ∷ P
act (acts.Named f n) P = PDeclr NoParts (Some n) f ∷ P
act (acts.Nameless f) P = PDeclr NoParts None f ∷ P
act (acts.Pointer f) (PDeclr ps n g ∷ P) = PDeclr (Pointer f ps) n g ∷ P
act (acts.Array f) (PExpr x ∷ PDeclr ps n g ∷ P) = PDeclr (Array f x ps) n g ∷ P
act (acts.Params f) (PDecls ds ∷ PDeclr ps n g ∷ P) = PDeclr (Params f ds ps) n g ∷ P
act acts.NoDecls P = PDecls NoDecls ∷ P
act (acts.Specs b) (PAnnots an ∷ P) = PSpecs an b ∷ P
act acts.Declare (PDeclr ps n g ∷ PSpecs an b ∷ P) = PDecl (Declare g an b ps n NoRest) ∷ PSpecs an b ∷ P
act acts.DeclareValue (PValue v ∷ PDeclr ps n g ∷ PSpecs an b ∷ P) =
    PDecl (Declare g an b ps n (Initial v)) ∷ PSpecs an b ∷ P
act acts.DeclareBody (PStmt s ∷ PDeclr ps n g ∷ PSpecs an b ∷ P) =
    PDecl (Declare g an b ps n (Body s)) ∷ PSpecs an b ∷ P
act acts.AddName (PDecl d ∷ PSpecs an b ∷ PDecls ds ∷ P) = PSpecs an b ∷ PDecls (decls_then ds d) ∷ P
act acts.EndSpecs (PSpecs an b ∷ P) = P
act acts.DropSpecs (PDecl d ∷ PSpecs an b ∷ P) = PDecl d ∷ P
act acts.NoAnnots P = PAnnots NoAnnots ∷ P
act (acts.AnnotName f n) P = PAnnot f n NoItems ∷ P
act acts.AddAnnot (PAnnot f n is ∷ PAnnots an ∷ P) = PAnnots (annots_then an (Annotate f n is)) ∷ P
act (acts.NameAtom n) P = PAtom (NameAtom n) ∷ P
act (acts.NumberAtom v) P = PAtom (NumberAtom v) ∷ P
act acts.ReturnAtom P = PAtom ReturnAtom ∷ P
act acts.SizeofAtom (PDecl d ∷ P) = PAtom (SizeofAtom d) ∷ P
act (acts.OneFactor f) (PAtom a ∷ P) = PItem (OneFactor f a) ∷ P
act (acts.TwoFactors f) (PAtom b ∷ PAtom a ∷ P) = PItem (TwoFactors f a b) ∷ P
act acts.AddItem (PItem x ∷ PAnnot f n is ∷ P) = PAnnot f n (items_then is x) ∷ P
act acts.Plain (PExpr x ∷ P) = PValue (Plain x) ∷ P
act acts.NoValues P = PValues NoValues ∷ P
act acts.AddValue (PValue v ∷ PValues vs ∷ P) = PValues (values_then vs v) ∷ P
act (acts.Braces f) (PValues vs ∷ P) = PValue (Braces f vs) ∷ P
act acts.NoEntries P = PEntries NoEntries ∷ P
act acts.AddLocal (PDecls ds ∷ PEntries es ∷ P) = PEntries (entries_then es (LocalEntry ds)) ∷ P
act acts.AddStmt (PStmt s ∷ PEntries es ∷ P) = PEntries (entries_then es (StmtEntry s)) ∷ P
act (acts.Block f) (PEntries es ∷ P) = PStmt (Block f es) ∷ P
act (acts.Expression f) (PMaybe x ∷ P) = PStmt (Expression f x) ∷ P
act (acts.If f) (PStmt s ∷ PExpr x ∷ P) = PStmt (If f x s) ∷ P
act (acts.IfElse f) (PStmt z ∷ PStmt s ∷ PExpr x ∷ P) = PStmt (IfElse f x s z) ∷ P
act (acts.While f) (PStmt s ∷ PExpr x ∷ P) = PStmt (While f x s) ∷ P
act (acts.Do f) (PExpr x ∷ PStmt s ∷ P) = PStmt (Do f s x) ∷ P
act acts.NoFirst P = PFirst NoFirst ∷ P
act acts.LocalFirst (PDecls ds ∷ P) = PFirst (LocalFirst ds) ∷ P
act acts.ExprFirst (PExpr x ∷ P) = PFirst (ExprFirst x) ∷ P
act (acts.For f) (PStmt s ∷ PMaybe y ∷ PMaybe x ∷ PFirst a ∷ P) = PStmt (For f a x y s) ∷ P
act (acts.Break f) P = PStmt (Break f) ∷ P
act (acts.Continue f) P = PStmt (Continue f) ∷ P
act (acts.Return f) (PMaybe x ∷ P) = PStmt (Return f x) ∷ P
act (acts.Tag f n) P = PTag f n ∷ P
act acts.Struct (PDecls ms ∷ PTag f n ∷ PDecls ds ∷ P) =
    PDecls (decls_then ds (Declare f NoAnnots (bases.Struct n) NoParts None (Members ms))) ∷ P
act _ P = PBroken ∷ []

-- the stack after the actions, the newest of which comes first, from another
abbrev pub acted : List Action → List Piece → List Piece
acted [] P = P
acted (a ∷ out) P = act a (acted out P)
