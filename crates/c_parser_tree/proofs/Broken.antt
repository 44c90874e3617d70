-- A broken stack stays broken.
use Rattle.std.proofs.Common.{List, [], ◌∷◌}
use Rattle.c_parser_moves.specs.declared.action.Action.{Action}
use Rattle.c_parser_moves.specs.declared.action.Action.TheVariants as acts
use Rattle.c_parser_actions.specs.Pieces.{Piece, PExpr, PExprs, PMaybe, PDeclr, PSpecs, PDecl, PDecls, PAnnots, PAnnot, PItem, PAtom, PValue, PValues, PEntries, PStmt, PFirst, PTag, PBroken, act, acted}

-- a broken piece is in it
abbrev pub IsBroken : List Piece → Type 0
IsBroken [] = ⊥
IsBroken (PBroken ∷ P) = Unit {0}
IsBroken (_ ∷ P) = IsBroken P

pub broken_act : (a : Action) (P : List Piece) → IsBroken P → IsBroken (act a P)
broken_act (acts.Name yf yn) P h = h
broken_act (acts.Number yf yv yu yd) P h = h
broken_act (acts.Char yf yc) P h = h
broken_act (acts.Text yf yn) P h = h
broken_act (acts.Prefix yf ys) (PExpr x0 ∷ P) h = h
broken_act (acts.Postfix yf ys) (PExpr x0 ∷ P) h = h
broken_act (acts.SizeofExpr yf) (PExpr x0 ∷ P) h = h
broken_act (acts.SizeofType yf) (PDecl x0 ∷ P) h = h
broken_act (acts.Member yf yn) (PExpr x0 ∷ P) h = h
broken_act (acts.Arrow yf yn) (PExpr x0 ∷ P) h = h
broken_act (acts.Binary yf ys) (PExpr x0 ∷ PExpr x1 ∷ P) h = h
broken_act (acts.Assign yf ys) (PExpr x0 ∷ PExpr x1 ∷ P) h = h
broken_act (acts.Cond yf) (PExpr x0 ∷ PExpr x1 ∷ PExpr x2 ∷ P) h = h
broken_act (acts.Cast yf) (PExpr x0 ∷ PDecl x1 ∷ P) h = h
broken_act (acts.Index yf) (PExpr x0 ∷ PExpr x1 ∷ P) h = h
broken_act (acts.Call yf) (PExprs x0 ∷ PExpr x1 ∷ P) h = h
broken_act acts.NoExprs P h = h
broken_act acts.AddExpr (PExpr x0 ∷ PExprs x1 ∷ P) h = h
broken_act acts.NoExpr P h = h
broken_act acts.OneExpr (PExpr x0 ∷ P) h = h
broken_act (acts.Named yf yn) P h = h
broken_act (acts.Nameless yf) P h = h
broken_act (acts.Pointer yf) (PDeclr x0 m g ∷ P) h = h
broken_act (acts.Array yf) (PExpr x0 ∷ PDeclr x1 m g ∷ P) h = h
broken_act (acts.Params yf) (PDecls x0 ∷ PDeclr x1 m g ∷ P) h = h
broken_act (acts.Specs yb) (PAnnots x0 ∷ P) h = h
broken_act acts.Declare (PDeclr x0 m g ∷ PSpecs x1 b1 ∷ P) h = h
broken_act acts.DeclareValue (PValue x0 ∷ PDeclr x1 m g ∷ PSpecs x2 b2 ∷ P) h = h
broken_act acts.DeclareBody (PStmt x0 ∷ PDeclr x1 m g ∷ PSpecs x2 b2 ∷ P) h = h
broken_act acts.EndSpecs (PSpecs x0 b0 ∷ P) h = h
broken_act acts.DropSpecs (PDecl x0 ∷ PSpecs x1 b1 ∷ P) h = h
broken_act acts.NoDecls P h = h
broken_act acts.AddName (PDecl x0 ∷ PSpecs x1 b1 ∷ PDecls x2 ∷ P) h = h
broken_act (acts.Tag yf yn) P h = h
broken_act acts.Struct (PDecls x0 ∷ PTag g m ∷ PDecls x2 ∷ P) h = h
broken_act acts.NoAnnots P h = h
broken_act (acts.AnnotName yf yn) P h = h
broken_act acts.AddAnnot (PAnnot g m is ∷ PAnnots x1 ∷ P) h = h
broken_act acts.AddItem (PItem x0 ∷ PAnnot g m is ∷ P) h = h
broken_act (acts.NameAtom yn) P h = h
broken_act (acts.NumberAtom yv) P h = h
broken_act acts.ReturnAtom P h = h
broken_act acts.SizeofAtom (PDecl x0 ∷ P) h = h
broken_act (acts.OneFactor yf) (PAtom x0 ∷ P) h = h
broken_act (acts.TwoFactors yf) (PAtom x0 ∷ PAtom x1 ∷ P) h = h
broken_act acts.Plain (PExpr x0 ∷ P) h = h
broken_act acts.NoValues P h = h
broken_act acts.AddValue (PValue x0 ∷ PValues x1 ∷ P) h = h
broken_act acts.NoEntries P h = h
broken_act acts.AddLocal (PDecls x0 ∷ PEntries x1 ∷ P) h = h
broken_act acts.AddStmt (PStmt x0 ∷ PEntries x1 ∷ P) h = h
broken_act acts.NoFirst P h = h
broken_act acts.LocalFirst (PDecls x0 ∷ P) h = h
broken_act acts.ExprFirst (PExpr x0 ∷ P) h = h
broken_act (acts.Block yf) (PEntries x0 ∷ P) h = h
broken_act (acts.Expression yf) (PMaybe x0 ∷ P) h = h
broken_act (acts.Break yf) P h = h
broken_act (acts.Continue yf) P h = h
broken_act (acts.Return yf) (PMaybe x0 ∷ P) h = h
broken_act (acts.If yf) (PStmt x0 ∷ PExpr x1 ∷ P) h = h
broken_act (acts.IfElse yf) (PStmt x0 ∷ PStmt x1 ∷ PExpr x2 ∷ P) h = h
broken_act (acts.While yf) (PStmt x0 ∷ PExpr x1 ∷ P) h = h
broken_act (acts.Do yf) (PExpr x0 ∷ PStmt x1 ∷ P) h = h
broken_act (acts.For yf) (PStmt x0 ∷ PMaybe x1 ∷ PMaybe x2 ∷ PFirst x3 ∷ P) h = h
broken_act (acts.Braces yf) (PValues x0 ∷ P) h = h
broken_act _ _ _ = tt

pub broken_acted : (out : List Action) (P : List Piece) → IsBroken P → IsBroken (acted out P)
broken_acted [] P h = h
broken_acted (a ∷ out) P h = broken_act a (acted out P) (broken_acted out P h)
