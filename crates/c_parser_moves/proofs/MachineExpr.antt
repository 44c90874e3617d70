-- The parser's moves over expressions.
use Rattle.std.specs.Prelude.{ℕ, ◌+◌, Bool, true, false, ◌&&◌, List, [], ◌∷◌, nat_le, if◌then◌else◌}
use Rattle.c_lexer.specs.declared.token.Sign.{Sign}
use Rattle.c_lexer.specs.declared.token.Sign.TheVariants as signs
use Rattle.c_lexer.specs.declared.token.Word.TheVariants as words
use Rattle.c_lexer.specs.declared.token.Kind.{Kind}
use Rattle.c_lexer.specs.declared.token.Kind.TheVariants as kinds
use Rattle.c_lexer.specs.declared.token.Token.{Token}
use Rattle.c_syntax.specs.Levels.{is_prefix, begins_type, opens_type}
use Rattle.c_parser_moves.specs.declared.mark.Punctuator.{Punctuator}
use Rattle.c_parser_moves.specs.declared.mark.Punctuator.TheVariants as marks
use Rattle.c_parser_moves.specs.declared.mark.After.{After}
use Rattle.c_parser_moves.specs.declared.mark.After.TheVariants as afters
use Rattle.c_parser_moves.specs.declared.frame.Frame.{Frame}
use Rattle.c_parser_moves.specs.declared.frame.Frame.TheVariants as frames
use Rattle.c_parser_moves.specs.declared.frame.Next.TheVariants as nexts
use Rattle.c_parser_moves.specs.declared.action.Action.TheVariants as acts
use Rattle.c_parser_moves.specs.Marks.{mark_at, after_at}
use Rattle.c_parser_moves.proofs.Machine.{Move, move, fail, tail, begin}

-- a group or a cast, after its bracket
unfoldable pub bracket : Bool → ℕ → List Token → List Frame → Move
bracket true f ts K = move nexts.TypeName [] ts (frames.CastType f ∷ K)
bracket false f ts K = begin 1 [] ts (frames.Group f ∷ K)

unfoldable pub size : Bool → ℕ → List Token → List Frame → Move
size true f ts K = move nexts.TypeName [] (tail ts) (frames.SizeofType f ∷ K)
size false f ts K = move nexts.Operand [] ts (frames.Sizeof f ∷ K)

unfoldable pub start_sign : Sign → ℕ → List Token → List Frame → Move
start_sign signs.OpenParenthesis f ts K = bracket (begins_type ts) f ts K
start_sign s f ts K = if is_prefix s then move nexts.Operand [] ts (frames.Prefix f s ∷ K) else fail ts K

-- the first token of an operand, and what is after it
unfoldable pub start : Kind → ℕ → List Token → List Frame → Move
start (kinds.Name n) f ts K = move (nexts.After f) (acts.Name f n ∷ []) ts K
start (kinds.Number s d v) f ts K = move (nexts.After f) (acts.Number f v s d ∷ []) ts K
start (kinds.Char v) f ts K = move (nexts.After f) (acts.Char f v ∷ []) ts K
start (kinds.Text n) f ts K = move (nexts.After f) (acts.Text f n ∷ []) ts K
start (kinds.Word words.Sizeof) f ts K = size (opens_type ts) f ts K
start (kinds.Word w) f ts K = fail ts K
start (kinds.Sign s) f ts K = start_sign s f ts K

-- a call without arguments, or the first of them
unfoldable pub call : Punctuator → ℕ → List Token → List Frame → Move
call marks.Close f ts K = move (nexts.After f) (acts.Call f ∷ acts.NoExprs ∷ []) (tail ts) K
call _ f ts K = begin 2 (acts.NoExprs ∷ []) ts (frames.Args f ∷ K)

unfoldable pub field_name : Kind → Bool → ℕ → List Token → List Frame → Move
field_name (kinds.Name n) true f ts K = move (nexts.After f) (acts.Member f n ∷ []) ts K
field_name (kinds.Name n) false f ts K = move (nexts.After f) (acts.Arrow f n ∷ []) ts K
field_name _ dot f ts K = fail ts K

unfoldable pub field : Bool → ℕ → List Token → List Frame → Move
field dot f [] K = fail [] K
field dot f (t ∷ ts) K = field_name t.kind dot f ts K

-- what follows an expression of level 15: all from the token on, and what is after it
unfoldable pub after : After → ℕ → List Token → List Token → List Frame → Move
after afters.Index f all ts K = begin 1 [] ts (frames.Index f ∷ K)
after afters.Call f all ts K = call (mark_at ts) f ts K
after afters.Dot f all ts K = field true f ts K
after afters.Arrow f all ts K = field false f ts K
after (afters.Postfix s) f all ts K = move (nexts.After f) (acts.Postfix f s ∷ []) ts K
after _ f all ts K = move (nexts.Done 14) [] all K

-- an operand of level k where one of level m was wanted
unfoldable pub close : ℕ → ℕ → List Token → List Frame → Move
close m k ts K = if nat_le m k then move nexts.Value [] ts K else fail ts K

-- whether an expression of level m that began at f goes on after an operand of level k
unfoldable pub climb : After → ℕ → ℕ → ℕ → List Token → List Token → List Frame → Move
climb (afters.Binary l s) m f k all ts K =
    if nat_le m l && nat_le l k
    then begin (l + 1) [] ts (frames.Binary l f s ∷ frames.Climb m f ∷ K)
    else close m k all K
climb (afters.Assign s) m f k all ts K =
    if nat_le m 2 && nat_le 14 k
    then begin 2 [] ts (frames.Assign f s ∷ frames.Climb m f ∷ K)
    else close m k all K
climb afters.Question m f k all ts K =
    if nat_le m 3 && nat_le 4 k
    then begin 1 [] ts (frames.Middle f ∷ frames.Climb m f ∷ K)
    else close m k all K
climb _ m f k all ts K = close m k all K

-- the construct has its operand of level k
unfoldable pub give : Frame → ℕ → List Token → List Frame → Move
give (frames.Climb m f) k ts K = climb (after_at ts) m f k ts (tail ts) K
give (frames.Prefix f s) k ts K =
    if nat_le 14 k then move (nexts.Done 14) (acts.Prefix f s ∷ []) ts K else fail ts K
give (frames.Sizeof f) k ts K =
    if nat_le 14 k then move (nexts.Done 14) (acts.SizeofExpr f ∷ []) ts K else fail ts K
give (frames.Cast f) k ts K = if nat_le 14 k then move (nexts.Done 14) (acts.Cast f ∷ []) ts K else fail ts
    K
give _ k ts K = fail ts K

unfoldable pub do_end : Punctuator → ℕ → List Token → List Frame → Move
do_end marks.Semicolon f ts K = move nexts.StmtDone (acts.Do f ∷ []) (tail ts) K
do_end _ f ts K = fail ts K

-- the construct has an expression, and a comma follows
unfoldable pub at_comma : Frame → List Token → List Frame → Move
at_comma (frames.Args f) ts K = begin 2 (acts.AddExpr ∷ []) ts (frames.Args f ∷ K)
at_comma _ ts K = fail ts K

-- a bracket follows
unfoldable pub at_close : Frame → List Token → List Frame → Move
at_close (frames.Args f) ts K = move (nexts.After f) (acts.Call f ∷ acts.AddExpr ∷ []) ts K
at_close (frames.Group f) ts K = move (nexts.After f) [] ts K
at_close (frames.IfCond f) ts K = move nexts.Stmt [] ts (frames.IfThen f ∷ K)
at_close (frames.WhileCond f) ts K = move nexts.Stmt [] ts (frames.WhileBody f ∷ K)
at_close (frames.DoCond f) ts K = do_end (mark_at ts) f ts K
at_close (frames.ForStep f) ts K = move nexts.Stmt (acts.OneExpr ∷ []) ts (frames.ForBody f ∷ K)
at_close _ ts K = fail ts K

-- a square bracket follows
unfoldable pub at_bracket : Frame → List Token → List Frame → Move
at_bracket (frames.Index f) ts K = move (nexts.After f) (acts.Index f ∷ []) ts K
at_bracket (frames.Length f) ts K = move nexts.Direct (acts.Array f ∷ []) ts K
at_bracket _ ts K = fail ts K

-- a colon follows
unfoldable pub at_colon : Frame → List Token → List Frame → Move
at_colon (frames.Middle f) ts K = begin 3 [] ts (frames.Last f ∷ K)
at_colon _ ts K = fail ts K

-- a semicolon follows
unfoldable pub at_semicolon : Frame → List Token → List Frame → Move
at_semicolon (frames.Expression f) ts K = move nexts.StmtDone (acts.Expression f ∷ acts.OneExpr ∷ []) ts K
at_semicolon (frames.ForFirst f) ts K = move (nexts.ForTest f) (acts.ExprFirst ∷ []) ts K
at_semicolon (frames.ForTest f) ts K = move (nexts.ForStep f) (acts.OneExpr ∷ []) ts K
at_semicolon (frames.Return f) ts K = move nexts.StmtDone (acts.Return f ∷ acts.OneExpr ∷ []) ts K
at_semicolon _ ts K = fail ts K

unfoldable pub closes : Punctuator → Frame → List Token → List Frame → Move
closes marks.Comma o ts K = at_comma o ts K
closes marks.Close o ts K = at_close o ts K
closes marks.CloseBracket o ts K = at_bracket o ts K
closes marks.Colon o ts K = at_colon o ts K
closes marks.Semicolon o ts K = at_semicolon o ts K
closes _ o ts K = fail ts K

-- the construct has an expression of the level that it wanted
unfoldable pub value : Frame → List Token → List Frame → Move
value (frames.Binary l f s) ts K = move (nexts.Done l) (acts.Binary f s ∷ []) ts K
value (frames.Assign f s) ts K = move (nexts.Done 2) (acts.Assign f s ∷ []) ts K
value (frames.Last f) ts K = move (nexts.Done 3) (acts.Cond f ∷ []) ts K
value frames.Plain ts K = move nexts.ValueDone (acts.Plain ∷ []) ts K
value o ts K = closes (mark_at ts) o (tail ts) K
