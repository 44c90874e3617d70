-- The parser's moves over values, statements and whole sources.
use Rattle.std.specs.Prelude.{ℕ, Bool, true, false, List, [], ◌∷◌, Option, Some, None, if◌then◌else◌}
use Rattle.c_lexer.specs.declared.token.Sign.TheVariants as signs
use Rattle.c_lexer.specs.declared.token.Word.TheVariants as words
use Rattle.c_lexer.specs.declared.token.Kind.{Kind}
use Rattle.c_lexer.specs.declared.token.Kind.TheVariants as kinds
use Rattle.c_lexer.specs.declared.token.Token.{Token}
use Rattle.c_syntax.specs.Levels.{begins_else, from_of}
use Rattle.c_parser_moves.specs.declared.mark.Punctuator.{Punctuator}
use Rattle.c_parser_moves.specs.declared.mark.Punctuator.TheVariants as marks
use Rattle.c_parser_moves.specs.declared.mark.Begin.{Begin}
use Rattle.c_parser_moves.specs.declared.mark.Begin.TheVariants as begins
use Rattle.c_parser_moves.specs.declared.frame.Naming.TheVariants as namings
use Rattle.c_parser_moves.specs.declared.frame.Target.TheVariants as targets
use Rattle.c_parser_moves.specs.declared.frame.DeclaredIn.{DeclaredIn}
use Rattle.c_parser_moves.specs.declared.frame.DeclaredIn.TheVariants as places
use Rattle.c_parser_moves.specs.declared.frame.Frame.{Frame}
use Rattle.c_parser_moves.specs.declared.frame.Frame.TheVariants as frames
use Rattle.c_parser_moves.specs.declared.frame.Next.TheVariants as nexts
use Rattle.c_parser_moves.specs.declared.action.Action.{Action}
use Rattle.c_parser_moves.specs.declared.action.Action.TheVariants as acts
use Rattle.c_parser_moves.specs.Marks.{mark_at}
use Rattle.c_parser_moves.proofs.Machine.{Move, move, fail, tail, begin}
use Rattle.c_parser_moves.proofs.MachineDeclr.{end_acts, end_next, annotated}

unfoldable pub initial : Punctuator → ℕ → List Token → List Token → List Frame → Move
initial marks.OpenBrace f all ts K = move nexts.Initial (acts.NoValues ∷ []) ts (frames.Braces f ∷ K)
initial _ f all ts K = begin 2 [] all (frames.Plain ∷ K)

-- a comma in braces may be the last sign before their end
unfoldable pub braces_on : Punctuator → ℕ → List Token → List Token → List Frame → Move
braces_on marks.CloseBrace f all ts K = move nexts.ValueDone (acts.Braces f ∷ acts.AddValue ∷ []) ts K
braces_on _ f all ts K = move nexts.Initial (acts.AddValue ∷ []) all (frames.Braces f ∷ K)

unfoldable pub braces_end : Punctuator → ℕ → List Token → List Frame → Move
braces_end marks.CloseBrace f ts K = move nexts.ValueDone (acts.Braces f ∷ acts.AddValue ∷ []) ts K
braces_end marks.Comma f ts K = braces_on (mark_at ts) f ts (tail ts) K
braces_end _ f ts K = fail ts K

unfoldable pub init_end : Punctuator → DeclaredIn → List Token → List Frame → Move
init_end marks.Comma p ts K =
    move (nexts.Declr namings.Always 0) (acts.AddName ∷ acts.DeclareValue ∷ []) ts (frames.Names p false ∷
    K)
init_end marks.Semicolon p ts K = move (end_next p) (end_acts p (acts.DeclareValue ∷ [])) ts K
init_end _ p ts K = fail ts K

unfoldable pub value_end : Frame → List Token → List Frame → Move
value_end (frames.Braces f) ts K = braces_end (mark_at ts) f (tail ts) K
value_end (frames.Init p) ts K = init_end (mark_at ts) p (tail ts) K
value_end _ ts K = fail ts K

-- statements

-- a condition in brackets
unfoldable pub condition : Punctuator → Frame → List Token → List Frame → Move
condition marks.Open o ts K = begin 1 [] ts (o ∷ K)
condition _ o ts K = fail ts K

unfoldable pub for_head : Punctuator → ℕ → List Token → List Frame → Move
for_head marks.Open f ts K = move (nexts.ForFirst f) [] ts K
for_head _ f ts K = fail ts K

unfoldable pub leaf : Punctuator → Action → List Token → List Frame → Move
leaf marks.Semicolon a ts K = move nexts.StmtDone (a ∷ []) ts K
leaf _ a ts K = fail ts K

unfoldable pub returned : Punctuator → ℕ → List Token → List Token → List Frame → Move
returned marks.Semicolon f all ts K = move nexts.StmtDone (acts.Return f ∷ acts.NoExpr ∷ []) ts K
returned _ f all ts K = begin 1 [] all (frames.Return f ∷ K)

unfoldable pub stmt : Begin → ℕ → List Token → List Token → List Frame → Move
stmt begins.Empty f all ts K = move nexts.StmtDone (acts.Expression f ∷ acts.NoExpr ∷ []) ts K
stmt begins.Block f all ts K = move nexts.Entry (acts.NoEntries ∷ []) ts (frames.Block f ∷ K)
stmt begins.If f all ts K = condition (mark_at ts) (frames.IfCond f) (tail ts) K
stmt begins.While f all ts K = condition (mark_at ts) (frames.WhileCond f) (tail ts) K
stmt begins.Do f all ts K = move nexts.Stmt [] ts (frames.DoBody f ∷ K)
stmt begins.For f all ts K = for_head (mark_at ts) f (tail ts) K
stmt begins.Break f all ts K = leaf (mark_at ts) (acts.Break f) (tail ts) K
stmt begins.Continue f all ts K = leaf (mark_at ts) (acts.Continue f) (tail ts) K
stmt begins.Return f all ts K = returned (mark_at ts) f ts (tail ts) K
stmt begins.Other f all ts K = begin 1 [] all (frames.Expression f ∷ K)

unfoldable pub do_on : Kind → ℕ → List Token → List Frame → Move
do_on (kinds.Word words.While) f ts K = condition (mark_at ts) (frames.DoCond f) (tail ts) K
do_on _ f ts K = fail ts K

unfoldable pub do_while : ℕ → List Token → List Frame → Move
do_while f [] K = fail [] K
do_while f (t ∷ ts) K = do_on t.kind f ts K

-- the construct has its statement
unfoldable pub done : Frame → List Token → List Frame → Move
done (frames.Block f) ts K = move nexts.Entry (acts.AddStmt ∷ []) ts (frames.Block f ∷ K)
done (frames.IfThen f) ts K =
    if begins_else ts
    then move nexts.Stmt [] (tail ts) (frames.IfElse f ∷ K)
    else move nexts.StmtDone (acts.If f ∷ []) ts K
done (frames.IfElse f) ts K = move nexts.StmtDone (acts.IfElse f ∷ []) ts K
done (frames.WhileBody f) ts K = move nexts.StmtDone (acts.While f ∷ []) ts K
done (frames.DoBody f) ts K = do_while f ts K
done (frames.ForBody f) ts K = move nexts.StmtDone (acts.For f ∷ []) ts K
done frames.Body ts K = move nexts.Top (acts.EndSpecs ∷ acts.AddName ∷ acts.DeclareBody ∷ []) ts K
done _ ts K = fail ts K

-- the block ends
unfoldable pub block_end : List Token → List Frame → Move
block_end ts (frames.Block f ∷ K) = move nexts.StmtDone (acts.Block f ∷ []) ts K
block_end ts K = fail ts K

-- what stands in a block, or its end
unfoldable pub entry : Punctuator → Bool → List Token → List Token → List Frame → Move
entry marks.CloseBrace b all ts K = block_end ts K
entry _ true all ts K = move (nexts.Names places.Local) [] all K
entry _ false all ts K = move nexts.Stmt [] all K

unfoldable pub for_first : Punctuator → Bool → ℕ → List Token → List Token → List Frame → Move
for_first marks.Semicolon b f all ts K = move (nexts.ForTest f) (acts.NoFirst ∷ []) ts K
for_first _ true f all ts K = move (nexts.Names (places.For f)) [] all K
for_first _ false f all ts K = begin 1 [] all (frames.ForFirst f ∷ K)

unfoldable pub for_test : Punctuator → ℕ → List Token → List Token → List Frame → Move
for_test marks.Semicolon f all ts K = move (nexts.ForStep f) (acts.NoExpr ∷ []) ts K
for_test _ f all ts K = begin 1 [] all (frames.ForTest f ∷ K)

unfoldable pub for_step : Punctuator → ℕ → List Token → List Token → List Frame → Move
for_step marks.Close f all ts K = move nexts.Stmt (acts.NoExpr ∷ []) ts (frames.ForBody f ∷ K)
for_step _ f all ts K = begin 1 [] all (frames.ForStep f ∷ K)

-- whole sources

unfoldable pub struct_end : Punctuator → List Token → List Frame → Move
struct_end marks.Semicolon ts (frames.Struct ∷ K) = move nexts.Top (acts.Struct ∷ []) ts K
struct_end _ ts K = fail ts K

unfoldable pub member_end : Punctuator → List Token → List Token → List Frame → Move
member_end marks.CloseBrace all ts K = struct_end (mark_at ts) (tail ts) K
member_end _ all ts K = move (nexts.Names places.Member) [] all K

abbrev pub defines_kinds : Kind → Kind → Kind → List Token → Option (List ℕ × List Token)
defines_kinds (kinds.Word words.Struct) (kinds.Name n) (kinds.Sign signs.OpenBrace) ts = Some (n, ts)
defines_kinds _ _ _ ts = None

-- the name of a struct's definition that begins here, and what is after its brace
unfoldable pub defines : List Token → Option (List ℕ × List Token)
defines (t ∷ u ∷ v ∷ ts) = defines_kinds t.kind u.kind v.kind ts
defines _ = None

unfoldable pub top : Option (List ℕ × List Token) → List Token → List Frame → Move
top (Some (n, ts)) all K =
    move (nexts.Names places.Member) (acts.NoDecls ∷ acts.Tag (from_of all) n ∷ []) ts (frames.Struct ∷ K)
top None all K = annotated (mark_at all) targets.Top all (tail all) K

unfoldable pub tops : List Token → List Frame → Move
tops [] [] = move nexts.End [] [] []
tops ts K = top (defines ts) ts K
