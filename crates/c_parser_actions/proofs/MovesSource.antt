-- The moves of the parser over values, statements and whole sources, one for each turn of the grammar.
use Rattle.std.proofs.Common.{◌≡◌, ℕ, Bool, true, false, List, [], ◌∷◌, Option, None, refl}
use Rattle.c_lexer.specs.declared.token.Sign.TheVariants as signs
use Rattle.c_lexer.specs.declared.token.Word.TheVariants as words
use Rattle.c_lexer.specs.declared.token.Kind.{Kind}
use Rattle.c_lexer.specs.declared.token.Kind.TheVariants as kinds
use Rattle.c_lexer.specs.declared.token.Token.{Token}
use Rattle.c_syntax.specs.declared.declaration.Base.{Base}
use Rattle.c_syntax.specs.declared.declaration.Base.TheVariants as bases
use Rattle.c_syntax.specs.Syntax.{Expr, MaybeExpr, Decls, Annots, Parts, Value, Values, Stmt, Entries, First, NoExpr, Declare, NoDecls, NoAnnots, NoParts, Braces, NoValues, NoRest, Initial, Body, Members, Block, Expression, If, IfElse, While, For, Break, Continue, Return, NoEntries, StmtEntry, NoFirst, decls_then, values_then, entries_then}
use Rattle.c_syntax.specs.Levels.{begins_type, begins_else}
use Rattle.c_parser_moves.specs.declared.mark.Punctuator.{Punctuator}
use Rattle.c_parser_moves.specs.declared.mark.Punctuator.TheVariants as marks
use Rattle.c_parser_moves.specs.declared.mark.Begin.TheVariants as begins
use Rattle.c_parser_moves.specs.declared.frame.Naming.TheVariants as namings
use Rattle.c_parser_moves.specs.declared.frame.Target.TheVariants as targets
use Rattle.c_parser_moves.specs.declared.frame.DeclaredIn.{DeclaredIn}
use Rattle.c_parser_moves.specs.declared.frame.DeclaredIn.TheVariants as places
use Rattle.c_parser_moves.specs.declared.frame.Frame.{Frame}
use Rattle.c_parser_moves.specs.declared.frame.Frame.TheVariants as fr
use Rattle.c_parser_moves.specs.declared.frame.Next.TheVariants as nx
use Rattle.c_parser_moves.specs.declared.action.Action.TheVariants as acts
use Rattle.c_parser_moves.specs.Marks.{mark_of, mark_at, begin_of}
use Rattle.c_parser_actions.specs.Pieces.{Piece, PExpr, PMaybe, PDeclr, PSpecs, PDecls, PAnnots, PValue, PValues, PEntries, PStmt, PFirst, PTag, act}
use Rattle.c_parser_moves.proofs.MachineDeclr.{end_next, with_value, with_body, named, declared, annotated}
use Rattle.c_parser_moves.proofs.MachineSource.{initial, braces_on, braces_end, init_end, value_end, condition, for_head, leaf, returned, stmt, do_on, do_while, done, block_end, entry, for_first, for_test, for_step, struct_end, member_end, defines, top, tops}
use Rattle.c_parser_moves.proofs.MachineSteps.{give_next, take_next, read_next, step}
use Rattle.c_parser_actions.proofs.Runs.{TState, tstate, run, start_expr, Reaches, go}
use Rattle.c_parser_actions.proofs.MovesDeclr.{annotated_run}

pub names_comma : {t : Token} {pl : DeclaredIn} {first : Bool} {ds : Decls} {ps : Parts} {name : Option (List ℕ)} {h : ℕ} {an : Annots} {bs : Base} {ts : List Token} {P : List Piece} {K : List Frame} {s : TState} → t.kind ≡ kinds.Sign signs.Comma → Reaches (tstate (nx.Declr namings.Always 0) (PSpecs an bs ∷ PDecls (decls_then ds (Declare h an bs ps name NoRest)) ∷ P) ts (fr.Names pl false ∷ K)) s → Reaches (tstate nx.DeclrDone (PDeclr ps name h ∷ PSpecs an bs ∷ PDecls ds ∷ P) (t ∷ ts) (fr.Names pl first ∷ K)) s
unfolding step give_next take_next read_next declared named
names_comma e0 r = go (rw e0 r)

-- the pieces after a declaration's semicolon
abbrev pub end_pieces : DeclaredIn → List Piece → List Piece
end_pieces places.Local P = act acts.AddLocal P
end_pieces (places.For f) P = act acts.LocalFirst P
end_pieces _ P = P

pub names_end : (pl : DeclaredIn) {t : Token} {first : Bool} {ds : Decls} {ps : Parts} {name : Option (List ℕ)} {h : ℕ} {an : Annots} {bs : Base} {ts : List Token} {P : List Piece} {K : List Frame} {s : TState} → t.kind ≡ kinds.Sign signs.Semicolon → Reaches (tstate (end_next pl) (end_pieces pl (PDecls (decls_then ds (Declare h an bs ps name NoRest)) ∷ P)) ts K) s → Reaches (tstate nx.DeclrDone (PDeclr ps name h ∷ PSpecs an bs ∷ PDecls ds ∷ P) (t ∷ ts) (fr.Names pl first ∷ K)) s
unfolding step give_next take_next read_next declared named
names_end places.Top e0 r = go (rw e0 r)
names_end places.Local e0 r = go (rw e0 r)
names_end (places.For f) e0 r = go (rw e0 r)
names_end places.Member e0 r = go (rw e0 r)

abbrev pub valued : DeclaredIn → Bool
valued places.Member = false
valued _ = true

pub names_value : (pl : DeclaredIn) {t : Token} {first : Bool} {ts : List Token} {P : List Piece} {K : List Frame} {s : TState} → t.kind ≡ kinds.Sign signs.Assign → valued pl ≡ true → Reaches (tstate nx.Initial P ts (fr.Init pl ∷ K)) s → Reaches (tstate nx.DeclrDone P (t ∷ ts) (fr.Names pl first ∷ K)) s
unfolding step give_next take_next read_next declared named with_value
names_value places.Top e0 e1 r = go (rw e0 r)
names_value places.Local e0 e1 r = go (rw e0 r)
names_value (places.For f) e0 e1 r = go (rw e0 r)
names_value places.Member e0 e1 r = absurd cc

body_run : (kd : Kind) (all ts : List Token) {P : List Piece} {K : List Frame} {s : TState} → kd ≡ kinds.Sign signs.OpenBrace →
    Reaches (tstate nx.Stmt P all (fr.Body ∷ K)) s → Reaches (run (named (mark_of kd) places.Top true all ts K) P) s
unfolding named with_body
body_run kd all ts e r = rw e r

pub names_body : {t : Token} {ts : List Token} {P : List Piece} {K : List Frame} {s : TState} → t.kind ≡ kinds.Sign signs.OpenBrace → Reaches (tstate nx.Stmt P (t ∷ ts) (fr.Body ∷ K)) s → Reaches (tstate nx.DeclrDone P (t ∷ ts) (fr.Names places.Top true ∷ K)) s
unfolding step give_next take_next read_next declared
names_body {t = t} e0 r = go (body_run t.kind _ _ e0 r)

pub init_comma : {t : Token} {pl : DeclaredIn} {val : Value} {ds : Decls} {ps : Parts} {name : Option (List ℕ)} {h : ℕ} {an : Annots} {bs : Base} {ts : List Token} {P : List Piece} {K : List Frame} {s : TState} → t.kind ≡ kinds.Sign signs.Comma → Reaches (tstate (nx.Declr namings.Always 0) (PSpecs an bs ∷ PDecls (decls_then ds (Declare h an bs ps name (Initial val))) ∷ P) ts (fr.Names pl false ∷ K)) s → Reaches (tstate nx.ValueDone (PValue val ∷ PDeclr ps name h ∷ PSpecs an bs ∷ PDecls ds ∷ P) (t ∷ ts) (fr.Init pl ∷ K)) s
unfolding step give_next take_next read_next value_end init_end
init_comma e0 r = go (rw e0 r)

pub init_finish : (pl : DeclaredIn) {t : Token} {val : Value} {ds : Decls} {ps : Parts} {name : Option (List ℕ)} {h : ℕ} {an : Annots} {bs : Base} {ts : List Token} {P : List Piece} {K : List Frame} {s : TState} → t.kind ≡ kinds.Sign signs.Semicolon → Reaches (tstate (end_next pl) (end_pieces pl (PDecls (decls_then ds (Declare h an bs ps name (Initial val))) ∷ P)) ts K) s → Reaches (tstate nx.ValueDone (PValue val ∷ PDeclr ps name h ∷ PSpecs an bs ∷ PDecls ds ∷ P) (t ∷ ts) (fr.Init pl ∷ K)) s
unfolding step give_next take_next read_next value_end init_end
init_finish places.Top e0 r = go (rw e0 r)
init_finish places.Local e0 r = go (rw e0 r)
init_finish (places.For f) e0 r = go (rw e0 r)
init_finish places.Member e0 r = go (rw e0 r)

pub initial_braces : {t : Token} {ts : List Token} {P : List Piece} {K : List Frame} {s : TState} → t.kind ≡ kinds.Sign signs.OpenBrace → Reaches (tstate nx.Initial (PValues NoValues ∷ P) ts (fr.Braces t.from ∷ K)) s → Reaches (tstate nx.Initial P (t ∷ ts) K) s
unfolding step give_next take_next read_next initial
initial_braces e0 r = go (rw e0 r)

plain_run : (cc1 : Punctuator) (f : ℕ) (ts us : List Token) {P : List Piece} {K : List Frame} {s : TState} → (cc1 ≡ marks.OpenBrace → ⊥) → Reaches (start_expr 2 P ts (fr.Plain ∷ K)) s → Reaches (run (initial cc1 f ts us K) P) s
unfolding initial
plain_run marks.OpenBrace f ts us h r = absurd (h refl)
plain_run _ f ts us h r = r

pub initial_plain : {ts : List Token} {P : List Piece} {K : List Frame} {s : TState} → (mark_at ts ≡ marks.OpenBrace → ⊥) → Reaches (start_expr 2 P ts (fr.Plain ∷ K)) s → Reaches (tstate nx.Initial P ts K) s
unfolding step give_next take_next read_next
initial_plain {ts = ts} e0 r = go (plain_run (mark_at ts) _ ts _ e0 r)

braces_run : (c : Punctuator) (f : ℕ) (val : Value) (vals : Values) (ts us : List Token) {P : List Piece} {K : List Frame} {s : TState} → (c ≡ marks.CloseBrace → ⊥) →
    Reaches (tstate nx.Initial (PValues (values_then vals val) ∷ P) ts (fr.Braces f ∷ K)) s → Reaches (run (braces_on c f ts us K) (PValue val ∷ PValues vals ∷ P)) s
unfolding braces_on
braces_run marks.CloseBrace f val vals ts us h r = absurd (h refl)
braces_run _ f val vals ts us h r = r

pub braces_more : {t : Token} {f : ℕ} {val : Value} {vals : Values} {ts : List Token} {P : List Piece} {K : List Frame} {s : TState} → t.kind ≡ kinds.Sign signs.Comma → (mark_at ts ≡ marks.CloseBrace → ⊥) → Reaches (tstate nx.Initial (PValues (values_then vals val) ∷ P) ts (fr.Braces f ∷ K)) s → Reaches (tstate nx.ValueDone (PValue val ∷ PValues vals ∷ P) (t ∷ ts) (fr.Braces f ∷ K)) s
unfolding step give_next take_next read_next value_end braces_end
braces_more {ts = ts} e0 e1 r = go (rw e0 (braces_run (mark_at ts) _ _ _ ts _ e1 r))

pub braces_done : {t : Token} {f : ℕ} {val : Value} {vals : Values} {ts : List Token} {P : List Piece} {K : List Frame} {s : TState} → t.kind ≡ kinds.Sign signs.CloseBrace → Reaches (tstate nx.ValueDone (PValue (Braces f (values_then vals val)) ∷ P) ts K) s → Reaches (tstate nx.ValueDone (PValue val ∷ PValues vals ∷ P) (t ∷ ts) (fr.Braces f ∷ K)) s
unfolding step give_next take_next read_next value_end braces_end
braces_done e0 r = go (rw e0 r)

pub braces_comma_done : {t : Token} {u : Token} {f : ℕ} {val : Value} {vals : Values} {ts : List Token} {P : List Piece} {K : List Frame} {s : TState} → t.kind ≡ kinds.Sign signs.Comma → u.kind ≡ kinds.Sign signs.CloseBrace → Reaches (tstate nx.ValueDone (PValue (Braces f (values_then vals val)) ∷ P) ts K) s → Reaches (tstate nx.ValueDone (PValue val ∷ PValues vals ∷ P) (t ∷ u ∷ ts) (fr.Braces f ∷ K)) s
unfolding step give_next take_next read_next value_end braces_end braces_on
braces_comma_done e0 e1 r = go (rw (e0, e1) r)

pub empty_move : {t : Token} {ts : List Token} {P : List Piece} {K : List Frame} {s : TState} → t.kind ≡ kinds.Sign signs.Semicolon → Reaches (tstate nx.StmtDone (PStmt (Expression t.from NoExpr) ∷ P) ts K) s → Reaches (tstate nx.Stmt P (t ∷ ts) K) s
unfolding step give_next take_next read_next stmt
empty_move e0 r = go (rw e0 r)

pub block_move : {t : Token} {ts : List Token} {P : List Piece} {K : List Frame} {s : TState} → t.kind ≡ kinds.Sign signs.OpenBrace → Reaches (tstate nx.Entry (PEntries NoEntries ∷ P) ts (fr.Block t.from ∷ K)) s → Reaches (tstate nx.Stmt P (t ∷ ts) K) s
unfolding step give_next take_next read_next stmt
block_move e0 r = go (rw e0 r)

pub if_move : {t : Token} {u : Token} {ts : List Token} {P : List Piece} {K : List Frame} {s : TState} → t.kind ≡ kinds.Word words.If → u.kind ≡ kinds.Sign signs.OpenParenthesis → Reaches (start_expr 1 P ts (fr.IfCond t.from ∷ K)) s → Reaches (tstate nx.Stmt P (t ∷ u ∷ ts) K) s
unfolding step give_next take_next read_next stmt condition
if_move e0 e1 r = go (rw (e0, e1) r)

pub while_move : {t : Token} {u : Token} {ts : List Token} {P : List Piece} {K : List Frame} {s : TState} → t.kind ≡ kinds.Word words.While → u.kind ≡ kinds.Sign signs.OpenParenthesis → Reaches (start_expr 1 P ts (fr.WhileCond t.from ∷ K)) s → Reaches (tstate nx.Stmt P (t ∷ u ∷ ts) K) s
unfolding step give_next take_next read_next stmt condition
while_move e0 e1 r = go (rw (e0, e1) r)

pub do_move : {t : Token} {ts : List Token} {P : List Piece} {K : List Frame} {s : TState} → t.kind ≡ kinds.Word words.Do → Reaches (tstate nx.Stmt P ts (fr.DoBody t.from ∷ K)) s → Reaches (tstate nx.Stmt P (t ∷ ts) K) s
unfolding step give_next take_next read_next stmt
do_move e0 r = go (rw e0 r)

pub for_move : {t : Token} {u : Token} {ts : List Token} {P : List Piece} {K : List Frame} {s : TState} → t.kind ≡ kinds.Word words.For → u.kind ≡ kinds.Sign signs.OpenParenthesis → Reaches (tstate (nx.ForFirst t.from) P ts K) s → Reaches (tstate nx.Stmt P (t ∷ u ∷ ts) K) s
unfolding step give_next take_next read_next stmt for_head
for_move e0 e1 r = go (rw (e0, e1) r)

pub break_move : {t : Token} {u : Token} {ts : List Token} {P : List Piece} {K : List Frame} {s : TState} → t.kind ≡ kinds.Word words.Break → u.kind ≡ kinds.Sign signs.Semicolon → Reaches (tstate nx.StmtDone (PStmt (Break t.from) ∷ P) ts K) s → Reaches (tstate nx.Stmt P (t ∷ u ∷ ts) K) s
unfolding step give_next take_next read_next stmt leaf
break_move e0 e1 r = go (rw (e0, e1) r)

pub continue_move : {t : Token} {u : Token} {ts : List Token} {P : List Piece} {K : List Frame} {s : TState} → t.kind ≡ kinds.Word words.Continue → u.kind ≡ kinds.Sign signs.Semicolon → Reaches (tstate nx.StmtDone (PStmt (Continue t.from) ∷ P) ts K) s → Reaches (tstate nx.Stmt P (t ∷ u ∷ ts) K) s
unfolding step give_next take_next read_next stmt leaf
continue_move e0 e1 r = go (rw (e0, e1) r)

pub return_none : {t : Token} {u : Token} {ts : List Token} {P : List Piece} {K : List Frame} {s : TState} → t.kind ≡ kinds.Word words.Return → u.kind ≡ kinds.Sign signs.Semicolon → Reaches (tstate nx.StmtDone (PStmt (Return t.from NoExpr) ∷ P) ts K) s → Reaches (tstate nx.Stmt P (t ∷ u ∷ ts) K) s
unfolding step give_next take_next read_next stmt returned
return_none e0 e1 r = go (rw (e0, e1) r)

return_run : (cc1 : Punctuator) (f : ℕ) (ts us : List Token) {P : List Piece} {K : List Frame} {s : TState} → (cc1 ≡ marks.Semicolon → ⊥) → Reaches (start_expr 1 P ts (fr.Return f ∷ K)) s → Reaches (run (returned cc1 f ts us K) P) s
unfolding returned
return_run marks.Semicolon f ts us h r = absurd (h refl)
return_run _ f ts us h r = r

pub return_some : {t : Token} {ts : List Token} {P : List Piece} {K : List Frame} {s : TState} → t.kind ≡ kinds.Word words.Return → (mark_at ts ≡ marks.Semicolon → ⊥) → Reaches (start_expr 1 P ts (fr.Return t.from ∷ K)) s → Reaches (tstate nx.Stmt P (t ∷ ts) K) s
unfolding step give_next take_next read_next stmt
return_some {ts = ts} e0 e1 r = go (rw e0 (return_run (mark_at ts) _ ts _ e1 r))

pub other_move : {t : Token} {ts : List Token} {P : List Piece} {K : List Frame} {s : TState} → begin_of t.kind ≡ begins.Other → Reaches (start_expr 1 P (t ∷ ts) (fr.Expression t.from ∷ K)) s → Reaches (tstate nx.Stmt P (t ∷ ts) K) s
unfolding step give_next take_next read_next stmt
other_move e0 r = go (rw e0 r)

pub entry_more : {f : ℕ} {s1 : Stmt} {es : Entries} {ts : List Token} {P : List Piece} {K : List Frame} {s : TState} → Reaches (tstate nx.Entry (PEntries (entries_then es (StmtEntry s1)) ∷ P) ts (fr.Block f ∷ K)) s → Reaches (tstate nx.StmtDone (PStmt s1 ∷ PEntries es ∷ P) ts (fr.Block f ∷ K)) s
unfolding step give_next take_next read_next done
entry_more r = go r

pub if_done : {f : ℕ} {e : Expr} {s1 : Stmt} {ts : List Token} {P : List Piece} {K : List Frame} {s : TState} → begins_else ts ≡ false → Reaches (tstate nx.StmtDone (PStmt (If f e s1) ∷ P) ts K) s → Reaches (tstate nx.StmtDone (PStmt s1 ∷ PExpr e ∷ P) ts (fr.IfThen f ∷ K)) s
unfolding step give_next take_next read_next done
if_done e0 r = go (rw e0 r)

pub else_move : {t : Token} {f : ℕ} {ts : List Token} {P : List Piece} {K : List Frame} {s : TState} → t.kind ≡ kinds.Word words.Else → Reaches (tstate nx.Stmt P ts (fr.IfElse f ∷ K)) s → Reaches (tstate nx.StmtDone P (t ∷ ts) (fr.IfThen f ∷ K)) s
unfolding step give_next take_next read_next done
else_move e0 r = go (rw e0 r)

pub else_done : {f : ℕ} {e : Expr} {s1 : Stmt} {s2 : Stmt} {ts : List Token} {P : List Piece} {K : List Frame} {s : TState} → Reaches (tstate nx.StmtDone (PStmt (IfElse f e s1 s2) ∷ P) ts K) s → Reaches (tstate nx.StmtDone (PStmt s2 ∷ PStmt s1 ∷ PExpr e ∷ P) ts (fr.IfElse f ∷ K)) s
unfolding step give_next take_next read_next done
else_done r = go r

pub while_done : {f : ℕ} {e : Expr} {s1 : Stmt} {ts : List Token} {P : List Piece} {K : List Frame} {s : TState} → Reaches (tstate nx.StmtDone (PStmt (While f e s1) ∷ P) ts K) s → Reaches (tstate nx.StmtDone (PStmt s1 ∷ PExpr e ∷ P) ts (fr.WhileBody f ∷ K)) s
unfolding step give_next take_next read_next done
while_done r = go r

pub do_done : {t : Token} {u : Token} {f : ℕ} {ts : List Token} {P : List Piece} {K : List Frame} {s : TState} → t.kind ≡ kinds.Word words.While → u.kind ≡ kinds.Sign signs.OpenParenthesis → Reaches (start_expr 1 P ts (fr.DoCond f ∷ K)) s → Reaches (tstate nx.StmtDone P (t ∷ u ∷ ts) (fr.DoBody f ∷ K)) s
unfolding step give_next take_next read_next done do_while do_on condition
do_done e0 e1 r = go (rw (e0, e1) r)

pub for_done : {f : ℕ} {fi : First} {mx : MaybeExpr} {my : MaybeExpr} {s1 : Stmt} {ts : List Token} {P : List Piece} {K : List Frame} {s : TState} → Reaches (tstate nx.StmtDone (PStmt (For f fi mx my s1) ∷ P) ts K) s → Reaches (tstate nx.StmtDone (PStmt s1 ∷ PMaybe my ∷ PMaybe mx ∷ PFirst fi ∷ P) ts (fr.ForBody f ∷ K)) s
unfolding step give_next take_next read_next done
for_done r = go r

pub body_done : {s1 : Stmt} {ds : Decls} {ps : Parts} {name : Option (List ℕ)} {h : ℕ} {an : Annots} {bs : Base} {ts : List Token} {P : List Piece} {K : List Frame} {s : TState} → Reaches (tstate nx.Top (PDecls (decls_then ds (Declare h an bs ps name (Body s1))) ∷ P) ts K) s → Reaches (tstate nx.StmtDone (PStmt s1 ∷ PDeclr ps name h ∷ PSpecs an bs ∷ PDecls ds ∷ P) ts (fr.Body ∷ K)) s
unfolding step give_next take_next read_next done
body_done r = go r

pub entry_end : {t : Token} {f : ℕ} {es : Entries} {ts : List Token} {P : List Piece} {K : List Frame} {s : TState} → t.kind ≡ kinds.Sign signs.CloseBrace → Reaches (tstate nx.StmtDone (PStmt (Block f es) ∷ P) ts K) s → Reaches (tstate nx.Entry (PEntries es ∷ P) (t ∷ ts) (fr.Block f ∷ K)) s
unfolding step give_next take_next read_next entry block_end
entry_end e0 r = go (rw e0 r)

entry_local_run : (cc1 : Punctuator) (ts us : List Token) {P : List Piece} {K : List Frame} {s : TState} → (cc1 ≡ marks.CloseBrace → ⊥) → Reaches (tstate (nx.Names places.Local) P ts K) s → Reaches (run (entry cc1 true ts us K) P) s
unfolding entry
entry_local_run marks.CloseBrace ts us h r = absurd (h refl)
entry_local_run _ ts us h r = r

pub entry_local : {ts : List Token} {P : List Piece} {K : List Frame} {s : TState} → (mark_at ts ≡ marks.CloseBrace → ⊥) → begins_type ts ≡ true → Reaches (tstate (nx.Names places.Local) P ts K) s → Reaches (tstate nx.Entry P ts K) s
unfolding step give_next take_next read_next
entry_local {ts = ts} e0 e1 r = go (rw e1 (entry_local_run (mark_at ts) ts _ e0 r))

entry_stmt_run : (cc1 : Punctuator) (ts us : List Token) {P : List Piece} {K : List Frame} {s : TState} → (cc1 ≡ marks.CloseBrace → ⊥) → Reaches (tstate nx.Stmt P ts K) s → Reaches (run (entry cc1 false ts us K) P) s
unfolding entry
entry_stmt_run marks.CloseBrace ts us h r = absurd (h refl)
entry_stmt_run _ ts us h r = r

pub entry_stmt : {ts : List Token} {P : List Piece} {K : List Frame} {s : TState} → (mark_at ts ≡ marks.CloseBrace → ⊥) → begins_type ts ≡ false → Reaches (tstate nx.Stmt P ts K) s → Reaches (tstate nx.Entry P ts K) s
unfolding step give_next take_next read_next
entry_stmt {ts = ts} e0 e1 r = go (rw e1 (entry_stmt_run (mark_at ts) ts _ e0 r))

pub no_first_move : {t : Token} {f : ℕ} {ts : List Token} {P : List Piece} {K : List Frame} {s : TState} → t.kind ≡ kinds.Sign signs.Semicolon → Reaches (tstate (nx.ForTest f) (PFirst NoFirst ∷ P) ts K) s → Reaches (tstate (nx.ForFirst f) P (t ∷ ts) K) s
unfolding step give_next take_next read_next for_first
no_first_move e0 r = go (rw e0 r)

first_local_run : (cc1 : Punctuator) (f : ℕ) (ts us : List Token) {P : List Piece} {K : List Frame} {s : TState} → (cc1 ≡ marks.Semicolon → ⊥) → Reaches (tstate (nx.Names (places.For f)) P ts K) s → Reaches (run (for_first cc1 true f ts us K) P) s
unfolding for_first
first_local_run marks.Semicolon f ts us h r = absurd (h refl)
first_local_run _ f ts us h r = r

pub first_local : {f : ℕ} {ts : List Token} {P : List Piece} {K : List Frame} {s : TState} → (mark_at ts ≡ marks.Semicolon → ⊥) → begins_type ts ≡ true → Reaches (tstate (nx.Names (places.For f)) P ts K) s → Reaches (tstate (nx.ForFirst f) P ts K) s
unfolding step give_next take_next read_next
first_local {ts = ts} e0 e1 r = go (rw e1 (first_local_run (mark_at ts) _ ts _ e0 r))

first_expr_run : (cc1 : Punctuator) (f : ℕ) (ts us : List Token) {P : List Piece} {K : List Frame} {s : TState} → (cc1 ≡ marks.Semicolon → ⊥) → Reaches (start_expr 1 P ts (fr.ForFirst f ∷ K)) s → Reaches (run (for_first cc1 false f ts us K) P) s
unfolding for_first
first_expr_run marks.Semicolon f ts us h r = absurd (h refl)
first_expr_run _ f ts us h r = r

pub first_expr : {f : ℕ} {ts : List Token} {P : List Piece} {K : List Frame} {s : TState} → (mark_at ts ≡ marks.Semicolon → ⊥) → begins_type ts ≡ false → Reaches (start_expr 1 P ts (fr.ForFirst f ∷ K)) s → Reaches (tstate (nx.ForFirst f) P ts K) s
unfolding step give_next take_next read_next
first_expr {ts = ts} e0 e1 r = go (rw e1 (first_expr_run (mark_at ts) _ ts _ e0 r))

pub test_none : {t : Token} {f : ℕ} {ts : List Token} {P : List Piece} {K : List Frame} {s : TState} → t.kind ≡ kinds.Sign signs.Semicolon → Reaches (tstate (nx.ForStep f) (PMaybe NoExpr ∷ P) ts K) s → Reaches (tstate (nx.ForTest f) P (t ∷ ts) K) s
unfolding step give_next take_next read_next for_test
test_none e0 r = go (rw e0 r)

test_run : (cc1 : Punctuator) (f : ℕ) (ts us : List Token) {P : List Piece} {K : List Frame} {s : TState} → (cc1 ≡ marks.Semicolon → ⊥) → Reaches (start_expr 1 P ts (fr.ForTest f ∷ K)) s → Reaches (run (for_test cc1 f ts us K) P) s
unfolding for_test
test_run marks.Semicolon f ts us h r = absurd (h refl)
test_run _ f ts us h r = r

pub test_some : {f : ℕ} {ts : List Token} {P : List Piece} {K : List Frame} {s : TState} → (mark_at ts ≡ marks.Semicolon → ⊥) → Reaches (start_expr 1 P ts (fr.ForTest f ∷ K)) s → Reaches (tstate (nx.ForTest f) P ts K) s
unfolding step give_next take_next read_next
test_some {ts = ts} e0 r = go (test_run (mark_at ts) _ ts _ e0 r)

pub step_none : {t : Token} {f : ℕ} {ts : List Token} {P : List Piece} {K : List Frame} {s : TState} → t.kind ≡ kinds.Sign signs.CloseParenthesis → Reaches (tstate nx.Stmt (PMaybe NoExpr ∷ P) ts (fr.ForBody f ∷ K)) s → Reaches (tstate (nx.ForStep f) P (t ∷ ts) K) s
unfolding step give_next take_next read_next for_step
step_none e0 r = go (rw e0 r)

step_run : (cc1 : Punctuator) (f : ℕ) (ts us : List Token) {P : List Piece} {K : List Frame} {s : TState} → (cc1 ≡ marks.Close → ⊥) → Reaches (start_expr 1 P ts (fr.ForStep f ∷ K)) s → Reaches (run (for_step cc1 f ts us K) P) s
unfolding for_step
step_run marks.Close f ts us h r = absurd (h refl)
step_run _ f ts us h r = r

pub step_some : {f : ℕ} {ts : List Token} {P : List Piece} {K : List Frame} {s : TState} → (mark_at ts ≡ marks.Close → ⊥) → Reaches (start_expr 1 P ts (fr.ForStep f ∷ K)) s → Reaches (tstate (nx.ForStep f) P ts K) s
unfolding step give_next take_next read_next
step_some {ts = ts} e0 r = go (step_run (mark_at ts) _ ts _ e0 r)

pub struct_move : {t : Token} {u : Token} {v : Token} {n : List ℕ} {ts : List Token} {P : List Piece} {K : List Frame} {s : TState} → t.kind ≡ kinds.Word words.Struct → u.kind ≡ kinds.Name n → v.kind ≡ kinds.Sign signs.OpenBrace → Reaches (tstate (nx.Names places.Member) (PDecls NoDecls ∷ PTag t.from n ∷ P) ts (fr.Struct ∷ K)) s → Reaches (tstate nx.Top P (t ∷ u ∷ v ∷ ts) K) s
unfolding step give_next take_next read_next tops top defines
struct_move e0 e1 e2 r = go (rw (e0, e1, e2) r)

top_plain_run : {t : Token} {ts : List Token} {P : List Piece} {K : List Frame} {s : TState} → defines (t ∷ ts) ≡ None → (mark_at (t ∷ ts) ≡ marks.OpenBracket → ⊥) →
    Reaches (tstate (nx.Specs targets.Top) (PAnnots NoAnnots ∷ P) (t ∷ ts) K) s → Reaches (tstate nx.Top P (t ∷ ts) K) s
unfolding step give_next take_next read_next tops top
top_plain_run {t = t} {ts = ts} e0 e1 r = go (rw e0 (annotated_run (mark_of t.kind) _ (t ∷ ts) _ e1 r))

pub top_plain : (ts : List Token) {P : List Piece} {K : List Frame} {s : TState} → (ts ≡ [] → ⊥) → defines ts ≡ None → (mark_at ts ≡ marks.OpenBracket → ⊥) →
    Reaches (tstate (nx.Specs targets.Top) (PAnnots NoAnnots ∷ P) ts K) s → Reaches (tstate nx.Top P ts K) s
top_plain [] e e0 e1 r = absurd (e refl)
top_plain (t ∷ ts) e e0 e1 r = top_plain_run e0 e1 r

bracket_defines : (t : Token) (ts : List Token) → t.kind ≡ kinds.Sign signs.OpenBracket → defines (t ∷ ts) ≡ None
unfolding defines
bracket_defines t [] e = refl
bracket_defines t (u ∷ []) e = refl
bracket_defines t (u ∷ v ∷ ts) e = rw e refl

pub top_annots : {t : Token} {ts : List Token} {P : List Piece} {K : List Frame} {s : TState} → t.kind ≡ kinds.Sign signs.OpenBracket → Reaches (tstate nx.Annot (PAnnots NoAnnots ∷ P) ts (fr.Annots targets.Top ∷ K)) s → Reaches (tstate nx.Top P (t ∷ ts) K) s
unfolding step give_next take_next read_next tops top annotated
top_annots {t = t} {ts = ts} e0 r = go (rw (bracket_defines t ts e0, e0) r)

pub top_end : {P : List Piece} {s : TState} → Reaches (tstate nx.End P [] []) s → Reaches (tstate nx.Top P [] []) s
unfolding step give_next take_next read_next tops
top_end r = go r

pub members_done : {t : Token} {u : Token} {f : ℕ} {n : List ℕ} {ms : Decls} {ds : Decls} {ts : List Token} {P : List Piece} {K : List Frame} {s : TState} → t.kind ≡ kinds.Sign signs.CloseBrace → u.kind ≡ kinds.Sign signs.Semicolon → Reaches (tstate nx.Top (PDecls (decls_then ds (Declare f NoAnnots (bases.Struct n) NoParts None (Members ms))) ∷ P) ts K) s → Reaches (tstate nx.MemberEnd (PDecls ms ∷ PTag f n ∷ PDecls ds ∷ P) (t ∷ u ∷ ts) (fr.Struct ∷ K)) s
unfolding step give_next take_next read_next member_end struct_end
members_done e0 e1 r = go (rw (e0, e1) r)

members_run : (cc1 : Punctuator) (ts us : List Token) {P : List Piece} {K : List Frame} {s : TState} → (cc1 ≡ marks.CloseBrace → ⊥) → Reaches (tstate (nx.Names places.Member) P ts K) s → Reaches (run (member_end cc1 ts us K) P) s
unfolding member_end
members_run marks.CloseBrace ts us h r = absurd (h refl)
members_run _ ts us h r = r

pub members_more : {ts : List Token} {P : List Piece} {K : List Frame} {s : TState} → (mark_at ts ≡ marks.CloseBrace → ⊥) → Reaches (tstate (nx.Names places.Member) P ts K) s → Reaches (tstate nx.MemberEnd P ts K) s
unfolding step give_next take_next read_next
members_more {ts = ts} e0 r = go (members_run (mark_at ts) ts _ e0 r)
