-- The moves of the parser over expressions, one for each turn of the grammar.
use Rattle.std.proofs.Common.{◌≡◌, ℕ, ◌+◌, ◌<◌, ◌≤◌, Bool, true, false, List, ◌∷◌, Option, refl, ℤ}
use Rattle.std.proofs.lemmas.Bool.{le-leb, lt-leb}
use Rattle.c_lexer.specs.declared.token.Sign.{Sign}
use Rattle.c_lexer.specs.declared.token.Sign.TheVariants as signs
use Rattle.c_lexer.specs.declared.token.Suffix.{Suffix}
use Rattle.c_lexer.specs.declared.token.Word.TheVariants as words
use Rattle.c_lexer.specs.declared.token.Kind.TheVariants as kinds
use Rattle.c_lexer.specs.declared.token.Token.{Token}
use Rattle.c_syntax.specs.Syntax.{Expr, Exprs, Decl, Parts, Stmt, Name, Number, Char, Text, Binary, Assign, Cond, Prefix, Postfix, SizeofExpr, Cast, Index, Call, Member, Arrow, NoExprs, OneExpr, Array, Plain, Expression, Do, Return, ExprFirst, exprs_then}
use Rattle.c_syntax.specs.Levels.{is_prefix, begins_type, opens_type}
use Rattle.c_parser_moves.specs.declared.mark.Punctuator.{Punctuator}
use Rattle.c_parser_moves.specs.declared.mark.Punctuator.TheVariants as marks
use Rattle.c_parser_moves.specs.declared.mark.After.{After}
use Rattle.c_parser_moves.specs.declared.mark.After.TheVariants as afters
use Rattle.c_parser_moves.specs.declared.frame.Frame.{Frame}
use Rattle.c_parser_moves.specs.declared.frame.Frame.TheVariants as fr
use Rattle.c_parser_moves.specs.declared.frame.Next.TheVariants as nx
use Rattle.c_parser_moves.specs.Marks.{mark_at, after_of, after_at}
use Rattle.c_parser_actions.specs.Pieces.{Piece, PExpr, PExprs, PMaybe, PDeclr, PDecl, PValue, PStmt, PFirst}
use Rattle.c_parser_moves.proofs.MachineExpr.{bracket, size, start_sign, start, call, field_name, field, after, close, climb, give, do_end, at_comma, at_close, at_bracket, at_colon, at_semicolon, closes, value}
use Rattle.c_parser_moves.proofs.MachineSteps.{give_next, take_next, read_next, step}
use Rattle.c_parser_actions.proofs.Runs.{TState, tstate, run, start_expr, Reaches, go}

pub name_move : {t : Token} {n : List ℕ} {ts : List Token} {P : List Piece} {K : List Frame} {s : TState} → t.kind ≡ kinds.Name n → Reaches (tstate (nx.After t.from) (PExpr (Name t.from n) ∷ P) ts K) s → Reaches (tstate nx.Operand P (t ∷ ts) K) s
unfolding step give_next take_next read_next start
name_move e0 r = go (rw e0 r)

pub number_move : {t : Token} {val_n : ℕ} {sf : Suffix} {de : Bool} {ts : List Token} {P : List Piece} {K : List Frame} {s : TState} → t.kind ≡ kinds.Number sf de val_n → Reaches (tstate (nx.After t.from) (PExpr (Number t.from val_n sf de) ∷ P) ts K) s → Reaches (tstate nx.Operand P (t ∷ ts) K) s
unfolding step give_next take_next read_next start
number_move e0 r = go (rw e0 r)

pub char_move : {t : Token} {z : ℤ} {ts : List Token} {P : List Piece} {K : List Frame} {s : TState} → t.kind ≡ kinds.Char z → Reaches (tstate (nx.After t.from) (PExpr (Char t.from z) ∷ P) ts K) s → Reaches (tstate nx.Operand P (t ∷ ts) K) s
unfolding step give_next take_next read_next start
char_move e0 r = go (rw e0 r)

pub text_move : {t : Token} {n : List ℕ} {ts : List Token} {P : List Piece} {K : List Frame} {s : TState} → t.kind ≡ kinds.Text n → Reaches (tstate (nx.After t.from) (PExpr (Text t.from n) ∷ P) ts K) s → Reaches (tstate nx.Operand P (t ∷ ts) K) s
unfolding step give_next take_next read_next start
text_move e0 r = go (rw e0 r)

prefix_run : (x : Sign) {f : ℕ} {ts : List Token} {P : List Piece} {K : List Frame} {s : TState} → is_prefix x ≡ true →
    Reaches (tstate nx.Operand P ts (fr.Prefix f x ∷ K)) s → Reaches (run (start_sign x f ts K) P) s
unfolding start_sign
prefix_run signs.OpenParenthesis h r = absurd cc
prefix_run signs.Increment h r = r
prefix_run signs.Decrement h r = r
prefix_run signs.Ampersand h r = r
prefix_run signs.Star h r = r
prefix_run signs.Plus h r = r
prefix_run signs.Minus h r = r
prefix_run signs.Tilde h r = r
prefix_run signs.Exclamation h r = r
prefix_run _ h r = absurd cc

pub prefix_move : {t : Token} {x : Sign} {ts : List Token} {P : List Piece} {K : List Frame} {s : TState} → t.kind ≡ kinds.Sign x → is_prefix x ≡ true → Reaches (tstate nx.Operand P ts (fr.Prefix t.from x ∷ K)) s → Reaches (tstate nx.Operand P (t ∷ ts) K) s
unfolding step give_next take_next read_next start
prefix_move {x = x} e0 e1 r = go (rw e0 (prefix_run x e1 r))

pub group_move : {t : Token} {ts : List Token} {P : List Piece} {K : List Frame} {s : TState} → t.kind ≡ kinds.Sign signs.OpenParenthesis → begins_type ts ≡ false → Reaches (start_expr 1 P ts (fr.Group t.from ∷ K)) s → Reaches (tstate nx.Operand P (t ∷ ts) K) s
unfolding step give_next take_next read_next start start_sign bracket
group_move e0 e1 r = go (rw (e0, e1) r)

pub cast_move : {t : Token} {ts : List Token} {P : List Piece} {K : List Frame} {s : TState} → t.kind ≡ kinds.Sign signs.OpenParenthesis → begins_type ts ≡ true → Reaches (tstate nx.TypeName P ts (fr.CastType t.from ∷ K)) s → Reaches (tstate nx.Operand P (t ∷ ts) K) s
unfolding step give_next take_next read_next start start_sign bracket
cast_move e0 e1 r = go (rw (e0, e1) r)

pub sizeof_move : {t : Token} {ts : List Token} {P : List Piece} {K : List Frame} {s : TState} → t.kind ≡ kinds.Word words.Sizeof → opens_type ts ≡ false → Reaches (tstate nx.Operand P ts (fr.Sizeof t.from ∷ K)) s → Reaches (tstate nx.Operand P (t ∷ ts) K) s
unfolding step give_next take_next read_next start size
sizeof_move e0 e1 r = go (rw (e0, e1) r)

pub sizeof_type_move : {t : Token} {u : Token} {ts : List Token} {P : List Piece} {K : List Frame} {s : TState} → t.kind ≡ kinds.Word words.Sizeof → opens_type (u ∷ ts) ≡ true → Reaches (tstate nx.TypeName P ts (fr.SizeofType t.from ∷ K)) s → Reaches (tstate nx.Operand P (t ∷ u ∷ ts) K) s
unfolding step give_next take_next read_next start size
sizeof_type_move e0 e1 r = go (rw (e0, e1) r)

-- what may follow so that an expression of level m ends
abbrev pub Pops : ℕ → After → Type 0
Pops m (afters.Binary l s) = l < m
Pops m (afters.Assign s) = 2 < m
Pops m afters.Question = 3 < m
Pops m afters.Other = Unit {0}
Pops m _ = 15 < m

close_run : (m k : ℕ) (c : After) (f : ℕ) {all : List Token} (ts : List Token) {P : List Piece} {K : List Frame} {s : TState} → Pops m c → m ≤ k →
    Reaches (tstate nx.Value P all K) s → Reaches (run (climb c m f k all ts K) P) s
unfolding climb close
close_run m k (afters.Binary l x) f ts p h r = rw (lt-leb m l p, le-leb m k h) r
close_run m k (afters.Assign x) f ts p h r = rw (lt-leb m 2 p, le-leb m k h) r
close_run m k afters.Question f ts p h r = rw (lt-leb m 3 p, le-leb m k h) r
close_run m k _ f ts p h r = rw (le-leb m k h) r

-- the expression of level m ends
pub value_move : {m f k : ℕ} {ts : List Token} {P : List Piece} {K : List Frame} {s : TState} → Pops m (after_at ts) → m ≤ k →
    Reaches (tstate nx.Value P ts K) s → Reaches (tstate (nx.Done k) P ts (fr.Climb m f ∷ K)) s
unfolding step give_next take_next read_next give
value_move {m = m} {f = f} {k = k} {ts = ts} p h r = go (close_run m k (after_at ts) f _ p h r)

pub binary_move : {m f k l : ℕ} {x : Sign} {t : Token} {ts : List Token} {P : List Piece} {K : List Frame} {s : TState} → after_of t.kind ≡ afters.Binary l x → m ≤ l → l ≤ k →
    Reaches (start_expr (l + 1) P ts (fr.Binary l f x ∷ fr.Climb m f ∷ K)) s → Reaches (tstate (nx.Done k) P (t ∷ ts) (fr.Climb m f ∷ K)) s
unfolding step give_next take_next read_next give climb
binary_move {m = m} {k = k} {l = l} e h h' r = go (rw (e, le-leb m l h, le-leb l k h') r)

pub assign_move : {m f k : ℕ} {x : Sign} {t : Token} {ts : List Token} {P : List Piece} {K : List Frame} {s : TState} → after_of t.kind ≡ afters.Assign x → m ≤ 2 → 14 ≤ k →
    Reaches (start_expr 2 P ts (fr.Assign f x ∷ fr.Climb m f ∷ K)) s → Reaches (tstate (nx.Done k) P (t ∷ ts) (fr.Climb m f ∷ K)) s
unfolding step give_next take_next read_next give climb
assign_move {m = m} {k = k} e h h' r = go (rw (e, le-leb m 2 h, le-leb 14 k h') r)

pub cond_move : {m f k : ℕ} {t : Token} {ts : List Token} {P : List Piece} {K : List Frame} {s : TState} → t.kind ≡ kinds.Sign signs.Question → m ≤ 3 → 4 ≤ k →
    Reaches (start_expr 1 P ts (fr.Middle f ∷ fr.Climb m f ∷ K)) s → Reaches (tstate (nx.Done k) P (t ∷ ts) (fr.Climb m f ∷ K)) s
unfolding step give_next take_next read_next give climb
cond_move {m = m} {k = k} e h h' r = go (rw (e, le-leb m 3 h, le-leb 4 k h') r)

-- what may follow so that an operand ends
abbrev pub Ends : After → Type 0
Ends (afters.Binary l s) = Unit {0}
Ends (afters.Assign s) = Unit {0}
Ends afters.Question = Unit {0}
Ends afters.Other = Unit {0}
Ends _ = ⊥

end_run : (c : After) (f : ℕ) {all : List Token} (ts : List Token) {P : List Piece} {K : List Frame} {s : TState} → Ends c →
    Reaches (tstate (nx.Done 14) P all K) s → Reaches (run (after c f all ts K) P) s
unfolding after
end_run (afters.Binary l x) f ts e r = r
end_run (afters.Assign x) f ts e r = r
end_run afters.Question f ts e r = r
end_run afters.Other f ts e r = r
end_run _ f ts e r = absurd e

pub end_move : {f : ℕ} {ts : List Token} {P : List Piece} {K : List Frame} {s : TState} → Ends (after_at ts) →
    Reaches (tstate (nx.Done 14) P ts K) s → Reaches (tstate (nx.After f) P ts K) s
unfolding step give_next take_next read_next
end_move {f = f} {ts = ts} e r = go (end_run (after_at ts) f _ e r)

pub index_move : {t : Token} {f : ℕ} {ts : List Token} {P : List Piece} {K : List Frame} {s : TState} → t.kind ≡ kinds.Sign signs.OpenBracket → Reaches (start_expr 1 P ts (fr.Index f ∷ K)) s → Reaches (tstate (nx.After f) P (t ∷ ts) K) s
unfolding step give_next take_next read_next after
index_move e0 r = go (rw e0 r)

pub call_none_move : {t : Token} {u : Token} {f : ℕ} {e : Expr} {ts : List Token} {P : List Piece} {K : List Frame} {s : TState} → t.kind ≡ kinds.Sign signs.OpenParenthesis → u.kind ≡ kinds.Sign signs.CloseParenthesis → Reaches (tstate (nx.After f) (PExpr (Call f e NoExprs) ∷ P) ts K) s → Reaches (tstate (nx.After f) (PExpr e ∷ P) (t ∷ u ∷ ts) K) s
unfolding step give_next take_next read_next after call
call_none_move e0 e1 r = go (rw (e0, e1) r)

call_run : (cc1 : Punctuator) (f : ℕ) (ts us : List Token) {P : List Piece} {K : List Frame} {s : TState} → (cc1 ≡ marks.Close → ⊥) → Reaches (start_expr 2 (PExprs NoExprs ∷ P) ts (fr.Args f ∷ K)) s → Reaches (run (call cc1 f ts K) P) s
unfolding call
call_run marks.Close f ts us h r = absurd (h refl)
call_run _ f ts us h r = r

pub call_move : {t : Token} {f : ℕ} {ts : List Token} {P : List Piece} {K : List Frame} {s : TState} → t.kind ≡ kinds.Sign signs.OpenParenthesis → (mark_at ts ≡ marks.Close → ⊥) → Reaches (start_expr 2 (PExprs NoExprs ∷ P) ts (fr.Args f ∷ K)) s → Reaches (tstate (nx.After f) P (t ∷ ts) K) s
unfolding step give_next take_next read_next after
call_move {ts = ts} e0 e1 r = go (rw e0 (call_run (mark_at ts) _ ts ts e1 r))

pub member_move : {t : Token} {u : Token} {f : ℕ} {e : Expr} {n : List ℕ} {ts : List Token} {P : List Piece} {K : List Frame} {s : TState} → t.kind ≡ kinds.Sign signs.Dot → u.kind ≡ kinds.Name n → Reaches (tstate (nx.After f) (PExpr (Member f e n) ∷ P) ts K) s → Reaches (tstate (nx.After f) (PExpr e ∷ P) (t ∷ u ∷ ts) K) s
unfolding step give_next take_next read_next after field field_name
member_move e0 e1 r = go (rw (e0, e1) r)

pub arrow_move : {t : Token} {u : Token} {f : ℕ} {e : Expr} {n : List ℕ} {ts : List Token} {P : List Piece} {K : List Frame} {s : TState} → t.kind ≡ kinds.Sign signs.Arrow → u.kind ≡ kinds.Name n → Reaches (tstate (nx.After f) (PExpr (Arrow f e n) ∷ P) ts K) s → Reaches (tstate (nx.After f) (PExpr e ∷ P) (t ∷ u ∷ ts) K) s
unfolding step give_next take_next read_next after field field_name
arrow_move e0 e1 r = go (rw (e0, e1) r)

pub postfix_move : {t : Token} {f : ℕ} {e : Expr} {x : Sign} {ts : List Token} {P : List Piece} {K : List Frame} {s : TState} → after_of t.kind ≡ afters.Postfix x → Reaches (tstate (nx.After f) (PExpr (Postfix f x e) ∷ P) ts K) s → Reaches (tstate (nx.After f) (PExpr e ∷ P) (t ∷ ts) K) s
unfolding step give_next take_next read_next after
postfix_move e0 r = go (rw e0 r)

pub prefix_done : {f : ℕ} {k : ℕ} {e : Expr} {x : Sign} {ts : List Token} {P : List Piece} {K : List Frame} {s : TState} → 14 ≤ k → Reaches (tstate (nx.Done 14) (PExpr (Prefix f x e) ∷ P) ts K) s → Reaches (tstate (nx.Done k) (PExpr e ∷ P) ts (fr.Prefix f x ∷ K)) s
unfolding step give_next take_next read_next give
prefix_done {k = k} h r = go (rw (le-leb 14 k h) r)

pub sizeof_done : {f : ℕ} {k : ℕ} {e : Expr} {ts : List Token} {P : List Piece} {K : List Frame} {s : TState} → 14 ≤ k → Reaches (tstate (nx.Done 14) (PExpr (SizeofExpr f e) ∷ P) ts K) s → Reaches (tstate (nx.Done k) (PExpr e ∷ P) ts (fr.Sizeof f ∷ K)) s
unfolding step give_next take_next read_next give
sizeof_done {k = k} h r = go (rw (le-leb 14 k h) r)

pub cast_done : {f : ℕ} {k : ℕ} {e : Expr} {d : Decl} {ts : List Token} {P : List Piece} {K : List Frame} {s : TState} → 14 ≤ k → Reaches (tstate (nx.Done 14) (PExpr (Cast f d e) ∷ P) ts K) s → Reaches (tstate (nx.Done k) (PExpr e ∷ PDecl d ∷ P) ts (fr.Cast f ∷ K)) s
unfolding step give_next take_next read_next give
cast_done {k = k} h r = go (rw (le-leb 14 k h) r)

pub binary_done : {f : ℕ} {l : ℕ} {x : Sign} {a : Expr} {b : Expr} {ts : List Token} {P : List Piece} {K : List Frame} {s : TState} → Reaches (tstate (nx.Done l) (PExpr (Binary f x a b) ∷ P) ts K) s → Reaches (tstate nx.Value (PExpr b ∷ PExpr a ∷ P) ts (fr.Binary l f x ∷ K)) s
unfolding step give_next take_next read_next value
binary_done r = go r

pub assign_done : {f : ℕ} {x : Sign} {a : Expr} {b : Expr} {ts : List Token} {P : List Piece} {K : List Frame} {s : TState} → Reaches (tstate (nx.Done 2) (PExpr (Assign f x a b) ∷ P) ts K) s → Reaches (tstate nx.Value (PExpr b ∷ PExpr a ∷ P) ts (fr.Assign f x ∷ K)) s
unfolding step give_next take_next read_next value
assign_done r = go r

pub last_done : {f : ℕ} {a : Expr} {b : Expr} {c : Expr} {ts : List Token} {P : List Piece} {K : List Frame} {s : TState} → Reaches (tstate (nx.Done 3) (PExpr (Cond f a b c) ∷ P) ts K) s → Reaches (tstate nx.Value (PExpr c ∷ PExpr b ∷ PExpr a ∷ P) ts (fr.Last f ∷ K)) s
unfolding step give_next take_next read_next value
last_done r = go r

pub plain_done : {e : Expr} {ts : List Token} {P : List Piece} {K : List Frame} {s : TState} → Reaches (tstate nx.ValueDone (PValue (Plain e) ∷ P) ts K) s → Reaches (tstate nx.Value (PExpr e ∷ P) ts (fr.Plain ∷ K)) s
unfolding step give_next take_next read_next value
plain_done r = go r

pub middle_done : {t : Token} {f : ℕ} {ts : List Token} {P : List Piece} {K : List Frame} {s : TState} → t.kind ≡ kinds.Sign signs.Colon → Reaches (start_expr 3 P ts (fr.Last f ∷ K)) s → Reaches (tstate nx.Value P (t ∷ ts) (fr.Middle f ∷ K)) s
unfolding step give_next take_next read_next value closes at_colon
middle_done e0 r = go (rw e0 r)

pub group_done : {t : Token} {f : ℕ} {ts : List Token} {P : List Piece} {K : List Frame} {s : TState} → t.kind ≡ kinds.Sign signs.CloseParenthesis → Reaches (tstate (nx.After f) P ts K) s → Reaches (tstate nx.Value P (t ∷ ts) (fr.Group f ∷ K)) s
unfolding step give_next take_next read_next value closes at_close
group_done e0 r = go (rw e0 r)

pub index_done : {t : Token} {f : ℕ} {a : Expr} {b : Expr} {ts : List Token} {P : List Piece} {K : List Frame} {s : TState} → t.kind ≡ kinds.Sign signs.CloseBracket → Reaches (tstate (nx.After f) (PExpr (Index f a b) ∷ P) ts K) s → Reaches (tstate nx.Value (PExpr b ∷ PExpr a ∷ P) (t ∷ ts) (fr.Index f ∷ K)) s
unfolding step give_next take_next read_next value closes at_bracket
index_done e0 r = go (rw e0 r)

pub args_more : {t : Token} {f : ℕ} {e : Expr} {xs : Exprs} {ts : List Token} {P : List Piece} {K : List Frame} {s : TState} → t.kind ≡ kinds.Sign signs.Comma → Reaches (start_expr 2 (PExprs (exprs_then xs e) ∷ P) ts (fr.Args f ∷ K)) s → Reaches (tstate nx.Value (PExpr e ∷ PExprs xs ∷ P) (t ∷ ts) (fr.Args f ∷ K)) s
unfolding step give_next take_next read_next value closes at_comma
args_more e0 r = go (rw e0 r)

pub args_done : {t : Token} {f : ℕ} {e : Expr} {a : Expr} {xs : Exprs} {ts : List Token} {P : List Piece} {K : List Frame} {s : TState} → t.kind ≡ kinds.Sign signs.CloseParenthesis → Reaches (tstate (nx.After f) (PExpr (Call f a (exprs_then xs e)) ∷ P) ts K) s → Reaches (tstate nx.Value (PExpr e ∷ PExprs xs ∷ PExpr a ∷ P) (t ∷ ts) (fr.Args f ∷ K)) s
unfolding step give_next take_next read_next value closes at_close
args_done e0 r = go (rw e0 r)

pub length_done : {t : Token} {f : ℕ} {e : Expr} {ps : Parts} {name : Option (List ℕ)} {h : ℕ} {ts : List Token} {P : List Piece} {K : List Frame} {s : TState} → t.kind ≡ kinds.Sign signs.CloseBracket → Reaches (tstate nx.Direct (PDeclr (Array f e ps) name h ∷ P) ts K) s → Reaches (tstate nx.Value (PExpr e ∷ PDeclr ps name h ∷ P) (t ∷ ts) (fr.Length f ∷ K)) s
unfolding step give_next take_next read_next value closes at_bracket
length_done e0 r = go (rw e0 r)

pub expression_done : {t : Token} {f : ℕ} {e : Expr} {ts : List Token} {P : List Piece} {K : List Frame} {s : TState} → t.kind ≡ kinds.Sign signs.Semicolon → Reaches (tstate nx.StmtDone (PStmt (Expression f (OneExpr e)) ∷ P) ts K) s → Reaches (tstate nx.Value (PExpr e ∷ P) (t ∷ ts) (fr.Expression f ∷ K)) s
unfolding step give_next take_next read_next value closes at_semicolon
expression_done e0 r = go (rw e0 r)

pub if_cond_done : {t : Token} {f : ℕ} {ts : List Token} {P : List Piece} {K : List Frame} {s : TState} → t.kind ≡ kinds.Sign signs.CloseParenthesis → Reaches (tstate nx.Stmt P ts (fr.IfThen f ∷ K)) s → Reaches (tstate nx.Value P (t ∷ ts) (fr.IfCond f ∷ K)) s
unfolding step give_next take_next read_next value closes at_close
if_cond_done e0 r = go (rw e0 r)

pub while_cond_done : {t : Token} {f : ℕ} {ts : List Token} {P : List Piece} {K : List Frame} {s : TState} → t.kind ≡ kinds.Sign signs.CloseParenthesis → Reaches (tstate nx.Stmt P ts (fr.WhileBody f ∷ K)) s → Reaches (tstate nx.Value P (t ∷ ts) (fr.WhileCond f ∷ K)) s
unfolding step give_next take_next read_next value closes at_close
while_cond_done e0 r = go (rw e0 r)

pub do_cond_done : {t : Token} {u : Token} {f : ℕ} {e : Expr} {s1 : Stmt} {ts : List Token} {P : List Piece} {K : List Frame} {s : TState} → t.kind ≡ kinds.Sign signs.CloseParenthesis → u.kind ≡ kinds.Sign signs.Semicolon → Reaches (tstate nx.StmtDone (PStmt (Do f s1 e) ∷ P) ts K) s → Reaches (tstate nx.Value (PExpr e ∷ PStmt s1 ∷ P) (t ∷ u ∷ ts) (fr.DoCond f ∷ K)) s
unfolding step give_next take_next read_next value closes at_close do_end
do_cond_done e0 e1 r = go (rw (e0, e1) r)

pub for_first_done : {t : Token} {f : ℕ} {e : Expr} {ts : List Token} {P : List Piece} {K : List Frame} {s : TState} → t.kind ≡ kinds.Sign signs.Semicolon → Reaches (tstate (nx.ForTest f) (PFirst (ExprFirst e) ∷ P) ts K) s → Reaches (tstate nx.Value (PExpr e ∷ P) (t ∷ ts) (fr.ForFirst f ∷ K)) s
unfolding step give_next take_next read_next value closes at_semicolon
for_first_done e0 r = go (rw e0 r)

pub for_test_done : {t : Token} {f : ℕ} {e : Expr} {ts : List Token} {P : List Piece} {K : List Frame} {s : TState} → t.kind ≡ kinds.Sign signs.Semicolon → Reaches (tstate (nx.ForStep f) (PMaybe (OneExpr e) ∷ P) ts K) s → Reaches (tstate nx.Value (PExpr e ∷ P) (t ∷ ts) (fr.ForTest f ∷ K)) s
unfolding step give_next take_next read_next value closes at_semicolon
for_test_done e0 r = go (rw e0 r)

pub for_step_done : {t : Token} {f : ℕ} {e : Expr} {ts : List Token} {P : List Piece} {K : List Frame} {s : TState} → t.kind ≡ kinds.Sign signs.CloseParenthesis → Reaches (tstate nx.Stmt (PMaybe (OneExpr e) ∷ P) ts (fr.ForBody f ∷ K)) s → Reaches (tstate nx.Value (PExpr e ∷ P) (t ∷ ts) (fr.ForStep f ∷ K)) s
unfolding step give_next take_next read_next value closes at_close
for_step_done e0 r = go (rw e0 r)

pub return_done : {t : Token} {f : ℕ} {e : Expr} {ts : List Token} {P : List Piece} {K : List Frame} {s : TState} → t.kind ≡ kinds.Sign signs.Semicolon → Reaches (tstate nx.StmtDone (PStmt (Return f (OneExpr e)) ∷ P) ts K) s → Reaches (tstate nx.Value (PExpr e ∷ P) (t ∷ ts) (fr.Return f ∷ K)) s
unfolding step give_next take_next read_next value closes at_semicolon
return_done e0 r = go (rw e0 r)
