-- Each move reads as the productions say.
use Rattle.std.proofs.Common.{◌≡◌, ℕ, ◌+◌, ◌≤◌, suc, zero, Bool, true, false, ◌&&◌, List, [], ◌∷◌, Some, inl, inr, ◌-◌, add-zero, add-one, if◌then◌else◌, refl, sym, arith, nat_le}
use Rattle.std.proofs.lemmas.Bool.{leb-true}
use Rattle.c_lexer.specs.declared.token.Sign.{Sign}
use Rattle.c_lexer.specs.declared.token.Sign.TheVariants as signs
use Rattle.c_lexer.specs.declared.token.Word.{Word}
use Rattle.c_lexer.specs.declared.token.Word.TheVariants as words
use Rattle.c_lexer.specs.declared.token.Kind.{Kind}
use Rattle.c_lexer.specs.declared.token.Kind.TheVariants as kinds
use Rattle.c_lexer.specs.declared.token.Token.{Token}
use Rattle.c_syntax.specs.declared.declaration.Base.{Base}
use Rattle.c_syntax.specs.Syntax.{Expr, Exprs, Decl, Decls, Annots, Annot, Items, Item, Parts, Value, Values, Rest, Name, Number, Char, Text, Binary, Assign, Cond, Prefix, Postfix, SizeofExpr, Cast, Index, Call, Member, Arrow, NoExprs, OneExpr, Declare, Array, Plain, Expression, Do, Return, ExprFirst, exprs_then, decls_then, annots_then, items_then, values_then}
use Rattle.c_syntax.specs.Levels.{level_of, begins_type, opens_type, from_of}
use Rattle.c_parser_moves.specs.declared.mark.Punctuator.{Punctuator}
use Rattle.c_parser_moves.specs.declared.mark.Punctuator.TheVariants as marks
use Rattle.c_parser_moves.specs.declared.mark.After.{After}
use Rattle.c_parser_moves.specs.declared.mark.After.TheVariants as afters
use Rattle.c_parser_moves.specs.declared.frame.Frame.{Frame}
use Rattle.c_parser_moves.specs.declared.frame.Frame.TheVariants as fr
use Rattle.c_parser_moves.specs.declared.frame.Next.TheVariants as nx
use Rattle.c_parser_moves.specs.declared.action.Action.TheVariants as acts
use Rattle.c_parser_moves.specs.Marks.{mark_of, mark_at, after_of, after_at}
use Rattle.c_parser_actions.specs.Pieces.{Piece, PExpr}
use Rattle.c_parser_moves.proofs.Machine.{move, tail, fail}
use Rattle.c_parser_moves.proofs.MachineExpr.{bracket, size, start_sign, start, call, field_name, field, after, close, climb, give, do_end, at_comma, at_close, at_bracket, at_colon, at_semicolon, closes, value}
use Rattle.c_syntax.specs.Levels.{opens}
use Rattle.c_syntax.specs.Grammar as g
use Rattle.c_syntax.specs.Grammar.{IsPostfix, IsUnary, IsExpr, IsArgs, IsTypeName, IsSpecs, IsConsts, IsDeclr, IsDirect, IsParams, IsParamList, IsParam, IsAnnotation, IsAnnots, IsAnnot, IsItems, IsItem, IsAtom, IsSomething, Label, Named, Nameless, label_from, label_name}
use Rattle.c_syntax.specs.Sources as s
use Rattle.c_syntax.specs.Sources.{IsValue, IsValues, IsInit, IsNames, IsMaybe, IsFirst, IsStmt, IsEntries, IsMembers, IsTops}
use Rattle.c_parser_actions.proofs.Runs.{run}
use Rattle.c_parser_actions.proofs.Firsts.{low_level}
use Rattle.c_parser_actions.proofs.TokenKinds as is
use Rattle.c_parser_actions.proofs.Good.{ArgsPrefix, ParamsPrefix, AnnotsPrefix, ItemsPrefix, ValuesPrefix, NamesPrefix, Wants, Fits, Read, Good}

both : (a b : Bool) → (a && b) ≡ true → (a ≡ true) × (b ≡ true)
both true true h = (refl, refl)
both true false h = cc
both false b h = cc

looser : (us : List Token) (a : Expr) (m j : ℕ) (ts : List Token) → IsExpr (m + j) us a ts → IsExpr m us a ts
looser us a m zero ts d = rw (add-zero m) at d
looser us a m (suc j) ts d = looser us a m j ts (g.tighter (let e : m + suc j ≡ suc (m + j) = omega arith in rw e at d))

at_level : {us : List Token} {a : Expr} (m k : ℕ) {ts : List Token} → IsExpr k us a ts → m ≤ k → IsExpr m us a ts
at_level {us = us} {a = a} m k {ts = ts} d l = looser us a m (k - m) ts (let e : m + (k - m) ≡ k = omega arith in rw e d)

opens_kind : (k : Kind) (ts : List Token) → opens k ts ≡ true → k ≡ kinds.Sign signs.OpenParenthesis
opens_kind (kinds.Sign signs.OpenParenthesis) ts h = refl
opens_kind _ ts h = cc

-- a list that goes on takes one more
pub args_on : {vs us rest : List Token} {xs : Exprs} {e : Expr} → ArgsPrefix vs xs us → IsExpr 2 us e rest → IsArgs vs (exprs_then xs e) rest
args_on (inl (e, q)) d = rw (e, sym q) (g.first_arg d)
args_on (inr (c, a, h)) d = g.more_args a h d

pub params_on : {vs us rest : List Token} {xs : Decls} {d : Decl} → ParamsPrefix vs xs us → IsParam us d rest → IsParamList vs (decls_then xs d) rest
params_on (inl (e, q)) d = rw (e, sym q) (g.first_param d)
params_on (inr (c, a, h)) d = g.more_params a h d

pub annots_on : {vs us rest : List Token} {xs : Annots} {x : Annot} → AnnotsPrefix vs xs us → IsAnnot us x rest → IsAnnots vs (annots_then xs x) rest
annots_on (inl (e, q)) d = rw (e, sym q) (g.first_annot d)
annots_on (inr (c, a, h)) d = g.more_annots a h d

pub items_on : {vs us rest : List Token} {xs : Items} {x : Item} → ItemsPrefix vs xs us → IsItem us x rest → IsItems vs (items_then xs x) rest
items_on (inl (e, q)) d = rw (e, sym q) (g.first_item d)
items_on (inr (c, a, h)) d = g.more_items a h d

pub values_on : {vs us rest : List Token} {xs : Values} {v : Value} → ValuesPrefix vs xs us → IsValue us v rest → IsValues vs (values_then xs v) rest
values_on (inl (e, q)) d = rw (e, sym q) (s.first_value d)
values_on (inr (c, a, h)) d = s.more_values a h d

pub names_on : {values : Bool} {an : Annots} {b : Base} {before ds : Decls} {vs us ws rest : List Token} {first : Bool} {ps : Parts} {f : ℕ} {n : List ℕ} {r : Rest} → NamesPrefix values an b before vs ds us first → IsDeclr us ps (Named f n) ws → IsInit values ws r rest → IsNames values an b before vs (decls_then ds (Declare f an b ps (Some n) r)) rest
names_on (inl ((e, q), p)) d i = rw (q, sym p) (s.first_name d i)
names_on (inr (e, (c, a, h))) d i = s.more_names a h d i

module _ (all : List Token) where
  pub good_bracket : (t : Token) (P : List Piece) (ts : List Token) (K : List Frame) → Wants all P K (t ∷ ts) → t.kind ≡ kinds.Sign signs.OpenParenthesis → (b : Bool) → begins_type ts ≡ b → Good all (run (bracket b t.from ts K) P)
  unfolding bracket
  good_bracket t P ts K h e true p = (t, refl, e, h)
  good_bracket t P ts K h e false p = (refl, (t, refl, refl, e, h))

  pub good_size : (t : Token) (P : List Piece) (ts : List Token) (K : List Frame) → Wants all P K (t ∷ ts) → t.kind ≡ kinds.Word words.Sizeof → (b : Bool) → opens_type ts ≡ b → Good all (run (size b t.from ts K) P)
  unfolding size
  good_size t P [] K h e true p = absurd (let x : false ≡ true = p in cc)
  good_size t P (u ∷ us) K h e true p = (t, u, refl, e, opens_kind u.kind us p, h)
  good_size t P ts K h e false p = (t, refl, e, p, h)

  pub good_sign : (t : Token) (P : List Piece) (ts : List Token) (K : List Frame) → Wants all P K (t ∷ ts) → (x : Sign) → t.kind ≡ kinds.Sign x → Good all (run (start_sign x t.from ts K) P)
  unfolding start_sign
  good_sign t P ts K h signs.OpenParenthesis e = good_bracket t P ts K h e (begins_type ts) refl
  good_sign t P ts K h signs.Increment e = (t, refl, e, refl, h)
  good_sign t P ts K h signs.Decrement e = (t, refl, e, refl, h)
  good_sign t P ts K h signs.Ampersand e = (t, refl, e, refl, h)
  good_sign t P ts K h signs.Star e = (t, refl, e, refl, h)
  good_sign t P ts K h signs.Plus e = (t, refl, e, refl, h)
  good_sign t P ts K h signs.Minus e = (t, refl, e, refl, h)
  good_sign t P ts K h signs.Tilde e = (t, refl, e, refl, h)
  good_sign t P ts K h signs.Exclamation e = (t, refl, e, refl, h)
  good_sign t P ts K h _ e = tt

  pub good_word : (t : Token) (P : List Piece) (ts : List Token) (K : List Frame) → Wants all P K (t ∷ ts) → (w : Word) → t.kind ≡ kinds.Word w → Good all (run (start (kinds.Word w) t.from ts K) P)
  unfolding start
  good_word t P ts K h words.Sizeof e = good_size t P ts K h e (opens_type ts) refl
  good_word t P ts K h _ e = tt

  pub good_start : (t : Token) (P : List Piece) (ts : List Token) (K : List Frame) → Wants all P K (t ∷ ts) → (k : Kind) → t.kind ≡ k → Good all (run (start k t.from ts K) P)
  unfolding start
  good_start t P ts K h (kinds.Name n) e = (Name t.from n, t ∷ ts, P, refl, refl, g.name e, h)
  good_start t P ts K h (kinds.Number x d v) e = (Number t.from v x d, t ∷ ts, P, refl, refl, g.number e, h)
  good_start t P ts K h (kinds.Char v) e = (Char t.from v, t ∷ ts, P, refl, refl, g.char e, h)
  good_start t P ts K h (kinds.Text n) e = (Text t.from n, t ∷ ts, P, refl, refl, g.text e, h)
  good_start t P ts K h (kinds.Word w) e = good_word t P ts K h w e
  good_start t P ts K h (kinds.Sign x) e = good_sign t P ts K h x e

  module _ (K : List Frame) (us : List Token) (a : Expr) (P Q : List Piece) (x : P ≡ PExpr a ∷ Q) (h : Wants all Q K us) where
    pub good_call : (t : Token) (ts : List Token) → IsPostfix us a (t ∷ ts) → t.kind ≡ kinds.Sign signs.OpenParenthesis → (c : Punctuator) → mark_at ts ≡ c → Good all (run (call c (from_of us) ts K) P)
    unfolding call
    good_call t [] d e marks.Close p = absurd (let y : marks.Other ≡ marks.Close = p in cc)
    good_call t (u ∷ ts) d e marks.Close p = rw x (Call (from_of us) a NoExprs, us, Q, refl, refl, g.call_none d e (is.is_Close u.kind p), h)
    good_call t ts d e _ p = rw x (refl, (NoExprs, a, Q, t, us, ts, refl, refl, refl, d, e, inl (refl, refl), h))

    pub good_name : (t u : Token) (ts : List Token) → IsPostfix us a (t ∷ u ∷ ts) → (b : Bool) → t.kind ≡ kinds.Sign (elim b [ true ↦ signs.Dot | false ↦ signs.Arrow ]) → (k : Kind) → u.kind ≡ k → Good all (run (field_name k b (from_of us) ts K) P)
    unfolding field_name
    good_name t u ts d true e (kinds.Name n) p = rw x (Member (from_of us) a n, us, Q, refl, refl, g.member d e p, h)
    good_name t u ts d false e (kinds.Name n) p = rw x (Arrow (from_of us) a n, us, Q, refl, refl, g.arrow d e p, h)
    good_name t u ts d b e _ p = tt

    pub good_field : (t : Token) (ts : List Token) → IsPostfix us a (t ∷ ts) → (b : Bool) → t.kind ≡ kinds.Sign (elim b [ true ↦ signs.Dot | false ↦ signs.Arrow ]) → Good all (run (field b (from_of us) ts K) P)
    unfolding field
    good_field t [] d b e = tt
    good_field t (u ∷ ts) d b e = good_name t u ts d b e u.kind refl

    ended : {ts : List Token} → IsPostfix us a ts → Read all (nx.Done 14) P ts K
    ended d = (a, us, Q, x, g.unary (g.postfix d), (λ _. g.postfix d), h)

    pub good_after_token : (t : Token) (ts : List Token) → IsPostfix us a (t ∷ ts) → (c : After) → after_of t.kind ≡ c → Good all (run (after c (from_of us) (t ∷ ts) ts K) P)
    unfolding after
    good_after_token t ts d afters.Index e = (refl, (a, Q, t, us, x, refl, refl, d, is.is_Index t.kind e, h))
    good_after_token t ts d afters.Call e = good_call t ts d (is.is_Call t.kind e) (mark_at ts) refl
    good_after_token t ts d afters.Dot e = good_field t ts d true (is.is_Dot t.kind e)
    good_after_token t ts d afters.Arrow e = good_field t ts d false (is.is_Arrow t.kind e)
    good_after_token t ts d (afters.Postfix y) e = let r = is.is_step t.kind y e in rw x (Postfix (from_of us) y a, us, Q, refl, refl, g.step d r.0 r.1, h)
    good_after_token t ts d _ e = ended d

    pub good_after : (ts : List Token) → IsPostfix us a ts → Good all (run (after (after_at ts) (from_of us) ts (tail ts) K) P)
    unfolding after
    good_after [] d = ended d
    good_after (t ∷ ts) d = good_after_token t ts d (after_of t.kind) refl

  module _ (K : List Frame) (us : List Token) (a : Expr) (P Q : List Piece) (x : P ≡ PExpr a ∷ Q) (m k : ℕ) (h : Fits all Q K m us) where
    pub good_close_if : (ts : List Token) → IsExpr k us a ts → (b : Bool) → nat_le m k ≡ b → Good all (run (close m k ts K) P)
    unfolding close
    good_close_if ts d true p = rw p (a, m, us, Q, x, at_level m k d (leb-true m k p), h)
    good_close_if ts d false p = rw p tt

    pub good_close : (ts : List Token) → IsExpr k us a ts → Good all (run (close m k ts K) P)
    good_close ts d = good_close_if ts d (nat_le m k) refl

    pub good_binary : (t : Token) (ts : List Token) (l : ℕ) (y : Sign) → IsExpr k us a (t ∷ ts) → after_of t.kind ≡ afters.Binary l y → (b : Bool) → (nat_le m l && nat_le l k) ≡ b → Good all (run (climb (afters.Binary l y) m (from_of us) k (t ∷ ts) ts K) P)
    unfolding climb
    good_binary t ts l y d e true p =
        let r = is.is_binary t.kind y l e in
        rw p (refl, (a, Q, t, us, x, refl, refl, at_level l k d (leb-true l k (both (nat_le m l) (nat_le l k) p).1), r.0, r.1, (refl, h)))
    good_binary t ts l y d e false p = rw p (good_close (t ∷ ts) d)

    pub good_assign : (t : Token) (ts : List Token) (y : Sign) → IsExpr k us a (t ∷ ts) → (14 ≤ k → IsUnary us a (t ∷ ts)) → after_of t.kind ≡ afters.Assign y → (b : Bool) → (nat_le m 2 && nat_le 14 k) ≡ b → Good all (run (climb (afters.Assign y) m (from_of us) k (t ∷ ts) ts K) P)
    unfolding climb
    good_assign t ts y d z e true p =
        let r = is.is_assign t.kind y e in
        rw p (refl, (a, Q, t, us, x, refl, refl, z (leb-true 14 k (both (nat_le m 2) (nat_le 14 k) p).1), r.0, r.1, (refl, h)))
    good_assign t ts y d z e false p = rw p (good_close (t ∷ ts) d)

    pub good_cond : (t : Token) (ts : List Token) → IsExpr k us a (t ∷ ts) → after_of t.kind ≡ afters.Question → (b : Bool) → (nat_le m 3 && nat_le 4 k) ≡ b → Good all (run (climb afters.Question m (from_of us) k (t ∷ ts) ts K) P)
    unfolding climb
    good_cond t ts d e true p = rw p (refl, (a, Q, t, us, x, refl, refl, at_level 4 k d (leb-true 4 k (both (nat_le m 3) (nat_le 4 k) p).1), is.is_Question t.kind e, (refl, h)))
    good_cond t ts d e false p = rw p (good_close (t ∷ ts) d)

    pub good_climb_token : (t : Token) (ts : List Token) → IsExpr k us a (t ∷ ts) → (14 ≤ k → IsUnary us a (t ∷ ts)) → (c : After) → after_of t.kind ≡ c → Good all (run (climb c m (from_of us) k (t ∷ ts) ts K) P)
    unfolding climb
    good_climb_token t ts d z (afters.Binary l y) e = good_binary t ts l y d e (nat_le m l && nat_le l k) refl
    good_climb_token t ts d z (afters.Assign y) e = good_assign t ts y d z e (nat_le m 2 && nat_le 14 k) refl
    good_climb_token t ts d z afters.Question e = good_cond t ts d e (nat_le m 3 && nat_le 4 k) refl
    good_climb_token t ts d z _ e = good_close (t ∷ ts) d

    pub good_climb : (ts : List Token) → IsExpr k us a ts → (14 ≤ k → IsUnary us a ts) → Good all (run (climb (after_at ts) m (from_of us) k ts (tail ts) K) P)
    unfolding climb
    good_climb [] d z = good_close [] d
    good_climb (t ∷ ts) d z = good_climb_token t ts d z (after_of t.kind) refl

  -- the construct has its operand of level k
  module _ (us : List Token) (a : Expr) (P Q : List Piece) (x : P ≡ PExpr a ∷ Q) (k : ℕ) (ts : List Token) (d : IsExpr k us a ts) (z : 14 ≤ k → IsUnary us a ts) (K : List Frame) where
    pub good_prefix : (f : ℕ) (y : Sign) → Wants all Q (fr.Prefix f y ∷ K) us → (b : Bool) → nat_le 14 k ≡ b → Good all (run (if b then move (nx.Done 14) (acts.Prefix f y ∷ []) ts K else fail ts K) P)
    good_prefix f y (t, e, p, q, h) true w = let u = g.prefix p q (z (leb-true 14 k w)) in rw (e, x) (Prefix t.from y a, t ∷ us, Q, refl, g.unary u, (λ _. u), h)
    good_prefix f y h false w = tt

    pub good_sizeof : (f : ℕ) → Wants all Q (fr.Sizeof f ∷ K) us → (b : Bool) → nat_le 14 k ≡ b → Good all (run (if b then move (nx.Done 14) (acts.SizeofExpr f ∷ []) ts K else fail ts K) P)
    good_sizeof f (t, e, p, q, h) true w = let u = g.sizeof p q (z (leb-true 14 k w)) in rw (e, x) (SizeofExpr t.from a, t ∷ us, Q, refl, g.unary u, (λ _. u), h)
    good_sizeof f h false w = tt

    pub good_cast : (f : ℕ) → Wants all Q (fr.Cast f ∷ K) us → (b : Bool) → nat_le 14 k ≡ b → Good all (run (if b then move (nx.Done 14) (acts.Cast f ∷ []) ts K else fail ts K) P)
    good_cast f (t, v, vs, w, R, y, e, p, c, q, h) true l = let u = g.cast p c q (z (leb-true 14 k l)) in rw (e, x, y) (Cast t.from w a, t ∷ vs, R, refl, g.unary u, (λ _. u), h)
    good_cast f h false l = tt

    pub good_give : (o : Frame) → Wants all Q (o ∷ K) us → Good all (run (give o k ts K) P)
    unfolding give
    good_give (fr.Climb m f) (e, h) = rw e (good_climb K us a P Q x m k h ts d z)
    good_give (fr.Prefix f y) h = good_prefix f y h (nat_le 14 k) refl
    good_give (fr.Sizeof f) h = good_sizeof f h (nat_le 14 k) refl
    good_give (fr.Cast f) h = good_cast f h (nat_le 14 k) refl
    good_give _ h = absurd h

  unary_of : {l : ℕ} → l ≤ 13 → {A : Type 0} → 14 ≤ l → A
  unary_of h q = absurd (let x : 14 ≤ 13 = omega arith in omega arith)

  level_low : (x : Sign) (l : ℕ) → level_of x ≡ Some l → l ≤ 13
  level_low x l h = low_level x l h

  -- the construct has an expression, before these tokens
  module _ (us : List Token) (a : Expr) (P Q : List Piece) (x : P ≡ PExpr a ∷ Q) (m : ℕ) (K : List Frame) where
    pub good_comma : (t : Token) (ts : List Token) → IsExpr m us a (t ∷ ts) → t.kind ≡ kinds.Sign signs.Comma → (o : Frame) → Fits all Q (o ∷ K) m us → Good all (run (at_comma o ts K) P)
    unfolding at_comma
    good_comma t ts d e (fr.Args f) (xs, b, R, u, vs, ws, y, p, q, c, i, j, h) = rw (x, y) (refl, (exprs_then xs a, b, R, u, vs, ws, refl, refl, q, c, i, inr (t, args_on j (rw p at d), e), h))
    good_comma t ts d e _ h = tt

    pub good_do : (t : Token) (ts : List Token) → IsExpr m us a (t ∷ ts) → t.kind ≡ kinds.Sign signs.CloseParenthesis → (f : ℕ) → Fits all Q (fr.DoCond f ∷ K) m us → (c : Punctuator) → mark_at ts ≡ c → Good all (run (do_end c f ts K) P)
    unfolding do_end
    good_do t [] d e f h marks.Semicolon p = absurd (let y : marks.Other ≡ marks.Semicolon = p in cc)
    good_do t (w ∷ ts) d e f (z, R, u, v, r, vs, y, q, i, j, c, k, l, h) marks.Semicolon p = rw (x, y, i) (Do u.from z a, u ∷ vs, R, refl, s.do_while j c k l (rw q at d) e (is.is_Semicolon w.kind p), h)
    good_do t ts d e f h _ p = tt

    pub good_round : (t : Token) (ts : List Token) → IsExpr m us a (t ∷ ts) → t.kind ≡ kinds.Sign signs.CloseParenthesis → (o : Frame) → Fits all Q (o ∷ K) m us → Good all (run (at_close o ts K) P)
    unfolding at_close
    good_round t ts d e (fr.Args f) (xs, b, R, u, vs, ws, y, p, q, c, i, j, h) = rw (x, y, q) (Call (from_of vs) b (exprs_then xs a), vs, R, refl, refl, g.call c i (args_on j (rw p at d)) e, h)
    good_round t ts d e (fr.Group f) (u, p, q, i, h) = (a, u ∷ us, Q, x, q, g.group i (rw p at d) e, h)
    good_round t ts d e (fr.IfCond f) (u, v, p, q, i, j, h) = (a, Q, u, v, t, us, x, q, i, j, rw p at d, e, h)
    good_round t ts d e (fr.WhileCond f) (u, v, p, q, i, j, h) = (a, Q, u, v, t, us, x, q, i, j, rw p at d, e, h)
    good_round t ts d e (fr.DoCond f) h = good_do t ts d e f h (mark_at ts) refl
    good_round t ts d e (fr.ForStep f) (p, h) = rw x (OneExpr a, Q, t, us, refl, s.something (rw p at d), e, h)
    good_round t ts d e _ h = tt

    pub good_square : (t : Token) (ts : List Token) → IsExpr m us a (t ∷ ts) → t.kind ≡ kinds.Sign signs.CloseBracket → (o : Frame) → Fits all Q (o ∷ K) m us → Good all (run (at_bracket o ts K) P)
    unfolding at_bracket
    good_square t ts d e (fr.Index f) (b, R, u, vs, y, p, q, c, i, h) = rw (x, y, q) (Index (from_of vs) b a, vs, R, refl, refl, g.index c i (rw p at d) e, h)
    good_square t ts d e (fr.Length f) (ps, n, k, R, u, y, p, q, i, (vs, l, c, r, j, v, w, z, h)) = rw (x, y, q) (Array u.from a ps, n, k, R, refl, (vs, l, c, r, g.array j i (rw p at d) e, v, w, z, h))
    good_square t ts d e _ h = tt

    pub good_colon : (t : Token) (ts : List Token) → IsExpr m us a (t ∷ ts) → t.kind ≡ kinds.Sign signs.Colon → (o : Frame) → Fits all Q (o ∷ K) m us → Good all (run (at_colon o ts K) P)
    unfolding at_colon
    good_colon t ts d e (fr.Middle f) (b, R, u, vs, y, p, q, c, i, h) = rw (x, y) (refl, (b, a, R, u, t, vs, us, refl, refl, q, c, i, rw p at d, e, h))
    good_colon t ts d e _ h = tt

    pub good_semicolon : (t : Token) (ts : List Token) → IsExpr m us a (t ∷ ts) → t.kind ≡ kinds.Sign signs.Semicolon → (o : Frame) → Fits all Q (o ∷ K) m us → Good all (run (at_semicolon o ts K) P)
    unfolding at_semicolon
    good_semicolon t ts d e (fr.Expression f) (p, q, h) = rw (x, q) (Expression (from_of us) (OneExpr a), us, Q, refl, s.expression (s.something (rw p at d)) e, h)
    good_semicolon t ts d e (fr.ForFirst f) (p, h) = rw x (ExprFirst a, Q, us, refl, s.expr_first (rw p at d) e, h)
    good_semicolon t ts d e (fr.ForTest f) (p, h) = rw x (OneExpr a, Q, us, t, refl, s.something (rw p at d), e, h)
    good_semicolon t ts d e (fr.Return f) (u, p, q, i, h) = rw (x, q) (Return u.from (OneExpr a), u ∷ us, Q, refl, s.return i (s.something (rw p at d)) e, h)
    good_semicolon t ts d e _ h = tt

    pub good_closes : (t : Token) (ts : List Token) → IsExpr m us a (t ∷ ts) → (o : Frame) → Fits all Q (o ∷ K) m us → (c : Punctuator) → mark_of t.kind ≡ c → Good all (run (closes c o ts K) P)
    unfolding closes
    good_closes t ts d o h marks.Comma e = good_comma t ts d (is.is_Comma t.kind e) o h
    good_closes t ts d o h marks.Close e = good_round t ts d (is.is_Close t.kind e) o h
    good_closes t ts d o h marks.CloseBracket e = good_square t ts d (is.is_CloseBracket t.kind e) o h
    good_closes t ts d o h marks.Colon e = good_colon t ts d (is.is_Colon t.kind e) o h
    good_closes t ts d o h marks.Semicolon e = good_semicolon t ts d (is.is_Semicolon t.kind e) o h
    good_closes t ts d o h _ e = tt

    pub good_ends : (ts : List Token) → IsExpr m us a ts → (o : Frame) → Fits all Q (o ∷ K) m us → Good all (run (closes (mark_at ts) o (tail ts) K) P)
    unfolding closes
    good_ends [] d o h = tt
    good_ends (t ∷ ts) d o h = good_closes t ts d o h (mark_of t.kind) refl

    pub good_value : (ts : List Token) → IsExpr m us a ts → (o : Frame) → Fits all Q (o ∷ K) m us → Good all (run (value o ts K) P)
    unfolding value
    good_value ts d (fr.Binary l f y) (b, R, t, vs, w, p, q, c, i, j, h) =
        let r : IsExpr (l + 1) us a ts = rw p at d in
        rw (x, w, q) (Binary (from_of vs) y b a, vs, R, refl, g.binary c i j (rw (add-one l) at r), unary_of (level_low y l j), h)
    good_value ts d (fr.Assign f y) (b, R, t, vs, w, p, q, c, i, j, h) = rw (x, w, q) (Assign (from_of vs) y b a, vs, R, refl, g.assign c i j (rw p at d), unary_of (omega arith), h)
    good_value ts d (fr.Last f) (b, c, R, t, u, vs, ws, w, p, q, i, j, k, l, h) = rw (x, w, q) (Cond (from_of vs) b c a, vs, R, refl, g.cond i j k l (rw p at d), unary_of (omega arith), h)
    good_value ts d fr.Plain (p, h) = rw x (Plain a, us, Q, refl, s.plain (rw p at d), h)
    good_value ts d o h = good_ends ts d o h
