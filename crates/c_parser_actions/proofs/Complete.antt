-- Whatever has a tree is parsed: the machine follows each production of expressions, declarators and annotations.
use Rattle.std.proofs.Common.{◌≡◌, ℕ, ◌+◌, ◌≤◌, true, false, List, [], ◌∷◌, Option, None, ◌⊎◌, inl, inr, refl, ap, ◌∙◌, arith}
use Rattle.c_lexer.specs.declared.token.Sign.TheVariants as signs
use Rattle.c_lexer.specs.declared.token.Kind.TheVariants as kinds
use Rattle.c_lexer.specs.declared.token.Token.{Token}
use Rattle.c_syntax.specs.declared.declaration.Base.{Base}
use Rattle.c_syntax.specs.Syntax.{Expr, Exprs, Decl, Decls, Annots, Annot, Items, Item, Atom, Parts, NoExprs, Declare, NoDecls, NoAnnots, Annotate, NoItems, Params, NoRest, exprs_then, decls_then, annots_then, items_then}
use Rattle.c_syntax.specs.Levels.{begins_type, opens_type, from_of}
use Rattle.c_parser_moves.specs.declared.mark.Punctuator.TheVariants as marks
use Rattle.c_parser_moves.specs.declared.mark.After.{After}
use Rattle.c_parser_moves.specs.declared.mark.After.TheVariants as afters
use Rattle.c_parser_moves.specs.declared.frame.Naming.{Naming}
use Rattle.c_parser_moves.specs.declared.frame.Naming.TheVariants as namings
use Rattle.c_parser_moves.specs.declared.frame.Target.{Target}
use Rattle.c_parser_moves.specs.declared.frame.Target.TheVariants as targets
use Rattle.c_parser_moves.specs.declared.frame.Frame.{Frame}
use Rattle.c_parser_moves.specs.declared.frame.Frame.TheVariants as fr
use Rattle.c_parser_moves.specs.declared.frame.Next.TheVariants as nx
use Rattle.c_parser_moves.specs.Marks.{mark_at, after_of, after_at}
use Rattle.c_parser_actions.specs.Pieces.{Piece, PExpr, PExprs, PDeclr, PSpecs, PDecl, PDecls, PAnnots, PAnnot, PItem, PAtom}
use Rattle.c_parser_moves.proofs.MachineDeclr.{named_group, groups}
use Rattle.c_syntax.specs.Grammar as g
use Rattle.c_syntax.specs.Grammar.{IsPostfix, IsUnary, IsExpr, IsArgs, IsTypeName, IsSpecs, IsConsts, IsDeclr, IsDirect, IsParams, IsParamList, IsParam, IsAnnotation, IsAnnots, IsAnnot, IsItems, IsItem, IsAtom, IsSomething, Label, Named, Nameless, label_from, label_name}
use Rattle.c_parser_actions.proofs.Runs.{tstate, start_expr, Reaches, here, then}
use Rattle.c_parser_actions.proofs.MovesDeclr as of_declr
use Rattle.c_parser_actions.proofs.MovesExpr as of_expr
use Rattle.c_parser_actions.proofs.MovesDeclr.{DirectEnds, unnamed_ok}
use Rattle.c_parser_actions.proofs.MovesExpr.{Pops, Ends}
use Rattle.c_parser_actions.proofs.Firsts.{after_level, after_assigns, after_steps, of_sign, left_level, stop, stop_low, stop_next, pops_more, starts_not, starts_no_type, expr_starts, args_start}
use Rattle.c_parser_actions.proofs.Types.{wordless, type_begins, specs_taken, consts_taken, type_mark}
use Rattle.c_parser_actions.proofs.Groups.{something_groups, params_no_group, Allowed}

abbrev PostfixRun : List Token → Expr → List Token → Type 0
PostfixRun ts e rest = (P : List Piece) (K : List Frame) → Reaches (tstate nx.Operand P ts K) (tstate (nx.After (from_of ts)) (PExpr e ∷ P) rest K)

abbrev UnaryRun : List Token → Expr → List Token → Type 0
UnaryRun ts e rest = (P : List Piece) (K : List Frame) → Reaches (tstate nx.Operand P ts K) (tstate (nx.Done 14) (PExpr e ∷ P) rest K)

abbrev ExprRun : ℕ → List Token → Expr → List Token → Type 0
ExprRun l ts e rest = (m : ℕ) → m ≤ l → (P : List Piece) (K : List Frame) → (k : ℕ) × (l ≤ k) × Reaches (start_expr m P ts K) (tstate (nx.Done k) (PExpr e ∷ P) rest (fr.Climb m (from_of ts) ∷ K))

-- the last argument waits for its sign
abbrev ArgsRun : List Token → Exprs → List Token → Type 0
ArgsRun ts xs rest = (f : ℕ) (P : List Piece) (K : List Frame) → (ys : Exprs) × (e : Expr) × (xs ≡ exprs_then ys e) ×
    Reaches (start_expr 2 (PExprs NoExprs ∷ P) ts (fr.Args f ∷ K)) (tstate nx.Value (PExpr e ∷ PExprs ys ∷ P) rest (fr.Args f ∷ K))

abbrev TypeRun : List Token → Decl → List Token → Type 0
TypeRun ts d rest = (P : List Piece) (K : List Frame) → (an : Annots) × (b : Base) × (ps : Parts) × (n : Option (List ℕ)) × (h : ℕ) × (d ≡ Declare h an b ps n NoRest) ×
    Reaches (tstate nx.TypeName P ts K) (tstate nx.DeclrDone (PDeclr ps n h ∷ PSpecs an b ∷ P) rest K)

-- a declarator with or without a name may stand there
abbrev pub Allows : Naming → Label → Type 0
Allows g (Named f n) = named_group g ≡ true
Allows g Nameless = unnamed_ok g ≡ true

-- what may follow a name that is lacking
abbrev pub Lacks : Naming → List Token → Type 0
Lacks g [] = ⊥
Lacks g (t ∷ ts) = ((t.kind ≡ kinds.Sign signs.CloseParenthesis) ⊎ (t.kind ≡ kinds.Sign signs.Comma)) ⊎ ((t.kind ≡ kinds.Sign signs.OpenBracket) ⊎ ((t.kind ≡ kinds.Sign signs.OpenParenthesis) × (groups g ts ≡ false)))

abbrev pub CanLack : Label → Naming → List Token → Type 0
CanLack (Named f n) g ts = Unit {0}
CanLack Nameless g ts = Lacks g ts

abbrev DirectRun : List Token → Parts → Label → List Token → Type 0
DirectRun ts ps l rest = (g : Naming) (f : ℕ) (P : List Piece) (K : List Frame) → Allows g l → CanLack l g rest →
    Reaches (tstate (nx.Declr g f) P ts K) (tstate nx.Direct (PDeclr ps (label_name l) (label_from f l) ∷ P) rest K)

abbrev DeclrRun : List Token → Parts → Label → List Token → Type 0
DeclrRun ts ps l rest = (g : Naming) (f : ℕ) (P : List Piece) (K : List Frame) → Allows g l → CanLack l g rest → DirectEnds (mark_at rest) → wordless rest ≡ true →
    Reaches (tstate (nx.Declr g f) P ts K) (tstate nx.DeclrDone (PDeclr ps (label_name l) (label_from f l) ∷ P) rest K)

abbrev ParamRun : List Token → Decl → List Token → Type 0
ParamRun ts d rest = (P : List Piece) (K : List Frame) → (an : Annots) × (b : Base) × (ps : Parts) × (n : Option (List ℕ)) × (h : ℕ) × (d ≡ Declare h an b ps n NoRest) ×
    Reaches (tstate nx.Param P ts K) (tstate nx.DeclrDone (PDeclr ps n h ∷ PSpecs an b ∷ P) rest K)

abbrev ParamsRun : List Token → Decls → List Token → Type 0
ParamsRun ts ds rest = (f : ℕ) (P : List Piece) (K : List Frame) → (es : Decls) × (an : Annots) × (b : Base) × (ps : Parts) × (n : Option (List ℕ)) × (h : ℕ) × (ds ≡ decls_then es (Declare h an b ps n NoRest)) ×
    Reaches (tstate nx.Param (PDecls NoDecls ∷ P) ts (fr.Params f ∷ K)) (tstate nx.DeclrDone (PDeclr ps n h ∷ PSpecs an b ∷ PDecls es ∷ P) rest (fr.Params f ∷ K))

abbrev AnnotRun : List Token → Annot → List Token → Type 0
AnnotRun ts x rest = (P : List Piece) (K : List Frame) → (f : ℕ) × (n : List ℕ) × (is : Items) × (x ≡ Annotate f n is) × Reaches (tstate nx.Annot P ts K) (tstate nx.AnnotDone (PAnnot f n is ∷ P) rest K)

abbrev AnnotsRun : List Token → Annots → List Token → Type 0
AnnotsRun ts xs rest = (tg : Target) (P : List Piece) (K : List Frame) → (ys : Annots) × (f : ℕ) × (n : List ℕ) × (is : Items) × (xs ≡ annots_then ys (Annotate f n is)) ×
    Reaches (tstate nx.Annot (PAnnots NoAnnots ∷ P) ts (fr.Annots tg ∷ K)) (tstate nx.AnnotDone (PAnnot f n is ∷ PAnnots ys ∷ P) rest (fr.Annots tg ∷ K))

abbrev ItemRun : List Token → Item → List Token → Type 0
ItemRun ts x rest = (P : List Piece) (K : List Frame) → Reaches (tstate nx.Item P ts K) (tstate nx.ItemDone (PItem x ∷ P) rest K)

abbrev ItemsRun : List Token → Items → List Token → Type 0
ItemsRun ts xs rest = (f : ℕ) (n : List ℕ) (P : List Piece) (K : List Frame) → (ys : Items) × (x : Item) × (xs ≡ items_then ys x) ×
    Reaches (tstate nx.Item (PAnnot f n NoItems ∷ P) ts (fr.Items ∷ K)) (tstate nx.ItemDone (PItem x ∷ PAnnot f n ys ∷ P) rest (fr.Items ∷ K))

abbrev AtomRun : List Token → Atom → List Token → Type 0
AtomRun ts a rest = (P : List Piece) (K : List Frame) → Reaches (tstate nx.Atom P ts K) (tstate nx.AtomDone (PAtom a ∷ P) rest K)

allowed : (g : Naming) (l : Label) → Allows g l → Allowed g l
allowed g (Named f n) a = a
allowed g Nameless a = a

ends_pops : (a : After) → Pops 15 a → Ends a
ends_pops (afters.Binary l s) p = tt
ends_pops (afters.Assign s) p = tt
ends_pops afters.Question p = tt
ends_pops afters.Other p = tt
ends_pops afters.Index p = omega arith
ends_pops afters.Call p = omega arith
ends_pops afters.Dot p = omega arith
ends_pops afters.Arrow p = omega arith
ends_pops (afters.Postfix s) p = omega arith

opens : (u : Token) (ts : List Token) → u.kind ≡ kinds.Sign signs.OpenParenthesis → begins_type ts ≡ true → opens_type (u ∷ ts) ≡ true
opens u ts e h = rw (e, h) refl

-- an expression before a sign that ends it
pub closed_run : {l : ℕ} {u : Token} {ts rest : List Token} {e : Expr} → ExprRun l ts e (u ∷ rest) → Pops l (after_of u.kind) → (P : List Piece) (K : List Frame) → Reaches (start_expr l P ts K) (tstate nx.Value (PExpr e ∷ P) (u ∷ rest) K)
closed_run {l = l} d p P K = let r = d l (omega arith) P K in then r.2 (of_expr.value_move p r.1 here)

-- a bracket follows, and no more
lacks_close : (g : Naming) (u : Token) (ts : List Token) (l : Label) → u.kind ≡ kinds.Sign signs.CloseParenthesis → CanLack l g (u ∷ ts)
lacks_close g u ts (Named f n) h = tt
lacks_close g u ts Nameless h = inl (inl h)

lacks_comma : (g : Naming) (u : Token) (ts : List Token) (l : Label) → u.kind ≡ kinds.Sign signs.Comma → CanLack l g (u ∷ ts)
lacks_comma g u ts (Named f n) h = tt
lacks_comma g u ts Nameless h = inl (inr h)

lacks_bracket : (g : Naming) (u : Token) (ts : List Token) (l : Label) → u.kind ≡ kinds.Sign signs.OpenBracket → CanLack l g (u ∷ ts)
lacks_bracket g u ts (Named f n) h = tt
lacks_bracket g u ts Nameless h = inr (inl h)

lacks_open : (g : Naming) (u v : Token) (us rest : List Token) (l : Label) {ds : Decls} → u.kind ≡ kinds.Sign signs.OpenParenthesis → IsParams us ds rest → Allows g l → CanLack l g (u ∷ us)
lacks_open g u v us rest (Named f n) h d a = tt
lacks_open g u v us rest Nameless h d a = inr (inr (h, params_no_group g d a))

-- what ends a parameter or type name
abbrev pub Closing : List Token → Type 0
Closing [] = ⊥
Closing (t ∷ ts) = (t.kind ≡ kinds.Sign signs.CloseParenthesis) ⊎ (t.kind ≡ kinds.Sign signs.Comma)

closing_lacks : (ts : List Token) (g : Naming) (l : Label) → Closing ts → CanLack l g ts
closing_lacks ts g (Named f n) h = tt
closing_lacks [] g Nameless h = absurd h
closing_lacks (t ∷ ts) g Nameless h = inl h

closing_ends : (ts : List Token) → Closing ts → DirectEnds (mark_at ts)
closing_ends [] h = absurd h
closing_ends (t ∷ ts) (inl h) = rw h tt
closing_ends (t ∷ ts) (inr h) = rw h tt

closing_wordless : (ts : List Token) → Closing ts → wordless ts ≡ true
closing_wordless [] h = absurd h
closing_wordless (t ∷ ts) (inl h) = rw h refl
closing_wordless (t ∷ ts) (inr h) = rw h refl

-- a declarator begins with no word
direct_wordless : {ts rest : List Token} {ps : Parts} {l : Label} → IsDirect ts ps l rest → wordless rest ≡ true → wordless ts ≡ true
direct_wordless (g.named e) h = rw e refl
direct_wordless g.nameless h = h
direct_wordless (g.grouped e d s k) h = rw e refl
direct_wordless (g.array d e c k) h = direct_wordless d (rw e refl)
direct_wordless (g.function d e c k) h = direct_wordless d (rw e refl)

pub declr_wordless : {ts rest : List Token} {ps : Parts} {l : Label} → IsDeclr ts ps l rest → wordless rest ≡ true → wordless ts ≡ true
declr_wordless (g.direct d) h = direct_wordless d h
declr_wordless (g.pointer e c d) h = rw e refl

type_name_begins : {ts rest : List Token} {d : Decl} → IsTypeName ts d rest → begins_type ts ≡ true
type_name_begins (g.type_name d c) = type_begins d

either : (l : Label) → Allows namings.Either l
either (Named f n) = refl
either Nameless = refl

-- what ends an annotation
abbrev pub AnnotsEnd : List Token → Type 0
AnnotsEnd [] = ⊥
AnnotsEnd (t ∷ ts) = (t.kind ≡ kinds.Sign signs.Comma) ⊎ (t.kind ≡ kinds.Sign signs.CloseBracket)

annots_no_open : (ts : List Token) → AnnotsEnd ts → mark_at ts ≡ marks.Open → ⊥
annots_no_open [] h e = absurd h
annots_no_open (t ∷ ts) (inl h) e = absurd (let x : marks.Comma ≡ marks.Open = rw h at e in cc)
annots_no_open (t ∷ ts) (inr h) e = absurd (let x : marks.CloseBracket ≡ marks.Open = rw h at e in cc)

closing_no_star : (ts : List Token) → Closing ts → mark_at ts ≡ marks.Star → ⊥
closing_no_star [] h e = absurd h
closing_no_star (t ∷ ts) (inl h) e = absurd (let x : marks.Close ≡ marks.Star = rw h at e in cc)
closing_no_star (t ∷ ts) (inr h) e = absurd (let x : marks.Comma ≡ marks.Star = rw h at e in cc)

mutual
  complete_postfix : {ts rest : List Token} {e : Expr} → IsPostfix ts e rest → PostfixRun ts e rest
  complete_postfix (g.name e) P K = of_expr.name_move e here
  complete_postfix (g.number e) P K = of_expr.number_move e here
  complete_postfix (g.char e) P K = of_expr.char_move e here
  complete_postfix (g.text e) P K = of_expr.text_move e here
  complete_postfix (g.group {t = t} {ts = ts} e d h) P K = of_expr.group_move e (starts_no_type ts (expr_starts d)) (then (closed_run (complete_expr d (rw h tt)) (rw h tt) P (fr.Group t.from ∷ K)) (of_expr.group_done h here))
  complete_postfix (g.index {ts = ts} {a = a} e d c h) P K = then (complete_postfix e P K) (of_expr.index_move d (then (closed_run (complete_expr c (rw h tt)) (rw h tt) (PExpr a ∷ P) (fr.Index (from_of ts) ∷ K)) (of_expr.index_done h here)))
  complete_postfix (g.call_none d e h) P K = then (complete_postfix d P K) (of_expr.call_none_move e h here)
  complete_postfix (g.call {u = u} {ts = ts} {us = us} {rest = rest} {a = a} {xs = xs} d e c h) P K =
      let r = complete_args c (rw h (omega arith)) (rw h (omega arith)) (from_of ts) (PExpr a ∷ P) K in
      rw r.2 (then (complete_postfix d P K) (of_expr.call_move e (starts_not us marks.Close (args_start c) refl) (then r.3 (of_expr.args_done h here))))
  complete_postfix (g.member d e h) P K = then (complete_postfix d P K) (of_expr.member_move e h here)
  complete_postfix (g.arrow d e h) P K = then (complete_postfix d P K) (of_expr.arrow_move e h here)
  complete_postfix (g.step {t = t} {s = s} d e h) P K = then (complete_postfix d P K) (of_expr.postfix_move (of_sign t.kind s _ e (after_steps s h)) here)

  complete_unary : {ts rest : List Token} {e : Expr} → IsUnary ts e rest → Pops 15 (after_at rest) → UnaryRun ts e rest
  complete_unary {rest = rest} (g.postfix d) p P K = then (complete_postfix d P K) (of_expr.end_move (ends_pops (after_at rest) p) here)
  complete_unary (g.prefix {t = t} {s = s} e h d) p P K = of_expr.prefix_move e h (then (complete_unary d p P (fr.Prefix t.from s ∷ K)) (of_expr.prefix_done (omega arith) here))
  complete_unary (g.sizeof {t = t} e h d) p P K = of_expr.sizeof_move e h (then (complete_unary d p P (fr.Sizeof t.from ∷ K)) (of_expr.sizeof_done (omega arith) here))
  complete_unary (g.sizeof_type {t = t} {u = u} {ts = ts} e h d k) p P K =
      let r = complete_type d (inl k) P (fr.SizeofType t.from ∷ K) in
      rw r.5 (of_expr.sizeof_type_move e (opens u ts h (type_name_begins d)) (then r.6 (of_declr.sizeof_type_done k here)))
  complete_unary (g.cast {t = t} {ts = ts} e d h c) p P K =
      let r = complete_type d (inl h) P (fr.CastType t.from ∷ K) in
      let s = complete_unary c p (PDecl (Declare r.4 r.0 r.1 r.2 r.3 NoRest) ∷ P) (fr.Cast t.from ∷ K) in
      rw r.5 (of_expr.cast_move e (type_name_begins d) (then r.6 (of_declr.cast_type_done h (then s (of_expr.cast_done (omega arith) here)))))

  pub complete_expr : {l : ℕ} {ts rest : List Token} {e : Expr} → IsExpr l ts e rest → Pops (stop l) (after_at rest) → ExprRun l ts e rest
  complete_expr {ts = ts} (g.unary d) p m h P K = (14, omega arith, complete_unary d p P (fr.Climb m (from_of ts) ∷ K))
  complete_expr {l = l} {rest = rest} (g.tighter d) p m h P K =
      let r = complete_expr d (pops_more (after_at rest) (stop_next l) p) m (omega arith) P K in
      (r.0, omega arith, r.2)
  complete_expr {l = l} {ts = ts} {rest = rest} (g.binary {t = t} {a = a} {s = x} d e v c) p m h P K =
      let k = of_sign t.kind x _ e (after_level x l v) in
      let r = complete_expr d (rw k (left_level x l v)) m h P K in
      let s = complete_expr c (pops_more (after_at rest) (stop_next l) p) (l + 1) (omega arith) (PExpr a ∷ P) (fr.Binary l (from_of ts) x ∷ fr.Climb m (from_of ts) ∷ K) in
      let low : stop l ≤ l + 1 = omega (arith, stop_low l) in
      (l, omega arith, then r.2 (of_expr.binary_move k h r.1 (then s.2 (of_expr.value_move (pops_more (after_at rest) low p) (omega arith) (of_expr.binary_done here)))))
  complete_expr {ts = ts} {rest = rest} (g.assign {t = t} {a = a} {s = x} d e v c) p m h P K =
      let k = of_sign t.kind x _ e (after_assigns x v) in
      let r = complete_unary d (rw k (omega arith)) P (fr.Climb m (from_of ts) ∷ K) in
      let s = complete_expr c p 2 (omega arith) (PExpr a ∷ P) (fr.Assign (from_of ts) x ∷ fr.Climb m (from_of ts) ∷ K) in
      (2, omega arith, then r (of_expr.assign_move k h (omega arith) (then s.2 (of_expr.value_move p s.1 (of_expr.assign_done here)))))
  complete_expr {ts = ts} {rest = rest} (g.cond {t = t} {a = a} {b = b} d e y q z) p m h P K =
      let r = complete_expr d (rw e (omega arith)) m (omega arith) P K in
      let s = closed_run (complete_expr y (rw q tt)) (rw q tt) (PExpr a ∷ P) (fr.Middle (from_of ts) ∷ fr.Climb m (from_of ts) ∷ K) in
      let w = complete_expr z p 3 (omega arith) (PExpr b ∷ PExpr a ∷ P) (fr.Last (from_of ts) ∷ fr.Climb m (from_of ts) ∷ K) in
      (3, omega arith, then r.2 (of_expr.cond_move e h r.1 (then s (of_expr.middle_done q (then w.2 (of_expr.value_move p w.1 (of_expr.last_done here)))))))

  complete_args : {ts rest : List Token} {xs : Exprs} → IsArgs ts xs rest → Pops 2 (after_at rest) → Pops 2 (after_at rest) → ArgsRun ts xs rest
  complete_args {rest = rest} (g.first_arg {e = e} d) p q f P K =
      let r = complete_expr d p 2 (omega arith) (PExprs NoExprs ∷ P) (fr.Args f ∷ K) in
      (NoExprs, e, refl, then r.2 (of_expr.value_move p r.1 here))
  complete_args {rest = rest} (g.more_args {xs = xs} {e = e} d h c) p q f P K =
      let r = complete_args d (rw h (omega arith)) (rw h (omega arith)) f P K in
      let s = complete_expr c p 2 (omega arith) (PExprs (exprs_then r.0 r.1) ∷ P) (fr.Args f ∷ K) in
      (exprs_then r.0 r.1, e, ap (λ z. exprs_then z e) r.2, then r.3 (of_expr.args_more h (then s.2 (of_expr.value_move p s.1 here))))

  complete_type : {ts rest : List Token} {d : Decl} → IsTypeName ts d rest → Closing rest → TypeRun ts d rest
  complete_type {ts = ts} {rest = rest} (g.type_name {us = us} {b = b} {ps = ps} d c) h P K = (
    NoAnnots,
    b,
    ps,
    None,
    from_of ts,
    refl,
    of_declr.type_name_move (specs_taken d (declr_wordless c (closing_wordless rest h))) (complete_declr c namings.Never (from_of ts) (PSpecs NoAnnots b ∷ P) K refl (closing_lacks rest namings.Never Nameless h) (closing_ends rest h) (closing_wordless rest h)),
  )

  pub complete_declr : {ts rest : List Token} {ps : Parts} {l : Label} → IsDeclr ts ps l rest → DeclrRun ts ps l rest
  complete_declr {rest = rest} (g.direct d) g f P K a k e n = then (complete_direct d g f P K a k) (of_declr.direct_end e here)
  complete_declr {rest = rest} (g.pointer {t = t} {us = us} h c d) g f P K a k e n =
      of_declr.star_move h (rw (consts_taken c (declr_wordless d n)) (then (complete_declr d g f P (fr.Pointer t.from ∷ K) a k e n) (of_declr.pointer_done here)))

  complete_direct : {ts rest : List Token} {ps : Parts} {l : Label} → IsDirect ts ps l rest → DirectRun ts ps l rest
  complete_direct (g.named e) g f P K a k = of_declr.named_move e a here
  complete_direct (g.nameless {ts = []}) g f P K a k = absurd k
  complete_direct (g.nameless {ts = t ∷ ts}) g f P K a (inl (inl h)) = of_declr.nameless_close h a here
  complete_direct (g.nameless {ts = t ∷ ts}) g f P K a (inl (inr h)) = of_declr.nameless_comma h a here
  complete_direct (g.nameless {ts = t ∷ ts}) g f P K a (inr (inl h)) = of_declr.nameless_bracket h a here
  complete_direct (g.nameless {ts = t ∷ ts}) g f P K a (inr (inr (h, q))) = of_declr.nameless_open h q a here
  complete_direct (g.grouped {u = u} {ts = ts} {rest = rest} {l = l} e d s h) g f P K a k =
      of_declr.group_declr_move e (something_groups g d h s (allowed g l a)) (then (complete_declr d g f P (fr.Grouped ∷ K) a (lacks_close g u rest l h) (rw h tt) (rw h refl)) (of_declr.grouped_done h here))
  complete_direct (g.array {t = t} {us = us} {ps = ps} {l = l} d e c h) g f P K a k =
      then (complete_direct d g f P K a (lacks_bracket g t us l e)) (of_declr.array_move e (then (closed_run (complete_expr c (rw h tt)) (rw h tt) (PDeclr ps (label_name l) (label_from f l) ∷ P) (fr.Length t.from ∷ K)) (of_expr.length_done h here)))
  complete_direct (g.function {t = t} {u = u} {us = us} {rest = rest} {ps = ps} {l = l} d e c h) g f P K a k =
      then (complete_direct d g f P K a (lacks_open g t u us (u ∷ rest) l e c a)) (complete_params c h t e ps (label_name l) (label_from f l) P K)

  complete_params : {u : Token} {ts rest : List Token} {ds : Decls} → IsParams ts ds (u ∷ rest) → u.kind ≡ kinds.Sign signs.CloseParenthesis → (t : Token) → t.kind ≡ kinds.Sign signs.OpenParenthesis →
      (ps : Parts) (n : Option (List ℕ)) (h : ℕ) (P : List Piece) (K : List Frame) → Reaches (tstate nx.Direct (PDeclr ps n h ∷ P) (t ∷ ts) K) (tstate nx.Direct (PDeclr (Params t.from ds ps) n h ∷ P) rest K)
  complete_params (g.no_params e l) k t o ps n h P K = of_declr.params_none_move o l here
  complete_params {u = u} {rest = rest} (g.params l d) k t o ps n h P K =
      let r = complete_list d (inl k) t.from (PDeclr ps n h ∷ P) K in
      rw r.6 (of_declr.params_move o l (then r.7 (of_declr.params_done k here)))

  complete_list : {ts rest : List Token} {ds : Decls} → IsParamList ts ds rest → Closing rest → ParamsRun ts ds rest
  complete_list (g.first_param d) k f P K =
      let r = complete_param d k (PDecls NoDecls ∷ P) (fr.Params f ∷ K) in
      (NoDecls, r.0, r.1, r.2, r.3, r.4, ap (λ d. decls_then NoDecls d) r.5, r.6)
  complete_list (g.more_params {ds = ds} {d = x} d e c) k f P K =
      let r = complete_list d (inr e) f P K in
      let s = complete_param c k (PDecls (decls_then r.0 (Declare r.5 r.1 r.2 r.3 r.4 NoRest)) ∷ P) (fr.Params f ∷ K) in (
        decls_then r.0 (Declare r.5 r.1 r.2 r.3 r.4 NoRest),
        s.0,
        s.1,
        s.2,
        s.3,
        s.4,
        ap (λ z. decls_then z x) r.6 ∙ ap (λ z. decls_then (decls_then r.0 (Declare r.5 r.1 r.2 r.3 r.4 NoRest)) z) s.5,
        then r.7 (of_declr.params_more e s.6),
      )

  complete_param : {ts rest : List Token} {d : Decl} → IsParam ts d rest → Closing rest → ParamRun ts d rest
  complete_param {ts = ts} {rest = rest} (g.param {us = us} {vs = vs} {an = an} {b = b} {ps = ps} {l = l} a s c) k P K =
      let n = closing_wordless rest k in (
        an,
        b,
        ps,
        label_name l,
        label_from (from_of ts) l,
        refl,
        then (complete_annotation a (type_begins s) P K) (of_declr.specs_param (specs_taken s (declr_wordless c n)) (complete_declr c namings.Either (from_of ts) (PSpecs an b ∷ P) K (either l) (closing_lacks rest namings.Either l k) (closing_ends rest k) n)),
      )

  complete_annotation : {ts rest : List Token} {an : Annots} → IsAnnotation ts an rest → begins_type rest ≡ true → (P : List Piece) (K : List Frame) →
      Reaches (tstate nx.Param P ts K) (tstate (nx.Specs (targets.Param (from_of ts))) (PAnnots an ∷ P) rest K)
  complete_annotation {ts = ts} g.no_annotation k P K = of_declr.param_plain (type_mark ts marks.OpenBracket k refl) here
  complete_annotation (g.annotation {t = t} e d h) k P K =
      let r = complete_annots d (inr h) (targets.Param t.from) P K in
      rw r.4 (of_declr.param_annots e (then r.5 (of_declr.annots_done h here)))

  pub complete_annots : {ts rest : List Token} {an : Annots} → IsAnnots ts an rest → AnnotsEnd rest → AnnotsRun ts an rest
  complete_annots (g.first_annot d) k tg P K =
      let r = complete_annot d (annots_no_open _ k) (PAnnots NoAnnots ∷ P) (fr.Annots tg ∷ K) in
      (NoAnnots, r.0, r.1, r.2, ap (λ x. annots_then NoAnnots x) r.3, r.4)
  complete_annots (g.more_annots {xs = xs} {x = x} d e c) k tg P K =
      let r = complete_annots d (inl e) tg P K in
      let s = complete_annot c (annots_no_open _ k) (PAnnots (annots_then r.0 (Annotate r.1 r.2 r.3)) ∷ P) (fr.Annots tg ∷ K) in (
        annots_then r.0 (Annotate r.1 r.2 r.3),
        s.0,
        s.1,
        s.2,
        ap (λ z. annots_then z x) r.4 ∙ ap (λ z. annots_then (annots_then r.0 (Annotate r.1 r.2 r.3)) z) s.3,
        then r.5 (of_declr.annots_more e s.4),
      )

  complete_annot : {ts rest : List Token} {x : Annot} → IsAnnot ts x rest → (mark_at rest ≡ marks.Open → ⊥) → AnnotRun ts x rest
  complete_annot (g.word_annot {t = t} {n = n} e) k P K = (t.from, n, NoItems, refl, of_declr.annot_word e k here)
  complete_annot (g.call_annot {t = t} {n = n} {is = is} e o d h) k P K =
      let r = complete_items d (inl h) t.from n P K in
      (t.from, n, is, refl, rw r.2 (of_declr.annot_call e o (then r.3 (of_declr.items_done h here))))

  complete_items : {ts rest : List Token} {xs : Items} → IsItems ts xs rest → Closing rest → ItemsRun ts xs rest
  complete_items (g.first_item {x = x} d) k f n P K = (NoItems, x, refl, complete_item d (closing_no_star _ k) (PAnnot f n NoItems ∷ P) (fr.Items ∷ K))
  complete_items (g.more_items {xs = xs} {x = x} d e c) k f n P K =
      let r = complete_items d (inr e) f n P K in
      (items_then r.0 r.1, x, ap (λ z. items_then z x) r.2, then r.3 (of_declr.items_more e (complete_item c (closing_no_star _ k) (PAnnot f n (items_then r.0 r.1) ∷ P) (fr.Items ∷ K))))

  complete_item : {ts rest : List Token} {x : Item} → IsItem ts x rest → (mark_at rest ≡ marks.Star → ⊥) → ItemRun ts x rest
  complete_item {ts = ts} (g.factor d) k P K = of_declr.item_move (then (complete_atom d P (fr.FirstFactor (from_of ts) ∷ K)) (of_declr.factor_one k here))
  complete_item {ts = ts} (g.product {a = a} d e c) k P K =
      of_declr.item_move (then (complete_atom d P (fr.FirstFactor (from_of ts) ∷ K)) (of_declr.factor_star e (then (complete_atom c (PAtom a ∷ P) (fr.SecondFactor (from_of ts) ∷ K)) (of_declr.factor_two here))))

  complete_atom : {ts rest : List Token} {a : Atom} → IsAtom ts a rest → AtomRun ts a rest
  complete_atom (g.name_atom e) P K = of_declr.atom_name e here
  complete_atom (g.number_atom e) P K = of_declr.atom_number e here
  complete_atom (g.return_atom e) P K = of_declr.atom_return e here
  complete_atom (g.sizeof_atom e o d h) P K =
      let r = complete_type d (inl h) P (fr.SizeofAtom ∷ K) in
      rw r.5 (of_declr.atom_sizeof e o (then r.6 (of_declr.sizeof_atom_done h here)))
