-- Each move over declarators, annotations and specifiers reads as the productions say.
use Rattle.std.proofs.Common.{◌≡◌, ℕ, Bool, true, false, List, [], ◌∷◌, Option, Some, None, inl, inr, refl, ap, subst, ◌∙◌}
use Rattle.c_lexer.specs.declared.token.Sign.{Sign}
use Rattle.c_lexer.specs.declared.token.Sign.TheVariants as signs
use Rattle.c_lexer.specs.declared.token.Word.{Word}
use Rattle.c_lexer.specs.declared.token.Word.TheVariants as words
use Rattle.c_lexer.specs.declared.token.Kind.{Kind}
use Rattle.c_lexer.specs.declared.token.Kind.TheVariants as kinds
use Rattle.c_lexer.specs.declared.token.Token.{Token}
use Rattle.c_syntax.specs.declared.declaration.Base.{Base}
use Rattle.c_syntax.specs.Syntax.{Annots, Items, Item, Atom, Parts, SizeofType, Declare, NoDecls, NoAnnots, Annotate, NoItems, OneFactor, TwoFactors, NameAtom, NumberAtom, ReturnAtom, SizeofAtom, NoParts, Pointer, Array, Params, NoRest, decls_then, annots_then, items_then}
use Rattle.c_syntax.specs.Levels.{is_void, is_close, void_closes, lone_void, from_of}
use Rattle.c_parser_moves.specs.declared.mark.Punctuator.{Punctuator}
use Rattle.c_parser_moves.specs.declared.mark.Punctuator.TheVariants as marks
use Rattle.c_parser_moves.specs.declared.frame.Naming.{Naming}
use Rattle.c_parser_moves.specs.declared.frame.Naming.TheVariants as namings
use Rattle.c_parser_moves.specs.declared.frame.Target.{Target}
use Rattle.c_parser_moves.specs.declared.frame.Target.TheVariants as targets
use Rattle.c_parser_moves.specs.declared.frame.DeclaredIn.{DeclaredIn}
use Rattle.c_parser_moves.specs.declared.frame.DeclaredIn.TheVariants as places
use Rattle.c_parser_moves.specs.declared.frame.Frame.{Frame}
use Rattle.c_parser_moves.specs.declared.frame.Frame.TheVariants as fr
use Rattle.c_parser_moves.specs.declared.frame.Next.TheVariants as nx
use Rattle.c_parser_moves.specs.declared.action.Action.TheVariants as acts
use Rattle.c_parser_moves.specs.Marks.{mark_of, mark_at}
use Rattle.c_parser_moves.specs.Words.{take_specs}
use Rattle.c_parser_actions.specs.Pieces.{Piece, PDeclr, PSpecs, PDecls, PAnnots, PAnnot, PItem, PAtom, act}
use Rattle.c_parser_moves.proofs.Machine.{move, tail}
use Rattle.c_parser_moves.proofs.MachineDeclr.{groups, unnamed, in_group, give_name, declr, params, direct, param_end, type_end, type_closes, typed, targeted, is_top, placed, annotated, annot_items, annot, annots_end, annot_end, atom_size, atom, factor, atom_end, items_end, item_end}
use Rattle.c_syntax.specs.Grammar as g
use Rattle.c_syntax.specs.Grammar.{IsPostfix, IsUnary, IsExpr, IsArgs, IsTypeName, IsSpecs, IsConsts, IsDeclr, IsDirect, IsParams, IsParamList, IsParam, IsAnnotation, IsAnnots, IsAnnot, IsItems, IsItem, IsAtom, IsSomething, Label, Named, Nameless, label_from, label_name, declare}
use Rattle.c_parser_actions.proofs.Runs.{run}
use Rattle.c_parser_actions.proofs.MovesDeclr.{unnamed_ok}
use Rattle.c_parser_actions.proofs.Complete.{Allows}
use Rattle.c_parser_actions.proofs.Types.{consts_read, specs_read}
use Rattle.c_parser_actions.proofs.TokenKinds as is
use Rattle.c_parser_actions.proofs.Good.{DirectOf, WantsDeclr, WantsAtom, WantsItem, WantsAnnot, WantsTarget, WantsType, WantsParam, WantsNames, Good}
use Rattle.c_parser_actions.proofs.Sound.{params_on, annots_on, items_on}

-- what a direct declarator without a name or part is of
mutual
  nothing_declr : {us rest : List Token} {ps : Parts} {l : Label} → IsDeclr us ps l rest → ps ≡ NoParts → l ≡ Nameless → us ≡ rest
  nothing_declr (g.direct d) e f = nothing_direct d e f
  nothing_declr (g.pointer t c d) e f = absurd cc

  nothing_direct : {us rest : List Token} {ps : Parts} {l : Label} → IsDirect us ps l rest → ps ≡ NoParts → l ≡ Nameless → us ≡ rest
  nothing_direct (g.named t) e f = absurd cc
  nothing_direct g.nameless e f = refl
  nothing_direct (g.grouped t d z u) e f = absurd (rw (e, f) at z)
  nothing_direct (g.array d t c u) e f = absurd cc
  nothing_direct (g.function d t c u) e f = absurd cc

close_groups : (c : Naming) (t : Token) (ts : List Token) → t.kind ≡ kinds.Sign signs.CloseParenthesis → unnamed_ok c ≡ true → groups c (t ∷ ts) ≡ true → ⊥
unfolding groups
close_groups namings.Always t ts e a h = absurd cc
close_groups namings.Never t ts e a h = absurd (let x : false ≡ true = rw e at h in cc)
close_groups namings.Either t ts e a h = absurd (let x : false ≡ true = rw e at h in cc)

is_something : (c : Naming) (t : Token) (us ts : List Token) (ps : Parts) (l : Label) → IsDeclr us ps l (t ∷ ts) → t.kind ≡ kinds.Sign signs.CloseParenthesis → groups c us ≡ true → Allows c l → IsSomething ps l
is_something c t us ts NoParts Nameless d e h a = absurd (close_groups c t ts e a (let q : us ≡ t ∷ ts = nothing_declr d refl refl in rw q at h))
is_something c t us ts NoParts (Named f n) d e h a = tt
is_something c t us ts (Pointer f ps) l d e h a = tt
is_something c t us ts (Array f x ps) l d e h a = tt
is_something c t us ts (Params f ds ps) l d e h a = tt

lone_close : (t : Token) (ts : List Token) → lone_void (t ∷ ts) ≡ true → (u : Token) × (vs : List Token) × (ts ≡ u ∷ vs) × (u.kind ≡ kinds.Sign signs.CloseParenthesis) × (t.kind ≡ kinds.Word words.Void)
lone_close t ts h = by t.kind ts refl h
  where
    closed : (u : Kind) → is_close u ≡ true → u ≡ kinds.Sign signs.CloseParenthesis
    closed (kinds.Sign signs.CloseParenthesis) h = refl
    closed _ h = cc

    by : (k : Kind) (us : List Token) → t.kind ≡ k → void_closes (is_void k) us ≡ true → (u : Token) × (vs : List Token) × (us ≡ u ∷ vs) × (u.kind ≡ kinds.Sign signs.CloseParenthesis) × (t.kind ≡ kinds.Word words.Void)
    by (kinds.Word words.Void) [] e h = absurd cc
    by (kinds.Word words.Void) (u ∷ vs) e h = (u, vs, refl, closed u.kind h, e)
    by _ us e h = absurd cc

never_unnamed : (l : Label) → Allows namings.Never l → l ≡ Nameless
never_unnamed (Named f n) a = cc
never_unnamed Nameless a = refl

pub always_named : (l : Label) → Allows namings.Always l → (f : ℕ) × (n : List ℕ) × (l ≡ Named f n)
always_named (Named f n) a = (f, n, refl)
always_named Nameless a = absurd cc

module _ (all : List Token) where
  module _ (P : List Piece) (K : List Frame) (us : List Token) where
    pub good_unnamed : (c : Naming) (f : ℕ) → WantsDeclr all P K c f us → Good all (run (unnamed c f us K) P)
    unfolding unnamed
    good_unnamed namings.Always f h = tt
    good_unnamed namings.Never f h = (NoParts, None, f, P, refl, (us, Nameless, namings.Never, f, g.nameless, refl, refl, refl, h))
    good_unnamed namings.Either f h = (NoParts, None, f, P, refl, (us, Nameless, namings.Either, f, g.nameless, refl, refl, refl, h))

  module _ (P : List Piece) (K : List Frame) (t : Token) (ts : List Token) where
    pub good_named_by : (c : Naming) (f : ℕ) → WantsDeclr all P K c f (t ∷ ts) → (n : List ℕ) → t.kind ≡ kinds.Name n → Good all (run (give_name c f t.from n (t ∷ ts) ts K) P)
    unfolding give_name
    good_named_by namings.Never f h n e = good_unnamed P K (t ∷ ts) namings.Never f h
    good_named_by namings.Always f h n e = (NoParts, Some n, t.from, P, refl, (t ∷ ts, Named t.from n, namings.Always, f, g.named e, refl, refl, refl, h))
    good_named_by namings.Either f h n e = (NoParts, Some n, t.from, P, refl, (t ∷ ts, Named t.from n, namings.Either, f, g.named e, refl, refl, refl, h))

    pub good_group_by : (c : Naming) (f : ℕ) → WantsDeclr all P K c f (t ∷ ts) → t.kind ≡ kinds.Sign signs.OpenParenthesis → (b : Bool) → groups c ts ≡ b → Good all (run (in_group b c f (t ∷ ts) ts K) P)
    unfolding in_group
    good_group_by c f h e true p = (t, e, p, h)
    good_group_by c f h e false p = good_unnamed P K (t ∷ ts) c f h

    pub good_declr_sign : (c : Naming) (f : ℕ) → WantsDeclr all P K c f (t ∷ ts) → (x : Sign) → t.kind ≡ kinds.Sign x → Good all (run (declr (kinds.Sign x) c f t.from (t ∷ ts) ts K) P)
    unfolding declr
    good_declr_sign c f h signs.Star e = (t, ts, refl, e, consts_read ts, h)
    good_declr_sign c f h signs.OpenParenthesis e = good_group_by c f h e (groups c ts) refl
    good_declr_sign c f h _ e = good_unnamed P K (t ∷ ts) c f h

    pub good_declr : (c : Naming) (f : ℕ) → WantsDeclr all P K c f (t ∷ ts) → (k : Kind) → t.kind ≡ k → Good all (run (declr k c f t.from (t ∷ ts) ts K) P)
    unfolding declr
    good_declr c f h (kinds.Name n) e = good_named_by c f h n e
    good_declr c f h (kinds.Sign x) e = good_declr_sign c f h x e
    good_declr c f h _ e = good_unnamed P K (t ∷ ts) c f h

  module _ (P Q : List Piece) (K : List Frame) (ps : Parts) (n : Option (List ℕ)) (k : ℕ) (x : P ≡ PDeclr ps n k ∷ Q) where
    abbrev pub W : Naming → ℕ → List Token → Type 0
    W c f vs = WantsDeclr all Q K c f vs

    pub good_params_by : (t : Token) (ts : List Token) → DirectOf W ps n k (t ∷ ts) → t.kind ≡ kinds.Sign signs.OpenParenthesis → (b : Bool) → lone_void ts ≡ b → Good all (run (params b t.from ts K) P)
    unfolding params
    good_params_by t [] h e true p = absurd (let y : false ≡ true = p in cc)
    good_params_by t (u ∷ ts) (vs, l, c, f, d, q, r, a, h) e true p =
        let v = lone_close u ts p in
        let none : IsParams (u ∷ ts) NoDecls ts = g.no_params v.4 p in
        let list : IsParams (u ∷ ts) NoDecls (v.0 ∷ v.1) = subst (λ z. IsParams (u ∷ ts) NoDecls z) v.2 none in
        rw (x, v.2) (Params t.from NoDecls ps, n, k, Q, refl, (vs, l, c, f, g.function d e list v.3, q, r, a, h))
    good_params_by t ts h e false p = rw x (NoDecls, PDeclr ps n k ∷ Q, refl, (ps, n, k, Q, t, ts, refl, refl, e, p, inl (refl, refl), h))

    pub good_direct_by : (t : Token) (ts : List Token) → DirectOf W ps n k (t ∷ ts) → (c : Punctuator) → mark_of t.kind ≡ c → Good all (run (direct c t.from (t ∷ ts) ts K) P)
    unfolding direct
    good_direct_by t ts h marks.OpenBracket e = (refl, (ps, n, k, Q, t, x, refl, refl, is.is_OpenBracket t.kind e, h))
    good_direct_by t ts h marks.Open e = good_params_by t ts h (is.is_Open t.kind e) (lone_void ts) refl
    good_direct_by t ts (vs, l, c, f, d, q, r, a, h) _ e = (ps, n, k, Q, vs, l, c, f, x, g.direct d, q, r, a, h)

    pub good_direct : (ts : List Token) → DirectOf W ps n k ts → Good all (run (direct (mark_at ts) (from_of ts) ts (tail ts) K) P)
    unfolding direct
    good_direct [] (vs, l, c, f, d, q, r, a, h) = (ps, n, k, Q, vs, l, c, f, x, g.direct d, q, r, a, h)
    good_direct (t ∷ ts) h = good_direct_by t ts h (mark_of t.kind) refl

  -- the construct has its declarator, of these tokens
  module _ (P Q : List Piece) (K : List Frame) (ps : Parts) (n : Option (List ℕ)) (k : ℕ) (us : List Token) (l : Label) (c : Naming) (f : ℕ) (x : P ≡ PDeclr ps n k ∷ Q) (q : n ≡ label_name l) (r : k ≡ label_from f l) (a : Allows c l) where
    nameless_named : (b : Base) (vs : List Token) → c ≡ namings.Never → f ≡ from_of vs → (l ≡ Nameless) × ((n ≡ None) × (k ≡ from_of vs))
    nameless_named b vs i j =
        let never : l ≡ Nameless = never_unnamed l (rw i at a) in
        (never, (q ∙ ap label_name never, r ∙ ap (label_from f) never ∙ j))

    pub good_cast_end : (t : Token) (ts : List Token) → IsDeclr us ps l (t ∷ ts) → t.kind ≡ kinds.Sign signs.CloseParenthesis → (h : ℕ) → WantsDeclr all Q (fr.CastType h ∷ K) c f us → Good all (run (move nx.Operand (acts.DropSpecs ∷ acts.Declare ∷ []) ts (fr.Cast h ∷ K)) P)
    good_cast_end t ts d e h (b, R, u, vs, y, i, j, z, v, w, m) =
        let s = nameless_named b vs i j in
        rw (x, y, s.1.0, s.1.1) (u, t, vs, Declare (from_of vs) NoAnnots b ps None NoRest, R, refl, v, w, g.type_name z (rw s.0 at d), e, m)

    pub good_sizeof_end : (t : Token) (ts : List Token) → IsDeclr us ps l (t ∷ ts) → t.kind ≡ kinds.Sign signs.CloseParenthesis → (h : ℕ) → WantsDeclr all Q (fr.SizeofType h ∷ K) c f us → Good all (run (move (nx.Done 14) (acts.SizeofType h ∷ acts.DropSpecs ∷ acts.Declare ∷ []) ts K) P)
    good_sizeof_end t ts d e h (b, R, u, u2, vs, y, i, j, z, v, w, o, m) =
        let s = nameless_named b vs i j in
        let y2 = g.sizeof_type w o (g.type_name z (rw s.0 at d)) e in
        rw (x, y, s.1.0, s.1.1, v) (SizeofType u.from (Declare (from_of vs) NoAnnots b ps None NoRest), u ∷ u2 ∷ vs, R, refl, g.unary y2, (λ _. y2), m)

    pub good_atom_end : (t : Token) (ts : List Token) → IsDeclr us ps l (t ∷ ts) → t.kind ≡ kinds.Sign signs.CloseParenthesis → WantsDeclr all Q (fr.SizeofAtom ∷ K) c f us → Good all (run (move nx.AtomDone (acts.SizeofAtom ∷ acts.DropSpecs ∷ acts.Declare ∷ []) ts K) P)
    good_atom_end t ts d e (b, R, u, u2, vs, y, i, j, z, w, o, m) =
        let s = nameless_named b vs i j in
        rw (x, y, s.1.0, s.1.1) (SizeofAtom (Declare (from_of vs) NoAnnots b ps None NoRest), u ∷ u2 ∷ vs, R, refl, g.sizeof_atom w o (g.type_name z (rw s.0 at d)) e, m)

    pub good_type_end : (t : Token) (ts : List Token) → IsDeclr us ps l (t ∷ ts) → t.kind ≡ kinds.Sign signs.CloseParenthesis → (o : Frame) → WantsDeclr all Q (o ∷ K) c f us → Good all (run (type_end o ts K) P)
    unfolding type_end
    good_type_end t ts d e fr.Grouped (u, p, i, h) = (ps, n, k, Q, x, (u ∷ us, l, c, f, g.grouped p d (is_something c t us ts ps l d e i a) e, q, r, a, h))
    good_type_end t ts d e (fr.CastType h) w = good_cast_end t ts d e h w
    good_type_end t ts d e (fr.SizeofType h) w = good_sizeof_end t ts d e h w
    good_type_end t ts d e fr.SizeofAtom w = good_atom_end t ts d e w
    good_type_end t ts d e _ h = tt

    pub good_type_closes : (t : Token) (ts : List Token) → IsDeclr us ps l (t ∷ ts) → (o : Frame) → WantsDeclr all Q (o ∷ K) c f us → (m : Punctuator) → mark_of t.kind ≡ m → Good all (run (type_closes m o ts K) P)
    unfolding type_closes
    good_type_closes t ts d o h marks.Close e = good_type_end t ts d (is.is_Close t.kind e) o h
    good_type_closes t ts d o h _ e = tt

    pub good_closes_at : (ts : List Token) → IsDeclr us ps l ts → (o : Frame) → WantsDeclr all Q (o ∷ K) c f us → Good all (run (type_closes (mark_at ts) o (tail ts) K) P)
    unfolding type_closes
    good_closes_at [] d o h = tt
    good_closes_at (t ∷ ts) d o h = good_type_closes t ts d o h (mark_of t.kind) refl

    pub good_param_by : (t : Token) (ts : List Token) → IsDeclr us ps l (t ∷ ts) → (i : ℕ) → WantsDeclr all Q (fr.Params i ∷ K) c f us → (m : Punctuator) → mark_of t.kind ≡ m → Good all (run (param_end m i ts K) P)
    unfolding param_end
    good_param_by t ts d i (an, b, ds, R, vs, ws, y, j, z, v, w, (qs, n2, k2, S, u, xs, o, p, e2, e3, e4, h)) marks.Comma e =
        let from : k ≡ label_from (from_of vs) l = r ∙ ap (λ z. label_from z l) z in
        let all_of : P ≡ PDeclr ps (label_name l) (label_from (from_of vs) l) ∷ PSpecs an b ∷ PDecls ds ∷ R = x ∙ ap (λ z. PDeclr ps n k ∷ z) y ∙ ap (λ z. PDeclr ps z k ∷ PSpecs an b ∷ PDecls ds ∷ R) q ∙ ap (λ z. PDeclr ps (label_name l) z ∷ PSpecs an b ∷ PDecls ds ∷ R) from in
        rw all_of (decls_then ds (declare (from_of vs) an b ps l NoRest), R, refl, (qs, n2, k2, S, u, xs, o, p, e2, e3, inr (t, params_on e4 (g.param v w d), is.is_Comma t.kind e), h))
    good_param_by t ts d i (an, b, ds, R, vs, ws, y, j, z, v, w, (qs, n2, k2, S, u, xs, o, p, e2, e3, e4, (vs2, l2, c2, f2, d2, q2, r2, a2, h))) marks.Close e =
        let from : k ≡ label_from (from_of vs) l = r ∙ ap (λ z. label_from z l) z in
        let all_of : P ≡ PDeclr ps (label_name l) (label_from (from_of vs) l) ∷ PSpecs an b ∷ PDecls ds ∷ PDeclr qs n2 k2 ∷ S = x ∙ ap (λ z. PDeclr ps n k ∷ z) (y ∙ ap (λ z. PSpecs an b ∷ PDecls ds ∷ z) o) ∙ ap (λ z. PDeclr ps z k ∷ PSpecs an b ∷ PDecls ds ∷ PDeclr qs n2 k2 ∷ S) q ∙ ap (λ z. PDeclr ps (label_name l) z ∷ PSpecs an b ∷ PDecls ds ∷ PDeclr qs n2 k2 ∷ S) from in
        rw (all_of, p) (Params u.from (decls_then ds (declare (from_of vs) an b ps l NoRest)) qs, n2, k2, S, refl, (vs2, l2, c2, f2, g.function d2 e2 (g.params e3 (params_on e4 (g.param v w d))) (is.is_Close t.kind e), q2, r2, a2, h))
    good_param_by t ts d i h _ e = tt

    pub good_param_end : (ts : List Token) → IsDeclr us ps l ts → (i : ℕ) → WantsDeclr all Q (fr.Params i ∷ K) c f us → Good all (run (param_end (mark_at ts) i (tail ts) K) P)
    unfolding param_end
    good_param_end [] d i h = tt
    good_param_end (t ∷ ts) d i h = good_param_by t ts d i h (mark_of t.kind) refl

  pub good_typed : (o : Option (Base × List Token)) (P : List Piece) (K : List Frame) (ts : List Token) → WantsType all P K ts → take_specs false ts ≡ o → Good all (run (typed o (from_of ts) K) P)
  unfolding typed
  good_typed None P K ts h e = tt
  good_typed (Some (b, us)) P (fr.CastType f ∷ K) ts (t, p, q, h) e = (b, P, t, ts, refl, refl, refl, specs_read false ts b us e, p, q, h)
  good_typed (Some (b, us)) P (fr.SizeofType f ∷ K) ts (t, u, p, q, r, h) e = (b, P, t, u, ts, refl, refl, refl, specs_read false ts b us e, p, q, r, h)
  good_typed (Some (b, us)) P (fr.SizeofAtom ∷ K) ts (t, u, q, r, h) e = (b, P, t, u, ts, refl, refl, refl, specs_read false ts b us e, q, r, h)
  good_typed (Some (b, us)) P _ ts h e = absurd h

  pub good_param_specs : (P Q : List Piece) (K : List Frame) (an : Annots) (us ts : List Token) → P ≡ PAnnots an ∷ Q → IsAnnotation us an ts → (f : ℕ) → WantsTarget all (targets.Param f) Q K us → (b : Base) (vs : List Token) → take_specs false ts ≡ Some (b, vs) → WantsDeclr all (act (acts.Specs b) P) K namings.Either f vs
  good_param_specs P Q (fr.Params i ∷ K) an us ts x d f (ds, R, y, z, h) b vs e = rw (x, y) (an, b, ds, R, us, ts, refl, refl, z, d, specs_read false ts b vs e, h)
  good_param_specs P Q _ an us ts x d f h b vs e = absurd h

  module _ (P Q : List Piece) (K : List Frame) (an : Annots) (us ts : List Token) (x : P ≡ PAnnots an ∷ Q) (d : IsAnnotation us an ts) where
    pub good_targeted : (o : Option (Base × List Token)) (tg : Target) → WantsTarget all tg Q K us → take_specs (is_top tg) ts ≡ o → Good all (run (targeted o tg K) P)
    unfolding targeted
    good_targeted None tg h e = tt
    good_targeted (Some (b, vs)) targets.Top (ds, R, y, h) e = rw (x, y) (an, b, ds, ds, R, vs, refl, refl, inl ((refl, refl), refl), (us, ts, d, specs_read true ts b vs e, h))
    good_targeted (Some (b, vs)) (targets.Param f) h e = good_param_specs P Q K an us ts x d f h b vs e

  pub good_placed : (o : Option (Base × List Token)) (P : List Piece) (K : List Frame) (ts : List Token) (pl : DeclaredIn) → WantsNames all pl P K ts → take_specs false ts ≡ o → Good all (run (placed o pl K) P)
  unfolding placed
  good_placed None P K ts pl h e = tt
  good_placed (Some (b, us)) P K ts places.Local h e = (NoAnnots, b, NoDecls, NoDecls, P, us, refl, refl, inl ((refl, refl), refl), (ts, refl, refl, specs_read false ts b us e, h))
  good_placed (Some (b, us)) P K ts (places.For f) h e = (NoAnnots, b, NoDecls, NoDecls, P, us, refl, refl, inl ((refl, refl), refl), (ts, refl, refl, specs_read false ts b us e, h))
  good_placed (Some (b, us)) P K ts places.Member (ms, Q, y, h) e = rw y (NoAnnots, b, ms, ms, Q, us, refl, refl, inl ((refl, refl), refl), (ts, refl, specs_read false ts b us e, h))
  good_placed (Some (b, us)) P K ts places.Top h e = absurd h

  pub good_param_start : (P : List Piece) (K : List Frame) (ts : List Token) → WantsParam all P K ts → (c : Punctuator) → mark_at ts ≡ c → Good all (run (annotated c (targets.Param (from_of ts)) ts (tail ts) K) P)
  unfolding annotated
  good_param_start P (fr.Params i ∷ K) [] h marks.OpenBracket e = absurd (let y : marks.Other ≡ marks.OpenBracket = e in cc)
  good_param_start P (fr.Params i ∷ K) (t ∷ ts) (ds, Q, y, h) marks.OpenBracket e = (NoAnnots, P, t, ts, refl, is.is_OpenBracket t.kind e, inl (refl, refl), (ds, Q, y, refl, h))
  good_param_start P (fr.Params i ∷ K) ts (ds, Q, y, h) _ e = (NoAnnots, ts, P, refl, g.no_annotation, (ds, Q, y, refl, h))
  good_param_start P _ ts h c e = absurd h

  -- annotations
  pub good_items_start : (P : List Piece) (K : List Frame) (t : Token) (ts : List Token) → WantsAnnot all P K (t ∷ ts) → (n : List ℕ) → t.kind ≡ kinds.Name n → (c : Punctuator) → mark_at ts ≡ c → Good all (run (annot_items c t.from n ts (tail ts) K) P)
  unfolding annot_items
  good_items_start P K t [] h n e marks.Open p = absurd (let y : marks.Other ≡ marks.Open = p in cc)
  good_items_start P K t (u ∷ ts) h n e marks.Open p = (t.from, n, NoItems, P, t, u, ts, refl, refl, e, is.is_Open u.kind p, inl (refl, refl), h)
  good_items_start P K t ts h n e _ p = (t.from, n, NoItems, t ∷ ts, P, refl, g.word_annot e, h)

  pub good_annot : (P : List Piece) (K : List Frame) (t : Token) (ts : List Token) → WantsAnnot all P K (t ∷ ts) → (k : Kind) → t.kind ≡ k → Good all (run (annot k t.from ts K) P)
  unfolding annot
  good_annot P K t ts h (kinds.Name n) e = good_items_start P K t ts h n e (mark_at ts) refl
  good_annot P K t ts h _ e = tt

  module _ (P Q : List Piece) (K : List Frame) (f : ℕ) (n : List ℕ) (its : Items) (us : List Token) (x : P ≡ PAnnot f n its ∷ Q) where
    pub good_annots_by : (t : Token) (ts : List Token) → IsAnnot us (Annotate f n its) (t ∷ ts) → (tg : Target) → WantsAnnot all Q (fr.Annots tg ∷ K) us → (c : Punctuator) → mark_of t.kind ≡ c → Good all (run (annots_end c tg ts K) P)
    unfolding annots_end
    good_annots_by t ts d tg (an, R, u, vs, y, o, p, h) marks.Comma e = rw (x, y) (annots_then an (Annotate f n its), R, u, vs, refl, o, inr (t, annots_on p d, is.is_Comma t.kind e), h)
    good_annots_by t ts d tg (an, R, u, vs, y, o, p, h) marks.CloseBracket e = rw (x, y) (annots_then an (Annotate f n its), u ∷ vs, R, refl, g.annotation o (annots_on p d) (is.is_CloseBracket t.kind e), h)
    good_annots_by t ts d tg h _ e = tt

    pub good_annots_end : (ts : List Token) → IsAnnot us (Annotate f n its) ts → (tg : Target) → WantsAnnot all Q (fr.Annots tg ∷ K) us → Good all (run (annots_end (mark_at ts) tg (tail ts) K) P)
    unfolding annots_end
    good_annots_end [] d tg h = tt
    good_annots_end (t ∷ ts) d tg h = good_annots_by t ts d tg h (mark_of t.kind) refl

    pub good_annot_end : (ts : List Token) → IsAnnot us (Annotate f n its) ts → (o : Frame) → WantsAnnot all Q (o ∷ K) us → Good all (run (annot_end o ts K) P)
    unfolding annot_end
    good_annot_end ts d (fr.Annots tg) h = good_annots_end ts d tg h
    good_annot_end ts d _ h = tt

  pub good_size_atom : (P : List Piece) (K : List Frame) (t : Token) (ts : List Token) → WantsAtom all P K (t ∷ ts) → t.kind ≡ kinds.Word words.Sizeof → (c : Punctuator) → mark_at ts ≡ c → Good all (run (atom_size c (tail ts) K) P)
  unfolding atom_size
  good_size_atom P K t [] h e marks.Open p = absurd (let y : marks.Other ≡ marks.Open = p in cc)
  good_size_atom P K t (u ∷ ts) h e marks.Open p = (t, u, e, is.is_Open u.kind p, h)
  good_size_atom P K t ts h e _ p = tt

  pub good_atom_word : (P : List Piece) (K : List Frame) (t : Token) (ts : List Token) → WantsAtom all P K (t ∷ ts) → (w : Word) → t.kind ≡ kinds.Word w → Good all (run (atom (kinds.Word w) ts K) P)
  unfolding atom
  good_atom_word P K t ts h words.Return e = (ReturnAtom, t ∷ ts, P, refl, g.return_atom e, h)
  good_atom_word P K t ts h words.Sizeof e = good_size_atom P K t ts h e (mark_at ts) refl
  good_atom_word P K t ts h _ e = tt

  pub good_atom : (P : List Piece) (K : List Frame) (t : Token) (ts : List Token) → WantsAtom all P K (t ∷ ts) → (k : Kind) → t.kind ≡ k → Good all (run (atom k ts K) P)
  unfolding atom
  good_atom P K t ts h (kinds.Name n) e = (NameAtom n, t ∷ ts, P, refl, g.name_atom e, h)
  good_atom P K t ts h (kinds.Number x d v) e = (NumberAtom v, t ∷ ts, P, refl, g.number_atom e, h)
  good_atom P K t ts h (kinds.Word w) e = good_atom_word P K t ts h w e
  good_atom P K t ts h _ e = tt

  module _ (P Q : List Piece) (K : List Frame) (a : Atom) (us : List Token) (x : P ≡ PAtom a ∷ Q) where
    pub good_factor_by : (ts : List Token) → IsAtom us a ts → (f : ℕ) → WantsAtom all Q (fr.FirstFactor f ∷ K) us → (c : Punctuator) → mark_at ts ≡ c → Good all (run (factor c f ts (tail ts) K) P)
    unfolding factor
    good_factor_by [] d f h marks.Star e = absurd (let y : marks.Other ≡ marks.Star = e in cc)
    good_factor_by (t ∷ ts) d f (p, h) marks.Star e = (a, Q, t, us, x, p, d, is.is_Star t.kind e, h)
    good_factor_by ts d f (p, h) _ e = rw (x, p) (OneFactor (from_of us) a, us, Q, refl, g.factor d, h)

    pub good_atom_done : (ts : List Token) → IsAtom us a ts → (o : Frame) → WantsAtom all Q (o ∷ K) us → Good all (run (atom_end o ts K) P)
    unfolding atom_end
    good_atom_done ts d (fr.FirstFactor f) h = good_factor_by ts d f h (mark_at ts) refl
    good_atom_done ts d (fr.SecondFactor f) (b, R, t, vs, y, p, q, e, h) = rw (x, y, p) (TwoFactors (from_of vs) b a, vs, R, refl, g.product q e d, h)
    good_atom_done ts d _ h = tt

  module _ (P Q : List Piece) (K : List Frame) (it : Item) (us : List Token) (x : P ≡ PItem it ∷ Q) where
    pub good_items_by : (t : Token) (ts : List Token) → IsItem us it (t ∷ ts) → WantsItem all Q (fr.Items ∷ K) us → (c : Punctuator) → mark_of t.kind ≡ c → Good all (run (items_end c ts K) P)
    unfolding items_end
    good_items_by t ts d (f, n, its, R, u, v, vs, y, p, q, o, i, h) marks.Comma e = rw (x, y) (f, n, items_then its it, R, u, v, vs, refl, p, q, o, inr (t, items_on i d, is.is_Comma t.kind e), h)
    good_items_by t ts d (f, n, its, R, u, v, vs, y, p, q, o, i, h) marks.Close e = rw (x, y, p) (u.from, n, items_then its it, u ∷ v ∷ vs, R, refl, g.call_annot q o (items_on i d) (is.is_Close t.kind e), h)
    good_items_by t ts d h _ e = tt

    pub good_items_end : (ts : List Token) → IsItem us it ts → WantsItem all Q (fr.Items ∷ K) us → Good all (run (items_end (mark_at ts) (tail ts) K) P)
    unfolding items_end
    good_items_end [] d h = tt
    good_items_end (t ∷ ts) d h = good_items_by t ts d h (mark_of t.kind) refl

    pub good_item_end : (ts : List Token) → IsItem us it ts → (o : Frame) → WantsItem all Q (o ∷ K) us → Good all (run (item_end o ts K) P)
    unfolding item_end
    good_item_end ts d fr.Items h = good_items_end ts d h
    good_item_end ts d _ h = tt
