-- Each move over names, values, statements and whole sources reads as the productions say.
use Rattle.std.proofs.Common.{◌≡◌, ℕ, Bool, true, false, List, [], ◌∷◌, Option, Some, None, inl, inr, if◌then◌else◌, refl, ap, ◌∙◌}
use Rattle.c_lexer.specs.declared.token.Sign.TheVariants as signs
use Rattle.c_lexer.specs.declared.token.Word.{Word}
use Rattle.c_lexer.specs.declared.token.Word.TheVariants as words
use Rattle.c_lexer.specs.declared.token.Kind.{Kind}
use Rattle.c_lexer.specs.declared.token.Kind.TheVariants as kinds
use Rattle.c_lexer.specs.declared.token.Token.{Token}
use Rattle.c_syntax.specs.declared.declaration.Base.{Base}
use Rattle.c_syntax.specs.declared.declaration.Base.TheVariants as bases
use Rattle.c_syntax.specs.Syntax.{Decls, Annots, Parts, Value, Stmt, NoExpr, Declare, NoDecls, NoAnnots, NoParts, Pointer, Braces, NoValues, NoRest, Initial, Body, Members, Block, Expression, If, IfElse, While, For, Break, Continue, Return, NoEntries, LocalEntry, StmtEntry, NoFirst, LocalFirst, decls_then, values_then, entries_then}
use Rattle.c_syntax.specs.Levels.{is_else, begins_type, begins_else, from_of}
use Rattle.c_parser_moves.specs.declared.mark.Punctuator.{Punctuator}
use Rattle.c_parser_moves.specs.declared.mark.Punctuator.TheVariants as marks
use Rattle.c_parser_moves.specs.declared.mark.Begin.{Begin}
use Rattle.c_parser_moves.specs.declared.mark.Begin.TheVariants as begins
use Rattle.c_parser_moves.specs.declared.frame.Naming.{Naming}
use Rattle.c_parser_moves.specs.declared.frame.Target.TheVariants as targets
use Rattle.c_parser_moves.specs.declared.frame.DeclaredIn.{DeclaredIn}
use Rattle.c_parser_moves.specs.declared.frame.DeclaredIn.TheVariants as places
use Rattle.c_parser_moves.specs.declared.frame.Frame.{Frame}
use Rattle.c_parser_moves.specs.declared.frame.Frame.TheVariants as fr
use Rattle.c_parser_moves.specs.declared.frame.Next.{Next}
use Rattle.c_parser_moves.specs.declared.frame.Next.TheVariants as nx
use Rattle.c_parser_moves.specs.declared.action.Action.TheVariants as acts
use Rattle.c_parser_moves.specs.Marks.{mark_of, mark_at, begin_of}
use Rattle.c_parser_moves.specs.Words.{take_specs}
use Rattle.c_parser_actions.specs.Pieces.{Piece, PDeclr, PSpecs, PDecls, PValue, PStmt, PTag, act}
use Rattle.c_parser_moves.proofs.Machine.{move, tail}
use Rattle.c_parser_moves.proofs.MachineDeclr.{end_acts, end_next, with_value, with_body, named, declared, is_top, annotated}
use Rattle.c_parser_moves.proofs.MachineExpr.{start}
use Rattle.c_parser_moves.proofs.MachineSource.{initial, braces_on, braces_end, init_end, value_end, condition, for_head, leaf, returned, stmt, do_on, do_while, done, block_end, entry, for_first, for_test, for_step, struct_end, member_end, defines_kinds, defines, top, tops}
use Rattle.c_parser_moves.proofs.MachineSteps.{give_next, take_next, read_next, given, taken, step}
use Rattle.c_syntax.specs.Grammar as g
use Rattle.c_syntax.specs.Grammar.{IsPostfix, IsUnary, IsExpr, IsArgs, IsTypeName, IsSpecs, IsConsts, IsDeclr, IsDirect, IsParams, IsParamList, IsParam, IsAnnotation, IsAnnots, IsAnnot, IsItems, IsItem, IsAtom, IsSomething, Label, Named, Nameless, label_from, label_name}
use Rattle.c_syntax.specs.Sources as s
use Rattle.c_syntax.specs.Sources.{IsValue, IsValues, IsInit, IsNames, IsLocal, IsMaybe, IsFirst, IsStmt, IsEntries, IsMembers, IsTops}
use Rattle.c_parser_actions.proofs.Runs.{tstate, run}
use Rattle.c_parser_actions.proofs.MovesSource.{valued, end_pieces}
use Rattle.c_parser_actions.proofs.Complete.{Allows}
use Rattle.c_parser_actions.proofs.TokenKinds as is
use Rattle.c_parser_actions.proofs.Good.{NamesPrefix, MembersPrefix, PlaceOf, WantsDeclr, WantsValue, WantsStmt, WantsEntry, Read, Good}
use Rattle.c_parser_actions.proofs.Sound as ex
use Rattle.c_parser_actions.proofs.Sound.{values_on, names_on}
use Rattle.c_parser_actions.proofs.SoundDeclr as de
use Rattle.c_parser_actions.proofs.SoundDeclr.{always_named}

else_kind : (k : Kind) → is_else k ≡ true → k ≡ kinds.Word words.Else
else_kind (kinds.Word words.Else) h = refl
else_kind _ h = cc

defined_kinds : (a b c : Kind) (ts : List Token) (n : List ℕ) (us : List Token) → defines_kinds a b c ts ≡ Some (n, us) → (a ≡ kinds.Word words.Struct) × ((b ≡ kinds.Name n) × ((c ≡ kinds.Sign signs.OpenBrace) × (ts ≡ us)))
defined_kinds (kinds.Word words.Struct) (kinds.Name m) (kinds.Sign signs.OpenBrace) ts n us h =
    let p : ◌≡◌ {A = List ℕ × List Token} (m, ts) (n, us) = cc in
    (refl, (ap (λ q. kinds.Name q.0) p, (refl, ap (λ q. q.1) p)))
defined_kinds _ _ _ ts n us h = absurd cc

defined : (ts : List Token) (n : List ℕ) (us : List Token) → defines ts ≡ Some (n, us) → (t u v : Token) × (ts ≡ t ∷ u ∷ v ∷ us) × (t.kind ≡ kinds.Word words.Struct) × (u.kind ≡ kinds.Name n) × (v.kind ≡ kinds.Sign signs.OpenBrace)
unfolding defines
defined [] n us h = absurd cc
defined (t ∷ []) n us h = absurd cc
defined (t ∷ u ∷ []) n us h = absurd cc
defined (t ∷ u ∷ v ∷ ts) n us h =
    let r = defined_kinds t.kind u.kind v.kind ts n us h in
    (t, u, v, ap (λ z. t ∷ u ∷ v ∷ z) r.1.1.1, r.0, r.1.0, r.1.1.0)

module _ (all : List Token) where
  local_end : (K : List Frame) (R : List Piece) (vs ts : List Token) (ds : Decls) → WantsEntry all R K vs → IsLocal vs ds ts → WantsEntry all (act acts.AddLocal (PDecls ds ∷ R)) K ts
  local_end (fr.Block f ∷ K) R vs ts ds (es, Q, t, ws, y, p, q, d, h) c = rw y (entries_then es (LocalEntry ds), Q, t, ws, refl, p, q, s.local_entry d c, h)
  local_end _ R vs ts ds h c = absurd h

  members_end : (ws vs ts : List Token) (t : Token) (b : Base) (before ds : Decls) (start : List Token) → MembersPrefix ws before vs → IsSpecs false vs b start → IsNames false NoAnnots b before start ds (t ∷ ts) → t.kind ≡ kinds.Sign signs.Semicolon → IsMembers ws ds ts
  members_end ws vs ts t b before ds start (inl (e, q)) c d h = s.first_members (rw q at c) (rw e at d) h
  members_end ws vs ts t b before ds start (inr m) c d h = s.more_members m c d h

  -- the names of a declaration end
  names_done : (pl : DeclaredIn) (K : List Frame) (R : List Piece) (an : Annots) (b : Base) (before ds : Decls) (start : List Token) (t : Token) (ts : List Token) → PlaceOf all (λ R ws. WantsEntry all R K ws) (λ R ws. WantsStmt all R K ws) pl R K an b before start →
      IsNames (valued pl) an b before start ds (t ∷ ts) → t.kind ≡ kinds.Sign signs.Semicolon → Good all (tstate (end_next pl) (end_pieces pl (PDecls ds ∷ R)) ts K)
  names_done places.Local K R an b before ds start t ts (vs, a, e, c, h) d k = local_end K R vs ts ds h (s.local c (rw (a, e) at d) k)
  names_done (places.For f) K R an b before ds start t ts (vs, a, e, c, h) d k = (LocalFirst ds, R, vs, refl, s.local_first (s.local c (rw (a, e) at d) k), h)
  names_done places.Member K R an b before ds start t ts (vs, a, c, (f, n, dd, u, v, w, ws, q, p, e, i, j, l, m, z)) d k = (ds, R, refl, (f, n, dd, u, v, w, ws, q, p, e, i, j, l, members_end ws vs ts t b before ds start m c (rw a at d) k, z))
  names_done places.Top K R an b before ds start t ts (vs, ws, a, c, (q, p, z)) d k = (ds, R, refl, (q, p, s.names z a c d k))

  -- a name and its declarator have been read
  module _ (P R : List Piece) (K : List Frame) (ps : Parts) (f : ℕ) (n : List ℕ) (an : Annots) (b : Base) (before ds : Decls) (start us : List Token) (x : P ≡ PDeclr ps (Some n) f ∷ PSpecs an b ∷ PDecls ds ∷ R) where
    abbrev pub Place_of : DeclaredIn → Type 0
    Place_of pl = PlaceOf all (λ R ws. WantsEntry all R K ws) (λ R ws. WantsStmt all R K ws) pl R K an b before start

    name_value : (pl : DeclaredIn) (first : Bool) (t : Token) (ts : List Token) → IsDeclr us ps (Named f n) (t ∷ ts) → t.kind ≡ kinds.Sign signs.Assign → NamesPrefix (valued pl) an b before start ds us first → Place_of pl → Good all (run (with_value pl ts K) P)
    unfolding with_value
    name_value places.Member first t ts d e w h = tt
    name_value places.Top first t ts d e w h = (ps, n, f, an, b, before, ds, R, t, start, us, first, x, d, e, refl, w, h)
    name_value places.Local first t ts d e w h = (ps, n, f, an, b, before, ds, R, t, start, us, first, x, d, e, refl, w, h)
    name_value (places.For g) first t ts d e w h = (ps, n, f, an, b, before, ds, R, t, start, us, first, x, d, e, refl, w, h)

    name_body : (pl : DeclaredIn) (first : Bool) (t : Token) (ts : List Token) → IsDeclr us ps (Named f n) (t ∷ ts) → t.kind ≡ kinds.Sign signs.OpenBrace → NamesPrefix (valued pl) an b before start ds us first → Place_of pl → Good all (run (with_body pl first (t ∷ ts) K) P)
    unfolding with_body
    name_body places.Top true t ts d e (inl ((p, q), w)) (vs, ws, a, c, (i, j, z)) = (ps, n, f, an, b, ds, R, vs, ws, us, ts, t, x, refl, e, d, a, (rw w c), (i, j, rw q z))
    name_body places.Top true t ts d e (inr (p, w)) h = absurd (let y : true ≡ false = p in cc)
    name_body places.Top false t ts d e w h = tt
    name_body places.Local first t ts d e w h = tt
    name_body (places.For g) first t ts d e w h = tt
    name_body places.Member first t ts d e w h = tt

    name_end : (pl : DeclaredIn) (t : Token) (ts : List Token) (first : Bool) → IsDeclr us ps (Named f n) (t ∷ ts) → t.kind ≡ kinds.Sign signs.Semicolon → NamesPrefix (valued pl) an b before start ds us first → Place_of pl → Good all (run (move (end_next pl) (end_acts pl (acts.Declare ∷ [])) ts K) P)
    name_end places.Top t ts first d e w h = rw x (names_done places.Top K R an b before _ start t ts h (names_on w d s.no_init) e)
    name_end places.Local t ts first d e w h = rw x (names_done places.Local K R an b before _ start t ts h (names_on w d s.no_init) e)
    name_end (places.For g) t ts first d e w h = rw x (names_done (places.For g) K R an b before _ start t ts h (names_on w d s.no_init) e)
    name_end places.Member t ts first d e w h = rw x (names_done places.Member K R an b before _ start t ts h (names_on w d s.no_init) e)

    name_token : (pl : DeclaredIn) (first : Bool) (t : Token) (ts : List Token) → IsDeclr us ps (Named f n) (t ∷ ts) → NamesPrefix (valued pl) an b before start ds us first → Place_of pl → (c : Punctuator) → mark_of t.kind ≡ c → Good all (run (named c pl first (t ∷ ts) ts K) P)
    unfolding named
    name_token pl first t ts d w h marks.Assign e = name_value pl first t ts d (is.is_Assign t.kind e) w h
    name_token pl first t ts d w h marks.Comma e = rw x (an, b, before, decls_then ds (Declare f an b ps (Some n) NoRest), R, start, refl, refl, inr (refl, (t, names_on w d s.no_init, is.is_Comma t.kind e)), h)
    name_token pl first t ts d w h marks.Semicolon e = name_end pl t ts first d (is.is_Semicolon t.kind e) w h
    name_token pl first t ts d w h marks.OpenBrace e = name_body pl first t ts d (is.is_OpenBrace t.kind e) w h
    name_token pl first t ts d w h _ e = tt

    name_at : (pl : DeclaredIn) (first : Bool) (ts : List Token) → IsDeclr us ps (Named f n) ts → NamesPrefix (valued pl) an b before start ds us first → Place_of pl → Good all (run (named (mark_at ts) pl first ts (tail ts) K) P)
    unfolding named
    name_at pl first [] d w h = tt
    name_at pl first (t ∷ ts) d w h = name_token pl first t ts d w h (mark_of t.kind) refl

  good_names : (P Q : List Piece) (K : List Frame) (ps : Parts) (n : Option (List ℕ)) (k : ℕ) (us : List Token) (l : Label) (c : Naming) (f : ℕ) → P ≡ PDeclr ps n k ∷ Q → n ≡ label_name l → k ≡ label_from f l → Allows c l → (ts : List Token) → IsDeclr us ps l ts → (pl : DeclaredIn) (first : Bool) →
      WantsDeclr all Q (fr.Names pl first ∷ K) c f us → Good all (run (named (mark_at ts) pl first ts (tail ts) K) P)
  good_names P Q K ps n k us l c f x q r a ts d pl first (an, b, before, ds, R, start, y, i, w, h) =
      let v = always_named l (rw i at a) in
      let name : n ≡ Some v.1 = q ∙ ap label_name v.2 in
      let from : k ≡ v.0 = r ∙ ap (label_from f) v.2 in
      let p : P ≡ PDeclr ps (Some v.1) v.0 ∷ PSpecs an b ∷ PDecls ds ∷ R = x ∙ ap (λ z. PDeclr ps n k ∷ z) y ∙ ap (λ z. PDeclr ps z k ∷ PSpecs an b ∷ PDecls ds ∷ R) name ∙ ap (λ z. PDeclr ps (Some v.1) z ∷ PSpecs an b ∷ PDecls ds ∷ R) from in
      name_at P R K ps v.0 v.1 an b before ds start us p pl first ts (rw v.2 at d) w h

  pub good_declared : (P : List Piece) (K : List Frame) (ts : List Token) (o : Frame) → Read all nx.DeclrDone P ts (o ∷ K) → Good all (run (declared o ts K) P)
  unfolding declared
  good_declared P K ts (fr.Pointer f) (ps, n, k, Q, us, l, c, g2, x, d, q, r, a, (t, vs, e, i, j, h)) = rw (x, e) (Pointer t.from ps, n, k, Q, t ∷ vs, l, c, g2, refl, g.pointer i j d, q, r, a, h)
  good_declared P K ts (fr.Names pl first) (ps, n, k, Q, us, l, c, f, x, d, q, r, a, h) = good_names P Q K ps n k us l c f x q r a ts d pl first h
  good_declared P K ts (fr.Params i) (ps, n, k, Q, us, l, c, f, x, d, q, r, a, h) = de.good_param_end all P Q K ps n k us l c f x q r a ts d i h
  good_declared P K ts o (ps, n, k, Q, us, l, c, f, x, d, q, r, a, h) = de.good_closes_at all P Q K ps n k us l c f x q r a ts d o h

  -- values
  pub good_initial : (P : List Piece) (K : List Frame) (ts : List Token) → WantsValue all P K ts → (c : Punctuator) → mark_at ts ≡ c → Good all (run (initial c (from_of ts) ts (tail ts) K) P)
  unfolding initial
  good_initial P K [] h marks.OpenBrace e = absurd (let y : marks.Other ≡ marks.OpenBrace = e in cc)
  good_initial P K (t ∷ ts) h marks.OpenBrace e = (NoValues, P, t, ts, refl, refl, is.is_OpenBrace t.kind e, inl (refl, refl), h)
  good_initial P K ts h _ e = (refl, (refl, h))

  module _ (P Q : List Piece) (K : List Frame) (v : Value) (us : List Token) (x : P ≡ PValue v ∷ Q) where
    good_more : (t : Token) (ts : List Token) → IsValue us v (t ∷ ts) → t.kind ≡ kinds.Sign signs.Comma → (f : ℕ) → WantsValue all Q (fr.Braces f ∷ K) us → (c : Punctuator) → mark_at ts ≡ c → Good all (run (braces_on c f ts (tail ts) K) P)
    unfolding braces_on
    good_more t [] d e f h marks.CloseBrace p = absurd (let y : marks.Other ≡ marks.CloseBrace = p in cc)
    good_more t (w ∷ ts) d e f (vs, R, u, ws, y, q, o, i, h) marks.CloseBrace p = rw (x, y, q) (Braces u.from (values_then vs v), u ∷ ws, R, refl, s.braces_comma o (values_on i d) e (is.is_CloseBrace w.kind p), h)
    good_more t ts d e f (vs, R, u, ws, y, q, o, i, h) _ p = rw (x, y) (values_then vs v, R, u, ws, refl, q, o, inr (t, values_on i d, e), h)

    good_braces_by : (t : Token) (ts : List Token) → IsValue us v (t ∷ ts) → (f : ℕ) → WantsValue all Q (fr.Braces f ∷ K) us → (c : Punctuator) → mark_of t.kind ≡ c → Good all (run (braces_end c f ts K) P)
    unfolding braces_end
    good_braces_by t ts d f (vs, R, u, ws, y, q, o, i, h) marks.CloseBrace e = rw (x, y, q) (Braces u.from (values_then vs v), u ∷ ws, R, refl, s.braces o (values_on i d) (is.is_CloseBrace t.kind e), h)
    good_braces_by t ts d f h marks.Comma e = good_more t ts d (is.is_Comma t.kind e) f h (mark_at ts) refl
    good_braces_by t ts d f h _ e = tt

    init_finish : (pl : DeclaredIn) (t : Token) (ts : List Token) → IsValue us v (t ∷ ts) → t.kind ≡ kinds.Sign signs.Semicolon → WantsValue all Q (fr.Init pl ∷ K) us → Good all (run (move (end_next pl) (end_acts pl (acts.DeclareValue ∷ [])) ts K) P)
    init_finish places.Top t ts d e (ps, n, f, an, b, before, ds, R, u, start, vs, first, y, q, o, z, w, h) = rw (x, y) (names_done places.Top K R an b before _ start t ts h (names_on w q (s.init z o d)) e)
    init_finish places.Local t ts d e (ps, n, f, an, b, before, ds, R, u, start, vs, first, y, q, o, z, w, h) = rw (x, y) (names_done places.Local K R an b before _ start t ts h (names_on w q (s.init z o d)) e)
    init_finish (places.For i) t ts d e (ps, n, f, an, b, before, ds, R, u, start, vs, first, y, q, o, z, w, h) = rw (x, y) (names_done (places.For i) K R an b before _ start t ts h (names_on w q (s.init z o d)) e)
    init_finish places.Member t ts d e (ps, n, f, an, b, before, ds, R, u, start, vs, first, y, q, o, z, w, h) = absurd (let k : false ≡ true = z in cc)

    good_init_by : (t : Token) (ts : List Token) → IsValue us v (t ∷ ts) → (pl : DeclaredIn) → WantsValue all Q (fr.Init pl ∷ K) us → (c : Punctuator) → mark_of t.kind ≡ c → Good all (run (init_end c pl ts K) P)
    unfolding init_end
    good_init_by t ts d pl (ps, n, f, an, b, before, ds, R, u, start, vs, first, y, q, o, z, w, h) marks.Comma e = rw (x, y) (an, b, before, decls_then ds (Declare f an b ps (Some n) (Initial v)), R, start, refl, refl, inr (refl, (t, names_on w q (s.init z o d), is.is_Comma t.kind e)), h)
    good_init_by t ts d pl h marks.Semicolon e = init_finish pl t ts d (is.is_Semicolon t.kind e) h
    good_init_by t ts d pl h _ e = tt

    good_braces_end : (ts : List Token) → IsValue us v ts → (f : ℕ) → WantsValue all Q (fr.Braces f ∷ K) us → Good all (run (braces_end (mark_at ts) f (tail ts) K) P)
    unfolding braces_end
    good_braces_end [] d f h = tt
    good_braces_end (t ∷ ts) d f h = good_braces_by t ts d f h (mark_of t.kind) refl

    good_init_end : (ts : List Token) → IsValue us v ts → (pl : DeclaredIn) → WantsValue all Q (fr.Init pl ∷ K) us → Good all (run (init_end (mark_at ts) pl (tail ts) K) P)
    unfolding init_end
    good_init_end [] d pl h = tt
    good_init_end (t ∷ ts) d pl h = good_init_by t ts d pl h (mark_of t.kind) refl

    pub good_value_end : (ts : List Token) → IsValue us v ts → (o : Frame) → WantsValue all Q (o ∷ K) us → Good all (run (value_end o ts K) P)
    unfolding value_end
    good_value_end ts d (fr.Braces f) h = good_braces_end ts d f h
    good_value_end ts d (fr.Init pl) h = good_init_end ts d pl h
    good_value_end ts d _ h = tt

  -- statements
  module _ (P : List Piece) (K : List Frame) (t : Token) where
    good_if : (ts : List Token) → WantsStmt all P K (t ∷ ts) → t.kind ≡ kinds.Word words.If → (c : Punctuator) → mark_at ts ≡ c → Good all (run (condition c (fr.IfCond t.from) (tail ts) K) P)
    unfolding condition
    good_if [] h e marks.Open p = absurd (let y : marks.Other ≡ marks.Open = p in cc)
    good_if (u ∷ ts) h e marks.Open p = (refl, (t, u, refl, refl, e, is.is_Open u.kind p, h))
    good_if ts h e _ p = tt

    good_while : (ts : List Token) → WantsStmt all P K (t ∷ ts) → t.kind ≡ kinds.Word words.While → (c : Punctuator) → mark_at ts ≡ c → Good all (run (condition c (fr.WhileCond t.from) (tail ts) K) P)
    unfolding condition
    good_while [] h e marks.Open p = absurd (let y : marks.Other ≡ marks.Open = p in cc)
    good_while (u ∷ ts) h e marks.Open p = (refl, (t, u, refl, refl, e, is.is_Open u.kind p, h))
    good_while ts h e _ p = tt

    good_for : (ts : List Token) → WantsStmt all P K (t ∷ ts) → t.kind ≡ kinds.Word words.For → (c : Punctuator) → mark_at ts ≡ c → Good all (run (for_head c t.from (tail ts) K) P)
    unfolding for_head
    good_for [] h e marks.Open p = absurd (let y : marks.Other ≡ marks.Open = p in cc)
    good_for (u ∷ ts) h e marks.Open p = (t, u, refl, e, is.is_Open u.kind p, h)
    good_for ts h e _ p = tt

    good_break : (ts : List Token) → WantsStmt all P K (t ∷ ts) → t.kind ≡ kinds.Word words.Break → (c : Punctuator) → mark_at ts ≡ c → Good all (run (leaf c (acts.Break t.from) (tail ts) K) P)
    unfolding leaf
    good_break [] h e marks.Semicolon p = absurd (let y : marks.Other ≡ marks.Semicolon = p in cc)
    good_break (u ∷ ts) h e marks.Semicolon p = (Break t.from, t ∷ u ∷ ts, P, refl, s.break e (is.is_Semicolon u.kind p), h)
    good_break ts h e _ p = tt

    good_continue : (ts : List Token) → WantsStmt all P K (t ∷ ts) → t.kind ≡ kinds.Word words.Continue → (c : Punctuator) → mark_at ts ≡ c → Good all (run (leaf c (acts.Continue t.from) (tail ts) K) P)
    unfolding leaf
    good_continue [] h e marks.Semicolon p = absurd (let y : marks.Other ≡ marks.Semicolon = p in cc)
    good_continue (u ∷ ts) h e marks.Semicolon p = (Continue t.from, t ∷ u ∷ ts, P, refl, s.continue e (is.is_Semicolon u.kind p), h)
    good_continue ts h e _ p = tt

    good_return : (ts : List Token) → WantsStmt all P K (t ∷ ts) → t.kind ≡ kinds.Word words.Return → (c : Punctuator) → mark_at ts ≡ c → Good all (run (returned c t.from ts (tail ts) K) P)
    unfolding returned
    good_return [] h e marks.Semicolon p = absurd (let y : marks.Other ≡ marks.Semicolon = p in cc)
    good_return (u ∷ ts) h e marks.Semicolon p = (Return t.from NoExpr, t ∷ u ∷ ts, P, refl, s.return e s.nothing (is.is_Semicolon u.kind p), h)
    good_return ts h e _ p = (refl, (t, refl, refl, e, h))

    pub good_stmt : (ts : List Token) → WantsStmt all P K (t ∷ ts) → (c : Begin) → begin_of t.kind ≡ c → Good all (run (stmt c t.from (t ∷ ts) ts K) P)
    unfolding stmt
    good_stmt ts h begins.Empty e = (Expression t.from NoExpr, t ∷ ts, P, refl, s.expression s.nothing (is.is_Empty t.kind e), h)
    good_stmt ts h begins.Block e = (NoEntries, P, t, ts, refl, refl, is.is_Block t.kind e, s.no_entry, h)
    good_stmt ts h begins.If e = good_if ts h (is.is_If t.kind e) (mark_at ts) refl
    good_stmt ts h begins.While e = good_while ts h (is.is_While t.kind e) (mark_at ts) refl
    good_stmt ts h begins.Do e = (t, refl, is.is_Do t.kind e, h)
    good_stmt ts h begins.For e = good_for ts h (is.is_For t.kind e) (mark_at ts) refl
    good_stmt ts h begins.Break e = good_break ts h (is.is_Break t.kind e) (mark_at ts) refl
    good_stmt ts h begins.Continue e = good_continue ts h (is.is_Continue t.kind e) (mark_at ts) refl
    good_stmt ts h begins.Return e = good_return ts h (is.is_Return t.kind e) (mark_at ts) refl
    good_stmt ts h begins.Other e = (refl, (refl, refl, h))

  module _ (P Q : List Piece) (K : List Frame) (z : Stmt) (us : List Token) (x : P ≡ PStmt z ∷ Q) where
    good_then : (f : ℕ) (ts : List Token) → IsStmt us z ts → WantsStmt all Q (fr.IfThen f ∷ K) us → (b : Bool) → begins_else ts ≡ b → Good all (run (if b then move nx.Stmt [] (tail ts) (fr.IfElse f ∷ K) else move nx.StmtDone (acts.If f ∷ []) ts K) P)
    good_then f [] d h true p = absurd (let y : false ≡ true = p in cc)
    good_then f (w ∷ ts) d (a, R, t, u, v, vs, y, q, i, j, k, l, h) true p = (a, z, R, t, u, v, w, vs, us, x ∙ ap (λ r. PStmt z ∷ r) y, q, i, j, k, l, d, else_kind w.kind p, h)
    good_then f ts d (a, R, t, u, v, vs, y, q, i, j, k, l, h) false p = rw (x, y, q) (If t.from a z, t ∷ u ∷ vs, R, refl, s.if_only i j k l d p, h)

    good_do_at : (f : ℕ) (w : Token) (ts : List Token) → IsStmt us z (w ∷ ts) → WantsStmt all Q (fr.DoBody f ∷ K) us → w.kind ≡ kinds.Word words.While → (c : Punctuator) → mark_at ts ≡ c → Good all (run (condition c (fr.DoCond f) (tail ts) K) P)
    unfolding condition
    good_do_at f w [] d h e marks.Open p = absurd (let y : marks.Other ≡ marks.Open = p in cc)
    good_do_at f w (v ∷ ts) d (t, q, i, h) e marks.Open p = (refl, (z, Q, t, w, v, us, x, refl, q, i, d, e, is.is_Open v.kind p, h))
    good_do_at f w ts d h e _ p = tt

    good_do_word : (f : ℕ) (w : Token) (ts : List Token) → IsStmt us z (w ∷ ts) → WantsStmt all Q (fr.DoBody f ∷ K) us → (k : Word) → w.kind ≡ kinds.Word k → Good all (run (do_on (kinds.Word k) f ts K) P)
    unfolding do_on
    good_do_word f w ts d h words.While e = good_do_at f w ts d h e (mark_at ts) refl
    good_do_word f w ts d h _ e = tt

    good_do_kind : (f : ℕ) (w : Token) (ts : List Token) → IsStmt us z (w ∷ ts) → WantsStmt all Q (fr.DoBody f ∷ K) us → (k : Kind) → w.kind ≡ k → Good all (run (do_on k f ts K) P)
    unfolding do_on
    good_do_kind f w ts d h (kinds.Word k) e = good_do_word f w ts d h k e
    good_do_kind f w ts d h _ e = tt

    good_do : (f : ℕ) (ts : List Token) → IsStmt us z ts → WantsStmt all Q (fr.DoBody f ∷ K) us → Good all (run (do_while f ts K) P)
    unfolding do_while
    good_do f [] d h = tt
    good_do f (w ∷ ts) d h = good_do_kind f w ts d h w.kind refl

    good_body : (ts : List Token) → IsStmt us z ts → WantsStmt all Q (fr.Body ∷ K) us → Good all (run (move nx.Top (acts.EndSpecs ∷ acts.AddName ∷ acts.DeclareBody ∷ []) ts K) P)
    good_body ts d (ps, n, f, an, b, ds, R, vs, ws, start, qs, t, y, e, k, i, a, c, (q, p, w)) =
        rw (x, y) (decls_then ds (Declare f an b ps (Some n) (Body z)), R, refl, (q, p, s.definition w a c (rw e at i) k (rw e at d)))

    pub good_done : (ts : List Token) → IsStmt us z ts → (o : Frame) → WantsStmt all Q (o ∷ K) us → Good all (run (done o ts K) P)
    unfolding done
    good_done ts d (fr.Block f) (es, R, t, vs, y, q, k, i, h) = rw (x, y) (entries_then es (StmtEntry z), R, t, vs, refl, q, k, s.stmt_entry i d, h)
    good_done ts d (fr.IfThen f) h = good_then f ts d h (begins_else ts) refl
    good_done ts d (fr.IfElse f) (a, w, R, t, u, v, l, vs, ws, y, q, i, j, k, m, n, o, h) = rw (x, y, q) (IfElse t.from a w z, t ∷ u ∷ vs, R, refl, s.if_else i j k m n o d, h)
    good_done ts d (fr.WhileBody f) (a, R, t, u, v, vs, y, q, i, j, k, l, h) = rw (x, y, q) (While t.from a z, t ∷ u ∷ vs, R, refl, s.while i j k l d, h)
    good_done ts d (fr.DoBody f) h = good_do f ts d h
    good_done ts d (fr.ForBody f) (w, R, t, vs, y, q, k, (a, S, ws, u, y2, q2, k2, (b, T, rs, y3, q3, (t3, u3, e3, w3, o3, h)))) = rw (x, y, y2, y3, e3) (For t3.from b a w z, t3 ∷ u3 ∷ rs, T, refl, s.for w3 o3 q3 q2 k2 q k d, h)
    good_done ts d fr.Body h = good_body ts d h
    good_done ts d _ h = tt

  good_block_end : (P : List Piece) (K : List Frame) (t : Token) (ts : List Token) → WantsEntry all P K (t ∷ ts) → t.kind ≡ kinds.Sign signs.CloseBrace → Good all (run (block_end ts K) P)
  unfolding block_end
  good_block_end P (fr.Block f ∷ K) t ts (es, Q, u, vs, y, p, q, d, h) e = rw (y, p) (Block u.from es, u ∷ vs, Q, refl, s.block q d e, h)
  good_block_end P _ t ts h e = absurd h

  entry_stmt : (P : List Piece) (K : List Frame) (ts : List Token) → WantsEntry all P K ts → WantsStmt all P K ts
  entry_stmt P (fr.Block f ∷ K) ts h = h
  entry_stmt P _ ts h = absurd h

  pub good_entry : (P : List Piece) (K : List Frame) (ts : List Token) → WantsEntry all P K ts → (c : Punctuator) → mark_at ts ≡ c → (b : Bool) → Good all (run (entry c b ts (tail ts) K) P)
  unfolding entry
  good_entry P K [] h marks.CloseBrace e b = absurd (let y : marks.Other ≡ marks.CloseBrace = e in cc)
  good_entry P K (t ∷ ts) h marks.CloseBrace e b = good_block_end P K t ts h (is.is_CloseBrace t.kind e)
  good_entry P K ts h _ e true = h
  good_entry P K ts h _ e false = entry_stmt P K ts h

  pub good_first : (P : List Piece) (K : List Frame) (f : ℕ) (ts : List Token) → Read all (nx.ForFirst f) P ts K → (c : Punctuator) → mark_at ts ≡ c → (b : Bool) → Good all (run (for_first c b f ts (tail ts) K) P)
  unfolding for_first
  good_first P K f [] h marks.Semicolon e b = absurd (let y : marks.Other ≡ marks.Semicolon = e in cc)
  good_first P K f (t ∷ ts) h marks.Semicolon e b = (NoFirst, P, t ∷ ts, refl, s.no_first (is.is_Semicolon t.kind e), h)
  good_first P K f ts h _ e true = h
  good_first P K f ts h _ e false = (refl, (refl, h))

  pub good_test : (P : List Piece) (K : List Frame) (f : ℕ) (ts : List Token) → Read all (nx.ForTest f) P ts K → (c : Punctuator) → mark_at ts ≡ c → Good all (run (for_test c f ts (tail ts) K) P)
  unfolding for_test
  good_test P K f [] h marks.Semicolon e = absurd (let y : marks.Other ≡ marks.Semicolon = e in cc)
  good_test P K f (t ∷ ts) h marks.Semicolon e = (NoExpr, P, t ∷ ts, t, refl, s.nothing, is.is_Semicolon t.kind e, h)
  good_test P K f ts h _ e = (refl, (refl, h))

  pub good_step : (P : List Piece) (K : List Frame) (f : ℕ) (ts : List Token) → Read all (nx.ForStep f) P ts K → (c : Punctuator) → mark_at ts ≡ c → Good all (run (for_step c f ts (tail ts) K) P)
  unfolding for_step
  good_step P K f [] h marks.Close e = absurd (let y : marks.Other ≡ marks.Close = e in cc)
  good_step P K f (t ∷ ts) h marks.Close e = (NoExpr, P, t, t ∷ ts, refl, s.nothing, is.is_Close t.kind e, h)
  good_step P K f ts h _ e = (refl, (refl, h))

  -- whole sources
  good_struct_end : (P : List Piece) (K : List Frame) (w : Token) (ts : List Token) → Read all nx.MemberEnd P (w ∷ ts) K → w.kind ≡ kinds.Sign signs.CloseBrace → (c : Punctuator) → mark_at ts ≡ c → Good all (run (struct_end c (tail ts) K) P)
  unfolding struct_end
  good_struct_end P K w [] h e marks.Semicolon p = absurd (let y : marks.Other ≡ marks.Semicolon = p in cc)
  good_struct_end P K w (v ∷ ts) (ms, Q, y, (f, n, ds, t, u, r, ws, q, k, i, j, l, m, o, z)) e marks.Semicolon p =
      rw (k, y, q, i) (decls_then ds (Declare t.from NoAnnots (bases.Struct n) NoParts None (Members ms)), [], refl, (refl, refl, s.struct z j l m o e (is.is_Semicolon v.kind p)))
  good_struct_end P K w ts h e _ p = tt

  pub good_member_end : (P : List Piece) (K : List Frame) (ts : List Token) → Read all nx.MemberEnd P ts K → (c : Punctuator) → mark_at ts ≡ c → Good all (run (member_end c ts (tail ts) K) P)
  unfolding member_end
  good_member_end P K [] h marks.CloseBrace e = absurd (let y : marks.Other ≡ marks.CloseBrace = e in cc)
  good_member_end P K (t ∷ ts) h marks.CloseBrace e = good_struct_end P K t ts h (is.is_CloseBrace t.kind e) (mark_at ts) refl
  good_member_end P K ts (ms, Q, y, (f, n, ds, t, u, r, ws, q, k, i, j, l, m, o, z)) _ e = (ms, Q, y, (f, n, ds, t, u, r, ws, q, k, i, j, l, m, inr o, z))

  good_top_plain : (P : List Piece) (K : List Frame) (ts : List Token) → Read all nx.Top P ts K → (c : Punctuator) → mark_at ts ≡ c → Good all (run (annotated c targets.Top ts (tail ts) K) P)
  unfolding annotated
  good_top_plain P K [] h marks.OpenBracket e = absurd (let y : marks.Other ≡ marks.OpenBracket = e in cc)
  good_top_plain P K (t ∷ ts) h marks.OpenBracket e = (NoAnnots, P, t, ts, refl, is.is_OpenBracket t.kind e, inl (refl, refl), h)
  good_top_plain P K ts h _ e = (NoAnnots, ts, P, refl, g.no_annotation, h)

  good_top : (P : List Piece) (K : List Frame) (ts : List Token) → Read all nx.Top P ts K → (o : Option (List ℕ × List Token)) → defines ts ≡ o → Good all (run (top o ts K) P)
  unfolding top
  good_top P K ts h None e = good_top_plain P K ts h (mark_at ts) refl
  good_top P K ts (ds, Q, y, (q, p, z)) (Some (n, us)) e =
      let r = defined ts n us e in
      rw (y, q, p) (NoDecls, PTag (from_of ts) n ∷ PDecls ds ∷ [], refl, (from_of ts, n, ds, r.0, r.1, r.2, us, refl, refl, ap from_of r.3, r.4, r.5, r.6, inl (refl, refl), rw r.3 at z))

  pub good_tops : (P : List Piece) (K : List Frame) (ts : List Token) → Read all nx.Top P ts K → Good all (run (tops ts K) P)
  unfolding tops
  good_tops P [] [] (ds, Q, y, (q, p, z)) = (ds, y ∙ ap (λ r. PDecls ds ∷ r) q, refl, refl, z)
  good_tops P (o ∷ K) [] h = good_top P (o ∷ K) [] h (defines []) refl
  good_tops P K (t ∷ ts) h = good_top P K (t ∷ ts) h (defines (t ∷ ts)) refl

  good_given : (n : Next) (P : List Piece) (ts : List Token) (o : Frame) (K : List Frame) → Read all n P ts (o ∷ K) → Good all (run (give_next n o ts K) P)
  unfolding give_next
  good_given (nx.Done k) P ts o K (a, us, Q, x, d, z, h) = ex.good_give all us a P Q x k ts d z K o h
  good_given nx.Value P ts o K (a, m, us, Q, x, d, h) = ex.good_value all us a P Q x m K ts d o h
  good_given nx.DeclrDone P ts o K h = good_declared P K ts o h
  good_given nx.AnnotDone P ts o K (f, n, its, us, Q, x, d, h) = de.good_annot_end all P Q K f n its us x ts d o h
  good_given nx.AtomDone P ts o K (a, us, Q, x, d, h) = de.good_atom_done all P Q K a us x ts d o h
  good_given nx.ItemDone P ts o K (it, us, Q, x, d, h) = de.good_item_end all P Q K it us x ts d o h
  good_given nx.ValueDone P ts o K (v, us, Q, x, d, h) = good_value_end P Q K v us x ts d o h
  good_given nx.StmtDone P ts o K (z, us, Q, x, d, h) = good_done P Q K z us x ts d o h
  good_given _ P ts o K h = tt

  good_taken : (n : Next) (P : List Piece) (t : Token) (ts : List Token) (K : List Frame) → Read all n P (t ∷ ts) K → Good all (run (take_next n t (t ∷ ts) ts K) P)
  unfolding take_next
  good_taken nx.Operand P t ts K h = ex.good_start all t P ts K h t.kind refl
  good_taken (nx.Declr c f) P t ts K h = de.good_declr all P K t ts c f h t.kind refl
  good_taken nx.Annot P t ts K h = de.good_annot all P K t ts h t.kind refl
  good_taken nx.Atom P t ts K h = de.good_atom all P K t ts h t.kind refl
  good_taken nx.Stmt P t ts K h = good_stmt P K t ts h (begin_of t.kind) refl
  good_taken _ P t ts K h = tt

  good_read : (n : Next) (P : List Piece) (ts : List Token) (K : List Frame) → Read all n P ts K → Good all (run (read_next n ts K) P)
  unfolding read_next
  good_read (nx.After f) P ts K (a, us, Q, x, e, d, h) = rw e (ex.good_after all K us a P Q x h ts d)
  good_read nx.TypeName P ts K h = de.good_typed all (take_specs false ts) P K ts h refl
  good_read nx.Direct P ts K (ps, n, k, Q, x, h) = de.good_direct all P Q K ps n k x ts h
  good_read nx.Param P ts K h = de.good_param_start all P K ts h (mark_at ts) refl
  good_read (nx.Specs tg) P ts K (an, us, Q, x, d, h) = de.good_targeted all P Q K an us ts x d (take_specs (is_top tg) ts) tg h refl
  good_read (nx.Names pl) P ts K h = de.good_placed all (take_specs false ts) P K ts pl h refl
  good_read nx.Item P ts K h = (refl, h)
  good_read nx.Initial P ts K h = good_initial P K ts h (mark_at ts) refl
  good_read nx.Entry P ts K h = good_entry P K ts h (mark_at ts) refl (begins_type ts)
  good_read (nx.ForFirst f) P ts K h = good_first P K f ts h (mark_at ts) refl (begins_type ts)
  good_read (nx.ForTest f) P ts K h = good_test P K f ts h (mark_at ts) refl
  good_read (nx.ForStep f) P ts K h = good_step P K f ts h (mark_at ts) refl
  good_read nx.MemberEnd P ts K h = good_member_end P K ts h (mark_at ts) refl
  good_read nx.Top P ts K h = good_tops P K ts h
  good_read nx.End P ts K h = h
  good_read _ P ts K h = tt

  given_good : (n : Next) (P : List Piece) (ts : List Token) (K : List Frame) → Read all n P ts K → Good all (run (given n ts K) P)
  given_good n P ts [] h = tt
  given_good n P ts (o ∷ K) h = good_given n P ts o K h

  taken_good : (n : Next) (P : List Piece) (ts : List Token) (K : List Frame) → Read all n P ts K → Good all (run (taken n ts K) P)
  taken_good n P [] K h = tt
  taken_good n P (t ∷ ts) K h = good_taken n P t ts K h

  pub step_good : (n : Next) (P : List Piece) (ts : List Token) (K : List Frame) → Read all n P ts K → Good all (run (step n ts K) P)
  unfolding step
  step_good (nx.Done k) P ts K h = given_good (nx.Done k) P ts K h
  step_good nx.Value P ts K h = given_good nx.Value P ts K h
  step_good nx.DeclrDone P ts K h = given_good nx.DeclrDone P ts K h
  step_good nx.AnnotDone P ts K h = given_good nx.AnnotDone P ts K h
  step_good nx.AtomDone P ts K h = given_good nx.AtomDone P ts K h
  step_good nx.ItemDone P ts K h = given_good nx.ItemDone P ts K h
  step_good nx.ValueDone P ts K h = given_good nx.ValueDone P ts K h
  step_good nx.StmtDone P ts K h = given_good nx.StmtDone P ts K h
  step_good nx.Operand P ts K h = taken_good nx.Operand P ts K h
  step_good (nx.Declr c f) P ts K h = taken_good (nx.Declr c f) P ts K h
  step_good nx.Annot P ts K h = taken_good nx.Annot P ts K h
  step_good nx.Atom P ts K h = taken_good nx.Atom P ts K h
  step_good nx.Stmt P ts K h = taken_good nx.Stmt P ts K h
  step_good n P ts K h = good_read n P ts K h
