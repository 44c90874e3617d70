-- Strings of a source are among its tokens.
use Rattle.std.proofs.Common.{◌≡◌, ℕ, Bool, List, [], ◌∷◌, refl, subst, arith}
use Rattle.std.specs.List.{Contains}
use Rattle.std.proofs.lemmas.List.Elements.{Contains-append_right}
use Rattle.c_types.specs.Texts.{if_text, texts_among}
use Rattle.c_types_program.specs.Programs.{texts_in}
use Rattle.c_lexer.specs.declared.token.Kind.{Kind}
use Rattle.c_lexer.specs.declared.token.Kind.TheVariants as kinds
use Rattle.c_lexer.specs.declared.token.Token.{Token}
use Rattle.c_syntax.specs.declared.declaration.Base.{Base}
use Rattle.c_syntax.specs.declared.specifier.Specifiers.{Specifiers}
use Rattle.c_syntax.specs.Syntax.{Expr, Exprs, MaybeExpr, Decl, Decls, Annots, Annot, Items, Item, Atom, Parts, Value, Values, Rest, Stmt, Entries, Entry, First, Name, Number, Char, Text, Binary, Assign, Cond, Prefix, Postfix, SizeofExpr, SizeofType, Cast, Index, Call, Member, Arrow, NoExprs, MoreExprs, NoExpr, OneExpr, Declare, NoDecls, MoreDecls, NoAnnots, MoreAnnots, Annotate, NoItems, MoreItems, OneFactor, TwoFactors, NameAtom, NumberAtom, ReturnAtom, SizeofAtom, NoParts, Pointer, Array, Params, Plain, Braces, NoValues, MoreValues, NoRest, Initial, Body, Members, Block, Expression, If, IfElse, While, Do, For, Break, Continue, Return, NoEntries, MoreEntries, LocalEntry, StmtEntry, NoFirst, LocalFirst, ExprFirst, exprs_then, decls_then, annots_then, items_then, values_then, entries_then}
use Rattle.c_syntax.specs.Grammar.{Label, IsWords, no_word, word, tag, IsSpecs, specs, IsConsts, no_const, const, IsPostfix, IsUnary, IsExpr, IsArgs, IsTypeName, IsDeclr, IsDirect, IsParams, IsParamList, IsParam, IsAnnotation, IsAnnots, IsAnnot, IsItems, IsItem, IsAtom}
use Rattle.c_syntax.specs.Grammar as g
use Rattle.c_syntax.specs.Sources.{IsValue, IsValues, IsInit, IsNames, IsLocal, IsMaybe, IsFirst, IsStmt, IsEntries, IsMembers, IsTops, Spells}
use Rattle.c_syntax.specs.Sources as s

module _ (T : List ℕ) where
  -- each string begins at one of these offsets
  abbrev mutual
    pub HasExpr : Expr → Type 0
    HasExpr (Name f n) = Unit {0}
    HasExpr (Number f v s d) = Unit {0}
    HasExpr (Char f v) = Unit {0}
    HasExpr (Text f n) = Contains T f
    HasExpr (Binary f s x y) = HasExpr x × HasExpr y
    HasExpr (Assign f s x y) = HasExpr x × HasExpr y
    HasExpr (Cond f x y z) = HasExpr x × HasExpr y × HasExpr z
    HasExpr (Prefix f s x) = HasExpr x
    HasExpr (Postfix f s x) = HasExpr x
    HasExpr (SizeofExpr f x) = HasExpr x
    HasExpr (SizeofType f d) = HasDecl d
    HasExpr (Cast f d x) = HasDecl d × HasExpr x
    HasExpr (Index f x y) = HasExpr x × HasExpr y
    HasExpr (Call f x xs) = HasExpr x × HasExprs xs
    HasExpr (Member f x n) = HasExpr x
    HasExpr (Arrow f x n) = HasExpr x

    pub HasExprs : Exprs → Type 0
    HasExprs NoExprs = Unit {0}
    HasExprs (MoreExprs x xs) = HasExpr x × HasExprs xs

    pub HasMaybe : MaybeExpr → Type 0
    HasMaybe NoExpr = Unit {0}
    HasMaybe (OneExpr x) = HasExpr x

    pub HasDecl : Decl → Type 0
    HasDecl (Declare f an b ps n r) = HasAnnots an × HasParts ps × HasRest r

    pub HasDecls : Decls → Type 0
    HasDecls NoDecls = Unit {0}
    HasDecls (MoreDecls d ds) = HasDecl d × HasDecls ds

    pub HasAnnots : Annots → Type 0
    HasAnnots NoAnnots = Unit {0}
    HasAnnots (MoreAnnots x xs) = HasAnnot x × HasAnnots xs

    pub HasAnnot : Annot → Type 0
    HasAnnot (Annotate f n is) = HasItems is

    pub HasItems : Items → Type 0
    HasItems NoItems = Unit {0}
    HasItems (MoreItems x xs) = HasItem x × HasItems xs

    pub HasItem : Item → Type 0
    HasItem (OneFactor f a) = HasAtom a
    HasItem (TwoFactors f a b) = HasAtom a × HasAtom b

    pub HasAtom : Atom → Type 0
    HasAtom (NameAtom n) = Unit {0}
    HasAtom (NumberAtom v) = Unit {0}
    HasAtom ReturnAtom = Unit {0}
    HasAtom (SizeofAtom d) = HasDecl d

    pub HasParts : Parts → Type 0
    HasParts NoParts = Unit {0}
    HasParts (Pointer f ps) = HasParts ps
    HasParts (Array f x ps) = HasExpr x × HasParts ps
    HasParts (Params f ds ps) = HasDecls ds × HasParts ps

    pub HasValue : Value → Type 0
    HasValue (Plain x) = HasExpr x
    HasValue (Braces f vs) = HasValues vs

    pub HasValues : Values → Type 0
    HasValues NoValues = Unit {0}
    HasValues (MoreValues v vs) = HasValue v × HasValues vs

    pub HasRest : Rest → Type 0
    HasRest NoRest = Unit {0}
    HasRest (Initial v) = HasValue v
    HasRest (Body s) = HasStmt s
    HasRest (Members ds) = HasDecls ds

    pub HasStmt : Stmt → Type 0
    HasStmt (Block f es) = HasEntries es
    HasStmt (Expression f x) = HasMaybe x
    HasStmt (If f x s) = HasExpr x × HasStmt s
    HasStmt (IfElse f x s z) = HasExpr x × HasStmt s × HasStmt z
    HasStmt (While f x s) = HasExpr x × HasStmt s
    HasStmt (Do f s x) = HasStmt s × HasExpr x
    HasStmt (For f a x y s) = HasFirst a × HasMaybe x × HasMaybe y × HasStmt s
    HasStmt (Break f) = Unit {0}
    HasStmt (Continue f) = Unit {0}
    HasStmt (Return f x) = HasMaybe x

    pub HasEntries : Entries → Type 0
    HasEntries NoEntries = Unit {0}
    HasEntries (MoreEntries x xs) = HasEntry x × HasEntries xs

    pub HasEntry : Entry → Type 0
    HasEntry (LocalEntry ds) = HasDecls ds
    HasEntry (StmtEntry s) = HasStmt s

    pub HasFirst : First → Type 0
    HasFirst NoFirst = Unit {0}
    HasFirst (LocalFirst ds) = HasDecls ds
    HasFirst (ExprFirst x) = HasExpr x

  -- a string that is a token
  abbrev pub HasKind : (from : ℕ) → Kind → Type 0
  HasKind from (kinds.Text bytes) = Contains T from
  HasKind from _ = Unit {0}

  abbrev pub HasTokens : List Token → Type 0
  HasTokens [] = Unit {0}
  HasTokens (t ∷ ts) = HasKind t.from t.kind × HasTokens ts

  -- ---- one more at the end of a list

  exprs_more : (xs : Exprs) (x : Expr) → HasExprs xs → HasExpr x → HasExprs (exprs_then xs x)
  exprs_more NoExprs x p q = (q, tt)
  exprs_more (MoreExprs y ys) x p q = (p.0, exprs_more ys x p.1 q)

  decls_more : (xs : Decls) (x : Decl) → HasDecls xs → HasDecl x → HasDecls (decls_then xs x)
  decls_more NoDecls x p q = (q, tt)
  decls_more (MoreDecls y ys) x p q = (p.0, decls_more ys x p.1 q)

  annots_more : (xs : Annots) (x : Annot) → HasAnnots xs → HasAnnot x → HasAnnots (annots_then xs x)
  annots_more NoAnnots x p q = (q, tt)
  annots_more (MoreAnnots y ys) x p q = (p.0, annots_more ys x p.1 q)

  items_more : (xs : Items) (x : Item) → HasItems xs → HasItem x → HasItems (items_then xs x)
  items_more NoItems x p q = (q, tt)
  items_more (MoreItems y ys) x p q = (p.0, items_more ys x p.1 q)

  values_more : (xs : Values) (x : Value) → HasValues xs → HasValue x → HasValues (values_then xs x)
  values_more NoValues x p q = (q, tt)
  values_more (MoreValues y ys) x p q = (p.0, values_more ys x p.1 q)

  entries_more : (xs : Entries) (x : Entry) → HasEntries xs → HasEntry x → HasEntries (entries_then xs x)
  entries_more NoEntries x p q = (q, tt)
  entries_more (MoreEntries y ys) x p q = (p.0, entries_more ys x p.1 q)

  a_text : (from : ℕ) (k : Kind) (bytes : List ℕ) → k ≡ kinds.Text bytes → HasKind from k → Contains T from
  a_text from k bytes e h = subst (HasKind from) e h

  -- ---- words before a declarator

  words_have : {top : Bool} {ts rest : List Token} {r z : Specifiers} → IsWords top ts r z rest → HasTokens ts → HasTokens rest
  words_have no_word h = h
  words_have (word _ _ _ r) h = words_have r h.1
  words_have (tag _ _ _ r) h = words_have r h.1.1

  specs_have : {top : Bool} {ts rest : List Token} {b : Base} → IsSpecs top ts b rest → HasTokens ts → HasTokens rest
  specs_have (specs r _) h = words_have r h

  consts_have : {ts rest : List Token} → IsConsts ts rest → HasTokens ts → HasTokens rest
  consts_have no_const h = h
  consts_have (const _ r) h = consts_have r h.1

  -- ---- expressions, declarators and annotations

  mutual
    postfix_has : {ts rest : List Token} {e : Expr} → IsPostfix ts e rest → HasTokens ts → HasExpr e × HasTokens rest
    postfix_has (g.name _) h = (tt, h.1)
    postfix_has (g.number e) h = (tt, h.1)
    postfix_has (g.char _) h = (tt, h.1)
    postfix_has (g.text e) h = (a_text _ _ _ e h.0, h.1)
    postfix_has (g.group _ p _) h = let q = expr_has p h.1 in (q.0, q.1.1)
    postfix_has (g.index p _ i _) h = let q = postfix_has p h in let r = expr_has i q.1.1 in ((q.0, r.0), r.1.1)
    postfix_has (g.call_none p _ _) h = let q = postfix_has p h in ((q.0, tt), q.1.1.1)
    postfix_has (g.call p _ a _) h = let q = postfix_has p h in let r = args_have a q.1.1 in ((q.0, r.0), r.1.1)
    postfix_has (g.member p _ _) h = let q = postfix_has p h in (q.0, q.1.1.1)
    postfix_has (g.arrow p _ _) h = let q = postfix_has p h in (q.0, q.1.1.1)
    postfix_has (g.step p _ _) h = let q = postfix_has p h in (q.0, q.1.1)

    unary_has : {ts rest : List Token} {e : Expr} → IsUnary ts e rest → HasTokens ts → HasExpr e × HasTokens rest
    unary_has (g.postfix p) h = postfix_has p h
    unary_has (g.prefix _ _ p) h = unary_has p h.1
    unary_has (g.sizeof _ _ p) h = unary_has p h.1
    unary_has (g.sizeof_type _ _ p _) h = let q = type_name_has p h.1.1 in (q.0, q.1.1)
    unary_has (g.cast _ p _ u) h = let q = type_name_has p h.1 in let r = unary_has u q.1.1 in ((q.0, r.0), r.1)

    expr_has : {l : ℕ} {ts rest : List Token} {e : Expr} → IsExpr l ts e rest → HasTokens ts → HasExpr e × HasTokens rest
    expr_has (g.unary p) h = unary_has p h
    expr_has (g.tighter p) h = expr_has p h
    expr_has (g.binary a _ _ b) h = let q = expr_has a h in let r = expr_has b q.1.1 in ((q.0, r.0), r.1)
    expr_has (g.assign a _ _ b) h = let q = unary_has a h in let r = expr_has b q.1.1 in ((q.0, r.0), r.1)
    expr_has (g.cond a _ b _ c) h = let q = expr_has a h in let r = expr_has b q.1.1 in let t = expr_has c r.1.1 in ((q.0, r.0, t.0), t.1)

    args_have : {ts rest : List Token} {xs : Exprs} → IsArgs ts xs rest → HasTokens ts → HasExprs xs × HasTokens rest
    args_have (g.first_arg p) h = let q = expr_has p h in ((q.0, tt), q.1)
    args_have (g.more_args p _ e) h = let q = args_have p h in let r = expr_has e q.1.1 in (exprs_more _ _ q.0 r.0, r.1)

    type_name_has : {ts rest : List Token} {d : Decl} → IsTypeName ts d rest → HasTokens ts → HasDecl d × HasTokens rest
    type_name_has (g.type_name w p) h = let q = declr_has p (specs_have w h) in ((tt, q.0, tt), q.1)

    declr_has : {ts rest : List Token} {ps : Parts} {l : Label} → IsDeclr ts ps l rest → HasTokens ts → HasParts ps × HasTokens rest
    declr_has (g.direct p) h = direct_has p h
    declr_has (g.pointer _ w p) h = declr_has p (consts_have w h.1)

    direct_has : {ts rest : List Token} {ps : Parts} {l : Label} → IsDirect ts ps l rest → HasTokens ts → HasParts ps × HasTokens rest
    direct_has (g.named _) h = (tt, h.1)
    direct_has g.nameless h = (tt, h)
    direct_has (g.grouped _ p _ _) h = let q = declr_has p h.1 in (q.0, q.1.1)
    direct_has (g.array p _ e _) h = let q = direct_has p h in let r = expr_has e q.1.1 in ((r.0, q.0), r.1.1)
    direct_has (g.function p _ a _) h = let q = direct_has p h in let r = params_have a q.1.1 in ((r.0, q.0), r.1.1)

    params_have : {ts rest : List Token} {ds : Decls} → IsParams ts ds rest → HasTokens ts → HasDecls ds × HasTokens rest
    params_have (g.no_params _ _) h = (tt, h.1)
    params_have (g.params _ p) h = param_list_has p h

    param_list_has : {ts rest : List Token} {ds : Decls} → IsParamList ts ds rest → HasTokens ts → HasDecls ds × HasTokens rest
    param_list_has (g.first_param p) h = let q = param_has p h in ((q.0, tt), q.1)
    param_list_has (g.more_params p _ d) h = let q = param_list_has p h in let r = param_has d q.1.1 in (decls_more _ _ q.0 r.0, r.1)

    param_has : {ts rest : List Token} {d : Decl} → IsParam ts d rest → HasTokens ts → HasDecl d × HasTokens rest
    param_has (g.param a w p) h = let q = annotation_has a h in let r = declr_has p (specs_have w q.1) in ((q.0, r.0, tt), r.1)

    annotation_has : {ts rest : List Token} {an : Annots} → IsAnnotation ts an rest → HasTokens ts → HasAnnots an × HasTokens rest
    annotation_has g.no_annotation h = (tt, h)
    annotation_has (g.annotation _ p _) h = let q = annots_have p h.1 in (q.0, q.1.1)

    annots_have : {ts rest : List Token} {an : Annots} → IsAnnots ts an rest → HasTokens ts → HasAnnots an × HasTokens rest
    annots_have (g.first_annot p) h = let q = annot_has p h in ((q.0, tt), q.1)
    annots_have (g.more_annots p _ x) h = let q = annots_have p h in let r = annot_has x q.1.1 in (annots_more _ _ q.0 r.0, r.1)

    annot_has : {ts rest : List Token} {x : Annot} → IsAnnot ts x rest → HasTokens ts → HasAnnot x × HasTokens rest
    annot_has (g.word_annot _) h = (tt, h.1)
    annot_has (g.call_annot _ _ p _) h = let q = items_have p h.1.1 in (q.0, q.1.1)

    items_have : {ts rest : List Token} {is : Items} → IsItems ts is rest → HasTokens ts → HasItems is × HasTokens rest
    items_have (g.first_item p) h = let q = item_has p h in ((q.0, tt), q.1)
    items_have (g.more_items p _ x) h = let q = items_have p h in let r = item_has x q.1.1 in (items_more _ _ q.0 r.0, r.1)

    item_has : {ts rest : List Token} {x : Item} → IsItem ts x rest → HasTokens ts → HasItem x × HasTokens rest
    item_has (g.factor p) h = atom_has p h
    item_has (g.product p _ a) h = let q = atom_has p h in let r = atom_has a q.1.1 in ((q.0, r.0), r.1)

    atom_has : {ts rest : List Token} {a : Atom} → IsAtom ts a rest → HasTokens ts → HasAtom a × HasTokens rest
    atom_has (g.name_atom _) h = (tt, h.1)
    atom_has (g.number_atom _) h = (tt, h.1)
    atom_has (g.return_atom _) h = (tt, h.1)
    atom_has (g.sizeof_atom _ _ p _) h = let q = type_name_has p h.1.1 in (q.0, q.1.1)

  -- ---- values, statements and sources

  mutual
    value_has : {ts rest : List Token} {v : Value} → IsValue ts v rest → HasTokens ts → HasValue v × HasTokens rest
    value_has (s.plain p) h = expr_has p h
    value_has (s.braces _ p _) h = let q = values_have p h.1 in (q.0, q.1.1)
    value_has (s.braces_comma _ p _ _) h = let q = values_have p h.1 in (q.0, q.1.1.1)

    values_have : {ts rest : List Token} {vs : Values} → IsValues ts vs rest → HasTokens ts → HasValues vs × HasTokens rest
    values_have (s.first_value p) h = let q = value_has p h in ((q.0, tt), q.1)
    values_have (s.more_values p _ v) h = let q = values_have p h in let r = value_has v q.1.1 in (values_more _ _ q.0 r.0, r.1)

  init_has : {values : Bool} {ts rest : List Token} {r : Rest} → IsInit values ts r rest → HasTokens ts → HasRest r × HasTokens rest
  init_has s.no_init h = (tt, h)
  init_has (s.init _ _ p) h = value_has p h.1

  names_have : {values : Bool} {an : Annots} {b : Base} {before : Decls} {ts rest : List Token} {ds : Decls} → IsNames values an b before ts ds rest → HasAnnots an → HasDecls before → HasTokens ts → HasDecls ds × HasTokens rest
  names_have (s.first_name p i) a before h = let q = declr_has p h in let r = init_has i q.1 in (decls_more _ _ before (a, q.0, r.0), r.1)
  names_have (s.more_names n _ p i) a before h = let m = names_have n a before h in let q = declr_has p m.1.1 in let r = init_has i q.1 in (decls_more _ _ m.0 (a, q.0, r.0), r.1)

  local_has : {ts rest : List Token} {ds : Decls} → IsLocal ts ds rest → HasTokens ts → HasDecls ds × HasTokens rest
  local_has (s.local w n _) h = let q = names_have n tt tt (specs_have w h) in (q.0, q.1.1)

  maybe_has : {ts rest : List Token} {x : MaybeExpr} → IsMaybe ts x rest → HasTokens ts → HasMaybe x × HasTokens rest
  maybe_has s.nothing h = (tt, h)
  maybe_has (s.something p) h = expr_has p h

  first_has : {ts rest : List Token} {a : First} → IsFirst ts a rest → HasTokens ts → HasFirst a × HasTokens rest
  first_has (s.local_first p) h = local_has p h
  first_has (s.expr_first p _) h = let q = expr_has p h in (q.0, q.1.1)
  first_has (s.no_first _) h = (tt, h.1)

  mutual
    stmt_has : {ts rest : List Token} {x : Stmt} → IsStmt ts x rest → HasTokens ts → HasStmt x × HasTokens rest
    stmt_has (s.block _ p _) h = let q = entries_have p h.1 in (q.0, q.1.1)
    stmt_has (s.expression p _) h = let q = maybe_has p h in (q.0, q.1.1)
    stmt_has (s.if_only _ _ e _ p _) h = let q = expr_has e h.1.1 in let r = stmt_has p q.1.1 in ((q.0, r.0), r.1)
    stmt_has (s.if_else _ _ e _ p _ z) h = let q = expr_has e h.1.1 in let r = stmt_has p q.1.1 in let t = stmt_has z r.1.1 in ((q.0, r.0, t.0), t.1)
    stmt_has (s.while _ _ e _ p) h = let q = expr_has e h.1.1 in let r = stmt_has p q.1.1 in ((q.0, r.0), r.1)
    stmt_has (s.do_while _ p _ _ e _ _) h = let q = stmt_has p h.1 in let r = expr_has e q.1.1.1 in ((q.0, r.0), r.1.1.1)
    stmt_has (s.for _ _ a x _ y _ p) h =
        let q = first_has a h.1.1 in let r = maybe_has x q.1 in let t = maybe_has y r.1.1 in let u = stmt_has p t.1.1 in ((q.0, r.0, t.0, u.0), u.1)
    stmt_has (s.break _ _) h = (tt, h.1.1)
    stmt_has (s.continue _ _) h = (tt, h.1.1)
    stmt_has (s.return _ p _) h = let q = maybe_has p h.1 in (q.0, q.1.1)

    entries_have : {ts rest : List Token} {es : Entries} → IsEntries ts es rest → HasTokens ts → HasEntries es × HasTokens rest
    entries_have s.no_entry h = (tt, h)
    entries_have (s.local_entry p l) h = let q = entries_have p h in let r = local_has l q.1 in (entries_more _ _ q.0 r.0, r.1)
    entries_have (s.stmt_entry p z) h = let q = entries_have p h in let r = stmt_has z q.1 in (entries_more _ _ q.0 r.0, r.1)

  members_have : {ts rest : List Token} {ds : Decls} → IsMembers ts ds rest → HasTokens ts → HasDecls ds × HasTokens rest
  members_have (s.first_members w n _) h = let q = names_have n tt tt (specs_have w h) in (q.0, q.1.1)
  members_have (s.more_members m w n _) h = let p = members_have m h in let q = names_have n tt p.0 (specs_have w p.1) in (q.0, q.1.1)

  pub tops_have : {ts rest : List Token} {ds : Decls} → IsTops ts ds rest → HasTokens ts → HasDecls ds × HasTokens rest
  tops_have s.no_top h = (tt, h)
  tops_have (s.struct t _ _ _ m _ _) h = let q = tops_have t h in let r = members_have m q.1.1.1.1 in (decls_more _ _ q.0 (tt, tt, r.0), r.1.1.1)
  tops_have (s.names t a w n _) h = let q = tops_have t h in let r = annotation_has a q.1 in let u = names_have n r.0 q.0 (specs_have w r.1) in (u.0, u.1.1)
  tops_have (s.definition t a w p _ b) h = let q = tops_have t h in let r = annotation_has a q.1 in let u = declr_has p (specs_have w r.1) in let v = stmt_has b u.1 in (decls_more _ _ q.0 (r.0, u.0, v.0), v.1)

  -- tokens whose strings all begin at these offsets
  pub all_have : (us : List Token) → ((from : ℕ) → Contains (texts_in (texts_among us)) from → Contains T from) → HasTokens us
  all_have [] h = tt
  all_have (t ∷ us) h = by t.kind h (λ g. all_have us g)
    where
      by : (k : Kind) → ((from : ℕ) → Contains (texts_in (if_text t.from k (texts_among us))) from → Contains T from) → (((from : ℕ) → Contains (texts_in (texts_among us)) from → Contains T from) → HasTokens us)
          → HasKind t.from k × HasTokens us
      by (kinds.Text bytes) g rest =
          (g t.from (0, omega arith, refl), rest (λ from k. g from (Contains-append_right (t.from ∷ []) (texts_in (texts_among us)) from k)))
      by (kinds.Name n) g rest = (tt, rest g)
      by (kinds.Word w) g rest = (tt, rest g)
      by (kinds.Number x y v) g rest = (tt, rest g)
      by (kinds.Char v) g rest = (tt, rest g)
      by (kinds.Sign z) g rest = (tt, rest g)

-- the strings of a source are those among its tokens
pub source_has : (ts : List Token) (ds : Decls) → Spells ts ds → HasDecls (texts_in (texts_among ts)) ds
source_has ts ds spells = (tops_have (texts_in (texts_among ts)) spells (all_have (texts_in (texts_among ts)) ts (λ from k. k))).0
