-- The numbers of a source are those of its tokens.
use Rattle.std.proofs.Common.{◌≡◌, ℕ, Bool, List, subst}
use Rattle.c_lexer.specs.declared.token.Kind.{Kind}
use Rattle.c_lexer.specs.declared.token.Kind.TheVariants as kinds
use Rattle.c_lexer.specs.declared.token.Token.{Token}
use Rattle.c_syntax.specs.declared.declaration.Base.{Base}
use Rattle.c_syntax.specs.declared.specifier.Specifiers.{Specifiers}
use Rattle.c_syntax.specs.Syntax.{Expr, Exprs, MaybeExpr, Decl, Decls, Annots, Annot, Items, Item, Atom, Parts, Value, Values, Rest, Stmt, Entries, Entry, First, NoExprs, MoreExprs, NoDecls, MoreDecls, NoAnnots, MoreAnnots, NoItems, MoreItems, NoValues, MoreValues, NoEntries, MoreEntries, exprs_then, decls_then, annots_then, items_then, values_then, entries_then}
use Rattle.c_syntax.specs.Grammar.{Label, IsWords, no_word, word, tag, IsSpecs, specs, IsConsts, no_const, const, IsPostfix, IsUnary, IsExpr, IsArgs, IsTypeName, IsDeclr, IsDirect, IsParams, IsParamList, IsParam, IsAnnotation, IsAnnots, IsAnnot, IsItems, IsItem, IsAtom}
use Rattle.c_syntax.specs.Grammar as g
use Rattle.c_syntax.specs.Sources.{IsValue, IsValues, IsInit, IsNames, IsLocal, IsMaybe, IsFirst, IsStmt, IsEntries, IsMembers, IsTops}
use Rattle.c_syntax.specs.Sources as s
use Rattle.c_syntax_laws.specs.Numbers.{IsNumber, FitsExpr, FitsExprs, FitsMaybe, FitsDecl, FitsDecls, FitsAnnots, FitsAnnot, FitsItems, FitsItem, FitsAtom, FitsParts, FitsValue, FitsValues, FitsRest, FitsStmt, FitsEntries, FitsEntry, FitsFirst, FitsKind, FitsTokens}

-- ---- one more at the end of a list

exprs_more : (xs : Exprs) (x : Expr) → FitsExprs xs → FitsExpr x → FitsExprs (exprs_then xs x)
exprs_more NoExprs x p q = (q, tt)
exprs_more (MoreExprs y ys) x p q = (p.0, exprs_more ys x p.1 q)

decls_more : (xs : Decls) (x : Decl) → FitsDecls xs → FitsDecl x → FitsDecls (decls_then xs x)
decls_more NoDecls x p q = (q, tt)
decls_more (MoreDecls y ys) x p q = (p.0, decls_more ys x p.1 q)

annots_more : (xs : Annots) (x : Annot) → FitsAnnots xs → FitsAnnot x → FitsAnnots (annots_then xs x)
annots_more NoAnnots x p q = (q, tt)
annots_more (MoreAnnots y ys) x p q = (p.0, annots_more ys x p.1 q)

items_more : (xs : Items) (x : Item) → FitsItems xs → FitsItem x → FitsItems (items_then xs x)
items_more NoItems x p q = (q, tt)
items_more (MoreItems y ys) x p q = (p.0, items_more ys x p.1 q)

values_more : (xs : Values) (x : Value) → FitsValues xs → FitsValue x → FitsValues (values_then xs x)
values_more NoValues x p q = (q, tt)
values_more (MoreValues y ys) x p q = (p.0, values_more ys x p.1 q)

entries_more : (xs : Entries) (x : Entry) → FitsEntries xs → FitsEntry x → FitsEntries (entries_then xs x)
entries_more NoEntries x p q = (q, tt)
entries_more (MoreEntries y ys) x p q = (p.0, entries_more ys x p.1 q)

a_number : (k : Kind) (v : ℕ) (s : _) (d : Bool) → k ≡ kinds.Number s d v → FitsKind k → IsNumber v s d
a_number k v s d e h = subst FitsKind e h

-- ---- words before a declarator

words_fit : {top : Bool} {ts rest : List Token} {r z : Specifiers} → IsWords top ts r z rest → FitsTokens ts → FitsTokens rest
words_fit no_word h = h
words_fit (word _ _ _ r) h = words_fit r h.1
words_fit (tag _ _ _ r) h = words_fit r h.1.1

specs_fit : {top : Bool} {ts rest : List Token} {b : Base} → IsSpecs top ts b rest → FitsTokens ts → FitsTokens rest
specs_fit (specs r _) h = words_fit r h

consts_fit : {ts rest : List Token} → IsConsts ts rest → FitsTokens ts → FitsTokens rest
consts_fit no_const h = h
consts_fit (const _ r) h = consts_fit r h.1

-- ---- expressions, declarators and annotations

mutual
  postfix_fits : {ts rest : List Token} {e : Expr} → IsPostfix ts e rest → FitsTokens ts → FitsExpr e × FitsTokens rest
  postfix_fits (g.name _) h = (tt, h.1)
  postfix_fits (g.number k) h = (a_number _ _ _ _ k h.0, h.1)
  postfix_fits (g.char _) h = (tt, h.1)
  postfix_fits (g.text _) h = (tt, h.1)
  postfix_fits (g.group _ p _) h = let q = expr_fits p h.1 in (q.0, q.1.1)
  postfix_fits (g.index p _ i _) h = let q = postfix_fits p h in let r = expr_fits i q.1.1 in ((q.0, r.0), r.1.1)
  postfix_fits (g.call_none p _ _) h = let q = postfix_fits p h in ((q.0, tt), q.1.1.1)
  postfix_fits (g.call p _ a _) h = let q = postfix_fits p h in let r = args_fit a q.1.1 in ((q.0, r.0), r.1.1)
  postfix_fits (g.member p _ _) h = let q = postfix_fits p h in (q.0, q.1.1.1)
  postfix_fits (g.arrow p _ _) h = let q = postfix_fits p h in (q.0, q.1.1.1)
  postfix_fits (g.step p _ _) h = let q = postfix_fits p h in (q.0, q.1.1)

  unary_fits : {ts rest : List Token} {e : Expr} → IsUnary ts e rest → FitsTokens ts → FitsExpr e × FitsTokens rest
  unary_fits (g.postfix p) h = postfix_fits p h
  unary_fits (g.prefix _ _ p) h = unary_fits p h.1
  unary_fits (g.sizeof _ _ p) h = unary_fits p h.1
  unary_fits (g.sizeof_type _ _ p _) h = let q = type_name_fits p h.1.1 in (q.0, q.1.1)
  unary_fits (g.cast _ p _ u) h = let q = type_name_fits p h.1 in let r = unary_fits u q.1.1 in ((q.0, r.0), r.1)

  expr_fits : {l : ℕ} {ts rest : List Token} {e : Expr} → IsExpr l ts e rest → FitsTokens ts → FitsExpr e × FitsTokens rest
  expr_fits (g.unary p) h = unary_fits p h
  expr_fits (g.tighter p) h = expr_fits p h
  expr_fits (g.binary a _ _ b) h = let q = expr_fits a h in let r = expr_fits b q.1.1 in ((q.0, r.0), r.1)
  expr_fits (g.assign a _ _ b) h = let q = unary_fits a h in let r = expr_fits b q.1.1 in ((q.0, r.0), r.1)
  expr_fits (g.cond a _ b _ c) h = let q = expr_fits a h in let r = expr_fits b q.1.1 in let t = expr_fits c r.1.1 in ((q.0, r.0, t.0), t.1)

  args_fit : {ts rest : List Token} {xs : Exprs} → IsArgs ts xs rest → FitsTokens ts → FitsExprs xs × FitsTokens rest
  args_fit (g.first_arg p) h = let q = expr_fits p h in ((q.0, tt), q.1)
  args_fit (g.more_args p _ e) h = let q = args_fit p h in let r = expr_fits e q.1.1 in (exprs_more _ _ q.0 r.0, r.1)

  type_name_fits : {ts rest : List Token} {d : Decl} → IsTypeName ts d rest → FitsTokens ts → FitsDecl d × FitsTokens rest
  type_name_fits (g.type_name w p) h = let q = declr_fits p (specs_fit w h) in ((tt, q.0, tt), q.1)

  declr_fits : {ts rest : List Token} {ps : Parts} {l : Label} → IsDeclr ts ps l rest → FitsTokens ts → FitsParts ps × FitsTokens rest
  declr_fits (g.direct p) h = direct_fits p h
  declr_fits (g.pointer _ w p) h = declr_fits p (consts_fit w h.1)

  direct_fits : {ts rest : List Token} {ps : Parts} {l : Label} → IsDirect ts ps l rest → FitsTokens ts → FitsParts ps × FitsTokens rest
  direct_fits (g.named _) h = (tt, h.1)
  direct_fits g.nameless h = (tt, h)
  direct_fits (g.grouped _ p _ _) h = let q = declr_fits p h.1 in (q.0, q.1.1)
  direct_fits (g.array p _ e _) h = let q = direct_fits p h in let r = expr_fits e q.1.1 in ((r.0, q.0), r.1.1)
  direct_fits (g.function p _ a _) h = let q = direct_fits p h in let r = params_fit a q.1.1 in ((r.0, q.0), r.1.1)

  params_fit : {ts rest : List Token} {ds : Decls} → IsParams ts ds rest → FitsTokens ts → FitsDecls ds × FitsTokens rest
  params_fit (g.no_params _ _) h = (tt, h.1)
  params_fit (g.params _ p) h = param_list_fits p h

  param_list_fits : {ts rest : List Token} {ds : Decls} → IsParamList ts ds rest → FitsTokens ts → FitsDecls ds × FitsTokens rest
  param_list_fits (g.first_param p) h = let q = param_fits p h in ((q.0, tt), q.1)
  param_list_fits (g.more_params p _ d) h = let q = param_list_fits p h in let r = param_fits d q.1.1 in (decls_more _ _ q.0 r.0, r.1)

  param_fits : {ts rest : List Token} {d : Decl} → IsParam ts d rest → FitsTokens ts → FitsDecl d × FitsTokens rest
  param_fits (g.param a w p) h = let q = annotation_fits a h in let r = declr_fits p (specs_fit w q.1) in ((q.0, r.0, tt), r.1)

  annotation_fits : {ts rest : List Token} {an : Annots} → IsAnnotation ts an rest → FitsTokens ts → FitsAnnots an × FitsTokens rest
  annotation_fits g.no_annotation h = (tt, h)
  annotation_fits (g.annotation _ p _) h = let q = annots_fit p h.1 in (q.0, q.1.1)

  annots_fit : {ts rest : List Token} {an : Annots} → IsAnnots ts an rest → FitsTokens ts → FitsAnnots an × FitsTokens rest
  annots_fit (g.first_annot p) h = let q = annot_fits p h in ((q.0, tt), q.1)
  annots_fit (g.more_annots p _ x) h = let q = annots_fit p h in let r = annot_fits x q.1.1 in (annots_more _ _ q.0 r.0, r.1)

  annot_fits : {ts rest : List Token} {x : Annot} → IsAnnot ts x rest → FitsTokens ts → FitsAnnot x × FitsTokens rest
  annot_fits (g.word_annot _) h = (tt, h.1)
  annot_fits (g.call_annot _ _ p _) h = let q = items_fit p h.1.1 in (q.0, q.1.1)

  items_fit : {ts rest : List Token} {is : Items} → IsItems ts is rest → FitsTokens ts → FitsItems is × FitsTokens rest
  items_fit (g.first_item p) h = let q = item_fits p h in ((q.0, tt), q.1)
  items_fit (g.more_items p _ x) h = let q = items_fit p h in let r = item_fits x q.1.1 in (items_more _ _ q.0 r.0, r.1)

  item_fits : {ts rest : List Token} {x : Item} → IsItem ts x rest → FitsTokens ts → FitsItem x × FitsTokens rest
  item_fits (g.factor p) h = atom_fits p h
  item_fits (g.product p _ a) h = let q = atom_fits p h in let r = atom_fits a q.1.1 in ((q.0, r.0), r.1)

  atom_fits : {ts rest : List Token} {a : Atom} → IsAtom ts a rest → FitsTokens ts → FitsAtom a × FitsTokens rest
  atom_fits (g.name_atom _) h = (tt, h.1)
  atom_fits (g.number_atom _) h = (tt, h.1)
  atom_fits (g.return_atom _) h = (tt, h.1)
  atom_fits (g.sizeof_atom _ _ p _) h = let q = type_name_fits p h.1.1 in (q.0, q.1.1)

-- ---- values, statements and sources

mutual
  value_fits : {ts rest : List Token} {v : Value} → IsValue ts v rest → FitsTokens ts → FitsValue v × FitsTokens rest
  value_fits (s.plain p) h = expr_fits p h
  value_fits (s.braces _ p _) h = let q = values_fit p h.1 in (q.0, q.1.1)
  value_fits (s.braces_comma _ p _ _) h = let q = values_fit p h.1 in (q.0, q.1.1.1)

  values_fit : {ts rest : List Token} {vs : Values} → IsValues ts vs rest → FitsTokens ts → FitsValues vs × FitsTokens rest
  values_fit (s.first_value p) h = let q = value_fits p h in ((q.0, tt), q.1)
  values_fit (s.more_values p _ v) h = let q = values_fit p h in let r = value_fits v q.1.1 in (values_more _ _ q.0 r.0, r.1)

init_fits : {values : Bool} {ts rest : List Token} {r : Rest} → IsInit values ts r rest → FitsTokens ts → FitsRest r × FitsTokens rest
init_fits s.no_init h = (tt, h)
init_fits (s.init _ _ p) h = value_fits p h.1

names_fit : {values : Bool} {an : Annots} {b : Base} {before : Decls} {ts rest : List Token} {ds : Decls} → IsNames values an b before ts ds rest → FitsAnnots an → FitsDecls before → FitsTokens ts → FitsDecls ds × FitsTokens rest
names_fit (s.first_name p i) a before h = let q = declr_fits p h in let r = init_fits i q.1 in (decls_more _ _ before (a, q.0, r.0), r.1)
names_fit (s.more_names n _ p i) a before h = let m = names_fit n a before h in let q = declr_fits p m.1.1 in let r = init_fits i q.1 in (decls_more _ _ m.0 (a, q.0, r.0), r.1)

local_fits : {ts rest : List Token} {ds : Decls} → IsLocal ts ds rest → FitsTokens ts → FitsDecls ds × FitsTokens rest
local_fits (s.local w n _) h = let q = names_fit n tt tt (specs_fit w h) in (q.0, q.1.1)

maybe_fits : {ts rest : List Token} {x : MaybeExpr} → IsMaybe ts x rest → FitsTokens ts → FitsMaybe x × FitsTokens rest
maybe_fits s.nothing h = (tt, h)
maybe_fits (s.something p) h = expr_fits p h

first_fits : {ts rest : List Token} {a : First} → IsFirst ts a rest → FitsTokens ts → FitsFirst a × FitsTokens rest
first_fits (s.local_first p) h = local_fits p h
first_fits (s.expr_first p _) h = let q = expr_fits p h in (q.0, q.1.1)
first_fits (s.no_first _) h = (tt, h.1)

mutual
  stmt_fits : {ts rest : List Token} {x : Stmt} → IsStmt ts x rest → FitsTokens ts → FitsStmt x × FitsTokens rest
  stmt_fits (s.block _ p _) h = let q = entries_fit p h.1 in (q.0, q.1.1)
  stmt_fits (s.expression p _) h = let q = maybe_fits p h in (q.0, q.1.1)
  stmt_fits (s.if_only _ _ e _ p _) h = let q = expr_fits e h.1.1 in let r = stmt_fits p q.1.1 in ((q.0, r.0), r.1)
  stmt_fits (s.if_else _ _ e _ p _ z) h = let q = expr_fits e h.1.1 in let r = stmt_fits p q.1.1 in let t = stmt_fits z r.1.1 in ((q.0, r.0, t.0), t.1)
  stmt_fits (s.while _ _ e _ p) h = let q = expr_fits e h.1.1 in let r = stmt_fits p q.1.1 in ((q.0, r.0), r.1)
  stmt_fits (s.do_while _ p _ _ e _ _) h = let q = stmt_fits p h.1 in let r = expr_fits e q.1.1.1 in ((q.0, r.0), r.1.1.1)
  stmt_fits (s.for _ _ a x _ y _ p) h =
      let q = first_fits a h.1.1 in let r = maybe_fits x q.1 in let t = maybe_fits y r.1.1 in let u = stmt_fits p t.1.1 in ((q.0, r.0, t.0, u.0), u.1)
  stmt_fits (s.break _ _) h = (tt, h.1.1)
  stmt_fits (s.continue _ _) h = (tt, h.1.1)
  stmt_fits (s.return _ p _) h = let q = maybe_fits p h.1 in (q.0, q.1.1)

  entries_fit : {ts rest : List Token} {es : Entries} → IsEntries ts es rest → FitsTokens ts → FitsEntries es × FitsTokens rest
  entries_fit s.no_entry h = (tt, h)
  entries_fit (s.local_entry p l) h = let q = entries_fit p h in let r = local_fits l q.1 in (entries_more _ _ q.0 r.0, r.1)
  entries_fit (s.stmt_entry p z) h = let q = entries_fit p h in let r = stmt_fits z q.1 in (entries_more _ _ q.0 r.0, r.1)

members_fit : {ts rest : List Token} {ds : Decls} → IsMembers ts ds rest → FitsTokens ts → FitsDecls ds × FitsTokens rest
members_fit (s.first_members w n _) h = let q = names_fit n tt tt (specs_fit w h) in (q.0, q.1.1)
members_fit (s.more_members m w n _) h = let p = members_fit m h in let q = names_fit n tt p.0 (specs_fit w p.1) in (q.0, q.1.1)

pub tops_fit : {ts rest : List Token} {ds : Decls} → IsTops ts ds rest → FitsTokens ts → FitsDecls ds × FitsTokens rest
tops_fit s.no_top h = (tt, h)
tops_fit (s.struct t _ _ _ m _ _) h = let q = tops_fit t h in let r = members_fit m q.1.1.1.1 in (decls_more _ _ q.0 (tt, tt, r.0), r.1.1.1)
tops_fit (s.names t a w n _) h = let q = tops_fit t h in let r = annotation_fits a q.1 in let u = names_fit n r.0 q.0 (specs_fit w r.1) in (u.0, u.1.1)
tops_fit (s.definition t a w p _ b) h = let q = tops_fit t h in let r = annotation_fits a q.1 in let u = declr_fits p (specs_fit w r.1) in let v = stmt_fits b u.1 in (decls_more _ _ q.0 (r.0, u.0, v.0), v.1)
