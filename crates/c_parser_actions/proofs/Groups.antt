-- Square brackets that match, by which a declarator in brackets is told from parameters.
use Rattle.std.proofs.Common.{◌≡◌, ℕ, suc, Bool, true, false, List, [], ◌∷◌, Some, refl, ◌∙◌, ◌⊎◌, inl, inr}
use Rattle.c_lexer.specs.declared.token.Sign.{Sign}
use Rattle.c_lexer.specs.declared.token.Sign.TheVariants as signs
use Rattle.c_lexer.specs.declared.token.Word.{Word}
use Rattle.c_lexer.specs.declared.token.Word.TheVariants as words
use Rattle.c_lexer.specs.declared.token.Kind.{Kind}
use Rattle.c_lexer.specs.declared.token.Kind.TheVariants as kinds
use Rattle.c_lexer.specs.declared.token.Token.{Token}
use Rattle.c_syntax.specs.declared.declaration.Base.{Base}
use Rattle.c_syntax.specs.declared.specifier.Specifiers.{Specifiers}
use Rattle.c_syntax.specs.Syntax.{Expr, Exprs, Decl, Decls, Parts, Annots, Annot, Items, Item, Atom, NoParts}
use Rattle.c_syntax.specs.Levels.{level_of, is_assignment, is_prefix, is_postfix, is_type_kind, begins_type}
use Rattle.c_syntax.specs.Grammar as g
use Rattle.c_syntax.specs.Grammar.{IsPostfix, IsUnary, IsExpr, IsArgs, IsTypeName, IsWords, IsSpecs, IsConsts, IsDeclr, IsDirect, IsParams, IsParamList, IsParam, IsAnnotation, IsAnnots, IsAnnot, IsItems, IsItem, IsAtom, IsSomething, Label, Named, Nameless}
use Rattle.c_parser_moves.specs.declared.mark.Punctuator.{Punctuator}
use Rattle.c_parser_moves.specs.declared.mark.Punctuator.TheVariants as marks
use Rattle.c_parser_moves.specs.Marks.{mark_of, sign_mark}
use Rattle.c_parser_moves.specs.declared.frame.Naming.{Naming}
use Rattle.c_parser_moves.specs.declared.frame.Naming.TheVariants as namings
use Rattle.c_parser_moves.specs.Words.{at_mark, scan, lists}
use Rattle.c_parser_moves.proofs.MachineDeclr.{groups, kind_groups, named_group}
use Rattle.c_parser_actions.proofs.MovesDeclr.{unnamed_ok}
use Rattle.c_parser_actions.proofs.Types.{type_begins}

abbrev plain : Punctuator → Bool
plain marks.OpenBracket = false
plain marks.CloseBracket = false
plain _ = true

-- a declarator with a name begins with it, a bracket or a star
abbrev NamedStart : List Token → Type 0
NamedStart [] = ⊥
NamedStart (t ∷ ts) = (((m : List ℕ) × (t.kind ≡ kinds.Name m)) ⊎ (t.kind ≡ kinds.Sign signs.OpenParenthesis)) ⊎ (t.kind ≡ kinds.Sign signs.Star)

passes : (n : ℕ) (t : Token) (ts : List Token) (c : Punctuator) → mark_of t.kind ≡ c → plain c ≡ true → scan n (t ∷ ts) ≡ scan n ts
passes n t ts c h p = rw h (plain_scan c n ts p)
  where
    plain_scan : (c : Punctuator) (n : ℕ) (ts : List Token) → plain c ≡ true → at_mark c n ts (λ m. scan m ts) ≡ scan n ts
    plain_scan marks.OpenBracket n ts h = cc
    plain_scan marks.CloseBracket n ts h = cc
    plain_scan _ n ts h = refl

opens : (n : ℕ) (t : Token) (ts : List Token) → t.kind ≡ kinds.Sign signs.OpenBracket → scan n (t ∷ ts) ≡ scan (suc n) ts
opens n t ts h = rw h refl

closes : (n : ℕ) (t : Token) (ts : List Token) → t.kind ≡ kinds.Sign signs.CloseBracket → scan (suc n) (t ∷ ts) ≡ scan n ts
closes n t ts h = rw h refl

-- a token that is no square bracket
sign_passes : (n : ℕ) (t : Token) (ts : List Token) (x : Sign) → t.kind ≡ kinds.Sign x → plain (sign_mark x) ≡ true → scan n (t ∷ ts) ≡ scan n ts
sign_passes n t ts x h p = passes n t ts (sign_mark x) (rw h refl) p

word_passes : (n : ℕ) (t : Token) (ts : List Token) (w : Word) → t.kind ≡ kinds.Word w → scan n (t ∷ ts) ≡ scan n ts
word_passes n t ts w h = rw h refl

level_plain : (x : Sign) (l : ℕ) → level_of x ≡ Some l → plain (sign_mark x) ≡ true
level_plain signs.OpenBracket l h = absurd cc
level_plain signs.CloseBracket l h = absurd cc
level_plain _ l h = refl

assign_plain : (x : Sign) → is_assignment x ≡ true → plain (sign_mark x) ≡ true
assign_plain signs.OpenBracket h = cc
assign_plain signs.CloseBracket h = cc
assign_plain _ h = refl

prefix_plain : (x : Sign) → is_prefix x ≡ true → plain (sign_mark x) ≡ true
prefix_plain signs.OpenBracket h = cc
prefix_plain signs.CloseBracket h = cc
prefix_plain _ h = refl

postfix_plain : (x : Sign) → is_postfix x ≡ true → plain (sign_mark x) ≡ true
postfix_plain signs.OpenBracket h = cc
postfix_plain signs.CloseBracket h = cc
postfix_plain _ h = refl

words_balanced : {top : Bool} {ts rest : List Token} {r s : Specifiers} → IsWords top ts r s rest → (n : ℕ) → scan n ts ≡ scan n rest
words_balanced g.no_word n = refl
words_balanced (g.word {t = t} {ts = ts} {w = w} e h k d) n = word_passes n t ts w e ∙ words_balanced d n
words_balanced (g.tag {t = t} {u = u} {ts = ts} e f h d) n = word_passes n t (u ∷ ts) words.Struct e ∙ name_passes n u ts f ∙ words_balanced d n
  where
    name_passes : (n : ℕ) (u : Token) (ts : List Token) {m : List ℕ} → u.kind ≡ kinds.Name m → scan n (u ∷ ts) ≡ scan n ts
    name_passes n u ts f = rw f refl

specs_balanced : {top : Bool} {ts rest : List Token} {b : Base} → IsSpecs top ts b rest → (n : ℕ) → scan n ts ≡ scan n rest
specs_balanced (g.specs d h) n = words_balanced d n

consts_balanced : {ts rest : List Token} → IsConsts ts rest → (n : ℕ) → scan n ts ≡ scan n rest
consts_balanced g.no_const n = refl
consts_balanced (g.const {t = t} {ts = ts} e d) n = word_passes n t ts words.Const e ∙ consts_balanced d n

mutual
  postfix_balanced : {ts rest : List Token} {e : Expr} → IsPostfix ts e rest → (n : ℕ) → scan n ts ≡ scan n rest
  postfix_balanced (g.name e) n = rw e refl
  postfix_balanced (g.number e) n = rw e refl
  postfix_balanced (g.char e) n = rw e refl
  postfix_balanced (g.text e) n = rw e refl
  postfix_balanced (g.group {t = t} {u = u} {ts = ts} {rest = rest} h d k) n = sign_passes n t ts _ h refl ∙ expr_balanced d n ∙ sign_passes n u rest _ k refl
  postfix_balanced (g.index {t = t} {u = u} {us = us} {rest = rest} d h c k) n = postfix_balanced d n ∙ opens n t us h ∙ expr_balanced c (suc n) ∙ closes n u rest k
  postfix_balanced (g.call_none {t = t} {u = u} {rest = rest} d h k) n = postfix_balanced d n ∙ sign_passes n t (u ∷ rest) _ h refl ∙ sign_passes n u rest _ k refl
  postfix_balanced (g.call {t = t} {u = u} {us = us} {rest = rest} d h c k) n = postfix_balanced d n ∙ sign_passes n t us _ h refl ∙ args_balanced c n ∙ sign_passes n u rest _ k refl
  postfix_balanced (g.member {t = t} {u = u} {rest = rest} d h k) n = postfix_balanced d n ∙ sign_passes n t (u ∷ rest) _ h refl ∙ (rw k refl)
  postfix_balanced (g.arrow {t = t} {u = u} {rest = rest} d h k) n = postfix_balanced d n ∙ sign_passes n t (u ∷ rest) _ h refl ∙ (rw k refl)
  postfix_balanced (g.step {t = t} {rest = rest} {s = s} d h k) n = postfix_balanced d n ∙ sign_passes n t rest s h (postfix_plain s k)

  unary_balanced : {ts rest : List Token} {e : Expr} → IsUnary ts e rest → (n : ℕ) → scan n ts ≡ scan n rest
  unary_balanced (g.postfix d) n = postfix_balanced d n
  unary_balanced (g.prefix {t = t} {ts = ts} {s = s} h k d) n = sign_passes n t ts s h (prefix_plain s k) ∙ unary_balanced d n
  unary_balanced (g.sizeof {t = t} {ts = ts} h k d) n = word_passes n t ts _ h ∙ unary_balanced d n
  unary_balanced (g.sizeof_type {t = t} {u = u} {v = v} {ts = ts} {rest = rest} h k d q) n = word_passes n t (u ∷ ts) _ h ∙ sign_passes n u ts _ k refl ∙ type_balanced d n ∙ sign_passes n v rest _ q refl
  unary_balanced (g.cast {t = t} {u = u} {ts = ts} {us = us} h d q c) n = sign_passes n t ts _ h refl ∙ type_balanced d n ∙ sign_passes n u us _ q refl ∙ unary_balanced c n

  pub expr_balanced : {l : ℕ} {ts rest : List Token} {e : Expr} → IsExpr l ts e rest → (n : ℕ) → scan n ts ≡ scan n rest
  expr_balanced (g.unary d) n = unary_balanced d n
  expr_balanced (g.tighter d) n = expr_balanced d n
  expr_balanced (g.binary {l = l} {t = t} {us = us} {s = s} d h k c) n = expr_balanced d n ∙ sign_passes n t us s h (level_plain s l k) ∙ expr_balanced c n
  expr_balanced (g.assign {t = t} {us = us} {s = s} d h k c) n = unary_balanced d n ∙ sign_passes n t us s h (assign_plain s k) ∙ expr_balanced c n
  expr_balanced (g.cond {t = t} {u = u} {us = us} {vs = vs} d h c k b) n = expr_balanced d n ∙ sign_passes n t us _ h refl ∙ expr_balanced c n ∙ sign_passes n u vs _ k refl ∙ expr_balanced b n

  args_balanced : {ts rest : List Token} {xs : Exprs} → IsArgs ts xs rest → (n : ℕ) → scan n ts ≡ scan n rest
  args_balanced (g.first_arg d) n = expr_balanced d n
  args_balanced (g.more_args {t = t} {us = us} d h c) n = args_balanced d n ∙ sign_passes n t us _ h refl ∙ expr_balanced c n

  type_balanced : {ts rest : List Token} {d : Decl} → IsTypeName ts d rest → (n : ℕ) → scan n ts ≡ scan n rest
  type_balanced (g.type_name s d) n = specs_balanced s n ∙ declr_balanced d n

  declr_balanced : {ts rest : List Token} {ps : Parts} {l : Label} → IsDeclr ts ps l rest → (n : ℕ) → scan n ts ≡ scan n rest
  declr_balanced (g.direct d) n = direct_balanced d n
  declr_balanced (g.pointer {t = t} {ts = ts} h c d) n = sign_passes n t ts _ h refl ∙ consts_balanced c n ∙ declr_balanced d n

  direct_balanced : {ts rest : List Token} {ps : Parts} {l : Label} → IsDirect ts ps l rest → (n : ℕ) → scan n ts ≡ scan n rest
  direct_balanced (g.named e) n = rw e refl
  direct_balanced g.nameless n = refl
  direct_balanced (g.grouped {t = t} {u = u} {ts = ts} {rest = rest} h d s k) n = sign_passes n t ts _ h refl ∙ declr_balanced d n ∙ sign_passes n u rest _ k refl
  direct_balanced (g.array {t = t} {u = u} {us = us} {rest = rest} d h c k) n = direct_balanced d n ∙ opens n t us h ∙ expr_balanced c (suc n) ∙ closes n u rest k
  direct_balanced (g.function {t = t} {u = u} {us = us} {rest = rest} d h c k) n = direct_balanced d n ∙ sign_passes n t us _ h refl ∙ params_balanced c n ∙ sign_passes n u rest _ k refl

  params_balanced : {ts rest : List Token} {ds : Decls} → IsParams ts ds rest → (n : ℕ) → scan n ts ≡ scan n rest
  params_balanced (g.no_params {t = t} {rest = rest} e l) n = word_passes n t rest _ e
  params_balanced (g.params l d) n = list_balanced d n

  list_balanced : {ts rest : List Token} {ds : Decls} → IsParamList ts ds rest → (n : ℕ) → scan n ts ≡ scan n rest
  list_balanced (g.first_param d) n = param_balanced d n
  list_balanced (g.more_params {t = t} {us = us} d h c) n = list_balanced d n ∙ sign_passes n t us _ h refl ∙ param_balanced c n

  param_balanced : {ts rest : List Token} {d : Decl} → IsParam ts d rest → (n : ℕ) → scan n ts ≡ scan n rest
  param_balanced (g.param a s d) n = annotation_balanced a n ∙ specs_balanced s n ∙ declr_balanced d n

  annotation_balanced : {ts rest : List Token} {an : Annots} → IsAnnotation ts an rest → (n : ℕ) → scan n ts ≡ scan n rest
  annotation_balanced g.no_annotation n = refl
  annotation_balanced (g.annotation {t = t} {u = u} {ts = ts} {rest = rest} h d k) n = opens n t ts h ∙ annots_balanced d (suc n) ∙ closes n u rest k

  annots_balanced : {ts rest : List Token} {an : Annots} → IsAnnots ts an rest → (n : ℕ) → scan n ts ≡ scan n rest
  annots_balanced (g.first_annot d) n = annot_balanced d n
  annots_balanced (g.more_annots {t = t} {us = us} d h c) n = annots_balanced d n ∙ sign_passes n t us _ h refl ∙ annot_balanced c n

  annot_balanced : {ts rest : List Token} {x : Annot} → IsAnnot ts x rest → (n : ℕ) → scan n ts ≡ scan n rest
  annot_balanced (g.word_annot e) n = rw e refl
  annot_balanced (g.call_annot {t = t} {u = u} {v = v} {ts = ts} {rest = rest} e o d k) n = (rw e refl) ∙ sign_passes n u ts _ o refl ∙ items_balanced d n ∙ sign_passes n v rest _ k refl

  items_balanced : {ts rest : List Token} {xs : Items} → IsItems ts xs rest → (n : ℕ) → scan n ts ≡ scan n rest
  items_balanced (g.first_item d) n = item_balanced d n
  items_balanced (g.more_items {t = t} {us = us} d h c) n = items_balanced d n ∙ sign_passes n t us _ h refl ∙ item_balanced c n

  item_balanced : {ts rest : List Token} {x : Item} → IsItem ts x rest → (n : ℕ) → scan n ts ≡ scan n rest
  item_balanced (g.factor d) n = atom_balanced d n
  item_balanced (g.product {t = t} {us = us} d h c) n = atom_balanced d n ∙ sign_passes n t us _ h refl ∙ atom_balanced c n

  atom_balanced : {ts rest : List Token} {a : Atom} → IsAtom ts a rest → (n : ℕ) → scan n ts ≡ scan n rest
  atom_balanced (g.name_atom e) n = rw e refl
  atom_balanced (g.number_atom e) n = rw e refl
  atom_balanced (g.return_atom {t = t} {ts = ts} e) n = word_passes n t ts _ e
  atom_balanced (g.sizeof_atom {t = t} {u = u} {v = v} {ts = ts} {rest = rest} e o d k) n = word_passes n t (u ∷ ts) _ e ∙ sign_passes n u ts _ o refl ∙ type_balanced d n ∙ sign_passes n v rest _ k refl

-- parameters begin with the word of a type, or with annotations that one follows
abbrev ParamStart : List Token → Type 0
ParamStart [] = ⊥
ParamStart (t ∷ ts) = (is_type_kind t.kind ≡ true) ⊎ ((t.kind ≡ kinds.Sign signs.OpenBracket) × (begins_type (scan 0 ts) ≡ true))

typed_start : (ts : List Token) → begins_type ts ≡ true → ParamStart ts
typed_start [] h = absurd (let x : false ≡ true = h in cc)
typed_start (t ∷ ts) h = inl h

param_starts : {ts rest : List Token} {d : Decl} → IsParam ts d rest → ParamStart ts
param_starts {ts = ts} (g.param g.no_annotation s d) = typed_start ts (type_begins s)
param_starts (g.param (g.annotation {t = t} {u = u} {ts = ts} {rest = rest} h a k) s d) =
    let e : scan 0 ts ≡ rest = annots_balanced a 0 ∙ (rw k refl) in
    inr (h, rw e (type_begins s))

list_starts : {ts rest : List Token} {ds : Decls} → IsParamList ts ds rest → ParamStart ts
list_starts (g.first_param d) = param_starts d
list_starts (g.more_params d h c) = list_starts d

params_start : {ts rest : List Token} {ds : Decls} → IsParams ts ds rest → ParamStart ts
params_start (g.no_params e l) = inl (rw e refl)
params_start (g.params l d) = list_starts d

kind_no_group : (k : Kind) (n : Naming) (ts : List Token) → is_type_kind k ≡ true → kind_groups k n ts ≡ false
unfolding lists
kind_no_group (kinds.Word w) n ts h = refl
kind_no_group (kinds.Sign s) n ts h = cc
kind_no_group (kinds.Name m) n ts h = cc
kind_no_group _ n ts h = refl

start_no_group : (n : Naming) (ts : List Token) → ParamStart ts → unnamed_ok n ≡ true → groups n ts ≡ false
unfolding groups lists
start_no_group n [] h a = absurd h
start_no_group namings.Always (t ∷ ts) h a = cc
start_no_group namings.Never (t ∷ ts) (inl h) a = kind_no_group t.kind namings.Never ts h
start_no_group namings.Either (t ∷ ts) (inl h) a = kind_no_group t.kind namings.Either ts h
start_no_group namings.Never (t ∷ ts) (inr (h, k)) a = rw (h, k) refl
start_no_group namings.Either (t ∷ ts) (inr (h, k)) a = rw (h, k) refl

pub params_no_group : (n : Naming) {ts rest : List Token} {ds : Decls} → IsParams ts ds rest → unnamed_ok n ≡ true → groups n ts ≡ false
params_no_group n {ts = ts} d a = start_no_group n ts (params_start d) a

-- a declarator that is more than nothing begins like one in brackets
abbrev GroupStart : Label → List Token → Type 0
GroupStart l [] = ⊥
GroupStart (Named f m) (t ∷ ts) = Unit {0}
GroupStart Nameless (t ∷ ts) = ((t.kind ≡ kinds.Sign signs.Star) ⊎ (t.kind ≡ kinds.Sign signs.OpenParenthesis)) ⊎ ((t.kind ≡ kinds.Sign signs.OpenBracket) × (begins_type (scan 0 ts) ≡ false))

sign_no_type : (t : Token) (ts : List Token) (x : Sign) → t.kind ≡ kinds.Sign x → begins_type (t ∷ ts) ≡ false
sign_no_type t ts x h = rw h refl

-- the first part of a nameless declarator
direct_start : {ts rest : List Token} {ps : Parts} → IsDirect ts ps Nameless rest → begins_type rest ≡ false → (GroupStart Nameless ts) ⊎ ((ts ≡ rest) × (ps ≡ NoParts))
direct_start g.nameless h = inr (refl, refl)
direct_start (g.grouped e d s k) h = inl (inl (inr e))
direct_start (g.array {t = t} {u = u} {us = us} {rest = rest} d e c k) h = by (direct_start d (sign_no_type t us _ e))
  where
    by : {ts : List Token} {ps qs : Parts} → (GroupStart Nameless ts) ⊎ ((ts ≡ t ∷ us) × (ps ≡ NoParts)) → (GroupStart Nameless ts) ⊎ ((ts ≡ rest) × (qs ≡ NoParts))
    by (inl q) = inl q
    by (inr (q, r)) = inl (rw q (inr (e, (let w : scan 0 us ≡ rest = expr_balanced c 0 ∙ (rw k refl) in rw w h))))
direct_start (g.function {t = t} {us = us} d e c k) h = by (direct_start d (sign_no_type t us _ e))
  where
    by : {ts : List Token} {rest : List Token} {ps : Parts} {qs : Parts} → (GroupStart Nameless ts) ⊎ ((ts ≡ t ∷ us) × (ps ≡ NoParts)) → (GroupStart Nameless ts) ⊎ ((ts ≡ rest) × (qs ≡ NoParts))
    by (inl q) = inl q
    by (inr (q, r)) = inl (rw q (inl (inr e)))

named_direct : {ts rest : List Token} {ps : Parts} {f : ℕ} {m : List ℕ} → IsDirect ts ps (Named f m) rest → NamedStart ts
named_direct (g.named e) = inl (inl (_, e))
named_direct (g.grouped e d s k) = inl (inr e)
named_direct (g.array d e c k) = named_direct d
named_direct (g.function d e c k) = named_direct d

start_groups : (n : Naming) (ts : List Token) → GroupStart Nameless ts → groups n ts ≡ true
unfolding groups lists
start_groups n [] h = absurd h
start_groups namings.Always (t ∷ ts) h = refl
start_groups namings.Never (t ∷ ts) (inl (inl h)) = rw h refl
start_groups namings.Never (t ∷ ts) (inl (inr h)) = rw h refl
start_groups namings.Never (t ∷ ts) (inr (h, k)) = rw (h, k) refl
start_groups namings.Either (t ∷ ts) (inl (inl h)) = rw h refl
start_groups namings.Either (t ∷ ts) (inl (inr h)) = rw h refl
start_groups namings.Either (t ∷ ts) (inr (h, k)) = rw (h, k) refl

named_groups : (n : Naming) (ts : List Token) → NamedStart ts → named_group n ≡ true → groups n ts ≡ true
unfolding groups lists
named_groups n [] h a = absurd h
named_groups namings.Always (t ∷ ts) h a = refl
named_groups namings.Never (t ∷ ts) h a = cc
named_groups namings.Either (t ∷ ts) (inl (inl (m, h))) a = rw h refl
named_groups namings.Either (t ∷ ts) (inl (inr h)) a = rw h refl
named_groups namings.Either (t ∷ ts) (inr h) a = rw h refl

abbrev pub Allowed : Naming → Label → Type 0
Allowed n (Named f m) = named_group n ≡ true
Allowed n Nameless = unnamed_ok n ≡ true

pub something_groups : (n : Naming) {u : Token} {ts rest : List Token} {ps : Parts} {l : Label} → IsDeclr ts ps l (u ∷ rest) → u.kind ≡ kinds.Sign signs.CloseParenthesis → IsSomething ps l → Allowed n l → groups n ts ≡ true
something_groups n {ts = ts} {l = Named f m} (g.direct d) h s a = named_groups n ts (named_direct d) a
something_groups n {ts = ts} {l = Named f m} (g.pointer e c d) h s a = named_groups n ts (inr e) a
something_groups n {ts = ts} {l = Nameless} (g.pointer e c d) h s a = start_groups n ts (inl (inl e))
something_groups n {u = u} {ts = ts} {rest = rest} {ps = ps} {l = Nameless} (g.direct d) h s a = by (direct_start d (sign_no_type u rest _ h))
  where
    by : (GroupStart Nameless ts) ⊎ ((ts ≡ u ∷ rest) × (ps ≡ NoParts)) → groups n ts ≡ true
    by (inl q) = start_groups n ts q
    by (inr (q, r)) = absurd (rw r at s)
