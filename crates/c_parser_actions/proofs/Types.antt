-- The words of types, read by the machine and by the grammar.
use Rattle.std.proofs.Common.{◌≡◌, ℕ, Bool, true, false, List, [], ◌∷◌, Option, Some, None, refl, ap, sym, ◌∙◌}
use Rattle.c_lexer.specs.declared.token.Word.{Word}
use Rattle.c_lexer.specs.declared.token.Word.TheVariants as words
use Rattle.c_lexer.specs.declared.token.Kind.{Kind}
use Rattle.c_lexer.specs.declared.token.Kind.TheVariants as kinds
use Rattle.c_lexer.specs.declared.token.Token.{Token}
use Rattle.c_syntax.specs.declared.declaration.Base.{Base}
use Rattle.c_syntax.specs.declared.specifier.Specifiers.{Specifiers}
use Rattle.c_syntax.specs.declared.specifier.Core.{Core}
use Rattle.c_syntax.specs.declared.specifier.Core.TheVariants as cores
use Rattle.c_syntax.specs.Levels.{is_type_word, is_type_kind, begins_type}
use Rattle.c_syntax.specs.TypeWords.{with_word, with_core, with_tag, put_core, put_storage, no_words, base_of}
use Rattle.c_parser_moves.specs.Words.{More, put_word, word_step, storage_step, next_word, tag_step, take_words, based, with_rest, take_specs, is_const, unless_const, skip_consts}
use Rattle.c_syntax.specs.Grammar as g
use Rattle.c_syntax.specs.Grammar.{IsPostfix, IsUnary, IsExpr, IsArgs, IsTypeName, IsWords, IsSpecs, IsConsts, IsDeclr, IsDirect, Label, Named, Nameless}
use Rattle.c_parser_moves.specs.declared.mark.Punctuator.{Punctuator}
use Rattle.c_parser_moves.specs.declared.mark.Punctuator.TheVariants as marks
use Rattle.c_parser_moves.specs.Marks.{mark_of, mark_at}
use Rattle.c_parser_actions.proofs.Firsts.{core_is_type}

-- the tokens don't begin with a word
abbrev kind_wordless : Kind → Bool
kind_wordless (kinds.Word w) = false
kind_wordless _ = true

abbrev pub wordless : List Token → Bool
wordless [] = true
wordless (t ∷ ts) = kind_wordless t.kind

-- the words that go on a type's words

put_core_type : (c : Option Core) (r s : Specifiers) → put_core r c ≡ Some s → (d : Core) × (c ≡ Some d)
put_core_type None r s h = absurd cc
put_core_type (Some d) r s h = (d, refl)

core_type : (w : Word) (r s : Specifiers) → put_core r (with_core r.core w) ≡ Some s → is_type_word w ≡ true
core_type w r s h = let p = put_core_type (with_core r.core w) r s h in core_is_type r.core w p.0 p.1

storage_put : (b : Bool) (r s : Specifiers) → put_storage r b ≡ Some s → s.storage ≡ true
storage_put true r s h = cc
storage_put false r s h = let e : record r { storage = true } ≡ s = cc in sym (ap (λ (x : Specifiers). x.storage) e)

storage_word : (r s : Specifiers) (w : Word) → put_storage r r.storage ≡ Some s → (s.storage ≡ true → false ≡ true) → is_type_word w ≡ true
storage_word r s w h k = let e : false ≡ true = k (storage_put r.storage r s h) in cc

pub word_is_type : (w : Word) (r s : Specifiers) → with_word r w ≡ Some s → (s.storage ≡ true → false ≡ true) → is_type_word w ≡ true
word_is_type words.Const r s h k = refl
word_is_type words.Signed r s h k = refl
word_is_type words.Unsigned r s h k = refl
word_is_type words.Extern r s h k = storage_word r s words.Extern h k
word_is_type words.Static r s h k = storage_word r s words.Static h k
word_is_type words.Void r s h k = core_type words.Void r s h
word_is_type words.Char r s h k = core_type words.Char r s h
word_is_type words.Short r s h k = core_type words.Short r s h
word_is_type words.Int r s h k = core_type words.Int r s h
word_is_type words.Long r s h k = core_type words.Long r s h
word_is_type words.Struct r s h k = refl
word_is_type words.If r s h k = core_type words.If r s h
word_is_type words.Else r s h k = core_type words.Else r s h
word_is_type words.While r s h k = core_type words.While r s h
word_is_type words.For r s h k = core_type words.For r s h
word_is_type words.Do r s h k = core_type words.Do r s h
word_is_type words.Break r s h k = core_type words.Break r s h
word_is_type words.Continue r s h k = core_type words.Continue r s h
word_is_type words.Return r s h k = core_type words.Return r s h
word_is_type words.Sizeof r s h k = core_type words.Sizeof r s h
word_is_type words.Typedef r s h k = core_type words.Typedef r s h
word_is_type words.Enum r s h k = core_type words.Enum r s h
word_is_type words.Union r s h k = core_type words.Union r s h
word_is_type words.Switch r s h k = core_type words.Switch r s h
word_is_type words.Case r s h k = core_type words.Case r s h
word_is_type words.Default r s h k = core_type words.Default r s h
word_is_type words.Goto r s h k = core_type words.Goto r s h
word_is_type words.Float r s h k = core_type words.Float r s h
word_is_type words.Double r s h k = core_type words.Double r s h
word_is_type words.Volatile r s h k = core_type words.Volatile r s h
word_is_type words.Register r s h k = core_type words.Register r s h
word_is_type words.Inline r s h k = core_type words.Inline r s h
word_is_type words.Restrict r s h k = core_type words.Restrict r s h
word_is_type words.Auto r s h k = core_type words.Auto r s h

-- a type begins with a word of one
pub type_begins : {ts rest : List Token} {b : Base} → IsSpecs false ts b rest → begins_type ts ≡ true
type_begins (g.specs g.no_word h) = absurd cc
type_begins (g.specs (g.word {w = w} {r = r} {s = s} e h k d) b) = rw e (word_is_type w r s h k)
type_begins (g.specs (g.tag e f h d) b) = rw e refl

no_struct : (c : Core) → with_core c words.Struct ≡ None
no_struct cores.Absent = refl
no_struct _ = refl

-- struct wants its name
pub struct_refused : (r s : Specifiers) → with_word r words.Struct ≡ Some s → ⊥
struct_refused r s h = absurd (let e : with_core r.core words.Struct ≡ None = no_struct r.core in let n : put_core r None ≡ Some s = rw e at h in cc)

storage_goes : (top b : Bool) (s : Specifiers) → (b ≡ true → top ≡ true) → storage_step top b s ≡ More false s
storage_goes true true s k = refl
storage_goes true false s k = refl
storage_goes false true s k = let e : false ≡ true = k refl in cc
storage_goes false false s k = refl

put_word_goes : (w : Word) (top : Bool) (r s : Specifiers) → with_word r w ≡ Some s → (s.storage ≡ true → top ≡ true) → put_word (kinds.Word w) top false r ≡ More false s
put_word_goes words.Struct top r s h k = absurd (let e : with_core r.core words.Struct ≡ None = no_struct r.core in let n : put_core r None ≡ Some s = rw e at h in cc)
put_word_goes _ top r s h k = ap (λ o. word_step top o r) h ∙ storage_goes top s.storage s k

kind_ends : (k : Kind) (t : Token) (us : List Token) (top : Bool) (s : Specifiers) → kind_wordless k ≡ true → next_word (put_word k top false s) (t ∷ us) (λ q z. take_words top q z us) ≡ Some (s, t ∷ us)
kind_ends (kinds.Word w) t us top s h = cc
kind_ends _ t us top s h = refl

words_end : (us : List Token) (top : Bool) (s : Specifiers) → wordless us ≡ true → take_words top false s us ≡ Some (s, us)
words_end [] top s h = refl
words_end (t ∷ us) top s h = kind_ends t.kind t us top s h

-- the machine takes the words that the grammar has
pub words_taken : {top : Bool} {ts rest : List Token} {r s : Specifiers} → IsWords top ts r s rest → wordless rest ≡ true → take_words top false r ts ≡ Some (s, rest)
words_taken {top = top} {ts = ts} {s = s} g.no_word h = words_end ts top s h
words_taken {top = top} (g.word {w = w} {r = r} {s = s} e h k d) n = rw (e, put_word_goes w top r s h k) (words_taken d n)
words_taken (g.tag e f h d) n = rw (e, f, h) (words_taken d n)

pub specs_taken : {top : Bool} {ts rest : List Token} {b : Base} → IsSpecs top ts b rest → wordless rest ≡ true → take_specs top ts ≡ Some (b, rest)
unfolding take_specs
specs_taken (g.specs d h) n = rw (words_taken d n, h) refl

const_or_not : (k : Kind) → kind_wordless k ≡ true → is_const k ≡ false
const_or_not (kinds.Word w) h = cc
const_or_not _ h = refl

pub consts_taken : {ts rest : List Token} → IsConsts ts rest → wordless rest ≡ true → skip_consts ts ≡ rest
consts_taken {ts = []} g.no_const h = refl
consts_taken {ts = t ∷ ts} g.no_const h = rw (const_or_not t.kind h) refl
consts_taken (g.const e d) h = rw e (consts_taken d h)

const_kind : (k : Kind) → is_const k ≡ true → k ≡ kinds.Word words.Const
const_kind (kinds.Word words.Const) h = refl
const_kind _ h = cc

consts_by : (t : Token) (ts : List Token) (b : Bool) → is_const t.kind ≡ b → IsConsts ts (skip_consts ts) → IsConsts (t ∷ ts) (unless_const b (t ∷ ts) (skip_consts ts))
consts_by t ts true h d = g.const (const_kind t.kind h) d
consts_by t ts false h d = g.no_const

pub consts_read : (ts : List Token) → IsConsts ts (skip_consts ts)
consts_read [] = g.no_const
consts_read (t ∷ ts) = consts_by t ts (is_const t.kind) refl (consts_read ts)

abbrev pub is_other : Punctuator → Bool
is_other marks.Other = true
is_other _ = false

type_kind_mark : (k : Kind) → is_type_kind k ≡ true → mark_of k ≡ marks.Other
type_kind_mark (kinds.Word w) h = refl
type_kind_mark (kinds.Sign s) h = cc
type_kind_mark _ h = refl

-- a type begins with no sign
pub type_mark : (ts : List Token) (c : Punctuator) → begins_type ts ≡ true → is_other c ≡ false → mark_at ts ≡ c → ⊥
type_mark [] c h k e = absurd (let x : false ≡ true = h in cc)
type_mark (t ∷ ts) c h k e = absurd (let x : marks.Other ≡ c = sym (type_kind_mark t.kind h) ∙ e in let y : true ≡ false = ap is_other x ∙ k in cc)

-- the grammar has the words that the machine takes
abbrev AfterTag : Bool → List Token → Specifiers → Specifiers → List Token → Type 0
AfterTag top [] r s us = ⊥
AfterTag top (t ∷ ts) r s us = (n : List ℕ) × (z : Specifiers) × (t.kind ≡ kinds.Name n) × (with_tag r n ≡ Some z) × IsWords top ts z s us

ended : {top : Bool} (all us : List Token) (r s : Specifiers) → ◌≡◌ {A = Option (Specifiers × List Token)} (Some (r, all)) (Some (s, us)) → IsWords top all r s us
ended all us r s h =
    let e : ◌≡◌ {A = Specifiers × List Token} (r, all) (s, us) = cc in
    let e0 : s ≡ r = sym (ap (λ p. p.0) e) in
    let e1 : us ≡ all = sym (ap (λ p. p.1) e) in
    rw (e0, e1) g.no_word

tag_by : (top : Bool) (t : Token) (ts : List Token) (n : List ℕ) (r s : Specifiers) (us : List Token) → ((z : Specifiers) → take_words top false z ts ≡ Some (s, us) → IsWords top ts z s us) → t.kind ≡ kinds.Name n → (o : Option Specifiers) → with_tag r n ≡ o →
    next_word (tag_step o) (t ∷ ts) (λ q z. take_words top q z ts) ≡ Some (s, us) → AfterTag top (t ∷ ts) r s us
tag_by top t ts n r s us go e None k h = absurd cc
tag_by top t ts n r s us go e (Some z) k h = (n, z, e, k, go z h)

tag_kind : (top : Bool) (t : Token) (ts : List Token) (r s : Specifiers) (us : List Token) → ((z : Specifiers) → take_words top false z ts ≡ Some (s, us) → IsWords top ts z s us) → (k : Kind) → t.kind ≡ k →
    next_word (put_word k top true r) (t ∷ ts) (λ q z. take_words top q z ts) ≡ Some (s, us) → AfterTag top (t ∷ ts) r s us
tag_kind top t ts r s us go (kinds.Name n) e h = tag_by top t ts n r s us go e (with_tag r n) refl h
tag_kind top t ts r s us go _ e h = absurd cc

word_storage : (top : Bool) (t : Token) (ts : List Token) (w : Word) (r z s : Specifiers) (us : List Token) → (take_words top false z ts ≡ Some (s, us) → IsWords top ts z s us) → t.kind ≡ kinds.Word w → with_word r w ≡ Some z → (b : Bool) → z.storage ≡ b →
    next_word (storage_step top b z) (t ∷ ts) (λ q x. take_words top q x ts) ≡ Some (s, us) → IsWords top (t ∷ ts) r s us
word_storage false t ts w r z s us go e k true m h = absurd cc
word_storage true t ts w r z s us go e k true m h = g.word e k (λ x. refl) (go h)
word_storage false t ts w r z s us go e k false m h = g.word e k (λ x. let y : true ≡ false = sym x ∙ m in cc) (go h)
word_storage true t ts w r z s us go e k false m h = g.word e k (λ x. refl) (go h)

word_by : (top : Bool) (t : Token) (ts : List Token) (w : Word) (r s : Specifiers) (us : List Token) → ((z : Specifiers) → take_words top false z ts ≡ Some (s, us) → IsWords top ts z s us) → t.kind ≡ kinds.Word w → (o : Option Specifiers) → with_word r w ≡ o →
    next_word (word_step top o r) (t ∷ ts) (λ q x. take_words top q x ts) ≡ Some (s, us) → IsWords top (t ∷ ts) r s us
word_by top t ts w r s us go e None k h = ended (t ∷ ts) us r s h
word_by top t ts w r s us go e (Some z) k h = word_storage top t ts w r z s us (go z) e k z.storage refl h

struct_by : (top : Bool) (t : Token) (ts : List Token) (r s : Specifiers) (us : List Token) → t.kind ≡ kinds.Word words.Struct → AfterTag top ts r s us → IsWords top (t ∷ ts) r s us
struct_by top t [] r s us e h = absurd h
struct_by top t (u ∷ ts) r s us e (n, z, f, k, d) = g.tag e f k d

word_kind : (top : Bool) (t : Token) (ts : List Token) (r s : Specifiers) (us : List Token) → ((z : Specifiers) → take_words top false z ts ≡ Some (s, us) → IsWords top ts z s us) → (take_words top true r ts ≡ Some (s, us) → AfterTag top ts r s us) → (w : Word) → t.kind ≡ kinds.Word w →
    next_word (put_word (kinds.Word w) top false r) (t ∷ ts) (λ q z. take_words top q z ts) ≡ Some (s, us) → IsWords top (t ∷ ts) r s us
word_kind top t ts r s us go tag words.Struct e h = struct_by top t ts r s us e (tag h)
word_kind top t ts r s us go tag w e h = word_by top t ts w r s us go e (with_word r w) refl h

kind_words : (top : Bool) (t : Token) (ts : List Token) (r s : Specifiers) (us : List Token) → ((z : Specifiers) → take_words top false z ts ≡ Some (s, us) → IsWords top ts z s us) → (take_words top true r ts ≡ Some (s, us) → AfterTag top ts r s us) → (k : Kind) → t.kind ≡ k →
    next_word (put_word k top false r) (t ∷ ts) (λ q z. take_words top q z ts) ≡ Some (s, us) → IsWords top (t ∷ ts) r s us
kind_words top t ts r s us go tag (kinds.Word w) e h = word_kind top t ts r s us go tag w e h
kind_words top t ts r s us go tag _ e h = ended (t ∷ ts) us r s h

mutual
  words_read : (ts : List Token) (top : Bool) (r s : Specifiers) (us : List Token) → take_words top false r ts ≡ Some (s, us) → IsWords top ts r s us
  words_read [] top r s us h = ended [] us r s h
  words_read (t ∷ ts) top r s us h = kind_words top t ts r s us (λ z k. words_read ts top z s us k) (λ k. tag_read ts top r s us k) t.kind refl h

  tag_read : (ts : List Token) (top : Bool) (r s : Specifiers) (us : List Token) → take_words top true r ts ≡ Some (s, us) → AfterTag top ts r s us
  tag_read [] top r s us h = absurd cc
  tag_read (t ∷ ts) top r s us h = tag_kind top t ts r s us (λ z k. words_read ts top z s us k) t.kind refl h

based_read : (top : Bool) (ts : List Token) (s : Specifiers) (vs : List Token) (b : Base) (us : List Token) → take_words top false no_words ts ≡ Some (s, vs) → (o : Option Base) → base_of s ≡ o → with_rest o vs ≡ Some (b, us) → IsSpecs top ts b us
based_read top ts s vs b us h None k e = absurd cc
based_read top ts s vs b us h (Some c) k e =
    let p : ◌≡◌ {A = Base × List Token} (c, vs) (b, us) = cc in
    let e0 : b ≡ c = sym (ap (λ p. p.0) p) in
    let e1 : us ≡ vs = sym (ap (λ p. p.1) p) in
    rw (e0, e1) (g.specs (words_read ts top no_words s vs h) k)

specs_by : (top : Bool) (ts : List Token) (b : Base) (us : List Token) (o : Option (Specifiers × List Token)) → take_words top false no_words ts ≡ o → based o ≡ Some (b, us) → IsSpecs top ts b us
specs_by top ts b us None h e = absurd cc
specs_by top ts b us (Some (s, vs)) h e = based_read top ts s vs b us h (base_of s) refl e

pub specs_read : (top : Bool) (ts : List Token) (b : Base) (us : List Token) → take_specs top ts ≡ Some (b, us) → IsSpecs top ts b us
unfolding take_specs
specs_read top ts b us h = specs_by top ts b us (take_words top false no_words ts) refl h
