-- Tables that grow.
use Rattle.std.proofs.Common.{◌≡◌, ℕ, zero, suc, ◌+◌, ◌<◌, ◌≤◌, List, [], ◌∷◌, ◌++◌, length, get_or, Option, Some, refl, sym, ap, ◌∙◌, arith, length-append, subst, ◌⊎◌, inl, inr}
use Rattle.std.specs.Prelude.{slice_get}
use Rattle.r2_num.specs.declared.kinds.IntKind.{IntKind}
use Rattle.r2_num.specs.declared.kinds.IntKind.TheVariants.{I8, U8, I16, U16, I32, U32, I64, U64}
use Rattle.c_types_model.specs.Types.{CType, Void, Integer}
use Rattle.c_types_table.specs.declared.ids.TypeId.{TypeId}
use Rattle.c_types_table.specs.declared.ty.Ty.{Ty}
use Rattle.c_types_table.specs.Tables.{at, types_of, type_at}
use Rattle.c_types_rules.specs.TypedTree.{Typed, typed_type}
use Rattle.c_types_nodes.specs.declared.ids.NodeId.{NodeId}
use Rattle.c_types_nodes.specs.declared.node.Node.{Node}
use Rattle.c_types_nodes.specs.declared.entry.Entry.{Entry}
use Rattle.c_types_nodes.specs.declared.basics.BasicTypes.{BasicTypes}
use Rattle.std.proofs.lemmas.Option.{slice_get-get_or}
use Rattle.c_types_nodes.specs.Parts.{part, typed_in, made, IsMadeOf, IsObject, IsAValue, IsFunction}
use Rattle.c_types_nodes.specs.Tables.{Table, typed_after, typed_of, typed_at, node_at, Names, KeepsTypes, made_in, CanHold, Keeps, IsEntry, IsTable, IsNode, AreBasic, IsSound, of_kind}
use Rattle.c_types_nodes.proofs.Kept.{Extends, SameTypes, Alike, value_kept, object_kept, callee_kept, parts_kept, made_like}

pub same_types : (a b : List Ty) → KeepsTypes a b → SameTypes (length a) (types_of a) (types_of b)
same_types a b k = record { same = λ id lt. (k.names id (type_at a id) (record { inside = lt; is = refl })).is }

extends : (t u : Table) → Keeps t u → Extends (typed_of t) (typed_of u)
extends t u k = record { has = k.nodes }

like_itself : (xs ys : List Typed) → Extends xs ys → Alike xs xs ys
like_itself xs ys e = record {
  objects = λ id h. object_kept xs ys id e h;
  values = λ id h. value_kept xs ys id e h;
  functions = λ id h. callee_kept xs ys id e h;
}

like_all : (zs xs : List Typed) → Alike zs xs xs
like_all zs xs = record { objects = λ id h. refl; values = λ id h. refl; functions = λ id h. refl }

pub made_grown : (t u : Table) (n : Node) → Keeps t u → CanHold t n → made_in u n ≡ made_in t n
made_grown t u n g h = made_like (length t.types) (types_of t.types) (types_of u.types) (typed_of t) (typed_of t) (typed_of u) n (same_types t.types u.types g.types) (like_itself (typed_of t) (typed_of u) (extends t u g)) h

-- what stands at a place
Stands : Table → ℕ → Typed → Type 0
Stands t k x = slice_get (typed_of t) k ≡ Some x

-- a node that a table may hold, where it stands in a table that has grown
entry_of : (t u : Table) (k : ℕ) (e : Entry) → Keeps t u → CanHold t e.node → slice_get (typed_of u) k ≡ Some (made_in t e.node) → Names t.types e.ty (typed_type (made_in t e.node)) → IsEntry u k e
entry_of t u k e g h m n =
    let same = made_grown t u e.node g h in
    let here : Typed → Type 0 = λ x. Names u.types e.ty (typed_type x) in
    record {
      parts = parts_kept (length t.types) (length u.types) (typed_of t) (typed_of u) e.node g.types.more (extends t u g) h;
      meaning = m ∙ ap Some (sym same);
      type = subst here (sym same) (g.types.names e.ty (typed_type (made_in t e.node)) n);
    }

entry_kept : (t u : Table) (k : ℕ) (e : Entry) → Keeps t u → IsEntry t k e → IsEntry u k e
entry_kept t u k e g h = entry_of t u k e g h.parts (g.nodes (record { 0 = k }) (made_in t e.node) h.meaning) h.type

-- ---- one node more

after-push : (ts : List CType) (xs : List Typed) (es : List Entry) (e : Entry) → typed_after ts xs (es ++ e ∷ []) ≡ typed_after ts xs es ++ made ts (typed_after ts xs es) e.node ∷ []
after-push ts xs [] e = refl
after-push ts xs (d ∷ es) e = after-push ts (xs ++ made ts xs d.node ∷ []) es e

length-after : (ts : List CType) (xs : List Typed) (es : List Entry) → length (typed_after ts xs es) ≡ length xs + length es
length-after ts xs [] = omega arith
length-after ts xs (e ∷ es) =
    let one = length-append xs (made ts xs e.node ∷ []) in
    let rest = length-after ts (xs ++ made ts xs e.node ∷ []) es in
    omega arith

length-typed_of : (t : Table) → length (typed_of t) ≡ length t.entries
unfolding typed_of
length-typed_of t = let h = length-after (types_of t.types) [] t.entries in omega arith

abbrev pub pushed : Table → Entry → Table
pushed t e = record { types = t.types; entries = t.entries ++ e ∷ [] }

typed_of-pushed : (t : Table) (e : Entry) → typed_of (pushed t e) ≡ typed_of t ++ made_in t e.node ∷ []
unfolding typed_of
typed_of-pushed t e = after-push (types_of t.types) [] t.entries e

get_more : (xs ys : List Typed) (k : ℕ) (x : Typed) → slice_get xs k ≡ Some x → slice_get (xs ++ ys) k ≡ Some x
get_more [] ys k x e = absurd cc
get_more (y ∷ xs) ys zero x e = e
get_more (y ∷ xs) ys (suc k) x e = get_more xs ys k x e

get_last : (xs : List Typed) (x : Typed) → slice_get (xs ++ x ∷ []) (length xs) ≡ Some x
get_last [] x = refl
get_last (y ∷ xs) x = get_last xs x

get_pushed : (es : List Entry) (e : Entry) (k : ℕ) (d : Entry) → slice_get (es ++ e ∷ []) k ≡ Some d → (slice_get es k ≡ Some d) ⊎ ((k ≡ length es) × (e ≡ d))
get_pushed [] e zero d h = inr (refl, cc)
get_pushed [] e (suc k) d h = absurd cc
get_pushed (c ∷ es) e zero d h = inl h
get_pushed (c ∷ es) e (suc k) d h = elim (get_pushed es e k d h) [ inl s ↦ inl s | inr s ↦ inr (ap suc s.0, s.1) ]

pub types_itself : (a : List Ty) → KeepsTypes a a
types_itself a = record { more = omega arith; names = λ id c h. h }

pub pushed_keeps : (t : Table) (e : Entry) → Keeps t (pushed t e)
pushed_keeps t e = record {
  types = types_itself t.types;
  nodes = λ id x h. ap (λ xs. slice_get xs id.0) (typed_of-pushed t e) ∙ get_more (typed_of t) (made_in t e.node ∷ []) id.0 x h;
}

pub pushed_stands : (t : Table) (e : Entry) (k : ℕ) → k ≡ length t.entries → slice_get (typed_of (pushed t e)) k ≡ Some (made_in t e.node)
pushed_stands t e k h =
    let place : k ≡ length (typed_of t) = h ∙ sym (length-typed_of t) in
    ap (λ xs. slice_get xs k) (typed_of-pushed t e) ∙ (ap (λ i. slice_get (typed_of t ++ made_in t e.node ∷ []) i) place ∙ get_last (typed_of t) (made_in t e.node))

pub pushed_table : (t : Table) (e : Entry) → IsTable t → CanHold t e.node → Names t.types e.ty (typed_type (made_in t e.node)) → IsTable (pushed t e)
pushed_table t e h p n k d s = by (get_pushed t.entries e k d s)
  where
    by : (slice_get t.entries k ≡ Some d) ⊎ ((k ≡ length t.entries) × (e ≡ d)) → IsEntry (pushed t e) k d
    by (inl old) = entry_kept t (pushed t e) k d (pushed_keeps t e) (h k d old)
    by (inr (at_end, same)) =
        let here : Entry → Type 0 = λ x. IsEntry (pushed t e) k x in
        subst here same (entry_of t (pushed t e) k e (pushed_keeps t e) p (pushed_stands t e k at_end) n)

-- ---- one type more

after_types : (n : ℕ) (ts us : List CType) (zs xs : List Typed) (es : List Entry) → SameTypes n ts us → ((k : ℕ) (e : Entry) → slice_get es k ≡ Some e → IsMadeOf n zs e.node) → typed_after us xs es ≡ typed_after ts xs es
after_types n ts us zs xs [] s h = refl
after_types n ts us zs xs (e ∷ es) s h =
    let first : made us xs e.node ≡ made ts xs e.node = made_like n ts us zs xs xs e.node s (like_all zs xs) (h 0 e refl) in
    ap (λ x. typed_after us (xs ++ x ∷ []) es) first ∙ after_types n ts us zs (xs ++ made ts xs e.node ∷ []) es s (λ k d g. h (suc k) d g)

typed_of-types : (t u : Table) → u.entries ≡ t.entries → SameTypes (length t.types) (types_of t.types) (types_of u.types) → IsTable t → typed_of u ≡ typed_of t
unfolding typed_of
typed_of-types t u e s h =
    ap (λ es. typed_after (types_of u.types) [] es) e ∙ after_types (length t.types) (types_of t.types) (types_of u.types) (typed_of t) [] t.entries s (λ k d g. (h k d g).parts)

pub types_keep : (t u : Table) → u.entries ≡ t.entries → KeepsTypes t.types u.types → IsTable t → Keeps t u
types_keep t u e k h = record {
  types = k;
  nodes = λ id x g. ap (λ xs. slice_get xs id.0) (typed_of-types t u e (same_types t.types u.types k) h) ∙ g;
}

pub types_table : (t u : Table) → u.entries ≡ t.entries → Keeps t u → IsTable t → IsTable u
types_table t u e g h k d s = entry_kept t u k d g (h k d (sym (ap (λ es. slice_get es k) e) ∙ s))

-- ---- what is read

get_within : (xs : List Typed) (k : ℕ) (x : Typed) → slice_get xs k ≡ Some x → k < length xs
get_within [] k x e = absurd cc
get_within (y ∷ xs) zero x e = omega arith
get_within (y ∷ xs) (suc k) x e = let h = get_within xs k x e in omega arith

pub node_within : (t : Table) (id : NodeId) → IsNode t id → id.0 < length t.entries
node_within t id h = let a = get_within (typed_of t) id.0 (node_at t id) h in let b = length-typed_of t in omega arith

pub entry_read : (t : Table) (id : NodeId) (e : Entry) → IsTable t → IsNode t id → e ≡ get_or t.entries id.0 e → IsEntry t id.0 e
entry_read t id e h n r = let lt = node_within t id n in h id.0 e (slice_get-get_or t.entries id.0 e lt ∙ ap Some (sym r))

-- ---- one after another

pub types_through : (a b c : List Ty) → KeepsTypes a b → KeepsTypes b c → KeepsTypes a c
types_through a b c k l = record {
  more = (let p = k.more in let q = l.more in omega arith);
  names = λ id t h. l.names id t (k.names id t h);
}

pub through : (t u v : Table) → Keeps t u → Keeps u v → Keeps t v
through t u v k l = record { types = types_through t.types u.types v.types k.types l.types; nodes = λ id x h. l.nodes id x (k.nodes id x h) }

pub itself : (t : Table) → Keeps t t
itself t = record { types = types_itself t.types; nodes = λ id x h. h }

pub basics_kept : (a b : List Ty) (s : BasicTypes) → KeepsTypes a b → AreBasic a s → AreBasic b s
basics_kept a b s k h = record { nothing = k.names s.void Void h.nothing; integers = λ i. k.names (of_kind s i) (Integer i) (h.integers i) }

-- ---- a table as its fields, which are `inside`

pub held : (t u : Table) (n : Node) → Keeps t u → CanHold t n → CanHold u n
held t u n k h = parts_kept (length t.types) (length u.types) (typed_of t) (typed_of u) n k.types.more (extends t u k) h

pub put_added : (inside now : Table) (e : Entry) (items : List Entry) (id : NodeId) → inside ≡ now → items ≡ inside.entries ++ e ∷ [] → id.0 ≡ length inside.entries
    → typed_at (record { types = inside.types; entries = items }) id ≡ Some (made_in now e.node)
put_added inside now e items id same h place =
    ap (λ es. typed_at (record { types = inside.types; entries = es }) id) h ∙ (pushed_stands inside e id.0 place ∙ ap (λ t. Some (made_in t e.node)) same)

pub put_kept : (inside now : Table) (e : Entry) (items : List Entry) → inside ≡ now → items ≡ inside.entries ++ e ∷ [] → Keeps now (record { types = inside.types; entries = items })
put_kept inside now e items same h =
    let from : Table → Type 0 = λ t. Keeps t (record { types = inside.types; entries = items }) in
    let to : List Entry → Type 0 = λ es. Keeps inside (record { types = inside.types; entries = es }) in
    subst from same (subst to (sym h) (pushed_keeps inside e))

pub put_sound : (inside now : Table) (e : Entry) (items : List Entry) (b : BasicTypes) → inside ≡ now → items ≡ inside.entries ++ e ∷ [] → IsSound inside b → CanHold now e.node → Names now.types e.ty (typed_type (made_in now e.node))
    → IsSound (record { types = inside.types; entries = items }) b
put_sound inside now e items b same h s p n =
    let holds : Table → Type 0 = λ t. CanHold t e.node in
    let typed : Table → Type 0 = λ t. Names t.types e.ty (typed_type (made_in t e.node)) in
    let to : List Entry → Type 0 = λ es. IsSound (record { types = inside.types; entries = es }) b in
    subst to (sym h) (record { entries = pushed_table inside e s.entries (subst holds (sym same) p) (subst typed (sym same) n); basics = s.basics })

pub type_sound : (inside : Table) (us : List Ty) (b : BasicTypes) → KeepsTypes inside.types us → IsSound inside b → IsSound (record { types = us; entries = inside.entries }) b
type_sound inside us b k s =
    let u : Table = record { types = us; entries = inside.entries } in
    record { entries = types_table inside u refl (types_keep inside u refl k s.entries) s.entries; basics = basics_kept inside.types us b k s.basics }

pub type_kept : (inside now : Table) (us : List Ty) → inside ≡ now → KeepsTypes inside.types us → IsTable inside → Keeps now (record { types = us; entries = inside.entries })
type_kept inside now us same k s =
    let from : Table → Type 0 = λ t. Keeps t (record { types = us; entries = inside.entries }) in
    subst from same (types_keep inside (record { types = us; entries = inside.entries }) refl k s)

pub within : (inside now : Table) (id : NodeId) → inside ≡ now → IsNode now id → id.0 < length inside.entries
within inside now id same h = let there : Table → Type 0 = λ t. IsNode t id in node_within inside id (subst there (sym same) h)

pub read : (inside now : Table) (id : NodeId) (e : Entry) → inside ≡ now → IsTable inside → IsNode now id → e ≡ get_or inside.entries id.0 e → IsEntry now id.0 e
read inside now id e same s h r =
    let there : Table → Type 0 = λ t. IsNode t id in
    let entry : Table → Type 0 = λ t. IsEntry t id.0 e in
    subst entry same (entry_read inside id e s (subst there (sym same) h) r)

pub type_read : (t : Table) (id : NodeId) (e : Entry) → IsEntry t id.0 e → Names t.types e.ty (typed_type (node_at t id))
type_read t id e h =
    let names : Typed → Type 0 = λ x. Names t.types e.ty (typed_type x) in
    let same : node_at t id ≡ made_in t e.node = ap typed_in h.meaning in
    subst names (sym same) h.type

pub basics_by : (types : List Ty) (b : BasicTypes) → Names types b.void Void → Names types b.i8 (Integer I8) → Names types b.u8 (Integer U8) → Names types b.i16 (Integer I16) → Names types b.u16 (Integer U16)
    → Names types b.i32 (Integer I32) → Names types b.u32 (Integer U32) → Names types b.i64 (Integer I64) → Names types b.u64 (Integer U64) → AreBasic types b
basics_by types b v ha hb hc hd he hf hg hh = record { nothing = v; integers = by }
  where
    by : (k : IntKind) → Names types (of_kind b k) (Integer k)
    by I8 = ha
    by U8 = hb
    by I16 = hc
    by U16 = hd
    by I32 = he
    by U32 = hf
    by I64 = hg
    by U64 = hh
