-- Names as they are kept, and as they are read.
use Rattle.std.proofs.Common.{◌≡◌, ℕ, zero, suc, ◌+◌, ◌<◌, ◌≤◌, Bool, true, false, cond, List, [], ◌∷◌, ◌++◌, length, map, Option, Some, None, refl, sym, ap, ◌∙◌, subst, arith, length-append}
use Rattle.std.specs.Prelude.{slice_get, slice_index_or, position, is_some}
use Rattle.std.specs.List.{AllByRecursion, position_from}
use Rattle.std.specs.Map.{keys_of}
use Rattle.std.specs.Option.{option_map, option_or}
use Rattle.std.proofs.lemmas.Iterator.Adapters.{position_from-zero}
use Rattle.std.proofs.lemmas.Slice.Eq.{bytes_eq-Decides}
use Rattle.c_types_model.specs.Types.{CType}
use Rattle.c_types_table.specs.declared.ids.TypeId.{TypeId}
use Rattle.c_scopes.specs.Scopes.{meaning_in, same_name}
use Rattle.c_scopes.specs.Bindings.{Name, index_of, text_at}
use Rattle.c_scopes.proofs.Numbers.{text_stays}
use Rattle.c_types_rules.specs.Environment.{place_from, place_in}
use Rattle.c_types_rules.specs.Expressions.{member_from}
use Rattle.c_types_structs.specs.Members.{MemberList, members_at, read_found, read_members, type_of_member}
use Rattle.c_types_structs.specs.Entries.{AreFirst, tags_at, texts, value_of}

or_cond : {A : Type 0} (b : Bool) (v : A) (r s : Option A) → cond b (Some v) (option_or r s) ≡ option_or (cond b (Some v) r) s
or_cond true v r s = refl
or_cond false v r s = refl

pub not_some : {A : Type 0} (o : Option A) → false ≡ is_some o → o ≡ None
not_some None h = refl
not_some (Some x) h = absurd cc

pub is_there : {A : Type 0} (o : Option A) → true ≡ is_some o → (x : A) × (o ≡ Some x)
is_there None h = absurd cc
is_there (Some x) h = (x, refl)

module _ {V : Type 0} where
  -- what a name means is what the map has for it
  pub meaning_kept : (name : List ℕ) (es : List (Name × V)) → meaning_in name (texts es) ≡ value_of name es
  meaning_kept name [] = refl
  meaning_kept name (e ∷ es) = ap (λ r. cond (same_name name e.0.items) (Some e.1) r) (meaning_kept name es)

  pub texts_pushed : (es : List (Name × V)) (k : Name) (v : V) → texts (es ++ (k, v) ∷ []) ≡ texts es ++ (k.items, v) ∷ []
  texts_pushed [] k v = refl
  texts_pushed (e ∷ es) k v = ap (λ r. (e.0.items, e.1) ∷ r) (texts_pushed es k v)

  pub value_pushed : (name : List ℕ) (es : List (Name × V)) (k : Name) (v : V) → value_of name (es ++ (k, v) ∷ []) ≡ option_or (value_of name es) (cond (same_name name k.items) (Some v) None)
  value_pushed name [] k v = refl
  value_pushed name (e ∷ es) k v = ap (λ r. cond (same_name name e.0.items) (Some e.1) r) (value_pushed name es k v) ∙ or_cond (same_name name e.0.items) e.1 (value_of name es) (cond (same_name name k.items) (Some v) None)

  pub keys_pushed : (es : List (Name × V)) (k : Name) (v : V) → keys_of (es ++ (k, v) ∷ []) ≡ keys_of es ++ k ∷ []
  keys_pushed [] k v = refl
  keys_pushed (e ∷ es) k v = ap (λ r. e.0 ∷ r) (keys_pushed es k v)

-- ---- members

-- a place and a type, where both are there
both : (TypeId → CType) → Option ℕ → Option TypeId → Option (ℕ × CType)
both read (Some i) (Some t) = Some (i, read t)
both read _ _ = None

both_cond : (read : TypeId → CType) (b : Bool) (k : ℕ) (t : TypeId) (i : Option ℕ) (v : Option TypeId) → cond b (Some (k, read t)) (both read i v) ≡ both read (cond b (Some k) i) (cond b (Some t) v)
unfolding both
both_cond read true k t i v = refl
both_cond read false k t i v = refl

member_by : (read : TypeId → CType) (name : List ℕ) (k : ℕ) (es : List (Name × TypeId)) → member_from k name (read_members read (texts es)) ≡ both read (position_from (λ (x : Name). same_name name x.items) k (keys_of es)) (value_of name es)
unfolding both
member_by read name k [] = refl
member_by read name k (e ∷ es) =
    ap (λ r. cond (same_name name e.0.items) (Some (k, read e.1)) r) (member_by read name (k + 1) es)
    ∙ both_cond read (same_name name e.0.items) k e.1 (position_from (λ (x : Name). same_name name x.items) (k + 1) (keys_of es)) (value_of name es)

pub member_none : (read : TypeId → CType) (name : List ℕ) (es : List (Name × TypeId)) → position (λ (x : Name). same_name name x.items) (keys_of es) ≡ None → None ≡ member_from 0 name (read_members read (texts es))
unfolding both
member_none read name es h =
    let first = sym (position_from-zero (λ (x : Name). same_name name x.items) (keys_of es)) ∙ h in
    sym (member_by read name 0 es ∙ ap (λ i. both read i (value_of name es)) first)

pub member_some : (read : TypeId → CType) (name : List ℕ) (es : List (Name × TypeId)) (i : ℕ) (t : TypeId) → position (λ (x : Name). same_name name x.items) (keys_of es) ≡ Some i → value_of name es ≡ Some t
    → Some (i, read t) ≡ member_from 0 name (read_members read (texts es))
unfolding both
member_some read name es i t h e =
    let first = sym (position_from-zero (λ (x : Name). same_name name x.items) (keys_of es)) ∙ h in
    sym (member_by read name 0 es ∙ (ap (λ o. both read o (value_of name es)) first ∙ ap (both read (Some i)) e))

pub type_stands : (es : List (Name × TypeId)) (i : ℕ) (e : Name × TypeId) → slice_get es i ≡ Some e → type_of_member (texts es) i ≡ Some e.1
type_stands [] i e h = absurd cc
type_stands (x ∷ es) zero e h = ap (λ o. option_map (λ y. y.1) o) h
type_stands (x ∷ es) (suc i) e h = type_stands es i e h

pub members_past : (mss : List MemberList) (n : ℕ) → (n < length mss → ⊥) → members_at mss n ≡ []
members_past [] n h = refl
members_past (ms ∷ mss) zero h = absurd (h (omega arith))
members_past (ms ∷ mss) (suc n) h = members_past mss n (λ lt. h (omega arith))

pub members_read : (mss : List MemberList) (n : ℕ) (ms : MemberList) → n < length mss → ms ≡ slice_index_or mss n ms → members_at mss n ≡ ms
members_read [] n ms lt h = absurd (omega arith)
members_read (x ∷ mss) zero ms lt h = sym h
members_read (x ∷ mss) (suc n) ms lt h = members_read mss n ms (omega arith) h

-- ---- tags

place_pushed : (k n : ℕ) (name : List ℕ) (xs : List (List ℕ)) (x : List ℕ) → n ≡ k + length xs → place_from k name (xs ++ x ∷ []) ≡ option_or (place_from k name xs) (cond (same_name name x) (Some n) None)
place_pushed k n name [] x h = let e : k ≡ n = omega arith in ap (λ i. cond (same_name name x) (Some i) None) e
place_pushed k n name (y ∷ xs) x h =
    ap (λ r. cond (same_name name y) (Some k) r) (place_pushed (suc k) n name xs x (omega arith))
    ∙ or_cond (same_name name y) k (place_from (suc k) name xs) (cond (same_name name x) (Some n) None)

-- tags that have an index keep it
tags_stay : (names more : List Name) (n : ℕ) (order : List ℕ) → n ≡ length names → AllByRecursion (λ i. i < n) order → tags_at (names ++ more) order ≡ tags_at names order
tags_stay names more n [] e h = refl
tags_stay names more n (i ∷ order) e h =
    let lt : i < length names = let a = h.0 in omega arith in
    ap (λ t. t ∷ tags_at (names ++ more) order) (text_stays names more i lt) ∙ ap (λ r. text_at names i ∷ r) (tags_stay names more n order e h.1)

tags_pushed : (names : List Name) (order : List ℕ) (i : ℕ) → tags_at names (order ++ i ∷ []) ≡ tags_at names order ++ text_at names i ∷ []
tags_pushed names [] i = refl
tags_pushed names (j ∷ order) i = ap (λ r. text_at names j ∷ r) (tags_pushed names order i)

last_text : (names : List Name) (k : Name) (i : ℕ) → i ≡ length names → text_at (names ++ k ∷ []) i ≡ k.items
last_text [] k zero e = refl
last_text [] k (suc i) e = absurd (omega arith)
last_text (x ∷ names) k zero e = absurd (omega arith)
last_text (x ∷ names) k (suc i) e = last_text names k i (omega arith)

pub length_tags : (names : List Name) (order : List ℕ) → length (tags_at names order) ≡ length order
length_tags names [] = refl
length_tags names (i ∷ order) = ap suc (length_tags names order)

length_keys : {V : Type 0} (es : List (Name × V)) → length (keys_of es) ≡ length es
length_keys [] = refl
length_keys (e ∷ es) = ap suc (length_keys es)

-- a tag that is defined the first time
pub first_tags : (es : List (Name × ℕ)) (order : List ℕ) (k : Name) (v i : ℕ) → AreFirst es order → i ≡ length es → tags_at (keys_of (es ++ (k, v) ∷ [])) (order ++ i ∷ []) ≡ tags_at (keys_of es) order ++ k.items ∷ []
first_tags es order k v i h e =
    let place : i ≡ length (keys_of es) = e ∙ sym (length_keys es) in
    let names = keys_of es in
    ap (λ ks. tags_at ks (order ++ i ∷ [])) (keys_pushed es k v)
    ∙ (tags_pushed (names ++ k ∷ []) order i
    ∙ (ap (λ ts. ts ++ text_at (names ++ k ∷ []) i ∷ []) (tags_stay names (k ∷ []) (length es) order (sym (length_keys es)) h.within)
    ∙ ap (λ t. tags_at names order ++ t ∷ []) (last_text names k i place)))

below_more : (m n : ℕ) (order : List ℕ) → m ≤ n → AllByRecursion (λ i. i < m) order → AllByRecursion (λ i. i < n) order
below_more m n [] le h = tt
below_more m n (i ∷ order) le h = (let a = h.0 in omega arith, below_more m n order le h.1)

below_pushed : (n i : ℕ) (order : List ℕ) → i < n → AllByRecursion (λ i. i < n) order → AllByRecursion (λ i. i < n) (order ++ i ∷ [])
below_pushed n i [] lt h = (lt, tt)
below_pushed n i (j ∷ order) lt h = (h.0, below_pushed n i order lt h.1)

pub first_kept : (es : List (Name × ℕ)) (order : List ℕ) (k : Name) (v i : ℕ) → AreFirst es order → i ≡ length es → v ≡ length order → AreFirst (es ++ (k, v) ∷ []) (order ++ i ∷ [])
first_kept es order k v i h e f =
    let more = length-append es ((k, v) ∷ []) in
    let tags = tags_at (keys_of es) order in
    let place : v ≡ 0 + length tags = let l = length_tags (keys_of es) order in omega arith in
    record {
      within = below_pushed (length (es ++ (k, v) ∷ [])) i order (omega arith) (below_more (length es) (length (es ++ (k, v) ∷ [])) order (omega arith) h.within);
      first = λ name.
          value_pushed name es k v
          ∙ (ap (λ o. option_or o (cond (same_name name k.items) (Some v) None)) (h.first name)
          ∙ (sym (place_pushed 0 v name tags k.items place)
          ∙ ap (place_in name) (sym (first_tags es order k v i h e))));
    }

-- a tag that is defined again
known_cond : (o : Option ℕ) (b : Bool) (n : ℕ) → (b ≡ true → o ≡ None → ⊥) → option_or o (cond b (Some n) None) ≡ o
known_cond (Some x) b n h = refl
known_cond None true n h = absurd (h refl refl)
known_cond None false n h = refl

pub again_kept : (es : List (Name × ℕ)) (order : List ℕ) (i v : ℕ) (tag : List ℕ) → AreFirst es order → i < length es → text_at (keys_of es) i ≡ tag → value_of tag es ≡ Some v → AreFirst es (order ++ i ∷ [])
again_kept es order i v tag h lt at there =
    let tags = tags_at (keys_of es) order in
    let known : (name : List ℕ) → same_name name tag ≡ true → place_in name tags ≡ None → ⊥ = λ name s none.
    let same : name ≡ tag = (bytes_eq-Decides name tag).0 s in
    let some : place_in name tags ≡ Some v = ap (λ n. place_in n tags) same ∙ (sym (h.first tag) ∙ there) in
    absurd cc in
    record {
      within = below_pushed (length es) i order lt h.within;
      first = λ name.
          h.first name
          ∙ (sym (known_cond (place_in name tags) (same_name name tag) (length tags) (known name))
          ∙ (sym (place_pushed 0 (length tags) name tags tag (omega arith))
          ∙ ap (place_in name) (ap (λ t. tags ++ t ∷ []) (sym at) ∙ sym (tags_pushed (keys_of es) order i))));
    }

pub again_tags : (es : List (Name × ℕ)) (order : List ℕ) (i : ℕ) (tag : List ℕ) → text_at (keys_of es) i ≡ tag → tags_at (keys_of es) (order ++ i ∷ []) ≡ tags_at (keys_of es) order ++ tag ∷ []
again_tags es order i tag at = tags_pushed (keys_of es) order i ∙ ap (λ t. tags_at (keys_of es) order ++ t ∷ []) at
