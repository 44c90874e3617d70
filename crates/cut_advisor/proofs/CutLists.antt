-- Names that are put one after another.
use Rattle.std.proofs.Common.{◌≡◌, ◌<◌, ◌≤◌, ◌+◌, ℕ, zero, suc, Bool, true, false, ◌||◌, ◌&&◌, nat_eq, if◌then◌else◌, List, [], ◌∷◌, ◌++◌, length, get_or, drop, drop-cons, add-one, append-nil, arith, slice_get, Some, Vec, refl, sym, ap, ◌∙◌}
use Rattle.std.specs.declared.alloc.Global.{Global}
use Rattle.std.specs.List.{list_any}
use Rattle.std.proofs.lemmas.Bool.{eq-eqb}
use Rattle.std.proofs.lemmas.List.{drop_all, length-map}
use Rattle.c_scopes.specs.Scopes.{same_name}
use Rattle.annot_reader_rules.specs.Cuts.{named}
use Rattle.annot_reader_rules.specs.Notes.{Notes}
use Rattle.cut_advisor.specs.CutNames.{with_cuts, with_name, with_names}
use Rattle.cut_advisor.specs.CutNodes.{AreAmong, texts_of}

pub with_names-append : (names a b : List (List ℕ)) → with_names names (a ++ b) ≡ with_names (with_names names a) b
with_names-append names [] b = refl
with_names-append names (n ∷ a) b = with_names-append (with_name names n) a b

pub with_cuts-append : (names : List (List ℕ)) (ns : List Notes) (n : Notes) → with_cuts names (ns ++ n ∷ []) ≡ with_names (with_cuts names ns) n.cuts
with_cuts-append names [] n = refl
with_cuts-append names (m ∷ ns) n = with_cuts-append (with_names names m.cuts) ns n

-- a name is among stored ones where it is among their texts
pub among_texts : (name : List ℕ) (keys : List (Vec ℕ Global)) → list_any (λ k. same_name name k.items) keys ≡ named name (texts_of keys)
among_texts name [] = refl
among_texts name (k ∷ keys) = ap (λ b. same_name name k.items || b) (among_texts name keys)

pub texts_of-append : (keys : List (Vec ℕ Global)) (k : Vec ℕ Global) → texts_of (keys ++ k ∷ []) ≡ texts_of keys ++ k.items ∷ []
texts_of-append [] k = refl
texts_of-append (j ∷ keys) k = ap (λ l. j.items ∷ l) (texts_of-append keys k)

-- one more of a list of which each gives names: those that are left still make the whole
pub next : {V : Type 0} (f : V → List (List ℕ)) (all : List V → List (List ℕ)) → ((v : V) (vs : List V) → all (v ∷ vs) ≡ f v ++ all vs) → (xs : List V) (x : V) (names more whole : List (List ℕ)) (i : ℕ) → i < length xs → x ≡ get_or xs i x
    → more ≡ with_names names (f x) → with_names names (all (drop i xs)) ≡ whole → with_names more (all (drop (i + 1) xs)) ≡ whole
next f all step xs x names more whole i h g e inv =
    let d : drop i xs ≡ x ∷ drop (i + 1) xs = rw (add-one, drop-cons xs i x) (ap (λ y. y ∷ drop (suc i) xs) (sym g)) in
    ap (λ l. with_names l (all (drop (i + 1) xs))) e
    ∙ (sym (with_names-append names (f x) (all (drop (i + 1) xs))) ∙ (ap (with_names names) (sym (ap all d ∙ step x (drop (i + 1) xs))) ∙ inv))

-- ---- names that were put

either_true : (a b : Bool) → b ≡ true → (a || b) ≡ true
either_true true b e = refl
either_true false b e = e

first_true : (a b : Bool) → a ≡ true → (a || b) ≡ true
first_true true b e = refl
first_true false b e = absurd cc

still_named : (x y : List ℕ) (names : List (List ℕ)) → named x names ≡ true → named x (names ++ y ∷ []) ≡ true
still_named x y [] e = absurd cc
still_named x y (n ∷ names) e = by (same_name x n) (still_named x y names) e
  where
    by : (b : Bool) → (named x names ≡ true → named x (names ++ y ∷ []) ≡ true) → (b || named x names) ≡ true → (b || named x (names ++ y ∷ [])) ≡ true
    by true f h = refl
    by false f h = f h

named_too : (x y : List ℕ) (names : List (List ℕ)) → named x names ≡ true → named x (with_name names y) ≡ true
named_too x y names e = by (named y names)
  where
    by : (b : Bool) → named x (if b then names else names ++ y ∷ []) ≡ true
    by true = e
    by false = still_named x y names e

itself : (x : List ℕ) → same_name x x ≡ true
itself [] = refl
itself (n ∷ x) = both (nat_eq n n) (same_name x x) (eq-eqb n n refl) (itself x)
  where
    both : (a b : Bool) → a ≡ true → b ≡ true → (a && b) ≡ true
    both true b e f = f
    both false b e f = absurd cc

named_last : (x : List ℕ) (names : List (List ℕ)) → named x (names ++ x ∷ []) ≡ true
named_last x [] = first_true (same_name x x) false (itself x)
named_last x (n ∷ names) = either_true (same_name x n) (named x (names ++ x ∷ [])) (named_last x names)

named_here : (x : List ℕ) (names : List (List ℕ)) → named x (with_name names x) ≡ true
named_here x names = by (named x names) refl
  where
    by : (b : Bool) → named x names ≡ b → named x (if b then names else names ++ x ∷ []) ≡ true
    by true e = e
    by false e = named_last x names

named_after : (x : List ℕ) (ns names : List (List ℕ)) → named x names ≡ true → named x (with_names names ns) ≡ true
named_after x [] names e = e
named_after x (n ∷ ns) names e = named_after x ns (with_name names n) (named_too x n names e)

-- what was put is among the names
pub among_after : (ns names : List (List ℕ)) → AreAmong ns (with_names names ns)
among_after [] names = tt
among_after (n ∷ ns) names = (named_after n ns (with_name names n) (named_here n names), among_after ns (with_name names n))

-- what is among them changes nothing
pub none_new : (ns names : List (List ℕ)) → AreAmong ns names → with_names names ns ≡ names
none_new [] names h = refl
none_new (n ∷ ns) names h =
    let same : with_name names n ≡ names = ap (λ b. if b then names else names ++ n ∷ []) h.0 in
    ap (λ l. with_names l ns) same ∙ none_new ns names h.1

-- ---- a name that is put, and texts of stored names

pub put_there : (name : List ℕ) (keys : List (Vec ℕ Global)) → list_any (λ k. same_name name k.items) keys ≡ true → texts_of keys ≡ with_name (texts_of keys) name
put_there name keys e = sym (ap (λ b. if b then texts_of keys else texts_of keys ++ name ∷ []) (sym (among_texts name keys) ∙ e))

pub put_new : (name : List ℕ) (copy : Vec ℕ Global) (keys : List (Vec ℕ Global)) → copy.items ≡ name → list_any (λ k. same_name name k.items) keys ≡ false
    → texts_of (if list_any (λ k. same_name copy.items k.items) keys then keys else keys ++ copy ∷ []) ≡ with_name (texts_of keys) name
put_new name copy keys same e =
    let absent : list_any (λ k. same_name copy.items k.items) keys ≡ false = ap (λ n. list_any (λ k. same_name n k.items) keys) same ∙ e in
    ap (λ b. texts_of (if b then keys else keys ++ copy ∷ [])) absent
    ∙ (texts_of-append keys copy
    ∙ (ap (λ n. texts_of keys ++ n ∷ []) same ∙ sym (ap (λ b. if b then texts_of keys else texts_of keys ++ name ∷ []) (sym (among_texts name keys) ∙ e))))

text_here : (keys : List (Vec ℕ Global)) (k : Vec ℕ Global) (i : ℕ) → slice_get keys i ≡ Some k → drop i (texts_of keys) ≡ k.items ∷ drop (suc i) (texts_of keys)
text_here [] k i e = absurd cc
text_here (j ∷ keys) k zero e = let same : j ≡ k = cc in ap (λ x. x.items ∷ texts_of keys) same
text_here (j ∷ keys) k (suc i) e = text_here keys k i e

append_more : (a b : List (List ℕ)) (t : List ℕ) → (a ++ t ∷ []) ++ b ≡ a ++ t ∷ b
append_more [] b t = refl
append_more (x ∷ a) b t = ap (λ l. x ∷ l) (append_more a b t)

-- one text more: those that are left still make the whole
pub text_next : (keys : List (Vec ℕ Global)) (k : Vec ℕ Global) (texts : List (List ℕ)) (t : List ℕ) (i : ℕ) → slice_get keys i ≡ Some k → t ≡ k.items → texts ++ drop i (texts_of keys) ≡ texts_of keys
    → (texts ++ t ∷ []) ++ drop (i + 1) (texts_of keys) ≡ texts_of keys
text_next keys k texts t i e same inv =
    let left : t ∷ drop (i + 1) (texts_of keys) ≡ drop i (texts_of keys) = ap (λ x. x ∷ drop (i + 1) (texts_of keys)) same ∙ (ap (λ n. k.items ∷ drop n (texts_of keys)) (add-one i) ∙ sym (text_here keys k i e)) in
    append_more texts (drop (i + 1) (texts_of keys)) t ∙ (ap (λ l. texts ++ l) left ∙ inv)

pub text_end : (keys : List (Vec ℕ Global)) (texts : List (List ℕ)) (i : ℕ) → length keys ≤ i → texts ++ drop i (texts_of keys) ≡ texts_of keys → texts ≡ texts_of keys
text_end keys texts i le inv =
    let none : drop i (texts_of keys) ≡ [] = drop_all i (texts_of keys) (omega (arith, le, length-map keys (λ k. k.items))) in
    sym (append-nil texts) ∙ (sym (ap (λ l. texts ++ l) none) ∙ inv)

pub no_texts : (keys : List (Vec ℕ Global)) → length keys ≡ 0 → texts_of keys ≡ []
no_texts [] e = refl
no_texts (k ∷ keys) e = absurd (omega (arith, e))
