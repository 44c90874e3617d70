-- What one annotation of a function more says, by its word.
use Rattle.std.proofs.Common.{◌≡◌, ℕ, Bool, true, false, not, ◌||◌, if◌then◌else◌, List, [], ◌∷◌, ◌++◌, codes, nat_eq, is_none, Option, Some, None, Result, Ok, Err, refl, sym, ap, ◌∙◌, subst}
use Rattle.std.proofs.lemmas.Bool.{eq-eqb, eqb-true}
use Rattle.std.specs.List.{list_any}
use Rattle.c_scopes.specs.Scopes.{same_name}
use Rattle.c_syntax.specs.declared.declaration.Item.{Item}
use Rattle.c_syntax.specs.Nodes.{Nodes}
use Rattle.c_syntax.specs.Syntax.{Annots, Annotate, NoAnnots, MoreAnnots, Item as Factors, Items, MoreItems, OneFactor, TwoFactors, NameAtom, NumberAtom, ReturnAtom, SizeofAtom}
use Rattle.c_syntax.specs.Stands.{StandsItem}
use Rattle.c_types_rules.specs.Checked.{Checked, Fine, Noted, Broken, keep, need, ◌>>=◌, ◌>>◌}
use Rattle.annot_reader_rules.specs.Functions.{FunctionKind, all_noted, among, commit_word, cut_word, holds_word, is_empty, is_filled, mutex, names_in, noted, sync_word, two_items}
use Rattle.annot_reader_rules.specs.Notes.{Notes, Parameter}
use Rattle.annot_reader_rules.specs.Regions.{Signature, alone, key_parameter, one_item, size}
use Rattle.stub_core.specs.declared.terms.Size.{Size}
use Rattle.annot_reader_words.specs.declared.error.AnnotationError.{AnnotationError}
use Rattle.annot_reader_words.specs.declared.error.AnnotationError.TheVariants.{Rule}
use Rattle.annot_reader_words.specs.Answers.{Tells}
use Rattle.annot_reader_words.proofs.Composing.{follows, stops}
use Rattle.annot_reader_words.specs.Items.{MaybeStands}
use Rattle.annot_reader_words.specs.Readings.{IsSame}
use Rattle.annot_reader_words.specs.Words.{function_word}
use Rattle.annot_reader_words.specs.declared.word.FunctionWord.TheVariants as words
use Rattle.annot_reader_words.proofs.Folding.{fold, same_after}
use Rattle.annot_reader_words.proofs.Lists.{annots_in}
use Rattle.annot_reader_functions.specs.Steps.{noted_by, noted_step}

-- ---- tests

-- the first test fails, or is passed
pub fails : {A B : Type 0} (js : A → B → Type 0) (from rule : ℕ) (b : Bool) (c : Checked A) → b ≡ false → Tells js (keep from rule b >> c) (Err (Rule from rule))
fails js from rule true c e = absurd cc
fails js from rule false c e = (refl, refl)

pub passes : {A B : Type 0} (js : A → B → Type 0) (from rule : ℕ) (b : Bool) (c : Checked A) (r : Result B AnnotationError) → b ≡ true → Tells js c r → Tells js (keep from rule b >> c) r
passes js from rule true c r e h = h
passes js from rule false c r e h = absurd cc

-- what is needed isn't there, or is
pub lacks : {X A B : Type 0} (js : A → B → Type 0) (from rule : ℕ) (o : Option X) (f : X → Checked A) → o ≡ None → Tells js (need from rule o >>= f) (Err (Rule from rule))
lacks js from rule None f e = (refl, refl)
lacks js from rule (Some x) f e = absurd cc

pub has : {X A B : Type 0} (js : A → B → Type 0) (from rule : ℕ) (o : Option X) (x : X) (f : X → Checked A) (r : Result B AnnotationError) → o ≡ Some x → Tells js (f x) r → Tells js (need from rule o >>= f) r
has js from rule o x f r e h = subst (λ (p : Option _). Tells js (need from rule p >>= f) r) (sym e) h

pub none_there : (N : Nodes) (o : Option Factors) → MaybeStands N None o → o ≡ None
none_there N None h = refl
none_there N (Some x) h = absurd h

pub one_there : (N : Nodes) (v : Item) (o : Option Factors) → MaybeStands N (Some v) o → (x : Factors) × (o ≡ Some x) × StandsItem N v x
one_there N v None h = absurd h
one_there N v (Some x) h = (x, refl, h)

-- what is sought among numbers
pub among_is : (n : ℕ) (ms : List ℕ) → list_any (nat_eq n) ms ≡ among n ms
among_is n [] = refl
among_is n (m ∷ ms) = ap (λ b. nat_eq n m || b) (among_is n ms)

-- ---- cuts

module _ (from : ℕ) (is : Items) (k : FunctionKind) (params : List Parameter) (sync : List ℕ) (commit : Option (ℕ × Size)) (cache : Bool) (holds : List ℕ) {B : Type 0} (js : Notes → B → Type 0) where
  abbrev With : List (List ℕ) → Notes
  With cuts = record { cuts = cuts; params = params; sync = sync; commit = commit; cache = cache; holds = holds }

  pub cut_unfilled : (cuts : List (List ℕ)) → is_filled is ≡ false → Tells js (cut_word from is k (With cuts)) (Err (Rule from 1))
  cut_unfilled [] e = fails js from 1 (is_filled is) _ e
  cut_unfilled (c ∷ cs) e = fails js from 1 (is_filled is) _ e

  pub cut_again : (cuts : List (List ℕ)) → is_filled is ≡ true → is_empty cuts ≡ false → Tells js (cut_word from is k (With cuts)) (Err (Rule from 2))
  cut_again [] e f = absurd cc
  cut_again (c ∷ cs) e f = passes js from 1 (is_filled is) _ (Err (Rule from 2)) e (refl, refl)

  pub cut_at_main : (cuts : List (List ℕ)) → is_filled is ≡ true → is_empty cuts ≡ true → k.is_main ≡ true → Tells js (cut_word from is k (With cuts)) (Err (Rule from 9))
  cut_at_main [] e f g = passes js from 1 (is_filled is) _ (Err (Rule from 9)) e (fails js from 9 (not k.is_main) _ (ap not g))
  cut_at_main (c ∷ cs) e f g = absurd cc

  pub cut_tells : (cuts : List (List ℕ)) (r : Result B AnnotationError) → is_filled is ≡ true → is_empty cuts ≡ true → k.is_main ≡ false → Tells js (names_in from is >>= λ names. Fine (With names)) r → Tells js (cut_word from is k (With cuts)) r
  cut_tells [] r e f g h = passes js from 1 (is_filled is) _ r e (passes js from 9 (not k.is_main) (names_in from is >>= λ names. Fine (With names)) r (ap not g) h)
  cut_tells (c ∷ cs) r e f g h = absurd cc

-- a cut that a filled list of items names
every_filled : (from : ℕ) (x : Factors) (xs : Items) {B : Type 0} (is : List (List ℕ) → B → Type 0) (y : B) → Tells is (names_in from (MoreItems x xs)) (Ok y) → (ns : List (List ℕ)) × is ns y × (is_empty ns ≡ false)
every_filled from (OneFactor at (NameAtom name)) xs is y h = more (names_in from xs) h
  where
    more : (c : Checked (List (List ℕ))) → Tells is (c >>= λ ns. Fine (name ∷ ns)) (Ok y) → (ns : List (List ℕ)) × is ns y × (is_empty ns ≡ false)
    more (Fine ns) g = (name ∷ ns, g, refl)
    more (Noted n ns) g = (name ∷ ns, g, refl)
    more (Broken a b) g = absurd g
every_filled from (OneFactor at (NumberAtom n)) xs is y h = absurd h
every_filled from (OneFactor at ReturnAtom) xs is y h = absurd h
every_filled from (OneFactor at (SizeofAtom d)) xs is y h = absurd h
every_filled from (TwoFactors at a b) xs is y h = absurd h

-- ---- the other words

module _ (from : ℕ) (is : Items) (n : Notes) {B : Type 0} (js : Notes → B → Type 0) where
  sync_after : Signature → Factors → Checked Notes
  sync_after s x = key_parameter s x >>= λ p. (keep from 2 (not (among p n.sync)) >> Fine (record n { sync = n.sync ++ p ∷ [] }))

  pub sync_lacks : (s : Signature) → one_item is ≡ None → Tells js (sync_word from is s n) (Err (Rule from 1))
  sync_lacks s e = lacks js from 1 (one_item is) _ e

  pub sync_breaks : (s : Signature) (x : Factors) (e : AnnotationError) → one_item is ≡ Some x → Tells {B = ℕ} IsSame (key_parameter s x) (Err e) → Tells js (sync_word from is s n) (Err e)
  sync_breaks s x e i h = has js from 1 (one_item is) x _ (Err e) i (stops IsSame js (key_parameter s x) _ e h)

  pub sync_again : (s : Signature) (x : Factors) (p : ℕ) → one_item is ≡ Some x → Tells IsSame (key_parameter s x) (Ok p) → among p n.sync ≡ true → Tells js (sync_word from is s n) (Err (Rule from 2))
  sync_again s x p i h g =
      has js from 1 (one_item is) x _ (Err (Rule from 2)) i
      (follows IsSame js (key_parameter s x) _ p (Err (Rule from 2)) h (λ q e. fails js from 2 (not (among q n.sync)) _ (ap (λ z. not (among z n.sync)) (sym e) ∙ ap not g)))

  pub sync_tells : (s : Signature) (x : Factors) (p : ℕ) (r : Result B AnnotationError) → one_item is ≡ Some x → Tells IsSame (key_parameter s x) (Ok p) → among p n.sync ≡ false → Tells js (Fine (record n { sync = n.sync ++ p ∷ [] })) r → Tells js (sync_word from is s n) r
  sync_tells s x p r i h g t =
      has js from 1 (one_item is) x _ r i
      (follows IsSame js (key_parameter s x) _ p r h (λ q e.
      let P : ℕ → Type 0 = λ z. Tells js (keep from 2 (not (among z n.sync)) >> Fine (record n { sync = n.sync ++ z ∷ [] })) r in
      subst P e (passes js from 2 (not (among p n.sync)) (Fine (record n { sync = n.sync ++ p ∷ [] })) r (ap not g) t)))

  pub holds_lacks : (k : FunctionKind) → one_item is ≡ None → Tells js (holds_word from is k n) (Err (Rule from 1))
  holds_lacks k e = lacks js from 1 (one_item is) _ e

  pub holds_breaks : (k : FunctionKind) (x : Factors) (e : AnnotationError) → one_item is ≡ Some x → Tells {B = ℕ} IsSame (mutex x) (Err e) → Tells js (holds_word from is k n) (Err e)
  holds_breaks k x e i h = has js from 1 (one_item is) x _ (Err e) i (stops IsSame js (mutex x) _ e h)

  abbrev holds_after : FunctionKind → ℕ → Checked Notes
  holds_after k m = keep from 2 (not (among m n.holds)) >> (keep from 9 (not k.is_main) >> (keep from 8 k.has_body >> Fine (record n { holds = n.holds ++ m ∷ [] })))

  pub holds_tells : (k : FunctionKind) (x : Factors) (m : ℕ) (r : Result B AnnotationError) → one_item is ≡ Some x → Tells IsSame (mutex x) (Ok m) → Tells js (holds_after k m) r → Tells js (holds_word from is k n) r
  holds_tells k x m r i h t =
      has js from 1 (one_item is) x _ r i
      (follows IsSame js (mutex x) _ m r h (λ q e. let P : ℕ → Type 0 = λ z. Tells js (holds_after k z) r in subst P e t))

  pub held_again : (k : FunctionKind) (m : ℕ) → among m n.holds ≡ true → Tells js (holds_after k m) (Err (Rule from 2))
  held_again k m g = fails js from 2 (not (among m n.holds)) _ (ap not g)

  pub held_by_main : (k : FunctionKind) (m : ℕ) → among m n.holds ≡ false → k.is_main ≡ true → Tells js (holds_after k m) (Err (Rule from 9))
  held_by_main k m g h = passes js from 2 (not (among m n.holds)) _ (Err (Rule from 9)) (ap not g) (fails js from 9 (not k.is_main) _ (ap not h))

  pub held_without_body : (k : FunctionKind) (m : ℕ) → among m n.holds ≡ false → k.is_main ≡ false → k.has_body ≡ false → Tells js (holds_after k m) (Err (Rule from 8))
  held_without_body k m g h i = passes js from 2 (not (among m n.holds)) _ (Err (Rule from 8)) (ap not g) (passes js from 9 (not k.is_main) _ (Err (Rule from 8)) (ap not h) (fails js from 8 k.has_body _ i))

  pub held : (k : FunctionKind) (m : ℕ) (r : Result B AnnotationError) → among m n.holds ≡ false → k.is_main ≡ false → k.has_body ≡ true → Tells js (Fine (record n { holds = n.holds ++ m ∷ [] })) r → Tells js (holds_after k m) r
  held k m r g h i t = passes js from 2 (not (among m n.holds)) _ r (ap not g) (passes js from 9 (not k.is_main) _ r (ap not h) (passes js from 8 k.has_body _ r i t))

  abbrev commit_after : Signature → Factors → Factors → Checked Notes
  commit_after s x y = key_parameter s x >>= λ key. (size s true y >>= λ used. Fine (record n { commit = Some (key, used) }))

  pub commit_lacks : (s : Signature) → two_items is ≡ None → Tells js (commit_word from is s n) (Err (Rule from 1))
  commit_lacks s e = lacks js from 1 (two_items is) _ e

  pub commit_again : (s : Signature) (x y : Factors) → two_items is ≡ Some (x, y) → is_none n.commit ≡ false → Tells js (commit_word from is s n) (Err (Rule from 2))
  commit_again s x y i g = has js from 1 (two_items is) (x, y) _ (Err (Rule from 2)) i (fails js from 2 (is_none n.commit) _ g)

  pub commit_tells : (s : Signature) (x y : Factors) (r : Result B AnnotationError) → two_items is ≡ Some (x, y) → is_none n.commit ≡ true → Tells js (commit_after s x y) r → Tells js (commit_word from is s n) r
  commit_tells s x y r i g t = has js from 1 (two_items is) (x, y) _ r i (passes js from 2 (is_none n.commit) _ r g t)

  pub key_breaks : (s : Signature) (x y : Factors) (e : AnnotationError) → Tells {B = ℕ} IsSame (key_parameter s x) (Err e) → Tells js (commit_after s x y) (Err e)
  key_breaks s x y e h = stops IsSame js (key_parameter s x) _ e h

  pub used_breaks : (s : Signature) (x y : Factors) (p : ℕ) (e : AnnotationError) → Tells IsSame (key_parameter s x) (Ok p) → Tells {B = Size} IsSame (size s true y) (Err e) → Tells js (commit_after s x y) (Err e)
  used_breaks s x y p e h k = follows IsSame js (key_parameter s x) _ p (Err e) h (λ q g. stops IsSame js (size s true y) _ e k)

  pub committed : (s : Signature) (x y : Factors) (p : ℕ) (z : Size) (r : Result B AnnotationError) → Tells IsSame (key_parameter s x) (Ok p) → Tells IsSame (size s true y) (Ok z) → Tells js (Fine (record n { commit = Some (p, z) })) r → Tells js (commit_after s x y) r
  committed s x y p z r h k t =
      follows IsSame js (key_parameter s x) _ p r h (λ q g. follows IsSame js (size s true y) _ z r k (λ w f.
      let P : ℕ × Size → Type 0 = λ u. Tells js (Fine (record n { commit = Some (u.0, u.1) })) r in
      let same : (p, z) ≡ (q, w) = ap (λ u. (u, z)) g ∙ ap (λ u. (q, u)) f in
      subst P same t))

-- ---- any word

by_tests : (a b c d e : Bool) (f : ℕ) (is : Items) (s : Signature) (k : FunctionKind) (n : Notes) →
    (if a then cut_word f is k n else if b then sync_word f is s n else if c then commit_word f is s n else if d then (alone f is n.cache >> Fine (record n { cache = true })) else if e then holds_word f is k n else Broken f 1)
    ≡ noted_by (if a then Some words.Cut else if b then Some words.Sync else if c then Some words.Commit else if d then Some words.Cache else if e then Some words.Holds else None) f is s k n
by_tests true b c d e f is s k n = refl
by_tests false true c d e f is s k n = refl
by_tests false false true d e f is s k n = refl
by_tests false false false true e f is s k n = refl
by_tests false false false false true f is s k n = refl
by_tests false false false false false f is s k n = refl

pub noted_is : (f : ℕ) (word : List ℕ) (is : Items) (s : Signature) (k : FunctionKind) (n : Notes) → noted (Annotate f word is) s k n ≡ noted_by (function_word word) f is s k n
noted_is f word is s k n = by_tests (same_name word (codes "cut")) (same_name word (codes "sync")) (same_name word (codes "commit")) (same_name word (codes "cache")) (same_name word (codes "holds")) f is s k n

pub noted_fold : (an : Annots) (s : Signature) (k : FunctionKind) (n : Notes) → all_noted an s k n ≡ fold (noted_step s k) (annots_in an) n
noted_fold NoAnnots s k n = refl
noted_fold (MoreAnnots x xs) s k n = same_after (noted x s k n) (λ m. all_noted xs s k m) (fold (noted_step s k) (annots_in xs)) (noted_fold xs s k)

-- ---- tests on numbers

same_tests : (x y : Bool) → (x ≡ true → y ≡ true) → (y ≡ true → x ≡ true) → x ≡ y
same_tests true true p q = refl
same_tests true false p q = sym (p refl)
same_tests false true p q = q refl
same_tests false false p q = refl

flipped : (a b : ℕ) → nat_eq a b ≡ nat_eq b a
flipped a b = same_tests (nat_eq a b) (nat_eq b a) (λ e. eq-eqb b a (sym (eqb-true a b e))) (λ e. eq-eqb a b (sym (eqb-true b a e)))

pub among_too : (n : ℕ) (ms : List ℕ) → list_any (λ m. nat_eq m n) ms ≡ among n ms
among_too n [] = refl
among_too n (m ∷ ms) = ap (λ b. b || list_any (λ k. nat_eq k n) ms) (flipped m n) ∙ ap (λ b. nat_eq n m || b) (among_too n ms)
