-- What annotations of a function say beside what they say of its parameters is the same whatever these are, and
-- whether it has a body, where no mutexes are held.
use Rattle.std.proofs.Common.{◌≡◌, ℕ, ◌^◌, nat_lt, not, is_none, Bool, true, false, if◌then◌else◌, List, [], ◌∷◌, ◌++◌, Option, Some, None, refl, sym, ap, ◌∙◌, subst}
use Rattle.c_syntax.specs.Syntax.{Annots, Annot, Annotate, NoAnnots, MoreAnnots, Items, NoItems, MoreItems, Item as Factors, OneFactor, TwoFactors, NameAtom, NumberAtom, ReturnAtom, SizeofAtom}
use Rattle.c_types_rules.specs.Checked.{Checked, Fine, Broken, keep, need, ◌>>=◌, ◌>>◌}
use Rattle.annot_reader_rules.specs.Functions.{FunctionKind, all_noted, among, commit_word, cut_word, holds_word, is_filled, mutex, names_in, no_holds, noted, sync_word, two_items}
use Rattle.annot_reader_rules.specs.Notes.{Notes, Parameter}
use Rattle.annot_reader_rules.specs.Regions.{Signature, alone, key_parameter, no_items, one_item, size}
use Rattle.stub_core.specs.declared.terms.Size.{Size}
use Rattle.annot_reader_words.specs.declared.word.FunctionWord.{FunctionWord}
use Rattle.annot_reader_words.specs.declared.word.FunctionWord.TheVariants as words
use Rattle.annot_reader_words.specs.Words.{function_word}
use Rattle.annot_reader_words.proofs.Folding.{same_after}
use Rattle.annot_reader_functions.specs.Known.{of_parameters, parameter_words, with_parameters}
use Rattle.annot_reader_functions.specs.Steps.{noted_by}
use Rattle.annot_reader_functions.proofs.Finding.{Finds, Is, into, past}
use Rattle.annot_reader_functions.proofs.Holding.{held_after, holds_one}
use Rattle.annot_reader_functions.proofs.Steps.{after_assoc, bind_assoc}
use Rattle.annot_reader_functions.proofs.Wording.{noted_is}

-- ---- steps that note nothing on the way, and say nothing of parameters

module _ (y z : Notes) where
  kept : (from rule : ℕ) (b : Bool) (c d : Checked Notes) → (Finds y c → d ≡ Fine z) → Finds y (keep from rule b >> c) → (keep from rule b >> d) ≡ Fine z
  kept from rule true c d k h = k h
  kept from rule false c d k h = absurd h

  -- the second need not hold but where it is asked for
  kept_other : (from rule : ℕ) (a b : Bool) (c d : Checked Notes) → b ≡ true → (Finds y c → d ≡ Fine z) → Finds y (keep from rule a >> c) → (keep from rule b >> d) ≡ Fine z
  kept_other from rule true true c d e k h = k h
  kept_other from rule true false c d e k h = absurd cc
  kept_other from rule false b c d e k h = absurd h

  kept_both : (from one other : ℕ) (a b : Bool) (c d : Checked Notes) → (Finds y c → d ≡ Fine z) → Finds y ((keep from one a >> keep from other b) >> c) → ((keep from one a >> keep from other b) >> d) ≡ Fine z
  kept_both from one other true true c d k h = k h
  kept_both from one other true false c d k h = absurd h
  kept_both from one other false b c d k h = absurd h

  needed : {X : Type 0} (from rule : ℕ) (o : Option X) (f g : X → Checked Notes) → ((x : X) → Finds y (f x) → g x ≡ Fine z) → Finds y (need from rule o >>= f) → (need from rule o >>= g) ≡ Fine z
  needed from rule (Some x) f g k h = k x h
  needed from rule None f g k h = absurd h

  named : (from : ℕ) (is : Items) (f g : List (List ℕ) → Checked Notes) → ((ns : List (List ℕ)) → Finds y (f ns) → g ns ≡ Fine z) → Finds y (names_in from is >>= f) → (names_in from is >>= g) ≡ Fine z
  named from NoItems f g k h = k [] h
  named from (MoreItems (OneFactor at (NameAtom name)) xs) f g k h =
      let more : List (List ℕ) → Checked (List (List ℕ)) = λ ns. Fine (name ∷ ns) in
      bind_assoc (names_in from xs) more g
      ∙ named from xs (λ ns. f (name ∷ ns)) (λ ns. g (name ∷ ns)) (λ ns. k (name ∷ ns)) (subst (Finds y) (bind_assoc (names_in from xs) more f) h)
  named from (MoreItems (OneFactor at (NumberAtom n)) xs) f g k h = absurd h
  named from (MoreItems (OneFactor at ReturnAtom) xs) f g k h = absurd h
  named from (MoreItems (OneFactor at (SizeofAtom d)) xs) f g k h = absurd h
  named from (MoreItems (TwoFactors at a b) xs) f g k h = absurd h

  numbered : (x : Factors) (f g : ℕ → Checked Notes) → ((m : ℕ) → Finds y (f m) → g m ≡ Fine z) → Finds y (mutex x >>= f) → (mutex x >>= g) ≡ Fine z
  numbered (OneFactor from (NumberAtom n)) f g k h = by (nat_lt n (2 ^ 31)) h
    where
      by : (b : Bool) → Finds y ((keep from 8 b >> Fine n) >>= f) → ((keep from 8 b >> Fine n) >>= g) ≡ Fine z
      by true i = k n i
      by false i = absurd i
  numbered (OneFactor from (NameAtom name)) f g k h = absurd h
  numbered (OneFactor from ReturnAtom) f g k h = absurd h
  numbered (OneFactor from (SizeofAtom d)) f g k h = absurd h
  numbered (TwoFactors from a b) f g k h = absurd h

-- ---- one annotation

-- the same is found with anything else said of parameters
with_too : (m n z : Notes) → n ≡ m → Fine (with_parameters n z) ≡ Fine (with_parameters m z)
with_too m n z e = ap (λ (q : Notes). Fine (with_parameters q z)) e

module _ (from : ℕ) (is : Items) where
  cut_apart : (k : FunctionKind) (m z : Notes) (cuts : List (List ℕ)) (params : List Parameter) (sync : List ℕ) (commit : Option (ℕ × Size)) (cache : Bool) (holds : List ℕ) →
      Finds m (cut_word from is k (record { cuts = cuts; params = params; sync = sync; commit = commit; cache = cache; holds = holds })) →
      cut_word from is k (record { cuts = cuts; params = params; sync = z.sync; commit = z.commit; cache = cache; holds = holds }) ≡ Fine (with_parameters m z)
  cut_apart k m z [] params sync commit cache holds h =
      let old : List (List ℕ) → Checked Notes = λ names. Fine (record { cuts = names; params = params; sync = sync; commit = commit; cache = cache; holds = holds }) in
      let new : List (List ℕ) → Checked Notes = λ names. Fine (record { cuts = names; params = params; sync = z.sync; commit = z.commit; cache = cache; holds = holds }) in
      let main : Checked (Unit {0}) = keep from 9 (not k.is_main) in
      kept m (with_parameters m z) from 1 (is_filled is) (main >> (names_in from is >>= old)) (main >> (names_in from is >>= new))
      (kept m (with_parameters m z) from 9 (not k.is_main) (names_in from is >>= old) (names_in from is >>= new)
      (named m (with_parameters m z) from is old new (λ names e. with_too m (record { cuts = names; params = params; sync = sync; commit = commit; cache = cache; holds = holds }) z e))) h
  cut_apart k m z (c ∷ cs) params sync commit cache holds h = absurd (past (Is m) tt (keep from 1 (is_filled is)) (Broken from 2) h)

  cache_apart : (m z n : Notes) → Finds m (alone from is n.cache >> Fine (record n { cache = true })) → (alone from is n.cache >> Fine (record (with_parameters n z) { cache = true })) ≡ Fine (with_parameters m z)
  cache_apart m z n h =
      kept_both m (with_parameters m z) from 1 2 (no_items is) (not n.cache) (Fine (record n { cache = true })) (Fine (record (with_parameters n z) { cache = true }))
      (λ e. with_too m (record n { cache = true }) z e) h

  holds_apart : (k : FunctionKind) (b : Bool) (m z n : Notes) → b ≡ true → Finds m (holds_word from is k n) → holds_word from is (record k { has_body = b }) (with_parameters n z) ≡ Fine (with_parameters m z)
  holds_apart k b m z n e h =
      let to = with_parameters m z in
      let last : Notes → ℕ → Checked Notes = λ q p. Fine (record q { holds = n.holds ++ p ∷ [] }) in
      let body : Bool → Notes → ℕ → Checked Notes = λ a q p. keep from 8 a >> last q p in
      let main : Bool → Notes → ℕ → Checked Notes = λ a q p. keep from 9 (not k.is_main) >> body a q p in
      let test : Bool → Notes → ℕ → Checked Notes = λ a q p. keep from 2 (not (among p n.holds)) >> main a q p in
      let held : Bool → Notes → Factors → Checked Notes = λ a q x. mutex x >>= test a q in
      let has = k.has_body in
      let new = with_parameters n z in
      needed m to from 1 (one_item is) (held has n) (held b new) (λ x. numbered m to x (test has n) (test b new) (λ p.
      kept m to from 2 (not (among p n.holds)) (main has n p) (main b new p)
      (kept m to from 9 (not k.is_main) (body has n p) (body b new p)
      (kept_other m to from 8 has b (last n p) (last new p) e (λ g. with_too m (record n { holds = n.holds ++ p ∷ [] }) z g))))) h

  -- words that speak of parameters say nothing else
  sync_beside : (s : Signature) (n z : Notes) → sync_word from is s (with_parameters n z) ≡ (sync_word from is s z >>= λ m. Fine (with_parameters n m))
  sync_beside s n z =
      let put : Notes → Checked Notes = λ m. Fine (with_parameters n m) in
      let last : ℕ → Checked Notes = λ p. Fine (record z { sync = z.sync ++ p ∷ [] }) in
      let test : ℕ → Checked Notes = λ p. keep from 2 (not (among p z.sync)) >> last p in
      let key : Factors → Checked Notes = λ x. key_parameter s x >>= test in
      let both : ℕ → Checked Notes = λ p. keep from 2 (not (among p z.sync)) >> Fine (with_parameters n (record z { sync = z.sync ++ p ∷ [] })) in
      let keyed : Factors → Checked Notes = λ x. key_parameter s x >>= both in
      let one : (x : Factors) → (key x >>= put) ≡ keyed x = λ x. bind_assoc (key_parameter s x) test put ∙ same_after (key_parameter s x) (λ p. test p >>= put) both (λ p. after_assoc (keep from 2 (not (among p z.sync))) (last p) put) in
      sym (bind_assoc (need from 1 (one_item is)) key put ∙ same_after (need from 1 (one_item is)) (λ x. key x >>= put) keyed one)

  commit_beside : (s : Signature) (n z : Notes) → commit_word from is s (with_parameters n z) ≡ (commit_word from is s z >>= λ m. Fine (with_parameters n m))
  commit_beside s n z =
      let put : Notes → Checked Notes = λ m. Fine (with_parameters n m) in
      let last : ℕ → Size → Checked Notes = λ key used. Fine (record z { commit = Some (key, used) }) in
      let used : Factors → ℕ → Checked Notes = λ x key. size s true x >>= last key in
      let key : Factors × Factors → Checked Notes = λ xs. key_parameter s xs.0 >>= used xs.1 in
      let test : Factors × Factors → Checked Notes = λ xs. keep from 2 (is_none z.commit) >> key xs in
      let put_last : ℕ → Size → Checked Notes = λ key used. Fine (with_parameters n (record z { commit = Some (key, used) })) in
      let put_used : Factors → ℕ → Checked Notes = λ x key. size s true x >>= put_last key in
      let put_key : Factors × Factors → Checked Notes = λ xs. key_parameter s xs.0 >>= put_used xs.1 in
      let put_test : Factors × Factors → Checked Notes = λ xs. keep from 2 (is_none z.commit) >> put_key xs in
      let one : (xs : Factors × Factors) → (key xs >>= put) ≡ put_key xs = λ xs. bind_assoc (key_parameter s xs.0) (used xs.1) put ∙ same_after (key_parameter s xs.0) (λ p. used xs.1 p >>= put) (put_used xs.1) (λ p. bind_assoc (size s true xs.1) (last p) put) in
      let two : (xs : Factors × Factors) → (test xs >>= put) ≡ put_test xs = λ xs. after_assoc (keep from 2 (is_none z.commit)) (key xs) put ∙ ap (λ c. keep from 2 (is_none z.commit) >> c) (one xs) in
      sym (bind_assoc (need from 1 (two_items is)) test put ∙ same_after (need from 1 (two_items is)) (λ xs. test xs >>= put) put_test two)

-- ---- all annotations, for one function where they say this, and then for another, with a body where mutexes
-- are held

module _ (s u : Signature) (k : FunctionKind) (b : Bool) (to : Notes) (body : b ≡ false → no_holds to.holds ≡ true) where
  abbrev other : FunctionKind
  other = record k { has_body = b }

  -- those that are left say it from here on, where the parameter words say this
  abbrev Goes : Annots → Type 0
  Goes an = (n z : Notes) → Finds to (all_noted an s k n) → all_noted an u other (with_parameters n z) ≡ (all_noted (parameter_words an) u other z >>= λ m. Fine (with_parameters to m))

  -- it has a body where a mutex is held on the way
  bodied : (xs : Annots) (m : Notes) → no_holds m.holds ≡ false → Finds to (all_noted xs s k m) → b ≡ true
  bodied xs m e h = by b refl
    where
      by : (a : Bool) → b ≡ a → b ≡ true
      by true is = is
      by false is = is ∙ (sym (held_after xs s k m to e h) ∙ body is)

  apart : (x : Annot) (xs : Annots) (n z : Notes) → ((m : Notes) → Finds m (noted x s k n) → Finds to (all_noted xs s k m) → noted x u other (with_parameters n z) ≡ Fine (with_parameters m z)) → Goes xs → Finds to (all_noted (MoreAnnots x xs) s k n) →
      all_noted (MoreAnnots x xs) u other (with_parameters n z) ≡ (all_noted (parameter_words xs) u other z >>= λ m. Fine (with_parameters to m))
  apart x xs n z f rest h =
      let one = into (Is to) tt (noted x s k n) (λ m. all_noted xs s k m) h in
      ap (λ c. c >>= λ m. all_noted xs u other m) (f one.0 one.1 one.2) ∙ rest one.0 z one.2

  -- what an annotation says beside what is said
  abbrev Adds : Annot → Notes → Type 0
  Adds x n = (v : Signature) (j : FunctionKind) (y : Notes) → noted x v j (with_parameters n y) ≡ (noted x v j y >>= λ m. Fine (with_parameters n m))

  beside : (x : Annot) (xs : Annots) (n z : Notes) → Adds x n → Goes xs → Finds to (all_noted (MoreAnnots x xs) s k n) →
      all_noted (MoreAnnots x xs) u other (with_parameters n z) ≡ (all_noted (MoreAnnots x (parameter_words xs)) u other z >>= λ m. Fine (with_parameters to m))
  beside x xs n z f rest h =
      let put : Notes → Checked Notes = λ m. Fine (with_parameters n m) in
      let end : Notes → Checked Notes = λ m. Fine (with_parameters to m) in
      let all : Notes → Checked Notes = λ m. all_noted xs u other m in
      let some : Notes → Checked Notes = λ m. all_noted (parameter_words xs) u other m in
      let one = into (Is to) tt (noted x s k n) (λ m. all_noted xs s k m) h in
      let two = into (Is one.0) tt (noted x s k n) put (subst (Finds one.0) (f s k n) one.1) in
      let next : (m : Notes) → all (with_parameters n m) ≡ (some m >>= end) = λ m. subst (λ (q : Notes). all (with_parameters q m) ≡ (some m >>= end)) (sym two.2) (rest one.0 m one.2) in
      ap (λ c. c >>= all) (f u other z) ∙ (bind_assoc (noted x u other z) put all ∙ (same_after (noted x u other z) (λ m. all (with_parameters n m)) (λ m. some m >>= end) next ∙ sym (bind_assoc (noted x u other z) some end)))

  module _ (from : ℕ) (word : List ℕ) (is : Items) (xs : Annots) (n z : Notes) where
    abbrev x : Annot
    x = Annotate from word is

    -- it stands for this word
    abbrev Says : Option FunctionWord → Type 0
    Says w = (v : Signature) (j : FunctionKind) (y : Notes) → noted x v j y ≡ noted_by w from is v j y

    -- a word that speaks of parameters
    by_parameters : (w : FunctionWord) → Says (Some w) → ((v : Signature) (j : FunctionKind) (y : Notes) → noted_by (Some w) from is v j (with_parameters n y) ≡ (noted_by (Some w) from is v j y >>= λ m. Fine (with_parameters n m))) → Adds x n
    by_parameters w e f v j y = e v j (with_parameters n y) ∙ (f v j y ∙ ap (λ c. c >>= λ m. Fine (with_parameters n m)) (sym (e v j y)))

    step : (w : Option FunctionWord) → Says w → Goes xs → Finds to (all_noted (MoreAnnots x xs) s k n) →
        all_noted (MoreAnnots x xs) u other (with_parameters n z) ≡ (all_noted (if of_parameters w then MoreAnnots x (parameter_words xs) else parameter_words xs) u other z >>= λ m. Fine (with_parameters to m))
    step (Some words.Cut) e rest h =
        apart x xs n z (λ m g after. e u other (with_parameters n z) ∙ cut_apart from is k m z n.cuts n.params n.sync n.commit n.cache n.holds (subst (Finds m) (e s k n) g)) rest h
    step (Some words.Sync) e rest h = beside x xs n z (by_parameters words.Sync e (λ v j y. sync_beside from is v n y)) rest h
    step (Some words.Commit) e rest h = beside x xs n z (by_parameters words.Commit e (λ v j y. commit_beside from is v n y)) rest h
    step (Some words.Cache) e rest h =
        apart x xs n z (λ m g after. e u other (with_parameters n z) ∙ cache_apart from is m z n (subst (Finds m) (e s k n) g)) rest h
    step (Some words.Holds) e rest h =
        apart x xs n z (λ m g after.
        let one : Finds m (holds_word from is k n) = subst (Finds m) (e s k n) g in
        e u other (with_parameters n z) ∙ holds_apart from is k b m z n (bodied xs m (holds_one from is n m k one) after) one) rest h
    step None e rest h =
        let one : Finds to (Broken from 1 >>= λ m. all_noted xs s k m) = subst (λ c. Finds to (c >>= λ m. all_noted xs s k m)) (e s k n) h in
        absurd one

  pub all_beside : (an : Annots) → Goes an
  all_beside NoAnnots n z h = with_too to n z h
  all_beside (MoreAnnots (Annotate from word is) xs) n z h = step from word is xs n z (function_word word) (λ v j y. noted_is from word is v j y) (λ m y g. all_beside xs m y g) h
