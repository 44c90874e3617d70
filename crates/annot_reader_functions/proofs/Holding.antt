-- Mutexes that callers hold are held after further annotations too.
use Rattle.std.proofs.Common.{◌≡◌, ℕ, not, is_none, Bool, true, false, List, [], ◌∷◌, ◌++◌, Option, Some, None, refl, subst}
use Rattle.c_syntax.specs.Syntax.{Annots, Annotate, NoAnnots, MoreAnnots, Items, Item as Factors}
use Rattle.c_types_rules.specs.Checked.{Checked, Fine, Broken, keep, need, ◌>>=◌, ◌>>◌}
use Rattle.annot_reader_rules.specs.Functions.{FunctionKind, all_noted, among, commit_word, cut_word, holds_word, is_filled, mutex, names_in, no_holds, noted, sync_word, two_items}
use Rattle.annot_reader_rules.specs.Notes.{Notes}
use Rattle.annot_reader_rules.specs.Regions.{Signature, alone, key_parameter, one_item, size}
use Rattle.stub_core.specs.declared.terms.Size.{Size}
use Rattle.annot_reader_words.specs.declared.word.FunctionWord.{FunctionWord}
use Rattle.annot_reader_words.specs.declared.word.FunctionWord.TheVariants as words
use Rattle.annot_reader_words.specs.Words.{function_word}
use Rattle.annot_reader_functions.specs.Steps.{cache_word, noted_by}
use Rattle.annot_reader_functions.proofs.Finding.{Finds, Is, into, past}
use Rattle.annot_reader_functions.proofs.Wording.{noted_is}

-- one more is held
filled : (ms : List ℕ) (p : ℕ) → no_holds (ms ++ p ∷ []) ≡ false
filled [] p = refl
filled (m ∷ ms) p = refl

module _ (from : ℕ) (is : Items) (n m : Notes) where
  -- mutexes that were held are held
  abbrev Holds : Type 0
  Holds = no_holds n.holds ≡ false → no_holds m.holds ≡ false

  -- what the last step finds
  told : (q : Notes) → (no_holds n.holds ≡ false → no_holds q.holds ≡ false) → Finds m (Fine q) → Holds
  told q f h e = subst (λ (x : Notes). no_holds x.holds ≡ false) h (f e)

  after : {A P : Type 0} (c : Checked A) (f : A → Checked Notes) → ((x : A) → Finds m (f x) → P) → Finds m (c >>= f) → P
  after c f g h = let one = into (Is m) tt c f h in g one.0 one.2

  next : {A P : Type 0} (c : Checked A) (d : Checked Notes) → (Finds m d → P) → Finds m (c >> d) → P
  next c d g h = g (past (Is m) tt c d h)

  cut_holds : (k : FunctionKind) (cuts : List (List ℕ)) → Finds m (cut_word from is k (record n { cuts = cuts })) → Holds
  cut_holds k [] h =
      let named : List (List ℕ) → Checked Notes = λ names. Fine (record n { cuts = names }) in
      let main : Checked Notes = keep from 9 (not k.is_main) >> (names_in from is >>= named) in
      next (keep from 1 (is_filled is)) main (next (keep from 9 (not k.is_main)) (names_in from is >>= named)
      (after (names_in from is) named (λ names. told (record n { cuts = names }) (λ e. e)))) h
  cut_holds k (c ∷ cs) h = absurd (past (Is m) tt (keep from 1 (is_filled is)) (Broken from 2) h)

  sync_holds : (s : Signature) → Finds m (sync_word from is s n) → Holds
  sync_holds s =
      let last : ℕ → Checked Notes = λ p. Fine (record n { sync = n.sync ++ p ∷ [] }) in
      let test : ℕ → Checked Notes = λ p. keep from 2 (not (among p n.sync)) >> last p in
      after (need from 1 (one_item is)) (λ x. key_parameter s x >>= test) (λ x. after (key_parameter s x) test (λ p.
      next (keep from 2 (not (among p n.sync))) (last p) (told (record n { sync = n.sync ++ p ∷ [] }) (λ e. e))))

  commit_holds : (s : Signature) → Finds m (commit_word from is s n) → Holds
  commit_holds s =
      let last : ℕ → Size → Checked Notes = λ key used. Fine (record n { commit = Some (key, used) }) in
      let sized : Factors × Factors → ℕ → Checked Notes = λ xs key. size s true xs.1 >>= last key in
      let keyed : Factors × Factors → Checked Notes = λ xs. key_parameter s xs.0 >>= sized xs in
      after (need from 1 (two_items is)) (λ xs. keep from 2 (is_none n.commit) >> keyed xs) (λ xs. next (keep from 2 (is_none n.commit)) (keyed xs)
      (after (key_parameter s xs.0) (sized xs) (λ key. after (size s true xs.1) (last key) (λ used. told (record n { commit = Some (key, used) }) (λ e. e)))))

  cache_holds : Finds m (cache_word from is n) → Holds
  cache_holds = next (alone from is n.cache) (Fine (record n { cache = true })) (told (record n { cache = true }) (λ e. e))

  pub holds_one : (k : FunctionKind) → Finds m (holds_word from is k n) → no_holds m.holds ≡ false
  holds_one k =
      let last : ℕ → Checked Notes = λ p. Fine (record n { holds = n.holds ++ p ∷ [] }) in
      let body : ℕ → Checked Notes = λ p. keep from 8 k.has_body >> last p in
      let main : ℕ → Checked Notes = λ p. keep from 9 (not k.is_main) >> body p in
      let test : ℕ → Checked Notes = λ p. keep from 2 (not (among p n.holds)) >> main p in
      after (need from 1 (one_item is)) (λ x. mutex x >>= test) (λ x. after (mutex x) test (λ p.
      next (keep from 2 (not (among p n.holds))) (main p) (next (keep from 9 (not k.is_main)) (body p) (next (keep from 8 k.has_body) (last p)
      (λ h. subst (λ (q : Notes). no_holds q.holds ≡ false) h (filled n.holds p))))))

  step : (s : Signature) (k : FunctionKind) (w : Option FunctionWord) → Finds m (noted_by w from is s k n) → Holds
  step s k (Some words.Cut) h = cut_holds k n.cuts h
  step s k (Some words.Sync) h = sync_holds s h
  step s k (Some words.Commit) h = commit_holds s h
  step s k (Some words.Cache) h = cache_holds h
  step s k (Some words.Holds) h = λ e. holds_one k h
  step s k None h = absurd h

pub held_after : (an : Annots) (s : Signature) (k : FunctionKind) (n to : Notes) → no_holds n.holds ≡ false → Finds to (all_noted an s k n) → no_holds to.holds ≡ false
held_after NoAnnots s k n to e h = subst (λ (q : Notes). no_holds q.holds ≡ false) h e
held_after (MoreAnnots (Annotate from word is) xs) s k n to e h =
    let one = into (Is to) tt (noted (Annotate from word is) s k n) (λ m. all_noted xs s k m) h in
    held_after xs s k one.0 to (step from is n one.0 s k (function_word word) (subst (Finds one.0) (noted_is from word is s k n) one.1) e) one.2
