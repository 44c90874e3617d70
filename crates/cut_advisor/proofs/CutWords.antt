-- The cuts that are noted of a function are those that its annotations name.
use Rattle.std.proofs.Common.{◌≡◌, ℕ, Bool, true, false, not, ◌||◌, if◌then◌else◌, List, [], ◌∷◌, ◌++◌, codes, is_none, Option, Some, refl, ap, ◌∙◌, subst, append_assoc}
use Rattle.c_scopes.specs.Scopes.{same_name}
use Rattle.c_syntax.specs.Syntax.{Annot, Annots, Annotate, Decl, Declare, Items, Item, MoreAnnots, MoreItems, NoAnnots, NoItems, OneFactor, TwoFactors, NameAtom, NumberAtom, ReturnAtom, SizeofAtom}
use Rattle.c_types_model.specs.Types.{CType, CTypes}
use Rattle.c_types_rules.specs.Checked.{Checked, Fine, Noted, Broken, Notes as Noting, keep, need, noting, ◌>>=◌, ◌>>◌}
use Rattle.c_types_rules.specs.Environment.{Environment, inner}
use Rattle.annot_reader_rules.specs.Functions.{FunctionKind, all_noted, all_parameters, among, commit_word, cut_word, function_notes, holds_word, is_empty, is_filled, mutex, named_parameters, names_in, no_holds, noted, nothing, own_parameters, result_parts, sync_word, two_items, within}
use Rattle.annot_reader_rules.specs.Notes.{Notes, Parameter}
use Rattle.annot_reader_rules.specs.Regions.{Signature, alone, key_parameter, one_item, size}
use Rattle.annot_reader_rules.specs.Misplaced.{bare_annots, bare_parts, bare_rest}
use Rattle.stub_core.specs.declared.terms.Size.{Size}
use Rattle.cut_advisor.specs.CutPuts.{annot_names, annots_names, decl_names, items_names}

-- ---- what is found

abbrev pub Gives : {A : Type 0} → (A → Type 0) → Checked A → Type 0
Gives P (Fine x) = P x
Gives P (Noted n x) = P x
Gives P (Broken from rule) = Unit {0}

pub noting_gives : {A : Type 0} (P : A → Type 0) (n : Noting) (c : Checked A) → Gives P c → Gives P (noting n c)
noting_gives P n (Fine x) h = h
noting_gives P n (Noted m x) h = h
noting_gives P n (Broken f r) h = tt

pub then_gives : {A B : Type 0} (P : A → Type 0) (Q : B → Type 0) (c : Checked A) (f : A → Checked B) → Gives P c → ((x : A) → P x → Gives Q (f x)) → Gives Q (c >>= f)
then_gives P Q (Fine x) f h k = k x h
then_gives P Q (Noted n x) f h k = noting_gives Q n (f x) (k x h)
then_gives P Q (Broken a b) f h k = tt

pub after_gives : {A B : Type 0} (Q : B → Type 0) (c : Checked A) (f : A → Checked B) → ((x : A) → Gives Q (f x)) → Gives Q (c >>= f)
after_gives Q (Fine x) f k = k x
after_gives Q (Noted n x) f k = noting_gives Q n (f x) (k x)
after_gives Q (Broken a b) f k = tt

pub next_gives : {A B : Type 0} (Q : B → Type 0) (c : Checked A) (d : Checked B) → Gives Q d → Gives Q (c >> d)
next_gives Q (Fine x) d h = h
next_gives Q (Noted n x) d h = noting_gives Q n d h
next_gives Q (Broken a b) d h = tt

-- ---- words

abbrev AreNames : Items → List (List ℕ) → Type 0
AreNames is ns = ns ≡ items_names is

names_given : (from : ℕ) (is : Items) → Gives (AreNames is) (names_in from is)
names_given from NoItems = refl
names_given from (MoreItems (OneFactor at (NameAtom name)) xs) = then_gives (AreNames xs) (AreNames (MoreItems (OneFactor at (NameAtom name)) xs)) (names_in from xs) (λ ns. Fine (name ∷ ns)) (names_given from xs) (λ ns e. ap (λ l. name ∷ l) e)
names_given from (MoreItems (OneFactor at (NumberAtom n)) xs) = tt
names_given from (MoreItems (OneFactor at ReturnAtom) xs) = tt
names_given from (MoreItems (OneFactor at (SizeofAtom d)) xs) = tt
names_given from (MoreItems (TwoFactors at a b) xs) = tt

-- these are its cuts
abbrev pub HasCuts : List (List ℕ) → Notes → Type 0
HasCuts cs n = n.cuts ≡ cs

module _ (from : ℕ) (is : Items) (k : FunctionKind) (params : List Parameter) (sync : List ℕ) (commit : Option (ℕ × Size)) (cache : Bool) (holds : List ℕ) where
  abbrev With : List (List ℕ) → Notes
  With cuts = record { cuts = cuts; params = params; sync = sync; commit = commit; cache = cache; holds = holds }

  cut_given : (cuts : List (List ℕ)) → Gives (HasCuts (cuts ++ items_names is)) (cut_word from is k (With cuts))
  cut_given [] =
      let named : Checked Notes = names_in from is >>= λ ns. Fine (With ns) in
      next_gives (HasCuts (items_names is)) (keep from 1 (is_filled is)) (keep from 9 (not k.is_main) >> named)
      (next_gives (HasCuts (items_names is)) (keep from 9 (not k.is_main)) named
      (then_gives (AreNames is) (HasCuts (items_names is)) (names_in from is) (λ ns. Fine (With ns)) (names_given from is) (λ ns e. e)))
  cut_given (c ∷ cs) = next_gives (HasCuts ((c ∷ cs) ++ items_names is)) (keep from 1 (is_filled is)) (Broken from 2) tt

append_nothing : (cs : List (List ℕ)) → cs ≡ cs ++ []
append_nothing [] = refl
append_nothing (c ∷ cs) = ap (λ l. c ∷ l) (append_nothing cs)

module _ (from : ℕ) (is : Items) (s : Signature) (k : FunctionKind) (n : Notes) where
  abbrev Same : Notes → Type 0
  Same = HasCuts (n.cuts ++ [])

  sync_given : Gives Same (sync_word from is s n)
  sync_given =
      let test : ℕ → Checked (Unit {0}) = λ p. keep from 2 (not (among p n.sync)) in
      let last : ℕ → Checked Notes = λ p. Fine (record n { sync = n.sync ++ p ∷ [] }) in
      let sent : ℕ → Checked Notes = λ p. test p >> last p in
      let keyed : Item → Checked Notes = λ x. key_parameter s x >>= sent in
      after_gives Same (need from 1 (one_item is)) keyed (λ x. after_gives Same (key_parameter s x) sent (λ p. next_gives Same (test p) (last p) (append_nothing n.cuts)))

  commit_given : Gives Same (commit_word from is s n)
  commit_given =
      let test : Checked (Unit {0}) = keep from 2 (is_none n.commit) in
      let used : ℕ → Size → Checked Notes = λ key z. Fine (record n { commit = Some (key, z) }) in
      let keyed : Item × Item → ℕ → Checked Notes = λ xs key. size s true xs.1 >>= used key in
      let after : Item × Item → Checked Notes = λ xs. key_parameter s xs.0 >>= keyed xs in
      let both : Item × Item → Checked Notes = λ xs. test >> after xs in
      after_gives Same (need from 1 (two_items is)) both
      (λ xs. next_gives Same test (after xs) (after_gives Same (key_parameter s xs.0) (keyed xs) (λ key. after_gives Same (size s true xs.1) (used key) (λ z. append_nothing n.cuts))))

  cache_given : Gives Same (alone from is n.cache >> Fine (record n { cache = true }))
  cache_given = next_gives Same (alone from is n.cache) (Fine (record n { cache = true })) (append_nothing n.cuts)

  holds_given : Gives Same (holds_word from is k n)
  holds_given =
      let held : ℕ → Checked Notes = λ m. Fine (record n { holds = n.holds ++ m ∷ [] }) in
      let bodied : ℕ → Checked Notes = λ m. keep from 8 k.has_body >> held m in
      let called : ℕ → Checked Notes = λ m. keep from 9 (not k.is_main) >> bodied m in
      let once : ℕ → Checked Notes = λ m. keep from 2 (not (among m n.holds)) >> called m in
      let meant : Item → Checked Notes = λ x. mutex x >>= once in
      after_gives Same (need from 1 (one_item is)) meant
      (λ x. after_gives Same (mutex x) once
      (λ m. next_gives Same (keep from 2 (not (among m n.holds))) (called m) (next_gives Same (keep from 9 (not k.is_main)) (bodied m) (next_gives Same (keep from 8 k.has_body) (held m) (append_nothing n.cuts)))))

  by_tests : (a b c d e : Bool) → Gives (HasCuts (n.cuts ++ (if a then items_names is else [])))
      (if a then cut_word from is k n else if b then sync_word from is s n else if c then commit_word from is s n else if d then (alone from is n.cache >> Fine (record n { cache = true })) else if e then holds_word from is k n else Broken from 1)
  by_tests true b c d e = cut_given from is k n.params n.sync n.commit n.cache n.holds n.cuts
  by_tests false true c d e = sync_given
  by_tests false false true d e = commit_given
  by_tests false false false true e = cache_given
  by_tests false false false false true = holds_given
  by_tests false false false false false = tt

word_given : (x : Annot) (s : Signature) (k : FunctionKind) (n : Notes) → Gives (HasCuts (n.cuts ++ annot_names x)) (noted x s k n)
word_given (Annotate from word is) s k n = by_tests from is s k n (same_name word (codes "cut")) (same_name word (codes "sync")) (same_name word (codes "commit")) (same_name word (codes "cache")) (same_name word (codes "holds"))

words_given : (an : Annots) (s : Signature) (k : FunctionKind) (n : Notes) → Gives (HasCuts (n.cuts ++ annots_names an)) (all_noted an s k n)
words_given NoAnnots s k n = append_nothing n.cuts
words_given (MoreAnnots x xs) s k n =
    then_gives (HasCuts (n.cuts ++ annot_names x)) (HasCuts (n.cuts ++ (annot_names x ++ annots_names xs))) (noted x s k n) (λ m. all_noted xs s k m) (word_given x s k n)
    (λ m e. subst (λ cs. Gives (HasCuts cs) (all_noted xs s k m)) (ap (λ cs. cs ++ annots_names xs) e ∙ append_assoc n.cuts (annot_names x) (annots_names xs)) (words_given xs s k m))

-- ---- functions

pub function_given : (env : Environment) (k : FunctionKind) (d : Decl) (t : CType) (ts : CTypes) → Gives (HasCuts (decl_names d)) (function_notes env k d t ts)
function_given env k (Declare from an b ps n r) t ts =
    let H : Notes → Type 0 = HasCuts (annots_names an) in
    let signature : Signature = record { params = named_parameters (own_parameters ps) ts; result = t; env = env } in
    let with_params : Notes → List Parameter → Checked Notes = λ m qs. Fine (record m { params = qs }) in
    let further : Notes → Checked Notes = λ m. all_parameters (own_parameters ps) (within signature (inner env)) 0 ts >>= with_params m in
    let tested : Notes → Checked Notes = λ m. keep from 8 (no_holds m.holds || is_empty m.cuts) >> further m in
    let said : Checked Notes = all_noted an signature k nothing >>= tested in
    next_gives H (bare_annots an) (bare_parts (result_parts ps) >> (bare_rest r >> said))
    (next_gives H (bare_parts (result_parts ps)) (bare_rest r >> said)
    (next_gives H (bare_rest r) said
    (then_gives H H (all_noted an signature k nothing) tested (words_given an signature k nothing)
    (λ m e. next_gives H (keep from 8 (no_holds m.holds || is_empty m.cuts)) (further m)
    (after_gives H (all_parameters (own_parameters ps) (within signature (inner env)) 0 ts) (with_params m) (λ qs. e))))))
