-- What annotations say of mutexes: they are values of int, and a function of a cut has none.
use Rattle.std.proofs.Common.{◌≡◌, ◌⊎◌, inl, inr, ⊎_elim, ℕ, zero, suc, ◌+◌, ◌-◌, ◌^◌, ◌<◌, pos, Bool, true, false, cond, ◌||◌, ltb, List, [], ◌∷◌, ◌++◌, length, map, Option, Some, None, refl, ap, ◌∙◌, subst, arith}
use Rattle.std.specs.Prelude.{codes, not, slice_get}
use Rattle.std.specs.List.{All}
use Rattle.std.proofs.lemmas.Bool.{cond-false, cond-true, le-ltb, lt-ltb, ltb-true}
use Rattle.std.proofs.lemmas.Int.{ints}
use Rattle.std.proofs.lemmas.List.Elements.{All-map, All-nil, All-push, All-weaker}
use Rattle.r2_num.specs.declared.kinds.IntKind.TheVariants.{I32}
use Rattle.r2_num.specs.Kinds.{IsValue}
use Rattle.c_builtins.specs.Table.{first_source_function}
use Rattle.c_syntax.specs.Syntax.{Annot, Annots, Annotate, Decl, Decls, Declare, Item, Items, MoreAnnots, MoreDecls, NoAnnots, NoDecls, NumberAtom, OneFactor, TwoFactors, Members, NoRest, Initial, Body}
use Rattle.c_scopes.specs.Scopes.{meaning_in, same_name}
use Rattle.c_types_rules.specs.Expressions.{declared_name}
use Rattle.c_types_model.specs.Types.{CType, CTypes, Void, Integer, PointerTo, ArrayOf, StructOf, UndefinedStruct, FunctionOf}
use Rattle.c_types_rules.specs.Checked.{Checked, Fine, Noted, Broken, keep, need, ◌>>=◌, ◌>>◌}
use Rattle.c_types_rules.specs.Environment.{Environment, Meaning, FunctionNamed, GlobalNamed, LocalNamed}
use Rattle.c_types_rules.specs.Sources.{Function, Program, at_file, tags_of}
use Rattle.annot_reader_rules.specs.Notes.{Annotated, Notes, Parameter}
use Rattle.annot_reader_rules.specs.Misplaced.{bare_decls}
use Rattle.annot_reader_rules.specs.Regions.{Signature, alone, one_item}
use Rattle.annot_reader_rules.specs.Functions as words
use Rattle.annot_reader_rules.specs.Functions.{FunctionKind, cut_word, commit_word, function_notes, holds_word, is_empty, mutex, no_holds, sync_word}
use Rattle.annot_reader_rules.specs.Cuts as cuts
use Rattle.annot_reader_rules.specs.Cuts.{annotations, in_cut, named, noted_as, noted_function, noted_name}
use Rattle.lockset_check_rules.specs.Annotations.{guarded, held_by}
use Rattle.lockset_check_sources.specs.Sources.{HoldsAreFit, IsFound}
use Rattle.lockset_check_sources.proofs.Found.{Holds, holds_then, holds_on, holds_after, holds_kept}

abbrev Small : ℕ → Type 0
Small m = m < 2 ^ 31

abbrev AreSmall : Notes → Type 0
AreSmall n = All Small n.holds

chosen : {A : Type 0} (P : A → Type 0) (b : Bool) (x y : Checked A) → Holds P x → Holds P y → Holds P (cond b x y)
chosen P true x y h k = h
chosen P false x y h k = k

-- ---- words

mutex_small : (x : Item) → Holds Small (mutex x)
mutex_small (OneFactor from (NumberAtom n)) = holds_kept Small from 8 (ltb n (2 ^ 31)) (Fine n) (λ e. ltb-true n (2 ^ 31) e)
mutex_small (OneFactor from a) = tt
mutex_small (TwoFactors from a b) = tt

cut_small : (from : ℕ) (is : Items) (k : FunctionKind) (n : Notes) → AreSmall n → Holds AreSmall (cut_word from is k n)
cut_small from is k n h = search (holds_after, holds_on, h)

sync_small : (from : ℕ) (is : Items) (s : Signature) (n : Notes) → AreSmall n → Holds AreSmall (sync_word from is s n)
sync_small from is s n h = search (holds_after, holds_on, h)

commit_small : (from : ℕ) (is : Items) (s : Signature) (n : Notes) → AreSmall n → Holds AreSmall (commit_word from is s n)
commit_small from is s n h = search (holds_after, holds_on, h)

holds_small : (from : ℕ) (is : Items) (k : FunctionKind) (n : Notes) → AreSmall n → Holds AreSmall (holds_word from is k n)
holds_small from is k n h =
    let done : ℕ → Checked Notes = λ m. keep from 2 (not (words.among m n.holds)) >> (keep from 9 (not k.is_main) >> (keep from 8 k.has_body >> Fine (record n { holds = n.holds ++ m ∷ [] }))) in
    holds_on AreSmall (need from 1 (one_item is)) (λ x. mutex x >>= done) (λ x. holds_then Small AreSmall (mutex x) done (mutex_small x) (λ m small. put m small))
  where
    put : (m : ℕ) → Small m → Holds AreSmall (keep from 2 (not (words.among m n.holds)) >> (keep from 9 (not k.is_main) >> (keep from 8 k.has_body >> Fine (record n { holds = n.holds ++ m ∷ [] }))))
    put m small =
        let all : AreSmall (record n { holds = n.holds ++ m ∷ [] }) = All-push Small n.holds m h small in
        let last : Checked Notes = Fine (record n { holds = n.holds ++ m ∷ [] }) in
        holds_after AreSmall (keep from 2 (not (words.among m n.holds))) (keep from 9 (not k.is_main) >> (keep from 8 k.has_body >> last))
        (holds_after AreSmall (keep from 9 (not k.is_main)) (keep from 8 k.has_body >> last) (holds_after AreSmall (keep from 8 k.has_body) last all))

word_small : (x : Annot) (s : Signature) (k : FunctionKind) (n : Notes) → AreSmall n → Holds AreSmall (words.noted x s k n)
word_small (Annotate from word is) s k n h =
    let cached : Checked Notes = alone from is n.cache >> Fine (record n { cache = true }) in
    let last : Checked Notes = Broken from 1 in
    let held : Checked Notes = cond (same_name word (codes "holds")) (holds_word from is k n) last in
    let cache : Checked Notes = cond (same_name word (codes "cache")) cached held in
    let commit : Checked Notes = cond (same_name word (codes "commit")) (commit_word from is s n) cache in
    let sync : Checked Notes = cond (same_name word (codes "sync")) (sync_word from is s n) commit in
    chosen AreSmall (same_name word (codes "cut")) (cut_word from is k n) sync (cut_small from is k n h)
    (chosen AreSmall (same_name word (codes "sync")) (sync_word from is s n) commit (sync_small from is s n h)
    (chosen AreSmall (same_name word (codes "commit")) (commit_word from is s n) cache (commit_small from is s n h)
    (chosen AreSmall (same_name word (codes "cache")) cached held (holds_after AreSmall (alone from is n.cache) (Fine (record n { cache = true })) h)
    (chosen AreSmall (same_name word (codes "holds")) (holds_word from is k n) last (holds_small from is k n h) tt))))

all_small : (xs : Annots) (s : Signature) (k : FunctionKind) (n : Notes) → AreSmall n → Holds AreSmall (words.all_noted xs s k n)
all_small NoAnnots s k n h = h
all_small (MoreAnnots x xs) s k n h = holds_then AreSmall AreSmall (words.noted x s k n) (λ m. words.all_noted xs s k m) (word_small x s k n h) (λ m j. all_small xs s k m j)

-- ---- functions

abbrev AreFit : Notes → Type 0
AreFit n = AreSmall n × ((no_holds n.holds || is_empty n.cuts) ≡ true)

function_fit : (env : Environment) (k : FunctionKind) (d : Decl) (r : CType) (ts : CTypes) → Holds AreFit (function_notes env k d r ts)
function_fit env k (Declare from an b ps n rest) r ts = search (holds_after, then_noted)
  where
    then_noted : (s : Signature) (c : Checked (List Parameter)) → Holds AreFit (words.all_noted an s k words.nothing >>= (λ m. keep from 8 (no_holds m.holds || is_empty m.cuts) >> (c >>= (λ params. Fine (record m { params = params })))))
    then_noted s c =
        holds_then AreSmall AreFit (words.all_noted an s k words.nothing) (λ m. keep from 8 (no_holds m.holds || is_empty m.cuts) >> (c >>= (λ params. Fine (record m { params = params })))) (all_small an s k words.nothing (All-nil Small))
        (λ m h. holds_kept AreFit from 8 (no_holds m.holds || is_empty m.cuts) (c >>= (λ params. Fine (record m { params = params }))) (λ e. holds_on AreFit c (λ params. Fine (record m { params = params })) (λ params. (h, e))))

-- ---- sources

abbrev AllFit : Annotated → Type 0
AllFit a = (place : ℕ) (n : Notes) → slice_get a.functions place ≡ Some n → AreFit n

more_has : {A : Type 0} (xs : List A) (y x : A) (i : ℕ) → slice_get (xs ++ y ∷ []) i ≡ Some x → (slice_get xs i ≡ Some x) ⊎ (y ≡ x)
more_has [] y x zero e = inr cc
more_has [] y x (suc i) e = absurd cc
more_has (z ∷ xs) y x zero e = inl e
more_has (z ∷ xs) y x (suc i) e = more_has xs y x i e

as_fit : (env : Environment) (d : Decl) (f : Function) (t : CType) (a : Annotated) → AllFit a → Holds AllFit (noted_as env d f t a)
as_fit env d f (FunctionOf r ts) a h =
    holds_then AreFit AllFit (function_notes env (cuts.kind_of f) d r ts) (λ n. Fine (record a { functions = a.functions ++ n ∷ [] })) (function_fit env (cuts.kind_of f) d r ts)
    (λ n fit place m e. ⊎_elim (λ old. h place m old) (λ new. subst AreFit new fit) (more_has a.functions n m place e))
as_fit env d f Void a h = h
as_fit env d f (Integer k) a h = h
as_fit env d f (PointerTo t) a h = h
as_fit env d f (ArrayOf n t) a h = h
as_fit env d f (StructOf n) a h = h
as_fit env d f (UndefinedStruct tag) a h = h

noted_fit : (env : Environment) (d : Decl) (place : ℕ) (o : Option Function) (a : Annotated) → AllFit a → Holds AllFit (noted_function env d place o a)
noted_fit env d place None a h = h
noted_fit env d place (Some f) a h = chosen AllFit (ltb place (length a.functions)) (words.declared_later d >> Fine a) (noted_as env d f f.type a) (holds_after AllFit (words.declared_later d) (Fine a) h) (as_fit env d f f.type a h)

name_fit : (env : Environment) (p : Program) (d : Decl) (m : Option Meaning) (a : Annotated) → AllFit a → Holds AllFit (noted_name env p d m a)
name_fit env p d (Some (FunctionNamed number t)) a h = noted_fit env d (number - 16) (cuts.function_at p.functions (number - 16)) a h
name_fit env p d (Some (GlobalNamed place t)) a h = holds_on AllFit (words.global_notes d) (λ g. Fine (record a { guards = a.guards ++ g ∷ [] })) (λ g. h)
name_fit env p d (Some (LocalNamed place t)) a h = holds_on AllFit (words.global_notes d) (λ g. Fine (record a { guards = a.guards ++ g ∷ [] })) (λ g. h)
name_fit env p d None a h = holds_on AllFit (words.global_notes d) (λ g. Fine (record a { guards = a.guards ++ g ∷ [] })) (λ g. h)

one_fit : (env : Environment) (p : Program) (d : Decl) (a : Annotated) → AllFit a → Holds AllFit (cuts.noted env p d a)
one_fit env p (Declare from an b ps n (Members ds)) a h = holds_after AllFit (bare_decls ds) (Fine a) h
one_fit env p (Declare from an b ps n NoRest) a h = name_fit env p (Declare from an b ps n NoRest) (meaning_in (declared_name n) p.names) a h
one_fit env p (Declare from an b ps n (Initial v)) a h = name_fit env p (Declare from an b ps n (Initial v)) (meaning_in (declared_name n) p.names) a h
one_fit env p (Declare from an b ps n (Body s)) a h = name_fit env p (Declare from an b ps n (Body s)) (meaning_in (declared_name n) p.names) a h

every_fit : (env : Environment) (p : Program) (ds : Decls) (a : Annotated) → AllFit a → Holds AllFit (cuts.all_noted env p ds a)
every_fit env p NoDecls a h = h
every_fit env p (MoreDecls d ds) a h = holds_then AllFit AllFit (cuts.noted env p d a) (λ b. cuts.all_noted env p ds b) (one_fit env p d a h) (λ b j. every_fit env p ds b j)

annotations_fit : (ds : Decls) (p : Program) → Holds AllFit (annotations ds p)
annotations_fit ds p = every_fit (at_file (tags_of ds) p) p ds (record { functions = []; guards = [] }) (λ place n e. absurd (none place n e))
  where
    none : (place : ℕ) (n : Notes) → slice_get {X = Notes} [] place ≡ Some n → ⊥
    none place n e = cc

found_fit : (c : Checked Annotated) (a : Annotated) → Holds AllFit c → IsFound a c → AllFit a
found_fit (Fine b) a h e = subst AllFit e h
found_fit (Noted n b) a h e = subst AllFit e h
found_fit (Broken from rule) a h e = absurd e

-- ---- what callers hold

small_is_int : (m : ℕ) → Small m → IsValue I32 (pos m)
small_is_int m h = (omega (arith, ints), omega (arith, ints))

held_small : (o : Option Notes) → ((n : Notes) → o ≡ Some n → AreFit n) → All (IsValue I32) (held_by o)
held_small None h = All-nil (IsValue I32)
held_small (Some n) h = All-map (IsValue I32) (λ m. pos m) n.holds (All-weaker Small (λ m. IsValue I32 (pos m)) small_is_int n.holds (h n refl).0)

-- a function of a cut has none
nothing_held : (cut : List ℕ) (n : Notes) → AreFit n → in_cut cut n ≡ true → map (λ k. pos k) n.holds ≡ []
nothing_held cut n h e = by n.holds n.cuts e h.1
  where
    by : (ms : List ℕ) (cs : List (List ℕ)) → named cut cs ≡ true → (no_holds ms || is_empty cs) ≡ true → map (λ k. pos k) ms ≡ []
    by [] cs e f = refl
    by (m ∷ ms) [] e f = absurd cc
    by (m ∷ ms) (c ∷ cs) e f = absurd cc

low_holds : (a : Annotated) (p : Program) (f : ℕ) → ltb f first_source_function ≡ true → (guarded p a).holds f ≡ []
low_holds a p f e = cond-true (ltb f first_source_function) [] (held_by (slice_get a.functions (f - first_source_function))) e

high_holds : (a : Annotated) (p : Program) (place : ℕ) → (guarded p a).holds (first_source_function + place) ≡ held_by (slice_get a.functions place)
high_holds a p place =
    let back : first_source_function + place - first_source_function ≡ place = omega arith in
    cond-false (ltb (first_source_function + place) first_source_function) [] _ (le-ltb (first_source_function + place) first_source_function (omega arith)) ∙ ap (λ k. held_by (slice_get a.functions k)) back

pub holds_are_fit : (ds : Decls) (p : Program) (a : Annotated) → IsFound a (annotations ds p) → HoldsAreFit p a
holds_are_fit ds p a found = record {
  mutexes = λ f. of_mutexes f (ltb f first_source_function);
  faces = λ cut place n e i. high_holds a p place ∙ ap held_by e ∙ nothing_held cut n (fit place n e) i;
  builtins = λ f lt. low_holds a p f (lt-ltb f first_source_function lt);
}
  where
    fit : AllFit a
    fit = found_fit (annotations ds p) a (annotations_fit ds p) found

    of_mutexes : (f : ℕ) (low : Bool) → All (IsValue I32) (cond low [] (held_by (slice_get a.functions (f - first_source_function))))
    of_mutexes f true = All-nil (IsValue I32)
    of_mutexes f false = held_small (slice_get a.functions (f - first_source_function)) (λ n e. fit (f - first_source_function) n e)
