-- The text of a set of stubs is that of the stubs by number.
use Rattle.std.proofs.Common.{◌≡◌, ℕ, suc, ◌+◌, ◌≤◌, Bool, true, false, cond, List, [], ◌∷◌, ◌++◌, length, map, Option, None, refl, sym, ap, ◌∙◌, arith}
use Rattle.std.specs.Prelude.{nat_lt}
use Rattle.std.specs.List.{range_with_len}
use Rattle.std.proofs.lemmas.Bool.{ltb-true, ltb-false}
use Rattle.std.proofs.lemmas.List.{get_or_past}
use Rattle.std.proofs.lemmas.List.FromFn.{get_or-map-range_with_len, length-map-range_with_len}
use Rattle.c_builtins.specs.Table.{first_source_function}
use Rattle.c_types_program.specs.declared.function.Function.{Function}
use Rattle.annot_reader.specs.Interface.{Interface}
use Rattle.stub_operations.specs.declared.operation.StubOp.{StubOp}
use Rattle.stub_operations.specs.declared.purpose.Purpose.{Purpose}
use Rattle.stub_operations.specs.Stubs.{Stubs, operations_at}
use Rattle.call_operations.specs.Sets.{AreStubs, stubs_of}
use Rattle.stub_texts.specs.Texts.{maybe_text, texts_from}

-- the same functions have the same text, however long the lists are
same_texts : (word : List ℕ) (names : ℕ → List ℕ) (k : ℕ) (xs ys : List (Option (List StubOp))) → ((f : ℕ) → operations_at xs f ≡ operations_at ys f) → texts_from word names k xs ≡ texts_from word names k ys
same_texts word names k [] [] h = refl
same_texts word names k [] (y ∷ ys) h =
    let first : None ≡ y = h 0 in
    same_texts word names (k + 1) [] ys (λ f. h (suc f)) ∙ ap (λ (o : Option (List StubOp)). maybe_text word (names k) k o ++ texts_from word names (k + 1) ys) first
same_texts word names k (x ∷ xs) [] h =
    let first : x ≡ None = h 0 in
    ap (λ (o : Option (List StubOp)). maybe_text word (names k) k o ++ texts_from word names (k + 1) xs) first ∙ same_texts word names (k + 1) xs [] (λ f. h (suc f))
same_texts word names k (x ∷ xs) (y ∷ ys) h =
    let first : x ≡ y = h 0 in
    ap (λ (o : Option (List StubOp)). maybe_text word (names k) k o ++ texts_from word names (k + 1) xs) first ∙
    ap (λ t. maybe_text word (names k) k y ++ t) (same_texts word names (k + 1) xs ys (λ f. h (suc f)))

by_number : (g : ℕ → Option (List StubOp)) (n f : ℕ) (b : Bool) → b ≡ nat_lt f n → operations_at (map g (range_with_len 0 n)) f ≡ cond b (g f) None
by_number g n f true e = get_or-map-range_with_len g 0 n f f None (ltb-true f n (sym e)) (omega arith)
by_number g n f false e =
    let past : n ≤ f = ltb-false f n (sym e) in
    let long : length (map g (range_with_len 0 n)) ≡ n = length-map-range_with_len g 0 n in
    get_or_past (map g (range_with_len 0 n)) f None (omega (arith, past, long))

-- those of functions of the source and of builtins
pub stubs_are : (purpose : Purpose) (fs : List Function) (i : Interface) (s : Stubs) (word : List ℕ) (names : ℕ → List ℕ) → AreStubs purpose fs i s →
    texts_from word names 0 s.added ≡ texts_from word names 0 (map (stubs_of purpose i) (range_with_len 0 (first_source_function + length fs)))
stubs_are purpose fs i s word names are =
    let n = first_source_function + length fs in
    same_texts word names 0 s.added (map (stubs_of purpose i) (range_with_len 0 n))
    (λ f. are.added f ∙ sym (by_number (stubs_of purpose i) n f (nat_lt f n) refl))
