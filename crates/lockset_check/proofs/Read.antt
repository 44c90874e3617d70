-- What was read of annotations is what they say.
use Rattle.std.proofs.Common.{◌≡◌, ℕ, ℤ, pos, ◌+◌, ◌-◌, ◌<◌, ◌≤◌, nat_lt, if◌then◌else◌, List, [], ◌∷◌, length, map, Option, Some, None, zero-add, refl, sym, ap, ◌∙◌, arith}
use Rattle.std.specs.Prelude.{slice_get}
use Rattle.std.specs.Option.{option_map}
use Rattle.std.specs.List.{range_with_len}
use Rattle.std.proofs.lemmas.List.FromFn.{get_or-map-range_with_len, length-map-range_with_len}
use Rattle.std.proofs.lemmas.Option.{slice_get-get_or, slice_get_past, slice_get_within}
use Rattle.c_builtins.specs.Table.{first_source_function}
use Rattle.c_scopes.specs.Scopes.{Scope}
use Rattle.c_types_rules.specs.Environment.{Meaning}
use Rattle.c_types_program.specs.Declarations.{Declared}
use Rattle.c_types_program.specs.Programs.{program_in}
use Rattle.annot_reader_rules.specs.Notes.{Annotated, Notes}
use Rattle.annot_reader.specs.Interface.{Interface}
use Rattle.annot_reader.specs.Interfaces.{guard_at, holds_at}
use Rattle.lockset_check_rules.specs.Annotations.{guard_of, guarded, held_by}
use Rattle.lockset_check_values.specs.Sayings.{guard_in, guarding, held, holds_in}
use Rattle.lockset_check.specs.Answers.{guarded_by, sayings_of}

module _ {X : Type 0} (f : ℕ → X) (n k : ℕ) where
  -- the values of the first numbers, by number
  in_range : k < n → slice_get (map f (range_with_len 0 n)) k ≡ Some (f k)
  in_range lt =
      let all : length (map f (range_with_len 0 n)) ≡ n = length-map-range_with_len f 0 n in
      slice_get-get_or (map f (range_with_len 0 n)) k (f k) (omega arith)
      ∙ ap Some (get_or-map-range_with_len f 0 n k k (f k) lt (zero-add k))

  past_range : n ≤ k → slice_get (map f (range_with_len 0 n)) k ≡ None
  past_range past =
      let all : length (map f (range_with_len 0 n)) ≡ n = length-map-range_with_len f 0 n in
      slice_get_past (map f (range_with_len 0 n)) k (omega arith)

none_some : {X : Type 0} (x : X) → None ≡ Some x → ⊥
none_some x h = cc

-- where a list has nothing is past its end
absent : {X : Type 0} (xs : List X) (k : ℕ) → slice_get xs k ≡ None → length xs ≤ k
absent [] k e = omega arith
absent (x ∷ xs) k e =
    let inside : k < length (x ∷ xs) → ⊥ = λ lt. none_some _ (sym e ∙ slice_get-get_or (x ∷ xs) k x lt) in
    omega (arith, inside)

as_int : (m : Option ℕ) → option_map pos m ≡ guard_of (Some m)
as_int (Some k) = refl
as_int None = refl

module _ (cut : List ℕ) (a : Annotated) (p : Declared) (i : Interface) (functions : length a.functions ≡ length p.functions) (globals : length a.guards ≡ length p.globals)
    (says_guard : (place : ℕ) (m : Option ℕ) → slice_get a.guards place ≡ Some m → guard_at i place ≡ option_map pos m)
    (says_held : (place : ℕ) (n : Notes) → slice_get a.functions place ≡ Some n → holds_at i (place + first_source_function) ≡ map pos n.holds) where
  guard_same : (k : ℕ) → guard_in (sayings_of p i) k ≡ guard_of (slice_get a.guards k)
  guard_same k = at (slice_get a.guards k) refl
    where
      at : (o : Option (Option ℕ)) → slice_get a.guards k ≡ o → guard_in (sayings_of p i) k ≡ guard_of (slice_get a.guards k)
      at (Some m) e =
          let lt : k < length a.guards = slice_get_within a.guards k m e in
          ap guarding (in_range (guard_at i) (length p.globals) k (omega arith)) ∙ (says_guard k m e ∙ (as_int m ∙ ap guard_of (sym e)))
      at None e =
          let past : length a.guards ≤ k = absent a.guards k e in
          ap guarding (past_range (guard_at i) (length p.globals) k (omega arith)) ∙ ap guard_of (sym e)

  held_same : (k : ℕ) → held (slice_get (map (λ (q : ℕ). holds_at i (first_source_function + q)) (range_with_len 0 (length p.functions))) k) ≡ held_by (slice_get a.functions k)
  held_same k = at (slice_get a.functions k) refl
    where
      at : (o : Option Notes) → slice_get a.functions k ≡ o
          → held (slice_get (map (λ (q : ℕ). holds_at i (first_source_function + q)) (range_with_len 0 (length p.functions))) k) ≡ held_by (slice_get a.functions k)
      at (Some n) e =
          let lt : k < length a.functions = slice_get_within a.functions k n e in
          let turned : first_source_function + k ≡ k + first_source_function = omega arith in
          ap held (in_range (λ (q : ℕ). holds_at i (first_source_function + q)) (length p.functions) k (omega arith))
          ∙ (ap (holds_at i) turned ∙ (says_held k n e ∙ ap held_by (sym e)))
      at None e =
          let past : length a.functions ≤ k = absent a.functions k e in
          ap held (past_range (λ (q : ℕ). holds_at i (first_source_function + q)) (length p.functions) k (omega arith)) ∙ ap held_by (sym e)

  holds_same : (number : ℕ) → holds_in (sayings_of p i) number ≡ (if nat_lt number first_source_function then [] else held_by (slice_get a.functions (number - first_source_function)))
  holds_same number = ap (λ (l : List ℤ). if nat_lt number first_source_function then [] else l) (held_same (number - first_source_function))

  pub read_is_said : (names : Scope Meaning) → guarded_by p i ≡ guarded (program_in p names) a
  read_is_said names = λ j. record {
    functions = (guarded_by p i).functions;
    globals = (guarded_by p i).globals;
    guard = λ k. guard_same k j;
    holds = λ number. holds_same number j;
  }
