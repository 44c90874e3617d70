-- Names by number, and the comparison of types.
use Rattle.std.proofs.Common.{◌≡◌, ℕ, ℤ, ◌↔◌, ◌+◌, ◌-◌, Bool, true, false, IsTrue, if◌then◌else◌, nat_lt, List, [], Option, Some, None, map, refl, sym, ap, ◌∙◌, arith}
use Rattle.std.specs.Prelude.{slice_get}
use Rattle.c_builtins.specs.Table.{first_source_function}
use Rattle.lockset_check_rules.specs.Mutexes.{Locks, are_held, locks_of}
use Rattle.lockset_check_held.specs.HeldSets.{need_at, set_or_none}
use Rattle.lockset_check_held.proofs.Starts.{all_held}
use Rattle.lockset_check_values.specs.Sayings.{Sayings, held, holds_in, needs_of}
use Rattle.std.specs.Option.{option_map}
use Rattle.std.proofs.lemmas.Bool.{le-ltb}
use Rattle.std.proofs.lemmas.Option.{slice_get-map}
use Rattle.c_types_model.specs.Types.{CType}
use Rattle.c_types_rules.specs.TypeTests.{same_type}
use Rattle.c_types_rules.proofs.SameTypes.{types_compared}
use Rattle.c_types_nodes.specs.Tables.{Table}
use Rattle.c_types_program.specs.declared.function.Function.{Function}
use Rattle.c_types_program.specs.declared.global.Global.{Global}
use Rattle.c_types_program.specs.Declarations.{function_in, global_in}

pub global_at : (t : Table) (gs : List Global) (place : ℕ) → slice_get (map (global_in t) gs) place ≡ option_map (global_in t) (slice_get gs place)
global_at t gs place = slice_get-map (global_in t) gs place

pub function_at : (t : Table) (fs : List Function) (place : ℕ) → slice_get (map (function_in t) fs) place ≡ option_map (function_in t) (slice_get fs place)
function_at t fs place = slice_get-map (function_in t) fs place

tests : (a b : Bool) → (IsTrue a → IsTrue b) → (IsTrue b → IsTrue a) → a ≡ b
tests true true f g = refl
tests true false f g = sym (f refl)
tests false true f g = g refl
tests false false f g = refl

pub same_as_test : (r : Bool) (t u : CType) → IsTrue r ↔ (t ≡ u) → r ≡ same_type t u
same_as_test r t u h =
    let k = types_compared t u in
    tests r (same_type t u) (λ e. k.1 (h.0 e)) (λ e. h.1 (k.0 e))

-- ---- the mutexes that the callers of a function hold

pub none_needed : (s : Sayings) (number : ℕ) (h : Locks) → nat_lt number first_source_function ≡ true → true ≡ are_held (holds_in s number) h
none_needed s number h lt = sym (λ j. are_held (if lt j then [] else held (slice_get s.holds (number - first_source_function))) h)

set_of : (o : Option (List ℤ)) → set_or_none (option_map locks_of o) ≡ locks_of (held o)
set_of None = refl
set_of (Some ks) = refl

-- the set of a function, by its place
pub need_of : (s : Sayings) (needs : List Locks) (place : ℕ) → needs ≡ needs_of s → need_at needs place ≡ locks_of (held (slice_get s.holds place))
need_of s needs place e =
    ap (λ (ls : List Locks). need_at ls place) e
    ∙ (ap set_or_none (slice_get-map locks_of s.holds place) ∙ set_of (slice_get s.holds place))

pub needed : (s : Sayings) (needs : List Locks) (number : ℕ) (h : Locks) → needs ≡ needs_of s → nat_lt number first_source_function ≡ false
    → are_held (need_at needs (number - first_source_function)) h ≡ are_held (holds_in s number) h
needed s needs number h e not =
    let ks = held (slice_get s.holds (number - first_source_function)) in
    ap (λ (l : Locks). are_held l h) (need_of s needs (number - first_source_function) e)
    ∙ (all_held ks h
    ∙ sym (λ j. are_held (if not j then [] else ks) h))

pub need_by_place : (s : Sayings) (needs : List Locks) (place : ℕ) → needs ≡ needs_of s → need_at needs place ≡ locks_of (holds_in s (first_source_function + place))
need_by_place s needs place e =
    let same : (first_source_function + place) - first_source_function ≡ place = omega arith in
    let past : nat_lt (first_source_function + place) first_source_function ≡ false = le-ltb (first_source_function + place) first_source_function (omega arith) in
    need_of s needs place e ∙ sym (λ j. locks_of (if past j then [] else held (slice_get s.holds (same j))))
