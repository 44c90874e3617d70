-- A walk over the values of a function: what is held where it has come to, and what was found.
use Rattle.std.specs.Prelude.{◌≡◌, ℕ, Bool, List, [], ◌++◌}
use Rattle.c_builtins.specs.declared.builtin.Builtin.{Builtin}
use Rattle.c_types_rules.specs.TypedTree.{Callee, MaybeValue, Object, Typed, Value, Values, AnObject, AFunction, AValue}
use Rattle.lockset_check_rules.specs.declared.finding.LockFinding.{LockFinding}
use Rattle.lockset_check_rules.specs.Mutexes.{Locks}
use Rattle.lockset_check_rules.specs.Guards.{Guarded}
use Rattle.lockset_check_rules.specs.After.{builtin_after, call_after, callee_after, maybe_after, object_after, value_after, values_after}
use Rattle.lockset_check_rules.specs.Values.{builtin_found, call_found, callee_found, maybe_found, object_found, value_found, values_found}
use Rattle.lockset_check_held.specs.HeldSets.{HeldSets, at_first}
use Rattle.lockset_check_values.specs.Sayings.{Sayings, needs_of}

pub record Walked : Type 0 where
  pub sets : HeldSets
  pub found : List LockFinding

-- a walk over a source, whose functions may need the sets that their callers hold
abbrev pub IsWalkOf : Sayings → Walked → Type 0
IsWalkOf s w = w.sets.needs ≡ needs_of s

-- the start of such a walk
abbrev pub walk_of : Sayings → Walked
walk_of s = record { sets = record at_first { needs = needs_of s }; found = [] }

-- the same findings, with other sets
abbrev pub with_sets : HeldSets → Walked → Walked
with_sets h w = record w { sets = h }

-- the same place, with these findings more
abbrev pub finding : List LockFinding → Walked → Walked
finding fs w = record w { found = w.found ++ fs }

-- further, to where these are held, with these findings on the way
abbrev pub onward : Locks → List LockFinding → Walked → Walked
onward s fs w = record { sets = record w.sets { held = s }; found = w.found ++ fs }

abbrev pub object_walked : Guarded → Object → Walked → Walked
object_walked r o w = onward (object_after o w.sets.held) (object_found r o w.sets.held) w

abbrev pub value_walked : Guarded → (subscripted : Bool) → Value → Walked → Walked
value_walked r u v w = onward (value_after v w.sets.held) (value_found r u v w.sets.held) w

abbrev pub values_walked : Guarded → Values → Walked → Walked
values_walked r vs w = onward (values_after vs w.sets.held) (values_found r vs w.sets.held) w

abbrev pub callee_walked : Guarded → Callee → Walked → Walked
callee_walked r f w = onward (callee_after f w.sets.held) (callee_found r f w.sets.held) w

-- the call itself, after its arguments
abbrev pub call_walked : Guarded → Callee → Values → Walked → Walked
call_walked r f vs w = onward (call_after f vs w.sets.held) (call_found r f vs w.sets.held) w

-- the same of a builtin that is named at this offset
abbrev pub builtin_walked : (from : ℕ) → Builtin → Values → Walked → Walked
builtin_walked from b vs w = onward (builtin_after b vs w.sets.held) (builtin_found from b vs w.sets.held) w

-- over what an expression is, which may be a value that is subscripted
abbrev pub typed_walked : Guarded → (subscripted : Bool) → Typed → Walked → Walked
typed_walked r u (AnObject o) w = object_walked r o w
typed_walked r u (AFunction f t) w = callee_walked r f w
typed_walked r u (AValue v) w = value_walked r u v w

abbrev pub maybe_walked : Guarded → MaybeValue → Walked → Walked
maybe_walked r v w = onward (maybe_after v w.sets.held) (maybe_found r v w.sets.held) w
