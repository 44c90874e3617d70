-- What is found in values, in the order of evaluation.
use Rattle.std.specs.Prelude.{ℕ, Bool, true, false, if◌then◌else◌, List, [], ◌∷◌, ◌++◌, Some, None}
use Rattle.c_builtins.specs.declared.builtin.Builtin.{Builtin}
use Rattle.c_builtins.specs.declared.builtin.Builtin.TheVariants.{Malloc, Free, Spawn, Join, Lock, Unlock, Print}
use Rattle.c_types_rules.specs.TypeTests.{is_scalar}
use Rattle.c_types_rules.specs.TypedTree.{Object, Value, Values, Callee, PointerPlus, PlusPointer, PointerMinus, GlobalObject, LocalObject, TextObject, Pointed, Element, MemberOf, Constant, FunctionAddress, ReadOf, AddressOf, Convert, Negate, Complement, Arithmetic, PointerSum, PointerDifference, PointerComparison, Not, Both, Either, Choice, Sequence, Assigned, Changed, Moved, Stepped, CallOf, NoValues, MoreValues, SourceFunction, BuiltinFunction, Through, MaybeValue, NoValue, OneValue, object_type}
use Rattle.lockset_check_rules.specs.declared.finding.LockFinding.{LockFinding}
use Rattle.lockset_check_rules.specs.declared.finding.LockFinding.TheVariants.{NotConstant, UnlockUnheld}
use Rattle.lockset_check_rules.specs.Mutexes.{Locks, is_held}
use Rattle.lockset_check_rules.specs.Guards.{Guarded, address, called_unheld, function_address, unheld, unheld_at}
use Rattle.lockset_check_rules.specs.Paths.{pointed_to, root}
use Rattle.lockset_check_rules.specs.After.{callee_after, mutex_of, object_after, value_after, values_after}

-- an object is loaded or stored to where these are held
abbrev pub touched : Guarded → Object → Locks → List LockFinding
touched r o s = unheld_at r (root o) s

-- the value of an object is read; of a struct nothing is
abbrev pub loaded : Guarded → Object → Locks → List LockFinding
loaded r o s = if is_scalar (object_type o) then touched r o s else []

-- a builtin that is named at this offset is called with these arguments
abbrev pub builtin_found : (from : ℕ) → Builtin → Values → Locks → List LockFinding
builtin_found from Malloc vs s = []
builtin_found from Free vs s = []
builtin_found from Spawn vs s = []
builtin_found from Join vs s = []
builtin_found from Lock vs s = elim (mutex_of vs) [ Some k ↦ [] | None ↦ NotConstant from ∷ [] ]
builtin_found from Unlock vs s = elim (mutex_of vs) [
  | Some k ↦ if is_held k s then [] else UnlockUnheld from ∷ []
  | None ↦ NotConstant from ∷ []
]
builtin_found from Print vs s = []

-- at a call, after its arguments
abbrev pub call_found : Guarded → Callee → Values → Locks → List LockFinding
call_found r (SourceFunction from number) vs s = called_unheld r from number s
call_found r (BuiltinFunction from b) vs s = builtin_found from b vs s
call_found r (Through v) vs s = []

abbrev mutual
  pub object_found : Guarded → Object → Locks → List LockFinding
  object_found r (GlobalObject from place t) s = unheld r (record { from = from; place = place }) s
  object_found r (LocalObject place t) s = []
  object_found r (TextObject from length) s = []
  object_found r (Pointed v t) s = value_found r false v s
  object_found r (Element PointerPlus p i t) s =
      value_found r true p s ++ value_found r false i (value_after p s)
  object_found r (Element PlusPointer p i t) s =
      value_found r false i s ++ value_found r true p (value_after i s)
  object_found r (Element PointerMinus p i t) s =
      value_found r true p s ++ value_found r false i (value_after p s)
  object_found r (MemberOf o number t) s = object_found r o s

  -- an array that is subscripted makes no pointer to a global
  pub value_found : Guarded → (subscripted : Bool) → Value → Locks → List LockFinding
  value_found r u (Constant k n) s = []
  value_found r u (FunctionAddress from number t) s = function_address r from number
  value_found r u (ReadOf o) s = object_found r o s ++ loaded r o (object_after o s)
  value_found r u (AddressOf o t) s = object_found r o s ++ address r (pointed_to u o t)
  value_found r u (Convert t v) s = value_found r false v s
  value_found r u (Negate k v) s = value_found r false v s
  value_found r u (Complement k v) s = value_found r false v s
  value_found r u (Arithmetic op k a b) s =
      value_found r false a s ++ value_found r false b (value_after a s)
  value_found r u (PointerSum PointerPlus p i size) s =
      value_found r false p s ++ value_found r false i (value_after p s)
  value_found r u (PointerSum PlusPointer p i size) s =
      value_found r false i s ++ value_found r false p (value_after i s)
  value_found r u (PointerSum PointerMinus p i size) s =
      value_found r false p s ++ value_found r false i (value_after p s)
  value_found r u (PointerDifference a b size) s =
      value_found r false a s ++ value_found r false b (value_after a s)
  value_found r u (PointerComparison op a b) s =
      value_found r false a s ++ value_found r false b (value_after a s)
  value_found r u (Not v) s = value_found r false v s
  value_found r u (Both a b) s = value_found r false a s ++ value_found r false b (value_after a s)
  value_found r u (Either a b) s = value_found r false a s ++ value_found r false b (value_after a s)
  value_found r u (Choice c a b) s =
      let t =
      value_after c s in value_found r false c s ++ (value_found r false a t ++ value_found r false b t)
  value_found r u (Sequence a b) s = value_found r false a s ++ value_found r false b (value_after a s)
  value_found r u (Assigned o v) s =
      let t = object_after o s in
      object_found r o s ++ (value_found r false v t ++ touched r o (value_after v t))
  value_found r u (Changed o op k v) s =
      let t = object_after o s in
      object_found r o s ++ (touched r o t ++ (value_found r false v t ++ touched r o (value_after v t)))
  value_found r u (Moved o w i size) s =
      let t = object_after o s in
      object_found r o s ++ (touched r o t ++ (value_found r false i t ++ touched r o (value_after i t)))
  value_found r u (Stepped o w g size) s = object_found r o s ++ touched r o (object_after o s)
  value_found r u (CallOf f vs t) s =
      let before = callee_after f s in
      callee_found r f s ++ (values_found r vs before ++ call_found r f vs (values_after vs before))

  pub values_found : Guarded → Values → Locks → List LockFinding
  values_found r NoValues s = []
  values_found r (MoreValues v vs) s = value_found r false v s ++ values_found r vs (value_after v s)

  pub callee_found : Guarded → Callee → Locks → List LockFinding
  callee_found r (SourceFunction from number) s = []
  callee_found r (BuiltinFunction from b) s = []
  callee_found r (Through v) s = value_found r false v s

abbrev pub maybe_found : Guarded → MaybeValue → Locks → List LockFinding
maybe_found r NoValue s = []
maybe_found r (OneValue v) s = value_found r false v s
