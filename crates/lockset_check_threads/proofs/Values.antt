-- Expressions in which nothing is found.
use Rattle.std.proofs.Common.{◌≡◌, ℕ, ◌+◌, ◌≤◌, ℤ, pos, negsuc, ◌-ℤ◌, Bool, true, false, cond, List, [], ◌∷◌, ◌++◌, Option, Some, None, refl, sym, ◌∙◌, subst, arith}
use Rattle.r2_num.specs.declared.kinds.IntKind.{IntKind}
use Rattle.r2_num.specs.declared.kinds.IntKind.TheVariants.{I32, I64, U64}
use Rattle.r2_num.specs.declared.operations.Op.TheVariants.{Div}
use Rattle.r2_num.specs.Conversions.{wrapped}
use Rattle.r2_num.specs.Kinds.{IsValue}
use Rattle.marks.specs.declared.side.Side.{Side}
use Rattle.marks.specs.Places.{function_address}
use Rattle.c_code.specs.Values.{arith_of, at_zero, converted, read, written}
use Rattle.c_types_model.specs.Types.{Integer}
use Rattle.c_builtins.specs.declared.builtin.Builtin.TheVariants.{Malloc, Free, Spawn, Join, Lock, Unlock, Print}
use Rattle.c_builtins.specs.Table.{number_of}
use Rattle.c_types_rules.specs.TypedTree.{Object, Value, Values, PointerPlus, PlusPointer, PointerMinus, GlobalObject, LocalObject, TextObject, Pointed, Element, MemberOf, Constant, FunctionAddress, ReadOf, AddressOf, Convert, Negate, Complement, Arithmetic, PointerSum, PointerDifference, PointerComparison, Not, Both, Either, Choice, Sequence, Assigned, Changed, Moved, Stepped, CallOf, NoValues, MoreValues, SourceFunction, BuiltinFunction, Through, MaybeValue, NoValue, OneValue, int, object_type, value_type}
use Rattle.c_semantics.specs.Reading.{Marks, or_fault}
use Rattle.c_semantics.specs.Context.{global_address, text_address, size_of, member_offset, kind_of}
use Rattle.c_semantics.specs.Returned.{IsConverted}
use Rattle.c_semantics.specs.Statements.{maybe}
use Rattle.c_semantics.specs.Values.{Here, address, converted_to, fetch, given, load, local_address, moved_by, origin, stepped_by, store, summed, target, truth, value, values, wrap}
use Rattle.lockset_check_rules.specs.declared.finding.LockFinding.{LockFinding}
use Rattle.lockset_check_rules.specs.declared.finding.LockFinding.TheVariants.{NotConstant, Unheld, UnlockUnheld}
use Rattle.lockset_check_rules.specs.Mutexes.{Locks, are_held, is_held, shared, with_lock, without_lock}
use Rattle.lockset_check_rules.specs.Guards.{Guarded, function_name}
use Rattle.lockset_check_rules.specs.After.{builtin_after, maybe_after, mutex_of, object_after, value_after, values_after}
use Rattle.lockset_check_rules.specs.Values.{builtin_found, maybe_found, object_found, value_found, values_found}
use Rattle.lockset_check_threads.specs.Wants.{calls}
use Rattle.lockset_check_threads.specs.Typed.{InMaybe, InObject, InValue, InValues, IsCall, IsOfKinds}
use Rattle.lockset_check_threads.proofs.Asked.{at_zero_kept, or_fault_kept}
use Rattle.lockset_check_threads.proofs.Holding.{fewer_held}
use Rattle.lockset_check_threads.proofs.Places.{CallsKept, Goes, GoesOn, Starts, Then, fetch_kept, fewer_calls, later, load_kept, store_kept}
use Rattle.lockset_check_threads.proofs.Sets.{In, held_in, in_shared}
use Rattle.lockset_check_threads.proofs.Silent.{IsSilent, constants_are_silent}
use Rattle.lockset_check_threads.proofs.Touched.{asked, in_neither}

-- ---- the argument of a call that locks or unlocks

-- it is a constant
locks_constant : (from : ℕ) (vs : Values) (s : Locks) → builtin_found from Lock vs s ≡ [] → (z : ℤ) × (mutex_of vs ≡ Some z)
locks_constant from vs s e = by (mutex_of vs) refl e
  where
    by : (o : Option ℤ) → mutex_of vs ≡ o → elim o as (λ x. List LockFinding) [ Some k ↦ [] | None ↦ NotConstant from ∷ [] ] ≡ [] → (z : ℤ) × (mutex_of vs ≡ Some z)
    by (Some z) is f = (z, is)
    by None is f = absurd cc

-- and it is held
unlocks_held : (from : ℕ) (vs : Values) (s : Locks) → builtin_found from Unlock vs s ≡ [] → (z : ℤ) × (mutex_of vs ≡ Some z) × In z s
unlocks_held from vs s e = by (mutex_of vs) refl e
  where
    by : (o : Option ℤ) → mutex_of vs ≡ o → elim o as (λ x. List LockFinding) [ Some k ↦ cond (is_held k s) [] (UnlockUnheld from ∷ []) | None ↦ NotConstant from ∷ [] ] ≡ [] → (z : ℤ) × (mutex_of vs ≡ Some z) × In z s
    by (Some z) is f = (z, is, held_in z s (asked (is_held z s) (UnlockUnheld from) f))
    by None is f = absurd cc

converted_type : (v : Value) → IsConverted int v → value_type v ≡ Integer I32
converted_type (Convert t v) c = c.0
converted_type v c = absurd c

integer_same : (j k : IntKind) → Integer j ≡ Integer k → j ≡ k
integer_same j k e = cc

int_value : (v : Value) (z : ℤ) → IsConverted int v → IsSilent v z → IsValue I32 z
int_value v z c s = subst (λ k. IsValue k z) (integer_same s.kind I32 (sym s.type ∙ converted_type v c)) s.fits

abbrev lock_after : Option ℤ → Locks → Locks
lock_after (Some k) s = with_lock k s
lock_after None s = s

abbrev unlock_after : Option ℤ → Locks → Locks
unlock_after (Some k) s = without_lock k s
unlock_after None s = s

module _ (r : Guarded) (runs : ℕ → Bool) (h : Here) (outside : ℕ → Side → Type 0) where
  abbrev S : ℕ → Locks → Marks → Type 0
  S = Starts r runs outside h.side

  abbrev G : ℕ → Locks → (ℕ → Marks) → Type 0
  G = Goes r runs outside h.side

  abbrev Gs : ℕ → Locks → (List ℕ → Marks) → Type 0
  Gs = GoesOn r runs outside h.side

  abbrev C : ℕ → Type 0
  C = CallsKept r runs h outside

  less : (j k : ℕ) → j ≤ k → C k → C j
  less = fewer_calls r runs h outside

  -- a constant is a value as any other, after which the call has this argument
  constant_kept : (v : Value) (z : ℤ) (k : ℕ) (s : Locks) (go : ℕ → Marks) → IsSilent v z → S k s (value v h (λ x. go (written z))) → S k s (value v h go)
  constant_kept v z k s go is kept = subst (λ p. S k s p) (is.gives h (λ x. go (written z)) ∙ sym (is.gives h go)) kept

  or_fault_starts : (k : ℕ) (s : Locks) (f : ℕ → Marks) → G k s f → (v : _) → S k s (or_fault h.side v f)
  or_fault_starts k s f c v mine hold = or_fault_kept r runs k mine h.side v f (λ n. c k (omega arith) n mine hold)

  -- two ways
  either_way : (k : ℕ) (s : Locks) (x : ℕ) (p q : Marks) → S k s p → S k s q → S k s (at_zero x p q)
  either_way k s x p q a b mine hold = at_zero_kept r runs k mine x p q (a mine hold) (b mine hold)

  -- with fewer mutexes
  on_fewer : (k : ℕ) (s t : Locks) (p : Marks) → ((z : ℤ) → In z t → In z s) → S k t p → S k s p
  on_fewer k s t p sub c mine hold = c mine (fewer_held s t outside h.side mine sub hold)

  first_shared : (s t : Locks) (z : ℤ) → In z (shared s t) → In z s
  first_shared s t z i = (in_shared z s t i).0

  second_shared : (s t : Locks) (z : ℤ) → In z (shared s t) → In z t
  second_shared s t z i = (in_shared z s t i).1

  -- where the argument is a value as any other, the call after it is one of this mutex
  locked_kept : (v : Value) (from k : ℕ) (s : Locks) (go : ℕ → Marks) → C k → IsConverted int v × IsOfKinds v → builtin_found from Lock (MoreValues v NoValues) (value_after v s) ≡ [] → G k (builtin_after Lock (MoreValues v NoValues) (value_after v s)) go
      → ((p : Marks) → G k (value_after v s) (λ x. p) → S k s (value v h (λ x. p))) → S k s (value v h (λ x. h.call calls.lock (x ∷ []) go))
  locked_kept v from k s go cs m e c next =
      let w = value_after v s in
      let q = locks_constant from (MoreValues v NoValues) w e in
      let is = constants_are_silent v q.0 m.1 q.1 in
      let after : G k (with_lock q.0 w) go = subst (λ o. G k (lock_after o w) go) q.1 c in
      constant_kept v q.0 k s (λ x. h.call calls.lock (x ∷ []) go) is
      (next (h.call calls.lock (written q.0 ∷ []) go) (λ j le x. cs.locked j le q.0 (int_value v q.0 m.0 is) w go (later r runs outside h.side j k (with_lock q.0 w) go le after)))

  unlocked_kept : (v : Value) (from k : ℕ) (s : Locks) (go : ℕ → Marks) → C k → IsConverted int v × IsOfKinds v → builtin_found from Unlock (MoreValues v NoValues) (value_after v s) ≡ [] → G k (builtin_after Unlock (MoreValues v NoValues) (value_after v s)) go
      → ((p : Marks) → G k (value_after v s) (λ x. p) → S k s (value v h (λ x. p))) → S k s (value v h (λ x. h.call calls.unlock (x ∷ []) go))
  unlocked_kept v from k s go cs m e c next =
      let w = value_after v s in
      let q = unlocks_held from (MoreValues v NoValues) w e in
      let is = constants_are_silent v q.0 m.1 q.1 in
      let after : G k (without_lock q.0 w) go = subst (λ o. G k (unlock_after o w) go) q.1 c in
      constant_kept v q.0 k s (λ x. h.call calls.unlock (x ∷ []) go) is
      (next (h.call calls.unlock (written q.0 ∷ []) go) (λ j le x. cs.unlocked j le q.0 w q.2 go (later r runs outside h.side j k (without_lock q.0 w) go le after)))

  mutual
    pub address_kept : (o : Object) (k : ℕ) (s : Locks) (go : ℕ → Marks) → C k → InObject IsCall o → object_found r o s ≡ [] → G k (object_after o s) go → S k s (address o h go)
    address_kept (GlobalObject from place t) k s go cs ty f c = c k (omega arith) (global_address h.source place)
    address_kept (LocalObject place t) k s go cs ty f c = c k (omega arith) (local_address h place)
    address_kept (TextObject from n) k s go cs ty f c = c k (omega arith) (text_address h.source from)
    address_kept (Pointed v t) k s go cs ty f c = value_kept v false k s go cs ty f c
    address_kept (Element PointerPlus p i t) k s go cs ty f c =
        let fs = in_neither (value_found r true p s) (value_found r false i (value_after p s)) f in
        value_kept p true k s (λ x. value i h (λ y. go (summed PointerPlus x y (size_of h.source t)))) cs ty.0 fs.0
        (λ j le x. value_kept i false j (value_after p s) (λ y. go (summed PointerPlus x y (size_of h.source t))) (less j k le cs) ty.1 fs.1
        (λ m lm y. c m (omega arith) (summed PointerPlus x y (size_of h.source t))))
    address_kept (Element PlusPointer p i t) k s go cs ty f c =
        let fs = in_neither (value_found r false i s) (value_found r true p (value_after i s)) f in
        value_kept i false k s (λ y. value p h (λ x. go (summed PlusPointer x y (size_of h.source t)))) cs ty.1 fs.0
        (λ j le y. value_kept p true j (value_after i s) (λ x. go (summed PlusPointer x y (size_of h.source t))) (less j k le cs) ty.0 fs.1
        (λ m lm x. c m (omega arith) (summed PlusPointer x y (size_of h.source t))))
    address_kept (Element PointerMinus p i t) k s go cs ty f c =
        let fs = in_neither (value_found r true p s) (value_found r false i (value_after p s)) f in
        value_kept p true k s (λ x. value i h (λ y. go (summed PointerMinus x y (size_of h.source t)))) cs ty.0 fs.0
        (λ j le x. value_kept i false j (value_after p s) (λ y. go (summed PointerMinus x y (size_of h.source t))) (less j k le cs) ty.1 fs.1
        (λ m lm y. c m (omega arith) (summed PointerMinus x y (size_of h.source t))))
    address_kept (MemberOf o number t) k s go cs ty f c =
        address_kept o k s (λ a. go (wrap (a + member_offset h.source (object_type o) number))) cs ty f (λ j le a. c j le (wrap (a + member_offset h.source (object_type o) number)))

    pub value_kept : (v : Value) (u : Bool) (k : ℕ) (s : Locks) (go : ℕ → Marks) → C k → InValue IsCall v → value_found r u v s ≡ [] → G k (value_after v s) go → S k s (value v h go)
    value_kept (Constant i n) u k s go cs ty f c = c k (omega arith) (written n)
    value_kept (FunctionAddress from number t) u k s go cs ty f c = c k (omega arith) (function_address number)
    value_kept (ReadOf o) u k s go cs ty f c =
        let fs = in_neither (object_found r o s) _ f in
        address_kept o k s (load h (origin o) (object_type o) go) cs ty fs.0
        (λ j le a. load_kept r runs h outside j (object_after o s) o go a fs.1 (later r runs outside h.side j k (object_after o s) go le c))
    value_kept (AddressOf o t) u k s go cs ty f c = let fs = in_neither (object_found r o s) _ f in address_kept o k s go cs ty fs.0 c
    value_kept (Convert t v) u k s go cs ty f c = value_kept v false k s (λ x. go (converted_to t x)) cs ty f (λ j le x. c j le (converted_to t x))
    value_kept (Negate i v) u k s go cs ty f c = value_kept v false k s (λ x. go (written (wrapped i (pos 0 -ℤ read i x)))) cs ty f (λ j le x. c j le (written (wrapped i (pos 0 -ℤ read i x))))
    value_kept (Complement i v) u k s go cs ty f c = value_kept v false k s (λ x. go (written (wrapped i (negsuc 0 -ℤ read i x)))) cs ty f (λ j le x. c j le (written (wrapped i (negsuc 0 -ℤ read i x))))
    value_kept (Arithmetic op i a b) u k s go cs ty f c =
        let fs = in_neither (value_found r false a s) (value_found r false b (value_after a s)) f in
        value_kept a false k s (λ x. value b h (λ y. or_fault h.side (arith_of op i x y) go)) cs ty.0 fs.0
        (λ j le x. value_kept b false j (value_after a s) (λ y. or_fault h.side (arith_of op i x y) go) (less j k le cs) ty.1 fs.1
        (λ m lm y. or_fault_starts m (value_after b (value_after a s)) go (later r runs outside h.side m k (value_after b (value_after a s)) go (omega arith) c) (arith_of op i x y)))
    value_kept (PointerSum PointerPlus p i size) u k s go cs ty f c =
        let fs = in_neither (value_found r false p s) (value_found r false i (value_after p s)) f in
        value_kept p false k s (λ x. value i h (λ y. go (summed PointerPlus x y size))) cs ty.0 fs.0
        (λ j le x. value_kept i false j (value_after p s) (λ y. go (summed PointerPlus x y size)) (less j k le cs) ty.1 fs.1 (λ m lm y. c m (omega arith) (summed PointerPlus x y size)))
    value_kept (PointerSum PlusPointer p i size) u k s go cs ty f c =
        let fs = in_neither (value_found r false i s) (value_found r false p (value_after i s)) f in
        value_kept i false k s (λ y. value p h (λ x. go (summed PlusPointer x y size))) cs ty.1 fs.0
        (λ j le y. value_kept p false j (value_after i s) (λ x. go (summed PlusPointer x y size)) (less j k le cs) ty.0 fs.1 (λ m lm x. c m (omega arith) (summed PlusPointer x y size)))
    value_kept (PointerSum PointerMinus p i size) u k s go cs ty f c =
        let fs = in_neither (value_found r false p s) (value_found r false i (value_after p s)) f in
        value_kept p false k s (λ x. value i h (λ y. go (summed PointerMinus x y size))) cs ty.0 fs.0
        (λ j le x. value_kept i false j (value_after p s) (λ y. go (summed PointerMinus x y size)) (less j k le cs) ty.1 fs.1 (λ m lm y. c m (omega arith) (summed PointerMinus x y size)))
    value_kept (PointerDifference a b size) u k s go cs ty f c =
        let fs = in_neither (value_found r false a s) (value_found r false b (value_after a s)) f in
        value_kept a false k s (λ x. value b h (λ y. or_fault h.side (arith_of Div I64 (written (pos x -ℤ pos y)) size) go)) cs ty.0 fs.0
        (λ j le x. value_kept b false j (value_after a s) (λ y. or_fault h.side (arith_of Div I64 (written (pos x -ℤ pos y)) size) go) (less j k le cs) ty.1 fs.1
        (λ m lm y. or_fault_starts m (value_after b (value_after a s)) go (later r runs outside h.side m k (value_after b (value_after a s)) go (omega arith) c) (arith_of Div I64 (written (pos x -ℤ pos y)) size)))
    value_kept (PointerComparison op a b) u k s go cs ty f c =
        let fs = in_neither (value_found r false a s) (value_found r false b (value_after a s)) f in
        value_kept a false k s (λ x. value b h (λ y. or_fault h.side (arith_of op U64 x y) go)) cs ty.0 fs.0
        (λ j le x. value_kept b false j (value_after a s) (λ y. or_fault h.side (arith_of op U64 x y) go) (less j k le cs) ty.1 fs.1
        (λ m lm y. or_fault_starts m (value_after b (value_after a s)) go (later r runs outside h.side m k (value_after b (value_after a s)) go (omega arith) c) (arith_of op U64 x y)))
    value_kept (Not v) u k s go cs ty f c = value_kept v false k s (λ x. go (at_zero x 1 0)) cs ty f (λ j le x. c j le (at_zero x 1 0))
    value_kept (Both a b) u k s go cs ty f c =
        let t = value_after a s in
        let w = value_after b t in
        let fs = in_neither (value_found r false a s) (value_found r false b t) f in
        value_kept a false k s (λ x. at_zero x (go 0) (value b h (λ y. go (truth y)))) cs ty.0 fs.0
        (λ j le x. either_way j t x (go 0) (value b h (λ y. go (truth y)))
        (on_fewer j t (shared t w) (go 0) (first_shared t w) (c j le 0))
        (value_kept b false j t (λ y. go (truth y)) (less j k le cs) ty.1 fs.1 (λ m lm y. on_fewer m w (shared t w) (go (truth y)) (second_shared t w) (c m (omega arith) (truth y)))))
    value_kept (Either a b) u k s go cs ty f c =
        let t = value_after a s in
        let w = value_after b t in
        let fs = in_neither (value_found r false a s) (value_found r false b t) f in
        value_kept a false k s (λ x. at_zero x (value b h (λ y. go (truth y))) (go 1)) cs ty.0 fs.0
        (λ j le x. either_way j t x (value b h (λ y. go (truth y))) (go 1)
        (value_kept b false j t (λ y. go (truth y)) (less j k le cs) ty.1 fs.1 (λ m lm y. on_fewer m w (shared t w) (go (truth y)) (second_shared t w) (c m (omega arith) (truth y))))
        (on_fewer j t (shared t w) (go 1) (first_shared t w) (c j le 1)))
    value_kept (Choice d a b) u k s go cs ty f c =
        let t = value_after d s in
        let p = value_after a t in
        let q = value_after b t in
        let fs = in_neither (value_found r false d s) (value_found r false a t ++ value_found r false b t) f in
        let gs = in_neither (value_found r false a t) (value_found r false b t) fs.1 in
        value_kept d false k s (λ x. at_zero x (value b h go) (value a h go)) cs ty.0 fs.0
        (λ j le x. either_way j t x (value b h go) (value a h go)
        (value_kept b false j t go (less j k le cs) ty.2 gs.1 (λ m lm y. on_fewer m q (shared p q) (go y) (second_shared p q) (c m (omega arith) y)))
        (value_kept a false j t go (less j k le cs) ty.1 gs.0 (λ m lm y. on_fewer m p (shared p q) (go y) (first_shared p q) (c m (omega arith) y))))
    value_kept (Sequence a b) u k s go cs ty f c =
        let fs = in_neither (value_found r false a s) (value_found r false b (value_after a s)) f in
        value_kept a false k s (λ x. value b h go) cs ty.0 fs.0 (λ j le x. value_kept b false j (value_after a s) go (less j k le cs) ty.1 fs.1 (λ m lm y. c m (omega arith) y))
    value_kept (Assigned o v) u k s go cs ty f c =
        let t = object_after o s in
        let w = value_after v t in
        let fs = in_neither (object_found r o s) _ f in
        let gs = in_neither (value_found r false v t) _ fs.1 in
        address_kept o k s (λ a. value v h (λ x. store h (origin o) (object_type o) a x (go x))) cs ty.0 fs.0
        (λ j le a. value_kept v false j t (λ x. store h (origin o) (object_type o) a x (go x)) (less j k le cs) ty.1 gs.0
        (λ m lm x. store_kept r runs h outside m w o a x (go x) gs.1 (λ i li. c i (omega arith) x)))
    value_kept (Changed o op i v) u k s go cs ty f c =
        let t = object_after o s in
        let w = value_after v t in
        let q = object_type o in
        let fs = in_neither (object_found r o s) _ f in
        let gs = in_neither _ _ fs.1 in
        let hs = in_neither (value_found r false v t) _ gs.1 in
        let put : ℕ → ℕ → Marks = λ a x. store h (origin o) q a (converted (kind_of q) x) (go (converted (kind_of q) x)) in
        address_kept o k s (λ a. fetch h (origin o) q (λ old. value v h (λ y. or_fault h.side (arith_of op i (converted i old) y) (put a))) a) cs ty.0 fs.0
        (λ j le a. fetch_kept r runs h outside j t o (λ old. value v h (λ y. or_fault h.side (arith_of op i (converted i old) y) (put a))) a gs.0
        (λ m lm old. value_kept v false m t (λ y. or_fault h.side (arith_of op i (converted i old) y) (put a)) (less m k (omega arith) cs) ty.1 hs.0
        (λ n ln y. or_fault_starts n w (put a) (λ n2 ln2 x. store_kept r runs h outside n2 w o a (converted (kind_of q) x) (go (converted (kind_of q) x)) hs.1 (λ n3 ln3. c n3 (omega arith) (converted (kind_of q) x))) (arith_of op i (converted i old) y))))
    value_kept (Moved o way i size) u k s go cs ty f c =
        let t = object_after o s in
        let w = value_after i t in
        let q = object_type o in
        let fs = in_neither (object_found r o s) _ f in
        let gs = in_neither _ _ fs.1 in
        let hs = in_neither (value_found r false i t) _ gs.1 in
        let put : ℕ → ℕ → Marks = λ a x. store h (origin o) q a x (go x) in
        address_kept o k s (λ a. fetch h (origin o) q (λ old. value i h (λ y. put a (moved_by way old y size))) a) cs ty.0 fs.0
        (λ j le a. fetch_kept r runs h outside j t o (λ old. value i h (λ y. put a (moved_by way old y size))) a gs.0
        (λ m lm old. value_kept i false m t (λ y. put a (moved_by way old y size)) (less m k (omega arith) cs) ty.1 hs.0
        (λ n ln y. store_kept r runs h outside n w o a (moved_by way old y size) (go (moved_by way old y size)) hs.1 (λ n3 ln3. c n3 (omega arith) (moved_by way old y size)))))
    value_kept (Stepped o way v size) u k s go cs ty f c =
        let t = object_after o s in
        let q = object_type o in
        let fs = in_neither (object_found r o s) _ f in
        let new : ℕ → ℕ = λ old. converted (kind_of q) (stepped_by way old size) in
        address_kept o k s (λ a. fetch h (origin o) q (λ old. store h (origin o) q a (new old) (go (given v old (new old)))) a) cs ty fs.0
        (λ j le a. fetch_kept r runs h outside j t o (λ old. store h (origin o) q a (new old) (go (given v old (new old)))) a fs.1
        (λ m lm old. store_kept r runs h outside m t o a (new old) (go (given v old (new old))) fs.1 (λ i li. c i (omega arith) (given v old (new old)))))
    value_kept (CallOf (SourceFunction from number) vs t) u k s go cs ty f c =
        let w = values_after vs s in
        let fs = in_neither (values_found r vs s) _ f in
        values_kept vs k s (λ xs. h.call number xs go) cs ty.1 fs.0
        (λ j le xs. cs.named j le number ty.2.0 w (asked (are_held (r.holds number) w) (Unheld from (function_name r number)) fs.1) xs go (later r runs outside h.side j k w go le c))
    value_kept (CallOf (BuiltinFunction from Malloc) vs t) u k s go cs ty f c =
        let w = values_after vs s in
        let fs = in_neither (values_found r vs s) [] f in
        values_kept vs k s (λ xs. h.call (number_of Malloc) xs go) cs ty.1 fs.0 (λ j le xs. cs.others j le Malloc tt w xs go (later r runs outside h.side j k w go le c))
    value_kept (CallOf (BuiltinFunction from Free) vs t) u k s go cs ty f c =
        let w = values_after vs s in
        let fs = in_neither (values_found r vs s) [] f in
        values_kept vs k s (λ xs. h.call (number_of Free) xs go) cs ty.1 fs.0 (λ j le xs. cs.others j le Free tt w xs go (later r runs outside h.side j k w go le c))
    value_kept (CallOf (BuiltinFunction from Spawn) vs t) u k s go cs ty f c =
        let w = values_after vs s in
        let fs = in_neither (values_found r vs s) [] f in
        values_kept vs k s (λ xs. h.call (number_of Spawn) xs go) cs ty.1 fs.0 (λ j le xs. cs.others j le Spawn tt w xs go (later r runs outside h.side j k w go le c))
    value_kept (CallOf (BuiltinFunction from Join) vs t) u k s go cs ty f c =
        let w = values_after vs s in
        let fs = in_neither (values_found r vs s) [] f in
        values_kept vs k s (λ xs. h.call (number_of Join) xs go) cs ty.1 fs.0 (λ j le xs. cs.others j le Join tt w xs go (later r runs outside h.side j k w go le c))
    value_kept (CallOf (BuiltinFunction from Print) vs t) u k s go cs ty f c =
        let w = values_after vs s in
        let fs = in_neither (values_found r vs s) [] f in
        values_kept vs k s (λ xs. h.call (number_of Print) xs go) cs ty.1 fs.0 (λ j le xs. cs.others j le Print tt w xs go (later r runs outside h.side j k w go le c))
    value_kept (CallOf (BuiltinFunction from Lock) NoValues t) u k s go cs ty f c = absurd ty.2.0
    value_kept (CallOf (BuiltinFunction from Lock) (MoreValues v NoValues) t) u k s go cs ty f c =
        let w = value_after v s in
        let fs = in_neither (value_found r false v s ++ []) (builtin_found from Lock (MoreValues v NoValues) w) f in
        let gs = in_neither (value_found r false v s) [] fs.0 in
        locked_kept v from k s go cs (ty.2.0.0, ty.2.1.0) fs.1 c (λ p d. value_kept v false k s (λ x. p) cs ty.1.0 gs.0 d)
    value_kept (CallOf (BuiltinFunction from Lock) (MoreValues v (MoreValues w vs)) t) u k s go cs ty f c = absurd ty.2.0.1
    value_kept (CallOf (BuiltinFunction from Unlock) NoValues t) u k s go cs ty f c = absurd ty.2.0
    value_kept (CallOf (BuiltinFunction from Unlock) (MoreValues v NoValues) t) u k s go cs ty f c =
        let w = value_after v s in
        let fs = in_neither (value_found r false v s ++ []) (builtin_found from Unlock (MoreValues v NoValues) w) f in
        let gs = in_neither (value_found r false v s) [] fs.0 in
        unlocked_kept v from k s go cs (ty.2.0.0, ty.2.1.0) fs.1 c (λ p d. value_kept v false k s (λ x. p) cs ty.1.0 gs.0 d)
    value_kept (CallOf (BuiltinFunction from Unlock) (MoreValues v (MoreValues w vs)) t) u k s go cs ty f c = absurd ty.2.0.1
    value_kept (CallOf (Through v) vs t) u k s go cs ty f c =
        let w = value_after v s in
        let fs = in_neither (value_found r false v s) _ f in
        let gs = in_neither (values_found r vs w) [] fs.1 in
        let p = target (value_type v) in
        value_kept v false k s (λ a. values vs h (λ xs. h.call_at p a xs go)) cs ty.0 fs.0
        (λ j le a. values_kept vs j w (λ xs. h.call_at p a xs go) (less j k le cs) ty.1 gs.0
        (λ m lm xs. cs.pointed m (omega arith) p a (values_after vs w) xs go (later r runs outside h.side m k (values_after vs w) go (omega arith) c)))

    pub values_kept : (vs : Values) (k : ℕ) (s : Locks) (go : List ℕ → Marks) → C k → InValues IsCall vs → values_found r vs s ≡ [] → Gs k (values_after vs s) go → S k s (values vs h go)
    values_kept NoValues k s go cs ty f c = c k (omega arith) []
    values_kept (MoreValues v vs) k s go cs ty f c =
        let fs = in_neither (value_found r false v s) (values_found r vs (value_after v s)) f in
        value_kept v false k s (λ x. values vs h (λ xs. go (x ∷ xs))) cs ty.0 fs.0
        (λ j le x. values_kept vs j (value_after v s) (λ xs. go (x ∷ xs)) (less j k le cs) ty.1 fs.1 (λ m lm xs. c m (omega arith) (x ∷ xs)))

  pub maybe_kept : (v : MaybeValue) (k : ℕ) (s : Locks) (go : ℕ → Marks) (none : Marks) → C k → InMaybe IsCall v → maybe_found r v s ≡ [] → G k (maybe_after v s) go → Then r runs outside h.side k (maybe_after v s) none → S k s (maybe v h go none)
  maybe_kept NoValue k s go none cs ty f c d = d k (omega arith)
  maybe_kept (OneValue v) k s go none cs ty f c d = value_kept v false k s go cs ty f c
