-- The code of an expression keeps what valid code keeps: the evaluation stack is as deep before each
-- instruction as it needs, and at most 64.
use Rattle.std.proofs.Common.{◌≡◌, ℕ, suc, ◌+◌, ◌-◌, ◌<◌, ◌≤◌, Bool, true, false, List, [], ◌∷◌, ◌++◌, length, length-append, max, Option, Some, None, refl, sym, ap, ◌∙◌, subst, arith, ⊎_elim}
use Rattle.std.specs.Prelude.{slice_get}
use Rattle.std.proofs.lemmas.Option.{slice_get_past}
use Rattle.std.proofs.lemmas.Bool.{cases_lt}
use Rattle.r2_num.specs.declared.kinds.IntKind.{IntKind}
use Rattle.r2_num.specs.declared.kinds.IntKind.TheVariants.{I64, U64}
use Rattle.marks.specs.Places.{function_address}
use Rattle.c_code.specs.declared.instr.Push.{Push}
use Rattle.c_code.specs.declared.instr.Push.TheVariants.{Number, Local, Global, Text}
use Rattle.c_code.specs.declared.instr.Change.{Change}
use Rattle.c_code.specs.declared.instr.Change.TheVariants as change
use Rattle.c_code.specs.declared.instr.Combine.{Combine}
use Rattle.c_code.specs.declared.instr.Combine.TheVariants as combine
use Rattle.c_code.specs.declared.instr.Instr.{Instr}
use Rattle.c_code.specs.declared.instr.Instr.TheVariants as instr
use Rattle.c_code.specs.declared.code.FuncInfo.{FuncInfo}
use Rattle.c_code.specs.Machine.{Flat, func_of}
use Rattle.c_code.specs.Valid.{Keeps, Leads}
use Rattle.c_code.specs.Values.{written}
use Rattle.c_builtins.specs.Table.{number_of}
use Rattle.c_types_rules.specs.TypedTree.{Object, Value, Values, Callee, Sum, PointerPlus, PlusPointer, PointerMinus, Way, Up, Down, GlobalObject, LocalObject, TextObject, Pointed, Element, MemberOf, Constant, FunctionAddress, ReadOf, AddressOf, Convert, Negate, Complement, Arithmetic, PointerSum, PointerDifference, PointerComparison, Not, Both, Either, Choice, Sequence, Assigned, Changed, Moved, Stepped, CallOf, NoValues, MoreValues, SourceFunction, BuiltinFunction, Through, object_type, value_type}
use Rattle.c_semantics.specs.Context.{kind_of, member_offset, order_of, size_of}
use Rattle.c_semantics.specs.Values.{is_read, origin, target}
use Rattle.c_lower_placement.specs.Conversions.{converts, reconverts}
use Rattle.c_lower_placement.specs.Placement.{count, keeps_old, loads, offset_of, step_by, stores}
use Rattle.c_lower_placement.specs.Code.{Lies, Making, call_code, callee_code, convert_code, load_code, move_code, object_code, one, sum_code, value_code, values_code}
use Rattle.c_lower_placement.specs.Heights.{CalleeCalls, Kept, ObjectCalls, Stand, Takes, ValueCalls, ValuesCall, call_depth, callee_heights, if_true, move_heights, object_heights, object_depth, pair_depth, sum_heights, sum_depth, under_args, value_heights, value_depth, values_heights, values_depth}
use Rattle.c_lower_placement.proofs.Lying.{split}

module _ (x : Making) (height : ℕ → ℕ) where
  abbrev code : Flat
  code = x.against.code

  pub split_stand : (hs ks : List ℕ) (at : ℕ) → Stand height at (hs ++ ks) → Stand height at hs × Stand height (at + length hs) ks
  split_stand [] ks at h = let e : at ≡ at + 0 = omega arith in (tt, subst (λ z. Stand height z ks) e h)
  split_stand (k ∷ hs) ks at h =
      let r = split_stand hs ks (at + 1) h.1 in
      let e : at + 1 + length hs ≡ at + length (k ∷ hs) = omega arith in
      ((h.0, r.0), subst (λ z. Stand height z ks) e r.1)

  -- of as many heights as instructions
  pub parted : (hs ks : List ℕ) (is : List Instr) (at : ℕ) → length hs ≡ length is → Stand height at (hs ++ ks) → Stand height at hs × Stand height (at + length is) ks
  parted hs ks is at e h = let r = split_stand hs ks at h in (r.0, subst (λ z. Stand height (at + z) ks) e r.1)

  pub joined : (is js : List Instr) (at : ℕ) → Kept code height at is → Kept code height (at + length is) js → Kept code height at (is ++ js)
  joined [] js at h k = let e : at + 0 ≡ at = omega arith in subst (λ z. Kept code height z js) e k
  joined (i ∷ is) js at h k = let e : at + length (i ∷ is) ≡ at + 1 + length is = omega arith in (h.0, joined is js (at + 1) h.1 (subst (λ z. Kept code height z js) e k))

  stands_there : (at : ℕ) (i : Instr) → slice_get code.instrs at ≡ Some i → at < length code.instrs
  stands_there at i e = ⊎_elim (λ lt. lt) (λ le. let n : slice_get code.instrs at ≡ None = slice_get_past code.instrs at le in absurd cc) (cases_lt at (length code.instrs))

  -- an instruction that stands there, before which the evaluation stack is so deep
  pub leads_to : (at : ℕ) (i : Instr) (h : ℕ) → slice_get code.instrs at ≡ Some i → height at ≡ h → Leads code height at h
  leads_to at i h e k = (stands_there at i e, k)

  pub leads_at : (at to h k : ℕ) → at ≡ to → h ≡ k → Leads code height at h → Leads code height to k
  leads_at at to h k e f l = subst (λ z. Leads code height z k) e (subst (λ z. Leads code height at z) f l)

  -- ---- single instructions

  pub k_push : (w : Push) (at h : ℕ) → height at ≡ h → h ≤ 64 → Leads code height (at + 1) (h + 1) → Keeps code height at (instr.Push w)
  k_push w at h e f l = record { enough = omega arith; few = omega (arith, e); goes_on = leads_at (at + 1) (at + 1) (h + 1) (height at + 1) refl (omega (arith, e)) l; sound = tt }

  pub k_change : (c : Change) (at h : ℕ) → height at ≡ h + 1 → h + 1 ≤ 64 → Leads code height (at + 1) (h + 1) → Keeps code height at (instr.Change c)
  k_change c at h e f l = record { enough = omega (arith, e); few = omega (arith, e); goes_on = leads_at (at + 1) (at + 1) (h + 1) (height at) refl (sym e) l; sound = tt }

  pub k_combine : (c : Combine) (at h : ℕ) → height at ≡ h + 2 → h + 2 ≤ 64 → Leads code height (at + 1) (h + 1) → Keeps code height at (instr.Combine c)
  k_combine c at h e f l = record { enough = omega (arith, e); few = omega (arith, e); goes_on = leads_at (at + 1) (at + 1) (h + 1) (height at - 1) refl (omega (arith, e)) l; sound = tt }

  pub k_load : (k : IntKind) (o : Option ℕ) (at h : ℕ) → height at ≡ h + 1 → h + 1 ≤ 64 → Leads code height (at + 1) (h + 1) → Keeps code height at (instr.Load k o)
  k_load k o at h e f l = record { enough = omega (arith, e); few = omega (arith, e); goes_on = leads_at (at + 1) (at + 1) (h + 1) (height at) refl (sym e) l; sound = tt }

  pub k_keep : (k : IntKind) (o : Option ℕ) (at h : ℕ) → height at ≡ h + 1 → h + 1 ≤ 64 → Leads code height (at + 1) (h + 2) → Keeps code height at (instr.LoadKeep k o)
  k_keep k o at h e f l = record { enough = omega (arith, e); few = omega (arith, e); goes_on = leads_at (at + 1) (at + 1) (h + 2) (height at + 1) refl (omega (arith, e)) l; sound = tt }

  pub k_store : (k : IntKind) (o : Option ℕ) (at h : ℕ) → height at ≡ h + 2 → h + 2 ≤ 64 → Leads code height (at + 1) (h + 1) → Keeps code height at (instr.Store k o)
  k_store k o at h e f l = record { enough = omega (arith, e); few = omega (arith, e); goes_on = leads_at (at + 1) (at + 1) (h + 1) (height at - 1) refl (omega (arith, e)) l; sound = tt }

  pub k_local : (k : IntKind) (offset at h : ℕ) → height at ≡ h + 1 → h + 1 ≤ 64 → Leads code height (at + 1) h → Keeps code height at (instr.StoreLocal k offset)
  k_local k offset at h e f l = record { enough = omega (arith, e); few = omega (arith, e); goes_on = leads_at (at + 1) (at + 1) h (height at - 1) refl (omega (arith, e)) l; sound = tt }

  pub k_step : (k : IntKind) (by : ℕ) (old : Bool) (o : Option ℕ) (at h : ℕ) → height at ≡ h + 2 → h + 2 ≤ 64 → Leads code height (at + 1) (h + 1) → Keeps code height at (instr.StoreStep k by old o)
  k_step k by old o at h e f l = record { enough = omega (arith, e); few = omega (arith, e); goes_on = leads_at (at + 1) (at + 1) (h + 1) (height at - 1) refl (omega (arith, e)) l; sound = tt }

  pub k_drop : (at h : ℕ) → height at ≡ h + 1 → h + 1 ≤ 64 → Leads code height (at + 1) h → Keeps code height at instr.Drop
  k_drop at h e f l = record { enough = omega (arith, e); few = omega (arith, e); goes_on = leads_at (at + 1) (at + 1) h (height at - 1) refl (omega (arith, e)) l; sound = tt }

  pub k_skip : (n at h target : ℕ) → height at ≡ h + 1 → h + 1 ≤ 64 → at + 1 + n ≡ target → Leads code height (at + 1) h → Leads code height target h → Keeps code height at (instr.SkipIfZero n)
  k_skip n at h target e f t l m = record { enough = omega (arith, e); few = omega (arith, e); goes_on = (leads_at (at + 1) (at + 1) h (height at - 1) refl (omega (arith, e)) l, leads_at target (at + 1 + n) h (height at - 1) (sym t) (omega (arith, e)) m); sound = tt }

  pub k_end_zero : (n at h target : ℕ) → height at ≡ h + 1 → h + 1 ≤ 64 → at + 1 + n ≡ target → Leads code height (at + 1) h → Leads code height target (h + 1) → Keeps code height at (instr.EndIfZero n)
  k_end_zero n at h target e f t l m = record { enough = omega (arith, e); few = omega (arith, e); goes_on = (leads_at (at + 1) (at + 1) h (height at - 1) refl (omega (arith, e)) l, leads_at target (at + 1 + n) (h + 1) (height at) (sym t) (sym e) m); sound = tt }

  pub k_end_unless : (n at h target : ℕ) → height at ≡ h + 1 → h + 1 ≤ 64 → at + 1 + n ≡ target → Leads code height (at + 1) h → Leads code height target (h + 1) → Keeps code height at (instr.EndUnlessZero n)
  k_end_unless n at h target e f t l m = record { enough = omega (arith, e); few = omega (arith, e); goes_on = (leads_at (at + 1) (at + 1) h (height at - 1) refl (omega (arith, e)) l, leads_at target (at + 1 + n) (h + 1) (height at) (sym t) (sym e) m); sound = tt }

  pub k_on : (n at h target : ℕ) → height at ≡ h → h ≤ 64 → at + 1 + n ≡ target → Leads code height target h → Keeps code height at (instr.GoOn n)
  k_on n at h target e f t m = record { enough = omega arith; few = omega (arith, e); goes_on = leads_at target (at + 1 + n) h (height at) (sym t) (sym e) m; sound = tt }

  pub k_call : (f n at h : ℕ) → height at ≡ h + n → h + n ≤ 64 → Takes code f n → Leads code height (at + 1) (h + 1) → Keeps code height at (instr.Call f n)
  k_call f n at h e g t l = record { enough = omega (arith, e); few = omega (arith, e); goes_on = leads_at (at + 1) (at + 1) (h + 1) (height at - n + 1) refl (omega (arith, e)) l; sound = t }

  pub k_pointer : (sig n at h : ℕ) → height at ≡ h + 1 + n → h + 1 + n ≤ 64 → ((f : ℕ) (info : FuncInfo) → func_of code f ≡ Some info → info.sig ≡ sig → length info.params ≡ n) → Leads code height (at + 1) (h + 1) → Keeps code height at (instr.CallPointer sig n)
  k_pointer sig n at h e g t l = record { enough = omega (arith, e); few = omega (arith, e); goes_on = leads_at (at + 1) (at + 1) (h + 1) (height at - n) refl (omega (arith, e)) l; sound = t }

  -- ---- as many heights as instructions

  pub len_app : (hs ks : List ℕ) (is js : List Instr) → length hs ≡ length is → length ks ≡ length js → length (hs ++ ks) ≡ length (is ++ js)
  len_app hs ks is js e f = let a = length-append hs ks in let b = length-append is js in omega (arith, e, f, a, b)

  len_cons : (h : ℕ) (ks : List ℕ) (i : Instr) (js : List Instr) → length ks ≡ length js → length (h ∷ ks) ≡ length (i ∷ js)
  len_cons h ks i js e = ap suc e

  sum_len : (s : Sum) (p i : List Instr) (hp hi : ℕ → List ℕ) (size h : ℕ) → ((k : ℕ) → length (hp k) ≡ length p) → ((k : ℕ) → length (hi k) ≡ length i) → length (sum_heights s hp hi h) ≡ length (sum_code s p i size)
  sum_len PointerPlus p i hp hi size h e f = len_app (hp h) (hi (h + 1) ++ ((h + 2) ∷ [])) p (i ++ one (instr.Combine (combine.Index size))) (e h) (len_app (hi (h + 1)) ((h + 2) ∷ []) i (one (instr.Combine (combine.Index size))) (f (h + 1)) refl)
  sum_len PlusPointer p i hp hi size h e f = len_app (hi h) (hp (h + 1) ++ ((h + 2) ∷ [])) i (p ++ one (instr.Combine (combine.IndexOf size))) (f h) (len_app (hp (h + 1)) ((h + 2) ∷ []) p (one (instr.Combine (combine.IndexOf size))) (e (h + 1)) refl)
  sum_len PointerMinus p i hp hi size h e f =
      len_app (hp h) (hi (h + 1) ++ ((h + 2) ∷ ((h + 2) ∷ []))) p (i ++ (instr.Change (change.Negate I64) ∷ one (instr.Combine (combine.Index size)))) (e h)
      (len_app (hi (h + 1)) ((h + 2) ∷ ((h + 2) ∷ [])) i (instr.Change (change.Negate I64) ∷ one (instr.Combine (combine.Index size))) (f (h + 1)) refl)

  move_len : (w : Way) (size h : ℕ) → length (move_heights w h) ≡ length (move_code w size)
  move_len Up size h = refl
  move_len Down size h = refl

  load_len : (b : Bool) (o : Object) (h : ℕ) → length (if_true b h) ≡ length (load_code b o)
  load_len true o h = refl
  load_len false o h = refl

  convert_len : (b : Bool) (k : IntKind) (h : ℕ) → length (if_true b h) ≡ length (convert_code b k)
  convert_len true k h = refl
  convert_len false k h = refl

  call_len : (f : Callee) (n k : ℕ) → length (k ∷ []) ≡ length (call_code f x n)
  call_len (SourceFunction from number) n k = refl
  call_len (BuiltinFunction from b) n k = refl
  call_len (Through v) n k = refl

  pair_len : (a b : List Instr) (ha hb : List ℕ) (i : Instr) (k : ℕ) → length ha ≡ length a → length hb ≡ length b → length (ha ++ (hb ++ (k ∷ []))) ≡ length (a ++ (b ++ one i))
  pair_len a b ha hb i k e f = len_app ha (hb ++ (k ∷ [])) a (b ++ one i) e (len_app hb (k ∷ []) b (one i) f refl)

  logic_len : (j : Instr) (a b : List Instr) (ha hb : List ℕ) (i : Instr) (k m : ℕ) → length ha ≡ length a → length hb ≡ length b → length (ha ++ (m ∷ (hb ++ (k ∷ [])))) ≡ length (a ++ (j ∷ (b ++ one i)))
  logic_len j a b ha hb i k m e f = len_app ha (m ∷ (hb ++ (k ∷ []))) a (j ∷ (b ++ one i)) e (len_cons m (hb ++ (k ∷ [])) j (b ++ one i) (len_app hb (k ∷ []) b (one i) f refl))

  mutual
    pub object_len : (o : Object) (h : ℕ) → length (object_heights o h) ≡ length (object_code o x)
    object_len (GlobalObject from place t) h = refl
    object_len (LocalObject place t) h = refl
    object_len (TextObject from n) h = refl
    object_len (Pointed v t) h = value_len v h
    object_len (Element s p i t) h = sum_len s (value_code p x) (value_code i x) (value_heights p) (value_heights i) (size_of x.against.source t) h (λ k. value_len p k) (λ k. value_len i k)
    object_len (MemberOf o number t) h = len_app (object_heights o h) ((h + 1) ∷ []) (object_code o x) (one (instr.Change (change.Offset (member_offset x.against.source (object_type o) number)))) (object_len o h) refl

    pub value_len : (v : Value) (h : ℕ) → length (value_heights v h) ≡ length (value_code v x)
    value_len (Constant k n) h = refl
    value_len (FunctionAddress from number t) h = refl
    value_len (ReadOf o) h = len_app (object_heights o h) (if_true (is_read (object_type o)) (h + 1)) (object_code o x) (load_code (is_read (object_type o)) o) (object_len o h) (load_len (is_read (object_type o)) o (h + 1))
    value_len (AddressOf o t) h = object_len o h
    value_len (Convert t v) h = len_app (value_heights v h) (if_true (converts t v) (h + 1)) (value_code v x) (convert_code (converts t v) (kind_of t)) (value_len v h) (convert_len (converts t v) (kind_of t) (h + 1))
    value_len (Negate k v) h = len_app (value_heights v h) ((h + 1) ∷ []) (value_code v x) (one (instr.Change (change.Negate k))) (value_len v h) refl
    value_len (Complement k v) h = len_app (value_heights v h) ((h + 1) ∷ []) (value_code v x) (one (instr.Change (change.Complement k))) (value_len v h) refl
    value_len (Arithmetic op k a b) h = pair_len (value_code a x) (value_code b x) (value_heights a h) (value_heights b (h + 1)) (instr.Combine (combine.Arith op k)) (h + 2) (value_len a h) (value_len b (h + 1))
    value_len (PointerSum s p i size) h = sum_len s (value_code p x) (value_code i x) (value_heights p) (value_heights i) size h (λ k. value_len p k) (λ k. value_len i k)
    value_len (PointerDifference a b size) h = pair_len (value_code a x) (value_code b x) (value_heights a h) (value_heights b (h + 1)) (instr.Combine (combine.Distance size)) (h + 2) (value_len a h) (value_len b (h + 1))
    value_len (PointerComparison op a b) h = pair_len (value_code a x) (value_code b x) (value_heights a h) (value_heights b (h + 1)) (instr.Combine (combine.Arith op U64)) (h + 2) (value_len a h) (value_len b (h + 1))
    value_len (Not v) h = len_app (value_heights v h) ((h + 1) ∷ []) (value_code v x) (one (instr.Change change.Not)) (value_len v h) refl
    value_len (Both a b) h = logic_len (instr.EndIfZero (length (value_code b x) + 1)) (value_code a x) (value_code b x) (value_heights a h) (value_heights b h) (instr.Change change.Truth) (h + 1) (h + 1) (value_len a h) (value_len b h)
    value_len (Either a b) h = logic_len (instr.EndUnlessZero (length (value_code b x) + 1)) (value_code a x) (value_code b x) (value_heights a h) (value_heights b h) (instr.Change change.Truth) (h + 1) (h + 1) (value_len a h) (value_len b h)
    value_len (Choice c a b) h =
        let second = instr.GoOn (length (value_code b x)) ∷ value_code b x in
        len_app (value_heights c h) ((h + 1) ∷ (value_heights a h ++ ((h + 1) ∷ value_heights b h))) (value_code c x) (instr.SkipIfZero (length (value_code a x) + 1) ∷ (value_code a x ++ second)) (value_len c h)
        (ap suc (len_app (value_heights a h) ((h + 1) ∷ value_heights b h) (value_code a x) second (value_len a h) (ap suc (value_len b h))))
    value_len (Sequence a b) h = len_app (value_heights a h) ((h + 1) ∷ value_heights b h) (value_code a x) (instr.Drop ∷ value_code b x) (value_len a h) (ap suc (value_len b h))
    value_len (Assigned o v) h = pair_len (object_code o x) (value_code v x) (object_heights o h) (value_heights v (h + 1)) (stores o) (h + 2) (object_len o h) (value_len v (h + 1))
    value_len (Changed o op k v) h =
        let own = kind_of (object_type o) in
        let first = convert_code (reconverts own k) k in
        let second = convert_code (reconverts k own) own in
        let last = second ++ one (stores o) in
        let end = instr.Combine (combine.Arith op k) ∷ last in
        let inner = value_code v x ++ end in
        let last_heights = if_true (reconverts k own) (h + 2) ++ ((h + 2) ∷ []) in
        let inner_heights = value_heights v (h + 2) ++ ((h + 3) ∷ last_heights) in
        len_app (object_heights o h) ((h + 1) ∷ (if_true (reconverts own k) (h + 2) ++ inner_heights)) (object_code o x) (loads o ∷ (first ++ inner)) (object_len o h)
        (ap suc (len_app (if_true (reconverts own k) (h + 2)) inner_heights first inner (convert_len (reconverts own k) k (h + 2))
        (len_app (value_heights v (h + 2)) ((h + 3) ∷ last_heights) (value_code v x) end (value_len v (h + 2))
        (ap suc (len_app (if_true (reconverts k own) (h + 2)) ((h + 2) ∷ []) second (one (stores o)) (convert_len (reconverts k own) own (h + 2)) refl)))))
    value_len (Moved o w i size) h =
        len_app (object_heights o h) ((h + 1) ∷ (value_heights i (h + 2) ++ (move_heights w (h + 3) ++ ((h + 2) ∷ [])))) (object_code o x) (loads o ∷ (value_code i x ++ (move_code w size ++ one (stores o)))) (object_len o h)
        (ap suc (len_app (value_heights i (h + 2)) (move_heights w (h + 3) ++ ((h + 2) ∷ [])) (value_code i x) (move_code w size ++ one (stores o)) (value_len i (h + 2)) (len_app (move_heights w (h + 3)) ((h + 2) ∷ []) (move_code w size) (one (stores o)) (move_len w size (h + 3)) refl)))
    value_len (Stepped o w g size) h = len_app (object_heights o h) ((h + 1) ∷ ((h + 2) ∷ [])) (object_code o x) (loads o ∷ one (instr.StoreStep (kind_of (object_type o)) (step_by w size) (keeps_old g) (origin o))) (object_len o h) refl
    value_len (CallOf f vs t) h =
        len_app (callee_heights f h) (values_heights vs (under_args f h) ++ ((under_args f h + count vs) ∷ [])) (callee_code f x) (values_code vs x ++ call_code f x (count vs)) (callee_len f h)
        (len_app (values_heights vs (under_args f h)) ((under_args f h + count vs) ∷ []) (values_code vs x) (call_code f x (count vs)) (values_len vs (under_args f h)) (call_len f (count vs) (under_args f h + count vs)))

    pub values_len : (vs : Values) (h : ℕ) → length (values_heights vs h) ≡ length (values_code vs x)
    values_len NoValues h = refl
    values_len (MoreValues v vs) h = len_app (value_heights v h) (values_heights vs (h + 1)) (value_code v x) (values_code vs x) (value_len v h) (values_len vs (h + 1))

    pub callee_len : (f : Callee) (h : ℕ) → length (callee_heights f h) ≡ length (callee_code f x)
    callee_len (SourceFunction from number) h = refl
    callee_len (BuiltinFunction from b) h = refl
    callee_len (Through v) h = value_len v h

  -- ---- the first instruction

  -- a list of instructions, of which the first stands after so many values
  abbrev Begins : List Instr → List ℕ → ℕ → Type 0
  Begins is hs h = (at : ℕ) → Lies code.instrs at is → Stand height at hs → Leads code height at h

  begins_with : (is js : List Instr) (hs ks : List ℕ) (h : ℕ) → Begins is hs h → Begins (is ++ js) (hs ++ ks) h
  begins_with is js hs ks h b at l s = b at (split x is js at l).0 (split_stand hs ks at s).0

  one_begins : (i : Instr) (is : List Instr) (h k : ℕ) (hs : List ℕ) → h ≡ k → Begins (i ∷ is) (h ∷ hs) k
  one_begins i is h k hs e at l s = leads_to at i k l.0 (s.0 ∙ e)

  sum_begins : (s : Sum) (p i : List Instr) (hp hi : ℕ → List ℕ) (size h : ℕ) → Begins p (hp h) h → Begins i (hi h) h → Begins (sum_code s p i size) (sum_heights s hp hi h) h
  sum_begins PointerPlus p i hp hi size h b c = begins_with p (i ++ one (instr.Combine (combine.Index size))) (hp h) (hi (h + 1) ++ ((h + 2) ∷ [])) h b
  sum_begins PlusPointer p i hp hi size h b c = begins_with i (p ++ one (instr.Combine (combine.IndexOf size))) (hi h) (hp (h + 1) ++ ((h + 2) ∷ [])) h c
  sum_begins PointerMinus p i hp hi size h b c = begins_with p (i ++ (instr.Change (change.Negate I64) ∷ one (instr.Combine (combine.Index size)))) (hp h) (hi (h + 1) ++ ((h + 2) ∷ ((h + 2) ∷ []))) h b

  call_begins : (f : Callee) (n h k : ℕ) → h ≡ k → Begins (call_code f x n) (h ∷ []) k
  call_begins (SourceFunction from number) n h k e = one_begins (instr.Call number n) [] h k [] e
  call_begins (BuiltinFunction from b) n h k e = one_begins (instr.Call (number_of b) n) [] h k [] e
  call_begins (Through v) n h k e = one_begins (instr.CallPointer (x.sig (target (value_type v))) n) [] h k [] e

  mutual
    pub object_begins : (o : Object) (h : ℕ) → Begins (object_code o x) (object_heights o h) h
    object_begins (GlobalObject from place t) h = one_begins (instr.Push (Global place)) [] h h [] refl
    object_begins (LocalObject place t) h = one_begins (instr.Push (Local (offset_of x.against place))) [] h h [] refl
    object_begins (TextObject from n) h = one_begins (instr.Push (Text (order_of from x.against.source.texts))) [] h h [] refl
    object_begins (Pointed v t) h = value_begins v h
    object_begins (Element s p i t) h = sum_begins s (value_code p x) (value_code i x) (value_heights p) (value_heights i) (size_of x.against.source t) h (value_begins p h) (value_begins i h)
    object_begins (MemberOf o number t) h = begins_with (object_code o x) (one (instr.Change (change.Offset (member_offset x.against.source (object_type o) number)))) (object_heights o h) ((h + 1) ∷ []) h (object_begins o h)

    pub value_begins : (v : Value) (h : ℕ) → Begins (value_code v x) (value_heights v h) h
    value_begins (Constant k n) h = one_begins (instr.Push (Number (written n))) [] h h [] refl
    value_begins (FunctionAddress from number t) h = one_begins (instr.Push (Number (function_address number))) [] h h [] refl
    value_begins (ReadOf o) h = begins_with (object_code o x) (load_code (is_read (object_type o)) o) (object_heights o h) (if_true (is_read (object_type o)) (h + 1)) h (object_begins o h)
    value_begins (AddressOf o t) h = object_begins o h
    value_begins (Convert t v) h = begins_with (value_code v x) (convert_code (converts t v) (kind_of t)) (value_heights v h) (if_true (converts t v) (h + 1)) h (value_begins v h)
    value_begins (Negate k v) h = begins_with (value_code v x) (one (instr.Change (change.Negate k))) (value_heights v h) ((h + 1) ∷ []) h (value_begins v h)
    value_begins (Complement k v) h = begins_with (value_code v x) (one (instr.Change (change.Complement k))) (value_heights v h) ((h + 1) ∷ []) h (value_begins v h)
    value_begins (Arithmetic op k a b) h = begins_with (value_code a x) (value_code b x ++ one (instr.Combine (combine.Arith op k))) (value_heights a h) (value_heights b (h + 1) ++ ((h + 2) ∷ [])) h (value_begins a h)
    value_begins (PointerSum s p i size) h = sum_begins s (value_code p x) (value_code i x) (value_heights p) (value_heights i) size h (value_begins p h) (value_begins i h)
    value_begins (PointerDifference a b size) h = begins_with (value_code a x) (value_code b x ++ one (instr.Combine (combine.Distance size))) (value_heights a h) (value_heights b (h + 1) ++ ((h + 2) ∷ [])) h (value_begins a h)
    value_begins (PointerComparison op a b) h = begins_with (value_code a x) (value_code b x ++ one (instr.Combine (combine.Arith op U64))) (value_heights a h) (value_heights b (h + 1) ++ ((h + 2) ∷ [])) h (value_begins a h)
    value_begins (Not v) h = begins_with (value_code v x) (one (instr.Change change.Not)) (value_heights v h) ((h + 1) ∷ []) h (value_begins v h)
    value_begins (Both a b) h = begins_with (value_code a x) (instr.EndIfZero (length (value_code b x) + 1) ∷ (value_code b x ++ one (instr.Change change.Truth))) (value_heights a h) ((h + 1) ∷ (value_heights b h ++ ((h + 1) ∷ []))) h (value_begins a h)
    value_begins (Either a b) h = begins_with (value_code a x) (instr.EndUnlessZero (length (value_code b x) + 1) ∷ (value_code b x ++ one (instr.Change change.Truth))) (value_heights a h) ((h + 1) ∷ (value_heights b h ++ ((h + 1) ∷ []))) h (value_begins a h)
    value_begins (Choice c a b) h = begins_with (value_code c x) (instr.SkipIfZero (length (value_code a x) + 1) ∷ (value_code a x ++ (instr.GoOn (length (value_code b x)) ∷ value_code b x))) (value_heights c h) ((h + 1) ∷ (value_heights a h ++ ((h + 1) ∷ value_heights b h))) h (value_begins c h)
    value_begins (Sequence a b) h = begins_with (value_code a x) (instr.Drop ∷ value_code b x) (value_heights a h) ((h + 1) ∷ value_heights b h) h (value_begins a h)
    value_begins (Assigned o v) h = begins_with (object_code o x) (value_code v x ++ one (stores o)) (object_heights o h) (value_heights v (h + 1) ++ ((h + 2) ∷ [])) h (object_begins o h)
    value_begins (Changed o op k v) h =
        let own = kind_of (object_type o) in
        let first = convert_code (reconverts own k) k in
        let second = convert_code (reconverts k own) own in
        let last = second ++ one (stores o) in
        let end = instr.Combine (combine.Arith op k) ∷ last in
        let inner = value_code v x ++ end in
        let last_heights = if_true (reconverts k own) (h + 2) ++ ((h + 2) ∷ []) in
        let inner_heights = value_heights v (h + 2) ++ ((h + 3) ∷ last_heights) in
        begins_with (object_code o x) (loads o ∷ (first ++ inner)) (object_heights o h) ((h + 1) ∷ (if_true (reconverts own k) (h + 2) ++ inner_heights)) h (object_begins o h)
    value_begins (Moved o w i size) h = begins_with (object_code o x) (loads o ∷ (value_code i x ++ (move_code w size ++ one (stores o)))) (object_heights o h) ((h + 1) ∷ (value_heights i (h + 2) ++ (move_heights w (h + 3) ++ ((h + 2) ∷ [])))) h (object_begins o h)
    value_begins (Stepped o w g size) h = begins_with (object_code o x) (loads o ∷ one (instr.StoreStep (kind_of (object_type o)) (step_by w size) (keeps_old g) (origin o))) (object_heights o h) ((h + 1) ∷ ((h + 2) ∷ [])) h (object_begins o h)
    value_begins (CallOf (SourceFunction from number) vs t) h = values_begin vs (call_code (SourceFunction from number) x (count vs)) (SourceFunction from number) h (call_begins (SourceFunction from number) (count vs))
    value_begins (CallOf (BuiltinFunction from b) vs t) h = values_begin vs (call_code (BuiltinFunction from b) x (count vs)) (BuiltinFunction from b) h (call_begins (BuiltinFunction from b) (count vs))
    value_begins (CallOf (Through v) vs t) h = begins_with (value_code v x) (values_code vs x ++ call_code (Through v) x (count vs)) (value_heights v h) (values_heights vs (h + 1) ++ ((h + 1 + count vs) ∷ [])) h (value_begins v h)

    pub values_begin : (vs : Values) (last : List Instr) (f : Callee) (h : ℕ) → ((m k : ℕ) → m ≡ k → Begins last (m ∷ []) k) → Begins (values_code vs x ++ last) (values_heights vs h ++ ((h + count vs) ∷ [])) h
    values_begin NoValues last f h b at l s = b (h + 0) h (omega arith) at l s
    values_begin (MoreValues v vs) last f h b at l s =
        value_begins v h at (split x (value_code v x) (values_code vs x) at (split x (value_code v x ++ values_code vs x) last at l).0).0 (split_stand (value_heights v h) (values_heights vs (h + 1)) at (split_stand (value_heights v h ++ values_heights vs (h + 1)) ((h + count (MoreValues v vs)) ∷ []) at s).0).0

  -- ---- at least one value is on the stack

  mutual
    pub object_some : (o : Object) → 1 ≤ object_depth o
    object_some (GlobalObject from place t) = omega arith
    object_some (LocalObject place t) = omega arith
    object_some (TextObject from n) = omega arith
    object_some (Pointed v t) = value_some v
    object_some (Element PointerPlus p i t) = omega arith
    object_some (Element PlusPointer p i t) = omega arith
    object_some (Element PointerMinus p i t) = omega arith
    object_some (MemberOf o number t) = object_some o

    pub value_some : (v : Value) → 1 ≤ value_depth v
    value_some (Constant k n) = omega arith
    value_some (FunctionAddress from number t) = omega arith
    value_some (ReadOf o) = object_some o
    value_some (AddressOf o t) = object_some o
    value_some (Convert t v) = value_some v
    value_some (Negate k v) = value_some v
    value_some (Complement k v) = value_some v
    value_some (Arithmetic op k a b) = omega arith
    value_some (PointerSum PointerPlus p i size) = omega arith
    value_some (PointerSum PlusPointer p i size) = omega arith
    value_some (PointerSum PointerMinus p i size) = omega arith
    value_some (PointerDifference a b size) = omega arith
    value_some (PointerComparison op a b) = omega arith
    value_some (Not v) = value_some v
    value_some (Both a b) = let e = value_some a in omega (arith, e)
    value_some (Either a b) = let e = value_some a in omega (arith, e)
    value_some (Choice c a b) = let e = value_some c in omega (arith, e)
    value_some (Sequence a b) = let e = value_some a in omega (arith, e)
    value_some (Assigned o v) = omega arith
    value_some (Changed o op k v) = omega arith
    value_some (Moved o w i size) = omega arith
    value_some (Stepped o w g size) = omega arith
    value_some (CallOf (SourceFunction from number) vs t) = omega arith
    value_some (CallOf (BuiltinFunction from b) vs t) = omega arith
    value_some (CallOf (Through v) vs t) = omega arith

  -- ---- code that makes a value

  abbrev Keeping : List Instr → List ℕ → (h depth : ℕ) → Type 0
  Keeping is hs h w = (at : ℕ) → Lies code.instrs at is → Stand height at hs → Leads code height (at + length is) (h + 1) → h + w ≤ 64 → Kept code height at is

  abbrev KeepsAt : Instr → (before after : ℕ) → Type 0
  KeepsAt i h k = (n : ℕ) → height n ≡ h → h ≤ 64 → Leads code height (n + 1) k → Keeps code height n i

  single_kept : (i : Instr) (a : List Instr) (ha : List ℕ) (h w : ℕ) → length ha ≡ length a → 1 ≤ w → Keeping a ha h w → KeepsAt i (h + 1) (h + 1) → Keeping (a ++ one i) (ha ++ ((h + 1) ∷ [])) h w
  single_kept i a ha h w len some ka ki at l s to le =
      let c = split x a (one i) at l in
      let d = parted ha ((h + 1) ∷ []) a at len s in
      let e = length-append a (one i) in
      let m = at + length a in
      joined a (one i) at (ka at c.0 d.0 (leads_to m i (h + 1) c.1.0 d.1.0) le) (ki m d.1.0 (omega arith) (leads_at (at + length (a ++ one i)) (m + 1) (h + 1) (h + 1) (omega arith) refl to), tt)

  pair_kept : (i : Instr) (a b : List Instr) (ha hb : List ℕ) (h wa wb : ℕ) → length ha ≡ length a → length hb ≡ length b → 1 ≤ wb → Begins b hb (h + 1) → Keeping a ha h wa → Keeping b hb (h + 1) wb → KeepsAt i (h + 2) (h + 1)
      → Keeping (a ++ (b ++ one i)) (ha ++ (hb ++ ((h + 2) ∷ []))) h (pair_depth wa wb)
  pair_kept i a b ha hb h wa wb la lb some bb ka kb ki at l s to le =
      let c = split x a (b ++ one i) at l in
      let d = parted ha (hb ++ ((h + 2) ∷ [])) a at la s in
      let m = at + length a in
      let c2 = split x b (one i) m c.1 in
      let d2 = parted hb ((h + 2) ∷ []) b m lb d.1 in
      let n = m + length b in
      let e = length-append a (b ++ one i) in
      let e2 = length-append b (one i) in
      joined a (b ++ one i) at (ka at c.0 d.0 (bb m c2.0 d2.0) (omega arith))
      (joined b (one i) m (kb m c2.0 d2.0 (leads_at n n (h + 2) (h + 1 + 1) refl (omega arith) (leads_to n i (h + 2) c2.1.0 d2.1.0)) (omega arith))
      (ki n d2.1.0 (omega arith) (leads_at (at + length (a ++ (b ++ one i))) (n + 1) (h + 1) (h + 1) (omega arith) refl to), tt))

  sum_kept : (s : Sum) (p i : List Instr) (hp hi : ℕ → List ℕ) (size h wp wi : ℕ) → ((k : ℕ) → length (hp k) ≡ length p) → ((k : ℕ) → length (hi k) ≡ length i) → 1 ≤ wp → 1 ≤ wi → ((k : ℕ) → Begins p (hp k) k) → ((k : ℕ) → Begins i (hi k) k)
      → ((k : ℕ) → Keeping p (hp k) k wp) → ((k : ℕ) → Keeping i (hi k) k wi) → Keeping (sum_code s p i size) (sum_heights s hp hi h) h (sum_depth s wp wi)
  sum_kept PointerPlus p i hp hi size h wp wi lp li sp si bp bi kp ki at l s to le = pair_kept (instr.Combine (combine.Index size)) p i (hp h) (hi (h + 1)) h wp wi (lp h) (li (h + 1)) si (bi (h + 1)) (kp h) (ki (h + 1)) (λ n e f to. k_combine (combine.Index size) n h e f to) at l s to le
  sum_kept PlusPointer p i hp hi size h wp wi lp li sp si bp bi kp ki at l s to le = pair_kept (instr.Combine (combine.IndexOf size)) i p (hi h) (hp (h + 1)) h wi wp (li h) (lp (h + 1)) sp (bp (h + 1)) (ki h) (kp (h + 1)) (λ n e f to. k_combine (combine.IndexOf size) n h e f to) at l s to le
  sum_kept PointerMinus p i hp hi size h wp wi lp li sp si bp bi kp ki at l s to le =
      let last = instr.Change (change.Negate I64) ∷ one (instr.Combine (combine.Index size)) in
      let c = split x p (i ++ last) at l in
      let d = parted (hp h) (hi (h + 1) ++ ((h + 2) ∷ ((h + 2) ∷ []))) p at (lp h) s in
      let m = at + length p in
      let c2 = split x i last m c.1 in
      let d2 = parted (hi (h + 1)) ((h + 2) ∷ ((h + 2) ∷ [])) i m (li (h + 1)) d.1 in
      let n = m + length i in
      let e = length-append p (i ++ last) in
      let e2 = length-append i last in
      joined p (i ++ last) at (kp h at c.0 d.0 (bi (h + 1) m c2.0 d2.0) (omega arith))
      (joined i last m (ki (h + 1) m c2.0 d2.0 (leads_at n n (h + 2) (h + 1 + 1) refl (omega arith) (leads_to n (instr.Change (change.Negate I64)) (h + 2) c2.1.0 d2.1.0)) (omega arith)) (
        k_change (change.Negate I64) n (h + 1) (d2.1.0 ∙ (let g : h + 2 ≡ h + 1 + 1 = omega arith in g)) (omega arith) (leads_at (n + 1) (n + 1) (h + 2) (h + 1 + 1) refl (omega arith) (leads_to (n + 1) (instr.Combine (combine.Index size)) (h + 2) c2.1.1.0 d2.1.1.0)),
        (k_combine (combine.Index size) (n + 1) h d2.1.1.0 (omega arith) (leads_at (at + length (p ++ (i ++ last))) (n + 1 + 1) (h + 1) (h + 1) (omega arith) refl to), tt),
      ))

  -- a jump over the second value, whose truth is taken
  logic_kept : (j : Instr) (a b : List Instr) (ha hb : List ℕ) (h wa wb : ℕ) → length ha ≡ length a → length hb ≡ length b → 1 ≤ wa → 1 ≤ wb → Begins b hb h → Keeping a ha h wa → Keeping b hb h wb
      → ((n target : ℕ) → height n ≡ h + 1 → h + 1 ≤ 64 → n + 1 + (length b + 1) ≡ target → Leads code height (n + 1) h → Leads code height target (h + 1) → Keeps code height n j)
      → Keeping (a ++ (j ∷ (b ++ one (instr.Change change.Truth)))) (ha ++ ((h + 1) ∷ (hb ++ ((h + 1) ∷ [])))) h (max wa wb)
  logic_kept j a b ha hb h wa wb la lb sa sb bb ka kb kj at l s to le =
      let last = one (instr.Change change.Truth) in
      let rest = j ∷ (b ++ last) in
      let c = split x a rest at l in
      let d = parted ha ((h + 1) ∷ (hb ++ ((h + 1) ∷ []))) a at la s in
      let m = at + length a in
      let c2 = split x b last (m + 1) c.1.1 in
      let d2 = parted hb ((h + 1) ∷ []) b (m + 1) lb d.1.1 in
      let n = m + 1 + length b in
      let e = length-append a rest in
      let e2 = length-append b last in
      let end = at + length (a ++ rest) in
      joined a rest at (ka at c.0 d.0 (leads_to m j (h + 1) c.1.0 d.1.0) (omega arith)) (
        kj m end d.1.0 (omega arith) (omega arith) (bb (m + 1) c2.0 d2.0) to,
        joined b last (m + 1) (kb (m + 1) c2.0 d2.0 (leads_to n (instr.Change change.Truth) (h + 1) c2.1.0 d2.1.0) (omega arith)) (k_change change.Truth n h d2.1.0 (omega arith) (leads_at end (n + 1) (h + 1) (h + 1) (omega arith) refl to), tt),
      )

  load_kept : (b : Bool) (o : Object) (a : List Instr) (ha : List ℕ) (h w : ℕ) → length ha ≡ length a → 1 ≤ w → Keeping a ha h w → Keeping (a ++ load_code b o) (ha ++ if_true b (h + 1)) h w
  load_kept true o a ha h w len some k at l s to le = single_kept (instr.Load (kind_of (object_type o)) (origin o)) a ha h w len some k (λ n e f to. k_load (kind_of (object_type o)) (origin o) n h e f to) at l s to le
  load_kept false o a ha h w len some k at l s to le =
      let c = split x a [] at l in
      let d = parted ha [] a at len s in
      let e = length-append a [] in
      joined a [] at (k at c.0 d.0 (leads_at (at + length (a ++ [])) (at + length a) (h + 1) (h + 1) (omega arith) refl to) le) tt

  -- what may be converted, and more waits below than what is converted
  convert_leads : (b : Bool) (k : IntKind) (at h : ℕ) → Lies code.instrs at (convert_code b k) → Stand height at (if_true b h) → Leads code height (at + length (convert_code b k)) h → Leads code height at h
  convert_leads true k at h l s to = leads_to at (instr.Change (change.Convert k)) h l.0 s.0
  convert_leads false k at h l s to = leads_at (at + 0) at h h (omega arith) refl to

  changed_kept : (b : Bool) (k : IntKind) (at h n : ℕ) → n ≡ h + 1 → Lies code.instrs at (convert_code b k) → Stand height at (if_true b n) → n ≤ 64 → Leads code height (at + length (convert_code b k)) n → Kept code height at (convert_code b k)
  changed_kept true k at h n e l s le to = (k_change (change.Convert k) at h (s.0 ∙ e) (omega (arith, e, le)) (leads_at (at + 1) (at + 1) n (h + 1) refl e to), tt)
  changed_kept false k at h n e l s le to = tt

  convert_kept : (b : Bool) (kind : IntKind) (a : List Instr) (ha : List ℕ) (h w : ℕ) → length ha ≡ length a → 1 ≤ w → Keeping a ha h w → Keeping (a ++ convert_code b kind) (ha ++ if_true b (h + 1)) h w
  convert_kept true kind a ha h w len some k at l s to le = single_kept (instr.Change (change.Convert kind)) a ha h w len some k (λ n e f to. k_change (change.Convert kind) n h e f to) at l s to le
  convert_kept false kind a ha h w len some k at l s to le =
      let c = split x a [] at l in
      let d = parted ha [] a at len s in
      let e = length-append a [] in
      joined a [] at (k at c.0 d.0 (leads_at (at + length (a ++ [])) (at + length a) (h + 1) (h + 1) (omega arith) refl to) le) tt

  move_kept : (w : Way) (size at h : ℕ) → Lies code.instrs at (move_code w size) → Stand height at (move_heights w (h + 3)) → h + 3 ≤ 64 → Leads code height (at + length (move_code w size)) (h + 2) → Kept code height at (move_code w size)
  move_kept Up size at h l s le to = (k_combine (combine.Index size) at (h + 1) (s.0 ∙ (let g : h + 3 ≡ h + 1 + 2 = omega arith in g)) (omega arith) (leads_at (at + 1) (at + 1) (h + 2) (h + 1 + 1) refl (omega arith) to), tt)
  move_kept Down size at h l s le to = (
    k_change (change.Negate I64) at (h + 2) (s.0 ∙ (let g : h + 3 ≡ h + 2 + 1 = omega arith in g)) (omega arith) (leads_at (at + 1) (at + 1) (h + 3) (h + 2 + 1) refl (omega arith) (leads_to (at + 1) (instr.Combine (combine.Index size)) (h + 3) l.1.0 s.1.0)),
    (k_combine (combine.Index size) (at + 1) (h + 1) (s.1.0 ∙ (let g : h + 3 ≡ h + 1 + 2 = omega arith in g)) (omega arith) (leads_at (at + length (move_code Down size)) (at + 1 + 1) (h + 2) (h + 1 + 1) (omega arith) (omega arith) to), tt),
  )

  call_kept : (f : Callee) (n h at : ℕ) → CalleeCalls f x n → height at ≡ under_args f h + n → under_args f h + n ≤ 64 → Leads code height (at + 1) (h + 1) → Kept code height at (call_code f x n)
  call_kept (SourceFunction from number) n h at t e le to = (k_call number n at h e le t to, tt)
  call_kept (BuiltinFunction from b) n h at t e le to = (k_call (number_of b) n at h e le t to, tt)
  call_kept (Through v) n h at t e le to = (k_pointer (x.sig (target (value_type v))) n at h e le t.1 to, tt)

  move_begins : (w : Way) (size at h : ℕ) → Lies code.instrs at (move_code w size) → Stand height at (move_heights w h) → Leads code height at h
  move_begins Up size at h l s = leads_to at (instr.Combine (combine.Index size)) h l.0 s.0
  move_begins Down size at h l s = leads_to at (instr.Change (change.Negate I64)) h l.0 s.0

  -- there is room for a call's address and arguments
  abbrev CalleeRoom : Callee → ℕ → Type 0
  CalleeRoom (Through v) h = h + value_depth v ≤ 64
  CalleeRoom f h = Unit {0}

  callee_room : (f : Callee) (n h : ℕ) → h + call_depth f n ≤ 64 → CalleeRoom f h
  callee_room (SourceFunction from number) n h le = tt
  callee_room (BuiltinFunction from b) n h le = tt
  callee_room (Through v) n h le = omega (arith, le)

  call_room : (f : Callee) (vs : Values) (h : ℕ) → h + call_depth f (values_depth vs) ≤ 64 → under_args f h + values_depth vs ≤ 64
  call_room (SourceFunction from number) vs h le = omega (arith, le)
  call_room (BuiltinFunction from b) vs h le = omega (arith, le)
  call_room (Through v) vs h le = omega (arith, le)

  -- the evaluation stack is as deep as there are arguments
  few_args : (vs : Values) → count vs ≤ values_depth vs
  few_args NoValues = omega arith
  few_args (MoreValues v vs) = let e = few_args vs in omega (arith, e)

  args_room : (f : Callee) (vs : Values) (h : ℕ) → h + call_depth f (values_depth vs) ≤ 64 → under_args f h + count vs ≤ 64
  args_room f vs h le = let e = few_args vs in let g = call_room f vs h le in omega (arith, e, g)

  -- the evaluation stack is so deep before arguments, also where there are none
  values_lead : (vs : Values) (h at : ℕ) → Lies code.instrs at (values_code vs x) → Stand height at (values_heights vs h) → Leads code height (at + length (values_code vs x)) (h + count vs) → Leads code height at h
  values_lead NoValues h at l s to = leads_at (at + 0) at (h + 0) h (omega arith) (omega arith) to
  values_lead (MoreValues v vs) h at l s to = value_begins v h at (split x (value_code v x) (values_code vs x) at l).0 (split_stand (value_heights v h) (values_heights vs (h + 1)) at s).0

  mutual
    pub object_kept : (o : Object) (h : ℕ) → ObjectCalls o x → Keeping (object_code o x) (object_heights o h) h (object_depth o)
    object_kept (GlobalObject from place t) h u at l s to le = (k_push (Global place) at h s.0 (omega arith) to, tt)
    object_kept (LocalObject place t) h u at l s to le = (k_push (Local (offset_of x.against place)) at h s.0 (omega arith) to, tt)
    object_kept (TextObject from n) h u at l s to le = (k_push (Text (order_of from x.against.source.texts)) at h s.0 (omega arith) to, tt)
    object_kept (Pointed v t) h u at l s to le = value_kept v h u at l s to le
    object_kept (Element y p i t) h u at l s to le =
        sum_kept y (value_code p x) (value_code i x) (value_heights p) (value_heights i) (size_of x.against.source t) h (value_depth p) (value_depth i) (λ k. value_len p k) (λ k. value_len i k) (value_some p) (value_some i) (λ k. value_begins p k) (λ k. value_begins i k) (λ k. value_kept p k u.0) (λ k. value_kept i k u.1) at l s to le
    object_kept (MemberOf o number t) h u at l s to le =
        let d = change.Offset (member_offset x.against.source (object_type o) number) in
        single_kept (instr.Change d) (object_code o x) (object_heights o h) h (object_depth o) (object_len o h) (object_some o) (object_kept o h u) (λ n e f to. k_change d n h e f to) at l s to le

    pub value_kept : (v : Value) (h : ℕ) → ValueCalls v x → Keeping (value_code v x) (value_heights v h) h (value_depth v)
    value_kept (Constant k n) h u at l s to le = (k_push (Number (written n)) at h s.0 (omega arith) to, tt)
    value_kept (FunctionAddress from number t) h u at l s to le = (k_push (Number (function_address number)) at h s.0 (omega arith) to, tt)
    value_kept (ReadOf o) h u at l s to le = load_kept (is_read (object_type o)) o (object_code o x) (object_heights o h) h (object_depth o) (object_len o h) (object_some o) (object_kept o h u) at l s to le
    value_kept (AddressOf o t) h u at l s to le = object_kept o h u at l s to le
    value_kept (Convert t v) h u at l s to le = convert_kept (converts t v) (kind_of t) (value_code v x) (value_heights v h) h (value_depth v) (value_len v h) (value_some v) (value_kept v h u) at l s to le
    value_kept (Negate k v) h u at l s to le = single_kept (instr.Change (change.Negate k)) (value_code v x) (value_heights v h) h (value_depth v) (value_len v h) (value_some v) (value_kept v h u) (λ n e f to. k_change (change.Negate k) n h e f to) at l s to le
    value_kept (Complement k v) h u at l s to le = single_kept (instr.Change (change.Complement k)) (value_code v x) (value_heights v h) h (value_depth v) (value_len v h) (value_some v) (value_kept v h u) (λ n e f to. k_change (change.Complement k) n h e f to) at l s to le
    value_kept (Arithmetic op k a b) h u at l s to le =
        pair_kept (instr.Combine (combine.Arith op k)) (value_code a x) (value_code b x) (value_heights a h) (value_heights b (h + 1)) h (value_depth a) (value_depth b) (value_len a h) (value_len b (h + 1)) (value_some b) (value_begins b (h + 1)) (value_kept a h u.0) (value_kept b (h + 1) u.1) (λ n e f to. k_combine (combine.Arith op k) n h e f to) at l s to le
    value_kept (PointerSum y p i size) h u at l s to le =
        sum_kept y (value_code p x) (value_code i x) (value_heights p) (value_heights i) size h (value_depth p) (value_depth i) (λ k. value_len p k) (λ k. value_len i k) (value_some p) (value_some i) (λ k. value_begins p k) (λ k. value_begins i k) (λ k. value_kept p k u.0) (λ k. value_kept i k u.1) at l s to le
    value_kept (PointerDifference a b size) h u at l s to le =
        pair_kept (instr.Combine (combine.Distance size)) (value_code a x) (value_code b x) (value_heights a h) (value_heights b (h + 1)) h (value_depth a) (value_depth b) (value_len a h) (value_len b (h + 1)) (value_some b) (value_begins b (h + 1)) (value_kept a h u.0) (value_kept b (h + 1) u.1) (λ n e f to. k_combine (combine.Distance size) n h e f to) at l s to le
    value_kept (PointerComparison op a b) h u at l s to le =
        pair_kept (instr.Combine (combine.Arith op U64)) (value_code a x) (value_code b x) (value_heights a h) (value_heights b (h + 1)) h (value_depth a) (value_depth b) (value_len a h) (value_len b (h + 1)) (value_some b) (value_begins b (h + 1)) (value_kept a h u.0) (value_kept b (h + 1) u.1) (λ n e f to. k_combine (combine.Arith op U64) n h e f to) at l s to le
    value_kept (Not v) h u at l s to le = single_kept (instr.Change change.Not) (value_code v x) (value_heights v h) h (value_depth v) (value_len v h) (value_some v) (value_kept v h u) (λ n e f to. k_change change.Not n h e f to) at l s to le
    value_kept (Both a b) h u at l s to le =
        logic_kept (instr.EndIfZero (length (value_code b x) + 1)) (value_code a x) (value_code b x) (value_heights a h) (value_heights b h) h (value_depth a) (value_depth b) (value_len a h) (value_len b h) (value_some a) (value_some b) (value_begins b h) (value_kept a h u.0) (value_kept b h u.1)
        (λ n target e f t m k. k_end_zero (length (value_code b x) + 1) n h target e f t m k) at l s to le
    value_kept (Either a b) h u at l s to le =
        logic_kept (instr.EndUnlessZero (length (value_code b x) + 1)) (value_code a x) (value_code b x) (value_heights a h) (value_heights b h) h (value_depth a) (value_depth b) (value_len a h) (value_len b h) (value_some a) (value_some b) (value_begins b h) (value_kept a h u.0) (value_kept b h u.1)
        (λ n target e f t m k. k_end_unless (length (value_code b x) + 1) n h target e f t m k) at l s to le
    value_kept (Choice t a b) h u at l s to le =
        let second = instr.GoOn (length (value_code b x)) ∷ value_code b x in
        let rest = instr.SkipIfZero (length (value_code a x) + 1) ∷ (value_code a x ++ second) in
        let c = split x (value_code t x) rest at l in
        let d = parted (value_heights t h) ((h + 1) ∷ (value_heights a h ++ ((h + 1) ∷ value_heights b h))) (value_code t x) at (value_len t h) s in
        let m = at + length (value_code t x) in
        let c2 = split x (value_code a x) second (m + 1) c.1.1 in
        let d2 = parted (value_heights a h) ((h + 1) ∷ value_heights b h) (value_code a x) (m + 1) (value_len a h) d.1.1 in
        let n = m + 1 + length (value_code a x) in
        let e = length-append (value_code t x) rest in
        let e2 = length-append (value_code a x) second in
        let end = at + length (value_code t x ++ rest) in
        let ones = value_some a in
        let begins_b = value_begins b h (n + 1) c2.1.1 d2.1.1 in
        joined (value_code t x) rest at (value_kept t h u.0 at c.0 d.0 (leads_to m (instr.SkipIfZero (length (value_code a x) + 1)) (h + 1) c.1.0 d.1.0) (omega arith)) (
          k_skip (length (value_code a x) + 1) m h (n + 1) d.1.0 (omega (arith, ones, le)) (omega arith) (value_begins a h (m + 1) c2.0 d2.0) begins_b,
          joined (value_code a x) second (m + 1) (value_kept a h u.1 (m + 1) c2.0 d2.0 (leads_to n (instr.GoOn (length (value_code b x))) (h + 1) c2.1.0 d2.1.0) (omega arith)) (
            k_on (length (value_code b x)) n (h + 1) end d2.1.0 (omega (arith, ones, le)) (omega arith) to,
            value_kept b h u.2 (n + 1) c2.1.1 d2.1.1 (leads_at end (n + 1 + length (value_code b x)) (h + 1) (h + 1) (omega arith) refl to) (omega arith),
          ),
        )
    value_kept (Sequence a b) h u at l s to le =
        let rest = instr.Drop ∷ value_code b x in
        let c = split x (value_code a x) rest at l in
        let d = parted (value_heights a h) ((h + 1) ∷ value_heights b h) (value_code a x) at (value_len a h) s in
        let m = at + length (value_code a x) in
        let e = length-append (value_code a x) rest in
        let ones = value_some a in
        joined (value_code a x) rest at (value_kept a h u.0 at c.0 d.0 (leads_to m instr.Drop (h + 1) c.1.0 d.1.0) (omega arith))
        (k_drop m h d.1.0 (omega (arith, ones, le)) (value_begins b h (m + 1) c.1.1 d.1.1), value_kept b h u.1 (m + 1) c.1.1 d.1.1 (leads_at (at + length (value_code a x ++ rest)) (m + 1 + length (value_code b x)) (h + 1) (h + 1) (omega arith) refl to) (omega arith))
    value_kept (Assigned o v) h u at l s to le =
        pair_kept (stores o) (object_code o x) (value_code v x) (object_heights o h) (value_heights v (h + 1)) h (object_depth o) (value_depth v) (object_len o h) (value_len v (h + 1)) (value_some v) (value_begins v (h + 1)) (object_kept o h u.0) (value_kept v (h + 1) u.1) (λ n e f to. k_store (kind_of (object_type o)) (origin o) n h e f to) at l s to le
    value_kept (Changed o op k v) h u at l s to le =
        let own = kind_of (object_type o) in
        let first = convert_code (reconverts own k) k in
        let second = convert_code (reconverts k own) own in
        let last = second ++ one (stores o) in
        let end = instr.Combine (combine.Arith op k) ∷ last in
        let inner = value_code v x ++ end in
        let last_heights = if_true (reconverts k own) (h + 2) ++ ((h + 2) ∷ []) in
        let inner_heights = value_heights v (h + 2) ++ ((h + 3) ∷ last_heights) in
        let rest = loads o ∷ (first ++ inner) in
        let c = split x (object_code o x) rest at l in
        let d = parted (object_heights o h) ((h + 1) ∷ (if_true (reconverts own k) (h + 2) ++ inner_heights)) (object_code o x) at (object_len o h) s in
        let m = at + length (object_code o x) in
        let c1 = split x first inner (m + 1) c.1.1 in
        let d1 = parted (if_true (reconverts own k) (h + 2)) inner_heights first (m + 1) (convert_len (reconverts own k) k (h + 2)) d.1.1 in
        let f = m + 1 + length first in
        let c2 = split x (value_code v x) end f c1.1 in
        let d2 = parted (value_heights v (h + 2)) ((h + 3) ∷ last_heights) (value_code v x) f (value_len v (h + 2)) d1.1 in
        let n = f + length (value_code v x) in
        let c3 = split x second (one (stores o)) (n + 1) c2.1.1 in
        let d3 = parted (if_true (reconverts k own) (h + 2)) ((h + 2) ∷ []) second (n + 1) (convert_len (reconverts k own) own (h + 2)) d2.1.1 in
        let q = n + 1 + length second in
        let e = length-append (object_code o x) rest in
        let e1 = length-append first inner in
        let e2 = length-append (value_code v x) end in
        let e3 = length-append second (one (stores o)) in
        let ones = value_some v in
        let two : h + 2 ≡ h + 1 + 1 = omega arith in
        let three : h + 3 ≡ h + 1 + 2 = omega arith in
        let more : h + 3 ≡ h + 2 + 1 = omega arith in
        let begins_v = value_begins v (h + 2) f c2.0 d2.0 in
        let begins_store = leads_to q (stores o) (h + 2) c3.1.0 d3.1.0 in
        joined (object_code o x) rest at (object_kept o h u.0 at c.0 d.0 (leads_to m (loads o) (h + 1) c.1.0 d.1.0) (omega arith)) (
          k_keep own (origin o) m h d.1.0 (omega (arith, ones, le)) (convert_leads (reconverts own k) k (m + 1) (h + 2) c1.0 d1.0 begins_v),
          joined first inner (m + 1) (changed_kept (reconverts own k) k (m + 1) (h + 1) (h + 2) two c1.0 d1.0 (omega (arith, ones, le)) begins_v)
              (joined (value_code v x) end f (value_kept v (h + 2) u.1 f c2.0 d2.0 (leads_at n n (h + 3) (h + 2 + 1) refl more (leads_to n (instr.Combine (combine.Arith op k)) (h + 3) c2.1.0 d2.1.0)) (omega arith)) (
                k_combine (combine.Arith op k) n (h + 1) (d2.1.0 ∙ three) (omega (arith, ones, le)) (leads_at (n + 1) (n + 1) (h + 2) (h + 1 + 1) refl two (convert_leads (reconverts k own) own (n + 1) (h + 2) c3.0 d3.0 begins_store)),
                joined second (one (stores o)) (n + 1) (changed_kept (reconverts k own) own (n + 1) (h + 1) (h + 2) two c3.0 d3.0 (omega (arith, ones, le)) begins_store)
                    (k_store own (origin o) q h d3.1.0 (omega (arith, ones, le)) (leads_at (at + length (object_code o x ++ rest)) (q + 1) (h + 1) (h + 1) (omega arith) refl to), tt),
              )),
        )
    value_kept (Moved o w i size) h u at l s to le =
        let last = one (stores o) in
        let end = move_code w size ++ last in
        let rest = loads o ∷ (value_code i x ++ end) in
        let c = split x (object_code o x) rest at l in
        let d = parted (object_heights o h) ((h + 1) ∷ (value_heights i (h + 2) ++ (move_heights w (h + 3) ++ ((h + 2) ∷ [])))) (object_code o x) at (object_len o h) s in
        let m = at + length (object_code o x) in
        let c2 = split x (value_code i x) end (m + 1) c.1.1 in
        let d2 = parted (value_heights i (h + 2)) (move_heights w (h + 3) ++ ((h + 2) ∷ [])) (value_code i x) (m + 1) (value_len i (h + 2)) d.1.1 in
        let p = m + 1 + length (value_code i x) in
        let c3 = split x (move_code w size) last p c2.1 in
        let d3 = parted (move_heights w (h + 3)) ((h + 2) ∷ []) (move_code w size) p (move_len w size (h + 3)) d2.1 in
        let q = p + length (move_code w size) in
        let e = length-append (object_code o x) rest in
        let e2 = length-append (value_code i x) end in
        let e3 = length-append (move_code w size) last in
        let ones = value_some i in
        let more : h + 3 ≡ h + 2 + 1 = omega arith in
        joined (object_code o x) rest at (object_kept o h u.0 at c.0 d.0 (leads_to m (loads o) (h + 1) c.1.0 d.1.0) (omega arith)) (
          k_keep (kind_of (object_type o)) (origin o) m h d.1.0 (omega (arith, ones, le)) (value_begins i (h + 2) (m + 1) c2.0 d2.0),
          joined (value_code i x) end (m + 1) (value_kept i (h + 2) u.1 (m + 1) c2.0 d2.0 (leads_at p p (h + 3) (h + 2 + 1) refl more (move_begins w size p (h + 3) c3.0 d3.0)) (omega arith))
              (joined (move_code w size) last p (move_kept w size p h c3.0 d3.0 (omega (arith, ones, le)) (leads_to q (stores o) (h + 2) c3.1.0 d3.1.0))
              (k_store (kind_of (object_type o)) (origin o) q h d3.1.0 (omega (arith, ones, le)) (leads_at (at + length (object_code o x ++ rest)) (q + 1) (h + 1) (h + 1) (omega arith) refl to), tt)),
        )
    value_kept (Stepped o w g size) h u at l s to le =
        let step = instr.StoreStep (kind_of (object_type o)) (step_by w size) (keeps_old g) (origin o) in
        let rest = loads o ∷ one step in
        let c = split x (object_code o x) rest at l in
        let d = parted (object_heights o h) ((h + 1) ∷ ((h + 2) ∷ [])) (object_code o x) at (object_len o h) s in
        let m = at + length (object_code o x) in
        let e = length-append (object_code o x) rest in
        joined (object_code o x) rest at (object_kept o h u at c.0 d.0 (leads_to m (loads o) (h + 1) c.1.0 d.1.0) (omega arith)) (
          k_keep (kind_of (object_type o)) (origin o) m h d.1.0 (omega arith) (leads_to (m + 1) step (h + 2) c.1.1.0 d.1.1.0),
          (k_step (kind_of (object_type o)) (step_by w size) (keeps_old g) (origin o) (m + 1) h d.1.1.0 (omega arith) (leads_at (at + length (object_code o x ++ rest)) (m + 1 + 1) (h + 1) (h + 1) (omega arith) refl to), tt),
        )
    value_kept (CallOf f vs t) h u at l s to le =
        let last = call_code f x (count vs) in
        let rest = values_code vs x ++ last in
        let k = under_args f h in
        let c = split x (callee_code f x) rest at l in
        let d = parted (callee_heights f h) (values_heights vs k ++ ((k + count vs) ∷ [])) (callee_code f x) at (callee_len f h) s in
        let m = at + length (callee_code f x) in
        let c2 = split x (values_code vs x) last m c.1 in
        let d2 = parted (values_heights vs k) ((k + count vs) ∷ []) (values_code vs x) m (values_len vs k) d.1 in
        let n = m + length (values_code vs x) in
        let e = length-append (callee_code f x) rest in
        let e2 = length-append (values_code vs x) last in
        let e3 = call_len f (count vs) 0 in
        let there = call_begins f (count vs) (k + count vs) (k + count vs) refl n c2.1 d2.1 in
        let room = call_room f vs h le in
        joined (callee_code f x) rest at (callee_kept f (count vs) h u.0 at c.0 d.0 (values_begin vs last f k (λ m n e. call_begins f (count vs) m n e) m c.1 d.1) (callee_room f (values_depth vs) h le))
        (joined (values_code vs x) last m (values_kept vs k u.1 m c2.0 d2.0 there room)
        (call_kept f (count vs) h n u.0 d2.1.0 (args_room f vs h le) (leads_at (at + length (callee_code f x ++ rest)) (n + 1) (h + 1) (h + 1) (omega (arith, e, e2, e3)) refl to)))

    pub values_kept : (vs : Values) (h : ℕ) → ValuesCall vs x → (at : ℕ) → Lies code.instrs at (values_code vs x) → Stand height at (values_heights vs h) → Leads code height (at + length (values_code vs x)) (h + count vs) → h + values_depth vs ≤ 64 → Kept code height at (values_code vs x)
    values_kept NoValues h u at l s to le = tt
    values_kept (MoreValues v vs) h u at l s to le =
        let c = split x (value_code v x) (values_code vs x) at l in
        let d = parted (value_heights v h) (values_heights vs (h + 1)) (value_code v x) at (value_len v h) s in
        let m = at + length (value_code v x) in
        let e = length-append (value_code v x) (values_code vs x) in
        let end = leads_at (at + length (value_code v x ++ values_code vs x)) (m + length (values_code vs x)) (h + count (MoreValues v vs)) (h + 1 + count vs) (omega arith) (omega arith) to in
        joined (value_code v x) (values_code vs x) at (value_kept v h u.0 at c.0 d.0 (values_lead vs (h + 1) m c.1 d.1 end) (omega arith)) (values_kept vs (h + 1) u.1 m c.1 d.1 end (omega arith))

    pub callee_kept : (f : Callee) (n h : ℕ) → CalleeCalls f x n → (at : ℕ) → Lies code.instrs at (callee_code f x) → Stand height at (callee_heights f h) → Leads code height (at + length (callee_code f x)) (under_args f h) → CalleeRoom f h → Kept code height at (callee_code f x)
    callee_kept (SourceFunction from number) n h u at l s to le = tt
    callee_kept (BuiltinFunction from b) n h u at l s to le = tt
    callee_kept (Through v) n h u at l s to le = value_kept v h u.0 at l s to le
