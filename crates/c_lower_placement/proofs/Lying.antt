-- The code of a construct, where it stands, lies as the placement says.
use Rattle.std.proofs.Common.{◌≡◌, ℕ, ◌+◌, ◌-◌, Bool, true, false, List, [], ◌∷◌, ◌++◌, length, length-append, refl, subst, arith}
use Rattle.r2_num.specs.declared.kinds.IntKind.{IntKind}
use Rattle.r2_num.specs.declared.kinds.IntKind.TheVariants.{I64, U64}
use Rattle.c_code.specs.declared.instr.Push.TheVariants.{Number, Local, Global}
use Rattle.c_code.specs.declared.instr.Change.TheVariants as change
use Rattle.c_code.specs.declared.instr.Combine.TheVariants as combine
use Rattle.c_code.specs.declared.instr.Instr.{Instr}
use Rattle.c_code.specs.declared.instr.Instr.TheVariants as instr
use Rattle.c_types_model.specs.Types.{CType}
use Rattle.c_builtins.specs.Table.{number_of}
use Rattle.c_types_rules.specs.TypedTree.{Object, Value, Values, Callee, Sum, PointerPlus, PlusPointer, PointerMinus, Way, Up, Down, GlobalObject, LocalObject, TextObject, Pointed, Element, MemberOf, Constant, FunctionAddress, ReadOf, AddressOf, Convert, Negate, Complement, Arithmetic, PointerSum, PointerDifference, PointerComparison, Not, Both, Either, Choice, Sequence, Assigned, Changed, Moved, Stepped, CallOf, NoValues, MoreValues, SourceFunction, BuiltinFunction, Through, MaybeValue, NoValue, OneValue, Statement, Statements, Block, Evaluate, Initialise, If, IfElse, While, Do, For, Break, Continue, Return, NoStatements, MoreStatements, object_type, value_type}
use Rattle.c_semantics.specs.Context.{kind_of, member_offset, size_of}
use Rattle.c_semantics.specs.Values.{is_read, origin, target}
use Rattle.c_lower_placement.specs.Places.{Has, Jumps, GoesBack}
use Rattle.c_types_rules.specs.TypedTree.{Body}
use Rattle.c_code.specs.Machine.{Flat}
use Rattle.c_semantics.specs.Context.{Source}
use Rattle.c_lower_placement.specs.Conversions.{converts, reconverts}
use Rattle.c_lower_placement.specs.Laws.{IsEmitted, IsLowered}
use Rattle.c_lower_placement.specs.Placement.{BodyAt, CallAt, CalleeAt, ConvertAt, LastAt, LoadAt, MoveAt, ObjectAt, ReturnAt, StatementAt, StatementsAt, SumAt, TestAt, ValueAt, ValuesAt, count, keeps_old, loads, offset_of, step_by, stores}
use Rattle.c_lower_placement.specs.Code.{HasSigs, Lies, Making, body_code, making, call_code, callee_code, convert_code, last_code, load_code, move_code, object_code, one, return_code, statement_code, statements_code, sum_code, test_code, value_code, values_code}

module _ (x : Making) where
  abbrev code : List Instr
  code = x.against.code.instrs

  pub split : (xs ys : List Instr) (at : ℕ) → Lies code at (xs ++ ys) → Lies code at xs × Lies code (at + length xs) ys
  split [] ys at h = let e : at ≡ at + 0 = omega arith in (tt, subst (λ z. Lies code z ys) e h)
  split (i ∷ is) ys at h =
      let r = split is ys (at + 1) h.1 in
      let e : at + 1 + length is ≡ at + length (i ∷ is) = omega arith in
      ((h.0, r.0), subst (λ z. Lies code z ys) e r.1)

  has : (i : Instr) (rest : List Instr) (at to : ℕ) → Lies code at (i ∷ rest) → at + 1 ≡ to → Has code at i to
  has i rest at to h e = record { here = h.0; after = e }

  jumps : (make : ℕ → Instr) (n : ℕ) (rest : List Instr) (at target : ℕ) → Lies code at (make n ∷ rest) → at + 1 + n ≡ target → Jumps code at make target
  jumps make n rest at target h e = record { by = n; here = h.0; lands = e }

  -- what is the same up to where it ends
  to_end : (P : ℕ → Type 0) (m n : ℕ) → m ≡ n → P m → P n
  to_end P m n e h = subst P e h

  sum_lies : (s : Sum) (p i : List Instr) (F G : ℕ → ℕ → Type 0) (size at : ℕ) → ((m : ℕ) → Lies code m p → F m (m + length p)) → ((m : ℕ) → Lies code m i → G m (m + length i)) → Lies code at (sum_code s p i size)
      → SumAt x.against s F G size at (at + length (sum_code s p i size))
  sum_lies PointerPlus p i F G size at f g h =
      let last = one (instr.Combine (combine.Index size)) in
      let a = split p (i ++ last) at h in
      let b = split i last (at + length p) a.1 in
      let e = length-append p (i ++ last) in
      let d = length-append i last in
      (at + length p, at + length p + length i, f at a.0, g (at + length p) b.0, has (instr.Combine (combine.Index size)) [] (at + length p + length i) (at + length (p ++ (i ++ last))) b.1 (omega arith))
  sum_lies PlusPointer p i F G size at f g h =
      let last = one (instr.Combine (combine.IndexOf size)) in
      let a = split i (p ++ last) at h in
      let b = split p last (at + length i) a.1 in
      let e = length-append i (p ++ last) in
      let d = length-append p last in
      (at + length i, at + length i + length p, g at a.0, f (at + length i) b.0, has (instr.Combine (combine.IndexOf size)) [] (at + length i + length p) (at + length (i ++ (p ++ last))) b.1 (omega arith))
  sum_lies PointerMinus p i F G size at f g h =
      let last = instr.Change (change.Negate I64) ∷ one (instr.Combine (combine.Index size)) in
      let a = split p (i ++ last) at h in
      let b = split i last (at + length p) a.1 in
      let e = length-append p (i ++ last) in
      let d = length-append i last in
      let n = at + length p + length i in (
        at + length p,
        n,
        n + 1,
        f at a.0,
        g (at + length p) b.0,
        has (instr.Change (change.Negate I64)) (one (instr.Combine (combine.Index size))) n (n + 1) b.1 refl,
        has (instr.Combine (combine.Index size)) [] (n + 1) (at + length (p ++ (i ++ last))) b.1.1 (omega arith),
      )

  move_lies : (w : Way) (size at : ℕ) → Lies code at (move_code w size) → MoveAt x.against w size at (at + length (move_code w size))
  move_lies Up size at h = has (instr.Combine (combine.Index size)) [] at (at + length (move_code Up size)) h refl
  move_lies Down size at h =
      (at + 1, has (instr.Change (change.Negate I64)) (one (instr.Combine (combine.Index size))) at (at + 1) h refl, has (instr.Combine (combine.Index size)) [] (at + 1) (at + length (move_code Down size)) h.1 (omega arith))

  convert_lies : (b : Bool) (k : IntKind) (at : ℕ) → Lies code at (convert_code b k) → ConvertAt x.against b k at (at + length (convert_code b k))
  convert_lies true k at h = has (instr.Change (change.Convert k)) [] at (at + length (convert_code true k)) h refl
  convert_lies false k at h = omega arith

  load_lies : (b : Bool) (o : Object) (at : ℕ) → Lies code at (load_code b o) → LoadAt x.against b o at (at + length (load_code b o))
  load_lies true o at h = has (instr.Load (kind_of (object_type o)) (origin o)) [] at (at + length (load_code true o)) h refl
  load_lies false o at h = omega arith

  call_lies : (f : Callee) (n at : ℕ) → HasSigs x → Lies code at (call_code f x n) → CallAt f x.against n at (at + length (call_code f x n))
  call_lies (SourceFunction from number) n at sigs h = has (instr.Call number n) [] at (at + 1) h refl
  call_lies (BuiltinFunction from b) n at sigs h = has (instr.Call (number_of b) n) [] at (at + 1) h refl
  call_lies (Through v) n at sigs h = (x.sig (target (value_type v)), sigs (target (value_type v)), has (instr.CallPointer (x.sig (target (value_type v))) n) [] at (at + 1) h refl)

  module _ (sigs : HasSigs x) where
    -- two values and what combines them
    pair_lies : (i : Instr) (a b : List Instr) (F G : ℕ → ℕ → Type 0) (at : ℕ) → ((m : ℕ) → Lies code m a → F m (m + length a)) → ((m : ℕ) → Lies code m b → G m (m + length b)) → Lies code at (a ++ (b ++ one i))
        → (m n : ℕ) × F at m × G m n × Has code n i (at + length (a ++ (b ++ one i)))
    pair_lies i a b F G at f g h =
        let c = split a (b ++ one i) at h in
        let d = split b (one i) (at + length a) c.1 in
        let e = length-append a (b ++ one i) in
        let u = length-append b (one i) in
        (at + length a, at + length a + length b, f at c.0, g (at + length a) d.0, has i [] (at + length a + length b) (at + length (a ++ (b ++ one i))) d.1 (omega arith))

    single_lies : (i : Instr) (a : List Instr) (F : ℕ → ℕ → Type 0) (at : ℕ) → ((m : ℕ) → Lies code m a → F m (m + length a)) → Lies code at (a ++ one i) → (m : ℕ) × F at m × Has code m i (at + length (a ++ one i))
    single_lies i a F at f h =
        let c = split a (one i) at h in
        let e = length-append a (one i) in
        (at + length a, f at c.0, has i [] (at + length a) (at + length (a ++ one i)) c.1 (omega arith))

    -- a jump over the second value, whose truth is taken
    logic_lies : (make : ℕ → Instr) (a b : List Instr) (F G : ℕ → ℕ → Type 0) (at : ℕ) → ((m : ℕ) → Lies code m a → F m (m + length a)) → ((m : ℕ) → Lies code m b → G m (m + length b))
        → Lies code at (a ++ (make (length b + 1) ∷ (b ++ one (instr.Change change.Truth))))
        → (m n : ℕ) × F at m × Jumps code m make (at + length (a ++ (make (length b + 1) ∷ (b ++ one (instr.Change change.Truth))))) × G (m + 1) n × Has code n (instr.Change change.Truth) (at + length (a ++ (make (length b + 1) ∷ (b ++ one (instr.Change change.Truth)))))
    logic_lies make a b F G at f g h =
        let last = one (instr.Change change.Truth) in
        let rest = make (length b + 1) ∷ (b ++ last) in
        let c = split a rest at h in
        let d = split b last (at + length a + 1) c.1.1 in
        let e = length-append a rest in
        let u = length-append b last in
        let to = at + length (a ++ rest) in
        (at + length a, at + length a + 1 + length b, f at c.0, jumps make (length b + 1) (b ++ last) (at + length a) to c.1 (omega arith), g (at + length a + 1) d.0, has (instr.Change change.Truth) [] (at + length a + 1 + length b) to d.1 (omega arith))

    mutual
      pub object_lies : (o : Object) (at : ℕ) → Lies code at (object_code o x) → ObjectAt o x.against at (at + length (object_code o x))
      object_lies (GlobalObject from place t) at h = has (instr.Push (Global place)) [] at (at + 1) h refl
      object_lies (LocalObject place t) at h = has (instr.Push (Local (offset_of x.against place))) [] at (at + 1) h refl
      object_lies (TextObject from n) at h = record { here = h.0; after = refl }
      object_lies (Pointed v t) at h = value_lies v at h
      object_lies (Element s p i t) at h =
          sum_lies s (value_code p x) (value_code i x) (ValueAt p x.against) (ValueAt i x.against) (size_of x.against.source t) at (λ m g. value_lies p m g) (λ m g. value_lies i m g) h
      object_lies (MemberOf o number t) at h = single_lies (instr.Change (change.Offset (member_offset x.against.source (object_type o) number))) (object_code o x) (ObjectAt o x.against) at (λ m g. object_lies o m g) h

      pub value_lies : (v : Value) (at : ℕ) → Lies code at (value_code v x) → ValueAt v x.against at (at + length (value_code v x))
      value_lies (Constant k n) at h = record { here = h.0; after = refl }
      value_lies (FunctionAddress from number t) at h = record { here = h.0; after = refl }
      value_lies (ReadOf o) at h =
          let last = load_code (is_read (object_type o)) o in
          let a = split (object_code o x) last at h in
          let e = length-append (object_code o x) last in
          (at + length (object_code o x), object_lies o at a.0, to_end (LoadAt x.against (is_read (object_type o)) o (at + length (object_code o x))) (at + length (object_code o x) + length last) (at + length (object_code o x ++ last)) (omega arith) (load_lies (is_read (object_type o)) o (at + length (object_code o x)) a.1))
      value_lies (AddressOf o t) at h = object_lies o at h
      value_lies (Convert t v) at h =
          let last = convert_code (converts t v) (kind_of t) in
          let a = split (value_code v x) last at h in
          let e = length-append (value_code v x) last in
          (at + length (value_code v x), value_lies v at a.0, to_end (ConvertAt x.against (converts t v) (kind_of t) (at + length (value_code v x))) (at + length (value_code v x) + length last) (at + length (value_code v x ++ last)) (omega arith) (convert_lies (converts t v) (kind_of t) (at + length (value_code v x)) a.1))
      value_lies (Negate k v) at h = single_lies (instr.Change (change.Negate k)) (value_code v x) (ValueAt v x.against) at (λ m g. value_lies v m g) h
      value_lies (Complement k v) at h = single_lies (instr.Change (change.Complement k)) (value_code v x) (ValueAt v x.against) at (λ m g. value_lies v m g) h
      value_lies (Arithmetic op k a b) at h = pair_lies (instr.Combine (combine.Arith op k)) (value_code a x) (value_code b x) (ValueAt a x.against) (ValueAt b x.against) at (λ m g. value_lies a m g) (λ m g. value_lies b m g) h
      value_lies (PointerSum s p i size) at h = sum_lies s (value_code p x) (value_code i x) (ValueAt p x.against) (ValueAt i x.against) size at (λ m g. value_lies p m g) (λ m g. value_lies i m g) h
      value_lies (PointerDifference a b size) at h = pair_lies (instr.Combine (combine.Distance size)) (value_code a x) (value_code b x) (ValueAt a x.against) (ValueAt b x.against) at (λ m g. value_lies a m g) (λ m g. value_lies b m g) h
      value_lies (PointerComparison op a b) at h = pair_lies (instr.Combine (combine.Arith op U64)) (value_code a x) (value_code b x) (ValueAt a x.against) (ValueAt b x.against) at (λ m g. value_lies a m g) (λ m g. value_lies b m g) h
      value_lies (Not v) at h = single_lies (instr.Change change.Not) (value_code v x) (ValueAt v x.against) at (λ m g. value_lies v m g) h
      value_lies (Both a b) at h = logic_lies instr.EndIfZero (value_code a x) (value_code b x) (ValueAt a x.against) (ValueAt b x.against) at (λ m g. value_lies a m g) (λ m g. value_lies b m g) h
      value_lies (Either a b) at h = logic_lies instr.EndUnlessZero (value_code a x) (value_code b x) (ValueAt a x.against) (ValueAt b x.against) at (λ m g. value_lies a m g) (λ m g. value_lies b m g) h
      value_lies (Choice t a b) at h =
          let second = instr.GoOn (length (value_code b x)) ∷ value_code b x in
          let rest = instr.SkipIfZero (length (value_code a x) + 1) ∷ (value_code a x ++ second) in
          let m = at + length (value_code t x) in
          let n = m + 1 + length (value_code a x) in
          let c = split (value_code t x) rest at h in
          let d = split (value_code a x) second (m + 1) c.1.1 in
          let e = length-append (value_code t x) rest in
          let u = length-append (value_code a x) second in
          let to = at + length (value_code t x ++ rest) in (
            m,
            n,
            value_lies t at c.0,
            jumps instr.SkipIfZero (length (value_code a x) + 1) (value_code a x ++ second) m (n + 1) c.1 (omega arith),
            value_lies a (m + 1) d.0,
            jumps instr.GoOn (length (value_code b x)) (value_code b x) n to d.1 (omega arith),
            to_end (ValueAt b x.against (n + 1)) (n + 1 + length (value_code b x)) to (omega arith) (value_lies b (n + 1) d.1.1),
          )
      value_lies (Sequence a b) at h =
          let rest = instr.Drop ∷ value_code b x in
          let m = at + length (value_code a x) in
          let c = split (value_code a x) rest at h in
          let e = length-append (value_code a x) rest in
          let to = at + length (value_code a x ++ rest) in
          (m, m + 1, value_lies a at c.0, has instr.Drop (value_code b x) m (m + 1) c.1 refl, to_end (ValueAt b x.against (m + 1)) (m + 1 + length (value_code b x)) to (omega arith) (value_lies b (m + 1) c.1.1))
      value_lies (Assigned o v) at h = pair_lies (stores o) (object_code o x) (value_code v x) (ObjectAt o x.against) (ValueAt v x.against) at (λ m g. object_lies o m g) (λ m g. value_lies v m g) h
      value_lies (Changed o op k v) at h =
          let own = kind_of (object_type o) in
          let first = convert_code (reconverts own k) k in
          let second = convert_code (reconverts k own) own in
          let last = second ++ one (stores o) in
          let end = instr.Combine (combine.Arith op k) ∷ last in
          let inner = value_code v x ++ end in
          let rest = loads o ∷ (first ++ inner) in
          let m = at + length (object_code o x) in
          let p = m + 1 + length first in
          let q = p + length (value_code v x) in
          let u = q + 1 + length second in
          let c = split (object_code o x) rest at h in
          let d = split first inner (m + 1) c.1.1 in
          let f = split (value_code v x) end p d.1 in
          let g = split second (one (stores o)) (q + 1) f.1.1 in
          let e = length-append (object_code o x) rest in
          let e1 = length-append first inner in
          let e2 = length-append (value_code v x) end in
          let e3 = length-append second (one (stores o)) in
          let to = at + length (object_code o x ++ rest) in (
            m,
            m + 1,
            p,
            q,
            q + 1,
            u,
            object_lies o at c.0,
            has (loads o) (first ++ inner) m (m + 1) c.1 refl,
            convert_lies (reconverts own k) k (m + 1) d.0,
            value_lies v p f.0,
            has (instr.Combine (combine.Arith op k)) last q (q + 1) f.1 refl,
            convert_lies (reconverts k own) own (q + 1) g.0,
            has (stores o) [] u to g.1 (omega arith),
          )
      value_lies (Moved o w i size) at h =
          let last = one (stores o) in
          let end = move_code w size ++ last in
          let rest = loads o ∷ (value_code i x ++ end) in
          let m = at + length (object_code o x) in
          let p = m + 1 + length (value_code i x) in
          let q = p + length (move_code w size) in
          let c = split (object_code o x) rest at h in
          let d = split (value_code i x) end (m + 1) c.1.1 in
          let f = split (move_code w size) last p d.1 in
          let e = length-append (object_code o x) rest in
          let u = length-append (value_code i x) end in
          let y = length-append (move_code w size) last in
          let to = at + length (object_code o x ++ rest) in
          (m, m + 1, p, q, object_lies o at c.0, has (loads o) (value_code i x ++ end) m (m + 1) c.1 refl, value_lies i (m + 1) d.0, move_lies w size p f.0, has (stores o) [] q to f.1 (omega arith))
      value_lies (Stepped o w g size) at h =
          let step = instr.StoreStep (kind_of (object_type o)) (step_by w size) (keeps_old g) (origin o) in
          let rest = loads o ∷ one step in
          let m = at + length (object_code o x) in
          let c = split (object_code o x) rest at h in
          let e = length-append (object_code o x) rest in
          let to = at + length (object_code o x ++ rest) in
          (m, m + 1, object_lies o at c.0, has (loads o) (one step) m (m + 1) c.1 refl, has step [] (m + 1) to c.1.1 (omega arith))
      value_lies (CallOf f vs t) at h =
          let last = call_code f x (count vs) in
          let rest = values_code vs x ++ last in
          let m = at + length (callee_code f x) in
          let n = m + length (values_code vs x) in
          let c = split (callee_code f x) rest at h in
          let d = split (values_code vs x) last m c.1 in
          let e = length-append (callee_code f x) rest in
          let u = length-append (values_code vs x) last in
          let to = at + length (callee_code f x ++ rest) in
          (m, n, callee_lies f at c.0, values_lie vs m d.0, to_end (CallAt f x.against (count vs) n) (n + length last) to (omega arith) (call_lies f (count vs) n sigs d.1))

      pub values_lie : (vs : Values) (at : ℕ) → Lies code at (values_code vs x) → ValuesAt vs x.against at (at + length (values_code vs x))
      values_lie NoValues at h = omega arith
      values_lie (MoreValues v vs) at h =
          let c = split (value_code v x) (values_code vs x) at h in
          let e = length-append (value_code v x) (values_code vs x) in
          let m = at + length (value_code v x) in
          (m, value_lies v at c.0, to_end (ValuesAt vs x.against m) (m + length (values_code vs x)) (at + length (value_code v x ++ values_code vs x)) (omega arith) (values_lie vs m c.1))

      pub callee_lies : (f : Callee) (at : ℕ) → Lies code at (callee_code f x) → CalleeAt f x.against at (at + length (callee_code f x))
      callee_lies (SourceFunction from number) at h = omega arith
      callee_lies (BuiltinFunction from b) at h = omega arith
      callee_lies (Through v) at h = value_lies v at h

    -- ---- statements

    test_lies : (v : MaybeValue) (over at : ℕ) → Lies code at (test_code v x over) → TestAt v x.against at (at + length (test_code v x over)) (at + length (test_code v x over) + over)
    test_lies NoValue over at h = omega arith
    test_lies (OneValue v) over at h =
        let last = one (instr.SkipIfZero over) in
        let c = split (value_code v x) last at h in
        let e = length-append (value_code v x) last in
        let m = at + length (value_code v x) in
        let to = at + length (value_code v x ++ last) in
        (m, value_lies v at c.0, jumps instr.SkipIfZero over [] m (to + over) c.1 (omega arith), omega arith)

    last_lies : (v : MaybeValue) (at : ℕ) → Lies code at (last_code v x) → LastAt v x.against at (at + length (last_code v x))
    last_lies NoValue at h = omega arith
    last_lies (OneValue v) at h = single_lies instr.Drop (value_code v x) (ValueAt v x.against) at (λ m g. value_lies v m g) h

    return_lies : (v : MaybeValue) (at : ℕ) → Lies code at (return_code v x) → ReturnAt v x.against at (at + length (return_code v x))
    return_lies NoValue at h = (at + 1, has (instr.Push (Number 0)) (one instr.Finish) at (at + 1) h refl, has instr.Finish [] (at + 1) (at + length (return_code NoValue x)) h.1 (omega arith))
    return_lies (OneValue v) at h = single_lies instr.Finish (value_code v x) (ValueAt v x.against) at (λ m g. value_lies v m g) h

    -- a statement, by where it ends, and where `break` and `continue` lead
    ends : (s : Statement) (at m n k l p q : ℕ) → m ≡ n → k ≡ l → p ≡ q → StatementAt s x.against at m k p → StatementAt s x.against at n l q
    ends s at m n k l p q e f g h = subst (λ z. StatementAt s x.against at n l z) g (subst (λ z. StatementAt s x.against at n z p) f (subst (λ z. StatementAt s x.against at z k p) e h))

    goes_back : (n : ℕ) (rest : List Instr) (at target : ℕ) → Lies code at (instr.GoBack n ∷ rest) → at - n ≡ target → GoesBack code at target
    goes_back n rest at target h e = record { by = n; here = h.0; lands = e }

    mutual
      pub statement_lies : (s : Statement) (at stop again : ℕ) → Lies code at (statement_code s x stop again)
          → StatementAt s x.against at (at + length (statement_code s x stop again)) (at + length (statement_code s x stop again) + stop) (at + length (statement_code s x stop again) + again)
      statement_lies (Block ss) at stop again h = statements_lie ss at stop again h
      statement_lies (Evaluate v) at stop again h = single_lies instr.Drop (value_code v x) (ValueAt v x.against) at (λ m g. value_lies v m g) h
      statement_lies (Initialise place t v) at stop again h =
          let store = instr.StoreLocal (kind_of t) (offset_of x.against place) in
          let c = split (value_code v x) (one store) at h in
          let e = length-append (value_code v x) (one store) in
          let m = at + length (value_code v x) in
          (m, value_lies v at c.0, has store [] m (at + length (value_code v x ++ one store)) c.1 (omega arith))
      statement_lies (If v s) at stop again h =
          let body = statement_code s x stop again in
          let rest = instr.SkipIfZero (length body) ∷ body in
          let c = split (value_code v x) rest at h in
          let e = length-append (value_code v x) rest in
          let m = at + length (value_code v x) in
          let to = at + length (value_code v x ++ rest) in (
            m,
            value_lies v at c.0,
            jumps instr.SkipIfZero (length body) body m to c.1 (omega arith),
            ends s (m + 1) (m + 1 + length body) to (m + 1 + length body + stop) (to + stop) (m + 1 + length body + again) (to + again) (omega arith) (omega arith) (omega arith) (statement_lies s (m + 1) stop again c.1.1),
          )
      statement_lies (IfElse v s z) at stop again h =
          let other = statement_code z x stop again in
          let body = statement_code s x (length other + 1 + stop) (length other + 1 + again) in
          let second = instr.GoOn (length other) ∷ other in
          let rest = instr.SkipIfZero (length body + 1) ∷ (body ++ second) in
          let c = split (value_code v x) rest at h in
          let m = at + length (value_code v x) in
          let d = split body second (m + 1) c.1.1 in
          let n = m + 1 + length body in
          let e = length-append (value_code v x) rest in
          let u = length-append body second in
          let to = at + length (value_code v x ++ rest) in (
            m,
            n,
            value_lies v at c.0,
            jumps instr.SkipIfZero (length body + 1) (body ++ second) m (n + 1) c.1 (omega arith),
            ends s (m + 1) (m + 1 + length body) n (m + 1 + length body + (length other + 1 + stop)) (to + stop) (m + 1 + length body + (length other + 1 + again)) (to + again) refl (omega arith) (omega arith) (statement_lies s (m + 1) (length other + 1 + stop) (length other + 1 + again) d.0),
            jumps instr.GoOn (length other) other n to d.1 (omega arith),
            ends z (n + 1) (n + 1 + length other) to (n + 1 + length other + stop) (to + stop) (n + 1 + length other + again) (to + again) (omega arith) (omega arith) (omega arith) (statement_lies z (n + 1) stop again d.1.1),
          )
      statement_lies (While from v s) at stop again h =
          let body = statement_code s x 1 0 in
          let back = one (instr.GoBack (length (value_code v x) + 1 + length body)) in
          let rest = instr.SkipIfZero (length body + 1) ∷ (body ++ back) in
          let c = split (value_code v x) rest (at + 1) h.1 in
          let m = at + 1 + length (value_code v x) in
          let d = split body back (m + 1) c.1.1 in
          let n = m + 1 + length body in
          let e = length-append (value_code v x) rest in
          let u = length-append body back in
          let to = at + length (statement_code (While from v s) x stop again) in (
            m,
            n,
            h.0,
            value_lies v (at + 1) c.0,
            jumps instr.SkipIfZero (length body + 1) (body ++ back) m to c.1 (omega arith),
            ends s (m + 1) (m + 1 + length body) n (m + 1 + length body + 1) to (m + 1 + length body + 0) n refl (omega arith) (omega arith) (statement_lies s (m + 1) 1 0 d.0),
            goes_back (length (value_code v x) + 1 + length body) [] n (at + 1) d.1 (omega arith),
            omega arith,
          )
      statement_lies (Do from s v) at stop again h =
          let body = statement_code s x (length (value_code v x) + 2) 0 in
          let back = one (instr.GoBack (length body + length (value_code v x) + 1)) in
          let end = instr.SkipIfZero 1 ∷ back in
          let c = split body (value_code v x ++ end) (at + 1) h.1 in
          let m = at + 1 + length body in
          let d = split (value_code v x) end m c.1 in
          let n = m + length (value_code v x) in
          let e = length-append body (value_code v x ++ end) in
          let u = length-append (value_code v x) end in
          let to = at + length (statement_code (Do from s v) x stop again) in (
            m,
            n,
            h.0,
            ends s (at + 1) (at + 1 + length body) m (at + 1 + length body + (length (value_code v x) + 2)) to (at + 1 + length body + 0) m refl (omega arith) (omega arith) (statement_lies s (at + 1) (length (value_code v x) + 2) 0 c.0),
            value_lies v m d.0,
            jumps instr.SkipIfZero 1 back n to d.1 (omega arith),
            goes_back (length body + length (value_code v x) + 1) [] (n + 1) (at + 1) d.1.1 (omega arith),
            omega arith,
          )
      statement_lies (For from first v last s) at stop again h =
          let final = last_code last x in
          let body = statement_code s x (length final + 1) 0 in
          let test = test_code v x (length body + length final + 1) in
          let back = one (instr.GoBack (length test + length body + length final)) in
          let loop = instr.Turn ∷ (test ++ (body ++ (final ++ back))) in
          let before = statements_code first x (length loop + stop) (length loop + again) in
          let b = split before loop at h in
          let k = at + length before in
          let c = split test (body ++ (final ++ back)) (k + 1) b.1.1 in
          let m = k + 1 + length test in
          let d = split body (final ++ back) m c.1 in
          let n = m + length body in
          let f = split final back n d.1 in
          let q = n + length final in
          let e = length-append before loop in
          let u = length-append test (body ++ (final ++ back)) in
          let y = length-append body (final ++ back) in
          let z = length-append final back in
          let to = at + length (before ++ loop) in
          let begins = statements_lie first at (length loop + stop) (length loop + again) b.0 in (
            k,
            m,
            n,
            q,
            subst (λ w. StatementsAt first x.against at k (to + stop) w) (let g : k + (length loop + again) ≡ to + again = omega arith in g) (subst (λ w. StatementsAt first x.against at k w (k + (length loop + again))) (let g : k + (length loop + stop) ≡ to + stop = omega arith in g) begins),
            b.1.0,
            subst (λ w. TestAt v x.against (k + 1) m w) (let g : m + (length body + length final + 1) ≡ to = omega arith in g) (test_lies v (length body + length final + 1) (k + 1) c.0),
            ends s m (m + length body) n (m + length body + (length final + 1)) to (m + length body + 0) n refl (omega arith) (omega arith) (statement_lies s m (length final + 1) 0 d.0),
            last_lies last n f.0,
            goes_back (length test + length body + length final) [] q (k + 1) f.1 (omega arith),
            omega arith,
          )
      statement_lies Break at stop again h = (jumps instr.GoOn stop [] at (at + 1 + stop) h refl, refl)
      statement_lies Continue at stop again h = (jumps instr.GoOn again [] at (at + 1 + again) h refl, refl)
      statement_lies (Return from v) at stop again h = return_lies v at h

      pub statements_lie : (ss : Statements) (at stop again : ℕ) → Lies code at (statements_code ss x stop again)
          → StatementsAt ss x.against at (at + length (statements_code ss x stop again)) (at + length (statements_code ss x stop again) + stop) (at + length (statements_code ss x stop again) + again)
      statements_lie NoStatements at stop again h = omega arith
      statements_lie (MoreStatements s ss) at stop again h =
          let rest = statements_code ss x stop again in
          let first = statement_code s x (length rest + stop) (length rest + again) in
          let c = split first rest at h in
          let e = length-append first rest in
          let m = at + length first in
          let to = at + length (first ++ rest) in
          let later = statements_lie ss m stop again c.1 in (
            m,
            ends s at m m (m + (length rest + stop)) (to + stop) (m + (length rest + again)) (to + again) refl (omega arith) (omega arith) (statement_lies s at (length rest + stop) (length rest + again) c.0),
            subst (λ w. StatementsAt ss x.against m to (to + stop) w) (let g : m + length rest + again ≡ to + again = omega arith in g) (subst (λ w. StatementsAt ss x.against m to w (m + length rest + again)) (let g : m + length rest + stop ≡ to + stop = omega arith in g)
                (subst (λ w. StatementsAt ss x.against m w (m + length rest + stop) (m + length rest + again)) (let g : m + length rest ≡ to = omega arith in g) later)),
          )

    pub body_lies : (b : Body) (at : ℕ) → Lies code at (body_code b x) → BodyAt b x.against at
    body_lies b at h =
        let first = statement_code b.statements x 0 0 in
        let end = instr.Push (Number 0) ∷ one instr.Finish in
        let c = split first end at h in
        let m = at + length first in (
          m,
          m + 1,
          m + 1 + 1,
          ends b.statements at m m (m + 0) m (m + 0) m refl (omega arith) (omega arith) (statement_lies b.statements at 0 0 c.0),
          has (instr.Push (Number 0)) (one instr.Finish) m (m + 1) c.1 refl,
          has instr.Finish [] (m + 1) (m + 1 + 1) c.1.1 refl,
        )

pub lowered : (s : Source) (code : Flat) (sig : CType → ℕ) → IsEmitted s code sig → IsLowered s code
lowered s code sig h = record {
  bodies = λ f b e. let c = h.bodies f b e in record {
    info = c.info;
    entry = c.entry;
    known = c.known;
    begins = c.begins;
    params = c.params;
    result = c.result;
    frame = c.frame;
    placed = body_lies (making s code sig b) h.sigs b c.entry c.lies;
  };
  others = h.others;
  results = h.results;
}
