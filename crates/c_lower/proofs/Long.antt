-- There is a height before each instruction, and no other.
use Rattle.std.proofs.Common.{◌≡◌, ℕ, suc, ◌+◌, Bool, true, false, List, [], ◌∷◌, ◌++◌, length, length-append, refl, ap, arith}
use Rattle.r2_num.specs.declared.kinds.IntKind.{IntKind}
use Rattle.r2_num.specs.declared.kinds.IntKind.TheVariants.{I64, U64}
use Rattle.c_code.specs.declared.instr.Change.TheVariants as change
use Rattle.c_code.specs.declared.instr.Combine.TheVariants as combine
use Rattle.c_code.specs.declared.instr.Instr.{Instr}
use Rattle.c_code.specs.declared.instr.Instr.TheVariants as instr
use Rattle.c_code.specs.declared.instr.Push.TheVariants.{Number}
use Rattle.c_types_rules.specs.TypedTree as typed
use Rattle.c_types_rules.specs.TypedTree.{Object, Value, Values, Callee, Sum, PointerPlus, PlusPointer, PointerMinus, Way, Up, Down, GlobalObject, LocalObject, TextObject, Pointed, Element, MemberOf, Constant, FunctionAddress, ReadOf, AddressOf, Convert, Negate, Complement, Arithmetic, PointerSum, PointerDifference, PointerComparison, Not, Both, Either, Choice, Sequence, Assigned, Changed, Moved, Stepped, CallOf, NoValues, MoreValues, SourceFunction, BuiltinFunction, Through, MaybeValue, NoValue, OneValue, Statement, Statements, Block, Evaluate, Initialise, If, IfElse, While, Do, For, Break, Continue, Return, NoStatements, MoreStatements, object_type}
use Rattle.c_semantics.specs.Context.{kind_of, member_offset, size_of}
use Rattle.c_semantics.specs.Values.{is_read, origin}
use Rattle.c_lower_placement.specs.Conversions.{converts, reconverts}
use Rattle.c_lower_placement.specs.Placement.{count, keeps_old, loads, offset_of, step_by, stores}
use Rattle.c_lower_placement.specs.Code.{Making, body_code, call_code, callee_code, convert_code, last_code, load_code, move_code, object_code, one, return_code, statement_code, statements_code, sum_code, test_code, value_code, values_code}
use Rattle.c_lower_placement.specs.Heights.{body_heights, callee_heights, if_true, move_heights, object_heights, return_heights, statement_heights, statements_heights, sum_heights, test_heights, under_args, value_heights, values_heights}

module _ (x : Making) where
  pub len_app : (hs ks : List ℕ) (is js : List Instr) → length hs ≡ length is → length ks ≡ length js → length (hs ++ ks) ≡ length (is ++ js)
  len_app hs ks is js e f = let a = length-append hs ks in let b = length-append is js in omega (arith, e, f, a, b)

  len_cons : (h : ℕ) (ks : List ℕ) (i : Instr) (js : List Instr) → length ks ≡ length js → length (h ∷ ks) ≡ length (i ∷ js)
  len_cons h ks i js e = ap suc e

  sum_len : (s : Sum) (p i : List Instr) (hp hi : ℕ → List ℕ) (size h : ℕ) → ((k : ℕ) → length (hp k) ≡ length p) → ((k : ℕ) → length (hi k) ≡ length i) → length (sum_heights s hp hi h) ≡ length (sum_code s p i size)
  sum_len PointerPlus p i hp hi size h e f = len_app (hp h) (hi (h + 1) ++ ((h + 2) ∷ [])) p (i ++ one (instr.Combine (combine.Index size))) (e h) (len_app (hi (h + 1)) ((h + 2) ∷ []) i (one (instr.Combine (combine.Index size))) (f (h + 1)) refl)
  sum_len PlusPointer p i hp hi size h e f = len_app (hi h) (hp (h + 1) ++ ((h + 2) ∷ [])) i (p ++ one (instr.Combine (combine.IndexOf size))) (f h) (len_app (hp (h + 1)) ((h + 2) ∷ []) p (one (instr.Combine (combine.IndexOf size))) (e (h + 1)) refl)
  sum_len PointerMinus p i hp hi size h e f =
      len_app (hp h) (hi (h + 1) ++ ((h + 2) ∷ ((h + 2) ∷ []))) p (i ++ (instr.Change (change.Negate I64) ∷ one (instr.Combine (combine.Index size)))) (e h)
      (len_app (hi (h + 1)) ((h + 2) ∷ ((h + 2) ∷ [])) i (instr.Change (change.Negate I64) ∷ one (instr.Combine (combine.Index size))) (f (h + 1)) refl)

  move_len : (w : Way) (size h : ℕ) → length (move_heights w h) ≡ length (move_code w size)
  move_len Up size h = refl
  move_len Down size h = refl

  load_len : (b : Bool) (o : Object) (h : ℕ) → length (if_true b h) ≡ length (load_code b o)
  load_len true o h = refl
  load_len false o h = refl

  convert_len : (b : Bool) (k : IntKind) (h : ℕ) → length (if_true b h) ≡ length (convert_code b k)
  convert_len true k h = refl
  convert_len false k h = refl

  call_len : (f : Callee) (n k : ℕ) → length (k ∷ []) ≡ length (call_code f x n)
  call_len (SourceFunction from number) n k = refl
  call_len (BuiltinFunction from b) n k = refl
  call_len (Through v) n k = refl

  pair_len : (a b : List Instr) (ha hb : List ℕ) (i : Instr) (k : ℕ) → length ha ≡ length a → length hb ≡ length b → length (ha ++ (hb ++ (k ∷ []))) ≡ length (a ++ (b ++ one i))
  pair_len a b ha hb i k e f = len_app ha (hb ++ (k ∷ [])) a (b ++ one i) e (len_app hb (k ∷ []) b (one i) f refl)

  logic_len : (j : Instr) (a b : List Instr) (ha hb : List ℕ) (i : Instr) (k m : ℕ) → length ha ≡ length a → length hb ≡ length b → length (ha ++ (m ∷ (hb ++ (k ∷ [])))) ≡ length (a ++ (j ∷ (b ++ one i)))
  logic_len j a b ha hb i k m e f = len_app ha (m ∷ (hb ++ (k ∷ []))) a (j ∷ (b ++ one i)) e (len_cons m (hb ++ (k ∷ [])) j (b ++ one i) (len_app hb (k ∷ []) b (one i) f refl))

  mutual
    pub object_len : (o : Object) (h : ℕ) → length (object_heights o h) ≡ length (object_code o x)
    object_len (GlobalObject from place t) h = refl
    object_len (LocalObject place t) h = refl
    object_len (TextObject from n) h = refl
    object_len (Pointed v t) h = value_len v h
    object_len (Element s p i t) h = sum_len s (value_code p x) (value_code i x) (value_heights p) (value_heights i) (size_of x.against.source t) h (λ k. value_len p k) (λ k. value_len i k)
    object_len (MemberOf o number t) h = len_app (object_heights o h) ((h + 1) ∷ []) (object_code o x) (one (instr.Change (change.Offset (member_offset x.against.source (object_type o) number)))) (object_len o h) refl

    pub value_len : (v : Value) (h : ℕ) → length (value_heights v h) ≡ length (value_code v x)
    value_len (Constant k n) h = refl
    value_len (FunctionAddress from number t) h = refl
    value_len (ReadOf o) h = len_app (object_heights o h) (if_true (is_read (object_type o)) (h + 1)) (object_code o x) (load_code (is_read (object_type o)) o) (object_len o h) (load_len (is_read (object_type o)) o (h + 1))
    value_len (AddressOf o t) h = object_len o h
    value_len (Convert t v) h = len_app (value_heights v h) (if_true (converts t v) (h + 1)) (value_code v x) (convert_code (converts t v) (kind_of t)) (value_len v h) (convert_len (converts t v) (kind_of t) (h + 1))
    value_len (Negate k v) h = len_app (value_heights v h) ((h + 1) ∷ []) (value_code v x) (one (instr.Change (change.Negate k))) (value_len v h) refl
    value_len (Complement k v) h = len_app (value_heights v h) ((h + 1) ∷ []) (value_code v x) (one (instr.Change (change.Complement k))) (value_len v h) refl
    value_len (Arithmetic op k a b) h = pair_len (value_code a x) (value_code b x) (value_heights a h) (value_heights b (h + 1)) (instr.Combine (combine.Arith op k)) (h + 2) (value_len a h) (value_len b (h + 1))
    value_len (PointerSum s p i size) h = sum_len s (value_code p x) (value_code i x) (value_heights p) (value_heights i) size h (λ k. value_len p k) (λ k. value_len i k)
    value_len (PointerDifference a b size) h = pair_len (value_code a x) (value_code b x) (value_heights a h) (value_heights b (h + 1)) (instr.Combine (combine.Distance size)) (h + 2) (value_len a h) (value_len b (h + 1))
    value_len (PointerComparison op a b) h = pair_len (value_code a x) (value_code b x) (value_heights a h) (value_heights b (h + 1)) (instr.Combine (combine.Arith op U64)) (h + 2) (value_len a h) (value_len b (h + 1))
    value_len (Not v) h = len_app (value_heights v h) ((h + 1) ∷ []) (value_code v x) (one (instr.Change change.Not)) (value_len v h) refl
    value_len (Both a b) h = logic_len (instr.EndIfZero (length (value_code b x) + 1)) (value_code a x) (value_code b x) (value_heights a h) (value_heights b h) (instr.Change change.Truth) (h + 1) (h + 1) (value_len a h) (value_len b h)
    value_len (Either a b) h = logic_len (instr.EndUnlessZero (length (value_code b x) + 1)) (value_code a x) (value_code b x) (value_heights a h) (value_heights b h) (instr.Change change.Truth) (h + 1) (h + 1) (value_len a h) (value_len b h)
    value_len (Choice c a b) h =
        let second = instr.GoOn (length (value_code b x)) ∷ value_code b x in
        len_app (value_heights c h) ((h + 1) ∷ (value_heights a h ++ ((h + 1) ∷ value_heights b h))) (value_code c x) (instr.SkipIfZero (length (value_code a x) + 1) ∷ (value_code a x ++ second)) (value_len c h)
        (ap suc (len_app (value_heights a h) ((h + 1) ∷ value_heights b h) (value_code a x) second (value_len a h) (ap suc (value_len b h))))
    value_len (Sequence a b) h = len_app (value_heights a h) ((h + 1) ∷ value_heights b h) (value_code a x) (instr.Drop ∷ value_code b x) (value_len a h) (ap suc (value_len b h))
    value_len (Assigned o v) h = pair_len (object_code o x) (value_code v x) (object_heights o h) (value_heights v (h + 1)) (stores o) (h + 2) (object_len o h) (value_len v (h + 1))
    value_len (Changed o op k v) h =
        let own = kind_of (object_type o) in
        let first = convert_code (reconverts own k) k in
        let second = convert_code (reconverts k own) own in
        let last = second ++ one (stores o) in
        let end = instr.Combine (combine.Arith op k) ∷ last in
        let inner = value_code v x ++ end in
        let last_heights = if_true (reconverts k own) (h + 2) ++ ((h + 2) ∷ []) in
        let inner_heights = value_heights v (h + 2) ++ ((h + 3) ∷ last_heights) in
        len_app (object_heights o h) ((h + 1) ∷ (if_true (reconverts own k) (h + 2) ++ inner_heights)) (object_code o x) (loads o ∷ (first ++ inner)) (object_len o h)
        (ap suc (len_app (if_true (reconverts own k) (h + 2)) inner_heights first inner (convert_len (reconverts own k) k (h + 2))
        (len_app (value_heights v (h + 2)) ((h + 3) ∷ last_heights) (value_code v x) end (value_len v (h + 2))
        (ap suc (len_app (if_true (reconverts k own) (h + 2)) ((h + 2) ∷ []) second (one (stores o)) (convert_len (reconverts k own) own (h + 2)) refl)))))
    value_len (Moved o w i size) h =
        len_app (object_heights o h) ((h + 1) ∷ (value_heights i (h + 2) ++ (move_heights w (h + 3) ++ ((h + 2) ∷ [])))) (object_code o x) (loads o ∷ (value_code i x ++ (move_code w size ++ one (stores o)))) (object_len o h)
        (ap suc (len_app (value_heights i (h + 2)) (move_heights w (h + 3) ++ ((h + 2) ∷ [])) (value_code i x) (move_code w size ++ one (stores o)) (value_len i (h + 2)) (len_app (move_heights w (h + 3)) ((h + 2) ∷ []) (move_code w size) (one (stores o)) (move_len w size (h + 3)) refl)))
    value_len (Stepped o w g size) h = len_app (object_heights o h) ((h + 1) ∷ ((h + 2) ∷ [])) (object_code o x) (loads o ∷ one (instr.StoreStep (kind_of (object_type o)) (step_by w size) (keeps_old g) (origin o))) (object_len o h) refl
    value_len (CallOf f vs t) h =
        len_app (callee_heights f h) (values_heights vs (under_args f h) ++ ((under_args f h + count vs) ∷ [])) (callee_code f x) (values_code vs x ++ call_code f x (count vs)) (callee_len f h)
        (len_app (values_heights vs (under_args f h)) ((under_args f h + count vs) ∷ []) (values_code vs x) (call_code f x (count vs)) (values_len vs (under_args f h)) (call_len f (count vs) (under_args f h + count vs)))

    pub values_len : (vs : Values) (h : ℕ) → length (values_heights vs h) ≡ length (values_code vs x)
    values_len NoValues h = refl
    values_len (MoreValues v vs) h = len_app (value_heights v h) (values_heights vs (h + 1)) (value_code v x) (values_code vs x) (value_len v h) (values_len vs (h + 1))

    pub callee_len : (f : Callee) (h : ℕ) → length (callee_heights f h) ≡ length (callee_code f x)
    callee_len (SourceFunction from number) h = refl
    callee_len (BuiltinFunction from b) h = refl
    callee_len (Through v) h = value_len v h

  test_len : (v : MaybeValue) (n : ℕ) → length (test_heights v) ≡ length (test_code v x n)
  test_len NoValue n = refl
  test_len (OneValue v) n = len_app (value_heights v 0) (1 ∷ []) (value_code v x) (one (instr.SkipIfZero n)) (value_len v 0) refl

  last_len : (v : MaybeValue) → length (test_heights v) ≡ length (last_code v x)
  last_len NoValue = refl
  last_len (OneValue v) = len_app (value_heights v 0) (1 ∷ []) (value_code v x) (one instr.Drop) (value_len v 0) refl

  return_len : (v : MaybeValue) → length (return_heights v) ≡ length (return_code v x)
  return_len NoValue = refl
  return_len (OneValue v) = len_app (value_heights v 0) (1 ∷ []) (value_code v x) (one instr.Finish) (value_len v 0) refl

  mutual
    pub statement_len : (z : Statement) (stop again : ℕ) → length (statement_heights z) ≡ length (statement_code z x stop again)
    statement_len (Block zs) stop again = statements_len zs stop again
    statement_len (Evaluate v) stop again = len_app (value_heights v 0) (1 ∷ []) (value_code v x) (one instr.Drop) (value_len v 0) refl
    statement_len (Initialise place t v) stop again = len_app (value_heights v 0) (1 ∷ []) (value_code v x) (one (instr.StoreLocal (kind_of t) (offset_of x.against place))) (value_len v 0) refl
    statement_len (If v z) stop again =
        let body = statement_code z x stop again in
        len_app (value_heights v 0) (1 ∷ statement_heights z) (value_code v x) (instr.SkipIfZero (length body) ∷ body) (value_len v 0) (ap suc (statement_len z stop again))
    statement_len (IfElse v z y) stop again =
        let other = statement_code y x stop again in
        let body = statement_code z x (length other + 1 + stop) (length other + 1 + again) in
        let second = instr.GoOn (length other) ∷ other in
        len_app (value_heights v 0) (1 ∷ (statement_heights z ++ (0 ∷ statement_heights y))) (value_code v x) (instr.SkipIfZero (length body + 1) ∷ (body ++ second)) (value_len v 0)
        (ap suc (len_app (statement_heights z) (0 ∷ statement_heights y) body second (statement_len z (length other + 1 + stop) (length other + 1 + again)) (ap suc (statement_len y stop again))))
    statement_len (While from v z) stop again =
        let body = statement_code z x 1 0 in
        let back = one (instr.GoBack (length (value_code v x) + 1 + length body)) in
        ap suc (len_app (value_heights v 0) (1 ∷ (statement_heights z ++ (0 ∷ []))) (value_code v x) (instr.SkipIfZero (length body + 1) ∷ (body ++ back)) (value_len v 0)
        (ap suc (len_app (statement_heights z) (0 ∷ []) body back (statement_len z 1 0) refl)))
    statement_len (Do from z v) stop again =
        let body = statement_code z x (length (value_code v x) + 2) 0 in
        let end = instr.SkipIfZero 1 ∷ one (instr.GoBack (length body + length (value_code v x) + 1)) in
        ap suc (len_app (statement_heights z) (value_heights v 0 ++ (1 ∷ (0 ∷ []))) body (value_code v x ++ end) (statement_len z (length (value_code v x) + 2) 0)
        (len_app (value_heights v 0) (1 ∷ (0 ∷ [])) (value_code v x) end (value_len v 0) refl))
    statement_len (For from first v last z) stop again =
        let final = last_code last x in
        let body = statement_code z x (length final + 1) 0 in
        let over = length body + length final + 1 in
        let test = test_code v x over in
        let back = one (instr.GoBack (length test + length body + length final)) in
        let loop = instr.Turn ∷ (test ++ (body ++ (final ++ back))) in
        len_app (statements_heights first) (0 ∷ (test_heights v ++ (statement_heights z ++ (test_heights last ++ (0 ∷ []))))) (statements_code first x (length loop + stop) (length loop + again)) loop (statements_len first (length loop + stop) (length loop + again))
        (ap suc (len_app (test_heights v) (statement_heights z ++ (test_heights last ++ (0 ∷ []))) test (body ++ (final ++ back)) (test_len v over)
        (len_app (statement_heights z) (test_heights last ++ (0 ∷ [])) body (final ++ back) (statement_len z (length final + 1) 0) (len_app (test_heights last) (0 ∷ []) final back (last_len last) refl))))
    statement_len Break stop again = refl
    statement_len Continue stop again = refl
    statement_len (Return from v) stop again = return_len v

    pub statements_len : (zs : Statements) (stop again : ℕ) → length (statements_heights zs) ≡ length (statements_code zs x stop again)
    statements_len NoStatements stop again = refl
    statements_len (MoreStatements z zs) stop again =
        let rest = statements_code zs x stop again in
        len_app (statement_heights z) (statements_heights zs) (statement_code z x (length rest + stop) (length rest + again)) rest (statement_len z (length rest + stop) (length rest + again)) (statements_len zs stop again)

  pub body_long : (b : typed.Body) → length (body_heights b) ≡ length (body_code b x)
  body_long b = len_app (statement_heights b.statements) (0 ∷ (1 ∷ [])) (statement_code b.statements x 0 0) (instr.Push (Number 0) ∷ one instr.Finish) (statement_len b.statements 0 0) refl
