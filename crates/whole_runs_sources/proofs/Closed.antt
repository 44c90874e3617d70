-- The code of a body goes on within itself alone.
use Rattle.std.proofs.Common.{◌≡◌, ◌≤◌, ℕ, zero, suc, ◌+◌, Bool, true, false, List, [], ◌∷◌, ◌++◌, length, append_assoc, length-append, Some, refl, sym, ap, ◌∙◌, subst, arith}
use Rattle.std.specs.Prelude.{slice_get}
use Rattle.std.specs.List.{AllByRecursion}
use Rattle.std.proofs.lemmas.Option.{same_Some}
use Rattle.r2_num.specs.declared.kinds.IntKind.{IntKind}
use Rattle.c_code.specs.declared.instr.Change.TheVariants.{Truth}
use Rattle.c_code.specs.declared.instr.Instr.{Instr}
use Rattle.c_code.specs.declared.instr.Instr.TheVariants as instr
use Rattle.c_types_rules.specs.TypedTree as typed
use Rattle.c_types_rules.specs.TypedTree.{Object, Value, Values, Callee, Sum, PointerPlus, PlusPointer, PointerMinus, Way, Up, Down, GlobalObject, LocalObject, TextObject, Pointed, Element, MemberOf, Constant, FunctionAddress, ReadOf, AddressOf, Convert, Negate, Complement, Arithmetic, PointerSum, PointerDifference, PointerComparison, Not, Both, Either, Choice, Sequence, Assigned, Changed, Moved, Stepped, CallOf, NoValues, MoreValues, SourceFunction, BuiltinFunction, Through, MaybeValue, NoValue, OneValue, Statement, Statements, Block, Evaluate, Initialise, If, IfElse, While, Do, For, Break, Continue, Return, NoStatements, MoreStatements, object_type}
use Rattle.c_semantics.specs.Context.{kind_of}
use Rattle.c_semantics.specs.Values.{is_read}
use Rattle.c_lower_placement.specs.Conversions.{converts, reconverts}
use Rattle.c_lower_placement.specs.Placement.{count}
use Rattle.c_lower_placement.specs.Code.{Making, body_code, call_code, callee_code, convert_code, last_code, load_code, move_code, object_code, one, return_code, statement_code, statements_code, sum_code, test_code, value_code, values_code}
use Rattle.whole_runs.specs.Code.{next_places}

-- ---- lists of instructions

-- each of these places lies between two
abbrev pub Between : (first last : ℕ) → List ℕ → Type 0
Between first last qs = AllByRecursion (λ (q : ℕ). (first ≤ q) × (q ≤ last)) qs

-- an instruction that stands from a place on goes on between two places, as do those after it
abbrev pub Within : (first last : ℕ) → (place : ℕ) → List Instr → Type 0
Within first last p [] = Unit {0}
Within first last p (i ∷ is) = Between first last (next_places p i) × Within first last (p + 1) is

wider : (f l f2 l2 : ℕ) (qs : List ℕ) → f2 ≤ f → l ≤ l2 → Between f l qs → Between f2 l2 qs
wider f l f2 l2 [] a b h = tt
wider f l f2 l2 (q ∷ qs) a b h = ((omega (arith, a, h.0.0), omega (arith, b, h.0.1)), wider f l f2 l2 qs a b h.1)

widen : (f l f2 l2 p : ℕ) (is : List Instr) → f2 ≤ f → l ≤ l2 → Within f l p is → Within f2 l2 p is
widen f l f2 l2 p [] a b h = tt
widen f l f2 l2 p (i ∷ is) a b h = (wider f l f2 l2 (next_places p i) a b h.0, widen f l f2 l2 (p + 1) is a b h.1)

both : (f l p : ℕ) (is js : List Instr) → Within f l p is → Within f l (p + length is) js → Within f l p (is ++ js)
both f l p [] js h k = let n : p + 0 ≡ p = omega arith in subst (λ m. Within f l m js) n k
both f l p (i ∷ is) js h k =
    let n : p + suc (length is) ≡ p + 1 + length is = omega arith in
    (h.0, both f l (p + 1) is js h.1 (subst (λ m. Within f l m js) n k))

-- the instruction at a place goes on between them
pub within_at : (f l p by : ℕ) (is : List Instr) (i : Instr) → Within f l p is → slice_get is by ≡ Some i → Between f l (next_places (p + by) i)
within_at f l p by [] i h e = absurd cc
within_at f l p zero (j ∷ is) i h e =
    let n : p ≡ p + 0 = omega arith in
    subst (λ m. Between f l (next_places m i)) n (subst (λ (x : Instr). Between f l (next_places p x)) (same_Some j i e) h.0)
within_at f l p (suc by) (j ∷ is) i h e =
    let n : p + 1 + by ≡ p + suc by = omega arith in
    subst (λ m. Between f l (next_places m i)) n (within_at f l (p + 1) by is i h.1 e)

-- ---- code that goes on within itself, or so far after its end

record To (m : ℕ) (is : List Instr) : Type 0 where
  goes : (p : ℕ) → Within p (p + length is + m) p is

nil : (m : ℕ) → To m []
nil m = record { goes = λ p. tt }

cat : (m : ℕ) (is js : List Instr) → To (length js + m) is → To m js → To m (is ++ js)
cat m is js h k = record {
  goes = λ p.
      let n = length-append is js in
      both p (p + length (is ++ js) + m) p is js
      (widen p (p + length is + (length js + m)) p (p + length (is ++ js) + m) p is (omega arith) (omega (arith, n)) (h.goes p))
      (widen (p + length is) (p + length is + length js + m) p (p + length (is ++ js) + m) (p + length is) js (omega arith) (omega (arith, n)) (k.goes (p + length is)));
}

more : (m : ℕ) (is : List Instr) → To 0 is → To m is
more m is h = record { goes = λ p. widen p (p + length is + 0) p (p + length is + m) p is (omega arith) (omega arith) (h.goes p) }

join : (m : ℕ) (is js : List Instr) → To 0 is → To m js → To m (is ++ js)
join m is js h k = cat m is js (more (length js + m) is h) k

-- one more before others
after : (m : ℕ) (i : Instr) (is : List Instr) → ((p : ℕ) → Between p (p + suc (length is) + m) (next_places p i)) → To m is → To m (i ∷ is)
after m i is g h = record {
  goes = λ p. (g p, widen (p + 1) (p + 1 + length is + m) p (p + suc (length is) + m) (p + 1) is (omega arith) (omega arith) (h.goes (p + 1)));
}

next : (m : ℕ) (i : Instr) (is : List Instr) → ((p : ℕ) → next_places p i ≡ (p + 1) ∷ []) → To m is → To m (i ∷ is)
next m i is e h = after m i is (λ p. subst (λ (qs : List ℕ). Between p (p + suc (length is) + m) qs) (sym (e p)) ((omega arith, omega arith), tt)) h

last : (m : ℕ) (i : Instr) → ((p : ℕ) → next_places p i ≡ (p + 1) ∷ []) → To m (one i)
last m i e = next m i [] e (nil m)

jump : (m n : ℕ) (i : Instr) (is : List Instr) → ((p : ℕ) → next_places p i ≡ (p + 1) ∷ (p + 1 + n) ∷ []) → n ≤ length is + m → To m is → To m (i ∷ is)
jump m n i is e few h =
    after m i is (λ p. subst (λ (qs : List ℕ). Between p (p + suc (length is) + m) qs) (sym (e p)) ((omega arith, omega arith), ((omega arith, omega (arith, few)), tt))) h

go_on : (m n : ℕ) (is : List Instr) → n ≤ length is + m → To m is → To m (instr.GoOn n ∷ is)
go_on m n is few h = after m (instr.GoOn n) is (λ p. ((omega arith, omega (arith, few)), tt)) h

-- code that goes back at its end
loop : (m n : ℕ) (is : List Instr) → n ≤ length is → To (1 + m) is → To m (is ++ one (instr.GoBack n))
loop m n is few h = record {
  goes = λ p.
      let all = length-append is (one (instr.GoBack n)) in
      both p (p + length (is ++ one (instr.GoBack n)) + m) p is (one (instr.GoBack n))
      (widen p (p + length is + (1 + m)) p (p + length (is ++ one (instr.GoBack n)) + m) p is (omega arith) (omega (arith, all)) (h.goes p))
      (((omega (arith, few), omega (arith, all)), tt), tt);
}

-- ---- constructs

convert_to : (b : Bool) (k : IntKind) → To 0 (convert_code b k)
convert_to true k = last 0 _ (λ p. refl)
convert_to false k = nil 0

load_to : (b : Bool) (o : Object) → To 0 (load_code b o)
load_to true o = last 0 _ (λ p. refl)
load_to false o = nil 0

move_to : (w : Way) (size : ℕ) → To 0 (move_code w size)
move_to Up size = last 0 _ (λ p. refl)
move_to Down size = next 0 _ _ (λ p. refl) (last 0 _ (λ p. refl))

sum_to : (s : Sum) (p i : List Instr) (size : ℕ) → To 0 p → To 0 i → To 0 (sum_code s p i size)
sum_to PointerPlus p i size h k = join 0 p _ h (join 0 i _ k (last 0 _ (λ n. refl)))
sum_to PlusPointer p i size h k = join 0 i _ k (join 0 p _ h (last 0 _ (λ n. refl)))
sum_to PointerMinus p i size h k = join 0 p _ h (join 0 i _ k (next 0 _ _ (λ n. refl) (last 0 _ (λ n. refl))))

-- the right operand of `&&` and of `||`
operand : (i : Instr) (is : List Instr) (n : ℕ) → ((p : ℕ) → next_places p i ≡ (p + 1) ∷ (p + 1 + n) ∷ []) → n ≡ length is + 1 → To 0 is → To 0 (i ∷ (is ++ one (instr.Change Truth)))
operand i is n e far h =
    let many = length-append is (one (instr.Change Truth)) in
    jump 0 n i (is ++ one (instr.Change Truth)) e (omega (arith, many, far)) (join 0 is _ h (last 0 _ (λ p. refl)))

module _ (x : Making) where
  call_to : (f : Callee) (n : ℕ) → To 0 (call_code f x n)
  call_to (SourceFunction from number) n = last 0 _ (λ p. refl)
  call_to (BuiltinFunction from b) n = last 0 _ (λ p. refl)
  call_to (Through v) n = last 0 _ (λ p. refl)

  mutual
    object_to : (o : Object) → To 0 (object_code o x)
    object_to (GlobalObject from place t) = last 0 _ (λ p. refl)
    object_to (LocalObject place t) = last 0 _ (λ p. refl)
    object_to (TextObject from n) = last 0 _ (λ p. refl)
    object_to (Pointed v t) = value_to v
    object_to (Element s p i t) = sum_to s (value_code p x) (value_code i x) _ (value_to p) (value_to i)
    object_to (MemberOf o number t) = join 0 (object_code o x) _ (object_to o) (last 0 _ (λ p. refl))

    value_to : (v : Value) → To 0 (value_code v x)
    value_to (Constant k n) = last 0 _ (λ p. refl)
    value_to (FunctionAddress from number t) = last 0 _ (λ p. refl)
    value_to (ReadOf o) = join 0 (object_code o x) _ (object_to o) (load_to (is_read (object_type o)) o)
    value_to (AddressOf o t) = object_to o
    value_to (Convert t v) = join 0 (value_code v x) _ (value_to v) (convert_to (converts t v) (kind_of t))
    value_to (Negate k v) = join 0 (value_code v x) _ (value_to v) (last 0 _ (λ p. refl))
    value_to (Complement k v) = join 0 (value_code v x) _ (value_to v) (last 0 _ (λ p. refl))
    value_to (Arithmetic op k a b) = join 0 (value_code a x) _ (value_to a) (join 0 (value_code b x) _ (value_to b) (last 0 _ (λ p. refl)))
    value_to (PointerSum s p i size) = sum_to s (value_code p x) (value_code i x) size (value_to p) (value_to i)
    value_to (PointerDifference a b size) = join 0 (value_code a x) _ (value_to a) (join 0 (value_code b x) _ (value_to b) (last 0 _ (λ p. refl)))
    value_to (PointerComparison op a b) = join 0 (value_code a x) _ (value_to a) (join 0 (value_code b x) _ (value_to b) (last 0 _ (λ p. refl)))
    value_to (Not v) = join 0 (value_code v x) _ (value_to v) (last 0 _ (λ p. refl))
    value_to (Both a b) = join 0 (value_code a x) _ (value_to a) (operand (instr.EndIfZero (length (value_code b x) + 1)) (value_code b x) (length (value_code b x) + 1) (λ p. refl) refl (value_to b))
    value_to (Either a b) = join 0 (value_code a x) _ (value_to a) (operand (instr.EndUnlessZero (length (value_code b x) + 1)) (value_code b x) (length (value_code b x) + 1) (λ p. refl) refl (value_to b))
    value_to (Choice c a b) =
        let one_arm = value_code a x in
        let other = value_code b x in
        let many = length-append one_arm (instr.GoOn (length other) ∷ other) in
        join 0 (value_code c x) _ (value_to c)
        (jump 0 (length one_arm + 1) (instr.SkipIfZero (length one_arm + 1)) (one_arm ++ (instr.GoOn (length other) ∷ other)) (λ p. refl) (omega (arith, many))
        (join 0 one_arm _ (value_to a) (go_on 0 (length other) other (omega arith) (value_to b))))
    value_to (Sequence a b) = join 0 (value_code a x) _ (value_to a) (next 0 _ _ (λ p. refl) (value_to b))
    value_to (Assigned o v) = join 0 (object_code o x) _ (object_to o) (join 0 (value_code v x) _ (value_to v) (last 0 _ (λ p. refl)))
    value_to (Changed o op k v) =
        let own = kind_of (object_type o) in
        join 0 (object_code o x) _ (object_to o)
        (next 0 _ _ (λ p. refl) (join 0 (convert_code (reconverts own k) k) _ (convert_to (reconverts own k) k)
        (join 0 (value_code v x) _ (value_to v)
        (next 0 _ _ (λ p. refl) (join 0 (convert_code (reconverts k own) own) _ (convert_to (reconverts k own) own) (last 0 _ (λ p. refl)))))))
    value_to (Moved o w i size) =
        join 0 (object_code o x) _ (object_to o)
        (next 0 _ _ (λ p. refl) (join 0 (value_code i x) _ (value_to i) (join 0 (move_code w size) _ (move_to w size) (last 0 _ (λ p. refl)))))
    value_to (Stepped o w g size) = join 0 (object_code o x) _ (object_to o) (next 0 _ _ (λ p. refl) (last 0 _ (λ p. refl)))
    value_to (CallOf f vs t) = join 0 (callee_code f x) _ (callee_to f) (join 0 (values_code vs x) _ (values_to vs) (call_to f (count vs)))

    values_to : (vs : Values) → To 0 (values_code vs x)
    values_to NoValues = nil 0
    values_to (MoreValues v vs) = join 0 (value_code v x) _ (value_to v) (values_to vs)

    callee_to : (f : Callee) → To 0 (callee_code f x)
    callee_to (SourceFunction from number) = nil 0
    callee_to (BuiltinFunction from b) = nil 0
    callee_to (Through v) = value_to v

  -- ---- statements

  test_to : (v : MaybeValue) (over m : ℕ) → over ≤ m → To m (test_code v x over)
  test_to NoValue over m few = nil m
  test_to (OneValue v) over m few = join m (value_code v x) _ (value_to v) (jump m over (instr.SkipIfZero over) [] (λ p. refl) (omega (arith, few)) (nil m))

  last_to : (v : MaybeValue) → To 0 (last_code v x)
  last_to NoValue = nil 0
  last_to (OneValue v) = join 0 (value_code v x) _ (value_to v) (last 0 _ (λ p. refl))

  finish : (m : ℕ) → To m (one instr.Finish)
  finish m = after m instr.Finish [] (λ p. tt) (nil m)

  return_to : (v : MaybeValue) (m : ℕ) → To m (return_code v x)
  return_to NoValue m = next m _ _ (λ p. refl) (finish m)
  return_to (OneValue v) m = join m (value_code v x) _ (value_to v) (finish m)

  mutual
    statement_to : (s : Statement) (stop again m : ℕ) → stop ≤ m → again ≤ m → To m (statement_code s x stop again)
    statement_to (Block ss) stop again m a b = statements_to ss stop again m a b
    statement_to (Evaluate v) stop again m a b = join m (value_code v x) _ (value_to v) (last m _ (λ p. refl))
    statement_to (Initialise place t v) stop again m a b = join m (value_code v x) _ (value_to v) (last m _ (λ p. refl))
    statement_to (If v s) stop again m a b =
        let body = statement_code s x stop again in
        join m (value_code v x) _ (value_to v) (jump m (length body) (instr.SkipIfZero (length body)) body (λ p. refl) (omega arith) (statement_to s stop again m a b))
    statement_to (IfElse v s z) stop again m a b =
        let other = statement_code z x stop again in
        let body = statement_code s x (length other + 1 + stop) (length other + 1 + again) in
        let many = length-append body (instr.GoOn (length other) ∷ other) in
        join m (value_code v x) _ (value_to v)
        (jump m (length body + 1) (instr.SkipIfZero (length body + 1)) (body ++ (instr.GoOn (length other) ∷ other)) (λ p. refl) (omega (arith, many))
        (cat m body (instr.GoOn (length other) ∷ other)
        (statement_to s (length other + 1 + stop) (length other + 1 + again) (length (instr.GoOn (length other) ∷ other) + m) (omega (arith, a)) (omega (arith, b)))
        (go_on m (length other) other (omega arith) (statement_to z stop again m a b))))
    statement_to (While from v s) stop again m a b =
        let test = value_code v x in
        let body = statement_code s x 1 0 in
        let skip = instr.SkipIfZero (length body + 1) in
        let back = length test + 1 + length body in
        let many = length-append test (skip ∷ body) in
        subst (λ (is : List Instr). To m (instr.Turn ∷ is)) (append_assoc test (skip ∷ body) (one (instr.GoBack back)))
        (loop m back (instr.Turn ∷ (test ++ (skip ∷ body))) (omega (arith, many))
        (next (1 + m) instr.Turn (test ++ (skip ∷ body)) (λ p. refl)
        (join (1 + m) test (skip ∷ body) (value_to v) (jump (1 + m) (length body + 1) skip body (λ p. refl) (omega arith) (statement_to s 1 0 (1 + m) (omega arith) (omega arith))))))
    statement_to (Do from s v) stop again m a b =
        let test = value_code v x in
        let body = statement_code s x (length test + 2) 0 in
        let back = length body + length test + 1 in
        let skip : List Instr = one (instr.SkipIfZero 1) in
        let end : List Instr = one (instr.GoBack back) in
        let many = length-append body (test ++ skip) in
        let some = length-append test skip in
        subst (λ (is : List Instr). To m (instr.Turn ∷ is)) (append_assoc body (test ++ skip) end ∙ ap (λ (is : List Instr). body ++ is) (append_assoc test skip end))
        (loop m back (instr.Turn ∷ (body ++ (test ++ skip))) (omega (arith, many, some))
        (next (1 + m) instr.Turn (body ++ (test ++ skip)) (λ p. refl)
        (cat (1 + m) body (test ++ skip) (statement_to s (length test + 2) 0 (length (test ++ skip) + (1 + m)) (omega (arith, some)) (omega arith))
        (join (1 + m) test skip (value_to v) (jump (1 + m) 1 (instr.SkipIfZero 1) [] (λ p. refl) (omega arith) (nil (1 + m)))))))
    statement_to (For from first v last_one s) stop again m a b =
        let final = last_code last_one x in
        let body = statement_code s x (length final + 1) 0 in
        let test = test_code v x (length body + length final + 1) in
        let back = length test + length body + length final in
        let end : List Instr = one (instr.GoBack back) in
        let whole : List Instr = instr.Turn ∷ (test ++ (body ++ (final ++ end))) in
        let many = length-append test (body ++ final) in
        let some = length-append body final in
        let apart : (test ++ (body ++ final)) ++ end ≡ test ++ (body ++ (final ++ end)) =
        append_assoc test (body ++ final) end ∙ ap (λ (is : List Instr). test ++ is) (append_assoc body final end) in
        let round : To m whole = subst (λ (is : List Instr). To m (instr.Turn ∷ is)) apart
        (loop m back (instr.Turn ∷ (test ++ (body ++ final))) (omega (arith, many, some))
        (next (1 + m) instr.Turn (test ++ (body ++ final)) (λ p. refl)
        (cat (1 + m) test (body ++ final) (test_to v (length body + length final + 1) (length (body ++ final) + (1 + m)) (omega (arith, some)))
        (cat (1 + m) body final (statement_to s (length final + 1) 0 (length final + (1 + m)) (omega arith) (omega arith)) (more (1 + m) final (last_to last_one)))))) in
        cat m (statements_code first x (length whole + stop) (length whole + again)) whole
        (statements_to first (length whole + stop) (length whole + again) (length whole + m) (omega (arith, a)) (omega (arith, b))) round
    statement_to Break stop again m a b = go_on m stop [] (omega (arith, a)) (nil m)
    statement_to Continue stop again m a b = go_on m again [] (omega (arith, b)) (nil m)
    statement_to (Return from v) stop again m a b = return_to v m

    statements_to : (ss : Statements) (stop again m : ℕ) → stop ≤ m → again ≤ m → To m (statements_code ss x stop again)
    statements_to NoStatements stop again m a b = nil m
    statements_to (MoreStatements s ss) stop again m a b =
        let rest = statements_code ss x stop again in
        cat m (statement_code s x (length rest + stop) (length rest + again)) rest
        (statement_to s (length rest + stop) (length rest + again) (length rest + m) (omega (arith, a)) (omega (arith, b))) (statements_to ss stop again m a b)

  -- the last instruction of a body ends the function
  pub body_within : (b : typed.Body) (p : ℕ) → Within p (p + length (statement_code b.statements x 0 0) + 1) p (body_code b x)
  body_within b p =
      let statements = statement_code b.statements x 0 0 in
      both p (p + length statements + 1) p statements _
      (widen p (p + length statements + 0) p (p + length statements + 1) p statements (omega arith) (omega arith) ((statement_to b.statements 0 0 0 (omega arith) (omega arith)).goes p))
      (((omega arith, omega arith), tt), (tt, tt))

  pub body_length : (b : typed.Body) → length (body_code b x) ≡ length (statement_code b.statements x 0 0) + 2
  body_length b = length-append (statement_code b.statements x 0 0) _
