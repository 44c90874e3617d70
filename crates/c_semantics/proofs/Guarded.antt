-- Where each call is of what is known and passes converted arguments, code makes the same marks if no other calls are made
-- than of known functions with values of their parameters' types.
use Rattle.std.proofs.Common.{◌≡◌, ℕ, ◌+◌, ◌-ℤ◌, pos, negsuc, true, cond, List, [], ◌∷◌, Option, Some, None, refl, sym, ap, ◌∙◌, subst}
use Rattle.std.proofs.lemmas.Bool.{and_from, cond-true}
use Rattle.r2_num.specs.declared.kinds.IntKind.TheVariants.{I64, U64}
use Rattle.r2_num.specs.declared.operations.Op.TheVariants.{Div}
use Rattle.r2_num.specs.Conversions.{wrapped}
use Rattle.marks.specs.Places.{function_address}
use Rattle.c_code.specs.Frames.{are_values}
use Rattle.c_code.specs.Values.{arith_of, at_zero, converted, is_value, read, written}
use Rattle.c_builtins.specs.declared.builtin.Builtin.{Builtin}
use Rattle.c_builtins.specs.declared.builtin.Builtin.TheVariants.{Malloc, Free, Spawn, Join, Lock, Unlock, Print}
use Rattle.c_builtins.specs.Table.{number_of}
use Rattle.c_types_model.specs.Types.{CType, CTypes, NoTypes, MoreTypes}
use Rattle.c_types_rules.specs.TypedTree.{Body, Object, Value, Values, Sum, PointerPlus, PlusPointer, PointerMinus, GlobalObject, LocalObject, TextObject, Pointed, Element, MemberOf, Constant, FunctionAddress, ReadOf, AddressOf, Convert, Negate, Complement, Arithmetic, PointerSum, PointerDifference, PointerComparison, Not, Both, Either, Choice, Sequence, Assigned, Changed, Moved, Stepped, CallOf, NoValues, MoreValues, SourceFunction, BuiltinFunction, Through, object_type, value_type, MaybeValue, NoValue, OneValue, Statement, Statements, Block, Evaluate, Initialise, If, IfElse, While, Do, For, Break, Continue, Return, NoStatements, MoreStatements}
use Rattle.c_types_rules.specs.Sources.{params_of}
use Rattle.c_semantics.specs.Reading.{Marks, wrong, or_fault}
use Rattle.c_semantics.specs.Context.{Source, body_of, global_address, text_address, size_of, member_offset, kind_of, param_shapes, shape_of, shapes_of, type_of}
use Rattle.c_semantics.specs.Values.{Here, address, converted_to, fetch, given, in_order, load, local_address, moved_by, origin, stepped_by, store, summed, target, truth, value, values, wrap}
use Rattle.c_semantics.specs.Statements.{Exits, looping, maybe, statement, statements, within}
use Rattle.c_semantics.specs.Calls.{making}
use Rattle.c_semantics.specs.Arguments.{AreConverted, is_known, takes_values, ObjectPasses, ValuePasses, ValuesPass, MaybePasses, StatementPasses, StatementsPass, ArgumentsAreConverted}
use Rattle.c_semantics.proofs.Converted.{converted_is_value}

-- where code runs, with calls that are made with such values alone
abbrev pub guard : Source → Here → Here
guard s h = record {
  source = h.source;
  side = h.side;
  base = h.base;
  offsets = h.offsets;
  call = λ f args go. cond (takes_values s f args) (h.call f args go) wrong;
  call_at = λ t a args go. cond (are_values (shapes_of (params_of t)) args) (h.call_at t a args go) wrong;
}

builtin_known : (s : Source) (b : Builtin) → is_known s (number_of b) ≡ true
builtin_known s Malloc = refl
builtin_known s Free = refl
builtin_known s Spawn = refl
builtin_known s Join = refl
builtin_known s Lock = refl
builtin_known s Unlock = refl
builtin_known s Print = refl

module _ (s : Source) (h : Here) where
  abbrev g : Here
  g = guard s h

  -- what follows is the same
  abbrev Same : (ℕ → Marks) → (ℕ → Marks) → Type 0
  Same go on = (x : ℕ) → go x ≡ on x

  -- a value that is converted to a type is one of it
  is_converted : (t u : CType) (x : ℕ) → u ≡ t → is_value (shape_of t) (converted_to t x) ≡ true → is_value (shape_of t) (converted_to u x) ≡ true
  is_converted t u x e h = subst (λ c. is_value (shape_of t) (converted_to c x) ≡ true) (sym e) h

  in_order_same : (w : Sum) (p q i j : (ℕ → Marks) → Marks) (go on : ℕ → ℕ → Marks) → ((a b : ℕ → Marks) → Same a b → p a ≡ q b) → ((a b : ℕ → Marks) → Same a b → i a ≡ j b) → ((x y : ℕ) → go x y ≡ on x y) → in_order w p i go ≡ in_order w q j on
  in_order_same PlusPointer p q i j go on hp hi e = hi (λ y. p (λ x. go x y)) (λ y. q (λ x. on x y)) (λ y. hp (λ x. go x y) (λ x. on x y) (λ x. e x y))
  in_order_same PointerPlus p q i j go on hp hi e = hp (λ x. i (λ y. go x y)) (λ x. j (λ y. on x y)) (λ x. hi (λ y. go x y) (λ y. on x y) (λ y. e x y))
  in_order_same PointerMinus p q i j go on hp hi e = hp (λ x. i (λ y. go x y)) (λ x. j (λ y. on x y)) (λ x. hi (λ y. go x y) (λ y. on x y) (λ y. e x y))

  -- a call of a function by name, and through an address, with values of its parameters' types
  named_same : (f : ℕ) (go on : ℕ → Marks) → is_known s f ≡ true → Same go on → (xs : List ℕ) → are_values (param_shapes s f) xs ≡ true → h.call f xs go ≡ g.call f xs on
  named_same f go on known e xs ok = (λ i. h.call f xs (λ r. e r i)) ∙ sym (cond-true (takes_values s f xs) (h.call f xs on) wrong (and_from (is_known s f) (are_values (param_shapes s f) xs) known ok))

  pointed_same : (t : CType) (a : ℕ) (go on : ℕ → Marks) → Same go on → (xs : List ℕ) → are_values (shapes_of (params_of t)) xs ≡ true → h.call_at t a xs go ≡ g.call_at t a xs on
  pointed_same t a go on e xs ok = (λ i. h.call_at t a xs (λ r. e r i)) ∙ sym (cond-true (are_values (shapes_of (params_of t)) xs) (h.call_at t a xs on) wrong ok)

  mutual
    address_same : (o : Object) (go on : ℕ → Marks) → ObjectPasses s o → Same go on → address o h go ≡ address o g on
    address_same (GlobalObject from place t) go on c e = e (global_address h.source place)
    address_same (LocalObject place t) go on c e = e (local_address h place)
    address_same (TextObject from n) go on c e = e (text_address h.source from)
    address_same (Pointed v t) go on c e = value_same v go on c e
    address_same (Element w p i t) go on c e =
        in_order_same w (value p h) (value p g) (value i h) (value i g) (λ x y. go (summed w x y (size_of h.source t))) (λ x y. on (summed w x y (size_of h.source t)))
        (λ a b d. value_same p a b c.0 d) (λ a b d. value_same i a b c.1 d) (λ x y. e (summed w x y (size_of h.source t)))
    address_same (MemberOf o number t) go on c e =
        address_same o (λ a. go (wrap (a + member_offset h.source (object_type o) number))) (λ a. on (wrap (a + member_offset h.source (object_type o) number))) c (λ a. e (wrap (a + member_offset h.source (object_type o) number)))

    value_same : (v : Value) (go on : ℕ → Marks) → ValuePasses s v → Same go on → value v h go ≡ value v g on
    value_same (Constant k n) go on c e = e (written n)
    value_same (FunctionAddress from number t) go on c e = e (function_address number)
    value_same (ReadOf o) go on c e = address_same o (load h (origin o) (object_type o) go) (load g (origin o) (object_type o) on) c (λ a i. load h (origin o) (object_type o) (λ x. e x i) a)
    value_same (AddressOf o t) go on c e = address_same o go on c e
    value_same (Convert t v) go on c e = value_same v (λ x. go (converted_to t x)) (λ x. on (converted_to t x)) c (λ x. e (converted_to t x))
    value_same (Negate k v) go on c e = value_same v (λ x. go (written (wrapped k (pos 0 -ℤ read k x)))) (λ x. on (written (wrapped k (pos 0 -ℤ read k x)))) c (λ x. e (written (wrapped k (pos 0 -ℤ read k x))))
    value_same (Complement k v) go on c e = value_same v (λ x. go (written (wrapped k (negsuc 0 -ℤ read k x)))) (λ x. on (written (wrapped k (negsuc 0 -ℤ read k x)))) c (λ x. e (written (wrapped k (negsuc 0 -ℤ read k x))))
    value_same (Arithmetic op k a b) go on c e =
        value_same a (λ x. value b h (λ y. or_fault h.side (arith_of op k x y) go)) (λ x. value b g (λ y. or_fault h.side (arith_of op k x y) on)) c.0
        (λ x. value_same b (λ y. or_fault h.side (arith_of op k x y) go) (λ y. or_fault h.side (arith_of op k x y) on) c.1 (λ y i. or_fault h.side (arith_of op k x y) (λ r. e r i)))
    value_same (PointerSum w p i size) go on c e =
        in_order_same w (value p h) (value p g) (value i h) (value i g) (λ x y. go (summed w x y size)) (λ x y. on (summed w x y size))
        (λ a b d. value_same p a b c.0 d) (λ a b d. value_same i a b c.1 d) (λ x y. e (summed w x y size))
    value_same (PointerDifference a b size) go on c e =
        value_same a (λ x. value b h (λ y. or_fault h.side (arith_of Div I64 (written (pos x -ℤ pos y)) size) go)) (λ x. value b g (λ y. or_fault h.side (arith_of Div I64 (written (pos x -ℤ pos y)) size) on)) c.0
        (λ x. value_same b (λ y. or_fault h.side (arith_of Div I64 (written (pos x -ℤ pos y)) size) go) (λ y. or_fault h.side (arith_of Div I64 (written (pos x -ℤ pos y)) size) on) c.1 (λ y i. or_fault h.side (arith_of Div I64 (written (pos x -ℤ pos y)) size) (λ r. e r i)))
    value_same (PointerComparison op a b) go on c e =
        value_same a (λ x. value b h (λ y. or_fault h.side (arith_of op U64 x y) go)) (λ x. value b g (λ y. or_fault h.side (arith_of op U64 x y) on)) c.0
        (λ x. value_same b (λ y. or_fault h.side (arith_of op U64 x y) go) (λ y. or_fault h.side (arith_of op U64 x y) on) c.1 (λ y i. or_fault h.side (arith_of op U64 x y) (λ r. e r i)))
    value_same (Not v) go on c e = value_same v (λ x. go (at_zero x 1 0)) (λ x. on (at_zero x 1 0)) c (λ x. e (at_zero x 1 0))
    value_same (Both a b) go on c e =
        value_same a (λ x. at_zero x (go 0) (value b h (λ y. go (truth y)))) (λ x. at_zero x (on 0) (value b g (λ y. on (truth y)))) c.0
        (λ x i. at_zero x (e 0 i) (value_same b (λ y. go (truth y)) (λ y. on (truth y)) c.1 (λ y. e (truth y)) i))
    value_same (Either a b) go on c e =
        value_same a (λ x. at_zero x (value b h (λ y. go (truth y))) (go 1)) (λ x. at_zero x (value b g (λ y. on (truth y))) (on 1)) c.0
        (λ x i. at_zero x (value_same b (λ y. go (truth y)) (λ y. on (truth y)) c.1 (λ y. e (truth y)) i) (e 1 i))
    value_same (Choice t a b) go on c e =
        value_same t (λ x. at_zero x (value b h go) (value a h go)) (λ x. at_zero x (value b g on) (value a g on)) c.0
        (λ x i. at_zero x (value_same b go on c.2 e i) (value_same a go on c.1 e i))
    value_same (Sequence a b) go on c e = value_same a (λ x. value b h go) (λ x. value b g on) c.0 (λ x. value_same b go on c.1 e)
    value_same (Assigned o v) go on c e =
        address_same o (λ a. value v h (λ x. store h (origin o) (object_type o) a x (go x))) (λ a. value v g (λ x. store g (origin o) (object_type o) a x (on x))) c.0
        (λ a. value_same v (λ x. store h (origin o) (object_type o) a x (go x)) (λ x. store g (origin o) (object_type o) a x (on x)) c.1 (λ x i. store h (origin o) (object_type o) a x (e x i)))
    value_same (Changed o op k v) go on c e =
        let t = object_type o in
        let put : (ℕ → Marks) → ℕ → ℕ → Marks = λ p a r. store h (origin o) t a (converted (kind_of t) r) (p (converted (kind_of t) r)) in
        let change : (old a : ℕ) → value v h (λ y. or_fault h.side (arith_of op k (converted k old) y) (put go a)) ≡ value v g (λ y. or_fault h.side (arith_of op k (converted k old) y) (put on a)) =
        λ old a. value_same v (λ y. or_fault h.side (arith_of op k (converted k old) y) (put go a)) (λ y. or_fault h.side (arith_of op k (converted k old) y) (put on a)) c.1
        (λ y i. or_fault h.side (arith_of op k (converted k old) y) (λ r. store h (origin o) t a (converted (kind_of t) r) (e (converted (kind_of t) r) i))) in
        address_same o (λ a. fetch h (origin o) t (λ old. value v h (λ y. or_fault h.side (arith_of op k (converted k old) y) (put go a))) a) (λ a. fetch g (origin o) t (λ old. value v g (λ y. or_fault h.side (arith_of op k (converted k old) y) (put on a))) a) c.0
        (λ a i. fetch h (origin o) t (λ old. change old a i) a)
    value_same (Moved o w i size) go on c e =
        let t = object_type o in
        let change : (old a : ℕ) → value i h (λ y. store h (origin o) t a (moved_by w old y size) (go (moved_by w old y size))) ≡ value i g (λ y. store g (origin o) t a (moved_by w old y size) (on (moved_by w old y size))) =
        λ old a. value_same i (λ y. store h (origin o) t a (moved_by w old y size) (go (moved_by w old y size))) (λ y. store g (origin o) t a (moved_by w old y size) (on (moved_by w old y size))) c.1
        (λ y j. store h (origin o) t a (moved_by w old y size) (e (moved_by w old y size) j)) in
        address_same o (λ a. fetch h (origin o) t (λ old. value i h (λ y. store h (origin o) t a (moved_by w old y size) (go (moved_by w old y size)))) a) (λ a. fetch g (origin o) t (λ old. value i g (λ y. store g (origin o) t a (moved_by w old y size) (on (moved_by w old y size)))) a) c.0
        (λ a j. fetch h (origin o) t (λ old. change old a j) a)
    value_same (Stepped o w v size) go on c e =
        let t = object_type o in
        let new : ℕ → ℕ = λ old. converted (kind_of t) (stepped_by w old size) in
        address_same o (λ a. fetch h (origin o) t (λ old. store h (origin o) t a (new old) (go (given v old (new old)))) a) (λ a. fetch g (origin o) t (λ old. store g (origin o) t a (new old) (on (given v old (new old)))) a) c
        (λ a i. fetch h (origin o) t (λ old. store h (origin o) t a (new old) (e (given v old (new old)) i)) a)
    value_same (CallOf (SourceFunction from number) vs t) go on c e =
        values_same (params_of (type_of s number)) vs (λ xs. h.call number xs go) (λ xs. g.call number xs on) c.1 c.2.1 (named_same number go on c.2.0 e)
    value_same (CallOf (BuiltinFunction from b) vs t) go on c e =
        values_same (params_of (type_of s (number_of b))) vs (λ xs. h.call (number_of b) xs go) (λ xs. g.call (number_of b) xs on) c.1 c.2.1 (named_same (number_of b) go on (builtin_known s b) e)
    value_same (CallOf (Through v) vs t) go on c e =
        let u = target (value_type v) in
        value_same v (λ a. values vs h (λ xs. h.call_at u a xs go)) (λ a. values vs g (λ xs. g.call_at u a xs on)) c.0
        (λ a. values_same (params_of u) vs (λ xs. h.call_at u a xs go) (λ xs. g.call_at u a xs on) c.1 c.2.1 (pointed_same u a go on e))

    -- arguments are values of the types
    values_same : (ts : CTypes) (vs : Values) (go on : List ℕ → Marks) → ValuesPass s vs → AreConverted ts vs → ((xs : List ℕ) → are_values (shapes_of ts) xs ≡ true → go xs ≡ on xs) → values vs h go ≡ values vs g on
    values_same NoTypes NoValues go on c k e = e [] refl
    values_same NoTypes (MoreValues v vs) go on c k e = absurd k
    values_same (MoreTypes t ts) NoValues go on c k e = absurd k
    values_same (MoreTypes t ts) (MoreValues (Convert u v) vs) go on c k e =
        value_same v (λ x. values vs h (λ xs. go (converted_to u x ∷ xs))) (λ x. values vs g (λ xs. on (converted_to u x ∷ xs))) c.0
        (λ x. values_same ts vs (λ xs. go (converted_to u x ∷ xs)) (λ xs. on (converted_to u x ∷ xs)) c.1 k.1
        (λ xs ok. e (converted_to u x ∷ xs) (and_from (is_value (shape_of t) (converted_to u x)) (are_values (shapes_of ts) xs) (is_converted t u x k.0.0 (converted_is_value t x k.0.1)) ok)))
    values_same (MoreTypes t ts) (MoreValues v vs) go on c k e = absurd k.0

  maybe_same : (v : MaybeValue) (go on : ℕ → Marks) (none : Marks) → MaybePasses s v → Same go on → maybe v h go none ≡ maybe v g on none
  maybe_same NoValue go on none c e = refl
  maybe_same (OneValue v) go on none c e = value_same v go on c e

  mutual
    statement_same : (z : Statement) (x : Exits) → StatementPasses s z → statement z h x ≡ statement z g x
    statement_same (Block zs) x c = statements_same zs x c
    statement_same (Evaluate v) x c = value_same v (λ n. x.next) (λ n. x.next) c (λ n. refl)
    statement_same (Initialise place t v) x c = value_same v (λ n. store h None t (local_address h place) n x.next) (λ n. store g None t (local_address g place) n x.next) c (λ n. refl)
    statement_same (If v z) x c = value_same v (λ n. at_zero n x.next (statement z h x)) (λ n. at_zero n x.next (statement z g x)) c.0 (λ n i. at_zero n x.next (statement_same z x c.1 i))
    statement_same (IfElse v y z) x c = value_same v (λ n. at_zero n (statement z h x) (statement y h x)) (λ n. at_zero n (statement z g x) (statement y g x)) c.0 (λ n i. at_zero n (statement_same z x c.2 i) (statement_same y x c.1 i))
    statement_same (While from v z) x c =
        let round : (again : Marks) → value v h (λ n. at_zero n x.next (statement z h (within x again))) ≡ value v g (λ n. at_zero n x.next (statement z g (within x again))) =
        λ again. value_same v (λ n. at_zero n x.next (statement z h (within x again))) (λ n. at_zero n x.next (statement z g (within x again))) c.0 (λ n i. at_zero n x.next (statement_same z (within x again) c.1 i)) in
        λ i. looping h.side (λ again. round again i)
    statement_same (Do from z v) x c =
        let ends : (again : Marks) → value v h (λ n. at_zero n x.next again) ≡ value v g (λ n. at_zero n x.next again) = λ again. value_same v (λ n. at_zero n x.next again) (λ n. at_zero n x.next again) c.1 (λ n. refl) in
        let round : (again : Marks) → statement z h (within x (value v h (λ n. at_zero n x.next again))) ≡ statement z g (within x (value v g (λ n. at_zero n x.next again))) =
        λ again. statement_same z (within x (value v h (λ n. at_zero n x.next again))) c.0 ∙ ap (λ p. statement z g (within x p)) (ends again) in
        λ i. looping h.side (λ again. round again i)
    statement_same (For from first v last z) x c =
        let body : (again : Marks) → statement z h (within x (maybe last h (λ n. again) again)) ≡ statement z g (within x (maybe last g (λ n. again) again)) =
        λ again. statement_same z (within x (maybe last h (λ n. again) again)) c.3 ∙ ap (λ p. statement z g (within x p)) (maybe_same last (λ n. again) (λ n. again) again c.2 (λ n. refl)) in
        let one : Here → Marks → Marks = λ k again. let b = statement z k (within x (maybe last k (λ n. again) again)) in maybe v k (λ n. at_zero n x.next b) b in
        let round : (again : Marks) → one h again ≡ one g again =
        λ again. maybe_same v (λ n. at_zero n x.next (statement z h (within x (maybe last h (λ n. again) again)))) (λ n. at_zero n x.next (statement z h (within x (maybe last h (λ n. again) again)))) (statement z h (within x (maybe last h (λ n. again) again))) c.1 (λ n. refl)
        ∙ ap (λ b. maybe v g (λ n. at_zero n x.next b) b) (body again) in
        let looped : looping h.side (one h) ≡ looping h.side (one g) = λ i. looping h.side (λ again. round again i) in
        statements_same first (record x { next = looping h.side (one h) }) c.0 ∙ ap (λ p. statements first g (record x { next = p })) looped
    statement_same Break x c = refl
    statement_same Continue x c = refl
    statement_same (Return from v) x c = maybe_same v x.give x.give (x.give 0) c (λ n. refl)

    statements_same : (zs : Statements) (x : Exits) → StatementsPass s zs → statements zs h x ≡ statements zs g x
    statements_same NoStatements x c = refl
    statements_same (MoreStatements z zs) x c =
        statement_same z (record x { next = statements zs h x }) c.0 ∙ ap (λ p. statement z g (record x { next = p })) (statements_same zs x c.1)

-- a body makes the same marks
pub guarded_same : (s : Source) (f : ℕ) (h : Here) (go : ℕ → Marks) → ArgumentsAreConverted s → making s (body_of s f) h go ≡ making s (body_of s f) (guard s h) go
guarded_same s f h go r = by (body_of s f) refl
  where
    by : (o : Option Body) → body_of s f ≡ o → making s o h go ≡ making s o (guard s h) go
    by None e = refl
    by (Some b) e = statement_same s h b.statements _ (r f b e)
