-- Expressions want what they mention.
use Rattle.std.proofs.Common.{◌≡◌, ℕ, ◌+◌, ◌-ℤ◌, ◌≤◌, pos, negsuc, Bool, false, List, [], ◌∷◌, ◌++◌, Option, Some, arith}
use Rattle.r2_num.specs.declared.kinds.IntKind.TheVariants.{I64, U64}
use Rattle.r2_num.specs.declared.operations.Op.TheVariants.{Div}
use Rattle.r2_num.specs.Conversions.{wrapped}
use Rattle.marks.specs.declared.side.Side.{Side}
use Rattle.marks.specs.Places.{function_address}
use Rattle.marks.specs.Ranges.{bytes_of_number}
use Rattle.marks.specs.Wants.{Loads, Stores}
use Rattle.c_code.specs.Values.{arith_of, at_zero, converted, read, written}
use Rattle.c_types_model.specs.Types.{CType}
use Rattle.c_builtins.specs.Table.{number_of}
use Rattle.c_types_rules.specs.TypedTree.{Object, Value, Values, Callee, Sum, PointerPlus, PlusPointer, PointerMinus, GlobalObject, LocalObject, TextObject, Pointed, Element, MemberOf, Constant, FunctionAddress, ReadOf, AddressOf, Convert, Negate, Complement, Arithmetic, PointerSum, PointerDifference, PointerComparison, Not, Both, Either, Choice, Sequence, Assigned, Changed, Moved, Stepped, CallOf, NoValues, MoreValues, SourceFunction, BuiltinFunction, Through, object_type, value_type}
use Rattle.c_semantics.specs.Reading.{Marks, or_fault, with_any}
use Rattle.c_semantics.specs.Context.{Source, global_address, text_address, size_of, member_offset, kind_of, is_face}
use Rattle.c_semantics.specs.Values.{Here, address, called, changing, converted_to, given, fetch, in_order, is_read, load, local_address, moved_by, origin, stepped_by, store, summed, target, truth, value, values, width, wrap}
use Rattle.cut_graph_rules.specs.declared.mention.Mention.{Mention}
use Rattle.cut_graph_rules.specs.Mentions.{callee_mentions, object_mentions, root_written, value_mentions, values_mentions, written_at, written_under}
use Rattle.cut_graph_laws.specs.Granted.{Permits, called_side}
use Rattle.cut_graph_laws.proofs.Mentioned.{AllGranted, left, right, may_call, may_touch, may_write}
use Rattle.cut_graph_laws.proofs.Sound.{Cuts, Sound, any_given, asks_plain, at_zero_sound, cond_sound, fewer, or_fault_sound}

-- what calls make
pub record Makes : Type 0 where
  pub call : (func : ℕ) → (args : List ℕ) → (ℕ → Marks) → Marks
  pub call_at : CType → (address : ℕ) → (args : List ℕ) → (ℕ → Marks) → Marks

-- the same place, with other calls
abbrev pub making_calls : Here → Makes → Here
making_calls h m = record h { call = m.call; call_at = m.call_at }

module _ (s : Source) (p : Permits) (C : Type 0) where
  abbrev S : ℕ → Marks → Marks → Type 0
  S k a b = Sound s p C k a b

  abbrev On : ℕ → (ℕ → Marks) → (ℕ → Marks) → Type 0
  On k go on = Cuts s p C k go on

  abbrev Ok : Side → List Mention → Type 0
  Ok side ms = AllGranted s p C side ms

  -- calls make what is sound where what follows them is, and where what is called by its name may run there
  pub record CallsSound (k : ℕ) (h : Here) (m : Makes) : Type 0 where
    pub named : (j : ℕ) → j ≤ k → (f : ℕ) → (C → p.may (called_side h.side (is_face s f)) f) → (args : List ℕ) (go on : ℕ → Marks) → On j go on → S j (h.call f args go) (m.call f args on)
    pub pointed : (j : ℕ) → j ≤ k → (t : CType) (a : ℕ) (args : List ℕ) (go on : ℕ → Marks) → On j go on → S j (h.call_at t a args go) (m.call_at t a args on)

  pub fewer_calls : (j k : ℕ) (h : Here) (m : Makes) → j ≤ k → CallsSound k h m → CallsSound j h m
  fewer_calls j k h m le c = record {
    named = λ i li. c.named i (omega arith);
    pointed = λ i li. c.pointed i (omega arith);
  }

  -- the path may be touched, and written
  abbrev MayTouch : Side → Option ℕ → Type 0
  MayTouch side o = C → (g : ℕ) → o ≡ Some g → p.touches side g

  abbrev MayWrite : Side → Option ℕ → Type 0
  MayWrite side o = C → (g : ℕ) → o ≡ Some g → p.writes side g

  fetch_sound : (k : ℕ) (h : Here) (m : Makes) (o : Option ℕ) (t : CType) (go on : ℕ → Marks) → MayTouch h.side o → On k go on → On k (fetch h o t go) (fetch (making_calls h m) o t on)
  fetch_sound k h m o t go on ok c a =
      asks_plain s p C k h.side (Loads o a (width t)) ok (with_any (λ v. go (converted (kind_of t) v))) (with_any (λ v. on (converted (kind_of t) v)))
      (λ x j lt. any_given s p C j (λ v. go (converted (kind_of t) v)) (λ v. on (converted (kind_of t) v)) (λ v. fewer s p C j k (go (converted (kind_of t) v)) (on (converted (kind_of t) v)) (omega arith) (c (converted (kind_of t) v))) x)

  load_sound : (k : ℕ) (h : Here) (m : Makes) (o : Option ℕ) (t : CType) (go on : ℕ → Marks) → MayTouch h.side o → On k go on → On k (load h o t go) (load (making_calls h m) o t on)
  load_sound k h m o t go on ok c a = cond_sound s p C k (is_read t) (fetch h o t go a) (fetch (making_calls h m) o t on a) (go a) (on a) (fetch_sound k h m o t go on ok c a) (c a)

  pub store_sound : (k : ℕ) (h : Here) (m : Makes) (o : Option ℕ) (t : CType) (a v : ℕ) (go on : Marks) → MayTouch h.side o → MayWrite h.side o → S k go on → S k (store h o t a v go) (store (making_calls h m) o t a v on)
  store_sound k h m o t a v go on touch write c =
      asks_plain s p C k h.side (Stores o a (bytes_of_number (width t) v)) (λ x g e. (touch x g e, write x g e)) (λ x. go) (λ x. on) (λ x j lt. fewer s p C j k go on (omega arith) c)

  -- what makes a value is sound where what follows the value is
  abbrev Carries : ℕ → ((ℕ → Marks) → Marks) → ((ℕ → Marks) → Marks) → Type 0
  Carries k f g = (go on : ℕ → Marks) → On k go on → S k (f go) (g on)

  in_order_sound : (k : ℕ) (w : Sum) (a b i j : (ℕ → Marks) → Marks) (go on : ℕ → ℕ → Marks) → Carries k a b → Carries k i j → ((x y : ℕ) → S k (go x y) (on x y)) → S k (in_order w a i go) (in_order w b j on)
  in_order_sound k PointerPlus a b i j go on ca ci c = ca (λ x. i (λ y. go x y)) (λ x. j (λ y. on x y)) (λ x. ci (λ y. go x y) (λ y. on x y) (λ y. c x y))
  in_order_sound k PlusPointer a b i j go on ca ci c = ci (λ y. a (λ x. go x y)) (λ y. b (λ x. on x y)) (λ y. ca (λ x. go x y) (λ x. on x y) (λ x. c x y))
  in_order_sound k PointerMinus a b i j go on ca ci c = ca (λ x. i (λ y. go x y)) (λ x. j (λ y. on x y)) (λ x. ci (λ y. go x y) (λ y. on x y) (λ y. c x y))

  changing_sound : (k : ℕ) (h : Here) (m : Makes) (o : Object) (a b : (ℕ → Marks) → Marks) (f g : ℕ → (ℕ → Marks) → Marks) (go on : ℕ → Marks)
      → MayTouch h.side (origin o) → MayWrite h.side (origin o) → Carries k a b → ((old : ℕ) → Carries k (f old) (g old)) → On k go on → S k (changing h o a f go) (changing (making_calls h m) o b g on)
  changing_sound k h m o a b f g go on touch write ca cf c =
      let t = object_type o in
      let then : (x old : ℕ) → S k (f old (λ new. store h (origin o) t x new (go new))) (g old (λ new. store (making_calls h m) (origin o) t x new (on new))) =
      λ x old. cf old (λ new. store h (origin o) t x new (go new)) (λ new. store (making_calls h m) (origin o) t x new (on new)) (λ new. store_sound k h m (origin o) t x new (go new) (on new) touch write (c new)) in
      ca (λ x. fetch h (origin o) t (λ old. f old (λ new. store h (origin o) t x new (go new))) x) (λ x. fetch (making_calls h m) (origin o) t (λ old. g old (λ new. store (making_calls h m) (origin o) t x new (on new))) x)
      (λ x. fetch_sound k h m (origin o) t (λ old. f old (λ new. store h (origin o) t x new (go new))) (λ old. g old (λ new. store (making_calls h m) (origin o) t x new (on new))) touch (then x) x)

  -- for a list of values
  abbrev OnList : ℕ → (List ℕ → Marks) → (List ℕ → Marks) → Type 0
  OnList k go on = (vs : List ℕ) → S k (go vs) (on vs)

  -- of what is assigned to or changed
  abbrev changed_parts : Bool → Object → List Mention
  changed_parts n o = root_written o ++ object_mentions n o

  touch_changed : (side : Side) (n : Bool) (o : Object) → Ok side (changed_parts n o) → MayTouch side (origin o)
  touch_changed side n o ok = may_touch s p C side n o (right s p C side (root_written o) (object_mentions n o) ok)

  write_changed : (side : Side) (n : Bool) (o : Object) → Ok side (changed_parts n o) → MayWrite side (origin o)
  write_changed side n o ok = may_write s p C side o (left s p C side (root_written o) (object_mentions n o) ok)

  -- of two values
  one : (side : Side) (n : Bool) (a b : Value) → Ok side (value_mentions n n a ++ value_mentions n n b) → Ok side (value_mentions n n a)
  one side n a b ok = left s p C side (value_mentions n n a) (value_mentions n n b) ok

  two : (side : Side) (n : Bool) (a b : Value) → Ok side (value_mentions n n a ++ value_mentions n n b) → Ok side (value_mentions n n b)
  two side n a b ok = right s p C side (value_mentions n n a) (value_mentions n n b) ok

  mutual
    pub address_sound : (o : Object) (n : Bool) (k : ℕ) (h : Here) (m : Makes) (go on : ℕ → Marks) → Ok h.side (object_mentions n o) → CallsSound k h m → On k go on → S k (address o h go) (address o (making_calls h m) on)
    address_sound (GlobalObject from place t) n k h m go on ok cs c = c (global_address h.source place)
    address_sound (LocalObject place t) n k h m go on ok cs c = c (local_address h place)
    address_sound (TextObject from l) n k h m go on ok cs c = c (text_address h.source from)
    address_sound (Pointed v t) n k h m go on ok cs c = value_sound v n n k h m go on ok cs c
    address_sound (Element w q i t) n k h m go on ok cs c =
        let first = left s p C h.side (value_mentions false n q) (value_mentions n n i) ok in
        let second = right s p C h.side (value_mentions false n q) (value_mentions n n i) ok in
        in_order_sound k w (value q h) (value q (making_calls h m)) (value i h) (value i (making_calls h m)) (λ x y. go (summed w x y (size_of h.source t))) (λ x y. on (summed w x y (size_of h.source t)))
        (λ f g d. value_sound q false n k h m f g first cs d) (λ f g d. value_sound i n n k h m f g second cs d) (λ x y. c (summed w x y (size_of h.source t)))
    address_sound (MemberOf o number t) n k h m go on ok cs c =
        address_sound o n k h m (λ a. go (wrap (a + member_offset h.source (object_type o) number))) (λ a. on (wrap (a + member_offset h.source (object_type o) number))) ok cs (λ a. c (wrap (a + member_offset h.source (object_type o) number)))

    -- `l` says whether the value stands alone, `n` whether an array's name that does counts
    pub value_sound : (v : Value) (l n : Bool) (k : ℕ) (h : Here) (m : Makes) (go on : ℕ → Marks) → Ok h.side (value_mentions l n v) → CallsSound k h m → On k go on → S k (value v h go) (value v (making_calls h m) on)
    value_sound (Constant kind c) l n k h m go on ok cs d = d (written c)
    value_sound (FunctionAddress from number t) l n k h m go on ok cs c = c (function_address number)
    value_sound (ReadOf o) l n k h m go on ok cs c = address_sound o n k h m (load h (origin o) (object_type o) go) (load (making_calls h m) (origin o) (object_type o) on) ok cs (load_sound k h m (origin o) (object_type o) go on (may_touch s p C h.side n o ok) c)
    value_sound (AddressOf o t) l n k h m go on ok cs c = address_sound o n k h m go on (right s p C h.side (written_at (written_under l o t)) (object_mentions n o) ok) cs c
    value_sound (Convert t v) l n k h m go on ok cs c = value_sound v n n k h m (λ x. go (converted_to t x)) (λ x. on (converted_to t x)) ok cs (λ x. c (converted_to t x))
    value_sound (Negate kind v) l n k h m go on ok cs c = value_sound v n n k h m (λ x. go (written (wrapped kind (pos 0 -ℤ read kind x)))) (λ x. on (written (wrapped kind (pos 0 -ℤ read kind x)))) ok cs (λ x. c (written (wrapped kind (pos 0 -ℤ read kind x))))
    value_sound (Complement kind v) l n k h m go on ok cs c = value_sound v n n k h m (λ x. go (written (wrapped kind (negsuc 0 -ℤ read kind x)))) (λ x. on (written (wrapped kind (negsuc 0 -ℤ read kind x)))) ok cs (λ x. c (written (wrapped kind (negsuc 0 -ℤ read kind x))))
    value_sound (Arithmetic op kind a b) l n k h m go on ok cs c =
        value_sound a n n k h m (λ x. value b h (λ y. or_fault h.side (arith_of op kind x y) go)) (λ x. value b (making_calls h m) (λ y. or_fault h.side (arith_of op kind x y) on)) (one h.side n a b ok) cs
        (λ x. value_sound b n n k h m (λ y. or_fault h.side (arith_of op kind x y) go) (λ y. or_fault h.side (arith_of op kind x y) on) (two h.side n a b ok) cs (λ y. or_fault_sound s p C k h.side (arith_of op kind x y) go on c))
    value_sound (PointerSum w q i size) l n k h m go on ok cs c =
        in_order_sound k w (value q h) (value q (making_calls h m)) (value i h) (value i (making_calls h m)) (λ x y. go (summed w x y size)) (λ x y. on (summed w x y size))
        (λ f g d. value_sound q n n k h m f g (one h.side n q i ok) cs d) (λ f g d. value_sound i n n k h m f g (two h.side n q i ok) cs d) (λ x y. c (summed w x y size))
    value_sound (PointerDifference a b size) l n k h m go on ok cs c =
        value_sound a n n k h m (λ x. value b h (λ y. or_fault h.side (arith_of Div I64 (written (pos x -ℤ pos y)) size) go)) (λ x. value b (making_calls h m) (λ y. or_fault h.side (arith_of Div I64 (written (pos x -ℤ pos y)) size) on)) (one h.side n a b ok) cs
        (λ x. value_sound b n n k h m (λ y. or_fault h.side (arith_of Div I64 (written (pos x -ℤ pos y)) size) go) (λ y. or_fault h.side (arith_of Div I64 (written (pos x -ℤ pos y)) size) on) (two h.side n a b ok) cs (λ y. or_fault_sound s p C k h.side (arith_of Div I64 (written (pos x -ℤ pos y)) size) go on c))
    value_sound (PointerComparison op a b) l n k h m go on ok cs c =
        value_sound a n n k h m (λ x. value b h (λ y. or_fault h.side (arith_of op U64 x y) go)) (λ x. value b (making_calls h m) (λ y. or_fault h.side (arith_of op U64 x y) on)) (one h.side n a b ok) cs
        (λ x. value_sound b n n k h m (λ y. or_fault h.side (arith_of op U64 x y) go) (λ y. or_fault h.side (arith_of op U64 x y) on) (two h.side n a b ok) cs (λ y. or_fault_sound s p C k h.side (arith_of op U64 x y) go on c))
    value_sound (Not v) l n k h m go on ok cs c = value_sound v n n k h m (λ x. go (at_zero x 1 0)) (λ x. on (at_zero x 1 0)) ok cs (λ x. c (at_zero x 1 0))
    value_sound (Both a b) l n k h m go on ok cs c =
        value_sound a n n k h m (λ x. at_zero x (go 0) (value b h (λ y. go (truth y)))) (λ x. at_zero x (on 0) (value b (making_calls h m) (λ y. on (truth y)))) (one h.side n a b ok) cs
        (λ x. at_zero_sound s p C k x (go 0) (on 0) (value b h (λ y. go (truth y))) (value b (making_calls h m) (λ y. on (truth y))) (c 0) (value_sound b n n k h m (λ y. go (truth y)) (λ y. on (truth y)) (two h.side n a b ok) cs (λ y. c (truth y))))
    value_sound (Either a b) l n k h m go on ok cs c =
        value_sound a n n k h m (λ x. at_zero x (value b h (λ y. go (truth y))) (go 1)) (λ x. at_zero x (value b (making_calls h m) (λ y. on (truth y))) (on 1)) (one h.side n a b ok) cs
        (λ x. at_zero_sound s p C k x (value b h (λ y. go (truth y))) (value b (making_calls h m) (λ y. on (truth y))) (go 1) (on 1) (value_sound b n n k h m (λ y. go (truth y)) (λ y. on (truth y)) (two h.side n a b ok) cs (λ y. c (truth y))) (c 1))
    value_sound (Choice t a b) l n k h m go on ok cs c =
        let arms = right s p C h.side (value_mentions n n t) (value_mentions n n a ++ value_mentions n n b) ok in
        value_sound t n n k h m (λ x. at_zero x (value b h go) (value a h go)) (λ x. at_zero x (value b (making_calls h m) on) (value a (making_calls h m) on)) (left s p C h.side (value_mentions n n t) (value_mentions n n a ++ value_mentions n n b) ok) cs
        (λ x. at_zero_sound s p C k x (value b h go) (value b (making_calls h m) on) (value a h go) (value a (making_calls h m) on) (value_sound b n n k h m go on (two h.side n a b arms) cs c) (value_sound a n n k h m go on (one h.side n a b arms) cs c))
    value_sound (Sequence a b) l n k h m go on ok cs c = value_sound a n n k h m (λ x. value b h go) (λ x. value b (making_calls h m) on) (one h.side n a b ok) cs (λ x. value_sound b n n k h m go on (two h.side n a b ok) cs c)
    value_sound (Assigned o v) l n k h m go on ok cs c =
        let place = left s p C h.side (changed_parts n o) (value_mentions n n v) ok in
        let given = right s p C h.side (changed_parts n o) (value_mentions n n v) ok in
        address_sound o n k h m (λ a. value v h (λ x. store h (origin o) (object_type o) a x (go x))) (λ a. value v (making_calls h m) (λ x. store (making_calls h m) (origin o) (object_type o) a x (on x))) (right s p C h.side (root_written o) (object_mentions n o) place) cs
        (λ a. value_sound v n n k h m (λ x. store h (origin o) (object_type o) a x (go x)) (λ x. store (making_calls h m) (origin o) (object_type o) a x (on x)) given cs
        (λ x. store_sound k h m (origin o) (object_type o) a x (go x) (on x) (touch_changed h.side n o place) (write_changed h.side n o place) (c x)))
    value_sound (Changed o op kind v) l n k h m go on ok cs c =
        let place = left s p C h.side (changed_parts n o) (value_mentions n n v) ok in
        let given = right s p C h.side (changed_parts n o) (value_mentions n n v) ok in
        changing_sound k h m o (address o h) (address o (making_calls h m)) (λ old next. value v h (λ y. or_fault h.side (arith_of op kind (converted kind old) y) (λ r. next (converted (kind_of (object_type o)) r)))) (λ old next. value v (making_calls h m) (λ y. or_fault h.side (arith_of op kind (converted kind old) y) (λ r. next (converted (kind_of (object_type o)) r)))) go on
        (touch_changed h.side n o place) (write_changed h.side n o place)
        (λ f g d. address_sound o n k h m f g (right s p C h.side (root_written o) (object_mentions n o) place) cs d)
        (λ old f g d. value_sound v n n k h m (λ y. or_fault h.side (arith_of op kind (converted kind old) y) (λ r. f (converted (kind_of (object_type o)) r))) (λ y. or_fault h.side (arith_of op kind (converted kind old) y) (λ r. g (converted (kind_of (object_type o)) r))) given cs
        (λ y. or_fault_sound s p C k h.side (arith_of op kind (converted kind old) y) (λ r. f (converted (kind_of (object_type o)) r)) (λ r. g (converted (kind_of (object_type o)) r)) (λ r. d (converted (kind_of (object_type o)) r))))
        c
    value_sound (Moved o w i size) l n k h m go on ok cs c =
        let place = left s p C h.side (changed_parts n o) (value_mentions n n i) ok in
        let given = right s p C h.side (changed_parts n o) (value_mentions n n i) ok in
        changing_sound k h m o (address o h) (address o (making_calls h m)) (λ old next. value i h (λ y. next (moved_by w old y size))) (λ old next. value i (making_calls h m) (λ y. next (moved_by w old y size))) go on
        (touch_changed h.side n o place) (write_changed h.side n o place)
        (λ f g d. address_sound o n k h m f g (right s p C h.side (root_written o) (object_mentions n o) place) cs d)
        (λ old f g d. value_sound i n n k h m (λ y. f (moved_by w old y size)) (λ y. g (moved_by w old y size)) given cs (λ y. d (moved_by w old y size)))
        c
    value_sound (Stepped o w g size) l n k h m go on ok cs c =
        let t = object_type o in
        let new : ℕ → ℕ = λ old. converted (kind_of t) (stepped_by w old size) in
        address_sound o n k h m (λ a. fetch h (origin o) t (λ old. store h (origin o) t a (new old) (go (given g old (new old)))) a) (λ a. fetch (making_calls h m) (origin o) t (λ old. store (making_calls h m) (origin o) t a (new old) (on (given g old (new old)))) a) (right s p C h.side (root_written o) (object_mentions n o) ok) cs
        (λ a. fetch_sound k h m (origin o) t (λ old. store h (origin o) t a (new old) (go (given g old (new old)))) (λ old. store (making_calls h m) (origin o) t a (new old) (on (given g old (new old)))) (touch_changed h.side n o ok)
        (λ old. store_sound k h m (origin o) t a (new old) (go (given g old (new old))) (on (given g old (new old))) (touch_changed h.side n o ok) (write_changed h.side n o ok) (c (given g old (new old)))) a)
    value_sound (CallOf f vs t) l n k h m go on ok cs c =
        called_sound f n k h m (λ call. values vs h (λ xs. call xs go)) (λ call. values vs (making_calls h m) (λ xs. call xs on)) (left s p C h.side (callee_mentions n f) (values_mentions n vs) ok) cs
        (λ call then d. values_sound vs n k h m (λ xs. call xs go) (λ xs. then xs on) (right s p C h.side (callee_mentions n f) (values_mentions n vs) ok) cs (λ xs. d xs go on c))

    pub values_sound : (vs : Values) (n : Bool) (k : ℕ) (h : Here) (m : Makes) (go on : List ℕ → Marks) → Ok h.side (values_mentions n vs) → CallsSound k h m → OnList k go on → S k (values vs h go) (values vs (making_calls h m) on)
    values_sound NoValues n k h m go on ok cs c = c []
    values_sound (MoreValues v vs) n k h m go on ok cs c =
        value_sound v n n k h m (λ x. values vs h (λ xs. go (x ∷ xs))) (λ x. values vs (making_calls h m) (λ xs. on (x ∷ xs))) (left s p C h.side (value_mentions n n v) (values_mentions n vs) ok) cs
        (λ x. values_sound vs n k h m (λ xs. go (x ∷ xs)) (λ xs. on (x ∷ xs)) (right s p C h.side (value_mentions n n v) (values_mentions n vs) ok) cs (λ xs. c (x ∷ xs)))

    pub called_sound : (f : Callee) (n : Bool) (k : ℕ) (h : Here) (m : Makes) (go on : (List ℕ → (ℕ → Marks) → Marks) → Marks) → Ok h.side (callee_mentions n f) → CallsSound k h m
        → ((a b : List ℕ → (ℕ → Marks) → Marks) → ((xs : List ℕ) (q r : ℕ → Marks) → On k q r → S k (a xs q) (b xs r)) → S k (go a) (on b)) → S k (called f h go) (called f (making_calls h m) on)
    called_sound (SourceFunction from number) n k h m go on ok cs c = c (h.call number) (m.call number) (λ xs q r d. cs.named k (omega arith) number (may_call s p C h.side number ok) xs q r d)
    called_sound (BuiltinFunction from b) n k h m go on ok cs c = c (h.call (number_of b)) (m.call (number_of b)) (λ xs q r d. cs.named k (omega arith) (number_of b) (may_call s p C h.side (number_of b) ok) xs q r d)
    called_sound (Through v) n k h m go on ok cs c =
        value_sound v n n k h m (λ a. go (h.call_at (target (value_type v)) a)) (λ a. on (m.call_at (target (value_type v)) a)) ok cs (λ a. c (h.call_at (target (value_type v)) a) (m.call_at (target (value_type v)) a) (λ xs q r d. cs.pointed k (omega arith) (target (value_type v)) a xs q r d))
