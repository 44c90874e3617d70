-- A right list of an expression's marks stays right when it is cut short.
use Rattle.std.proofs.Common.{ℕ, ◌+◌, ◌-ℤ◌, pos, negsuc, List, [], ◌∷◌, Option}
use Rattle.r2_num.specs.declared.kinds.IntKind.TheVariants.{I64, U64}
use Rattle.r2_num.specs.declared.operations.Op.TheVariants.{Div}
use Rattle.r2_num.specs.Conversions.{wrapped}
use Rattle.marks.specs.Places.{function_address}
use Rattle.marks.specs.Ranges.{bytes_of_number}
use Rattle.marks.specs.Wants.{Loads, Stores}
use Rattle.c_code.specs.Values.{arith_of, at_zero, converted, read, written}
use Rattle.c_types_model.specs.Types.{CType}
use Rattle.c_builtins.specs.Table.{number_of}
use Rattle.c_types_rules.specs.TypedTree.{Object, Value, Values, Callee, Sum, PointerPlus, PlusPointer, PointerMinus, GlobalObject, LocalObject, TextObject, Pointed, Element, MemberOf, Constant, FunctionAddress, ReadOf, AddressOf, Convert, Negate, Complement, Arithmetic, PointerSum, PointerDifference, PointerComparison, Not, Both, Either, Choice, Sequence, Assigned, Changed, Moved, Stepped, CallOf, NoValues, MoreValues, SourceFunction, BuiltinFunction, Through, object_type, value_type}
use Rattle.c_semantics.specs.Reading.{Marks, or_fault, with_any}
use Rattle.c_semantics.specs.Context.{global_address, text_address, size_of, member_offset, kind_of}
use Rattle.c_semantics.specs.Values.{Here, address, called, changing, converted_to, given, fetch, in_order, is_read, load, local_address, moved_by, origin, stepped_by, store, summed, target, truth, value, values, width, wrap}
use Rattle.c_semantics.proofs.Relations.{Bounds, AtMost, Relation, FollowsPlain, Cuts, itself, lower, through, cut_any, cut_at_zero, cut_cond, cut_or_fault}

-- what calls make
pub record Makes : Type 0 where
  pub call : (func : ℕ) → (args : List ℕ) → (ℕ → Marks) → Marks
  pub call_at : CType → (address : ℕ) → (args : List ℕ) → (ℕ → Marks) → Marks

-- the same place, with other calls
abbrev pub making_calls : Here → Makes → Here
making_calls h m = record h { call = m.call; call_at = m.call_at }

-- marks that are no events are followed, and what calls make is cut as what follows them
pub record CallsCut (R : Relation) (k : Bounds) (h : Here) (m : Makes) : Type 0 where
  pub plain : FollowsPlain R h.side
  pub named : (j : Bounds) → AtMost j k → (f : ℕ) (args : List ℕ) (go on : ℕ → Marks) → Cuts R j go on → R.rel j (h.call f args go) (m.call f args on)
  pub pointed : (j : Bounds) → AtMost j k → (t : CType) (a : ℕ) (args : List ℕ) (go on : ℕ → Marks) → Cuts R j go on → R.rel j (h.call_at t a args go) (m.call_at t a args on)

pub fewer : (R : Relation) → (j k : Bounds) (h : Here) (m : Makes) → AtMost j k → CallsCut R k h m → CallsCut R j h m
fewer R j k h m le c = record {
  plain = c.plain;
  named = λ i li. c.named i (through i j k li le);
  pointed = λ i li. c.pointed i (through i j k li le);
}

pub fetch_cut : (R : Relation) → (k : Bounds) (h : Here) (m : Makes) (o : Option ℕ) (t : CType) (go on : ℕ → Marks) → FollowsPlain R h.side → Cuts R k go on → Cuts R k (fetch h o t go) (fetch (making_calls h m) o t on)
fetch_cut R k h m o t go on p c a =
    R.asks k h.side (Loads o a (width t)) (p (Loads o a (width t)) tt) (with_any (λ v. go (converted (kind_of t) v))) (with_any (λ v. on (converted (kind_of t) v)))
    (λ x j lt. cut_any R j (λ v. go (converted (kind_of t) v)) (λ v. on (converted (kind_of t) v)) (λ v. R.weaker j k (go (converted (kind_of t) v)) (on (converted (kind_of t) v)) (lower j k lt) (c (converted (kind_of t) v))) x)

pub load_cut : (R : Relation) → (k : Bounds) (h : Here) (m : Makes) (o : Option ℕ) (t : CType) (go on : ℕ → Marks) → FollowsPlain R h.side → Cuts R k go on → Cuts R k (load h o t go) (load (making_calls h m) o t on)
load_cut R k h m o t go on p c a = cut_cond R k (is_read t) (fetch h o t go a) (fetch (making_calls h m) o t on a) (go a) (on a) (fetch_cut R k h m o t go on p c a) (c a)

pub store_cut : (R : Relation) → (k : Bounds) (h : Here) (m : Makes) (o : Option ℕ) (t : CType) (a v : ℕ) (go on : Marks) → FollowsPlain R h.side → R.rel k go on → R.rel k (store h o t a v go) (store (making_calls h m) o t a v on)
store_cut R k h m o t a v go on p c = R.asks k h.side (Stores o a (bytes_of_number (width t) v)) (p (Stores o a (bytes_of_number (width t) v)) tt) (λ x. go) (λ x. on) (λ x j lt. R.weaker j k go on (lower j k lt) c)

-- what makes a value is cut as what follows the value
abbrev Carries : (R : Relation) → Bounds → ((ℕ → Marks) → Marks) → ((ℕ → Marks) → Marks) → Type 0
Carries R k f g = (go on : ℕ → Marks) → Cuts R k go on → R.rel k (f go) (g on)

in_order_cut : (R : Relation) → (k : Bounds) (s : Sum) (p q i j : (ℕ → Marks) → Marks) (go on : ℕ → ℕ → Marks) → Carries R k p q → Carries R k i j → ((x y : ℕ) → R.rel k (go x y) (on x y)) → R.rel k (in_order s p i go) (in_order s q j on)
in_order_cut R k PointerPlus p q i j go on cp ci c = cp (λ x. i (λ y. go x y)) (λ x. j (λ y. on x y)) (λ x. ci (λ y. go x y) (λ y. on x y) (λ y. c x y))
in_order_cut R k PlusPointer p q i j go on cp ci c = ci (λ y. p (λ x. go x y)) (λ y. q (λ x. on x y)) (λ y. cp (λ x. go x y) (λ x. on x y) (λ x. c x y))
in_order_cut R k PointerMinus p q i j go on cp ci c = cp (λ x. i (λ y. go x y)) (λ x. j (λ y. on x y)) (λ x. ci (λ y. go x y) (λ y. on x y) (λ y. c x y))

changing_cut : (R : Relation) → (k : Bounds) (h : Here) (m : Makes) (o : Object) (a b : (ℕ → Marks) → Marks) (f g : ℕ → (ℕ → Marks) → Marks) (go on : ℕ → Marks)
    → FollowsPlain R h.side → Carries R k a b → ((old : ℕ) → Carries R k (f old) (g old)) → Cuts R k go on → R.rel k (changing h o a f go) (changing (making_calls h m) o b g on)
changing_cut R k h m o a b f g go on p ca cf c =
    let t = object_type o in
    let then : (x old : ℕ) → R.rel k (f old (λ new. store h (origin o) t x new (go new))) (g old (λ new. store (making_calls h m) (origin o) t x new (on new))) =
    λ x old. cf old (λ new. store h (origin o) t x new (go new)) (λ new. store (making_calls h m) (origin o) t x new (on new)) (λ new. store_cut R k h m (origin o) t x new (go new) (on new) p (c new)) in
    ca (λ x. fetch h (origin o) t (λ old. f old (λ new. store h (origin o) t x new (go new))) x) (λ x. fetch (making_calls h m) (origin o) t (λ old. g old (λ new. store (making_calls h m) (origin o) t x new (on new))) x)
    (λ x. fetch_cut R k h m (origin o) t (λ old. f old (λ new. store h (origin o) t x new (go new))) (λ old. g old (λ new. store (making_calls h m) (origin o) t x new (on new))) p (then x) x)

-- for a list of values
abbrev pub ListCuts : (R : Relation) → Bounds → (List ℕ → Marks) → (List ℕ → Marks) → Type 0
ListCuts R k go on = (vs : List ℕ) → R.rel k (go vs) (on vs)

mutual
  pub address_cut : (R : Relation) → (o : Object) (k : Bounds) (h : Here) (m : Makes) (go on : ℕ → Marks) → CallsCut R k h m → Cuts R k go on → R.rel k (address o h go) (address o (making_calls h m) on)
  address_cut R (GlobalObject from place t) k h m go on cs c = c (global_address h.source place)
  address_cut R (LocalObject place t) k h m go on cs c = c (local_address h place)
  address_cut R (TextObject from n) k h m go on cs c = c (text_address h.source from)
  address_cut R (Pointed v t) k h m go on cs c = value_cut R v k h m go on cs c
  address_cut R (Element s p i t) k h m go on cs c =
      in_order_cut R k s (value p h) (value p (making_calls h m)) (value i h) (value i (making_calls h m)) (λ x y. go (summed s x y (size_of h.source t))) (λ x y. on (summed s x y (size_of h.source t)))
      (λ f g d. value_cut R p k h m f g cs d) (λ f g d. value_cut R i k h m f g cs d) (λ x y. c (summed s x y (size_of h.source t)))
  address_cut R (MemberOf o number t) k h m go on cs c =
      address_cut R o k h m (λ a. go (wrap (a + member_offset h.source (object_type o) number))) (λ a. on (wrap (a + member_offset h.source (object_type o) number))) cs (λ a. c (wrap (a + member_offset h.source (object_type o) number)))

  pub value_cut : (R : Relation) → (v : Value) (k : Bounds) (h : Here) (m : Makes) (go on : ℕ → Marks) → CallsCut R k h m → Cuts R k go on → R.rel k (value v h go) (value v (making_calls h m) on)
  value_cut R (Constant kind n) k h m go on cs c = c (written n)
  value_cut R (FunctionAddress from number t) k h m go on cs c = c (function_address number)
  value_cut R (ReadOf o) k h m go on cs c = address_cut R o k h m (load h (origin o) (object_type o) go) (load (making_calls h m) (origin o) (object_type o) on) cs (load_cut R k h m (origin o) (object_type o) go on cs.plain c)
  value_cut R (AddressOf o t) k h m go on cs c = address_cut R o k h m go on cs c
  value_cut R (Convert t v) k h m go on cs c = value_cut R v k h m (λ x. go (converted_to t x)) (λ x. on (converted_to t x)) cs (λ x. c (converted_to t x))
  value_cut R (Negate kind v) k h m go on cs c = value_cut R v k h m (λ x. go (written (wrapped kind (pos 0 -ℤ read kind x)))) (λ x. on (written (wrapped kind (pos 0 -ℤ read kind x)))) cs (λ x. c (written (wrapped kind (pos 0 -ℤ read kind x))))
  value_cut R (Complement kind v) k h m go on cs c = value_cut R v k h m (λ x. go (written (wrapped kind (negsuc 0 -ℤ read kind x)))) (λ x. on (written (wrapped kind (negsuc 0 -ℤ read kind x)))) cs (λ x. c (written (wrapped kind (negsuc 0 -ℤ read kind x))))
  value_cut R (Arithmetic op kind a b) k h m go on cs c =
      value_cut R a k h m (λ x. value b h (λ y. or_fault h.side (arith_of op kind x y) go)) (λ x. value b (making_calls h m) (λ y. or_fault h.side (arith_of op kind x y) on)) cs
      (λ x. value_cut R b k h m (λ y. or_fault h.side (arith_of op kind x y) go) (λ y. or_fault h.side (arith_of op kind x y) on) cs (λ y. cut_or_fault R k h.side (arith_of op kind x y) go on cs.plain c))
  value_cut R (PointerSum s p i size) k h m go on cs c =
      in_order_cut R k s (value p h) (value p (making_calls h m)) (value i h) (value i (making_calls h m)) (λ x y. go (summed s x y size)) (λ x y. on (summed s x y size))
      (λ f g d. value_cut R p k h m f g cs d) (λ f g d. value_cut R i k h m f g cs d) (λ x y. c (summed s x y size))
  value_cut R (PointerDifference a b size) k h m go on cs c =
      value_cut R a k h m (λ x. value b h (λ y. or_fault h.side (arith_of Div I64 (written (pos x -ℤ pos y)) size) go)) (λ x. value b (making_calls h m) (λ y. or_fault h.side (arith_of Div I64 (written (pos x -ℤ pos y)) size) on)) cs
      (λ x. value_cut R b k h m (λ y. or_fault h.side (arith_of Div I64 (written (pos x -ℤ pos y)) size) go) (λ y. or_fault h.side (arith_of Div I64 (written (pos x -ℤ pos y)) size) on) cs (λ y. cut_or_fault R k h.side (arith_of Div I64 (written (pos x -ℤ pos y)) size) go on cs.plain c))
  value_cut R (PointerComparison op a b) k h m go on cs c =
      value_cut R a k h m (λ x. value b h (λ y. or_fault h.side (arith_of op U64 x y) go)) (λ x. value b (making_calls h m) (λ y. or_fault h.side (arith_of op U64 x y) on)) cs
      (λ x. value_cut R b k h m (λ y. or_fault h.side (arith_of op U64 x y) go) (λ y. or_fault h.side (arith_of op U64 x y) on) cs (λ y. cut_or_fault R k h.side (arith_of op U64 x y) go on cs.plain c))
  value_cut R (Not v) k h m go on cs c = value_cut R v k h m (λ x. go (at_zero x 1 0)) (λ x. on (at_zero x 1 0)) cs (λ x. c (at_zero x 1 0))
  value_cut R (Both a b) k h m go on cs c =
      value_cut R a k h m (λ x. at_zero x (go 0) (value b h (λ y. go (truth y)))) (λ x. at_zero x (on 0) (value b (making_calls h m) (λ y. on (truth y)))) cs
      (λ x. cut_at_zero R k x (go 0) (on 0) (value b h (λ y. go (truth y))) (value b (making_calls h m) (λ y. on (truth y))) (c 0) (value_cut R b k h m (λ y. go (truth y)) (λ y. on (truth y)) cs (λ y. c (truth y))))
  value_cut R (Either a b) k h m go on cs c =
      value_cut R a k h m (λ x. at_zero x (value b h (λ y. go (truth y))) (go 1)) (λ x. at_zero x (value b (making_calls h m) (λ y. on (truth y))) (on 1)) cs
      (λ x. cut_at_zero R k x (value b h (λ y. go (truth y))) (value b (making_calls h m) (λ y. on (truth y))) (go 1) (on 1) (value_cut R b k h m (λ y. go (truth y)) (λ y. on (truth y)) cs (λ y. c (truth y))) (c 1))
  value_cut R (Choice t a b) k h m go on cs c =
      value_cut R t k h m (λ x. at_zero x (value b h go) (value a h go)) (λ x. at_zero x (value b (making_calls h m) on) (value a (making_calls h m) on)) cs
      (λ x. cut_at_zero R k x (value b h go) (value b (making_calls h m) on) (value a h go) (value a (making_calls h m) on) (value_cut R b k h m go on cs c) (value_cut R a k h m go on cs c))
  value_cut R (Sequence a b) k h m go on cs c = value_cut R a k h m (λ x. value b h go) (λ x. value b (making_calls h m) on) cs (λ x. value_cut R b k h m go on cs c)
  value_cut R (Assigned o v) k h m go on cs c =
      address_cut R o k h m (λ a. value v h (λ x. store h (origin o) (object_type o) a x (go x))) (λ a. value v (making_calls h m) (λ x. store (making_calls h m) (origin o) (object_type o) a x (on x))) cs
      (λ a. value_cut R v k h m (λ x. store h (origin o) (object_type o) a x (go x)) (λ x. store (making_calls h m) (origin o) (object_type o) a x (on x)) cs (λ x. store_cut R k h m (origin o) (object_type o) a x (go x) (on x) cs.plain (c x)))
  value_cut R (Changed o op kind v) k h m go on cs c =
      changing_cut R k h m o (address o h) (address o (making_calls h m)) (λ old next. value v h (λ y. or_fault h.side (arith_of op kind (converted kind old) y) (λ r. next (converted (kind_of (object_type o)) r)))) (λ old next. value v (making_calls h m) (λ y. or_fault h.side (arith_of op kind (converted kind old) y) (λ r. next (converted (kind_of (object_type o)) r)))) go on cs.plain
      (λ f g d. address_cut R o k h m f g cs d)
      (λ old f g d. value_cut R v k h m (λ y. or_fault h.side (arith_of op kind (converted kind old) y) (λ r. f (converted (kind_of (object_type o)) r))) (λ y. or_fault h.side (arith_of op kind (converted kind old) y) (λ r. g (converted (kind_of (object_type o)) r))) cs (λ y. cut_or_fault R k h.side (arith_of op kind (converted kind old) y) (λ r. f (converted (kind_of (object_type o)) r)) (λ r. g (converted (kind_of (object_type o)) r)) cs.plain (λ r. d (converted (kind_of (object_type o)) r))))
      c
  value_cut R (Moved o w i size) k h m go on cs c =
      changing_cut R k h m o (address o h) (address o (making_calls h m)) (λ old next. value i h (λ y. next (moved_by w old y size))) (λ old next. value i (making_calls h m) (λ y. next (moved_by w old y size))) go on cs.plain
      (λ f g d. address_cut R o k h m f g cs d)
      (λ old f g d. value_cut R i k h m (λ y. f (moved_by w old y size)) (λ y. g (moved_by w old y size)) cs (λ y. d (moved_by w old y size)))
      c
  value_cut R (Stepped o w g size) k h m go on cs c =
      let t = object_type o in
      let new : ℕ → ℕ = λ old. converted (kind_of t) (stepped_by w old size) in
      address_cut R o k h m (λ a. fetch h (origin o) t (λ old. store h (origin o) t a (new old) (go (given g old (new old)))) a) (λ a. fetch (making_calls h m) (origin o) t (λ old. store (making_calls h m) (origin o) t a (new old) (on (given g old (new old)))) a) cs
      (λ a. fetch_cut R k h m (origin o) t (λ old. store h (origin o) t a (new old) (go (given g old (new old)))) (λ old. store (making_calls h m) (origin o) t a (new old) (on (given g old (new old)))) cs.plain (λ old. store_cut R k h m (origin o) t a (new old) (go (given g old (new old))) (on (given g old (new old))) cs.plain (c (given g old (new old)))) a)
  value_cut R (CallOf f vs t) k h m go on cs c =
      called_cut R f k h m (λ call. values vs h (λ xs. call xs go)) (λ call. values vs (making_calls h m) (λ xs. call xs on)) cs
      (λ call then d. values_cut R vs k h m (λ xs. call xs go) (λ xs. then xs on) cs (λ xs. d xs go on c))

  pub values_cut : (R : Relation) → (vs : Values) (k : Bounds) (h : Here) (m : Makes) (go on : List ℕ → Marks) → CallsCut R k h m → ListCuts R k go on → R.rel k (values vs h go) (values vs (making_calls h m) on)
  values_cut R NoValues k h m go on cs c = c []
  values_cut R (MoreValues v vs) k h m go on cs c =
      value_cut R v k h m (λ x. values vs h (λ xs. go (x ∷ xs))) (λ x. values vs (making_calls h m) (λ xs. on (x ∷ xs))) cs (λ x. values_cut R vs k h m (λ xs. go (x ∷ xs)) (λ xs. on (x ∷ xs)) cs (λ xs. c (x ∷ xs)))

  pub called_cut : (R : Relation) → (f : Callee) (k : Bounds) (h : Here) (m : Makes) (go on : (List ℕ → (ℕ → Marks) → Marks) → Marks) → CallsCut R k h m
      → ((a b : List ℕ → (ℕ → Marks) → Marks) → ((xs : List ℕ) (p q : ℕ → Marks) → Cuts R k p q → R.rel k (a xs p) (b xs q)) → R.rel k (go a) (on b)) → R.rel k (called f h go) (called f (making_calls h m) on)
  called_cut R (SourceFunction from number) k h m go on cs c = c (h.call number) (m.call number) (λ xs p q d. cs.named k (itself k) number xs p q d)
  called_cut R (BuiltinFunction from b) k h m go on cs c = c (h.call (number_of b)) (m.call (number_of b)) (λ xs p q d. cs.named k (itself k) (number_of b) xs p q d)
  called_cut R (Through v) k h m go on cs c =
      value_cut R v k h m (λ a. go (h.call_at (target (value_type v)) a)) (λ a. on (m.call_at (target (value_type v)) a)) cs (λ a. c (h.call_at (target (value_type v)) a) (m.call_at (target (value_type v)) a) (λ xs p q d. cs.pointed k (itself k) (target (value_type v)) a xs p q d))
