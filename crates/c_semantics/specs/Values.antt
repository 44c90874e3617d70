-- The marks of expressions, in the order of evaluation, and their values (C11 6.5). `go` is what follows a
-- value.
use Rattle.std.specs.Prelude.{ℕ, ◌+◌, ◌-◌, ◌*◌, ◌%◌, ◌^◌, pos, negsuc, ◌-ℤ◌, Bool, true, false, if◌then◌else◌, List, [], ◌∷◌, Option, Some, None, slice_get}
use Rattle.r2_num.specs.declared.kinds.IntKind.TheVariants.{I64, U64}
use Rattle.r2_num.specs.declared.operations.Op.TheVariants.{Div}
use Rattle.r2_num.specs.Conversions.{wrapped}
use Rattle.marks.specs.declared.side.Side.{Side}
use Rattle.marks.specs.Places.{function_address}
use Rattle.marks.specs.Ranges.{bytes_of_number}
use Rattle.marks.specs.Wants.{Loads, Stores}
use Rattle.c_code.specs.Values.{arith_of, at_zero, bytes_of, converted, read, written}
use Rattle.c_types_model.specs.Types.{CType, Void, Integer, PointerTo, ArrayOf}
use Rattle.c_builtins.specs.Table.{number_of}
use Rattle.c_types_rules.specs.TypeTests.{same_type}
use Rattle.c_types_rules.specs.TypedTree.{Object, Value, Values, Callee, Sum, PointerPlus, PlusPointer, PointerMinus, Way, Up, Down, Given, New, Old, GlobalObject, LocalObject, TextObject, Pointed, Element, MemberOf, Constant, FunctionAddress, ReadOf, AddressOf, Convert, Negate, Complement, Arithmetic, PointerSum, PointerDifference, PointerComparison, Not, Both, Either, Choice, Sequence, Assigned, Changed, Moved, Stepped, CallOf, NoValues, MoreValues, SourceFunction, BuiltinFunction, Through, object_type, value_type}
use Rattle.c_semantics.specs.Reading.{Marks, ask, or_fault, with_any}
use Rattle.c_semantics.specs.Context.{Source, global_address, text_address, size_of, member_offset, kind_of}

-- where code runs: its side, its frame, how far its locals lie after the beginning of the frame, and what
-- its calls
-- make: of a function by name, and of a function of this type at an address
pub record Here : Type 0 where
  pub source : Source
  pub side : Side
  pub base : ℕ
  pub offsets : List ℕ
  pub call : (func : ℕ) → (args : List ℕ) → (ℕ → Marks) → Marks
  pub call_at : CType → (address : ℕ) → (args : List ℕ) → (ℕ → Marks) → Marks

-- addresses wrap
abbrev pub wrap : ℕ → ℕ
wrap n = n % 2 ^ 64

abbrev offset_or : Option ℕ → ℕ
offset_or (Some n) = n
offset_or None = 0

abbrev pub local_address : Here → ℕ → ℕ
local_address h place = wrap (h.base + offset_or (slice_get h.offsets place))

abbrev pub truth : ℕ → ℕ
truth n = at_zero n 0 1

-- so many elements on from an address, and back
abbrev pub on_by : ℕ → ℕ → ℕ → ℕ
on_by p i size = wrap (p + i * size)

-- an integer is taken away as its negative, at long
abbrev pub negative : ℕ → ℕ
negative i = written (wrapped I64 (pos 0 -ℤ read I64 i))

abbrev pub back_by : ℕ → ℕ → ℕ → ℕ
back_by p i size = on_by p (negative i) size

abbrev pub summed : Sum → ℕ → ℕ → ℕ → ℕ
summed PointerMinus p i size = back_by p i size
summed _ p i size = on_by p i size

abbrev pub stepped_by : Way → ℕ → ℕ → ℕ
stepped_by Up p size = wrap (p + size)
stepped_by Down p size = wrap (p + (2 ^ 64 - wrap size))

abbrev pub moved_by : Way → ℕ → ℕ → ℕ → ℕ
moved_by Up p i size = on_by p i size
moved_by Down p i size = back_by p i size

-- the first value or the second, as the sum has the pointer first or after
abbrev pub in_order : Sum → ((ℕ → Marks) → Marks) → ((ℕ → Marks) → Marks) → (ℕ → ℕ → Marks) → Marks
in_order PlusPointer pointer index go = index (λ i. pointer (λ p. go p i))
in_order _ pointer index go = pointer (λ p. index (λ i. go p i))

abbrev pub is_read : CType → Bool
is_read (Integer k) = true
is_read (PointerTo t) = true
is_read t = false

-- a value that is converted to a scalar type; what has no such type has no value that counts
abbrev pub converted_to : CType → ℕ → ℕ
converted_to t n = if is_read t then converted (kind_of t) n else n

abbrev pub width : CType → ℕ
width t = bytes_of (kind_of t)

-- an object that is to be changed is loaded; it is a scalar
abbrev pub fetch : Here → (origin : Option ℕ) → CType → (ℕ → Marks) → ℕ → Marks
fetch h o t go a = ask h.side (Loads o a (width t)) (with_any (λ v. go (converted (kind_of t) v)))

-- a scalar object is loaded; of a struct its address is all
abbrev pub load : Here → (origin : Option ℕ) → CType → (ℕ → Marks) → ℕ → Marks
load h o t go a = if is_read t then fetch h o t go a else go a

-- the low bytes of a value are stored
abbrev pub store : Here → (origin : Option ℕ) → CType → (at value : ℕ) → Marks → Marks
store h o t a v go = ask h.side (Stores o a (bytes_of_number (width t) v)) (λ x. go)

-- an array's address in place of the array, of which a subscript is a part
abbrev pub decayed : CType → CType → Bool
decayed (ArrayOf n t) (PointerTo u) = same_type t u
decayed t u = false

-- the global that a path of subscripts, in either order, and members begins with
abbrev mutual
  pub origin : Object → Option ℕ
  origin (GlobalObject from place t) = Some place
  origin (Element PointerPlus p i t) = array_origin p
  origin (Element PlusPointer p i t) = array_origin p
  origin (MemberOf o number t) = origin o
  origin o = None

  pub array_origin : Value → Option ℕ
  array_origin (AddressOf o t) = if decayed (object_type o) t then origin o else None
  array_origin v = None

-- the type of the function that a pointer leads to
abbrev pub target : CType → CType
target (PointerTo t) = t
target t = Void

-- a loaded value is changed and stored
abbrev pub changing : Here → Object → ((ℕ → Marks) → Marks) → (ℕ → (ℕ → Marks) → Marks) → (ℕ → Marks) →
    Marks
changing h o address change go =
    let t = object_type o in
    address (λ a. fetch h (origin o) t (λ old. change old (λ new. store h (origin o) t a new (go new))) a)

abbrev pub given : Given → ℕ → ℕ → ℕ
given New old new = new
given Old old new = old

abbrev mutual
  -- the marks of an object's address
  pub address : Object → Here → (ℕ → Marks) → Marks
  address (GlobalObject from place t) h go = go (global_address h.source place)
  address (LocalObject place t) h go = go (local_address h place)
  address (TextObject from n) h go = go (text_address h.source from)
  address (Pointed v t) h go = value v h go
  address (Element s p i t) h go = in_order s (value p h) (value i h) (λ x y.
      go (summed s x y (size_of h.source t)))
  address (MemberOf o number t) h go = address o h (λ a.
      go (wrap (a + member_offset h.source (object_type o) number)))

  pub value : Value → Here → (ℕ → Marks) → Marks
  value (Constant k n) h go = go (written n)
  value (FunctionAddress from number t) h go = go (function_address number)
  value (ReadOf o) h go = address o h (load h (origin o) (object_type o) go)
  value (AddressOf o t) h go = address o h go
  value (Convert t v) h go = value v h (λ x. go (converted_to t x))
  value (Negate k v) h go = value v h (λ x. go (written (wrapped k (pos 0 -ℤ read k x))))
  value (Complement k v) h go = value v h (λ x. go (written (wrapped k (negsuc 0 -ℤ read k x))))
  value (Arithmetic op k a b) h go = value a h (λ x.
      value b h (λ y. or_fault h.side (arith_of op k x y) go))
  value (PointerSum s p i size) h go = in_order s (value p h) (value i h) (λ x y. go (summed s x y size))
  value (PointerDifference a b size) h go = value a h (λ x.
      value b h (λ y. or_fault h.side (arith_of Div I64 (written (pos x -ℤ pos y)) size) go))
  value (PointerComparison op a b) h go = value a h (λ x.
      value b h (λ y. or_fault h.side (arith_of op U64 x y) go))
  value (Not v) h go = value v h (λ x. go (at_zero x 1 0))
  value (Both a b) h go = value a h (λ x. at_zero x (go 0) (value b h (λ y. go (truth y))))
  value (Either a b) h go = value a h (λ x. at_zero x (value b h (λ y. go (truth y))) (go 1))
  value (Choice c a b) h go = value c h (λ x. at_zero x (value b h go) (value a h go))
  value (Sequence a b) h go = value a h (λ x. value b h go)
  value (Assigned o v) h go = address o h (λ a.
      value v h (λ x. store h (origin o) (object_type o) a x (go x)))
  value (Changed o op k v) h go =
      changing h o (address o h) (λ old next.
      value v h (λ y. or_fault h.side (arith_of op k (converted k old) y) (λ r.
      next (converted (kind_of (object_type o)) r)))) go
  value (Moved o w i size) h go = changing h o (address o h) (λ old next.
      value i h (λ y. next (moved_by w old y size))) go
  value (Stepped o w g size) h go =
      let t = object_type o in
      address o h (λ a. fetch h (origin o) t (λ old. let new =
      converted (kind_of t) (stepped_by w old size) in
      store h (origin o) t a new
      (go (given g old new))) a)
  value (CallOf f vs t) h go = called f h (λ call. values vs h (λ xs. call xs go))

  pub values : Values → Here → (List ℕ → Marks) → Marks
  values NoValues h go = go []
  values (MoreValues v vs) h go = value v h (λ x. values vs h (λ xs. go (x ∷ xs)))

  -- what is called, before its arguments: a pointer has marks of its own
  pub called : Callee → Here → ((List ℕ → (ℕ → Marks) → Marks) → Marks) → Marks
  called (SourceFunction from number) h go = go (h.call number)
  called (BuiltinFunction from b) h go = go (h.call (number_of b))
  called (Through v) h go = value v h (λ a. go (h.call_at (target (value_type v)) a))
