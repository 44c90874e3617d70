-- Annotations of parameters: regions, their sizes, and functions that are called back. `from` is the offset
-- of the node.
use Rattle.std.specs.Prelude.{ℕ, suc, ◌+◌, Bool, true, false, not, ◌&&◌, ◌||◌, if◌then◌else◌, List, [], ◌∷◌, ◌++◌, codes, is_some, is_none, Option, Some, None}
use Rattle.c_syntax.specs.Syntax.{Decl, Annots, Annot, Items, Item, Atom, Declare, NoAnnots, MoreAnnots, Annotate, NoItems, MoreItems, OneFactor, TwoFactors, NameAtom, NumberAtom, ReturnAtom, SizeofAtom}
use Rattle.c_types_model.specs.Types.{CType, CTypes, Void, PointerTo, NoTypes, MoreTypes}
use Rattle.c_scopes.specs.Scopes.{same_name}
use Rattle.stub_core.specs.declared.terms.Term.{Term}
use Rattle.stub_core.specs.declared.terms.Term.TheVariants.{Const, Param, Return}
use Rattle.stub_core.specs.declared.terms.Size.{Size}
use Rattle.c_types_rules.specs.Checked.{Checked, Fine, Broken, keep, need, ◌>>=◌, ◌>>◌}
use Rattle.c_types_rules.specs.TypeTests.{is_complete, is_function, is_integer, is_scalar}
use Rattle.c_types_rules.specs.Operators.{size_in}
use Rattle.c_types_rules.specs.Environment.{Environment, extents}
use Rattle.c_types_rules.specs.Expressions.{declared_type}
use Rattle.annot_reader_rules.specs.Notes.{Parameter}

-- what an annotation of a function may speak of: its parameters by name, with their types, its result, and
-- what is declared where it stands
pub record Signature : Type 0 where
  pub params : List (Option (List ℕ) × CType)
  pub result : CType
  pub env : Environment

-- ---- parameters by name

abbrev pub is_called : List ℕ → Option (List ℕ) → Bool
is_called name (Some other) = same_name name other
is_called name None = false

abbrev pub place_from : ℕ → List ℕ → List (Option (List ℕ) × CType) → Option (ℕ × CType)
place_from at name [] = None
place_from at name ((other, t) ∷ ps) = if is_called name other then Some (
  at,
  t,
) else place_from (suc at) name ps

-- the place and the type of the parameter of this name
abbrev pub parameter_named : Signature → List ℕ → Option (ℕ × CType)
parameter_named s name = place_from 0 name s.params

-- the parameter that an item names, an integer or a pointer, whose value is a key
abbrev pub key_parameter : Signature → Item → Checked ℕ
key_parameter s (OneFactor from (NameAtom name)) = do
  p ← need from 7 (parameter_named s name)
  keep from 7 (is_scalar p.1)
  Fine p.0
key_parameter s (OneFactor from a) = Broken from 7
key_parameter s (TwoFactors from a b) = Broken from 7

-- ---- sizes, in bytes

-- a factor of a size: an integer parameter, a number, the size of a type, or the integer result where that
-- is known
abbrev pub term : Signature → (from : ℕ) → (known : Bool) → Atom → Checked Term
term s from known (NameAtom name) = do
  p ← need from 4 (parameter_named s name)
  keep from 4 (is_integer p.1)
  Fine (Param p.0)
term s from known (NumberAtom n) = Fine (Const n)
term s from known ReturnAtom = keep from 4 (known && is_integer s.result) >> Fine Return
term s from known (SizeofAtom d) = do
  t ← declared_type d s.env
  Fine (Const (size_in (extents s.env) t))

-- a size is a factor, or the product of two
abbrev pub size : Signature → (known : Bool) → Item → Checked Size
size s known (OneFactor from a) = do
  x ← term s from known a
  Fine (record { a = x; b = None })
size s known (TwoFactors from a b) = do
  x ← term s from known a
  y ← term s from known b
  Fine (record { a = x; b = Some y })

abbrev pub is_return : Atom → Bool
is_return ReturnAtom = true
is_return a = false

-- the result is a factor
abbrev pub needs_result : Option Item → Bool
needs_result None = false
needs_result (Some (OneFactor from a)) = is_return a
needs_result (Some (TwoFactors from a b)) = is_return a || is_return b

-- ---- the annotations of one parameter

-- which of them stand there
pub record Marked : Type 0 where
  pub has_in : Bool
  pub has_out : Bool
  pub callback : Bool
  pub bsize : Option Item
  pub cap : Option Item
  pub prepare : Option Item

abbrev pub unmarked : Marked
unmarked = record {
  has_in = false;
  has_out = false;
  callback = false;
  bsize = None;
  cap = None;
  prepare =
      None;
}

abbrev pub no_items : Items → Bool
no_items NoItems = true
no_items (MoreItems x xs) = false

abbrev pub one_item : Items → Option Item
one_item (MoreItems x NoItems) = Some x
one_item _ = None

-- a word without items, once per list
abbrev pub alone : (from : ℕ) → Items → (before : Bool) → Checked (Unit {0})
alone from is before = do
  keep from 1 (no_items is)
  keep from 2 (not before)

-- a word with one item, once per list
abbrev pub with_one : (from : ℕ) → Items → (before : Option Item) → Checked Item
with_one from is before = do
  x ← need from 1 (one_item is)
  keep from 2 (is_none before)
  Fine x

-- one annotation more
abbrev pub marked : Annot → Marked → Checked Marked
marked (Annotate from word is) m =
    if same_name word (codes "in") then alone from is m.has_in >> Fine (record m { has_in = true })
    else if same_name word (codes "out") then alone from is m.has_out >> Fine (record m { has_out = true })
    else if same_name word (codes "callback") then alone from is m.callback >> Fine
    (record m { callback = true })
    else if same_name word (codes "bsize") then (with_one from is m.bsize >>= λ x.
    Fine (record m { bsize = Some x }))
    else if same_name word (codes "cap") then (with_one from is m.cap >>= λ x.
    Fine (record m { cap = Some x }))
    else if same_name word (codes "prepare") then (with_one from is m.prepare >>= λ x.
    Fine (record m { prepare = Some x }))
    else Broken from 1

abbrev pub all_marked : Annots → Marked → Checked Marked
all_marked NoAnnots m = Fine m
all_marked (MoreAnnots x xs) m = do
  n ← marked x m
  all_marked xs n

abbrev pub has_region : Marked → Bool
has_region m = m.has_in || (m.has_out || is_some m.prepare)

abbrev pub is_object_pointer : CType → Bool
is_object_pointer (PointerTo t) = not (is_function t)
is_object_pointer t = false

abbrev pub is_function_pointer : CType → Bool
is_function_pointer (PointerTo t) = is_function t
is_function_pointer t = false

abbrev pub target : CType → CType
target (PointerTo t) = t
target t = Void

-- `prepare` stands without `in` and `out`, `bsize` with one of them, `cap` with `out` or `prepare`, and a
-- `bsize` with the result has a `cap`
abbrev pub go_together : Marked → Bool
go_together m =
    (is_none m.prepare || not (m.has_in || m.has_out)) &&
    ((is_none m.bsize || (m.has_in || m.has_out)) &&
    ((is_none m.cap || (m.has_out || is_some m.prepare)) &&
    (not (needs_result m.bsize) || is_some m.cap)))

-- the size of what the pointer points to, which the source has to know
abbrev pub own_size : Signature → (from : ℕ) → CType → Checked Size
own_size s from t = do
  keep from 6 (is_complete (extents s.env) t)
  Fine (record { a = Const (size_in (extents s.env) t); b = None })

abbrev pub first_of : Option Item → Option Item → Option Item
first_of (Some x) y = Some x
first_of None y = y

abbrev pub size_or_own : Signature → (from : ℕ) → (known : Bool) → CType → Option Item → Checked Size
size_or_own s from known t (Some x) = size s known x
size_or_own s from known t None = own_size s from t

-- `in` reads so many bytes: with `out` the capacity
abbrev pub reads_of : Signature → (from : ℕ) → CType → Marked → Checked (Option Size)
reads_of s from t m =
    if not m.has_in then Fine None
    else (size_or_own s from false t (if m.has_out then first_of m.cap m.bsize else m.bsize) >>= λ z.
    Fine (Some z))

-- `out` with one of the two sizes has it for both
abbrev pub writes_of : Signature → (from : ℕ) → CType → Marked → Checked (Option (Size × Size))
writes_of s from t m =
    if not m.has_out then Fine None
    else (size_or_own s from false t (first_of m.cap m.bsize) >>= λ capacity.
    size_or_own s from true t (first_of m.bsize m.cap) >>= λ used. Fine (Some (capacity, used)))

abbrev pub prepares_of : Signature → (from : ℕ) → CType → Marked → Option Item → Checked (Option (ℕ × Size))
prepares_of s from t m None = Fine None
prepares_of s from t m (Some x) = do
  key ← key_parameter s x
  capacity ← size_or_own s from false t m.cap
  Fine (Some (key, capacity))

abbrev pub of_marked : Signature → (from : ℕ) → CType → Marked → Checked Parameter
of_marked s from t m = do
  keep from 3 (not (has_region m) || is_object_pointer t)
  keep from 3 (not m.callback || is_function_pointer t)
  keep from 5 (go_together m)
  reads ← reads_of s from (target t) m
  writes ← writes_of s from (target t) m
  prepares ← prepares_of s from (target t) m m.prepare
  Fine (record { reads = reads; writes = writes; prepares = prepares; callback = m.callback })

-- what the annotations of a parameter of this type say
abbrev pub parameter_notes : Signature → Decl → CType → Checked Parameter
parameter_notes s (Declare from an b ps n r) t = do
  m ← all_marked an unmarked
  of_marked s from t m
