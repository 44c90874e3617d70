-- Relations between what follows marks on two sides, which pass through every construct.
use Rattle.std.proofs.Common.{ℕ, zero, suc, ◌<◌, ◌≤◌, Bool, true, false, cond, length, Result, Ok, Err, arith}
use Rattle.marks.specs.declared.side.Side.{Side}
use Rattle.marks.specs.declared.fault.FaultKind.{FaultKind}
use Rattle.marks.specs.Wants.{Want, Outside, Turns, Loads, Stores, Enters, Leaves, Allocs, Frees, Calls, Below, Gives, Returns, CallsBack, UpReturns, Steps, Fails, Answer, Go, Value, Frame, CalledBack, Stopped}
use Rattle.c_code.specs.declared.shape.Shape.{Shape}
use Rattle.c_code.specs.declared.shape.Shape.TheVariants.{Pointer}
use Rattle.c_code.specs.Values.{at_zero, is_value}
use Rattle.c_code.proofs.Sides.{IsPlain}
use Rattle.c_semantics.specs.Reading.{Marks, wrong, ended, ask, fails, or_fault, with_value, with_any, with_frame}

-- the lists on the left have no more marks than this, those on the right no more than that
pub record Bounds : Type 0 where
  pub left : ℕ
  pub right : ℕ

abbrev pub Less : Bounds → Bounds → Type 0
Less j k = (j.left < k.left) × (j.right < k.right)

abbrev pub AtMost : Bounds → Bounds → Type 0
AtMost j k = (j.left ≤ k.left) × (j.right ≤ k.right)

pub itself : (k : Bounds) → AtMost k k
itself k = (omega arith, omega arith)

pub lower : (j k : Bounds) → Less j k → AtMost j k
lower j k lt = (let l = lt.0 in omega arith, let r = lt.1 in omega arith)

pub through : (i j k : Bounds) → AtMost i j → AtMost j k → AtMost i k
through i j k a b = (let x = a.0 in let y = b.0 in omega arith, let x = a.1 in let y = b.1 in omega arith)

-- a relation that each mark of those that it follows brings down to fewer marks, and that what is counted by marks keeps
pub record Relation : Type 1 where
  pub rel : Bounds → Marks → Marks → Type 0
  pub follows : Side → Want → Type 0
  pub weaker : (j k : Bounds) (p q : Marks) → AtMost j k → rel k p q → rel j p q
  pub wrongs : (k : Bounds) → rel k wrong wrong
  pub asks : (k : Bounds) (side : Side) (want : Want) → follows side want → (go on : Answer → Marks) → ((a : Answer) (j : Bounds) → Less j k → rel j (go a) (on a)) → rel k (ask side want go) (ask side want on)
  pub counted : (k : Bounds) (f g : ℕ → Marks) → ((j : Bounds) (n m : ℕ) → AtMost j k → j.left < n → j.right < m → rel j (f n) (g m)) → rel k (λ ms. f (suc (length ms)) ms) (λ ms. g (suc (length ms)) ms)

-- it follows all marks
abbrev pub FollowsAll : Relation → Type 0
FollowsAll R = (side : Side) (want : Want) → R.follows side want

-- it passes through ends with any value
abbrev pub PassesEnds : Relation → Type 0
PassesEnds R = (k : Bounds) (v : ℕ) → R.rel k (ended v) (ended v)

-- what a function wants besides its calls
abbrev pub IsBare : Want → Type 0
IsBare Outside = ⊥
IsBare Turns = Unit {0}
IsBare (Loads o at n) = Unit {0}
IsBare (Stores o at bytes) = Unit {0}
IsBare (Enters i f args bytes) = ⊥
IsBare (Leaves at n) = Unit {0}
IsBare (Allocs n) = ⊥
IsBare (Frees at) = ⊥
IsBare (Calls i f args) = ⊥
IsBare (Below f args) = ⊥
IsBare (Gives f args) = ⊥
IsBare (Returns f args v) = ⊥
IsBare (CallsBack f args bytes) = ⊥
IsBare (UpReturns f v) = ⊥
IsBare (Steps i f args) = ⊥
IsBare (Fails kind) = Unit {0}

pub bare_plain : (want : Want) → IsBare want → IsPlain want
bare_plain Turns b = tt
bare_plain (Loads o at n) b = tt
bare_plain (Stores o at bytes) b = tt
bare_plain (Leaves at n) b = tt
bare_plain (Fails kind) b = tt
bare_plain Outside b = absurd b
bare_plain (Enters i f args bytes) b = absurd b
bare_plain (Allocs n) b = absurd b
bare_plain (Frees at) b = absurd b
bare_plain (Calls i f args) b = absurd b
bare_plain (Below f args) b = absurd b
bare_plain (Gives f args) b = absurd b
bare_plain (Returns f args v) b = absurd b
bare_plain (CallsBack f args bytes) b = absurd b
bare_plain (UpReturns f v) b = absurd b
bare_plain (Steps i f args) b = absurd b

-- it follows the marks of the side that a function makes besides its calls
abbrev pub FollowsPlain : Relation → Side → Type 0
FollowsPlain R side = (want : Want) → IsBare want → R.follows side want

-- for each value that comes before
abbrev pub Cuts : Relation → Bounds → (ℕ → Marks) → (ℕ → Marks) → Type 0
Cuts R k go on = (v : ℕ) → R.rel k (go v) (on v)

pub cut_fails : (R : Relation) (k : Bounds) (side : Side) (kind : FaultKind) → FollowsPlain R side → R.rel k (fails side kind) (fails side kind)
cut_fails R k side kind p = R.asks k side (Fails kind) (p (Fails kind) tt) (λ a. wrong) (λ a. wrong) (λ a j lt. R.wrongs j)

pub cut_or_fault : (R : Relation) (k : Bounds) (side : Side) (r : Result ℕ FaultKind) (go on : ℕ → Marks) → FollowsPlain R side → Cuts R k go on → R.rel k (or_fault side r go) (or_fault side r on)
cut_or_fault R k side (Ok v) go on p h = h v
cut_or_fault R k side (Err kind) go on p h = cut_fails R k side kind p

pub cut_cond : (R : Relation) (k : Bounds) (b : Bool) (p q s t : Marks) → R.rel k p q → R.rel k s t → R.rel k (cond b p s) (cond b q t)
cut_cond R k true p q s t c d = c
cut_cond R k false p q s t c d = d

pub cut_at_zero : (R : Relation) (k : Bounds) (v : ℕ) (p q s t : Marks) → R.rel k p q → R.rel k s t → R.rel k (at_zero v p s) (at_zero v q t)
cut_at_zero R k zero p q s t c d = c
cut_at_zero R k (suc v) p q s t c d = d

pub cut_value : (R : Relation) (k : Bounds) (shape : Shape) (go on : ℕ → Marks) → Cuts R k go on → (a : Answer) → R.rel k (with_value shape go a) (with_value shape on a)
cut_value R k shape go on h (Value v) = cut_cond R k (is_value shape v) (go v) (on v) wrong wrong (h v) (R.wrongs k)
cut_value R k shape go on h Go = R.wrongs k
cut_value R k shape go on h (Frame at) = R.wrongs k
cut_value R k shape go on h (CalledBack g args) = R.wrongs k
cut_value R k shape go on h Stopped = R.wrongs k

pub cut_any : (R : Relation) (k : Bounds) (go on : ℕ → Marks) → Cuts R k go on → (a : Answer) → R.rel k (with_any go a) (with_any on a)
cut_any R k go on h (Value v) = h v
cut_any R k go on h Go = R.wrongs k
cut_any R k go on h (Frame at) = R.wrongs k
cut_any R k go on h (CalledBack g args) = R.wrongs k
cut_any R k go on h Stopped = R.wrongs k

pub cut_frame : (R : Relation) (k : Bounds) (go on : ℕ → Marks) → Cuts R k go on → (a : Answer) → R.rel k (with_frame go a) (with_frame on a)
cut_frame R k go on h (Frame at) = cut_cond R k (is_value Pointer at) (go at) (on at) wrong wrong (h at) (R.wrongs k)
cut_frame R k go on h Go = R.wrongs k
cut_frame R k go on h (Value v) = R.wrongs k
cut_frame R k go on h (CalledBack g args) = R.wrongs k
cut_frame R k go on h Stopped = R.wrongs k

pub weaker_all : (R : Relation) (j k : Bounds) (go on : ℕ → Marks) → AtMost j k → Cuts R k go on → Cuts R j go on
weaker_all R j k go on le h v = R.weaker j k (go v) (on v) le (h v)
