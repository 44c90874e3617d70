-- Where nothing is found at an access, the thread holds the guard of the global that is touched.
use Rattle.std.proofs.Common.{◌≡◌, ℕ, ℤ, Bool, true, false, cond, List, [], ◌∷◌, ◌++◌, Option, Some, None, refl, sym, ap, ◌∙◌}
use Rattle.std.specs.Prelude.{option_map}
use Rattle.marks.specs.declared.side.Side.{Side}
use Rattle.marks.specs.Marks.{Mark}
use Rattle.marks.specs.Wants.{Loads, Stores}
use Rattle.c_code.specs.Values.{written}
use Rattle.c_types_model.specs.Types.{CType, Void, Integer, PointerTo, ArrayOf, StructOf, UndefinedStruct, FunctionOf}
use Rattle.c_types_rules.specs.TypeTests.{is_scalar}
use Rattle.c_types_rules.specs.TypedTree.{Object, Value, PointerPlus, PlusPointer, PointerMinus, GlobalObject, LocalObject, TextObject, Pointed, Element, MemberOf, Constant, FunctionAddress, ReadOf, AddressOf, Convert, Negate, Complement, Arithmetic, PointerSum, PointerDifference, PointerComparison, Not, Both, Either, Choice, Sequence, Assigned, Changed, Moved, Stepped, CallOf, object_type}
use Rattle.c_semantics.specs.Values.{array_origin, is_read, origin}
use Rattle.c_semantics.specs.Values as semantics
use Rattle.lockset_check_rules.specs.declared.mention.Mention.{Mention}
use Rattle.lockset_check_rules.specs.declared.finding.LockFinding.TheVariants.{Unheld}
use Rattle.lockset_check_rules.specs.Mutexes.{Locks, is_held}
use Rattle.lockset_check_rules.specs.Guards.{Guarded, global_name, unheld, unheld_at}
use Rattle.lockset_check_rules.specs.Paths.{array_root, root}
use Rattle.lockset_check_rules.specs.Paths as paths
use Rattle.lockset_check_rules.specs.Values.{touched}
use Rattle.lockset_check_laws.specs.Locks.{taken}
use Rattle.lockset_check_threads.specs.Wants.{KeepsLocks, calls, guard_of}
use Rattle.lockset_check_threads.proofs.Sets.{held_in}
use Rattle.lockset_check_threads.proofs.Holding.{Holds}

-- ---- the global with which a path begins

same_decay : (t u : CType) → semantics.decayed t u ≡ paths.decayed t u
same_decay (ArrayOf n t) (PointerTo u) = refl
same_decay t u = refl

abbrev place_of : Option Mention → Option ℕ
place_of o = option_map (λ (m : Mention). m.place) o

at_decay : (b : Bool) (o : Option ℕ) (m : Option Mention) → o ≡ place_of m → cond b o None ≡ place_of (cond b m None)
at_decay true o m e = e
at_decay false o m e = refl

mutual
  same_root : (o : Object) → origin o ≡ place_of (root o)
  same_root (GlobalObject from place t) = refl
  same_root (LocalObject place t) = refl
  same_root (TextObject from n) = refl
  same_root (Pointed v t) = refl
  same_root (Element PointerPlus p i t) = same_array_root p
  same_root (Element PlusPointer p i t) = same_array_root p
  same_root (Element PointerMinus p i t) = refl
  same_root (MemberOf o number t) = same_root o

  same_array_root : (v : Value) → array_origin v ≡ place_of (array_root v)
  same_array_root (AddressOf o t) = ap (λ b. cond b (origin o) None) (same_decay (object_type o) t) ∙ at_decay (paths.decayed (object_type o) t) (origin o) (root o) (same_root o)
  same_array_root (Constant k n) = refl
  same_array_root (FunctionAddress from number t) = refl
  same_array_root (ReadOf o) = refl
  same_array_root (Convert t v) = refl
  same_array_root (Negate k v) = refl
  same_array_root (Complement k v) = refl
  same_array_root (Arithmetic op k a b) = refl
  same_array_root (PointerSum s p i size) = refl
  same_array_root (PointerDifference a b size) = refl
  same_array_root (PointerComparison op a b) = refl
  same_array_root (Not v) = refl
  same_array_root (Both a b) = refl
  same_array_root (Either a b) = refl
  same_array_root (Choice c a b) = refl
  same_array_root (Sequence a b) = refl
  same_array_root (Assigned o v) = refl
  same_array_root (Changed o op k v) = refl
  same_array_root (Moved o w i size) = refl
  same_array_root (Stepped o w g size) = refl
  same_array_root (CallOf f vs t) = refl

pub same_scalar : (t : CType) → is_read t ≡ is_scalar t
same_scalar (Integer k) = refl
same_scalar (PointerTo t) = refl
same_scalar Void = refl
same_scalar (ArrayOf n t) = refl
same_scalar (StructOf n) = refl
same_scalar (UndefinedStruct tag) = refl
same_scalar (FunctionOf t ts) = refl

-- ---- nothing is found

-- at neither of two places
pub in_neither : {A : Type 0} (a b : List A) → a ++ b ≡ [] → (a ≡ []) × (b ≡ [])
in_neither [] b e = (refl, e)
in_neither (x ∷ a) b e = absurd cc

-- where a test is asked for
pub asked : {A : Type 0} (b : Bool) (x : A) → cond b [] (x ∷ []) ≡ [] → b ≡ true
asked true x e = refl
asked false x e = absurd cc

patterned : (o : Option ℤ) (n : ℕ) → option_map written o ≡ Some n → (k : ℤ) × (o ≡ Some k) × (written k ≡ n)
patterned (Some k) n e = (k, refl, cc)
patterned None n e = absurd cc

module _ (r : Guarded) (outside : ℕ → Side → Type 0) (side : Side) where
  guarded_held : (m : Mention) (s : Locks) (k : ℤ) (g : Option ℤ) → r.guard m.place ≡ g → g ≡ Some k → unheld r m s ≡ [] → is_held k s ≡ true
  guarded_held m s k (Some j) e is found =
      let same : j ≡ k = cc in
      asked (is_held k s) (Unheld m.from (global_name r m.place)) (sym (ap (λ x. elim x [ Some z ↦ cond (is_held z s) [] (Unheld m.from (global_name r m.place) ∷ []) | None ↦ [] ]) (e ∙ is)) ∙ found)
  guarded_held m s k None e is found = absurd cc

  mention_held : (m : Option Mention) (s : Locks) (mine : List Mark) → unheld_at r m s ≡ [] → Holds s outside side mine → (p n : ℕ) → place_of m ≡ Some p → guard_of r p ≡ Some n → taken calls n mine ≡ Some side
  mention_held None s mine found h p n e g = absurd cc
  mention_held (Some m) s mine found h p n e g =
      let place : m.place ≡ p = cc in
      let q = patterned (r.guard p) n g in
      let at : r.guard m.place ≡ Some q.0 = ap r.guard place ∙ q.1 in
      ap (λ x. taken calls x mine) (sym q.2) ∙ h.held q.0 (held_in q.0 s (guarded_held m s q.0 (r.guard m.place) refl at found))

  -- an object is touched
  pub touched_held : (o : Object) (s : Locks) (mine : List Mark) → touched r o s ≡ [] → Holds s outside side mine → (p n : ℕ) → origin o ≡ Some p → guard_of r p ≡ Some n → taken calls n mine ≡ Some side
  touched_held o s mine found h p n e g = mention_held (root o) s mine found h p n (sym (same_root o) ∙ e) g

  -- a thread holds the guard of the global, if there is one
  abbrev pub Guards : Option ℕ → List Mark → Type 0
  Guards q mine = (p n : ℕ) → q ≡ Some p → guard_of r p ≡ Some n → taken calls n mine ≡ Some side

  pub loads : (q : Option ℕ) (at width : ℕ) (mine : List Mark) → Guards q mine → KeepsLocks r side mine (Loads q at width)
  loads None at width mine h = record { touches = tt; unlocks = tt }
  loads (Some p) at width mine h = record { touches = λ n g. h p n refl g; unlocks = tt }

  pub stores : (q : Option ℕ) (at : ℕ) (bytes : List ℕ) (mine : List Mark) → Guards q mine → KeepsLocks r side mine (Stores q at bytes)
  stores None at bytes mine h = record { touches = tt; unlocks = tt }
  stores (Some p) at bytes mine h = record { touches = λ n g. h p n refl g; unlocks = tt }
