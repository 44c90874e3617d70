-- Places of a source: what is kept there whatever the thread's marks were, as long as it holds the mutexes of the place.
use Rattle.std.proofs.Common.{◌≡◌, ℕ, ◌<◌, ◌≤◌, ℤ, Bool, true, false, cond, List, [], ◌∷◌, None, refl, sym, ap, ◌∙◌, arith}
use Rattle.r2_num.specs.declared.kinds.IntKind.TheVariants.{I32}
use Rattle.r2_num.specs.Kinds.{IsValue}
use Rattle.marks.specs.declared.side.Side.{Side}
use Rattle.marks.specs.Marks.{Mark}
use Rattle.marks.specs.Ranges.{bytes_of_number}
use Rattle.marks.specs.Wants.{Want, Loads, Stores, Answer}
use Rattle.c_code.specs.Values.{converted, written}
use Rattle.c_types_model.specs.Types.{CType}
use Rattle.c_builtins.specs.declared.builtin.Builtin.{Builtin}
use Rattle.c_builtins.specs.declared.builtin.Builtin.TheVariants.{Malloc, Free, Spawn, Join, Lock, Unlock, Print}
use Rattle.c_builtins.specs.Table.{first_source_function, number_of}
use Rattle.c_types_rules.specs.TypedTree.{Object, object_type}
use Rattle.c_types_rules.specs.TypeTests.{is_scalar}
use Rattle.c_semantics.specs.Reading.{Marks, ask, with_any}
use Rattle.c_semantics.specs.Context.{kind_of}
use Rattle.c_semantics.specs.Values.{Here, fetch, is_read, load, origin, store, width}
use Rattle.c_semantics.proofs.ReplayMarks.{bounds}
use Rattle.c_semantics.proofs.ValuePrefixes.{Makes, CallsCut, fewer}
use Rattle.lockset_check_rules.specs.Mutexes.{Locks, are_held, with_lock, without_lock}
use Rattle.lockset_check_rules.specs.Guards.{Guarded}
use Rattle.lockset_check_rules.specs.Values.{loaded, touched}
use Rattle.lockset_check_laws.specs.Locks.{Other}
use Rattle.lockset_check_threads.specs.Wants.{KeepsLocks, calls}
use Rattle.lockset_check_threads.proofs.Asked.{Kept, ask_kept, with_any_kept}
use Rattle.lockset_check_threads.proofs.Deeds.{deeds, wanted_deed}
use Rattle.lockset_check_threads.proofs.Fuel.{alike}
use Rattle.lockset_check_threads.proofs.Holding.{Holds, quiet}
use Rattle.lockset_check_threads.proofs.Sets.{In}
use Rattle.lockset_check_threads.proofs.Touched.{loads, same_scalar, stores, touched_held}

-- what calls make where code runs
abbrev pub own_calls : Here → Makes
own_calls h = record { call = h.call; call_at = h.call_at }

-- a builtin that neither locks nor unlocks
abbrev pub IsOther : Builtin → Type 0
IsOther Malloc = Unit {0}
IsOther Free = Unit {0}
IsOther Spawn = Unit {0}
IsOther Join = Unit {0}
IsOther Lock = ⊥
IsOther Unlock = ⊥
IsOther Print = Unit {0}

module _ (r : Guarded) (runs : ℕ → Bool) (outside : ℕ → Side → Type 0) (side : Side) where
  -- whatever the marks before, with these mutexes held
  abbrev pub Starts : ℕ → Locks → Marks → Type 0
  Starts k s p = (mine : List Mark) → Holds s outside side mine → Kept r runs k mine p

  -- what follows, after some marks or none
  abbrev pub Then : ℕ → Locks → Marks → Type 0
  Then k s p = (j : ℕ) → j ≤ k → Starts j s p

  -- what follows a value
  abbrev pub Goes : ℕ → Locks → (ℕ → Marks) → Type 0
  Goes k s go = (j : ℕ) → j ≤ k → (x : ℕ) → Starts j s (go x)

  -- what follows the values of arguments
  abbrev pub GoesOn : ℕ → Locks → (List ℕ → Marks) → Type 0
  GoesOn k s go = (j : ℕ) → j ≤ k → (xs : List ℕ) → Starts j s (go xs)

  pub later : (j k : ℕ) (s : Locks) (go : ℕ → Marks) → j ≤ k → Goes k s go → Goes j s go
  later j k s go le c i li x = c i (omega arith) x

  pub later_on : (j k : ℕ) (s : Locks) (go : List ℕ → Marks) → j ≤ k → GoesOn k s go → GoesOn j s go
  later_on j k s go le c i li x = c i (omega arith) x

  -- a mark that neither locks nor unlocks, on this side or another
  pub asks_there : (there : Side) (k : ℕ) (s : Locks) (want : Want) → ((x : Answer) → wanted_deed want x ≡ Other) → ((mine : List Mark) → Holds s outside side mine → KeepsLocks r there mine want) → (go : Answer → Marks) → ((j : ℕ) → j < k → (x : Answer) → Starts j s (go x)) → Starts k s (ask there want go)
  asks_there there k s want is now go next mine h =
      ask_kept r runs k mine there want go (now mine h)
      (λ m x e heard allowed free j lt. next j lt x (m ∷ mine) (quiet s outside side m mine (deeds there want m x e heard ∙ is x) h))

  pub asks : (k : ℕ) (s : Locks) (want : Want) → ((x : Answer) → wanted_deed want x ≡ Other) → ((mine : List Mark) → Holds s outside side mine → KeepsLocks r side mine want) → (go : Answer → Marks) → ((j : ℕ) → j < k → (x : Answer) → Starts j s (go x)) → Starts k s (ask side want go)
  asks = asks_there side

module _ (r : Guarded) (runs : ℕ → Bool) (h : Here) (outside : ℕ → Side → Type 0) where
  abbrev S : ℕ → Locks → Marks → Type 0
  S = Starts r runs outside h.side

  abbrev G : ℕ → Locks → (ℕ → Marks) → Type 0
  G = Goes r runs outside h.side

  -- ---- accesses

  pub fetch_kept : (k : ℕ) (s : Locks) (o : Object) (go : ℕ → Marks) (a : ℕ) → touched r o s ≡ [] → G k s go → S k s (fetch h (origin o) (object_type o) go a)
  fetch_kept k s o go a found c =
      let t = object_type o in
      asks r runs outside h.side k s (Loads (origin o) a (width t)) (λ x. refl)
      (λ mine hold. loads r outside h.side (origin o) a (width t) mine (touched_held r outside h.side o s mine found hold))
      (with_any (λ v. go (converted (kind_of t) v)))
      (λ j lt x mine hold. with_any_kept r runs j mine (λ v. go (converted (kind_of t) v)) x (λ v. c j (omega arith) (converted (kind_of t) v) mine hold))

  pub load_kept : (k : ℕ) (s : Locks) (o : Object) (go : ℕ → Marks) (a : ℕ) → loaded r o s ≡ [] → G k s go → S k s (load h (origin o) (object_type o) go a)
  load_kept k s o go a found c = by (is_read (object_type o)) refl
    where
      by : (b : Bool) → is_read (object_type o) ≡ b → S k s (cond b (fetch h (origin o) (object_type o) go a) (go a))
      by true e =
          let scalar : is_scalar (object_type o) ≡ true = sym (same_scalar (object_type o)) ∙ e in
          fetch_kept k s o go a (sym (ap (λ b. cond b (touched r o s) []) scalar) ∙ found) c
      by false e = c k (omega arith) a

  pub store_kept : (k : ℕ) (s : Locks) (o : Object) (a v : ℕ) (go : Marks) → touched r o s ≡ [] → Then r runs outside h.side k s go → S k s (store h (origin o) (object_type o) a v go)
  store_kept k s o a v go found c =
      let bytes = bytes_of_number (width (object_type o)) v in
      asks r runs outside h.side k s (Stores (origin o) a bytes) (λ x. refl)
      (λ mine hold. stores r outside h.side (origin o) a bytes mine (touched_held r outside h.side o s mine found hold))
      (λ x. go) (λ j lt x. c j (omega arith))

  -- a local is stored to
  pub local_kept : (k : ℕ) (s : Locks) (t : CType) (a v : ℕ) (go : Marks) → Then r runs outside h.side k s go → S k s (store h None t a v go)
  local_kept k s t a v go c =
      asks r runs outside h.side k s (Stores None a (bytes_of_number (width t) v)) (λ x. refl) (λ mine hold. record { touches = tt; unlocks = tt })
      (λ x. go) (λ j lt x. c j (omega arith))

  -- ---- calls

  -- what calls make is kept where what follows them is
  pub record CallsKept (k : ℕ) : Type 0 where
    pub same : CallsCut alike (bounds k k) h (own_calls h)
    pub named : (j : ℕ) → j ≤ k → (f : ℕ) → first_source_function ≤ f → (s : Locks) → are_held (r.holds f) s ≡ true → (args : List ℕ) (go : ℕ → Marks) → G j s go → S j s (h.call f args go)
    pub pointed : (j : ℕ) → j ≤ k → (t : CType) (a : ℕ) (s : Locks) (args : List ℕ) (go : ℕ → Marks) → G j s go → S j s (h.call_at t a args go)
    pub others : (j : ℕ) → j ≤ k → (b : Builtin) → IsOther b → (s : Locks) (args : List ℕ) (go : ℕ → Marks) → G j s go → S j s (h.call (number_of b) args go)
    pub locked : (j : ℕ) → j ≤ k → (z : ℤ) → IsValue I32 z → (s : Locks) (go : ℕ → Marks) → G j (with_lock z s) go → S j s (h.call calls.lock (written z ∷ []) go)
    pub unlocked : (j : ℕ) → j ≤ k → (z : ℤ) (s : Locks) → In z s → (go : ℕ → Marks) → G j (without_lock z s) go → S j s (h.call calls.unlock (written z ∷ []) go)

  pub fewer_calls : (j k : ℕ) → j ≤ k → CallsKept k → CallsKept j
  fewer_calls j k le c = record {
    same = fewer alike (bounds j j) (bounds k k) h (own_calls h) (le, le) c.same;
    named = λ i li. c.named i (omega arith);
    pointed = λ i li. c.pointed i (omega arith);
    others = λ i li. c.others i (omega arith);
    locked = λ i li. c.locked i (omega arith);
    unlocked = λ i li. c.unlocked i (omega arith);
  }
