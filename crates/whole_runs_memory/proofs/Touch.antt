-- What the tests of one access below the cut find, whatever tests come after them.
use Rattle.std.proofs.Common.{◌≡◌, ◌⊎◌, ℕ, ◌-◌, ◌^◌, ◌<◌, ◌≤◌, Bool, true, false, leb, ltb, List, Option, Some, None, inl, inr, refl, sym, ◌∙◌, arith}
use Rattle.std.proofs.lemmas.Bool.{cases_lt, cases_Bool, and_parts, and_from, le-leb, lt-ltb, leb-true, ltb-true, true≢false}
use Rattle.marks.specs.Places.{thread_count, constants, replay_globals, replay_end, system_globals, system_end, is_constant, is_replay, is_system}
use Rattle.marks.specs.declared.range.Range.{Range}
use Rattle.marks.specs.Ranges.{Piece, covers, IsInRange, NoneIn, IsLeastIn}
use Rattle.marks.specs.Marks.{Mark}
use Rattle.marks.specs.Bytes.{Dead}
use Rattle.memory_map.specs.declared.areas.TheConstants.{CONSTANTS, REPLAY_MEMORY}
use Rattle.space_memory_bytes.specs.Areas.{byte_at, IsDead}
use Rattle.space_memory_access.specs.declared.holder.Region.{Region}
use Rattle.space_memory_access.specs.declared.refusal.Refusal.{Refusal}
use Rattle.space_memory_access.specs.declared.refusal.Refusal.TheVariants.{NotLive, Pending, OtherSpace, ReadOnly, StackFull, KeyInUse, NoKey, Size}
use Rattle.space_memory_access.specs.Accesses.{HasRight, IsWithoutRight, IsConstantTo, IsAllowed, IsRefused}
use Rattle.space_memory.specs.Spaces.{SpaceState}
use Rattle.space_memory_laws.specs.Shown.{cell_of, value_when_held}
use Rattle.space_memory_laws.specs.Refusals.{finding_of}
use Rattle.space_memory_laws.proofs.Cells.{cover_parts, covered, live_ends}
use Rattle.space_memory_laws.proofs.Rights.{rights}
use Rattle.replay_runs.specs.Checks.{Finding, Checks, Passes, Finds, Least}
use Rattle.whole_runs.specs.World.{World, begin}
use Rattle.whole_runs.specs.Sides.{seen}
use Rattle.whole_runs.specs.Memory.{real}
use Rattle.whole_runs.specs.Below.{MayTouch, IsForbidden, touch_checks}
use Rattle.whole_runs_memory.specs.Stands.{InStep}
use Rattle.whole_runs_memory.specs.Refusals.{access_below}
use Rattle.whole_runs_memory.proofs.Bytes.{filled_none}

-- ---- cells

dead_shown : (b v : Option ℕ) → b ≡ None → cell_of b v ≡ Dead
dead_shown None v e = refl
dead_shown (Some n) v e = absurd cc

shown_dead : (b v : Option ℕ) → cell_of b v ≡ Dead → b ≡ None
shown_dead None v e = refl
shown_dead (Some n) None e = absurd cc
shown_dead (Some n) (Some u) e = absurd cc

-- ---- areas

pub in_replay : (x : ℕ) → is_replay x ≡ true → IsInRange REPLAY_MEMORY x
in_replay x is =
    let p = and_parts (leb replay_globals x) (ltb x replay_end) is in
    let low : replay_globals ≤ x = leb-true replay_globals x p.0 in
    let high : x < replay_end = ltb-true x replay_end p.1 in
    (low, omega (arith, high), omega (arith, high))

pub replay_in : (x : ℕ) → IsInRange REPLAY_MEMORY x → is_replay x ≡ true
replay_in x p = and_from (leb replay_globals x) (ltb x replay_end) (le-leb replay_globals x p.0) (lt-ltb x replay_end (omega (arith, p.1)))

not_system : (x : ℕ) → is_replay x ≡ true → is_system x ≡ false
not_system x is = elim (cases_Bool (is_system x)) [
  | inr not ↦ not
  | inl other ↦
      let high : x < replay_end = ltb-true x replay_end (and_parts (leb replay_globals x) (ltb x replay_end) is).1 in
      let low : system_globals ≤ x = leb-true system_globals x (and_parts (leb system_globals x) (ltb x system_end) other).0 in
      absurd (omega (arith, high, low))
]

in_constants : (x : ℕ) → is_constant x ≡ true → IsInRange CONSTANTS x
in_constants x is =
    let p = and_parts (leb constants x) (ltb x replay_globals) is in
    let low : constants ≤ x = leb-true constants x p.0 in
    let high : x < replay_globals = ltb-true x replay_globals p.1 in
    (low, omega (arith, high), omega (arith, high))

pub constants_in : (x : ℕ) → IsInRange CONSTANTS x → is_constant x ≡ true
constants_in x p = and_from (leb constants x) (ltb x replay_globals) (le-leb constants x p.0) (lt-ltb x replay_globals (omega (arith, p.1)))

constant_to : (write : Bool) (x : ℕ) → write ≡ true → is_constant x ≡ true → IsConstantTo write x
constant_to true x e is = in_constants x is
constant_to false x e is = true≢false (sym e)

to_constant : (write : Bool) (x : ℕ) → IsConstantTo write x → (write ≡ true) × (is_constant x ≡ true)
to_constant true x p = (refl, constants_in x p)
to_constant false x p = absurd p

-- ---- the tests of a range

module _ (w : World) (past : List Mark) (pieces : List Piece) (memory : SpaceState) (t : ℕ) (write : Bool) (r : Range) (h : InStep w past pieces memory) (lt : t < thread_count) (small : r.addr < 2 ^ 64) where
  abbrev regions : List Region
  regions = memory.held.regions

  -- what memory says of a byte is what the run says
  dead_is : (x : ℕ) → IsDead memory.bytes x → real w past x ≡ None
  dead_is x dead = filled_none pieces x (real w past x) (sym (h.stands.bytes x) ∙ dead)

  may_touch : (x : ℕ) → is_replay x ≡ true → HasRight memory.bytes regions (access_below t write r) x → MayTouch w past t write x
  may_touch x is right = (
    λ e. right.0 (shown_dead (byte_at memory.bytes x) (value_when_held regions x) (sym (h.stands.above.bytes x (not_system x is)) ∙ e)),
    (rights (begin w) (seen past) memory t write x h.stands.above lt).0 right.1,
  )

  has_right : (x : ℕ) → is_replay x ≡ true → MayTouch w past t write x → HasRight memory.bytes regions (access_below t write r) x
  has_right x is may = (
    λ dead. may.0 (h.stands.above.bytes x (not_system x is) ∙ dead_shown (byte_at memory.bytes x) (value_when_held regions x) dead),
    (rights (begin w) (seen past) memory t write x h.stands.above lt).1 may.1,
  )

  abbrev IsForeign : ℕ → Type 0
  IsForeign x = IsWithoutRight memory.bytes regions (access_below t write r) x

  forbidden : (x : ℕ) → IsForeign x → IsForbidden w past t write x
  forbidden x p = let is = replay_in x p.0 in (is, λ may. p.1 (has_right x is may))

  foreign : (x : ℕ) → IsForbidden w past t write x → IsForeign x
  foreign x p = (in_replay x p.0, λ right. p.1 (may_touch x p.0 right))

  inside : (x : ℕ) → covers r x ≡ true → x < 2 ^ 64 → IsInRange r x
  inside x c few = let p = cover_parts r x c in (p.0, p.1, few)

  covers_it : (x : ℕ) → IsInRange r x → covers r x ≡ true
  covers_it x p = covered r x p.0 p.1

  -- ---- the three that are bad

  abbrev Other : ℕ → Type 0
  Other x = (covers r x ≡ true) × IsForbidden w past t write x

  abbrev Gone : ℕ → Type 0
  Gone x = (covers r x ≡ true) × (real w past x ≡ None)

  abbrev Fixed : ℕ → Type 0
  Fixed x = (covers r x ≡ true) × (write ≡ true) × (is_constant x ≡ true)

  none_other : NoneIn r IsForeign → (x : ℕ) → Other x → ⊥
  none_other none x p = let f = foreign x p.1 in none x (inside x p.0 f.0.2) f

  none_foreign : ((x : ℕ) → Other x → ⊥) → NoneIn r IsForeign
  none_foreign none x p f = none x (covers_it x p, forbidden x f)

  -- the last address is dead, so that what goes past it has a dead byte before
  last_dead : (x : ℕ) → covers r x ≡ true → 2 ^ 64 ≤ x → Gone (2 ^ 64 - 1)
  last_dead x c past_it =
      let p = cover_parts r x c in
      (covered r (2 ^ 64 - 1) (omega (arith, small)) (omega (arith, p.1, past_it)), dead_is (2 ^ 64 - 1) (h.stands.above.sound.ends (2 ^ 64 - 1) (omega arith)))

  none_gone : NoneIn r (IsDead memory.bytes) → (x : ℕ) → Gone x → ⊥
  none_gone live x p =
      let ends = live_ends memory.bytes r h.stands.above.sound.ends small live in
      let q = cover_parts r x p.0 in
      live x (q.0, q.1, omega (arith, q.1, ends)) (h.dead x p.1)

  none_dead : ((x : ℕ) → Gone x → ⊥) → NoneIn r (IsDead memory.bytes)
  none_dead none x p dead = none x (covers_it x p, dead_is x dead)

  none_fixed : NoneIn r (IsConstantTo write) → (x : ℕ) → Fixed x → ⊥
  none_fixed none x p = let q = in_constants x p.2 in none x (inside x p.0 q.2) (constant_to write x p.1 p.2)

  none_constant : ((x : ℕ) → Fixed x → ⊥) → NoneIn r (IsConstantTo write)
  none_constant none x p c = let q = to_constant write x c in none x (covers_it x p, q.0, q.1)

  -- ---- the least of each

  least_other : (x : ℕ) → IsLeastIn r IsForeign x → Least Other x
  least_other x p = ((covers_it x p.in_range, forbidden x p.holds), λ y q. let f = foreign y q.1 in p.least y (inside y q.0 f.0.2) f)

  least_foreign : (x : ℕ) → Least Other x → IsLeastIn r IsForeign x
  least_foreign x p = let f = foreign x p.0.1 in record { in_range = inside x p.0.0 f.0.2; holds = f; least = λ y q g. p.1 y (covers_it y q, forbidden y g) }

  least_gone : (x : ℕ) → IsLeastIn r (IsDead memory.bytes) x → Least Gone x
  least_gone x p = (
    (covers_it x p.in_range, dead_is x p.holds),
    λ y q. elim (cases_lt y (2 ^ 64)) [
      | inl few ↦ p.least y (inside y q.0 few) (h.dead y q.1)
      | inr many ↦ omega (arith, many, p.in_range.2)
    ],
  )

  least_dead : (x : ℕ) → Least Gone x → IsLeastIn r (IsDead memory.bytes) x
  least_dead x p = record {
    in_range = inside x p.0.0 few;
    holds = h.dead x p.0.1;
    least = λ y q dead. p.1 y (covers_it y q, dead_is y dead);
  }
    where
      few : x < 2 ^ 64
      few = elim (cases_lt x (2 ^ 64)) [
        | inl small' ↦ small'
        | inr many ↦ (let l = p.1 (2 ^ 64 - 1) (last_dead x p.0.0 many) in omega (arith, l, many))
      ]

  least_fixed : (x : ℕ) → IsLeastIn r (IsConstantTo write) x → Least Fixed x
  least_fixed x p =
      let c = to_constant write x p.holds in
      ((covers_it x p.in_range, c.0, c.1), λ y q. let d = in_constants y q.2 in p.least y (inside y q.0 d.2) (constant_to write y q.1 q.2))

  least_constant : (x : ℕ) → Least Fixed x → IsLeastIn r (IsConstantTo write) x
  least_constant x p =
      let c = in_constants x p.0.2 in
      record { in_range = inside x p.0.0 c.2; holds = constant_to write x p.0.1 p.0.2; least = λ y q d. let e = to_constant write y d in p.1 y (covers_it y q, e.0, e.1) }

  -- ---- what is found

  abbrev Refused : Refusal → Type 0
  Refused = IsRefused memory.bytes regions (access_below t write r)

  abbrev Allowed : Type 0
  Allowed = IsAllowed memory.bytes regions (access_below t write r)

  pub refused_found : (cs : Checks) (f : Refusal) → Refused f → Finds (touch_checks w past t write r cs) (finding_of f)
  refused_found cs (OtherSpace x) p = inl (x, least_other x p, refl)
  refused_found cs (NotLive x) p = inr (none_other p.0, inl (x, least_gone x p.1, refl))
  refused_found cs (Pending x) p = absurd p.2.holds
  refused_found cs (ReadOnly x) p = inr (none_other p.0, inr (none_gone p.1, inl (x, least_fixed x p.3, refl)))
  refused_found cs (StackFull x) p = absurd p
  refused_found cs (KeyInUse x) p = absurd p
  refused_found cs (NoKey x) p = absurd p
  refused_found cs (Size x) p = absurd p

  allowed_from : ((x : ℕ) → Other x → ⊥) → ((x : ℕ) → Gone x → ⊥) → ((x : ℕ) → Fixed x → ⊥) → Allowed
  allowed_from a b c = record { own = none_foreign a; live = none_dead b; free = λ x p q. q; writable = none_constant c }

  pub found_refused : (cs : Checks) (f : Finding) → Finds (touch_checks w past t write r cs) f → ((k : Refusal) × Refused k × (f ≡ finding_of k)) ⊎ (Allowed × Finds cs f)
  found_refused cs f (inl p) = inl (OtherSpace p.0, least_foreign p.0 p.1, p.2)
  found_refused cs f (inr (a, inl p)) = inl (NotLive p.0, (none_foreign a, least_dead p.0 p.1), p.2)
  found_refused cs f (inr (a, inr (b, inl p))) = inl (ReadOnly p.0, (none_foreign a, none_dead b, (λ x q e. e), least_constant p.0 p.1), p.2)
  found_refused cs f (inr (a, inr (b, inr (c, p)))) = inr (allowed_from a b c, p)

  pub allowed_passes : (cs : Checks) → Allowed → Passes cs → Passes (touch_checks w past t write r cs)
  allowed_passes cs ok p = (none_other ok.own, (none_gone ok.live, (none_fixed ok.writable, p)))

  pub passes_allowed : (cs : Checks) → Passes (touch_checks w past t write r cs) → Allowed
  passes_allowed cs p = allowed_from p.0 p.1.0 p.1.1.0

  pub allowed_finds : (cs : Checks) (f : Finding) → Allowed → Finds cs f → Finds (touch_checks w past t write r cs) f
  allowed_finds cs f ok p = inr (none_other ok.own, inr (none_gone ok.live, inr (none_fixed ok.writable, p)))
