-- Refusals of loads and stores are what the checks of a run find.
use Rattle.std.proofs.Common.{◌≡◌, ℕ, ◌+◌, ◌-◌, ◌^◌, ◌<◌, ◌≤◌, ◌⊎◌, Bool, true, false, leb, ltb, List, [], Option, Some, None, inl, inr, refl, ap, sym, ◌∙◌, subst, arith}
use Rattle.std.proofs.lemmas.Bool.{cases_lt, cases_Bool, lt-ltb, le-leb, leb-true, ltb-true, and_from, and_parts, true≢false}
use Rattle.marks.specs.Places.{constants, replay_globals, system_globals, system_end, is_constant, is_system}
use Rattle.marks.specs.declared.range.Range.{Range}
use Rattle.marks.specs.Ranges.{range, covers, IsInRange, NoneIn, IsLeastIn}
use Rattle.marks.specs.Marks.{Mark}
use Rattle.marks.specs.Bytes.{Dead, Live, Held, IsHeld}
use Rattle.memory_map.specs.declared.areas.TheConstants.{SYSTEM_MEMORY}
use Rattle.space_memory_bytes.specs.Areas.{IsDead}
use Rattle.space_memory_access.specs.Held.{IsPending}
use Rattle.space_memory_access.specs.declared.refusal.Refusal.{Refusal}
use Rattle.space_memory_access.specs.declared.refusal.Refusal.TheVariants.{NotLive, Pending, OtherSpace, ReadOnly, StackFull, KeyInUse, NoKey, Size}
use Rattle.space_memory_access.specs.Accesses.{IsConstantTo, IsAllowed, IsRefused}
use Rattle.replay_runs.specs.Runs.{Start, byte}
use Rattle.replay_runs.specs.Checks.{Finding, Done, Passes, Finds, Races, range_checks}
use Rattle.space_memory.specs.Spaces.{SpaceState}
use Rattle.space_memory.specs.Cells.{is_held}
use Rattle.replay_runs.specs.Passing.{Unraced}
use Rattle.space_memory_laws.specs.Shown.{value_when_held, cell_of}
use Rattle.space_memory_laws.specs.StandsFor.{StandsFor}
use Rattle.space_memory_laws.specs.Refusals.{finding_of, access, FindsWhatIsRefused, RacesComeSecond}
use Rattle.space_memory_laws.proofs.Cells.{cover_parts, covered, live_ends, unheld, held_by}
use Rattle.space_memory_laws.proofs.Least.{none_in}

-- addresses of system memory, and of constants
pub in_system : (x : ℕ) → is_system x ≡ true → IsInRange SYSTEM_MEMORY x
in_system x is =
    let p = and_parts (leb system_globals x) (ltb x system_end) is in
    let from : system_globals ≤ x = leb-true system_globals x p.0 in
    let to : x < system_end = ltb-true x system_end p.1 in
    (from, to, omega (arith, to))

pub system_in : (x : ℕ) → IsInRange SYSTEM_MEMORY x → is_system x ≡ true
system_in x p = and_from (leb system_globals x) (ltb x system_end) (le-leb system_globals x p.0) (lt-ltb x system_end p.1)

pub constant_to : (write : Bool) (x : ℕ) → IsConstantTo write x → (write ≡ true) × (is_constant x ≡ true)
constant_to true x p = (refl, and_from (leb constants x) (ltb x replay_globals) (le-leb constants x p.0) (lt-ltb x replay_globals p.1))
constant_to false x p = absurd p

pub constant_from : (write : Bool) (x : ℕ) → write ≡ true → is_constant x ≡ true → IsConstantTo write x
constant_from true x w is =
    let p = and_parts (leb constants x) (ltb x replay_globals) is in
    let from : constants ≤ x = leb-true constants x p.0 in
    let to : x < replay_globals = ltb-true x replay_globals p.1 in
    (from, to, omega (arith, to))
constant_from false x w is = absurd (true≢false (sym w))

-- what a cell says of the byte
dead_cell : (b h : Option ℕ) → cell_of b h ≡ Dead → b ≡ None
dead_cell None h e = refl
dead_cell (Some v) None e = absurd (live v e)
  where
    live : (v : ℕ) → Live v ≡ Dead → ⊥
    live v e = absurd cc
dead_cell (Some v) (Some u) e = absurd (held u e)
  where
    held : (u : ℕ) → Held u ≡ Dead → ⊥
    held u e = absurd cc

held_cell : (b h : Option ℕ) → IsHeld (cell_of b h) → h ≡ None → ⊥
held_cell None h is e = is
held_cell (Some v) None is e = is
held_cell (Some v) (Some u) is e = absurd (some u e)
  where
    some : (u : ℕ) → Some u ≡ None → ⊥
    some u e = absurd cc

cell_held : (b h : Option ℕ) (u : ℕ) → (b ≡ None → ⊥) → h ≡ Some u → IsHeld (cell_of b h)
cell_held None h u live e = live refl
cell_held (Some v) None u live e = absurd (some u e)
  where
    some : (u : ℕ) → None ≡ Some u → ⊥
    some u e = absurd cc
cell_held (Some v) (Some w) u live e = tt

module _ (s : Start) (past : List Mark) (memory : SpaceState) (h : StandsFor s past memory) where
  pub dead_byte : (x : ℕ) → is_system x ≡ false → (byte s x past).cell ≡ Dead → IsDead memory.bytes x
  dead_byte x own e = dead_cell _ _ (sym (h.bytes x own) ∙ e)

  pub byte_dead : (x : ℕ) → is_system x ≡ false → IsDead memory.bytes x → (byte s x past).cell ≡ Dead
  byte_dead x own e = h.bytes x own ∙ ap (λ b. cell_of b (value_when_held memory.held.regions x)) e

  pub pending_byte : (x : ℕ) → is_system x ≡ false → IsHeld (byte s x past).cell → IsPending memory.held.regions x
  pending_byte x own e = elim (cases_Bool (is_held memory.held.regions x)) [
    | inl is ↦ is
    | inr free ↦ absurd (held_cell _ _ (subst IsHeld (h.bytes x own) e) (unheld memory.held.regions x (λ p. true≢false (sym p ∙ free))))
  ]

  pub byte_pending : (x : ℕ) → is_system x ≡ false → (IsDead memory.bytes x → ⊥) → IsPending memory.held.regions x → IsHeld (byte s x past).cell
  byte_pending x own live p = let v = held_by memory.held.regions x p in subst IsHeld (sym (h.bytes x own)) (cell_held _ _ v.0 live v.1)

module _ (s : Start) (past : List Mark) (memory : SpaceState) (t addr len : ℕ) (write : Bool) (small : addr < 2 ^ 64) where
  abbrev r : Range
  r = record { addr = addr; len = len }

  pub none_foreign : NoneIn r (IsInRange SYSTEM_MEMORY) → (x : ℕ) → (covers r x ≡ true) × (is_system x ≡ true) → ⊥
  none_foreign own x bad = let p = cover_parts r x bad.0 in let q = in_system x bad.1 in own x (p.0, p.1, q.2) q

  pub no_foreign : ((x : ℕ) → (covers r x ≡ true) × (is_system x ≡ true) → ⊥) → NoneIn r (IsInRange SYSTEM_MEMORY)
  no_foreign none x in' is = none x (covered r x in'.0 in'.1, system_in x is)

  pub own_byte : NoneIn r (IsInRange SYSTEM_MEMORY) → (x : ℕ) → covers r x ≡ true → is_system x ≡ false
  own_byte own x c = elim (cases_Bool (is_system x)) [ inl is ↦ absurd (none_foreign own x (c, is)) | inr is ↦ is ]

  pub second : RacesComeSecond s past memory t addr len write
  second = record {
    other_space = λ x p. inl (x, ((covered r x p.in_range.0 p.in_range.1, system_in x p.holds), λ y bad. let q = cover_parts r y bad.0 in let z = in_system y bad.1 in p.least y (q.0, q.1, z.2) z), refl);
    race = λ f none found. inr (
      none_foreign (λ x in' is. none_in r is_system (λ y least. none y (record { in_range = least.in_range; holds = in_system y least.holds; least = λ z in'' is'. least.least z in'' (system_in z is') })) x in' (system_in x is)),
      elim found [
        | inl here ↦ inl here
        | inr later ↦ absurd later.1
      ],
    );
  }

module _ (s : Start) (past : List Mark) (memory : SpaceState) (t addr len : ℕ) (write : Bool) (h : StandsFor s past memory) (small : addr < 2 ^ 64) (unraced : Unraced past t write (range addr len)) where
  abbrev q : Range
  q = record { addr = addr; len = len }

  abbrev Own : Type 0
  Own = NoneIn q (IsInRange SYSTEM_MEMORY)

  abbrev AllThere : Type 0
  AllThere = NoneIn q (IsDead memory.bytes)

  no_race : (x : ℕ) → (covers q x ≡ true) × ((u : ℕ) × Races past t write x u) → ⊥
  no_race x bad = unraced x bad.1.0 bad.0 bad.1.1

  pub owned : Own → (x : ℕ) → covers q x ≡ true → is_system x ≡ false
  owned own x c = own_byte s past memory t addr len write small own x c

  -- the last address is dead, so a range with a dead byte has one that is an address
  pub first_dead : Own → (x : ℕ) → (covers q x ≡ true) × ((byte s x past).cell ≡ Dead) → (y : ℕ) × (y ≤ x) × (y < 2 ^ 64) × ((covers q y ≡ true) × ((byte s y past).cell ≡ Dead))
  first_dead own x bad = elim (cases_lt x (2 ^ 64)) [
    | inl lt ↦ (x, omega arith, lt, bad)
    | inr past' ↦
        let p = cover_parts q x bad.0 in
        let c : covers q (2 ^ 64 - 1) ≡ true = covered q (2 ^ 64 - 1) (omega (arith, small)) (omega (arith, p.1, past')) in
        (2 ^ 64 - 1, omega (arith, past'), omega arith, (c, byte_dead s past memory h (2 ^ 64 - 1) (owned own (2 ^ 64 - 1) c) (h.sound.ends (2 ^ 64 - 1) (omega arith))))
  ]

  pub none_dead : Own → AllThere → (x : ℕ) → (covers q x ≡ true) × ((byte s x past).cell ≡ Dead) → ⊥
  none_dead own there x bad =
      let k = first_dead own x bad in
      let p = cover_parts q k.0 k.3.0 in
      there k.0 (p.0, p.1, k.2) (dead_byte s past memory h k.0 (owned own k.0 k.3.0) k.3.1)

  pub no_dead : Own → ((x : ℕ) → (covers q x ≡ true) × ((byte s x past).cell ≡ Dead) → ⊥) → AllThere
  no_dead own none x in' dead = let c = covered q x in'.0 in'.1 in none x (c, byte_dead s past memory h x (owned own x c) dead)

  ends : AllThere → addr + len < 2 ^ 64
  ends there = live_ends memory.bytes q h.sound.ends small there

  abbrev IsPendingBad : ℕ → Type 0
  IsPendingBad x = (covers q x ≡ true) × (IsHeld (byte s x past).cell ⊎ (false ≡ true))

  pending_bad : Own → AllThere → (x : ℕ) → IsPendingBad x → IsInRange q x × IsPending memory.held.regions x
  pending_bad own there x bad =
      let p = cover_parts q x bad.0 in
      ((p.0, p.1, omega (arith, p.1, ends there)), elim bad.1 [ inl is ↦ pending_byte s past memory h x (owned own x bad.0) is | inr wrong ↦ absurd (true≢false (sym wrong)) ])

  bad_pending : Own → AllThere → (x : ℕ) → IsInRange q x → IsPending memory.held.regions x → IsPendingBad x
  bad_pending own there x in' is = let c = covered q x in'.0 in'.1 in (c, inl (byte_pending s past memory h x (owned own x c) (there x in') is))

  abbrev IsConstantBad : ℕ → Type 0
  IsConstantBad x = (covers q x ≡ true) × (write ≡ true) × (is_constant x ≡ true)

  pub constant_bad : (x : ℕ) → IsConstantBad x → IsInRange q x × IsConstantTo write x
  constant_bad x bad =
      let p = cover_parts q x bad.0 in
      let k = and_parts (leb constants x) (ltb x replay_globals) bad.2 in
      let to : x < replay_globals = ltb-true x replay_globals k.1 in
      ((p.0, p.1, omega (arith, to)), constant_from write x bad.1 bad.2)

  pub bad_constant : (x : ℕ) → IsInRange q x → IsConstantTo write x → IsConstantBad x
  bad_constant x in' is = let k = constant_to write x is in (covered q x in'.0 in'.1, k.0, k.1)

  refused : (f : Refusal) → IsRefused memory.bytes memory.held.regions (access t addr len write) f → Finds (range_checks s past t write [] (range addr len) Done) (finding_of f)
  refused (OtherSpace x) p = (second s past memory t addr len write small).other_space x p
  refused (NotLive x) p =
      let c = covered q x p.1.in_range.0 p.1.in_range.1 in
      inr (
        none_foreign s past memory t addr len write small p.0,
        inr (
          no_race,
          inl (
            x,
            (
              (c, byte_dead s past memory h x (owned p.0 x c) p.1.holds),
              λ y bad.
                  let k = first_dead p.0 y bad in
                  let b = cover_parts q k.0 k.3.0 in
                  let le : x ≤ k.0 = p.1.least k.0 (b.0, b.1, k.2) (dead_byte s past memory h k.0 (owned p.0 k.0 k.3.0) k.3.1) in
                  omega (arith, le, k.1),
            ),
            refl,
          ),
        ),
      )
  refused (Pending x) p =
      inr (none_foreign s past memory t addr len write small p.0, inr (no_race, inr (none_dead p.0 p.1, inl (x, (bad_pending p.0 p.1 x p.2.in_range p.2.holds, λ y bad. let k = pending_bad p.0 p.1 y bad in p.2.least y k.0 k.1), refl))))
  refused (ReadOnly x) p =
      inr (
        none_foreign s past memory t addr len write small p.0,
        inr (
          no_race,
          inr (
            none_dead p.0 p.1,
            inr (
              λ y bad. (let k = pending_bad p.0 p.1 y bad in p.2 y k.0 k.1),
              inl
                  (x, (bad_constant x p.3.in_range p.3.holds, λ y bad. let k = constant_bad y bad in p.3.least y k.0 k.1), refl),
            ),
          ),
        ),
      )
  refused (StackFull x) p = absurd p
  refused (KeyInUse x) p = absurd p
  refused (NoKey x) p = absurd p
  refused (Size x) p = absurd p

  -- the least byte that the run finds is the one that is shown
  pub least_dead : Own → (x : ℕ) → (covers q x ≡ true) × ((byte s x past).cell ≡ Dead) → ((y : ℕ) → (covers q y ≡ true) × ((byte s y past).cell ≡ Dead) → x ≤ y) → IsLeastIn q (IsDead memory.bytes) x
  least_dead own x bad least =
      let k = first_dead own x bad in
      let p = cover_parts q x bad.0 in
      let le : x ≤ k.0 = least k.0 k.3 in
      record {
        in_range = (p.0, p.1, omega (arith, le, k.2));
        holds = dead_byte s past memory h x (owned own x bad.0) bad.1;
        least = λ y in' dead. let c = covered q y in'.0 in'.1 in least y (c, byte_dead s past memory h y (owned own y c) dead);
      }

  found : (f : Finding) → Finds (range_checks s past t write [] (range addr len) Done) f → (k : Refusal) × IsRefused memory.bytes memory.held.regions (access t addr len write) k × (f ≡ finding_of k)
  found f (inl (x, least, is)) =
      let p = cover_parts q x least.0.0 in
      let z = in_system x least.0.1 in
      (OtherSpace x, record { in_range = (p.0, p.1, z.2); holds = z; least = λ y in' sys. least.1 y (covered q y in'.0 in'.1, system_in y sys) }, is)
  found f (inr (none, inl (x, least, is))) = absurd (no_race x least.0)
  found f (inr (none, inr (free, inl (x, least, is)))) =
      let own = no_foreign s past memory t addr len write small none in
      (NotLive x, (own, least_dead own x least.0 least.1), is)
  found f (inr (none, inr (free, inr (live, inl (x, least, is))))) =
      let own = no_foreign s past memory t addr len write small none in
      let there = no_dead own live in
      let k = pending_bad own there x least.0 in
      (Pending x, (own, there, record { in_range = k.0; holds = k.1; least = λ y in' p. least.1 y (bad_pending own there y in' p) }), is)
  found f (inr (none, inr (free, inr (live, inr (open', inl (x, least, is)))))) =
      let own = no_foreign s past memory t addr len write small none in
      let there = no_dead own live in
      let k = constant_bad x least.0 in
      (ReadOnly x, (own, there, (λ y in' p. open' y (bad_pending own there y in' p)), record { in_range = k.0; holds = k.1; least = λ y in' p. least.1 y (bad_constant y in' p) }), is)
  found f (inr (none, inr (free, inr (live, inr (open', inr (fine, more)))))) = absurd more

  pass : Passes (range_checks s past t write [] (range addr len) Done) → IsAllowed memory.bytes memory.held.regions (access t addr len write)
  pass p =
      let own = no_foreign s past memory t addr len write small p.0 in
      let there = no_dead own p.1.1.0 in
      record {
        own = own;
        live = there;
        free = λ y in' is. p.1.1.1.0 y (bad_pending own there y in' is);
        writable = λ y in' is. p.1.1.1.1.0 y (bad_constant y in' is);
      }

  allow : IsAllowed memory.bytes memory.held.regions (access t addr len write) → Passes (range_checks s past t write [] (range addr len) Done)
  allow a = (
    none_foreign s past memory t addr len write small a.own,
    (no_race, (none_dead a.own a.live, ((λ y bad. let k = pending_bad a.own a.live y bad in a.free y k.0 k.1), ((λ y bad. let k = constant_bad y bad in a.writable y k.0 k.1), tt)))),
  )

  pub finds : FindsWhatIsRefused s past memory t addr len write
  finds = record { refused = refused; found = found; passes = (pass, allow) }

pub findings : (s : Start) (past : List Mark) (memory : SpaceState) (t addr len : ℕ) (write : Bool) → StandsFor s past memory →
    addr < 2 ^ 64 → Unraced past t write (range addr len) → FindsWhatIsRefused s past memory t addr len write
findings s past memory t addr len write h small unraced = finds s past memory t addr len write h small unraced
