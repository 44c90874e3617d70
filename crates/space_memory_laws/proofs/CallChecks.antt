-- What refuses a Call is what its checks find.
use Rattle.std.proofs.Common.{◌≡◌, ◌⊎◌, ℕ, ◌+◌, ◌^◌, ◌<◌, ◌≤◌, Bool, true, false, eqb, ◌||◌, List, [], ◌∷◌, ◌++◌, None, inl, inr, refl, ap, sym, ◌∙◌, subst, arith}
use Rattle.std.specs.Prelude.{◌↔◌, option_map}
use Rattle.std.proofs.lemmas.Bool.{true≢false, eq-eqb, or_cases}
use Rattle.std.proofs.lemmas.List.{append-nil}
use Rattle.std.proofs.lemmas.List.Folds.{list_any-append}
use Rattle.marks.specs.declared.side.Side.TheVariants.{Replay}
use Rattle.marks.specs.Places.{is_system}
use Rattle.marks.specs.declared.range.Range.{Range}
use Rattle.marks.specs.Ranges.{Prepared, covers, any_range, any_prepared, prepared_ranges, IsInRange, NoneIn, IsLeastIn}
use Rattle.marks.specs.Marks.{Mark}
use Rattle.marks.specs.Bytes.{Dead, IsHeld}
use Rattle.marks.specs.Wants.{Calls}
use Rattle.memory_map.specs.declared.areas.TheConstants.{SYSTEM_MEMORY}
use Rattle.space_memory_bytes.specs.Areas.{AreaState, IsDead}
use Rattle.space_memory_access.specs.declared.holder.Region.{Region}
use Rattle.space_memory_access.specs.Held.{IsPending, innermost, prepared_region}
use Rattle.space_memory_access.specs.declared.access.Access.{Access}
use Rattle.space_memory_access.specs.declared.refusal.Refusal.{Refusal}
use Rattle.space_memory_access.specs.declared.refusal.Refusal.TheVariants.{NotLive, Pending, OtherSpace, ReadOnly, StackFull, KeyInUse, NoKey, Size}
use Rattle.space_memory_access.specs.Accesses.{IsAllowed, IsRefused}
use Rattle.replay_runs.specs.Runs.{Start, byte}
use Rattle.replay_runs.specs.Interface.{Interface}
use Rattle.replay_runs.specs.Pool.{prepares_key, in_use}
use Rattle.replay_runs.specs.Rules.{Apart, DistinctKeys}
use Rattle.replay_runs.specs.Checks.{Finding, Checks, Check, Done, Passes, Finds, Races, race_check, range_checks, read_checks, hold_checks, key_checks, mode_checks, checks}
use Rattle.replay_runs.specs.Passing.{Unraced, NoneInUse}
use Rattle.space_memory.specs.Spaces.{SpaceState}
use Rattle.space_memory.specs.Cells.{is_held}
use Rattle.space_memory.specs.Held.{region_range, region_access}
use Rattle.space_memory_laws.specs.Held.{AreApart, HaveOwnKeys}
use Rattle.space_memory_laws.specs.StandsFor.{StandsFor}
use Rattle.space_memory_laws.specs.Refusals.{finding_of, access}
use Rattle.space_memory_laws.specs.Calls.{parts_of, InCall}
use Rattle.space_memory_laws.specs.CallChecks.{AllUnraced, Wanted, RangeFinds, IsReading, IsHolding}
use Rattle.space_memory_laws.proofs.Cells.{cover_parts, covered, live_ends}
use Rattle.space_memory_laws.proofs.Least.{none_in}
use Rattle.space_memory_laws.proofs.Regions.{waits_at, prepared_left}
use Rattle.space_memory_laws.proofs.Refusals.{in_system, system_in, dead_byte, byte_dead, pending_byte, byte_pending, none_foreign, no_foreign, first_dead, none_dead, no_dead, least_dead, constant_bad, bad_constant, own_byte}
use Rattle.space_memory_laws.proofs.Parts.{region_addr}
use Rattle.space_memory_laws.proofs.Added.{held_is, written_any, added_key}
use Rattle.space_memory_laws.proofs.Calls.{prepared_there, prepared_keeps, own_key, no_region}
use Rattle.space_memory_laws.proofs.CallRules.{apart_of, keys_of, read_apart, read_distinct}
use Rattle.space_memory_laws.proofs.Passing.{AllFree, free_reads, free_holds, piled, piled_any, past_modes, past_indirect, past_reads, past_holds, past_keys}

or_true : (a b : Bool) → b ≡ true → (a || b) ≡ true
or_true true b e = refl
or_true false b e = e

or_left : (a b : Bool) → a ≡ true → (a || b) ≡ true
or_left true b e = refl
or_left false b e = absurd (true≢false (sym e))

-- what a mid of a Call says of a byte that waits, and of a key
module _ (s : Start) (past : List Mark) (t : ℕ) (ins outs : List Range) (prepared : List Prepared) (base memory : SpaceState) (h : InCall s past t (parts_of ins outs prepared) base memory) where
  pub held_mid : (x : ℕ) → is_held memory.held.regions x ≡ (is_held base.held.regions x || (any_range outs x || any_prepared prepared x))
  held_mid x =
      ap (λ rs. is_held rs x) h.regions.all
      ∙ list_any-append (waits_at x) base.held.regions h.regions.added
      ∙ ap (λ b. is_held base.held.regions x || b) (held_is base.bytes (innermost memory.held t) (parts_of ins outs prepared) h.regions.added x h.regions.regions ∙ written_any ins outs prepared x)

  pub bytes_mid : memory.bytes ≡ base.bytes
  bytes_mid = ap (λ (q : SpaceState). q.bytes) h.rest

  pub apart_mid : Apart (outs ++ prepared_ranges prepared)
  apart_mid = read_apart base.bytes (innermost memory.held t) ins outs prepared h.regions.added h.regions.regions (apart_of base.held.regions h.regions.added (subst AreApart h.regions.all h.held.apart))

  pub distinct_mid : DistinctKeys prepared
  distinct_mid = read_distinct base.bytes (innermost memory.held t) ins outs prepared h.regions.added h.regions.regions (keys_of base.held.regions h.regions.added (subst HaveOwnKeys h.regions.all h.held.keys))

  no_key_mid : (k : ℕ) → prepares_key prepared k ≡ true → prepared_region base.held.regions k ≡ None
  no_key_mid k used = own_key base.held.regions h.regions.added k (subst HaveOwnKeys h.regions.all h.held.keys)
      (λ none. prepared_there prepared k used
      (sym (added_key base.bytes (innermost memory.held t) ins outs prepared h.regions.added h.regions.regions k) ∙ ap
      (option_map (λ (r : Region). r.range)) none))

  none_used : (ps : List Prepared) → ((k : ℕ) → prepares_key ps k ≡ true → prepares_key prepared k ≡ true) → NoneInUse s past ps
  none_used [] sub = tt
  none_used (p ∷ ps) sub = (
    sym (h.stands.keys p.key) ∙ ap (option_map (λ (r : Region). r.range)) (no_key_mid p.key (sub p.key (or_left (eqb p.key p.key) (prepares_key ps p.key) (eq-eqb p.key p.key refl)))),
    none_used ps (λ k is'. sub k (or_true (eqb p.key k) (prepares_key ps k) is')),
  )

  pub free_keys_mid : NoneInUse s past prepared
  free_keys_mid = none_used prepared (λ k is'. is')

  -- a key that is neither in use nor prepared by the Call has no region
  pub no_region_mid : (k : ℕ) → in_use s k past ≡ None → prepares_key prepared k ≡ false → prepared_region memory.held.regions k ≡ None
  no_region_mid k none unused =
      ap (λ rs. prepared_region rs k) h.regions.all
      ∙ prepared_left base.held.regions h.regions.added k (no_region (prepared_region base.held.regions k) (h.stands.keys k ∙ none))
      ∙ no_region (prepared_region h.regions.added k) (added_key base.bytes (innermost memory.held t) ins outs prepared h.regions.added h.regions.regions k ∙ prepared_keeps prepared k None unused)

-- a range that memory refuses in the midst of a Call
module _ (s : Start) (past : List Mark) (t : ℕ) (ins outs : List Range) (prepared : List Prepared) (base memory : SpaceState)
    (h : InCall s past t (parts_of ins outs prepared) base memory) (write : Bool) (more : List Range)
    (more_is : (x : ℕ) → any_range more x ≡ (any_range outs x || any_prepared prepared x)) (given : Range) (r : Range)
    (below : given.addr < 2 ^ 64) (same : region_range given ≡ r) (cs : Checks) where
  abbrev q : Range
  q = r

  small : r.addr < 2 ^ 64
  small = let e = ap (λ (k : Range). k.addr) same in omega (arith, e, region_addr given, below)

  abbrev Own : Type 0
  Own = NoneIn q (IsInRange SYSTEM_MEMORY)

  abbrev AllThere : Type 0
  AllThere = NoneIn q (IsDead base.bytes)

  ends : AllThere → r.addr + r.len < 2 ^ 64
  ends there = live_ends base.bytes q h.stands.sound.ends small there

  foreign : Own → (x : ℕ) → (covers q x ≡ true) × (is_system x ≡ true) → ⊥
  foreign own = none_foreign s past base t r.addr r.len write small own

  owned : Own → (x : ℕ) → covers q x ≡ true → is_system x ≡ false
  owned own x c = own_byte s past base t r.addr r.len write small own x c

  abbrev IsPendingBad : ℕ → Type 0
  IsPendingBad x = (covers q x ≡ true) × (IsHeld (byte s x past).cell ⊎ (any_range more x ≡ true))

  pending_bad : Own → AllThere → (x : ℕ) → IsPendingBad x → IsInRange q x × IsPending memory.held.regions x
  pending_bad own there x bad =
      let p = cover_parts q x bad.0 in (
        (p.0, p.1, omega (arith, p.1, ends there)),
        held_mid s past t ins outs prepared base memory h x ∙ elim bad.1 [
          | inl is ↦ or_left (is_held base.held.regions x) (any_range outs x || any_prepared prepared x) (pending_byte s past base h.stands x (owned own x bad.0) is)
          | inr waits ↦ or_true (is_held base.held.regions x) (any_range outs x || any_prepared prepared x) (sym (more_is x) ∙ waits)
        ],
      )

  bad_pending : Own → AllThere → (x : ℕ) → IsInRange q x → IsPending memory.held.regions x → IsPendingBad x
  bad_pending own there x in' is =
      let c = covered q x in'.0 in'.1 in (
        c,
        elim (or_cases (is_held base.held.regions x) (any_range outs x || any_prepared prepared x) (sym (held_mid s past t ins outs prepared base memory h x) ∙ is)) [
          | inl old ↦ inl (byte_pending s past base h.stands x (owned own x c) (there x in') old)
          | inr new ↦ inr (more_is x ∙ new)
        ],
      )

  module _ (unraced : Unraced past t write r) where
    no_race : (x : ℕ) → (covers q x ≡ true) × ((u : ℕ) × Races past t write x u) → ⊥
    no_race x bad = unraced x bad.1.0 bad.0 bad.1.1

    all_own : ((x : ℕ) → (covers q x ≡ true) × (is_system x ≡ true) → ⊥) → Own
    all_own none = no_foreign s past base t r.addr r.len write small none

    all_there : Own → ((x : ℕ) → (covers q x ≡ true) × ((byte s x past).cell ≡ Dead) → ⊥) → AllThere
    all_there own none = no_dead s past base t r.addr r.len write h.stands small unraced own none

    none_gone : Own → AllThere → (x : ℕ) → (covers q x ≡ true) × ((byte s x past).cell ≡ Dead) → ⊥
    none_gone own there = none_dead s past base t r.addr r.len write h.stands small unraced own there

    in_base : (f : Refusal) → IsRefused base.bytes memory.held.regions (access t r.addr r.len write) f → Finds (range_checks s past t write more r cs) (finding_of f)
    in_base (OtherSpace x) p =
        inl (x, ((covered q x p.in_range.0 p.in_range.1, system_in x p.holds), λ y bad. let k = cover_parts q y bad.0 in let z = in_system y bad.1 in p.least y (k.0, k.1, z.2) z), refl)
    in_base (NotLive x) p =
        let c = covered q x p.1.in_range.0 p.1.in_range.1 in
        inr (
          foreign p.0,
          inr (
            no_race,
            inl (
              x,
              (
                (c, byte_dead s past base h.stands x (owned p.0 x c) p.1.holds),
                λ y bad.
                    let k = first_dead s past base t r.addr r.len write h.stands small unraced p.0 y bad in
                    let b = cover_parts q k.0 k.3.0 in
                    let le : x ≤ k.0 = p.1.least k.0 (b.0, b.1, k.2) (dead_byte s past base h.stands k.0 (owned p.0 k.0 k.3.0) k.3.1) in
                    omega (arith, le, k.1),
              ),
              refl,
            ),
          ),
        )
    in_base (Pending x) p =
        inr (foreign p.0, inr (no_race, inr (none_gone p.0 p.1, inl (x, (bad_pending p.0 p.1 x p.2.in_range p.2.holds, λ y bad. let k = pending_bad p.0 p.1 y bad in p.2.least y k.0 k.1), refl))))
    in_base (ReadOnly x) p =
        inr (
          foreign p.0,
          inr (
            no_race,
            inr (
              none_gone p.0 p.1,
              inr (
                λ y bad. (let k = pending_bad p.0 p.1 y bad in p.2 y k.0 k.1),
                inl (
                  x,
                  (
                    bad_constant s past base t r.addr r.len write h.stands small unraced x p.3.in_range p.3.holds,
                    λ y bad. let k =
                        constant_bad s past base t r.addr r.len write h.stands small unraced y bad in p.3.least y k.0 k.1,
                  ),
                  refl,
                ),
              ),
            ),
          ),
        )
    in_base (StackFull x) p = absurd p
    in_base (KeyInUse x) p = absurd p
    in_base (NoKey x) p = absurd p
    in_base (Size x) p = absurd p

    pub refused_mid : (f : Refusal) → IsRefused memory.bytes memory.held.regions (region_access t given write) f → Finds (range_checks s past t write more r cs) (finding_of f)
    refused_mid f p = in_base f (subst
        (λ (k : Range). IsRefused base.bytes memory.held.regions (record { side = Replay; thread = t; range = k; write = write }) f) same
        (subst (λ b. IsRefused b memory.held.regions (region_access t given write) f)
        (bytes_mid s past t ins outs prepared base memory h) p))

    in_base_found : (f : Finding) → Finds (range_checks s past t write more r Done) f → (k : Refusal) × IsRefused base.bytes memory.held.regions (access t r.addr r.len write) k × (f ≡ finding_of k)
    in_base_found f (inl (x, least, is)) =
        let p = cover_parts q x least.0.0 in
        let z = in_system x least.0.1 in
        (OtherSpace x, record { in_range = (p.0, p.1, z.2); holds = z; least = λ y in' sys. least.1 y (covered q y in'.0 in'.1, system_in y sys) }, is)
    in_base_found f (inr (none, inl (x, least, is))) = absurd (no_race x least.0)
    in_base_found f (inr (none, inr (free, inl (x, least, is)))) =
        let own = all_own none in
        (NotLive x, (own, least_dead s past base t r.addr r.len write h.stands small unraced own x least.0 least.1), is)
    in_base_found f (inr (none, inr (free, inr (live, inl (x, least, is))))) =
        let own = all_own none in
        let there = all_there own live in
        let k = pending_bad own there x least.0 in
        (Pending x, (own, there, record { in_range = k.0; holds = k.1; least = λ y in' p. least.1 y (bad_pending own there y in' p) }), is)
    in_base_found f (inr (none, inr (free, inr (live, inr (idle, inl (x, least, is)))))) =
        let own = all_own none in
        let there = all_there own live in
        let k = constant_bad s past base t r.addr r.len write h.stands small unraced x least.0 in
        (ReadOnly x, (own, there, (λ y in' p. idle y (bad_pending own there y in' p)), record { in_range = k.0; holds = k.1; least = λ y in' p. least.1 y (bad_constant s past base t r.addr r.len write h.stands small unraced y in' p) }), is)
    in_base_found f (inr (none, inr (free, inr (live, inr (idle, inr (fine, nothing)))))) = absurd nothing

    in_base_allowed : Passes (range_checks s past t write more r Done) → IsAllowed base.bytes memory.held.regions (access t r.addr r.len write)
    in_base_allowed p =
        let own = all_own p.0 in
        let there = all_there own p.1.1.0 in
        record {
          own = own;
          live = there;
          free = λ y in' is. p.1.1.1.0 y (bad_pending own there y in' is);
          writable = λ y in' is. p.1.1.1.1.0 y (bad_constant s past base t r.addr r.len write h.stands small unraced y in' is);
        }

    in_base_passes : IsAllowed base.bytes memory.held.regions (access t r.addr r.len write) → Passes (range_checks s past t write more r Done)
    in_base_passes a = (
      foreign a.own,
      (no_race, (none_gone a.own a.live, ((λ y bad. let k = pending_bad a.own a.live y bad in a.free y k.0 k.1), ((λ y bad. let k = constant_bad s past base t r.addr r.len write h.stands small unraced y bad in a.writable y k.0 k.1), tt)))),
    )

    -- an access in the words of memory is one in those of a run
    same_access : (P : List AreaState → Access → Type 0) → P base.bytes (access t r.addr r.len write) → P memory.bytes (region_access t given write)
    same_access P p = subst (λ (k : Range). P memory.bytes (record { side = Replay; thread = t; range = k; write = write })) (sym same)
        (subst (λ b. P b (access t r.addr r.len write)) (sym (bytes_mid s past t ins outs prepared base memory h)) p)

    other_access : (P : List AreaState → Access → Type 0) → P memory.bytes (region_access t given write) → P base.bytes (access t r.addr r.len write)
    other_access P p = subst (λ b. P b (access t r.addr r.len write)) (bytes_mid s past t ins outs prepared base memory h) (subst (λ (k : Range). P memory.bytes (record { side = Replay; thread = t; range = k; write = write })) same p)

    pub found_mid : (f : Finding) → Finds (range_checks s past t write more r Done) f → (k : Refusal) × IsRefused memory.bytes memory.held.regions (region_access t given write) k × (f ≡ finding_of k)
    found_mid f found = let k = in_base_found f found in (k.0, same_access (λ b a. IsRefused b memory.held.regions a k.0) k.1, k.2)

    pub passes_mid : Passes (range_checks s past t write more r Done) ↔ IsAllowed memory.bytes memory.held.regions (region_access t given write)
    passes_mid = ((λ p. same_access (λ b a. IsAllowed b memory.held.regions a) (in_base_allowed p)), λ a. in_base_passes (other_access (λ b a. IsAllowed b memory.held.regions a) a))

  pub race_mid : (f : Finding) → ((x : ℕ) → IsRefused memory.bytes memory.held.regions (region_access t given write) (OtherSpace x) → ⊥) →
      Finds (race_check past t write r Done) f → Finds (range_checks s past t write more r cs) f
  race_mid f none found = inr (
    foreign (λ x in' is. none_in q is_system (λ y least. none y (back y (record { in_range = least.in_range; holds = in_system y least.holds; least = λ z in'' is'. least.least z in'' (system_in z is') }))) x in' (system_in x is)),
    elim found [
      | inl here ↦ inl here
      | inr later ↦ absurd later.1
    ],
  )
    where
      back : (y : ℕ) → IsLeastIn q (IsInRange SYSTEM_MEMORY) y → IsRefused memory.bytes memory.held.regions (region_access t given write) (OtherSpace y)
      back y least = subst (λ (k : Range). IsLeastIn k (IsInRange SYSTEM_MEMORY) y) (sym same) least

-- a step past a check that passes
pub onward : (f : Finding) (Bad : ℕ → Type 0) (Found : ℕ → Finding → Type 0) (cs : Checks) → ((x : ℕ) → Bad x → ⊥) → Finds cs f → Finds (Check Bad Found cs) f
onward f Bad Found cs none found = inr (none, found)

through : (Bad : ℕ → Type 0) (Found : ℕ → Finding → Type 0) (cs : Checks) → ((x : ℕ) → Bad x → ⊥) → Passes cs → Passes (Check Bad Found cs)
through Bad Found cs none p = (none, p)

-- a fact of the checks of a Call, by its ranges and keys
pub wanted_checks : (P : Checks → Type 0) →
    ((Bad : ℕ → Type 0) (Found : ℕ → Finding → Type 0) (cs : Checks) → ((x : ℕ) → Bad x → ⊥) → P cs → P (Check Bad Found cs)) →
    (i : Interface) (s : Start) (past : List Mark) (t : ℕ) (indirect : Bool) (func : ℕ) (args : List ℕ) (ins outs : List Range) (prepared : List Prepared) →
    Wanted i indirect func args ins outs prepared →
    P (read_checks s past t ins (hold_checks s past t [] (outs ++ prepared_ranges prepared) (key_checks s past [] prepared Done))) →
    P (checks i s past t (Calls indirect func args))
wanted_checks P step i s past t indirect func args ins outs prepared w p =
    past_indirect P step i indirect func
    (mode_checks i Replay (i.registers func args)
    (read_checks s past t (i.ins func args)
    (hold_checks s past t [] (i.outs func args ++ prepared_ranges (i.prepares func args))
    (key_checks s past [] (i.prepares func args) Done)))) w.modes.0
    (past_modes P step i (i.registers func args) (read_checks s past t (i.ins func args) (hold_checks s past t [] (i.outs func args ++ prepared_ranges (i.prepares func args)) (key_checks s past [] (i.prepares func args) Done))) w.modes.1
    (subst (λ k. P (read_checks s past t k (hold_checks s past t [] (i.outs func args ++ prepared_ranges (i.prepares func args)) (key_checks s past [] (i.prepares func args) Done)))) (sym w.ins_are)
    (subst (λ k. P (read_checks s past t ins (hold_checks s past t [] (k ++ prepared_ranges (i.prepares func args)) (key_checks s past [] (i.prepares func args) Done)))) (sym w.outs_are)
    (subst (λ k. P (read_checks s past t ins (hold_checks s past t [] (outs ++ prepared_ranges k) (key_checks s past [] k Done)))) (sym w.prepares) p))))

or_none : (b : Bool) → (b || false) ≡ b
or_none true = refl
or_none false = refl

nil_any : (outs : List Range) (x : ℕ) → any_range (piled outs []) x ≡ (any_range outs x || any_prepared [] x)
nil_any outs x = piled_any outs [] x

module _ (i : Interface) (s : Start) (past : List Mark) (base memory : SpaceState) (t : ℕ) (indirect : Bool) (func : ℕ) (args : List ℕ) where
  read_on : (before after outs : List Range) (prepared : List Prepared) (r : Range) (given : Range) (f : Finding) →
      Wanted i indirect func args (before ++ r ∷ after) outs prepared → IsReading s past t before given r base memory →
      ((cs : Checks) → Finds (range_checks s past t false [] r cs) f) → Finds (checks i s past t (Calls indirect func args)) f
  read_on before after outs prepared r given f w k found =
      wanted_checks (λ cs. Finds cs f) (onward f) i s past t indirect func args (before ++ r ∷ after) outs prepared w
      (past_reads (λ cs. Finds cs f) (onward f) s past t base k.call.stands before (r ∷ after)
      (hold_checks s past t [] (outs ++ prepared_ranges prepared) (key_checks s past [] prepared Done))
      (free_reads base before [] [] k.call.free) k.unraced
      (found (read_checks s past t after (hold_checks s past t [] (outs ++ prepared_ranges prepared) (key_checks s past [] prepared Done)))))

  pub refused_read : (before after outs : List Range) (prepared : List Prepared) (r : Range) (given : Range) (f : Refusal) →
      Wanted i indirect func args (before ++ r ∷ after) outs prepared → IsReading s past t before given r base memory →
      Unraced past t false r → IsRefused memory.bytes memory.held.regions (region_access t given false) f →
      Finds (checks i s past t (Calls indirect func args)) (finding_of f)
  refused_read before after outs prepared r given f w k unraced refused =
      read_on before after outs prepared r given (finding_of f) w k (λ cs. refused_mid s past t before [] [] base memory k.call false [] (λ x. refl) given r k.below k.region cs unraced f refused)

  pub raced_read : (before after outs : List Range) (prepared : List Prepared) (r : Range) (given : Range) (f : Finding) →
      Wanted i indirect func args (before ++ r ∷ after) outs prepared → IsReading s past t before given r base memory →
      ((x : ℕ) → IsRefused memory.bytes memory.held.regions (region_access t given false) (OtherSpace x) → ⊥) →
      Finds (race_check past t false r Done) f → Finds (checks i s past t (Calls indirect func args)) f
  raced_read before after outs prepared r given f w k own raced =
      read_on before after outs prepared r given f w k (λ cs. race_mid s past t before [] [] base memory k.call false [] (λ x. refl) given r k.below k.region cs f own raced)

  hold_on : (ins outs before after : List Range) (prepared : List Prepared) (r : Range) (given : Range) (f : Finding) →
      Wanted i indirect func args ins outs prepared → outs ++ prepared_ranges prepared ≡ before ++ r ∷ after →
      IsHolding s past t ins before given r base memory → ((cs : Checks) → Finds (range_checks s past t true (piled before []) r cs) f) →
      Finds (checks i s past t (Calls indirect func args)) f
  hold_on ins outs before after prepared r given f w all k found =
      wanted_checks (λ cs. Finds cs f) (onward f) i s past t indirect func args ins outs prepared w
      (subst (λ rs. Finds (read_checks s past t rs (hold_checks s past t [] (outs ++ prepared_ranges prepared) (key_checks s past [] prepared Done))) f) (append-nil ins)
      (past_reads (λ cs. Finds cs f) (onward f) s past t base k.call.stands ins [] (hold_checks s past t [] (outs ++ prepared_ranges prepared) (key_checks s past [] prepared Done)) (free_reads base ins before [] k.call.free) k.unraced_ins
      (subst (λ rs. Finds (hold_checks s past t [] rs (key_checks s past [] prepared Done)) f) (sym all)
      (past_holds (λ cs. Finds cs f) (onward f) s past t base k.call.stands before (r ∷ after) [] (key_checks s past [] prepared Done) (free_before (append-nil before)) k.unraced apart_before (λ x in'. refl)
      (found (hold_checks s past t (r ∷ piled before []) after (key_checks s past [] prepared Done)))))))
    where
      free_before : before ++ [] ≡ before → AllFree base true before
      free_before e = subst (AllFree base true) e (free_holds base ins before [] k.call.free)

      apart_before : Apart before
      apart_before = subst Apart (append-nil before) (apart_mid s past t ins before [] base memory k.call)

  pub refused_hold : (ins outs before after : List Range) (prepared : List Prepared) (r : Range) (given : Range) (f : Refusal) →
      Wanted i indirect func args ins outs prepared → outs ++ prepared_ranges prepared ≡ before ++ r ∷ after →
      IsHolding s past t ins before given r base memory → Unraced past t true r →
      IsRefused memory.bytes memory.held.regions (region_access t given true) f →
      Finds (checks i s past t (Calls indirect func args)) (finding_of f)
  refused_hold ins outs before after prepared r given f w all k unraced refused =
      hold_on ins outs before after prepared r given (finding_of f) w all k (λ cs. refused_mid s past t ins before [] base memory k.call true (piled before []) (nil_any before) given r k.below k.region cs unraced f refused)

  pub raced_hold : (ins outs before after : List Range) (prepared : List Prepared) (r : Range) (given : Range) (f : Finding) →
      Wanted i indirect func args ins outs prepared → outs ++ prepared_ranges prepared ≡ before ++ r ∷ after →
      IsHolding s past t ins before given r base memory →
      ((x : ℕ) → IsRefused memory.bytes memory.held.regions (region_access t given true) (OtherSpace x) → ⊥) →
      Finds (race_check past t true r Done) f → Finds (checks i s past t (Calls indirect func args)) f
  raced_hold ins outs before after prepared r given f w all k own raced =
      hold_on ins outs before after prepared r given f w all k (λ cs. race_mid s past t ins before [] base memory k.call true (piled before []) (nil_any before) given r k.below k.region cs f own raced)

  -- all ranges pass
  module _ (P : Checks → Type 0) (step : (Bad : ℕ → Type 0) (Found : ℕ → Finding → Type 0) (cs : Checks) → ((x : ℕ) → Bad x → ⊥) → P cs → P (Check Bad Found cs)) where
    pub all_ranges : (ins held outs : List Range) (prepared : List Prepared) (keys : List Prepared) →
        outs ++ prepared_ranges prepared ≡ held → AllFree base false ins → AllFree base true held → Apart held → StandsFor s past base →
        AllUnraced past t false ins → AllUnraced past t true held → P (key_checks s past [] keys Done) →
        P (read_checks s past t ins (hold_checks s past t [] (outs ++ prepared_ranges prepared) (key_checks s past [] keys Done)))
    all_ranges ins held outs prepared keys all free_ins free apart h unraced_ins unraced p =
        subst (λ rs. P (read_checks s past t rs (hold_checks s past t [] (outs ++ prepared_ranges prepared) (key_checks s past [] keys Done)))) (append-nil ins)
        (past_reads P step s past t base h ins [] (hold_checks s past t [] (outs ++ prepared_ranges prepared) (key_checks s past [] keys Done)) free_ins unraced_ins
        (subst (λ rs. P (hold_checks s past t [] rs (key_checks s past [] keys Done))) (append-nil held ∙ sym all)
        (past_holds P step s past t base h held [] [] (key_checks s past [] keys Done) free unraced apart (λ x in'. refl) p)))

  pub made_passes : (ins outs : List Range) (prepared : List Prepared) → Wanted i indirect func args ins outs prepared →
      InCall s past t (parts_of ins outs prepared) base memory → AllUnraced past t false ins →
      AllUnraced past t true (outs ++ prepared_ranges prepared) → Passes (checks i s past t (Calls indirect func args))
  made_passes ins outs prepared w h unraced_ins unraced =
      wanted_checks Passes through i s past t indirect func args ins outs prepared w
      (all_ranges Passes through ins (outs ++ prepared_ranges prepared) outs prepared prepared refl
      (free_reads base ins outs prepared h.free) (free_holds base ins outs prepared h.free)
      (apart_mid s past t ins outs prepared base memory h) h.stands unraced_ins unraced
      (subst (λ ps. Passes (key_checks s past [] ps Done)) (append-nil prepared)
      (past_keys Passes through s past t base h.stands prepared [] [] Done (free_keys_mid s past t ins outs prepared base memory h) (distinct_mid s past t ins outs prepared base memory h) (λ k in'. refl) tt)))

module _ (s : Start) (past : List Mark) (base memory : SpaceState) (t : ℕ) where
  pub read_finds : (before : List Range) (r : Range) (given : Range) → IsReading s past t before given r base memory → Unraced past t false r → RangeFinds s past t false [] given r memory
  read_finds before r given k unraced = record {
    refused = refused_mid s past t before [] [] base memory k.call false [] (λ x. refl) given r k.below k.region Done unraced;
    found = found_mid s past t before [] [] base memory k.call false [] (λ x. refl) given r k.below k.region Done unraced;
    passes = passes_mid s past t before [] [] base memory k.call false [] (λ x. refl) given r k.below k.region Done unraced;
  }

  pub hold_finds : (ins before : List Range) (r : Range) (given : Range) → IsHolding s past t ins before given r base memory → Unraced past t true r → RangeFinds s past t true before given r memory
  hold_finds ins before r given k unraced = record {
    refused = refused_mid s past t ins before [] base memory k.call true before (λ x. sym (or_none (any_range before x))) given r k.below k.region Done unraced;
    found = found_mid s past t ins before [] base memory k.call true before (λ x. sym (or_none (any_range before x))) given r k.below k.region Done unraced;
    passes = passes_mid s past t ins before [] base memory k.call true before (λ x. sym (or_none (any_range before x))) given r k.below k.region Done unraced;
  }
