-- What the checks of a Free find is refused.
use Rattle.std.proofs.Common.{◌≡◌, ◌⊎◌, ℕ, zero, suc, ◌+◌, ◌<◌, ◌≤◌, true, false, eqb, List, Option, Some, None, is_some, inl, inr, refl, ap, sym, ◌∙◌, subst, arith}
use Rattle.std.specs.Prelude.{unwrap_or}
use Rattle.std.proofs.lemmas.Bool.{cases_Bool, true≢false, cond-true, cond-false, eq-eqb, ne_eqb}
use Rattle.marks.specs.declared.side.Side.TheVariants.{Replay}
use Rattle.marks.specs.Places.{replay_pool, pool_size, is_system}
use Rattle.marks.specs.declared.range.Range.{Range}
use Rattle.marks.specs.Ranges.{range, covers, IsInRange, IsLeastIn}
use Rattle.marks.specs.Marks.{Mark}
use Rattle.marks.specs.Bytes.{Dead, IsHeld}
use Rattle.marks.specs.Wants.{Frees}
use Rattle.space_memory_bytes.specs.Areas.{IsDead}
use Rattle.pool_list.specs.Blocks.{PoolState, length_at}
use Rattle.space_memory_access.specs.Held.{IsPending}
use Rattle.space_memory_access.specs.declared.refusal.Refusal.{Refusal}
use Rattle.space_memory_access.specs.declared.refusal.Refusal.TheVariants.{NotLive, Pending, OtherSpace}
use Rattle.replay_runs.specs.Runs.{Start, byte}
use Rattle.replay_runs.specs.Interface.{Interface}
use Rattle.replay_runs.specs.Pool.{blocks}
use Rattle.replay_runs.specs.Checks.{Finding, Checks, Check, Done, Passes, Finds, Races, freed_range, checks}
use Rattle.space_memory.specs.Spaces.{SpaceState}
use Rattle.space_memory.specs.Cells.{is_held}
use Rattle.space_memory.specs.Blocks.{IsFreeRefused}
use Rattle.replay_runs.specs.Passing.{Unraced}
use Rattle.space_memory_laws.specs.Shown.{by_address}
use Rattle.space_memory_laws.specs.StandsFor.{StandsFor}
use Rattle.space_memory_laws.specs.Refusals.{finding_of, FreesFind}
use Rattle.space_memory_laws.proofs.Cells.{cover_parts, covered, below_system}
use Rattle.space_memory_laws.proofs.Least.{none_in}
use Rattle.space_memory_laws.proofs.Blocks.{begins_from, any_is, any_there}
use Rattle.space_memory_laws.proofs.Refusals.{dead_byte, pending_byte, byte_pending}
use Rattle.space_memory_laws.proofs.Rooms.{freed_some, frees_found}

-- what finds doesn't pass
not_both : (cs : Checks) (f : Finding) → Finds cs f → Passes cs → ⊥
not_both Done f found passes = found
not_both (Check Bad Found cs) f (inl here) passes = passes.0 here.0 here.1.0
not_both (Check Bad Found cs) f (inr more) passes = not_both cs f more.1 passes.1

-- the block that begins at an address, in memory and in a run
record IsBlock (s : Start) (past : List Mark) (memory : SpaceState) (addr len : ℕ) : Type 0 where
  there : length_at memory.sides.replay.pool.blocks addr ≡ Some len
  is : (byte s addr past).block ≡ len
  some : 1 ≤ len
  from : replay_pool ≤ addr
  to : addr + len ≤ replay_pool + pool_size
  live : (x : ℕ) → addr ≤ x → x < addr + len → IsDead memory.bytes x → ⊥

record IsNoBlock (s : Start) (past : List Mark) (memory : SpaceState) (addr : ℕ) : Type 0 where
  none : length_at memory.sides.replay.pool.blocks addr ≡ None
  is : (byte s addr past).block ≡ 0

module _ (i : Interface) (s : Start) (past : List Mark) (memory : SpaceState) (t a : ℕ) (h : StandsFor s past memory) (unraced : Unraced past t true (freed_range (suc a) (byte s (suc a) past).block)) where
  abbrev freed : Range
  freed = freed_range (suc a) (byte s (suc a) past).block

  abbrev IsRefusedHere : Refusal → Type 0
  IsRefusedHere r = IsFreeRefused Replay memory.sides.replay.pool.blocks memory.held.regions (suc a) r

  no_race : (x : ℕ) → (covers freed x ≡ true) × ((u : ℕ) × Races past t true x u) → ⊥
  no_race x bad = unraced x bad.1.0 bad.0 bad.1.1

  block_of : is_system (suc a) ≡ false → (o : Option ℕ) → length_at memory.sides.replay.pool.blocks (suc a) ≡ o → IsNoBlock s past memory (suc a) ⊎ ((len : ℕ) × IsBlock s past memory (suc a) len)
  block_of own None is = inl (record { none = is; is = h.begins (suc a) own ∙ ap (λ k. unwrap_or k 0) is })
  block_of own (Some len) is =
      let bs = blocks s past in
      let there : length_at (by_address bs) (suc a) ≡ Some len = sym (ap (λ (q : PoolState). length_at q.blocks (suc a)) h.pool) ∙ is in
      let lies = begins_from replay_pool (replay_pool + pool_size) (by_address bs) (suc a) len h.sound.laid_out there in
      inr (
        len,
        record {
          there = is;
          is = h.begins (suc a) own ∙ ap (λ k. unwrap_or k 0) is;
          some = lies.1;
          from = lies.0;
          to = lies.2;
          live = λ x from below dead.
              let in_pool : covers (range replay_pool pool_size) x ≡ true = covered (range replay_pool pool_size) x (omega (arith, from, lies.0)) (omega (arith, below, lies.2)) in
              true≢false (sym (h.sound.blocks_live x in_pool ∙ any_is bs x ∙ any_there replay_pool (replay_pool + pool_size) (by_address bs)
              (suc a) len x h.sound.laid_out there (covered (record { addr = suc a; len = len }) x from below)) ∙ ap is_some dead);
        },
      )

  freed_len : (n : ℕ) → (byte s (suc a) past).block ≡ n → 1 ≤ n → freed ≡ record { addr = suc a; len = n }
  freed_len n is some = ap (λ k. let r : Range = record { addr = suc a; len = k } in r) (cond-false (eqb (byte s (suc a) past).block 0) 1 _ (ne_eqb (byte s (suc a) past).block 0 (λ e. absurd (omega (arith, e, is, some)))) ∙ is)

  freed_one : (byte s (suc a) past).block ≡ 0 → freed ≡ record { addr = suc a; len = 1 }
  freed_one is = ap (λ k. let r : Range = record { addr = suc a; len = k } in r) (cond-true (eqb (byte s (suc a) past).block 0) 1 _ (eq-eqb (byte s (suc a) past).block 0 is))

  first : covers freed (suc a) ≡ true
  first = let some = freed_some (byte s (suc a) past).block in covered freed (suc a) (omega arith) (omega (arith, some))

  -- a byte of the range is of system memory only where the first one is
  foreign : (x : ℕ) → covers freed x ≡ true → is_system x ≡ true → is_system (suc a) ≡ true
  foreign x c is = elim (cases_Bool (is_system (suc a))) [
    | inl sys ↦ sys
    | inr own ↦ elim (block_of own (length_at memory.sides.replay.pool.blocks (suc a)) refl) [
      | inl none ↦
          let p = cover_parts (record { addr = suc a; len = 1 }) x (subst (λ (r : Range). covers r x ≡ true) (freed_one none.is) c) in
          let here : x ≡ suc a = omega (arith, p.0, p.1) in
          absurd (true≢false (sym is ∙ ap is_system here ∙ own))
      | inr b ↦
          let p = cover_parts (record { addr = suc a; len = b.0 }) x (subst (λ (r : Range). covers r x ≡ true) (freed_len b.0 b.1.is b.1.some) c) in
          absurd (true≢false (sym is ∙ below_system x (omega (arith, p.1, b.1.to))))
    ]
  ]

  none_foreign : is_system (suc a) ≡ false → (x : ℕ) → (covers freed x ≡ true) × (is_system x ≡ true) → ⊥
  none_foreign own x bad = true≢false (sym (foreign x bad.0 bad.1) ∙ own)

  own_first : ((x : ℕ) → (covers freed x ≡ true) × (is_system x ≡ true) → ⊥) → is_system (suc a) ≡ false
  own_first none = elim (cases_Bool (is_system (suc a))) [ inl sys ↦ absurd (none (suc a) (first, sys)) | inr own ↦ own ]

  abbrev IsPendingBad : ℕ → Type 0
  IsPendingBad x = (covers freed x ≡ true) × (IsHeld (byte s x past).cell ⊎ (false ≡ true))

  -- the later checks of a block that is there
  module _ (own : is_system (suc a) ≡ false) (len : ℕ) (b : IsBlock s past memory (suc a) len) where
    abbrev block : Range
    block = record { addr = suc a; len = len }

    in_block : (x : ℕ) → covers freed x ≡ true → covers block x ≡ true
    in_block x c = subst (λ (r : Range). covers r x ≡ true) (freed_len len b.is b.some) c

    in_freed : (x : ℕ) → covers block x ≡ true → covers freed x ≡ true
    in_freed x c = subst (λ (r : Range). covers r x ≡ true) (sym (freed_len len b.is b.some)) c

    not_system : (x : ℕ) → covers block x ≡ true → is_system x ≡ false
    not_system x c = below_system x (let p = cover_parts block x c in omega (arith, p.1, b.to))

    none_dead : (x : ℕ) → (covers freed x ≡ true) × ((byte s x past).cell ≡ Dead) → ⊥
    none_dead x bad =
        let c = in_block x bad.0 in
        let p = cover_parts block x c in
        b.live x p.0 p.1 (dead_byte s past memory h x (not_system x c) bad.1)

    pending_bad : (x : ℕ) → IsPendingBad x → IsInRange block x × IsPending memory.held.regions x
    pending_bad x bad =
        let c = in_block x bad.0 in
        let p = cover_parts block x c in
        ((p.0, p.1, omega (arith, p.1, b.to)), elim bad.1 [ inl is ↦ pending_byte s past memory h x (not_system x c) is | inr wrong ↦ absurd (true≢false (sym wrong)) ])

    bad_pending : (x : ℕ) → IsInRange block x → IsPending memory.held.regions x → IsPendingBad x
    bad_pending x in' is =
        let c = covered block x in'.0 in'.1 in
        (in_freed x c, inl (byte_pending s past memory h x (not_system x c) (b.live x in'.0 in'.1) is))

    pending_refused : (x : ℕ) → IsLeastIn block (IsPending memory.held.regions) x → IsRefusedHere (Pending x)
    pending_refused x least = (own, (len, b.there, least))

  found : (f : Finding) → Finds (checks i s past t (Frees (suc a))) f → (r : Refusal) × IsRefusedHere r × (f ≡ finding_of r)
  found f (inl (x, least, is)) =
      let sys = foreign x least.0.0 least.0.1 in
      let p = cover_parts freed x least.0.0 in
      let le = least.1 (suc a) (first, sys) in
      let here : x ≡ suc a = omega (arith, p.0, le) in
      (OtherSpace x, (sys, here), is)
  found f (inr (none, inl (x, least, is))) = absurd (no_race x least.0)
  found f (inr (none, inr (free, inl (x, least, is)))) =
      let own = own_first none in
      elim (block_of own (length_at memory.sides.replay.pool.blocks (suc a)) refl) [
        | inl no_block ↦ (NotLive x, (own, no_block.none, least.0.0), is)
        | inr b ↦ absurd (let z = least.0.1 in omega (arith, z, b.1.is, b.1.some))
      ]
  found f (inr (none, inr (free, inr (begins, inl (x, least, is))))) =
      let own = own_first none in
      elim (block_of own (length_at memory.sides.replay.pool.blocks (suc a)) refl) [
        | inl no_block ↦ absurd (begins (suc a) (refl, no_block.is))
        | inr b ↦ absurd (none_dead own b.0 b.1 x least.0)
      ]
  found f (inr (none, inr (free, inr (begins, inr (live, inl (x, least, is)))))) =
      let own = own_first none in
      elim (block_of own (length_at memory.sides.replay.pool.blocks (suc a)) refl) [
        | inl no_block ↦ absurd (begins (suc a) (refl, no_block.is))
        | inr b ↦
            let k = pending_bad own b.0 b.1 x least.0 in
            (Pending x, pending_refused own b.0 b.1 x (record { in_range = k.0; holds = k.1; least = λ y in' p. least.1 y (bad_pending own b.0 b.1 y in' p) }), is)
      ]
  found f (inr (none, inr (free, inr (begins, inr (live, inr (idle, more)))))) = absurd more

  pass : ((r : Refusal) → IsRefusedHere r → ⊥) → Passes (checks i s past t (Frees (suc a)))
  pass fine =
      let own : is_system (suc a) ≡ false = elim (cases_Bool (is_system (suc a))) [ inl sys ↦ absurd (fine (OtherSpace (suc a)) (sys, refl)) | inr own ↦ own ] in
      elim (block_of own (length_at memory.sides.replay.pool.blocks (suc a)) refl) [
        | inl no_block ↦ absurd (fine (NotLive (suc a)) (own, no_block.none, refl))
        | inr b ↦ (
          none_foreign own,
          (
            no_race,
            (
              (λ x bad. (let z = bad.1 in omega (arith, z, b.1.is, b.1.some))),
              (
                none_dead own b.0 b.1,
                (
                  (λ x bad. (let k = pending_bad own b.0 b.1 x bad in none_in (record { addr = suc a; len = b.0 }) (is_held memory.held.regions) (λ y least. fine (Pending y) (pending_refused own b.0 b.1 y least)) x k.0 k.1)),
                  tt,
                ),
              ),
            ),
          ),
        )
      ]

  pub frees_find : FreesFind i s past memory t (suc a)
  frees_find = record {
    found = found;
    passes = ((λ p r refused. not_both (checks i s past t (Frees (suc a))) (finding_of r) (frees_found i s past memory t (suc a) h (omega arith) unraced r refused) p), pass);
  }

pub found_frees : (i : Interface) (s : Start) (past : List Mark) (memory : SpaceState) (t addr : ℕ) → StandsFor s past memory → 1 ≤ addr →
    Unraced past t true (freed_range addr (byte s addr past).block) → FreesFind i s past memory t addr
found_frees i s past memory t zero h some unraced = absurd (omega (arith, some))
found_frees i s past memory t (suc a) h some unraced = frees_find i s past memory t a h unraced
