-- What the tests of a step below the cut find.
use Rattle.std.proofs.Common.{◌≡◌, ℕ, suc, ◌+◌, ◌<◌, true, false, List, [], ◌∷◌, ◌++◌, length, inl, inr, refl, ap, sym, ◌∙◌, subst, arith}
use Rattle.std.proofs.lemmas.Bool.{cases_lt, cases_Bool, true≢false}
use Rattle.std.proofs.lemmas.List.Elements.{All-head, All-tail}
use Rattle.marks.specs.declared.side.Side.TheVariants.{System}
use Rattle.marks.specs.declared.fault.FaultKind.TheVariants as fault
use Rattle.marks.specs.Places.{thread_count, system_pool, pool_size, is_replay}
use Rattle.marks.specs.Ranges.{range, covers}
use Rattle.marks.specs.Marks.{Mark}
use Rattle.memory_map.specs.declared.areas.TheConstants.{STACK_SIZE, FRAMES, REPLAY_MEMORY}
use Rattle.pool_list.specs.Blocks.{PoolState, length_at}
use Rattle.space_memory_access.specs.declared.refusal.Refusal.{Refusal}
use Rattle.space_memory_access.specs.declared.refusal.Refusal.TheVariants.{NotLive, Pending, OtherSpace, ReadOnly, StackFull, KeyInUse, NoKey, Size}
use Rattle.space_memory.specs.StackFrames.{stack_of, IsFullFor}
use Rattle.space_memory.specs.StackFrames as spaces
use Rattle.space_memory.specs.Spaces.{SpaceState}
use Rattle.space_memory.specs.Frames.{IsEnterRefused}
use Rattle.space_memory.specs.Blocks.{IsFreeRefused}
use Rattle.space_memory_laws.specs.Refusals.{finding_of}
use Rattle.space_memory_laws.specs.Shown.{by_address}
use Rattle.space_memory_laws.proofs.Cells.{cover_parts, covered}
use Rattle.replay_runs.specs.Checks.{Finding, FaultFound, Checks, Done, Passes, Finds}
use Rattle.whole_runs.specs.World.{World}
use Rattle.whole_runs.specs.Sides.{HasRoomOn}
use Rattle.whole_runs.specs.Memory.{real}
use Rattle.whole_runs.specs.Below.{system_blocks, block_at, read_checks, Target, To, Nowhere, Missing}
use Rattle.whole_runs.specs.Tests.{full_check, free_checks, piece_check, piece_checks}
use Rattle.whole_runs_memory.specs.Stands.{StandsForWhole, InStep}
use Rattle.whole_runs_memory.specs.Refusals.{TouchRefusalsAreFindings, FullStacksBelowAreFound, FreeRefusalsBelowAreFindings, MayRead, RefusedReadsBelowAreFound, ReadsBelowPass, RefusedPiecesAreFound, LongPiecesAreFound, MissingRegionsAreFound, WrittenPiecesPass, PiecesToNowherePass}
use Rattle.whole_runs_memory.proofs.BlocksAt.{as_range, blocks_at, none_at}
use Rattle.whole_runs_memory.proofs.Below.{place_is, base_is, frames_count, room_is}
use Rattle.whole_runs_memory.proofs.PoolBelow.{laid_out}
use Rattle.whole_runs_memory.proofs.Steps.{steps_begin}
use Rattle.whole_runs_memory.proofs.Touch.{in_replay, replay_in, refused_found, found_refused, allowed_passes, passes_allowed, allowed_finds}

pub touches : (w : World) → TouchRefusalsAreFindings w
touches w past memory t write r h lt small = record {
  of_refused = λ f p. refused_found w past [] memory t write r s lt small Done f p;
  of_found = λ f p. elim (found_refused w past [] memory t write r s lt small Done f p) [ inl k ↦ k | inr q ↦ absurd q.1 ];
  passes = (
    λ p. passes_allowed w past [] memory t write r s lt small Done p,
    λ ok. allowed_passes w past [] memory t write r s lt small Done ok tt,
  );
}
  where
    s : InStep w past [] memory
    s = steps_begin w past memory h

-- ---- frames

module _ (w : World) (past : List Mark) (memory : SpaceState) (t size : ℕ) (h : StandsForWhole w past memory) (lt : t < thread_count) where
  full_without_room : IsFullFor (stack_of memory.sides.system.stacks t) size → HasRoomOn w System t past size → ⊥
  full_without_room (inl many) room = omega (arith, many, room.1, frames_count w past (real w past) memory t h lt)
  full_without_room (inr beyond) room = omega (arith, beyond, room.0, place_is w past (real w past) memory t h lt, base_is w past (real w past) memory t h lt)

  refused_full : (f : Refusal) → IsEnterRefused (stack_of memory.sides.system.stacks t) size f → Finds (full_check w past t size) (finding_of f)
  refused_full (StackFull x) p = inl (0, (full_without_room p.0, λ y q. omega arith), refl)
  refused_full (OtherSpace x) p = absurd p
  refused_full (NotLive x) p = absurd p
  refused_full (Pending x) p = absurd p
  refused_full (ReadOnly x) p = absurd p
  refused_full (KeyInUse x) p = absurd p
  refused_full (NoKey x) p = absurd p
  refused_full (Size x) p = absurd p

  -- a frame that has no room is refused
  full_where_no_room : (HasRoomOn w System t past size → ⊥) → IsFullFor (stack_of memory.sides.system.stacks t) size
  full_where_no_room none = elim (cases_lt (length (stack_of memory.sides.system.stacks t).frames) FRAMES) [
    | inr many ↦ inl many
    | inl few ↦ elim (cases_lt ((stack_of memory.sides.system.stacks t).base + STACK_SIZE) (spaces.end_of (stack_of memory.sides.system.stacks t).base (stack_of memory.sides.system.stacks t).frames + size)) [
      | inl beyond ↦ inr beyond
      | inr fits ↦ absurd (none (
        omega (arith, fits, place_is w past (real w past) memory t h lt, base_is w past (real w past) memory t h lt),
        omega (arith, few, frames_count w past (real w past) memory t h lt),
      ))
    ]
  ]

  found_full : (f : Finding) → Finds (full_check w past t size) f → (k : Refusal) × IsEnterRefused (stack_of memory.sides.system.stacks t) size k × (f ≡ finding_of k)
  found_full f (inl p) = (StackFull _, (full_where_no_room p.1.0, refl), p.2)
  found_full f (inr p) = absurd p.1

  passes_full : Passes (full_check w past t size) → (f : Refusal) → IsEnterRefused (stack_of memory.sides.system.stacks t) size f → ⊥
  passes_full p (StackFull x) q = p.0 0 (full_without_room q.0)
  passes_full p (OtherSpace x) q = q
  passes_full p (NotLive x) q = q
  passes_full p (Pending x) q = q
  passes_full p (ReadOnly x) q = q
  passes_full p (KeyInUse x) q = q
  passes_full p (NoKey x) q = q
  passes_full p (Size x) q = q

pub full : (w : World) → FullStacksBelowAreFound w
full w past memory t size h lt = record {
  of_refused = refused_full w past memory t size h lt;
  of_found = found_full w past memory t size h lt;
  passes = (
    passes_full w past memory t size h lt,
    λ none. ((λ x p. p (room_is w past (real w past) memory t h lt size none)), tt),
  );
}

-- ---- blocks

module _ (w : World) (past : List Mark) (memory : SpaceState) (at : ℕ) (h : StandsForWhole w past memory) where
  abbrev addr : ℕ
  addr = suc at

  length_is : length_at memory.sides.system.pool.blocks addr ≡ length_at (by_address (system_blocks past)) addr
  length_is = ap (λ (q : PoolState). length_at q.blocks addr) h.pool

  block_is : block_at addr past ≡ as_range addr (length_at memory.sides.system.pool.blocks addr)
  block_is = blocks_at system_pool (system_pool + pool_size) (system_blocks past) addr (laid_out w past (real w past) memory h) ∙ ap (as_range addr) (sym length_is)

  other : covers REPLAY_MEMORY addr ≡ true → is_replay addr ≡ true
  other c = let p = cover_parts REPLAY_MEMORY addr c in replay_in addr (p.0, p.1, omega (arith, p.1))

  other_back : is_replay addr ≡ true → covers REPLAY_MEMORY addr ≡ true
  other_back is = let p = in_replay addr is in covered REPLAY_MEMORY addr p.0 p.1

  not_other : covers REPLAY_MEMORY addr ≡ false → (x : ℕ) → (x ≡ addr) × (is_replay x ≡ true) → ⊥
  not_other c x p = true≢false (sym (other_back (subst (λ y. is_replay y ≡ true) p.0 p.1)) ∙ c)

  abbrev Refused : Refusal → Type 0
  Refused = IsFreeRefused System memory.sides.system.pool.blocks memory.held.regions addr

  refused_free : (f : Refusal) → Refused f → Finds (free_checks w past addr) (finding_of f)
  refused_free (OtherSpace x) p = subst (λ y. Finds (free_checks w past addr) (finding_of (OtherSpace y))) (sym p.1) (inl (addr, ((refl, other p.0), λ y q. omega (arith, q.0)), refl))
  refused_free (NotLive x) p = inr (not_other p.0, inl (0, (block_is ∙ ap (as_range addr) p.1, λ y q. omega arith), refl))
  refused_free (Pending x) p = absurd p.1.2.holds
  refused_free (ReadOnly x) p = absurd p
  refused_free (StackFull x) p = absurd p
  refused_free (KeyInUse x) p = absurd p
  refused_free (NoKey x) p = absurd p
  refused_free (Size x) p = absurd p

  covers_not : ((x : ℕ) → (x ≡ addr) × (is_replay x ≡ true) → ⊥) → covers REPLAY_MEMORY addr ≡ false
  covers_not none = elim (cases_Bool (covers REPLAY_MEMORY addr)) [ inr not ↦ not | inl is ↦ absurd (none addr (refl, other is)) ]

  found_free : (f : Finding) → Finds (free_checks w past addr) f → (k : Refusal) × Refused k × (f ≡ finding_of k)
  found_free f (inl p) = (OtherSpace p.0, (other_back (subst (λ y. is_replay y ≡ true) p.1.0.0 p.1.0.1), p.1.0.0), p.2)
  found_free f (inr (none, inl p)) = (NotLive addr, (covers_not none, none_at addr (length_at memory.sides.system.pool.blocks addr) (sym block_is ∙ p.1.0), refl), p.2)
  found_free f (inr (none, inr p)) = absurd p.1

  passes_free : Passes (free_checks w past addr) → (f : Refusal) → Refused f → ⊥
  passes_free p (OtherSpace x) q = p.0 addr (refl, other q.0)
  passes_free p (NotLive x) q = p.1.0 0 (block_is ∙ ap (as_range addr) q.1)
  passes_free p (Pending x) q = q.1.2.holds
  passes_free p (ReadOnly x) q = q
  passes_free p (StackFull x) q = q
  passes_free p (KeyInUse x) q = q
  passes_free p (NoKey x) q = q
  passes_free p (Size x) q = q

  unrefused : ((f : Refusal) → Refused f → ⊥) → Passes (free_checks w past addr)
  unrefused none = (no_other, ((λ x e. none (NotLive addr) (covers_not no_other, none_at addr (length_at memory.sides.system.pool.blocks addr) (sym block_is ∙ e), refl)), tt))
    where
      no_other : (x : ℕ) → (x ≡ addr) × (is_replay x ≡ true) → ⊥
      no_other x p = none (OtherSpace addr) (other_back (subst (λ y. is_replay y ≡ true) p.0 p.1), refl)

pub free : (w : World) → FreeRefusalsBelowAreFindings w
free w past memory at h = record {
  of_refused = refused_free w past memory at h;
  of_found = found_free w past memory at h;
  passes = (passes_free w past memory at h, unrefused w past memory at h);
}

-- ---- ranges one after the other

pub reads : (w : World) → RefusedReadsBelowAreFound w
reads w past memory t [] after r f h lt all small p = refused_found w past [] memory t false r (steps_begin w past memory h) lt small (read_checks w past t after) f p
reads w past memory t (q ∷ before) after r f h lt all small p =
    let first = All-head (MayRead memory t) q before all in
    allowed_finds w past [] memory t false q (steps_begin w past memory h) lt first.0 (read_checks w past t (before ++ r ∷ after)) (finding_of f) first.1
    (reads w past memory t before after r f h lt (All-tail (MayRead memory t) q before all) small p)

pub reads_pass : (w : World) → ReadsBelowPass w
reads_pass w past memory t [] h lt all = tt
reads_pass w past memory t (q ∷ rs) h lt all =
    let first = All-head (MayRead memory t) q rs all in
    allowed_passes w past [] memory t false q (steps_begin w past memory h) lt first.0 (read_checks w past t rs) first.1
    (reads_pass w past memory t rs h lt (All-tail (MayRead memory t) q rs all))

-- ---- pieces one after the other

-- where the tests of a piece pass, what comes after them decides
rest_passes : (w : World) (past : List Mark) (t : ℕ) (x : Target) (b : List ℕ) (cs : Checks) → Passes (piece_check w past t x b cs) → Passes cs
rest_passes w past t (To r) b cs p = p.1.1.1.1
rest_passes w past t Nowhere b cs p = p
rest_passes w past t Missing b cs p = absurd (p.0 0 tt)

other_passes : (w : World) (past : List Mark) (t : ℕ) (x : Target) (b : List ℕ) (cs ds : Checks) → Passes (piece_check w past t x b cs) → Passes ds → Passes (piece_check w past t x b ds)
other_passes w past t (To r) b cs ds p q = (p.0, (p.1.0, (p.1.1.0, (p.1.1.1.0, q))))
other_passes w past t Nowhere b cs ds p q = q
other_passes w past t Missing b cs ds p q = absurd (p.0 0 tt)

other_finds : (w : World) (past : List Mark) (t : ℕ) (x : Target) (b : List ℕ) (cs ds : Checks) (f : Finding) →
    Passes (piece_check w past t x b cs) → Finds ds f → Finds (piece_check w past t x b ds) f
other_finds w past t (To r) b cs ds f p q = inr (p.0, inr (p.1.0, inr (p.1.1.0, inr (p.1.1.1.0, q))))
other_finds w past t Nowhere b cs ds f p q = q
other_finds w past t Missing b cs ds f p q = absurd (p.0 0 tt)

finds_after : (w : World) (past : List Mark) (t : ℕ) (xs more : List Target) (bs rest : List (List ℕ)) (f : Finding) → length xs ≡ length bs →
    Passes (piece_checks w past t xs bs) → Finds (piece_checks w past t more rest) f →
    Finds (piece_checks w past t (xs ++ more) (bs ++ rest)) f
finds_after w past t [] more [] rest f e p q = q
finds_after w past t [] more (b ∷ bs) rest f e p q = absurd (omega (arith, e))
finds_after w past t (x ∷ xs) more [] rest f e p q = absurd (omega (arith, e))
finds_after w past t (x ∷ xs) more (b ∷ bs) rest f e p q =
    other_finds w past t x b (piece_checks w past t xs bs) (piece_checks w past t (xs ++ more) (bs ++ rest)) f p
    (finds_after w past t xs more bs rest f (omega (arith, e)) (rest_passes w past t x b (piece_checks w past t xs bs) p) q)

passes_after : (w : World) (past : List Mark) (t : ℕ) (xs more : List Target) (bs rest : List (List ℕ)) → length xs ≡ length bs →
    Passes (piece_checks w past t xs bs) → Passes (piece_checks w past t more rest) →
    Passes (piece_checks w past t (xs ++ more) (bs ++ rest))
passes_after w past t [] more [] rest e p q = q
passes_after w past t [] more (b ∷ bs) rest e p q = absurd (omega (arith, e))
passes_after w past t (x ∷ xs) more [] rest e p q = absurd (omega (arith, e))
passes_after w past t (x ∷ xs) more (b ∷ bs) rest e p q =
    other_passes w past t x b (piece_checks w past t xs bs) (piece_checks w past t (xs ++ more) (bs ++ rest)) p
    (passes_after w past t xs more bs rest (omega (arith, e)) (rest_passes w past t x b (piece_checks w past t xs bs) p) q)

pub refused_pieces : (w : World) → RefusedPiecesAreFound w
refused_pieces w past memory t xs more bs rest pieces r b f at small fits p =
    finds_after w past t xs (To r ∷ more) bs (b ∷ rest) (finding_of f) at.count at.passed
    (inr ((λ x long. omega (arith, long, fits)), refused_found w past pieces memory t true (range r.addr (length b)) at.step at.thread small (piece_checks w past t more rest) f p))

pub long_pieces : (w : World) → LongPiecesAreFound w
long_pieces w past memory t xs more bs rest pieces r b at long =
    finds_after w past t xs (To r ∷ more) bs (b ∷ rest) (FaultFound fault.NotLive) at.count at.passed
    (inl (0, (long, λ y q. omega arith), refl))

pub missing_regions : (w : World) → MissingRegionsAreFound w
missing_regions w past memory t xs more bs rest pieces b at =
    finds_after w past t xs (Missing ∷ more) bs (b ∷ rest) (FaultFound fault.NotLive) at.count at.passed
    (inl (0, (tt, λ y q. omega arith), refl))

pub written_pieces : (w : World) → WrittenPiecesPass w
written_pieces w past memory t xs bs pieces r b at small fits ok =
    passes_after w past t xs (To r ∷ []) bs (b ∷ []) at.count at.passed
    ((λ x long. omega (arith, long, fits)), allowed_passes w past pieces memory t true (range r.addr (length b)) at.step at.thread small Done ok tt)

pub nowhere : (w : World) → PiecesToNowherePass w
nowhere w past memory t xs bs pieces b at = passes_after w past t xs (Nowhere ∷ []) bs (b ∷ []) at.count at.passed tt
