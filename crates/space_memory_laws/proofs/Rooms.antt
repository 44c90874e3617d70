-- Refusals of frames and of frees are what the checks of a run find.
use Rattle.std.proofs.Common.{◌≡◌, ℕ, zero, suc, ◌+◌, ◌-◌, ◌<◌, ◌≤◌, ◌↔◌, true, false, cond, ◌||◌, eqb, List, [], ◌∷◌, length, Option, Some, None, is_some, inl, inr, refl, ap, sym, ◌∙◌, subst, arith}
use Rattle.std.specs.Prelude.{unwrap_or, slice_get}
use Rattle.std.proofs.lemmas.Bool.{cases_lt, true≢false, cond-true, cond-false, eq-eqb, ne_eqb}
use Rattle.marks.specs.declared.side.Side.TheVariants.{Replay}
use Rattle.marks.specs.Places.{thread_count, frame_count, stack, stack_size, replay_pool, pool_size, is_system}
use Rattle.marks.specs.declared.range.Range.{Range}
use Rattle.marks.specs.Ranges.{range, covers, any_range, IsInRange, IsLeastIn}
use Rattle.marks.specs.Marks.{Mark}
use Rattle.marks.specs.Bytes.{IsHeld}
use Rattle.marks.specs.Wants.{Frees}
use Rattle.memory_map.specs.declared.areas.TheConstants.{SYSTEM_MEMORY}
use Rattle.space_memory_bytes.specs.Areas.{byte_at, IsDead}
use Rattle.space_memory.specs.StackFrames.{StackState, stack_of, IsFullFor}
use Rattle.space_memory.specs.StackFrames as stacks
use Rattle.pool_list.specs.Blocks.{PoolState, length_at}
use Rattle.space_memory_access.specs.Held.{IsPending}
use Rattle.space_memory_access.specs.declared.refusal.Refusal.{Refusal}
use Rattle.space_memory_access.specs.declared.refusal.Refusal.TheVariants.{NotLive, Pending, OtherSpace, ReadOnly, StackFull, KeyInUse, NoKey, Size}
use Rattle.space_memory_access.specs.Accesses.{IsRefused}
use Rattle.replay_runs.specs.Runs.{Start, marks_of, byte}
use Rattle.replay_runs.specs.Interface.{Interface}
use Rattle.replay_runs.specs.Threads.{frames, frame_place, HasRoom}
use Rattle.replay_runs.specs.Pool.{blocks}
use Rattle.replay_runs.specs.Checks.{Finds, Races, freed_range, checks}
use Rattle.space_memory.specs.Sides.{top_of}
use Rattle.space_memory.specs.Spaces.{SpaceState}
use Rattle.space_memory.specs.Frames.{IsEnterRefused, IsLeaveRefused}
use Rattle.space_memory.specs.Blocks.{IsFreeRefused}
use Rattle.replay_runs.specs.Passing.{Unraced}
use Rattle.space_memory_laws.specs.Shown.{innermost_last, stack_with, by_address}
use Rattle.space_memory_laws.specs.Sound.{AreStacked}
use Rattle.space_memory_laws.specs.StandsFor.{StandsFor}
use Rattle.space_memory_laws.specs.Refusals.{finding_of, access}
use Rattle.space_memory_laws.proofs.Cells.{cover_parts, covered, below_system}
use Rattle.space_memory_laws.proofs.Stacks.{end_is, count_is, base_first, last_of}
use Rattle.space_memory_laws.proofs.Blocks.{begins_from, any_is, any_there}
use Rattle.space_memory_laws.proofs.Refusals.{dead_byte, pending_byte, byte_pending}

is_full : (st : StackState) (size : ℕ) (r : Refusal) → IsEnterRefused st size r → IsFullFor st size
is_full st size (NotLive x) p = absurd p
is_full st size (Pending x) p = absurd p
is_full st size (OtherSpace x) p = absurd p
is_full st size (ReadOnly x) p = absurd p
is_full st size (StackFull x) p = p.0
is_full st size (KeyInUse x) p = absurd p
is_full st size (NoKey x) p = absurd p
is_full st size (Size x) p = absurd p

pub full_stacks : (s : Start) (past : List Mark) (memory : SpaceState) (t size : ℕ) → StandsFor s past memory → t < thread_count →
    ((r : Refusal) × IsEnterRefused (stack_of memory.sides.replay.stacks t) size r) ↔ (HasRoom t (marks_of s t past) size → ⊥)
full_stacks s past memory t size h lt = (no_room, refuses)
  where
    no_room : ((r : Refusal) × IsEnterRefused (stack_of memory.sides.replay.stacks t) size r) → HasRoom t (marks_of s t past) size → ⊥
    no_room p room =
        let full : IsFullFor (stack_with t (frames (marks_of s t past))) size = subst (λ (q : StackState). IsFullFor q size) (h.stacks t lt) (is_full (stack_of memory.sides.replay.stacks t) size p.0 p.1) in
        elim full [
          | inl many ↦ omega (arith, many, count_is (frames (marks_of s t past)), room.1)
          | inr beyond ↦ omega (arith, beyond, end_is (stack Replay t) (frames (marks_of s t past)), room.0)
        ]

    refuses : (HasRoom t (marks_of s t past) size → ⊥) → (r : Refusal) × IsEnterRefused (stack_of memory.sides.replay.stacks t) size r
    refuses none =
        let full : IsFullFor (stack_with t (frames (marks_of s t past))) size = elim (cases_lt (length (frames (marks_of s t past))) frame_count) [
          | inl few ↦ elim (cases_lt (stack Replay t + stack_size) (frame_place t (marks_of s t past) + size)) [
            | inl beyond ↦ inr (omega (arith, beyond, end_is (stack Replay t) (frames (marks_of s t past))))
            | inr room ↦ absurd (none (room, few))
          ]
          | inr many ↦ inl (omega (arith, many, count_is (frames (marks_of s t past))))
        ] in
        (StackFull (stacks.end_of (stack_of memory.sides.replay.stacks t).base (stack_of memory.sides.replay.stacks t).frames), (subst (λ (q : StackState). IsFullFor q size) (sym (h.stacks t lt)) full, refl))

-- the innermost frame, whose bytes live
pub record IsTop (bytes : ℕ → Option ℕ) (t : ℕ) (frame : Range) : Type 0 where
  pub from : stack Replay t ≤ frame.addr
  pub to : frame.addr + frame.len ≤ stack Replay t + stack_size
  pub live : (x : ℕ) → IsInRange frame x → bytes x ≡ None → ⊥

pub top_frame : (s : Start) (past : List Mark) (memory : SpaceState) (t : ℕ) (frame : Range) → StandsFor s past memory → t < thread_count →
    (fs : List Range) → frames (marks_of s t past) ≡ fs → slice_get (innermost_last fs) (length (innermost_last fs) - 1) ≡ Some frame →
    IsTop (byte_at memory.bytes) t frame
top_frame s past memory t frame h lt [] were top = absurd (none_some frame top)
  where
    none_some : (r : Range) → ◌≡◌ {A = Option Range} None (Some r) → ⊥
    none_some r e = absurd cc
top_frame s past memory t frame h lt (f ∷ fs) were top =
    let same : f ≡ frame = some_same f frame (sym (last_of (innermost_last fs) f) ∙ top) in
    let stacked = subst (AreStacked (stack Replay t)) were (h.sound.stacked t lt) in
    let low = base_first (stack Replay t) fs stacked.2 in
    subst (IsTop (byte_at memory.bytes) t) same (record {
      from = omega (arith, stacked.0, low);
      to = stacked.1;
      live = λ x in' dead.
          let c : covers f x ≡ true = covered f x in'.0 in'.1 in
          let in_stack : covers (range (stack Replay t) stack_size) x ≡ true = covered (range (stack Replay t) stack_size) x (omega (arith, in'.0, stacked.0, low)) (omega (arith, in'.1, stacked.1)) in
          let lives : is_some (byte_at memory.bytes x) ≡ true = h.sound.frames_live t lt x in_stack ∙ ap (λ gs. any_range gs x) were ∙ ap (λ b. b || any_range fs x) c in
          true≢false (sym lives ∙ ap is_some dead);
    })
  where
    some_same : (a b : Range) → ◌≡◌ {A = Option Range} (Some a) (Some b) → a ≡ b
    some_same a b e = cc

module _ (memory : SpaceState) (t : ℕ) (frame : Range) (lt : t < thread_count) (top : IsTop (byte_at memory.bytes) t frame) where
  as_write : (r : Refusal) → IsLeaveRefused Replay memory.held.regions (Some frame) r → IsRefused memory.bytes memory.held.regions (access t frame.addr frame.len true) r
  as_write (Pending x) p = ((λ y in' sys. omega (arith, in'.1, top.to, lt, sys.0)), top.live, p)
  as_write (NotLive x) p = absurd p
  as_write (OtherSpace x) p = absurd p
  as_write (ReadOnly x) p = absurd p
  as_write (StackFull x) p = absurd p
  as_write (KeyInUse x) p = absurd p
  as_write (NoKey x) p = absurd p
  as_write (Size x) p = absurd p

  as_leave : (r : Refusal) → IsRefused memory.bytes memory.held.regions (access t frame.addr frame.len true) r → IsLeaveRefused Replay memory.held.regions (Some frame) r
  as_leave (Pending x) p = p.2
  as_leave (NotLive x) p = absurd (top.live x p.1.in_range p.1.holds)
  as_leave (OtherSpace x) p = absurd (omega (arith, p.in_range.1, top.to, lt, p.holds.0))
  as_leave (ReadOnly x) p = absurd (omega (arith, p.3.in_range.0, top.from, p.3.holds.1))
  as_leave (StackFull x) p = absurd p
  as_leave (KeyInUse x) p = absurd p
  as_leave (NoKey x) p = absurd p
  as_leave (Size x) p = absurd p

pub leaves_as_writes : (s : Start) (past : List Mark) (memory : SpaceState) (t : ℕ) (frame : Range) → StandsFor s past memory →
    t < thread_count → top_of memory.sides.replay t ≡ Some frame → (r : Refusal) →
    IsLeaveRefused Replay memory.held.regions (top_of memory.sides.replay t) r ↔ IsRefused memory.bytes memory.held.regions (access t frame.addr frame.len true) r
leaves_as_writes s past memory t frame h lt is r =
    let there : IsTop (byte_at memory.bytes) t frame = top_frame s past memory t frame h lt (frames (marks_of s t past)) refl (sym (ap (λ (q : StackState). slice_get q.frames (length q.frames - 1)) (h.stacks t lt)) ∙ is) in
    subst (λ (o : Option Range). IsLeaveRefused Replay memory.held.regions o r ↔ IsRefused memory.bytes memory.held.regions
    (access t frame.addr frame.len true) r) (sym is) (as_write memory t frame lt there r, as_leave memory t frame lt there r)

-- a range that is freed has its first byte
pub freed_some : (n : ℕ) → 1 ≤ cond (eqb n 0) 1 n
freed_some zero = omega arith
freed_some (suc n) = subst (λ k. 1 ≤ k) (sym (cond-false (eqb (suc n) 0) 1 (suc n) (ne_eqb (suc n) 0 (λ e. absurd (omega (arith, e)))))) (omega arith)

module _ (i : Interface) (s : Start) (past : List Mark) (memory : SpaceState) (t a : ℕ) (h : StandsFor s past memory) (unraced : Unraced past t true (freed_range (suc a) (byte s (suc a) past).block)) where
  abbrev freed : Range
  freed = freed_range (suc a) (byte s (suc a) past).block

  no_race : (x : ℕ) → (covers freed x ≡ true) × ((u : ℕ) × Races past t true x u) → ⊥
  no_race x bad = unraced x bad.1.0 bad.0 bad.1.1

  begins : covers SYSTEM_MEMORY (suc a) ≡ false → (o : Option ℕ) → length_at memory.sides.replay.pool.blocks (suc a) ≡ o → (byte s (suc a) past).block ≡ unwrap_or o 0
  begins own o is = h.begins (suc a) own ∙ ap (λ k. unwrap_or k 0) is

  -- a free at an address that begins no block
  no_block : covers SYSTEM_MEMORY (suc a) ≡ false → length_at memory.sides.replay.pool.blocks (suc a) ≡ None → Finds (checks i s past t (Frees (suc a))) (finding_of (NotLive (suc a)))
  no_block own none =
      let n : (byte s (suc a) past).block ≡ 0 = begins own None none in
      inr (
        (λ x bad.
            let one : cond (eqb (byte s (suc a) past).block 0) 1 (byte s (suc a) past).block ≡ 1 = cond-true (eqb (byte s (suc a) past).block 0) 1 _ (eq-eqb (byte s (suc a) past).block 0 n) in
            let p = cover_parts freed x bad.0 in
            let here : x ≡ suc a = omega (arith, p.0, p.1, one) in
            true≢false (sym bad.1 ∙ ap is_system here ∙ own)),
        inr (no_race, inl (suc a, ((refl, n), λ y bad. omega (arith, bad.0)), refl)),
      )

  -- a free of a block of which a byte waits
  pending_block : covers SYSTEM_MEMORY (suc a) ≡ false → (len x : ℕ) → length_at memory.sides.replay.pool.blocks (suc a) ≡ Some len →
      IsLeastIn (record { addr = suc a; len = len }) (IsPending memory.held.regions) x →
      Finds (checks i s past t (Frees (suc a))) (finding_of (Pending x))
  pending_block own len x is least =
      let n : (byte s (suc a) past).block ≡ len = begins own (Some len) is in
      let bs = blocks s past in
      let there : length_at (by_address bs) (suc a) ≡ Some len = sym (ap (λ (q : PoolState). length_at q.blocks (suc a)) h.pool) ∙ is in
      let lies = begins_from replay_pool (replay_pool + pool_size) (by_address bs) (suc a) len h.sound.laid_out there in
      let some : cond (eqb (byte s (suc a) past).block 0) 1 (byte s (suc a) past).block ≡ len = cond-false (eqb (byte s (suc a) past).block 0) 1 _ (ne_eqb (byte s (suc a) past).block 0 (λ e. absurd (omega (arith, e, n, lies.1)))) ∙ n in
      let same : freed ≡ record { addr = suc a; len = len } = ap (λ k. let r : Range = record { addr = suc a; len = k } in r) some in
      let not_system : (y : ℕ) → covers (record { addr = suc a; len = len }) y ≡ true → is_system y ≡ false = λ y c. below_system y (let p = cover_parts (record { addr = suc a; len = len }) y c in omega (arith, p.1, lies.2)) in
      let live : (y : ℕ) → covers (record { addr = suc a; len = len }) y ≡ true → IsDead memory.bytes y → ⊥ = λ y c dead.
      let p = cover_parts (record { addr = suc a; len = len }) y c in
      let in_pool : covers (range replay_pool pool_size) y ≡ true = covered (range replay_pool pool_size) y (omega (arith, p.0, lies.0)) (omega (arith, p.1, lies.2)) in
      true≢false (sym (h.sound.blocks_live y in_pool ∙ any_is bs y ∙ any_there replay_pool (replay_pool + pool_size) (by_address bs) (suc a) len y h.sound.laid_out there c) ∙ ap is_some dead) in
      let at : (y : ℕ) → covers freed y ≡ true → covers (record { addr = suc a; len = len }) y ≡ true = λ y c. subst (λ (r : Range). covers r y ≡ true) same c in
      let c : covers (record { addr = suc a; len = len }) x ≡ true = covered (record { addr = suc a; len = len }) x least.in_range.0 least.in_range.1 in
      let waits : IsHeld (byte s x past).cell = byte_pending s past memory h x (not_system x c) (live x c) least.holds in
      inr (
        (λ y bad. true≢false (sym bad.1 ∙ not_system y (at y bad.0))),
        inr (
          no_race,
          inr (
            (λ y bad. omega (arith, bad.1, n, lies.1)),
            inr (
              (λ y bad. live y (at y bad.0) (dead_byte s past memory h y (not_system y (at y bad.0)) bad.1)),
              inl (
                x,
                (
                  (subst (λ (r : Range). covers r x ≡ true) (sym same) c, inl waits),
                  λ y bad.
                      let p = cover_parts (record { addr = suc a; len = len }) y (at y bad.0) in
                      least.least y (p.0, p.1, omega (arith, p.1, lies.2)) (elim bad.1 [ inl is ↦ pending_byte s past memory h y (not_system y (at y bad.0)) is | inr wrong ↦ absurd (true≢false (sym wrong)) ]),
                ),
                refl,
              ),
            ),
          ),
        ),
      )

  found : (r : Refusal) → IsFreeRefused Replay memory.sides.replay.pool.blocks memory.held.regions (suc a) r → Finds (checks i s past t (Frees (suc a))) (finding_of r)
  found (OtherSpace x) p =
      let some = freed_some (byte s (suc a) past).block in
      let first : covers freed (suc a) ≡ true = covered freed (suc a) (omega arith) (omega (arith, some)) in
      subst (λ y. Finds (checks i s past t (Frees (suc a))) (finding_of (OtherSpace y))) (sym p.1) (inl (suc a, ((first, p.0), λ y bad. (cover_parts freed y bad.0).0), refl))
  found (NotLive x) p = subst (λ y. Finds (checks i s past t (Frees (suc a))) (finding_of (NotLive y))) (sym p.2) (no_block p.0 p.1)
  found (Pending x) p = pending_block p.0 p.1.0 x p.1.1 p.1.2
  found (ReadOnly x) p = absurd p
  found (StackFull x) p = absurd p
  found (KeyInUse x) p = absurd p
  found (NoKey x) p = absurd p
  found (Size x) p = absurd p

pub frees_found : (i : Interface) (s : Start) (past : List Mark) (memory : SpaceState) (t addr : ℕ) → StandsFor s past memory → 1 ≤ addr →
    Unraced past t true (freed_range addr (byte s addr past).block) → (r : Refusal) →
    IsFreeRefused Replay memory.sides.replay.pool.blocks memory.held.regions addr r → Finds (checks i s past t (Frees addr)) (finding_of r)
frees_found i s past memory t zero h some unraced r p = absurd (omega (arith, some))
frees_found i s past memory t (suc a) h some unraced r p = found i s past memory t a h unraced r p
