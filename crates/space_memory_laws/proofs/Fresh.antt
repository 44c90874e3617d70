-- Memory before a run.
use Rattle.std.proofs.Common.{◌≡◌, ℕ, suc, ◌+◌, ◌*◌, leb, ltb, ◌^◌, ◌<◌, ◌≤◌, ◌⊎◌, false, List, [], ◌∷◌, length, map, get_or, replicate, Option, None, is_some, inl, inr, refl, ap, sym, ◌∙◌, subst, arith, All}
use Rattle.std.specs.Prelude.{unwrap_or, option_map}
use Rattle.std.specs.List.{range_with_len}
use Rattle.std.proofs.lemmas.Bool.{cond-false, true≢false, and_from, le-leb, lt-ltb}
use Rattle.std.proofs.lemmas.List.{get_or-map, get_or-replicate, length-replicate}
use Rattle.std.proofs.lemmas.List.FromFn.{get_or-range_with_len, length-range_with_len, length-map-range_with_len}
use Rattle.std.proofs.lemmas.List.Elements.{All-head, All-tail, All-nil}
use Rattle.marks.specs.declared.side.Side.TheVariants.{Replay}
use Rattle.marks.specs.Places.{stack, stack_size, constants, replay_globals, replay_pool, system_globals, system_end, pool_size, is_constant, is_replay, is_system}
use Rattle.marks.specs.declared.range.Range.{Range}
use Rattle.marks.specs.Ranges.{range, covers}
use Rattle.marks.specs.Bytes.{Byte}
use Rattle.memory_map.specs.declared.placed.Place.{Place}
use Rattle.memory_map.specs.declared.placed.Placed.{Placed}
use Rattle.memory_map.specs.declared.areas.TheConstants.{THREADS, STACK_SIZE, REPLAY_STACKS, REPLAY_POOL, SYSTEM_STACKS, SYSTEM_POOL}
use Rattle.space_memory_bytes.specs.Areas.{byte_at}
use Rattle.space_memory.specs.StackFrames.{StackState, stack_of, LieInStack}
use Rattle.pool_list.specs.Blocks.{length_at}
use Rattle.space_memory_access.specs.declared.holder.Region.{Region}
use Rattle.space_memory_access.specs.Held.{HeldState, prepared_region}
use Rattle.space_memory.specs.declared.sides.Sides.{Sides}
use Rattle.space_memory.specs.Sides.{SideState, fresh_stack, fresh_side}
use Rattle.space_memory.specs.Spaces.{SpaceState, IsWhole}
use Rattle.space_memory.specs.Objects.{IsInArea, object_range, byte_of}
use Rattle.replay_runs.specs.Laws.{fresh}
use Rattle.space_memory_laws.specs.Shown.{cell_of, value_when_held}
use Rattle.space_memory_laws.specs.Held.{AreHeld}
use Rattle.space_memory_laws.specs.Sound.{IsBelow}
use Rattle.space_memory_laws.specs.StandsFor.{HoldsFor, StandsFor}
use Rattle.space_memory_laws.specs.Starts.{placed_byte}
use Rattle.space_memory_laws.proofs.Cells.{cover_cases, cover_parts, in_replay}

-- an object that lies in an area has no byte in a stack or the pool, nor at the last address, nor out of all memories
IsBare : ℕ → Type 0
IsBare x = ((0x20000000 ≤ x) × (x < 0x40000000)) ⊎ (2 ^ 64 ≤ suc x) ⊎ ((is_constant x ≡ false) × (is_replay x ≡ false) × (is_system x ≡ false))

misses : (o : Place) (x : ℕ) → IsInArea o → IsBare x → covers (object_range o) x ≡ false
unfolding IsBare
misses o x area bare = elim (cover_cases (object_range o) x) [
  | inl in' ↦ absurd (elim area [
    | inl constant ↦ elim bare [
      | inl b ↦ omega (arith, in'.from, in'.below, constant.1, b.0)
      | inr other ↦ elim other [
        | inl b ↦ omega (arith, in'.below, constant.1, b)
        | inr b ↦ true≢false (sym (and_from (leb constants x) (ltb x replay_globals) (le-leb constants x (omega (arith, in'.from, constant.0))) (lt-ltb x replay_globals (omega (arith, in'.below, constant.1)))) ∙ b.0)
      ]
    ]
    | inr global ↦ elim global [
      | inl replay ↦ elim bare [
        | inl b ↦ omega (arith, in'.below, replay.1, b.0)
        | inr other ↦ elim other [
          | inl b ↦ omega (arith, in'.below, replay.1, b)
          | inr b ↦ true≢false (sym (in_replay x (omega (arith, in'.from, replay.0)) (omega (arith, in'.below, replay.1))) ∙ b.1)
        ]
      ]
      | inr system ↦ elim bare [
        | inl b ↦ omega (arith, in'.from, system.0, b.1)
        | inr other ↦ elim other [
          | inl b ↦ omega (arith, in'.below, system.1, b)
          | inr b ↦ true≢false (sym (and_from (leb system_globals x) (ltb x system_end) (le-leb system_globals x (omega (arith, in'.from, system.0))) (lt-ltb x system_end (omega (arith, in'.below, system.1)))) ∙ b.2)
        ]
      ]
    ]
  ])
  | inr out ↦ out.is
]

none_there : (os : List Place) (x : ℕ) (byte : Option ℕ) → All IsInArea os → IsBare x → byte_of os x byte ≡ byte
none_there [] x byte areas bare = refl
none_there (o ∷ rest) x byte areas bare =
    ap (byte_of rest x) (cond-false (covers (object_range o) x) _ byte (misses o x (All-head IsInArea o rest areas) bare)) ∙ none_there rest x byte (All-tail IsInArea o rest areas) bare

-- each thread's stack before its first frame
fresh_at : (from t : ℕ) → t < THREADS → stack_of (map (fresh_stack from) (range_with_len 0 THREADS)) t ≡ fresh_stack from t
fresh_at from t lt =
    let few : t < length (range_with_len 0 THREADS) = omega (arith, length-range_with_len 0 THREADS) in
    let here : get_or (range_with_len 0 THREADS) t 0 ≡ t = get_or-range_with_len 0 THREADS t 0 lt ∙ omega arith in
    get_or-map (fresh_stack from) (range_with_len 0 THREADS) t 0 (record { base = 0; frames = [] }) few ∙ ap (fresh_stack from) here

pub stands : (placed : Placed) (start : ℕ → Byte) (memory : SpaceState) → All IsInArea placed.globals → All IsInArea placed.strings →
    ((x : ℕ) → is_system x ≡ false → start x ≡ placed_byte placed x) →
    ((x : ℕ) → byte_at memory.bytes x ≡ byte_of placed.strings x (byte_of placed.globals x None)) →
    memory.held ≡ record { regions = []; depths = replicate THREADS 0 } →
    memory.sides ≡ record { replay = fresh_side REPLAY_STACKS REPLAY_POOL; system = fresh_side SYSTEM_STACKS SYSTEM_POOL } →
    StandsFor (fresh start) [] memory
unfolding IsBare
stands placed start memory globals strings here bytes held sides = record {
  bytes = λ x own. ap (λ (b : Byte). b.cell) (here x own) ∙ ap (λ b. cell_of b None) (sym (bytes x)) ∙ ap (cell_of (byte_at memory.bytes x)) (sym (none_held x));
  begins = λ x own. ap (λ (b : Byte). b.block) (here x own) ∙ ap (λ (k : SideState). unwrap_or (length_at k.pool.blocks x) 0) (sym replay);
  stacks = λ t lt. ap (λ (k : SideState). stack_of k.stacks t) replay ∙ fresh_at REPLAY_STACKS t lt;
  pool = ap (λ (k : SideState). k.pool) replay;
  calls = λ t lt. subst (λ k. HoldsFor k t []) (sym held) (record { depth = get_or-replicate THREADS t 0 0 lt; ins = λ d. refl; outs = λ d. refl });
  keys = λ k. ap (λ (q : HeldState). option_map (λ (r : Region). r.range) (prepared_region q.regions k)) held;
  sound = record {
    ends = λ x last. bare x (inr (inl last));
    unheld = λ x dead. none_held x;
    own = λ x is. none_held x;
    inside = λ x a b c. bare x (inr (inr (a, b, c)));
    below = subst IsBelow (sym system) (record {
      threads = length-map-range_with_len (fresh_stack SYSTEM_STACKS) 0 THREADS;
      bases = λ t lt. ap (λ (q : StackState). q.base) (fresh_at SYSTEM_STACKS t lt);
      frames = λ t lt. subst LieInStack (sym (fresh_at SYSTEM_STACKS t lt)) (All-nil (λ (f : Range). (SYSTEM_STACKS + t * STACK_SIZE ≤ f.addr) × (f.addr + f.len ≤ SYSTEM_STACKS + t * STACK_SIZE + STACK_SIZE)));
      pool_from = refl;
      pool_bytes = refl;
      blocks = omega arith;
    });
    held = subst AreHeld (sym held) (record { threads = length-replicate {A = ℕ} THREADS 0; whole = All-nil IsWhole; apart = tt; keys = tt; owned = λ call lt. refl });
    stacked = λ t lt. tt;
    frames_live = λ t lt x is. ap is_some (bare x (inl (let p = cover_parts (range (stack Replay t) stack_size) x is in (omega (arith, p.0, p.1, lt), omega (arith, p.0, p.1, lt)))));
    laid_out = omega arith;
    blocks_live = λ x is. ap is_some (bare x (inl (let p = cover_parts (range replay_pool pool_size) x is in (omega (arith, p.0, p.1), omega (arith, p.0, p.1)))));
  };
}
  where
    replay : memory.sides.replay ≡ fresh_side REPLAY_STACKS REPLAY_POOL
    replay = ap (λ (q : Sides). q.replay) sides

    system : memory.sides.system ≡ fresh_side SYSTEM_STACKS SYSTEM_POOL
    system = ap (λ (q : Sides). q.system) sides

    none_held : (x : ℕ) → value_when_held memory.held.regions x ≡ None
    none_held x = ap (λ (q : HeldState). value_when_held q.regions x) held

    bare : (x : ℕ) → IsBare x → byte_at memory.bytes x ≡ None
    bare x is = bytes x ∙ none_there placed.strings x (byte_of placed.globals x None) strings is ∙ none_there placed.globals x None globals is
