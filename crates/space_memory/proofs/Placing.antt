-- Objects lie in the areas, and the fresh sides too.
use Rattle.std.proofs.Common.{◌≡◌, ℕ, ◌+◌, ◌-◌, ◌*◌, ◌<◌, ◌≤◌, List, [], length, All, get_or, refl, inl, inr, subst, sym, arith}
use Rattle.marks.specs.declared.range.Range.{Range}
use Rattle.memory_map.specs.declared.placed.Place.{Place}
use Rattle.memory_map.specs.declared.areas.TheConstants.{THREADS, CONSTANTS, GLOBALS_SIZE, STACK_SIZE, POOL_SIZE, REPLAY_GLOBALS, REPLAY_STACKS, REPLAY_POOL, SYSTEM_GLOBALS, SYSTEM_STACKS, SYSTEM_POOL}
use Rattle.space_memory_bytes.specs.Areas.{LiesIn}
use Rattle.space_memory.specs.Sides.{fresh_side}
use Rattle.space_memory.specs.Spaces.{IsKept}
use Rattle.space_memory.specs.Objects.{object_range, IsInArea, areas_to}
use Rattle.space_memory.proofs.Kept.{housed_fresh}

-- an object lies in an area, where the constants end after it
pub object_lies : (end : ℕ) (o : Place) → CONSTANTS.addr ≤ end → (o.addr < REPLAY_GLOBALS → o.addr + length o.init ≤ end) → IsInArea o → LiesIn (object_range o) (areas_to end)
object_lies end o from to (inl in') =
    let last = to (omega (arith, in'.1)) in
    (0, record { addr = CONSTANTS.addr; len = end - CONSTANTS.addr }, omega arith, refl, (in'.0, omega arith))
object_lies end o from to (inr (inl in')) = (1, record { addr = REPLAY_GLOBALS; len = GLOBALS_SIZE }, omega arith, refl, in')
object_lies end o from to (inr (inr in')) = (4, record { addr = SYSTEM_GLOBALS; len = GLOBALS_SIZE }, omega arith, refl, in')

-- so do all of a list
pub objects_lie : (end : ℕ) (objects : List Place) (areas : List Range) → areas ≡ areas_to end → CONSTANTS.addr ≤ end → All (λ o. o.addr < REPLAY_GLOBALS → o.addr + length o.init ≤ end) objects → All IsInArea objects → All (λ o. LiesIn (object_range o) areas) objects
objects_lie end objects areas same from to in' k d lt = subst (λ (rs : List Range). LiesIn (object_range (get_or objects k d)) rs) (sym same) (object_lies end (get_or objects k d) from (to k d lt) (in' k d lt))

-- the spaces before a run are kept
pub kept_fresh : (end : ℕ) → IsKept (areas_to end) [] (record { replay = fresh_side REPLAY_STACKS REPLAY_POOL; system = fresh_side SYSTEM_STACKS SYSTEM_POOL })
kept_fresh end = record {
  replay = housed_fresh (areas_to end) REPLAY_STACKS REPLAY_POOL (omega arith)
      (2, record { addr = REPLAY_STACKS; len = THREADS * STACK_SIZE }, omega arith, refl, (omega arith, omega arith))
      (3, record { addr = REPLAY_POOL; len = POOL_SIZE }, omega arith, refl, (omega arith, omega arith));
  system = housed_fresh (areas_to end) SYSTEM_STACKS SYSTEM_POOL (omega arith)
      (5, record { addr = SYSTEM_STACKS; len = THREADS * STACK_SIZE }, omega arith, refl, (omega arith, omega arith))
      (6, record { addr = SYSTEM_POOL; len = POOL_SIZE }, omega arith, refl, (omega arith, omega arith));
  regions = λ k d lt. absurd (omega arith);
}
