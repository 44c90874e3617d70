-- What spaces keep through a change of one side, of the bytes or of what is held.
use Rattle.std.proofs.Common.{◌≡◌, ℕ, ◌+◌, ◌*◌, ◌^◌, ◌<◌, true, false, Bool, List, [], get_or, map, filter, All, Option, Some, None, if◌then◌else◌, sym, refl, ◌∙◌, subst, arith, length-set}
use Rattle.std.specs.List.{range_with_len}
use Rattle.std.proofs.lemmas.List.FromFn.{length-map-range_with_len, length-range_with_len, get_or-range_with_len}
use Rattle.std.proofs.lemmas.List.Elements.{All-set, All-map, All-filter, All-weaker}
use Rattle.marks.specs.declared.side.Side.{Side}
use Rattle.marks.specs.declared.side.Side.TheVariants.{Replay, System}
use Rattle.marks.specs.declared.range.Range.{Range}
use Rattle.memory_map.specs.declared.areas.TheConstants.{THREADS, STACK_SIZE, POOL_SIZE}
use Rattle.space_memory_bytes.specs.Areas.{LiesIn}
use Rattle.space_memory.specs.StackFrames.{StackState, stack_of}
use Rattle.pool_list.specs.declared.block.Block.{Block}
use Rattle.space_memory_access.specs.declared.holder.OpenCall.{OpenCall}
use Rattle.space_memory_access.specs.declared.holder.Region.{Region}
use Rattle.space_memory_access.specs.declared.holder.Holder.{Holder}
use Rattle.space_memory_access.specs.declared.holder.Holder.TheVariants.{In, Out, Key}
use Rattle.space_memory_access.specs.Holders.{is_pending, is_same_call, outlives, disowned}
use Rattle.space_memory_access.specs.Held.{without_call, without_closed, disown}
use Rattle.space_memory.specs.declared.sides.Sides.{Sides}
use Rattle.space_memory.specs.Sides.{SideState, with_thread, with_blocks, fresh_stack, fresh_side, stack_range}
use Rattle.space_memory.specs.Spaces.{side_of, with_side, IsHousedStack, IsHoused, IsWhole, IsKept}
use Rattle.space_memory.proofs.Ranges.{part_lies}

-- either side is housed
pub housed_side : (areas : List Range) (held : List Region) (sides : Sides) (side : Side) → IsKept areas held sides → IsHoused areas (side_of sides side)
housed_side areas held sides Replay kept = kept.replay
housed_side areas held sides System kept = kept.system

-- a thread's stack is
pub housed_stack : (areas : List Range) (side : SideState) (thread : ℕ) → thread < THREADS → IsHoused areas side → IsHousedStack areas (stack_of side.stacks thread)
housed_stack areas side thread lt housed = housed.stacks thread (record { base = 0; frames = [] }) (omega (arith, housed.threads))

-- other frames of one thread lie on the same stack
pub housed_thread : (areas : List Range) (side : SideState) (thread : ℕ) (frames : List Range) → thread < THREADS → IsHoused areas side → IsHoused areas (with_thread side thread frames)
housed_thread areas side thread frames lt housed =
    let stack : StackState = record { base = (stack_of side.stacks thread).base; frames = frames } in
    record {
      threads = length-set side.stacks thread stack ∙ housed.threads;
      stacks = All-set (IsHousedStack areas) side.stacks thread stack (housed_stack areas side thread lt housed) housed.stacks;
      pool = housed.pool;
    }

-- other blocks lie in the same pool
pub housed_blocks : (areas : List Range) (side : SideState) (blocks : List Block) → IsHoused areas side → IsHoused areas (with_blocks side blocks)
housed_blocks areas side blocks housed = record { threads = housed.threads; stacks = housed.stacks; pool = housed.pool }

-- a change of one side keeps the other
pub kept_side : (areas : List Range) (held : List Region) (sides : Sides) (side : Side) (new : SideState) → IsKept areas held sides → IsHoused areas new → IsKept areas held (with_side sides side new)
kept_side areas held sides Replay new kept housed = record { replay = housed; system = kept.system; regions = kept.regions }
kept_side areas held sides System new kept housed = record { replay = kept.replay; system = housed; regions = kept.regions }

-- so it does along equal areas and sides
pub kept_along : (areas areas' : List Range) (held : List Region) (sides sides' : Sides) → areas' ≡ areas → sides' ≡ sides → IsKept areas held sides → IsKept areas' held sides'
kept_along areas areas' held sides sides' same same' kept =
    subst (λ (rs : List Range). IsKept rs held sides') (sym same) (subst (λ (s : Sides). IsKept areas held s) (sym same') kept)

-- other regions are kept
pub kept_regions : (areas : List Range) (held held' : List Region) (sides : Sides) → IsKept areas held sides → All IsWhole held' → IsKept areas held' sides
kept_regions areas held held' sides kept whole = record { replay = kept.replay; system = kept.system; regions = whole }

-- a region is pending or not, whoever has prepared it
pending_disowned : (call : OpenCall) (h : Holder) → is_pending (disowned call h) ≡ is_pending h
pending_disowned call (In holder) = refl
pending_disowned call (Out holder) = refl
pending_disowned call (Key key None) = refl
pending_disowned call (Key key (Some holder)) = elim (is_same_call holder call) as (λ (b : Bool). is_pending (if b then Key key None else Key key (Some holder)) ≡ true) [ true ↦ refl | false ↦ refl ]

whole_disowned : (call : OpenCall) (r : Region) → IsWhole r → IsWhole (disown call r)
whole_disowned call r whole pending = whole (sym (pending_disowned call r.holder) ∙ pending)

-- what an undone call leaves is kept
pub whole_without_call : (call : OpenCall) (regions : List Region) → All IsWhole regions → All IsWhole (without_call call regions)
whole_without_call call regions whole = All-filter _ IsWhole regions whole

-- so is what a closed one leaves
pub whole_without_closed : (call : OpenCall) (commit : Option ℕ) (regions : List Region) → All IsWhole regions → All IsWhole (without_closed call commit regions)
whole_without_closed call commit regions whole =
    let left : List Region = filter (λ (r : Region). outlives call commit r.holder) regions in
    All-map IsWhole (disown call) left (All-weaker IsWhole (λ (r : Region). IsWhole (disown call r)) (whole_disowned call) left (All-filter (λ (r : Region). outlives call commit r.holder) IsWhole regions whole))

-- stacks that lie one after another in an area
stacks_housed : (areas : List Range) (from n : ℕ) → from + n * STACK_SIZE < 2 ^ 64 → LiesIn (record { addr = from; len = n * STACK_SIZE }) areas → All (IsHousedStack areas) (map (fresh_stack from) (range_with_len 0 n))
stacks_housed areas from n ends lies =
    All-map (IsHousedStack areas) (fresh_stack from) (range_with_len 0 n) (λ k d lt.
    let few : k < n = omega (arith, length-range_with_len 0 n) in
    let at : get_or (range_with_len 0 n) k d ≡ k = get_or-range_with_len 0 n k d few ∙ omega arith in
    subst (λ t. IsHousedStack areas (fresh_stack from t)) (sym at)
    (part_lies (record { addr = from; len = n * STACK_SIZE }) (stack_range (fresh_stack from k)) areas (omega arith) (omega arith) lies, omega arith))

-- a side before its first frame and block
pub housed_fresh : (areas : List Range) (stacks pool : ℕ) → stacks + THREADS * STACK_SIZE < 2 ^ 64 → LiesIn (record { addr = stacks; len = THREADS * STACK_SIZE }) areas → LiesIn (record { addr = pool; len = POOL_SIZE }) areas → IsHoused areas (fresh_side stacks pool)
housed_fresh areas stacks pool ends lies lies' = record {
  threads = length-map-range_with_len (fresh_stack stacks) 0 THREADS;
  stacks = stacks_housed areas stacks THREADS ends lies;
  pool = lies';
}
