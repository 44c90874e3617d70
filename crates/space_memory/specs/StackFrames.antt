-- The frames of a stack, and the place of the next one.
use Rattle.std.specs.Prelude.{ℕ, ◌+◌, ◌<◌, ◌≤◌, ◌⊎◌, List, [], ◌∷◌, length, All, slice_index_or, slice_set}
use Rattle.marks.specs.declared.range.Range.{Range}
use Rattle.memory_map.specs.declared.areas.TheConstants.{STACK_SIZE, FRAMES}

-- a thread's stack: its first byte, and its frames, the innermost last
pub record StackState : Type 0 where
  pub base : ℕ
  pub frames : List Range

-- the address after the last of some ranges, or the given one where there is none
abbrev pub end_of : ℕ → List Range → ℕ
end_of from [] = from
end_of from (r ∷ rest) = end_of (r.addr + r.len) rest

-- where the next frame lies: after the innermost one, at first at the stack's first byte
abbrev pub next_frame : StackState → ℕ → Range
next_frame s size = record { addr = end_of s.base s.frames; len = size }

-- a frame of the size doesn't fit: it would pass the stack's end, or as many frames as may be are in use
abbrev pub IsFullFor : StackState → ℕ → Type 0
IsFullFor s size = (FRAMES ≤ length s.frames) ⊎ (s.base + STACK_SIZE < end_of s.base s.frames + size)

-- every frame lies in the stack
abbrev pub LieInStack : StackState → Type 0
LieInStack s = All (λ f. (s.base ≤ f.addr) × (f.addr + f.len ≤ s.base + STACK_SIZE)) s.frames

-- a thread's stack among all
abbrev pub stack_of : List StackState → ℕ → StackState
stack_of stacks thread = slice_index_or stacks thread (record { base = 0; frames = [] })

-- the stacks with other frames for one thread
abbrev pub with_frames : List StackState → ℕ → List Range → List StackState
with_frames stacks thread frames = slice_set stacks thread (record {
  base = (stack_of stacks thread).base;
  frames = frames;
})
