-- Marks that change nothing in memory.
use Rattle.std.proofs.Common.{◌≡◌, ℕ, ◌∷◌, List, Option, refl, ◌∙◌}
use Rattle.marks.specs.Marks.{EventKind, Call, Ret, Up, UpRet, Alloc, Free, Stop, Act, Turn, Load, Store, Enter, Leave, Step, Fault, Made, Mark}
use Rattle.marks.specs.Bytes.{Cell, event_leaves, cell_after, event_block, block_after}
use Rattle.replay_runs.specs.Runs.{Start, byte}
use Rattle.replay_runs.specs.Threads.{OpenCall, calls_after}
use Rattle.replay_runs.specs.Pool.{blocks_after, use_after}
use Rattle.marks.specs.declared.range.Range.{Range}
use Rattle.space_memory.specs.Spaces.{SpaceState}
use Rattle.space_memory_laws.specs.StandsFor.{StandsFor}
use Rattle.space_memory_laws.specs.Marks.{IsQuietEvent, IsQuiet}
use Rattle.space_memory_laws.proofs.Backs.{IsStill, still_leaves}
use Rattle.space_memory_laws.proofs.Moved.{moved}

record EventChangesNothing (k : EventKind) : Type 0 where
  calls : (cs : List OpenCall) → calls_after k cs ≡ cs
  blocks : (bs : List Range) → blocks_after k bs ≡ bs
  keys : (q : ℕ) (r : Option Range) → use_after q k r ≡ r
  cell : (x : ℕ) (c : Cell) → event_leaves k x c ≡ c
  block : (x n : ℕ) → event_block k x n ≡ n

quiet_event : (k : EventKind) → IsQuietEvent k → EventChangesNothing k
quiet_event (Up f args) q = record { calls = λ cs. refl; blocks = λ bs. refl; keys = λ k r. refl; cell = λ x c. refl; block = λ x n. refl }
quiet_event (UpRet f v) q = record { calls = λ cs. refl; blocks = λ bs. refl; keys = λ k r. refl; cell = λ x c. refl; block = λ x n. refl }
quiet_event (Stop fault) q = record { calls = λ cs. refl; blocks = λ bs. refl; keys = λ k r. refl; cell = λ x c. refl; block = λ x n. refl }
quiet_event (Call f args ins outs prepared) q = absurd q
quiet_event (Ret f args v same outs commit) q = absurd q
quiet_event (Alloc at size) q = absurd q
quiet_event (Free at size) q = absurd q

record ChangesNothing (a : Act) : Type 0 where
  still : IsStill a
  cell : (x : ℕ) (c : Cell) → cell_after a x c ≡ c
  block : (x n : ℕ) → block_after a x n ≡ n

nothing : (a : Act) → IsQuiet a → ChangesNothing a
nothing Turn q = record { still = record { frames = λ fs. refl; calls = λ cs. refl; blocks = λ bs. refl; keys = λ k r. refl }; cell = λ x c. refl; block = λ x n. refl }
nothing (Load o at bytes) q = record { still = record { frames = λ fs. refl; calls = λ cs. refl; blocks = λ bs. refl; keys = λ k r. refl }; cell = λ x c. refl; block = λ x n. refl }
nothing (Step f args v ins pieces freed) q = record { still = record { frames = λ fs. refl; calls = λ cs. refl; blocks = λ bs. refl; keys = λ k r. refl }; cell = λ x c. refl; block = λ x n. refl }
nothing (Fault kind crosses ins outs access) q = record { still = record { frames = λ fs. refl; calls = λ cs. refl; blocks = λ bs. refl; keys = λ k r. refl }; cell = λ x c. refl; block = λ x n. refl }
nothing (Made e) q =
    let n = quiet_event e.kind q in
    record { still = record { frames = λ fs. refl; calls = n.calls; blocks = n.blocks; keys = n.keys }; cell = n.cell; block = n.block }
nothing (Store o at bytes) q = absurd q
nothing (Enter f args at bytes) q = absurd q
nothing (Leave at size) q = absurd q

pub quiet : (s : Start) (past : List Mark) (memory : SpaceState) (m : Mark) → StandsFor s past memory → IsQuiet m.act → StandsFor s (m ∷ past) memory
quiet s past memory m h q =
    let n = nothing m.act q in
    moved s m past memory memory h (still_leaves s m past n.still) refl refl
    (λ x own. n.cell x (byte s x past).cell ∙ h.bytes x own)
    (λ x. n.block x (byte s x past).block)
    (λ x. refl)
