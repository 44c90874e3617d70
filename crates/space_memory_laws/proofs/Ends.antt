-- A frame that is left and a block that is freed are there.
use Rattle.std.proofs.Common.{◌≡◌, ℕ, ◌+◌, ◌-◌, ◌<◌, true, false, leb, ltb, List, length, Option, Some, None, is_some, refl, ap, sym, ◌∙◌, arith}
use Rattle.std.specs.Prelude.{unwrap_or, slice_get}
use Rattle.std.proofs.lemmas.Bool.{and_parts, ltb-true, false_from_ne_true, true≢false}
use Rattle.marks.specs.Places.{thread_count, constants, replay_globals, replay_pool, pool_size, is_constant, is_system}
use Rattle.marks.specs.Ranges.{range, covers}
use Rattle.marks.specs.Marks.{Mark}
use Rattle.marks.specs.Wants.{Outside, Turns, Loads, Stores, Enters, Leaves, Allocs, Frees, Calls, Below, Gives, Returns, CallsBack, UpReturns, Steps, Fails}
use Rattle.space_memory_bytes.specs.Areas.{byte_at}
use Rattle.space_memory.specs.StackFrames.{StackState}
use Rattle.pool_list.specs.Blocks.{PoolState, length_at}
use Rattle.replay_runs.specs.Runs.{Start, marks_of, byte}
use Rattle.replay_runs.specs.Pool.{blocks}
use Rattle.replay_runs.specs.Threads.{frames}
use Rattle.replay_runs.specs.Found.{EndsWhatIsThere}
use Rattle.space_memory.specs.Sides.{top_of}
use Rattle.space_memory.specs.Spaces.{SpaceState}
use Rattle.space_memory_laws.specs.Shown.{by_address}
use Rattle.space_memory_laws.specs.StandsFor.{StandsFor}
use Rattle.space_memory_laws.specs.Ends.{WhatIsEndedIsThere}
use Rattle.space_memory_laws.proofs.Cells.{cover_parts, covered, below_system}
use Rattle.space_memory_laws.proofs.Blocks.{begins_from, any_is, any_there}
use Rattle.space_memory_laws.proofs.Refusals.{dead_byte}
use Rattle.space_memory_laws.proofs.Rooms.{IsTop, top_frame}

module _ (s : Start) (past : List Mark) (memory : SpaceState) (h : StandsFor s past memory) where
  frame_there : (t at size : ℕ) → t < thread_count → top_of memory.sides.replay t ≡ Some (record { addr = at; len = size }) → EndsWhatIsThere s past (Leaves at size)
  frame_there t at size lt is x in' =
      let top : IsTop (byte_at memory.bytes) t (record { addr = at; len = size }) = top_frame s past memory t
      (record { addr = at; len = size }) h lt (frames (marks_of s t past)) refl
      (sym (ap (λ (q : StackState). slice_get q.frames (length q.frames - 1)) (h.stacks t lt)) ∙ is) in
      let p = cover_parts (record { addr = at; len = size }) x in' in
      let own : is_system x ≡ false = below_system x (omega (arith, p.1, top.to, lt)) in (
        (λ dead. top.live x (p.0, p.1, omega (arith, p.1, top.to, lt)) (dead_byte s past memory h x own dead)),
        false_from_ne_true
            (is_constant x) (λ z. omega
            (arith, p.0, top.from, ltb-true x replay_globals (and_parts (leb constants x) (ltb x replay_globals) z).1)),
      )

  block_there : (at : ℕ) → EndsWhatIsThere s past (Frees at)
  block_there at own x in' dead = with_length (length_at memory.sides.replay.pool.blocks at) refl
    where
      with_length : (o : Option ℕ) → length_at memory.sides.replay.pool.blocks at ≡ o → ⊥
      with_length None is =
          let none : (byte s at past).block ≡ 0 = h.begins at own ∙ ap (λ k. unwrap_or k 0) is in
          let p = cover_parts (record { addr = at; len = (byte s at past).block }) x in' in
          absurd (omega (arith, p.0, p.1, none))
      with_length (Some len) is =
          let bs = blocks s past in
          let there : length_at (by_address bs) at ≡ Some len = sym (ap (λ (q : PoolState). length_at q.blocks at) h.pool) ∙ is in
          let lies = begins_from replay_pool (replay_pool + pool_size) (by_address bs) at len h.sound.laid_out there in
          let block : (byte s at past).block ≡ len = h.begins at own ∙ ap (λ k. unwrap_or k 0) is in
          let p = cover_parts (record { addr = at; len = (byte s at past).block }) x in' in
          let in_pool : covers (range replay_pool pool_size) x ≡ true = covered (range replay_pool pool_size) x (omega (arith, p.0, lies.0)) (omega (arith, p.1, lies.2, block)) in
          let below : is_system x ≡ false = below_system x (omega (arith, p.1, lies.2, block)) in
          true≢false (sym (h.sound.blocks_live x in_pool ∙ any_is bs x ∙ any_there replay_pool (replay_pool + pool_size)
          (by_address bs) at len x h.sound.laid_out there (covered (record { addr = at; len = len }) x p.0 (omega (arith, p.1, block))))
          ∙ ap is_some (dead_byte s past memory h x below dead))

pub ended_there : WhatIsEndedIsThere
ended_there s past memory t Outside h lt top = tt
ended_there s past memory t Turns h lt top = tt
ended_there s past memory t (Loads o at n) h lt top = tt
ended_there s past memory t (Stores o at bytes) h lt top = tt
ended_there s past memory t (Enters b f args bytes) h lt top = tt
ended_there s past memory t (Leaves at n) h lt top = frame_there s past memory h t at n lt (top at n refl)
ended_there s past memory t (Allocs n) h lt top = tt
ended_there s past memory t (Frees at) h lt top = block_there s past memory h at
ended_there s past memory t (Calls b f args) h lt top = tt
ended_there s past memory t (Below f args) h lt top = tt
ended_there s past memory t (Gives f args) h lt top = tt
ended_there s past memory t (Returns f args v) h lt top = tt
ended_there s past memory t (CallsBack f args bytes) h lt top = tt
ended_there s past memory t (UpReturns f v) h lt top = tt
ended_there s past memory t (Steps b f args) h lt top = tt
ended_there s past memory t (Fails k) h lt top = tt
