-- What is held was written by a Call, and frames and blocks lie in replay memory.
use Rattle.std.proofs.Common.{◌≡◌, inl, inr, ⊎_elim, ℕ, ◌+◌, ◌<◌, ◌≤◌, Bool, true, false, cond, eqb, leb, ltb, List, [], ◌∷◌, refl, sym, ap, ◌∙◌, arith, eq-eqb}
use Rattle.std.proofs.lemmas.Bool.{leb-true, ltb-true, and_parts, or_cases, true≢false}
use Rattle.marks.specs.declared.side.Side.TheVariants.{Replay}
use Rattle.marks.specs.Places.{thread_count, stack, stack_size, replay_stacks, replay_pool, replay_end, replay_globals, system_globals, system_end, pool_size, constants, is_constant, is_system}
use Rattle.marks.specs.declared.range.Range.{Range}
use Rattle.marks.specs.Ranges.{Piece, within, covers, any_range, any_piece, piece_ranges}
use Rattle.marks.specs.Marks.{Commit, NoRegion, Withheld, Released, Leave, Mark, released}
use Rattle.marks.specs.Bytes.{granted, reads, writes}
use Rattle.marks.proofs.Touched.{or_true_left, or_true_right}
use Rattle.replay_runs.specs.Runs.{Start, marks_of}
use Rattle.replay_runs.specs.Interface.{Program}
use Rattle.replay_runs.specs.Threads.{OpenCall, HasRoom, frame_place, frames, end_of, open_calls}
use Rattle.replay_runs.specs.Pool.{IsPlace, blocks}
use Rattle.replay_runs.specs.Rules.{Closes}
use Rattle.replay_runs.specs.Blocks.{size_at}
use Rattle.replay_runs.specs.Returns.{ReleasesInUse}
use Rattle.replay_runs.specs.Unseen.{Holder, Calling, Preparing, any_held, is_in, holds, IsWhole, LeavesFirst, Stacked}
use Rattle.replay_runs.specs.Owning.{IsOwn, HeldBytesAreOwn, ObjectsAreOwn, ObjectsOfWholePasts, RetsGiveWhatIsHeld}
use Rattle.replay_runs.proofs.Blocks.{bounds, cond_true}
use Rattle.replay_runs.proofs.Holding.{holds_cases, piece_range_of, pieces_cases, taken}
use Rattle.replay_runs.proofs.Lies.{ends_above, block_in_pool}

false_of : (b : Bool) → (b ≡ true → ⊥) → b ≡ false
false_of true n = absurd (n refl)
false_of false n = refl

-- replay memory from the stacks on
in_replay : (x : ℕ) → replay_stacks ≤ x → x < replay_end → IsOwn x
in_replay x lo hi = (
  false_of (is_system x) (λ e. let p = leb-true system_globals x (and_parts (leb system_globals x) (ltb x system_end) e).0 in omega (arith, p, hi)),
  false_of (is_constant x) (λ e. let p = ltb-true x replay_globals (and_parts (leb constants x) (ltb x replay_globals) e).1 in omega (arith, p, lo)),
)

in_stack : (t x : ℕ) → t < thread_count → stack Replay t ≤ x → x < stack Replay t + stack_size → IsOwn x
in_stack t x lt lo hi = in_replay x (omega (arith, lo)) (omega (arith, hi, lt))

in_the_pool : (x : ℕ) → replay_pool ≤ x → x < replay_pool + pool_size → IsOwn x
in_the_pool x lo hi = in_replay x (omega (arith, lo)) (omega (arith, hi))

pub held : (program : Program) (s : Start) → HeldBytesAreOwn program s
held program s begins [] run x h e = begins x h e
held program s begins (m ∷ past) run x h e = ⊎_elim
    (λ z. held program s begins past run.1 x h z)
    (λ z.
    let w = taken m.act m.thread x h z.0 in
    (run.0.own.other_space x (or_true_right (reads m.act x) (writes m.act x) w.writes_it), run.0.own.read_only x w.writes_it))
    (holds_cases s past m x h e)

module _ (s : Start) (past : List Mark) (whole : IsWhole s past) where
  enters : (t size : ℕ) → t < thread_count → HasRoom t (marks_of s t past) size → (x : ℕ) → within (frame_place t (marks_of s t past)) size x ≡ true → IsOwn x
  enters t size lt room x e =
      let w = bounds (frame_place t (marks_of s t past)) size x e in
      let k = ends_above (stack Replay t) (frames (marks_of s t past)) (whole.stacked t) in
      in_stack t x lt (omega (arith, w.0, k)) (omega (arith, w.1, room.0))

  leaves : (t at size : ℕ) → t < thread_count → LeavesFirst (Leave at size) (frames (marks_of s t past)) → (x : ℕ) → within at size x ≡ true → IsOwn x
  leaves t at size lt first x e = go (frames (marks_of s t past)) first (whole.stacked t) (whole.room t)
    where
      w : (at ≤ x) × (x < at + size)
      w = bounds at size x e

      go : (fs : List Range) → LeavesFirst (Leave at size) fs → Stacked (stack Replay t) fs → end_of (stack Replay t) fs ≤ stack Replay t + stack_size → IsOwn x
      go [] first st room = absurd first
      go (f ∷ fs) first st room =
          let k = ends_above (stack Replay t) fs st.1 in
          in_stack t x lt (omega (arith, w.0, first.0, st.0, k)) (omega (arith, w.1, first.0, first.1, room))

  allocs : (at size : ℕ) → IsPlace replay_pool (blocks s past) size at → (x : ℕ) → within at (granted at size) x ≡ true → IsOwn x
  allocs at size (inl f) x e =
      let w = bounds at (granted at size) x e in
      let le : granted at size ≤ size = at_most at size in
      in_the_pool x (omega (arith, w.0, f.0.low)) (omega (arith, w.1, le, f.0.high))
    where
      at_most : (a n : ℕ) → granted a n ≤ n
      at_most a n = go (eqb a 0)
        where
          go : (b : Bool) → cond b 0 n ≤ n
          go true = omega arith
          go false = omega arith
  allocs at size (inr z) x e =
      let w = bounds at (granted at size) x e in
      absurd (omega (arith, w.0, w.1, cond_true (eqb at 0) 0 size (eq-eqb at 0 z.0)))

  frees : (at size : ℕ) → size_at at (blocks s past) ≡ size → (x : ℕ) → within at size x ≡ true → IsOwn x
  frees at size is x e =
      let w = bounds at size x e in
      let k = block_in_pool (blocks s past) at size whole.in_pool is (omega (arith, w.0, w.1)) in
      in_the_pool x (omega (arith, w.0, k.0)) (omega (arith, w.1, k.1))

  objects : ObjectsAreOwn s past
  objects = record { enters = enters; leaves = leaves; allocs = allocs; frees = frees }

pub objects_own : (s : Start) → ObjectsOfWholePasts s
objects_own s past whole = objects s past whole

closed_held : (cs : List OpenCall) (func : ℕ) (args : List ℕ) (outs : List Piece) (x : ℕ) → Closes cs func args (piece_ranges outs) → any_piece outs x ≡ true → any_held cs x ≡ true
closed_held [] func args outs x c e = absurd c
closed_held (d ∷ cs) func args outs x c e = or_true_left (any_range d.outs x) (any_held cs x) (sym (ap (λ l. any_range l x) c.2) ∙ piece_range_of outs x ∙ e)

released_held : (s : Start) (past : List Mark) (commit : Commit) (x : ℕ) → ReleasesInUse s past commit → any_piece (released commit) x ≡ true → (h : Holder) × (holds s past x h ≡ true)
released_held s past NoRegion x u e = absurd (true≢false (sym e))
released_held s past Withheld x u e = absurd (true≢false (sym e))
released_held s past (Released k p) x u e =
    let there : covers p.range x ≡ true = ⊎_elim (λ z. z) (λ z. absurd (true≢false (sym z))) (or_cases (covers p.range x) false e) in
    (Preparing k, ap (λ r. is_in r x) u ∙ there)

pub gives : (s : Start) → RetsGiveWhatIsHeld s
gives s past t func args outs commit closes used x e = ⊎_elim
    (λ z. (Calling t, closed_held (open_calls (marks_of s t past)) func args outs x closes z))
    (λ z. released_held s past commit x used z)
    (pieces_cases outs (released commit) x e)
