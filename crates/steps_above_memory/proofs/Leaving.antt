-- The end of a thread's innermost frame.
use Rattle.std.proofs.Common.{◌≡◌, ℕ, ◌-◌, ◌^◌, ◌<◌, true, eqb, List, [], ◌∷◌, ◌++◌, length, Option, Some, None, Ok, Err, is_some, refl, sym, ap, ◌∙◌, subst, arith, eq-eqb}
use Rattle.std.specs.Prelude.{slice_get}
use Rattle.std.proofs.lemmas.Bool.{and_from}
use Rattle.marks.specs.declared.side.Side.TheVariants.{Replay}
use Rattle.marks.specs.Places.{thread_count}
use Rattle.marks.specs.declared.range.Range.{Range}
use Rattle.marks.specs.Ranges.{range}
use Rattle.marks.specs.Marks.{Leave, Mark}
use Rattle.marks.specs.Bytes.{Byte}
use Rattle.marks.specs.Wants.{Leaves, Go, answer_if, answer_to}
use Rattle.space_memory_bytes.specs.Areas.{byte_at}
use Rattle.space_memory_bytes.specs.Numbers.{FillsWith}
use Rattle.space_memory_access.specs.declared.refusal.Refusal.{Refusal}
use Rattle.space_memory_access.specs.declared.refusal.Refusal.TheVariants.{Pending, OtherSpace}
use Rattle.space_memory_access.specs.Accesses.{IsAllowed, IsRefused}
use Rattle.space_memory.specs.StackFrames.{StackState}
use Rattle.space_memory.specs.Sides.{frames_of, top_of, with_thread}
use Rattle.space_memory.specs.Spaces.{with_side}
use Rattle.space_memory.specs.Cells.{is_held}
use Rattle.space_memory.specs.Frames.{IsLeaveRefused}
use Rattle.space_memory_laws.specs.Refusals.{access}
use Rattle.space_memory_laws.proofs.Frames.{leaves}
use Rattle.space_memory_laws.proofs.Least.{none_in}
use Rattle.space_memory_laws.proofs.Rooms.{IsTop, top_frame, leaves_as_writes}
use Rattle.space_memory_laws.proofs.Stacks.{IsInnermost, innermost, last_of}
use Rattle.replay_runs.specs.Runs.{marks_of}
use Rattle.replay_runs.specs.Interface.{Program}
use Rattle.replay_runs.specs.Threads.{frames}
use Rattle.replay_runs.specs.Rules.{is_reply}
use Rattle.replay_runs.specs.Laws.{fresh}
use Rattle.replay_runs.specs.Unseen.{LeavesFirst}
use Rattle.replay_runs.specs.Checks.{Done, Passes, range_checks}
use Rattle.replay_runs.proofs.Checked.{leave_touches}
use Rattle.race_watch.specs.declared.error.WatchError.{WatchError}
use Rattle.race_watch.specs.Told.{Accessed}
use Rattle.race_watch.specs.Stands.{AnswersBy, WasTold}
use Rattle.race_watch_laws.specs.Told.{told}
use Rattle.steps_above_memory.specs.declared.above.MemoryAbove.{MemoryAbove}
use Rattle.steps_above_memory.specs.declared.refusal.StepRefusal.{StepRefusal}
use Rattle.steps_above_memory.specs.Above.{StandsForAbove}
use Rattle.steps_above_memory.specs.Refusals.{IsFound, refusal_of, refusal_by}
use Rattle.steps_above_memory.specs.Steps.{Makes, Refuses, next_mark}
use Rattle.steps_above_memory.proofs.Made.{range_made}
use Rattle.steps_above_memory.proofs.Ranges.{as_found, by_watch, finds}

leave_reply : (at n : ℕ) → is_reply (Leaves at n) (Leave at n) ≡ true
unfolding answer_to
leave_reply at n = ap (λ b. is_some (answer_if b Go)) (and_from (eqb at at) (eqb n n) (eq-eqb at at refl) (eq-eqb n n refl))

pub some_same : (a b : Range) → ◌≡◌ {A = Option Range} (Some a) (Some b) → a ≡ b
some_same a b e = cc

-- the frame that is left is the innermost one
pub left_top : (side-frames rest : List Range) (frame : Range) → side-frames ≡ rest ++ frame ∷ [] → slice_get side-frames (length side-frames - 1) ≡ Some frame
left_top fs rest frame left = ap (λ gs. slice_get gs (length gs - 1)) left ∙ last_of rest frame

module _ (old : MemoryAbove) (t : ℕ) (frame : Range) (lt : t < thread_count) (top : top_of old.spaces.sides.replay t ≡ Some frame) where
  module _ (program : Program) (memory : ℕ → Byte) (past : List Mark) (h : StandsForAbove program memory past old) where
    there : IsTop (byte_at old.spaces.bytes) t frame
    there = top_frame (fresh memory) past old.spaces t frame h.spaces lt (frames (marks_of (fresh memory) t past)) refl (sym (ap (λ (q : StackState). slice_get q.frames (length q.frames - 1)) (h.spaces.stacks t lt)) ∙ top)

    small : frame.addr < 2 ^ 64
    small = omega (arith, there.to, lt)

    own : (x : ℕ) → IsRefused old.spaces.bytes old.spaces.held.regions (access t frame.addr frame.len true) (OtherSpace x) → ⊥
    own x k = omega (arith, k.in_range.1, there.to, lt, k.holds.0)

    allowed : ((r : Refusal) → IsLeaveRefused Replay old.spaces.held.regions (top_of old.spaces.sides.replay t) r → ⊥) → IsAllowed old.spaces.bytes old.spaces.held.regions (access t frame.addr frame.len true)
    allowed free = record {
      own = λ y in' sys. absurd (omega (arith, in'.1, there.to, lt, sys.0));
      live = there.live;
      free = none_in frame (λ x. is_held old.spaces.held.regions x) (λ x least. free (Pending x) (subst (λ o. IsLeaveRefused Replay old.spaces.held.regions o (Pending x)) (sym top) least));
      writable = λ y in' c. absurd (omega (arith, in'.0, there.from, c.1));
    }

  pub leave_raced : (e : WatchError) (found : StepRefusal) → AnswersBy old.watch t frame true (Err e) → found ≡ refusal_by e → Refuses old t (Leaves frame.addr frame.len) found
  leave_raced e found answers is program memory past h modes = subst (IsFound (range_checks (fresh memory) past t true [] (range frame.addr frame.len) Done)) (sym is)
      (by_watch program memory past old h t frame.addr frame.len true (small program memory past h) e (own program memory past h) (answers (told past) h.watch))

  pub leave_refused : (r : Refusal) (found : StepRefusal) → AnswersBy old.watch t frame true (Ok tt) →
      IsLeaveRefused Replay old.spaces.held.regions (top_of old.spaces.sides.replay t) r → found ≡ refusal_of r →
      Refuses old t (Leaves frame.addr frame.len) found
  leave_refused r found answers p is program memory past h modes = subst (IsFound (range_checks (fresh memory) past t true [] (range frame.addr frame.len) Done)) (sym is)
      (as_found (range_checks (fresh memory) past t true [] (range frame.addr frame.len) Done) r
      ((finds program memory past old h t frame.addr frame.len true (small program memory past h) (answers (told past) h.watch)).refused r ((leaves_as_writes (fresh memory) past old.spaces t frame h.spaces lt top r).0 p)))

  pub leave_made : (new : MemoryAbove) → frames_of old.spaces.sides.replay t ≡ frames_of new.spaces.sides.replay t ++ frame ∷ [] →
      new.spaces.sides ≡ with_side old.spaces.sides Replay (with_thread old.spaces.sides.replay t (frames_of new.spaces.sides.replay t)) →
      ((r : Refusal) → IsLeaveRefused Replay old.spaces.held.regions (top_of old.spaces.sides.replay t) r → ⊥) →
      new.spaces.held ≡ old.spaces.held → FillsWith frame None old.spaces.bytes new.spaces.bytes → AnswersBy old.watch t frame true (Ok tt) →
      WasTold (Accessed t frame true) old.watch new.watch → Makes old t (Leaves frame.addr frame.len) (Leave frame.addr frame.len) new
  leave_made new left sides free held fills answers one program memory past h modes =
      let pass : Passes (range_checks (fresh memory) past t true [] (range frame.addr frame.len) Done) =
      (finds program memory past old h t frame.addr frame.len true (small program memory past h) (answers (told past) h.watch)).passes.1
      (allowed program memory past h free) in
      let k : IsInnermost (frames (marks_of (fresh memory) t past)) (frames_of new.spaces.sides.replay t) frame = innermost
      (frames (marks_of (fresh memory) t past)) (frames_of new.spaces.sides.replay t) frame
      (sym (ap (λ (q : StackState). q.frames) (h.spaces.stacks t lt)) ∙ left) in
      let top' : IsTop (byte_at old.spaces.bytes) t frame = there program memory past h in
      range_made program memory past old new t (Leaves frame.addr frame.len) (Leave frame.addr frame.len) true (range frame.addr frame.len) h
      (record {
        thread = lt;
        plain = refl;
        sound = refl;
        touched = leave_touches (next_mark memory past t (Leave frame.addr frame.len)) frame.addr frame.len refl;
        passes = pass;
        ends = omega (arith, top'.to, lt);
        reply = leave_reply frame.addr frame.len;
        modes = tt;
        carries = tt;
        first = subst (LeavesFirst (Leave frame.addr frame.len)) (sym k.is) (ap (λ (r : Range). r.addr) k.frame_is, ap (λ (r : Range). r.len) k.frame_is);
        mark = leaves (fresh memory) past old.spaces new.spaces (next_mark memory past t (Leave frame.addr frame.len)) frame h.spaces lt free (record { frames = left; sides = sides; dead = fills; held = held }) refl;
        watch = one (told past) h.watch;
      })
      pass
