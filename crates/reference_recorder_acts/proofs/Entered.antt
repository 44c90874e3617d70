-- Frames that are entered and left.
use Rattle.std.proofs.Common.{◌≡◌, ℕ, ◌+◌, ◌<◌, ◌≤◌, Bool, true, false, List, [], ◌∷◌, length, get_or, drop, Option, Some, None, refl, sym, ap, ◌∙◌, subst, arith}
use Rattle.std.specs.Prelude.{MatchOption}
use Rattle.marks.specs.declared.side.Side.{Side}
use Rattle.marks.specs.declared.side.Side.TheVariants.{Replay, System}
use Rattle.marks.specs.Places.{frame_count, stack, stack_size}
use Rattle.marks.specs.declared.range.Range.{Range}
use Rattle.marks.specs.Ranges.{range}
use Rattle.marks.specs.Marks.{Enter, Leave, Mark}
use Rattle.marks.specs.Bytes.{Asks}
use Rattle.marks.specs.Wants.{Want, Leaves}
use Rattle.c_code.specs.Machine.{frame_of}
use Rattle.replay_runs.specs.Runs.{byte, marks_of}
use Rattle.replay_runs.specs.Threads.{HasRoom, end_of, frame_place}
use Rattle.replay_runs.specs.Rules.{Carries}
use Rattle.replay_runs.specs.Checks.{Checks, Passes, indirect_check}
use Rattle.whole_runs.specs.World.{World, begin, interface}
use Rattle.whole_runs.specs.Sides.{HasRoomOn, frames_on, place_on, seen}
use Rattle.whole_runs.specs.Tests.{back_checks, is_back, tests}
use Rattle.whole_runs.specs.Steps.{goes_up}
use Rattle.whole_runs_seen.proofs.Entries.{IsOwn}
use Rattle.whole_runs_seen.proofs.Threads.{own_want, threads_known}
use Rattle.whole_runs_memory.specs.Plain.{first_of}
use Rattle.whole_runs_memory.proofs.Ends as ends
use Rattle.whole_runs_memory.proofs.Seen.{own_seen}
use Rattle.recorder_memory.specs.Below.{Calling, Plainly, ThroughPointer, frame_want}
use Rattle.recorder_memory.proofs.Replies.{frame_answers, leave_answers}
use Rattle.recorder_threads.specs.declared.wants.Want.{Want as Said}
use Rattle.recorder_threads.specs.declared.wants.Want.TheVariants as told
use Rattle.recorder_threads.specs.Wants.{IsTold}
use Rattle.reference_recorder_marks.specs.declared.mark.Act.TheVariants as act
use Rattle.reference_recorder_marks.specs.declared.mark.Mark.{Mark as Told}
use Rattle.reference_recorder_marks.specs.Marks.{past}
use Rattle.reference_recorder_rules.specs.Steps.{IsMadeAs, IsToMake}
use Rattle.reference_recorder_acts.specs.Acts.{IsNextFrame, WantsFrame, by_address, by_call, next_after}
use Rattle.reference_recorder_acts.proofs.Marked.{frames_told}
use Rattle.reference_recorder_acts.proofs.Plain.{made_as, of_told}
use Rattle.reference_recorder_acts.proofs.Touched.{live_above}

-- what is said of an option, where it is there and where it isn't
pub where_none : (A : Type 0) (B : ℕ → Type 0) (o : Option ℕ) → o ≡ None → MatchOption o A B → A
where_none A B o is h = subst (λ p. MatchOption p A B) is h

pub where_some : (A : Type 0) (B : ℕ → Type 0) (o : Option ℕ) (x : ℕ) → o ≡ Some x → MatchOption o A B → B x
where_some A B o x is h = subst (λ p. MatchOption p A B) is h

pub no_ranges : (rs : List Range) → length rs < 1 → rs ≡ []
no_ranges [] lt = refl
no_ranges (r ∷ rs) lt = absurd (omega (arith, lt))

some_range : (rs : List Range) (frame : Range) → 1 ≤ length rs → rs ≡ get_or rs 0 frame ∷ drop 1 rs
some_range [] frame le = absurd (omega (arith, le))
some_range (r ∷ rs) frame le = refl

-- room for so many bytes, by the frames of a stack
abbrev HasRoomFor : (side : Side) (thread : ℕ) (frames : List Range) (size : ℕ) → Type 0
HasRoomFor side t fs n = (end_of (stack side t) fs + n ≤ stack side t + stack_size) × (length fs < frame_count)

-- the code wants a frame of the function with these bytes, and calls nothing back
record IsFrameWanted (w : World) (run : List Mark) (func : ℕ) (args : List ℕ) (want : Want) : Type 0 where
  how : Calling
  want_is : want ≡ frame_want how func args (frame_of w.laid func args)
  plain : how ≡ ThroughPointer → is_back w run func ≡ false

frame_wanted : (w : World) (run : List Mark) (func : ℕ) (args : List ℕ) (want : Want) (said : Said) → WantsFrame w run func said → IsTold w.laid args said want → IsFrameWanted w run func args want
frame_wanted w run func args want said (by_call i size) h = record { how = Plainly i; want_is = h.0; plain = λ e. absurd cc }
frame_wanted w run func args want said (by_address size none) h = record { how = ThroughPointer; want_is = h.0; plain = λ e. none }

past_indirect : (w : World) (i : Bool) (side : Side) (f : ℕ) (cs : Checks) → Passes (indirect_check (interface w) i side f cs) → Passes cs
past_indirect w true side f cs p = p.1
past_indirect w false side f cs p = p

module _ (w : World) (marks : List Told) (t : ℕ) (side : Side) (func : ℕ) (args : List ℕ) (next : IsNextFrame w marks t side func args) where
  abbrev pub ran : List Mark
  ran = next.to.at.past.run

  wanted : IsFrameWanted w ran func args next.to.at.step.want
  wanted = frame_wanted w ran func args next.to.at.step.want next.said next.frame next.to.at.told

  abbrev mine : List Mark
  mine = marks_of (begin w) t (seen ran)

  abbrev wants : List ℕ → Want
  wants bytes = frame_want wanted.how func args bytes

  -- through an address code calls below the cut alone
  below : (how : Calling) → wanted.how ≡ how → how ≡ ThroughPointer → side ≡ System
  below how same e =
      let own : IsOwn w.laid next.to.at.step.side next.to.at.step.want = own_want w next.to.at.past.fit.code ran (threads_known w next.to.at.past.fit.code ran next.to.at.past.follows) next.to.at.step in
      sym next.to.at.on_side ∙ subst (λ h. IsOwn w.laid next.to.at.step.side (frame_want h func args (frame_of w.laid func args))) (same ∙ e) (subst (IsOwn w.laid next.to.at.step.side) wanted.want_is own)

  module _ (bytes : List ℕ) (is : bytes ≡ frame_of w.laid func args) where
    want_is : next.to.at.step.want ≡ wants bytes
    want_is = wanted.want_is ∙ ap wants (sym is)

    passed : Passes (tests w ran t side (wants bytes))
    passed = of_told w marks t side args next.said next.to.at (wants bytes) want_is (λ u d v. Passes (tests w ran u d v)) next.to.passes

    -- it has room
    has_room : (HasRoomOn w side t ran (length bytes) → ⊥) → ⊥
    has_room none = by side refl wanted.how refl
      where
        above : (how : Calling) → side ≡ Replay → wanted.how ≡ how → Passes (tests w ran t Replay (frame_want how func args bytes)) → (HasRoomOn w Replay t ran (length bytes) → ⊥) → ⊥
        above (Plainly i) on same p free = (past_indirect w i Replay func _ p).0 0 (λ r. free (subst (λ (ms : List Mark). HasRoom t ms (length bytes)) (own_seen w t ran) r))
        above ThroughPointer on same p free = let e : Replay ≡ System = sym on ∙ below ThroughPointer same refl in absurd cc

        under : (how : Calling) → wanted.how ≡ how → Passes (tests w ran t System (frame_want how func args bytes)) → (HasRoomOn w System t ran (length bytes) → ⊥) → ⊥
        under (Plainly i) same p free = (past_indirect w i System func _ p).0 0 free
        under ThroughPointer same p free =
            let q : Passes (back_checks w ran t func bytes false) = subst (λ b. Passes (back_checks w ran t func bytes b)) (wanted.plain same) p in
            q.1.0 0 free

        by : (d : Side) → side ≡ d → (how : Calling) → wanted.how ≡ how → ⊥
        by Replay on how same = above how on same (subst (λ d. Passes (tests w ran t d (frame_want how func args bytes))) on (subst (λ h. Passes (tests w ran t side (frame_want h func args bytes))) same passed)) (subst (λ d. HasRoomOn w d t ran (length bytes) → ⊥) on none)
        by System on how same = under how same (subst (λ d. Passes (tests w ran t d (frame_want how func args bytes))) on (subst (λ h. Passes (tests w ran t side (frame_want h func args bytes))) same passed)) (subst (λ d. HasRoomOn w d t ran (length bytes) → ⊥) on none)

    abbrev frames_same : frames_on w side t (past marks) ≡ frames_on w side t ran
    frames_same = frames_told w marks next.to.at.past side t

    pub has_room_told : (HasRoomOn w side t (past marks) (length bytes) → ⊥) → ⊥
    has_room_told none = has_room (λ r. none (subst (λ fs. HasRoomFor side t fs (length bytes)) (sym frames_same) r))

    pub entered : (at : ℕ) → HasRoomOn w side t (past marks) (length bytes) → at ≡ place_on w side t (past marks) →
        (made : Told) → made ≡ next_after marks t side (act.Enter func args at bytes) → IsMadeAs w ran next.to.at.step made
    entered at room place made made_is =
        made_as w marks t side args next.said next.to.at (wants bytes) want_is next.to.passes (Enter func args at bytes) (act.Enter func args at bytes) refl refl
        (frame_answers wanted.how func at args bytes) (stays wanted.how refl, here) (λ on. carries on wanted.how) (λ on. tt) made made_is
      where
        here : at ≡ place_on w side t ran
        here = place ∙ ap (end_of (stack side t)) frames_same

        fits : HasRoomOn w side t ran (length bytes)
        fits = subst (λ fs. HasRoomFor side t fs (length bytes)) frames_same room

        stays : (how : Calling) → wanted.how ≡ how → goes_up w ran (frame_want how func args bytes) ≡ false
        stays (Plainly i) same = refl
        stays ThroughPointer same = wanted.plain same

        carries : side ≡ Replay → (how : Calling) → Carries (interface w) (begin w) t mine (frame_want how func args bytes) (Enter func args at bytes)
        carries on (Plainly i) = (
          subst (λ (ms : List Mark). at ≡ frame_place t ms) (sym (own_seen w t ran)) (subst (λ d. at ≡ place_on w d t ran) on here),
          subst (λ (ms : List Mark). HasRoom t ms (length bytes)) (sym (own_seen w t ran)) (subst (λ d. HasRoomOn w d t ran (length bytes)) on fits),
        )
        carries on ThroughPointer = tt

-- ---- the frame that is left

module _ (w : World) (marks : List Told) (t : ℕ) (side : Side) (args : List ℕ) (to : IsToMake w marks t side args told.Leave) where
  abbrev went : List Mark
  went = to.at.past.run

  abbrev lies : ℕ
  lies = to.at.told.0

  abbrev long : ℕ
  long = to.at.told.1

  -- it is the innermost one
  first : first_of (frames_on w side t (past marks)) ≡ Some (range lies long)
  first =
      ap first_of (frames_told w marks to.at.past side t)
      ∙ subst (λ u. first_of (frames_on w side u went) ≡ Some (range lies long)) to.at.of_thread
      (subst (λ d. first_of (frames_on w d to.at.step.thread went) ≡ Some (range lies long)) to.at.on_side
      (ends.leaves w to.at.past.fit went to.at.past.follows to.at.step lies long to.at.told.2))

  pub leave_some : frames_on w side t (past marks) ≡ [] → ⊥
  leave_some none = let e : ◌≡◌ {A = Option Range} None (Some (range lies long)) = ap first_of (sym none) ∙ first in absurd cc

  pub left : (frame : Range) (rest : List Range) → frames_on w side t (past marks) ≡ frame ∷ rest →
      (made : Told) → made ≡ next_after marks t side (act.Leave frame.addr frame.len) → IsMadeAs w went to.at.step made
  left frame rest frames made is =
      made_as w marks t side args told.Leave to.at (Leaves frame.addr frame.len) want_is to.passes (Leave frame.addr frame.len) (act.Leave frame.addr frame.len) refl refl
      (leave_answers frame.addr frame.len) tt (λ e. tt) asks made is
    where
      same : range lies long ≡ frame
      same = let e : ◌≡◌ {A = Option Range} (Some (range lies long)) (Some frame) = sym first ∙ ap first_of frames in cc

      want_is : to.at.step.want ≡ Leaves frame.addr frame.len
      want_is = to.at.told.2 ∙ ap (λ (r : Range). Leaves r.addr r.len) same

      passed : Passes (tests w went t side (Leaves frame.addr frame.len))
      passed = of_told w marks t side args told.Leave to.at (Leaves frame.addr frame.len) want_is (λ u d v. Passes (tests w went u d v)) to.passes

      asks : side ≡ Replay → Asks (Leave frame.addr frame.len) (λ x. byte (begin w) x (seen went))
      asks above x e = live_above w went t true frame (subst (λ d. Passes (tests w went t d (Leaves frame.addr frame.len))) above passed) x e

  pub left_first : (frames : List Range) → frames_on w side t (past marks) ≡ frames → 1 ≤ length frames → (d : Range) →
      (made : Told) → made ≡ next_after marks t side (act.Leave (get_or frames 0 d).addr (get_or frames 0 d).len) → IsMadeAs w went to.at.step made
  left_first frames is some d made made_is = left (get_or frames 0 d) (drop 1 frames) (is ∙ some_range frames d some) made made_is
