-- There is room for each frame that a run takes.
use Rattle.std.proofs.Common.{◌≡◌, ℕ, ◌+◌, ◌<◌, ◌≤◌, ⊎_elim, Bool, true, false, cond, ◌&&◌, not, eqb, List, [], ◌∷◌, length, Some, refl, sym, ap, ◌∙◌, subst, arith, eqb-true}
use Rattle.std.specs.Prelude.{is_some}
use Rattle.std.proofs.lemmas.Bool.{cases_lt, true≢false}
use Rattle.marks.specs.declared.side.Side.{Side}
use Rattle.marks.specs.declared.side.Side.TheVariants.{Replay, System}
use Rattle.marks.specs.Places.{frame_count, stack, stack_size}
use Rattle.marks.specs.declared.range.Range.{Range}
use Rattle.marks.specs.Marks.{Act, Turn, Load, Store, Enter, Leave, Step, Fault, Made, Mark, side_of}
use Rattle.marks.specs.Opens.{tail, frames, frames_after}
use Rattle.marks.specs.Wants.{Want, Outside, Turns, Loads, Stores, Enters, Leaves, Allocs, Frees, Calls, Below, Gives, Returns, CallsBack, UpReturns, Steps, Fails, Answer, Frame, Stopped, answer_to, answer_if, same_numbers}
use Rattle.c_code.specs.MarkLists.{reply, replay_part, same_side}
use Rattle.c_code.specs.Opens.{system_part}
use Rattle.c_code.specs.Machine.{Laid}
use Rattle.c_code.proofs.Sides.{replied, numbers_same}
use Rattle.replay_runs.specs.Runs.{marks_of}
use Rattle.replay_runs.specs.Threads.{HasRoom}
use Rattle.replay_runs.specs.Rules.{Carries}
use Rattle.replay_runs.specs.Checks.{Passes}
use Rattle.whole_runs.specs.World.{World, begin, interface}
use Rattle.whole_runs.specs.Sides.{seen, own, part_of, frames_on, place_on, HasRoomOn}
use Rattle.whole_runs.specs.Tests.{tests, back_checks, is_back}
use Rattle.whole_runs.specs.Steps.{Picked, IsMade, Agrees}
use Rattle.whole_runs.specs.Ends.{Follows}
use Rattle.whole_runs.specs.Fits.{IsFit}
use Rattle.whole_runs_seen.proofs.Entries.{IsOwn}
use Rattle.whole_runs_seen.proofs.Threads.{threads_known, own_want, answer_of}
use Rattle.whole_runs_seen.proofs.Wanted.{own_seen}
use Rattle.whole_runs_threads.specs.Laws.{FramesAreFew}

-- room that isn't missing is there
there : (w : World) (side : Side) (t : ℕ) (past : List Mark) (size : ℕ) → (¬ HasRoomOn w side t past size → ⊥) → HasRoomOn w side t past size
there w side t past size n = ⊎_elim (λ lt. absurd (n (λ r. omega (arith, lt, r.0)))) (λ le. (le, few)) (cases_lt (stack side t + stack_size) (place_on w side t past + size))
  where
    few : length (frames_on w side t past) < frame_count
    few = ⊎_elim (λ lt. lt) (λ le. absurd (n (λ r. omega (arith, le, r.1)))) (cases_lt (length (frames_on w side t past)) frame_count)

not_frees : (b : Bool) → is_some (answer_if (b && false) Stopped) ≡ true → ⊥
not_frees true e = true≢false (sym e)
not_frees false e = true≢false (sym e)

module _ (w : World) (t : ℕ) (past : List Mark) (g : ℕ) (bs : List ℕ) (at : ℕ) (b : List ℕ) where
  -- above the cut the rules of replays say so
  above : HasRoom t (marks_of (begin w) t (seen past)) (length b) → HasRoomOn w Replay t past (length b)
  above h = subst (λ ms. HasRoom t ms (length b)) (own_seen w past t) h

  -- below it the tests
  below : (i : Bool) (f : ℕ) (args bytes : List ℕ) → length bytes ≡ length b → Passes (tests w past t System (Enters i f args bytes)) → HasRoomOn w System t past (length b)
  below i f args bytes e h = subst (HasRoomOn w System t past) e (there w System t past (length bytes) (by i h))
    where
      by : (j : Bool) → Passes (tests w past t System (Enters j f args bytes)) → ¬ HasRoomOn w System t past (length bytes) → ⊥
      by true p n = p.1.0 0 n
      by false p n = p.0 0 n

  back : (f : ℕ) (args bytes : List ℕ) → length bytes ≡ length b → is_back w past f ≡ false → Passes (tests w past t System (CallsBack f args bytes)) → HasRoomOn w System t past (length b)
  back f args bytes e kept h =
      let p : Passes (back_checks w past t f bytes false) = subst (λ c. Passes (back_checks w past t f bytes c)) kept h in
      subst (HasRoomOn w System t past) e (there w System t past (length bytes) (λ n. p.1.0 0 n))

  abbrev act : Act
  act = Enter g bs at b

  same_bytes : (x y : List ℕ) → same_numbers x y ≡ true → length y ≡ length x
  same_bytes x y e = ap length (sym (numbers_same x y e))

  -- the frame's bytes are those that are wanted
  last_of : (p q r : Bool) → is_some (answer_if (p && (q && r)) (Frame at)) ≡ true → r ≡ true
  last_of true true true e = refl
  last_of true true false e = absurd (true≢false (sym e))
  last_of true false r e = absurd (true≢false (sym e))
  last_of false q r e = absurd (true≢false (sym e))

  pub room : (l : Laid) (side : Side) (want : Want) → IsOwn l side want → is_some (answer_to want act) ≡ true → Agrees w past t side want act → Passes (tests w past t side want)
      → (side ≡ Replay → Carries (interface w) (begin w) t (marks_of (begin w) t (seen past)) want act) → HasRoomOn w side t past (length b)
  unfolding answer_to
  room l Replay (Enters i f args bytes) o e a p c = above (subst (HasRoom t (marks_of (begin w) t (seen past))) (same_bytes b bytes (last_of (eqb g f) _ (same_numbers b bytes) e)) (c refl).1)
  room l System (Enters i f args bytes) o e a p c = below i f args bytes (same_bytes b bytes (last_of (eqb g f) _ (same_numbers b bytes) e)) p
  room l Replay (CallsBack f args bytes) o e a p c = absurd cc
  room l System (CallsBack f args bytes) o e a p c = back f args bytes (same_bytes b bytes (last_of (eqb g f) _ (same_numbers b bytes) e)) a.0 p
  room l side Outside o e a p c = absurd (true≢false (sym e))
  room l side Turns o e a p c = absurd (true≢false (sym e))
  room l side (Loads q x n) o e a p c = absurd (true≢false (sym e))
  room l side (Stores q x bytes) o e a p c = absurd (true≢false (sym e))
  room l side (Leaves x n) o e a p c = absurd (true≢false (sym e))
  room l side (Allocs n) o e a p c = absurd (true≢false (sym e))
  room l side (Frees x) o e a p c = absurd (not_frees (not (eqb x 0)) e)
  room l side (Calls i f args) o e a p c = absurd (true≢false (sym e))
  room l side (Below f args) o e a p c = absurd (true≢false (sym e))
  room l side (Gives f args) o e a p c = absurd (true≢false (sym e))
  room l side (Returns f args v) o e a p c = absurd (true≢false (sym e))
  room l side (UpReturns f v) o e a p c = absurd (true≢false (sym e))
  room l side (Steps i f args) o e a p c = absurd (true≢false (sym e))
  room l side (Fails kind) o e a p c = absurd (true≢false (sym e))

-- ---- a step

tail_few : (fs : List Range) → length (tail fs) ≤ length fs
tail_few [] = omega arith
tail_few (f ∷ fs) = omega arith

module _ (w : World) (fit : IsFit w) (past : List Mark) (follows : Follows w past) (s : Picked w past) (m : Mark) (h : IsMade w past s m) where
  answer : (x : Answer) × (reply s.side s.want m ≡ Some x)
  answer = answer_of w fit.code past (threads_known w fit.code past follows) s m h (reply s.side s.want m) refl h.replies

  on_side : m.side ≡ side_of s.side m.act
  on_side = (replied s.side s.want m answer.0 answer.1).0

  pub answers : is_some (answer_to s.want m.act) ≡ true
  answers = subst (λ o. is_some o ≡ true) (sym (replied s.side s.want m answer.0 answer.1).1) refl

  carries : m.side ≡ Replay → Carries (interface w) (begin w) s.thread (marks_of (begin w) s.thread (seen past)) s.want m.act
  carries e = subst (λ u. Carries (interface w) (begin w) u (marks_of (begin w) u (seen past)) s.want m.act) h.mark.of_thread (h.mark.above e).own.1

  -- the frame that a thread takes has room on its side
  pub frame_room : (g : ℕ) (bs : List ℕ) (at : ℕ) (b : List ℕ) → m.act ≡ Enter g bs at b → HasRoomOn w s.side s.thread past (length b)
  frame_room g bs at b is =
      room w s.thread past g bs at b w.laid s.side s.want (own_want w fit.code past (threads_known w fit.code past follows) s)
      (subst (λ a. is_some (answer_to s.want a) ≡ true) is answers) (subst (Agrees w past s.thread s.side s.want) is h.agrees) h.passes
      (λ e. subst (Carries (interface w) (begin w) s.thread (marks_of (begin w) s.thread (seen past)) s.want) is (carries (on_side ∙ (ap (side_of s.side) is ∙ e))))

  pub frame_side : (g : ℕ) (bs : List ℕ) (at : ℕ) (b : List ℕ) → m.act ≡ Enter g bs at b → m.side ≡ s.side
  frame_side g bs at b is = on_side ∙ ap (side_of s.side) is

  -- so its frames are few
  after_few : (fs : List Range) → ((g : ℕ) (bs : List ℕ) (at : ℕ) (b : List ℕ) → m.act ≡ Enter g bs at b → length fs < frame_count) → length fs ≤ frame_count → length (frames_after m.act fs) ≤ frame_count
  after_few fs room le = by m.act refl
    where
      by : (a : Act) → m.act ≡ a → length (frames_after a fs) ≤ frame_count
      by (Enter g bs at b) is = let lt = room g bs at b is in omega (arith, lt)
      by (Leave at size) is = let t = tail_few fs in omega (arith, t, le)
      by Turn is = le
      by (Load o at b) is = le
      by (Store o at b) is = le
      by (Step f args v ins pieces freed) is = le
      by (Fault k c ins outs at) is = le
      by (Made e) is = le

  few_own : ((side : Side) → length (frames_on w side s.thread past) ≤ frame_count) → (side : Side) → length (frames (part_of side (m ∷ own w s.thread past))) ≤ frame_count
  few_own le side = by side m.side refl
    where
      mine : List Mark
      mine = own w s.thread past

      fewer : (side : Side) → m.side ≡ side → (g : ℕ) (bs : List ℕ) (at : ℕ) (b : List ℕ) → m.act ≡ Enter g bs at b → length (frames_on w side s.thread past) < frame_count
      fewer side e g bs at b is = subst (λ d. length (frames_on w d s.thread past) < frame_count) (sym (frame_side g bs at b is) ∙ e) (frame_room g bs at b is).1

      by : (side on : Side) → m.side ≡ on → length (frames (part_of side (m ∷ mine))) ≤ frame_count
      by Replay Replay e = subst (λ d. length (frames (cond (same_side d Replay) (m ∷ replay_part mine) (replay_part mine))) ≤ frame_count) (sym e) (after_few (frames (replay_part mine)) (fewer Replay e) (le Replay))
      by Replay System e = subst (λ d. length (frames (cond (same_side d Replay) (m ∷ replay_part mine) (replay_part mine))) ≤ frame_count) (sym e) (le Replay)
      by System Replay e = subst (λ d. length (frames (cond (same_side d System) (m ∷ system_part mine) (system_part mine))) ≤ frame_count) (sym e) (le System)
      by System System e = subst (λ d. length (frames (cond (same_side d System) (m ∷ system_part mine) (system_part mine))) ≤ frame_count) (sym e) (after_few (frames (system_part mine)) (fewer System e) (le System))

one_more : (w : World) → IsFit w → (past : List Mark) (m : Mark) → Follows w (m ∷ past) → (t : ℕ) → ((side : Side) → length (frames_on w side t past) ≤ frame_count) → (side : Side) → length (frames_on w side t (m ∷ past)) ≤ frame_count
one_more w fit past m f t before side = go (eqb m.thread t) refl
  where
    go : (c : Bool) → eqb m.thread t ≡ c → length (frames_on w side t (m ∷ past)) ≤ frame_count
    go false e = subst (λ ms. length (frames (part_of side ms)) ≤ frame_count) (sym (ap (λ c. cond c (m ∷ own w t past) (own w t past)) e)) (before side)
    go true e =
        let here : f.0.step.thread ≡ t = sym f.0.made.mark.of_thread ∙ eqb-true m.thread t e in
        subst (λ ms. length (frames (part_of side ms)) ≤ frame_count) (sym (ap (λ c. cond c (m ∷ own w t past) (own w t past)) e))
        (subst (λ u. length (frames (part_of side (m ∷ own w u past))) ≤ frame_count) here
        (few_own w fit past f.1 f.0.step m f.0.made (subst (λ u. (d : Side) → length (frames_on w d u past) ≤ frame_count) (sym here) before) side))

pub frames_few : (w : World) → IsFit w → (past : List Mark) → Follows w past → (t : ℕ) (side : Side) → length (frames_on w side t past) ≤ frame_count
frames_few w fit [] f t Replay = omega arith
frames_few w fit [] f t System = omega arith
frames_few w fit (m ∷ past) f t side = one_more w fit past m f t (λ d. frames_few w fit past f.1 t d) side

pub few_frames : (w : World) → FramesAreFew w
few_frames w fit past f t side = frames_few w fit past f t side
