-- What code above the cut ends is there.
use Rattle.std.proofs.Common.{◌≡◌, ◌≢◌, ℕ, ◌<◌, Bool, true, false, cond, eqb, List, [], ◌∷◌, refl, sym, ap, ◌∙◌, subst, eqb-true}
use Rattle.std.proofs.lemmas.Bool.{true≢false}
use Rattle.marks.specs.declared.side.Side.TheVariants.{Replay}
use Rattle.marks.specs.Places.{thread_count, is_constant, is_system}
use Rattle.marks.specs.declared.range.Range.{Range}
use Rattle.marks.specs.Ranges.{within, covers, any_range}
use Rattle.marks.specs.Marks.{Leave, Mark}
use Rattle.marks.specs.Bytes.{Dead}
use Rattle.marks.specs.Opens.{frames}
use Rattle.marks.specs.Wants.{Want, Outside, Turns, Loads, Stores, Enters, Leaves, Allocs, Frees, Calls, Below, Gives, Returns, CallsBack, UpReturns, Steps, Fails}
use Rattle.marks.proofs.Touched.{or_true_left}
use Rattle.c_code.specs.Laws.{seen_above}
use Rattle.replay_runs.specs.Runs.{marks_of, byte, Run}
use Rattle.replay_runs.specs.Found.{EndsWhatIsThere}
use Rattle.replay_runs.specs.Pool.{blocks}
use Rattle.replay_runs.specs.Rules.{is_reply, replay_rules}
use Rattle.replay_runs.specs.Unseen.{LeavesFirst, AreWanted, IsWhole, Calm}
use Rattle.replay_runs.proofs.Owning.{objects_own}
use Rattle.replay_runs.proofs.Unseen.{stay_whole}
use Rattle.whole_runs.specs.World.{World, begin, program_of}
use Rattle.whole_runs.specs.Sides.{seen}
use Rattle.whole_runs.specs.Steps.{Picked}
use Rattle.whole_runs.specs.Ends.{Follows}
use Rattle.whole_runs.specs.Fits.{IsFit}
use Rattle.whole_runs_laws.specs.Exists.{EndsAreThere}
use Rattle.whole_runs_laws.proofs.FaultsAbove.{few_threads}
use Rattle.whole_runs_seen.proofs.Threads.{threads_known}
use Rattle.whole_runs_seen.proofs.Wanted.{wanted_above}
use Rattle.whole_runs_seen.proofs.Alive.{AreAlive, objects_alive, size_in}
use Rattle.whole_runs_seen.proofs.Calm.{calm_run, ends_own}

-- each mark of a run of the program is one that its code wanted
pub run_wanted : (w : World) (run : List Mark) → Run (replay_rules (program_of w) (begin w)) (begin w) run → (t : ℕ) → AreWanted (program_of w) t (marks_of (begin w) t run)
run_wanted w [] r t = tt
run_wanted w (m ∷ past) r t = go (eqb m.thread t) refl (run_wanted w past r.1 t)
  where
    go : (b : Bool) → eqb m.thread t ≡ b → AreWanted (program_of w) t (marks_of (begin w) t past) → AreWanted (program_of w) t (cond b (m ∷ marks_of (begin w) t past) (marks_of (begin w) t past))
    go true e h = (r.0.own.side, subst (λ u. is_reply ((program_of w).want u (marks_of (begin w) u past)) m.act ≡ true) (eqb-true m.thread t e) r.0.own.replies, h)
    go false e h = h

none_alive : (w : World) → AreAlive (begin w) []
none_alive w = record { framed = λ t x lt e. absurd (true≢false (sym e)); blocked = λ x e. absurd (true≢false (sym e)) }

module _ (w : World) (fit : IsFit w) (past : List Mark) (follows : Follows w past) (s : Picked w past) (on : s.side ≡ Replay) where
  calm : Calm (program_of w) (begin w) (seen past)
  calm = calm_run w fit past follows

  whole : IsWhole (begin w) (seen past)
  whole = stay_whole (program_of w) (begin w) (seen past) calm

  alive : AreAlive (begin w) (seen past)
  alive = objects_alive (program_of w) (begin w) (none_alive w) (seen past) calm

  wanted_is : (program_of w).want s.thread (marks_of (begin w) s.thread (seen past)) ≡ seen_above s.want
  wanted_is = wanted_above w fit.code past (threads_known w fit.code past follows) s on

  small : s.thread < thread_count
  small = few_threads w fit.file past s

  first_frame : (at size : ℕ) → s.want ≡ Leaves at size → LeavesFirst (Leave at size) (frames (marks_of (begin w) s.thread (seen past)))
  first_frame at size e = ends_own w fit s.thread (marks_of (begin w) s.thread (seen past)) at size (run_wanted w (seen past) calm.steps s.thread) (wanted_is ∙ ap seen_above e)

  frame_there : (at size : ℕ) → s.want ≡ Leaves at size → (x : ℕ) → within at size x ≡ true → ((byte (begin w) x (seen past)).cell ≢ Dead) × (is_constant x ≡ false)
  frame_there at size e x z = (alive.framed s.thread x small (go (frames (marks_of (begin w) s.thread (seen past))) (first_frame at size e)), ((objects_own (begin w) (seen past) whole).leaves s.thread at size small (first_frame at size e) x z).1)
    where
      go : (fs : List Range) → LeavesFirst (Leave at size) fs → any_range fs x ≡ true
      go [] q = absurd q
      go (f ∷ fs) q = or_true_left (covers f x) (any_range fs x) (subst (λ n. within f.addr n x ≡ true) q.1 (subst (λ a. within a size x ≡ true) q.0 z))

  block_there : (at : ℕ) → is_system at ≡ false → (x : ℕ) → within at (byte (begin w) at (seen past)).block x ≡ true → (byte (begin w) x (seen past)).cell ≢ Dead
  block_there at n x z = alive.blocked x (size_in (blocks (begin w) (seen past)) at x (subst (λ k. within at k x ≡ true) (whole.listed.same at) z))

  there : (want : Want) → s.want ≡ want → EndsWhatIsThere (begin w) (seen past) want
  there (Leaves at size) e = frame_there at size e
  there (Frees at) e = block_there at
  there Outside e = tt
  there Turns e = tt
  there (Loads o at n) e = tt
  there (Stores o at bytes) e = tt
  there (Enters i f args bytes) e = tt
  there (Allocs n) e = tt
  there (Calls i f args) e = tt
  there (Below f args) e = tt
  there (Gives f args) e = tt
  there (Returns f args v) e = tt
  there (CallsBack f args bytes) e = tt
  there (UpReturns f v) e = tt
  there (Steps i f args) e = tt
  there (Fails kind) e = tt

pub ends_there : (w : World) → IsFit w → EndsAreThere w
ends_there w fit past follows s on = there w fit past follows s on s.want refl
