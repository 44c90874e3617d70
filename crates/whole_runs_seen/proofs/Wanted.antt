-- What a thread of a run wants above the cut, as its marks there say.
use Rattle.std.proofs.Common.{◌≡◌, ℕ, Bool, true, false, cond, eqb, List, [], ◌∷◌, refl, sym, ap, ◌∙◌, subst}
use Rattle.marks.specs.declared.side.Side.TheVariants.{Replay, System}
use Rattle.marks.specs.Marks.{Mark}
use Rattle.marks.specs.Wants.{Want, is_below}
use Rattle.c_code.specs.MarkLists.{Wants, same_side, replay_part, want_above}
use Rattle.c_code.specs.Laws.{seen_above, IsSeenAbove}
use Rattle.c_code.proofs.Typed as typed
use Rattle.replay_runs.specs.Runs.{marks_of}
use Rattle.whole_runs.specs.World.{World, begin, program_of}
use Rattle.whole_runs.specs.Sides.{seen, own}
use Rattle.whole_runs.specs.Steps.{Picked}
use Rattle.whole_runs.specs.Fits.{IsFitCode}
use Rattle.whole_runs_seen.proofs.Threads.{AreThreads, func_at, args_at, picked_started, right_there, wants_there}

-- a thread's marks above the cut are those of what is seen
pub own_seen : (w : World) (past : List Mark) (t : ℕ) → marks_of (begin w) t (seen past) ≡ replay_part (own w t past)
own_seen w [] t = refl
own_seen w (m ∷ past) t = go (same_side m.side Replay) refl (eqb m.thread t) refl (own_seen w past t)
  where
    mine : List Mark
    mine = own w t past

    go : (a : Bool) → same_side m.side Replay ≡ a → (b : Bool) → eqb m.thread t ≡ b → marks_of (begin w) t (seen past) ≡ replay_part mine →
        marks_of (begin w) t (cond a (m ∷ seen past) (seen past)) ≡ replay_part (cond b (m ∷ mine) mine)
    go true e true d r = ap (λ z. cond z (m ∷ marks_of (begin w) t (seen past)) (marks_of (begin w) t (seen past))) d ∙ (ap (λ xs. m ∷ xs) r ∙ sym (ap (λ z. cond z (m ∷ replay_part mine) (replay_part mine)) e))
    go true e false d r = ap (λ z. cond z (m ∷ marks_of (begin w) t (seen past)) (marks_of (begin w) t (seen past))) d ∙ r
    go false e true d r = r ∙ sym (ap (λ z. cond z (m ∷ replay_part mine) (replay_part mine)) e)
    go false e false d r = r

module _ (w : World) (code : IsFitCode w.laid) (past : List Mark) (known : AreThreads w past) (s : Picked w past) where
  abbrev pub wanted : Want
  wanted = (program_of w).want s.thread (marks_of (begin w) s.thread (seen past))

  seen_so : IsSeenAbove (Wants s.side s.want s.to) wanted
  seen_so =
      let here : IsSeenAbove (Wants s.side s.want s.to) (want_above w.laid (replay_part (own w s.thread past))) =
      subst (λ n. IsSeenAbove n (want_above w.laid (replay_part (own w s.thread past)))) (wants_there w code past known s)
      (typed.wants w.laid code.valid code.typed (func_at w past s.thread) (args_at w past s.thread) (known.well s.thread (picked_started w code past known s)) (own w s.thread past) (right_there w code past known s)) in
      subst (λ ms. IsSeenAbove (Wants s.side s.want s.to) (want_above w.laid ms)) (sym (own_seen w past s.thread)) here

  pub wanted_above : s.side ≡ Replay → wanted ≡ seen_above s.want
  wanted_above e = subst (λ d. IsSeenAbove (Wants d s.want s.to) wanted) e seen_so

  pub wanted_below : s.side ≡ System → is_below wanted ≡ true
  wanted_below e = subst (λ d. IsSeenAbove (Wants d s.want s.to) wanted) e seen_so
