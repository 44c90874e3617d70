-- Each mark of a run stands in its thread's list, and answers what the thread wanted there.
use Rattle.std.proofs.Common.{◌≡◌, inl, inr, ◌<◌, Bool, true, false, cond, eqb, ltb, List, [], ◌∷◌, ◌++◌, refl, sym, ap, ◌∙◌, subst, eq-eqb}
use Rattle.std.proofs.lemmas.Bool.{ltb-true, ltb-false}
use Rattle.marks.specs.Marks.{Mark}
use Rattle.c_code.specs.MarkLists.{Split}
use Rattle.replay_runs.specs.Runs.{In}
use Rattle.whole_runs.specs.World.{World}
use Rattle.whole_runs.specs.Sides.{own}
use Rattle.whole_runs.specs.Outcomes.{started}
use Rattle.whole_runs.specs.Threads.{beginning}
use Rattle.whole_runs_seen.proofs.Entries.{IsOwn, Stands, wants_are_own}
use Rattle.whole_runs_seen.proofs.Threads.{AreThreads, begins_so}
use Rattle.whole_runs_cuts.proofs.Along.{AnswersAt, answered_at}

record InOwn (w : World) (past : List Mark) (m : Mark) : Type 0 where
  pub later : List Mark
  pub older : List Mark
  pub there : own w m.thread past ≡ later ++ (m ∷ older)

own_mark : (w : World) (past : List Mark) (m : Mark) → In m past → InOwn w past m
own_mark w (k ∷ past) m (inl e) = record {
  later = [];
  older = own w m.thread past;
  there = ap (λ b. cond b (k ∷ own w m.thread past) (own w m.thread past)) (eq-eqb k.thread m.thread (ap (λ (x : Mark). x.thread) (sym e))) ∙ ap (λ (x : Mark). x ∷ own w m.thread past) (sym e);
}
own_mark w (k ∷ past) m (inr i) = let o = own_mark w past m i in by o (eqb k.thread m.thread) refl
  where
    by : InOwn w past m → (b : Bool) → eqb k.thread m.thread ≡ b → InOwn w (k ∷ past) m
    by o true e = record {
      later = k ∷ o.later;
      older = o.older;
      there = ap (λ b. cond b (k ∷ own w m.thread past) (own w m.thread past)) e ∙ ap (λ (xs : List Mark). k ∷ xs) o.there;
    }
    by o false e = record {
      later = o.later;
      older = o.older;
      there = ap (λ b. cond b (k ∷ own w m.thread past) (own w m.thread past)) e ∙ o.there;
    }
own_mark w [] m i = absurd i

no_place : (later older : List Mark) (m : Mark) → [] ≡ later ++ (m ∷ older) → ⊥
no_place [] older m e = cc
no_place (k ∷ later) older m e = cc

-- it was started
pub is_started : (w : World) (past : List Mark) → AreThreads w past → (m : Mark) → In m past → m.thread < started past
is_started w past known m i = by (ltb m.thread (started past)) refl
  where
    by : (b : Bool) → ltb m.thread (started past) ≡ b → m.thread < started past
    by true e = ltb-true _ _ e
    by false e =
        let o = own_mark w past m i in
        absurd (no_place o.later o.older m (sym (known.silent m.thread (ltb-false _ _ e)) ∙ o.there))

module _ (w : World) (past : List Mark) (known : AreThreads w past) (m : Mark) (i : In m past) where
  pub answering : AnswersAt Split w.laid (beginning w past m.thread) (own w m.thread past) m
  answering =
      let o = own_mark w past m i in
      answered_at Split w.laid (beginning w past m.thread) (own w m.thread past) o.later o.older m o.there (known.go_on m.thread (is_started w past known m i))

  -- what the thread's own code wants
  pub own_wanted : IsOwn w.laid answering.side answering.want
  own_wanted = wants_are_own w.laid (beginning w past m.thread) (subst (Stands w.laid) (sym (begins_so w past m.thread)) tt) answering.older answering.side answering.want answering.to answering.wants
