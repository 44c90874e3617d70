-- What a mark adds to the looks back over each side.
use Rattle.std.proofs.Common.{◌≡◌, ℕ, ◌<◌, Bool, true, false, cond, eqb, List, [], ◌∷◌, length, inl, inr, refl, ap, sym, ◌∙◌, subst, arith}
use Rattle.std.proofs.lemmas.Bool.{cases_eq, cond-true, cond-false, eq-eqb, ne_eqb}
use Rattle.marks.specs.declared.side.Side.{Side}
use Rattle.marks.specs.declared.side.Side.TheVariants.{Replay, System}
use Rattle.marks.specs.Places.{thread_count}
use Rattle.marks.specs.declared.range.Range.{Range}
use Rattle.marks.specs.Marks.{Mark}
use Rattle.marks.specs.Opens.{frames_after, frames}
use Rattle.c_code.specs.MarkLists.{same_side}
use Rattle.c_code.specs.Opens.{system_part}
use Rattle.replay_runs.specs.Runs.{marks_of}
use Rattle.space_memory.specs.Cells.{is_held}
use Rattle.space_memory.specs.Spaces.{SpaceState}
use Rattle.space_memory_access.specs.Held.{HeldState}
use Rattle.space_memory.specs.StackFrames.{StackState, stack_of}
use Rattle.space_memory.specs.Sides.{SideState, with_thread}
use Rattle.space_memory_laws.specs.Shown.{innermost_last}
use Rattle.space_memory_laws.proofs.Stacks.{same_stack, other_stack}
use Rattle.whole_runs.specs.World.{World, begin}
use Rattle.whole_runs.specs.Sides.{seen, own, frames_on}
use Rattle.whole_runs_memory.specs.Stands.{stack_below, HoldsNoConstant}

stay : (b : Bool) (x y : List Range) → x ≡ y → cond b x y ≡ y
stay true x y e = e
stay false x y e = refl

module _ (w : World) (m : Mark) (past : List Mark) where
  pub seen_below : m.side ≡ System → seen (m ∷ past) ≡ seen past
  seen_below e = ap (λ d. cond (same_side d Replay) (m ∷ seen past) (seen past)) e

  pub seen_above : m.side ≡ Replay → seen (m ∷ past) ≡ m ∷ seen past
  seen_above e = ap (λ d. cond (same_side d Replay) (m ∷ seen past) (seen past)) e

  -- a mark below the cut changes the frames of its thread there
  pub frames_more : m.side ≡ System → (t : ℕ) → frames_on w System t (m ∷ past) ≡ cond (eqb m.thread t) (frames_after m.act (frames_on w System t past)) (frames_on w System t past)
  frames_more e t = elim (eqb m.thread t) as (λ b. frames (system_part (cond b (m ∷ own w t past) (own w t past))) ≡ cond b (frames_after m.act (frames_on w System t past)) (frames_on w System t past)) [
    | true ↦ ap (λ d. frames (cond (same_side d System) (m ∷ system_part (own w t past)) (system_part (own w t past)))) e
    | false ↦ refl
  ]

  pub frames_own : m.side ≡ System → frames_on w System m.thread (m ∷ past) ≡ frames_after m.act (frames_on w System m.thread past)
  frames_own e = frames_more e m.thread ∙ cond-true (eqb m.thread m.thread) _ (frames_on w System m.thread past) (eq-eqb m.thread m.thread refl)

  pub frames_other : m.side ≡ System → (t : ℕ) → (m.thread ≡ t → ⊥) → frames_on w System t (m ∷ past) ≡ frames_on w System t past
  frames_other e t ne = frames_more e t ∙ cond-false (eqb m.thread t) _ (frames_on w System t past) (ne_eqb m.thread t ne)

  -- one above it changes none there
  pub frames_above : m.side ≡ Replay → (t : ℕ) → frames_on w System t (m ∷ past) ≡ frames_on w System t past
  frames_above e t = elim (eqb m.thread t) as (λ b. frames (system_part (cond b (m ∷ own w t past) (own w t past))) ≡ frames_on w System t past) [
    | true ↦ ap (λ d. frames (cond (same_side d System) (m ∷ system_part (own w t past)) (system_part (own w t past)))) e
    | false ↦ refl
  ]

  -- nor one of either side that is neither Enter nor Leave
  pub frames_still : ((fs : List Range) → frames_after m.act fs ≡ fs) → (t : ℕ) → frames_on w System t (m ∷ past) ≡ frames_on w System t past
  frames_still still t = go m.side refl
    where
      go : (d : Side) → m.side ≡ d → frames_on w System t (m ∷ past) ≡ frames_on w System t past
      go Replay e = frames_above e t
      go System e = frames_more e t ∙ stay (eqb m.thread t) _ (frames_on w System t past) (still (frames_on w System t past))

-- a thread's marks that a replay sees are those of what it sees
push_marks : (w : World) (t : ℕ) (b : Bool) (m : Mark) (past : List Mark) → marks_of (begin w) t (cond b (m ∷ past) past) ≡ cond b
    (cond (eqb m.thread t) (m ∷ marks_of (begin w) t past) (marks_of (begin w) t past)) (marks_of (begin w) t past)
push_marks w t true m past = refl
push_marks w t false m past = refl

push_seen : (b : Bool) (m : Mark) (past : List Mark) → seen (cond b (m ∷ past) past) ≡ cond b (cond (same_side m.side Replay) (m ∷ seen past) (seen past)) (seen past)
push_seen true m past = refl
push_seen false m past = refl

swapped : (b c : Bool) (m : Mark) (past : List Mark) → cond b (cond c (m ∷ past) past) past ≡ cond c (cond b (m ∷ past) past) past
swapped true true m past = refl
swapped true false m past = refl
swapped false true m past = refl
swapped false false m past = refl

pub own_seen : (w : World) (t : ℕ) (past : List Mark) → marks_of (begin w) t (seen past) ≡ seen (own w t past)
own_seen w t [] = refl
own_seen w t (m ∷ past) =
    push_marks w t (same_side m.side Replay) m (seen past)
    ∙ ap (λ q. cond (same_side m.side Replay) (cond (eqb m.thread t) (m ∷ q) q) q) (own_seen w t past)
    ∙ swapped (same_side m.side Replay) (eqb m.thread t) m (seen (own w t past))
    ∙ sym (push_seen (eqb m.thread t) m (own w t past))

-- the stacks below the cut after the frames of one thread became others
pub restacked : (w : World) (past : List Mark) (m : Mark) (side : SideState) (fs : List Range) → length side.stacks ≡ thread_count →
    m.thread < thread_count → m.side ≡ System →
    ((t : ℕ) → t < thread_count → stack_of side.stacks t ≡ stack_below t (frames_on w System t past)) →
    frames_on w System m.thread (m ∷ past) ≡ fs → (t : ℕ) → t < thread_count →
    stack_of (with_thread side m.thread (innermost_last fs)).stacks t ≡ stack_below t (frames_on w System t (m ∷ past))
restacked w past m side fs count lt below were is t lt' = elim (cases_eq m.thread t) [
  | inl e ↦ subst (λ v. stack_of (with_thread side m.thread (innermost_last fs)).stacks v ≡ stack_below v (frames_on w System v (m ∷ past))) e
      (same_stack side.stacks m.thread (innermost_last fs) (omega (arith, lt, count))
      ∙ ap (λ (k : StackState). let q : StackState = record { base = k.base; frames = innermost_last fs } in q) (were m.thread lt)
      ∙ ap (stack_below m.thread) (sym is))
  | inr ne ↦ other_stack side.stacks m.thread t (innermost_last fs) ne ∙ were t lt' ∙ ap (stack_below t) (sym (frames_other w m past below t ne))
]

-- what holds nothing else holds no constant
pub held_same : (old new : SpaceState) → new.held ≡ old.held → HoldsNoConstant old → HoldsNoConstant new
held_same old new held none x is = ap (λ (k : HeldState). is_held k.regions x) held ∙ none x is
