-- The mark of an event that the next step can be, with the numbers that it must have, is the mark of the step.
use Rattle.std.proofs.Common.{◌≡◌, ℕ, suc, ◌<◌, cond, List, [], ◌∷◌, length, map, refl, ap, sym, ◌∙◌, subst}
use Rattle.run_events.specs.declared.key.Class.TheVariants.{Thread}
use Rattle.run_events.specs.declared.key.KeyMark.{KeyMark}
use Rattle.marks.specs.declared.side.Side.TheVariants.{Replay}
use Rattle.marks.specs.Marks.{EventKind, Call, Ret, Up, UpRet, Alloc, Free, Stop, Mark}
use Rattle.stub_meaning.specs.Calls.{Done}
use Rattle.replay_runs.specs.Runs.{Link, OfThread, clock_of, events_with, last_clock, new_events, steps_since}
use Rattle.replay_runs.specs.Interface.{Interface}
use Rattle.replay_runs.specs.Keys.{is_last, key, keys_for, sorted_keys}
use Rattle.replay_runs.specs.Threads.{open_ups, tail}
use Rattle.space_memory_laws.specs.Starts.{placed_byte}
use Rattle.steps_above_stamps.specs.Stamps.{IsStamped, event_with}
use Rattle.whole_runs.specs.World.{World, begin, interface}
use Rattle.whole_runs.specs.Sides.{events_by, seen}
use Rattle.whole_runs.specs.Steps.{Picked}
use Rattle.whole_runs_laws.proofs.FaultsAbove.{events_seen}
use Rattle.recorder_events.specs.Making.{CanBe, event_mark, next_keys, own_above}
use Rattle.recorder_events.proofs.Made.{event_made}
use Rattle.reference_recorder_marks.specs.declared.mark.Mark.{Mark as Told}
use Rattle.reference_recorder_marks.specs.Marks.{past}
use Rattle.reference_recorder_origins.proofs.Parts.{new_seen, new_without}
use Rattle.reference_recorder_origins.proofs.Memory.{steps_mine, ups_mine}
use Rattle.reference_recorder_calls.specs.Said.{IsSaid}
use Rattle.reference_recorder_threads.specs.Telling.{IsPast}
use Rattle.reference_recorder_rules.specs.Steps.{IsMadeAs, IsShownAs}
use Rattle.reference_recorder_events.specs.Events.{IsEventOf}

-- ---- what marks say of a run that comes to them

module _ (w : World) (marks : List Told) (p : IsPast w marks) where
  pub links : (l : Link) → new_events l (past marks) ≡ new_events l p.run
  links l = ap (new_events l) (sym p.same) ∙ new_without l p.run

  pub links_seen : (l : Link) → new_events l (seen (past marks)) ≡ new_events l (seen p.run)
  links_seen l = ap (λ ms. new_events l (seen ms)) (sym p.same) ∙ new_seen l p.run

  module _ (t : ℕ) where
    pub steps_are : steps_since (own_above w t (past marks)) ≡ steps_since (own_above w t p.run)
    steps_are = ap (λ ms. steps_since (own_above w t ms)) (sym p.same) ∙ steps_mine w t p.run

    pub ups_are : open_ups (own_above w t (past marks)) ≡ open_ups (own_above w t p.run)
    ups_are = ap (λ ms. open_ups (own_above w t ms)) (sym p.same) ∙ ups_mine w t p.run

    keys_are : (i : Interface) (kind : EventKind) → keys_for i t (own_above w t (past marks)) kind ≡ keys_for i t (own_above w t p.run) kind
    keys_are i (Call f args ins outs prepared) = refl
    keys_are i (Ret f args v same outs commit) = refl
    keys_are i (Up f args) = refl
    keys_are i (UpRet f v) = ap (λ us. cond (is_last (tail us)) (key Thread t ∷ []) []) ups_are
    keys_are i (Alloc at size) = refl
    keys_are i (Free at size) = refl
    keys_are i (Stop fault) = refl

  -- numbers after the marks are those after the run
  pub stamped_so : (m : Mark) → IsStamped (begin w) (seen (past marks)) m → IsStamped (begin w) (seen p.run) m
  stamped_so m st = record {
    index = st.index ∙ ap length (links_seen (OfThread m.thread));
    steps = λ e. st.steps e ∙ steps_are m.thread;
    tickets = λ l h. st.tickets l h ∙ ap length (links_seen l);
    rises = λ l h. subst (λ es. last_clock es < clock_of m.act) (links_seen l) (st.rises l h);
    least = λ e. let x = st.least e in (x.0, x.1, x.2 ∙ ap (λ es. suc (last_clock es)) (links_seen x.0));
  }

-- ---- the next event

module _ (w : World) (marks : List Told) (p : IsPast w marks) (s : Picked w p.run) (t : ℕ) (thread : s.thread ≡ t) (kind : EventKind) (done : Done) (marked : Told)
    (n : IsEventOf (past marks) t kind done marked) where
  abbrev m : Mark
  m = event_mark w p.run s kind n.stamp

  index_is : events_by w s.thread p.run ≡ length (new_events (OfThread t) (past marks))
  index_is = ap (λ u. events_by w u p.run) thread ∙ ap length (sym (links w marks p (OfThread t)))

  index_seen : events_by w s.thread p.run ≡ length (events_with (begin w) (OfThread t) (seen (past marks)))
  index_seen =
      ap (λ u. events_by w u p.run) thread
      ∙ ap length (events_seen w p.run p.follows (OfThread t) ∙ sym (links_seen w marks p (OfThread t)))

  is_shown : IsShownAs m marked
  is_shown =
      ap (λ (u : ℕ). record { thread = u; side = Replay; index = events_by w s.thread p.run; act = event_with kind n.stamp }) thread
      ∙ (ap (λ (i : ℕ). record { thread = t; side = Replay; index = i; act = event_with kind n.stamp }) index_is ∙ sym n.mark)

  stamped : IsStamped (begin w) (seen p.run) m
  stamped = stamped_so w marks p m (n.numbers (placed_byte w.laid.placed) m (record { of_thread = thread; index = index_seen; kind = kind; act = refl }))

  have_keys : IsSaid (interface w) done kind → map (λ (q : KeyMark). q.key) n.stamp.keys ≡ next_keys w s.thread p.run kind
  have_keys said =
      n.keys (interface w) (placed_byte w.laid.placed) said
      ∙ (ap sorted_keys (keys_are w marks p t (interface w) kind) ∙ ap (λ u. next_keys w u p.run kind) (sym thread))

  pub event_made_as : CanBe w p.run s kind → IsSaid (interface w) done kind → IsMadeAs w p.run s marked
  event_made_as can said = record { mark = m; same = is_shown; made = event_made w p.run s kind n.stamp can (have_keys said) stamped }
