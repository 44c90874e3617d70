-- An event with its numbers is recorded.
use Rattle.std.proofs.Common.{◌≡◌, ℕ, ◌<◌, ◌≤◌, List, length, map, refl, sym, ap, ◌∙◌, subst}
use Rattle.std.proofs.lemmas.List.{length-map}
use Rattle.run_events.specs.declared.event.Event.{Event as Logged}
use Rattle.run_events.specs.declared.event.Record.{Record}
use Rattle.run_events.specs.declared.key.Key.{Key}
use Rattle.run_events.specs.declared.key.KeyMark.{KeyMark}
use Rattle.marks.specs.Places.{thread_count}
use Rattle.log_codec.specs.LogText.{IsBody}
use Rattle.replay_runs.specs.Runs.{OfThread, events_with}
use Rattle.steps_above_stamps.specs.Stamps.{CanBeRecorded, CountsEvent, IsNextEvent, IsStampAfter}
use Rattle.steps_above_stamps.specs.declared.stamps.EventStamp.{EventStamp}
use Rattle.steps_above_stamps.proofs.Distinct.{are_distinct}
use Rattle.logical_clock.specs.Events.{AreDistinct}
use Rattle.replay_runs.specs.Keys.{keys_for}
use Rattle.whole_runs.specs.World.{World, begin, interface}
use Rattle.whole_runs.specs.Sides.{seen}
use Rattle.whole_runs.specs.Records.{full_record}
use Rattle.whole_runs_laws.proofs.FaultsAbove.{events_seen}
use Rattle.recorder_book.specs.Sizes.{IsInFull, in_full}
use Rattle.recorder_book.specs.Book.{Adds}
use Rattle.recorder_memory.specs.Stands.{placed}
use Rattle.recorder_state.specs.declared.state.RunState.{RunState}
use Rattle.recorder_events.specs.Making.{IsComing, IsRecorded, event_mark, own_above}
use Rattle.recorder_events.proofs.Made.{event_made}

abbrev pub entry_of : (thread : ℕ) → EventStamp → Logged → Record
entry_of t s e = record { thread = t; steps = s.steps; clock = s.clock; keys = s.keys; event = e }

module _ (w : World) (s : RunState) (t : ℕ) (keys : List Key) (event : Logged) (c : IsComing w s t keys event) where
  pub distinct : AreDistinct keys
  distinct = subst AreDistinct c.keys_are (are_distinct (keys_for (interface w) c.step.thread (own_above w c.step.thread c.past) c.kind))

  module _ (stamp : EventStamp) (have : map (λ (q : KeyMark). q.key) stamp.keys ≡ keys) where
    count : length stamp.keys ≡ length keys
    count = sym (length-map stamp.keys (λ (q : KeyMark). q.key)) ∙ ap length have

    pub in_full_form : t < thread_count → CanBeRecorded stamp → length keys ≤ 16 → IsBody (in_full event) → IsInFull (record { thread = t; steps = stamp.steps; clock = stamp.clock; keys = stamp.keys; event = event })
    in_full_form few ranges some body = record {
      thread = few;
      steps = ranges.steps;
      clock = ranges.clock;
      key_count = subst (λ n. n ≤ 16) (sym count) some;
      keys = ranges.keys;
      body = body;
    }

    next_event : IsNextEvent (placed w) (seen c.past) t stamp (event_mark w c.past c.step c.kind stamp)
    next_event = record {
      of_thread = c.thread;
      index = ap length (events_seen w c.past c.follows (OfThread c.step.thread)) ∙ ap (λ u. length (events_with (begin w) (OfThread u) (seen c.past))) c.thread;
      kind = c.kind;
      act = refl;
    }

    -- the stamp of the new event, and the stamps after it
    pub event_recorded : (new : RunState) → IsStampAfter s.stamps t stamp → CountsEvent t stamp s.stamps new.stamps → Adds (entry_of t stamp event) s.book new.book → new ≡ record s { stamps = new.stamps; book = new.book } → IsRecorded w c.past c.step c.kind keys s new
    event_recorded new after counts adds rest = record {
      stamp = stamp;
      made = event_made w c.past c.step c.kind stamp c.can_be (have ∙ sym c.keys_are) (after (placed w) (seen c.past) (event_mark w c.past c.step c.kind stamp) c.around.shown.stamps next_event);
      keys_are = have;
      stamps = counts (placed w) (seen c.past) (event_mark w c.past c.step c.kind stamp) c.around.shown.stamps next_event;
      book = adds w c.past (event_mark w c.past c.step c.kind stamp) refl entry_is c.around.shown.book;
      rest = rest;
    }
      where
        entry_is : entry_of t stamp event ≡ full_record (event_mark w c.past c.step c.kind stamp)
        entry_is = sym (λ i. record { thread = c.thread i; steps = stamp.steps; clock = stamp.clock; keys = stamp.keys; event = c.event_is i })
