-- A Ret that comes next: without room for it the run ends; once it was recorded, threads and system alone must be told of it.
use Rattle.std.proofs.Common.{◌≡◌, ℕ, ◌≤◌, Bool, List, [], ◌++◌, length, map, Option, Some, None, refl, sym, ap, ◌∙◌, subst}
use Rattle.std.proofs.lemmas.List.{length-map}
use Rattle.run_events.specs.declared.key.Key.{Key}
use Rattle.run_events.specs.declared.key.KeyMark.{KeyMark}
use Rattle.run_events.specs.declared.event.Event.{Event as Logged}
use Rattle.marks.specs.declared.range.Range.{Range}
use Rattle.marks.specs.Marks.{Event, EventKind, Mark, Ret, released}
use Rattle.marks.specs.Wants.{Answer, answer_to, event_answer}
use Rattle.c_code.specs.MarkLists.{reply}
use Rattle.replay_runs.specs.Runs.{OfThread}
use Rattle.space_memory.specs.Releases.{committed_size}
use Rattle.space_memory_laws.specs.Returns.{CommitsAs, ShowUsed}
use Rattle.steps_above_interface.specs.State.{KeptState}
use Rattle.steps_above_interface.specs.Stands.{IsReturnOf, IsStateOf}
use Rattle.stub_meaning.specs.Meaning.{first_of}
use Rattle.steps_above_stamps.specs.declared.stamps.EventStamp.{EventStamp}
use Rattle.whole_runs.specs.declared.ending.Ending.{Ending}
use Rattle.whole_runs.specs.World.{World, interface}
use Rattle.whole_runs.specs.Sides.{events_by, seen}
use Rattle.whole_runs.specs.Steps.{IsMade, Picked}
use Rattle.whole_runs_laws.proofs.FaultsAbove.{events_seen}
use Rattle.recorder_memory.specs.declared.memory.Memory.{Memory}
use Rattle.recorder_memory.specs.Stands.{placed}
use Rattle.recorder_memory.specs.Returns.{IsNextReturn, MakesReturn}
use Rattle.recorder_threads.specs.Threads.{args_at}
use Rattle.recorder_state.specs.declared.state.RunState.{RunState}
use Rattle.recorder_state.specs.Ends.{IsEnded}
use Rattle.recorder_state.specs.Plain.{IsResultStep}
use Rattle.recorder_events.specs.Making.{CanBe, IsComing, IsRecorded, event_mark, next_keys}
use Rattle.recorder_events.specs.Room.{HasSizeOf, IsRoomOrEnd}
use Rattle.recorder_events.proofs.Few.{thread_few}
use Rattle.recorder_events.proofs.Made.{event_made}
use Rattle.recorder_events.proofs.Marked.{around_with}
use Rattle.recorder_events.proofs.Numbers.{numbers, have_keys, are_numbers}
use Rattle.recorder_events.proofs.Sized.{event_sized}
use Rattle.recorder_returns.specs.declared.returning.Returning.{Returning}
use Rattle.recorder_returns.specs.Bringing.{committing_of}
use Rattle.recorder_returns.specs.Coming.{IsReturning}
use Rattle.recorder_returns.specs.Recording.{CountsIfCached, IsRetNext}
use Rattle.recorder_returns.proofs.Coming.{can_be}
use Rattle.recorder_returns.proofs.Recorded.{keys_few}
use Rattle.recorder_returns.proofs.Kept.{commits_as, same_output, same_system_output}

event_reply : (w : World) (past : List Mark) (s : Picked w past) (k : EventKind) (stamp : EventStamp) (x : Answer) → event_answer s.want k ≡ Some x → reply s.side s.want (event_mark w past s k stamp) ≡ Some x
unfolding reply answer_to
event_reply w past s k stamp x e = e

module _ (w : World) (s : RunState) (t f v : ℕ) (x : Answer) (said : Returning) (ranges : List Range) (event : Logged) (n : IsRetNext w s t f v x said ranges event) (keys : List Key) (keys_are : keys ≡ said.keys.items) where
  abbrev pub r : IsReturning w s t f v x
  r = n.next

  abbrev past : List Mark
  past = r.past

  abbrev bs : List ℕ
  bs = args_at s.threads t

  abbrev pub ret : EventKind
  ret = Ret f bs v n.same n.up n.commit

  pub few : length keys ≤ 16
  few = subst (λ ks. length ks ≤ 16) (sym keys_are) (keys_few w s t f v x r said n.is_said)

  pub have_keys_of : next_keys w r.step.thread past ret ≡ keys
  have_keys_of = n.is_said.keys r.step.thread past n.same n.up n.commit ∙ sym keys_are

  pub can : CanBe w past r.step ret
  can = can_be w s t f v x r n.up n.commit n.brings n.same n.repeats

  -- the numbers that it would have
  abbrev stamp : EventStamp
  stamp = numbers (placed w) (seen past) s.stamps r.step.thread (next_keys w r.step.thread past ret)

  have : map (λ (q : KeyMark). q.key) stamp.keys ≡ next_keys w r.step.thread past ret
  have = have_keys (placed w) (seen past) s.stamps r.step.thread (next_keys w r.step.thread past ret)

  would_be : IsMade w past r.step (event_mark w past r.step ret stamp)
  would_be = event_made w past r.step ret stamp can have
      (are_numbers (placed w) (seen past) s.stamps r.step.thread (next_keys w r.step.thread past ret) ret _
      (thread_few w r.fit past r.step r.step.thread refl) (ap length (events_seen w past r.follows (OfThread r.step.thread))) r.around.shown.stamps)

  is_sized : (q : EventStamp) → map (λ (k : KeyMark). k.key) q.keys ≡ next_keys w r.step.thread past ret → HasSizeOf event (length keys) (event_mark w past r.step ret q)
  is_sized q e = event_sized w past r.step ret q (length keys) (sym (length-map q.keys (λ (k : KeyMark). k.key)) ∙ ap length (e ∙ have_keys_of)) event n.event_is

  -- without room for it the run ends
  pub ends : (end : Ending) → IsRoomOrEnd s.book event (length keys) (Some end) → IsEnded w s end
  ends end full = record {
    fit = r.fit;
    past = past;
    follows = r.follows;
    last = [];
    ends = full w past r.step (event_mark w past r.step ret stamp) r.around.shown.book (is_sized stamp have) (record { made = would_be; event = refl });
    spaces = r.answered.above.spaces;
    shown = r.around.shown;
  }

  abbrev ret_mark : EventStamp → Mark
  ret_mark q = event_mark w past r.step ret q

  abbrev ret_event : EventStamp → Event
  ret_event q = record { kind = ret; steps = q.steps; keys = q.keys; clock = q.clock }

  module _ (memory : Memory) where
    abbrev pub coming_so : IsComing w (record s { memory = memory }) t keys event
    coming_so = record {
      fit = r.fit;
      past = past;
      follows = r.follows;
      around = around_with w past s memory r.around;
      step = r.step;
      thread = r.thread;
      kind = ret;
      can_be = can;
      keys_are = have_keys_of;
      event_is = n.event_is;
    }

    -- it was made: what is kept of functions was told of it, threads and system were not
    module _ (new : RunState) (q : IsRecorded w past r.step ret keys (record s { memory = memory }) new) where
      mark_of : (index : ℕ) → index ≡ events_by w r.step.thread past → IsReturnOf t f index (ret_mark q.stamp)
      mark_of index is = record {
        of_thread = r.thread;
        index_is = sym is;
        event = ret_event q.stamp;
        act = refl;
        args = bs;
        result = v;
        same = n.same;
        outs = n.up;
        commit = n.commit;
        kind = refl;
      }

      next_return : (used : List ℕ) (committing : Option (ℕ × ℕ)) → used ≡ said.done.used → committing ≡ committing_of (first_of said.done.commits) → IsNextReturn w past s.memory t used committing ranges keys (ret_mark q.stamp)
      next_return used committing used_is committing_is = record {
        func = f;
        args = bs;
        result = v;
        same = n.same;
        up = n.up;
        commit = n.commit;
        next = record {
          fit = r.fit;
          follows = r.follows;
          step = r.step;
          made = q.made;
          thread = r.thread;
          event = ret_event q.stamp;
          act_is = refl;
          kind_is = refl;
          keys_are = q.keys_are;
        };
        answer = r.answer;
        answered = r.answered;
        outs_are = n.brings.outs_are;
        ranges_are = n.ranges_are;
        commits = subst (λ o. CommitsAs (ret_mark q.stamp) s.memory.above.spaces.held o n.commit) (sym so)
            (commits_as s.memory.above.spaces.held (ret_mark q.stamp) (ret_event q.stamp) refl ((interface w).keys_at_return f bs) n.commit ((interface w).commits f bs v) (q.keys_are ∙ sym have_keys_of) n.brings.commit_is);
        shows = subst (λ o. ShowUsed s.memory.above.spaces.bytes (n.up ++ released n.commit) (used ++ committed_size o)) (sym so)
            (subst (λ us. ShowUsed s.memory.above.spaces.bytes (n.up ++ released n.commit) (us ++ committed_size (committing_of ((interface w).commits f bs v)))) (sym (used_is ∙ n.is_said.used)) n.brings.shows);
      }
        where
          so : committing ≡ committing_of ((interface w).commits f bs v)
          so = committing_is ∙ ap committing_of n.is_said.commit

      pub made_so : (used : List ℕ) (committing : Option (ℕ × ℕ)) (index : ℕ) (cached : Bool) (state : KeptState) → used ≡ said.done.used → committing ≡ committing_of (first_of said.done.commits) → index ≡ events_by w r.step.thread past → cached ≡ said.done.is_cached
          → IsRoomOrEnd s.book event (length keys) None → MakesReturn s.memory t used committing ranges keys memory → CountsIfCached cached t f index new.interface state → length state.registered ≡ length new.interface.registered
          → IsResultStep w (record new { interface = state }) t f v x
      made_so used committing index cached state used_is committing_is index_so cached_is room makes counts count =
          subst (λ z. IsResultStep w z t f v x) (sym (ap (λ (z : RunState). record z { interface = state }) q.rest)) (record {
            marked = record {
              fit = r.fit;
              past = past;
              follows = r.follows;
              steps = r.steps;
              step = r.step;
              thread = r.thread;
              mark = ret_mark q.stamp;
              made = q.made;
              room = room w past (ret_mark q.stamp) r.around.shown.book (is_sized q.stamp (q.keys_are ∙ sym have_keys_of));
              others = record {
                memory = makes w past (ret_mark q.stamp) (next_return used committing used_is committing_is);
                stamps = q.stamps;
                book = q.book;
                prepared = r.around.prepared;
                output = r.around.shown.output ∙ sym (same_output w past r.step q.stamp f bs v n.same n.up n.commit);
                system_output = r.around.shown.system_output ∙ sym (same_system_output w past r.step q.stamp f bs v n.same n.up n.commit);
                interface = counts (interface w) (placed w) (seen past) (ret_mark q.stamp) (cached_is ∙ n.is_said.cached) (mark_of index index_so)
                    (subst (IsStateOf (interface w) (placed w) (seen past)) (sym (ap (λ (z : RunState). z.interface) q.rest)) r.around.interface);
                functions = count ∙ (ap (λ (z : RunState). length z.interface.registered) q.rest ∙ r.around.functions);
              };
            };
            threads = r.around.shown.threads;
            system = r.around.system;
            outcome_is = refl;
            answers = event_reply w past r.step ret q.stamp x (r.wanted.answers n.same n.up n.commit);
          })
