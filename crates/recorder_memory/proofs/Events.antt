-- Events above the cut: what a replay sees of them, and what memory stands for then.
use Rattle.std.proofs.Common.{◌≡◌, inl, inr, ℕ, Bool, true, false, cond, List, [], ◌∷◌, length, None, is_some, refl, sym, ap, ◌∙◌, subst}
use Rattle.std.proofs.lemmas.Bool.{true≢false}
use Rattle.run_events.specs.declared.key.Class.TheVariants.{Pool}
use Rattle.run_events.specs.declared.key.Key.{Key}
use Rattle.marks.specs.declared.side.Side.{Side}
use Rattle.marks.specs.declared.side.Side.TheVariants.{Replay}
use Rattle.marks.specs.Marks.{EventKind, Event, Alloc, Free, Made, Mark, side_of}
use Rattle.marks.specs.Wants.{Want, answer_to}
use Rattle.c_code.specs.MarkLists.{reply, same_side}
use Rattle.replay_runs.specs.Runs.{OfThread, OfKey, Allowed, events_with, has, is_listed, keys_of}
use Rattle.replay_runs.specs.Keys.{key}
use Rattle.replay_runs.specs.Rules.{replay_rules}
use Rattle.space_memory_laws.specs.Marks.{IsQuietEvent}
use Rattle.steps_above_memory.specs.Above.{StandsForAbove}
use Rattle.steps_above_memory.specs.Events as above
use Rattle.steps_above_memory.specs.Spaces.{IsGiven, IsFreed}
use Rattle.steps_above_memory.proofs.Happening.{has_key}
use Rattle.whole_runs.specs.World.{World, begin, program_of}
use Rattle.whole_runs.specs.Sides.{seen}
use Rattle.whole_runs_laws.proofs.OneStep.{same_side_true}
use Rattle.whole_runs_memory.specs.Plain.{IsPlain}
use Rattle.whole_runs_memory.specs.Stands.{StandsForWhole}
use Rattle.whole_runs_memory.proofs.Above as whole
use Rattle.whole_runs_memory.proofs.Plain.{plain}
use Rattle.whole_runs_memory.proofs.Seen.{seen_above}
use Rattle.whole_runs_seen.proofs.Calm.{calm_run}
use Rattle.whole_runs_seen.proofs.Step as seen_step
use Rattle.whole_runs_seen.proofs.Threads.{threads_known}
use Rattle.recorder_memory.specs.declared.memory.Memory.{Memory}
use Rattle.recorder_memory.specs.Stands.{placed, StandsForSeen}
use Rattle.recorder_memory.specs.Events.{IsNextEvent, Makes}

-- what answers stands on the side of its act
same_side_reply : (side : Side) (want : Want) (m : Mark) → is_some (reply side want m) ≡ true → same_side (side_of side m.act) m.side ≡ true
unfolding reply
same_side_reply side want m e = go (same_side (side_of side m.act) m.side) e
  where
    go : (b : Bool) → is_some (cond b (answer_to want m.act) None) ≡ true → b ≡ true
    go true z = refl
    go false z = absurd (true≢false (sym z))

module _ (w : World) (past : List Mark) (t : ℕ) (keys : List Key) (kind : EventKind) (m : Mark) (h : IsNextEvent w past t keys kind m) where
  -- an event stands above the cut
  pub stands_above : m.side ≡ Replay
  stands_above = sym (same_side_true Replay m.side (ap (λ a. same_side (side_of h.step.side a) m.side) (sym h.act_is) ∙ same_side_reply h.step.side h.step.want m h.made.replies))

  pub allowed : Allowed (replay_rules (program_of w) (begin w)) (begin w) (seen past) m
  allowed = seen_step.allowed w h.fit past h.follows (threads_known w h.fit.code past h.follows) (calm_run w h.fit past h.follows) h.step m h.made stands_above

  abbrev pub made_mark : Mark
  made_mark = above.next_event (placed w) (seen past) t kind h.event.steps h.event.keys h.event.clock

  -- it is the event that memory above the cut is told
  pub mark_is : m ≡ made_mark
  mark_is =
      ap (λ s. let q : Mark = record { thread = m.thread; side = s; index = m.index; act = m.act } in q) stands_above
      ∙ ap (λ n. let q : Mark = record { thread = m.thread; side = Replay; index = n; act = m.act } in q) allowed.index
      ∙ ap (λ u. let q : Mark = record { thread = u; side = Replay; index = length (events_with (begin w) (OfThread u) (seen past)); act = m.act } in q) h.thread
      ∙ ap (λ a. let q : Mark = record { thread = t; side = Replay; index = length (events_with (begin w) (OfThread t) (seen past)); act = a } in q) h.act_is
      ∙ ap (λ k. let e : Event = record { kind = k; steps = h.event.steps; keys = h.event.keys; clock = h.event.clock } in let q : Mark =
      record {
        thread = t;
        side = Replay;
        index = length (events_with (begin w) (OfThread t) (seen past));
        act =
            Made e;
      } in q) h.kind_is

  -- and memory above the cut stands for the run with it
  pub event_seen : (old new : Memory) → StandsForSeen w past old → above.MakesEvent old.above t keys kind new.above → StandsForAbove (program_of w) (placed w) (seen (m ∷ past)) new.above
  event_seen old new stands makes =
      subst (λ ps. StandsForAbove (program_of w) (placed w) ps new.above) (sym (seen_above w m past stands_above))
      (subst (λ q. StandsForAbove (program_of w) (placed w) (q ∷ seen past) new.above) (sym mark_is)
      (makes (program_of w) (placed w) (seen past) h.event.steps h.event.clock h.event.keys stands h.keys_are (subst (Allowed (replay_rules (program_of w) (begin w)) (begin w) (seen past)) mark_is allowed)))

module _ (old new : Memory) (t : ℕ) where
  pub quiet_made : (keys : List Key) (kind : EventKind) → IsQuietEvent kind → above.MakesEvent old.above t keys kind new.above → new.above.spaces ≡ old.above.spaces → Makes old t keys kind new
  quiet_made keys kind quiet makes same w past m stands h = record {
    whole = subst (StandsForWhole w (m ∷ past)) (sym same) (plain w past old.above.spaces m stands.whole (subst IsPlain (sym h.act_is) (subst IsQuietEvent (sym h.kind_is) quiet)));
    above = event_seen w past t keys kind m h old new stands.above makes;
  }

  -- the key of the pool
  pool_keyed : (kind : EventKind) (w : World) (past : List Mark) (m : Mark) → IsNextEvent w past t (key Pool 0 ∷ []) kind m → has m (OfKey (key Pool 0)) ≡ true
  pool_keyed kind w past m h = ap (λ a. is_listed (keys_of a) (key Pool 0)) h.act_is ∙ has_key h.event.keys h.keys_are

  pub alloc_made : (size addr : ℕ) → above.MakesEvent old.above t (key Pool 0 ∷ []) (Alloc addr size) new.above →
      IsGiven old.above.spaces new.above.spaces size addr → Makes old t (key Pool 0 ∷ []) (Alloc addr size) new
  alloc_made size addr makes given w past m stands h = record {
    whole = go given;
    above = event_seen w past t (key Pool 0 ∷ []) (Alloc addr size) m h old new stands.above makes;
  }
    where
      side : m.side ≡ Replay
      side = stands_above w past t (key Pool 0 ∷ []) (Alloc addr size) m h

      go : IsGiven old.above.spaces new.above.spaces size addr → StandsForWhole w (m ∷ past) new.above.spaces
      go (inl g) = whole.allocs w past old.above.spaces new.above.spaces m h.event size addr stands.whole side g h.act_is h.kind_is (pool_keyed (Alloc addr size) w past m h)
      go (inr g) = subst (StandsForWhole w (m ∷ past)) (sym g.same) (whole.refused_allocs w past old.above.spaces m h.event size stands.whole side g.none h.act_is (h.kind_is ∙ ap (λ a. Alloc a size) g.addr_is))

  pub free_made : (addr size : ℕ) → above.MakesEvent old.above t (key Pool 0 ∷ []) (Free addr size) new.above →
      IsFreed old.above.spaces new.above.spaces addr size → Makes old t (key Pool 0 ∷ []) (Free addr size) new
  free_made addr size makes freed w past m stands h = record {
    whole = go freed;
    above = event_seen w past t (key Pool 0 ∷ []) (Free addr size) m h old new stands.above makes;
  }
    where
      side : m.side ≡ Replay
      side = stands_above w past t (key Pool 0 ∷ []) (Free addr size) m h

      go : IsFreed old.above.spaces new.above.spaces addr size → StandsForWhole w (m ∷ past) new.above.spaces
      go (inl g) = whole.frees w past old.above.spaces new.above.spaces m h.event addr size stands.whole side g.back g.free h.act_is h.kind_is (pool_keyed (Free addr size) w past m h)
      go (inr g) = subst (StandsForWhole w (m ∷ past)) (sym g.same) (whole.frees_of_null w past old.above.spaces m h.event stands.whole side h.act_is (h.kind_is ∙ (ap (λ a. Free a size) g.addr_is ∙ ap (Free 0) g.size_is)))
