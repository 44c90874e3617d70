-- The mark of an event, with numbers that it must have, is the step that its thread makes.
use Rattle.std.proofs.Common.{◌≡◌, true, ◌||◌, List, [], ◌∷◌, map, refl, sym, ap, ◌∙◌}
use Rattle.std.specs.Prelude.{is_some}
use Rattle.run_events.specs.declared.key.Key.{Key}
use Rattle.run_events.specs.declared.key.KeyMark.{KeyMark}
use Rattle.marks.specs.Marks.{EventKind, Mark}
use Rattle.marks.specs.Wants.{answer_to}
use Rattle.c_code.specs.MarkLists.{reply}
use Rattle.logical_clock.specs.Events.{is_among}
use Rattle.replay_runs.specs.Runs.{Link, OfThread, OfKey, has, is_listed, new_events, same_key}
use Rattle.replay_runs.specs.Rules.{SharedRules}
use Rattle.steps_above_stamps.specs.Stamps.{IsStamped}
use Rattle.steps_above_stamps.specs.declared.stamps.EventStamp.{EventStamp}
use Rattle.whole_runs.specs.World.{World, begin, interface}
use Rattle.whole_runs.specs.Sides.{seen}
use Rattle.whole_runs.specs.Steps.{Picked, IsMade}
use Rattle.recorder_events.specs.Making.{CanBe, event_mark, next_keys}

among_listed : (qs : List KeyMark) (k : Key) → is_among (map (λ (q : KeyMark). q.key) qs) k ≡ is_listed qs k
among_listed [] k = refl
among_listed (q ∷ qs) k = ap (λ b. same_key q.key k || b) (among_listed qs k)

module _ (w : World) (past : List Mark) (s : Picked w past) (kind : EventKind) (stamp : EventStamp) (can : CanBe w past s kind)
    (keys : map (λ (q : KeyMark). q.key) stamp.keys ≡ next_keys w s.thread past kind) where
  abbrev m : Mark
  m = event_mark w past s kind stamp

  replies : is_some (reply s.side s.want m) ≡ true
  unfolding reply answer_to
  replies = can.answers

  shared : (l : Link) → has m l ≡ true → SharedRules (interface w) (begin w) l (new_events l (seen past)) m
  shared (OfThread t) h = tt
  shared (OfKey k) h = can.shared k (ap (λ ks. is_among ks k) (sym keys) ∙ (among_listed stamp.keys k ∙ h))

  pub event_made : IsStamped (begin w) (seen past) m → IsMade w past s m
  event_made stamped = record {
    mark = record {
      of_thread = refl;
      index = refl;
      above = λ z. record {
        own = (keys, can.carries);
        index = stamped.index;
        steps = stamped.steps;
        tickets = stamped.tickets;
        shared = shared;
        rises = stamped.rises;
        least = stamped.least;
        bytes = can.bytes;
      };
    };
    replies = replies;
    agrees = can.agrees;
    passes = can.passes;
  }
