-- Marks above the cut that are tried out: whether they have the numbers, keys and values that they must have.
use Rattle.std.proofs.Common.{◌≡◌, ℕ, suc, Bool, true, false, ◌&&◌, ◌||◌, not, eqb, ltb, List, length, Option, Some, None, sym, ap, eqb-true}
use Rattle.std.proofs.lemmas.Bool.{ltb-true, and_parts, true≢false}
use Rattle.marks.specs.Ranges.{byte_at}
use Rattle.marks.specs.Marks.{Mark, is_event}
use Rattle.marks.specs.Wants.{Want}
use Rattle.replay_runs.specs.Runs.{OfThread, ticket, clock_of, marks_of, events_with, new_events, byte, last_clock, steps_since, steps_of, Allowed}
use Rattle.replay_runs_examples.proofs.Bytes.{all_from, all_from_true, asks, asks_true}
use Rattle.replay_runs_examples.proofs.Decide.{carries, carries_true, has_keys, has_keys_true, all_links, all_links_true, some_link, some_link_true, shared, shared_true, if_so}
use Rattle.whole_runs.specs.World.{World, begin, interface, program_of}
use Rattle.whole_runs.specs.Memory.{Has}
use Rattle.whole_runs.specs.Steps.{rules_above}
use Rattle.whole_runs_examples.proofs.Tried.{Tried}

-- the past is that above the cut
module _ (w : World) (past : List Mark) (want : Want) (m : Mark) where
  abbrev mine : List Mark
  mine = marks_of (begin w) m.thread past

  abbrev pub is_allowed : Bool
  is_allowed =
      has_keys (program_of w) (begin w) m.thread mine m.act
      && (carries (program_of w) (begin w) m.thread mine want m.act
      && (eqb m.index (length (events_with (begin w) (OfThread m.thread) past))
      && ((not (is_event m.act) || eqb (steps_of m.act) (steps_since mine))
      && (all_links (program_of w) (begin w) m (λ l. eqb (ticket m l) (length (events_with (begin w) l past)))
      && (all_links (program_of w) (begin w) m (λ l. shared (program_of w) (begin w) l (new_events l past) m)
      && (all_links (program_of w) (begin w) m (λ l. ltb (last_clock (events_with (begin w) l past)) (clock_of m.act))
      && ((not (is_event m.act) || some_link (program_of w) (begin w) m (λ l. eqb (clock_of m.act) (suc (last_clock (events_with (begin w) l past)))))
      && asks m.act (λ x. byte (begin w) x past))))))))

  pub allowed : is_allowed ≡ true → Allowed (rules_above (interface w) (begin w) want) (begin w) past m
  allowed h =
      let a = and_parts (has_keys (program_of w) (begin w) m.thread mine m.act) _ h in
      let o = and_parts (carries (program_of w) (begin w) m.thread mine want m.act) _ a.1 in
      let b = and_parts (eqb m.index (length (events_with (begin w) (OfThread m.thread) past))) _ o.1 in
      let c = and_parts (not (is_event m.act) || eqb (steps_of m.act) (steps_since mine)) _ b.1 in
      let d = and_parts (all_links (program_of w) (begin w) m (λ l. eqb (ticket m l) (length (events_with (begin w) l past)))) _ c.1 in
      let e = and_parts (all_links (program_of w) (begin w) m (λ l. shared (program_of w) (begin w) l (new_events l past) m)) _ d.1 in
      let f = and_parts (all_links (program_of w) (begin w) m (λ l. ltb (last_clock (events_with (begin w) l past)) (clock_of m.act))) _ e.1 in
      let g = and_parts (not (is_event m.act) || some_link (program_of w) (begin w) m (λ l. eqb (clock_of m.act) (suc (last_clock (events_with (begin w) l past))))) (asks m.act (λ x. byte (begin w) x past)) f.1 in
      record {
        own = (has_keys_true (program_of w) (begin w) m.thread mine m.act a.0, carries_true (program_of w) (begin w) m.thread mine want m.act o.0);
        index = eqb-true _ _ b.0;
        steps = λ made. eqb-true _ _ (if_so (program_of w) (begin w) (is_event m.act) _ c.0 made);
        tickets = λ l z. eqb-true _ _ (all_links_true (program_of w) (begin w) m (λ l. eqb (ticket m l) (length (events_with (begin w) l past))) d.0 l z);
        shared = λ l z. shared_true (program_of w) (begin w) l (new_events l past) m (all_links_true (program_of w) (begin w) m (λ l. shared (program_of w) (begin w) l (new_events l past) m) e.0 l z);
        rises = λ l z. ltb-true _ _ (all_links_true (program_of w) (begin w) m (λ l. ltb (last_clock (events_with (begin w) l past)) (clock_of m.act)) f.0 l z);
        least = λ made. let q = some_link_true (program_of w) (begin w) m (λ l. eqb (clock_of m.act) (suc (last_clock (events_with (begin w) l past)))) (if_so (program_of w) (begin w) (is_event m.act) _ g.0 made) made in (q.0, q.1, eqb-true _ _ q.2);
        bytes = asks_true m.act (λ x. byte (begin w) x past) g.1;
      }

-- ---- bytes that a memory has

abbrev same_byte : Option ℕ → ℕ → Bool
same_byte None v = false
same_byte (Some u) v = eqb u v

pub same_byte_true : (o : Option ℕ) (v : ℕ) → same_byte o v ≡ true → o ≡ Some v
same_byte_true None v h = absurd (true≢false (sym h))
same_byte_true (Some u) v h = ap Some (eqb-true u v h)

abbrev has_bytes : (ℕ → Option ℕ) → ℕ → List ℕ → Bool
has_bytes memory at bytes = all_from (λ x. same_byte (memory x) (byte_at at bytes x)) at (length bytes)

pub has_bytes_true : (memory : ℕ → Option ℕ) (at : ℕ) (bytes : List ℕ) → has_bytes memory at bytes ≡ true → Has memory at bytes
has_bytes_true memory at bytes h x e = same_byte_true (memory x) (byte_at at bytes x) (all_from_true (λ x. same_byte (memory x) (byte_at at bytes x)) at (length bytes) h x e)

abbrev pub has : (memory : ℕ → Option ℕ) (at : ℕ) (bytes : List ℕ) → Tried (Has memory at bytes)
has memory at bytes = record { test = has_bytes memory at bytes; holds = λ h. has_bytes_true memory at bytes h }
