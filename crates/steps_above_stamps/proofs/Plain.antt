-- Marks with few links: one that is no event has none, and an event without keys has its thread alone.
use Rattle.std.proofs.Common.{◌≡◌, suc, true, false, ◌&&◌, eqb, List, [], length, refl, sym, ap, ◌∙◌, eqb-true}
use Rattle.std.proofs.lemmas.Bool.{true≢false}
use Rattle.run_events.specs.declared.key.Key.{Key}
use Rattle.marks.specs.Marks.{Act, Turn, Load, Store, Enter, Leave, Step, Fault, Made, Mark, is_event}
use Rattle.replay_runs.specs.Runs.{Link, OfThread, OfKey, Start, clock_of, events_with, has, is_listed, keys_of, last_clock}
use Rattle.steps_above_stamps.specs.Stamps.{IsStamped}

no_key : (a : Act) (k : Key) → is_event a ≡ false → is_listed (keys_of a) k ≡ false
no_key Turn k h = refl
no_key (Load origin at bytes) k h = refl
no_key (Store origin at bytes) k h = refl
no_key (Enter func args at bytes) k h = refl
no_key (Leave at size) k h = refl
no_key (Step func args result ins pieces freed) k h = refl
no_key (Fault kind crosses ins outs access) k h = refl
no_key (Made e) k h = absurd (true≢false h)

pub no_link : (m : Mark) (l : Link) → is_event m.act ≡ false → has m l ≡ false
no_link m (OfThread t) h = ap (λ b. b && eqb m.thread t) h
no_link m (OfKey k) h = no_key m.act k h

pub plain_stamped : (s : Start) (past : List Mark) (m : Mark) → is_event m.act ≡ false → m.index ≡ length (events_with s (OfThread m.thread) past) → IsStamped s past m
plain_stamped s past m plain is = record {
  index = is;
  steps = λ made. absurd (true≢false (sym made ∙ plain));
  tickets = λ l h. absurd (true≢false (sym h ∙ no_link m l plain));
  rises = λ l h. absurd (true≢false (sym h ∙ no_link m l plain));
  least = λ made. absurd (true≢false (sym made ∙ plain));
}

pub thread_follows : (s : Start) (past : List Mark) (m : Mark) → is_event m.act ≡ true → keys_of m.act ≡ [] → IsStamped s past m → clock_of m.act ≡ suc (last_clock (events_with s (OfThread m.thread) past))
thread_follows s past m made none h = go (h.least made).0 (h.least made).1 (h.least made).2
  where
    go : (l : Link) → has m l ≡ true → clock_of m.act ≡ suc (last_clock (events_with s l past)) → clock_of m.act ≡ suc (last_clock (events_with s (OfThread m.thread) past))
    go (OfThread t) b e = e ∙ ap (λ u. suc (last_clock (events_with s (OfThread u) past))) (sym (eqb-true m.thread t (sym (ap (λ c. c && eqb m.thread t) made) ∙ b)))
    go (OfKey k) b e = absurd (true≢false (sym b ∙ ap (λ qs. is_listed qs k) none))
