-- Parts of a past: the marks above the cut and below it, those of a thread, and the events with a link.
use Rattle.std.proofs.Common.{◌≡◌, ℕ, Bool, true, false, cond, ◌&&◌, ◌==◌, List, [], ◌∷◌, refl, ap, sym, ◌∙◌}
use Rattle.std.proofs.lemmas.Bool.{true≢false, and_parts}
use Rattle.run_events.specs.declared.key.Key.{Key}
use Rattle.marks.specs.declared.side.Side.TheVariants.{Replay, System}
use Rattle.marks.specs.Marks.{Act, Turn, Load, Store, Enter, Leave, Step, Fault, Made, Mark, is_event}
use Rattle.c_code.specs.MarkLists.{same_side}
use Rattle.c_code.specs.Opens.{system_part}
use Rattle.replay_runs.specs.Runs.{Link, OfThread, OfKey, has, keys_of, is_listed, marks_of, new_events}
use Rattle.whole_runs.specs.World.{World, begin}
use Rattle.whole_runs.specs.Sides.{seen}
use Rattle.reference_recorder_marks.specs.Marks.{without_origin, without_origins}
use Rattle.reference_recorder_origins.proofs.Blind.{blank, blind}

kept : (b : Bool) (m : Mark) (q r : List Mark) → q ≡ without_origins r →
    cond b (blank m ∷ q) q ≡ without_origins (cond b (m ∷ r) r)
kept true m q r e = ap (λ ms. blank m ∷ ms) e
kept false m q r e = e

pub seen_without : (p : List Mark) → seen (without_origins p) ≡ without_origins (seen p)
seen_without [] = refl
seen_without (m ∷ p) = kept (same_side m.side Replay) m (seen (without_origins p)) (seen p) (seen_without p)

pub below_without : (p : List Mark) → system_part (without_origins p) ≡ without_origins (system_part p)
below_without [] = refl
below_without (m ∷ p) =
    kept (same_side m.side System) m (system_part (without_origins p)) (system_part p) (below_without p)

pub own_without : (w : World) (t : ℕ) (p : List Mark) →
    marks_of (begin w) t (without_origins p) ≡ without_origins (marks_of (begin w) t p)
own_without w t [] = refl
own_without w t (m ∷ p) =
    kept (m.thread == t) m (marks_of (begin w) t (without_origins p)) (marks_of (begin w) t p) (own_without w t p)

-- a thread's marks above the cut
pub mine_without : (w : World) (t : ℕ) (p : List Mark) →
    marks_of (begin w) t (seen (without_origins p)) ≡ without_origins (marks_of (begin w) t (seen p))
mine_without w t p = ap (marks_of (begin w) t) (seen_without p) ∙ own_without w t (seen p)

pub has_same : (m : Mark) (l : Link) → has (blank m) l ≡ has m l
has_same m (OfThread t) = blind (λ a. is_event a && (m.thread == t)) (λ o at bytes. refl) (λ o at bytes. refl) m.act
has_same m (OfKey k) = blind (λ a. is_listed (keys_of a) k) (λ o at bytes. refl) (λ o at bytes. refl) m.act

-- an event has no origin, and what has a link is an event
event_act : (a : Act) → is_event a ≡ true → without_origin a ≡ a
event_act Turn e = absurd (true≢false (sym e))
event_act (Load o at bytes) e = absurd (true≢false (sym e))
event_act (Store o at bytes) e = absurd (true≢false (sym e))
event_act (Enter f args at bytes) e = absurd (true≢false (sym e))
event_act (Leave at size) e = absurd (true≢false (sym e))
event_act (Step f args v ins pieces freed) e = absurd (true≢false (sym e))
event_act (Fault kind crosses ins outs access) e = absurd (true≢false (sym e))
event_act (Made m) e = refl

keyed_event : (a : Act) (k : Key) → is_listed (keys_of a) k ≡ true → is_event a ≡ true
keyed_event Turn k e = absurd (true≢false (sym e))
keyed_event (Load o at bytes) k e = absurd (true≢false (sym e))
keyed_event (Store o at bytes) k e = absurd (true≢false (sym e))
keyed_event (Enter f args at bytes) k e = absurd (true≢false (sym e))
keyed_event (Leave at size) k e = absurd (true≢false (sym e))
keyed_event (Step f args v ins pieces freed) k e = absurd (true≢false (sym e))
keyed_event (Fault kind crosses ins outs access) k e = absurd (true≢false (sym e))
keyed_event (Made m) k e = refl

linked_event : (m : Mark) (l : Link) → has m l ≡ true → is_event m.act ≡ true
linked_event m (OfThread t) e = (and_parts (is_event m.act) (m.thread == t) e).0
linked_event m (OfKey k) e = keyed_event m.act k e

linked_same : (m : Mark) (l : Link) → has m l ≡ true → blank m ≡ m
linked_same m l e = ap (λ (a : Act). record m { act = a }) (event_act m.act (linked_event m l e))

event_kept : (m : Mark) (l : Link) (b : Bool) (q r : List Mark) → has m l ≡ b → q ≡ r →
    cond b (blank m ∷ q) q ≡ cond b (m ∷ r) r
event_kept m l false q r h e = e
event_kept m l true q r h e = ap (λ n. n ∷ q) (linked_same m l h) ∙ ap (λ ms. m ∷ ms) e

pub new_without : (l : Link) (p : List Mark) → new_events l (without_origins p) ≡ new_events l p
new_without l [] = refl
new_without l (m ∷ p) =
    ap (λ b. cond b (blank m ∷ new_events l (without_origins p)) (new_events l (without_origins p))) (has_same m l)
    ∙ event_kept m l (has m l) (new_events l (without_origins p)) (new_events l p) refl (new_without l p)

pub new_seen : (l : Link) (p : List Mark) → new_events l (seen (without_origins p)) ≡ new_events l (seen p)
new_seen l p = ap (new_events l) (seen_without p) ∙ new_without l (seen p)
