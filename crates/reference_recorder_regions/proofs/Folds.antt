-- Frames, blocks, regions and registered functions, one mark more.
use Rattle.std.proofs.Common.{◌≡◌, ℕ, Bool, true, false, cond, ◌&&◌, ◌||◌, ◌==◌, List, [], ◌∷◌, refl}
use Rattle.run_events.specs.declared.key.Class.TheVariants.{Async, Callback, Pool}
use Rattle.run_events.specs.declared.key.Key.{Key}
use Rattle.causal_order.specs.Order.{is_listed}
use Rattle.marks.specs.declared.side.Side.{Side}
use Rattle.marks.specs.declared.side.Side.TheVariants.{Replay, System}
use Rattle.marks.specs.Marks.{Act, Mark}
use Rattle.marks.specs.Opens.{frames, frames_after}
use Rattle.c_code.specs.MarkLists.{same_side}
use Rattle.c_code.specs.Opens.{system_part}
use Rattle.replay_runs.specs.Runs.{OfKey, keys_of, new_events}
use Rattle.replay_runs.specs.Keys.{key}
use Rattle.replay_runs.specs.Pool.{act_blocks, act_use, blocks, blocks_from, in_use, in_use_from, is_call, is_registered, registered_from}
use Rattle.whole_runs.specs.World.{World, begin}
use Rattle.whole_runs.specs.Sides.{frames_on, own, part_of, seen}
use Rattle.reference_recorder_regions.specs.Steps.{blocks_step, frames_step, has_above, registered_step, use_step}

-- what is said of the events with a key above the cut
pub keyed_more : {A : Type 0} (f : List Mark → A) (step : Act → A → A) →
    ((m : Mark) (n : List Mark) → f (m ∷ n) ≡ step m.act (f n)) → (k : Key) (m : Mark) (p : List Mark) →
    f (new_events (OfKey k) (seen (m ∷ p))) ≡
    cond (has_above m k) (step m.act (f (new_events (OfKey k) (seen p)))) (f (new_events (OfKey k) (seen p)))
keyed_more f step more k m p = go (same_side m.side Replay)
  where
    inner : (b : Bool) → f (cond b (m ∷ new_events (OfKey k) (seen p)) (new_events (OfKey k) (seen p))) ≡
        cond b (step m.act (f (new_events (OfKey k) (seen p)))) (f (new_events (OfKey k) (seen p)))
    inner true = more m (new_events (OfKey k) (seen p))
    inner false = refl

    go : (a : Bool) → f (new_events (OfKey k) (cond a (m ∷ seen p) (seen p))) ≡
        cond (a && is_listed (keys_of m.act) k) (step m.act (f (new_events (OfKey k) (seen p))))
        (f (new_events (OfKey k) (seen p)))
    go true = inner (is_listed (keys_of m.act) k)
    go false = refl

pub blocks_more : (w : World) (m : Mark) (p : List Mark) →
    blocks (begin w) (seen (m ∷ p)) ≡ blocks_step m (blocks (begin w) (seen p))
blocks_more w m p = keyed_more (blocks_from []) act_blocks (λ n q. refl) (key Pool 0) m p

pub use_more : (w : World) (k : ℕ) (m : Mark) (p : List Mark) →
    in_use (begin w) k (seen (m ∷ p)) ≡ use_step k m (in_use (begin w) k (seen p))
use_more w k m p = keyed_more (in_use_from k ((begin w).in_use k)) (act_use k) (λ n q. refl) (key Async k) m p

pub registered_more : (w : World) (f : ℕ) (m : Mark) (p : List Mark) →
    is_registered (begin w) f (seen (m ∷ p)) ≡ registered_step f m (is_registered (begin w) f (seen p))
registered_more w f m p =
    keyed_more (registered_from false) (λ a b. is_call a || b) (λ n q. refl) (key Callback f) m p

pub frames_more : (w : World) (side : Side) (t : ℕ) (m : Mark) (p : List Mark) →
    frames_on w side t (m ∷ p) ≡ frames_step side t m (frames_on w side t p)
frames_more w side t m p = go side (m.thread == t)
  where
    above : (b : Bool) → frames (cond b (m ∷ seen (own w t p)) (seen (own w t p))) ≡
        cond b (frames_after m.act (frames (seen (own w t p)))) (frames (seen (own w t p)))
    above true = refl
    above false = refl

    below : (b : Bool) → frames (cond b (m ∷ system_part (own w t p)) (system_part (own w t p))) ≡
        cond b (frames_after m.act (frames (system_part (own w t p)))) (frames (system_part (own w t p)))
    below true = refl
    below false = refl

    go : (side : Side) (a : Bool) → frames (part_of side (cond a (m ∷ own w t p) (own w t p))) ≡
        cond (a && same_side m.side side) (frames_after m.act (frames (part_of side (own w t p))))
        (frames (part_of side (own w t p)))
    go Replay true = above (same_side m.side Replay)
    go Replay false = refl
    go System true = below (same_side m.side System)
    go System false = refl
