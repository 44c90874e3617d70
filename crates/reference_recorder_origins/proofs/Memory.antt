-- Memory, how many marks there are, and what is open, of marks without origins.
use Rattle.std.proofs.Common.{◌≡◌, ℕ, suc, ◌+◌, cond, List, [], ◌∷◌, length, Option, refl, ap, ◌∙◌}
use Rattle.std.specs.Option.{option_or}
use Rattle.marks.specs.declared.side.Side.{Side}
use Rattle.marks.specs.declared.side.Side.TheVariants.{Replay, System}
use Rattle.run_events.specs.declared.key.Class.TheVariants.{Async, Callback, Pool}
use Rattle.marks.specs.Marks.{Act, Turn, Load, Store, Enter, Leave, Step, Fault, Made, Mark, is_event}
use Rattle.marks.specs.Bytes.{Byte, leaves}
use Rattle.marks.specs.Opens.{act_calls, act_ups, frames, frames_after, open_calls, open_ups}
use Rattle.replay_runs.specs.Runs.{OfKey, byte, counts, marks_of, steps_since}
use Rattle.replay_runs.specs.Threads.{Returned, act_fault, act_return, fault_of, last_return}
use Rattle.replay_runs.specs.Keys.{key}
use Rattle.replay_runs.specs.Pool.{blocks, blocks_from, in_use, in_use_from, is_registered, registered_from}
use Rattle.whole_runs.specs.World.{World, begin}
use Rattle.whole_runs.specs.Sides.{frames_on, own, part_of, seen}
use Rattle.whole_runs.specs.Memory.{changes, left_by, real, value_of}
use Rattle.whole_runs.specs.Below.{act_blocks, prepared_below, prepared_by, system_blocks}
use Rattle.reference_recorder_marks.specs.Marks.{without_origins}
use Rattle.reference_recorder_origins.proofs.Blind.{blind, blind_acts}
use Rattle.reference_recorder_origins.proofs.Parts.{below_without, mine_without, new_seen, own_without, seen_without}

pub byte_seen : (w : World) (x : ℕ) (p : List Mark) →
    byte (begin w) x (seen (without_origins p)) ≡ byte (begin w) x (seen p)
byte_seen w x p =
    ap (byte (begin w) x) (seen_without p)
    ∙ blind_acts (byte (begin w) x) (λ a. leaves a x) (λ m q. refl) (λ o at bytes b. refl) (λ o at bytes b. refl) (seen p)

left_same : (w : World) (m n : List Mark) (x : ℕ) (a : Act) (v : Option ℕ) →
    byte (begin w) x (seen m) ≡ byte (begin w) x (seen n) → left_by w m x a v ≡ left_by w n x a v
left_same w m n x Turn v e = refl
left_same w m n x (Load o at bytes) v e = refl
left_same w m n x (Store o at bytes) v e = refl
left_same w m n x (Enter f args at bytes) v e = refl
left_same w m n x (Leave at size) v e = refl
left_same w m n x (Step f args u ins pieces freed) v e = refl
left_same w m n x (Fault kind crosses ins outs access) v e = refl
left_same w m n x (Made event) v e = ap (λ (b : Byte). cond (changes event.kind x) (value_of b.cell) v) e

pub real_without : (w : World) (x : ℕ) (p : List Mark) → real w (without_origins p) x ≡ real w p x
real_without w x [] = refl
real_without w x (m ∷ p) =
    blind (λ a. left_by w (without_origins (m ∷ p)) x a (real w (without_origins p) x)) (λ o at bytes. refl) (λ o at bytes. refl) m.act
    ∙ ap (left_by w (without_origins (m ∷ p)) x m.act) (real_without w x p)
    ∙ left_same w (without_origins (m ∷ p)) (m ∷ p) x m.act (real w p x) (byte_seen w x (m ∷ p))

frames_without : (q : List Mark) → frames (without_origins q) ≡ frames q
frames_without q = blind_acts frames frames_after (λ m p. refl) (λ o at bytes fs. refl) (λ o at bytes fs. refl) q

part_without : (side : Side) (q : List Mark) → part_of side (without_origins q) ≡ without_origins (part_of side q)
part_without Replay q = seen_without q
part_without System q = below_without q

pub frames_on_without : (w : World) (side : Side) (t : ℕ) (p : List Mark) →
    frames_on w side t (without_origins p) ≡ frames_on w side t p
frames_on_without w side t p =
    ap (λ q. frames (part_of side q)) (own_without w t p) ∙ ap frames (part_without side (own w t p))
    ∙ frames_without (part_of side (own w t p))

pub blocks_seen : (w : World) (p : List Mark) →
    blocks (begin w) (seen (without_origins p)) ≡ blocks (begin w) (seen p)
blocks_seen w p = ap (blocks_from []) (new_seen (OfKey (key Pool 0)) p)

pub blocks_below : (p : List Mark) → system_blocks (without_origins p) ≡ system_blocks p
blocks_below p = blind_acts system_blocks act_blocks (λ m q. refl) (λ o at bytes bs. refl) (λ o at bytes bs. refl) p

pub in_use_seen : (w : World) (k : ℕ) (p : List Mark) →
    in_use (begin w) k (seen (without_origins p)) ≡ in_use (begin w) k (seen p)
in_use_seen w k p = ap (in_use_from k ((begin w).in_use k)) (new_seen (OfKey (key Async k)) p)

pub prepared_without : (w : World) (k : ℕ) (p : List Mark) →
    prepared_below w k (without_origins p) ≡ prepared_below w k p
prepared_without w k p =
    blind_acts (prepared_below w k) (λ a r. option_or (prepared_by w k a) r) (λ m q. refl) (λ o at bytes r. refl) (λ o at bytes r. refl) p

pub registered_seen : (w : World) (f : ℕ) (p : List Mark) →
    is_registered (begin w) f (seen (without_origins p)) ≡ is_registered (begin w) f (seen p)
registered_seen w f p = ap (registered_from ((begin w).registered f)) (new_seen (OfKey (key Callback f)) p)

pub count_without : (p : List Mark) → length (without_origins p) ≡ length p
count_without [] = refl
count_without (m ∷ p) = ap (λ (n : ℕ). suc n) (count_without p)

-- ---- what is open in a thread

module _ (w : World) (t : ℕ) (p : List Mark) where
  pub calls_mine : open_calls (marks_of (begin w) t (seen (without_origins p))) ≡ open_calls (marks_of (begin w) t (seen p))
  calls_mine =
      ap open_calls (mine_without w t p)
      ∙ blind_acts open_calls act_calls (λ m q. refl) (λ o at bytes cs. refl) (λ o at bytes cs. refl) (marks_of (begin w) t (seen p))

  pub ups_mine : open_ups (marks_of (begin w) t (seen (without_origins p))) ≡ open_ups (marks_of (begin w) t (seen p))
  ups_mine =
      ap open_ups (mine_without w t p)
      ∙ blind_acts open_ups act_ups (λ m q. refl) (λ o at bytes fs. refl) (λ o at bytes fs. refl) (marks_of (begin w) t (seen p))

  pub steps_mine : steps_since (marks_of (begin w) t (seen (without_origins p))) ≡ steps_since (marks_of (begin w) t (seen p))
  steps_mine =
      ap steps_since (mine_without w t p)
      ∙ blind_acts steps_since (λ a n. cond (is_event a) 0 (counts a + n)) (λ m q. refl) (λ o at bytes n. refl) (λ o at bytes n. refl) (marks_of (begin w) t (seen p))

  pub fault_mine : fault_of (marks_of (begin w) t (seen (without_origins p))) ≡ fault_of (marks_of (begin w) t (seen p))
  fault_mine =
      ap fault_of (mine_without w t p)
      ∙ blind_acts fault_of act_fault (λ m q. refl) (λ o at bytes k. refl) (λ o at bytes k. refl) (marks_of (begin w) t (seen p))

  pub return_mine : (before : Option Returned) (f : ℕ) →
      last_return before f (marks_of (begin w) t (seen (without_origins p))) ≡ last_return before f (marks_of (begin w) t (seen p))
  return_mine before f =
      ap (last_return before f) (mine_without w t p)
      ∙ blind_acts (last_return before f) (act_return f) (λ m q. refl) (λ o at bytes r. refl) (λ o at bytes r. refl) (marks_of (begin w) t (seen p))
