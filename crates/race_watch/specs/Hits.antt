-- Where an access races with one that was seen.
use Rattle.std.specs.Prelude.{◌≡◌, ◌≢◌, ℕ, ◌≤◌, true, false, ◌||◌, ◌&&◌, ltb, ◌==◌, if◌then◌else◌, ◌⊎◌, List, [], ◌∷◌, Option, Some, None, slice_index, MatchOption}
use Rattle.marks.specs.Places.{is_constant}
use Rattle.marks.specs.Ranges.{IsInRange}
use Rattle.race_watch.specs.declared.seen.Seen.{Seen}
use Rattle.race_watch.specs.declared.first.Tested.{Tested}

-- the access races with the one that was seen at this byte
pub record Hits (a : Tested) (s : Seen) (x : ℕ) : Type 0 where
  pub other : s.thread ≢ a.thread
  pub writes : (a.write || s.write) ≡ true
  pub unknown : slice_index a.known.now s.thread ≤ s.place
  pub shared : IsInRange s.range x × (is_constant x ≡ false)

abbrev pub In : Seen → List Seen → Type 0
In s [] = ⊥
In s (x ∷ xs) = (s ≡ x) ⊎ In s xs

-- the least byte of a race with one of those that were seen, and the least thread of it
pub record IsFirstOf (a : Tested) (seen : List Seen) (addr other : ℕ) : Type 0 where
  pub in_range : IsInRange a.range addr
  pub by : (s : Seen) × In s seen × (s.thread ≡ other) × Hits a s addr
  pub least : (s : Seen) (x : ℕ) → In s seen → IsInRange a.range x → Hits a s x → (addr ≤ x) ×
      (x ≡ addr → other ≤ s.thread)

abbrev pub IsFirstHit : Tested → List Seen → Option (ℕ × ℕ) → Type 0
IsFirstHit a seen result = MatchOption result ((s : Seen) (x : ℕ) → In s seen → IsInRange a.range x →
    Hits a s x → ⊥) (λ p. IsFirstOf a seen p.0 p.1)

-- of a race so far, and one at a byte with a thread, the one at the least byte, and there with the least
-- thread
abbrev pub earlier : Option (ℕ × ℕ) → Option ℕ → ℕ → Option (ℕ × ℕ)
earlier best None u = best
earlier None (Some x) u = Some (x, u)
earlier (Some p) (Some x) u = if ltb x p.0 || (x == p.0 && ltb u p.1) then Some (x, u) else Some p
