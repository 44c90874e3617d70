-- The schedule: which thread a step wishes for.
use Rattle.std.specs.Prelude.{◌≡◌, ℕ, ◌+◌, ◌-◌, ◌%◌, ◌^◌, ◌<◌, List, [], ◌∷◌, length, min, nat_lt, if◌then◌else◌}
use Rattle.std.specs.List.{All}

-- how many steps one round of the schedule has
abbrev pub round : List (ℕ × ℕ) → ℕ
round [] = 0
round (item ∷ items) = item.1 + round items

-- the thread at a place of a round, in which each item has its thread as often as it says
abbrev pub entry : List (ℕ × ℕ) → ℕ → ℕ
entry [] place = 0
entry (item ∷ items) place = if nat_lt place item.1 then item.0 else entry items (place - item.1)

-- the thread that a step wishes for: the schedule repeats
abbrev pub wish_at : List (ℕ × ℕ) → ℕ → ℕ
wish_at items step = entry items (step % round items)

-- the last step of each item in the round that begins after so many steps, as far as steps are counted
abbrev pub lasts_from : ℕ → List (ℕ × ℕ) → List ℕ
lasts_from before [] = []
lasts_from before (item ∷ items) = min (before + item.1 - 1) (2 ^ 64 - 1) ∷
    lasts_from (before + item.1) items

-- a schedule that can be asked, with the last step of each item
pub record IsKept (items : List (ℕ × ℕ)) (lasts : List ℕ) : Type 0 where
  pub some : 0 < length items
  pub counts : All (λ item. 0 < item.1) items
  pub lasts_are : lasts ≡ lasts_from 0 items

-- turns whose steps are kept as far as the last turn of more than one
abbrev pub turns_of : (threads steps : List ℕ) → List (ℕ × ℕ)
turns_of [] steps = []
turns_of (t ∷ threads) [] = (t, 1) ∷ turns_of threads []
turns_of (t ∷ threads) (n ∷ steps) = (t, n) ∷ turns_of threads steps
