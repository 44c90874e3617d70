-- Giving back the regions of a call: how much of each is used, and why that is refused.
use Rattle.std.specs.Prelude.{◌≡◌, ◌⊎◌, ℕ, ◌+◌, ◌≤◌, ◌==◌, if◌then◌else◌, List, [], ◌∷◌, ◌++◌, filter, drop, Option, Some, None, option_map}
use Rattle.std.specs.Option.{option_to_list}
use Rattle.space_memory_bytes.specs.Areas.{AreaState}
use Rattle.space_memory_bytes.specs.Numbers.{HasBytes}
use Rattle.space_memory_access.specs.declared.holder.OpenCall.{OpenCall}
use Rattle.space_memory_access.specs.declared.holder.Region.{Region}
use Rattle.space_memory_access.specs.Held.{prepared_region}
use Rattle.space_memory_access.specs.Holders.{is_out_of}
use Rattle.space_memory_access.specs.declared.refusal.Refusal.{Refusal}
use Rattle.space_memory_access.specs.declared.refusal.Refusal.TheVariants.{NotLive, Pending, OtherSpace, ReadOnly, StackFull, KeyInUse, NoKey, Size}

-- the regions that the call holds to write, the oldest first
abbrev pub outs_of : OpenCall → List Region → List Region
outs_of call regions = filter (λ r. is_out_of call r.holder) regions

-- how much of a region is used: none of that of a NULL pointer
abbrev pub used_of : Region → ℕ → ℕ
used_of r used = if r.range.addr == 0 then 0 else used

-- the used size is at most the region's, and the bytes past it are as they were when the region was held
pub record IsFilled (bytes : List AreaState) (used : ℕ) (r : Region) : Type 0 where
  pub fits : used_of r used ≤ r.range.len
  pub rest : HasBytes bytes (r.range.addr + used_of r used) (drop (used_of r used) r.before)

-- each region is filled up to its used size
abbrev pub AllFilled : List AreaState → List Region → List ℕ → Type 0
AllFilled bytes (r ∷ rs) (used ∷ more) = IsFilled bytes used r × AllFilled bytes rs more
AllFilled bytes _ _ = Unit {0}

-- the first region that isn't begins at the address
abbrev pub FirstUnfilled : List AreaState → List Region → List ℕ → ℕ → Type 0
FirstUnfilled bytes (r ∷ rs) (used ∷ more) x = ((¬ IsFilled bytes used r) × (x ≡ r.range.addr)) ⊎
    (IsFilled bytes used r × FirstUnfilled bytes rs more x)
FirstUnfilled bytes _ _ x = ⊥

-- the region that a call commits: there is none to commit, or that of the key
abbrev pub committed : List Region → Option (ℕ × ℕ) → List Region
committed regions None = []
committed regions (Some c) = option_to_list (prepared_region regions c.0)

-- the used size of what is committed
abbrev pub committed_size : Option (ℕ × ℕ) → List ℕ
committed_size None = []
committed_size (Some c) = c.1 ∷ []

-- the key of what is committed
abbrev pub committed_key : Option (ℕ × ℕ) → Option ℕ
committed_key commit = option_map (λ c. c.0) commit

-- no region is prepared under the key that is to be committed
abbrev pub LacksKey : List Region → Option (ℕ × ℕ) → ℕ → Type 0
LacksKey regions None key = ⊥
LacksKey regions (Some c) key = (prepared_region regions c.0 ≡ None) × (key ≡ c.0)

-- the key to be committed, if there is one, is in use
abbrev pub HasKey : List Region → Option (ℕ × ℕ) → Type 0
HasKey regions commit = (key : ℕ) → ¬ LacksKey regions commit key

-- the regions that a return gives back, each with its used size: those that the call holds to write, then
-- the committed one
abbrev pub AllReturned : List AreaState → List Region → OpenCall → List ℕ → Option (ℕ × ℕ) → Type 0
AllReturned bytes regions call used commit =
    AllFilled bytes (outs_of call regions ++ committed regions commit) (used ++ committed_size commit)

-- the return is refused: the key is not in use, or else a region isn't filled up to its used size, and the
-- first is shown
abbrev pub IsReleaseRefused : List AreaState → List Region → OpenCall → List ℕ → Option (ℕ × ℕ) → Refusal →
    Type 0
IsReleaseRefused bytes regions call used commit (NotLive x) = ⊥
IsReleaseRefused bytes regions call used commit (Pending x) = ⊥
IsReleaseRefused bytes regions call used commit (OtherSpace x) = ⊥
IsReleaseRefused bytes regions call used commit (ReadOnly x) = ⊥
IsReleaseRefused bytes regions call used commit (StackFull x) = ⊥
IsReleaseRefused bytes regions call used commit (KeyInUse x) = ⊥
IsReleaseRefused bytes regions call used commit (NoKey x) = LacksKey regions commit x
IsReleaseRefused bytes regions call used commit (Size x) =
    HasKey regions commit × FirstUnfilled bytes (outs_of call regions ++ committed regions commit) (used ++
    committed_size commit) x
