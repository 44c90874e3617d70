-- What is held: the region of a range, and why a region isn't held.
use Rattle.std.specs.Prelude.{◌≡◌, ◌≢◌, ◌⊎◌, ℕ, ◌==◌, Bool, true, false, if◌then◌else◌, List, [], ◌∷◌, ◌++◌, length, None}
use Rattle.marks.specs.declared.side.Side.TheVariants.{Replay}
use Rattle.marks.specs.declared.range.Range.{Range}
use Rattle.space_memory_bytes.specs.Areas.{AreaState}
use Rattle.space_memory_bytes.specs.Numbers.{HasBytes}
use Rattle.space_memory_access.specs.declared.holder.OpenCall.{OpenCall}
use Rattle.space_memory_access.specs.declared.holder.Region.{Region}
use Rattle.space_memory_access.specs.declared.holder.Holder.{Holder}
use Rattle.space_memory_access.specs.declared.holder.Holder.TheVariants.{In, Out}
use Rattle.space_memory_access.specs.Held.{HeldState, prepared_region}
use Rattle.space_memory_access.specs.Holders.{is_pending}
use Rattle.space_memory_access.specs.declared.access.Access.{Access}
use Rattle.space_memory_access.specs.declared.refusal.Refusal.{Refusal}
use Rattle.space_memory_access.specs.declared.refusal.Refusal.TheVariants.{KeyInUse}
use Rattle.space_memory_access.specs.Accesses.{IsAllowed, IsRefused}

-- the region of a range: that of a NULL pointer is empty, whatever its capacity
abbrev pub region_range : Range → Range
region_range r = if r.addr == 0 then record { addr = 0; len = 0 } else r

-- a call above the cut reads a region, or hands it down to be written
abbrev pub region_access : ℕ → Range → Bool → Access
region_access thread r write = record {
  side = Replay;
  thread = thread;
  range = region_range r;
  write =
      write;
}

-- the call holds a region to read it, or to write it
abbrev pub holder_of : Bool → OpenCall → Holder
holder_of true call = Out call
holder_of false call = In call

-- the region of a range for a holder, with its bytes at this time where they are to be written
pub record IsRegionOf (bytes : List AreaState) (range : Range) (holder : Holder) (region : Region) :
    Type 0 where
  pub range_is : region.range ≡ range
  pub holder_is : region.holder ≡ holder
  pub before : is_pending holder ≡ true → (length region.before ≡ range.len) ×
      HasBytes bytes range.addr region.before

-- such a region was added to those that are held, and the open calls are as before
abbrev pub AddsRegion : List AreaState → Range → Holder → HeldState → HeldState → Type 0
AddsRegion bytes range holder old new =
    (region : Region) × IsRegionOf bytes range holder region ×
    (new ≡ record { regions = old.regions ++ region ∷ []; depths = old.depths })

-- the key is in use
abbrev pub IsInUse : List Region → ℕ → Type 0
IsInUse regions key = prepared_region regions key ≢ None

-- a region isn't prepared: its range is refused, or else its key is in use
abbrev pub IsPrepareRefused : List AreaState → List Region → Access → ℕ → Refusal → Type 0
IsPrepareRefused bytes regions access key r =
    IsRefused bytes regions access r ⊎ (IsAllowed bytes regions access × IsInUse regions key ×
    (r ≡ KeyInUse key))
