-- The regions that are held, and how many calls each thread has open.
use Rattle.std.specs.Prelude.{◌≡◌, ℕ, ◌+◌, nat_le, Bool, true, not, ◌&&◌, List, [], ◌∷◌, map, filter, Option, Some, None, if◌then◌else◌, slice_index, min}
use Rattle.std.specs.List.{list_any}
use Rattle.marks.specs.declared.range.Range.{Range}
use Rattle.marks.specs.Ranges.{covers}
use Rattle.space_memory_access.specs.declared.holder.OpenCall.{OpenCall}
use Rattle.space_memory_access.specs.declared.holder.Region.{Region}
use Rattle.space_memory_access.specs.Holders.{is_pending, serves, is_of, outlives, has_key, disowned}

-- the regions, the oldest first, and the number of open calls of each thread
pub record HeldState : Type 0 where
  pub regions : List Region
  pub depths : List ℕ

-- the innermost open call of a thread
abbrev pub innermost : HeldState → ℕ → OpenCall
innermost held thread = record { thread = thread; depth = slice_index held.depths thread }

-- some region that waits for a call or a key has the address
abbrev pub IsPending : List Region → ℕ → Type 0
IsPending regions x = list_any (λ r. is_pending r.holder && covers r.range x) regions ≡ true

-- system code of the thread may read the byte at the address, or write it, while it lives
abbrev pub IsServed : List Region → ℕ → Bool → ℕ → Type 0
IsServed regions thread write x = list_any (λ r. serves thread write r.holder &&
    covers r.range x) regions ≡ true

-- whether a range lies whole in another
abbrev pub is_part : Range → Range → Bool
is_part outer inner = nat_le outer.addr inner.addr && nat_le (inner.addr + inner.len) (outer.addr + outer.len)

-- one region lets system code of the thread read the whole range, or write it, while its bytes live
abbrev pub IsServedWhole : List Region → ℕ → Bool → Range → Type 0
IsServedWhole regions thread write range = list_any (λ r. serves thread write r.holder &&
    is_part r.range range) regions ≡ true

-- the region that is prepared under the key
abbrev pub prepared_region : List Region → ℕ → Option Region
prepared_region [] key = None
prepared_region (r ∷ rest) key = if has_key key r.holder then Some r else prepared_region rest key

-- the regions but for those that the call holds or has prepared
abbrev pub without_call : OpenCall → List Region → List Region
without_call call regions = filter (λ r. not (is_of call r.holder)) regions

-- the region, once the call is closed
abbrev pub disown : OpenCall → Region → Region
disown call r = record { range = r.range; before = r.before; holder = disowned call r.holder }

-- the regions once the call is closed: those that it held and the committed one are gone, the others that
-- it prepared stay
abbrev pub without_closed : OpenCall → Option ℕ → List Region → List Region
without_closed call commit regions = map (disown call) (filter (λ r. outlives call commit r.holder) regions)

-- the lesser of two numbers, where there are some
abbrev pub earlier : Option ℕ → Option ℕ → Option ℕ
earlier None other = other
earlier (Some x) None = Some x
earlier (Some x) (Some y) = Some (min x y)
