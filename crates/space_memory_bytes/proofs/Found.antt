-- The area that was found, as those who see all areas know it.
use Rattle.std.proofs.Common.{◌≡◌, ◌↔◌, ℕ, ◌+◌, ◌<◌, ◌≤◌, true, false, List, length, get_or, Option, None, Some, All, sym, ap, subst, ◌∙◌, Bool, set, arith}
use Rattle.std.specs.Bool.{OnTrue, OnFalse}
use Rattle.std.proofs.lemmas.List.{set-get_or}
use Rattle.marks.specs.declared.range.Range.{Range}
use Rattle.space_memory_bytes.specs.Areas.{AreaState, holds, cell, byte_at, extents, RiseFrom, IsHolder, AllLive}
use Rattle.space_memory_bytes.specs.Numbers.{HasNumber, HasBytes}
use Rattle.space_memory_bytes.specs.AreaChanges.{IsLiveRun, IsNumber, SameExtent, WritesArea}
use Rattle.space_memory_bytes.proofs.Changes.{held_by, held_is, run_in_area, live_run, number_run, bytes_run}
use Rattle.space_memory_bytes.proofs.Lookup.{byte_at_absent, holds_parts}

module _ (items now : List AreaState) (view : items ≡ now) (rise : RiseFrom 0 (extents now)) (at : ℕ) (a : AreaState) (value : a ≡ get_or items at a) (addr : ℕ) (found : IsHolder now addr at) where
  -- it is in the list that a caller sees
  pub found_is : a ≡ get_or now at a
  found_is = value ∙ ap (λ (areas : List AreaState). get_or areas at a) view

  pub found_holds : holds a addr ≡ true
  found_holds = held_by now at addr a found_is found

  pub found_live : (n : ℕ) → AllLive now addr n ↔ IsLiveRun a addr n
  found_live n = live_run now rise at a found.0 found_is addr n found_holds

  pub found_within : (n : ℕ) → AllLive now addr n → addr + n ≤ a.base + length a.cells
  found_within n live = run_in_area now rise at a found.0 found_is addr n found_holds live

  pub found_number : (n number : ℕ) → IsNumber a addr n number → HasNumber now addr n number
  found_number n number has = number_run now rise at a found.0 found_is addr n number found_holds has

  pub found_bytes : (bytes : List ℕ) → HasBytes now addr bytes ↔ ((i : ℕ) → i < length bytes → cell a (addr + i) ≡ Some (get_or bytes i 0))
  found_bytes bytes = bytes_run now rise at a found.0 found_is addr bytes found_holds

-- a live byte is some area's
pub no_area : (now : List AreaState) (addr n : ℕ) → 1 ≤ n → AllLive now addr n → All (λ a. holds a addr ≡ false) now → ⊥
no_area now addr n some live none = live 0 some (ap (λ x. byte_at now x) (omega arith) ∙ byte_at_absent now addr none)

-- an area that is overwritten, or isn't, keeps its addresses
pub extent_stays : (b : Bool) (addr n value : ℕ) (a new : AreaState) → OnTrue b (WritesArea addr n value a new) → OnFalse b (new ≡ a) → SameExtent a new
extent_stays true addr n value a new writes same = writes.extent
extent_stays false addr n value a new writes same = record { base = ap (λ (b : AreaState). b.base) same; size = ap (λ (b : AreaState). length b.cells) same }

-- where it isn't, all areas stay
pub areas_stay : (items now : List AreaState) (at : ℕ) (a new : AreaState) (b : Bool) → items ≡ now → a ≡ get_or items at a → OnFalse b (new ≡ a) → OnFalse b (set items at new ≡ now)
areas_stay items now at a new true view is same = tt
areas_stay items now at a new false view is same = ap (λ (x : AreaState). set items at x) (same ∙ is) ∙ set-get_or items at a ∙ view
