-- What the checks of a Call find where memory refuses one of its ranges or keys.
use Rattle.std.specs.Prelude.{◌≡◌, ◌↔◌, ℕ, ◌^◌, ◌<◌, Bool, true, false, List, [], ◌∷◌, ◌++◌}
use Rattle.marks.specs.declared.range.Range.{Range}
use Rattle.marks.specs.Ranges.{Prepared, prepared_ranges}
use Rattle.marks.specs.Marks.{Mark}
use Rattle.marks.specs.Wants.{Calls}
use Rattle.space_memory_access.specs.declared.refusal.Refusal.{Refusal}
use Rattle.space_memory_access.specs.declared.refusal.Refusal.TheVariants.{OtherSpace}
use Rattle.space_memory_access.specs.Accesses.{IsAllowed, IsRefused}
use Rattle.replay_runs.specs.Runs.{Start}
use Rattle.replay_runs.specs.Interface.{Interface}
use Rattle.replay_runs.specs.Rules.{KeepsModes}
use Rattle.replay_runs.specs.Checks.{Finding, Done, Passes, Finds, race_check, range_checks, checks}
use Rattle.replay_runs.specs.Passing.{Unraced}
use Rattle.space_memory.specs.Spaces.{SpaceState}
use Rattle.space_memory.specs.Held.{region_range, region_access, IsPrepareRefused}
use Rattle.space_memory_laws.specs.Refusals.{finding_of}
use Rattle.space_memory_laws.specs.Calls.{Reads, Holds, prepared_part, parts_of, InCall}

-- the parts of a Call grow range by range
pub record PartsGrow (ins outs : List Range) (prepared : List Prepared) : Type 0 where
  pub reads : (r : Range) → parts_of ins [] [] ++ Reads r ∷ [] ≡ parts_of (ins ++ r ∷ []) [] []
  pub holds : (r : Range) → parts_of ins outs [] ++ Holds r ∷ [] ≡ parts_of ins (outs ++ r ∷ []) []
  pub prepares : (p : Prepared) → parts_of ins outs prepared ++
      prepared_part p ∷ [] ≡ parts_of ins outs (prepared ++ p ∷ [])

-- none of the ranges races
abbrev pub AllUnraced : List Mark → ℕ → Bool → List Range → Type 0
AllUnraced past t write [] = Unit {0}
AllUnraced past t write (r ∷ rs) = Unraced past t write r × AllUnraced past t write rs

-- what a thread wants to call: each function may run in the mode that it gets. Its annotations give the
-- ranges and keys
pub record Wanted (i : Interface) (indirect : Bool) (func : ℕ) (args : List ℕ) (ins outs : List Range)
    (prepared : List Prepared) : Type 0 where
  pub modes : KeepsModes i (Calls indirect func args)
  pub ins_are : i.ins func args ≡ ins
  pub outs_are : i.outs func args ≡ outs
  pub prepares : i.prepares func args ≡ prepared

-- memory has read these ranges for a Call that goes on to read another one. None races but maybe that
pub record IsReading (s : Start) (past : List Mark) (t : ℕ) (before : List Range) (given : Range) (r :
    Range) (base memory : SpaceState) : Type 0 where
  pub call : InCall s past t (parts_of before [] []) base memory
  pub unraced : AllUnraced past t false before
  pub below : given.addr < 2 ^ 64
  pub region : region_range given ≡ r

-- memory has read all ranges for a Call, and held these, of those that it holds and then of those that it
-- prepares; it
-- goes on to hold another one
pub record IsHolding (s : Start) (past : List Mark) (t : ℕ) (ins before : List Range) (given : Range) (r :
    Range) (base memory : SpaceState) : Type 0 where
  pub call : InCall s past t (parts_of ins before []) base memory
  pub unraced_ins : AllUnraced past t false ins
  pub unraced : AllUnraced past t true before
  pub below : given.addr < 2 ^ 64
  pub region : region_range given ≡ r

-- memory has tested all ranges of a Call by holding them, undone that, and made the Call anew up to these
-- keys; it goes
-- on to prepare another one
pub record IsPreparing (s : Start) (past : List Mark) (t : ℕ) (ins outs : List Range) (prepared before :
    List Prepared) (given : Range) (r : Range) (base tested memory : SpaceState) : Type 0 where
  pub test : InCall s past t (parts_of ins (outs ++ prepared_ranges prepared) []) base tested
  pub call : InCall s past t (parts_of ins outs before) base memory
  pub unraced_ins : AllUnraced past t false ins
  pub unraced : AllUnraced past t true (outs ++ prepared_ranges prepared)
  pub below : given.addr < 2 ^ 64
  pub region : region_range given ≡ r

-- the checks of one range of a Call, where `more` are held for it already, find what memory refuses there,
-- and nothing else
pub record RangeFinds (s : Start) (past : List Mark) (t : ℕ) (write : Bool) (more : List Range) (given :
    Range) (r : Range) (memory : SpaceState) : Type 0 where
  pub refused : (f : Refusal) → IsRefused memory.bytes memory.held.regions (region_access t given write)
      f → Finds (range_checks s past t write more r Done) (finding_of f)
  pub found : (f : Finding) → Finds (range_checks s past t write more r Done) f → (k : Refusal) ×
      IsRefused memory.bytes memory.held.regions (region_access t given write) k × (f ≡ finding_of k)
  pub passes : Passes (range_checks s past t write more r Done) ↔ IsAllowed memory.bytes
      memory.held.regions (region_access t given write)

-- without a race the checks of a range that a Call comes to read find exactly what memory refuses, and pass
-- exactly where it
-- allows the range
abbrev pub ReadRefusalsAreFindings : Type 0
ReadRefusalsAreFindings =
    (s : Start) (past : List Mark) (base memory : SpaceState) (t : ℕ) (before : List Range) (r : Range)
    (given : Range) →
    IsReading s past t before given r base memory →
    Unraced past t false r →
    RangeFinds s past t false [] given r memory

-- the same of a range that it comes to hold: those before it count as pending
abbrev pub HoldRefusalsAreFindings : Type 0
HoldRefusalsAreFindings =
    (s : Start) (past : List Mark) (base memory : SpaceState) (t : ℕ) (ins before : List Range) (r : Range)
    (given : Range) →
    IsHolding s past t ins before given r base memory →
    Unraced past t true r →
    RangeFinds s past t true before given r memory

-- a range that isn't read for a cause is what the checks of the Call find, where it doesn't race
abbrev pub RefusedReadsAreFound : Type 0
RefusedReadsAreFound =
    (i : Interface) (s : Start) (past : List Mark) (base memory : SpaceState) (t : ℕ) (indirect : Bool)
    (func : ℕ) (args : List ℕ) (before after outs : List Range) (prepared : List Prepared) (r : Range)
    (given : Range) (f : Refusal) →
    Wanted i indirect func args (before ++ r ∷ after) outs prepared →
    IsReading s past t before given r base memory →
    Unraced past t false r →
    IsRefused memory.bytes memory.held.regions (region_access t given false) f →
    Finds (checks i s past t (Calls indirect func args)) (finding_of f)

-- a race of a range that is read is found, unless its memory is the other side's
abbrev pub RacesOfReadsAreFound : Type 0
RacesOfReadsAreFound =
    (i : Interface) (s : Start) (past : List Mark) (base memory : SpaceState) (t : ℕ) (indirect : Bool)
    (func : ℕ) (args : List ℕ) (before after outs : List Range) (prepared : List Prepared) (r : Range)
    (given : Range) (f : Finding) →
    Wanted i indirect func args (before ++ r ∷ after) outs prepared →
    IsReading s past t before given r base memory →
    ((x : ℕ) → ¬ IsRefused memory.bytes memory.held.regions (region_access t given false) (OtherSpace x)) →
    Finds (race_check past t false r Done) f →
    Finds (checks i s past t (Calls indirect func args)) f

-- the same of ranges that are held, or are to be prepared
abbrev pub RefusedHoldsAreFound : Type 0
RefusedHoldsAreFound =
    (i : Interface) (s : Start) (past : List Mark) (base memory : SpaceState) (t : ℕ) (indirect : Bool)
    (func : ℕ) (args : List ℕ) (ins outs before after : List Range) (prepared : List Prepared) (r :
    Range) (given : Range) (f : Refusal) →
    Wanted i indirect func args ins outs prepared →
    outs ++ prepared_ranges prepared ≡ before ++ r ∷ after →
    IsHolding s past t ins before given r base memory →
    Unraced past t true r →
    IsRefused memory.bytes memory.held.regions (region_access t given true) f →
    Finds (checks i s past t (Calls indirect func args)) (finding_of f)

abbrev pub RacesOfHoldsAreFound : Type 0
RacesOfHoldsAreFound =
    (i : Interface) (s : Start) (past : List Mark) (base memory : SpaceState) (t : ℕ) (indirect : Bool)
    (func : ℕ) (args : List ℕ) (ins outs before after : List Range) (prepared : List Prepared) (r :
    Range) (given : Range) (f : Finding) →
    Wanted i indirect func args ins outs prepared →
    outs ++ prepared_ranges prepared ≡ before ++ r ∷ after →
    IsHolding s past t ins before given r base memory →
    ((x : ℕ) → ¬ IsRefused memory.bytes memory.held.regions (region_access t given true) (OtherSpace x)) →
    Finds (race_check past t true r Done) f →
    Finds (checks i s past t (Calls indirect func args)) f

-- where all ranges were tested, a range isn't prepared only for its key, and the checks of the Call find
-- that
abbrev pub RefusedKeysAreFound : Type 0
RefusedKeysAreFound =
    (i : Interface) (s : Start) (past : List Mark) (base tested memory : SpaceState) (t : ℕ) (indirect :
    Bool) (func : ℕ) (args : List ℕ) (ins outs : List Range) (before after : List Prepared) (p :
    Prepared) (given : Range) (f : Refusal) →
    Wanted i indirect func args ins outs (before ++ p ∷ after) →
    IsPreparing s past t ins outs (before ++ p ∷ after) before given p.range base tested memory →
    IsPrepareRefused memory.bytes memory.held.regions (region_access t given true) p.key f →
    Finds (checks i s past t (Calls indirect func args)) (finding_of f)

-- a Call of which nothing is refused, and no range races, passes its checks
abbrev pub MadeCallsPass : Type 0
MadeCallsPass =
    (i : Interface) (s : Start) (past : List Mark) (base memory : SpaceState) (t : ℕ) (indirect : Bool)
    (func : ℕ) (args : List ℕ) (ins outs : List Range) (prepared : List Prepared) →
    Wanted i indirect func args ins outs prepared →
    InCall s past t (parts_of ins outs prepared) base memory →
    AllUnraced past t false ins →
    AllUnraced past t true (outs ++ prepared_ranges prepared) →
    Passes (checks i s past t (Calls indirect func args))
