-- What is answered of a cut.
use Rattle.std.specs.Prelude.{◌≡◌, ◌≢◌, List, [], map, Result, Ok, Err}
use Rattle.memory_map.specs.declared.placed.Placed.{Placed}
use Rattle.cut_graph_rules.specs.Findings.{AreFindings, Cut, Finding}
use Rattle.isolation_check_rules.specs.Places.{IsPlaced, Literal}
use Rattle.isolation_check_findings.specs.Found.{finding_of}
use Rattle.isolation_check_apart.specs.Apart.{AreApart}
use Rattle.isolation_check.specs.declared.error.PlaceError.{PlaceError}
use Rattle.isolation_check.specs.declared.error.PlaceError.TheVariants.{Findings, Memory}

-- nothing, or all of these findings; of memory nothing is said
abbrev pub AreGiven : List Finding → Result (Unit {0}) PlaceError → Type 0
AreGiven found (Ok done) = found ≡ []
AreGiven found (Err (Findings fs)) = (map finding_of fs.items ≡ found) × (found ≢ [])
AreGiven found (Err Memory) = Unit {0}

-- the cut is accepted, and its strings and globals lie there, each whole in an area and no two meeting
pub record IsAcceptedAt (c : Cut) (ls : List Literal) (q : Placed) : Type 0 where
  pub none : AreFindings c []
  pub placed : IsPlaced c ls q
  pub apart : AreApart q

-- these are the findings of the cut, and there are some
pub record IsRefused (c : Cut) (found : List Finding) : Type 0 where
  pub all : AreFindings c found
  pub some : found ≢ []

-- the places of an accepted cut, or all findings of another; of memory nothing is said
abbrev pub Answers : Cut → List Literal → Result Placed PlaceError → Type 0
Answers c ls (Ok q) = IsAcceptedAt c ls q
Answers c ls (Err (Findings fs)) = IsRefused c (map finding_of fs.items)
Answers c ls (Err Memory) = Unit {0}
