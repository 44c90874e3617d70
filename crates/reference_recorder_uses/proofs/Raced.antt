-- What the check for races finds doesn't depend on origins.
use Rattle.std.proofs.Common.{◌≡◌, ℕ, Bool, true, List, Option, sym, subst}
use Rattle.marks.specs.declared.range.Range.{Range}
use Rattle.marks.specs.Ranges.{covers}
use Rattle.marks.specs.Marks.{Mark}
use Rattle.replay_runs.specs.Checks.{Done, IsRace, Races, race_check}
use Rattle.whole_runs.specs.Sides.{seen}
use Rattle.reference_recorder_marks.specs.Marks.{without_origins}
use Rattle.reference_recorder_origins.proofs.Racing.{races_seen}
use Rattle.reference_recorder_findings.specs.declared.finding.Finding.{Finding}
use Rattle.reference_recorder_findings.specs.Findings.{IsFound}
use Rattle.reference_recorder_findings.proofs.Firsts.{same_check}

module _ (p q : List Mark) (same : without_origins p ≡ q) where
  race_from : (t : ℕ) (write : Bool) (x u : ℕ) → Races (seen q) t write x u → Races (seen p) t write x u
  race_from t write x u h = (races_seen t write x u p).0 (subst (λ ms. Races (seen ms) t write x u) (sym same) h)

  race_to : (t : ℕ) (write : Bool) (x u : ℕ) → Races (seen p) t write x u → Races (seen q) t write x u
  race_to t write x u h = subst (λ ms. Races (seen ms) t write x u) same ((races_seen t write x u p).1 h)

  pub race_same : (t : ℕ) (write : Bool) (r : Range) (o : Option Finding) → IsFound (race_check (seen q) t write r Done) o → IsFound (race_check (seen p) t write r Done) o
  race_same t write r o =
      same_check (λ x. (covers r x ≡ true) × ((u : ℕ) × Races (seen q) t write x u)) (λ x. (covers r x ≡ true) × ((u : ℕ) × Races (seen p) t write x u))
      (IsRace (seen q) t write) (IsRace (seen p) t write) o
      (λ x bad. (bad.0, (bad.1.0, race_from t write x bad.1.0 bad.1.1))) (λ x bad. (bad.0, (bad.1.0, race_to t write x bad.1.0 bad.1.1)))
      (λ x f race. (race.0, (race_from t write x race.0 race.1.0, λ u h. race.1.1 u (race_to t write x u h)), race.2))
