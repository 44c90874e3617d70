-- What the call leaves.
use Rattle.std.proofs.Common.{◌≡◌, ℕ, List, IsTrue, Result}
use Rattle.log_closure.specs.Events.{In}
use Rattle.r2_base.specs.Seen.{Store, Stream, OnlyReads}
use Rattle.r2_cli_outcome.specs.declared.plan.Plan.{Plan}
use Rattle.r2_cli_outcome.specs.declared.plan.End.{End}
use Rattle.r2_cli_outcome.specs.declared.status.Status.{Status}
use Rattle.r2_cli_outcome.specs.World.{World, Later, world}
use Rattle.r2_cli_outcome.specs.Reading.{Sees}
use Rattle.r2_cli_outcome.specs.Plans.{IsPlanned}
use Rattle.r2_cli_outcome.specs.Left.{Leaves}
use Rattle.r2_cli_outcome.specs.Finishing.{Finishes}
use Rattle.r2_cli_outcome.proofs.LeavesLemmas.{leaves_by, leaves_more}
use Rattle.r2_cli_outcome.proofs.Consequences.{other_names_stay}
use Rattle.r2_cli.specs.Commands.{IsOutcome, OutcomeOf}
use Rattle.r2_cli.specs.Words.{Form, IsForm, outputs_of}
use Rattle.r2_cli.proofs.CommandLemmas.{of_contents, outcome_avoids}

pub leaves : (words : List (List ℕ)) (r s : Store) (o e : Stream) (b : World) (result : Status) (planned : Result Plan End) → OnlyReads r s → IsPlanned (IsOutcome (Sees r) words) r.read_faults s.read_faults planned
    → Finishes (world s o e) b result planned → Later (world s o e) b → Leaves (OutcomeOf r words) (world r o e) b result
leaves words r s o e b result planned reads is finishes later =
    leaves_more (IsOutcome (Sees r) words) (OutcomeOf r words) (world r o e) b result (of_contents r words) (leaves_by (IsOutcome (Sees r) words) r s o e b result planned reads is finishes later.reads)

pub names_stay : (words : List (List ℕ)) (a b : World) (result : Status) → Leaves (OutcomeOf a.files words) a b result → IsTrue a.files.tells → (n : List ℕ) → ((form : Form) → IsForm words form → In n (outputs_of form) → ⊥)
    → b.files.holds n ≡ a.files.holds n
names_stay words a b result l told n f = other_names_stay (OutcomeOf a.files words) a b result n (outcome_avoids words a.files n f) told l
