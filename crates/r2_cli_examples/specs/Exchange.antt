-- A command that reads two files, and writes two files and both streams, as a recording does.
use Rattle.std.specs.Prelude.{List, [], ◌∷◌, ℕ, codes, Option}
use Rattle.r2_base.specs.Seen.{Contents, Store}
use Rattle.r2_cli_outcome.specs.declared.status.Status.TheVariants.{Short}
use Rattle.r2_cli_outcome.specs.Outcome.{Outcome, file, out, err, line_of}
use Rattle.r2_cli_outcome.specs.Reading.{Reading, Of, AreOf}
use Rattle.r2_cli_outcome.specs.Stages.{Stage, Only, Comes, passed, ◌>>=◌}
use Rattle.r2_cli_outcome.specs.Input.{Input}

-- the second file gets what the first one held, and the first what the second held; so do the streams,
-- before the line
abbrev pub exchanged : (log rep first second : List ℕ) → Outcome
exchanged log rep first second = record {
  status = Short;
  writes = record { to = file log; text = second } ∷ record { to = file rep; text = first } ∷
      record { to = out; text = second } ∷ record { to = err; text = first } ∷ [];
  line = line_of (codes "short");
}

abbrev pub exchange : Reading → (src sys log rep : List ℕ) → Stage Outcome
exchange reading src sys log rep = do
  first ← Input reading src (codes "source") 16
  second ← Input reading sys (codes "system") 16
  Only (passed (exchanged log rep first second))

-- its outcome over files
abbrev pub ExchangeOf : Store → (src sys log rep : List ℕ) → Outcome → Type 0
ExchangeOf files src sys log rep o = (contents : Contents) × AreOf files contents ×
    Comes (exchange (Of contents) src sys log rep) o
