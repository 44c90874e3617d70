-- The checks of a step pass, or find one thing.
use Rattle.std.specs.Prelude.{◌≡◌, ℕ, List}
use Rattle.marks.specs.Marks.{Mark}
use Rattle.marks.specs.Wants.{Want}
use Rattle.replay_runs.specs.Runs.{Start}
use Rattle.replay_runs.specs.Interface.{Interface}
use Rattle.replay_runs.specs.Checks.{Finding, Checks, Passes, Finds, Answered, checks, return_checks}

pub data Decided (cs : Checks) : Type 0 where
  pass : Passes cs → ((f : Finding) → Finds cs f → ⊥) → Decided cs
  find : (f : Finding) → Finds cs f → ((g : Finding) → Finds cs g → g ≡ f) → (Passes cs → ⊥) → Decided cs

abbrev pub ChecksDecide : Interface → Start → List Mark → ℕ → Want → Type 0
ChecksDecide i s past t want = Decided (checks i s past t want)

-- so do those of a Ret
abbrev pub ReturnChecksDecide : Interface → Start → List Mark → Answered → Type 0
ReturnChecksDecide i s past below = (func : ℕ) (args : List ℕ) (result : ℕ) →
    Decided (return_checks i s past below func args result)
