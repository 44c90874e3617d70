-- What is noted of whether an object is too large, and nothing else.
use Rattle.std.specs.Prelude.{[]}
use Rattle.c_types_rules.specs.Checked.{Checked, Fine, Noted, Broken, Notes}
use Rattle.c_types_environment.specs.States.{State}

-- what is found, with nothing of what stands unevaluated
abbrev pub quiet : {A : Type 0} → Checked A → Checked A
quiet (Fine x) = Fine x
quiet (Noted n x) = Noted (record n { unevaluated = [] }) x
quiet (Broken from rule) = Broken from rule

abbrev pub large_noted : State → Notes
large_noted s = record { large = s.found_large; unevaluated = [] }
