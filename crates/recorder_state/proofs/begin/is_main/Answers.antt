use Rattle.std.proofs.Common.{sym, ap, ◌∙◌}
use Rattle.std.specs.Option.{option_copied}
use Rattle.recorder_state.specs.Inputs.{is_main_in}
use Rattle.recorder_state.proofs.begin.is_main.Goals as goal

pub returns-in-Some : goal.returns-in-Some
returns-in-Some c = c.is_named_main.ensures ∙ ap is_main_in (ap option_copied (sym c.in-Some.is) ∙ c.func.ensures)
