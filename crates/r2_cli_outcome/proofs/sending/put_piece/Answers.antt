use Rattle.std.proofs.Common.{ap, ◌∙◌, sym, refl, ℕ, List}
use Rattle.r2_cli_outcome.specs.Outcome.{file}
use Rattle.r2_cli_outcome.specs.Plans.{target_of}
use Rattle.r2_cli_outcome.proofs.SendingLemmas.{puts_there, file_puts, out_puts, err_puts, later_writes}
use Rattle.r2_cli_outcome.proofs.sending.put_piece.Goals as goal

pub returns-in-File-clause-later : goal.returns-in-File-clause-later
returns-in-File-clause-later g c = later_writes _ _ _ _ _ c.append.ensures.only

pub returns-in-File-clause-puts : goal.returns-in-File-clause-puts
returns-in-File-clause-puts g c =
    puts_there _ _ _ _ _ _ _ (ap target_of c.in-File.is ∙ ap (λ (k : List ℕ). file k) (sym c.deref.ensures)) refl
    (file_puts _ _ _ _ _ _ _ c.append.ensures.only c.append.ensures.grows c.append.ensures.cause)

pub returns-in-Output-clause-puts : goal.returns-in-Output-clause-puts
returns-in-Output-clause-puts g c = puts_there _ _ _ _ _ _ _ (ap target_of c.in-Output.is) refl (out_puts _ _ _ _ _ _ c.put.ensures.bytes c.put.ensures.cause)

pub returns-in-Errors-clause-puts : goal.returns-in-Errors-clause-puts
returns-in-Errors-clause-puts g c = puts_there _ _ _ _ _ _ _ (ap target_of c.in-Errors.is) refl (err_puts _ _ _ _ _ _ c.put-in-Errors.ensures.bytes c.put-in-Errors.ensures.cause)
