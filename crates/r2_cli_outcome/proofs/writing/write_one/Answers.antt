use Rattle.r2_cli_outcome.specs.Plans.{write_of}
use Rattle.r2_cli_outcome.proofs.AfterLemmas.{later_then}
use Rattle.r2_cli_outcome.proofs.SendingLemmas.{begun_does, unbegun_does}
use Rattle.r2_cli_outcome.proofs.writing.write_one.Goals as goal

pub returns-in_err-begin-clause-later : goal.returns-in_err-begin-clause-later
returns-in_err-begin-clause-later g c = c.in_err-begin.ensures.later _ _

pub returns-in_err-begin-clause-does : goal.returns-in_err-begin-clause-does
returns-in_err-begin-clause-does g c = unbegun_does (write_of c.args.write.now) _ _ _ _ (c.in_err-begin.ensures.begins _ _) c.from_residual.ensures.1

pub returns-clause-later : goal.returns-clause-later
returns-clause-later g c = later_then _ _ _ (c.in_ok-begin.ensures.later _ _) c.put_text.ensures.later

pub returns-clause-does : goal.returns-clause-does
returns-clause-does g c = begun_does (write_of c.args.write.now) _ _ _ _ (c.in_ok-begin.ensures.later _ _) (c.in_ok-begin.ensures.begins _ _) c.put_text.ensures.puts
