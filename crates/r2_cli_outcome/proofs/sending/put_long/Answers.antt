use Rattle.r2_cli_outcome.proofs.SendingLemmas.{stays_waiting, not_added, all_added, puts_of}
use Rattle.r2_cli_outcome.proofs.sending.put_long.Goals as goal

pub returns-then-len-lt-PIECE-clause-sends : goal.returns-then-len-lt-PIECE-clause-sends
returns-then-len-lt-PIECE-clause-sends g c = stays_waiting _ _ _

pub returns-in_err-put_piece-clause-sends : goal.returns-in_err-put_piece-clause-sends
returns-in_err-put_piece-clause-sends g c = not_added _ _ _ _ _ _ _ _ c.from_residual.ensures.1 c.deref.ensures.value c.in_err-put_piece.ensures.puts

pub returns-clause-sends : goal.returns-clause-sends
returns-clause-sends g c = all_added _ _ _ _ _ c.clear.ensures.items (puts_of _ _ _ _ _ c.deref.ensures.value c.in_ok-put_piece.ensures.puts)
