use Rattle.std.proofs.Common.{sym, ap, subst}
use Rattle.marks.specs.Marks.{released}
use Rattle.reference_recorder_marks.specs.Marks.{commit_of}
use Rattle.reference_recorder_spaces.specs.Next.{Puts}
use Rattle.reference_recorder_spaces.proofs.returns.put_released.Goals as goal

pub returns-in-Released : goal.returns-in-Released
returns-in-Released c = subst (λ q. Puts c.args.thread (released q) c.args.spaces.now c.put_piece.new.spaces) (sym (ap commit_of c.in-Released.is)) c.put_piece.ensures
