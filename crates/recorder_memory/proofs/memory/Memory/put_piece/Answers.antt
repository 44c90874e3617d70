use Rattle.std.proofs.Common.{sym, subst}
use Rattle.marks.specs.declared.fault.FaultKind.TheVariants.{NotLive}
use Rattle.steps_above_memory.specs.declared.refusal.StepRefusal.TheVariants.{Fault}
use Rattle.recorder_memory.specs.Below.{WritesPiece, RefusesPiece, target_of}
use Rattle.recorder_memory.proofs.Pieces.{piece_nowhere, piece_missing}
use Rattle.recorder_memory.proofs.memory.Memory.put_piece.Goals as goal

pub returns-in-Nowhere-clause-written : goal.returns-in-Nowhere-clause-written
returns-in-Nowhere-clause-written c = subst (λ x. WritesPiece c.args.self.now c.args.thread (target_of x) c.args.bytes.now c.args.self.now) (sym c.in-Nowhere.is) (piece_nowhere c.args.self.now c.args.thread c.args.bytes.now)

pub returns-in-Missing-clause-refused : goal.returns-in-Missing-clause-refused
returns-in-Missing-clause-refused c = subst (λ x. RefusesPiece c.args.self.now c.args.thread (target_of x) c.args.bytes.now (Fault NotLive)) (sym c.in-Missing.is) (piece_missing c.args.self.now c.args.thread c.args.bytes.now)
