use Rattle.std.proofs.Common.{◌∷◌, sym, ap, subst}
use Rattle.c_machine.specs.Wants.{told}
use Rattle.recorder_threads.specs.Answers.{IsNoCall, IsPlain}
use Rattle.recorder_threads.specs.Threads.{AreThreadsOf}
use Rattle.recorder_state.specs.Inputs.{world_of}
use Rattle.recorder_state.proofs.telling.tell.Goals as goal

pub returns-in-Frame-clause-stand : goal.returns-in-Frame-clause-stand
returns-in-Frame-clause-stand c =
    subst (λ x. (a : IsPlain (world_of c.args.inputs).laid c.args.threads.now c.args.thread IsNoCall x) → AreThreadsOf a.next.world (a.next.mark ∷ a.next.past) c.next_in_frame.new.self) (sym (ap told c.in-Frame.is)) c.next_in_frame.ensures.stand
