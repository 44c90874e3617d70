use Rattle.std.proofs.Common.{length, refl}
use Rattle.std.proofs.lemmas.Result.{on_ok_weaker}
use Rattle.c_lower_bodies.specs.Making.{making}
use Rattle.c_lower_bodies.proofs.Called.{call_made}
use Rattle.c_lower_bodies.proofs.emitter.Emitter.+values.Goals as goal

pub call-returns : goal.call-returns
call-returns t c =
    on_ok_weaker c.node.result
    (λ e. call_made c.args.self.now.declared.table c.args.callee c.args.arguments.now (making c.args.self.now) (length c.args.arguments.now) c.args.code.now
    c.put_call.new.code c.values.new.code c.node.new.code c.requires.callee refl c.in_ok-put_call.ensures c.in_ok-values.ensures e)
    c.node.ensures
