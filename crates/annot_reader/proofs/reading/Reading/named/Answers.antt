use Rattle.std.proofs.Common.{sym, ◌∙◌, arith}
use Rattle.annot_reader.proofs.Meant.{function_meant, global_meant}
use Rattle.annot_reader_functions.specs.Seen.{declared_by}
use Rattle.annot_reader.proofs.reading.Reading.named.Goals as goal

pub returns-in_default-clause-agrees : goal.returns-in_default-clause-agrees
returns-in_default-clause-agrees c = λ d p m a h k e r.
    global_meant c.args.source.now.cut.now _ (declared_by c.args.env.now).env p a c.global.result d m (sym c.in_default.is ∙ e) (c.global.ensures.agrees d c.args.source.now.cut.now a h r)

pub returns-clause-agrees : goal.returns-clause-agrees
returns-clause-agrees c = λ d p m a h k e r.
    function_meant c.args.source.now.cut.now _ (declared_by c.args.env.now).env p a c.function.result d m c.in-Some.number c.saturating_sub-place.result (sym c.in-Some.is ∙ e) (omega arith)
    (c.function.ensures.agrees d p.functions a h k r)
