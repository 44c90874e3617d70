use Rattle.std.proofs.Common.{Err, length, ap, sym, ◌∙◌, subst, arith}
use Rattle.std.proofs.lemmas.Result.{err_from_is_err_and}
use Rattle.annot_reader_rules.specs.Cuts.{annotations}
use Rattle.front_end.specs.Answers.{IsChecked}
use Rattle.front_end.proofs.Accepting.{accepted}
use Rattle.front_end.proofs.Refusals.{by_size, for_each_cut, named}
use Rattle.front_end.proofs.source.check_source.Goals as goal

pub returns-in_err-source : goal.returns-in_err-source
returns-in_err-source c =
    let e = err_from_is_err_and c.from_residual.result c.from_residual.ensures.1 in
    subst (IsChecked c.args.bytes.now c.args.cut.now) (sym (e.1 ∙ ap Err e.2)) (for_each_cut c.args.bytes.now c.args.cut.now c.in_err-source.field-0.0 c.in_err-source.ensures.typed)

pub returns-in_err-program : goal.returns-in_err-program
returns-in_err-program c =
    let w = c.in_ok-source.ensures.typed in
    let e = err_from_is_err_and c.from_residual-in_err-program.result c.from_residual-in_err-program.ensures.1 in
    subst (IsChecked c.args.bytes.now c.args.cut.now) (sym (e.1 ∙ ap Err e.2)) (c.in_err-program.ensures c.args.bytes.now w.ds w.source w.typed)

pub code_of-requires : goal.code_of-requires
code_of-requires c =
    let w = c.in_ok-source.ensures.typed in
    let reads = c.in_ok-program.ensures c.args.bytes.now w.ds w.source w.typed in
    record {
      typed = (w.ds, w.typed.program, w.nodes, w.typed.is.typed, reads.0);
      texts = omega (arith, ap length reads.1, c.in_ok-source.ensures.few, c.requires);
    }

pub returns-in_err-code : goal.returns-in_err-code
returns-in_err-code c =
    let bytes = c.args.bytes.now in
    let cut = c.args.cut.now in
    let w = c.in_ok-source.ensures.typed in
    let p = w.typed.program in
    let reads = c.in_ok-program.ensures bytes w.ds w.source w.typed in
    let e = err_from_is_err_and c.from_residual-in_err-code.result c.from_residual-in_err-code.ensures.1 in
    subst (IsChecked bytes cut) (sym (e.1 ∙ ap Err e.2))
    (by_size bytes cut w.ds p c.in_err-code.field-0.0 w.source w.typed.is.typed (named cut w.ds p (annotations w.ds p) c.in_ok-program.interface reads.2)
    (c.in_err-code.ensures.refused w.ds p w.nodes w.typed.is.typed reads.0))

pub returns : goal.returns
returns c =
    let bytes = c.args.bytes.now in
    let w = c.in_ok-source.ensures.typed in
    let p = w.typed.program in
    let reads = c.in_ok-program.ensures bytes w.ds w.source w.typed in
    accepted bytes c.args.cut.now w.ds c.in_ok-source.field-0.source (record { program = c.in_ok-program.program; interface = c.in_ok-program.interface; code = c.in_ok-code.code }) w.source w.typed
    reads.0 reads.1 reads.2 (c.in_ok-code.ensures.small w.ds p w.nodes w.typed.is.typed reads.0) c.in_ok-code.ensures.code
