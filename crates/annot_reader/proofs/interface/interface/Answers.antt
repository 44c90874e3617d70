use Rattle.std.proofs.Common.{List, subst, sym}
use Rattle.c_syntax.specs.declared.id.DeclId.{DeclId}
use Rattle.c_syntax.specs.Stands.{StandDecls}
use Rattle.c_types_rules.specs.Sources.{tags_of}
use Rattle.annot_reader_rules.specs.Cuts.{all_noted}
use Rattle.annot_reader_functions.specs.Parameters.{AreDecls}
use Rattle.annot_reader.specs.Reading.{nothing_read}
use Rattle.annot_reader.proofs.Finding.{file_names, finds, of_source, raised_rule}
use Rattle.annot_reader_functions.specs.Seen.{declared_by}
use Rattle.annot_reader.proofs.interface.interface.Goals as goal

pub read-requires-clause-ids : goal.read-requires-clause-ids
read-requires-clause-ids c = let (ds, p, f, t) = c.requires in subst (λ (is : List DeclId). AreDecls c.args.source.now.tree.now is) (sym c.top.ensures.tops) (ds, t.holds, f)

pub read-requires-clause-numbers : goal.read-requires-clause-numbers
read-requires-clause-numbers c = let (ds, p, f, t) = c.requires in t.numbers

pub returns-in_err-reading-clause-interface : goal.returns-in_err-reading-clause-interface
returns-in_err-reading-clause-interface c = λ ds p t.
    let cut = c.args.source.now.cut.now in
    let env = (declared_by c.args.env.now).env in
    let tops = subst (λ (is : List DeclId). StandDecls c.args.source.now.tree.now is ds) (sym c.top.ensures.tops) t.holds in
    of_source cut env ds p c.from_residual.result t.env (raised_rule cut (all_noted env p ds nothing_read) c.in_err-reading.field-0.0 c.from_residual.result c.from_residual.ensures.1
    (c.in_err-reading.ensures.agrees ds p tops t.functions (file_names env (tags_of ds) p t.env)))

pub returns-clause-interface : goal.returns-clause-interface
returns-clause-interface c = λ ds p t.
    let cut = c.args.source.now.cut.now in
    let env = (declared_by c.args.env.now).env in
    let tops = subst (λ (is : List DeclId). StandDecls c.args.source.now.tree.now is ds) (sym c.top.ensures.tops) t.holds in
    of_source cut env ds p c.interface_by.result t.env (finds cut (all_noted env p ds nothing_read) c.in_ok-reading.reading c.interface_by.result
    (c.in_ok-reading.ensures.agrees ds p tops t.functions (file_names env (tags_of ds) p t.env)) (λ a r. c.interface_by.ensures cut a r))
