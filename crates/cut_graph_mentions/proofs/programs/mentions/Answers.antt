use Rattle.std.proofs.Common.{◌∙◌}
use Rattle.cut_graph_mentions.proofs.ByParts.{of_functions, of_globals, of_program}
use Rattle.cut_graph_mentions.proofs.programs.mentions.Goals as goal

pub returns : goal.returns
returns c =
    let p = c.args.program.now in
    λ source is. c.new.ensures ∙ of_program p source c.in_ok-functions.functions.items c.in_ok-globals.globals.items is
    (of_functions c.table.result.now p.table c.functions.result.now p.functions c.in_ok-functions.functions.items c.table.ensures.table c.functions.ensures.functions c.in_ok-functions.ensures)
    (of_globals c.table-2.result.now p.table c.globals.result.now p.globals c.in_ok-globals.globals.items c.table-2.ensures.table c.globals.ensures.globals c.in_ok-globals.ensures)
