use Rattle.std.proofs.Common.{true, false, ◌++◌, [], ap, ◌∙◌}
use Rattle.std.specs.Prelude.{replicate}
use Rattle.c_builtins.specs.Table.{first_source_function}
use Rattle.cut_graph_rules.specs.Sources.{mentioned}
use Rattle.cut_graph_modes.specs.declared.vertices.Naming.{Naming}
use Rattle.cut_graph_modes.specs.Edges.{naming_on, rows_of}
use Rattle.cut_graph_modes.proofs.Rows.{three}
use Rattle.cut_graph_modes.proofs.graph.put_side.Goals as goal

pub returns : goal.returns
returns c =
    let n = mentioned c.args.functions.now c.args.globals.now in
    let faces = c.args.faces.now in
    three c.args.graph.now.items (replicate first_source_function []) (rows_of (naming_on n c.args.side true) faces c.args.functions.now) (rows_of (naming_on n c.args.side false) faces c.args.globals.now)
    c.in_ok-put_builtins.ensures
    (c.in_ok-put_rows.ensures ∙ ap (λ (x : Naming). c.put_builtins.new.graph.items ++ rows_of x faces c.args.functions.now) c.on_side-by_functions.ensures)
    (c.in_ok-put_rows-2.ensures ∙ ap (λ (x : Naming). c.put_rows.new.graph.items ++ rows_of x faces c.args.globals.now) c.on_side-by_values.ensures)
