use Rattle.std.proofs.Common.{◌<◌, length, arith}
use Rattle.c_types_nodes.specs.Tables.{Table}
use Rattle.c_types_nodes.proofs.Growing.{read, type_read, within}
use Rattle.c_types_nodes.proofs.table.TypedTable.type_of.Goals as goal

pub index-requires : goal.index-requires
index-requires c =
    let inside : Table = record { types = c.self.inside.types; entries = c.self.inside.entries.items } in
    let h : c.args.id.0 < length c.self.inside.entries.items = within inside c.args.self.now c.args.id c.self.view_is c.requires.inside in
    omega (arith, c.self.inside.entries.ok.0)

pub returns : goal.returns
returns c =
    let inside : Table = record { types = c.self.inside.types; entries = c.self.inside.entries.items } in
    type_read c.args.self.now c.args.id c.index.result.now (read inside c.args.self.now c.args.id c.index.result.now c.self.view_is c.self.invariant.entries c.requires.inside c.index.ensures)
