use Rattle.c_types_nodes.specs.Tables.{Table}
use Rattle.c_types_nodes.proofs.Growing.{type_kept, type_sound}
use Rattle.c_types_nodes.proofs.table.TypedTable.add_type.Goals as goal

pub invariant_of-self : goal.invariant_of-self
invariant_of-self c =
    let inside : Table = record { types = c.self.inside.types; entries = c.self.inside.entries.items } in
    type_sound inside c.named.new.types c.self.inside.basics c.named.ensures.kept c.self.invariant

pub returns-clause-kept : goal.returns-clause-kept
returns-clause-kept c =
    let inside : Table = record { types = c.self.inside.types; entries = c.self.inside.entries.items } in
    type_kept inside c.args.self.now c.named.new.types c.self.view_is c.named.ensures.kept c.self.invariant.entries
