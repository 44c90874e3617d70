use Rattle.std.proofs.Common.{◌≡◌, length, rules}
use Rattle.c_types_nodes.specs.Tables.{Table}
use Rattle.c_types_nodes.proofs.Growing.{put_added, put_kept, put_sound}
use Rattle.c_types_nodes.proofs.table.TypedTable.put.Goals as goal

pub invariant_of-self-2 : goal.invariant_of-self-2
invariant_of-self-2 c =
    let inside : Table = record { types = c.self.inside.types; entries = c.self.inside.entries.items } in
    put_sound inside c.args.self.now c.args.entry c.push.new.self.items c.self.inside.basics c.self.view_is c.in_ok-push.ensures.items c.self.invariant c.requires.parts c.requires.ty

pub returns-clause-added : goal.returns-clause-added
returns-clause-added c =
    let inside : Table = record { types = c.self.inside.types; entries = c.self.inside.entries.items } in
    let place : c.in_ok-number.number ≡ length c.self.inside.entries.items = search rules in
    put_added inside c.args.self.now c.args.entry c.push.new.self.items (record { 0 = c.in_ok-number.number }) c.self.view_is c.in_ok-push.ensures.items place

pub returns-clause-kept : goal.returns-clause-kept
returns-clause-kept c =
    let inside : Table = record { types = c.self.inside.types; entries = c.self.inside.entries.items } in
    put_kept inside c.args.self.now c.args.entry c.push.new.self.items c.self.view_is c.in_ok-push.ensures.items
