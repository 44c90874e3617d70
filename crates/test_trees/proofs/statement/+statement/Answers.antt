use Rattle.std.proofs.Common.{rules, arith, subst, sym}
use Rattle.test_trees.specs.Parts.{EntryFits}
use Rattle.test_trees.proofs.Members.{entry_among}
use Rattle.test_trees.proofs.statement.+statement.Goals as goal

pub show_entries-show_entry-requires : goal.show_entries-show_entry-requires
show_entries-show_entry-requires t c =
    let v = c.entry-item.result in (
      search rules,
      subst (EntryFits c.args.tree.now) (sym c.entry-item.is) (entry_among c.args.tree.now c.args.entries.now c.loop-entry.entry-index v (omega arith) c.requires),
    )
