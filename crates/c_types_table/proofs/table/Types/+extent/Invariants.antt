use Rattle.c_types_table.proofs.table.Types.+extent.Given as goal

abbrev pub decreases-extent : goal.decreases-extent
decreases-extent l = l.id.0
