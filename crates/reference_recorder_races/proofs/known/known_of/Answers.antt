use Rattle.std.proofs.Common.{subst, sym, ap, ◌∙◌, length}
use Rattle.reference_recorder_races.specs.Told.{AreTold}
use Rattle.reference_recorder_races.proofs.known.known_of.Goals as goal

pub known_by-number-requires : goal.known_by-number-requires
known_by-number-requires c = ap length c.deref.ensures.value ∙ c.in_ok-told.ensures.count

pub returns : goal.returns
returns c = c.known_by-number.ensures c.args.other (subst (AreTold c.args.other c.args.marks.now) (sym c.deref.ensures.value) c.in_ok-told.ensures)
