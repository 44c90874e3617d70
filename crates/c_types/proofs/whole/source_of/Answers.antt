use Rattle.std.proofs.Common.{sym, subst}
use Rattle.c_types_source.specs.Sources.{IsTypedSource}
use Rattle.c_types.specs.States.{program_of}
use Rattle.c_types.proofs.Ended.{typed_by}
use Rattle.c_types.proofs.whole.source_of.Goals as goal

pub new-requires : goal.new-requires
new-requires c =
    let (ds, f, h) = c.requires.declared in
    (ds, program_of c.args.declared, f, typed_by c.args.tree ds c.args.declared c.from.result c.from-2.result c.args.texts c.from.ensures c.from-2.ensures c.requires.sound h c.requires.right)

pub returns-clause-source : goal.returns-clause-source
returns-clause-source c = λ ds h.
    subst (IsTypedSource ds (program_of c.args.declared)) (sym c.new.ensures) (typed_by c.args.tree ds c.args.declared c.from.result c.from-2.result c.args.texts c.from.ensures c.from-2.ensures c.requires.sound h c.requires.right)
