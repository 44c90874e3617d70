use Rattle.std.proofs.Common.{◌∷◌, refl, sym, subst}
use Rattle.race_watch.specs.Told.{Accessed}
use Rattle.race_watch.specs.Stands.{Stands}
use Rattle.race_watch.proofs.Raced.{constants_stand}
use Rattle.race_watch.proofs.watch.Watch.access_unseen.Goals as goal

pub returns-then-has_constants_alone-clause-told : goal.returns-then-has_constants_alone-clause-told
returns-then-has_constants_alone-clause-told c = λ past h.
    subst (Stands (Accessed c.args.thread c.args.range c.args.write ∷ past)) (sym (c.if-take_few.ensures.unchanged refl))
    (constants_stand past c.args.self.now c.args.thread c.args.range c.args.write h (c.if-has_constants_alone.ensures refl))
