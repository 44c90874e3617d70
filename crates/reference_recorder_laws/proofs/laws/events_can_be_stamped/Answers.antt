use Rattle.std.proofs.Common.{◌++◌, subst, arith}
use Rattle.reference_recorder_stamps.specs.Numbers.{ClocksFit, SeesEvents}
use Rattle.reference_recorder_laws.proofs.Short.{few_marks}
use Rattle.reference_recorder_laws.proofs.Stamped.{clocks_at_end, clocks_count, clocks_without, sees_events}
use Rattle.reference_recorder_laws.proofs.laws.events_can_be_stamped.Goals as goal

pub returns-clause-seen : goal.returns-clause-seen
returns-clause-seen c = λ w marks p. subst SeesEvents p.same (sees_events w p.run p.follows)

pub returns-clause-clocks : goal.returns-clause-clocks
returns-clause-clocks c = λ w marks p. subst ClocksFit p.same (λ l.
    let few = few_marks w p.fit p.run p.follows in
    let le = clocks_without _ p.run (clocks_count w p.run p.follows) l in
    omega (arith, few, le))

pub returns-clause-at_end : goal.returns-clause-at_end
returns-clause-at_end c = λ w marks p. subst ClocksFit p.same (λ l.
    let few = few_marks w p.fit p.past p.follows in
    let le = clocks_without _ (p.last ++ p.past) (clocks_at_end w p.past p.last p.ending p.follows p.ends) l in
    omega (arith, few, le))
