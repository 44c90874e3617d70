use Rattle.std.proofs.Common.{sym, ap, ◌∙◌}
use Rattle.std.specs.Option.{option_or}
use Rattle.replay_runs.specs.Pool.{in_use}
use Rattle.whole_runs.specs.World.{begin}
use Rattle.whole_runs.specs.Sides.{seen}
use Rattle.whole_runs.specs.Below.{region_under}
use Rattle.reference_recorder_marks.specs.Marks.{past}
use Rattle.reference_recorder_targets.proofs.places.region_under.Goals as goal

pub returns-in-Replay : goal.returns-in-Replay
returns-in-Replay c = λ w h.
    c.in_use-above.ensures w ∙ ap (λ s. region_under w s c.args.key (past c.args.marks.now)) (sym c.in-Replay.is)

pub returns-in_ok-below-in-System : goal.returns-in_ok-below-in-System
returns-in_ok-below-in-System c = λ w h.
    c.or.ensures
    ∙ (ap (λ r. option_or r c.in_ok-below-in-System.below) (c.in_use-above.ensures w)
    ∙ (ap (option_or (in_use (begin w) c.args.key (seen (past c.args.marks.now)))) (c.in_ok-below-in-System.ensures w h)
    ∙ ap (λ s. region_under w s c.args.key (past c.args.marks.now)) (sym c.in-System.is)))
