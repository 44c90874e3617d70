use Rattle.std.proofs.Common.{[], ◌∷◌, false, ◌∙◌}
use Rattle.c_code.specs.Machine.{Starting}
use Rattle.recorder_threads.proofs.telling.begun.Goals as goal

pub returns : goal.returns
returns c = λ placed. record {
  is = c.start.ensures.started ∙ (λ i. record {
    number = (c.in_ok-thread.ensures.new i).number;
    depth = (c.in_ok-thread.ensures.new i).depth;
    made = false;
    config = Starting (c.start_of.ensures.is placed i) (c.args.argument ∷ []);
  });
  inside = c.start.ensures.inside placed;
}
