use Rattle.std.proofs.Common.{[], refl}
use Rattle.recorder_state.specs.Inputs.{world_of}
use Rattle.recorder_state.proofs.Begun.{in_areas}
use Rattle.recorder_state.proofs.begin.complete.Goals as goal

pub new-requires-2-clause-globals : goal.new-requires-2-clause-globals
new-requires-2-clause-globals c = in_areas c.args.inputs.placed.now.globals c.requires.fit.placed.objects.global_areas

pub new-requires-2-clause-strings : goal.new-requires-2-clause-strings
new-requires-2-clause-strings c = in_areas c.args.inputs.placed.now.strings c.requires.fit.placed.objects.string_areas

pub returns : goal.returns
returns c =
    let w = world_of c.args.inputs in
    record {
      fit = c.requires.fit;
      past = [];
      follows = tt;
      steps = refl;
      memory = c.in_ok-memory.ensures w c.requires.fit refl;
      around = record {
        shown = record {
          threads = c.requires.threads;
          stamps = c.requires.stamps;
          book = c.in_ok-book.ensures w refl;
          output = c.new-4.ensures.items;
          system_output = c.new-5.ensures.items;
        };
        system = c.requires.system;
        interface = c.requires.interface;
        functions = c.requires.functions;
        prepared = c.new-3.ensures;
      };
      known = tt;
    }
