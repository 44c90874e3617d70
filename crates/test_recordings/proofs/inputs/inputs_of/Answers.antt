use Rattle.std.proofs.Common.{refl}
use Rattle.test_recordings.proofs.inputs.inputs_of.Goals as goal

pub placed_of-requires : goal.placed_of-requires
placed_of-requires c = (c.requires.0, c.requires.1, c.requires.2, c.requires.3)

pub returns-clause-fast : goal.returns-clause-fast
returns-clause-fast c =
    c.accepted_sources_fit.ensures c.requires.0 c.requires.1 c.deref.result.now c.args.source.now _ (record {
      source = c.in_ok-placed.ensures c.requires.0 c.requires.1 c.requires.3;
      code = refl;
      stubs = c.in_ok-stubs.ensures;
      file = c.in_ok-file.ensures;
    })

pub returns-clause-plain : goal.returns-clause-plain
returns-clause-plain c =
    c.accepted_sources_fit.ensures c.requires.0 c.requires.1 c.deref-2.result.now c.args.source.now _ (record {
      source = c.in_ok-placed.ensures c.requires.0 c.requires.1 c.requires.3;
      code = refl;
      stubs = c.in_ok-stubs.ensures;
      file = c.in_ok-plain_file.ensures;
    })
