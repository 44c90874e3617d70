use Rattle.std.proofs.Common.{arith}
use Rattle.cut_check.specs.Sources.{cut_of}
use Rattle.cut_check.proofs.Accepted.{known}
use Rattle.cut_check.proofs.Facts.{few, globals_mentioned, main_inside, mentioned}
use Rattle.cut_check.proofs.FlagLists.{all_lent, as_slices}
use Rattle.cut_check.proofs.Said.{is_said}
use Rattle.cut_check.proofs.places.placed.Goals as goal

pub flags_of-requires-clause-functions : goal.flags_of-requires-clause-functions
flags_of-requires-clause-functions c =
    few c.requires.0 c.requires.1 c.args.source.now (known c.requires.0 c.requires.1 c.args.source.now c.requires.3)

pub flags_of-requires-clause-mentioned : goal.flags_of-requires-clause-mentioned
flags_of-requires-clause-mentioned c =
    let k = known c.requires.0 c.requires.1 c.args.source.now c.requires.3 in
    mentioned c.requires.0 c.requires.1 c.args.source.now k c.in_ok-mentions.mentions (c.in_ok-mentions.ensures k.program k.is.program)

pub flags_of-requires-clause-globals : goal.flags_of-requires-clause-globals
flags_of-requires-clause-globals c =
    let k = known c.requires.0 c.requires.1 c.args.source.now c.requires.3 in
    let few_globals = globals_mentioned c.requires.0 c.requires.1 c.args.source.now k c.in_ok-mentions.mentions (c.in_ok-mentions.ensures k.program k.is.program) in
    omega (arith, few_globals)

pub flags_of-requires-clause-main : goal.flags_of-requires-clause-main
flags_of-requires-clause-main c =
    main_inside c.requires.0 c.requires.1 c.args.source.now (known c.requires.0 c.requires.1 c.args.source.now c.requires.3)

pub place-requires-clause-fits : goal.place-requires-clause-fits
place-requires-clause-fits c =
    c.accepted_sources_can_be_placed.ensures c.requires.0 c.requires.1 c.args.source.now c.requires.2 c.requires.3

pub place-requires-clause-functions : goal.place-requires-clause-functions
place-requires-clause-functions c =
    let small = few c.requires.0 c.requires.1 c.args.source.now (known c.requires.0 c.requires.1 c.args.source.now c.requires.3) in
    omega (arith, small)

pub place-requires-clause-mentions : goal.place-requires-clause-mentions
place-requires-clause-mentions c =
    let k = known c.requires.0 c.requires.1 c.args.source.now c.requires.3 in
    let same = mentioned c.requires.0 c.requires.1 c.args.source.now k c.in_ok-mentions.mentions (c.in_ok-mentions.ensures k.program k.is.program) in
    let small = few c.requires.0 c.requires.1 c.args.source.now k in
    omega (arith, same, small)

pub place-requires-clause-flags : goal.place-requires-clause-flags
place-requires-clause-flags c =
    all_lent c.args.source.now.program c.in_ok-flags.flags c.as_slice.result.now c.as_slice-2.result.now c.as_slice-3.result.now
    c.as_slice.ensures.value c.as_slice-2.ensures.value c.as_slice-3.ensures.value c.in_ok-flags.ensures.each

pub returns : goal.returns
returns c = λ bytes cut p a accepted says.
    let source = c.args.source.now in
    let is = is_said bytes cut source p a accepted says in
    let mine = cut_of cut p a in
    let flags = c.in_ok-flags.ensures.flags cut p a is (c.in_ok-mentions.ensures p is.program) in
    let given = as_slices source.program c.in_ok-mentions.mentions c.in_ok-flags.flags mine c.as_slice.result.now c.as_slice-2.result.now c.as_slice-3.result.now c.as_slice.ensures.value c.as_slice-2.ensures.value c.as_slice-3.ensures.value flags in
    c.place.ensures mine given
