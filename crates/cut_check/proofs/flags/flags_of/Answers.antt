use Rattle.std.proofs.Common.{List, length, ap, ◌∙◌, ◌+◌}
use Rattle.c_builtins.specs.Table.{first_source_function}
use Rattle.c_types_program.specs.declared.function.Function.{Function}
use Rattle.cut_check.proofs.FlagLists.{as_many, flags_here}
use Rattle.cut_check.proofs.flags.flags_of.Goals as goal

pub returns-clause-each : goal.returns-clause-each
returns-clause-each c =
    let count = c.count_of-count.ensures ∙ ap (λ (fs : List Function). first_source_function + length fs) c.functions-functions.ensures.functions in
    record {
      each_above = as_many _ c.count_of-count.result c.in_ok-above.above.items c.in_ok-above.ensures ∙ count;
      each_below = as_many _ c.count_of-count.result c.in_ok-below.below.items c.in_ok-below.ensures ∙ count;
      each_face = as_many _ c.count_of-count.result c.in_ok-faces.faces.items c.in_ok-faces.ensures ∙ count;
    }

pub returns-clause-flags : goal.returns-clause-flags
returns-clause-flags c = λ cut p a is mentioned.
    flags_here c.args.source.now c.args.mentions.now c.in_ok-modes.modes cut p a c.functions-functions.result.now c.count_of-count.result c.main_of-main.result
    (record { above = c.in_ok-above.above; below = c.in_ok-below.below; faces = c.in_ok-faces.faces }) is mentioned
    (λ f. c.interfaces_say_what_annotations_say.ensures.faces cut a c.args.source.now.interface f is.interface) c.functions-functions.ensures.functions c.main_of-main.ensures
    c.count_of-count.ensures c.requires.mentioned c.requires.main c.in_ok-modes.ensures c.in_ok-above.ensures c.in_ok-below.ensures c.in_ok-faces.ensures
