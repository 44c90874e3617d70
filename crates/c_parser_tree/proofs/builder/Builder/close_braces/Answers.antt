use Rattle.std.proofs.Common.{sym}
use Rattle.c_syntax.specs.declared.declaration.Value.TheVariants.{rolls-Braces}
use Rattle.c_parser_tree.proofs.Braced.{braced}
use Rattle.c_parser_tree.proofs.builder.Builder.close_braces.Goals as goal

pub returns : goal.returns
returns c = braced c.put_value.result c.args.from c.args.self.now c.pop_values.new.self c.put_value.new.self c.in_ok-pop_values.field-0 c.into_vec-values.result _ (sym (rolls-Braces c.args.from c.into_vec-values.result)) c.in_ok-pop_values.ensures.taken c.pop_values.ensures.nodes c.into_vec-values.ensures.items c.put_value.ensures
