use Rattle.std.proofs.Common.{[], refl, arith}
use Rattle.std.proofs.lemmas.List.Elements.{Contains-push}
use Rattle.cut_graph_rules.specs.declared.mention.Mention.TheVariants.{Function, Global}
use Rattle.cut_graph_rules.specs.MayRun.{begins, crosses, in_body, in_value, stays}
use Rattle.cut_graph_rules.proofs.cases.names_pass_modes_on.Goals as goal

pub returns-clause-crosses : goal.returns-clause-crosses
returns-clause-crosses c = crosses begins (in_body (Contains-push [] (Function 16))) (omega arith) refl

pub returns-clause-in_value : goal.returns-clause-in_value
returns-clause-in_value c =
    stays begins (in_value {g = 0} (Contains-push [] (Global 0)) (Contains-push [] (Function 16))) (omega arith) refl
