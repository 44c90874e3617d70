use Rattle.std.proofs.Common.{◌≡◌, ◌+◌, ◌<◌, List, [], ◌∷◌, drop, rules, sym, ap, ◌∙◌, subst, arith}
use Rattle.std.proofs.lemmas.List.{drop_all}
use Rattle.c_types_rules.specs.Initials as tree
use Rattle.c_types_program.specs.declared.global.Initial.{Initial}
use Rattle.c_types_program.specs.Declarations.{initial_in, initials_in}
use Rattle.cut_graph_rules.specs.Sources.{initial_mentions, initials_mentions}
use Rattle.cut_graph_mentions.specs.Growing.{IsAdded}
use Rattle.cut_graph_mentions.proofs.Growing.{nothing, two}
use Rattle.cut_graph_mentions.proofs.Lists.{listed_means, one_lighter_value, one_more}
use Rattle.cut_graph_mentions.proofs.Weights.{initial_weight, initials_weight}
use Rattle.cut_graph_mentions.proofs.initials.+initials.Goals as goal

pub initial-initials-requires : goal.initial-initials-requires
initial-initials-requires t c =
    let means : tree.Listed (initials_in c.deref.result.now) ≡ initial_in c.args.value.now =
    ap (λ (xs : List Initial). tree.Listed (initials_in xs)) c.deref.ensures.value ∙ (sym (listed_means c.in-Listed.inner) ∙ ap initial_in (sym c.in-Listed.is)) in
    let smaller : initials_weight (initials_in c.deref.result.now) < initial_weight (initial_in c.args.value.now) = omega (arith, ap initial_weight means) in
    search rules

pub initial-returns-in-Listed : goal.initial-returns-in-Listed
initial-returns-in-Listed t c =
    let means : tree.Listed (initials_in c.deref.result.now) ≡ initial_in c.args.value.now =
    ap (λ (xs : List Initial). tree.Listed (initials_in xs)) c.deref.ensures.value ∙ (sym (listed_means c.in-Listed.inner) ∙ ap initial_in (sym c.in-Listed.is)) in
    subst (λ (x : tree.Initial). IsAdded c.args.found.now (initial_mentions x) c.initials.new.found) means c.initials.ensures

pub initials-initial-requires : goal.initials-initial-requires
initials-initial-requires t c =
    let smaller : initial_weight (initial_in c.index-values-i.result) < initials_weight (initials_in c.args.values.now) =
    one_lighter_value c.args.values.now c.loop-i.i c.index-values-i.result (omega arith) c.index-values-i.is in
    search rules

pub initials-loop-i-preserved : goal.initials-loop-i-preserved
initials-loop-i-preserved t c =
    let xs = c.args.values.now in
    let x = c.index-values-i.result in
    let more : drop c.loop-i.i xs ≡ x ∷ drop (c.loop-i.i + 1) xs = one_more xs c.loop-i.i x (omega arith) c.index-values-i.is in
    λ q h. c.loop-i.invariant q (subst (λ (ys : List Initial). IsAdded c.loop-i.found (initials_mentions (initials_in ys)) q) (sym more) (two c.initial.ensures h))

pub initials-returns : goal.initials-returns
initials-returns t c =
    let xs = c.args.values.now in
    let all : drop c.loop-i.i xs ≡ [] = drop_all c.loop-i.i xs (omega arith) in
    c.loop-i.invariant _ (subst (λ (ys : List Initial). IsAdded c.loop-i.found (initials_mentions (initials_in ys)) c.loop-i.found) (sym all) (nothing c.loop-i.found))
