-- What an accepted source has, as its code counts it.
use Rattle.std.proofs.Common.{◌≡◌, ◌≤◌, ◌<◌, ℕ, List, length, sym, ap, ◌∙◌, arith}
use Rattle.std.specs.List.{position_or_len}
use Rattle.std.proofs.lemmas.List.{length-map}
use Rattle.cut_graph_rules.specs.Sources.{Mentioned, mentions_of}
use Rattle.front_end.specs.declared.source.CheckedSource.{CheckedSource}
use Rattle.cut_check.specs.Sources.{is_named_main}
use Rattle.cut_check.proofs.Accepted.{Known, few_nodes}
use Rattle.cut_check.proofs.GuardFlags.{global_count}
use Rattle.cut_check.proofs.MainPlace.{function_count, main_place_is}
use Rattle.cut_check.proofs.Limits.{few_functions, few_globals, main_there}

module _ (bytes cut : List ℕ) (c : CheckedSource) (k : Known bytes cut c) where
  counted : length c.program.functions ≡ length k.program.functions
  counted = function_count c.program k.program k.is.program

  pub few : length c.program.functions ≤ 1000
  few = let n = few_functions k.says.right.ds k.program k.says.declares in omega (arith, counted, n)

  pub main_inside : position_or_len is_named_main c.program.functions < length c.program.functions
  main_inside =
      let place = main_place_is c.program k.program k.is.program in
      let there = main_there k.says.right.ds k.program k.says.declares in
      omega (arith, counted, place, there)

  mentioned_here : length (mentions_of k.program).functions ≡ length k.program.functions
  mentioned_here = length-map k.program.functions _

  globals_here : length (mentions_of k.program).globals ≡ length k.program.globals
  globals_here = length-map k.program.globals _

  pub mentioned : (n : Mentioned) → n ≡ mentions_of k.program → length n.functions ≡ length c.program.functions
  mentioned n e = ap (λ (m : Mentioned). length m.functions) e ∙ (mentioned_here ∙ sym counted)

  pub globals_mentioned : (n : Mentioned) → n ≡ mentions_of k.program → length n.globals ≤ 131072
  globals_mentioned n e =
      let same : length n.globals ≡ length k.program.globals = ap (λ (m : Mentioned). length m.globals) e ∙ globals_here in
      let declared = few_globals k.says.right.ds k.program k.says.declares in
      let nodes = few_nodes bytes cut k.program k.annotated k.says in
      omega (arith, same, declared, nodes)

  pub globals_declared : length c.program.globals ≤ 131072
  globals_declared =
      let same : length c.program.globals ≡ length k.program.globals = global_count c.program k.program k.is.program in
      let declared = few_globals k.says.right.ds k.program k.says.declares in
      let nodes = few_nodes bytes cut k.program k.annotated k.says in
      omega (arith, same, declared, nodes)
