-- What is too much for flat code is too much in the source.
use Rattle.std.proofs.Common.{◌≡◌, ◌<◌, ◌≤◌, ◌↔◌, if◌then◌else◌, ℕ, List, Option, Some, None, option_map, Result, Err, sym, ap, ◌∙◌, refl, arith, le-ltb, lt-ltb}
use Rattle.source_limits.specs.Limits.{most_nodes}
use Rattle.c_code.specs.Machine.{Flat}
use Rattle.c_syntax.specs.Syntax.{Decls}
use Rattle.c_parser_nodes.specs.Counts.{capped, source_nodes}
use Rattle.c_types_rules.specs.Sources.{Function, Program}
use Rattle.c_lower.specs.declared.error.LowerError.{LowerError}
use Rattle.c_lower.specs.declared.error.LowerError.TheVariants as lowering
use Rattle.c_lower.specs.Depths.{first_wide}
use Rattle.front_end.specs.declared.error.SourceError.{SourceError}
use Rattle.front_end.specs.declared.error.SourceError.TheVariants as errors
use Rattle.front_end.specs.declared.error.SourceLimit.TheVariants.{Nodes, Values}
use Rattle.front_end.specs.Answers.{IsTooLarge}
use Rattle.front_end.specs.Errors.{by_code}
use Rattle.front_end.specs.Sources.{too_large}

-- that the evaluation stack is too deep, where there is such a function
abbrev if_wide : Option ℕ → Option SourceError
if_wide wide = option_map (λ (f : ℕ). errors.Limit Values) wide

-- so many nodes were counted, and these are the functions of the program
module _ (ds : Decls) (p : Program) (fs : List Function) (count : ℕ) (nodes : count ≡ capped (source_nodes ds)) (same : fs ≡ p.functions) where
  many_nodes : most_nodes < count → too_large ds p ≡ Some (errors.Limit Nodes)
  many_nodes h =
      let more : most_nodes < source_nodes ds = omega (arith, h, nodes) in
      ap (λ b. if b then Some (errors.Limit Nodes) else if_wide (first_wide 0 p.functions)) (lt-ltb most_nodes (source_nodes ds) more)

  few_nodes : count ≤ most_nodes → too_large ds p ≡ if_wide (first_wide 0 fs)
  few_nodes h =
      let less : source_nodes ds ≤ most_nodes = omega (arith, h, nodes) in
      ap (λ b. if b then Some (errors.Limit Nodes) else if_wide (first_wide 0 p.functions)) (le-ltb most_nodes (source_nodes ds) less)
      ∙ ap (λ (gs : List Function). if_wide (first_wide 0 gs)) (sym same)

  -- nothing is too much where the nodes are few and no function is wide
  pub small : (count ≤ most_nodes) × (first_wide 0 fs ≡ None) → too_large ds p ≡ None
  small (few, none) = few_nodes few ∙ ap if_wide none

  -- what is answered is too much
  pub large : (e : LowerError) → (◌≡◌ {A = Result Flat LowerError} (Err e) (Err lowering.Long) ↔ (most_nodes < count))
      → ((f : ℕ) → ◌≡◌ {A = Result Flat LowerError} (Err e) (Err (lowering.Wide f)) ↔ ((count ≤ most_nodes) × (first_wide 0 fs ≡ Some f))) → IsTooLarge ds p (by_code e)
  large lowering.Memory long wide = tt
  large lowering.Long long wide = many_nodes (long.0 refl)
  large (lowering.Wide f) long wide = let w = (wide f).0 refl in few_nodes w.0 ∙ ap if_wide w.1
