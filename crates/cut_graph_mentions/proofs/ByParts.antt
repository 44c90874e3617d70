-- What a program mentions, by its parts.
use Rattle.std.proofs.Common.{◌≡◌, List, map, ap, ◌∙◌}
use Rattle.c_types_rules.specs.Sources.{Program}
use Rattle.c_types_nodes.specs.Tables.{Table}
use Rattle.c_types_program.specs.declared.function.Function.{Function}
use Rattle.c_types_program.specs.declared.global.Global.{Global}
use Rattle.c_types_program.specs.Declarations.{Declared, function_in, global_in}
use Rattle.c_types_program.specs.Programs.{IsProgram}
use Rattle.cut_graph_rules.specs.declared.mention.Mention.{Mention}
use Rattle.cut_graph_rules.specs.Sources.{function_mentions, global_mentions, mentioned, mentions_of}

pub of_functions : (t u : Table) (fs gs : List Function) (a : List (List Mention)) → t ≡ u → fs ≡ gs → a ≡ map (λ f. function_mentions f.body) (map (function_in t) fs) →
    a ≡ map (λ f. function_mentions f.body) (map (function_in u) gs)
of_functions t u fs gs a e h is =
    is ∙ (ap (λ (x : Table). map (λ f. function_mentions f.body) (map (function_in x) fs)) e ∙
    ap (λ (x : List Function). map (λ f. function_mentions f.body) (map (function_in u) x)) h)

pub of_globals : (t u : Table) (fs gs : List Global) (a : List (List Mention)) → t ≡ u → fs ≡ gs → a ≡ map global_mentions (map (global_in t) fs) →
    a ≡ map global_mentions (map (global_in u) gs)
of_globals t u fs gs a e h is =
    is ∙ (ap (λ (x : Table). map global_mentions (map (global_in x) fs)) e ∙
    ap (λ (x : List Global). map global_mentions (map (global_in u) x)) h)

pub of_program : (p : Declared) (source : Program) (a b : List (List Mention)) → IsProgram p source →
    a ≡ map (λ f. function_mentions f.body) (map (function_in p.table) p.functions) → b ≡ map global_mentions (map (global_in p.table) p.globals) → mentioned a b ≡ mentions_of source
of_program p source a b is f g =
    ap (λ (x : List (List Mention)). mentioned x b) f ∙ (ap (mentioned (map (λ f. function_mentions f.body) (map (function_in p.table) p.functions))) g ∙ ap mentions_of is)
