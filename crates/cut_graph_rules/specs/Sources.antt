-- What the functions and globals of a source mention.
use Rattle.std.specs.Prelude.{List, [], ◌∷◌, ◌++◌, map, Option, Some, None}
use Rattle.c_types_rules.specs.TypedTree.{Body}
use Rattle.c_types_rules.specs.Initials.{Known, Initial, Initials, Number, AddressOfText, AddressOfGlobal, AddressOfFunction, Scalar, Bytes, Listed, NoInitials, MoreInitials}
use Rattle.c_types_rules.specs.Sources as sources
use Rattle.c_types_rules.specs.Sources.{Program}
use Rattle.cut_graph_rules.specs.declared.mention.Mention.{Mention}
use Rattle.cut_graph_rules.specs.declared.mention.Mention.TheVariants.{Function}
use Rattle.cut_graph_rules.specs.Mentions.{statement_mentions, unevaluated_mentions}

-- a body, with what stands in it unevaluated; what stands in the types of its parameters is no part of it
abbrev pub body_mentions : Body → List Mention
body_mentions b = statement_mentions b.statements ++ unevaluated_mentions b.unevaluated

-- a function without a body mentions nothing
abbrev pub function_mentions : Option Body → List Mention
function_mentions (Some b) = body_mentions b
function_mentions None = []

-- ---- values of globals

-- only functions that are named here count where a global is named; a global's address in the value of another
-- is followed no further
abbrev pub known_mentions : Known → List Mention
known_mentions (Number n) = []
known_mentions (AddressOfText from) = []
known_mentions (AddressOfGlobal place) = []
known_mentions (AddressOfFunction from number) = Function number ∷ []

abbrev mutual
  pub initial_mentions : Initial → List Mention
  initial_mentions (Scalar k) = known_mentions k
  initial_mentions (Bytes bytes) = []
  initial_mentions (Listed xs) = initials_mentions xs

  pub initials_mentions : Initials → List Mention
  initials_mentions NoInitials = []
  initials_mentions (MoreInitials x xs) = initial_mentions x ++ initials_mentions xs

abbrev pub given_mentions : Option Initial → List Mention
given_mentions (Some x) = initial_mentions x
given_mentions None = []

-- the value of a global, with what stands in it unevaluated
abbrev pub global_mentions : sources.Global → List Mention
global_mentions g = given_mentions g.value ++ unevaluated_mentions g.unevaluated

-- ---- sources

-- what each function mentions, by its number less 16, and what the value of each global mentions, by place
pub record Mentioned : Type 0 where
  pub functions : List (List Mention)
  pub globals : List (List Mention)

abbrev pub mentioned : (functions globals : List (List Mention)) → Mentioned
mentioned functions globals = record { functions = functions; globals = globals }

abbrev pub mentions_of : Program → Mentioned
mentions_of p =
    mentioned (map (λ f. function_mentions f.body) p.functions) (map global_mentions p.globals)
