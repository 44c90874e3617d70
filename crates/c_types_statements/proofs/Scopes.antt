-- Scopes that are opened and closed.
use Rattle.std.proofs.Common.{◌≡◌, drop, ap, ◌∙◌}
use Rattle.c_types_rules.specs.Environment.{inner}
use Rattle.c_types_environment.specs.States.{State}
use Rattle.c_types_expressions.specs.Found.{Stays, StaysAround}

-- a further scope
abbrev pub opened : State → State
opened s = record s { env = inner s.env }

-- one scope less
abbrev pub closed : State → State
closed s = record s { env = record s.env { scopes = drop 1 s.env.scopes } }

-- what is declared is as before once a scope is closed again
pub closed_again : (a b : State) → StaysAround (opened a) b → Stays a (closed b)
closed_again a b h = record { numbers = h.numbers; env = env }
  where
    env : (closed b).env ≡ a.env
    env =
        ap (λ z. record { tags = z; structs = b.env.structs; scopes = drop 1 b.env.scopes }) h.tags
        ∙ (ap (λ z. record { tags = a.env.tags; structs = z; scopes = drop 1 b.env.scopes }) h.structs
        ∙ ap (λ z. record { tags = a.env.tags; structs = a.env.structs; scopes = z }) h.outer)
