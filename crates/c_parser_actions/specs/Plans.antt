-- What a plan of the parser does to the constructs that are open, as a move of the machine.
use Rattle.std.specs.Prelude.{◌≡◌, List, [], ◌∷◌}
use Rattle.c_lexer.specs.declared.token.Token.{Token}
use Rattle.c_parser_moves.specs.declared.action.Action.{Action}
use Rattle.c_parser_moves.specs.declared.frame.Frame.{Frame}
use Rattle.c_parser_moves.specs.declared.frame.Next.{Next}
use Rattle.c_parser_moves.specs.declared.frame.Next.TheVariants as nexts
use Rattle.c_parser_actions.specs.declared.plan.Acts.{Acts}
use Rattle.c_parser_actions.specs.declared.plan.Acts.TheVariants as acts
use Rattle.c_parser_actions.specs.declared.plan.Plan.{Plan}
use Rattle.c_parser_actions.specs.declared.plan.Plan.TheVariants as plans
use Rattle.c_parser_actions.specs.declared.plan.Then.TheVariants as thens
use Rattle.c_parser_moves.proofs.Machine.{Move, move, fail, begin}
use Rattle.c_parser_moves.proofs.MachineSteps.{read_next}

-- the actions, the newest first
abbrev pub acts_of : Acts → List Action
acts_of acts.None = []
acts_of (acts.One a) = a ∷ []
acts_of (acts.Two a b) = b ∷ a ∷ []
acts_of (acts.Three a b c) = c ∷ b ∷ a ∷ []
acts_of (acts.Four a b c d) = d ∷ c ∷ b ∷ a ∷ []

-- what the plan makes of the constructs that are open
abbrev pub planned : Plan → List Frame → Move
planned (plans.Refuse ts) K = fail ts.now K
planned (plans.Do a (thens.Go n) ts) K = move n (acts_of a) ts.now K
planned (plans.Do a (thens.Open o n) ts) K = move n (acts_of a) ts.now (o ∷ K)
planned (plans.Do a (thens.Read o m) ts) K = begin m (acts_of a) ts.now (o ∷ K)
planned (plans.ReadIn p o m ts) K = begin m [] ts.now (o ∷ p ∷ K)

-- the plan is this move, whatever is open
abbrev pub Plans : Plan → (List Frame → Move) → Type 0
Plans p m = (K : List Frame) → planned p K ≡ m K

-- the moves by what the rest begins with that take no construct off, and none in place of the others
unfoldable pub read_ahead : Next → List Token → List Frame → Move
read_ahead nexts.Entry ts K = fail ts K
read_ahead nexts.MemberEnd ts K = fail ts K
read_ahead nexts.Top ts K = fail ts K
read_ahead n ts K = read_next n ts K
