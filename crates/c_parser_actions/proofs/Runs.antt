-- A run of the parser over pieces of trees.
use Rattle.std.proofs.Common.{ℕ, List, ◌∷◌}
use Rattle.c_lexer.specs.declared.token.Token.{Token}
use Rattle.c_syntax.specs.Levels.{from_of}
use Rattle.c_parser_moves.specs.declared.frame.Frame.{Frame}
use Rattle.c_parser_moves.specs.declared.frame.Frame.TheVariants as fr
use Rattle.c_parser_moves.specs.declared.frame.Next.{Next}
use Rattle.c_parser_moves.specs.declared.frame.Next.TheVariants as nx
use Rattle.c_parser_actions.specs.Pieces.{Piece, acted}
use Rattle.c_parser_moves.proofs.Machine.{Move}
use Rattle.c_parser_moves.proofs.MachineSteps.{step}

pub record TState : Type 0 where
  pub next : Next
  pub pieces : List Piece
  pub rest : List Token
  pub opens : List Frame

abbrev pub tstate : Next → List Piece → List Token → List Frame → TState
tstate n P ts K = record { next = n; pieces = P; rest = ts; opens = K }

-- a move, made
abbrev pub run : Move → List Piece → TState
run m P = tstate m.next (acted m.acts P) m.rest m.opens

-- an expression of level m is to be read
abbrev pub start_expr : ℕ → List Piece → List Token → List Frame → TState
start_expr m P ts K = tstate nx.Operand P ts (fr.Climb m (from_of ts) ∷ K)

-- what a run comes to
pub data Reaches : TState → TState → Type 0 where
  here : {s : TState} → Reaches s s
  go : {n : Next} {P : List Piece} {ts : List Token} {K : List Frame} {s : TState} → Reaches (run (step n ts K) P) s → Reaches (tstate n P ts K) s

pub then : {a b c : TState} → Reaches a b → Reaches b c → Reaches a c
then here s = s
then (go r) s = go (then r s)
