-- No promise: the parser's own moves over lists, which the proofs compare with the grammar. A move has what
-- comes next, its actions with the newest first, the tokens that are left and the open constructs with the
-- newest first.
use Rattle.std.specs.Prelude.{ℕ, List, [], ◌∷◌, ◌++◌}
use Rattle.c_lexer.specs.declared.token.Token.{Token}
use Rattle.c_syntax.specs.Levels.{from_of}
use Rattle.c_parser_moves.specs.declared.frame.Frame.{Frame}
use Rattle.c_parser_moves.specs.declared.frame.Frame.TheVariants as frames
use Rattle.c_parser_moves.specs.declared.frame.Next.{Next}
use Rattle.c_parser_moves.specs.declared.frame.Next.TheVariants as nexts
use Rattle.c_parser_moves.specs.declared.action.Action.{Action}

pub record Move : Type 0 where
  pub next : Next
  pub acts : List Action
  pub rest : List Token
  pub opens : List Frame

abbrev pub move : Next → List Action → List Token → List Frame → Move
move n out ts K = record { next = n; acts = out; rest = ts; opens = K }

-- the move after these actions
abbrev pub moved : Move → List Action → Move
moved m out = move m.next (m.acts ++ out) m.rest m.opens

abbrev pub fail : List Token → List Frame → Move
fail ts K = move nexts.Fail [] ts K

abbrev pub tail : List Token → List Token
tail [] = []
tail (t ∷ ts) = ts

-- an expression of level m is to be read
abbrev pub begin : ℕ → List Action → List Token → List Frame → Move
begin m out ts K = move nexts.Operand out ts (frames.Climb m (from_of ts) ∷ K)
