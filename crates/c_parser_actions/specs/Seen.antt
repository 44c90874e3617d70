-- What the machine's lists are, of a parser.
use Rattle.std.specs.Prelude.{◌≡◌, List, [], ◌∷◌, reverse, Option, MatchOption, Result, IfOk}
use Rattle.std.specs.Borrow.{Bor}
use Rattle.c_lexer.specs.declared.token.Token.{Token}
use Rattle.c_parser_moves.specs.declared.frame.Frame.{Frame}
use Rattle.c_parser_moves.specs.declared.frame.Next.{Next}
use Rattle.c_parser_moves.specs.declared.action.Action.{Action}
use Rattle.c_parser_actions.specs.declared.parser.Parser.{Parser}
use Rattle.c_parser_moves.proofs.Machine.{Move, move, moved}

-- the actions so far, the newest first
unfoldable pub acts_seen : Parser → List Action
acts_seen p = reverse p.actions.items

-- the open constructs, the newest first
unfoldable pub opens_seen : Parser → List Frame
opens_seen p = reverse p.frames.items

-- what comes next, before these tokens
abbrev pub seen : Next → List Token → Parser → Move
seen n ts p = move n (acts_seen p) ts (opens_seen p)

-- the newest of the first constructs, and those below it, if there is any
abbrev pub IsTop : Option Frame → List Frame → List Frame → Type 0
IsTop r old new = MatchOption r ((old ≡ []) × (new ≡ [])) (λ f. old ≡ f ∷ new)

-- the parser goes from the first to the second by this move, unless it is out of memory
abbrev pub Goes : {E : Type 0}
    → Result (Next × Bor (List Token)) E → Parser → Parser → (List Frame → Move) → Type 0
Goes r old new m = IfOk r (λ x. seen x.0 x.1.now new ≡ moved (m (opens_seen old)) (acts_seen old))
