-- Giving to the construct that was opened last.
use Rattle.std.proofs.Common.{◌≡◌, List, ◌∷◌, Result, IfOk, sym, subst}
use Rattle.std.specs.Borrow.{Bor}
use Rattle.c_lexer.specs.declared.token.Token.{Token}
use Rattle.c_parser_moves.specs.declared.action.Action.{Action}
use Rattle.c_parser_moves.specs.declared.frame.Frame.{Frame}
use Rattle.c_parser_moves.specs.declared.frame.Next.{Next}
use Rattle.c_parser_actions.specs.declared.parser.Parser.{Parser}
use Rattle.c_parser_moves.proofs.Machine.{moved}
use Rattle.c_parser_moves.proofs.MachineSteps.{give_next, given}
use Rattle.c_parser_actions.specs.Seen.{Goes, acts_seen, opens_seen, seen}

-- what the construct makes of it, with the others, is what all make of it
pub newest_goes : {E : Type 0} (r : Result (Next × Bor (List Token)) E) (a b z : Parser) (n : Next) (f : Frame) (ts : List Token) → opens_seen a ≡ f ∷ opens_seen b → acts_seen b ≡ acts_seen a
    → Goes r b z (give_next n f ts) → Goes r a z (given n ts)
newest_goes r a b z n f ts o s g =
    subst (λ (K : List Frame). IfOk r (λ x. seen x.0 x.1.now z ≡ moved (given n ts K) (acts_seen a))) (sym o)
    (subst (λ (out : List Action). IfOk r (λ x. seen x.0 x.1.now z ≡ moved (give_next n f ts (opens_seen b)) out)) s g)
