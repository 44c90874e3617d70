use Rattle.std.proofs.Common.{◌≡◌, List, IfOk, refl, subst}
use Rattle.c_lexer.specs.declared.token.Token.{Token}
use Rattle.c_parser_moves.specs.declared.frame.Frame.{Frame}
use Rattle.c_parser_moves.specs.declared.frame.Next.{Next}
use Rattle.c_parser_moves.specs.declared.frame.Next.TheVariants as nexts
use Rattle.c_parser_moves.proofs.Machine.{Move, moved}
use Rattle.c_parser_moves.proofs.MachineSteps.{read_next}
use Rattle.c_parser_actions.specs.Plans.{read_ahead}
use Rattle.c_parser_actions.specs.Seen.{acts_seen, opens_seen, seen}
use Rattle.c_parser_actions.proofs.parser.Parser.read.Goals as goal

-- nothing is taken off for these
ahead_only : (n : Next) (ts : List Token) (K : List Frame) → (n ≡ nexts.Entry → ⊥) → (n ≡ nexts.MemberEnd → ⊥) → (n ≡ nexts.Top → ⊥) → read_ahead n ts K ≡ read_next n ts K
unfolding read_ahead
ahead_only nexts.Entry ts K entry member top = absurd (entry refl)
ahead_only nexts.MemberEnd ts K entry member top = absurd (member refl)
ahead_only nexts.Top ts K entry member top = absurd (top refl)
ahead_only _ ts K entry member top = refl

pub returns-in_default : goal.returns-in_default
returns-in_default c =
    let old = c.args.self.now in
    subst (λ (m : Move). IfOk c.go.result (λ x. seen x.0 x.1.now c.go.new.self ≡ moved m (acts_seen old)))
    (ahead_only c.args.next c.args.rest.now (opens_seen old) c.in_default.not-Entry c.in_default.not-MemberEnd c.in_default.not-Top)
    (c.go.ensures (read_ahead c.args.next c.args.rest.now) c.plan_ahead.ensures)
