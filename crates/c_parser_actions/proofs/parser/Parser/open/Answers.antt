use Rattle.std.proofs.Common.{[], ◌∷◌, refl}
use Rattle.std.proofs.lemmas.List.{reverse-append}
use Rattle.c_parser_actions.specs.Seen.{acts_seen, opens_seen}
use Rattle.c_parser_actions.proofs.parser.Parser.open.Goals as goal

pub returns-clause-opens : goal.returns-clause-opens
unfolding opens_seen
returns-clause-opens c = rw c.in_ok-push.ensures.items (reverse-append c.args.self.now.frames.items (c.args.frame ∷ []))

pub returns-clause-acts : goal.returns-clause-acts
unfolding acts_seen
returns-clause-acts c = refl
