use Rattle.std.proofs.Common.{[], ◌∷◌, refl}
use Rattle.std.proofs.lemmas.List.{reverse-append}
use Rattle.c_parser_actions.specs.Seen.{acts_seen, opens_seen}
use Rattle.c_parser_actions.proofs.parser.Parser.emit.Goals as goal

pub returns-clause-acts : goal.returns-clause-acts
unfolding acts_seen
returns-clause-acts c = rw c.in_ok-push.ensures.items (reverse-append c.args.self.now.actions.items (c.args.action ∷ []))

pub returns-clause-opens : goal.returns-clause-opens
unfolding opens_seen
returns-clause-opens c = refl
