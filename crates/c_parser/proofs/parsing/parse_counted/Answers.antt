use Rattle.c_parser.proofs.parsing.parse_counted.Goals as goal

pub returns-clause-refused : goal.returns-clause-refused
returns-clause-refused c = c.build_counted.ensures.refused c.args.tokens.now c.in_ok-actions.ensures.found
