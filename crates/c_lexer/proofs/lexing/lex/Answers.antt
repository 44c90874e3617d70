use Rattle.c_lexer.specs.declared.error.LexError.TheVariants as errors
use Rattle.c_lexer.proofs.Exact.{ok_exactly, error_exactly, not_bad_byte, not_open_text, not_big_number, not_directive}
use Rattle.c_lexer.proofs.lexing.lex.Goals as goal

pub returns-clause-ok : goal.returns-clause-ok
returns-clause-ok c other = ok_exactly (λ v. v.items) c.args.source.now _ c.read_tokens.ensures.tokens c.read_tokens.ensures.refused other

pub returns-clause-bad_byte : goal.returns-clause-bad_byte
returns-clause-bad_byte c at other = error_exactly (λ v. v.items) c.args.source.now _ (errors.BadByte at) (not_bad_byte at) c.read_tokens.ensures.tokens c.read_tokens.ensures.refused other

pub returns-clause-open_text : goal.returns-clause-open_text
returns-clause-open_text c at other = error_exactly (λ v. v.items) c.args.source.now _ (errors.OpenText at) (not_open_text at) c.read_tokens.ensures.tokens c.read_tokens.ensures.refused other

pub returns-clause-big_number : goal.returns-clause-big_number
returns-clause-big_number c at other = error_exactly (λ v. v.items) c.args.source.now _ (errors.BigNumber at) (not_big_number at) c.read_tokens.ensures.tokens c.read_tokens.ensures.refused other

pub returns-clause-directive : goal.returns-clause-directive
returns-clause-directive c at other = error_exactly (λ v. v.items) c.args.source.now _ (errors.Directive at) (not_directive at) c.read_tokens.ensures.tokens c.read_tokens.ensures.refused other
