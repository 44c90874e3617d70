use Rattle.std.proofs.Common.{◌≡◌, ◌++◌, drop}
use Rattle.c_types.specs.Texts.{texts_among}
use Rattle.c_types.proofs.texts.texts_of.Given as goal

abbrev pub invariant-loop-token : goal.invariant-loop-token
invariant-loop-token l = texts_among l.tokens ≡ l.texts.items ++ texts_among (drop l.token-index l.tokens)
