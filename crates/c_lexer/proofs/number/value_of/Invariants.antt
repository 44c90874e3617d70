use Rattle.std.proofs.Common.{◌≡◌, ◌<◌, ◌^◌, drop}
use Rattle.c_lexer.specs.Numbers.{number_from}
use Rattle.c_lexer.proofs.number.value_of.Given as goal

abbrev pub invariant-loop-digit : goal.invariant-loop-digit
invariant-loop-digit l = record { so_far : number_from l.base l.value (drop l.digit-index l.digits) ≡ number_from l.base 0 l.digits; fits : l.value < 2 ^ 64 }
