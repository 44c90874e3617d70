use Rattle.std.proofs.Common.{◌≡◌, drop}
use Rattle.std.specs.List.{find}
use Rattle.c_lexer.specs.Signs.{begins_with}
use Rattle.c_lexer.proofs.spelling.first_sign.Given as goal

abbrev pub invariant-loop-sign : goal.invariant-loop-sign
invariant-loop-sign l = find (λ s. begins_with l.bytes s) (drop l.sign-index l.signs) ≡ find (λ s. begins_with l.bytes s) l.signs
