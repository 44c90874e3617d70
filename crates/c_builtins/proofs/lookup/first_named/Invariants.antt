use Rattle.std.proofs.Common.{◌≡◌, drop, nat_eq}
use Rattle.std.specs.List.{find}
use Rattle.std.specs.Cmp.Lexicographic.{pointwise}
use Rattle.c_builtins.specs.Table.{name_of}
use Rattle.c_builtins.proofs.lookup.first_named.Given as goal

abbrev pub invariant-loop-builtin : goal.invariant-loop-builtin
invariant-loop-builtin l = find (λ b. pointwise nat_eq l.name (name_of b)) (drop l.builtin-index l.builtins) ≡ find (λ b. pointwise nat_eq l.name (name_of b)) l.builtins
