use Rattle.std.proofs.Common.{◌≡◌, ℕ, take, nat_eq}
use Rattle.std.specs.HashMap.{get}
use Rattle.c_types_program.specs.Programs.{texts_in}
use Rattle.c_lower_layout.specs.Indexed.{found}
use Rattle.c_lower_layout.proofs.orders.orders.Given as goal

abbrev pub invariant-loop-place : goal.invariant-loop-place
invariant-loop-place l = (q : ℕ) → get nat_eq l.orders q ≡ found q (texts_in (take l.place l.texts))
