use Rattle.std.proofs.Common.{List, [], ◌∷◌, ◌++◌, sym, ap, subst, ◌∙◌, arith}
use Rattle.std.specs.Vec.{vec_capacity}
use Rattle.system_side.specs.declared.threads.Standing.{Standing}
use Rattle.system_side.specs.declared.threads.Standing.TheVariants.{Ready}
use Rattle.system_side.specs.Threads.{IsKept}
use Rattle.system_side.proofs.Bits.{bits_one}
use Rattle.system_side.proofs.threads.Threads.new.Goals as goal

pub invariant_of-result : goal.invariant_of-result
invariant_of-result c =
    let items = c.push_reserved.ensures.items ∙ ap (λ (xs : List Standing). xs ++ Ready ∷ []) c.in_ok-standings.ensures.items in
    let kept : IsKept (vec_capacity c.push_reserved.new.self) 1 (Ready ∷ []) = record { enough_room = omega (arith, c.push_reserved.ensures.capacity, c.in_ok-standings.ensures.capacity); few = omega arith; bits = bits_one } in
    subst (λ (xs : List Standing). IsKept (vec_capacity c.push_reserved.new.self) 1 xs) (sym items) kept
