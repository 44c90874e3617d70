-- What stays where a type name is read.
use Rattle.std.proofs.Common.{◌≡◌, ℕ, zero, suc, ◌≤◌, length, refl, arith}
use Rattle.c_types_table.specs.declared.ids.TypeId.{TypeId}
use Rattle.c_types_table.specs.Tables.{at, types_of}
use Rattle.c_types_environment.specs.States.{State}
use Rattle.c_types_expressions.specs.Found.{Stays as StaysThere}
use Rattle.annot_reader_functions.specs.Rules.{Stays}
use Rattle.annot_reader_functions.specs.Seen.{declared_by}
use Rattle.annot_reader_functions.proofs.Numbers.{as_many_types}

pub seen_stays : (a b : State) → StaysThere a b → Stays (declared_by a) (declared_by b)
seen_stays a b k = record {
  env = k.env;
  types = λ id t n.
      (let before = as_many_types a.table.types in
      let after = as_many_types b.table.types in
      let m = k.numbers.types.names id t (record { inside = omega (arith, n.inside); is = n.is }) in
      record { inside = omega (arith, m.inside); is = m.is });
  nodes = record { has = λ j x e. k.numbers.nodes (record { 0 = j }) x e };
}

more_types : (a b : State) → Stays (declared_by a) (declared_by b) → (n : ℕ) → length a.table.types ≡ n → n ≤ length b.table.types
more_types a b k zero e = omega arith
more_types a b k (suc n) e =
    let before = as_many_types a.table.types in
    let after = as_many_types b.table.types in
    let last : TypeId = record { 0 = n } in
    let m = k.types last (at (types_of a.table.types) last) (record { inside = omega arith; is = refl }) in
    omega (arith, m.inside)

-- the same in the table
pub kept_there : (a b : State) → Stays (declared_by a) (declared_by b) → StaysThere a b
kept_there a b k = record {
  numbers = record {
    types = record {
      more = more_types a b k (length a.table.types) refl;
      names = λ id t n.
          (let before = as_many_types a.table.types in
          let after = as_many_types b.table.types in
          let m = k.types id t (record { inside = omega (arith, n.inside); is = n.is }) in
          record { inside = omega (arith, m.inside); is = m.is });
    };
    nodes = λ id x e. k.nodes.has id.0 x e;
  };
  env = k.env;
}
