-- The value of a global, in which it is heard what stands unevaluated.
use Rattle.std.proofs.Common.{◌≡◌, ℕ, List, [], Option, Result, Ok, Err, sym, ap, ◌∙◌, subst}
use Rattle.c_syntax.specs.Syntax.{Rest}
use Rattle.c_types_table.specs.declared.ids.TypeId.{TypeId}
use Rattle.c_types_table.specs.Tables.{type_at}
use Rattle.c_types_rules.specs.Checked.{heard}
use Rattle.c_types_rules.specs.Sources.{Program, at_file, global_value}
use Rattle.c_types_nodes.specs.Lists.{AreNodes}
use Rattle.c_types_operators.specs.declared.error.TypeError.{TypeError}
use Rattle.c_types_program.specs.declared.global.Initial.{Initial}
use Rattle.c_types_environment.specs.States.{State, notes_of}
use Rattle.c_types_expressions.specs.Found.{Finds, IsPart, Stays}
use Rattle.c_types_expressions.proofs.Unevaluated.{aside_stays, part_broken, part_heard}
use Rattle.c_types.proofs.GlobalSteps.{IsGiven}

module _ (a o b : State) (set : o ≡ record a { unevaluated = [] }) where
  module _ (tags : List (List ℕ)) (p : Program) (from : ℕ) (ty : TypeId) (r : Rest) where
    here : (s : Result (Option Initial) TypeError) → at_file tags p ≡ a.env → (at_file tags p ≡ o.env → Finds o b IsGiven (global_value tags p from (type_at o.table.types ty) r) s) → Finds o b IsGiven (global_value tags p from (type_at a.table.types ty) r) s
    here s file h =
        let P : State → Type 0 = λ z. Finds o b IsGiven (global_value tags p from (type_at z.table.types ty) r) s in
        subst P set (h (file ∙ sym (ap (λ z. z.env) set)))

    pub value_broken : (e : TypeError) → at_file tags p ≡ a.env → (at_file tags p ≡ o.env → Finds o b IsGiven (global_value tags p from (type_at o.table.types ty) r) (Err e)) → Finds a b (IsPart b IsGiven) (heard (global_value tags p from (type_at a.table.types ty) r)) (Err e)
    value_broken e file h = part_broken (notes_of o) (notes_of b) (notes_of a) (notes_of b) IsGiven (IsPart b IsGiven) (global_value tags p from (type_at a.table.types ty) r) e (here (Err e) file h)

  module _ (c : State) (back : c ≡ record b { unevaluated = a.unevaluated }) where
    pub value_heard : (tags : List (List ℕ)) (p : Program) (from : ℕ) (ty : TypeId) (r : Rest) (v : Option Initial) → AreNodes a.table a.unevaluated → Stays o b → at_file tags p ≡ a.env
        → (at_file tags p ≡ o.env → Finds o b IsGiven (global_value tags p from (type_at o.table.types ty) r) (Ok v)) → Finds a c (IsPart c IsGiven) (heard (global_value tags p from (type_at a.table.types ty) r)) (Ok (v, b.unevaluated))
    value_heard tags p from ty r v all k file h =
        let x = global_value tags p from (type_at a.table.types ty) r in
        let R : State → Type 0 = λ z. Finds a c (IsPart z IsGiven) (heard x) (Ok (v, b.unevaluated)) in
        subst R (sym back) (part_heard a o b c set back all (aside_stays a o b set k).numbers IsGiven x v (here tags p from ty r (Ok v) file h))
