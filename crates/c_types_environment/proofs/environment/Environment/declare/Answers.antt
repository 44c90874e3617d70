use Rattle.std.proofs.Common.{◌≡◌, ◌<◌, List, is_some, length, sym, ap, ◌∙◌, subst}
use Rattle.std.specs.List.{All}
use Rattle.c_types_table.specs.Tables.{types_of}
use Rattle.c_scopes.specs.Scopes.{Scope}
use Rattle.c_types_rules.specs.Environment.{with_name}
use Rattle.c_types_environment.specs.declared.meaning.Meaning.{Meaning}
use Rattle.c_types_environment.specs.Reading.{IsMeaningBelow, IsNameBelow, meaning_by}
use Rattle.c_types_environment.specs.States.{State, state_by}
use Rattle.c_types_environment.proofs.Found.{declared_below, declared_scoped}
use Rattle.c_types_environment.proofs.Reached.{declared_state, free_here, taken_here}
use Rattle.c_types_environment.proofs.environment.Environment.declare.Goals as goal

pub returns-then-is_some-clause-agrees : goal.returns-then-is_some-clause-agrees
returns-then-is_some-clause-agrees c =
    let now = c.args.self.now in
    taken_here (λ x y. now ≡ record now { env = with_name now.env c.args.name.now (meaning_by (types_of now.table.types) c.args.meaning) })
    c.args.from c.args.name.now (types_of c.self.inside.table.types) c.self.inside.scopes c.args.self.now.env (ap (λ s. s.env.scopes) c.self.view_is) (sym c.is_reserved.ensures ∙ c.if-is_reserved.false)
    (sym (c.if-is_some.ensures ∙ ap is_some c.find_here.ensures))

pub invariant_of-self-2 : goal.invariant_of-self-2
invariant_of-self-2 c =
    let few = length c.self.inside.table.types in
    let below : State → Type 0 = λ s. IsMeaningBelow (length s.table.types) c.args.meaning in
    let to : List (Scope Meaning) → Type 0 = λ ss. All (All (IsNameBelow few)) ss in (
      record {
        members = c.self.invariant.0.members;
        names = subst to (sym c.in_ok-declare.ensures.declared) (declared_below few c.args.name.now c.args.meaning c.self.inside.scopes (subst below (sym c.self.view_is) c.requires.ty) c.self.invariant.0.names);
        extents = c.self.invariant.0.extents;
        scoped = subst (λ (ss : List (Scope Meaning)). 0 < length ss) (sym c.in_ok-declare.ensures.declared) (declared_scoped c.args.name.now c.args.meaning c.self.inside.scopes c.self.invariant.0.scoped);
      },
      c.self.invariant.1,
    )

pub returns-clause-agrees : goal.returns-clause-agrees
returns-clause-agrees c =
    let now = c.args.self.now in
    let new : State = state_by c.self.inside.table c.self.inside.tags c.self.inside.structs c.declare.new.self c.self.inside.found_large c.self.inside.unevaluated.items in
    free_here (λ x y. new ≡ record now { env = with_name now.env c.args.name.now (meaning_by (types_of now.table.types) c.args.meaning) })
    c.args.from c.args.name.now (types_of c.self.inside.table.types) c.self.inside.scopes now.env (ap (λ s. s.env.scopes) c.self.view_is) (sym c.is_reserved.ensures ∙ c.if-is_reserved.false)
    (sym (c.if-is_some.ensures ∙ ap is_some c.find_here.ensures))
    (declared_state c.self.inside.table c.self.inside.tags c.self.inside.structs c.self.inside.scopes c.declare.new.self c.self.inside.found_large c.self.inside.unevaluated.items now c.args.name.now c.args.meaning c.self.view_is c.in_ok-declare.ensures.declared)
