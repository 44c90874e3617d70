use Rattle.std.proofs.Common.{◌≡◌, length, IfSome, Option, sym, ap, ◌∙◌, subst}
use Rattle.c_types_table.specs.Tables.{types_of}
use Rattle.c_scopes.specs.Scopes.{innermost, meaning_in, meaning_of}
use Rattle.c_types_environment.specs.declared.meaning.Meaning.{Meaning}
use Rattle.c_types_environment.specs.Reading.{IsMeaningBelow, maybe_by}
use Rattle.c_types_environment.specs.States.{State}
use Rattle.c_types_environment.proofs.Found.{anywhere_below, meaning_anywhere}
use Rattle.c_types_environment.proofs.environment.Environment.find.Goals as goal

pub returns-clause-meaning : goal.returns-clause-meaning
returns-clause-meaning c =
    let ts = types_of c.self.inside.table.types in
    let there : State → Type 0 = λ s. maybe_by (types_of s.table.types) c.find.result ≡ meaning_of c.args.name.now s.env.scopes in
    subst there c.self.view_is (ap (maybe_by ts) c.find.ensures ∙ meaning_anywhere ts c.args.name.now c.self.inside.scopes)

pub returns-clause-inside : goal.returns-clause-inside
returns-clause-inside c =
    let few = length c.self.inside.table.types in
    let there : State → Type 0 = λ s. IfSome c.find.result (IsMeaningBelow (length s.table.types)) in
    let by : Option Meaning → Type 0 = λ o. IfSome o (IsMeaningBelow few) in
    subst there c.self.view_is (subst by (sym c.find.ensures) (anywhere_below few c.args.name.now c.self.inside.scopes c.self.invariant.0.names))
