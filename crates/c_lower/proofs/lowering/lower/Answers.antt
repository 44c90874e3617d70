use Rattle.std.proofs.Common.{sym, subst, arith}
use Rattle.std.proofs.lemmas.List.{length-map}
use Rattle.c_code.specs.Machine.{Flat}
use Rattle.c_code.specs.Typed.{KeepsTypes}
use Rattle.c_lower_placement.specs.Laws.{MakesTheMarks, laid}
use Rattle.c_types_program.specs.Declarations.{function_in}
use Rattle.c_lower_layout.specs.Sources.{source_in}
use Rattle.c_lower.specs.Named.{NamesNoMore}
use Rattle.c_lower.specs.Types.{TellsTypes}
use Rattle.c_lower.proofs.Keeps.{keeps_types}
use Rattle.c_lower.proofs.Names.{named}
use Rattle.c_lower.proofs.Types.{tells_types}
use Rattle.c_lower.proofs.Valid.{marks}
use Rattle.c_lower.proofs.lowering.lower.Goals as goal

pub first_wide-requires : goal.first_wide-requires
unfolding source_in
first_wide-requires c = let p = c.args.program.now in omega (arith, c.requires.fit.few_functions, length-map p.functions (function_in p.table))

pub returns-in_ok-code-in-None-clause-marks : goal.returns-in_ok-code-in-None-clause-marks
returns-in_ok-code-in-None-clause-marks c = λ s is_of. subst (λ (k : Flat). MakesTheMarks s k) (sym c.in_ok-code-in-None.ensures) (marks c.args.program.now s is_of c.emitted_code_makes_the_marks.ensures)

pub returns-in_ok-code-in-None-clause-names : goal.returns-in_ok-code-in-None-clause-names
returns-in_ok-code-in-None-clause-names c = subst (λ (k : Flat). NamesNoMore c.args.program.now k) (sym c.in_ok-code-in-None.ensures) (named c.args.program.now)

pub returns-in_ok-code-in-None-clause-types : goal.returns-in_ok-code-in-None-clause-types
returns-in_ok-code-in-None-clause-types c = λ s is_of. subst (λ (k : Flat). TellsTypes s k) (sym c.in_ok-code-in-None.ensures) (tells_types c.args.program.now s is_of)

pub returns-in_ok-code-in-None-clause-keeps : goal.returns-in_ok-code-in-None-clause-keeps
returns-in_ok-code-in-None-clause-keeps c = λ s is_of.
    subst (λ (k : Flat). KeepsTypes (laid s k)) (sym c.in_ok-code-in-None.ensures)
    (keeps_types c.args.program.now s is_of c.requires.fit c.emitted_code_makes_the_marks.ensures c.code_of_sources_keeps_types.ensures)
