-- Code that keeps types returns values of its types.
use Rattle.std.proofs.Common.{ℕ, List, Option}
use Rattle.c_code.specs.Machine.{Laid}
use Rattle.c_code.specs.Valid.{IsValid}
use Rattle.c_code.specs.Laws.{AboveForgets, MarksAnswerAbove, ReturnsValues}
use Rattle.c_code.specs.Typed.{KeepsTypes, StartsWell}
use Rattle.c_code.proofs.Forgets.{above_forgets, marks_answer_above}

returns_values : (l : Laid) → KeepsTypes l → (f : Option ℕ) (args : List ℕ) → StartsWell l f args → ReturnsValues l f args
returns_values l keeps f args well past g bs v to right e = (keeps.wants f args past _ _ to well right e).1

pub wants : (l : Laid) → IsValid l.code → KeepsTypes l → (f : Option ℕ) (args : List ℕ) → StartsWell l f args → AboveForgets l f args
wants l valid keeps f args well = above_forgets l valid f args (returns_values l keeps f args well)

pub answers : (l : Laid) → IsValid l.code → KeepsTypes l → (f : Option ℕ) (args : List ℕ) → StartsWell l f args → MarksAnswerAbove l f args
answers l valid keeps f args well = marks_answer_above l valid f args (returns_values l keeps f args well)
