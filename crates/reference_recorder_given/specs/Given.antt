-- What calls come to, as values of this crate say it.
use Rattle.std.specs.Prelude.{ℕ, ◌==◌, List, [], ◌∷◌, filter, Option, Some, None, slice_get}
use Rattle.marks.specs.Marks.{Mark}
use Rattle.c_builtins.specs.declared.builtin.Builtin.{Builtin}
use Rattle.system_side.specs.declared.file.Scripted.{Scripted}
use Rattle.system_side.specs.declared.answer_list.Answer.{Answer}
use Rattle.system_side.specs.AnswerLists.{as_scripted}
use Rattle.whole_runs.specs.World.{World}
use Rattle.whole_runs.specs.Below.{Given, ByPool, Says, NoMore, given_by, next_answer}
use Rattle.reference_recorder_given.specs.declared.gives.Given.{Given as Told}
use Rattle.reference_recorder_given.specs.declared.gives.Given.TheVariants as told

-- what a value says that a call comes to
abbrev pub shown : Told → Given
shown told.ByPool = ByPool
shown (told.Says v pieces) = Says v pieces.now
shown told.NoMore = NoMore

-- the answer that is found, if one is
abbrev pub some_answer : Option Answer → Option Scripted
some_answer None = None
some_answer (Some a) = Some (as_scripted a)

-- what is given by the answer of the function after so many of its answers
abbrev pub answered_with : List Scripted → (func number : ℕ) → Given
answered_with answers f n = next_answer (slice_get (filter (λ (a : Scripted). a.func == f) answers) n)

-- what the builtin with this first argument is given: no builtin's answer depends on another one
abbrev pub given_by_builtin : World → List Mark → (thread argument : ℕ) → Builtin → Given
given_by_builtin w run t k b = given_by w run t 0 (k ∷ []) (Some b)
