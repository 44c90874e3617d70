-- What threads of code want is granted, as what those of its source do.
use Rattle.std.proofs.Common.{◌≡◌, ℕ, List, subst}
use Rattle.marks.specs.Marks.{Mark}
use Rattle.c_code.specs.Machine.{Done, Flat}
use Rattle.c_code.specs.MarkLists.{Above, lists, thread_lists}
use Rattle.c_types_model.specs.Types.{CType}
use Rattle.c_semantics.specs.Reading.{Marks}
use Rattle.c_semantics.specs.Context.{Source}
use Rattle.c_semantics.specs.Calls.{thread_above, thread_behaviour}
use Rattle.c_lower_placement.specs.Laws.{MakesTheMarks, laid}
use Rattle.c_lower_placement.specs.Placement.{IsSigOf}
use Rattle.cut_graph_laws.specs.Answering.{MarksAnswer}
use Rattle.cut_graph_laws.specs.Granted.{Grants, Permits, WantsAreGranted}
use Rattle.cut_graph_rules.specs.Findings.{Cut}
use Rattle.cut_graph_laws.specs.SoundCut as source
use Rattle.cut_graph_laws.specs.SoundCut.{StaysWithin}
use Rattle.cut_graph_laws.proofs.Wants.{above_granted, thread_answers, threads_granted}
use Rattle.cut_graph_run_laws.specs.Code.{IsCodeThread, above_alone, of_function}

module _ (s : Source) (p : Permits) (grants : Grants s p) (code : Flat) (makes : MakesTheMarks s code) where
  same_above : thread_above s ≡ (λ (ms : List Mark). lists Above ms (laid s code) (Done 0))
  same_above = λ i. λ ms. makes.above ms i

  pub lists_granted : WantsAreGranted s p (λ ms. lists Above ms (laid s code) (Done 0))
  lists_granted = subst (λ (a : Marks). WantsAreGranted s p a) same_above (above_granted s p grants)

  pub code_granted : (a : Marks) → IsCodeThread s code a → WantsAreGranted s p a
  code_granted a (of_function t sig address args is) =
      let same : thread_behaviour s t address args ≡ thread_lists (laid s code) sig address args = λ i. λ ms. makes.threads t sig address args ms is i in
      subst (λ (b : Marks). WantsAreGranted s p b) same (threads_granted s p grants t address args)
  code_granted a above_alone = lists_granted

-- threads of code stay within a cut where those of the source do
pub code_within : (s : Source) (code : Flat) → MakesTheMarks s code → (c : Cut) → (t : CType) (sig address : ℕ) (args : List ℕ) → IsSigOf s code t sig → StaysWithin c (thread_behaviour s t address args) → StaysWithin c (thread_lists (laid s code) sig address args)
code_within s code makes c t sig address args is h =
    let same : thread_behaviour s t address args ≡ thread_lists (laid s code) sig address args = λ i. λ ms. makes.threads t sig address args ms is i in
    subst (λ (a : Marks). StaysWithin c a) same h

pub code_answers : (s : Source) (p : Permits) → Grants s p → (code : Flat) → MakesTheMarks s code → (a : Marks) → IsCodeThread s code a → MarksAnswer a
code_answers s p grants code makes a (of_function t sig address args is) =
    let same : thread_behaviour s t address args ≡ thread_lists (laid s code) sig address args = λ i. λ ms. makes.threads t sig address args ms is i in
    subst (λ (b : Marks). MarksAnswer b) same (thread_answers s p grants (thread_behaviour s t address args) (source.of_function t address args))
code_answers s p grants code makes a above_alone =
    let same : thread_above s ≡ (λ (ms : List Mark). lists Above ms (laid s code) (Done 0)) = λ i. λ ms. makes.above ms i in
    subst (λ (b : Marks). MarksAnswer b) same (thread_answers s p grants (thread_above s) source.above_alone)
