-- What threads want is granted.
use Rattle.std.proofs.Common.{ℕ, List, ◌∷◌, ◌++◌, length, refl, subst, arith}
use Rattle.c_types_model.specs.Types.{CType}
use Rattle.c_semantics.specs.Reading.{Marks}
use Rattle.c_semantics.specs.Context.{Source}
use Rattle.c_semantics.specs.Calls.{thread_above, thread_behaviour}
use Rattle.cut_graph_laws.specs.Granted.{Grants, Permits, WantsAreGranted}
use Rattle.cut_graph_laws.specs.Answering.{MarksAnswer}
use Rattle.cut_graph_laws.specs.SoundCut.{IsThread, above_alone, of_function}
use Rattle.cut_graph_laws.proofs.Sound.{Good, Sound}
use Rattle.cut_graph_laws.proofs.Calls.{above_sound, thread_sound}

module _ (s : Source) (p : Permits) where
  granted_by : (a : Marks) → ((k : ℕ) → Sound s p (Unit {0}) k a a) → WantsAreGranted s p a
  granted_by a sound past side want e kept = subst (Good s p) e ((sound (length past) past (omega arith)).1.1 tt kept)

  answer_by : (a : Marks) → ((k : ℕ) → Sound s p (Unit {0}) k a a) → MarksAnswer a
  answer_by a sound before m after right = let ms = before ++ (m ∷ after) in (sound (length ms) ms (omega arith)).1.0 before m after refl right

  module _ (grants : Grants s p) where
    pub threads_granted : (t : CType) (address : ℕ) (args : List ℕ) → WantsAreGranted s p (thread_behaviour s t address args)
    threads_granted t address args = granted_by (thread_behaviour s t address args) (λ k. thread_sound s p grants (Unit {0}) t address args k)

    pub above_granted : WantsAreGranted s p (thread_above s)
    above_granted = granted_by (thread_above s) (λ k. above_sound s p grants (Unit {0}) k)

pub thread_answers : (s : Source) (p : Permits) → Grants s p → (a : Marks) → IsThread s a → MarksAnswer a
thread_answers s p grants a (of_function t address args) = answer_by s p (thread_behaviour s t address args) (λ k. thread_sound s p grants (Unit {0}) t address args k)
thread_answers s p grants a above_alone = answer_by s p (thread_above s) (λ k. above_sound s p grants (Unit {0}) k)

pub thread_granted : (s : Source) (p : Permits) → Grants s p → (a : Marks) → IsThread s a → WantsAreGranted s p a
thread_granted s p grants a (of_function t address args) = threads_granted s p grants t address args
thread_granted s p grants a above_alone = above_granted s p grants
