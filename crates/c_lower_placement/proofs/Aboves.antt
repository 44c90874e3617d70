-- What code wants above the cut is a function of the marks there.
use Rattle.std.proofs.Common.{◌≡◌, ◌≢◌, ℕ, true, List, [], ◌∷◌, ◌++◌, Some, is_some, inl, inr, ◌⊎◌, sym, ap, ◌∙◌, subst}
use Rattle.std.specs.Prelude.{reverse}
use Rattle.std.proofs.lemmas.List.{reverse-reverse}
use Rattle.marks.specs.declared.side.Side.TheVariants.{Replay}
use Rattle.marks.specs.Marks.{Mark}
use Rattle.marks.specs.Wants.{Returns, Go, Stopped, answer_to}
use Rattle.c_code.specs.Values.{is_value}
use Rattle.c_code.specs.Machine.{Flat, Config, Done, Starting, callee}
use Rattle.c_code.specs.MarkLists.{Split, Above, Wrong, at_end, lists, replay_part, reply, result_of, state, step, want_of}
use Rattle.c_code.specs.Laws.{ReturnsValues}
use Rattle.c_code.proofs.Expected.{Halted, Stops, said_last}
use Rattle.c_code.proofs.Prefixes.{each_mark_is_wanted}
use Rattle.c_code.proofs.Sides.{replied, returns_go}
use Rattle.c_semantics.specs.Context.{Source}
use Rattle.c_semantics.specs.Calls.{thread_behaviour}
use Rattle.c_semantics.specs.Returned.{ResultsAreConverted}
use Rattle.c_semantics.proofs.CutCalls.{threads_are_right}
use Rattle.c_semantics.proofs.GivenBack.{returns_give_values}
use Rattle.c_semantics.proofs.Parts.{part_after}
use Rattle.c_types_model.specs.Types.{CType}
use Rattle.c_lower_placement.specs.Placement.{IsSigOf}
use Rattle.c_lower_placement.specs.Laws.{laid, HasResults, MakesTheMarks, NextAnswersAbove}

pub next_answers : (s : Source) (code : Flat) → ResultsAreConverted s → MakesTheMarks s code → NextAnswersAbove s code
next_answers s code converted makes t sig address args ms more m is above right =
    let l = laid s code in
    let all = ms ++ m ∷ more in
    let past = reverse (replay_part ms) in
    let there : thread_behaviour s t address args all ≢ Wrong = subst (λ v. v ≢ Wrong) (sym (makes.threads t sig address args all is)) right in
    let listed : lists Above (replay_part all) l (Done 0) ≢ Wrong = subst (λ v. v ≢ Wrong) (makes.above (replay_part all)) (threads_are_right s converted t address args all there) in
    let split : replay_part all ≡ reverse past ++ m ∷ replay_part more = part_after ms m more above ∙ sym (ap (λ x. x ++ m ∷ replay_part more) (reverse-reverse (replay_part ms))) in
    let w = each_mark_is_wanted Above l (Done 0) past m (replay_part more) (subst (λ x. lists Above x l (Done 0) ≢ Wrong) split listed) in
    let answer : answer_to w.want m.act ≡ Some w.answer = (replied w.side w.want m w.answer w.answers).1 in
    ap (λ u. is_some (answer_to u m.act)) (ap want_of w.wants) ∙ ap is_some answer

-- what the functions of a source return below the cut, they return in the code, which expects what the source does
module _ (s : Source) (code : Flat) (converted : ResultsAreConverted s) (makes : MakesTheMarks s code) (results : HasResults s code) (t : CType) (sig address : ℕ) (args : List ℕ) (is : IsSigOf s code t sig) where
  abbrev begun : Config
  begun = Starting (callee (laid s code) sig address) args

  no_stop : (g : ℕ) (bs : List ℕ) (v : ℕ) (m : Mark) → reply Replay (Returns g bs v) m ≡ Some Stopped → {A : Type 0} → A
  no_stop g bs v m e = let no : Go ≡ Stopped = returns_go g bs v m.act Stopped (replied Replay (Returns g bs v) m Stopped e).1 in absurd cc

  pub returns_values : ReturnsValues (laid s code) (callee (laid s code) sig address) args
  returns_values past g bs v to right e = by (said_last Split (laid s code) begun past right)
    where
      by : (lists Split (reverse past) (laid s code) begun ≡ at_end (step Split (laid s code) (state Split (laid s code) begun past))) ⊎ Halted Split (laid s code) begun past [] → is_value (result_of (laid s code) g) v ≡ true
      by (inl h) = ap (λ shape. is_value shape v) (results g) ∙ returns_give_values s converted t address args (reverse past) g bs v (makes.threads t sig address args (reverse past) is ∙ (h ∙ ap at_end e))
      by (inr h) = no_stop g bs v h.mark (subst (λ n. Stops n h.mark) e h.stops)
