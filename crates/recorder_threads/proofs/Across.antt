-- A thread whose code makes the event of a call shows that call.
use Rattle.std.proofs.Common.{◌≡◌, ℕ, Bool, true, false, List, [], get_or, Option, Some, None, refl, sym, ap, ◌∙◌, subst}
use Rattle.marks.specs.declared.side.Side.{Side}
use Rattle.marks.specs.declared.side.Side.TheVariants.{Replay, System}
use Rattle.marks.specs.Wants.{Want, Calls, Answer, Go}
use Rattle.c_code.specs.Machine.{Laid, Pending, Config, Going, Under, Entering, Closing, Starting, Done, Lost, Action, Silent, Asks, Pends, Awaits, Starts, Over, Stuck, action, awaiting, entry, is_face, take_args, with_args}
use Rattle.c_code.specs.MarkLists.{Split, Next, Wants, below, called, entered_below, next_of, started, step}
use Rattle.c_machine.specs.declared.wants.Want.TheVariants as shows
use Rattle.c_machine.specs.Callers.{crosses_at}
use Rattle.c_machine.specs.Follows.{Crosses}
use Rattle.c_machine.specs.Moves.{ThreadState, at_call, ready}
use Rattle.c_machine.specs.Wants.{shown}
use Rattle.c_machine.proofs.Facts.{Facts, facts}
use Rattle.whole_runs.specs.World.{World}
use Rattle.whole_runs.specs.Threads.{comes}
use Rattle.whole_runs.specs.Steps.{Picked}
use Rattle.recorder_threads.specs.Threads.{place_of}
use Rattle.recorder_threads.specs.Answers.{IsAnswered, IsCall, IsCallTo}
use Rattle.recorder_threads.proofs.Answering.{call_crosses, is, may}
use Rattle.recorder_threads.proofs.Places.{rests}

pub is_call : (f : ℕ) (w : Want) → IsCallTo f w → IsCall w
is_call f w h = subst IsCall (sym h.2) tt

-- the function that an event calls
abbrev func_in : Want → ℕ
func_in (Calls i f args) = f
func_in w = 0

abbrev func_next : Next → ℕ
func_next (Wants side want to) = func_in want
func_next n = 0

module _ (l : Laid) (s : Side) (i : Bool) (f : ℕ) (args : List ℕ) (k : Answer → Config) where
  abbrev IsEvent : Next → Type 0
  IsEvent n = n ≡ Wants s (Calls i f args) k

  called_func : (p : Pending) (d : Side) (face : Bool) (at : Option ℕ) → IsEvent (called l p d face at) → p.call.func ≡ f
  called_func p Replay true at e = ap func_next e
  called_func p Replay false (Some at) e = absurd cc
  called_func p Replay false None e = absurd cc
  called_func p System face (Some at) e = by p.call.indirect e
    where
      by : (b : Bool) → IsEvent (entered_below l p b) → p.call.func ≡ f
      by true z = absurd cc
      by false z = absurd cc
  called_func p System face None e = absurd cc

  not_below : (p : Pending) (at : Option ℕ) → IsEvent (below Split l p at) → ⊥
  not_below p (Some at) e = absurd cc
  not_below p None e = absurd cc

  not_started : (g : ℕ) (bs : List ℕ) (at : Option ℕ) → IsEvent (started l g bs at) → ⊥
  not_started g bs (Some at) e = absurd cc
  not_started g bs None e = absurd cc

  -- where a call crosses, no mark is asked for
  not_asked : (c : Config) (d : Side) (w : Want) (q : Answer → Config) → crosses_at l c ≡ true → action l c ≡ Asks d w q → ⊥
  not_asked (Under call vs ws) d w q z e = by (take_args call.args [] vs) e
    where
      by : (o : Option (List ℕ × List ℕ)) → with_args o (awaiting call vs ws) ≡ Asks d w q → ⊥
      by None x = absurd cc
      by (Some taken) x = absurd cc
  not_asked (Going a vs ws) d w q z e = absurd cc
  not_asked (Entering t j g bs vs ws) d w q z e = absurd cc
  not_asked (Closing v x vs ws) d w q z e = absurd cc
  not_asked (Starting g bs) d w q z e = absurd cc
  not_asked (Done v) d w q z e = absurd cc
  not_asked Lost d w q z e = absurd cc

  module _ (c : Config) (z : crosses_at l (ready l c) ≡ true) where
    by_action : (a : Action) → action l c ≡ a → Facts l c a → IsEvent (next_of Split l a) → shown l (action l (ready l c)) ≡ Some (shows.Call f)
    by_action (Silent d) ea h e = absurd cc
    by_action (Asks d w q) ea h e =
        let same : ready l c ≡ c = ap (λ a. at_call a c) ea in
        absurd (not_asked c d w q (subst (λ x. crosses_at l x ≡ true) same z) ea)
    by_action (Pends p) ea h e =
        let same : ready l c ≡ Under p.call p.values p.waits = ap (λ a. at_call a c) ea in
        ap (shown l) (ap (action l) same ∙ h.0) ∙ ap (λ g. Some (shows.Call g)) (called_func p p.call.then.side (is_face l p.call.func) (entry l p.call.func) e)
    by_action (Awaits p) ea h e = absurd (not_below p (entry l p.call.func) e)
    by_action (Starts g bs) ea h e = absurd (not_started g bs (entry l g) e)
    by_action (Over v) ea h e = absurd cc
    by_action Stuck ea h e = absurd cc

    shows_call : IsEvent (step Split l c) → shown l (action l (ready l c)) ≡ Some (shows.Call f)
    shows_call e = by_action (action l c) refl (facts l c) e

module _ (l : Laid) (threads : List ThreadState) (t f : ℕ) (a : IsAnswered l threads t (IsCallTo f) Go) (y : ThreadState) (ey : y ≡ get_or threads t y) where
  abbrev w : World
  w = a.world

  abbrev s : Picked a.world a.past
  s = a.follows.0.step

  pub crosses : crosses_at l y.config ≡ true
  crosses = may l threads t (IsCallTo f) Go a y ey Crosses (call_crosses s.want (is_call f s.want a.wanted))

  pub call_shown : shown l (action l y.config) ≡ Some (shows.Call f)
  call_shown =
      let u = a.mark.thread in
      let place : Config = place_of w a.past u in
      let of : s.thread ≡ u = sym a.follows.0.made.mark.of_thread in
      let wants : comes w a.past u ≡ Wants s.side (Calls a.wanted.0 f a.wanted.1) s.to = subst (λ v. comes w a.past v ≡ Wants s.side s.want s.to) of s.comes_is ∙ ap (λ v. Wants s.side v s.to) a.wanted.2 in
      let config : y.config ≡ ready w.laid place = ap (λ (x : ThreadState). x.config) (is l threads t (IsCallTo f) Go a y ey) ∙ (rests w a.past u).config in
      let crosses_so : crosses_at w.laid (ready w.laid place) ≡ true = subst (λ c. crosses_at w.laid c ≡ true) config (subst (λ k. crosses_at k y.config ≡ true) (sym a.laid) crosses) in
      let here : shown w.laid (action w.laid y.config) ≡ Some (shows.Call f) = ap (λ c. shown w.laid (action w.laid c)) config ∙ shows_call w.laid s.side a.wanted.0 f a.wanted.1 s.to place crosses_so wants in
      subst (λ k. shown k (action k y.config) ≡ Some (shows.Call f)) a.laid here
