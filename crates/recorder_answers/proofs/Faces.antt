-- A call below the cut whose result is waited for is one of a function of the interface without a body.
use Rattle.std.proofs.Common.{◌≡◌, ℕ, ◌<◌, Bool, true, false, List, length, Option, Some, None, refl, ap, ◌∙◌, subst, arith}
use Rattle.std.proofs.lemmas.Bool.{and_parts}
use Rattle.std.proofs.lemmas.List.Elements.{All-get_or}
use Rattle.marks.specs.declared.side.Side.{Side}
use Rattle.marks.specs.declared.side.Side.TheVariants.{Replay, System}
use Rattle.marks.specs.Marks.{Mark}
use Rattle.marks.specs.Wants.{Want, Gives, Answer}
use Rattle.c_code.specs.Machine.{Laid, Pending, Config, Action, Silent, Asks, Pends, Awaits, Starts, Over, Stuck, action, entry, is_face}
use Rattle.c_code.specs.MarkLists.{Split, called, entered_below, below, next_of, same_side, started, want_of}
use Rattle.c_code.specs.Valid.{IsValid}
use Rattle.c_machine.specs.Makes.{IsCut}
use Rattle.c_machine.specs.Moves.{IsInside, ThreadState, at_call, crosses, ready}
use Rattle.c_machine.specs.Wants.{shown}
use Rattle.c_machine.proofs.Facts.{Facts, facts}
use Rattle.c_machine.proofs.Insides.{something_next}
use Rattle.whole_runs.specs.World.{World}
use Rattle.whole_runs.specs.Steps.{Picked}
use Rattle.whole_runs.specs.Ends.{Follows}
use Rattle.whole_runs.specs.Fits.{IsFit}
use Rattle.whole_runs_seen.proofs.Threads.{picked_started, threads_known}
use Rattle.recorder_threads.specs.Threads.{AreThreadsOf, nowhere, place_of}
use Rattle.recorder_threads.proofs.Places.{count_is, rests, thread_is}

pub record IsBelow (l : Laid) (f : ℕ) : Type 0 where
  pub face : is_face l f ≡ true
  pub external : entry l f ≡ None

module _ (l : Laid) (valid : IsValid l.code) (c : Config) (cut : IsCut l c) (inside : IsInside l (ready l c)) (f : ℕ) (args : List ℕ) where
  -- code that asks for a mark asks for no such one
  asks_none : (side : Side) (w : Want) (k : Answer → Config) → action l c ≡ Asks side w k → w ≡ Gives f args → ⊥
  asks_none side w k ea ew =
      let here : ready l c ≡ c = ap (λ a. at_call a c) ea in
      something_next l c valid (subst (IsInside l) here inside) (ap (shown l) (ea ∙ ap (λ x. Asks side x k) ew))

  called_none : (p : Pending) (side : Side) (face : Bool) (at : Option ℕ) → want_of (called l p side face at) ≡ Gives f args → ⊥
  called_none p Replay true at e = absurd cc
  called_none p Replay false (Some at) e = absurd cc
  called_none p Replay false None e = absurd cc
  called_none p System face (Some at) e = by p.call.indirect e
    where
      by : (i : Bool) → want_of (entered_below l p i) ≡ Gives f args → ⊥
      by true z = absurd cc
      by false z = absurd cc
  called_none p System face None e = absurd cc

  started_none : (g : ℕ) (bs : List ℕ) (at : Option ℕ) → want_of (started l g bs at) ≡ Gives f args → ⊥
  started_none g bs (Some at) e = absurd cc
  started_none g bs None e = absurd cc

  below_so : (p : Pending) (at : Option ℕ) → entry l p.call.func ≡ at → crosses l p.call ≡ true → want_of (below Split l p at) ≡ Gives f args → IsBelow l f
  below_so p (Some at) ee cr e = absurd cc
  below_so p None ee cr e =
      let is : p.call.func ≡ f = cc in
      subst (IsBelow l) is (record { face = (and_parts (same_side p.call.then.side Replay) (is_face l p.call.func) cr).1; external = ee })

  by_action : (a : Action) → action l c ≡ a → Facts l c a → want_of (next_of Split l a) ≡ Gives f args → IsBelow l f
  by_action (Silent d) ea h e = absurd cc
  by_action (Asks side w k) ea h e = absurd (asks_none side w k ea e)
  by_action (Pends p) ea h e = absurd (called_none p p.call.then.side (is_face l p.call.func) (entry l p.call.func) e)
  by_action (Awaits p) ea h e = below_so p (entry l p.call.func) refl (h.1 cut).0 e
  by_action (Starts g bs) ea h e = absurd (started_none g bs (entry l g) e)
  by_action (Over v) ea h e = absurd cc
  by_action Stuck ea h e = absurd cc

  pub is_below : want_of (next_of Split l (action l c)) ≡ Gives f args → IsBelow l f
  is_below e = by_action (action l c) refl (facts l c) e

-- in a run
pub gives_face : (w : World) (fit : IsFit w) (past : List Mark) → Follows w past → (s : Picked w past) (f : ℕ) (args : List ℕ) (threads : List ThreadState) → AreThreadsOf w past threads → s.want ≡ Gives f args → IsBelow w.laid f
gives_face w fit past follows s f args threads are is =
    is_below w.laid fit.code.valid c (rests w past s.thread).cut here f args (ap want_of s.comes_is ∙ is)
  where
    c : Config
    c = place_of w past s.thread

    there : s.thread < length threads
    there =
        let lt = picked_started w fit.code past (threads_known w fit.code past follows) s in
        let n = count_is w past threads are in
        omega (arith, lt, n)

    here : IsInside w.laid (ready w.laid c)
    here = subst (IsInside w.laid) (ap (λ (x : ThreadState). x.config) (thread_is w past threads are s.thread there) ∙ (rests w past s.thread).config)
        (All-get_or (λ (x : ThreadState). IsInside w.laid x.config) threads s.thread nowhere there are.inside)
