-- Where answers suit, no thread is lost.
use Rattle.std.proofs.Common.{◌≡◌, ℕ, ◌+◌, ◌<◌, Bool, true, false, cond, ◌&&◌, List, [], ◌∷◌, length, Option, Some, None, refl, sym, ap, ◌∙◌, subst, arith}
use Rattle.marks.specs.declared.side.Side.{Side}
use Rattle.marks.specs.declared.side.Side.TheVariants.{Replay, System}
use Rattle.marks.specs.Marks.{Mark}
use Rattle.marks.specs.Wants.{Want, Answer, Go, Value, Frame, CalledBack, Stopped}
use Rattle.c_code.specs.declared.shape.Shape.{Shape}
use Rattle.c_code.specs.declared.activation.Activation.{Activation}
use Rattle.c_code.specs.declared.activation.Waiting.{Waiting}
use Rattle.c_code.specs.declared.activation.Waiting.TheVariants.{ForValue, ForRet, ForUpRet, ForOutside}
use Rattle.c_code.specs.Values.{is_value}
use Rattle.c_code.specs.Machine.{Laid, Pending, Config, Going, Under, Entering, Closing, Starting, Done, Lost, Action, Silent, Asks, Pends, Awaits, Starts, Over, Stuck, func_of, entry, is_face, action, valued, framed}
use Rattle.c_code.specs.MarkLists.{Split, Next, Quiet, Wants, Ends, No, has_entry, takes_values, called_back, after_call_back, after_start, stepped, entered_below, called, below, ended, started, next_of, step, moved, move, reply, state, result_of}
use Rattle.c_code.specs.Valid.{IsValid}
use Rattle.c_code.specs.Fits.{Held, held_by, Fits, MayFit, FitsAction, PendingFits}
use Rattle.c_code.proofs.Settles.{IsLoud, settled_is_loud}
use Rattle.c_code.proofs.Prefixes.{state_settled}
use Rattle.c_code.proofs.Keeps.{framed_fits}
use Rattle.c_code.proofs.Room.{valid_code_goes_on}
use Rattle.whole_runs.specs.World.{World}
use Rattle.whole_runs.specs.Sides.{own}
use Rattle.whole_runs.specs.Outcomes as outcomes
use Rattle.whole_runs.specs.Threads.{beginning, comes}
use Rattle.whole_runs.specs.Steps.{Picked, IsMade}
use Rattle.whole_runs.specs.Ends.{Follows}
use Rattle.whole_runs.specs.Fits.{IsFit}
use Rattle.whole_runs_seen.specs.Suits.{Suits, AnswersSuit, IsHere, SuitedAnswersLoseNoThread}
use Rattle.whole_runs_seen.proofs.Answered.{LeadsOn}
use Rattle.whole_runs_seen.proofs.Entries.{Stands, IsThere, StepsOn, step_on, state_stands}
use Rattle.whole_runs_seen.proofs.Stopping.{answers_lead}
use Rattle.whole_runs_seen.proofs.Threads.{threads_known, begins_so, func_at, args_at, answer_of, no_fault, kept_along, picked_started}

pub led : (x : Answer) (to : Answer → Config) (c : Config) → LeadsOn x → moved (Some x) to c ≡ to x
led Go to c h = refl
led (Value v) to c h = refl
led (Frame at) to c h = refl
led (CalledBack g args) to c h = refl
led Stopped to c h = absurd h

module _ (l : Laid) (valid : IsValid l.code) where
  abbrev IsFitting : Config → Type 0
  IsFitting c = Fits l.code valid.height c

  abbrev MayBe : Config → Type 0
  MayBe c = MayFit l.code valid.height c

  there_fits : (c : Config) → IsThere l c → MayBe c → IsFitting c
  there_fits (Going a vs ws) there h = h
  there_fits (Under call vs ws) there h = h
  there_fits (Entering s i f args vs ws) there h = h
  there_fits (Closing v w vs ws) there h = h
  there_fits (Starting f args) there h = h
  there_fits (Done v) there h = h
  there_fits Lost there h = absurd there

  -- ---- where a step that fits leads

  abbrev FitsNext : Next → Type 0
  FitsNext (Wants side want to) = (x : Answer) → MayBe (to x)
  FitsNext (Quiet c) = ⊥
  FitsNext (Ends v) = Unit {0}
  FitsNext No = ⊥

  valued_fits : (shape : Shape) (a : Activation) (vs : List ℕ) (ws : List Waiting) → ((v : ℕ) → IsFitting (Going a (v ∷ vs) ws)) → (x : Answer) → MayBe (valued shape a vs ws x)
  valued_fits shape a vs ws h (Value v) = by (is_value shape v)
    where
      by : (b : Bool) → MayBe (cond b (Going a (v ∷ vs) ws) Lost)
      by true = h v
      by false = tt
  valued_fits shape a vs ws h Go = tt
  valued_fits shape a vs ws h (Frame at) = tt
  valued_fits shape a vs ws h (CalledBack g args) = tt
  valued_fits shape a vs ws h Stopped = tt

  back_fits : (g : ℕ) (args vs : List ℕ) (ws : List Waiting) → Held l.code valid.height ws (length vs) → MayBe (called_back l g args vs ws)
  back_fits g args vs ws h = by (has_entry (entry l g) && takes_values (func_of l.code g) args)
    where
      by : (b : Bool) → MayBe (cond b (Entering Replay false g args vs ws) Lost)
      by true = h
      by false = tt

  ended_fits : (shape : Shape) (x : Answer) → MayBe (ended shape x)
  ended_fits shape (Value v) = by (is_value shape v)
    where
      by : (b : Bool) → MayBe (cond b (Done v) Lost)
      by true = tt
      by false = tt
  ended_fits shape Go = tt
  ended_fits shape (Frame at) = tt
  ended_fits shape (CalledBack g args) = tt
  ended_fits shape Stopped = tt

  -- the caller waits for a value, with the values below those of the call
  rest_held : (p : Pending) → PendingFits l.code valid.height p → Held l.code valid.height (ForValue p.call.then ∷ p.waits) (length p.rest)
  rest_held p (k, m, held, leads, few, all, rest, args) = (k, m, rest, leads, tt, held)

  stepped_fits : (p : Pending) → PendingFits l.code valid.height p → FitsNext (stepped l p)
  stepped_fits p (k, m, held, leads, few, all, rest, args) = valued_fits (result_of l p.call.func) p.call.then p.rest p.waits (λ v. (m, held, leads.0, omega (arith, leads.1, rest)))

  entered_fits : (p : Pending) (side : Side) → PendingFits l.code valid.height p → (x : Answer) → MayBe (framed l side p.call.func p.rest (ForValue p.call.then ∷ p.waits) x)
  entered_fits p side h x = framed_fits l valid.height valid.steady side p.call.func p.rest (ForValue p.call.then ∷ p.waits) x (rest_held p h)

  after_call_back_fits : (p : Pending) → PendingFits l.code valid.height p → (x : Answer) → MayBe (after_call_back l p x)
  after_call_back_fits p h (CalledBack g args) = back_fits p.call.func p.args p.rest (ForUpRet p.call.then p.call.func ∷ p.waits) (rest_held p h)
  after_call_back_fits p h Go = entered_fits p System h Go
  after_call_back_fits p h (Value v) = entered_fits p System h (Value v)
  after_call_back_fits p h (Frame at) = entered_fits p System h (Frame at)
  after_call_back_fits p h Stopped = entered_fits p System h Stopped

  entered_below_fits : (p : Pending) (i : Bool) → PendingFits l.code valid.height p → FitsNext (entered_below l p i)
  entered_below_fits p false h = entered_fits p p.call.then.side h
  entered_below_fits p true h = after_call_back_fits p h

  called_fits : (p : Pending) (side : Side) (face : Bool) (e : Option ℕ) → PendingFits l.code valid.height p → FitsNext (called l p side face e)
  called_fits p Replay true e (k, m, held, leads, few, all, rest, args) = λ x. (k, m, held, leads, few, all)
  called_fits p Replay false (Some at) h = entered_fits p p.call.then.side h
  called_fits p Replay false None h = stepped_fits p h
  called_fits p System face (Some at) h = entered_below_fits p p.call.indirect h
  called_fits p System face None h = stepped_fits p h

  below_fits : (p : Pending) (e : Option ℕ) → PendingFits l.code valid.height p → FitsNext (below Split l p e)
  below_fits p (Some at) (k, m, held, leads, few, all, rest, args) =
      λ x. framed_fits l valid.height valid.steady System p.call.func p.values (ForRet p.call ∷ p.waits) x (k + held_by p.call, m, all, (k, refl, leads, few), tt, held)
  below_fits p None h = stepped_fits p h

  after_start_fits : (f : ℕ) (args : List ℕ) (x : Answer) → MayBe (after_start l f args x)
  after_start_fits f args (CalledBack g bs) = back_fits f args [] (ForOutside f ∷ []) (0, 0, refl, refl, refl, refl)
  after_start_fits f args Go = tt
  after_start_fits f args (Value v) = tt
  after_start_fits f args (Frame at) = framed_fits l valid.height valid.steady System f [] [] (Frame at) refl
  after_start_fits f args Stopped = tt

  started_fits : (f : ℕ) (args : List ℕ) (e : Option ℕ) → FitsNext (started l f args e)
  started_fits f args (Some at) = after_start_fits f args
  started_fits f args None = ended_fits (result_of l f)

  next_fits : (a : Action) → IsLoud a → FitsAction l.code valid.height a → FitsNext (next_of Split l a)
  next_fits (Silent d) loud h = absurd loud
  next_fits (Asks side want to) loud h = h
  next_fits (Pends p) loud h = called_fits p p.call.then.side (is_face l p.call.func) (entry l p.call.func) h
  next_fits (Awaits p) loud h = below_fits p (entry l p.call.func) h
  next_fits (Starts f args) loud h = started_fits f args (entry l f)
  next_fits (Over v) loud h = tt
  next_fits Stuck loud h = absurd h

  -- after a thread's marks
  state_next : (c : Config) (mine : List Mark) → IsFitting (state Split l c mine) → FitsNext (step Split l (state Split l c mine))
  state_next c mine h =
      let now : Config = state Split l c mine in
      next_fits (action l now) (subst (λ d. IsLoud (action l d)) (state_settled Split l c mine) (settled_is_loud l now)) (valid_code_goes_on l valid now h).steps

  here_so : (n : Next) → FitsNext n → IsHere n
  here_so (Wants side want to) h = tt
  here_so (Quiet c) h = absurd h
  here_so (Ends v) h = tt
  here_so No h = absurd h

  begins_fit : (f : Option ℕ) (args : List ℕ) → IsFitting (state Split l (Starting f args) [])
  begins_fit f args = (valid_code_goes_on l valid (Starting f args) tt).settles

  -- one mark on
  moves_on : (c : Config) → Stands l c → (mine : List Mark) (m : Mark) (side : Side) (want : Want) (to : Answer → Config) (x : Answer) → IsFitting (state Split l c mine) →
      step Split l (state Split l c mine) ≡ Wants side want to → reply side want m ≡ Some x → LeadsOn x → Suits l want x → IsFitting (state Split l c (m ∷ mine))
  moves_on c stands mine m side want to x h e answers leads suits =
      let now : Config = state Split l c mine in
      let there : IsThere l (to x) = (subst (StepsOn l) e (step_on l now (state_stands l c stands mine))).2 x suits in
      let may : MayBe (to x) = subst FitsNext e (state_next c mine h) x in
      let same : move (step Split l now) m now ≡ to x = ap (λ n. move n m now) e ∙ (ap (λ o. moved o to now) answers ∙ led x to now leads) in
      (valid_code_goes_on l valid (move (step Split l now) m now) (subst IsFitting (sym same) (there_fits (to x) there may))).settles

module _ (w : World) (fit : IsFit w) (suits : AnswersSuit w) where
  abbrev FitsAfter : Config → List Mark → Type 0
  FitsAfter c mine = Fits w.laid.code fit.code.valid.height (state Split w.laid c mine)

  all_fit : (past : List Mark) → Follows w past → (t : ℕ) → t < outcomes.started past → FitsAfter (beginning w past t) (own w t past)
  all_fit [] f t lt = subst (λ c. FitsAfter c []) (sym (begins_so w [] t)) (begins_fit w.laid fit.code.valid (func_at w [] t) (args_at w [] t))
  all_fit (m ∷ past) f t lt =
      let s : Picked w past = f.0.step in
      let made : IsMade w past s m = f.0.made in
      let known = threads_known w fit.code past f.1 in
      let x = answer_of w fit.code past known s m made (reply s.side s.want m) refl made.replies in
      let before = all_fit past f.1 in
      kept_along w fit.code past known s m made FitsAfter before
      (moves_on w.laid fit.code.valid (beginning w past s.thread) (begins_standing s.thread) (own w s.thread past) m s.side s.want s.to x.0 (before s.thread (picked_started w fit.code past known s)) s.comes_is x.1
      (answers_lead s.side s.want m x.0 (no_fault w fit.code past known s m made m.act made.agrees) x.1) (suits past f.1 s m made x.0 x.1))
      (begins_fit w.laid fit.code.valid) t lt
    where
      begins_standing : (u : ℕ) → Stands w.laid (beginning w past u)
      begins_standing u = subst (Stands w.laid) (sym (begins_so w past u)) tt

  none_lost : (past : List Mark) → Follows w past → (t : ℕ) → t < outcomes.started past → IsHere (comes w past t)
  none_lost past f t lt = here_so w.laid fit.code.valid (comes w past t) (state_next w.laid fit.code.valid (beginning w past t) (own w t past) (all_fit past f t lt))

pub lose_none : (w : World) → SuitedAnswersLoseNoThread w
lose_none w fit suits past f t lt = none_lost w fit suits past f t lt
