-- What code wants above the cut alone is wanted above it, whatever marks came before.
use Rattle.std.proofs.Common.{◌≡◌, ◌≢◌, ℕ, List, [], ◌∷◌, Option, Some, None, ◌⊎◌, inl, inr, sym, ap, ◌∙◌, subst}
use Rattle.marks.specs.declared.side.Side.{Side}
use Rattle.marks.specs.declared.side.Side.TheVariants.{Replay}
use Rattle.marks.specs.Marks.{Mark}
use Rattle.marks.specs.Wants.{Want, Answer, Go, Value, Frame, CalledBack, Stopped}
use Rattle.c_code.specs.Machine.{Laid, Config, Done, Lost, action}
use Rattle.c_code.specs.MarkLists.{Above, Next, Quiet, Wants, Ends, No, step, reply, moved, move, state}
use Rattle.c_code.specs.Opens.{Opens, nothing}
use Rattle.c_code.specs.Valid.{IsSteady}
use Rattle.c_code.proofs.OpenMarks.{want_opens}
use Rattle.c_code.proofs.OpenPlaces.{Stands, done, is_lost, lost}
use Rattle.c_code.proofs.OpenSteps.{Comes, Goes, next_goes, settled_stands}
use Rattle.c_code.proofs.Prefixes.{state_settled}
use Rattle.c_code.proofs.Settles.{IsLoud, settled_is_loud}

module _ (l : Laid) (height : ℕ → ℕ) (steady : IsSteady l.code height) where
  abbrev S : Opens → Config → Type 0
  S o c = Stands Above l height o c

  -- the thread stands somewhere, whatever is open there
  abbrev Somewhere : Config → Type 0
  Somewhere c = (o : Opens) × S o c

  answered : (o : Opens) (now : Config) (side : Side) (want : Want) (to : Answer → Config) → S o now → Comes Above l height o side want to → (x : Option Answer) → Somewhere (moved x to now)
  answered o now side want to here comes None = (o, here)
  answered o now side want to here comes (Some Stopped) = (o, here)
  answered o now side want to here comes (Some Go) = (want_opens side want Go o, comes.2 Go)
  answered o now side want to here comes (Some (Value v)) = (want_opens side want (Value v) o, comes.2 (Value v))
  answered o now side want to here comes (Some (Frame at)) = (want_opens side want (Frame at) o, comes.2 (Frame at))
  answered o now side want to here comes (Some (CalledBack g args)) = (want_opens side want (CalledBack g args) o, comes.2 (CalledBack g args))

  goes_to : (o : Opens) (now : Config) (m : Mark) → S o now → (n : Next) → Goes Above l height o n → Somewhere (move n m now)
  goes_to o now m here (Wants side want to) g = answered o now side want to here g (reply side want m)
  goes_to o now m here (Quiet d) g = (o, here)
  goes_to o now m here (Ends v) g = (o, here)
  goes_to o now m here No g = (o, here)

  one_on : (o : Opens) (now : Config) (m : Mark) → IsLoud (action l now) → S o now → Somewhere (move (step Above l now) m now)
  one_on o now m loud here = by (is_lost Above l height o now here)
    where
      by : (now ≡ Lost) ⊎ (now ≢ Lost) → Somewhere (move (step Above l now) m now)
      by (inl e) = (o, subst (λ (d : Config). S o (move (step Above l d) m d)) (sym e) (lost o))
      by (inr n) = goes_to o now m here (step Above l now) (next_goes l height steady Above o now loud here n)

  loud_at : (past : List Mark) → IsLoud (action l (state Above l (Done 0) past))
  loud_at past = subst (λ (d : Config). IsLoud (action l d)) (state_settled Above l (Done 0) past) (settled_is_loud l (state Above l (Done 0) past))

  stands : (past : List Mark) → Somewhere (state Above l (Done 0) past)
  stands [] = (nothing, settled_stands l height steady Above nothing (Done 0) (done 0))
  stands (m ∷ past) =
      let now = state Above l (Done 0) past in
      let before = stands past in
      let went = one_on before.0 now m (loud_at past) before.1 in
      (went.0, settled_stands l height steady Above went.0 (move (step Above l now) m now) went.1)

  not_lost : (c : Config) (side : Side) (want : Want) (to : Answer → Config) → step Above l c ≡ Wants side want to → c ≢ Lost
  not_lost c side want to e z = let no : No ≡ Wants side want to = ap (step Above l) (sym z) ∙ e in cc

  pub wants_above : (past : List Mark) (side : Side) (want : Want) (to : Answer → Config) → step Above l (state Above l (Done 0) past) ≡ Wants side want to → side ≡ Replay
  wants_above past side want to e =
      let now = state Above l (Done 0) past in
      let here = stands past in
      let comes : Comes Above l height here.0 side want to = subst (Goes Above l height here.0) e (next_goes l height steady Above here.0 now (loud_at past) here.1 (not_lost now side want to e)) in
      comes.0
