-- What is open where a thread stands is what is open by its marks.
use Rattle.std.proofs.Common.{◌≡◌, ◌≢◌, ◌⊎◌, ℕ, Bool, true, false, cond, List, [], ◌∷◌, map, Option, Some, None, is_some, inl, inr, refl, sym, ap, ◌∙◌, subst}
use Rattle.std.proofs.lemmas.Bool.{true≢false}
use Rattle.marks.specs.declared.side.Side.{Side}
use Rattle.marks.specs.declared.side.Side.TheVariants.{Replay, System}
use Rattle.marks.specs.Marks.{EventKind, Call, Ret, Up, UpRet, Alloc, Free, Stop, Act, Turn, Load, Store, Enter, Leave, Step, Fault, Made, Mark, side_of}
use Rattle.marks.specs.Opens.{frames, open_calls, open_ups, is_stop, is_stop_event}
use Rattle.marks.specs.Wants as wants
use Rattle.marks.specs.Wants.{Want, Outside, Answer, Go, Value, Frame, CalledBack, Stopped, answer_to, event_answer}
use Rattle.c_code.specs.Machine.{Laid, Config, Going, Under, Entering, Closing, Starting, Done, Lost, action}
use Rattle.c_code.specs.MarkLists.{Reading, Split, Above, Next, Quiet, Wants, Ends, No, reply, same_side, replay_part, step, moved, move, state, want_of}
use Rattle.c_code.specs.Valid.{IsSteady}
use Rattle.c_code.specs.Laws.{IsWanted}
use Rattle.c_code.specs.Opens.{Opens, nothing, call_below, opens_by, opens_above, system_part, Begins, AreAnswers, MarksAreOpen, WantsEndInnermost, EndsInnermost, AnswerAbove, WantsAboveEndInnermost}
use Rattle.c_code.proofs.Settles.{IsLoud, settled_is_loud}
use Rattle.c_code.proofs.Prefixes.{state_settled}
use Rattle.c_code.proofs.Sides.{above, replied, replies}
use Rattle.c_code.proofs.OpenMarks.{act_opens, one_more, IsInPlace, answer_in_place, stop_in_place, stop_opens, answer_opens, fault_opens, GoesOn}
use Rattle.c_code.proofs.OpenPlaces.{Stands, starting, done, lost, is_lost, opens_are}
use Rattle.c_code.proofs.OpenSteps.{Comes, Goes, next_goes, settled_stands}

-- ---- a Stop answers nothing

stop_kind : (want : Want) (k : EventKind) → is_stop_event k ≡ true → event_answer want k ≡ None
stop_kind Outside (Stop fault) h = refl
stop_kind wants.Turns (Stop fault) h = refl
stop_kind (wants.Loads p at n) (Stop fault) h = refl
stop_kind (wants.Stores p at bytes) (Stop fault) h = refl
stop_kind (wants.Enters i f args bytes) (Stop fault) h = refl
stop_kind (wants.Leaves at n) (Stop fault) h = refl
stop_kind (wants.Allocs n) (Stop fault) h = refl
stop_kind (wants.Frees at) (Stop fault) h = refl
stop_kind (wants.Calls i f args) (Stop fault) h = refl
stop_kind (wants.Below f args) (Stop fault) h = refl
stop_kind (wants.Gives f args) (Stop fault) h = refl
stop_kind (wants.Returns f args v) (Stop fault) h = refl
stop_kind (wants.CallsBack f args bytes) (Stop fault) h = refl
stop_kind (wants.UpReturns f v) (Stop fault) h = refl
stop_kind (wants.Steps i f args) (Stop fault) h = refl
stop_kind (wants.Fails kind) (Stop fault) h = refl
stop_kind want (Call f args ins outs prepared) h = absurd cc
stop_kind want (Ret f args v same outs commit) h = absurd cc
stop_kind want (Up f args) h = absurd cc
stop_kind want (UpRet f v) h = absurd cc
stop_kind want (Alloc at size) h = absurd cc
stop_kind want (Free at size) h = absurd cc

stop_answers : (want : Want) (a : Act) → is_stop a ≡ true → answer_to want a ≡ None
unfolding answer_to
stop_answers want (Made e) h = stop_kind want e.kind h
stop_answers want Turn h = absurd cc
stop_answers want (Load p at bytes) h = absurd cc
stop_answers want (Store p at bytes) h = absurd cc
stop_answers want (Enter f args at bytes) h = absurd cc
stop_answers want (Leave at size) h = absurd cc
stop_answers want (Step f args v ins pieces freed) h = absurd cc
stop_answers want (Fault kind crosses ins outs access) h = absurd cc

neither : (b : Bool) (o : Option Answer) → o ≡ None → cond b o None ≡ None
neither true o e = e
neither false o e = refl

stop_replies : (side : Side) (want : Want) (m : Mark) → is_stop m.act ≡ true → reply side want m ≡ None
unfolding reply
stop_replies side want m h = neither (same_side (side_of side m.act) m.side) (answer_to want m.act) (stop_answers want m.act h)

stop_moves : (n : Next) (m : Mark) (now : Config) → is_stop m.act ≡ true → move n m now ≡ now
stop_moves (Wants side want to) m now h = ap (λ o. moved o to now) (stop_replies side want m h)
stop_moves (Quiet d) m now h = refl
stop_moves (Ends v) m now h = refl
stop_moves No m now h = refl

-- ---- one mark on

module _ (l : Laid) (height : ℕ → ℕ) (steady : IsSteady l.code height) (r : Reading) where
  abbrev S : Opens → Config → Type 0
  S = Stands r l height

  answered : (o : Opens) (now : Config) (side : Side) (want : Want) (to : Answer → Config) (m : Mark) (x : Answer) → S o now → Comes r l height o side want to → reply side want m ≡ Some x → S (act_opens m.side m.act o) (moved (Some x) to now)
  answered o now side want to m x h comes e =
      let r' = replied side want m x e in
      subst (λ s. S (act_opens s m.act o) (moved (Some x) to now)) (sym r'.0) (by x r'.1)
    where
      goes : (y : Answer) → GoesOn y → answer_to want m.act ≡ Some y → S (act_opens (side_of side m.act) m.act o) (to y)
      goes y g a = subst (λ p. S p (to y)) (sym (answer_opens o side want m.act y a g)) (comes.2 y)

      by : (y : Answer) → answer_to want m.act ≡ Some y → S (act_opens (side_of side m.act) m.act o) (moved (Some y) to now)
      by Stopped a = subst (λ p. S p now) (sym (fault_opens o (side_of side m.act) want m.act a)) h
      by Go a = goes Go tt a
      by (Value v) a = goes (Value v) tt a
      by (Frame at) a = goes (Frame at) tt a
      by (CalledBack g bs) a = goes (CalledBack g bs) tt a

  stopped : (o : Opens) (now : Config) (n : Next) (m : Mark) → S o now → is_stop m.act ≡ true → S (act_opens m.side m.act o) (move n m now)
  stopped o now n m h z = subst (λ c. S (act_opens m.side m.act o) c) (sym (stop_moves n m now z)) (subst (λ p. S p now) (sym (stop_opens m.side m.act o z)) h)

  -- nothing answers where there is no next step
  lost_moves : (o : Opens) (now : Config) (m : Mark) → now ≡ Lost → S o (move (step r l now) m now)
  lost_moves o now m e = subst (λ c. S o (move (step r l c) m c)) (sym e) (lost o)

  wanted : (o : Opens) (now : Config) (m : Mark) → IsLoud (action l now) → S o now → IsWanted (step r l now) m → S (act_opens m.side m.act o) (move (step r l now) m now)
  wanted o now m loud h w = by (is_lost r l height o now h)
    where
      here : now ≢ Lost → Comes r l height o w.side w.want w.to
      here n = subst (Goes r l height o) w.wants (next_goes l height steady r o now loud h n)

      by : (now ≡ Lost) ⊎ (now ≢ Lost) → S (act_opens m.side m.act o) (move (step r l now) m now)
      by (inl e) = lost_moves (act_opens m.side m.act o) now m e
      by (inr n) = subst (λ k. S (act_opens m.side m.act o) (move k m now)) (sym w.wants) (subst (λ a. S (act_opens m.side m.act o) (moved a w.to now)) (sym w.answers) (answered o now w.side w.want w.to m w.answer h (here n) w.answers))

  one_on : (o : Opens) (now : Config) (m : Mark) → IsLoud (action l now) → S o now → IsWanted (step r l now) m ⊎ (is_stop m.act ≡ true) → S (act_opens m.side m.act o) (move (step r l now) m now)
  one_on o now m loud h (inl w) = wanted o now m loud h w
  one_on o now m loud h (inr z) = stopped o now (step r l now) m h z

  in_place : (n : Next) (m : Mark) → IsWanted n m ⊎ (is_stop m.act ≡ true) → IsInPlace m.side m.act
  in_place n m (inl w) = subst (λ s. IsInPlace s m.act) (sym (replied w.side w.want m w.answer w.answers).0) (answer_in_place w.side m.act)
  in_place n m (inr z) = stop_in_place m.side m.act z

-- after marks a thread stands before the next one
state_loud : (r : Reading) (l : Laid) (c : Config) (past : List Mark) → IsLoud (action l (state r l c past))
state_loud r l c past = subst (λ d. IsLoud (action l d)) (state_settled r l c past) (settled_is_loud l (state r l c past))

module _ (l : Laid) (height : ℕ → ℕ) (steady : IsSteady l.code height) where
  begins : (r : Reading) (c : Config) → Begins r c → Stands r l height nothing c
  begins Split (Starting f args) b = starting f args refl
  begins Above (Done v) b = done v
  begins Split (Going a vs ws) b = absurd b
  begins Split (Under call vs ws) b = absurd b
  begins Split (Entering side i f args vs ws) b = absurd b
  begins Split (Closing v w vs ws) b = absurd b
  begins Split (Done v) b = absurd b
  begins Split Lost b = absurd b
  begins Above (Going a vs ws) b = absurd b
  begins Above (Under call vs ws) b = absurd b
  begins Above (Entering side i f args vs ws) b = absurd b
  begins Above (Closing v w vs ws) b = absurd b
  begins Above (Starting f args) b = absurd b
  begins Above Lost b = absurd b

  leads : (r : Reading) (c : Config) (past : List Mark) → Begins r c → AreAnswers r l c past → Stands r l height (opens_by past) (state r l c past)
  leads r c [] b h = settled_stands l height steady r nothing c (begins r c b)
  leads r c (m ∷ past) b h =
      let now = state r l c past in
      let before = leads r c past b h.1 in
      let went = one_on l height steady r (opens_by past) now m (state_loud r l c past) before h.0 in
      let place = in_place l height steady r (step r l now) m h.0 in
      subst (λ o. Stands r l height o (state r l c (m ∷ past))) (sym (one_more past m place)) (settled_stands l height steady r (act_opens m.side m.act (opens_by past)) (move (step r l now) m now) went)

  not_lost : (r : Reading) (c : Config) (side : Side) (want : Want) (to : Answer → Config) → step r l c ≡ Wants side want to → c ≢ Lost
  not_lost r c side want to e z = let no : No ≡ Wants side want to = ap (step r l) (sym z) ∙ e in cc

  ends_innermost : (r : Reading) (o : Opens) (now : Config) (side : Side) (want : Want) (to : Answer → Config) → IsLoud (action l now) → Stands r l height o now → step r l now ≡ Wants side want to → EndsInnermost side want o
  ends_innermost r o now side want to loud h e = let comes : Comes r l height o side want to = subst (Goes r l height o) e (next_goes l height steady r o now loud h (not_lost r now side want to e)) in comes.1

  -- ---- above the cut

  some_of : (o : Option Answer) → is_some o ≡ true → (x : Answer) × (o ≡ Some x)
  some_of (Some x) e = (x, refl)
  some_of None e = absurd (true≢false (sym e))

  answer_above : (o : Opens) (now : Config) (m : Mark) → IsLoud (action l now) → Stands Above l height o now → m.side ≡ Replay → is_some (answer_to (want_of (step Above l now)) m.act) ≡ true → Stands Above l height (act_opens m.side m.act o) (move (step Above l now) m now)
  answer_above o now m loud h side_is answers = by (is_lost Above l height o now h)
    where
      each : (n : Next) → step Above l now ≡ n → Goes Above l height o n → is_some (answer_to (want_of n) m.act) ≡ true → Stands Above l height (act_opens m.side m.act o) (move n m now)
      each (Wants side want to) e comes a =
          let some = some_of (answer_to want m.act) a in
          let same : m.side ≡ side_of side m.act = side_is ∙ sym (above m.act) ∙ ap (λ s. side_of s m.act) (sym comes.0) in
          let hears = replies side want m some.0 same some.1 in
          subst (λ p. Stands Above l height (act_opens m.side m.act o) (moved p to now)) (sym hears) (answered l height steady Above o now side want to m some.0 h comes hears)
      each (Quiet d) e g a = absurd g
      each (Ends v) e g a = let no = g.1 in absurd cc
      each No e g a = absurd g

      by : (now ≡ Lost) ⊎ (now ≢ Lost) → Stands Above l height (act_opens m.side m.act o) (move (step Above l now) m now)
      by (inl e) = lost_moves l height steady Above (act_opens m.side m.act o) now m e
      by (inr n) = each (step Above l now) refl (next_goes l height steady Above o now loud h n) answers

  leads_above : (past : List Mark) → AnswerAbove l past → Stands Above l height (opens_by past) (state Above l (Done 0) past)
  leads_above [] h = settled_stands l height steady Above nothing (Done 0) (done 0)
  leads_above (m ∷ past) (side_is, answers, h) =
      let now = state Above l (Done 0) past in
      let before = leads_above past h in
      let loud = state_loud Above l (Done 0) past in
      let place : IsInPlace m.side m.act = subst (λ s. IsInPlace s m.act) (sym side_is) tt in
      subst (λ o. Stands Above l height o (state Above l (Done 0) (m ∷ past))) (sym (one_more past m place)) (settled_stands l height steady Above (act_opens m.side m.act (opens_by past)) (move (step Above l now) m now) (by now loud before answers))
    where
      by : (now : Config) → IsLoud (action l now) → Stands Above l height (opens_by past) now → (is_some (answer_to (want_of (step Above l now)) m.act) ≡ true) ⊎ (is_stop m.act ≡ true) → Stands Above l height (act_opens m.side m.act (opens_by past)) (move (step Above l now) m now)
      by now loud before (inl a) = answer_above (opens_by past) now m loud before side_is a
      by now loud before (inr z) = stopped l height steady Above (opens_by past) now (step Above l now) m before z

  -- marks above the cut are all above it
  all_above : (past : List Mark) → AnswerAbove l past → replay_part past ≡ past
  all_above [] h = refl
  all_above (m ∷ past) (s, a, h) = ap (λ t. cond (same_side t Replay) (m ∷ replay_part past) (replay_part past)) s ∙ ap (λ ms. m ∷ ms) (all_above past h)

  none_below : (past : List Mark) → AnswerAbove l past → system_part past ≡ []
  none_below [] h = refl
  none_below (m ∷ past) (s, a, h) = ap (λ t. cond (same_side t System) (m ∷ system_part past) (system_part past)) s ∙ none_below past h

  opens_same : (past : List Mark) → AnswerAbove l past → opens_by past ≡ opens_above past
  opens_same past h = λ i. record {
    above = frames (all_above past h i);
    below = frames (none_below past h i);
    calls = map call_below (open_calls (all_above past h i));
    ups = open_ups (all_above past h i);
  }

  want_ends : (n : Next) (o : Opens) → ((side : Side) (want : Want) (to : Answer → Config) → n ≡ Wants side want to → (side ≡ Replay) × EndsInnermost side want o) → EndsInnermost Replay (want_of n) o
  want_ends (Wants side want to) o h = let e = h side want to refl in subst (λ s. EndsInnermost s want o) e.0 e.1
  want_ends (Quiet d) o h = tt
  want_ends (Ends v) o h = tt
  want_ends No o h = tt

pub marks_are_open : (r : Reading) (l : Laid) → MarksAreOpen r l
marks_are_open r l valid c past b h n = opens_are r l valid.height (opens_by past) (state r l c past) (leads l valid.height valid.steady r c past b h) n

pub wants_end_innermost : (r : Reading) (l : Laid) → WantsEndInnermost r l
wants_end_innermost r l valid c past side want to b h e = ends_innermost l valid.height valid.steady r (opens_by past) (state r l c past) side want to (state_loud r l c past) (leads l valid.height valid.steady r c past b h) e

pub wants_above_end_innermost : (l : Laid) → WantsAboveEndInnermost l
wants_above_end_innermost l valid past h =
    let height = valid.height in
    let now = state Above l (Done 0) past in
    let stands = leads_above l height valid.steady past h in
    let loud = state_loud Above l (Done 0) past in
    subst (EndsInnermost Replay (want_of (step Above l now))) (opens_same l height valid.steady past h)
    (want_ends l height valid.steady (step Above l now) (opens_by past) (λ side want to e. (side_above now stands loud side want to e, ends_innermost l height valid.steady Above (opens_by past) now side want to loud stands e)))
  where
    side_above : (now : Config) → Stands Above l valid.height (opens_by past) now → IsLoud (action l now) → (side : Side) (want : Want) (to : Answer → Config) → step Above l now ≡ Wants side want to → side ≡ Replay
    side_above now stands loud side want to e =
        let comes : Comes Above l valid.height (opens_by past) side want to = subst (Goes Above l valid.height (opens_by past)) e (next_goes l valid.height valid.steady Above (opens_by past) now loud stands (not_lost l valid.height valid.steady Above now side want to e)) in
        comes.0
