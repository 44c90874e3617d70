-- What is said of a thread's marks, each of which answers what its code wanted and is no fault.
use Rattle.std.proofs.Common.{◌≡◌, ◌≢◌, List, [], ◌∷◌, ◌++◌, Some, append_assoc, refl, sym, ap, ◌∙◌}
use Rattle.std.specs.Prelude.{reverse}
use Rattle.std.proofs.lemmas.List.{append-nil, reverse-append}
use Rattle.marks.specs.declared.side.Side.{Side}
use Rattle.marks.specs.Marks.{Mark}
use Rattle.marks.specs.Wants.{Want, Answer, Go, Value, Frame, CalledBack, Stopped}
use Rattle.c_code.specs.Machine.{Laid, Config}
use Rattle.c_code.specs.MarkLists.{Reading, Next, Wants, step, Expects, Wrong, reply, closed, follow_to, follow, at_end, lists, moved, move, state}
use Rattle.c_code.specs.Laws.{IsWanted}
use Rattle.c_code.proofs.Settles.{lists_settled}
use Rattle.c_code.proofs.Prefixes.{state_settled}

-- the answer leads on
abbrev pub LeadsOn : Answer → Type 0
LeadsOn Go = Unit {0}
LeadsOn (Value v) = Unit {0}
LeadsOn (Frame at) = Unit {0}
LeadsOn (CalledBack g args) = Unit {0}
LeadsOn Stopped = ⊥

pub record GoesOn (next : Next) (m : Mark) : Type 0 where
  pub wanted : IsWanted next m
  pub leads : LeadsOn wanted.answer

module _ (r : Reading) (l : Laid) (c : Config) where
  abbrev pub AllGoOn : List Mark → Type 0
  AllGoOn [] = Unit {0}
  AllGoOn (m ∷ past) = GoesOn (step r l (state r l c past)) m × AllGoOn past

  turned : (past : List Mark) (m : Mark) (ms : List Mark) → reverse (m ∷ past) ++ ms ≡ reverse past ++ (m ∷ ms)
  turned past m ms = ap (λ xs. xs ++ ms) (reverse-append (m ∷ []) past) ∙ append_assoc (reverse past) (m ∷ []) ms

  -- an answer that leads on leads to the same place in a list and by itself
  led : (past : List Mark) (m : Mark) (ms : List Mark) (k : Answer → Config) (x : Answer) → LeadsOn x →
      follow_to (Some x) k (lists r ms l) (closed ms) ≡ lists r ms l (moved (Some x) k (state r l c past))
  led past m ms k Go h = refl
  led past m ms k (Value v) h = refl
  led past m ms k (Frame at) h = refl
  led past m ms k (CalledBack g args) h = refl
  led past m ms k Stopped h = absurd h

  followed : (past : List Mark) (m : Mark) (ms : List Mark) → (g : GoesOn (step r l (state r l c past)) m) →
      follow (step r l (state r l c past)) m (lists r ms l) (closed ms) ≡ lists r ms l (state r l c (m ∷ past))
  followed past m ms g =
      let w = g.wanted in
      let now = state r l c past in
      let here : follow (step r l now) m (lists r ms l) (closed ms) ≡ follow_to (reply w.side w.want m) w.to (lists r ms l) (closed ms) =
      ap (λ n. follow n m (lists r ms l) (closed ms)) w.wants in
      let there : follow_to (reply w.side w.want m) w.to (lists r ms l) (closed ms) ≡ follow_to (Some w.answer) w.to (lists r ms l) (closed ms) =
      ap (λ o. follow_to o w.to (lists r ms l) (closed ms)) w.answers in
      let goes : move (step r l now) m now ≡ moved (Some w.answer) w.to now = ap (λ n. move n m now) w.wants ∙ ap (λ o. moved o w.to now) w.answers in
      here ∙ (there ∙ (led past m ms w.to w.answer g.leads ∙ (ap (λ d. lists r ms l d) (sym goes) ∙ sym (lists_settled l r ms (move (step r l now) m now)))))

  pub said_on : (past ms : List Mark) → AllGoOn past → lists r (reverse past ++ ms) l c ≡ lists r ms l (state r l c past)
  said_on [] ms h = sym (lists_settled l r ms c)
  said_on (m ∷ past) ms h =
      ap (λ xs. lists r xs l c) (turned past m ms) ∙ (said_on past (m ∷ ms) h.1 ∙ (ap (λ x. follow (step r l x) m (lists r ms l) (closed ms)) (state_settled r l c past) ∙ followed past m ms h.0))

  -- what is said of the list is what comes next
  pub said_all : (past : List Mark) → AllGoOn past → lists r (reverse past) l c ≡ at_end (step r l (state r l c past))
  said_all past h = ap (λ ms. lists r ms l c) (sym (append-nil (reverse past))) ∙ (said_on past [] h ∙ ap (λ x. at_end (step r l x)) (state_settled r l c past))

  -- so where a mark is wanted after it, the list is right
  pub right_where_wanted : (past : List Mark) → AllGoOn past → (side : Side) (want : Want) (to : Answer → Config) → step r l (state r l c past) ≡ Wants side want to → lists r (reverse past) l c ≢ Wrong
  right_where_wanted past h side want to e is_wrong =
      let z : Expects side want ≡ Wrong = sym (said_all past h ∙ ap at_end e) ∙ is_wrong in absurd cc
