-- What is said of the prefix of a right list, and what is wanted after it.
use Rattle.std.proofs.Common.{◌≡◌, ◌≢◌, List, [], ◌∷◌, ◌++◌, Option, Some, None, append_assoc, refl, sym, ap, ◌∙◌, subst}
use Rattle.std.specs.Prelude.{reverse}
use Rattle.std.proofs.lemmas.List.{reverse-append}
use Rattle.marks.specs.declared.side.Side.{Side}
use Rattle.marks.specs.Marks.{Mark}
use Rattle.marks.specs.Wants.{Want, Answer, Go, Value, Frame, CalledBack, Stopped}
use Rattle.c_code.specs.Machine.{Laid, Config}
use Rattle.c_code.specs.MarkLists.{Reading, Next, Quiet, Wants, Ends, No, step, settled, Verdict, Expects, Wrong, reply, closed, follow_to, follow, at_end, lists, moved, move, state}
use Rattle.c_code.specs.Laws.{IsWanted, PrefixesAreLists, EachMarkIsWanted}
use Rattle.c_code.proofs.Settles.{settled_twice, lists_settled}

module _ (r : Reading) (l : Laid) where
  open_to : (o : Option Answer) (k : Answer → Config) (ms more : List Mark) → follow_to o k (lists r (ms ++ more) l) (closed (ms ++ more)) ≢ Wrong → ((c : Config) → lists r (ms ++ more) l c ≢ Wrong → lists r ms l c ≢ Wrong) → follow_to o k (lists r ms l) (closed ms) ≢ Wrong
  open_to None k ms more h ih = h
  open_to (Some Go) k ms more h ih = ih (k Go) h
  open_to (Some (Value v)) k ms more h ih = ih (k (Value v)) h
  open_to (Some (Frame b)) k ms more h ih = ih (k (Frame b)) h
  open_to (Some (CalledBack f args)) k ms more h ih = ih (k (CalledBack f args)) h
  open_to (Some Stopped) k [] more h ih = λ e. cc
  open_to (Some Stopped) k (m ∷ ms) more h ih = h

  step_to : (s : Next) (m : Mark) (ms more : List Mark) → follow s m (lists r (ms ++ more) l) (closed (ms ++ more)) ≢ Wrong → ((c : Config) → lists r (ms ++ more) l c ≢ Wrong → lists r ms l c ≢ Wrong) → follow s m (lists r ms l) (closed ms) ≢ Wrong
  step_to (Wants side w k) m ms more h ih = open_to (reply side w m) k ms more h ih
  step_to (Quiet d) m ms more h ih = h
  step_to (Ends v) m ms more h ih = h
  step_to No m ms more h ih = h

  -- a list that isn't empty and is right begins at a step that wants a mark
  begins : (s : Next) (m : Mark) (go : Config → Verdict) (end : Verdict) → follow s m go end ≢ Wrong → at_end s ≢ Wrong
  begins (Wants side w k) m go end h = λ e. cc
  begins (Quiet d) m go end h = absurd (h refl)
  begins (Ends v) m go end h = absurd (h refl)
  begins No m go end h = absurd (h refl)

  pub prefixes : (ms more : List Mark) (c : Config) → lists r (ms ++ more) l c ≢ Wrong → lists r ms l c ≢ Wrong
  prefixes [] [] c h = h
  prefixes [] (m ∷ more) c h = begins (step r l (settled l c)) m (lists r more l) (closed more) h
  prefixes (m ∷ ms) more c h = step_to (step r l (settled l c)) m ms more h (λ d. prefixes ms more d)

  -- one mark on
  right_after : (o : Option Answer) (side : Side) (w : Want) (k : Answer → Config) (now : Config) (ms : List Mark) → step r l now ≡ Wants side w k → settled l now ≡ now → follow_to o k (lists r ms l) (closed ms) ≢ Wrong → lists r ms l (moved o k now) ≢ Wrong
  right_after None side w k now ms e s h = absurd (h refl)
  right_after (Some Go) side w k now ms e s h = h
  right_after (Some (Value v)) side w k now ms e s h = h
  right_after (Some (Frame b)) side w k now ms e s h = h
  right_after (Some (CalledBack f args)) side w k now ms e s h = h
  right_after (Some Stopped) side w k now [] e s h = let end : lists r [] l now ≡ Expects side w = ap (λ c. at_end (step r l c)) s ∙ ap at_end e in λ wrong. cc
  right_after (Some Stopped) side w k now (m ∷ ms) e s h = absurd (h refl)

  one_on : (s : Next) (now : Config) (m : Mark) (ms : List Mark) → step r l now ≡ s → settled l now ≡ now → follow s m (lists r ms l) (closed ms) ≢ Wrong → lists r ms l (move s m now) ≢ Wrong
  one_on (Wants side w k) now m ms e s h = right_after (reply side w m) side w k now ms e s h
  one_on (Quiet d) now m ms e s h = absurd (h refl)
  one_on (Ends v) now m ms e s h = absurd (h refl)
  one_on No now m ms e s h = absurd (h refl)

  pub state_settled : (c : Config) (past : List Mark) → settled l (state r l c past) ≡ state r l c past
  state_settled c [] = settled_twice l c
  state_settled c (m ∷ past) = settled_twice l (move (step r l (state r l c past)) m (state r l c past))

  follows : (c : Config) (past : List Mark) (m : Mark) (ms : List Mark) → lists r (m ∷ ms) l (state r l c past) ≢ Wrong → follow (step r l (state r l c past)) m (lists r ms l) (closed ms) ≢ Wrong
  follows c past m ms h = subst (λ x. follow (step r l x) m (lists r ms l) (closed ms) ≢ Wrong) (state_settled c past) h

  pub right_on : (c : Config) (past ms : List Mark) → lists r (reverse past ++ ms) l c ≢ Wrong → lists r ms l (state r l c past) ≢ Wrong
  right_on c [] ms h = subst (λ v. v ≢ Wrong) (sym (lists_settled l r ms c)) h
  right_on c (m ∷ past) ms h =
      let before : lists r (m ∷ ms) l (state r l c past) ≢ Wrong = right_on c past (m ∷ ms) (subst (λ xs. lists r xs l c ≢ Wrong) (ap (λ xs. xs ++ ms) (reverse-append (m ∷ []) past) ∙ append_assoc (reverse past) (m ∷ []) ms) h) in
      let now = state r l c past in
      let moves = one_on (step r l now) now m ms refl (state_settled c past) (follows c past m ms before) in
      subst (λ v. v ≢ Wrong) (sym (lists_settled l r ms (move (step r l now) m now))) moves

  wanted_to : (o : Option Answer) (n : Next) (side : Side) (w : Want) (k : Answer → Config) (m : Mark) (go : Config → Verdict) (end : Verdict) → n ≡ Wants side w k → reply side w m ≡ o → follow_to o k go end ≢ Wrong → IsWanted n m
  wanted_to None n side w k m go end e f h = absurd (h refl)
  wanted_to (Some x) n side w k m go end e f h = record { side = side; want = w; to = k; answer = x; wants = e; answers = f }

  wanted : (n s : Next) (m : Mark) (go : Config → Verdict) (end : Verdict) → n ≡ s → follow s m go end ≢ Wrong → IsWanted n m
  wanted n (Wants side w k) m go end e h = wanted_to (reply side w m) n side w k m go end e refl h
  wanted n (Quiet d) m go end e h = absurd (h refl)
  wanted n (Ends v) m go end e h = absurd (h refl)
  wanted n No m go end e h = absurd (h refl)

  pub prefixes_are_lists : (c : Config) → PrefixesAreLists r l c
  prefixes_are_lists c ms more h = prefixes ms more c h

  pub each_mark_is_wanted : (c : Config) → EachMarkIsWanted r l c
  each_mark_is_wanted c past m more h =
      wanted (step r l (state r l c past)) (step r l (state r l c past)) m (lists r more l) (closed more) refl (follows c past m more (right_on c past (m ∷ more) h))
