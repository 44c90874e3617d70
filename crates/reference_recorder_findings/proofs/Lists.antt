-- Lists of checks, one after another.
use Rattle.std.proofs.Common.{◌≡◌, ℕ, ◌+◌, ◌<◌, ◌≤◌, List, [], ◌∷◌, length, get_or, drop, Option, Some, None, Result, Ok, Err, IfOk, inl, inr, sym, ap, subst, ◌∙◌}
use Rattle.std.proofs.lemmas.List.{drop_all, drop_more}
use Rattle.replay_runs.specs.Checks.{Checks, Check, Done}
use Rattle.reference_recorder_findings.specs.declared.finding.Finding.{Finding}
use Rattle.reference_recorder_findings.specs.Findings.{IsFound}

-- these checks, and after them those
abbrev pub after : Checks → Checks → Checks
after Done cs = cs
after (Check Bad Found ds) cs = Check Bad Found (after ds cs)

-- what the first ones find
pub found_first : (ds cs : Checks) (f : Finding) → IsFound ds (Some f) → IsFound (after ds cs) (Some f)
found_first Done cs f h = absurd h
found_first (Check Bad Found ds) cs f h = elim h [
  | inl here ↦ inl here
  | inr later ↦ inr (later.0, found_first ds cs f later.1)
]

-- they pass: so those after them decide
pub found_after : (ds cs : Checks) (o : Option Finding) → IsFound ds None → IsFound cs o → IsFound (after ds cs) o
found_after Done cs o pass h = h
found_after (Check Bad Found ds) cs None pass h = (pass.0, found_after ds cs None pass.1 h)
found_after (Check Bad Found ds) cs (Some f) pass h = inr (pass.0, found_after ds cs (Some f) pass.1 h)

-- what is found, in other words
pub found_is : (cs : Checks) (o q : Option Finding) → o ≡ q → IsFound cs o → IsFound cs q
found_is cs o q e = subst (IsFound cs) e

-- what these checks find, those find
abbrev pub FindsFor : Checks → Checks → Type 0
FindsFor ds cs = (o : Option Finding) → IsFound ds o → IsFound cs o

-- the same of what comes with them, where memory doesn't run out
pub ok_for : {E : Type 0} (r : Result (Option Finding) E) (ds cs : Checks) → FindsFor ds cs → IfOk r (IsFound ds) → IfOk r (IsFound cs)
ok_for (Ok o) ds cs for h = for o h
ok_for (Err e) ds cs for h = h

-- the same after others
pub after_same : (ds cs es : Checks) → FindsFor cs es → FindsFor (after ds cs) (after ds es)
after_same Done cs es for o h = for o h
after_same (Check Bad Found ds) cs es for None h = (h.0, after_same ds cs es for None h.1)
after_same (Check Bad Found ds) cs es for (Some f) h = elim h [
  | inl here ↦ inl here
  | inr later ↦ inr (later.0, after_same ds cs es for (Some f) later.1)
]

-- ---- as many checks as a list has items

-- checks of each item of a list, in order; those of an item may ask for the items before it
module _ {A S : Type 0} (one : S → A → Checks) (all : S → List A → Checks) (next : S → A → S) (none : (s : S) → IsFound (all s []) None)
    (more : (s : S) (x : A) (xs : List A) → FindsFor (after (one s x) (all (next s x) xs)) (all s (x ∷ xs))) where
  first_of : (xs : List A) (i : ℕ) (x d : A) → i < length xs → x ≡ get_or xs i d → drop i xs ≡ x ∷ drop (i + 1) xs
  first_of xs i x d lt is = drop_more xs i d lt ∙ ap (λ y. y ∷ drop (i + 1) xs) (sym is)

  -- the items from a place on decide, and the one there fails
  pub found_at : (cs : Checks) (xs : List A) (i : ℕ) (x d : A) (s : S) (f : Finding) → i < length xs → x ≡ get_or xs i d →
      FindsFor (all s (drop i xs)) cs → IsFound (one s x) (Some f) → IsFound cs (Some f)
  found_at cs xs i x d s f lt is rest h =
      rest (Some f) (subst (λ ys. IsFound (all s ys) (Some f)) (sym (first_of xs i x d lt is)) (more s x (drop (i + 1) xs) (Some f) (found_first (one s x) (all (next s x) (drop (i + 1) xs)) f h)))

  -- it passes
  pub passed_at : (cs : Checks) (xs : List A) (i : ℕ) (x d : A) (s : S) → i < length xs → x ≡ get_or xs i d →
      FindsFor (all s (drop i xs)) cs → IsFound (one s x) None → FindsFor (all (next s x) (drop (i + 1) xs)) cs
  passed_at cs xs i x d s lt is rest pass o h =
      rest o (subst (λ ys. IsFound (all s ys) o) (sym (first_of xs i x d lt is)) (more s x (drop (i + 1) xs) o (found_after (one s x) (all (next s x) (drop (i + 1) xs)) o pass h)))

  -- all pass
  pub all_passed : (cs : Checks) (xs : List A) (i : ℕ) (s : S) → length xs ≤ i → FindsFor (all s (drop i xs)) cs → IsFound cs None
  all_passed cs xs i s le rest = rest None (subst (λ ys. IsFound (all s ys) None) (sym (drop_all i xs le)) (none s))
