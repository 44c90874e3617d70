-- What is handed down to a thread is decided by its open calls and by the keys under which regions were prepared.
use Rattle.std.proofs.Common.{◌≡◌, ◌⊎◌, inl, inr, ⊎_elim, ℕ, Bool, true, false, ◌&&◌, ◌||◌, not, cond, eqb, List, [], ◌∷◌, ◌++◌, map, Option, Some, None, refl, sym, ap, ◌∙◌, subst, eqb-true}
use Rattle.std.proofs.lemmas.Bool.{and_parts, or_cases, true≢false}
use Rattle.run_events.specs.declared.key.Class.TheVariants.{Async}
use Rattle.marks.specs.declared.range.Range.{Range}
use Rattle.marks.specs.Ranges.{Prepared, covers}
use Rattle.marks.specs.Marks.{EventKind, Call, Ret, Up, UpRet, Alloc, Free, Stop, Act, Turn, Load, Store, Enter, Leave, Step, Fault, Made, Mark, Commit, NoRegion, Withheld, Released}
use Rattle.marks.proofs.Touched.{or_true_left, or_true_right}
use Rattle.replay_runs.specs.Runs.{Link, OfKey, has, marks_of, new_events}
use Rattle.replay_runs.specs.Threads.{open_calls}
use Rattle.replay_runs.specs.Keys.{key}
use Rattle.replay_runs.specs.Pool.{prepared_under, commit_leaves, use_after, act_use, in_use_from, in_use}
use Rattle.replay_runs.specs.Checks.{any_number}
use Rattle.replay_runs.proofs.Tested.{not_true, or_false}
use Rattle.space_memory_laws.specs.Owed.{any_out, IsPreparedUnder}
use Rattle.space_memory_laws.specs.Rights.{IsHandedDown, any_in}
use Rattle.whole_runs.specs.World.{World, begin}

-- ---- keys in use were prepared

abbrev kind_keys : EventKind → List ℕ
kind_keys (Call f args ins outs prepared) = map (λ p. p.key) prepared
kind_keys (Ret f args v same outs commit) = []
kind_keys (Up f args) = []
kind_keys (UpRet f v) = []
kind_keys (Alloc at size) = []
kind_keys (Free at size) = []
kind_keys (Stop fault) = []

abbrev act_keys : Act → List ℕ
act_keys (Made e) = kind_keys e.kind
act_keys Turn = []
act_keys (Load o at bytes) = []
act_keys (Store o at bytes) = []
act_keys (Enter f args at bytes) = []
act_keys (Leave at size) = []
act_keys (Step f args v ins pieces freed) = []
act_keys (Fault k crosses ins outs access) = []

-- the keys under which Calls of these marks prepared regions
abbrev pub prepared_keys : List Mark → List ℕ
prepared_keys [] = []
prepared_keys (m ∷ past) = act_keys m.act ++ prepared_keys past

listed_left : (xs ys : List ℕ) (k : ℕ) → any_number xs k ≡ true → any_number (xs ++ ys) k ≡ true
listed_left [] ys k h = absurd (true≢false (sym h))
listed_left (x ∷ xs) ys k h = ⊎_elim (λ z. or_true_left (eqb x k) (any_number (xs ++ ys) k) z) (λ z. or_true_right (eqb x k) (any_number (xs ++ ys) k) (listed_left xs ys k z)) (or_cases (eqb x k) (any_number xs k) h)

listed_right : (xs ys : List ℕ) (k : ℕ) → any_number ys k ≡ true → any_number (xs ++ ys) k ≡ true
listed_right [] ys k h = h
listed_right (x ∷ xs) ys k h = or_true_right (eqb x k) (any_number (xs ++ ys) k) (listed_right xs ys k h)

-- a region that a mark leaves under a key is the one before, or the mark prepared it
call_used : (ps : List Prepared) (k : ℕ) (o : Option Range) (r : Range) → prepared_under ps k o ≡ Some r → (any_number (map (λ p. p.key) ps) k ≡ true) ⊎ (o ≡ Some r)
call_used [] k o r h = inr h
call_used (p ∷ ps) k o r h = go (eqb p.key k) h (λ z. call_used ps k o r z)
  where
    go : (b : Bool) → cond b (Some p.range) (prepared_under ps k o) ≡ Some r → (prepared_under ps k o ≡ Some r → (any_number (map (λ p. p.key) ps) k ≡ true) ⊎ (o ≡ Some r)) → ((b || any_number (map (λ p. p.key) ps) k) ≡ true) ⊎ (o ≡ Some r)
    go true h later = inl refl
    go false h later = later h

ret_used : (c : Commit) (k : ℕ) (o : Option Range) (r : Range) → commit_leaves k c o ≡ Some r → o ≡ Some r
ret_used NoRegion k o r h = h
ret_used Withheld k o r h = h
ret_used (Released j p) k o r h = go (eqb j k) h
  where
    go : (b : Bool) → cond b None o ≡ Some r → o ≡ Some r
    go true h = cc
    go false h = h

kind_used : (e : EventKind) (k : ℕ) (o : Option Range) (r : Range) → use_after k e o ≡ Some r → (any_number (kind_keys e) k ≡ true) ⊎ (o ≡ Some r)
kind_used (Call f args ins outs prepared) k o r h = call_used prepared k o r h
kind_used (Ret f args v same outs commit) k o r h = inr (ret_used commit k o r h)
kind_used (Up f args) k o r h = inr h
kind_used (UpRet f v) k o r h = inr h
kind_used (Alloc at size) k o r h = inr h
kind_used (Free at size) k o r h = inr h
kind_used (Stop fault) k o r h = inr h

act_used : (a : Act) (k : ℕ) (o : Option Range) (r : Range) → act_use k a o ≡ Some r → (any_number (act_keys a) k ≡ true) ⊎ (o ≡ Some r)
act_used (Made e) k o r h = kind_used e.kind k o r h
act_used Turn k o r h = inr h
act_used (Load q at bytes) k o r h = inr h
act_used (Store q at bytes) k o r h = inr h
act_used (Enter f args at bytes) k o r h = inr h
act_used (Leave at size) k o r h = inr h
act_used (Step f args v ins pieces freed) k o r h = inr h
act_used (Fault kd crosses ins outs access) k o r h = inr h

used_listed : (l : Link) (k : ℕ) (r : Range) (past : List Mark) → in_use_from k None (new_events l past) ≡ Some r → any_number (prepared_keys past) k ≡ true
used_listed l k r [] h = cc
used_listed l k r (m ∷ past) h = go (λ z. used_listed l k r past z) (has m l) h
  where
    later : (in_use_from k None (new_events l past) ≡ Some r → any_number (prepared_keys past) k ≡ true) → in_use_from k None (new_events l past) ≡ Some r → any_number (act_keys m.act ++ prepared_keys past) k ≡ true
    later before z = listed_right (act_keys m.act) (prepared_keys past) k (before z)

    go : (in_use_from k None (new_events l past) ≡ Some r → any_number (prepared_keys past) k ≡ true) → (b : Bool) → in_use_from k None (cond b (m ∷ new_events l past) (new_events l past)) ≡ Some r → any_number (act_keys m.act ++ prepared_keys past) k ≡ true
    go before true q = ⊎_elim (λ z. listed_left (act_keys m.act) (prepared_keys past) k z) (later before) (act_used m.act k (in_use_from k None (new_events l past)) r q)
    go before false q = later before q

-- ---- the regions of keys

module _ (w : World) (past : List Mark) where
  abbrev in_region : Option Range → ℕ → Bool
  in_region None x = false
  in_region (Some r) x = covers r x

  abbrev some_region : List ℕ → ℕ → Bool
  some_region [] x = false
  some_region (k ∷ ks) x = in_region (in_use (begin w) k past) x || some_region ks x

  in_some : (k x : ℕ) (o : Option Range) → in_use (begin w) k past ≡ o → in_region o x ≡ true → IsPreparedUnder (begin w) past k x
  in_some k x None e h = absurd (true≢false (sym h))
  in_some k x (Some r) e h = (r, e, h)

  some_region_true : (ks : List ℕ) (x : ℕ) → some_region ks x ≡ true → (k : ℕ) × IsPreparedUnder (begin w) past k x
  some_region_true [] x h = absurd (true≢false (sym h))
  some_region_true (k ∷ ks) x h = ⊎_elim (λ z. (k, in_some k x (in_use (begin w) k past) refl z)) (λ z. some_region_true ks x z) (or_cases (in_region (in_use (begin w) k past) x) (some_region ks x) h)

  outside : (ks : List ℕ) (k x : ℕ) → any_number ks k ≡ true → some_region ks x ≡ false → in_region (in_use (begin w) k past) x ≡ false
  outside [] k x l h = absurd (true≢false (sym l))
  outside (j ∷ ks) k x l h =
      let p = or_false (in_region (in_use (begin w) j past) x) (some_region ks x) h in
      ⊎_elim
      (λ z. subst (λ i. in_region (in_use (begin w) i past) x ≡ false) (eqb-true j k z) p.0)
      (λ z. outside ks k x z p.1)
      (or_cases (eqb j k) (any_number ks k) l)

  none_prepared : (x : ℕ) → some_region (prepared_keys past) x ≡ false → (k : ℕ) → IsPreparedUnder (begin w) past k x → ⊥
  none_prepared x h k b =
      let out = outside (prepared_keys past) k x (used_listed (OfKey (key Async k)) k b.0 past b.1) h in
      true≢false (sym b.2 ∙ sym (ap (λ o. in_region o x) b.1) ∙ out)

  module _ (t : ℕ) where
    abbrev is_read : Bool → ℕ → Bool
    is_read write x = not write && any_in (open_calls (marks_of (begin w) t past)) x

    abbrev pub is_handed_down : (write : Bool) → (x : ℕ) → Bool
    is_handed_down write x = any_out (open_calls (marks_of (begin w) t past)) x || (is_read write x || some_region (prepared_keys past) x)

    pub handed_down : (write : Bool) (x : ℕ) → is_handed_down write x ≡ true → IsHandedDown (begin w) past t write x
    handed_down write x h =
        ⊎_elim
        (λ z. inl z)
        (λ z. ⊎_elim
        (λ y. let p = and_parts (not write) (any_in (open_calls (marks_of (begin w) t past)) x) y in inr (inl (not_true write p.0, p.1)))
        (λ y. inr (inr (some_region_true (prepared_keys past) x y)))
        (or_cases (is_read write x) (some_region (prepared_keys past) x) z))
        (or_cases (any_out (open_calls (marks_of (begin w) t past)) x) (is_read write x || some_region (prepared_keys past) x) h)

    no_read : (write b : Bool) → (not write && b) ≡ false → write ≡ false → b ≡ true → ⊥
    no_read true b h e c = true≢false e
    no_read false b h e c = true≢false (sym c ∙ h)

    pub not_handed_down : (write : Bool) (x : ℕ) → is_handed_down write x ≡ false → IsHandedDown (begin w) past t write x → ⊥
    not_handed_down write x h b = go b
      where
        p : (any_out (open_calls (marks_of (begin w) t past)) x ≡ false) × ((is_read write x || some_region (prepared_keys past) x) ≡ false)
        p = or_false (any_out (open_calls (marks_of (begin w) t past)) x) (is_read write x || some_region (prepared_keys past) x) h

        q : (is_read write x ≡ false) × (some_region (prepared_keys past) x ≡ false)
        q = or_false (is_read write x) (some_region (prepared_keys past) x) p.1

        go : IsHandedDown (begin w) past t write x → ⊥
        go (inl z) = true≢false (sym z ∙ p.0)
        go (inr (inl z)) = no_read write (any_in (open_calls (marks_of (begin w) t past)) x) q.0 z.0 z.1
        go (inr (inr z)) = none_prepared x q.1 z.0 z.1
