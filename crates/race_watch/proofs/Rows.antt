-- Rows, one step further.
use Rattle.std.proofs.Common.{◌≡◌, ℕ, suc, zero, ◌+◌, ◌<◌, max, Bool, true, false, ◌||◌, cond, List, [], ◌∷◌, length, add-one, take, get_or, Option, Some, None, IsSome, refl, sym, ap, ◌∙◌, subst, arith}
use Rattle.std.specs.Prelude.{unwrap_or, slice_index}
use Rattle.std.specs.BTreeMap.{is_at}
use Rattle.std.proofs.lemmas.List.{take_more}
use Rattle.run_events.specs.declared.key.Key.{Key}
use Rattle.logical_clock.specs.declared.name.KeyName.{KeyName}
use Rattle.logical_clock.specs.Names.{name, key_cmp, is_named}
use Rattle.logical_clock.proofs.Places.{name_is, named_more}
use Rattle.race_watch.specs.Rows.{Each}

-- a place for one key more, with a row of zeros
pub stays_there : (b : Bool) (x : List ℕ) (old new : Option (List ℕ)) → new ≡ cond b (Some x) old → IsSome old → IsSome new
stays_there true x old new e h = subst IsSome (sym e) refl
stays_there false x old new e h = subst IsSome (sym e) h

pub same_row : (key q : KeyName) (zeros : List ℕ) (at : KeyName → Option (List ℕ)) (new : Option (List ℕ)) (u : ℕ) → at key ≡ None → slice_index zeros u ≡ 0 → new ≡ cond (is_at (key_cmp key) q) (Some zeros) (at q) → slice_index (unwrap_or new []) u ≡ slice_index (unwrap_or (at q) []) u
same_row key q zeros at new u none z e = ap (λ o. slice_index (unwrap_or o []) u) e ∙ go (is_at (key_cmp key) q) refl
  where
    go : (b : Bool) → is_at (key_cmp key) q ≡ b → slice_index (unwrap_or (cond b (Some zeros) (at q)) []) u ≡ slice_index (unwrap_or (at q) []) u
    go false f = refl
    go true f = z ∙ ap (λ o. slice_index (unwrap_or o []) u) (sym none ∙ ap at (name_is key q f))

pub no_row : (o : Option (List ℕ)) (u n : ℕ) → o ≡ None → n ≡ max n (slice_index (unwrap_or o []) u)
no_row o u n e = let z : slice_index (unwrap_or o []) u ≡ 0 = ap (λ o. slice_index (unwrap_or o []) u) e in omega (arith, z)

-- a row told to one key more
pub told_more : (ks : List Key) (i : ℕ) (d : Key) (q : KeyName) (row : List ℕ) (was now : KeyName → Option (List ℕ)) (new : Option (List ℕ)) → i < length ks → ((q : KeyName) → now q ≡ cond (is_named (take i ks) q) (Some row) (was q)) → new ≡ cond (is_at (key_cmp (name (get_or ks i d))) q) (Some row) (now q)
    → new ≡ cond (is_named (take (i + 1) ks) q) (Some row) (was q)
told_more ks i d q row was now new lt h e =
    e ∙ ap (cond (is_at (key_cmp (name (get_or ks i d))) q) (Some row)) (h q) ∙ go (is_at (key_cmp (name (get_or ks i d))) q) (is_named (take i ks) q) ∙ ap (λ b. cond b (Some row) (was q)) (sym (ap (λ l. is_named l q) (take_more ks i d lt) ∙ named_more (take i ks) (get_or ks i d) q))
  where
    go : (a b : Bool) → cond a (Some row) (cond b (Some row) (was q)) ≡ cond (b || a) (Some row) (was q)
    go true true = refl
    go true false = refl
    go false true = refl
    go false false = refl

pub still_there : (b : Bool) (row : List ℕ) (was now : Option (List ℕ)) → now ≡ cond b (Some row) was → IsSome was → IsSome now
still_there b row was now e h = stays_there b row was now e h

pub told_end : (b : Bool) (row : List ℕ) (was now : Option (List ℕ)) → now ≡ cond b (Some row) was → unwrap_or now [] ≡ cond b row (unwrap_or was [])
told_end true row was now e = ap (λ o. unwrap_or o []) e
told_end false row was now e = ap (λ o. unwrap_or o []) e

-- what each of the keys passes, with one key more
pub each_more : (P Q : Key → Type 0) (ks : List Key) (i : ℕ) (d : Key) → i < length ks → ((k : Key) → P k → Q k) → Each P (take i ks) → Q (get_or ks i d) → Each Q (take (i + 1) ks)
each_more P Q ks i d lt up h q = subst (λ j. Each Q (take j ks)) (sym (add-one i)) (go ks i lt h q)
  where
    go : (ks : List Key) (i : ℕ) → i < length ks → Each P (take i ks) → Q (get_or ks i d) → Each Q (take (suc i) ks)
    go [] i lt h q = absurd (omega (arith, lt))
    go (k ∷ ks) zero lt h q = (q, tt)
    go (k ∷ ks) (suc i) lt h q = (up k h.0, go ks i (omega (arith, lt)) h.1 q)
