-- Scopes by where they start among the bindings.
use Rattle.std.proofs.Common.{◌≡◌, ℕ, ◌+◌, ◌-◌, ◌≤◌, List, [], ◌∷◌, ◌++◌, length, take, drop, Option, Some, None, Result, Ok, Err, OnOk, OnErr, refl, sym, ap, subst, ◌∙◌, arith, length-append, ◌⊎◌, inl, inr}
use Rattle.std.specs.Prelude.{reverse}
use Rattle.std.proofs.Math.Seq.{take-append_seam}
use Rattle.std.specs.List.{AllByRecursion}
use Rattle.std.proofs.lemmas.List.{reverse-append, length-take-le, take-append-le, drop-append-le}
use Rattle.c_scopes.specs.declared.binding.Binding.{Binding}
use Rattle.c_scopes.specs.Scopes.{Scope, declared}
use Rattle.c_scopes.specs.Bindings.{Name, Continues, index_of, text_at, named, scopes_of, newest, bound, IsNumbered, Ties, AreStarts, AreKept}
use Rattle.c_scopes.proofs.Numbers.{index_within, text_found, text_stays, numbered_stays}
use Rattle.c_scopes.proofs.Places.{ties_grown}
use Rattle.c_scopes.proofs.Meanings.{parts, all_left, all_right}

-- the last is the first of the reversed list
pub reverse_push : {A : Type 0} (xs : List A) (x : A) → reverse (xs ++ x ∷ []) ≡ x ∷ reverse xs
reverse_push xs x = reverse-append xs (x ∷ [])

starts_more : (starts : List ℕ) (n m : ℕ) → AreStarts starts n → n ≤ m → AreStarts starts m
starts_more [] n m h le = tt
starts_more (s ∷ ss) n m h le = (let lt : s ≤ n = h.0 in omega arith, h.1)

module _ {V : Type 0} where
  -- a scope more than there are starts
  pub depth_is : (names : List Name) (starts : List ℕ) (bs : List (Binding V)) → length (scopes_of names starts bs) ≡ length starts + 1
  depth_is names [] bs = refl
  depth_is names (s ∷ ss) bs = let rest = depth_is names ss (take s bs) in omega arith

  -- the names of bindings stay where names are added
  named_stays : (names more : List Name) (bs : List (Binding V)) → AllByRecursion (IsNumbered names) bs → named (names ++ more) bs ≡ named names bs
  named_stays names more [] h = refl
  named_stays names more (b ∷ bs) h =
      let same : text_at (names ++ more) b.name ≡ text_at names b.name = text_stays names more b.name (index_within (text_at names b.name) names b.name h.0) in
      ap (λ t. (t, b.meaning) ∷ named (names ++ more) bs) same ∙ ap (λ rest. (text_at names b.name, b.meaning) ∷ rest) (named_stays names more bs h.1)

  pub scopes_stay : (names more : List Name) (starts : List ℕ) (bs : List (Binding V)) → AllByRecursion (IsNumbered names) (reverse bs) → scopes_of (names ++ more) starts bs ≡ scopes_of names starts bs
  scopes_stay names more [] bs h = ap (λ s. s ∷ []) (named_stays names more (reverse bs) h)
  scopes_stay names more (s ∷ ss) bs h =
      let both : AllByRecursion (IsNumbered names) (reverse (drop s bs) ++ reverse (take s bs)) = subst (AllByRecursion (IsNumbered names)) (parts bs s) h in
      let left = named_stays names more (reverse (drop s bs)) (all_left (IsNumbered names) (reverse (drop s bs)) (reverse (take s bs)) both) in
      let right = scopes_stay names more ss (take s bs) (all_right (IsNumbered names) (reverse (drop s bs)) (reverse (take s bs)) both) in
      ap (λ scope. scope ∷ scopes_of (names ++ more) ss (take s bs)) left ∙ ap (λ rest. named names (reverse (drop s bs)) ∷ rest) right

  all_numbered : (names more : List Name) (bs : List (Binding V)) → AllByRecursion (IsNumbered names) bs → AllByRecursion (IsNumbered (names ++ more)) bs
  all_numbered names more [] h = tt
  all_numbered names more (b ∷ bs) h = (numbered_stays names more b h.0, all_numbered names more bs h.1)

  -- one binding more is one name more in the innermost scope
  pub scopes_push : (names : List Name) (starts : List ℕ) (bs : List (Binding V)) (b : Binding V) (name : List ℕ) → AreStarts starts (length bs) → text_at names b.name ≡ name
      → scopes_of names starts (bs ++ b ∷ []) ≡ declared name b.meaning (scopes_of names starts bs)
  scopes_push names [] bs b name h e =
      ap (λ (xs : List (Binding V)). named names xs ∷ []) (reverse_push bs b) ∙ ap (λ t. ((t, b.meaning) ∷ named names (reverse bs)) ∷ []) e
  scopes_push names (s ∷ ss) bs b name h e =
      let le : s ≤ length bs = h.0 in
      ap (λ (xs : List (Binding V)). named names (reverse xs) ∷ scopes_of names ss (take s (bs ++ b ∷ []))) (drop-append-le s bs (b ∷ []) le)
      ∙ (ap (λ (xs : List (Binding V)). named names (reverse (drop s bs ++ b ∷ [])) ∷ scopes_of names ss xs) (take-append-le s bs (b ∷ []) le)
      ∙ (ap (λ (xs : List (Binding V)). named names xs ∷ scopes_of names ss (take s bs)) (reverse_push (drop s bs) b)
      ∙ ap (λ t. ((t, b.meaning) ∷ named names (reverse (drop s bs))) ∷ scopes_of names ss (take s bs)) e))

  -- names and places with more
  pub kept_longer : (names new_names : List Name) (places new_places : List (Option ℕ)) (starts : List ℕ) (bs : List (Binding V)) → AreKept names places starts bs
      → Continues names new_names → (new_places ≡ places) ⊎ (new_places ≡ places ++ None ∷ []) → length new_names ≤ length new_places
      → AreKept new_names new_places starts bs × (scopes_of new_names starts bs ≡ scopes_of names starts bs)
  kept_longer names new_names places new_places starts bs kept longer grown room = (
    record {
      room = room;
      in_order = kept.in_order;
      numbered = let holds : List Name → Type 0 = λ ns. AllByRecursion (IsNumbered ns) (reverse bs) in subst holds (sym longer.1) (all_numbered names longer.0 (reverse bs) kept.numbered);
      ties = by grown;
    },
    ap (λ ns. scopes_of ns starts bs) longer.1 ∙ scopes_stay names longer.0 starts bs kept.numbered,
  )
    where
      by : (new_places ≡ places) ⊎ (new_places ≡ places ++ None ∷ []) → Ties new_places (reverse bs)
      by (inl same) = let holds : List (Option ℕ) → Type 0 = λ ps. Ties ps (reverse bs) in subst holds (sym same) kept.ties
      by (inr more) = let holds : List (Option ℕ) → Type 0 = λ ps. Ties ps (reverse bs) in subst holds (sym more) (ties_grown places (reverse bs) kept.ties)

  -- one binding more
  pub kept_bound : (names : List Name) (places new_places : List (Option ℕ)) (starts : List ℕ) (bs new_bs : List (Binding V)) (name : List ℕ) (n : ℕ) (meaning : V) → AreKept names places starts bs
      → index_of name names ≡ Some n → new_bs ≡ bound n meaning bs → Ties new_places (reverse new_bs) → length new_places ≡ length places
      → AreKept names new_places starts new_bs × (scopes_of names starts new_bs ≡ declared name meaning (scopes_of names starts bs))
  kept_bound names places new_places starts bs new_bs name n meaning kept e grown ties size =
      let b : Binding V = record { name = n; meaning = meaning; hidden = newest n (reverse bs) } in
      let text : text_at names n ≡ name = text_found name names n e in (
        record {
          room = let room = kept.room in omega arith;
          in_order = let l : length new_bs ≡ length bs + 1 = ap length grown ∙ length-append bs (b ∷ []) in starts_more starts (length bs) (length new_bs) kept.in_order (omega arith);
          numbered =
              let turned : reverse new_bs ≡ b ∷ reverse bs = ap reverse grown ∙ reverse_push bs b in
              subst (AllByRecursion (IsNumbered names)) (sym turned) (ap (λ t. index_of t names) text ∙ e, kept.numbered);
          ties = ties;
        },
        ap (scopes_of names starts) grown ∙ scopes_push names starts bs b name kept.in_order text,
      )

  -- without the innermost scope
  pub kept_closed : (names : List Name) (places new_places : List (Option ℕ)) (start : ℕ) (starts : List ℕ) (bs new_bs : List (Binding V)) → AreKept names places (start ∷ starts) bs
      → new_bs ≡ take start bs → Ties new_places (reverse new_bs) → length new_places ≡ length places
      → AreKept names new_places starts new_bs × (scopes_of names starts new_bs ≡ drop 1 (scopes_of names (start ∷ starts) bs))
  kept_closed names places new_places start starts bs new_bs kept less ties size = (
    record {
      room = let room = kept.room in omega arith;
      in_order =
          let l : length new_bs ≡ start = ap length less ∙ length-take-le start bs kept.in_order.0 in
          subst (AreStarts starts) (sym l) kept.in_order.1;
      numbered =
          let both : AllByRecursion (IsNumbered names) (reverse (drop start bs) ++ reverse (take start bs)) = subst (AllByRecursion (IsNumbered names)) (parts bs start) kept.numbered in
          let holds : List (Binding V) → Type 0 = λ xs. AllByRecursion (IsNumbered names) (reverse xs) in
          subst holds (sym less) (all_right (IsNumbered names) (reverse (drop start bs)) (reverse (take start bs)) both);
      ties = ties;
    },
    ap (scopes_of names starts) less,
  )

  -- no binding more
  kept_same : (names : List Name) (places new_places : List (Option ℕ)) (starts : List ℕ) (bs new_bs : List (Binding V)) → AreKept names places starts bs
      → new_bs ≡ bs → Ties new_places (reverse new_bs) → length new_places ≡ length places → AreKept names new_places starts new_bs
  kept_same names places new_places starts bs new_bs kept same ties size = record {
    room = let room = kept.room in omega arith;
    in_order = let l : length new_bs ≡ length bs = ap length same in subst (AreStarts starts) (sym l) kept.in_order;
    numbered = let holds : List (Binding V) → Type 0 = λ xs. AllByRecursion (IsNumbered names) (reverse xs) in subst holds (sym same) kept.numbered;
    ties = ties;
  }

  -- after a binding was put after the others, or refused
  pub kept_declared : {T E : Type 0} (r : Result T E) (names : List Name) (places new_places : List (Option ℕ)) (starts : List ℕ) (bs new_bs : List (Binding V)) (now : List (Scope V)) (name : List ℕ) (n : ℕ) (meaning : V)
      → AreKept names places starts bs → scopes_of names starts bs ≡ now → index_of name names ≡ Some n
      → OnOk r (new_bs ≡ bound n meaning bs) → OnErr r (new_bs ≡ bs) → Ties new_places (reverse new_bs) → length new_places ≡ length places
      → AreKept names new_places starts new_bs × OnOk r (scopes_of names starts new_bs ≡ declared name meaning now) × OnErr r (scopes_of names starts new_bs ≡ now)
  kept_declared (Ok x) names places new_places starts bs new_bs now name n meaning kept view e grown same ties size =
      let both = kept_bound names places new_places starts bs new_bs name n meaning kept e grown ties size in
      (both.0, both.1 ∙ ap (declared name meaning) view, tt)
  kept_declared (Err x) names places new_places starts bs new_bs now name n meaning kept view e grown same ties size =
      (kept_same names places new_places starts bs new_bs kept same ties size, tt, ap (scopes_of names starts) same ∙ view)

-- a list that was written over as a whole
pub written : {A : Type 0} (n : ℕ) (new old : List A) → length new ≡ n → take n (new ++ drop (length new) old) ≡ new
written n new old e = ap (λ k. take k (new ++ drop (length new) old)) (sym e) ∙ take-append_seam new (drop (length new) old)
