-- The regions once a call is closed.
use Rattle.std.proofs.Common.{◌≡◌, ℕ, ◌-◌, Bool, true, false, cond, eqb, not, ◌&&◌, ◌||◌, List, [], ◌∷◌, map, get_or, Option, Some, None, inl, inr, refl, ap, sym, ◌∙◌, All}
use Rattle.std.specs.Prelude.{filter, option_map}
use Rattle.std.specs.List.{list_any}
use Rattle.std.proofs.lemmas.Bool.{cases_eq, true≢false, eq-eqb, ne_eqb, eqb-true, and_parts, and_from}
use Rattle.std.proofs.lemmas.List.Elements.{All-head, All-tail, All-cons, All-nil}
use Rattle.marks.specs.declared.range.Range.{Range}
use Rattle.marks.specs.Ranges.{covers}
use Rattle.space_memory_access.specs.declared.holder.OpenCall.{OpenCall}
use Rattle.space_memory_access.specs.declared.holder.Region.{Region}
use Rattle.space_memory_access.specs.declared.holder.Holder.{Holder}
use Rattle.space_memory_access.specs.declared.holder.Holder.TheVariants.{In, Out, Key}
use Rattle.space_memory_access.specs.Holders.{is_pending, is_of, is_out_of, is_same_call, has_key, outlives, disowned}
use Rattle.space_memory_access.specs.Held.{prepared_region, disown}
use Rattle.space_memory.specs.Spaces.{IsWhole}
use Rattle.space_memory.specs.Cells.{is_held}
use Rattle.space_memory.specs.Releases.{outs_of}
use Rattle.space_memory_laws.specs.Shown.{value_when_held, is_in_of, ins_of}
use Rattle.space_memory_laws.specs.Held.{AreApart, HaveOwnKeys, has_region}
use Rattle.space_memory_laws.proofs.Cells.{unheld}
use Rattle.space_memory_laws.proofs.Regions.{waits_at, some_none}

pub eqb_sym : (a b : ℕ) → eqb a b ≡ eqb b a
eqb_sym a b = elim (cases_eq a b) [
  | inl e ↦ eq-eqb a b e ∙ sym (eq-eqb b a (sym e))
  | inr ne ↦ ne_eqb a b ne ∙ sym (ne_eqb b a (λ e. ne (sym e)))
]

-- two calls that one holder is of are one
same_calls : (h a b : OpenCall) → is_same_call h a ≡ true → is_same_call h b ≡ true → is_same_call a b ≡ true
same_calls h a b p q =
    let k = and_parts (eqb h.thread a.thread) (eqb h.depth a.depth) p in
    let l = and_parts (eqb h.thread b.thread) (eqb h.depth b.depth) q in
    and_from (eqb a.thread b.thread) (eqb a.depth b.depth)
    (eq-eqb a.thread b.thread (sym (eqb-true h.thread a.thread k.0) ∙ eqb-true h.thread b.thread l.0))
    (eq-eqb a.depth b.depth (sym (eqb-true h.depth a.depth k.1) ∙ eqb-true h.depth b.depth l.1))

disowned_waits : (call : OpenCall) (h : Holder) → is_pending (disowned call h) ≡ is_pending h
disowned_waits call (In c) = refl
disowned_waits call (Out c) = refl
disowned_waits call (Key k None) = refl
disowned_waits call (Key k (Some c)) = elim (is_same_call c call) as (λ b. is_pending (cond b (Key k None) (Key k (Some c))) ≡ true) [ true ↦ refl | false ↦ refl ]

disowned_key : (call : OpenCall) (j : ℕ) (h : Holder) → has_key j (disowned call h) ≡ has_key j h
disowned_key call j (In c) = refl
disowned_key call j (Out c) = refl
disowned_key call j (Key k None) = refl
disowned_key call j (Key k (Some c)) = elim (is_same_call c call) as (λ b. has_key j (cond b (Key k None) (Key k (Some c))) ≡ eqb k j) [ true ↦ refl | false ↦ refl ]

disowned_in : (call other : OpenCall) (h : Holder) → is_in_of other (disowned call h) ≡ is_in_of other h
disowned_in call other (In c) = refl
disowned_in call other (Out c) = refl
disowned_in call other (Key k None) = refl
disowned_in call other (Key k (Some c)) = elim (is_same_call c call) as (λ b. is_in_of other (cond b (Key k None) (Key k (Some c))) ≡ false) [ true ↦ refl | false ↦ refl ]

disowned_out : (call other : OpenCall) (h : Holder) → is_out_of other (disowned call h) ≡ is_out_of other h
disowned_out call other (In c) = refl
disowned_out call other (Out c) = refl
disowned_out call other (Key k None) = refl
disowned_out call other (Key k (Some c)) = elim (is_same_call c call) as (λ b. is_out_of other (cond b (Key k None) (Key k (Some c))) ≡ false) [ true ↦ refl | false ↦ refl ]

disowned_of : (call other : OpenCall) (h : Holder) → is_of other h ≡ false → is_of other (disowned call h) ≡ false
disowned_of call other (In c) e = e
disowned_of call other (Out c) e = e
disowned_of call other (Key k None) e = e
disowned_of call other (Key k (Some c)) e = elim (is_same_call c call) as (λ b. is_of other (cond b (Key k None) (Key k (Some c))) ≡ false) [ true ↦ refl | false ↦ e ]

-- the closed call itself has nothing any more
gone_of : (call : OpenCall) (ck : Option ℕ) (h : Holder) → outlives call ck h ≡ true → is_of call (disowned call h) ≡ false
gone_of call ck (In c) stays = not_true (is_same_call c call) stays
  where
    not_true : (b : Bool) → not b ≡ true → b ≡ false
    not_true true e = sym e
    not_true false e = refl
gone_of call ck (Out c) stays = not_true (is_same_call c call) stays
  where
    not_true : (b : Bool) → not b ≡ true → b ≡ false
    not_true true e = sym e
    not_true false e = refl
gone_of call ck (Key k None) stays = refl
gone_of call ck (Key k (Some c)) stays = go (is_same_call c call) refl
  where
    go : (b : Bool) → is_same_call c call ≡ b → is_of call (cond b (Key k None) (Key k (Some c))) ≡ false
    go true e = refl
    go false e = e

-- a list of which some stay
module _ (call : OpenCall) (ck : Option ℕ) where
  abbrev stays : Region → Bool
  stays r = outlives call ck r.holder

  abbrev closed : List Region → List Region
  closed rs = map (disown call) (filter stays rs)

  -- whether the region waits, has the address and goes
  abbrev pub goes_at : ℕ → Region → Bool
  goes_at x r = waits_at x r && not (stays r)

  waits_still : (x : ℕ) (r : Region) → waits_at x (disown call r) ≡ waits_at x r
  waits_still x r = ap (λ b. b && covers r.range x) (disowned_waits call r.holder)

  pub held_less : (x : ℕ) (rs : List Region) → is_held rs x ≡ false → is_held (closed rs) x ≡ false
  held_less x [] e = refl
  held_less x (r ∷ rest) e = go (stays r) (waits_at x r) refl e (held_less x rest)
    where
      go : (b w : Bool) → waits_at x r ≡ w → (w || is_held rest x) ≡ false → (is_held rest x ≡ false → is_held (closed rest) x ≡ false) →
          is_held (map (disown call) (cond b (r ∷ filter stays rest) (filter stays rest))) x ≡ false
      go b true is e again = absurd (true≢false e)
      go true false is e again = ap (λ b. b || is_held (closed rest) x) (waits_still x r ∙ is) ∙ again e
      go false false is e again = again e

  pub value_kept : (x : ℕ) (rs : List Region) → list_any (goes_at x) rs ≡ false → value_when_held (closed rs) x ≡ value_when_held rs x
  value_kept x [] e = refl
  value_kept x (r ∷ rest) e = go (stays r) (waits_at x r) refl refl e (value_kept x rest)
    where
      go : (b w : Bool) → stays r ≡ b → waits_at x r ≡ w → ((w && not b) || list_any (goes_at x) rest) ≡ false →
          (list_any (goes_at x) rest ≡ false → value_when_held (closed rest) x ≡ value_when_held rest x) →
          value_when_held (map (disown call) (cond b (r ∷ filter stays rest) (filter stays rest))) x ≡ cond w (Some (get_or r.before (x - r.range.addr) 0)) (value_when_held rest x)
      go true w s is e again =
          ap (λ c. cond c (Some (get_or r.before (x - r.range.addr) 0)) (value_when_held (closed rest) x)) (waits_still x r ∙ is)
          ∙ ap (λ v. cond w (Some (get_or r.before (x - r.range.addr) 0)) v) (again (or_rest (w && false) (list_any (goes_at x) rest) e))
        where
          or_rest : (a b : Bool) → (a || b) ≡ false → b ≡ false
          or_rest true b e = absurd (true≢false e)
          or_rest false b e = e
      go false true s is e again = absurd (true≢false e)
      go false false s is e again = again e

  pub value_gone : (x : ℕ) (rs : List Region) → AreApart rs → list_any (goes_at x) rs ≡ true → value_when_held (closed rs) x ≡ None
  value_gone x [] apart e = refl
  value_gone x (r ∷ rest) apart e = go (stays r) (waits_at x r) refl refl e (value_gone x rest apart.1)
    where
      all_idle : is_held rest x ≡ false → value_when_held (closed rest) x ≡ None
      all_idle idle = unheld (closed rest) x (λ p. true≢false (sym p ∙ held_less x rest idle))

      none_goes : (qs : List Region) → is_held qs x ≡ false → list_any (goes_at x) qs ≡ false
      none_goes [] idle = refl
      none_goes (q ∷ qs) idle = step (waits_at x q) idle (none_goes qs)
        where
          step : (w : Bool) → (w || is_held qs x) ≡ false → (is_held qs x ≡ false → list_any (goes_at x) qs ≡ false) → ((w && not (stays q)) || list_any (goes_at x) qs) ≡ false
          step true e again = absurd (true≢false e)
          step false e again = again e

      go : (b w : Bool) → stays r ≡ b → waits_at x r ≡ w → ((w && not b) || list_any (goes_at x) rest) ≡ true →
          (list_any (goes_at x) rest ≡ true → value_when_held (closed rest) x ≡ None) →
          value_when_held (map (disown call) (cond b (r ∷ filter stays rest) (filter stays rest))) x ≡ None
      go false true s is e again = all_idle (apart.0 x is)
      go false false s is e again = again e
      go true false s is e again = ap (λ c. cond c (Some (get_or r.before (x - r.range.addr) 0)) (value_when_held (closed rest) x)) (waits_still x r ∙ is) ∙ again e
      go true true s is e again = absurd (true≢false (sym e ∙ none_goes rest (apart.0 x is)))

  pub apart_kept : (rs : List Region) → AreApart rs → AreApart (closed rs)
  apart_kept [] apart = tt
  apart_kept (r ∷ rest) apart = go (stays r) (apart_kept rest apart.1)
    where
      go : (b : Bool) → AreApart (closed rest) → AreApart (map (disown call) (cond b (r ∷ filter stays rest) (filter stays rest)))
      go true again = ((λ x is. held_less x rest (apart.0 x (sym (waits_still x r) ∙ is))), again)
      go false again = again

  pub key_less : (k : ℕ) (rs : List Region) → prepared_region rs k ≡ None → prepared_region (closed rs) k ≡ None
  key_less k [] e = refl
  key_less k (r ∷ rest) e = go (stays r) (has_key k r.holder) refl e (key_less k rest)
    where
      go : (b w : Bool) → has_key k r.holder ≡ w → cond w (Some r) (prepared_region rest k) ≡ None →
          (prepared_region rest k ≡ None → prepared_region (closed rest) k ≡ None) →
          prepared_region (map (disown call) (cond b (r ∷ filter stays rest) (filter stays rest))) k ≡ None
      go b true is e again = absurd (some_none r e)
      go true false is e again = ap (λ c. cond c (Some (disown call r)) (prepared_region (closed rest) k)) (disowned_key call k r.holder ∙ is) ∙ again e
      go false false is e again = again e

  pub keys_kept : (rs : List Region) → HaveOwnKeys rs → HaveOwnKeys (closed rs)
  keys_kept [] own = tt
  keys_kept (r ∷ rest) own = go (stays r) (keys_kept rest own.1)
    where
      go : (b : Bool) → HaveOwnKeys (closed rest) → HaveOwnKeys (map (disown call) (cond b (r ∷ filter stays rest) (filter stays rest)))
      go true again = ((λ k is. key_less k rest (own.0 k (sym (disowned_key call k r.holder) ∙ is))), again)
      go false again = again

  pub whole_kept : (rs : List Region) → All IsWhole rs → All IsWhole (closed rs)
  whole_kept [] whole = All-nil IsWhole
  whole_kept (r ∷ rest) whole = go (stays r) (whole_kept rest (All-tail IsWhole r rest whole))
    where
      go : (b : Bool) → All IsWhole (closed rest) → All IsWhole (map (disown call) (cond b (r ∷ filter stays rest) (filter stays rest)))
      go true again = All-cons IsWhole (disown call r) (closed rest) (λ is. All-head IsWhole r rest whole (sym (disowned_waits call r.holder) ∙ is)) again
      go false again = again

  -- no call gets regions
  pub owned_kept : (other : OpenCall) (rs : List Region) → has_region other rs ≡ false → has_region other (closed rs) ≡ false
  owned_kept other [] e = refl
  owned_kept other (r ∷ rest) e = go (stays r) (is_of other r.holder) refl e (owned_kept other rest)
    where
      go : (b w : Bool) → is_of other r.holder ≡ w → (w || has_region other rest) ≡ false →
          (has_region other rest ≡ false → has_region other (closed rest) ≡ false) →
          has_region other (map (disown call) (cond b (r ∷ filter stays rest) (filter stays rest))) ≡ false
      go b true is e again = absurd (true≢false e)
      go true false is e again = ap (λ b. b || has_region other (closed rest)) (disowned_of call other r.holder is) ∙ again e
      go false false is e again = again e

  pub owned_gone : (rs : List Region) → has_region call (closed rs) ≡ false
  owned_gone [] = refl
  owned_gone (r ∷ rest) = go (stays r) refl (owned_gone rest)
    where
      go : (b : Bool) → stays r ≡ b → has_region call (closed rest) ≡ false → has_region call (map (disown call) (cond b (r ∷ filter stays rest) (filter stays rest))) ≡ false
      go true is again = ap (λ b. b || has_region call (closed rest)) (gone_of call ck r.holder is) ∙ again
      go false is again = again

  -- what other calls read and hold stays, and of the closed one nothing does
  abbrev ranges : List Region → List Range
  ranges rs = map (λ (r : Region). r.range) rs

  test_kept : (f : Holder → Bool) → ((h : Holder) → f (disowned call h) ≡ f h) → ((h : Holder) → f h ≡ true → outlives call ck h ≡ true) →
      (rs : List Region) → ranges (filter (λ (r : Region). f r.holder) (closed rs)) ≡ ranges (filter (λ (r : Region). f r.holder) rs)
  test_kept f same live [] = refl
  test_kept f same live (r ∷ rest) = go (stays r) (f r.holder) refl refl (test_kept f same live rest)
    where
      go : (b w : Bool) → stays r ≡ b → f r.holder ≡ w →
          ranges (filter (λ (r : Region). f r.holder) (closed rest)) ≡ ranges (filter (λ (r : Region). f r.holder) rest) →
          ranges (filter (λ (r : Region). f r.holder) (map (disown call) (cond b (r ∷ filter stays rest) (filter stays rest)))) ≡ ranges (cond w (r ∷ filter (λ (r : Region). f r.holder) rest) (filter (λ (r : Region). f r.holder) rest))
      go true true s is again =
          ap (λ c. ranges (cond c (disown call r ∷ filter (λ (r : Region). f r.holder) (closed rest)) (filter (λ (r : Region). f r.holder) (closed rest)))) (same r.holder ∙ is)
          ∙ ap (λ qs. r.range ∷ qs) again
      go true false s is again =
          ap (λ c. ranges (cond c (disown call r ∷ filter (λ (r : Region). f r.holder) (closed rest)) (filter (λ (r : Region). f r.holder) (closed rest)))) (same r.holder ∙ is)
          ∙ again
      go false true s is again = absurd (true≢false (sym (live r.holder is) ∙ s))
      go false false s is again = again

  test_gone : (f : Holder → Bool) → ((h : Holder) → f (disowned call h) ≡ f h) → ((h : Holder) → outlives call ck h ≡ true → f h ≡ false) →
      (rs : List Region) → filter (λ (r : Region). f r.holder) (closed rs) ≡ []
  test_gone f same dead [] = refl
  test_gone f same dead (r ∷ rest) = go (stays r) refl (test_gone f same dead rest)
    where
      go : (b : Bool) → stays r ≡ b → filter (λ (r : Region). f r.holder) (closed rest) ≡ [] →
          filter (λ (r : Region). f r.holder) (map (disown call) (cond b (r ∷ filter stays rest) (filter stays rest))) ≡ []
      go true s again =
          ap (λ c. cond c (disown call r ∷ filter (λ (r : Region). f r.holder) (closed rest)) (filter (λ (r : Region). f r.holder) (closed rest))) (same r.holder ∙ dead r.holder s)
          ∙ again
      go false s again = again

  not_same : (a b : Bool) → (a ≡ true → b ≡ true → ⊥) → a ≡ true → not b ≡ true
  not_same a true apart is = absurd (apart is refl)
  not_same a false apart is = refl

  not_false : (b : Bool) → not b ≡ true → b ≡ false
  not_false true e = sym e
  not_false false e = refl

  module _ (other : OpenCall) (apart : is_same_call call other ≡ false) where
    differ : (c : OpenCall) → is_same_call c other ≡ true → is_same_call c call ≡ true → ⊥
    differ c p q = true≢false (sym (same_calls c call other q p) ∙ apart)

    in_lives : (h : Holder) → is_in_of other h ≡ true → outlives call ck h ≡ true
    in_lives (In c) is = not_same (is_same_call c other) (is_same_call c call) (differ c) is
    in_lives (Out c) is = absurd (true≢false (sym is))
    in_lives (Key k by) is = absurd (true≢false (sym is))

    out_lives : (h : Holder) → is_out_of other h ≡ true → outlives call ck h ≡ true
    out_lives (In c) is = absurd (true≢false (sym is))
    out_lives (Out c) is = not_same (is_same_call c other) (is_same_call c call) (differ c) is
    out_lives (Key k by) is = absurd (true≢false (sym is))

    pub ins_kept : (rs : List Region) → ranges (ins_of other (closed rs)) ≡ ranges (ins_of other rs)
    ins_kept rs = test_kept (is_in_of other) (disowned_in call other) in_lives rs

    pub outs_kept : (rs : List Region) → ranges (outs_of other (closed rs)) ≡ ranges (outs_of other rs)
    outs_kept rs = test_kept (is_out_of other) (disowned_out call other) out_lives rs

  in_dies : (h : Holder) → outlives call ck h ≡ true → is_in_of call h ≡ false
  in_dies (In c) live = not_false (is_same_call c call) live
  in_dies (Out c) live = refl
  in_dies (Key k by) live = refl

  out_dies : (h : Holder) → outlives call ck h ≡ true → is_out_of call h ≡ false
  out_dies (In c) live = refl
  out_dies (Out c) live = not_false (is_same_call c call) live
  out_dies (Key k by) live = refl

  pub ins_gone : (rs : List Region) → ins_of call (closed rs) ≡ []
  ins_gone rs = test_gone (is_in_of call) (disowned_in call call) in_dies rs

  pub outs_gone : (rs : List Region) → outs_of call (closed rs) ≡ []
  outs_gone rs = test_gone (is_out_of call) (disowned_out call call) out_dies rs

  -- a key that isn't committed keeps its region's range
  pub key_kept : (k : ℕ) → ((h : Holder) → has_key k h ≡ true → outlives call ck h ≡ true) → (rs : List Region) →
      option_map (λ (r : Region). r.range) (prepared_region (closed rs) k) ≡ option_map (λ (r : Region). r.range) (prepared_region rs k)
  key_kept k live [] = refl
  key_kept k live (r ∷ rest) = go (stays r) (has_key k r.holder) refl refl (key_kept k live rest)
    where
      go : (b w : Bool) → stays r ≡ b → has_key k r.holder ≡ w →
          option_map (λ (r : Region). r.range) (prepared_region (closed rest) k) ≡ option_map (λ (r : Region). r.range) (prepared_region rest k) →
          option_map (λ (r : Region). r.range) (prepared_region (map (disown call) (cond b (r ∷ filter stays rest) (filter stays rest))) k) ≡ option_map (λ (r : Region). r.range) (cond w (Some r) (prepared_region rest k))
      go true w s is again =
          ap (λ c. option_map (λ (r : Region). r.range) (cond c (Some (disown call r)) (prepared_region (closed rest) k))) (disowned_key call k r.holder ∙ is)
          ∙ elim w as (λ w. option_map (λ (r : Region). r.range)
          (cond w (Some (disown call r)) (prepared_region (closed rest) k)) ≡ option_map (λ (r : Region). r.range)
          (cond w (Some r) (prepared_region rest k))) [ true ↦ refl | false ↦ again ]
      go false true s is again = absurd (true≢false (sym (live r.holder is) ∙ s))
      go false false s is again = again

  -- and a committed one has none
  pub key_gone : (k : ℕ) → ((h : Holder) → has_key k h ≡ true → outlives call ck h ≡ false) → (rs : List Region) → prepared_region (closed rs) k ≡ None
  key_gone k dead [] = refl
  key_gone k dead (r ∷ rest) = go (stays r) (has_key k r.holder) refl refl (key_gone k dead rest)
    where
      go : (b w : Bool) → stays r ≡ b → has_key k r.holder ≡ w → prepared_region (closed rest) k ≡ None →
          prepared_region (map (disown call) (cond b (r ∷ filter stays rest) (filter stays rest))) k ≡ None
      go true true s is again = absurd (true≢false (sym s ∙ dead r.holder is))
      go true false s is again = ap (λ c. cond c (Some (disown call r)) (prepared_region (closed rest) k)) (disowned_key call k r.holder ∙ is) ∙ again
      go false w s is again = again
