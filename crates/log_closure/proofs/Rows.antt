-- Clocks put in the rows of the table, and apart from them.
use Rattle.std.proofs.Common.{suc, zero, ◌≡◌, ◌≢◌, ◌∷◌, [], ℕ, ◌<◌, ◌≤◌, List, Option, Some, None, Bool, true, false, refl, ap, ◌∙◌, sym, cond, arith, length, get_or, ⊎_elim, subst}
use Rattle.std.specs.Prelude.{◌&&◌, eqb, ltb, Result, Ok, Err, OnOk}
use Rattle.std.specs.List.{slice_get}
use Rattle.std.specs.BTreeMap.{is_at}
use Rattle.std.specs.Global.{Vec}
use Rattle.std.proofs.Math.ListN.{set}
use Rattle.std.proofs.lemmas.Option.{slice_get_past}
use Rattle.std.proofs.lemmas.Bool.{cases_eq, eq-eqb}
use Rattle.std.proofs.lemmas.Bool.Decides.{nat_tests}
use Rattle.std.proofs.lemmas.List.{length-set, get_or-set_same, get_or-set_other}
use Rattle.log_closure.specs.declared.tie.Tie.{Tie}
use Rattle.log_closure.specs.declared.tie.TieKey.{TieKey}
use Rattle.log_closure.specs.FirstWrong.{or_else}
use Rattle.log_closure.specs.Tables.{AreApart, Numbers, clock_in_row, key_cmp, row_at, tie_key}
use Rattle.log_closure.specs.Ties.{same}
use Rattle.log_closure.proofs.Steps.{and_first, and_second, is_eq_cmp, is_eq_then, ltb_off, ltb_on, same_is}

abbrev pub Row : Type 0
Row = Vec (Option ℕ)

abbrev pub same_key : TieKey → TieKey → Bool
same_key j k = eqb j.class k.class && eqb j.value k.value

pub at_key : (j k : TieKey) → is_at (key_cmp j) k ≡ same_key j k
at_key j k = simp (is_eq_then, is_eq_cmp)

pub key_is : (j k : TieKey) → is_at (key_cmp j) k ≡ true → j ≡ k
key_is j k h =
    let e : same_key j k ≡ true = sym (at_key j k) ∙ h in
    let c : j.class ≡ k.class = eqb-is j.class k.class (and_first _ _ e) in
    let v : j.value ≡ k.value = eqb-is j.value k.value (and_second (eqb j.class k.class) _ e) in
    λ i. record { class = c i; value = v i }
  where
    eqb-is : (a b : ℕ) → eqb a b ≡ true → a ≡ b
    eqb-is a b e = grind (arith, nat_tests)

pub same_at : (s t : Tie) → same s t ≡ (is_at (key_cmp (tie_key s)) (tie_key t) && eqb s.number t.number)
same_at s t = and_assoc (eqb s.class t.class) (eqb s.value t.value) (eqb s.number t.number) ∙ ap (λ (b : Bool). b && eqb s.number t.number) (sym (at_key (tie_key s) (tie_key t)))
  where
    and_assoc : (a b c : Bool) → (a && (b && c)) ≡ ((a && b) && c)
    and_assoc true b c = refl
    and_assoc false b c = refl

-- a clock put in a row

same_place : (row new : Row) (i clock : ℕ) (apart : Option ℕ) → i < length row.items → new.items ≡ set row.items i (or_else (get_or row.items i None) (Some clock)) → clock_in_row (Some new) i apart ≡ or_else (clock_in_row (Some row) i apart) (Some clock)
same_place row new i clock apart lt is =
    let x = or_else (get_or row.items i None) (Some clock) in
    let size : length new.items ≡ length row.items = ap length is ∙ length-set row.items i x in
    let on : true ≡ ltb i (length row.items) = ltb_on i (length row.items) lt in
    (λ j. cond (ltb i (size j)) (get_or new.items i None) apart) ∙ (λ j. cond (sym on j) (get_or new.items i None) apart)
    ∙ ap (λ (l : List (Option ℕ)). get_or l i None) is ∙ get_or-set_same row.items i x None lt
    ∙ (λ j. or_else (cond (on j) (get_or row.items i None) apart) (Some clock))

other_place : (row new : Row) (i n : ℕ) (x apart : Option ℕ) → n ≢ i → new.items ≡ set row.items i x → clock_in_row (Some new) n apart ≡ clock_in_row (Some row) n apart
other_place row new i n x apart ne is =
    let size : length new.items ≡ length row.items = ap length is ∙ length-set row.items i x in
    (λ j. cond (ltb n (size j)) (get_or new.items n None) apart)
    ∙ ap (λ (o : Option ℕ). cond (ltb n (length row.items)) o apart) (ap (λ (l : List (Option ℕ)). get_or l n None) is ∙ get_or-set_other row.items i n x None ne)

put_place : (old after : Option Row) (row new : Row) (i n clock : ℕ) (apart : Option ℕ) (b : Bool) → (b ≡ true → old ≡ Some row) → after ≡ cond b (Some new) old → i < length row.items → new.items ≡ set row.items i (or_else (get_or row.items i None) (Some clock))
    → clock_in_row after n apart ≡ cond (b && eqb i n) (or_else (clock_in_row old n apart) (Some clock)) (clock_in_row old n apart)
put_place old after row new i n clock apart false here up lt is = ap (λ (o : Option Row). clock_in_row o n apart) up
put_place old after row new i n clock apart true here up lt is =
    ⊎_elim
    (λ e. let on : eqb i n ≡ true = eq-eqb i n e in
    ap (λ (o : Option Row). clock_in_row o n apart) up
    ∙ subst (λ (m : ℕ). clock_in_row (Some new) m apart ≡ or_else (clock_in_row (Some row) m apart) (Some clock)) e (same_place row new i clock apart lt is)
    ∙ ap (λ (o : Option Row). or_else (clock_in_row o n apart) (Some clock)) (sym (here refl))
    ∙ ap (λ (b : Bool). cond b (or_else (clock_in_row old n apart) (Some clock)) (clock_in_row old n apart)) (sym on))
    (λ ne. let off : eqb i n ≡ false = grind (arith, nat_tests) in
    ap (λ (o : Option Row). clock_in_row o n apart) up
    ∙ other_place row new i n _ apart (λ e. ne (sym e)) is
    ∙ ap (λ (o : Option Row). clock_in_row o n apart) (sym (here refl))
    ∙ ap (λ (b : Bool). cond b (or_else (clock_in_row old n apart) (Some clock)) (clock_in_row old n apart)) (sym off))
    (cases_eq i n)

-- the rows with one of them put anew

found_key : (j k : TieKey) → j ≡ k → is_at (key_cmp j) k ≡ true
found_key j k e = ap (λ (x : TieKey). is_at (key_cmp j) x) (sym e) ∙ at_key j j ∙ grind (arith, nat_tests)

put_same : (rows : List Row) (i : ℕ) (row new : Row) → slice_get rows i ≡ Some row → slice_get (set rows i new) i ≡ Some new
put_same [] i row new h = absurd cc
put_same (r ∷ rows) zero row new h = refl
put_same (r ∷ rows) (suc i) row new h = put_same rows i row new h

put_other : (rows : List Row) (i n : ℕ) (new : Row) → n ≢ i → slice_get (set rows i new) n ≡ slice_get rows n
put_other [] i n new ne = refl
put_other (r ∷ rows) zero zero new ne = absurd (ne refl)
put_other (r ∷ rows) zero (suc n) new ne = refl
put_other (r ∷ rows) (suc i) zero new ne = refl
put_other (r ∷ rows) (suc i) (suc n) new ne = put_other rows i n new (λ e. ne (ap (λ (m : ℕ). suc m) e))

-- the row of each key
put_row : (number : Numbers) (rows : List Row) (j k : TieKey) (i : ℕ) (row new : Row) → AreApart number → number j ≡ Some i → slice_get rows i ≡ Some row → row_at (set rows i new) (number k) ≡ cond (is_at (key_cmp j) k) (Some new) (row_at rows (number k))
put_row number rows j k i row new apart numbered found = go (is_at (key_cmp j) k) (number k) refl refl
  where
    go : (b : Bool) (o : Option ℕ) → is_at (key_cmp j) k ≡ b → number k ≡ o → row_at (set rows i new) o ≡ cond b (Some new) (row_at rows o)
    go true o at is = ap (row_at (set rows i new)) (sym is ∙ ap number (sym (key_is j k at)) ∙ numbered) ∙ put_same rows i row new found
    go false None at is = refl
    go false (Some n) at is = put_other rows i n new (λ e.
        let same : j ≡ k = apart j k i numbered (is ∙ ap (λ (m : ℕ). Some m) e) in
        let hit : is_at (key_cmp j) k ≡ true = found_key j k same in
        absurd cc)

pub put_in : (number : Numbers) (rows after : List Row) (s t : Tie) (i : ℕ) (row new : Row) (clock : ℕ) (beside : Option ℕ) → AreApart number → number (tie_key s) ≡ Some i → slice_get rows i ≡ Some row → after ≡ set rows i new
    → s.number < length row.items → new.items ≡ set row.items s.number (or_else (get_or row.items s.number None) (Some clock))
    → clock_in_row (row_at after (number (tie_key t))) t.number beside ≡ cond (same s t) (or_else (clock_in_row (row_at rows (number (tie_key t))) t.number beside) (Some clock)) (clock_in_row (row_at rows (number (tie_key t))) t.number beside)
put_in number rows after s t i row new clock beside apart numbered found up lt is =
    let old = clock_in_row (row_at rows (number (tie_key t))) t.number beside in
    put_place (row_at rows (number (tie_key t))) (row_at after (number (tie_key t))) row new s.number t.number clock beside (is_at (key_cmp (tie_key s)) (tie_key t))
    (λ at. ap (λ (k : TieKey). row_at rows (number k)) (sym (key_is (tie_key s) (tie_key t) at)) ∙ ap (row_at rows) numbered ∙ found)
    (ap (λ (l : List Row). row_at l (number (tie_key t))) up ∙ put_row number rows (tie_key s) (tie_key t) i row new apart numbered found) lt is
    ∙ ap (λ (b : Bool). cond b (or_else old (Some clock)) old) (sym (same_at s t))

-- a clock put apart from them

put_beside : (old : Option Row) (n clock : ℕ) (apart new : Option ℕ) (b : Bool) → (b ≡ true → (o : Option ℕ) → clock_in_row old n o ≡ o) → new ≡ cond b (or_else apart (Some clock)) apart
    → clock_in_row old n new ≡ cond b (or_else (clock_in_row old n apart) (Some clock)) (clock_in_row old n apart)
put_beside old n clock apart new false none up = ap (clock_in_row old n) up
put_beside old n clock apart new true none up = none refl new ∙ up ∙ ap (λ (o : Option ℕ). or_else o (Some clock)) (sym (none refl apart))

pub put_out : (row : TieKey → Option Row) (s t : Tie) (clock : ℕ) (apart new : Option ℕ) → ((o : Option ℕ) → clock_in_row (row (tie_key s)) s.number o ≡ o) → new ≡ cond (same s t) (or_else apart (Some clock)) apart
    → clock_in_row (row (tie_key t)) t.number new ≡ cond (same s t) (or_else (clock_in_row (row (tie_key t)) t.number apart) (Some clock)) (clock_in_row (row (tie_key t)) t.number apart)
put_out row s t clock apart new none up = put_beside (row (tie_key t)) t.number clock apart new (same s t) (λ at o. subst (λ (q : Tie). clock_in_row (row (tie_key q)) q.number o ≡ o) (same_is s t at) (none o)) up

-- where the row of a key has no place for the ticket, the clock stands beside it

pub past_row : (number : Numbers) (rows : List Row) (j : TieKey) (i n : ℕ) (row : Row) (o : Option ℕ) → number j ≡ Some i → slice_get rows i ≡ Some row → length row.items ≤ n → clock_in_row (row_at rows (number j)) n o ≡ o
past_row number rows j i n row o numbered found le =
    ap (λ (r : Option Row). clock_in_row r n o) (ap (row_at rows) numbered ∙ found) ∙ (λ k. cond (sym (ltb_off n (length row.items) le) k) (get_or row.items n None) o)

pub past_rows : (number : Numbers) (rows : List Row) (j : TieKey) (i n : ℕ) (o : Option ℕ) → number j ≡ Some i → length rows ≤ i → clock_in_row (row_at rows (number j)) n o ≡ o
past_rows number rows j i n o numbered le = ap (λ (r : Option Row). clock_in_row r n o) (ap (row_at rows) numbered ∙ slice_get_past rows i le)

pub in_row : (number : Numbers) (rows : List Row) (j : TieKey) (i n : ℕ) (row : Row) (o : Option ℕ) → number j ≡ Some i → slice_get rows i ≡ Some row → n < length row.items → clock_in_row (row_at rows (number j)) n o ≡ get_or row.items n None
in_row number rows j i n row o numbered found lt =
    ap (λ (r : Option Row). clock_in_row r n o) (ap (row_at rows) numbered ∙ found) ∙ (λ k. cond (sym (ltb_on n (length row.items) lt) k) (get_or row.items n None) o)

-- a row that was read stays as it was
pub same_rows : (rows : List Row) (i : ℕ) (row : Row) → slice_get rows i ≡ Some row → set rows i row ≡ rows
same_rows [] i row h = refl
same_rows (r ∷ rows) zero row h = ap (λ (x : Row). x ∷ rows) (some_is row r (sym h))
  where
    some_is : (a b : Row) → Some a ≡ Some b → a ≡ b
    some_is a b e = cc
same_rows (r ∷ rows) (suc i) row h = ap (λ (l : List Row). r ∷ l) (same_rows rows i row h)

pub on_ok : {A E P Q : Type 0} (r : Result A E) → (P → Q) → OnOk r P → OnOk r Q
on_ok (Ok x) f p = f p
on_ok (Err e) f p = tt
