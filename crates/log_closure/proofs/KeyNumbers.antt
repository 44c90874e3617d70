-- Numbers of keys, and of the keys of marks.
use Rattle.std.proofs.Common.{suc, zero, ◌≡◌, ℕ, ◌+◌, ◌<◌, ◌≤◌, List, [], ◌∷◌, ◌++◌, Some, None, Bool, true, false, cond, length, take, drop, get_or, refl, sym, ap, ◌∙◌, subst, arith, append-nil}
use Rattle.std.specs.BTreeMap.{BTreeMap, get, is_at}
use Rattle.std.proofs.lemmas.List.{drop_more, take_more}
use Rattle.std.proofs.lemmas.List.Concat.{flat_map-append}
use Rattle.std.proofs.lemmas.Slice.Zip.{AllZip-long, all_zipped_more}
use Rattle.run_events.specs.declared.key.KeyMark.{KeyMark}
use Rattle.run_events.specs.declared.event.Record.{Record}
use Rattle.log_closure.specs.declared.tie.TieKey.{TieKey}
use Rattle.log_closure.specs.Tables.{Numbers, key_cmp, tie_key}
use Rattle.log_closure.specs.KeyNumbers.{AreNumbers, HaveNumbers, Keeps, marks_of}
use Rattle.log_closure.specs.Ties.{key_tie}
use Rattle.log_closure.proofs.Rows.{key_is}

-- numbers of marks

pub number_at : (number : Numbers) (ms : List KeyMark) (ns : List ℕ) (i : ℕ) (d : KeyMark) (e : ℕ) → HaveNumbers number ms ns → i < length ms → number (tie_key (key_tie (get_or ms i d))) ≡ Some (get_or ns i e)
number_at number [] ns i d e h lt = absurd (omega (arith, lt))
number_at number (m ∷ ms) [] i d e h lt = absurd h
number_at number (m ∷ ms) (n ∷ ns) zero d e h lt = h.0
number_at number (m ∷ ms) (n ∷ ns) (suc i) d e h lt = number_at number ms ns i d e h.1 (omega (arith, lt))

pub numbers_long : (number : Numbers) (ms : List KeyMark) (ns : List ℕ) → HaveNumbers number ms ns → length ns ≡ length ms
numbers_long number ms ns h = AllZip-long (λ (m : KeyMark) (n : ℕ). number (tie_key (key_tie m)) ≡ Some n) ms ns h

pub numbers_more : (number : Numbers) (ms : List KeyMark) (ns : List ℕ) (m : KeyMark) (n : ℕ) → HaveNumbers number ms ns → number (tie_key (key_tie m)) ≡ Some n → HaveNumbers number (ms ++ m ∷ []) (ns ++ n ∷ [])
numbers_more number ms ns m n h is = all_zipped_more (λ (o : KeyMark) (k : ℕ). number (tie_key (key_tie o)) ≡ Some k) ms ns m n h is

pub numbers_kept : (old new : Numbers) (ms : List KeyMark) (ns : List ℕ) → ((k : TieKey) (n : ℕ) → old k ≡ Some n → new k ≡ Some n) → HaveNumbers old ms ns → HaveNumbers new ms ns
numbers_kept old new [] [] keep h = tt
numbers_kept old new [] (n ∷ ns) keep h = absurd h
numbers_kept old new (m ∷ ms) [] keep h = absurd h
numbers_kept old new (m ∷ ms) (n ∷ ns) keep h = (keep (tie_key (key_tie m)) n h.0, numbers_kept old new ms ns keep h.1)

-- those of the first marks, and of the others

first_numbers : (number : Numbers) (ms rest : List KeyMark) (ns : List ℕ) → HaveNumbers number (ms ++ rest) ns → HaveNumbers number ms (take (length ms) ns)
first_numbers number [] rest ns h = tt
first_numbers number (m ∷ ms) rest [] h = absurd h
first_numbers number (m ∷ ms) rest (n ∷ ns) h = (h.0, first_numbers number ms rest ns h.1)

other_numbers : (number : Numbers) (ms rest : List KeyMark) (ns : List ℕ) → HaveNumbers number (ms ++ rest) ns → HaveNumbers number rest (drop (length ms) ns)
other_numbers number [] rest ns h = h
other_numbers number (m ∷ ms) rest [] h = absurd h
other_numbers number (m ∷ ms) rest (n ∷ ns) h = other_numbers number ms rest ns h.1

enough_numbers : (number : Numbers) (ms rest : List KeyMark) (ns : List ℕ) → HaveNumbers number (ms ++ rest) ns → length ms ≤ length ns
enough_numbers number [] rest ns h = omega arith
enough_numbers number (m ∷ ms) rest [] h = absurd h
enough_numbers number (m ∷ ms) rest (n ∷ ns) h = let le = enough_numbers number ms rest ns h.1 in omega (arith, le)

-- the marks of one record more
pub marks_seen : (rs : List Record) (i : ℕ) (r : Record) (ms : List KeyMark) → i < length rs → r ≡ get_or rs i r → ms ≡ r.keys → marks_of (take (i + 1) rs) ≡ marks_of (take i rs) ++ ms
marks_seen rs i r ms lt is keys_are =
    ap marks_of (take_more rs i r lt) ∙ flat_map-append (λ (x : Record). x.keys) (take i rs) (get_or rs i r ∷ [])
    ∙ ap (λ (l : List KeyMark). marks_of (take i rs) ++ l) (append-nil (get_or rs i r).keys ∙ ap (λ (x : Record). x.keys) (sym is) ∙ sym keys_are)

-- those of the marks of the next record, and of the records after it

next_marks : (number : Numbers) (rs : List Record) (i : ℕ) (r : Record) (ms : List KeyMark) (ns : List ℕ) → i < length rs → r ≡ get_or rs i r → ms ≡ r.keys → HaveNumbers number (marks_of (drop i rs)) ns → HaveNumbers number (ms ++ marks_of (drop (i + 1) rs)) ns
next_marks number rs i r ms ns lt is keys_are h = subst (λ (l : List KeyMark). HaveNumbers number l ns) split h
  where
    split : marks_of (drop i rs) ≡ ms ++ marks_of (drop (i + 1) rs)
    split = ap marks_of (drop_more rs i r lt) ∙ ap (λ (x : Record). x.keys ++ marks_of (drop (i + 1) rs)) (sym is) ∙ ap (λ (l : List KeyMark). l ++ marks_of (drop (i + 1) rs)) (sym keys_are)

pub next_first : (number : Numbers) (rs : List Record) (i : ℕ) (r : Record) (ms : List KeyMark) (ns : List ℕ) → i < length rs → r ≡ get_or rs i r → ms ≡ r.keys → HaveNumbers number (marks_of (drop i rs)) ns → HaveNumbers number ms (take (length ms) ns)
next_first number rs i r ms ns lt is keys_are h = first_numbers number ms (marks_of (drop (i + 1) rs)) ns (next_marks number rs i r ms ns lt is keys_are h)

pub next_left : (number : Numbers) (rs : List Record) (i : ℕ) (r : Record) (ms : List KeyMark) (ns : List ℕ) → i < length rs → r ≡ get_or rs i r → ms ≡ r.keys → HaveNumbers number (marks_of (drop i rs)) ns → HaveNumbers number (marks_of (drop (i + 1) rs)) (drop (length ms) ns)
next_left number rs i r ms ns lt is keys_are h = other_numbers number ms (marks_of (drop (i + 1) rs)) ns (next_marks number rs i r ms ns lt is keys_are h)

pub next_fits : (number : Numbers) (rs : List Record) (i : ℕ) (r : Record) (ms : List KeyMark) (ns : List ℕ) → i < length rs → r ≡ get_or rs i r → ms ≡ r.keys → HaveNumbers number (marks_of (drop i rs)) ns → length ms ≤ length ns
next_fits number rs i r ms ns lt is keys_are h = enough_numbers number ms (marks_of (drop (i + 1) rs)) ns (next_marks number rs i r ms ns lt is keys_are h)

-- numbers of keys

pub no_numbers : (keys : BTreeMap TieKey ℕ) → keys.entries ≡ [] → AreNumbers keys 0
no_numbers keys empty = record { below = λ k n h. absurd (nothing k n h); apart = λ j k n h g. absurd (nothing j n h) }
  where
    none : (k : TieKey) → get key_cmp keys k ≡ None
    none k = rw empty refl

    nothing : (k : TieKey) (n : ℕ) → get key_cmp keys k ≡ Some n → ⊥
    nothing k n h = let z = sym (none k) ∙ h in absurd cc

-- a key that had no number takes the next one
pub next_keeps : (old new : BTreeMap TieKey ℕ) (key : TieKey) (number : ℕ) → get key_cmp old key ≡ None → ((q : TieKey) → get key_cmp new q ≡ cond (is_at (key_cmp key) q) (Some number) (get key_cmp old q)) → Keeps old new
next_keeps old new key number none up k n h = go (is_at (key_cmp key) k) refl (up k)
  where
    go : (b : Bool) → is_at (key_cmp key) k ≡ b → get key_cmp new k ≡ cond b (Some number) (get key_cmp old k) → get key_cmp new k ≡ Some n
    go true at e = let z = sym none ∙ ap (get key_cmp old) (key_is key k at) ∙ h in absurd cc
    go false at e = e ∙ h

pub next_number : (old new : BTreeMap TieKey ℕ) (key : TieKey) (number : ℕ) → AreNumbers old number → ((q : TieKey) → get key_cmp new q ≡ cond (is_at (key_cmp key) q) (Some number) (get key_cmp old q)) → AreNumbers new (number + 1)
next_number old new key number h up = record { below = below; apart = apart }
  where
    below : (k : TieKey) (n : ℕ) → get key_cmp new k ≡ Some n → n < number + 1
    below k n is = go (is_at (key_cmp key) k) (sym (up k) ∙ is)
      where
        go : (b : Bool) → cond b (Some number) (get key_cmp old k) ≡ Some n → n < number + 1
        go true e = let z : number ≡ n = cc in omega (arith, z)
        go false e = let lt = h.below k n e in omega (arith, lt)

    apart : (j k : TieKey) (n : ℕ) → get key_cmp new j ≡ Some n → get key_cmp new k ≡ Some n → j ≡ k
    apart j k n is also = go (is_at (key_cmp key) j) (is_at (key_cmp key) k) refl refl (sym (up j) ∙ is) (sym (up k) ∙ also)
      where
        go : (b d : Bool) → is_at (key_cmp key) j ≡ b → is_at (key_cmp key) k ≡ d → cond b (Some number) (get key_cmp old j) ≡ Some n → cond d (Some number) (get key_cmp old k) ≡ Some n → j ≡ k
        go true true at there e f = sym (key_is key j at) ∙ key_is key k there
        go true false at there e f = let z : number ≡ n = cc in let lt = h.below k n f in absurd (omega (arith, z, lt))
        go false true at there e f = let z : number ≡ n = cc in let lt = h.below j n e in absurd (omega (arith, z, lt))
        go false false at there e f = h.apart j k n e f
