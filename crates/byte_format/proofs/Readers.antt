-- What a reader of a format is, and how readers are put together.
use Rattle.std.proofs.Common.{◌≡◌, ℕ, zero, suc, ◌-◌, ◌^◌, ◌<◌, ◌≤◌, Bool, true, false, cond, ltb, List, [], ◌∷◌, ◌++◌, length, get_or, take, drop, Option, Some, None, refl, sym, ap, subst, ◌∙◌, append_assoc, arith, inl, inr, ◌⊎◌}
use Rattle.std.specs.List.{AllByRecursion}
use Rattle.std.specs.Int.{Width, w16, w32, w64, byte_len, from_be_bytes, to_be_bytes}
use Rattle.std.proofs.lemmas.Bool.{ltb-false, ltb-true, le-ltb}
use Rattle.std.proofs.lemmas.List.{take_at, drop_at, take-append-drop, length-append, length-take}
use Rattle.std.proofs.lemmas.Nat.{be_bytes_2, be_bytes_4, be_bytes_8, from_be_bytes-to_be_bytes_2, from_be_bytes-to_be_bytes_4, from_be_bytes-to_be_bytes_8}
use Rattle.byte_format.specs.Reading.{Reading, Done, Short, Wrong, ◌>>=◌, number_at, chars_at, coded, coded_at}

abbrev pub IsBytes : List ℕ → Type 0
IsBytes bytes = AllByRecursion (λ b. b < 256) bytes

pub bytes-right : (a b : List ℕ) → IsBytes (a ++ b) → IsBytes b
bytes-right [] b h = h
bytes-right (x ∷ a) b h = bytes-right a b h.1

pub bytes-left : (a b : List ℕ) → IsBytes (a ++ b) → IsBytes a
bytes-left [] b h = tt
bytes-left (x ∷ a) b h = (h.0, bytes-left a b h.1)

pub bytes-at : (s : List ℕ) → IsBytes s → (i : ℕ) → get_or s i 0 < 256
bytes-at [] h i = omega arith
bytes-at (x ∷ s) h zero = h.0
bytes-at (x ∷ s) h (suc i) = bytes-at s h.1 i

-- ---- what a step gave

pub bind_done : {A B : Type 0} (r : Reading A) (f : A × List ℕ → Reading B) (y : B × List ℕ) → (r >>= f) ≡ Done y → (x : A × List ℕ) × (r ≡ Done x) × (f x ≡ Done y)
bind_done (Done x) f y e = (x, refl, e)
bind_done Short f y e = absurd cc
bind_done (Wrong n) f y e = absurd cc

pub bind_short : {A B : Type 0} (r : Reading A) (f : A × List ℕ → Reading B) → (r >>= f) ≡ Short → (r ≡ Short) ⊎ ((x : A × List ℕ) × (r ≡ Done x) × (f x ≡ Short))
bind_short (Done x) f e = inr (x, refl, e)
bind_short Short f e = inl refl
bind_short (Wrong n) f e = absurd cc

pub bind_wrong : {A B : Type 0} (r : Reading A) (f : A × List ℕ → Reading B) (n : ℕ) → (r >>= f) ≡ Wrong n → (r ≡ Wrong n) ⊎ ((x : A × List ℕ) × (r ≡ Done x) × (f x ≡ Wrong n))
bind_wrong (Done x) f n e = inr (x, refl, e)
bind_wrong Short f n e = absurd cc
bind_wrong (Wrong m) f n e = inl cc

abbrev done : {A : Type 0} → A × List ℕ → Reading A
done x = Done x

pub done_is : {A : Type 0} (x y : A × List ℕ) → done x ≡ done y → x ≡ y
done_is x y e = cc

-- ---- the law of a reader

-- what the bytes are a proper prefix of
pub record Goes {X : Type 0} (text : X → List ℕ) (Fits : X → Type 0) (s : List ℕ) : Type 0 where
  pub value : X
  pub next : ℕ
  pub more : List ℕ
  pub fits : Fits value
  pub parts : text value ≡ s ++ next ∷ more

-- the first wrong byte: before it the reading is short, and with it it is wrong there whatever follows
pub record IsWrongAt {X : Type 0} (read : List ℕ → Reading X) (s : List ℕ) (n : ℕ) : Type 0 where
  pub prefix : List ℕ
  pub byte : ℕ
  pub after : List ℕ
  pub parts : s ≡ prefix ++ byte ∷ after
  pub left : n ≡ suc (length after)
  pub before : read prefix ≡ Short
  pub stays : (t : List ℕ) → read (prefix ++ byte ∷ t) ≡ Wrong (suc (length t))

pub record Reads {X : Type 0} (read : List ℕ → Reading X) (text : X → List ℕ) (Fits : X → Type 0) : Type 0 where
  pub takes : (s : List ℕ) (x : X × List ℕ) → IsBytes s → read s ≡ Done x → (s ≡ text x.0 ++ x.1) × Fits x.0
  pub again : (x : X) (rest : List ℕ) → Fits x → read (text x ++ rest) ≡ Done (x, rest)
  pub short : (s : List ℕ) → IsBytes s → read s ≡ Short → Goes text Fits s
  pub wrong : (s : List ℕ) (n : ℕ) → IsBytes s → read s ≡ Wrong n → IsWrongAt read s n
  pub some : (x : X) × Fits x

-- ---- one reader after the other

module _ {A X : Type 0} (r1 : List ℕ → Reading A) (t1 : A → List ℕ) (F1 : A → Type 0) (r2 : A → List ℕ → Reading X) (t2 : A → X → List ℕ) (F2 : A → X → Type 0) (first : X → A)
    (reads1 : Reads r1 t1 F1) (reads2 : (a : A) → F1 a → Reads (r2 a) (t2 a) (F2 a)) (same : (a : A) (x : X) → F1 a → F2 a x → first x ≡ a) where
  abbrev both : List ℕ → Reading X
  both s = r1 s >>= λ p. r2 p.0 p.1

  abbrev text : X → List ℕ
  text x = t1 (first x) ++ t2 (first x) x

  abbrev Fits : X → Type 0
  Fits x = F1 (first x) × F2 (first x) x

  both_takes : (s : List ℕ) (x : X × List ℕ) → IsBytes s → both s ≡ Done x → (s ≡ text x.0 ++ x.1) × Fits x.0
  both_takes s x bytes e =
      let b = bind_done (r1 s) (λ p. r2 p.0 p.1) x e in
      let p = b.0 in
      let h1 = reads1.takes s p bytes b.1 in
      let rest : IsBytes p.1 = bytes-right (t1 p.0) p.1 (subst IsBytes h1.0 bytes) in
      let h2 = (reads2 p.0 h1.1).takes p.1 x rest b.2 in
      let parts : s ≡ (t1 p.0 ++ t2 p.0 x.0) ++ x.1 = h1.0 ∙ ap (λ (z : List ℕ). t1 p.0 ++ z) h2.0 ∙ sym (append_assoc (t1 p.0) (t2 p.0 x.0) x.1) in
      subst (λ (a : A). (s ≡ (t1 a ++ t2 a x.0) ++ x.1) × (F1 a × F2 a x.0)) (sym (same p.0 x.0 h1.1 h2.1)) (parts, (h1.1, h2.1))

  both_again : (x : X) (rest : List ℕ) → Fits x → both (text x ++ rest) ≡ Done (x, rest)
  both_again x rest fits =
      ap both (append_assoc (t1 (first x)) (t2 (first x) x) rest)
      ∙ ap (λ (r : Reading A). r >>= λ p. r2 p.0 p.1) (reads1.again (first x) (t2 (first x) x ++ rest) fits.0)
      ∙ (reads2 (first x) fits.0).again x rest fits.1

  -- a value whose first part is this one
  built : (a : A) (x : X) → F1 a → F2 a x → (text x ≡ t1 a ++ t2 a x) × Fits x
  built a x f1 f2 = subst (λ (k : A). (t1 k ++ t2 k x ≡ t1 a ++ t2 a x) × (F1 k × F2 k x)) (sym (same a x f1 f2)) (refl, (f1, f2))

  both_short : (s : List ℕ) → IsBytes s → both s ≡ Short → Goes text Fits s
  both_short s bytes e =
      elim (bind_short (r1 s) (λ p. r2 p.0 p.1) e) [
        | inl e1 ↦
            let g = reads1.short s bytes e1 in
            let y = (reads2 g.value g.fits).some in
            let made = built g.value y.0 g.fits y.1 in
            record {
              value = y.0;
              next = g.next;
              more = g.more ++ t2 g.value y.0;
              fits = made.1;
              parts = made.0 ∙ ap (λ (z : List ℕ). z ++ t2 g.value y.0) g.parts ∙ append_assoc s (g.next ∷ g.more) (t2 g.value y.0);
            }
        | inr b ↦
            let p = b.0 in
            let h1 = reads1.takes s p bytes b.1 in
            let rest : IsBytes p.1 = bytes-right (t1 p.0) p.1 (subst IsBytes h1.0 bytes) in
            let g = (reads2 p.0 h1.1).short p.1 rest b.2 in
            let made = built p.0 g.value h1.1 g.fits in
            record {
              value = g.value;
              next = g.next;
              more = g.more;
              fits = made.1;
              parts = made.0 ∙ ap (λ (z : List ℕ). t1 p.0 ++ z) g.parts ∙ sym (append_assoc (t1 p.0) p.1 (g.next ∷ g.more)) ∙ ap (λ (z : List ℕ). z ++ g.next ∷ g.more) (sym h1.0);
            }
      ]

  both_wrong : (s : List ℕ) (n : ℕ) → IsBytes s → both s ≡ Wrong n → IsWrongAt both s n
  both_wrong s n bytes e =
      elim (bind_wrong (r1 s) (λ p. r2 p.0 p.1) n e) [
        | inl e1 ↦
            let w = reads1.wrong s n bytes e1 in
            record {
              prefix = w.prefix;
              byte = w.byte;
              after = w.after;
              parts = w.parts;
              left = w.left;
              before = ap (λ (r : Reading A). r >>= λ p. r2 p.0 p.1) w.before;
              stays = λ t. ap (λ (r : Reading A). r >>= λ p. r2 p.0 p.1) (w.stays t);
            }
        | inr b ↦
            let p = b.0 in
            let h1 = reads1.takes s p bytes b.1 in
            let rest : IsBytes p.1 = bytes-right (t1 p.0) p.1 (subst IsBytes h1.0 bytes) in
            let w = (reads2 p.0 h1.1).wrong p.1 n rest b.2 in
            record {
              prefix = t1 p.0 ++ w.prefix;
              byte = w.byte;
              after = w.after;
              parts = h1.0 ∙ ap (λ (z : List ℕ). t1 p.0 ++ z) w.parts ∙ sym (append_assoc (t1 p.0) w.prefix (w.byte ∷ w.after));
              left = w.left;
              before = ap (λ (r : Reading A). r >>= λ q. r2 q.0 q.1) (reads1.again p.0 w.prefix h1.1) ∙ w.before;
              stays = λ t. ap both (append_assoc (t1 p.0) w.prefix (w.byte ∷ t)) ∙ ap (λ (r : Reading A). r >>= λ q. r2 q.0 q.1) (reads1.again p.0 (w.prefix ++ w.byte ∷ t) h1.1) ∙ w.stays t;
            }
      ]

  pub reads_then : Reads both text Fits
  reads_then = record {
    takes = both_takes;
    again = both_again;
    short = both_short;
    wrong = both_wrong;
    some = let y = (reads2 reads1.some.0 reads1.some.1).some in (y.0, (built reads1.some.0 y.0 reads1.some.1 y.1).1);
  }

-- nothing is read
pub reads_done : {X : Type 0} (v : X) → Reads {X = X} (λ s. Done (v, s)) (λ x. []) (λ x. x ≡ v)
reads_done v = record {
  takes = λ s x bytes e. let is : (v, s) ≡ x = done_is (v, s) x e in (ap (λ p. p.1) is, ap (λ p. p.0) (sym is));
  again = λ x rest e. ap (λ y. Done (y, rest)) (sym e);
  short = λ s bytes e. absurd cc;
  wrong = λ s n bytes e. absurd cc;
  some = (v, refl);
}

-- the same with the text and what has one said in other words
pub reads_as : {X : Type 0} (r : List ℕ → Reading X) (t u : X → List ℕ) (F G : X → Type 0) → Reads r t F → ((x : X) → F x → t x ≡ u x) → ((x : X) → F x → G x) → ((x : X) → G x → F x) → Reads r u G
reads_as r t u F G reads texts to from = record {
  takes = λ s x bytes e. let h = reads.takes s x bytes e in (h.0 ∙ ap (λ (z : List ℕ). z ++ x.1) (texts x.0 h.1), to x.0 h.1);
  again = λ x rest g. ap r (ap (λ (z : List ℕ). z ++ rest) (sym (texts x (from x g)))) ∙ reads.again x rest (from x g);
  short = λ s bytes e. let g = reads.short s bytes e in record { value = g.value; next = g.next; more = g.more; fits = to g.value g.fits; parts = sym (texts g.value g.fits) ∙ g.parts };
  wrong = reads.wrong;
  some = (reads.some.0, to reads.some.0 reads.some.1);
}

-- ---- numbers

guard_done : {A : Type 0} (b : Bool) (x y : A × List ℕ) → cond b Short (Done x) ≡ Done y → (b ≡ false) × (x ≡ y)
guard_done true x y e = absurd cc
guard_done false x y e = (refl, done_is x y e)

guard_short : {A : Type 0} (b : Bool) (x : A × List ℕ) → cond b Short (Done x) ≡ Short → b ≡ true
guard_short true x e = refl
guard_short false x e = absurd cc

guard_wrong : {A : Type 0} (b : Bool) (x : A × List ℕ) (n : ℕ) → cond b Short (Done x) ≡ Wrong n → ⊥
guard_wrong true x n e = cc
guard_wrong false x n e = cc

bytes-append : (a b : List ℕ) → IsBytes a → IsBytes b → IsBytes (a ++ b)
bytes-append [] b h k = k
bytes-append (x ∷ a) b h k = (h.0, bytes-append a b h.1 k)

bytes-take : (n : ℕ) (s : List ℕ) → IsBytes s → IsBytes (take n s)
bytes-take n s h = bytes-left (take n s) (drop n s) (subst IsBytes (sym (take-append-drop n s)) h)

zeros : ℕ → List ℕ
zeros zero = []
zeros (suc n) = 0 ∷ zeros n

zeros-length : (n : ℕ) → length (zeros n) ≡ n
unfolding zeros
zeros-length zero = refl
zeros-length (suc n) = ap suc (zeros-length n)

zeros-bytes : (n : ℕ) → IsBytes (zeros n)
unfolding zeros
zeros-bytes zero = tt
zeros-bytes (suc n) = (omega arith, zeros-bytes n)

pub record IsWide (w : Width) (limit : ℕ) : Type 0 where
  pub len : (n : ℕ) → length (to_be_bytes w n) ≡ byte_len w
  pub back : (bytes : List ℕ) → length bytes ≡ byte_len w → IsBytes bytes → to_be_bytes w (from_be_bytes w bytes) ≡ bytes
  pub again : (n : ℕ) → n < limit → from_be_bytes w (to_be_bytes w n) ≡ n
  pub below : (bytes : List ℕ) → IsBytes bytes → from_be_bytes w bytes < limit
  pub some : 0 < limit

pub wide16 : IsWide w16 (2 ^ 16)
wide16 = record {
  len = λ n. refl;
  back = λ bytes len fits. be_bytes_2 bytes _ len (bytes-at bytes fits) refl;
  again = λ n lt. from_be_bytes-to_be_bytes_2 n lt;
  below = λ bytes fits. omega (arith, bytes-at bytes fits 0, bytes-at bytes fits 1);
  some = omega arith;
}

pub wide32 : IsWide w32 (2 ^ 32)
wide32 = record {
  len = λ n. refl;
  back = λ bytes len fits. be_bytes_4 bytes _ len (bytes-at bytes fits) refl;
  again = λ n lt. from_be_bytes-to_be_bytes_4 n lt;
  below = λ bytes fits. omega (arith, bytes-at bytes fits 0, bytes-at bytes fits 1, bytes-at bytes fits 2, bytes-at bytes fits 3);
  some = omega arith;
}

pub wide64 : IsWide w64 (2 ^ 64)
wide64 = record {
  len = λ n. refl;
  back = λ bytes len fits. be_bytes_8 bytes _ len (bytes-at bytes fits) refl;
  again = λ n lt. from_be_bytes-to_be_bytes_8 n lt;
  below = λ bytes fits. omega (arith, bytes-at bytes fits 0, bytes-at bytes fits 1, bytes-at bytes fits 2, bytes-at bytes fits 3, bytes-at bytes fits 4, bytes-at bytes fits 5, bytes-at bytes fits 6, bytes-at bytes fits 7);
  some = omega arith;
}

module _ (w : Width) (limit : ℕ) (wide : IsWide w limit) where
  number_takes : (s : List ℕ) (x : ℕ × List ℕ) → IsBytes s → number_at w s ≡ Done x → (s ≡ to_be_bytes w x.0 ++ x.1) × (x.0 < limit)
  number_takes s x bytes e =
      let g = guard_done (ltb (length s) (byte_len w)) (from_be_bytes w (take (byte_len w) s), drop (byte_len w) s) x e in
      let long : byte_len w ≤ length s = ltb-false _ _ g.0 in
      let prefix = wide.back (take (byte_len w) s) (omega (arith, length-take (byte_len w) s)) (bytes-take (byte_len w) s bytes) in
      subst (λ (y : ℕ × List ℕ). (s ≡ to_be_bytes w y.0 ++ y.1) × (y.0 < limit)) g.1
      (sym (take-append-drop (byte_len w) s) ∙ ap (λ (z : List ℕ). z ++ drop (byte_len w) s) (sym prefix), wide.below (take (byte_len w) s) (bytes-take (byte_len w) s bytes))

  number_again : (n : ℕ) (rest : List ℕ) → n < limit → number_at w (to_be_bytes w n ++ rest) ≡ Done (n, rest)
  number_again n rest lt =
      let len = wide.len n in
      let long : ltb (length (to_be_bytes w n ++ rest)) (byte_len w) ≡ false = le-ltb _ _ (omega (arith, length-append (to_be_bytes w n) rest)) in
      rw (long, take_at (to_be_bytes w n) rest (byte_len w) len, drop_at (to_be_bytes w n) rest (byte_len w) len, wide.again n lt) refl

  number_short : (s : List ℕ) → IsBytes s → number_at w s ≡ Short → Goes (to_be_bytes w) (λ n. n < limit) s
  number_short s bytes e =
      let lt : length s < byte_len w = ltb-true _ _ (guard_short (ltb (length s) (byte_len w)) (from_be_bytes w (take (byte_len w) s), drop (byte_len w) s) e) in
      let gap = byte_len w - length s - 1 in
      let full = s ++ 0 ∷ zeros gap in
      let fits : IsBytes full = bytes-append s (0 ∷ zeros gap) bytes (omega arith, zeros-bytes gap) in
      let len : length full ≡ byte_len w = omega (arith, length-append s (0 ∷ zeros gap), zeros-length gap) in
      record { value = from_be_bytes w full; next = 0; more = zeros gap; fits = wide.below full fits; parts = wide.back full len fits }

  pub reads_number : Reads (number_at w) (to_be_bytes w) (λ n. n < limit)
  reads_number = record {
    takes = number_takes;
    again = number_again;
    short = number_short;
    wrong = λ s n bytes e. absurd (guard_wrong (ltb (length s) (byte_len w)) (from_be_bytes w (take (byte_len w) s), drop (byte_len w) s) n e);
    some = (0, wide.some);
  }

-- ---- this many bytes

pub reads_chars : (n : ℕ) → Reads (chars_at n) (λ text. text) (λ text. (length text ≡ n) × IsBytes text)
reads_chars n = record {
  takes = λ s x bytes e.
      let g = guard_done (ltb (length s) n) (take n s, drop n s) x e in
      let long : n ≤ length s = ltb-false _ _ g.0 in
      subst (λ (y : List ℕ × List ℕ). (s ≡ y.0 ++ y.1) × ((length y.0 ≡ n) × IsBytes y.0)) g.1 (sym (take-append-drop n s), (omega (arith, length-take n s), bytes-take n s bytes));
  again = λ text rest fits.
      let long : ltb (length (text ++ rest)) n ≡ false = le-ltb _ _ (omega (arith, length-append text rest, fits.0)) in
      rw (long, take_at text rest n fits.0, drop_at text rest n fits.0) refl;
  short = λ s bytes e.
      let lt : length s < n = ltb-true _ _ (guard_short (ltb (length s) n) (take n s, drop n s) e) in
      let gap = n - length s - 1 in
      record { value = s ++ 0 ∷ zeros gap; next = 0; more = zeros gap; fits = (omega (arith, length-append s (0 ∷ zeros gap), zeros-length gap), bytes-append s (0 ∷ zeros gap) bytes (omega arith, zeros-bytes gap)); parts = refl };
  wrong = λ s k bytes e. absurd (guard_wrong (ltb (length s) n) (take n s, drop n s) k e);
  some = (zeros n, (zeros-length n, zeros-bytes n));
}

-- ---- a byte that stands for a value

coded_done : {A : Type 0} (o : Option A) (rest : List ℕ) (x : A × List ℕ) → coded o rest ≡ Done x → (o ≡ Some x.0) × (rest ≡ x.1)
coded_done (Some a) rest x e = let is = done_is (a, rest) x e in (ap (λ p. Some p.0) is, ap (λ p. p.1) is)
coded_done None rest x e = absurd cc

coded_short : {A : Type 0} (o : Option A) (rest : List ℕ) → coded o rest ≡ Short → ⊥
coded_short (Some a) rest e = cc
coded_short None rest e = cc

abbrev wrong_of : {A : Type 0} → A → ℕ → Reading A
wrong_of a n = Wrong n

coded_wrong : {A : Type 0} (o : Option A) (rest : List ℕ) (n : ℕ) → coded o rest ≡ Wrong n → (o ≡ None) × (n ≡ suc (length rest))
coded_wrong (Some a) rest n e = absurd cc
coded_wrong None rest n e = (refl, cc)

module _ {A : Type 0} (from : ℕ → Option A) (code : A → ℕ) (law : (b : ℕ) (a : A) → from b ≡ Some a → code a ≡ b) (one : A) (one_fits : from (code one) ≡ Some one) where
  code_takes : (s : List ℕ) (x : A × List ℕ) → IsBytes s → coded_at from s ≡ Done x → (s ≡ (code x.0 ∷ []) ++ x.1) × (from (code x.0) ≡ Some x.0)
  code_takes [] x bytes e = absurd cc
  code_takes (b ∷ s) x bytes e =
      let d = coded_done (from b) s x e in
      let is : code x.0 ≡ b = law b x.0 d.0 in
      (rw (is, d.1) refl, rw is d.0)

  code_short : (s : List ℕ) → coded_at from s ≡ Short → Goes (λ a. code a ∷ []) (λ a. from (code a) ≡ Some a) s
  code_short [] e = record { value = one; next = code one; more = []; fits = one_fits; parts = refl }
  code_short (b ∷ s) e = absurd (coded_short (from b) s e)

  code_wrong : (s : List ℕ) (n : ℕ) → coded_at from s ≡ Wrong n → IsWrongAt (coded_at from) s n
  code_wrong [] n e = absurd cc
  code_wrong (b ∷ s) n e =
      let d = coded_wrong (from b) s n e in
      record { prefix = []; byte = b; after = s; parts = refl; left = d.1; before = refl; stays = λ t. rw d.0 refl }

  pub reads_code : Reads (coded_at from) (λ a. code a ∷ []) (λ a. from (code a) ≡ Some a)
  reads_code = record {
    takes = code_takes;
    again = λ x rest fits. rw fits refl;
    short = λ s bytes e. code_short s e;
    wrong = λ s n bytes e. code_wrong s n e;
    some = (one, one_fits);
  }

-- ---- a reader after another, with what is after found from the parts

pub then : {A X : Type 0} {r1 : List ℕ → Reading A} {t1 : A → List ℕ} {F1 : A → Type 0} {r2 : A → List ℕ → Reading X} {t2 : A → X → List ℕ} {F2 : A → X → Type 0} (first : X → A)
    → Reads r1 t1 F1 → ((a : A) → F1 a → Reads (r2 a) (t2 a) (F2 a)) → ((a : A) (x : X) → F1 a → F2 a x → first x ≡ a)
    → Reads (λ s. r1 s >>= λ p. r2 p.0 p.1) (λ x. t1 (first x) ++ t2 (first x) x) (λ x. F1 (first x) × F2 (first x) x)
then {r1 = r1} {t1 = t1} {F1 = F1} {r2 = r2} {t2 = t2} {F2 = F2} first reads1 reads2 same = reads_then r1 t1 F1 r2 t2 F2 first reads1 reads2 same
