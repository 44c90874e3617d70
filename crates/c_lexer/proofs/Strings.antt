-- Going along a string to its end.
use Rattle.std.proofs.Common.{◌≡◌, ℕ, suc, zero, ◌+◌, ◌-◌, List, [], ◌∷◌, ◌++◌, drop, refl, sym, ap, ◌∙◌, arith, append_assoc, append-nil}
use Rattle.c_lexer.specs.declared.token.Kind.TheVariants as kinds
use Rattle.c_lexer.specs.declared.item.Item.TheVariants as items
use Rattle.c_lexer.specs.declared.item.Fault.TheVariants.{BadByte, OpenText}
use Rattle.c_lexer.specs.declared.text_part.Part.TheVariants.{Close, Byte, Open, Bad}
use Rattle.c_lexer.specs.Texts.{part_at, Quoted, Closed, NeverClosed, BadAt, held, going_on, string_after, string}
use Rattle.c_lexer.proofs.Parts.{byte_in}

-- these values first, which so many bytes spell
abbrev pub joined : List ℕ → ℕ → Quoted → Quoted
joined vs n (Closed m bs) = Closed (n + m) (vs ++ bs)
joined vs n NeverClosed = NeverClosed
joined vs n (BadAt m) = BadAt (n + m)

pub joined_none : (q : Quoted) → joined [] 0 q ≡ q
joined_none (Closed m bs) = ap (λ k. Closed k bs) (omega arith)
joined_none NeverClosed = refl
joined_none (BadAt m) = ap BadAt (omega arith)

joined_held : (vs : List ℕ) (k n v : ℕ) (q : Quoted) → joined vs k (held n v q) ≡ joined (vs ++ v ∷ []) (k + n) q
joined_held vs k n v (Closed m bs) = rw (append_assoc vs (v ∷ []) bs) (ap (λ j. Closed j (vs ++ v ∷ bs)) (omega arith))
joined_held vs k n v NeverClosed = refl
joined_held vs k n v (BadAt m) = ap BadAt (omega arith)

after_drop : (bs : List ℕ) (k : ℕ) → string_after bs k ≡ string_after (drop k bs) 0
after_drop [] zero = refl
after_drop [] (suc k) = refl
after_drop (b ∷ bs) zero = refl
after_drop (b ∷ bs) (suc k) = after_drop bs k

none_open : part_at 34 [] ≡ Open
unfolding part_at
none_open = refl

not_close : Open ≡ Close → ⊥
not_close e = absurd cc

not_bad : Open ≡ Bad → ⊥
not_bad e = absurd cc

not_byte : (v n : ℕ) → Open ≡ Byte v n → ⊥
not_byte v n e = absurd cc

pub string_step : (bs : List ℕ) (v n : ℕ) → part_at 34 bs ≡ Byte v n → string_after bs 0 ≡ held n v (string_after (drop n bs) 0)
string_step [] v n e = absurd (not_byte v n (sym none_open ∙ e))
string_step (b ∷ bs) v zero e = absurd (let i = byte_in 34 (b ∷ bs) v zero e in omega arith)
string_step (b ∷ bs) v (suc k) e =
    let one : suc k - 1 ≡ k = omega arith in
    let next : string_after (b ∷ bs) 0 ≡ held (suc k) v (string_after bs (suc k - 1)) = ap (λ p. going_on p (λ n. string_after bs (n - 1))) e in
    next ∙ ap (λ j. held (suc k) v (string_after bs j)) one ∙ ap (held (suc k) v) (after_drop bs k)

pub string_on : (bs : List ℕ) (vs : List ℕ) (k v n : ℕ) (t : Quoted) → part_at 34 bs ≡ Byte v n → joined vs k (string_after bs 0) ≡ t → joined (vs ++ v ∷ []) (k + n) (string_after (drop n bs) 0) ≡ t
string_on bs vs k v n t e h = sym (joined_held vs k n v (string_after (drop n bs) 0)) ∙ ap (joined vs k) (sym (string_step bs v n e)) ∙ h

pub string_close : (bs : List ℕ) (vs : List ℕ) (k : ℕ) (t : Quoted) → part_at 34 bs ≡ Close → joined vs k (string_after bs 0) ≡ t → items.Token (k + 2) (kinds.Text vs) ≡ string t
unfolding string
string_close [] vs k t e h = absurd (not_close (sym none_open ∙ e))
string_close (b ∷ bs) vs k t e h =
    let is : joined vs k (Closed 1 []) ≡ t = ap (λ p. joined vs k (going_on p (λ n. string_after bs (n - 1)))) (sym e) ∙ h in
    rw (← is, append-nil vs) (ap (λ j. items.Token j (kinds.Text vs)) (omega arith))

pub string_open : (bs : List ℕ) (vs : List ℕ) (k : ℕ) (t : Quoted) → part_at 34 bs ≡ Open → joined vs k (string_after bs 0) ≡ t → items.Fault OpenText 0 ≡ string t
unfolding string
string_open [] vs k t e h = rw (← h) refl
string_open (b ∷ bs) vs k t e h = let is : joined vs k NeverClosed ≡ t = ap (λ p. joined vs k (going_on p (λ n. string_after bs (n - 1)))) (sym e) ∙ h in rw (← is) refl

pub string_bad : (bs : List ℕ) (vs : List ℕ) (k : ℕ) (t : Quoted) → part_at 34 bs ≡ Bad → joined vs k (string_after bs 0) ≡ t → items.Fault BadByte (k + 1) ≡ string t
unfolding string
string_bad [] vs k t e h = absurd (not_bad (sym none_open ∙ e))
string_bad (b ∷ bs) vs k t e h =
    let is : joined vs k (BadAt 0) ≡ t = ap (λ p. joined vs k (going_on p (λ n. string_after bs (n - 1)))) (sym e) ∙ h in
    rw (← is) (ap (λ j. items.Fault BadByte j) (omega arith))
