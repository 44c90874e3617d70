-- One reading, and readings in steps.
use Rattle.std.proofs.Common.{◌≡◌, ℕ, ◌+◌, Bool, true, false, List, [], ◌∷◌, ◌++◌, drop, refl, sym, ap, ◌∙◌, append_assoc, append-nil}
use Rattle.c_lexer.specs.declared.token.Token.{Token}
use Rattle.c_lexer.specs.declared.token.Kind.{Kind}
use Rattle.c_lexer.specs.declared.item.Fault.{Fault}
use Rattle.c_lexer.specs.declared.item.Item.TheVariants as items
use Rattle.c_lexer.specs.Items.{item_at}
use Rattle.c_lexer.specs.Lexing as l
use Rattle.c_lexer.specs.Lexing.{End, Whole, Stopped, Reads, IsTokens, IsLexError, error_at}

pub one : {fresh : Bool} {at : ℕ} {bs : List ℕ} {ts us : List Token} {d e : End} → Reads fresh at bs ts d → Reads fresh at bs us e → (ts ≡ us) × (d ≡ e)
one (l.finished p) (l.finished q) = (refl, refl)
one (l.finished p) (l.stopped {n = n} {fault = f} q) = absurd (let e : items.Finished ≡ items.Fault f n = sym p ∙ q in cc)
one (l.finished p) (l.skipped {line = b} {n = n} q y) = absurd (let e : items.Finished ≡ items.Skip n b = sym p ∙ q in cc)
one (l.finished p) (l.token {n = n} {k = k} q y) = absurd (let e : items.Finished ≡ items.Token n k = sym p ∙ q in cc)
one (l.stopped {at = at} {n = n} {fault = f} p) (l.stopped {n = m} {fault = g} q) =
    let e : items.Fault f n ≡ items.Fault g m = sym p ∙ q in
    let n_is : n ≡ m = cc in
    let f_is : f ≡ g = cc in
    (refl, rw (n_is, f_is) refl)
one (l.stopped {n = n} {fault = f} p) (l.finished q) = absurd (let e : items.Fault f n ≡ items.Finished = sym p ∙ q in cc)
one (l.stopped {n = m} {fault = f} p) (l.skipped {line = b} {n = n} q y) = absurd (let e : items.Fault f m ≡ items.Skip n b = sym p ∙ q in cc)
one (l.stopped {n = m} {fault = f} p) (l.token {n = n} {k = k} q y) = absurd (let e : items.Fault f m ≡ items.Token n k = sym p ∙ q in cc)
one (l.skipped {line = b} {n = n} p x) (l.finished q) = absurd (let e : items.Skip n b ≡ items.Finished = sym p ∙ q in cc)
one (l.skipped {line = b} {n = n} p x) (l.stopped {n = m} {fault = f} q) = absurd (let e : items.Skip n b ≡ items.Fault f m = sym p ∙ q in cc)
one (l.skipped {line = b} {n = n} p x) (l.token {n = m} {k = k} q y) = absurd (let e : items.Skip n b ≡ items.Token m k = sym p ∙ q in cc)
one (l.skipped {line = b} {n = n} p x) (l.skipped {line = c} {n = m} q y) =
    let e : items.Skip n b ≡ items.Skip m c = sym p ∙ q in
    let n_is : m ≡ n = cc in
    let line_is : c ≡ b = cc in
    one x (rw (n_is, line_is) at y)
one (l.token {n = n} {k = k} p x) (l.finished q) = absurd (let e : items.Token n k ≡ items.Finished = sym p ∙ q in cc)
one (l.token {n = n} {k = k} p x) (l.stopped {n = m} {fault = f} q) = absurd (let e : items.Token n k ≡ items.Fault f m = sym p ∙ q in cc)
one (l.token {n = n} {k = k} p x) (l.skipped {line = c} {n = m} q y) = absurd (let e : items.Token n k ≡ items.Skip m c = sym p ∙ q in cc)
one (l.token {at = at} {n = n} {k = k} {ts = ts} p x) (l.token {n = m} {k = j} {ts = us} q y) =
    let e : items.Token n k ≡ items.Token m j = sym p ∙ q in
    let n_is : m ≡ n = cc in
    let k_is : j ≡ k = cc in
    let r = one x (rw n_is at y) in
    (rw (n_is, k_is) (ap (λ v. (record { kind = k; from = at; to = at + n }) ∷ v) r.0), r.1)

-- the tokens so far, with those of what is left, are those of the whole
pub record Rests (whole : List ℕ) (done : List Token) (fresh : Bool) (at : ℕ) (rest : List ℕ) : Type 0 where
  pub goes_on : (ts : List Token) (e : End) → Reads fresh at rest ts e → Reads true 0 whole (done ++ ts) e

pub rests_first : (whole : List ℕ) → Rests whole [] true 0 whole
rests_first whole = record { goes_on = λ ts e h. h }

pub rests_skip : (whole : List ℕ) (done : List Token) (fresh line : Bool) (at n : ℕ) (rest : List ℕ) → Rests whole done fresh at rest → item_at fresh rest ≡ items.Skip n line → Rests whole done line (at + n) (drop n rest)
rests_skip whole done fresh line at n rest r h = record { goes_on = λ ts e x. r.goes_on ts e (l.skipped h x) }

pub rests_token : (whole : List ℕ) (done : List Token) (fresh : Bool) (at n : ℕ) (k : Kind) (rest : List ℕ) → Rests whole done fresh at rest → item_at fresh rest ≡ items.Token n k → Rests whole (done ++ (record { kind = k; from = at; to = at + n }) ∷ []) false (at + n) (drop n rest)
rests_token whole done fresh at n k rest r h = record {
  goes_on = λ ts e x. rw (append_assoc done ((record { kind = k; from = at; to = at + n }) ∷ []) ts) (r.goes_on _ e (l.token h x));
}

pub rests_end : (whole : List ℕ) (done : List Token) (fresh : Bool) (at : ℕ) (rest : List ℕ) → Rests whole done fresh at rest → item_at fresh rest ≡ items.Finished → IsTokens whole done
rests_end whole done fresh at rest r h = rw (append-nil done) at (r.goes_on [] Whole (l.finished h))

pub rests_stop : (whole : List ℕ) (done : List Token) (fresh : Bool) (at n : ℕ) (rest : List ℕ) (f : Fault) → Rests whole done fresh at rest → item_at fresh rest ≡ items.Fault f n → IsLexError whole (error_at f (at + n))
rests_stop whole done fresh at n rest f r h = (done ++ [], r.goes_on [] (Stopped (error_at f (at + n))) (l.stopped h))
