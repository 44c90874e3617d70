-- Tickets that are written one after the other.
use Rattle.std.proofs.Common.{◌≡◌, ℕ, zero, suc, ◌+◌, ◌^◌, ◌<◌, List, [], ◌∷◌, ◌++◌, length, get_or, take, drop, refl, sym, ap, subst, ◌∙◌, add-one, arith}
use Rattle.std.specs.List.{AllByRecursion}
use Rattle.std.proofs.Math.ListN.{set}
use Rattle.run_events.specs.declared.key.KeyMark.{KeyMark}
use Rattle.run_events.specs.Tickets.{HasWord, with_ticket, with_tickets}

-- the first marks have their tickets, the others not yet
abbrev pub written : ℕ → List KeyMark → List ℕ → List KeyMark
written i qs ns = with_tickets (take i qs) ns ++ drop i qs

pub one_written : (qs : List KeyMark) (ns : List ℕ) (i : ℕ) (d : KeyMark) (e : ℕ) → length ns ≡ length qs → i < length qs → set (written i qs ns) i (with_ticket (get_or ns i e) (get_or (written i qs ns) i d).key) ≡ written (suc i) qs ns
one_written [] ns i d e same below = absurd (omega (arith, below))
one_written (q ∷ qs) [] i d e same below = absurd (omega (arith, same))
one_written (q ∷ qs) (n ∷ ns) zero d e same below = refl
one_written (q ∷ qs) (n ∷ ns) (suc i) d e same below = ap (λ ps. with_ticket n q.key ∷ ps) (one_written qs ns i d e (omega (arith, same)) (omega (arith, below)))

pub next_written : (qs now : List KeyMark) (ns : List ℕ) (i : ℕ) (d : KeyMark) (e : ℕ) → length ns ≡ length qs → i < length qs → now ≡ written i qs ns → set now i (with_ticket (get_or ns i e) (get_or now i d).key) ≡ written (i + 1) qs ns
next_written qs now ns i d e same below is = ap (λ ps. set ps i (with_ticket (get_or ns i e) (get_or ps i d).key)) is ∙ one_written qs ns i d e same below ∙ ap (λ j. written j qs ns) (sym (add-one i))

pub words_more : (qs now : List KeyMark) (q : KeyMark) → AllByRecursion HasWord qs → now ≡ qs ++ q ∷ [] → q.key.value < 2 ^ 64 → AllByRecursion HasWord now
words_more qs now q h is word = subst (AllByRecursion HasWord) (sym is) (append qs h)
  where
    append : (qs : List KeyMark) → AllByRecursion HasWord qs → AllByRecursion HasWord (qs ++ q ∷ [])
    append [] h = (word, tt)
    append (p ∷ ps) h = (h.0, append ps h.1)
