-- Keys with their tickets.
use Rattle.std.specs.Prelude.{ℕ, ◌<◌, ◌^◌, List, [], ◌∷◌}
use Rattle.run_events.specs.declared.key.Key.{Key}
use Rattle.run_events.specs.declared.key.KeyMark.{KeyMark}

abbrev pub with_ticket : (ticket : ℕ) → Key → KeyMark
with_ticket n k = record { key = k; ticket = n }

-- each key has the ticket that stands at its place
abbrev pub with_tickets : List KeyMark → (tickets : List ℕ) → List KeyMark
with_tickets [] ns = []
with_tickets (q ∷ qs) [] = q ∷ qs
with_tickets (q ∷ qs) (n ∷ ns) = with_ticket n q.key ∷ with_tickets qs ns

-- the value of the key is a word
abbrev pub HasWord : KeyMark → Type 0
HasWord q = q.key.value < 2 ^ 64
