-- Every source has a reading.
use Rattle.std.proofs.Common.{◌≡◌, ℕ, zero, suc, ◌+◌, ◌<◌, Bool, true, false, List, [], ◌∷◌, length, drop, length-drop, refl, arith}
use Rattle.c_lexer.specs.declared.token.Token.{Token}
use Rattle.c_lexer.specs.declared.item.Item.{Item}
use Rattle.c_lexer.specs.declared.item.Item.TheVariants as items
use Rattle.c_lexer.specs.Items.{item_at}
use Rattle.c_lexer.specs.Lexing as l
use Rattle.c_lexer.specs.Lexing.{End, Whole, Stopped, Reads, error_at}
use Rattle.c_lexer.proofs.Inside.{skip_in, token_in}

abbrev pub Readable : Bool → ℕ → List ℕ → Type 0
Readable fresh at bs = (ts : List Token) × (end : End) × Reads fresh at bs ts end

-- by what stands first, where fewer bytes have a reading
step : (fresh : Bool) (at : ℕ) (bs : List ℕ) → ((line : Bool) (to : ℕ) (cs : List ℕ) → length cs < length bs → Readable line to cs) → (i : Item) → item_at fresh bs ≡ i → Readable fresh at bs
step fresh at bs less items.Finished e = ([], Whole, l.finished e)
step fresh at bs less (items.Fault f n) e = ([], Stopped (error_at f (at + n)), l.stopped e)
step fresh at bs less (items.Skip n line) e =
    let i = skip_in fresh bs n line e in
    let r = less line (at + n) (drop n bs) (omega (arith, length-drop n bs)) in
    (r.0, r.1, l.skipped e r.2)
step fresh at bs less (items.Token n k) e =
    let i = token_in fresh bs n k e in
    let r = less false (at + n) (drop n bs) (omega (arith, length-drop n bs)) in
    ((record { kind = k; from = at; to = at + n }) ∷ r.0, r.1, l.token e r.2)

readable_below : (k : ℕ) (fresh : Bool) (at : ℕ) (bs : List ℕ) → length bs < k → Readable fresh at bs
readable_below zero fresh at bs h = absurd (omega arith)
readable_below (suc k) fresh at bs h = step fresh at bs (λ line to cs less. readable_below k line to cs (omega arith)) (item_at fresh bs) refl

pub readable : (bs : List ℕ) → Readable true 0 bs
readable bs = readable_below (length bs + 1) true 0 bs (omega arith)
