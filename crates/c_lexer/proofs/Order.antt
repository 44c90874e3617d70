-- Tokens in their order.
use Rattle.std.proofs.Common.{ℕ, ◌<◌, ◌≤◌, List, [], ◌∷◌, ◌++◌, arith}
use Rattle.c_lexer.specs.declared.token.Token.{Token}
use Rattle.c_lexer.specs.Lexing.{InOrder}

-- they may end later
pub later_end : (ts : List Token) (from at end : ℕ) → InOrder from ts at → at ≤ end → InOrder from ts end
later_end [] from at end h le = omega arith
later_end (t ∷ ts) from at end h le = (h.0, h.1, later_end ts t.to at end h.2 le)

-- one more
pub order_put : (ts : List Token) (from at to : ℕ) (t : Token) → InOrder from ts at → at ≤ t.from → t.from < t.to → t.to ≤ to → InOrder from (ts ++ t ∷ []) to
order_put [] from at to t h a b c = (omega arith, b, c)
order_put (u ∷ ts) from at to t h a b c = (h.0, h.1, order_put ts u.to at to t h.2 a b c)
