-- Counts that stop at the greatest number.
use Rattle.std.proofs.Common.{◌≡◌, ℕ, ◌+◌, arith}
use Rattle.c_parser_nodes.specs.Counts.{capped}

pub plus : (a b c : ℕ) {x y : ℕ} → x ≡ capped a → y ≡ capped b → c ≡ a + b → capped (x + y) ≡ capped c
plus a b c p q e = omega arith

-- of the first one, two, three or four on a stack, the last of which is at the top

pub sum_one : (a : ℕ) {x : ℕ} → x ≡ capped a → capped (0 + x) ≡ capped a
sum_one a p = omega arith

pub sum_two : (a b : ℕ) {x y : ℕ} → x ≡ capped a → y ≡ capped b → capped (capped (0 + y) + x) ≡ capped (a + b)
sum_two a b p q = plus b a (a + b) (sum_one b q) p (omega arith)

pub sum_three : (a b c : ℕ) {x y z : ℕ} → x ≡ capped a → y ≡ capped b → z ≡ capped c → capped (capped (capped (0 + z) + y) + x) ≡ capped (a + (b + c))
sum_three a b c p q r = plus (b + c) a (a + (b + c)) (sum_two b c q r) p (omega arith)

pub sum_four : (a b c d : ℕ) {x y z w : ℕ} → x ≡ capped a → y ≡ capped b → z ≡ capped c → w ≡ capped d
    → capped (capped (capped (capped (0 + w) + z) + y) + x) ≡ capped (a + (b + (c + d)))
sum_four a b c d p q r s = plus (b + (c + d)) a (a + (b + (c + d))) (sum_three b c d q r s) p (omega arith)

-- and a node of their own
pub node : (a : ℕ) {x : ℕ} → x ≡ capped a → capped (x + 1) ≡ capped (1 + a)
node a p = omega arith

-- and none
pub alone : (a : ℕ) {x : ℕ} → x ≡ capped a → capped (x + 0) ≡ capped a
alone a p = omega arith

-- the one at the top comes first
pub turned : (a b : ℕ) {x y : ℕ} → x ≡ capped a → y ≡ capped b → capped (capped (capped (0 + x) + y) + 1) ≡ capped (1 + (a + b))
turned a b p q = node (a + b) (plus a b (a + b) (sum_one a p) q (omega arith))
