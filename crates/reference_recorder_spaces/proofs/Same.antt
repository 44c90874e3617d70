-- What a mark is that is told without the global that its path begins with.
use Rattle.std.proofs.Common.{◌≡◌, ℕ, List, Option, sym, subst}
use Rattle.marks.specs.Marks.{Act, Turn, Load, Store, Enter, Leave, Step, Fault, Made}
use Rattle.reference_recorder_marks.specs.Marks.{without_origin}

-- a store is one, from wherever its path begins
pub store_is : (a : Act) (origin : Option ℕ) (at : ℕ) (bytes : List ℕ) → without_origin a ≡ Store origin at bytes → (o : Option ℕ) × (a ≡ Store o at bytes)
store_is (Store o x bs) origin at bytes e =
    let p : x ≡ at = cc in
    let q : bs ≡ bytes = cc in
    (o, λ i. Store o (p i) (q i))
store_is Turn origin at bytes e = absurd cc
store_is (Load o x bs) origin at bytes e = absurd cc
store_is (Enter f args x bs) origin at bytes e = absurd cc
store_is (Leave x n) origin at bytes e = absurd cc
store_is (Step f args v ins pieces freed) origin at bytes e = absurd cc
store_is (Fault kind crosses ins outs access) origin at bytes e = absurd cc
store_is (Made ev) origin at bytes e = absurd cc

-- marks that are no accesses tell all
abbrev pub IsNoAccess : Act → Type 0
IsNoAccess Turn = Unit {0}
IsNoAccess (Load o at bytes) = ⊥
IsNoAccess (Store o at bytes) = ⊥
IsNoAccess (Enter f args at bytes) = Unit {0}
IsNoAccess (Leave at size) = Unit {0}
IsNoAccess (Step f args v ins pieces freed) = Unit {0}
IsNoAccess (Fault kind crosses ins outs access) = Unit {0}
IsNoAccess (Made e) = Unit {0}

pub plain_is : (a b : Act) → without_origin a ≡ b → IsNoAccess b → a ≡ b
plain_is Turn b e q = e
plain_is (Load o at bytes) b e q = absurd (subst IsNoAccess (sym e) q)
plain_is (Store o at bytes) b e q = absurd (subst IsNoAccess (sym e) q)
plain_is (Enter f args at bytes) b e q = e
plain_is (Leave at size) b e q = e
plain_is (Step f args v ins pieces freed) b e q = e
plain_is (Fault kind crosses ins outs access) b e q = e
plain_is (Made ev) b e q = e
