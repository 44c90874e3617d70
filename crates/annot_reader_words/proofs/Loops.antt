-- A loop that puts what each item gives after a list: what is left to be put after still makes the whole.
use Rattle.std.proofs.Common.{◌≡◌, ℕ, ◌+◌, ◌<◌, List, ◌∷◌, ◌++◌, length, get_or, drop, drop-cons, add-one, suc, append_assoc, arith, sym, ap}
use Rattle.c_syntax_laws.specs.declared.node.Node.{Node}

pub next : {A : Type 0} (f : A → List Node) (all : List A → List Node) → ((x : A) (ys : List A) → all (x ∷ ys) ≡ f x ++ all ys) → (xs : List A) (x : A) (now then whole : List Node) (i : ℕ) → i < length xs → x ≡ get_or xs i x → then ≡ now ++ f x → now ++ all (drop i xs) ≡ whole → then ++ all (drop (i + 1) xs) ≡ whole
next f all step xs x now then whole i h g e inv =
    let d : drop i xs ≡ x ∷ drop (i + 1) xs = rw (add-one, drop-cons xs i x) (ap (λ y. y ∷ drop (suc i) xs) (sym g)) in
    let k : all (drop i xs) ≡ f x ++ all (drop (i + 1) xs) = rw d (step x (drop (i + 1) xs)) in
    let j : now ++ (f x ++ all (drop (i + 1) xs)) ≡ whole = rw k at inv in
    rw (e, append_assoc) j
