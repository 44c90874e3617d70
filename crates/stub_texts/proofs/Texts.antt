-- Texts one after another.
use Rattle.std.proofs.Common.{◌≡◌, ◌<◌, ◌+◌, ℕ, suc, List, [], ◌++◌, drop, get_or, length, Option, Some, None, sym, ap, subst, ◌∙◌, add-one}
use Rattle.std.specs.List.{flat_map}
use Rattle.std.proofs.Math.Seq.{drop-cons}
use Rattle.stub_operations.specs.declared.operation.StubOp.{StubOp}
use Rattle.stub_operations.specs.Growing.{IsAdded}
use Rattle.stub_operations.proofs.Growing.{nothing, two}
use Rattle.stub_texts.specs.Texts.{line_text, maybe_text, stub_text, texts_from}

-- the same text
pub same : {o p : Option (List ℕ)} {a b : List ℕ} → a ≡ b → IsAdded o a p → IsAdded o b p
same {o} {p} {a} {b} e f = subst (λ (x : List ℕ). IsAdded o x p) e f

-- the lines from an operation on
pub lines_here : (ops : List StubOp) (i : ℕ) (op : StubOp) → i < length ops → get_or ops i op ≡ op →
    flat_map line_text (drop i ops) ≡ line_text op ++ flat_map line_text (drop (i + 1) ops)
lines_here ops i op within e =
    ap (flat_map line_text) (drop-cons ops i op within) ∙
    (ap (λ (x : StubOp). line_text x ++ flat_map line_text (drop (suc i) ops)) e ∙
    ap (λ (j : ℕ). line_text op ++ flat_map line_text (drop j ops)) (sym (add-one i)))

-- the texts from a function on
pub texts_here : (word : List ℕ) (names : ℕ → List ℕ) (all : List (Option (List StubOp))) (i : ℕ)
    (ops : Option (List StubOp)) → i < length all → get_or all i ops ≡ ops →
    texts_from word names i (drop i all) ≡ maybe_text word (names i) i ops ++
    texts_from word names (i + 1) (drop (i + 1) all)
texts_here word names all i ops within e =
    ap (texts_from word names i) (drop-cons all i ops within) ∙
    (ap (λ (x : Option (List StubOp)). maybe_text word (names i) i x ++
    texts_from word names (i + 1) (drop (suc i) all)) e ∙
    ap (λ (j : ℕ). maybe_text word (names i) i ops ++ texts_from word names (i + 1) (drop j all)) (sym (add-one i)))

-- one function more, and then the others
pub step : (word : List ℕ) (names : ℕ → List ℕ) (all : List (Option (List StubOp))) (i : ℕ)
    (ops : Option (List StubOp)) → i < length all → get_or all i ops ≡ ops →
    {o p q : Option (List ℕ)} → IsAdded o (maybe_text word (names i) i ops) p →
    IsAdded p (texts_from word names (i + 1) (drop (i + 1) all)) q → IsAdded o (texts_from word names i (drop i all)) q
step word names all i ops within e f g = same (sym (texts_here word names all i ops within e)) (two f g)

-- the stub of a function that was added
pub some_text : (word : List ℕ) (names : ℕ → List ℕ) (i : ℕ) {found : Option (List StubOp)} {ops given : List StubOp}
    {o p r : Option (List ℕ)} → found ≡ Some ops → given ≡ ops → p ≡ r →
    IsAdded o (stub_text word (names i) i given) r → IsAdded o (maybe_text word (names i) i found) p
some_text word names i {found} {ops} {given} {o} {p} {r} is same_ops same_text f =
    same (ap (stub_text word (names i) i) same_ops ∙ sym (ap (maybe_text word (names i) i) is))
    (subst (λ (x : Option (List ℕ)). IsAdded o (stub_text word (names i) i given) x) (sym same_text) f)

pub none_text : (word : List ℕ) (names : ℕ → List ℕ) (i : ℕ) {found : Option (List StubOp)} {o p : Option (List ℕ)} →
    found ≡ None → p ≡ o → IsAdded o (maybe_text word (names i) i found) p
none_text word names i {found} {o} {p} is same_text =
    same (sym (ap (maybe_text word (names i) i) is))
    (subst (λ (x : Option (List ℕ)). IsAdded o [] x) (sym same_text) (nothing o))
