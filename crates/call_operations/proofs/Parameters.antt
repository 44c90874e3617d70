-- The operations of a kind, one parameter after another.
use Rattle.std.proofs.Common.{◌≡◌, ◌<◌, ◌+◌, ℕ, suc, Bool, ◌||◌, List, [], ◌∷◌, ◌++◌, map, drop, get_or, length, Option, refl, sym, ap, subst, ◌∙◌, add-one}
use Rattle.std.proofs.Math.Seq.{drop-cons}
use Rattle.std.specs.List.{list_any}
use Rattle.annot_reader_words.specs.declared.notes.Param.{Param}
use Rattle.stub_core.specs.declared.terms.Size.{Size}
use Rattle.stub_operations.specs.declared.operation.StubOp.{StubOp}
use Rattle.stub_operations.specs.Growing.{IsAdded}
use Rattle.stub_operations.proofs.Growing.{two}
use Rattle.stub_operations.specs.Operations.{CallSays, ParameterSays, by_place, only_if}
use Rattle.call_operations.specs.Said.{parameter_says}

abbrev pub saying : List ParameterSays → List ℕ → Option (ℕ × Size) → Bool → CallSays
saying ps ss commit cache = record { params = ps; sync = ss; commit = commit; cache = cache }

-- those from a place on are those of the parameter there, and then those after it
pub from_here : (of : ℕ → ParameterSays → List StubOp) (ps : List Param) (i : ℕ) (p : Param) → i < length ps →
    get_or ps i p ≡ p →
    by_place of i (map parameter_says (drop i ps)) ≡ of i (parameter_says p) ++
    by_place of (i + 1) (map parameter_says (drop (i + 1) ps))
from_here of ps i p within e =
    ap (λ (xs : List Param). by_place of i (map parameter_says xs)) (drop-cons ps i p within) ∙
    (ap (λ (x : Param). of i (parameter_says x) ++
    by_place of (i + 1) (map parameter_says (drop (suc i) ps))) e ∙
    ap (λ (j : ℕ). of i (parameter_says p) ++ by_place of (i + 1) (map parameter_says (drop j ps)))
    (sym (add-one i)))

-- a test of what is said of parameters
pub any_said : (test : ParameterSays → Bool) (ps : List Param) →
    list_any (λ (p : Param). test (parameter_says p)) ps ≡ list_any test (map parameter_says ps)
any_said test [] = refl
any_said test (p ∷ ps) = ap (λ (b : Bool). test (parameter_says p) || b) (any_said test ps)

-- two operations, each where its test holds
pub both : {o p q : Option (List StubOp)} {b d : Bool} (s t : Bool) (x y : StubOp) → b ≡ s → d ≡ t →
    IsAdded o (only_if b x) p → IsAdded p (only_if d y) q → IsAdded o (only_if s x ++ only_if t y) q
both {o} {p} {q} s t x y e h f g =
    two (subst (λ (v : Bool). IsAdded o (only_if v x) p) e f) (subst (λ (v : Bool). IsAdded p (only_if v y) q) h g)

-- one parameter more, and then the others
pub step : (of : ℕ → ParameterSays → List StubOp) (ps : List Param) (i : ℕ) (p : Param) → i < length ps →
    get_or ps i p ≡ p → {o m q : Option (List StubOp)} → IsAdded o (of i (parameter_says p)) m →
    IsAdded m (by_place of (i + 1) (map parameter_says (drop (i + 1) ps))) q →
    IsAdded o (by_place of i (map parameter_says (drop i ps))) q
step of ps i p within e {o} {m} {q} f g =
    subst (λ (x : List StubOp). IsAdded o x q) (sym (from_here of ps i p within e)) (two f g)

-- what is said, by parts
pub said_by : {ps qs : List Param} {ss ts : List ℕ} (commit : Option (ℕ × Size)) (cache : Bool) → ps ≡ qs → ss ≡ ts →
    saying (map parameter_says ps) ss commit cache ≡ saying (map parameter_says qs) ts commit cache
said_by {ps} {qs} {ss} {ts} commit cache e h =
    ap (λ (xs : List Param). saying (map parameter_says xs) ss commit cache) e ∙
    ap (λ (xs : List ℕ). saying (map parameter_says qs) xs commit cache) h
