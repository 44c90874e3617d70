-- One function after another.
use Rattle.std.proofs.Common.{◌≡◌, ◌≤◌, ◌+◌, ◌-◌, inl, inr, ℕ, Bool, ◌&&◌, cond, eqb, leb, ltb, List, length, Option, None, Some, is_none, sym, ap, ◌∙◌, arith}
use Rattle.std.proofs.lemmas.Bool.{cases_lt, lt-ltb, le-ltb}
use Rattle.std.proofs.lemmas.Bool.Decides.{eqb_tells}
use Rattle.std.proofs.lemmas.Option.{slice_get_past}
use Rattle.std.proofs.Math.Bool.{and-false}
use Rattle.c_builtins.specs.Table.{first_source_function}
use Rattle.c_types_program.specs.declared.function.Function.{Function}
use Rattle.annot_reader.specs.Interface.{Interface}
use Rattle.annot_reader.specs.Interfaces.{annots_at, declared_at}
use Rattle.stub_operations.specs.Operations.{operations_below}
use Rattle.call_operations.specs.Said.{call_says}
use Rattle.call_operations.specs.Sets.{below_of, has_no_body}

-- a number that isn't n is below n + 1 exactly where it is below n
below_next : (f n : ℕ) → (f ≡ n → ⊥) → ltb f (n + 1) ≡ ltb f n
below_next f n other = elim (cases_lt f n) [
  | inl h ↦ lt-ltb f (n + 1) (omega arith) ∙ sym (lt-ltb f n h)
  | inr h ↦
      let above : n + 1 ≤ f = elim (cases_lt n f) [ inl k ↦ omega arith | inr k ↦ absurd (other (omega arith)) ] in
      le-ltb f (n + 1) above ∙ sym (le-ltb f n h)
]

-- what the functions below a number have, where the one of that number gets its own
pub one_more : {X : Type 0} (wanted old new : ℕ → Option X) (n : ℕ) →
    ((f : ℕ) → old f ≡ cond (ltb f n) (wanted f) None) →
    ((f : ℕ) → new f ≡ cond (eqb f n) (wanted n) (old f)) →
    (f : ℕ) → new f ≡ cond (ltb f (n + 1)) (wanted f) None
one_more {X} wanted old new n before now f = elim (eqb_tells f n) [
  | inl e ↦
      now f ∙ (ap (λ (b : Bool). cond b (wanted n) (old f)) e.0 ∙ (sym (ap wanted e.1) ∙
      sym (ap (λ (b : Bool). cond b (wanted f) None) (lt-ltb f (n + 1) (omega (arith, e.1))))))
  | inr e ↦
      now f ∙ (ap (λ (b : Bool). cond b (wanted n) (old f)) e.0 ∙ (before f ∙
      sym (ap (λ (b : Bool). cond b (wanted f) None) (below_next f n e.1))))
]

-- a number that no function has is none of an external
beyond : (fs : List Function) (i : Interface) (f : ℕ) → first_source_function + length fs ≤ f → below_of fs i f ≡ None
beyond fs i f past =
    ap (λ (b : Bool). cond (b && is_none (annots_at i f)) (Some (operations_below (call_says (declared_at i f)))) None)
    (ap (λ (o : Option Function). leb first_source_function f && has_no_body o)
    (slice_get_past fs (f - first_source_function) (omega arith)) ∙ and-false (leb first_source_function f))

-- so the externals are among as many functions as there are
pub all_below : (fs : List Function) (i : Interface) (f n : ℕ) → n ≡ first_source_function + length fs →
    cond (ltb f n) (below_of fs i f) None ≡ below_of fs i f
all_below fs i f n e = elim (cases_lt f n) [
  | inl h ↦ ap (λ (b : Bool). cond b (below_of fs i f) None) (lt-ltb f n h)
  | inr h ↦ ap (λ (b : Bool). cond b (below_of fs i f) None) (le-ltb f n h) ∙ sym (beyond fs i f (omega arith))
]
