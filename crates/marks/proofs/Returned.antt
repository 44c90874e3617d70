-- What answers the return of a call of the thread's own code.
use Rattle.std.proofs.Common.{◌≡◌, ℕ, Bool, true, false, ◌&&◌, eqb, List, Some, refl, ap, ◌∙◌, eqb-true}
use Rattle.marks.specs.Marks.{EventKind, Call, Ret, Up, UpRet, Alloc, Free, Stop, Act, Turn, Load, Store, Enter, Leave, Step, Fault, Made}
use Rattle.marks.specs.Wants.{Answer, Below, Gives, Returns, Go, Value, answer_if, answer_to, event_answer, same_numbers}

-- three tests that all hold: those of the function and of its arguments, and that of its result
parts : (f args v : Bool) (x : Answer) → answer_if (f && (args && v)) Go ≡ Some x → ((f && args) ≡ true) × (v ≡ true)
parts true true true x e = (refl, refl)
parts true true false x e = absurd cc
parts true false v x e = absurd cc
parts false args v x e = absurd cc

returned : (f : ℕ) (args : List ℕ) (v : ℕ) (g : ℕ) (bs : List ℕ) (w : ℕ) (x : Answer) → answer_if (eqb g f && (same_numbers bs args && eqb w v)) Go ≡ Some x → answer_if (eqb g f && same_numbers bs args) (Value w) ≡ Some (Value v)
returned f args v g bs w x e =
    let p = parts (eqb g f) (same_numbers bs args) (eqb w v) x e in
    let is : w ≡ v = eqb-true w v p.1 in
    ap (λ b. answer_if b (Value w)) p.0 ∙ ap (λ n. Some (Value n)) is

kind_returned : (f : ℕ) (args : List ℕ) (v : ℕ) (e : EventKind) (x : Answer) → event_answer (Returns f args v) e ≡ Some x → event_answer (Below f args) e ≡ Some (Value v)
kind_returned f args v (Ret g bs w same outs commit) x e = returned f args v g bs w x e
kind_returned f args v (Call g bs ins outs prepared) x e = absurd cc
kind_returned f args v (Up g bs) x e = absurd cc
kind_returned f args v (UpRet g w) x e = absurd cc
kind_returned f args v (Alloc at size) x e = absurd cc
kind_returned f args v (Free at size) x e = absurd cc
kind_returned f args v (Stop fault) x e = absurd cc

pub given : (f : ℕ) (args : List ℕ) (v : ℕ) (act : Act) (x : Answer) → answer_to (Returns f args v) act ≡ Some x → answer_to (Below f args) act ≡ Some (Value v)
unfolding answer_to
given f args v (Made e) x h = kind_returned f args v e.kind x h
given f args v Turn x h = absurd cc
given f args v (Load o at bytes) x h = absurd cc
given f args v (Store o at bytes) x h = absurd cc
given f args v (Enter g bs at bytes) x h = absurd cc
given f args v (Leave at size) x h = absurd cc
given f args v (Step g bs w ins pieces freed) x h = absurd cc
given f args v (Fault kind crosses ins outs access) x h = absurd cc

kind_free : (f : ℕ) (args : List ℕ) (e : EventKind) (x : Answer) → event_answer (Gives f args) e ≡ Some x → event_answer (Below f args) e ≡ Some x
kind_free f args (Ret g bs w same outs commit) x e = e
kind_free f args (Call g bs ins outs prepared) x e = absurd cc
kind_free f args (Up g bs) x e = absurd cc
kind_free f args (UpRet g w) x e = absurd cc
kind_free f args (Alloc at size) x e = absurd cc
kind_free f args (Free at size) x e = absurd cc
kind_free f args (Stop fault) x e = absurd cc

pub free : (f : ℕ) (args : List ℕ) (act : Act) (x : Answer) → answer_to (Gives f args) act ≡ Some x → answer_to (Below f args) act ≡ Some x
unfolding answer_to
free f args (Made e) x h = kind_free f args e.kind x h
free f args Turn x h = absurd cc
free f args (Load o at bytes) x h = absurd cc
free f args (Store o at bytes) x h = absurd cc
free f args (Enter g bs at bytes) x h = absurd cc
free f args (Leave at size) x h = absurd cc
free f args (Step g bs w ins pieces freed) x h = absurd cc
free f args (Fault kind crosses ins outs access) x h = absurd cc
