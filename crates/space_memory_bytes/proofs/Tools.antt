-- What is said of an answer follows from what is said of another.
use Rattle.std.proofs.Common.{◌≡◌, ℕ, zero, suc, ◌<◌, Bool, true, false, eqb, Option, None, Some, IfSome, Result, Ok, Err, refl, sym, ◌∙◌, arith}
use Rattle.std.specs.Prelude.{IfOk}
use Rattle.std.specs.Bool.{OnTrue, OnFalse}

-- what is said of a number that is found
pub if_some : {A : Type 0} (r : Option A) (P Q : A → Type 0) → ((v : A) → P v → Q v) → IfSome r P → IfSome r Q
if_some None P Q on has = tt
if_some (Some v) P Q on has = on v has

-- and of a change that is made
pub on_true : (b : Bool) (P Q : Type 0) → (b ≡ true → P → Q) → OnTrue b P → OnTrue b Q
on_true true P Q on has = on refl has
on_true false P Q on has = tt

pub on_false : (b : Bool) (P Q : Type 0) → (P → Q) → OnFalse b P → OnFalse b Q
on_false true P Q on has = tt
on_false false P Q on has = on has

pub if_ok : {A E : Type 0} (r : Result A E) (P Q : A → Type 0) → ((v : A) → P v → Q v) → IfOk r P → IfOk r Q
if_ok (Ok v) P Q on has = on v has
if_ok (Err e) P Q on has = tt

-- a list that isn't empty
pub some_of : (n : ℕ) (b : Bool) → b ≡ eqb n 0 → b ≡ false → 0 < n
some_of zero b is isnt = let wrong : true ≡ false = sym is ∙ isnt in absurd (cc)
some_of (suc n) b is isnt = omega arith
