-- What follows of results that are given on.
use Rattle.std.proofs.Common.{Result, Ok, Err, Option, Some, None, IfSome}
use Rattle.std.specs.Prelude.{IfOk, IfErr, OnOk}

pub both_ok : {A E : Type 0} (r : Result A E) (P Q R : A → Type 0) → ((a : A) → P a → Q a → R a) → IfOk r P → IfOk r Q → IfOk r R
both_ok (Ok a) P Q R go p q = go a p q
both_ok (Err e) P Q R go p q = p

pub any_err : {A E : Type 0} (r : Result A E) (P Q : E → Type 0) → ((e : E) → P e → Q e) → IfErr r P → IfErr r Q
any_err (Ok a) P Q go p = p
any_err (Err e) P Q go p = go e p

pub any_ok : {A E : Type 0} (r : Result A E) (P Q : A → Type 0) → ((a : A) → P a → Q a) → IfOk r P → IfOk r Q
any_ok (Ok a) P Q go p = go a p
any_ok (Err e) P Q go p = p

pub all_ok : {A E : Type 0} (r : Result A E) (P : Type 0) → P → OnOk r P
all_ok (Ok a) P p = p
all_ok (Err e) P p = tt

pub both_some : {A : Type 0} (o : Option A) (P Q R : A → Type 0) → ((a : A) → P a → Q a → R a) → IfSome o P → IfSome o Q → IfSome o R
both_some (Some a) P Q R go p q = go a p q
both_some None P Q R go p q = tt
