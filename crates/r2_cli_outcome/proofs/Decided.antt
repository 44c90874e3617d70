-- Stages decide one answer, and what outcomes they end with.
use Rattle.std.proofs.Common.{◌≡◌, ℕ, List, length, sym, ◌∙◌, ap, arith, subst}
use Rattle.r2_base.specs.Seen.{Contents}
use Rattle.r2_cli_outcome.specs.Outcome.{Outcome}
use Rattle.r2_cli_outcome.specs.Reading.{Of}
use Rattle.r2_cli_outcome.specs.Input.{Input, missing, too_long, read}
use Rattle.r2_cli_outcome.specs.Stages.{Answer, Stage, Then, Only, passed, ended, on, stop, Comes, done, refused}

-- ---- one answer, up to outcomes that are alike, as refusals whose offset is free

abbrev pub SameAnswer : {A : Type 0} → (Outcome → Outcome → Type 0) → Answer A → Answer A → Type 0
SameAnswer alike (passed a) (passed b) = a ≡ b
SameAnswer alike (passed a) (ended p) = ⊥
SameAnswer alike (ended o) (passed b) = ⊥
SameAnswer alike (ended o) (ended p) = alike o p

abbrev pub IsOne : {A : Type 0} → (Outcome → Outcome → Type 0) → Stage A → Type 0
IsOne {A} alike stage = (a b : Answer A) → stage a → stage b → SameAnswer alike a b

pub one_then : {A B : Type 0} (alike : Outcome → Outcome → Type 0) (first : Answer A → Type 0) (next : A → Answer B → Type 0) → IsOne alike first → ((a : A) → IsOne alike (next a)) → IsOne alike (Then first next)
one_then alike first next f g a b (on {a = x} h k) (on {a = y} i l) = g y a b (subst (λ z. next z a) (f (passed x) (passed y) h i) k) l
one_then alike first next f g a b (on {a = x} h k) (stop {o = o} i) = absurd (f (passed x) (ended o) h i)
one_then alike first next f g a b (stop {o = o} h) (on {a = x} i l) = absurd (f (ended o) (passed x) h i)
one_then alike first next f g a b (stop {o = o} h) (stop {o = p} i) = f (ended o) (ended p) h i

pub one_only : {A : Type 0} (alike : Outcome → Outcome → Type 0) (a : A) → IsOne alike (Only (passed a))
one_only alike a (passed x) (passed y) p q = let e : passed x ≡ passed y = p ∙ sym q in cc
one_only alike a (passed x) (ended o) p q = absurd (cc q)
one_only alike a (ended o) (passed y) p q = absurd (cc p)
one_only alike a (ended o) (ended q) p r = absurd (cc p)

-- the contents of a name decide what reading it comes to
pub one_input : (alike : Outcome → Outcome → Type 0) → ((o : Outcome) → alike o o) → (held : Contents) (name word : List ℕ) (most : ℕ) → IsOne alike (Input (Of held) name word most)
one_input alike self held name word most a b (missing s) (missing t) = self _
one_input alike self held name word most a b (missing s) (too_long t m) = absurd (cc (s, t))
one_input alike self held name word most a b (missing s) (read t m) = absurd (cc (s, t))
one_input alike self held name word most a b (too_long s m) (missing t) = absurd (cc (s, t))
one_input alike self held name word most a b (too_long s m) (too_long t k) = self _
one_input alike self held name word most a b (too_long {bytes = x} s m) (read {bytes = y} t k) = let e : x ≡ y = cc (s, t) in absurd (omega (arith, ap length e))
one_input alike self held name word most a b (read s m) (missing t) = absurd (cc (s, t))
one_input alike self held name word most a b (read {bytes = x} s m) (too_long {bytes = y} t k) = let e : x ≡ y = cc (s, t) in absurd (omega (arith, ap length e))
one_input alike self held name word most a b (read {bytes = x} s m) (read {bytes = y} t k) = cc (s, t)

-- the value of a last stage is an outcome, which is alike itself
pub one_comes : (alike : Outcome → Outcome → Type 0) → ((o : Outcome) → alike o o) → (command : Answer Outcome → Type 0) → IsOne alike command → (o p : Outcome) → Comes command o → Comes command p → alike o p
one_comes alike self command f o p (done h) (done i) = let same : o ≡ p = f (passed o) (passed p) h i in subst (λ (q : Outcome). alike o q) same (self o)
one_comes alike self command f o p (done h) (refused i) = absurd (f (passed o) (ended p) h i)
one_comes alike self command f o p (refused h) (done i) = absurd (f (ended o) (passed p) h i)
one_comes alike self command f o p (refused h) (refused i) = f (ended o) (ended p) h i

-- ---- what holds of each outcome with which a stage ends

abbrev pub EndsIn : {A : Type 0} → (Outcome → Type 0) → Stage A → Type 0
EndsIn P stage = (o : Outcome) → stage (ended o) → P o

pub ends_then : {A B : Type 0} (P : Outcome → Type 0) (first : Answer A → Type 0) (next : A → Answer B → Type 0) → EndsIn P first → ((a : A) → EndsIn P (next a)) → EndsIn P (Then first next)
ends_then P first next f g o (on {a = a} h k) = g a o k
ends_then P first next f g o (stop h) = f o h

pub ends_only : {A : Type 0} (P : Outcome → Type 0) (a : A) → EndsIn P (Only (passed a))
ends_only P a o e = absurd (cc e)
