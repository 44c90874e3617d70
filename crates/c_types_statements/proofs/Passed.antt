-- What is found step by step, while something is noted.
use Rattle.std.proofs.Common.{◌≡◌, ℕ, Option, Some, None, Ok, Err, refl, sym, ap, ◌∙◌, subst}
use Rattle.c_types_rules.specs.Checked.{Checked, Fine, Noted, Broken, Notes, noting, together, ◌>>=◌}
use Rattle.c_types_rules.proofs.Notes.{noting_twice, together_in_turn}
use Rattle.c_types_operators.specs.declared.error.TypeError.{TypeError}
use Rattle.c_types_operators.specs.declared.error.TypeError.TheVariants.{Rule, Memory}
use Rattle.c_types_expressions.specs.Found.{Found}

-- what is found, where this was noted before
abbrev pub also : {A : Type 0} → Option Notes → Checked A → Checked A
also None c = c
also (Some n) c = noting n c

-- what is noted then
abbrev pub noted_with : Option Notes → Notes → Notes
noted_with None old = old
noted_with (Some n) old = together old n

-- one note more
abbrev pub with_more : Option Notes → Notes → Option Notes
with_more None n = Some n
with_more (Some m) n = Some (together m n)

-- what is found in all is what is found in the rest
pub record Passed {A : Type 0} (old now : Notes) (whole rest : Checked A) : Type 0 where
  pub before : Option Notes
  pub is : whole ≡ also before rest
  pub note : now ≡ noted_with before old

also_more : {A : Type 0} (b : Option Notes) (n : Notes) (c : Checked A) → also b (noting n c) ≡ also (with_more b n) c
also_more None n c = refl
also_more (Some m) n c = noting_twice m n c

noted_more : (b : Option Notes) (n old : Notes) → together (noted_with b old) n ≡ noted_with (with_more b n) old
noted_more None n old = refl
noted_more (Some m) n old = together_in_turn old m n

-- nothing is passed yet
pub none_passed : {A : Type 0} (old : Notes) (whole : Checked A) → Passed old old whole whole
none_passed old whole = record { before = None; is = refl; note = refl }

pub passed_same : {A : Type 0} (old now : Notes) (whole rest same : Checked A) → rest ≡ same → Passed old now whole rest → Passed old now whole same
passed_same old now whole rest same e h = record { before = h.before; is = h.is ∙ ap (also h.before) e; note = h.note }

-- a step further
pub pass_on : {A B X : Type 0} (old now next : Notes) (whole : Checked A) (is : X → B → Type 0) (c : Checked X) (f : X → Checked A) (y : B)
    → Passed old now whole (c >>= f) → Found now next is c (Ok y) → (a : X) × is a y × Passed old next whole (f a)
pass_on old now next whole is (Fine a) f y h k = (a, k.0, record { before = h.before; is = h.is; note = k.1 ∙ h.note })
pass_on old now next whole is (Noted n a) f y h k = (a, k.0, record { before = with_more h.before n; is = h.is ∙ also_more h.before n (f a); note = k.1 ∙ (ap (λ z. together z n) h.note ∙ noted_more h.before n old) })
pass_on old now next whole is (Broken from rule) f y h k = absurd k

found_all : {A B : Type 0} (old now : Notes) (before : Option Notes) (goes : A → B → Type 0) (x : A) (y : B) → now ≡ noted_with before old → goes x y → Found old now goes (also before (Fine x)) (Ok y)
found_all old now None goes x y e k = (k, e)
found_all old now (Some n) goes x y e k = (k, e)

-- nothing is left
pub pass_all : {A B : Type 0} (old now : Notes) (whole : Checked A) (goes : A → B → Type 0) (x : A) (y : B) → Passed old now whole (Fine x) → goes x y → Found old now goes whole (Ok y)
pass_all old now whole goes x y h k =
    let P : Checked _ → Type 0 = λ c. Found old now goes c (Ok y) in
    subst P (sym h.is) (found_all old now h.before goes x y h.note k)

forgotten : {A B : Type 0} (old last : Notes) (goes : A → B → Type 0) (c : Checked A) → Found old last goes c (Err Memory)
forgotten old last goes (Fine x) = tt
forgotten old last goes (Noted n x) = tt
forgotten old last goes (Broken from rule) = tt

still_broken : {A : Type 0} (before : Option Notes) (from rule : ℕ) → also {A = A} before (Broken from rule) ≡ Broken from rule
still_broken None from rule = refl
still_broken (Some n) from rule = refl

-- a step breaks a rule
pub pass_off : {A B X Y : Type 0} (old now next last : Notes) (whole : Checked A) (is : X → Y → Type 0) (goes : A → B → Type 0) (c : Checked X) (f : X → Checked A) (e : TypeError)
    → Passed old now whole (c >>= f) → Found now next is c (Err e) → Found old last goes whole (Err e)
pass_off old now next last whole is goes (Fine x) f (Rule g q) h k = absurd k
pass_off old now next last whole is goes (Noted n x) f (Rule g q) h k = absurd k
pass_off old now next last whole is goes (Broken from rule) f (Rule g q) h k =
    let P : Checked _ → Type 0 = λ c. Found old last goes c (Err (Rule g q)) in
    subst P (sym (h.is ∙ still_broken h.before from rule)) k
pass_off old now next last whole is goes c f Memory h k = forgotten old last goes whole
