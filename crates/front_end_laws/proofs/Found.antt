-- What is found, as an option.
use Rattle.std.proofs.Common.{◌≡◌, ℕ, Bool, true, false, Option, Some, None, refl, sym, ◌∙◌, subst}
use Rattle.std.specs.Prelude.{if◌then◌else◌}
use Rattle.std.proofs.lemmas.Option.{same_Some}
use Rattle.c_types_rules.specs.Checked.{Checked, Fine, Noted, Notes, Broken, need, noting, ◌>>=◌, ◌>>◌}
use Rattle.c_lower_laws.proofs.Held.{Holds}

abbrev pub value : {A : Type 0} → Checked A → Option A
value (Fine x) = Some x
value (Noted n x) = Some x
value (Broken from rule) = None

pub holds_value : {A : Type 0} (c : Checked A) → Holds (λ x. value c ≡ Some x) c
holds_value (Fine x) = refl
holds_value (Noted n x) = refl
holds_value (Broken from rule) = tt

value_noting : {A : Type 0} (n : Notes) (c : Checked A) → value (noting n c) ≡ value c
value_noting n (Fine x) = refl
value_noting n (Noted m x) = refl
value_noting n (Broken from rule) = refl

-- both steps of what is found
pub value_then : {A B : Type 0} (c : Checked A) (f : A → Checked B) (y : B) → value (c >>= f) ≡ Some y →
    (x : A) × (value c ≡ Some x) × (value (f x) ≡ Some y)
value_then (Fine x) f y e = (x, refl, e)
value_then (Noted n x) f y e = (x, refl, sym (value_noting n (f x)) ∙ e)
value_then (Broken from rule) f y e = absurd cc

pub value_after : {A B : Type 0} (c : Checked A) (d : Checked B) (y : B) → value (c >> d) ≡ Some y → value d ≡ Some y
value_after (Fine x) d y e = e
value_after (Noted n x) d y e = sym (value_noting n d) ∙ e
value_after (Broken from rule) d y e = absurd cc

pub holds_at : {A : Type 0} (P : A → Type 0) (c : Checked A) (x : A) → Holds P c → value c ≡ Some x → P x
holds_at P (Fine y) x h e = subst P (same_Some y x e) h
holds_at P (Noted n y) x h e = subst P (same_Some y x e) h
holds_at P (Broken from rule) x h e = absurd cc

pub holds_need : {A B : Type 0} (Q : B → Type 0) (from rule : ℕ) (o : Option A) (f : A → Checked B) →
    ((x : A) → o ≡ Some x → Holds Q (f x)) → Holds Q (need from rule o >>= f)
holds_need Q from rule (Some x) f h = h x refl
holds_need Q from rule None f h = tt

-- either of two
pub holds_if : {A : Type 0} (Q : A → Type 0) (b : Bool) (c d : Checked A) → Holds Q c → Holds Q d →
    Holds Q (if b then c else d)
holds_if Q true c d h k = h
holds_if Q false c d h k = k
