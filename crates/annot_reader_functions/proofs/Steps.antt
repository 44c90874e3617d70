-- Steps that follow each other.
use Rattle.std.proofs.Common.{◌≡◌, Result, Ok, refl}
use Rattle.c_types_rules.specs.Checked.{Checked, Fine, Noted, Broken, ◌>>=◌, ◌>>◌}
use Rattle.c_types_rules.proofs.Notes.{noting_then}
use Rattle.annot_reader_words.specs.declared.error.AnnotationError.{AnnotationError}
use Rattle.annot_reader_words.specs.Answers.{Tells}
use Rattle.annot_reader_words.proofs.Composing.{noting_tells}

pub bind_assoc : {A B C : Type 0} (c : Checked A) (f : A → Checked B) (g : B → Checked C) → ((c >>= f) >>= g) ≡ (c >>= λ x. f x >>= g)
bind_assoc (Fine x) f g = refl
bind_assoc (Noted n x) f g = noting_then n (f x) g
bind_assoc (Broken a b) f g = refl

pub after_assoc : {A B C : Type 0} (c : Checked A) (d : Checked B) (g : B → Checked C) → ((c >> d) >>= g) ≡ (c >> (d >>= g))
after_assoc (Fine x) d g = refl
after_assoc (Noted n x) d g = noting_then n d g
after_assoc (Broken a b) d g = refl

-- what a step found, and how it goes on
pub found : {A B C D : Type 0} (is : A → B → Type 0) (js : C → D → Type 0) (c : Checked A) (f : A → Checked C) (y : B) → Tells is c (Ok y) →
    (x : A) × is x y × ((r : Result D AnnotationError) → Tells js (f x) r → Tells js (c >>= f) r)
found is js (Fine x) f y h = (x, h, λ r t. t)
found is js (Noted n x) f y h = (x, h, λ r t. noting_tells js n (f x) r t)
found is js (Broken a b) f y h = absurd h
