-- How answers agree with what the rules of annotations say.
use Rattle.std.specs.Prelude.{◌≡◌, Result, Ok, Err}
use Rattle.c_types_rules.specs.Checked.{Checked, Fine, Noted, Broken}
use Rattle.annot_reader_words.specs.declared.error.AnnotationError.{AnnotationError}
use Rattle.annot_reader_words.specs.declared.error.AnnotationError.TheVariants.{Rule, Memory}

-- what is said is there, or the rule that is broken is named, with the offset of its node; of memory
-- nothing is said
abbrev pub Tells : {A B : Type 0} → (A → B → Type 0) → Checked A → Result B AnnotationError → Type 0
Tells is c (Err Memory) = Unit {0}
Tells is (Fine x) (Ok y) = is x y
Tells is (Noted n x) (Ok y) = is x y
Tells is (Broken from rule) (Err (Rule f r)) = (f ≡ from) × (r ≡ rule)
Tells is _ _ = ⊥

abbrev pub Unsaid : Unit {0} → Unit {0} → Type 0
Unsaid x y = Unit {0}

-- nothing but that no rule is broken
abbrev pub Passes : Checked (Unit {0}) → Result (Unit {0}) AnnotationError → Type 0
Passes c r = Tells Unsaid c r
