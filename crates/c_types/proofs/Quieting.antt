-- What is found where nothing is told of what stands unevaluated.
use Rattle.std.proofs.Common.{◌≡◌, [], Result, Ok, Err, refl, ap, sym, subst}
use Rattle.c_types_rules.specs.Checked.{Checked, Fine, Noted, Broken, Notes, noting, ◌>>=◌, ◌>>◌}
use Rattle.c_types_rules.specs.Sources.{Program}
use Rattle.c_types_operators.specs.declared.error.TypeError.{TypeError}
use Rattle.c_types_operators.specs.declared.error.TypeError.TheVariants.{Rule, Memory}
use Rattle.c_types_environment.specs.States.{notes_of}
use Rattle.c_types_expressions.specs.Found.{Found}
use Rattle.c_types.specs.declared.declarations.Declarations.{Declarations}
use Rattle.c_types.specs.Quiet.{quiet}
use Rattle.c_types.specs.States.{Declares, Follows, program_of}

-- of notes only whether an object is too large
abbrev pub calm : Notes → Notes
calm n = record n { unevaluated = [] }

module _ {A : Type 0} where
  noted : (n : Notes) (c : Checked A) → quiet (noting n c) ≡ noting (calm n) (quiet c)
  noted n (Fine x) = refl
  noted n (Noted m x) = refl
  noted n (Broken from rule) = refl

  pub quiet_then : {B : Type 0} (c : Checked B) (k : B → Checked A) → quiet (c >>= k) ≡ (quiet c >>= (λ x. quiet (k x)))
  quiet_then (Fine x) k = refl
  quiet_then (Noted n x) k = noted n (k x)
  quiet_then (Broken from rule) k = refl

  pub quiet_after : {B : Type 0} (c : Checked B) (d : Checked A) → quiet (c >> d) ≡ (quiet c >> quiet d)
  quiet_after (Fine x) d = refl
  quiet_after (Noted n x) d = noted n d
  quiet_after (Broken from rule) d = refl

module _ {A B : Type 0} where
  pub quiet_found : (f g : Notes) (is : A → B → Type 0) (c : Checked A) (r : Result B TypeError) → Found f g is c r → Found (calm f) (calm g) is (quiet c) r
  quiet_found f g is c (Err Memory) h = tt
  quiet_found f g is (Fine x) (Ok y) h = (h.0, ap calm h.1)
  quiet_found f g is (Noted n x) (Ok y) h = (h.0, ap calm h.1)
  quiet_found f g is (Broken from rule) (Ok y) h = absurd h
  quiet_found f g is (Fine x) (Err (Rule a b)) h = absurd h
  quiet_found f g is (Noted n x) (Err (Rule a b)) h = absurd h
  quiet_found f g is (Broken from rule) (Err (Rule a b)) h = h

  -- a rule that is broken is told
  pub quiet_error : {C : Type 0} (f g h k : Notes) (is : A → B → Type 0) (js : A → C → Type 0) (c : Checked A) (e : TypeError) → Found f g is (quiet c) (Err e) → Found h k js c (Err e)
  quiet_error f g h k is js c Memory q = tt
  quiet_error f g h k is js (Fine x) (Rule a b) q = absurd q
  quiet_error f g h k is js (Noted n x) (Rule a b) q = absurd q
  quiet_error f g h k is js (Broken from rule) (Rule a b) q = q

-- ---- what is declared

pub declares : (old new : Declarations) (c : Checked Program) (r : Result (Unit {0}) TypeError) → Follows old new c r → Declares old new c r
declares old new c r h = record { agrees = quiet_found (notes_of old.env) (notes_of new.env) (λ p _. program_of new ≡ p) c r h.agrees; kept = h.kept }

pub declares_as : (old new : Declarations) (c d : Checked Program) (r : Result (Unit {0}) TypeError) → c ≡ d → Declares old new d r → Declares old new c r
declares_as old new c d r e h = subst (λ x. Declares old new x r) (sym e) h

pub declares_so : (old new : Declarations) (c : Checked Program) (r : Result (Unit {0}) TypeError) (e : TypeError) → r ≡ Err e → Declares old new c (Err e) → Declares old new c r
declares_so old new c r e same h = subst (λ x. Declares old new c x) (sym same) h
