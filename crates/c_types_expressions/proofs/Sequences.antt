-- How answers go on one from another.
use Rattle.std.proofs.Common.{◌≡◌, ℕ, Bool, true, false, List, [], ◌∷◌, Result, Ok, Err, refl, sym, ap, ◌∙◌, subst}
use Rattle.c_types_rules.specs.Checked.{Checked, Fine, Noted, Broken, Notes, keep, noting, small, together, unevaluated, ◌>>=◌, ◌>>◌}
use Rattle.c_types_rules.specs.TypedTree.{Typed}
use Rattle.c_types_rules.proofs.Notes.{noting_then, together_in_turn, with_large}
use Rattle.c_types_operators.specs.declared.error.TypeError.{TypeError}
use Rattle.c_types_operators.specs.declared.error.TypeError.TheVariants.{Rule, Memory}
use Rattle.c_types_operators.specs.Answers.{Agrees}
use Rattle.c_types_expressions.specs.Found.{Found, size_noted}

module _ {A B : Type 0} where
  -- an answer that agrees with what the rules say agrees with each that is the same
  pub passed : (f g : Notes) (is : A → B → Type 0) (c d : Checked A) (r : Result B TypeError) → c ≡ d → Found f g is d r → Found f g is c r
  passed f g is c d r e h = subst (λ x. Found f g is x r) (sym e) h

  -- what is there, with nothing that is too large
  pub found : (f g : Notes) (is : A → B → Type 0) (x : A) (y : B) → g ≡ f → is x y → Found f g is (Fine x) (Ok y)
  found f g is x y e h = (h, e)

  -- an answer of one step notes nothing
  pub noted_nothing : (f g : Notes) (is : A → B → Type 0) (c : Checked A) (r : Result B TypeError) → g ≡ f → Agrees is c r → Found f g is c r
  noted_nothing f g is c (Err Memory) e h = tt
  noted_nothing f g is (Fine x) (Ok y) e h = (h, e)
  noted_nothing f g is (Noted n x) (Ok y) e h = absurd h
  noted_nothing f g is (Broken from rule) (Ok y) e h = absurd h
  noted_nothing f g is (Broken from rule) (Err (Rule p q)) e h = h
  noted_nothing f g is (Fine x) (Err (Rule p q)) e h = absurd h
  noted_nothing f g is (Noted n x) (Err (Rule p q)) e h = absurd h

  -- what is there may be looked at in another way
  pub seen : (f g : Notes) (is js : A → B → Type 0) (c : Checked A) (r : Result B TypeError) → ((x : A) (y : B) → is x y → js x y) → Found f g is c r → Found f g js c r
  seen f g is js c (Err Memory) m h = tt
  seen f g is js (Fine x) (Ok y) m h = (m x y h.0, h.1)
  seen f g is js (Noted n x) (Ok y) m h = (m x y h.0, h.1)
  seen f g is js (Broken from rule) (Ok y) m h = absurd h
  seen f g is js (Broken from rule) (Err (Rule p q)) m h = h
  seen f g is js (Fine x) (Err (Rule p q)) m h = absurd h
  seen f g is js (Noted n x) (Err (Rule p q)) m h = absurd h

  -- what is found is there
  pub there : (f g : Notes) (is : A → B → Type 0) (c : Checked A) (y : B) → Found f g is c (Ok y) → (x : A) × is x y
  there f g is (Fine x) y h = (x, h.0)
  there f g is (Noted n x) y h = (x, h.0)
  there f g is (Broken from rule) y h = absurd h

  -- what was noted before may be the same elsewhere
  pub since : (e f g : Notes) (is : A → B → Type 0) (c : Checked A) (r : Result B TypeError) → e ≡ f → Found e g is c r → Found f g is c r
  since e f g is c r same h = subst (λ b. Found b g is c r) same h

  -- a rule that is broken is broken whatever goes on from there
  pub stopped_in : {C D : Type 0} (f g h : Notes) (is : A → B → Type 0) (js : C → D → Type 0) (c : Checked A) (k : A → Checked C) (e : TypeError) → Found f g is c (Err e) → Found f h js (c >>= k) (Err e)
  stopped_in f g h is js c k Memory p = tt
  stopped_in f g h is js (Fine x) k (Rule a b) p = absurd p
  stopped_in f g h is js (Noted n x) k (Rule a b) p = absurd p
  stopped_in f g h is js (Broken from rule) k (Rule a b) p = p

-- with something noted before it
pub noted_before : {C D : Type 0} (f h : Notes) (js : C → D → Type 0) (n : Notes) (c : Checked C) (r : Result D TypeError) → Found (together f n) h js c r → Found f h js (noting n c) r
noted_before f h js n c (Err Memory) p = tt
noted_before f h js n (Fine x) (Ok y) p = p
noted_before f h js n (Noted m x) (Ok y) p = (p.0, p.1 ∙ together_in_turn f n m)
noted_before f h js n (Broken from rule) (Ok y) p = absurd p
noted_before f h js n (Broken from rule) (Err (Rule a b)) p = p
noted_before f h js n (Fine x) (Err (Rule a b)) p = absurd p
noted_before f h js n (Noted m x) (Err (Rule a b)) p = absurd p

-- the second step, where the first has an answer
pub gone_on : {A B C D : Type 0} (f g h : Notes) (is : A → B → Type 0) (js : C → D → Type 0) (c : Checked A) (k : A → Checked C) (y : B) (r : Result D TypeError) →
    Found f g is c (Ok y) → ((x : A) → is x y → Found g h js (k x) r) → Found f h js (c >>= k) r
gone_on f g h is js (Fine x) k y r p q = subst (λ b. Found b h js (k x) r) p.1 (q x p.0)
gone_on f g h is js (Noted n x) k y r p q = noted_before f h js n (k x) r (subst (λ b. Found b h js (k x) r) p.1 (q x p.0))
gone_on f g h is js (Broken from rule) k y r p q = absurd p

-- ---- the same of steps that give nothing

pub stopped_before : {A B C D : Type 0} (f g h : Notes) (is : A → B → Type 0) (js : C → D → Type 0) (c : Checked A) (d : Checked C) (e : TypeError) → Found f g is c (Err e) → Found f h js (c >> d) (Err e)
stopped_before f g h is js c d Memory p = tt
stopped_before f g h is js (Fine x) d (Rule a b) p = absurd p
stopped_before f g h is js (Noted n x) d (Rule a b) p = absurd p
stopped_before f g h is js (Broken from rule) d (Rule a b) p = p

pub gone_on_after : {A B C D : Type 0} (f g h : Notes) (is : A → B → Type 0) (js : C → D → Type 0) (c : Checked A) (d : Checked C) (y : B) (r : Result D TypeError) →
    Found f g is c (Ok y) → Found g h js d r → Found f h js (c >> d) r
gone_on_after f g h is js (Fine x) d y r p q = subst (λ b. Found b h js d r) p.1 q
gone_on_after f g h is js (Noted n x) d y r p q = noted_before f h js n d r (subst (λ b. Found b h js d r) p.1 q)
gone_on_after f g h is js (Broken from rule) d y r p q = absurd p

-- ---- tests

pub kept : {C D : Type 0} (f h : Notes) (js : C → D → Type 0) (from rule : ℕ) (b : Bool) (d : Checked C) (r : Result D TypeError) → b ≡ true → Found f h js d r → Found f h js (keep from rule b >> d) r
kept f h js from rule b d r e p = passed f h js _ d r (ap (λ t. keep from rule t >> d) e) p

pub not_kept : {C D : Type 0} (f h : Notes) (js : C → D → Type 0) (from rule : ℕ) (b : Bool) (d : Checked C) → b ≡ false → Found f h js (keep from rule b >> d) (Err (Rule from rule))
not_kept f h js from rule b d e = passed f h js _ (Broken from rule) (Err (Rule from rule)) (ap (λ t. keep from rule t >> d) e) (refl, refl)

pub is_small : {C D : Type 0} (f h : Notes) (js : C → D → Type 0) (b : Bool) (d : Checked C) (r : Result D TypeError) → b ≡ true → Found f h js d r → Found f h js (small b >> d) r
is_small f h js b d r e p = passed f h js _ d r (ap (λ t. small t >> d) e) p

-- the note of an object that is too large
abbrev too_large : Notes
too_large = record { large = true; unevaluated = [] }

pub is_large : {C D : Type 0} (f h : Notes) (js : C → D → Type 0) (b : Bool) (d : Checked C) (r : Result D TypeError) → b ≡ false → Found (record f { large = true }) h js d r → Found f h js (small b >> d) r
is_large f h js b d r e p = passed f h js _ (noting too_large d) r (ap (λ t. small t >> d) e) (noted_before f h js too_large d r (subst (λ z. Found z h js d r) (sym (with_large f)) p))

-- something is noted as it should be
pub after_note : {C D : Type 0} (f g h : Notes) (js : C → D → Type 0) (b : Bool) (d : Checked C) (r : Result D TypeError) → g ≡ size_noted b f → Found g h js d r → Found f h js (small b >> d) r
after_note f g h js true d r e p = subst (λ z. Found z h js d r) e p
after_note f g h js false d r e p = is_large f h js false d r refl (subst (λ z. Found z h js d r) e p)

-- a node is noted that isn't evaluated
pub after_unevaluated : {C D : Type 0} (f g h : Notes) (js : C → D → Type 0) (x : Typed) (d : Checked C) (r : Result D TypeError) → g ≡ together f (record { large = false; unevaluated = x ∷ [] }) → Found g h js d r → Found f h js (unevaluated x >> d) r
after_unevaluated f g h js x d r e p = noted_before f h js (record { large = false; unevaluated = x ∷ [] }) d r (subst (λ z. Found z h js d r) e p)

-- ---- laws of sequences

pub in_turn : {A B C : Type 0} (c : Checked A) (k : A → Checked B) (l : B → Checked C) → ((c >>= k) >>= l) ≡ (c >>= (λ x. k x >>= l))
in_turn (Fine x) k l = refl
in_turn (Noted n x) k l = noting_then n (k x) l
in_turn (Broken from rule) k l = refl

pub in_turn_after : {A B C : Type 0} (c : Checked A) (d : Checked B) (l : B → Checked C) → ((c >> d) >>= l) ≡ (c >> (d >>= l))
in_turn_after (Fine x) d l = refl
in_turn_after (Noted n x) d l = noting_then n d l
in_turn_after (Broken from rule) d l = refl

pub same_steps : {A B : Type 0} (c : Checked A) (k l : A → Checked B) → ((x : A) → k x ≡ l x) → (c >>= k) ≡ (c >>= l)
same_steps (Fine x) k l e = e x
same_steps (Noted n x) k l e = ap (noting n) (e x)
same_steps (Broken from rule) k l e = refl
