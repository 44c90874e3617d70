-- How steps go on one from another.
use Rattle.std.proofs.Common.{◌≡◌, ℕ, ◌<◌, Bool, length, true, false, Result, Ok, Err, refl, sym, ap, ◌∙◌, subst}
use Rattle.c_types_rules.specs.Checked.{Checked, Fine, Noted, Broken, keep, ◌>>=◌, ◌>>◌, Notes}
use Rattle.c_types_operators.specs.declared.error.TypeError.{TypeError}
use Rattle.c_types_operators.specs.declared.error.TypeError.TheVariants.{Rule, Memory}
use Rattle.c_types_nodes.specs.Tables.{Table}
use Rattle.c_types_environment.specs.States.{State, notes_of}
use Rattle.c_types_model.specs.Types.{CType}
use Rattle.c_types_table.specs.declared.ids.TypeId.{TypeId}
use Rattle.c_types_expressions.specs.Found.{Found, IsType, Stays}
use Rattle.c_types_expressions.proofs.Kept.{same_table, then_kept}
use Rattle.c_types_expressions.proofs.Sequences.{gone_on, gone_on_after, stopped_in, stopped_before}
use Rattle.c_types.specs.declared.declarations.Declarations.{Declarations}
use Rattle.c_types.specs.States.{GoesOn, IsSound, Steps}
use Rattle.c_types.proofs.Followed.{going_on}

-- what is found, where something is
pub found_one : {A B : Type 0} (f g : Notes) (is : A → B → Type 0) (c : Checked A) (y : B) → Found f g is c (Ok y) → (x : A) × is x y
found_one f g is (Fine x) y h = (x, h.0)
found_one f g is (Noted n x) y h = (x, h.0)
found_one f g is (Broken from rule) y h = absurd h

-- a rule that is broken is broken whatever would be found
pub error_seen : {A B C : Type 0} (f g h : Notes) (is : A → B → Type 0) (js : A → C → Type 0) (c : Checked A) (e : TypeError) → Found f g is c (Err e) → Found f h js c (Err e)
error_seen f g h is js c Memory q = tt
error_seen f g h is js (Fine x) (Rule a b) q = absurd q
error_seen f g h is js (Noted n x) (Rule a b) q = absurd q
error_seen f g h is js (Broken from rule) (Rule a b) q = q

pub found_failed : {A B : Type 0} (f g : Notes) (is : A → B → Type 0) (c : Checked A) (r : Result B TypeError) (e : TypeError) → r ≡ Err e → Found f g is c (Err e) → Found f g is c r
found_failed f g is c r e same h = subst (λ x. Found f g is c x) (sym same) h

-- the type that is found is in the table
pub type_there : (f g : Notes) (t : Table) (c : Checked CType) (id : TypeId) → Found f g (IsType t) c (Ok id) → id.0 < length t.types
type_there f g t c id h = (found_one f g (IsType t) c id h).1.inside

pub stands_still : (d : Declarations) → IsSound d → GoesOn d d
stands_still d h = record { tags = refl; numbers = same_table d.env.table; sound = h }

pub goes_through : (a b c : Declarations) → GoesOn a b → GoesOn b c → GoesOn a c
goes_through a b c p q = record { tags = q.tags ∙ p.tags; numbers = then_kept a.env.table b.env.table c.env.table p.numbers q.numbers; sound = q.sound }

pub goes_to : (d : Declarations) (s : State) → Stays d.env s → IsSound (going_on d s) → GoesOn d (going_on d s)
goes_to d s k h = record { tags = ap (λ e. e.tags) k.env; numbers = k.numbers; sound = h }

module _ {A B : Type 0} where
  -- the same of what is the same
  pub steps_as : (old new : Declarations) (is : A → B → Type 0) (c d : Checked A) (r : Result B TypeError) → c ≡ d → Steps old new is d r → Steps old new is c r
  steps_as old new is c d r e h = subst (λ x. Steps old new is x r) (sym e) h

  -- what is there may be looked at in another way
  pub steps_seen : (old new : Declarations) (is js : A → B → Type 0) (c : Checked A) (y : B) → ((x : A) → is x y → js x y) → Steps old new is c (Ok y) → Steps old new js c (Ok y)
  steps_seen old new is js (Fine x) y m h = record { agrees = (m x h.agrees.0, h.agrees.1); kept = h.kept }
  steps_seen old new is js (Noted n x) y m h = record { agrees = (m x h.agrees.0, h.agrees.1); kept = h.kept }
  steps_seen old new is js (Broken from rule) y m h = absurd h.agrees

  pub stopped : (old new : Declarations) (is : A → B → Type 0) (c : Checked A) (e : TypeError) → Found (notes_of old.env) (notes_of new.env) is c (Err e) → Steps old new is c (Err e)
  stopped old new is c e h = record { agrees = h; kept = tt }

  pub failed_so : (old new : Declarations) (is : A → B → Type 0) (c : Checked A) (r : Result B TypeError) (e : TypeError) → r ≡ Err e → Steps old new is c (Err e) → Steps old new is c r
  failed_so old new is c r e same h = subst (λ x. Steps old new is c x) (sym same) h

  pub no_memory : (old new : Declarations) (is : A → B → Type 0) (c : Checked A) → Steps old new is c (Err Memory)
  no_memory old new is c = record { agrees = tt; kept = tt }

  pub breaks : (old new : Declarations) (is : A → B → Type 0) (c : Checked A) (from rule : ℕ) → c ≡ Broken from rule → Steps old new is c (Err (Rule from rule))
  breaks old new is c from rule e = steps_as old new is c (Broken from rule) (Err (Rule from rule)) e (record { agrees = (refl, refl); kept = tt })

  pub there : (old new : Declarations) (is : A → B → Type 0) (x : A) (y : B) → (notes_of new.env) ≡ (notes_of old.env) → is x y → GoesOn old new → Steps old new is (Fine x) (Ok y)
  there old new is x y e h k = record { agrees = (h, e); kept = k }

-- the second step, where the first has an answer
pub then_steps : {A B C D : Type 0} (a b c : Declarations) (is : A → B → Type 0) (js : C → D → Type 0) (x : Checked A) (k : A → Checked C) (y : B) (r : Result D TypeError) →
    Steps a b is x (Ok y) → ((z : A) → is z y → Steps b c js (k z) r) → Steps a c js (x >>= k) r
then_steps a b c is js x k y (Ok w) p q =
    let one = found_one (notes_of a.env) (notes_of b.env) is x y p.agrees in
    record {
      agrees = gone_on (notes_of a.env) (notes_of b.env) (notes_of c.env) is js x k y (Ok w) p.agrees (λ z i. (q z i).agrees);
      kept = goes_through a b c p.kept (q one.0 one.1).kept;
    }
then_steps a b c is js x k y (Err e) p q =
    record { agrees = gone_on (notes_of a.env) (notes_of b.env) (notes_of c.env) is js x k y (Err e) p.agrees (λ z i. (q z i).agrees); kept = tt }

pub then_stops : {A B C D : Type 0} (a b c : Declarations) (is : A → B → Type 0) (js : C → D → Type 0) (x : Checked A) (k : A → Checked C) (e : TypeError) → Found (notes_of a.env) (notes_of b.env) is x (Err e) → Steps a c js (x >>= k) (Err e)
then_stops a b c is js x k e p = record { agrees = stopped_in (notes_of a.env) (notes_of b.env) (notes_of c.env) is js x k e p; kept = tt }

-- the same of a step in the environment
pub then_steps_on : {A B C D : Type 0} (d : Declarations) (s : State) (new : Declarations) (is : A → B → Type 0) (js : C → D → Type 0) (x : Checked A) (k : A → Checked C) (y : B) (r : Result D TypeError) →
    GoesOn d (going_on d s) → Found (notes_of d.env) (notes_of s) is x (Ok y) → ((z : A) → is z y → Steps (going_on d s) new js (k z) r) → Steps d new js (x >>= k) r
then_steps_on d s new is js x k y r g p q = then_steps d (going_on d s) new is js x k y r (record { agrees = p; kept = g }) q

-- ---- steps that give nothing

pub then_steps_after : {A B C D : Type 0} (a b c : Declarations) (is : A → B → Type 0) (js : C → D → Type 0) (x : Checked A) (z : Checked C) (y : B) (r : Result D TypeError) →
    Steps a b is x (Ok y) → Steps b c js z r → Steps a c js (x >> z) r
then_steps_after a b c is js x z y (Ok w) p q =
    record {
      agrees = gone_on_after (notes_of a.env) (notes_of b.env) (notes_of c.env) is js x z y (Ok w) p.agrees q.agrees;
      kept = goes_through a b c p.kept q.kept;
    }
then_steps_after a b c is js x z y (Err e) p q = record { agrees = gone_on_after (notes_of a.env) (notes_of b.env) (notes_of c.env) is js x z y (Err e) p.agrees q.agrees; kept = tt }

pub then_stops_before : {A B C D : Type 0} (a b c : Declarations) (is : A → B → Type 0) (js : C → D → Type 0) (x : Checked A) (z : Checked C) (e : TypeError) → Found (notes_of a.env) (notes_of b.env) is x (Err e) → Steps a c js (x >> z) (Err e)
then_stops_before a b c is js x z e p = record { agrees = stopped_before (notes_of a.env) (notes_of b.env) (notes_of c.env) is js x z e p; kept = tt }

-- ---- tests

pub is_kept : {C D : Type 0} (a b : Declarations) (js : C → D → Type 0) (from rule : ℕ) (t : Bool) (z : Checked C) (r : Result D TypeError) → t ≡ true → Steps a b js z r → Steps a b js (keep from rule t >> z) r
is_kept a b js from rule t z r e h = steps_as a b js (keep from rule t >> z) z r (ap (λ x. keep from rule x >> z) e) h

pub is_broken : {C D : Type 0} (a b : Declarations) (js : C → D → Type 0) (from rule : ℕ) (t : Bool) (z : Checked C) → t ≡ false → Steps a b js (keep from rule t >> z) (Err (Rule from rule))
is_broken a b js from rule t z e = breaks a b js (keep from rule t >> z) from rule (ap (λ x. keep from rule x >> z) e)
