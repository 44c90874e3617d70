-- What the annotations of a parameter say of it.
use Rattle.std.proofs.Common.{◌≡◌, ℕ, Bool, true, false, not, ◌||◌, if◌then◌else◌, Option, Some, None, Result, Ok, Err, refl, sym, ap, ◌∙◌, subst}
use Rattle.c_syntax.specs.declared.declaration.Item.{Item}
use Rattle.c_syntax.specs.Nodes.{Nodes}
use Rattle.c_syntax.specs.Syntax.{Item as Factors}
use Rattle.c_types_model.specs.Types.{CType}
use Rattle.c_types_rules.specs.Checked.{Checked, Fine, keep, ◌>>=◌, ◌>>◌}
use Rattle.c_types_rules.specs.Environment.{Environment}
use Rattle.annot_reader_rules.specs.Regions.{Marked, Signature, first_of, go_together, has_region, is_function_pointer, is_object_pointer, of_marked, target}
use Rattle.annot_reader_words.specs.declared.error.AnnotationError.{AnnotationError}
use Rattle.annot_reader_words.specs.Answers.{Tells}
use Rattle.annot_reader_words.proofs.Composing.{assoc, follows, stops}
use Rattle.annot_reader_words.specs.Items.{MaybeStands}
use Rattle.annot_reader_words.specs.Readings.{IsSame}
use Rattle.annot_reader_functions.specs.declared.signature.Signature.{Signature as Code}
use Rattle.annot_reader_functions.specs.declared.target.Target.{Target}
use Rattle.annot_reader_functions.specs.Rules.{Declared, Stays}
use Rattle.annot_reader_functions.specs.Sizing.{FitsMaybe, IsMaybeItem, IsTarget, may_stand, regions}
use Rattle.annot_reader_functions.specs.Sorts.{IsKnown}

-- ---- items that may be there

pub none_stands : (N : Nodes) (o : Option Factors) → MaybeStands N None o → o ≡ None
none_stands N None h = refl
none_stands N (Some x) h = absurd h

pub maybe_item : (N : Nodes) (v : Option Item) (o : Option Factors) → MaybeStands N v o → FitsMaybe o → IsMaybeItem N v
maybe_item N None o h f = tt
maybe_item N (Some v) None h f = absurd h
maybe_item N (Some v) (Some x) h f = (x, h, f)

pub first_fits : (a b : Option Factors) → FitsMaybe a → FitsMaybe b → FitsMaybe (first_of a b)
first_fits (Some x) b h k = h
first_fits None b h k = k

-- ---- what stays

pub stays_here : (a : Declared) → Stays a a
stays_here a = record { env = refl; types = λ id t n. n; nodes = record { has = λ k x h. h } }

pub stays_through : (a b c : Declared) → Stays a b → Stays b c → Stays a c
stays_through a b c h k = record {
  env = k.env ∙ h.env;
  types = λ id t n. k.types id t (h.types id t n);
  nodes = record { has = λ j x e. k.nodes.has j x (h.nodes.has j x e) };
}

pub known_stays : (g : Code) (e f : Environment) (s : Signature) → f ≡ e → IsKnown g e s → IsKnown g f s
known_stays g e f s h k = subst (λ x. IsKnown g x s) (sym h) k

pub target_stays : (g : Target) (e f : Environment) (t : CType) → f ≡ e → IsTarget g e t → IsTarget g f t
target_stays g e f t h k = subst (λ x. IsTarget g x t) (sym h) k

-- ---- steps, one after another

-- what is said where a word stands
pub unskipped : {A : Type 0} (b : Bool) (c : Checked (Option A)) (r : Result (Option A) AnnotationError) → b ≡ true → Tells IsSame c r → Tells IsSame (if not b then Fine None else c) r
unskipped true c r e h = h
unskipped false c r e h = absurd cc

module _ {A B : Type 0} (c : Checked A) (d : Checked B) where
  abbrev pub both : Checked (Option (A × B))
  both = c >>= λ x. d >>= λ y. Fine (Some (x, y))

  pub first_broken : (e : AnnotationError) → Tells {B = A} IsSame c (Err e) → Tells {B = Option (A × B)} IsSame both (Err e)
  first_broken e h = stops IsSame IsSame c (λ x. d >>= λ y. Fine (Some (x, y))) e h

  pub second_broken : (x : A) (e : AnnotationError) → Tells IsSame c (Ok x) → Tells {B = B} IsSame d (Err e) → Tells {B = Option (A × B)} IsSame both (Err e)
  second_broken x e h k = follows IsSame IsSame c (λ z. d >>= λ y. Fine (Some (z, y))) x (Err e) h (λ z g. stops IsSame IsSame d (λ y. Fine (Some (z, y))) e k)

  pub both_found : (x : A) (y : B) → Tells IsSame c (Ok x) → Tells IsSame d (Ok y) → Tells IsSame both (Ok (Some (x, y)))
  both_found x y h k =
      follows IsSame IsSame c (λ z. d >>= λ w. Fine (Some (z, w))) x (Ok (Some (x, y))) h (λ z g.
      follows IsSame IsSame d (λ w. Fine (Some (z, w))) y (Ok (Some (x, y))) k (λ w f. ap (λ u. Some (u, y)) g ∙ ap (λ u. Some (z, u)) f))

module _ {A B C D V : Type 0} (is : D → V → Type 0) (a : Checked A) (b : Checked B) (c : Checked C) (f : A → B → C → D) where
  abbrev pub three : Checked D
  three = a >>= λ x. b >>= λ y. c >>= λ z. Fine (f x y z)

  pub breaks_first : (e : AnnotationError) → Tells {B = A} IsSame a (Err e) → Tells is three (Err e)
  breaks_first e h = stops IsSame is a (λ x. b >>= λ y. c >>= λ z. Fine (f x y z)) e h

  pub breaks_second : (x : A) (e : AnnotationError) → Tells IsSame a (Ok x) → Tells {B = B} IsSame b (Err e) → Tells is three (Err e)
  breaks_second x e h k = follows IsSame is a (λ u. b >>= λ y. c >>= λ z. Fine (f u y z)) x (Err e) h (λ u g. stops IsSame is b (λ y. c >>= λ z. Fine (f u y z)) e k)

  pub breaks_third : (x : A) (y : B) (e : AnnotationError) → Tells IsSame a (Ok x) → Tells IsSame b (Ok y) → Tells {B = C} IsSame c (Err e) → Tells is three (Err e)
  breaks_third x y e h k l =
      follows IsSame is a (λ u. b >>= λ v. c >>= λ z. Fine (f u v z)) x (Err e) h (λ u g.
      follows IsSame is b (λ v. c >>= λ z. Fine (f u v z)) y (Err e) k (λ v j. stops IsSame is c (λ z. Fine (f u v z)) e l))

  pub all_found : (x : A) (y : B) (z : C) (w : V) → Tells IsSame a (Ok x) → Tells IsSame b (Ok y) → Tells IsSame c (Ok z) → is (f x y z) w → Tells is three (Ok w)
  all_found x y z w h k l m =
      follows IsSame is a (λ u. b >>= λ v. c >>= λ t. Fine (f u v t)) x (Ok w) h (λ u g.
      follows IsSame is b (λ v. c >>= λ t. Fine (f u v t)) y (Ok w) k (λ v j.
      follows IsSame is c (λ t. Fine (f u v t)) z (Ok w) l (λ t i.
      let P : D → Type 0 = λ q. is q w in
      subst P (ap (λ q. f q y z) g ∙ (ap (λ q. f u q z) j ∙ ap (λ q. f u v q) i)) m)))

-- ---- in two steps

pub of_is : (s : Signature) (from : ℕ) (t : CType) (m : Marked) → of_marked s from t m ≡ (may_stand from t m >> regions s from (target t) m)
of_is s from t m =
    let a = keep from 3 (not (has_region m) || is_object_pointer t) in
    let b = keep from 3 (not m.callback || is_function_pointer t) in
    let c = keep from 5 (go_together m) in
    let r = regions s from (target t) m in
    sym (assoc a (b >> c) r ∙ ap (λ x. a >> x) (assoc b c r))
