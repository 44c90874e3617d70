-- Factors and items of sizes, by what stands in a tree.
use Rattle.std.proofs.Common.{◌≡◌, ℕ, Bool, List, Some, None, Result, Ok, Err, refl, sym, ap, ◌∙◌, subst}
use Rattle.c_syntax.specs.declared.id.DeclId.{DeclId}
use Rattle.c_syntax.specs.declared.declaration.Atom.{Atom}
use Rattle.c_syntax.specs.declared.declaration.Atom.TheVariants as atoms
use Rattle.c_syntax.specs.declared.declaration.Item.{Item}
use Rattle.c_syntax.specs.Nodes.{Nodes}
use Rattle.c_syntax.specs.Syntax.{Atom as Factor, Decl, Item as Factors, NameAtom, NumberAtom, ReturnAtom, SizeofAtom, OneFactor, TwoFactors}
use Rattle.c_syntax.specs.Stands.{StandsAtom, StandsDecl, StandsItem}
use Rattle.c_syntax_laws.specs.Numbers.{FitsAtom}
use Rattle.c_types_rules.specs.Checked.{Checked, Fine, ◌>>=◌}
use Rattle.annot_reader_rules.specs.Regions.{Signature, size, term}
use Rattle.stub_core.specs.declared.terms.Size.{Size}
use Rattle.stub_core.specs.declared.terms.Term.{Term}
use Rattle.annot_reader_words.specs.declared.error.AnnotationError.{AnnotationError}
use Rattle.annot_reader_words.specs.Answers.{Tells}
use Rattle.annot_reader_words.proofs.Composing.{follows, stops}
use Rattle.annot_reader_words.specs.Readings.{IsSame}
use Rattle.annot_reader_functions.specs.Rules.{IsTypeName}
use Rattle.annot_reader_functions.specs.Sizing.{IsFactor, IsItem}

-- ---- what a factor is

pub name_factor : (N : Nodes) (v : Atom) (n : List ℕ) (a : Factor) → v ≡ atoms.Name n → StandsAtom N v a → a ≡ NameAtom n
name_factor N v n (NameAtom m) e h = ap NameAtom cc
name_factor N v n (NumberAtom m) e h = absurd cc
name_factor N v n ReturnAtom e h = absurd cc
name_factor N v n (SizeofAtom d) e (i, h, s) = absurd cc

pub sizeof_factor : (N : Nodes) (v : Atom) (i : DeclId) (a : Factor) → v ≡ atoms.Sizeof i → StandsAtom N v a → (d : Decl) × (a ≡ SizeofAtom d) × StandsDecl N i d
sizeof_factor N v i (NameAtom m) e h = absurd cc
sizeof_factor N v i (NumberAtom m) e h = absurd cc
sizeof_factor N v i ReturnAtom e h = absurd cc
sizeof_factor N v i (SizeofAtom d) e (j, h, s) = let same : j ≡ i = cc in (d, refl, subst (λ k. StandsDecl N k d) same s)

-- a type name that is a factor
pub sizeof_named : (N : Nodes) (v : Atom) (i : DeclId) → v ≡ atoms.Sizeof i → IsFactor N v → IsTypeName N i
sizeof_named N v i e (a, s, f) =
    let d = sizeof_factor N v i a e s in
    (d.0, d.2, subst FitsAtom d.1 f)

-- ---- what an item is

pub one_factor : (N : Nodes) (v : Item) (x : Factors) → v.b ≡ None → StandsItem N v x → (a : Factor) × (x ≡ OneFactor v.from a) × StandsAtom N v.a a
one_factor N v (OneFactor f a) e (g, s, h) = (a, ap (λ n. OneFactor n a) (sym g), s)
one_factor N v (TwoFactors f a b) e (w, g, s, h, t) = absurd cc

pub two_factors : (N : Nodes) (v : Item) (w : Atom) (x : Factors) → v.b ≡ Some w → StandsItem N v x → (a : Factor) × (b : Factor) × (x ≡ TwoFactors v.from a b) × StandsAtom N v.a a × StandsAtom N w b
two_factors N v w (OneFactor f a) e (g, s, h) = absurd cc
two_factors N v w (TwoFactors f a b) e (u, g, s, h, t) = let same : u ≡ w = cc in (a, b, ap (λ n. TwoFactors n a b) (sym g), s, subst (λ z. StandsAtom N z b) same t)

pub first_is_factor : (N : Nodes) (v : Item) → IsItem N v → IsFactor N v.a
first_is_factor N v (OneFactor f a, (g, s, h), k) = (a, s, k)
first_is_factor N v (TwoFactors f a b, (w, g, s, h, t), k) = (a, s, k.0)

pub second_is_factor : (N : Nodes) (v : Item) (w : Atom) → v.b ≡ Some w → IsItem N v → IsFactor N w
second_is_factor N v w e (OneFactor f a, (g, s, h), k) = absurd cc
second_is_factor N v w e (TwoFactors f a b, (u, g, s, h, t), k) = let same : u ≡ w = cc in (b, subst (λ z. StandsAtom N z b) same t, k.1)

-- ---- sizes

module _ (s : Signature) (known : Bool) (from : ℕ) where
  pub one_size : (a : Factor) (x : Term) → Tells IsSame (term s from known a) (Ok x) → Tells IsSame (size s known (OneFactor from a)) (Ok (record { a = x; b = None }))
  one_size a x h = follows IsSame IsSame (term s from known a) (λ y. Fine (record { a = y; b = None })) x (Ok (record { a = x; b = None })) h (λ y e. ap (λ z. let r : Size = record { a = z; b = None } in r) e)

  pub one_broken : (a : Factor) (e : AnnotationError) → Tells {B = Term} IsSame (term s from known a) (Err e) → Tells {B = Size} IsSame (size s known (OneFactor from a)) (Err e)
  one_broken a e h = stops IsSame IsSame (term s from known a) (λ y. Fine (record { a = y; b = None })) e h

  abbrev with_second : Factor → Term → Checked Size
  with_second b x = term s from known b >>= λ y. Fine (record { a = x; b = Some y })

  pub first_broken : (a b : Factor) (e : AnnotationError) → Tells {B = Term} IsSame (term s from known a) (Err e) → Tells {B = Size} IsSame (size s known (TwoFactors from a b)) (Err e)
  first_broken a b e h = stops IsSame IsSame (term s from known a) (with_second b) e h

  pub second_broken : (a b : Factor) (x : Term) (e : AnnotationError) → Tells IsSame (term s from known a) (Ok x) → Tells {B = Term} IsSame (term s from known b) (Err e) → Tells {B = Size} IsSame (size s known (TwoFactors from a b)) (Err e)
  second_broken a b x e h k = follows IsSame IsSame (term s from known a) (with_second b) x (Err e) h (λ y g. stops IsSame IsSame (term s from known b) (λ z. Fine (record { a = y; b = Some z })) e k)

  pub two_sizes : (a b : Factor) (x y : Term) → Tells IsSame (term s from known a) (Ok x) → Tells IsSame (term s from known b) (Ok y) → Tells IsSame (size s known (TwoFactors from a b)) (Ok (record { a = x; b = Some y }))
  two_sizes a b x y h k =
      follows IsSame IsSame (term s from known a) (with_second b) x (Ok (record { a = x; b = Some y })) h (λ z g.
      follows IsSame IsSame (term s from known b) (λ w. Fine (record { a = z; b = Some w })) y (Ok (record { a = x; b = Some y })) k (λ w f.
      ap (λ u. let r : Size = record { a = u; b = Some y } in r) g ∙ ap (λ u. let r : Size = record { a = z; b = Some u } in r) f))

-- the same of what stands in a tree
module _ (s : Signature) (known : Bool) (N : Nodes) (v : Item) where
  abbrev pub Tell : Atom → Result Term AnnotationError → Type 0
  Tell w r = (a : Factor) → StandsAtom N w a → Tells IsSame (term s v.from known a) r

  pub broken_factor : (x : Factors) (e : AnnotationError) → StandsItem N v x → Tell v.a (Err e) → Tells {B = Size} IsSame (size s known x) (Err e)
  broken_factor (OneFactor f a) e (g, h, _) k =
      let P : ℕ → Type 0 = λ n. Tells {B = Size} IsSame (size s known (OneFactor n a)) (Err e) in
      subst P g (one_broken s known v.from a e (k a h))
  broken_factor (TwoFactors f a b) e (w, g, h, _, _) k =
      let P : ℕ → Type 0 = λ n. Tells {B = Size} IsSame (size s known (TwoFactors n a b)) (Err e) in
      subst P g (first_broken s known v.from a b e (k a h))

  pub only_factor : (x : Factors) (t : Term) → v.b ≡ None → StandsItem N v x → Tell v.a (Ok t) → Tells IsSame (size s known x) (Ok (record { a = t; b = None }))
  only_factor x t i h k =
      let o = one_factor N v x i h in
      let P : Factors → Type 0 = λ y. Tells IsSame (size s known y) (Ok (record { a = t; b = None })) in
      subst P (sym o.1) (one_size s known v.from o.0 t (k o.0 o.2))

  pub broken_other : (x : Factors) (w : Atom) (t : Term) (e : AnnotationError) → v.b ≡ Some w → StandsItem N v x → Tell v.a (Ok t) → Tell w (Err e) → Tells {B = Size} IsSame (size s known x) (Err e)
  broken_other x w t e i h k l =
      let o = two_factors N v w x i h in
      let P : Factors → Type 0 = λ y. Tells {B = Size} IsSame (size s known y) (Err e) in
      subst P (sym o.2) (second_broken s known v.from o.0 o.1 t e (k o.0 o.3) (l o.1 o.4))

  pub both_factors : (x : Factors) (w : Atom) (t u : Term) → v.b ≡ Some w → StandsItem N v x → Tell v.a (Ok t) → Tell w (Ok u) → Tells IsSame (size s known x) (Ok (record { a = t; b = Some u }))
  both_factors x w t u i h k l =
      let o = two_factors N v w x i h in
      let P : Factors → Type 0 = λ y. Tells IsSame (size s known y) (Ok (record { a = t; b = Some u })) in
      subst P (sym o.2) (two_sizes s known v.from o.0 o.1 t u (k o.0 o.3) (l o.1 o.4))
