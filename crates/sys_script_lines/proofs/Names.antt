-- Functions by their names, as they are kept.
use Rattle.std.proofs.Common.{◌≡◌, ℕ, Bool, true, false, cond, List, [], ◌∷◌, ◌++◌, Option, Some, None, refl, sym, ap, ◌∙◌, subst}
use Rattle.std.specs.List.{All}
use Rattle.std.specs.Option.{option_or, is_some}
use Rattle.std.specs.Str.{bytes_eq}
use Rattle.std.proofs.lemmas.List.Elements.{All-nil, All-cons, All-head, All-tail}
use Rattle.std.proofs.lemmas.Slice.Eq.{bytes_eq-Decides}
use Rattle.sys_script_lines.specs.declared.externals.External.{External}
use Rattle.sys_script_lines.specs.Externals.{Name, external_named, kept_at, only_named, texts}
use Rattle.sys_script_lines.specs.Parts.{IsPart}

-- the function of a name is what is kept under it
pub named_kept : (name : List ℕ) (es : List (Name × External)) → external_named name (texts es) ≡ kept_at name es
named_kept name [] = refl
named_kept name (e ∷ es) = ap (λ r. cond (bytes_eq name e.0.items) (Some e.1) r) (named_kept name es)

or_cond : {A : Type 0} (b : Bool) (v : A) (r s : Option A) → cond b (Some v) (option_or r s) ≡ option_or (cond b (Some v) r) s
or_cond true v r s = refl
or_cond false v r s = refl

pub named_pushed : (name own : List ℕ) (es : List (List ℕ × External)) (e : External) → external_named name (es ++ (own, e) ∷ []) ≡ option_or (external_named name es) (only_named name own e)
named_pushed name own [] e = refl
named_pushed name own (f ∷ es) e = ap (λ r. cond (bytes_eq name f.0) (Some f.1) r) (named_pushed name own es e) ∙ or_cond (bytes_eq name f.0) f.1 (external_named name es) (only_named name own e)

pub texts_pushed : (es : List (Name × External)) (k : Name) (v : External) → texts (es ++ (k, v) ∷ []) ≡ texts es ++ (k.items, v) ∷ []
texts_pushed [] k v = refl
texts_pushed (e ∷ es) k v = ap (λ r. (e.0.items, e.1) ∷ r) (texts_pushed es k v)

there_by : {A : Type 0} (o : Option A) (b : Bool) (v : A) → (b ≡ true → is_some o ≡ true) → o ≡ option_or o (cond b (Some v) None)
there_by (Some x) b v h = refl
there_by None true v h = let e = h refl in cc
there_by None false v h = refl

-- a name that is there already
pub named_there : (name own : List ℕ) (es : List (List ℕ × External)) (e : External) → is_some (external_named own es) ≡ true → external_named name es ≡ option_or (external_named name es) (only_named name own e)
named_there name own es e there =
    there_by (external_named name es) (bytes_eq name own) e (λ same. ap (λ n. is_some (external_named n es)) ((bytes_eq-Decides name own).0 same) ∙ there)

pub not_there : {A : Type 0} (o : Option A) → false ≡ is_some o → o ≡ None
not_there None h = refl
not_there (Some x) h = absurd cc

-- the name of an entry has no blank
abbrev HasNoBlank : List ℕ × External → Type 0
HasNoBlank e = IsPart 32 e.0

-- a name that is found has no blank, where none has
pub named_part : (name : List ℕ) (es : List (List ℕ × External)) (x : External) → All HasNoBlank es → external_named name es ≡ Some x → IsPart 32 name
named_part name [] x h is = absurd cc
named_part name (e ∷ es) x h is = by (bytes_eq name e.0) refl is (named_part name es x (All-tail HasNoBlank e es h))
  where
    by : (b : Bool) → bytes_eq name e.0 ≡ b → cond b (Some e.1) (external_named name es) ≡ Some x → (external_named name es ≡ Some x → IsPart 32 name) → IsPart 32 name
    by true same is later = subst (λ n. IsPart 32 n) (sym ((bytes_eq-Decides name e.0).0 same)) (All-head HasNoBlank e es h)
    by false other is later = later is

-- one name more without a blank
pub none_pushed : (own : List ℕ) (es : List (List ℕ × External)) (e : External) → All HasNoBlank es → IsPart 32 own → All HasNoBlank (es ++ (own, e) ∷ [])
none_pushed own [] e h part = All-cons HasNoBlank (own, e) [] part (All-nil HasNoBlank)
none_pushed own (f ∷ es) e h part = All-cons HasNoBlank f (es ++ (own, e) ∷ []) (All-head HasNoBlank f es h) (none_pushed own es e (All-tail HasNoBlank f es h) part)
