-- Functions that are listed one by one.
use Rattle.std.proofs.Common.{◌≡◌, ℕ, suc, ◌+◌, ◌<◌, Bool, true, false, cond, List, [], ◌∷◌, length, get_or, drop, Option, Some, None, refl, sym, ap, ◌∙◌, arith}
use Rattle.std.specs.Option.{option_or, is_some}
use Rattle.std.specs.Str.{bytes_eq}
use Rattle.c_types_table.specs.declared.ty.Ty.{Ty}
use Rattle.c_types_program.specs.declared.function.Function.{Function}
use Rattle.annot_reader.specs.Interface.{Interface}
use Rattle.sys_script_lines.specs.declared.externals.External.{External}
use Rattle.sys_script_lines.specs.Externals.{external_named, only_named}
use Rattle.sys_script.specs.Externals.{external_in, external_of, externals_from, externals_in}
use Rattle.sys_script.specs.Listing.{IsListed, named_or_left}
use Rattle.std.proofs.lemmas.List.{drop_more, drop_all}

or_first : {A : Type 0} (o r : Option A) (t : Bool) (e : A) → option_or (option_or o (cond t (Some e) None)) r ≡ option_or o (cond t (Some e) r)
or_first (Some x) r t e = refl
or_first None r true e = refl
or_first None r false e = refl

or_none : {A : Type 0} (o : Option A) → option_or o None ≡ o
or_none (Some x) = refl
or_none None = refl

pub left_none : (types : List Ty) (i : Interface) (number : ℕ) (left : List Function) (es : List (List ℕ × External)) (name : List ℕ) → length left ≡ 0 → external_named name es ≡ named_or_left types i number left es name
left_none types i number [] es name e = sym (or_none (external_named name es))
left_none types i number (f ∷ fs) es name e = absurd (omega arith)

pub with_body : (types : List Ty) (i : Interface) (number : ℕ) (f : Function) (fs : List Function) (es : List (List ℕ × External)) (name : List ℕ) → is_some f.body ≡ true
    → named_or_left types i (number + 1) fs es name ≡ named_or_left types i number (f ∷ fs) es name
with_body types i number f fs es name is =
    sym (ap (λ t. option_or (external_named name es) (external_named name (cond t (externals_from types i (number + 1) fs) ((f.name, external_of types i number f) ∷ externals_from types i (number + 1) fs)))) is)

pub without_body : (types : List Ty) (i : Interface) (number : ℕ) (f : Function) (fs : List Function) (es new : List (List ℕ × External)) (name : List ℕ) → is_some f.body ≡ false
    → external_named name new ≡ option_or (external_named name es) (only_named name f.name (external_of types i number f)) → named_or_left types i (number + 1) fs new name ≡ named_or_left types i number (f ∷ fs) es name
without_body types i number f fs es new name is added =
    let rest = external_named name (externals_from types i (number + 1) fs) in
    ap (λ o. option_or o rest) added
    ∙ (or_first (external_named name es) rest (bytes_eq name f.name) (external_of types i number f)
    ∙ sym (ap (λ t. option_or (external_named name es) (external_named name (cond t (externals_from types i (number + 1) fs) ((f.name, external_of types i number f) ∷ externals_from types i (number + 1) fs)))) is))

-- one function more of a list
pub step : (types : List Ty) (i : Interface) (number n : ℕ) (f : Function) (fs : List Function) (old new : List (List ℕ × External)) → n < length fs → f ≡ get_or fs n f → IsListed types i (number + n) f old new → (name : List ℕ)
    → named_or_left types i (number + (n + 1)) (drop (n + 1) fs) new name ≡ named_or_left types i (number + n) (drop n fs) old name
step types i number n f fs old new lt is listed name =
    let all : drop n fs ≡ f ∷ drop (n + 1) fs = drop_more fs n f lt ∙ ap (λ g. g ∷ drop (n + 1) fs) (sym is) in
    let place : number + (n + 1) ≡ number + n + 1 = omega arith in
    ap (λ k. named_or_left types i k (drop (n + 1) fs) new name) place
    ∙ (listed (drop (n + 1) fs) name ∙ ap (λ gs. named_or_left types i (number + n) gs old name) (sym all))
