-- Values that are put one after another.
use Rattle.std.proofs.Common.{◌≡◌, ℕ, zero, suc, ◌+◌, ◌-◌, ◌<◌, ◌^◌, min, List, [], ◌∷◌, ◌++◌, length, drop, get_or, add-one, Option, Some, None, refl, sym, ap, ◌∙◌, subst, arith, length-append, append_assoc}
use Rattle.std.specs.Prelude.{replicate, slice_get}
use Rattle.c_types_model.specs.Types.{CType, Void, Integer, PointerTo, ArrayOf, StructOf, UndefinedStruct, FunctionOf}
use Rattle.c_types_rules.specs.Initials.{Initials, Listed, NoInitials, MoreInitials}
use Rattle.c_types_program.specs.declared.global.Initial.{Initial}
use Rattle.c_types_program.specs.Declarations.{initial_in, initials_in}
use Rattle.c_semantics.specs.Context.{Source, member_offset, size_of}
use Rattle.stub_operations.specs.Growing.{IsAdded}
use Rattle.stub_operations.proofs.Growing.{nothing, two}
use Rattle.isolation_check_rules.specs.Images.{elements, image, members, padded}
use Rattle.isolation_check_images.specs.Listed.{listed}
use Rattle.isolation_check_images.proofs.Bytes.{same}
use Rattle.isolation_check_images.proofs.Weights.{one_more}

-- ---- elements

pub elements_step : (s : Source) (xs : List Initial) (i : ℕ) (x : Initial) (t : CType) → i < length xs → x ≡ get_or xs i x → {o p q : Option (List ℕ)} →
    IsAdded o (image s (initial_in x) t) p → IsAdded p (elements s (initials_in (drop (i + 1) xs)) t) q → IsAdded o (elements s (initials_in (drop i xs)) t) q
elements_step s xs i x t lt is f g = same (sym (ap (λ (ys : List Initial). elements s (initials_in ys) t) (one_more xs i x lt is))) (two f g)

-- ---- members

drop_there : {A : Type 0} (ts : List A) (i : ℕ) (t : A) → slice_get ts i ≡ Some t → drop i ts ≡ t ∷ drop (suc i) ts
drop_there [] i t e = absurd cc
drop_there (u ∷ ts) zero t e = let is : u ≡ t = cc in ap (λ y. y ∷ ts) is
drop_there (u ∷ ts) (suc i) t e = drop_there ts i t e

drop_none : {A : Type 0} (ts : List A) (i : ℕ) → slice_get ts i ≡ None → drop i ts ≡ []
drop_none [] zero e = refl
drop_none [] (suc i) e = refl
drop_none (u ∷ ts) zero e = absurd cc
drop_none (u ∷ ts) (suc i) e = drop_none ts i e

pub members_step : (s : Source) (xs : List Initial) (i : ℕ) (x : Initial) (number : ℕ) (ts : List CType) (t : CType) (offset after all : ℕ) → i < length xs → x ≡ get_or xs i x →
    slice_get ts i ≡ Some t → offset ≡ member_offset s (StructOf number) i → offset < 2 ^ 64 → after ≡ min all (2 ^ 64 - 1) → {o p q : Option (List ℕ)} →
    IsAdded o (replicate (offset - after) 0 ++ image s (initial_in x) t) p →
    IsAdded p (members s (initials_in (drop (i + 1) xs)) number (drop (i + 1) ts) (i + 1) (offset + size_of s t)) q →
    IsAdded o (members s (initials_in (drop i xs)) number (drop i ts) i all) q
members_step s xs i x number ts t offset after all lt is there at small so {o} {p} {q} f g =
    let gap : offset - after ≡ member_offset s (StructOf number) i - all = omega arith in
    let first : IsAdded o (replicate (member_offset s (StructOf number) i - all) 0 ++ image s (initial_in x) t) p =
    same (ap (λ (n : ℕ). replicate n 0 ++ image s (initial_in x) t) gap) f in
    let later : IsAdded p (members s (initials_in (drop (i + 1) xs)) number (drop (i + 1) ts) (i + 1) (member_offset s (StructOf number) i + size_of s t)) q =
    subst (λ (n : ℕ). IsAdded p (members s (initials_in (drop (i + 1) xs)) number (drop (i + 1) ts) (i + 1) (n + size_of s t)) q) at g in
    let types : drop i ts ≡ t ∷ drop (i + 1) ts = drop_there ts i t there ∙ ap (λ (n : ℕ). t ∷ drop n ts) (sym (add-one i)) in
    same (append_assoc (replicate (member_offset s (StructOf number) i - all) 0) (image s (initial_in x) t) (members s (initials_in (drop (i + 1) xs)) number (drop (i + 1) ts) (i + 1) (member_offset s (StructOf number) i + size_of s t))
    ∙ sym (ap (λ (ys : List Initial). members s (initials_in ys) number (drop i ts) i all) (one_more xs i x lt is)
    ∙ ap (λ (us : List CType). members s (MoreInitials (initial_in x) (initials_in (drop (i + 1) xs))) number us i all) types))
    (two first later)

no_members : (s : Source) (ys : Initials) (number place after : ℕ) → members s ys number [] place after ≡ []
no_members s NoInitials number place after = refl
no_members s (MoreInitials y ys) number place after = refl

-- no member is left
pub members_none : (s : Source) (xs : List Initial) (i number : ℕ) (ts : List CType) (all : ℕ) → slice_get ts i ≡ None → (o : Option (List ℕ)) →
    IsAdded o (members s (initials_in (drop i xs)) number (drop i ts) i all) o
members_none s xs i number ts all none o =
    same (sym (ap (λ (us : List CType). members s (initials_in (drop i xs)) number us i all) (drop_none ts i none) ∙ no_members s (initials_in (drop i xs)) number i all)) (nothing o)

-- ---- what is listed, and zeros after it

listed_is : (s : Source) (ys : Initials) (t : CType) → image s (Listed ys) t ≡ padded (size_of s t) (listed s ys t)
listed_is s ys Void = refl
listed_is s ys (Integer k) = refl
listed_is s ys (PointerTo t) = refl
listed_is s ys (ArrayOf n t) = refl
listed_is s ys (StructOf number) = refl
listed_is s ys (UndefinedStruct tag) = refl
listed_is s ys (FunctionOf r ts) = refl

none_is_some : {A : Type 0} (x : A) (o : Option A) → o ≡ None → o ≡ Some x → ⊥
none_is_some x o e h = cc

filled : (size start now : ℕ) (bytes : List ℕ) (o p r : Option (List ℕ)) → ((bs : List ℕ) → o ≡ Some bs → start ≡ length bs) → ((bs : List ℕ) → p ≡ Some bs → now ≡ length bs) →
    IsAdded o bytes p → IsAdded p (replicate (size - (now - start)) 0) r → IsAdded o (padded size bytes) r
filled size start now bytes o None r before after f g = record { is = λ items e. absurd (none_is_some items None refl (g.is items e)) }
filled size start now bytes None (Some pb) r before after f g = absurd (none_is_some pb None refl (f.is pb refl))
filled size start now bytes (Some ob) (Some pb) r before after f g =
    let e : Some (ob ++ bytes) ≡ Some pb = f.is pb refl in
    let is : ob ++ bytes ≡ pb = cc in
    let many : now - start ≡ length bytes = omega (arith, before ob refl, after pb refl, ap length is, length-append ob bytes) in
    two f (same {a = replicate (size - (now - start)) 0} {b = replicate (size - length bytes) 0} (ap (λ (n : ℕ). replicate (size - n) 0) many) g)

pub listed_step : (s : Source) (ys : Initials) (t : CType) (size start now : ℕ) → size ≡ size_of s t → {o p r : Option (List ℕ)} → ((bs : List ℕ) → o ≡ Some bs → start ≡ length bs) → ((bs : List ℕ) → p ≡ Some bs → now ≡ length bs) →
    IsAdded o (listed s ys t) p → IsAdded p (replicate (size - (now - start)) 0) r → IsAdded o (image s (Listed ys) t) r
listed_step s ys t size start now e {o} {p} {r} before after f g =
    same (ap (λ (n : ℕ). padded n (listed s ys t)) e ∙ sym (listed_is s ys t)) (filled size start now (listed s ys t) o p r before after f g)
