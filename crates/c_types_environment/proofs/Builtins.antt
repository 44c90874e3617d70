-- Names of builtins.
use Rattle.std.proofs.Common.{◌≡◌, ◌↔◌, ℕ, Bool, true, false, cond, IsTrue, List, [], ◌∷◌, ◌++◌, length, take, drop, Option, Some, None, refl, sym, ap, ◌∙◌, subst, ◌⊎◌, inl, inr, nat_eq, codes}
use Rattle.std.specs.List.{starts_with}
use Rattle.std.specs.Cmp.Lexicographic.{pointwise}
use Rattle.std.proofs.lemmas.Slice.Eq.{bytes_eq-Decides}
use Rattle.c_builtins.specs.declared.builtin.Builtin.{Builtin}
use Rattle.c_builtins.specs.declared.builtin.Builtin.TheVariants.{Malloc, Free, Spawn, Join, Lock, Unlock, Print}
use Rattle.c_builtins.specs.Table.{IsReserved, name_of}
use Rattle.c_scopes.specs.Scopes.{same_name}
use Rattle.c_types_rules.specs.Environment.{builtin_of, first_builtin, is_reserved}

Among : Builtin → List Builtin → Type 0
Among b [] = ⊥
Among b (x ∷ xs) = (b ≡ x) ⊎ Among b xs

all_among : (b : Builtin) → Among b (Malloc ∷ Free ∷ Spawn ∷ Join ∷ Lock ∷ Unlock ∷ Print ∷ [])
unfolding Among
all_among Malloc = inl refl
all_among Free = inr (inl refl)
all_among Spawn = inr (inr (inl refl))
all_among Join = inr (inr (inr (inl refl)))
all_among Lock = inr (inr (inr (inr (inl refl))))
all_among Unlock = inr (inr (inr (inr (inr (inl refl)))))
all_among Print = inr (inr (inr (inr (inr (inr (inl refl))))))

-- the only builtin of a name is the first
first_is : (name : List ℕ) (r : Option Builtin) → ((b : Builtin) → (r ≡ Some b) ↔ (name_of b ≡ name)) → (bs : List Builtin) → ((b : Builtin) → r ≡ Some b → Among b bs) → r ≡ first_builtin name bs
unfolding Among
first_is name None h [] k = refl
first_is name (Some b) h [] k = absurd (k b refl)
first_is name r h (x ∷ bs) k = by (first_is name r h bs) (same_name name (name_of x)) refl
  where
    by : (((b : Builtin) → r ≡ Some b → Among b bs) → r ≡ first_builtin name bs) → (t : Bool) → same_name name (name_of x) ≡ t → r ≡ first_builtin name (x ∷ bs)
    by later true s =
        let found : r ≡ Some x = (h x).1 (sym ((bytes_eq-Decides name (name_of x)).0 s)) in
        found ∙ sym (ap (λ c. cond c (Some x) (first_builtin name bs)) s)
    by later false s =
        let other : (b : Builtin) → r ≡ Some b → Among b bs = λ b e. elim (k b e) [
          | inl same ↦
              let named : name_of x ≡ name = ap name_of (sym same) ∙ (h b).0 e in
              let there : same_name name (name_of x) ≡ true = (bytes_eq-Decides name (name_of x)).1 (sym named) in
              absurd cc
          | inr rest ↦ rest
        ] in
        later other ∙ sym (ap (λ c. cond c (Some x) (first_builtin name bs)) s)

pub builtin_is : (name : List ℕ) (r : Option Builtin) → ((b : Builtin) → (r ≡ Some b) ↔ (name_of b ≡ name)) → r ≡ builtin_of name
builtin_is name r h = first_is name r h (Malloc ∷ Free ∷ Spawn ∷ Join ∷ Lock ∷ Unlock ∷ Print ∷ []) (λ b e. all_among b)
