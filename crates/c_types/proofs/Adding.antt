-- What a function or a global adds to what is declared at file scope: one new name at most, which hides nothing.
use Rattle.std.proofs.Common.{◌≡◌, ℕ, ◌-◌, Bool, true, false, not, is_some, List, [], ◌∷◌, Option, Some, None, ◌⊎◌, inl, inr, if◌then◌else◌, refl, sym, ap, ◌∙◌, subst}
use Rattle.std.specs.Option.{option_or}
use Rattle.std.proofs.lemmas.Slice.Eq.{bytes_eq-Decides}
use Rattle.c_syntax.specs.Syntax.{Parts, Rest, NoRest, Initial, Body, Members}
use Rattle.c_types_model.specs.Types.{CType, Void, Integer, PointerTo, ArrayOf, StructOf, UndefinedStruct, FunctionOf}
use Rattle.c_builtins.specs.declared.builtin.Builtin.{Builtin}
use Rattle.c_builtins.specs.declared.builtin.Builtin.TheVariants as builtins
use Rattle.c_builtins.specs.Table.{first_source_function, name_of}
use Rattle.c_scopes.specs.Scopes.{Scope, meaning_in, same_name}
use Rattle.c_types_rules.specs.Checked.{Checked, Fine, Noted, Broken, Notes, heard, keep, noting, ◌>>=◌, ◌>>◌}
use Rattle.c_types_rules.specs.Environment.{Meaning, FunctionNamed, GlobalNamed, LocalNamed, builtin_of, extents, first_builtin, is_reserved}
use Rattle.c_types_rules.specs.Expressions.{complete}
use Rattle.c_types_rules.specs.Sources.{Program, at_file, body_at, body_of, declared_again, function, function_declared, function_or_global, function_rest, global, global_value, is_main, with_body}
use Rattle.c_types_rules.specs.TypeTests.{same_type}
use Rattle.c_types.proofs.Wider.{Sees}

-- ---- what is found

-- this is found
abbrev pub Yields : {A : Type 0} → Checked A → A → Type 0
Yields (Fine x) y = x ≡ y
Yields (Noted n x) y = x ≡ y
Yields (Broken from rule) y = ⊥

yields_noted : {A : Type 0} (n : Notes) (c : Checked A) (y : A) → Yields (noting n c) y → Yields c y
yields_noted n (Fine x) y h = h
yields_noted n (Noted m x) y h = h
yields_noted n (Broken from rule) y h = absurd h

yields_then : {A B : Type 0} (c : Checked A) (k : A → Checked B) (y : B) → Yields (c >>= k) y → (x : A) × Yields c x × Yields (k x) y
yields_then (Fine x) k y h = (x, refl, h)
yields_then (Noted n x) k y h = (x, refl, yields_noted n (k x) y h)
yields_then (Broken from rule) k y h = absurd h

yields_after : {A B : Type 0} (c : Checked A) (d : Checked B) (y : B) → Yields (c >> d) y → ((x : A) × Yields c x) × Yields d y
yields_after (Fine x) d y h = ((x, refl), h)
yields_after (Noted n x) d y h = ((x, refl), yields_noted n d y h)
yields_after (Broken from rule) d y h = absurd h

yields_kept : {B : Type 0} (from rule : ℕ) (b : Bool) (d : Checked B) (y : B) → Yields (keep from rule b >> d) y → (b ≡ true) × Yields d y
yields_kept from rule true d y h = (refl, h)
yields_kept from rule false d y h = absurd h

keeps : (from rule : ℕ) (b : Bool) (y : Unit {0}) → Yields (keep from rule b) y → b ≡ true
keeps from rule true y h = refl
keeps from rule false y h = absurd h

-- ---- one name more

-- the second has one name more than the first, which isn't reserved and had no meaning, or the same names
pub record Adds (p q : Program) : Type 0 where
  pub structs : q.structs ≡ p.structs
  pub names : (q.names ≡ p.names) ⊎ ((name : List ℕ) × (m : Meaning) × (q.names ≡ (name, m) ∷ p.names) × (meaning_in name p.names ≡ None) × (is_reserved name ≡ false))

not_true : (b : Bool) → not b ≡ true → b ≡ false
not_true true e = absurd cc
not_true false e = refl

is_none : {A : Type 0} (o : Option A) → not (is_some o) ≡ true → o ≡ None
is_none (Some x) e = absurd cc
is_none None e = refl

-- names and structs are those of another
adds_as : (p q r : Program) → Adds p q → r.structs ≡ q.structs → r.names ≡ q.names → Adds p r
adds_as p q r h s n = record {
  structs = s ∙ h.structs;
  names = elim h.names [
    | inl e ↦ inl (n ∙ e)
    | inr x ↦ inr (x.0, x.1, n ∙ x.2, x.3, x.4)
  ];
}

adds_none : (p : Program) → Adds p p
adds_none p = record { structs = refl; names = inl refl }

again_adds : (p : Program) (from : ℕ) (t : CType) (name : List ℕ) (o : Option Meaning) (a : ℕ × Program) → o ≡ meaning_in name p.names → is_reserved name ≡ false → Yields (declared_again p from t o name) a → Adds p a.1
again_adds p from t name (Some (FunctionNamed number u)) a e r h =
    let x = yields_kept from 1 (same_type t u) (Fine (number, p)) a h in
    subst (λ (b : ℕ × Program). Adds p b.1) x.1 (adds_none p)
again_adds p from t name (Some (GlobalNamed place u)) a e r h = absurd h
again_adds p from t name (Some (LocalNamed place u)) a e r h = absurd h
again_adds p from t name None a e r h =
    subst (λ (b : ℕ × Program). Adds p b.1) h (record { structs = refl; names = inr (name, FunctionNamed _ t, refl, sym e, r) })

rest_adds : (tags : List (List ℕ)) (p q : Program) (from place : ℕ) (name : List ℕ) (t : CType) (ps : Parts) (r : Rest) → Yields (function_rest tags p from place name t ps r) q → (q.structs ≡ p.structs) × (q.names ≡ p.names)
rest_adds tags p q from place name t ps NoRest h = (ap (λ (x : Program). x.structs) (sym h), ap (λ (x : Program). x.names) (sym h))
rest_adds tags p q from place name t ps (Initial v) h = absurd h
rest_adds tags p q from place name t ps (Members ds) h = absurd h
rest_adds tags p q from place name t ps (Body s) h =
    let last : Checked Program = body_of (at_file tags p) t ps s >>= (λ b. Fine (record p { functions = with_body p.functions place b })) in
    let one = yields_kept from 21 (not (is_some (body_at p.functions place))) (keep from 18 (is_main name t) >> last) q h in
    let two = yields_kept from 18 (is_main name t) last q one.1 in
    let three = yields_then (body_of (at_file tags p) t ps s) (λ b. Fine (record p { functions = with_body p.functions place b })) q two.1 in
    (ap (λ (x : Program). x.structs) (sym three.2), ap (λ (x : Program). x.names) (sym three.2))

function_adds : (tags : List (List ℕ)) (p q : Program) (from : ℕ) (name : List ℕ) (t : CType) (ps : Parts) (r : Rest) → Yields (function tags p from name t ps r) q → Adds p q
function_adds tags p q from name t ps r h =
    let x = yields_then (function_declared p from t name) (λ a. function_rest tags a.1 from (a.0 - first_source_function) name t ps r) q h in
    let y = yields_kept from 19 (not (is_reserved name)) (declared_again p from t (meaning_in name p.names) name) x.0 x.1 in
    let z = rest_adds tags x.0.1 q from (x.0.0 - first_source_function) name t ps r x.2 in
    adds_as p x.0.1 q (again_adds p from t name (meaning_in name p.names) x.0 refl (not_true (is_reserved name) y.0) y.1) z.0 z.1

global_adds : (tags : List (List ℕ)) (p q : Program) (from : ℕ) (name : List ℕ) (t : CType) (r : Rest) → Yields (global tags p from name t r) q → Adds p q
global_adds tags p q from name t r h =
    let x = yields_after (complete (extents (at_file tags p)) from t) _ q h in
    let y = yields_after (keep from 19 (not (is_reserved name)) >> keep from 1 (not (is_some (meaning_in name p.names)))) _ q x.1 in
    let z = yields_kept from 19 (not (is_reserved name)) (keep from 1 (not (is_some (meaning_in name p.names)))) y.0.0 y.0.1 in
    let one : Program = record p { names = (name, GlobalNamed _ t) ∷ p.names } in
    let w = yields_then (heard (global_value tags one from t r)) _ q y.1 in
    subst (Adds p) w.2 (record { structs = refl; names = inr (name, GlobalNamed _ t, refl, is_none (meaning_in name p.names) (keeps from 1 _ y.0.0 z.1), not_true (is_reserved name) z.0) })

-- so does a function or a global
pub declared_adds : (tags : List (List ℕ)) (p q : Program) (from : ℕ) (name : List ℕ) (t : CType) (ps : Parts) (r : Rest) → Yields (function_or_global tags p from name t ps r) q → Adds p q
declared_adds tags p q from name (FunctionOf u ts) ps r h = function_adds tags p q from name (FunctionOf u ts) ps r h
declared_adds tags p q from name Void ps r h = global_adds tags p q from name Void r h
declared_adds tags p q from name (Integer k) ps r h = global_adds tags p q from name (Integer k) r h
declared_adds tags p q from name (PointerTo t) ps r h = global_adds tags p q from name (PointerTo t) r h
declared_adds tags p q from name (ArrayOf n t) ps r h = global_adds tags p q from name (ArrayOf n t) r h
declared_adds tags p q from name (StructOf n) ps r h = global_adds tags p q from name (StructOf n) r h
declared_adds tags p q from name (UndefinedStruct tag) ps r h = global_adds tags p q from name (UndefinedStruct tag) r h

-- ---- names that hide nothing

-- the names of builtins are reserved
reserved : (b : Builtin) → is_reserved (name_of b) ≡ true
reserved builtins.Malloc = refl
reserved builtins.Free = refl
reserved builtins.Spawn = refl
reserved builtins.Join = refl
reserved builtins.Lock = refl
reserved builtins.Unlock = refl
reserved builtins.Print = refl

first_reserved : (name : List ℕ) (bs : List Builtin) (b : Builtin) → first_builtin name bs ≡ Some b → is_reserved name ≡ true
first_reserved name [] b e = absurd cc
first_reserved name (c ∷ bs) b e = by (same_name name (name_of c)) refl e (λ f. first_reserved name bs b f)
  where
    by : (t : Bool) → same_name name (name_of c) ≡ t → (if t then Some c else first_builtin name bs) ≡ Some b → (first_builtin name bs ≡ Some b → is_reserved name ≡ true) → is_reserved name ≡ true
    by true s f k = ap is_reserved ((bytes_eq-Decides name (name_of c)).0 s) ∙ reserved c
    by false s f k = k f

-- a name that isn't reserved and has no meaning hides nothing
sees_one : (name : List ℕ) (m : Meaning) (s : Scope Meaning) → meaning_in name s ≡ None → is_reserved name ≡ false → Sees (s ∷ []) (((name, m) ∷ s) ∷ [])
sees_one name m s none free = record {
  known = λ other n e. known other (same_name other name) refl n e;
  builtin = λ other b f e. hidden other (same_name other name) refl b f e;
}
  where
    known : (other : List ℕ) (t : Bool) → same_name other name ≡ t → (n : Meaning) → option_or (meaning_in other s) None ≡ Some n → option_or (if t then Some m else meaning_in other s) None ≡ Some n
    known other true e n h =
        let lost : meaning_in other s ≡ None = ap (λ v. meaning_in v s) ((bytes_eq-Decides other name).0 e) ∙ none in
        let wrong : option_or None None ≡ Some n = subst (λ o. option_or o None ≡ Some n) lost h in
        absurd cc
    known other false e n h = h

    hidden : (other : List ℕ) (t : Bool) → same_name other name ≡ t → (b : Builtin) → builtin_of other ≡ Some b → option_or (meaning_in other s) None ≡ None → option_or (if t then Some m else meaning_in other s) None ≡ None
    hidden other true e b f h =
        let held : is_reserved other ≡ true = first_reserved other (builtins.Malloc ∷ builtins.Free ∷ builtins.Spawn ∷ builtins.Join ∷ builtins.Lock ∷ builtins.Unlock ∷ builtins.Print ∷ []) b f in
        let wrong : true ≡ false = sym held ∙ (ap is_reserved ((bytes_eq-Decides other name).0 e) ∙ free) in
        absurd cc
    hidden other false e b f h = h

pub sees_more : (p q : Program) → Adds p q → Sees (p.names ∷ []) (q.names ∷ [])
sees_more p q h = elim h.names [
  | inl e ↦ subst (λ s. Sees (p.names ∷ []) (s ∷ [])) (sym e) (record { known = λ n m k. k; builtin = λ n b f k. k })
  | inr x ↦ subst (λ s. Sees (p.names ∷ []) (s ∷ [])) (sym x.2) (sees_one x.0 x.1 p.names x.3 x.4)
]
