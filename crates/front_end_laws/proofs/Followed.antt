-- The annotations of a typed source, function by function: each function has its own, which keep the rules for its type. Those of `main`
-- name no cut.
use Rattle.std.proofs.Common.{◌≡◌, ◌≤◌, ◌<◌, ◌⊎◌, inl, inr, ℕ, zero, suc, ◌+◌, ◌-◌, Bool, true, false, cond, List, [], ◌∷◌, ◌++◌, length, length-append, map, Option, Some, None, refl, sym, ap, ◌∙◌, subst, arith, ⊎_elim}
use Rattle.std.specs.Prelude.{slice_get, nat_lt}
use Rattle.std.proofs.lemmas.Option.{same_Some}
use Rattle.std.proofs.lemmas.Slice.Eq.{bytes_eq-Decides}
use Rattle.c_syntax.specs.declared.declaration.Base.{Base}
use Rattle.c_syntax.specs.Syntax.{Decl, Decls, Annots, Parts, Rest, Declare, NoDecls, MoreDecls, NoRest, Initial, Body, Members}
use Rattle.c_builtins.specs.Table.{first_source_function}
use Rattle.c_scopes.specs.Scopes.{meaning_in, same_name}
use Rattle.c_types_model.specs.Types.{CType, CTypes, FunctionOf}
use Rattle.c_types_rules.specs.Checked.{Fine, ◌>>◌}
use Rattle.c_types_rules.specs.Environment.{Environment, Meaning, FunctionNamed, GlobalNamed}
use Rattle.c_types_rules.specs.Expressions.{declared_name}
use Rattle.c_types_rules.specs.Sources.{Function, Program, declaration, declarations}
use Rattle.annot_reader_rules.specs.Cuts.{all_noted, function_at, kind_of, noted, noted_as, noted_function, noted_name}
use Rattle.annot_reader_rules.specs.Functions.{declared_later, function_notes, global_notes, own_parameters}
use Rattle.annot_reader_rules.specs.Misplaced.{bare_decls}
use Rattle.annot_reader_rules.specs.Notes.{Annotated, Notes}
use Rattle.stub_meaning.specs.Rules.{KeepsRules}
use Rattle.c_lower_laws.proofs.Held.{Holds, holds_then, holds_on, holds_after, holds_both}
use Rattle.front_end_laws.proofs.Found.{holds_at, value, value_then}
use Rattle.front_end_laws.proofs.MainWords.{InNoCut, function_out}
use Rattle.front_end_laws.proofs.Rules.{Enough, function_keeps, notes_say, prototype_of}
use Rattle.front_end_laws.proofs.Declared.{Did, DidName, Grows, NoMembers, Same, again, first, object, struct, named_one, declaration_did, declarations_grow, types}

-- ---- what holds on the way

-- what is said of the function at a place keeps the rules for its type, and names no cut if it is `main`
pub record Keeps (F : Program) (k : ℕ) (n : Notes) : Type 0 where
  pub result : CType
  pub params : CTypes
  pub type : slice_get (types F) k ≡ Some (FunctionOf result params)
  pub rules : KeepsRules (prototype_of result params) (notes_say n)
  pub alone : (g : Function) → function_at F.functions k ≡ Some g → InNoCut (kind_of g) n

abbrev pub Kept : Program → List Notes → Type 0
Kept F ns = (k : ℕ) (n : Notes) → slice_get ns k ≡ Some n → Keeps F k n

-- so many functions and globals are declared, and of each something is said
pub record Follows (F p : Program) (a : Annotated) : Type 0 where
  pub count : length a.functions ≡ length p.functions
  pub guards : length a.guards ≡ length p.globals
  pub kept : Kept F a.functions

-- names of functions stand for functions that are declared
abbrev Numbers : Program → Type 0
Numbers p = (other : List ℕ) (number : ℕ) (u : CType) → meaning_in other p.names ≡ Some (FunctionNamed number u) →
    (first_source_function ≤ number) × (number < first_source_function + length p.functions)

-- ---- lists

length_types : (fs : List Function) → length (map (λ (f : Function). f.type) fs) ≡ length fs
length_types [] = refl
length_types (f ∷ fs) = ap suc (length_types fs)

same_count : (p q : Program) → types q ≡ types p → length q.functions ≡ length p.functions
same_count p q e = sym (length_types q.functions) ∙ (ap length e ∙ length_types p.functions)

more_count : (p q : Program) (t : CType) → types q ≡ types p ++ t ∷ [] → length q.functions ≡ length p.functions + 1
more_count p q t e =
    let all : length q.functions ≡ length (types p ++ t ∷ []) = sym (length_types q.functions) ∙ ap length e in
    let more = length-append (types p) (t ∷ []) in
    let before = length_types p.functions in
    omega (arith, all, more, before)

pushed : {A : Type 0} (xs : List A) (y x : A) (k : ℕ) → slice_get (xs ++ y ∷ []) k ≡ Some x → (slice_get xs k ≡ Some x) ⊎ ((k ≡ length xs) × (y ≡ x))
pushed [] y x zero e = inr (refl, cc)
pushed [] y x (suc k) e = absurd cc
pushed (z ∷ xs) y x zero e = inl e
pushed (z ∷ xs) y x (suc k) e = ⊎_elim (λ h. inl h) (λ h. inr (ap suc h.0, h.1)) (pushed xs y x k e)

last_is : {A : Type 0} (xs : List A) (y : A) → slice_get (xs ++ y ∷ []) (length xs) ≡ Some y
last_is [] y = refl
last_is (x ∷ xs) y = last_is xs y

-- the function at a place has the type at this place
of_type : (fs : List Function) (k : ℕ) (t : CType) → slice_get (map (λ (f : Function). f.type) fs) k ≡ Some t →
    (f : Function) × (function_at fs k ≡ Some f) × (f.type ≡ t)
of_type [] k t e = absurd cc
of_type (f ∷ fs) zero t e = (f, refl, same_Some f.type t e)
of_type (f ∷ fs) (suc k) t e = of_type fs k t e

less : (a b : ℕ) → a < b → nat_lt a b ≡ true
less a b h = Rattle.std.proofs.lemmas.Bool.lt-ltb a b h

no_less : (a b : ℕ) → b ≤ a → nat_lt a b ≡ false
no_less a b h = Rattle.std.proofs.lemmas.Bool.le-ltb a b h

-- ---- names

found_first : (q : Program) (p : Program) (other : List ℕ) (m : Meaning) → q.names ≡ (other, m) ∷ p.names → meaning_in other q.names ≡ Some m
found_first q p other m e = ap (meaning_in other) e ∙ ap (λ b. cond b (Some m) (meaning_in other p.names)) ((bytes_eq-Decides other other).1 refl)

function_meaning : (a : ℕ) (t : CType) (b : ℕ) (u : CType) → FunctionNamed a t ≡ FunctionNamed b u → a ≡ b
function_meaning a t b u e = cc

no_global : (place : ℕ) (t : CType) (b : ℕ) (u : CType) → GlobalNamed place t ≡ FunctionNamed b u → ⊥
no_global place t b u e = cc

numbers_by : (p q : Program) (fresh : List ℕ) (m : Meaning) → Numbers p → q.names ≡ (fresh, m) ∷ p.names → length p.functions ≤ length q.functions →
    ((number : ℕ) (u : CType) → m ≡ FunctionNamed number u → (first_source_function ≤ number) × (number < first_source_function + length q.functions)) → Numbers q
numbers_by p q fresh m ns e longer new other number u h = by (same_name other fresh) (sym (ap (meaning_in other) e) ∙ h)
  where
    by : (b : Bool) → cond b (Some m) (meaning_in other p.names) ≡ Some (FunctionNamed number u) → (first_source_function ≤ number) × (number < first_source_function + length q.functions)
    by true k = new number u (same_Some m (FunctionNamed number u) k)
    by false k = let old = ns other number u k in (old.0, (let upper = old.1 in omega (arith, upper, longer)))

same_numbers : (p q : Program) → Numbers p → Same p q → Numbers q
same_numbers p q ns s other number u h =
    let old = ns other number u (sym (ap (meaning_in other) s.names) ∙ h) in
    let same = same_count p q s.types in
    (old.0, (let upper = old.1 in omega (arith, upper, same)))

name_numbers : (p q : Program) (fresh : List ℕ) (ds : Decls) → Numbers p → DidName p fresh ds q → Numbers q
name_numbers p q fresh ds ns (again number u e s) = same_numbers p q ns s
name_numbers p q fresh ds ns (first u ts h none f g c) =
    let more = more_count p q (FunctionOf u ts) g in
    numbers_by p q fresh (FunctionNamed (length p.functions + first_source_function) (FunctionOf u ts)) ns f (omega (arith, more))
    (λ number w e. let is = function_meaning (length p.functions + first_source_function) (FunctionOf u ts) number w e in (omega (arith, is), omega (arith, is, more)))
name_numbers p q fresh ds ns (object place t none f g c) =
    let same = same_count p q g in
    numbers_by p q fresh (GlobalNamed place t) ns f (omega (arith, same)) (λ number w e. absurd (no_global place t number w e))

did_numbers : (p : Program) (d : Decl) (q : Program) → Numbers p → Did p d q → Numbers q
did_numbers p d q ns (struct from an b ps n ds z s) = same_numbers p z ns s
did_numbers p d q ns (named_one from an b ps n r z nm h) = name_numbers p z (declared_name n) (own_parameters ps) ns h

-- ---- one declaration

-- what the notes of a name are, whatever follows but members
noted_is : (env : Environment) (F : Program) (from : ℕ) (an : Annots) (b : Base) (ps : Parts) (n : Option (List ℕ)) (r : Rest) (a : Annotated) → NoMembers r →
    noted env F (Declare from an b ps n r) a ≡ noted_name env F (Declare from an b ps n r) (meaning_in (declared_name n) F.names) a
noted_is env F from an b ps n NoRest a h = refl
noted_is env F from an b ps n (Initial v) a h = refl
noted_is env F from an b ps n (Body s) a h = refl
noted_is env F from an b ps n (Members ds) a h = absurd h

module _ (env : Environment) (F : Program) where
  same_follows : (p q : Program) (a : Annotated) → types q ≡ types p → length q.globals ≡ length p.globals → Follows F p a → Follows F q a
  same_follows p q a e c f = record { count = f.count ∙ sym (same_count p q e); guards = f.guards ∙ sym c; kept = f.kept }

  -- a function that was declared before
  later : (p q : Program) (d : Decl) (number : ℕ) (a : Annotated) → Follows F p a → types q ≡ types p → length q.globals ≡ length p.globals →
      first_source_function ≤ number → number < first_source_function + length p.functions → (o : Option Function) →
      Holds (Follows F q) (noted_function env d (number - first_source_function) o a)
  later p q d number a f e c low high None = same_follows p q a e c f
  later p q d number a f e c low high (Some g) =
      let before : number - first_source_function < length a.functions = let said = f.count in omega (arith, low, high, said) in
      subst (λ b. Holds (Follows F q) (Rattle.std.specs.Prelude.if◌then◌else◌ b (declared_later d >> Fine a) (noted_as env d g g.type a)))
      (sym (less (number - first_source_function) (length a.functions) before))
      (holds_after (Follows F q) (declared_later d) (Fine a) (same_follows p q a e c f))

  -- a new one
  with_notes : (p q : Program) (from : ℕ) (an : Annots) (b : Base) (ps : Parts) (n : Option (List ℕ)) (r : Rest) (u : CType) (ts : CTypes) (a : Annotated) (g : Function) →
      Follows F p a → Enough (own_parameters ps) ts → slice_get (types F) (length p.functions) ≡ Some (FunctionOf u ts) → function_at F.functions (length p.functions) ≡ Some g →
      length q.functions ≡ length p.functions + 1 → length q.globals ≡ length p.globals → Holds (Follows F q) (noted_as env (Declare from an b ps n r) g (FunctionOf u ts) a)
  with_notes p q from an b ps n r u ts a g f enough at here more same =
      let keeps : Notes → Type 0 = λ m. KeepsRules (prototype_of u ts) (notes_say m) in
      let notes = function_notes env (kind_of g) (Declare from an b ps n r) u ts in
      holds_then (λ m. keeps m × InNoCut (kind_of g) m) (Follows F q) notes _
      (holds_both keeps (InNoCut (kind_of g)) notes (function_keeps env (kind_of g) from an b ps n r u ts enough) (function_out (kind_of g) env (Declare from an b ps n r) u ts))
      (λ m h. record {
        count = (let longer = length-append a.functions (m ∷ []) in let c = f.count in omega (arith, longer, c, more));
        guards = f.guards ∙ sym same;
        kept = λ k x e. ⊎_elim
            (λ old. f.kept k x old)
            (λ new. subst (Keeps F k) new.1 (record {
              result = u;
              params = ts;
              type = ap (slice_get (types F)) (new.0 ∙ f.count) ∙ at;
              rules = h.0;
              alone = λ y there. subst (λ (z : Function). InNoCut (kind_of z) m) (same_Some g y (sym here ∙ (ap (function_at F.functions) (sym (new.0 ∙ f.count)) ∙ there))) h.1;
            }))
            (pushed a.functions m x k e);
      })

  fresh : (p q : Program) (from : ℕ) (an : Annots) (b : Base) (ps : Parts) (n : Option (List ℕ)) (r : Rest) (u : CType) (ts : CTypes) (a : Annotated) →
      Follows F p a → Enough (own_parameters ps) ts → slice_get (types F) (length p.functions) ≡ Some (FunctionOf u ts) → length q.functions ≡ length p.functions + 1 →
      length q.globals ≡ length p.globals → (o : Option Function) → function_at F.functions (length p.functions) ≡ o → (k : ℕ) → k ≡ length p.functions →
      Holds (Follows F q) (noted_function env (Declare from an b ps n r) k o a)
  fresh p q from an b ps n r u ts a f enough at more same None e k is =
      let found = of_type F.functions (length p.functions) (FunctionOf u ts) at in
      let bad : None ≡ Some found.0 = sym e ∙ found.1 in absurd cc
  fresh p q from an b ps n r u ts a f enough at more same (Some g) e k is =
      let found = of_type F.functions (length p.functions) (FunctionOf u ts) at in
      let one : g ≡ found.0 = same_Some g found.0 (sym e ∙ found.1) in
      let type : g.type ≡ FunctionOf u ts = ap (λ (x : Function). x.type) one ∙ found.2 in
      let after : length a.functions ≤ k = let c = f.count in omega (arith, c, is) in
      let d : Decl = Declare from an b ps n r in
      subst (λ c. Holds (Follows F q) (Rattle.std.specs.Prelude.if◌then◌else◌ c (declared_later d >> Fine a) (noted_as env d g g.type a))) (sym (no_less k (length a.functions) after))
      (subst (λ t. Holds (Follows F q) (noted_as env d g t a)) (sym type) (with_notes p q from an b ps n r u ts a g f enough at e more same))

  one_name : (p q : Program) (from : ℕ) (an : Annots) (b : Base) (ps : Parts) (n : Option (List ℕ)) (r : Rest) (a : Annotated) →
      Numbers p → Follows F p a → Grows q F → Grows p F → DidName p (declared_name n) (own_parameters ps) q →
      (m : Option Meaning) → meaning_in (declared_name n) F.names ≡ m → Holds (Follows F q) (noted_name env F (Declare from an b ps n r) m a)
  one_name p q from an b ps n r a ns f g0 g (again number u e s) m is =
      let means : Some (FunctionNamed number u) ≡ m = sym (g.names (declared_name n) (FunctionNamed number u) e) ∙ is in
      let inside = ns (declared_name n) number u e in
      subst (λ o. Holds (Follows F q) (noted_name env F (Declare from an b ps n r) o a)) means
      (later p q (Declare from an b ps n r) number a f s.types s.globals inside.0 inside.1 (function_at F.functions (number - first_source_function)))
  one_name p q from an b ps n r a ns f g0 g (first u ts enough none names ty same) m is =
      let number : ℕ = length p.functions + first_source_function in
      let here : meaning_in (declared_name n) q.names ≡ Some (FunctionNamed number (FunctionOf u ts)) = found_first q p (declared_name n) (FunctionNamed number (FunctionOf u ts)) names in
      let means : Some (FunctionNamed number (FunctionOf u ts)) ≡ m = sym (g0.names (declared_name n) (FunctionNamed number (FunctionOf u ts)) here) ∙ is in
      let last : slice_get (types q) (length p.functions) ≡ Some (FunctionOf u ts) =
      ap (λ us. slice_get us (length p.functions)) ty ∙ (ap (slice_get (types p ++ FunctionOf u ts ∷ [])) (sym (length_types p.functions)) ∙ last_is (types p) (FunctionOf u ts)) in
      let at : slice_get (types F) (length p.functions) ≡ Some (FunctionOf u ts) = g0.types (length p.functions) (FunctionOf u ts) last in
      let place : number - first_source_function ≡ length p.functions = omega arith in
      subst (λ o. Holds (Follows F q) (noted_name env F (Declare from an b ps n r) o a)) means
      (fresh p q from an b ps n r u ts a f enough at (more_count p q (FunctionOf u ts) ty) same (function_at F.functions (number - first_source_function))
      (ap (function_at F.functions) (sym place)) (number - first_source_function) place)
  one_name p q from an b ps n r a ns f g0 g (object place t none names ty more) m is =
      let here : meaning_in (declared_name n) q.names ≡ Some (GlobalNamed place t) = found_first q p (declared_name n) (GlobalNamed place t) names in
      let means : Some (GlobalNamed place t) ≡ m = sym (g0.names (declared_name n) (GlobalNamed place t) here) ∙ is in
      subst (λ o. Holds (Follows F q) (noted_name env F (Declare from an b ps n r) o a)) means
      (holds_on (Follows F q) (global_notes (Declare from an b ps n r)) _ (λ guard. record {
        count = f.count ∙ sym (same_count p q ty);
        guards = (let longer = length-append a.guards (guard ∷ []) in let c = f.guards in omega (arith, longer, c, more));
        kept = f.kept;
      }))

  one_more : (p q : Program) (d : Decl) (a : Annotated) → Numbers p → Follows F p a → Grows q F → Grows p F → Did p d q → Holds (Follows F q) (noted env F d a)
  one_more p q d a ns f g0 g (struct from an b ps n ds z s) = holds_after (Follows F z) (bare_decls ds) (Fine a) (same_follows p z a s.types s.globals f)
  one_more p q d a ns f g0 g (named_one from an b ps n r z nm h) =
      subst (Holds (Follows F z)) (sym (noted_is env F from an b ps n r a nm)) (one_name p z from an b ps n r a ns f g0 g h (meaning_in (declared_name n) F.names) refl)

  -- ---- all declarations

  pub all_follow : (tags : List (List ℕ)) (ds : Decls) (p : Program) (a : Annotated) → value (declarations tags p ds) ≡ Some F → Numbers p → Follows F p a →
      Holds (Follows F F) (all_noted env F ds a)
  all_follow tags NoDecls p a e ns f = subst (λ (q : Program). Follows F q a) (same_Some p F e) f
  all_follow tags (MoreDecls d ds) p a e ns f =
      let (q, here, rest) = value_then (declaration tags p d) (λ q. declarations tags q ds) F e in
      let did : Did p d q = holds_at (Did p d) (declaration tags p d) q (declaration_did tags p d) here in
      let g0 : Grows q F = holds_at (Grows q) (declarations tags q ds) F (declarations_grow tags ds q) rest in
      let g : Grows p F = holds_at (Grows p) (declarations tags p (MoreDecls d ds)) F (declarations_grow tags (MoreDecls d ds) p) e in
      holds_then (Follows F q) (Follows F F) (noted env F d a) (λ b. all_noted env F ds b) (one_more p q d a ns f g0 g did) (λ b h. all_follow tags ds q b rest (did_numbers p d q ns did) h)
