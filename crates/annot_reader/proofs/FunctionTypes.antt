-- The functions of a source that is typed have types of functions, with few parameters.
use Rattle.std.proofs.Common.{◌≡◌, ℕ, zero, suc, ◌-◌, nat_le, Bool, true, false, not, is_some, if◌then◌else◌, List, [], ◌∷◌, ◌++◌, length, Option, Some, None, refl, subst}
use Rattle.source_limits.specs.Limits.{greatest_object}
use Rattle.c_syntax.specs.declared.declaration.Base.TheVariants as bases
use Rattle.c_syntax.specs.Syntax.{Decl, Decls, Declare, NoDecls, MoreDecls, Parts, Rest, NoRest, Initial, Body, Members}
use Rattle.c_types_model.specs.Types.{CType, Void, Integer, PointerTo, ArrayOf, StructOf, UndefinedStruct, FunctionOf}
use Rattle.c_scopes.specs.Scopes.{meaning_in}
use Rattle.c_types_model.specs.Layouts.{struct_of}
use Rattle.c_types_model.specs.declared.extent.Extent.{Extent}
use Rattle.c_types_rules.specs.Checked.{Checked, Fine, Noted, Notes, Broken, heard, keep, noting, small, ◌>>=◌, ◌>>◌}
use Rattle.c_types_rules.specs.Environment.{Meaning, FunctionNamed, GlobalNamed, LocalNamed, declarable, extents, is_reserved, place_in}
use Rattle.c_types_rules.specs.Expressions.{annotation_types, complete, declared_name, declared_type}
use Rattle.c_types_rules.specs.Initials as initials
use Rattle.c_types_rules.specs.Limits.{Typed, Which, Functions, Params, all_keep, decided, few_params, first_limit, outcome, unless}
use Rattle.c_types_rules.specs.Sources.{Function, Program, at_file, body_at, body_of, declaration, declarations, declared_again, extents_of, function, function_declared, function_or_global, function_rest, global, global_value, has_main, is_main, is_next, members_from, nothing, program, struct_defined, tags_of, with_body}
use Rattle.c_types_rules.specs.TypedTree as typed
use Rattle.c_types_rules.specs.TypeTests.{is_function, same_type}

-- each has a function's type
abbrev pub AreFunctionTypes : List Function → Type 0
AreFunctionTypes [] = Unit {0}
AreFunctionTypes (f ∷ fs) = (is_function f.type ≡ true) × AreFunctionTypes fs

-- ---- what each step gives

abbrev Gives : Checked Program → Type 0
Gives (Fine p) = AreFunctionTypes p.functions
Gives (Noted n p) = AreFunctionTypes p.functions
Gives (Broken from rule) = Unit {0}

abbrev GivesBoth : Checked (ℕ × Program) → Type 0
GivesBoth (Fine a) = AreFunctionTypes a.1.functions
GivesBoth (Noted n a) = AreFunctionTypes a.1.functions
GivesBoth (Broken from rule) = Unit {0}

noting_gives : (n : Notes) (c : Checked Program) → Gives c → Gives (noting n c)
noting_gives n (Fine p) h = h
noting_gives n (Noted m p) h = h
noting_gives n (Broken f r) h = tt

after : {A : Type 0} (c : Checked A) (f : A → Checked Program) → ((x : A) → Gives (f x)) → Gives (c >>= f)
after (Fine x) f h = h x
after (Noted n x) f h = noting_gives n (f x) (h x)
after (Broken a b) f h = tt

next : {A : Type 0} (c : Checked A) (d : Checked Program) → Gives d → Gives (c >> d)
next (Fine x) d h = h
next (Noted n x) d h = noting_gives n d h
next (Broken a b) d h = tt

with_program : (c : Checked Program) (f : Program → Checked Program) → Gives c → ((p : Program) → AreFunctionTypes p.functions → Gives (f p)) → Gives (c >>= f)
with_program (Fine p) f h k = k p h
with_program (Noted n p) f h k = noting_gives n (f p) (k p h)
with_program (Broken a b) f h k = tt

with_both : (c : Checked (ℕ × Program)) (f : ℕ × Program → Checked Program) → GivesBoth c → ((a : ℕ × Program) → AreFunctionTypes a.1.functions → Gives (f a)) → Gives (c >>= f)
with_both (Fine a) f h k = k a h
with_both (Noted n a) f h k = noting_gives n (f a) (k a h)
with_both (Broken a b) f h k = tt

both_next : {A : Type 0} (c : Checked A) (d : Checked (ℕ × Program)) → GivesBoth d → GivesBoth (c >> d)
both_next (Fine x) d h = h
both_next (Noted n x) (Fine a) h = h
both_next (Noted n x) (Noted m a) h = h
both_next (Noted n x) (Broken a b) h = tt
both_next (Broken a b) d h = tt

-- ---- functions

one_more : (fs : List Function) (f : Function) → AreFunctionTypes fs → is_function f.type ≡ true → AreFunctionTypes (fs ++ f ∷ [])
one_more [] f h k = (k, tt)
one_more (g ∷ fs) f h k = (h.0, one_more fs f h.1 k)

bodied : (fs : List Function) (place : ℕ) (b : typed.Body) → AreFunctionTypes fs → AreFunctionTypes (with_body fs place b)
bodied [] place b h = tt
bodied (f ∷ fs) zero b h = h
bodied (f ∷ fs) (suc place) b h = (h.0, bodied fs place b h.1)

module _ (tags : List (List ℕ)) where
  again : (p : Program) (from : ℕ) (t : CType) (m : Option Meaning) (name : List ℕ) → AreFunctionTypes p.functions → is_function t ≡ true → GivesBoth (declared_again p from t m name)
  again p from t (Some (FunctionNamed number u)) name h k = both_next (keep from 1 (same_type t u)) (Fine (number, p)) h
  again p from t (Some (GlobalNamed place u)) name h k = tt
  again p from t (Some (LocalNamed place u)) name h k = tt
  again p from t None name h k = one_more p.functions (record { name = name; type = t; body = None }) h k

  rest : (p : Program) (from place : ℕ) (name : List ℕ) (t : CType) (ps : Parts) (r : Rest) → AreFunctionTypes p.functions → Gives (function_rest tags p from place name t ps r)
  rest p from place name t ps NoRest h = h
  rest p from place name t ps (Initial v) h = tt
  rest p from place name t ps (Body s) h =
      let with_b : typed.Body → Checked Program = λ b. Fine (record p { functions = with_body p.functions place b }) in
      let body = body_of (at_file tags p) t ps s in
      let kept = keep from 18 (is_main name t) in
      next (keep from 21 (not (is_some (body_at p.functions place)))) (kept >> (body >>= with_b)) (next kept (body >>= with_b) (after body with_b (λ b. bodied p.functions place b h)))
  rest p from place name t ps (Members ds) h = tt

  of_function : (p : Program) (from : ℕ) (name : List ℕ) (t : CType) (ps : Parts) (r : Rest) → AreFunctionTypes p.functions → is_function t ≡ true → Gives (function tags p from name t ps r)
  of_function p from name t ps r h k =
      with_both (function_declared p from t name) (λ a. function_rest tags a.1 from (a.0 - 16) name t ps r)
      (both_next (keep from 19 (not (is_reserved name))) (declared_again p from t (meaning_in name p.names) name) (again p from t (meaning_in name p.names) name h k)) (λ a i. rest a.1 from (a.0 - 16) name t ps r i)

  of_global : (p : Program) (from : ℕ) (name : List ℕ) (t : CType) (r : Rest) → AreFunctionTypes p.functions → Gives (global tags p from name t r)
  of_global p from name t r h =
      let named : Program = record p { names = (name, GlobalNamed (length p.globals) t) ∷ p.names } in
      let with_value : Option initials.Initial × List typed.Typed → Checked Program = λ x. Fine (record named { globals = p.globals ++ record { name = name; type = t; value = x.0; unevaluated = x.1 } ∷ [] }) in
      let value = heard (global_value tags named from t r) in
      let free = declarable (at_file tags p) from name in
      next (complete (extents (at_file tags p)) from t) (free >> (value >>= with_value)) (next free (value >>= with_value) (after value with_value (λ x. h)))

  of_either : (p : Program) (from : ℕ) (name : List ℕ) (t : CType) (ps : Parts) (r : Rest) → AreFunctionTypes p.functions → Gives (function_or_global tags p from name t ps r)
  of_either p from name (FunctionOf u us) ps r h = of_function p from name (FunctionOf u us) ps r h refl
  of_either p from name Void ps r h = of_global p from name Void r h
  of_either p from name (Integer k) ps r h = of_global p from name (Integer k) r h
  of_either p from name (PointerTo u) ps r h = of_global p from name (PointerTo u) r h
  of_either p from name (ArrayOf n u) ps r h = of_global p from name (ArrayOf n u) r h
  of_either p from name (StructOf n) ps r h = of_global p from name (StructOf n) r h
  of_either p from name (UndefinedStruct tag) ps r h = of_global p from name (UndefinedStruct tag) r h

  of_struct : (p : Program) (from : ℕ) (tag : List ℕ) (ds : Decls) → AreFunctionTypes p.functions → Gives (struct_defined tags p from tag ds)
  of_struct p from tag ds h =
      let extent : List (List ℕ × CType) → Extent = λ ms. struct_of (extents_of (extents (at_file tags p)) ms) in
      let defined : List (List ℕ × CType) → Checked Program = λ ms. Fine (record p { structs = p.structs ++ record { members = ms; extent = extent ms } ∷ [] }) in
      let with_members : List (List ℕ × CType) → Checked Program = λ ms. small (nat_le (extent ms).size greatest_object) >> defined ms in
      let members = members_from (at_file tags p) [] ds in
      let next_one = keep from 1 (is_next (length p.structs) (place_in tag tags)) in
      next (keep from 19 (not (is_reserved tag))) (next_one >> (members >>= with_members)) (next next_one (members >>= with_members) (after members with_members (λ ms. next (small (nat_le (extent ms).size greatest_object)) (defined ms) h)))

  of_declaration : (p : Program) (d : Decl) → AreFunctionTypes p.functions → Gives (declaration tags p d)
  of_declaration p (Declare from an (bases.Struct tag) ps n (Members ds)) h = of_struct p from tag ds h
  of_declaration p (Declare from an b ps n r) h =
      let kind = declared_type (Declare from an b ps n r) (at_file tags p) in
      let with_type : CType → Checked Program = λ t. function_or_global tags p from (declared_name n) t ps r in
      next (annotation_types an (at_file tags p)) (kind >>= with_type) (after kind with_type (λ t. of_either p from (declared_name n) t ps r h))

  of_declarations : (p : Program) (ds : Decls) → AreFunctionTypes p.functions → Gives (declarations tags p ds)
  of_declarations p NoDecls h = h
  of_declarations p (MoreDecls d ds) h = with_program (declaration tags p d) (λ q. declarations tags q ds) (of_declaration p d h) (λ q i. of_declarations q ds i)

of_program : (ds : Decls) → Gives (program ds)
of_program ds = with_program (declarations (tags_of ds) nothing ds) (λ p. keep 0 18 (has_main p.functions) >> Fine p) (of_declarations (tags_of ds) nothing ds tt) (λ p h. next (keep 0 18 (has_main p.functions)) (Fine p) h)

-- ---- sources

same_program : (p q : Program) (o : Option Which) → unless q o ≡ Typed p → q ≡ p
same_program p q None e = cc
same_program p q (Some w) e = absurd cc

few_tested : (p q : Program) (a b : Bool) (o : Option Which) → unless q (if a then if b then o else Some Params else Some Functions) ≡ Typed p → b ≡ true
few_tested p q true true o e = refl
few_tested p q true false o e = absurd cc
few_tested p q false b o e = absurd cc

-- what is known of the functions of a typed source
pub record AreTyped (p : Program) : Type 0 where
  pub functions : AreFunctionTypes p.functions
  pub few : all_keep few_params p.functions ≡ true

by_limits : (p q : Program) (objects : Bool) → AreFunctionTypes q.functions → unless q (first_limit objects q) ≡ Typed p → AreTyped p
by_limits p q objects h e =
    let same = same_program p q (first_limit objects q) e in
    let few = few_tested p q (nat_le (length q.functions) 1000) (all_keep few_params q.functions) _ e in
    let P : Program → Type 0 = AreTyped in
    subst P same (record { functions = h; few = few })

by_outcome : (p : Program) (c : Checked Program) → Gives c → decided c ≡ Typed p → AreTyped p
by_outcome p (Fine q) h e = by_limits p q true h e
by_outcome p (Noted n q) h e = by_limits p q (not n.large) h e
by_outcome p (Broken f r) h e = absurd cc

pub typed_functions : (ds : Decls) (p : Program) → outcome ds ≡ Typed p → AreTyped p
typed_functions ds p e = by_outcome p (program ds) (of_program ds) e
