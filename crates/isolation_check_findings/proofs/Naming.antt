-- Names of functions and globals, and what functions mention by their numbers.
use Rattle.std.proofs.Common.{◌≡◌, ℕ, zero, suc, ◌+◌, ◌-◌, ◌<◌, ◌≤◌, Bool, true, false, cond, ltb, List, [], ◌∷◌, length, map, refl, sym, ap, ◌∙◌, arith}
use Rattle.std.specs.Prelude.{Option, Some, None, slice_get, option_map}
use Rattle.std.specs.List.{Contains}
use Rattle.std.proofs.lemmas.Bool.{le-ltb, ltb-false}
use Rattle.std.proofs.lemmas.List.{length-map}
use Rattle.std.proofs.lemmas.Option.{slice_get-map, slice_get_within}
use Rattle.c_builtins.specs.Table.{first_source_function}
use Rattle.c_types_rules.specs.Sources as sources
use Rattle.c_types_rules.specs.Sources.{Program}
use Rattle.c_types_program.specs.declared.function.Function.{Function}
use Rattle.c_types_program.specs.declared.global.Global.{Global}
use Rattle.c_types_program.specs.Declarations.{Declared, function_in, global_in}
use Rattle.cut_graph_rules.specs.declared.mention.Mention.{Mention}
use Rattle.cut_graph_rules.specs.Sources.{Mentioned, function_mentions}
use Rattle.cut_graph_rules.specs.MayRun.{mentions_in, or_nothing}
use Rattle.cut_graph_rules.specs.Findings.{Cut, IsGlobal, IsNamed, function_of}
use Rattle.isolation_check_findings.specs.Given.{IsCut}
use Rattle.isolation_check_findings.specs.Found.{function_name, global_name, global_name_or, name_or}

-- ---- lists

pub there : {A : Type 0} (xs : List A) (i : ℕ) → i < length xs → (x : A) × (slice_get xs i ≡ Some x)
there [] i lt = absurd (omega arith)
there (x ∷ xs) zero lt = (x, refl)
there (x ∷ xs) (suc i) lt = there xs i (omega arith)

pub mapped : {A B : Type 0} (h : A → B) (o : Option A) (y : B) → option_map h o ≡ Some y → (x : A) × (o ≡ Some x)
mapped h None y e = let n : None ≡ Some y = e in cc
mapped h (Some x) y e = (x, refl)

pub injected : {A : Type 0} (x y : A) → Some x ≡ Some y → x ≡ y
injected x y e = cc

-- ---- what functions mention

pub in_function : (n : Mentioned) (q : ℕ) (list : List Mention) → slice_get n.functions q ≡ Some list
    → mentions_in n (first_source_function + q) ≡ list
in_function n q list e =
    let at : first_source_function + q - first_source_function ≡ q = omega arith in
    ap (λ (b : Bool). cond b [] (or_nothing (slice_get n.functions (first_source_function + q - first_source_function)))) (le-ltb (first_source_function + q) first_source_function (omega arith))
    ∙ (ap (λ (i : ℕ). or_nothing (slice_get n.functions i)) at ∙ ap or_nothing e)

pub record IsIn (n : Mentioned) (f : ℕ) (m : Mention) : Type 0 where
  pub of_source : first_source_function ≤ f
  pub list : List Mention
  pub at : slice_get n.functions (f - first_source_function) ≡ Some list
  pub mentions : Contains list m

in_list : (n : Mentioned) (f : ℕ) (m : Mention) → first_source_function ≤ f → (o : Option (List Mention))
    → slice_get n.functions (f - first_source_function) ≡ o → Contains (or_nothing o) m → IsIn n f m
in_list n f m le None e h = absurd (omega (arith, h.1))
in_list n f m le (Some list) e h = record { of_source = le; list = list; at = e; mentions = h }

parts_by : (n : Mentioned) (f : ℕ) (m : Mention) (t : Bool) → ltb f first_source_function ≡ t
    → Contains (cond t [] (or_nothing (slice_get n.functions (f - first_source_function)))) m → IsIn n f m
parts_by n f m true e h = absurd (omega (arith, h.1))
parts_by n f m false e h = in_list n f m (ltb-false f first_source_function e) (slice_get n.functions (f - first_source_function)) refl h

pub parts : (n : Mentioned) (f : ℕ) (m : Mention) → Contains (mentions_in n f) m → IsIn n f m
parts n f m h = parts_by n f m (ltb f first_source_function) refl h

-- ---- names

module _ (p : Declared) (n : Mentioned) (above below faces : List Bool) (c : Cut) (k : IsCut p n above below faces c) where
  functions_are : c.program.functions ≡ map (function_in p.table) p.functions
  functions_are = sym (ap (λ (x : Program). x.functions) k.program)

  globals_are : c.program.globals ≡ map (global_in p.table) p.globals
  globals_are = sym (ap (λ (x : Program). x.globals) k.program)

  pub function_at : (number : ℕ) → function_of c.program number ≡ option_map (function_in p.table) (slice_get p.functions (number - first_source_function))
  function_at number =
      ap (λ (fs : List sources.Function). slice_get fs (number - first_source_function)) functions_are
      ∙ slice_get-map (function_in p.table) p.functions (number - first_source_function)

  global_at : (place : ℕ) → slice_get c.program.globals place ≡ option_map (global_in p.table) (slice_get p.globals place)
  global_at place =
      ap (λ (gs : List sources.Global). slice_get gs place) globals_are ∙ slice_get-map (global_in p.table) p.globals place

  name_agrees : (o : Option Function) (g : sources.Function) → option_map (function_in p.table) o ≡ Some g → g.name ≡ name_or o
  name_agrees None g e = let x : None ≡ Some g = e in cc
  name_agrees (Some f) g e = sym (ap (λ (x : sources.Function). x.name) (injected (function_in p.table f) g e))

  global_agrees : (o : Option Global) (g : sources.Global) → option_map (global_in p.table) o ≡ Some g → g.name ≡ global_name_or o
  global_agrees None g e = let x : None ≡ Some g = e in cc
  global_agrees (Some f) g e = sym (ap (λ (x : sources.Global). x.name) (injected (global_in p.table f) g e))

  pub name_is : (number : ℕ) (name : List ℕ) (g : sources.Function) → function_of c.program number ≡ Some g → g.name ≡ name
      → name ≡ function_name p number
  name_is number name g declared named =
      sym named ∙ name_agrees (slice_get p.functions (number - first_source_function)) g (sym (function_at number) ∙ declared)

  pub has_name : (number : ℕ) (g : sources.Function) → function_of c.program number ≡ Some g → g.name ≡ function_name p number
  has_name number g declared = name_agrees (slice_get p.functions (number - first_source_function)) g (sym (function_at number) ∙ declared)

  pub is_named : (number : ℕ) (g : sources.Function) → first_source_function ≤ number → function_of c.program number ≡ Some g
      → IsNamed c.program number (function_name p number)
  is_named number g le declared = record {
    function = g;
    of_source = le;
    declared = declared;
    named = has_name number g declared;
  }

  pub global_is : (place : ℕ) (name : List ℕ) → IsGlobal c.program place name → name ≡ global_name p place
  global_is place name h = sym h.named ∙ global_agrees (slice_get p.globals place) h.global (sym (global_at place) ∙ h.declared)

  pub is_global : (place : ℕ) → place < length p.globals → IsGlobal c.program place (global_name p place)
  is_global place lt =
      let g = there p.globals place lt in
      let declared : slice_get c.program.globals place ≡ Some (global_in p.table g.0) = global_at place ∙ ap (option_map (global_in p.table)) g.1 in
      record {
        global = global_in p.table g.0;
        declared = declared;
        named = global_agrees (slice_get p.globals place) (global_in p.table g.0) (sym (global_at place) ∙ declared);
      }

  pub global_inside : (place : ℕ) (name : List ℕ) → IsGlobal c.program place name → place < length p.globals
  global_inside place name h =
      let g = mapped (global_in p.table) (slice_get p.globals place) h.global (sym (global_at place) ∙ h.declared) in
      slice_get_within p.globals place g.0 g.1

  pub function_inside : (number : ℕ) (g : sources.Function) → function_of c.program number ≡ Some g
      → (f : Function) × (slice_get p.functions (number - first_source_function) ≡ Some f) × (function_in p.table f ≡ g)
  function_inside number g declared =
      let e = sym (function_at number) ∙ declared in
      let f = mapped (function_in p.table) (slice_get p.functions (number - first_source_function)) g e in
      (f.0, f.1, injected (function_in p.table f.0) g (ap (option_map (function_in p.table)) (sym f.1) ∙ e))

  -- the function whose mentions stand at a place
  pub function_listed : (place : ℕ) (list : List Mention) → slice_get n.functions place ≡ Some list
      → (g : sources.Function) × (slice_get c.program.functions place ≡ Some g)
  function_listed place list e =
      let all : n.functions ≡ map (λ (f : sources.Function). function_mentions f.body) c.program.functions = ap (λ (m : Mentioned). m.functions) k.mentions in
      mapped (λ (f : sources.Function). function_mentions f.body) (slice_get c.program.functions place) list
      (sym (slice_get-map (λ (f : sources.Function). function_mentions f.body) c.program.functions place)
      ∙ (ap (λ (ls : List (List Mention)). slice_get ls place) (sym all) ∙ e))

  pub as_many : length n.functions ≡ length p.functions
  as_many =
      ap (λ (m : Mentioned). length m.functions) k.mentions
      ∙ (length-map c.program.functions (λ (f : sources.Function). function_mentions f.body)
      ∙ (ap length functions_are ∙ length-map p.functions (function_in p.table)))
