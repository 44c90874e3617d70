-- One declaration more of a source: the first of a function, or another.
use Rattle.std.proofs.Common.{◌≡◌, ℕ, zero, suc, ◌-◌, ◌<◌, ◌≤◌, nat_lt, Bool, true, false, not, ◌&&◌, if◌then◌else◌, List, [], ◌∷◌, ◌++◌, length, Option, Some, None, refl, sym, subst, arith}
use Rattle.std.proofs.lemmas.Bool.{le-ltb, lt-ltb}
use Rattle.c_scopes.specs.Scopes.{meaning_in}
use Rattle.c_syntax.specs.Syntax.{Decl, Declare, NoRest, Initial, Body, Members}
use Rattle.c_types_model.specs.Types.{CType, Void, Integer, PointerTo, ArrayOf, StructOf, UndefinedStruct, FunctionOf}
use Rattle.c_types_rules.specs.Checked.{Fine, ◌>>◌}
use Rattle.c_types_rules.specs.Environment.{Environment, Meaning, FunctionNamed, GlobalNamed, LocalNamed}
use Rattle.c_types_rules.specs.Expressions.{declared_name}
use Rattle.c_types_rules.specs.Sources.{Function, Program}
use Rattle.c_types_rules.specs.TypeTests.{is_function}
use Rattle.annot_reader_rules.specs.Cuts.{function_at, kind_of, noted, noted_as, noted_function, noted_name}
use Rattle.annot_reader_rules.specs.Functions.{declared_later, function_notes, global_notes}
use Rattle.annot_reader_rules.specs.Misplaced.{bare_decls}
use Rattle.annot_reader_rules.specs.Notes.{Annotated, Notes}
use Rattle.annot_reader_functions.specs.Rules.{function_in}
use Rattle.annot_reader.proofs.FunctionTypes.{AreFunctionTypes}
use Rattle.cut_advisor.specs.CutNodes.{declares_next, is_next}
use Rattle.cut_advisor.specs.CutPuts.{decl_names}
use Rattle.cut_advisor.proofs.CutWords.{Gives, HasCuts, after_gives, function_given, next_gives, then_gives}

-- of one function more is noted which cuts name it, or of no more
abbrev pub Adds : Bool → Decl → (before after : Annotated) → Type 0
Adds true d a b = (n : Notes) × (b.functions ≡ a.functions ++ n ∷ []) × (n.cuts ≡ decl_names d)
Adds false d a b = b.functions ≡ a.functions

-- ---- functions by their places

none_past : (fs : List Function) (place : ℕ) → function_at fs place ≡ None → length fs ≤ place
none_past [] place e = omega arith
none_past (f ∷ fs) zero e = absurd cc
none_past (f ∷ fs) (suc place) e = let rest : length fs ≤ place = none_past fs place e in omega arith

none_there : (fs : List Function) (place : ℕ) → function_at fs place ≡ None → nat_lt place (length fs) ≡ false
none_there fs place e = le-ltb place (length fs) (none_past fs place e)

some_within : (fs : List Function) (place : ℕ) (f : Function) → function_at fs place ≡ Some f → AreFunctionTypes fs → (place < length fs) × (is_function f.type ≡ true)
some_within [] place f e h = absurd cc
some_within (g ∷ fs) zero f e h = let same : g ≡ f = cc in (omega arith, subst (λ x. is_function x.type ≡ true) same h.0)
some_within (g ∷ fs) (suc place) f e h = let rest = some_within fs place f e h.1 in (omega (arith, rest.0), rest.1)

some_there : (fs : List Function) (place : ℕ) (f : Function) → function_at fs place ≡ Some f → AreFunctionTypes fs → (nat_lt place (length fs) ≡ true) × (is_function f.type ≡ true)
some_there fs place f e h = let there = some_within fs place f e h in (lt-ltb place (length fs) there.0, there.1)

-- ---- steps

module _ (env : Environment) (d : Decl) (a : Annotated) where
  later : Gives (Adds false d a) (declared_later d >> Fine a)
  later = next_gives (Adds false d a) (declared_later d) (Fine a) refl

  first : (f : Function) (t : CType) → is_function t ≡ true → Gives (Adds true d a) (noted_as env d f t a)
  first f (FunctionOf r ts) e = then_gives (HasCuts (decl_names d)) (Adds true d a) (function_notes env (kind_of f) d r ts) (λ n. Fine (record a { functions = a.functions ++ n ∷ [] })) (function_given env (kind_of f) d r ts) (λ n h. (n, refl, h))
  first f Void e = absurd cc
  first f (Integer k) e = absurd cc
  first f (PointerTo t) e = absurd cc
  first f (ArrayOf n t) e = absurd cc
  first f (StructOf n) e = absurd cc
  first f (UndefinedStruct tag) e = absurd cc

  by_test : (f : Function) (b c : Bool) → c ≡ true → is_function f.type ≡ true → Gives (Adds (not b && c) d a) (if b then (declared_later d >> Fine a) else noted_as env d f f.type a)
  by_test f true c e h = later
  by_test f false true e h = first f f.type h
  by_test f false false e h = absurd cc

  module _ (fs : List Function) (types : AreFunctionTypes fs) (place : ℕ) where
    abbrev Next : Bool
    Next = not (nat_lt place (length a.functions)) && nat_lt place (length fs)

    none : (b c : Bool) → c ≡ false → (not b && c) ≡ false
    none true c e = refl
    none false c e = e

    of_function : (o : Option Function) → function_at fs place ≡ o → Gives (Adds Next d a) (noted_function env d place o a)
    of_function None e = subst (λ q. Adds q d a a) (sym (none (nat_lt place (length a.functions)) (nat_lt place (length fs)) (none_there fs place e))) refl
    of_function (Some f) e = let there = some_there fs place f e types in by_test f (nat_lt place (length a.functions)) (nat_lt place (length fs)) there.0 there.1

  module _ (p : Program) (types : AreFunctionTypes p.functions) where
    of_name : (m : Option Meaning) → Gives (Adds (is_next p (length a.functions) (function_in m)) d a) (noted_name env p d m a)
    of_name (Some (FunctionNamed number t)) = of_function p.functions types (number - 16) (function_at p.functions (number - 16)) refl
    of_name (Some (GlobalNamed place t)) = after_gives (Adds false d a) (global_notes d) (λ g. Fine (record a { guards = a.guards ++ g ∷ [] })) (λ g. refl)
    of_name (Some (LocalNamed place t)) = after_gives (Adds false d a) (global_notes d) (λ g. Fine (record a { guards = a.guards ++ g ∷ [] })) (λ g. refl)
    of_name None = after_gives (Adds false d a) (global_notes d) (λ g. Fine (record a { guards = a.guards ++ g ∷ [] })) (λ g. refl)

pub one_declared : (env : Environment) (p : Program) (d : Decl) (a : Annotated) → AreFunctionTypes p.functions → Gives (Adds (declares_next p (length a.functions) d) d a) (noted env p d a)
one_declared env p (Declare from an b ps n (Members ds)) a types = next_gives (Adds false (Declare from an b ps n (Members ds)) a) (bare_decls ds) (Fine a) refl
one_declared env p (Declare from an b ps n NoRest) a types = of_name env (Declare from an b ps n NoRest) a p types (meaning_in (declared_name n) p.names)
one_declared env p (Declare from an b ps n (Initial v)) a types = of_name env (Declare from an b ps n (Initial v)) a p types (meaning_in (declared_name n) p.names)
one_declared env p (Declare from an b ps n (Body s)) a types = of_name env (Declare from an b ps n (Body s)) a p types (meaning_in (declared_name n) p.names)
