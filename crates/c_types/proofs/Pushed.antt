-- One more name, function or global.
use Rattle.std.proofs.Common.{◌≡◌, ℕ, Bool, false, not, is_some, List, [], ◌∷◌, ◌++◌, map, None, Ok, Err, refl, sym, ap, ◌∙◌, subst}
use Rattle.std.proofs.lemmas.List.{map-append}
use Rattle.std.specs.List.{All}
use Rattle.std.proofs.lemmas.List.Elements.{All-nil, All-cons, All-append}
use Rattle.c_scopes.specs.Scopes.{Scope, declared, innermost, meaning_in}
use Rattle.c_types_rules.specs.Checked.{Checked, Fine, Noted, Broken, keep, ◌>>◌}
use Rattle.c_types_rules.specs.Environment.{Environment, Meaning, declarable, is_reserved, with_name}
use Rattle.c_types_rules.specs.Sources.{at_file}
use Rattle.c_types_operators.specs.declared.error.TypeError.{TypeError}
use Rattle.c_types_operators.specs.declared.error.TypeError.TheVariants.{Rule, Memory}
use Rattle.c_types_operators.specs.Answers.{Agrees}
use Rattle.c_types_program.specs.declared.function.Function.{Function}
use Rattle.c_types_program.specs.declared.global.Global.{Global}
use Rattle.c_types_program.specs.Declarations.{IsFunction, IsGlobal, function_in, global_in}
use Rattle.c_types_environment.specs.States.{State, notes_of}
use Rattle.c_types.specs.declared.declarations.Declarations.{Declarations}
use Rattle.c_types.specs.States.{GoesOn, IsSound, program_of}
use Rattle.c_types_expressions.proofs.Kept.{same_table}
use Rattle.c_types.proofs.Followed.{going_on}

-- ---- names

-- the environment with one more name
abbrev pub with_one : State → List ℕ → Meaning → State
with_one s name m = record s { env = with_name s.env name m }

declared_alone : (name : List ℕ) (m : Meaning) (scopes : List (Scope Meaning)) → scopes ≡ innermost scopes ∷ [] → declared name m scopes ≡ ((name, m) ∷ innermost scopes) ∷ []
declared_alone name m scopes e = ap (declared name m) e

module _ (d : Declarations) (s : State) (name : List ℕ) (m : Meaning) (h : IsSound d) (e : s ≡ with_one d.env name m) where
  scopes_are : (with_one d.env name m).env.scopes ≡ ((name, m) ∷ innermost d.env.env.scopes) ∷ []
  scopes_are = declared_alone name m d.env.env.scopes h.outermost

  named_here : IsSound (going_on d (with_one d.env name m))
  named_here = record {
    functions = h.functions;
    globals = h.globals;
    members = h.members;
    small = h.small;
    aligned = h.aligned;
    outermost = scopes_are ∙ ap (λ x. x ∷ []) (sym (ap innermost scopes_are));
  }

  pub named_sound : IsSound (going_on d s)
  named_sound = subst (λ x. IsSound (going_on d x)) (sym e) named_here

  pub named_program : program_of (going_on d s) ≡ record (program_of d) { names = (name, m) ∷ (program_of d).names }
  named_program =
      ap (λ x. program_of (going_on d x)) e
      ∙ ap (λ ns. record (program_of d) { names = innermost ns }) scopes_are

  pub named_goes : GoesOn d (going_on d s)
  named_goes = subst (λ x. GoesOn d (going_on d x)) (sym e) (record { tags = refl; numbers = same_table d.env.table; sound = named_here })

  pub named_notes : notes_of s ≡ notes_of d.env
  named_notes = ap notes_of e

  -- what is declared at file scope
  pub named_file : at_file d.env.env.tags (record (program_of d) { names = (name, m) ∷ (program_of d).names }) ≡ s.env
  named_file = ap (λ ns. record { tags = d.env.env.tags; structs = d.env.env.structs; scopes = ns }) (sym scopes_are) ∙ ap (λ x. x.env) (sym e)

tests : {A : Type 0} → (from : ℕ) → (reserved taken : Bool) → Checked A → Checked A
tests from reserved taken c = keep from 19 (not reserved) >> (keep from 1 (not taken) >> c)

-- a name that may be declared
pub may_be_declared : (env : Environment) (from : ℕ) (name : List ℕ) → is_reserved name ≡ false → meaning_in name (innermost env.scopes) ≡ None → declarable env from name ≡ Fine tt
may_be_declared env from name e h =
    ap (λ b. keep from 19 (not b) >> keep from 1 (not (is_some (meaning_in name (innermost env.scopes))))) e
    ∙ ap (λ o. keep from 1 (not (is_some o))) h

-- what a step says that breaks nothing
pub agreed : {P : Type 0} → (c : Checked (Unit {0})) → Agrees {A = Unit {0}} {B = Unit {0}} (λ _ _. P) c (Ok tt) → P
agreed (Fine x) h = h
agreed (Noted n x) h = absurd h
agreed (Broken from rule) h = absurd h

-- where nothing is broken the answer is out of memory
pub only_memory : {A B : Type 0} (is : A → B → Type 0) (c : Checked A) (x : A) (e : TypeError) → c ≡ Fine x → Agrees is c (Err e) → e ≡ Memory
only_memory is c x Memory h p = refl
only_memory is (Fine y) x (Rule a b) h p = absurd p
only_memory is (Noted n y) x (Rule a b) h p = absurd p
only_memory is (Broken from rule) x (Rule a b) h p = absurd cc

pub no_rule_here : (s t : State) (c : Checked (Unit {0})) (x : TypeError) → c ≡ Fine tt → Agrees {A = Unit {0}} {B = Unit {0}} (λ _ _. s ≡ t) c (Err x) → x ≡ Memory
no_rule_here s t c x e h = only_memory {A = Unit {0}} {B = Unit {0}} (λ _ _. s ≡ t) c tt x e h

-- ---- functions

module _ (d : Declarations) (f : Function) (n : Declarations) (h : IsSound d) (g : IsFunction d.env.table f) (same : n ≡ record d { functions = n.functions }) (e : n.functions.items ≡ d.functions.items ++ f ∷ []) where
  function_pushed_sound : IsSound (record d { functions = n.functions })
  function_pushed_sound = record {
    functions = subst (All (IsFunction d.env.table)) (sym e) (All-append (IsFunction d.env.table) d.functions.items (f ∷ []) h.functions (All-cons (IsFunction d.env.table) f [] g (All-nil (IsFunction d.env.table))));
    globals = h.globals;
    members = h.members;
    small = h.small;
    aligned = h.aligned;
    outermost = h.outermost;
  }

  pub function_goes : GoesOn d n
  function_goes = subst (GoesOn d) (sym same) (record { tags = refl; numbers = same_table d.env.table; sound = function_pushed_sound })

  pub function_program : program_of n ≡ record (program_of d) { functions = (program_of d).functions ++ function_in d.env.table f ∷ [] }
  function_program =
      ap program_of same
      ∙ ap (λ fs. record (program_of d) { functions = fs }) (ap (map (function_in d.env.table)) e ∙ map-append (function_in d.env.table) d.functions.items (f ∷ []))

-- ---- globals

module _ (d : Declarations) (g : Global) (n : Declarations) (h : IsSound d) (b : IsGlobal d.env.table g) (same : n ≡ record d { globals = n.globals }) (e : n.globals.items ≡ d.globals.items ++ g ∷ []) where
  global_pushed_sound : IsSound (record d { globals = n.globals })
  global_pushed_sound = record {
    functions = h.functions;
    globals = subst (All (IsGlobal d.env.table)) (sym e) (All-append (IsGlobal d.env.table) d.globals.items (g ∷ []) h.globals (All-cons (IsGlobal d.env.table) g [] b (All-nil (IsGlobal d.env.table))));
    members = h.members;
    small = h.small;
    aligned = h.aligned;
    outermost = h.outermost;
  }

  pub global_goes : GoesOn d n
  global_goes = subst (GoesOn d) (sym same) (record { tags = refl; numbers = same_table d.env.table; sound = global_pushed_sound })

  pub global_program : program_of n ≡ record (program_of d) { globals = (program_of d).globals ++ global_in d.env.table g ∷ [] }
  global_program =
      ap program_of same
      ∙ ap (λ gs. record (program_of d) { globals = gs }) (ap (map (global_in d.env.table)) e ∙ map-append (global_in d.env.table) d.globals.items (g ∷ []))
