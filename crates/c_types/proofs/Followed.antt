-- How what is declared goes on where the environment does.
use Rattle.std.proofs.Common.{◌||◌, ◌≡◌, Bool, true, false, [], ◌∷◌, map, Ok, sym, ap, ◌∙◌, subst}
use Rattle.std.specs.List.{All}
use Rattle.c_scopes.specs.Scopes.{innermost}
use Rattle.c_types_rules.specs.Checked.{Checked, Fine, Noted, Broken, Notes}
use Rattle.c_types_rules.specs.Limits.{all_keep, few_members}
use Rattle.c_types_rules.specs.Sources.{at_file}
use Rattle.c_types_program.specs.Declarations.{function_in, global_in}
use Rattle.c_types_environment.specs.States.{State}
use Rattle.c_types_expressions.specs.Found.{Found, Stays}
use Rattle.c_types.specs.declared.declarations.Declarations.{Declarations}
use Rattle.c_types.specs.States.{IsAligned, IsSound, program_of}
use Rattle.c_types_source.specs.Sources.{IsSmall}
use Rattle.c_types_source.proofs.Grown.{are_functions_kept, are_globals_kept, functions_kept, globals_kept}

-- the same declarations in an environment that went on
abbrev pub going_on : Declarations → State → Declarations
going_on d s = record d { env = s }

-- what is found large stays so
pub small_before : {A B : Type 0} (f g : Notes) (is : A → B → Type 0) (c : Checked A) (y : B) → Found f g is c (Ok y) → g.large ≡ false → f.large ≡ false
small_before f g is (Fine x) y h e = sym (ap (λ n. n.large) h.1) ∙ e
small_before f g is (Noted n x) y h e = neither n.large f.large (sym (ap (λ m. m.large) h.1) ∙ e)
  where
    neither : (a b : Bool) → (a || b) ≡ false → b ≡ false
    neither true b w = absurd cc
    neither false b w = w
small_before f g is (Broken from rule) y h e = absurd h

module _ (d : Declarations) (s : State) (k : Stays d.env s) (h : IsSound d) where
  pub sound_on : (s.found_large ≡ false → d.env.found_large ≡ false) → IsSound (going_on d s)
  sound_on before = record {
    functions = are_functions_kept d.env.table s.table k.numbers d.functions.items h.functions;
    globals = are_globals_kept d.env.table s.table k.numbers d.globals.items h.globals;
    members = h.members ∙ ap (λ e. all_keep few_members e.structs) (sym k.env);
    small = λ e. subst (λ n. All IsSmall n.structs) (sym k.env) (h.small (before e));
    aligned = subst (λ n. All IsAligned n.structs) (sym k.env) h.aligned;
    outermost = subst (λ n. n.scopes ≡ innermost n.scopes ∷ []) (sym k.env) h.outermost;
  }

  -- it is the same program
  pub program_on : program_of (going_on d s) ≡ program_of d
  program_on =
      ap (λ e. record { structs = e.structs; functions = map (function_in s.table) d.functions.items; globals = map (global_in s.table) d.globals.items; names = innermost e.scopes }) k.env
      ∙ (ap (λ fs. record { structs = d.env.env.structs; functions = fs; globals = map (global_in s.table) d.globals.items; names = innermost d.env.env.scopes }) (functions_kept d.env.table s.table k.numbers d.functions.items h.functions)
      ∙ ap (λ gs. record { structs = d.env.env.structs; functions = map (function_in d.env.table) d.functions.items; globals = gs; names = innermost d.env.env.scopes }) (globals_kept d.env.table s.table k.numbers d.globals.items h.globals))

-- what is declared at file scope
pub at_file_is : (d : Declarations) → IsSound d → at_file d.env.env.tags (program_of d) ≡ d.env.env
at_file_is d h = ap (λ ss. record { tags = d.env.env.tags; structs = d.env.env.structs; scopes = ss }) (sym h.outermost)
