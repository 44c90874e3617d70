-- The function `main` of a program and of its code.
use Rattle.std.proofs.Common.{◌≡◌, ◌<◌, ℕ, zero, suc, ◌+◌, false, not, cond, List, [], ◌∷◌, length, map, get_or, refl, sym, ap, ◌∙◌, arith}
use Rattle.std.specs.List.{position_or_len}
use Rattle.std.proofs.lemmas.List.{length-map}
use Rattle.c_builtins.specs.Table.{first_source_function}
use Rattle.c_types_nodes.specs.Tables.{Table}
use Rattle.c_types_program.specs.declared.function.Function.{Function}
use Rattle.c_types_program.specs.Declarations.{Declared, function_in}
use Rattle.c_types_program.specs.Programs.{IsProgram}
use Rattle.c_types_rules.specs.Sources as sources
use Rattle.c_types_rules.specs.Sources.{Program}
use Rattle.cut_check.specs.Sources.{is_main, is_named_main, main_of}

-- where no function is main
pub nowhere : (fs : List Function) → ((k : ℕ) (d : Function) → k < length fs → is_named_main (get_or fs k d) ≡ false) → position_or_len is_named_main fs ≡ length fs
nowhere [] h = refl
nowhere (f ∷ fs) h =
    let other : is_named_main f ≡ false = h zero f (omega arith) in
    let rest = nowhere fs (λ k d l. h (suc k) d (omega (arith, l))) in
    ap (λ b. cond (not b) (1 + position_or_len is_named_main fs) 0) other ∙ omega (arith, rest)

same_place : (t : Table) (fs : List Function) → position_or_len is_named_main fs ≡ position_or_len is_main (map (function_in t) fs)
same_place t [] = refl
same_place t (f ∷ fs) = ap (λ n. cond (not (is_named_main f)) (1 + n) 0) (same_place t fs)

functions_are : (d : Declared) (p : Program) → IsProgram d p → map (function_in d.table) d.functions ≡ p.functions
functions_are d p is = ap (λ (q : Program). q.functions) is

pub main_place_is : (d : Declared) (p : Program) → IsProgram d p → position_or_len is_named_main d.functions ≡ position_or_len is_main p.functions
main_place_is d p is = same_place d.table d.functions ∙ ap (λ (fs : List sources.Function). position_or_len is_main fs) (functions_are d p is)

pub main_is : (d : Declared) (p : Program) → IsProgram d p → first_source_function + position_or_len is_named_main d.functions ≡ main_of p
main_is d p is = ap (λ n. first_source_function + n) (main_place_is d p is)

pub function_count : (d : Declared) (p : Program) → IsProgram d p → length d.functions ≡ length p.functions
function_count d p is = sym (length-map d.functions (function_in d.table)) ∙ ap length (functions_are d p is)
