-- Code has the names that the source declares.
use Rattle.std.proofs.Common.{◌≡◌, ℕ, zero, suc, ◌+◌, ◌-◌, Bool, true, false, cond, List, [], ◌∷◌, length, map, Option, refl, ap, ◌∙◌}
use Rattle.std.specs.Prelude.{slice_get, nat_lt}
use Rattle.c_builtins.specs.declared.builtin.Builtin.{Builtin}
use Rattle.c_builtins.specs.declared.lookup.TheConstants.{BUILTINS}
use Rattle.c_builtins.specs.Table.{first_source_function}
use Rattle.c_code.specs.declared.code.FuncInfo.{FuncInfo}
use Rattle.c_lower.specs.Lowered.{builtin_info, code_of, infos_from, lowered}
use Rattle.c_types_nodes.specs.Tables.{Table}
use Rattle.c_types_program.specs.declared.function.Function.{Function}
use Rattle.c_types_program.specs.Declarations.{Declared, function_in}
use Rattle.c_types_program.specs.Programs.{IsProgram}
use Rattle.c_types_rules.specs.Sources as sources
use Rattle.c_types_rules.specs.Sources.{Program}
use Rattle.annot_reader.specs.Builtins.{builtins_by_number}
use Rattle.stub_texts.specs.Texts.{name_in, names_in}
use Rattle.cut_check.specs.Stubs.{builtin_name, function_name, names_of}

builtin_named : (d : Declared) (bs : List Builtin) (k : ℕ) → name_in (slice_get (map (builtin_info d) bs) k) ≡ builtin_name (slice_get bs k)
builtin_named d [] k = refl
builtin_named d (b ∷ bs) zero = refl
builtin_named d (b ∷ bs) (suc k) = builtin_named d bs k

function_named : (d : Declared) (t : Table) (fs : List Function) (at k : ℕ) → name_in (slice_get (infos_from d at fs) k) ≡ function_name (slice_get (map (function_in t) fs) k)
function_named d t [] at k = refl
function_named d t (f ∷ fs) at zero = refl
function_named d t (f ∷ fs) at (suc k) = function_named d t fs (at + length (code_of d f.body)) k

either_named : (b : Bool) (x y : Option FuncInfo) (v w : List ℕ) → name_in x ≡ v → name_in y ≡ w → name_in (cond b x y) ≡ cond b v w
either_named true x y v w e f = e
either_named false x y v w e f = f

listed : (k : ℕ) → builtin_name (slice_get BUILTINS k) ≡ builtin_name (slice_get builtins_by_number k)
listed k = refl

named : (d : Declared) (p : Program) → IsProgram d p → (number : ℕ) → names_in (lowered d) number ≡ names_of p number
named d p is number =
    let k = number - first_source_function in
    let declared : map (function_in d.table) d.functions ≡ p.functions = ap (λ (q : Program). q.functions) is in
    either_named (nat_lt number first_source_function) _ _ _ _
    (builtin_named d BUILTINS number ∙ listed number)
    (function_named d d.table d.functions 0 k ∙ ap (λ (fs : List sources.Function). function_name (slice_get fs k)) declared)

pub names_are : (d : Declared) (p : Program) → IsProgram d p → names_in (lowered d) ≡ names_of p
names_are d p is = λ j number. named d p is number j
