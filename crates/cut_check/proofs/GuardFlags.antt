-- What is found of guards, by flags of the functions of a source.
use Rattle.std.proofs.Common.{◌≡◌, ◌<◌, ℕ, suc, ◌+◌, ◌-◌, Bool, false, List, [], ◌∷◌, ◌++◌, length, map, Some, zero-add, refl, sym, ap, ◌∙◌, arith}
use Rattle.std.specs.Prelude.{if◌then◌else◌, nat_lt, slice_get}
use Rattle.std.specs.List.{range_with_len}
use Rattle.std.proofs.lemmas.Bool.{le-ltb}
use Rattle.std.proofs.lemmas.List.{length-map}
use Rattle.std.proofs.lemmas.List.FromFn.{get_or-map-range_with_len, length-map-range_with_len}
use Rattle.std.proofs.lemmas.Option.{slice_get-get_or}
use Rattle.annot_reader_rules.specs.Notes.{Annotated}
use Rattle.annot_reader.specs.Interface.{Interface}
use Rattle.annot_reader.specs.Interfaces.{IsRead}
use Rattle.c_builtins.specs.Table.{first_source_function}
use Rattle.c_scopes.specs.Scopes.{Scope}
use Rattle.c_types_program.specs.Declarations.{Declared, function_in, global_in}
use Rattle.c_types_program.specs.Programs.{IsProgram, program_in}
use Rattle.c_types_rules.specs.Environment.{Meaning}
use Rattle.c_types_rules.specs.Sources.{Function, Program}
use Rattle.front_end_laws.specs.Annotations.{SayOfAll}
use Rattle.lockset_check_rules.specs.declared.finding.LockFinding.{LockFinding}
use Rattle.lockset_check_rules.specs.Annotations.{guarded}
use Rattle.lockset_check_rules.specs.Guards.{Guarded}
use Rattle.lockset_check_rules.specs.Sources.{functions_found, globals_found, is_any_guarded, source_found}
use Rattle.lockset_check_bodies.specs.Runs.{runs_by}
use Rattle.lockset_check.specs.Answers.{guarded_by}
use Rattle.cut_check.proofs.MainPlace.{function_count}

-- ---- flags of the functions of a source

flagged : (bs : List Bool) (number k : ℕ) (b : Bool) → nat_lt number first_source_function ≡ false → number - first_source_function ≡ k → slice_get bs k ≡ Some b → runs_by bs number ≡ b
flagged bs number k b source place at = rw source (rw place (rw at refl))

listed : (g : ℕ → Bool) (n k : ℕ) → k < n → slice_get (map g (range_with_len 0 n)) k ≡ Some (g k)
listed g n k l =
    let all : length (map g (range_with_len 0 n)) ≡ n = length-map-range_with_len g 0 n in
    slice_get-get_or (map g (range_with_len 0 n)) k (g k) (omega (arith, all, l)) ∙ ap (λ (b : Bool). Some b) (get_or-map-range_with_len g 0 n k k (g k) l (zero-add k))

-- those of the first functions
pub flags_say : (runs : ℕ → Bool) (n : ℕ) (bs : List Bool) → bs ≡ map (λ (place : ℕ). runs (first_source_function + place)) (range_with_len 0 n) → (k : ℕ) → k < n
    → runs_by bs (first_source_function + k) ≡ runs (first_source_function + k)
flags_say runs n bs e k l =
    flagged bs (first_source_function + k) k (runs (first_source_function + k)) (le-ltb (first_source_function + k) first_source_function (omega arith)) (omega arith)
    (ap (λ (cs : List Bool). slice_get cs k) e ∙ listed (λ (place : ℕ). runs (first_source_function + place)) n k l)

-- ---- the same flags

same_part : (b c : Bool) (found rest more : List LockFinding) → b ≡ c → rest ≡ more → (if b then found else []) ++ rest ≡ (if c then found else []) ++ more
same_part b c found rest more e f = ap (λ (x : Bool). (if x then found else []) ++ rest) e ∙ ap (λ (ls : List LockFinding). (if c then found else []) ++ ls) f

module _ (r : Guarded) (f g : ℕ → Bool) where
  functions_same : (number : ℕ) (fs : List Function) → ((k : ℕ) → k < length fs → f (number + k) ≡ g (number + k)) → functions_found r f number fs ≡ functions_found r g number fs
  functions_same number [] same = refl
  functions_same number (h ∷ hs) same =
      let first : number ≡ number + 0 = omega arith in
      let here : f number ≡ g number = ap f first ∙ (same 0 (omega arith) ∙ ap g (sym first)) in
      let rest : functions_found r f (suc number) hs ≡ functions_found r g (suc number) hs =
      functions_same (suc number) hs (λ k l. let next : suc number + k ≡ number + suc k = omega arith in ap f next ∙ (same (suc k) (omega (arith, l)) ∙ ap g (sym next))) in
      same_part (f number) (g number) _ _ _ here rest

  pub source_same : ((k : ℕ) → k < length r.functions → f (first_source_function + k) ≡ g (first_source_function + k)) → source_found r f ≡ source_found r g
  source_same same =
      ap (λ (ls : List LockFinding). if is_any_guarded r 0 r.globals then ls ++ globals_found r r.globals else []) (functions_same first_source_function r.functions same)

-- ---- guards

pub global_count : (d : Declared) (p : Program) → IsProgram d p → length d.globals ≡ length p.globals
global_count d p is =
    let same : map (global_in d.table) d.globals ≡ p.globals = ap (λ (q : Program). q.globals) is in
    sym (length-map d.globals (global_in d.table)) ∙ ap length same

abbrev pub GuardsSay : Type 0
GuardsSay = (cut : List ℕ) (a : Annotated) (p : Declared) (names : Scope Meaning) (i : Interface) →
    IsRead cut a i → length a.functions ≡ length p.functions → length a.guards ≡ length p.globals → guarded_by p i ≡ guarded (program_in p names) a

-- what the check rests on is what the annotations of the source say
pub guards_are : GuardsSay → (cut : List ℕ) (d : Declared) (p : Program) (a : Annotated) (i : Interface) → IsProgram d p → IsRead cut a i → SayOfAll p a → guarded_by d i ≡ guarded p a
guards_are law cut d p a i is read said =
    law cut a d p.names i read (said.functions ∙ sym (function_count d p is)) (said.globals ∙ sym (global_count d p is)) ∙ ap (λ (q : Program). guarded q a) is

-- what is found by the flags of the functions of a program
pub found_same : (d : Declared) (i : Interface) (runs : ℕ → Bool) (n : ℕ) (bs : List Bool) → n ≡ length d.functions → bs ≡ map (λ (place : ℕ). runs (first_source_function + place)) (range_with_len 0 n)
    → source_found (guarded_by d i) (runs_by bs) ≡ source_found (guarded_by d i) runs
found_same d i runs n bs count e =
    let all : length (map (function_in d.table) d.functions) ≡ length d.functions = length-map d.functions (function_in d.table) in
    source_same (guarded_by d i) (runs_by bs) runs (λ k l. let inside : k < length (map (function_in d.table) d.functions) = l in flags_say runs n bs e k (omega (arith, inside, all, count)))
