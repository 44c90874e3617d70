-- The code of all functions, where none is left.
use Rattle.std.proofs.Common.{◌≡◌, ℕ, ◌≤◌, List, ◌++◌, length, drop, sym, ap, ◌∙◌}
use Rattle.std.proofs.lemmas.List.{append-nil, drop_all}
use Rattle.c_code.specs.declared.code.FuncInfo.{FuncInfo}
use Rattle.c_code.specs.declared.instr.Instr.{Instr}
use Rattle.c_types_program.specs.declared.function.Function.{Function}
use Rattle.c_types_program.specs.Declarations.{Declared}
use Rattle.c_lower.specs.Lowered.{codes_of, infos_from}

module _ (p : Declared) (fs : List Function) (k : ℕ) where
  pub infos_whole : (ss all : List FuncInfo) (n : ℕ) → length fs ≤ k → ss ++ infos_from p n (drop k fs) ≡ all → ss ≡ all
  infos_whole ss all n end so_far = sym (append-nil ss) ∙ (ap (λ (gs : List Function). ss ++ infos_from p n gs) (sym (drop_all k fs end)) ∙ so_far)

  pub codes_whole : (is all : List Instr) → length fs ≤ k → is ++ codes_of p (drop k fs) ≡ all → is ≡ all
  codes_whole is all end so_far = sym (append-nil is) ∙ (ap (λ (gs : List Function). is ++ codes_of p gs) (sym (drop_all k fs end)) ∙ so_far)
