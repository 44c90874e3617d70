use Rattle.std.proofs.Common.{◌≡◌, ℕ, ◌≤◌, List, ◌++◌, length, map, drop, sym, ap, ◌∙◌, arith}
use Rattle.std.proofs.lemmas.List.{append-nil, drop_all}
use Rattle.std.proofs.lemmas.Grind.{common_steps}
use Rattle.c_code.specs.declared.code.FuncInfo.{FuncInfo}
use Rattle.c_builtins.specs.declared.builtin.Builtin.{Builtin}
use Rattle.c_builtins.specs.declared.lookup.TheConstants.{BUILTINS}
use Rattle.c_lower.specs.Lowered.{builtin_info}
use Rattle.c_lower.proofs.functions.builtin_infos.Goals as goal

-- all builtins, where none is left
builtins_whole : (f : Builtin → FuncInfo) (bs : List Builtin) (k : ℕ) (is all : List FuncInfo) → length bs ≤ k → is ++ map f (drop k bs) ≡ all → is ≡ all
builtins_whole f bs k is all end so_far = sym (append-nil is) ∙ (ap (λ (l : List Builtin). is ++ map f l) (sym (drop_all k bs end)) ∙ so_far)

pub loop-builtin-preserved : goal.loop-builtin-preserved
loop-builtin-preserved c = λ p. let so_far = c.loop-builtin.invariant p in let this = c.in_ok-builtin_info.ensures p in grind (arith, common_steps)

pub returns : goal.returns
returns c = λ p. builtins_whole (builtin_info p) BUILTINS c.loop-builtin.builtin-index c.loop-builtin.infos.items (map (builtin_info p) BUILTINS) c.loop-builtin-test.false (c.loop-builtin.invariant p)
