-- The depths of a typed source are those that its syntax says.
use Rattle.std.proofs.Common.{◌≡◌, ℕ, zero, suc, ◌+◌, max, true, cond, List, [], ◌∷◌, map, Option, Some, None, refl, ap, ◌∙◌, subst, arith}
use Rattle.std.specs.Prelude.{not, nat_lt}
use Rattle.std.specs.Option.{option_map}
use Rattle.source_limits.specs.Limits.{most_values}
use Rattle.c_syntax.specs.Syntax.{Decls}
use Rattle.c_builtins.specs.Table.{first_source_function}
use Rattle.c_types_rules.specs.Checked.{Checked, Fine, Noted, Broken}
use Rattle.c_types_rules.specs.Limits.{Typed, Which, decided, first_limit, outcome, unless}
use Rattle.c_types_rules.specs.Sources.{Function, Program, program}
use Rattle.c_types_rules.specs.TypedTree.{Body}
use Rattle.c_types_program.specs.Declarations.{Declared}
use Rattle.c_types_program.specs.Programs.{IsProgram}
use Rattle.c_lower.specs.Depths.{body_depth, first_wide, functions_in, is_wide}
use Rattle.c_lower_depth_laws.specs.Functions.{Row, first_wide_row, functions_of, is_wide_row}
use Rattle.c_lower_depth_laws.specs.Laws.{row_of, typed_body_depth}
use Rattle.c_lower_laws.proofs.Held.{Holds}
use Rattle.c_lower_depth_laws.proofs.Programs.{Rows, source_matches}

kept_unless : (fs : List Row) (q p : Program) (w : Option Which) → Rows fs q → unless q w ≡ Typed p → Rows fs p
kept_unless fs q p None h e = let is : q ≡ p = cc in subst (Rows fs) is h
kept_unless fs q p (Some w) h e = absurd cc

kept_decided : (fs : List Row) (c : Checked Program) (p : Program) → Holds (Rows fs) c → decided c ≡ Typed p → Rows fs p
kept_decided fs (Fine q) p h e = kept_unless fs q p (first_limit true q) h e
kept_decided fs (Noted n q) p h e = kept_unless fs q p (first_limit (not n.large) q) h e
kept_decided fs (Broken from rule) p h e = absurd cc

pub depths_are_counted : (ds : Decls) (p : Program) → outcome ds ≡ Typed p → map row_of p.functions ≡ functions_of ds
depths_are_counted ds p e = kept_decided (functions_of ds) (program ds) p (source_matches ds) e

-- ---- the first that is too deep

deep_alike : (n : ℕ) → nat_lt most_values n ≡ nat_lt most_values (max 1 n)
deep_alike zero = refl
deep_alike (suc n) = let e : suc n ≡ max 1 (suc n) = omega arith in ap (nat_lt most_values) e

wide_alike : (o : Option Body) → is_wide o ≡ is_wide_row (option_map typed_body_depth o)
wide_alike None = refl
wide_alike (Some b) = deep_alike (body_depth b)

first_alike : (place : ℕ) (fs : List Function) → first_wide place fs ≡ first_wide_row place (map row_of fs)
first_alike place [] = refl
first_alike place (f ∷ fs) = ap (λ b. cond b (Some (first_source_function + place)) (first_wide (suc place) fs)) (wide_alike f.body) ∙ ap (cond (is_wide_row (option_map typed_body_depth f.body)) (Some (first_source_function + place))) (first_alike (suc place) fs)

pub first_is_counted : (ds : Decls) (p : Program) → outcome ds ≡ Typed p → first_wide 0 p.functions ≡ first_wide_row 0 (functions_of ds)
first_is_counted ds p e = first_alike 0 p.functions ∙ ap (first_wide_row 0) (depths_are_counted ds p e)

-- of a program that is what the source declares
pub first_in_is_counted : (ds : Decls) (p : Program) (d : Declared) → outcome ds ≡ Typed p → IsProgram d p → first_wide 0 (functions_in d) ≡ first_wide_row 0 (functions_of ds)
first_in_is_counted ds p d e is = ap (λ (q : Program). first_wide 0 q.functions) is ∙ first_is_counted ds p e
