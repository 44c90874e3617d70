-- A file, line by line.
use Rattle.std.proofs.Common.{◌≡◌, ℕ, ◌+◌, List, [], ◌∷◌, length, Option, Some, None, refl, sym, ap, ◌∙◌, arith}
use Rattle.sys_script_lines.specs.declared.externals.External.{External}
use Rattle.sys_script_lines.specs.Parts.{parts}
use Rattle.sys_script_lines.specs.Scripts.{SaidSoFar, Breaks, after_line, goes_on, script}
use Rattle.sys_script_lines.proofs.Cuts.{first_part}

on_parts : (who : List ℕ → Option External) (line : ℕ) (s : SaidSoFar) (text next : List ℕ) (texts more : List (List ℕ)) → more ≡ next ∷ texts
    → script who line s (text ∷ more) ≡ goes_on line (after_line who s text) (λ t. script who (line + 1) t more)
on_parts who line s text next texts more is =
    ap (λ ps. script who line s (text ∷ ps)) is ∙ ap (λ ps. goes_on line (after_line who s text) (λ t. script who (line + 1) t ps)) (sym is)

-- a line with its end, and what follows it
one_line : (who : List ℕ → Option External) (line : ℕ) (s : SaidSoFar) (text rest : List ℕ) → script who line s (text ∷ parts 10 rest) ≡ goes_on line (after_line who s text) (λ t. script who (line + 1) t (parts 10 rest))
one_line who line s text rest = let p = first_part 10 rest in on_parts who line s text p.0 p.1.0 (parts 10 rest) p.1.1

pub line_read : (who : List ℕ → Option External) (line : ℕ) (s t : SaidSoFar) (all text rest : List ℕ) → parts 10 all ≡ text ∷ parts 10 rest → after_line who s text ≡ Some t
    → script who (line + 1) t (parts 10 rest) ≡ script who line s (parts 10 all)
line_read who line s t all text rest is said =
    sym (ap (script who line s) is ∙ (one_line who line s text rest ∙ ap (λ o. goes_on line o (λ u. script who (line + 1) u (parts 10 rest))) said))

pub line_wrong : (who : List ℕ → Option External) (line : ℕ) (s : SaidSoFar) (all text rest : List ℕ) → parts 10 all ≡ text ∷ parts 10 rest → after_line who s text ≡ None → script who line s (parts 10 all) ≡ Breaks line
line_wrong who line s all text rest is said =
    ap (script who line s) is ∙ (one_line who line s text rest ∙ ap (λ o. goes_on line o (λ u. script who (line + 1) u (parts 10 rest))) said)

-- an empty line says nothing
pub nothing_said : (who : List ℕ → Option External) (s : SaidSoFar) (text : List ℕ) → length text ≡ 0 → after_line who s text ≡ Some s
nothing_said who s [] none = refl
nothing_said who s (b ∷ bs) none = absurd (omega (arith, none))
