-- The code of an accepted source is fit.
use Rattle.std.proofs.Common.{◌≡◌, ℕ, List, [], map, None, refl, sym, ap, ◌∙◌, subst}
use Rattle.memory_map.specs.declared.placed.Placed.{Placed}
use Rattle.c_syntax.specs.Syntax.{Decls}
use Rattle.c_code.specs.Machine.{Flat}
use Rattle.c_code.specs.Typed.{KeepsTypes}
use Rattle.c_code.specs.Valid.{IsSteady, IsValid}
use Rattle.c_types_model.specs.Types.{CType}
use Rattle.c_builtins.specs.declared.lookup.TheConstants.{BUILTINS}
use Rattle.c_types_rules.specs.Limits.{Typed, outcome}
use Rattle.c_types_rules.specs.Sources.{Program}
use Rattle.c_types_program.specs.Declarations.{Declared}
use Rattle.c_types_program.specs.Programs.{IsProgram, program_in, texts_in}
use Rattle.c_semantics.specs.Context.{Source}
use Rattle.c_lower_placement.specs.Laws.{IsMadeOf}
use Rattle.c_lower_laws.specs.Fits.{IsFit}
use Rattle.c_lower.specs.Depths.{first_wide, functions_in}
use Rattle.c_lower.specs.Lowered.{builtin_info, codes_of, infos_from}
use Rattle.c_lower.proofs.Valid.{valid_made}
use Rattle.front_end.specs.declared.source.CheckedSource.{CheckedSource}
use Rattle.whole_runs.specs.Fits.{IsFitCode}
use Rattle.whole_runs_sources.specs.Laws.{IsPlacedAs, laid_at}
use Rattle.whole_runs_sources.proofs.Facts.{is_code, is_of, none_wide}
use Rattle.whole_runs_sources.proofs.Main.{has_main}

module _ (bytes cut : List ℕ) (c : CheckedSource) (q : Placed) (h : IsPlacedAs bytes cut c q)
    (fits : (ds : Decls) (p : Program) (d : Declared) → outcome ds ≡ Typed p → IsProgram d p → IsFit d)
    (steady : (s : Source) (code : Flat) (sig : CType → ℕ) (height : ℕ → ℕ) → IsMadeOf s code sig height → IsSteady code height) where
  abbrev d : Declared
  d = c.program

  pub fit : IsFit d
  fit = fits h.says.right.ds h.program d h.says.declares (is_of bytes cut c q h).program

  few : first_wide 0 (functions_in d) ≡ None
  few = ap (λ (r : Program). first_wide 0 r.functions) (is_of bytes cut c q h).program ∙ none_wide bytes cut h.program h.annotated h.says

  pub valid : IsValid c.code
  valid = subst IsValid (sym (is_of bytes cut c q h).code) (valid_made d (map (builtin_info d) BUILTINS) (infos_from d 0 d.functions) (codes_of d d.functions) refl refl refl fit few steady)

  keeps : KeepsTypes (laid_at c q)
  keeps = (is_code bytes cut c q h).keeps (record { program = program_in d []; texts = texts_in d.texts; placed = q }) (record { program = refl; texts = refl })

  pub fit_code : IsFitCode (laid_at c q)
  fit_code = record { valid = valid; main = has_main bytes cut c q h; typed = keeps }
