-- Each function that code calls by name has flags.
use Rattle.std.proofs.Common.{◌≡◌, ◌≤◌, ◌<◌, ℕ, ◌+◌, ◌-◌, Bool, true, false, cond, List, length, Some, refl, ap, ◌∙◌, arith}
use Rattle.std.specs.Prelude.{ltb, slice_get}
use Rattle.std.proofs.lemmas.Bool.{ltb-false, ltb-true}
use Rattle.std.proofs.lemmas.Option.{slice_get_within}
use Rattle.memory_map.specs.declared.placed.Placed.{Placed}
use Rattle.c_builtins.specs.Table.{first_source_function}
use Rattle.c_code.specs.declared.code.FuncInfo.{FuncInfo}
use Rattle.c_code.specs.declared.instr.Instr.TheVariants as instr
use Rattle.c_code.specs.Machine.{Flat, func_of}
use Rattle.c_code.specs.Valid.{IsValid}
use Rattle.c_lower.proofs.Laid.{infos_counted}
use Rattle.cut_check.proofs.MainPlace.{function_count}
use Rattle.front_end.specs.declared.source.CheckedSource.{CheckedSource}
use Rattle.whole_runs.specs.Fits.{PlacesFunctions}
use Rattle.whole_runs_sources.specs.Laws.{IsPlacedAs, laid_at}
use Rattle.whole_runs_sources.proofs.Facts.{is_of}

-- the number of a function that code knows
number_of_known : (code : Flat) (f : ℕ) (info : FuncInfo) → func_of code f ≡ Some info → f < first_source_function + length code.sources
number_of_known code f info e = by (ltb f 16) refl e
  where
    by : (b : Bool) → ltb f 16 ≡ b → cond b (slice_get code.builtins f) (slice_get code.sources (f - 16)) ≡ Some info → f < 16 + length code.sources
    by true l h = let lt : f < 16 = ltb-true f 16 l in omega (arith, lt)
    by false l h =
        let le : 16 ≤ f = ltb-false f 16 l in
        let lt = slice_get_within code.sources (f - 16) info h in
        omega (arith, le, lt)

module _ (bytes cut : List ℕ) (c : CheckedSource) (q : Placed) (h : IsPlacedAs bytes cut c q) (valid : IsValid c.code) where
  sources_many : length c.code.sources ≡ length h.program.functions
  sources_many =
      ap (λ (code : Flat). length code.sources) (is_of bytes cut c q h).code
      ∙ (infos_counted c.program c.program.functions 0 ∙ function_count c.program h.program (is_of bytes cut c q h).program)

  pub called_below : (p f n : ℕ) → slice_get c.code.instrs p ≡ Some (instr.Call f n) → f < first_source_function + length h.program.functions
  called_below p f n e =
      let (info, known, arity) = (valid.steady.each p (instr.Call f n) e).sound in
      let below = number_of_known c.code f info known in
      omega (arith, below, sources_many)

  pub places_functions : PlacesFunctions (laid_at c q)
  places_functions = record {
    faces = λ p f n e. let below = called_below p f n e in let each = h.placed.placed.faces.each in omega (arith, below, each);
    replay = λ p f n e. let below = called_below p f n e in let each = h.placed.placed.replay.each in omega (arith, below, each);
    system = λ p f n e. let below = called_below p f n e in let each = h.placed.placed.system.each in omega (arith, below, each);
  }
