-- The flat code of a program, of its source.
use Rattle.std.proofs.Common.{◌≡◌, ℕ, Some, sym, ap, ◌∙◌, subst}
use Rattle.memory_map.specs.declared.placed.Placed.{Placed}
use Rattle.c_scopes.specs.Scopes.{Scope}
use Rattle.c_types_model.specs.Types.{CType}
use Rattle.c_types_rules.specs.Environment.{Meaning}
use Rattle.c_types_rules.specs.TypedTree.{Callee, Values, SourceFunction, BuiltinFunction, Through}
use Rattle.c_code.specs.declared.code.FuncInfo.{FuncInfo}
use Rattle.c_code.specs.Machine.{Flat, Laid, func_of}
use Rattle.c_semantics.specs.Arguments.{ArgumentsAreConverted, Passes}
use Rattle.c_semantics.specs.Context.{Source, param_shapes, type_of}
use Rattle.c_semantics.specs.Returned.{ResultsAreConverted}
use Rattle.c_lower_placement.specs.Code.{making}
use Rattle.c_lower_placement.specs.Laws.{IsEmitted, MakesTheMarks}
use Rattle.c_lower_placement.specs.Placement.{IsSigOf}
use Rattle.c_types_program.specs.Declarations.{Declared}
use Rattle.c_types_program.specs.Programs.{texts_in}
use Rattle.c_lower_layout.specs.Sources.{sig_in, source_in}
use Rattle.c_lower_laws.specs.Fits.{IsFit}
use Rattle.c_lower_laws.proofs.Passing.{statement_passes}
use Rattle.c_lower.specs.Lowered.{lowered}
use Rattle.c_lower.proofs.Emitted.{emitted, sigs, source, typed_at}
use Rattle.c_lower.proofs.Valid.{knows}
use Rattle.whole_runs.specs.World.{World}
use Rattle.whole_runs_cuts.specs.Laws.{RunsSource}
use Rattle.whole_runs_cuts_sources.specs.Laws.{RunsProgram}

-- what code says of a source that it runs
record IsOf (s : Source) (code : Flat) : Type 0 where
  pub makes : MakesTheMarks s code
  pub sigs : (f : ℕ) (info : FuncInfo) → func_of code f ≡ Some info → IsSigOf s code (type_of s f) info.sig
  pub params : (f : ℕ) (info : FuncInfo) → func_of code f ≡ Some info → info.params ≡ param_shapes s f
  pub results : ResultsAreConverted s
  pub arguments : ArgumentsAreConverted s

abbrev Makes : Type 0
Makes = (s : Source) (code : Flat) (sig : CType → ℕ) → IsEmitted s code sig → MakesTheMarks s code

module _ (p : Declared) (fit : IsFit p) (marks : Makes) where
  module _ (names : Scope Meaning) (placed : Placed) where
    abbrev s : Source
    s = source p names placed

    abbrev code : Flat
    code = lowered p

    results_convert : ResultsAreConverted s
    unfolding source_in
    results_convert f b e = (fit.bodies f b e).returns

    arguments_convert : ArgumentsAreConverted s
    unfolding source_in
    arguments_convert f b e = statement_passes (making (source_in p) code (sig_in p) b) s alike b.statements ((fit.bodies f b e).calls code (knows p))
      where
        alike : (g : Callee) (vs : Values) → Passes (source_in p) g vs → Passes s g vs
        alike (SourceFunction from number) vs h = h
        alike (BuiltinFunction from c) vs h = h
        alike (Through v) vs h = h

    lowered_is_of : IsOf s code
    lowered_is_of = record {
      makes = marks s code (sig_in p) (emitted p names placed);
      sigs = λ f info e. subst (λ n. IsSigOf s code (type_of s f) n) (sym (typed_at p names placed f info e).2) (sigs p names placed (type_of s f));
      params = λ f info e. (typed_at p names placed f info e).0;
      results = results_convert;
      arguments = arguments_convert;
    }

pub runs_source : (p : Declared) (s : Source) (w : World) → RunsProgram p s w → Makes → RunsSource s w
runs_source p s w run marks =
    let names = s.program.names in
    let same : source p names s.placed ≡ s =
    ap (λ q. record { program = q; texts = texts_in p.texts; placed = s.placed }) (sym run.source.program) ∙ ap (λ ts. record { program = s.program; texts = ts; placed = s.placed }) (sym run.source.texts) in
    let is : IsOf s (lowered p) = subst (λ (z : Source). IsOf z (lowered p)) same (lowered_is_of p run.fit marks names s.placed) in
    let here : IsOf s w.laid.code = subst (IsOf s) (sym (ap (λ (l : Laid). l.code) run.laid_is)) is in
    record {
      code = run.code;
      placed = ap (λ (l : Laid). l.placed) run.laid_is;
      makes = here.makes;
      sigs = here.sigs;
      params = here.params;
      results = here.results;
      arguments = here.arguments;
    }
