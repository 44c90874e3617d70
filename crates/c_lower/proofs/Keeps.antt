-- The code of a program keeps types.
use Rattle.std.proofs.Common.{◌≡◌, ℕ, zero, suc, ◌+◌, ◌-◌, ◌≤◌, Bool, true, false, ltb, map, Option, Some, None, refl, sym, ap, ◌∙◌, subst, arith}
use Rattle.std.specs.Prelude.{slice_get}
use Rattle.std.proofs.lemmas.Option.{slice_get-map}
use Rattle.std.proofs.lemmas.Bool.{ltb-false}
use Rattle.memory_map.specs.declared.placed.Placed.{Placed}
use Rattle.c_code.specs.declared.code.FuncInfo.{FuncInfo}
use Rattle.c_code.specs.Machine.{Flat, func_of}
use Rattle.c_code.specs.Typed.{KeepsTypes}
use Rattle.c_builtins.specs.declared.builtin.Builtin.{Builtin}
use Rattle.c_builtins.specs.declared.lookup.TheConstants.{BUILTINS}
use Rattle.c_scopes.specs.Scopes.{Scope}
use Rattle.c_types_model.specs.Types.{CType}
use Rattle.c_types_rules.specs.Environment.{Meaning}
use Rattle.c_types_rules.specs.TypedTree.{Callee, Values, SourceFunction, BuiltinFunction, Through}
use Rattle.c_semantics.specs.Arguments.{ArgumentsAreConverted, Passes, is_any, is_known}
use Rattle.c_semantics.specs.Context.{Source, builtin_of, type_of}
use Rattle.c_semantics.specs.Returned.{ResultsAreConverted}
use Rattle.c_lower_placement.specs.Code.{making as making_at}
use Rattle.c_lower_placement.specs.Laws.{IsEmitted, KnowsFunctions, MakesTheMarks, laid}
use Rattle.c_lower_placement.specs.Placement.{IsSigOf}
use Rattle.c_types_program.specs.declared.function.Function.{Function}
use Rattle.c_types_program.specs.Declarations.{Declared, function_in}
use Rattle.c_types_program.specs.Programs.{texts_in}
use Rattle.c_lower_layout.specs.Sources.{sig_in, source_in}
use Rattle.c_lower_laws.specs.Fits.{IsFit}
use Rattle.c_lower_laws.proofs.Passing.{statement_passes}
use Rattle.c_lower.specs.Lowered.{IsSourceOf, builtin_info, lowered}
use Rattle.c_lower.proofs.Emitted.{emitted, known, no_builtin, others, results, sigs, source, typed_at}
use Rattle.c_lower.proofs.Valid.{knows}

-- what is known of a builtin
builtin_there : (p : Declared) (f : ℕ) (b : Builtin) → builtin_of f ≡ Some b → (info : FuncInfo) × (slice_get (map (builtin_info p) BUILTINS) f ≡ Some info)
builtin_there p zero b e = (_, refl)
builtin_there p (suc zero) b e = (_, refl)
builtin_there p (suc (suc zero)) b e = (_, refl)
builtin_there p (suc (suc (suc zero))) b e = (_, refl)
builtin_there p (suc (suc (suc (suc zero)))) b e = (_, refl)
builtin_there p (suc (suc (suc (suc (suc zero))))) b e = (_, refl)
builtin_there p (suc (suc (suc (suc (suc (suc zero)))))) b e = (_, refl)
builtin_there p (suc (suc (suc (suc (suc (suc (suc f))))))) b e =
    let none : None ≡ Some b = sym (no_builtin (suc (suc (suc (suc (suc (suc (suc f))))))) (omega arith)) ∙ e in
    absurd cc

module _ (p : Declared) (names : Scope Meaning) (placed : Placed) where
  abbrev s : Source
  s = source p names placed

  abbrev code : Flat
  code = lowered p

  abbrev Known : ℕ → Type 0
  Known f = (info : FuncInfo) × (func_of code f ≡ Some info)

  below_known : (f : ℕ) → ltb f 16 ≡ true → (o : Option Builtin) → builtin_of f ≡ o → is_any None o ≡ true → Known f
  below_known f l (Some b) e k = let there = builtin_there p f b e in (there.0, rw l there.1)
  below_known f l None e k = absurd cc

  above_known : (f : ℕ) → ltb f 16 ≡ false → (o : Option Function) → slice_get p.functions (f - 16) ≡ o → is_known s f ≡ true → Known f
  above_known f l (Some g) e k =
      let least : 16 ≤ f = ltb-false f 16 l in
      let number : f ≡ 16 + (f - 16) = omega arith in
      (_, ap (func_of code) number ∙ known p names placed (f - 16) g e)
  above_known f l None e k =
      let least : 16 ≤ f = ltb-false f 16 l in
      let none : is_known s f ≡ false = rw (l, slice_get-map (function_in p.table) p.functions (f - 16), e, no_builtin f (omega arith)) refl in
      absurd cc

  function_known : (f : ℕ) → is_known s f ≡ true → Known f
  function_known f k = by (ltb f 16) refl
    where
      by : (b : Bool) → ltb f 16 ≡ b → Known f
      by true l = below_known f l (builtin_of f) refl (rw l at k)
      by false l = above_known f l (slice_get p.functions (f - 16)) refl k

  knows_functions : KnowsFunctions s code
  knows_functions = record {
    known = function_known;
    params = λ f info e. (typed_at p names placed f info e).0;
    results = results p names placed;
    sigs = λ f info e. subst (λ n. IsSigOf s code (type_of s f) n) (sym (typed_at p names placed f info e).2) (sigs p names placed (type_of s f));
    builtins = λ f l. others p names placed f (rw l refl);
  }

  module _ (fit : IsFit p) where
    results_convert : ResultsAreConverted s
    unfolding source_in
    results_convert f b e = (fit.bodies f b e).returns

    arguments_convert : ArgumentsAreConverted s
    unfolding source_in
    arguments_convert f b e = statement_passes (making_at (source_in p) code (sig_in p) b) s alike b.statements ((fit.bodies f b e).calls code (knows p))
      where
        alike : (g : Callee) (vs : Values) → Passes (source_in p) g vs → Passes s g vs
        alike (SourceFunction from number) vs h = h
        alike (BuiltinFunction from c) vs h = h
        alike (Through v) vs h = h

-- what is proved of code that makes the marks of a source
abbrev KeepsLaw : Type 0
KeepsLaw = (s : Source) (code : Flat) → ResultsAreConverted s → ArgumentsAreConverted s → MakesTheMarks s code → KnowsFunctions s code → KeepsTypes (laid s code)

-- of each source that the program stands for
pub keeps_types : (p : Declared) (s : Source) → IsSourceOf p s → IsFit p → ((s : Source) (code : Flat) (sig : CType → ℕ) → IsEmitted s code sig → MakesTheMarks s code) → KeepsLaw → KeepsTypes (laid s (lowered p))
keeps_types p s of fit marks law =
    let names = s.program.names in
    let same : source p names s.placed ≡ s =
    ap (λ q. record { program = q; texts = texts_in p.texts; placed = s.placed }) (sym of.program) ∙ ap (λ ts. record { program = s.program; texts = ts; placed = s.placed }) (sym of.texts) in
    let makes : MakesTheMarks (source p names s.placed) (lowered p) = marks (source p names s.placed) (lowered p) (sig_in p) (emitted p names s.placed) in
    subst (λ (z : Source). KeepsTypes (laid z (lowered p))) same
    (law (source p names s.placed) (lowered p) (results_convert p names s.placed fit) (arguments_convert p names s.placed fit) makes (knows_functions p names s.placed))
