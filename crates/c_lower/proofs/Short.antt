-- The numbers in the code of a program fit its instructions.
use Rattle.std.proofs.Common.{◌≡◌, ℕ, zero, suc, ◌+◌, ◌-◌, ◌^◌, ◌<◌, ◌≤◌, Bool, true, false, cond, ltb, List, [], ◌∷◌, ◌++◌, length, length-append, map, get_or, Option, Some, None, refl, sym, ap, ◌∙◌, subst, arith}
use Rattle.std.specs.Prelude.{slice_get}
use Rattle.std.specs.Option.{option_map}
use Rattle.std.specs.List.{All}
use Rattle.std.proofs.lemmas.Bool.{le-ltb, ltb-true, ltb-false}
use Rattle.std.proofs.lemmas.List.{length-map}
use Rattle.std.proofs.lemmas.List.Elements.{All-nil, All-cons, All-head, All-tail}
use Rattle.std.proofs.lemmas.Option.{slice_get-get_or, slice_get-map, slice_get_within}
use Rattle.source_limits.specs.Limits.{greatest_frame, greatest_object}
use Rattle.marks.specs.Places.{builtin_count}
use Rattle.c_code.specs.declared.code.FuncInfo.{FuncInfo}
use Rattle.c_code.specs.declared.instr.Instr.{Instr}
use Rattle.c_code.specs.declared.instr.Instr.TheVariants as instr
use Rattle.c_code.specs.Machine.{Flat, func_of}
use Rattle.c_types_model.specs.Types.{CType}
use Rattle.c_builtins.specs.declared.lookup.TheConstants.{BUILTINS}
use Rattle.c_code.specs.Valid.{IsSteady, IsValid, Keeps}
use Rattle.c_types_rules.specs.TypedTree as typed
use Rattle.c_semantics.specs.Context.{Source, body_of, body_or, source_function}
use Rattle.c_lower_placement.specs.Code.{Making, body_code}
use Rattle.c_lower_placement.specs.Laws.{IsMadeOf}
use Rattle.c_lower_laws.specs.Fits.{IsFit}
use Rattle.c_lower_layout.specs.Indexed.{HasNumbers, members_end}
use Rattle.c_lower_layout.specs.Sources.{source_in}
use Rattle.c_lower_bodies.specs.Short.{IsShort}
use Rattle.c_types_program.specs.declared.function.Body.{Body}
use Rattle.c_types_program.specs.declared.function.Function.{Function}
use Rattle.c_types_program.specs.Declarations.{Declared, body_in, function_in}
use Rattle.c_types_program.specs.Programs.{program_in}
use Rattle.c_lower.specs.Depths.{first_wide, functions_in}
use Rattle.c_lower.specs.Lowered.{builtin_info, code_of, codes_of, frame_of, infos_from, lowered}
use Rattle.c_lower.proofs.Valid.{valid_made}

-- ---- valid code

-- the function of a number is among the builtins or the functions of the source
number_short : (code : Flat) (f : ℕ) (info : FuncInfo) → builtin_count + length code.sources ≤ 2 ^ 16 → func_of code f ≡ Some info → f < 2 ^ 16
number_short code f info few e = by (ltb f builtin_count) refl e
  where
    by : (b : Bool) → ltb f builtin_count ≡ b → cond b (slice_get code.builtins f) (slice_get code.sources (f - builtin_count)) ≡ Some info → f < 2 ^ 16
    by true l h = let lt : f < 16 = ltb-true f 16 l in omega arith
    by false l h =
        let le : 16 ≤ f = ltb-false f 16 l in
        let lt : f - builtin_count < length code.sources = slice_get_within code.sources (f - builtin_count) info h in
        omega (arith, few, lt)

-- the numbers of an instruction of valid code fit
short : (code : Flat) → (valid : IsValid code) → (k : ℕ) (i : Instr) → slice_get code.instrs k ≡ Some i → Keeps code valid.height k i → IsShort i
short code valid k (instr.Push what) e h = tt
short code valid k (instr.Load m o) e h = tt
short code valid k (instr.LoadKeep m o) e h = tt
short code valid k (instr.Store m o) e h = tt
short code valid k (instr.StoreLocal m offset) e h = tt
short code valid k (instr.StoreStep m by old o) e h = tt
short code valid k (instr.Change how) e h = tt
short code valid k (instr.Combine how) e h = tt
short code valid k (instr.EndIfZero n) e h = tt
short code valid k (instr.EndUnlessZero n) e h = tt
short code valid k (instr.SkipIfZero n) e h = tt
short code valid k (instr.GoOn n) e h = tt
short code valid k instr.Turn e h = tt
short code valid k (instr.GoBack n) e h = tt
short code valid k (instr.Call f n) e h =
    let known = h.sound in
    (number_short code f known.0 valid.numbered known.1, omega (arith, known.2, valid.few_params f known.0 known.1))
short code valid k (instr.CallPointer sig n) e h = omega (arith, h.enough, h.few)
short code valid k instr.Drop e h = tt
short code valid k instr.Finish e h = tt

each_short : (is : List Instr) → ((k : ℕ) (i : Instr) → slice_get is k ≡ Some i → IsShort i) → All IsShort is
each_short [] h = All-nil IsShort
each_short (i ∷ is) h = All-cons IsShort i is (h zero i refl) (each_short is (λ k j e. h (suc k) j e))

pub valid_short : (code : Flat) → IsValid code → All IsShort code.instrs
valid_short code valid = each_short code.instrs (λ k i e. short code valid k i e (valid.steady.each k i e))

-- ---- the code of one function

first_part : (is js : List Instr) → All IsShort (is ++ js) → All IsShort is
first_part [] js h = All-nil IsShort
first_part (i ∷ is) js h = All-cons IsShort i is (All-head IsShort i (is ++ js) h) (first_part is js (All-tail IsShort i (is ++ js) h))

last_part : (is js : List Instr) → All IsShort (is ++ js) → All IsShort js
last_part [] js h = h
last_part (i ∷ is) js h = last_part is js (All-tail IsShort i (is ++ js) h)

pub code_short : (p : Declared) (fs : List Function) (k : ℕ) (f : Function) → All IsShort (codes_of p fs) → slice_get fs k ≡ Some f → All IsShort (code_of p f.body)
code_short p [] k f h e = absurd cc
code_short p (g ∷ fs) zero f h e = let is : g ≡ f = cc in subst (λ (x : Function). All IsShort (code_of p x.body)) is (first_part (code_of p g.body) (codes_of p fs) h)
code_short p (g ∷ fs) (suc k) f h e = code_short p fs k f (last_part (code_of p g.body) (codes_of p fs) h) e

-- ---- what a fit program has

-- numbers are enough for what is looked up
pub numbers : (p : Declared) → IsFit p → length p.texts < 2 ^ 32 → HasNumbers p
unfolding source_in
numbers p fit few = record {
  functions = omega (arith, fit.few_functions, length-map p.functions (function_in p.table));
  texts = few;
  members = λ k s e. let ends : members_end (program_in p []) s ≤ greatest_object = fit.members k s e in omega arith;
}

-- the frame of each function is small
pub frames_small : (p : Declared) → IsFit p → (k : ℕ) (f : Function) → slice_get p.functions k ≡ Some f → frame_of p f.body ≤ greatest_frame
unfolding source_in
frames_small p fit k f e = by f.body refl
  where
    by : (b : Option Body) → f.body ≡ b → frame_of p b ≤ greatest_frame
    by None h = omega arith
    by (Some b) h =
        let there : slice_get (source_in p).program.functions k ≡ Some (function_in p.table f) = slice_get-map (function_in p.table) p.functions k ∙ ap (option_map (function_in p.table)) e in
        let below : ltb (builtin_count + k) builtin_count ≡ false = le-ltb (16 + k) 16 (omega arith) in
        let at : builtin_count + k - builtin_count ≡ k = omega arith in
        let found : source_function (source_in p) (builtin_count + k) ≡ Some (function_in p.table f) =
        ap (λ c. cond c None (slice_get (source_in p).program.functions (builtin_count + k - builtin_count))) below ∙ (ap (slice_get (source_in p).program.functions) at ∙ there) in
        let body : body_of (source_in p) (builtin_count + k) ≡ Some (body_in p.table b) = ap body_or found ∙ ap (option_map (body_in p.table)) h in
        (fit.bodies (builtin_count + k) (body_in p.table b) body).small

-- of a program whose evaluation stack is small all numbers in the code fit
pub all_short : (p : Declared) → IsFit p → first_wide 0 (functions_in p) ≡ None
    → ((s : Source) (code : Flat) (sig : CType → ℕ) (height : ℕ → ℕ) → IsMadeOf s code sig height → IsSteady code height) → All IsShort (codes_of p p.functions)
all_short p fit few law = valid_short (lowered p) (valid_made p (map (builtin_info p) BUILTINS) (infos_from p 0 p.functions) (codes_of p p.functions) refl refl refl fit few law)

-- the function at a place has a small frame, and code whose numbers fit
at_place : (p : Declared) (items : List Function) (k : ℕ) (f : Function) → items ≡ p.functions → k < length items → f ≡ get_or items k f → slice_get p.functions k ≡ Some f
at_place p items k f e lt at = ap (λ (fs : List Function). slice_get fs k) (sym e) ∙ (slice_get-get_or items k f lt ∙ ap Some (sym at))

pub frame_met : (p i : Declared) (items : List Function) (k : ℕ) (f : Function) → i ≡ p → items ≡ p.functions → k < length items → f ≡ get_or items k f → IsFit p → frame_of i f.body ≤ greatest_frame
frame_met p i items k f is e lt at fit = subst (λ (q : Declared). frame_of q f.body ≤ greatest_frame) (sym is) (frames_small p fit k f (at_place p items k f e lt at))

pub short_met : (p i : Declared) (items : List Function) (k : ℕ) (f : Function) → i ≡ p → items ≡ p.functions → k < length items → f ≡ get_or items k f → All IsShort (codes_of p p.functions) → All IsShort (code_of i f.body)
short_met p i items k f is e lt at fits = subst (λ (q : Declared). All IsShort (code_of q f.body)) (sym is) (code_short p p.functions k f fits (at_place p items k f e lt at))
