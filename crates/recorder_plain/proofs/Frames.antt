-- The frame that a step enters has its arguments at the places of the function's parameters.
use Rattle.std.proofs.Common.{◌≡◌, ℕ, suc, ◌+◌, ◌<◌, ◌≤◌, true, List, [], ◌∷◌, length, Option, Some, None, refl, sym, ap, ◌∙◌, subst, arith}
use Rattle.std.specs.Prelude.{slice_index}
use Rattle.std.proofs.lemmas.Bool.{and_parts}
use Rattle.c_code.specs.declared.shape.Shape.{Shape}
use Rattle.c_code.specs.declared.code.FuncInfo.{FuncInfo}
use Rattle.c_code.specs.Values.{is_value}
use Rattle.c_code.specs.Frames.{are_values, param_offsets, param_widths}
use Rattle.c_code.specs.Machine.{Laid, bytes_for, entry, entry_of, frame_of, func_of}
use Rattle.c_code.specs.MarkLists.{has_entry, takes_values}
use Rattle.c_code.specs.Typed.{AreArguments}
use Rattle.c_code.specs.Valid.{IsValid}
use Rattle.c_code.proofs.FrameBytes.{frame_count}
use Rattle.space_memory_laws.specs.FrameMarks.{bytes_with_args}
use Rattle.space_memory_laws.specs.CodeFrames.{IsFrameOf}
use Rattle.space_memory_laws.proofs.FrameBytes.{frames_of_code}
use Rattle.recorder_threads.specs.Wants.{IsFrameSize}
use Rattle.recorder_plain.specs.Params.{params_of}

-- a new frame of so many bytes, with these arguments at these places, is that of the function
pub record IsFilled (l : Laid) (func size : ℕ) (args offsets widths : List ℕ) : Type 0 where
  pub widths_count : length widths ≡ length offsets
  pub args_count : length args ≡ length offsets
  pub in_frame : (i : ℕ) → i < length offsets → slice_index offsets i + slice_index widths i ≤ size
  pub bytes : bytes_with_args size offsets widths args ≡ frame_of l func args

as_many : (shapes : List Shape) (args : List ℕ) → are_values shapes args ≡ true → length args ≡ length shapes
as_many [] [] e = refl
as_many [] (v ∷ args) e = absurd cc
as_many (s ∷ shapes) [] e = absurd cc
as_many (s ∷ shapes) (v ∷ args) e = ap suc (as_many shapes args (and_parts (is_value s v) (are_values shapes args) e).1)

module _ (l : Laid) (valid : IsValid l.code) (func size : ℕ) (args : List ℕ) where
  filled_by : (o : Option FuncInfo) → func_of l.code func ≡ o → takes_values o args ≡ true → (e : Option ℕ) → entry_of o ≡ e → has_entry e ≡ true → length (bytes_for o args) ≡ size → IsFilled l func size args (param_offsets 0 (params_of o)) (param_widths (params_of o))
  filled_by None is fits e entry_is has count = absurd cc
  filled_by (Some info) is fits None entry_is has count = absurd cc
  filled_by (Some info) is fits (Some at) entry_is has count =
      let holds = (valid.steady.bodies func info at is entry_is).holds in
      let same = as_many info.params args fits in
      let frame : IsFrameOf info args = frames_of_code info args same holds in
      let size_is : info.frame ≡ size = sym (frame_count info args holds) ∙ count in
      record {
        widths_count = frame.widths ∙ sym frame.offsets;
        args_count = same ∙ sym frame.offsets;
        in_frame = λ i lt. (let n = frame.offsets in let fits_in = frame.fit i (omega (arith, lt, n)) in omega (arith, fits_in, size_is));
        bytes = ap (λ n. bytes_with_args n (param_offsets 0 info.params) (param_widths info.params) args) (sym size_is) ∙ frame.bytes ∙ sym (ap (λ o. bytes_for o args) is);
      }

  pub filled : AreArguments l func args → IsFrameSize l func args size → (offsets widths : List ℕ) → offsets ≡ param_offsets 0 (params_of (func_of l.code func)) → widths ≡ param_widths (params_of (func_of l.code func)) → IsFilled l func size args offsets widths
  filled fits is offsets widths eo ew =
      let here = filled_by (func_of l.code func) refl fits (entry l func) refl is.body is.count in
      subst (λ os. IsFilled l func size args os widths) (sym eo) (subst (IsFilled l func size args (param_offsets 0 (params_of (func_of l.code func)))) (sym ew) here)
