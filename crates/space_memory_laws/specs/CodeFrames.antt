-- The frame of a function of flat code, as memory keeps it.
use Rattle.std.specs.Prelude.{◌≡◌, ℕ, ◌+◌, ◌<◌, ◌≤◌, List, length, slice_index}
use Rattle.c_code.specs.declared.code.FuncInfo.{FuncInfo}
use Rattle.c_code.specs.Frames.{param_offsets, param_widths, params_end, frame_bytes}
use Rattle.space_memory_laws.specs.FrameMarks.{bytes_with_args}

-- arguments that are set at the places of the parameters, in their widths, make the bytes with which code
-- enters the
-- function; and each lies in the frame
pub record IsFrameOf (f : FuncInfo) (args : List ℕ) : Type 0 where
  pub bytes : bytes_with_args f.frame (param_offsets 0 f.params) (param_widths f.params) args ≡
      frame_bytes f args
  pub offsets : length (param_offsets 0 f.params) ≡ length f.params
  pub widths : length (param_widths f.params) ≡ length f.params
  pub fit : (i : ℕ) → i < length f.params → slice_index (param_offsets 0 f.params) i + slice_index
      (param_widths f.params) i ≤ f.frame

-- so it is of each function whose frame holds its parameters
abbrev pub FramesAreThoseOfCode : Type 0
FramesAreThoseOfCode = (f : FuncInfo) (args : List ℕ) → length args ≡ length f.params →
    params_end 0 f.params ≤ f.frame → IsFrameOf f args
