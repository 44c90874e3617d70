-- How many bytes a frame has, and where its parameters end.
use Rattle.std.proofs.Common.{◌≡◌, ℕ, zero, suc, ◌+◌, ◌-◌, ◌/◌, ◌<◌, ◌≤◌, List, [], ◌∷◌, ◌++◌, length, replicate, refl, arith}
use Rattle.std.specs.Prelude.{slice_index}
use Rattle.std.specs.Int.{next_multiple_of}
use Rattle.std.proofs.lemmas.List.{length-append, length-replicate}
use Rattle.marks.specs.Ranges.{bytes_of_number}
use Rattle.c_code.specs.declared.shape.Shape.{Shape}
use Rattle.c_code.specs.declared.code.FuncInfo.{FuncInfo}
use Rattle.c_code.specs.Frames.{size_of, param_offsets, param_widths, params_bytes, params_end, frame_bytes}

pub bytes_count : (width value : ℕ) → length (bytes_of_number width value) ≡ width
bytes_count zero value = refl
bytes_count (suc width) value = let rest = bytes_count width (value / 256) in omega (arith, rest)

pub end_after : (at : ℕ) (shapes : List Shape) → at ≤ params_end at shapes
end_after at [] = omega arith
end_after at (s ∷ shapes) = let rest = end_after (next_multiple_of at (size_of s) + size_of s) shapes in omega (arith, rest)

pub params_count : (at : ℕ) (shapes : List Shape) (args : List ℕ) → at + length (params_bytes at shapes args) ≤ params_end at shapes
params_count at [] args = omega arith
params_count at (s ∷ shapes) [] = let rest = end_after at (s ∷ shapes) in omega (arith, rest)
params_count at (s ∷ shapes) (v ∷ args) =
    let start = next_multiple_of at (size_of s) in
    let rest = params_count (start + size_of s) shapes args in
    let zeros : length {A = ℕ} (replicate (start - at) 0) ≡ start - at = length-replicate (start - at) 0 in
    let number = bytes_count (size_of s) v in
    let inner = length-append (bytes_of_number (size_of s) v) (params_bytes (start + size_of s) shapes args) in
    let whole = length-append (replicate (start - at) 0) (bytes_of_number (size_of s) v ++ params_bytes (start + size_of s) shapes args) in
    omega (arith, rest, zeros, number, inner, whole)

-- a frame that holds its parameters has its size
pub frame_count : (info : FuncInfo) (args : List ℕ) → params_end 0 info.params ≤ info.frame → length (frame_bytes info args) ≡ info.frame
frame_count info args holds =
    let params = params_bytes 0 info.params args in
    let few = params_count 0 info.params args in
    let zeros : length {A = ℕ} (replicate (info.frame - length params) 0) ≡ info.frame - length params = length-replicate (info.frame - length params) 0 in
    let whole = length-append params (replicate (info.frame - length params) 0) in
    omega (arith, holds, few, zeros, whole)

-- each parameter ends within them
pub params_fit : (at : ℕ) (shapes : List Shape) (i : ℕ) → i < length shapes → slice_index (param_offsets at shapes) i + slice_index (param_widths shapes) i ≤ params_end at shapes
params_fit at [] i lt = absurd (omega arith)
params_fit at (s ∷ shapes) zero lt = end_after (next_multiple_of at (size_of s) + size_of s) shapes
params_fit at (s ∷ shapes) (suc i) lt = params_fit (next_multiple_of at (size_of s) + size_of s) shapes i (omega arith)

pub offsets_count : (at : ℕ) (shapes : List Shape) → length (param_offsets at shapes) ≡ length shapes
offsets_count at [] = refl
offsets_count at (s ∷ shapes) = let rest = offsets_count (next_multiple_of at (size_of s) + size_of s) shapes in omega (arith, rest)
