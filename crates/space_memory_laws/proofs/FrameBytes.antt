-- The bytes of a frame with its arguments are those with which code enters it.
use Rattle.std.proofs.Common.{◌≡◌, ℕ, ◌+◌, ◌-◌, ◌<◌, ◌≤◌, ◌⊎◌, inl, inr, true, false, List, [], ◌∷◌, ◌++◌, length, get_or, replicate, Option, Some, refl, ap, sym, ◌∙◌, arith}
use Rattle.std.specs.Prelude.{unwrap_or}
use Rattle.std.specs.Int.{next_multiple_of}
use Rattle.std.specs.List.{range_with_len}
use Rattle.std.proofs.lemmas.Bool.{cases_lt, cond-true, cond-false}
use Rattle.std.proofs.lemmas.List.{ext_get_or, get_or_append_left, get_or-append_right, get_or_past, get_or-replicate, get_or-map, length-map, length-replicate}
use Rattle.std.proofs.lemmas.List.FromFn.{length-map-range_with_len, get_or-range_with_len, length-range_with_len}
use Rattle.marks.specs.Ranges.{bytes_of_number}
use Rattle.marks.specs.declared.range.Range.{Range}
use Rattle.marks.specs.Ranges.{covers}
use Rattle.c_code.specs.declared.shape.Shape.{Shape}
use Rattle.c_code.specs.declared.code.FuncInfo.{FuncInfo}
use Rattle.c_code.specs.Frames.{size_of, param_offsets, param_widths, params_bytes, params_end, frame_bytes}
use Rattle.c_code.proofs.FrameBytes.{bytes_count, frame_count, offsets_count, params_fit}
use Rattle.space_memory_bytes.specs.Numbers.{digit}
use Rattle.space_memory.specs.Frames.{with_args}
use Rattle.space_memory_laws.specs.FrameMarks.{bytes_with_args}
use Rattle.space_memory_laws.specs.CodeFrames.{FramesAreThoseOfCode}
use Rattle.space_memory_laws.proofs.Cells.{cover_cases, covered}
use Rattle.space_memory_laws.proofs.Digits.{digit_is}

-- one parameter in its frame
abbrev part : ℕ → ℕ → Range
part start width = record { addr = 0 + start; len = width }

-- the bytes of the frame that the arguments leave, where those before have left this
abbrev args_at : ℕ → List Shape → List ℕ → ℕ → Option ℕ → Option ℕ
args_at at shapes args i byte = with_args 0 (param_offsets at shapes) (param_widths shapes) args i byte

missed : (start width i : ℕ) → (i < start) ⊎ (start + width ≤ i) → covers (part start width) i ≡ false
missed start width i out = elim (cover_cases (part start width) i) [
  | inl in' ↦ absurd (elim out [ inl low ↦ omega (arith, low, in'.from) | inr high ↦ omega (arith, high, in'.below) ])
  | inr o ↦ o.is
]

-- before the first of the parameters there are none of their bytes
before : (at : ℕ) (shapes : List Shape) (args : List ℕ) (i : ℕ) (byte : Option ℕ) → i < at → args_at at shapes args i byte ≡ byte
before at [] args i byte lt = refl
before at (s ∷ shapes) [] i byte lt = refl
before at (s ∷ shapes) (v ∷ args) i byte lt =
    let start = next_multiple_of at (size_of s) in
    let next = start + size_of s in
    ap (args_at next shapes args i) (cond-false (covers (part start (size_of s)) i) (Some (digit v (i - (0 + start)))) byte (missed start (size_of s) i (inl (omega (arith, lt)))))
    ∙ before next shapes args i byte (omega (arith, lt))

byte_of : (at : ℕ) (shapes : List Shape) (args : List ℕ) (i : ℕ) → at ≤ i → length args ≡ length shapes →
    unwrap_or (args_at at shapes args i (Some 0)) 0 ≡ get_or (params_bytes at shapes args) (i - at) 0
byte_of at [] args i le same = refl
byte_of at (s ∷ shapes) [] i le same = absurd (omega (arith, same))
byte_of at (s ∷ shapes) (v ∷ args) i le same =
    let start = next_multiple_of at (size_of s) in
    let w = size_of s in
    let next = start + w in
    let zeros : List ℕ = replicate (start - at) 0 in
    let number = bytes_of_number w v in
    let rest = params_bytes next shapes args in
    let count : length zeros ≡ start - at = length-replicate (start - at) 0 in
    let held : covers (part start w) i ≡ true → unwrap_or (args_at at (s ∷ shapes) (v ∷ args) i (Some 0)) 0 ≡ unwrap_or (args_at next shapes args i (Some (digit v (i - (0 + start))))) 0 =
    λ c. ap (λ b. unwrap_or (args_at next shapes args i b) 0) (cond-true (covers (part start w) i) (Some (digit v (i - (0 + start)))) (Some 0) c) in
    let free : covers (part start w) i ≡ false → unwrap_or (args_at at (s ∷ shapes) (v ∷ args) i (Some 0)) 0 ≡ unwrap_or (args_at next shapes args i (Some 0)) 0 =
    λ c. ap (λ b. unwrap_or (args_at next shapes args i b) 0) (cond-false (covers (part start w) i) (Some (digit v (i - (0 + start)))) (Some 0) c) in
    elim (cases_lt i start) [
      | inl low ↦
          let few : i - at < length zeros = omega (arith, count, low, le) in
          free (missed start w i (inl low)) ∙ ap (λ b. unwrap_or b 0) (before next shapes args i (Some 0) (omega (arith, low)))
          ∙ sym (get_or_append_left zeros (number ++ rest) 0 (i - at) few ∙ get_or-replicate (start - at) (i - at) 0 0 (omega (arith, low, le)))
      | inr from ↦
          let past : get_or (zeros ++ (number ++ rest)) (i - at) 0 ≡ get_or (number ++ rest) (i - at - (start - at)) 0 = get_or-append_right zeros (number ++ rest) (start - at) (i - at) 0 count (omega (arith, from, le)) in
          let there : i - at - (start - at) ≡ i - start = omega (arith, from, le) in
          let value = past ∙ ap (λ n. get_or (number ++ rest) n 0) there in
          elim (cases_lt i next) [
            | inl below ↦
                let few : i - start < length number = omega (arith, bytes_count w v, from, below) in
                let same_place : i - (0 + start) ≡ i - start = omega arith in
                held (covered (part start w) i (omega (arith, from)) (omega (arith, below))) ∙ ap (λ b. unwrap_or b 0) (before next shapes args i (Some (digit v (i - (0 + start)))) below)
                ∙ ap (digit v) same_place
                ∙ sym (value ∙ get_or_append_left number rest 0 (i - start) few ∙ digit_is w v (i - start) (omega (arith, from, below)))
            | inr high ↦
                let on : get_or (number ++ rest) (i - start) 0 ≡ get_or rest (i - start - w) 0 = get_or-append_right number rest w (i - start) 0 (bytes_count w v) (omega (arith, from, high)) in
                let rest_at : i - start - w ≡ i - next = omega (arith, from, high) in
                free (missed start w i (inr high)) ∙ byte_of next shapes args i high (omega (arith, same)) ∙ sym (value ∙ on ∙ ap (λ n. get_or rest n 0) rest_at)
          ]
    ]

-- past the parameters a frame has zeros
padded : (params : List ℕ) (size i : ℕ) → i < size → get_or params i 0 ≡ get_or (params ++ replicate (size - length params) 0) i 0
padded params size i lt = elim (cases_lt i (length params)) [
  | inl low ↦ sym (get_or_append_left params (replicate (size - length params) 0) 0 i low)
  | inr from ↦
      get_or_past params i 0 from
      ∙ sym (get_or-append_right params (replicate (size - length params) 0) (length params) i 0 refl from ∙ get_or-replicate (size - length params) (i - length params) 0 0 (omega (arith, from, lt)))
]

module _ (f : FuncInfo) (args : List ℕ) where
  abbrev size : ℕ
  size = f.frame

  abbrev offsets : List ℕ
  offsets = param_offsets 0 f.params

  abbrev widths : List ℕ
  widths = param_widths f.params

  count : length (bytes_with_args size offsets widths args) ≡ size
  count = length-map-range_with_len (λ i. unwrap_or (with_args 0 offsets widths args i (Some 0)) 0) 0 size

  byte_is : (i : ℕ) → i < size → get_or (bytes_with_args size offsets widths args) i 0 ≡ unwrap_or (with_args 0 offsets widths args i (Some 0)) 0
  byte_is i few =
      let at : get_or (range_with_len 0 size) i 0 ≡ i = get_or-range_with_len 0 size i 0 few ∙ omega arith in
      get_or-map (λ i. unwrap_or (with_args 0 offsets widths args i (Some 0)) 0) (range_with_len 0 size) i 0 0 (omega (arith, length-range_with_len 0 size, few)) ∙ ap (λ j. unwrap_or (with_args 0 offsets widths args j (Some 0)) 0) at

  zero_off : (i : ℕ) → get_or (params_bytes 0 f.params args) (i - 0) 0 ≡ get_or (params_bytes 0 f.params args) i 0
  zero_off i = let e : i - 0 ≡ i = omega arith in ap (λ n. get_or (params_bytes 0 f.params args) n 0) e

  same_bytes : length args ≡ length f.params → params_end 0 f.params ≤ f.frame → bytes_with_args size offsets widths args ≡ frame_bytes f args
  same_bytes same holds =
      ext_get_or 0 (bytes_with_args size offsets widths args) (frame_bytes f args) (count ∙ sym (frame_count f args holds))
      (λ i lt. let few : i < size = omega (arith, lt, count) in byte_is i few ∙ byte_of 0 f.params args i (omega arith) same ∙ zero_off i ∙ padded (params_bytes 0 f.params args) size i few)

pub frames_of_code : FramesAreThoseOfCode
frames_of_code f args same holds = record {
  bytes = same_bytes f args same holds;
  offsets = offsets_count 0 f.params;
  widths = length-map f.params size_of;
  fit = λ i lt. let h = params_fit 0 f.params i lt in omega (arith, h, holds);
}
