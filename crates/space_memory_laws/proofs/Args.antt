-- Arguments in a frame of zeros are its bytes.
use Rattle.std.proofs.Common.{◌≡◌, ℕ, suc, ◌+◌, ◌-◌, ◌<◌, ◌≤◌, ◌⊎◌, true, false, cond, List, [], ◌∷◌, length, get_or, Option, Some, inl, inr, refl, ap, sym, ◌∙◌, arith}
use Rattle.std.specs.Prelude.{unwrap_or, slice_index}
use Rattle.std.specs.List.{range_with_len}
use Rattle.std.proofs.lemmas.Bool.{cond-true, cond-false, true≢false}
use Rattle.std.proofs.lemmas.List.{get_or-map}
use Rattle.std.proofs.lemmas.List.FromFn.{length-map-range_with_len, get_or-range_with_len, length-range_with_len}
use Rattle.marks.specs.declared.range.Range.{Range}
use Rattle.marks.specs.Ranges.{covers}
use Rattle.space_memory_bytes.specs.Areas.{AreaState, byte_at, extents}
use Rattle.space_memory_bytes.specs.Numbers.{digit, FillsWith}
use Rattle.space_memory.specs.Frames.{with_args}
use Rattle.space_memory_laws.specs.FrameMarks.{bytes_with_args, HasArgs}
use Rattle.space_memory_laws.proofs.Cells.{cover_cases, covered}

-- one argument, at its place in the frame
abbrev part : ℕ → ℕ → ℕ → Range
part frame offset width = record { addr = frame + offset; len = width }

set_one : ℕ → ℕ → ℕ → ℕ → ℕ → Option ℕ → Option ℕ
set_one frame offset width arg x byte = cond (covers (part frame offset width) x) (Some (digit arg (x - (frame + offset)))) byte

-- it is the same byte of the frame wherever the frame lies
shift_one : (frame offset width arg i : ℕ) (byte : Option ℕ) → set_one frame offset width arg (frame + i) byte ≡ set_one 0 offset width arg i byte
unfolding set_one
shift_one frame offset width arg i byte = elim (cover_cases (part frame offset width) (frame + i)) [
  | inl in' ↦
      let d : frame + i - (frame + offset) ≡ i - (0 + offset) = omega arith in
      cond-true (covers (part frame offset width) (frame + i)) _ byte in'.is ∙ ap (λ k. Some (digit arg k)) d
      ∙ sym (cond-true (covers (part 0 offset width) i) _ byte (covered (part 0 offset width) i (omega (arith, in'.from)) (omega (arith, in'.below))))
  | inr out ↦ elim (cover_cases (part 0 offset width) i) [
    | inl in' ↦ absurd (elim out.out [ inl low ↦ omega (arith, low, in'.from) | inr high ↦ omega (arith, high, in'.below) ])
    | inr out' ↦ cond-false (covers (part frame offset width) (frame + i)) _ byte out.is ∙ sym (cond-false (covers (part 0 offset width) i) _ byte out'.is)
  ]
]

shift : (frame : ℕ) (offsets widths args : List ℕ) (i : ℕ) (byte : Option ℕ) → with_args frame offsets widths args (frame + i) byte ≡ with_args 0 offsets widths args i byte
unfolding set_one
shift frame [] widths args i byte = refl
shift frame (o ∷ os) [] args i byte = refl
shift frame (o ∷ os) (w ∷ ws) [] i byte = refl
shift frame (o ∷ os) (w ∷ ws) (a ∷ as') i byte =
    ap (with_args frame os ws as' (frame + i)) (shift_one frame o w a i byte) ∙ shift frame os ws as' i (set_one 0 o w a i byte)

-- a byte that is there stays there
there : (frame : ℕ) (offsets widths args : List ℕ) (x v : ℕ) → with_args frame offsets widths args x (Some v) ≡ Some (unwrap_or (with_args frame offsets widths args x (Some v)) 0)
there frame [] widths args x v = refl
there frame (o ∷ os) [] args x v = refl
there frame (o ∷ os) (w ∷ ws) [] x v = refl
there frame (o ∷ os) (w ∷ ws) (a ∷ as') x v =
    let again = λ (u : ℕ). there frame os ws as' x u in
    elim (covers (part frame o w) x) as (λ c. with_args frame os ws as' x (cond c (Some (digit a (x - (frame + o)))) (Some v)) ≡ Some (unwrap_or (with_args frame os ws as' x (cond c (Some (digit a (x - (frame + o)))) (Some v))) 0)) [
      | true ↦ again (digit a (x - (frame + o)))
      | false ↦ again v
    ]

-- a byte out of the frame is as before
pub outside : (frame : Range) (offsets widths args : List ℕ) (x : ℕ) (byte : Option ℕ) → length widths ≡ length offsets →
    ((i : ℕ) → i < length offsets → get_or offsets i 0 + get_or widths i 0 ≤ frame.len) → (x < frame.addr) ⊎ (frame.addr + frame.len ≤ x) →
    with_args frame.addr offsets widths args x byte ≡ byte
outside frame [] widths args x byte same fit out = refl
outside frame (o ∷ os) [] args x byte same fit out = refl
outside frame (o ∷ os) (w ∷ ws) [] x byte same fit out = refl
outside frame (o ∷ os) (w ∷ ws) (a ∷ as') x byte same fit out =
    let first : o + w ≤ frame.len = fit 0 (omega arith) in
    let missed : covers (part frame.addr o w) x ≡ false = elim (cover_cases (part frame.addr o w) x) [
      | inl in' ↦ absurd (elim out [ inl low ↦ omega (arith, low, in'.from) | inr high ↦ omega (arith, high, in'.below, first) ])
      | inr out' ↦ out'.is
    ] in
    ap (with_args frame.addr os ws as' x) (cond-false (covers (part frame.addr o w) x) (Some (digit a (x - (frame.addr + o)))) byte missed)
    ∙ outside frame os ws as' x byte (omega (arith, same)) (λ i lt. fit (suc i) (omega (arith, lt))) out

pub arguments : (old entered new : List AreaState) (frame : Range) (offsets widths args : List ℕ) → FillsWith frame (Some 0) old entered →
    length widths ≡ length offsets → length args ≡ length offsets →
    ((i : ℕ) → i < length offsets → slice_index offsets i + slice_index widths i ≤ frame.len) → extents new ≡ extents entered →
    ((x : ℕ) → byte_at new x ≡ with_args frame.addr offsets widths args x (byte_at entered x)) →
    HasArgs frame.addr frame.len offsets widths args old new
arguments old entered new frame offsets widths args fills widths_same args_same fit areas set = record {
  bytes = λ i lt.
      let few : i < frame.len = omega (arith, lt, count) in
      set (frame.addr + i)
      ∙ ap (with_args frame.addr offsets widths args (frame.addr + i)) (fills.filled (frame.addr + i) (covered frame (frame.addr + i) (omega arith) (omega (arith, few))))
      ∙ shift frame.addr offsets widths args i (Some 0)
      ∙ there 0 offsets widths args i 0
      ∙ ap (λ v. Some v) (sym (byte_is i few));
  outside = record {
    areas = areas ∙ fills.others.areas;
    bytes = λ x c. set x ∙ elim (cover_cases frame x) [
      | inl in' ↦ absurd (true≢false (sym in'.is ∙ c))
      | inr out ↦ outside frame offsets widths args x (byte_at entered x) widths_same fit out.out ∙ fills.others.bytes x c
    ];
  };
  count = count;
}
  where
    count : length (bytes_with_args frame.len offsets widths args) ≡ frame.len
    count = length-map-range_with_len (λ i. unwrap_or (with_args 0 offsets widths args i (Some 0)) 0) 0 frame.len

    byte_is : (i : ℕ) → i < frame.len → get_or (bytes_with_args frame.len offsets widths args) i 0 ≡ unwrap_or (with_args 0 offsets widths args i (Some 0)) 0
    byte_is i few =
        let at : get_or (range_with_len 0 frame.len) i 0 ≡ i = get_or-range_with_len 0 frame.len i 0 few ∙ omega arith in
        get_or-map (λ i. unwrap_or (with_args 0 offsets widths args i (Some 0)) 0) (range_with_len 0 frame.len) i 0 0
        (omega (arith, length-range_with_len 0 frame.len, few)) ∙ ap (λ j. unwrap_or (with_args 0 offsets widths args j (Some 0)) 0) at
