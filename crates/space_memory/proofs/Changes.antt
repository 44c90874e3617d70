-- What writing numbers and objects leaves of each byte.
use Rattle.std.proofs.Common.{◌≡◌, ℕ, suc, ◌+◌, ◌-◌, ◌<◌, cond, List, ◌∷◌, length, get_or, drop, Option, Some, ap, sym, ◌∙◌, inl, inr, arith}
use Rattle.std.proofs.Math.Seq.{drop-cons}
use Rattle.std.proofs.lemmas.Bool.{cond-true, cond-false}
use Rattle.marks.specs.declared.range.Range.{Range}
use Rattle.marks.specs.Ranges.{covers}
use Rattle.memory_map.specs.declared.placed.Place.{Place}
use Rattle.space_memory_bytes.specs.Areas.{AreaState, byte_at}
use Rattle.space_memory_bytes.specs.Numbers.{digit, SameOutside}
use Rattle.space_memory.specs.Objects.{object_range, byte_of}
use Rattle.space_memory.specs.Frames.{with_args}
use Rattle.space_memory.proofs.Ranges.{cover_cases}

-- bytes that are told from an address on, and all others as before
pub told_bytes : (addr n : ℕ) (value : ℕ → Option ℕ) (old new : List AreaState) → ((i : ℕ) → i < n → byte_at new (addr + i) ≡ value i) → SameOutside (record { addr = addr; len = n }) old new → (x : ℕ) → byte_at new x ≡ cond (covers (record { addr = addr; len = n }) x) (value (x - addr)) (byte_at old x)
told_bytes addr n value old new told others x =
    let r : Range = record { addr = addr; len = n } in
    elim (cover_cases r x) [
      | inl in' ↦
          let at : x ≡ addr + (x - addr) = omega (arith, in'.from) in
          ap (λ y. byte_at new y) at ∙ told (x - addr) (omega (arith, in'.from, in'.below)) ∙ sym (cond-true (covers r x) (value (x - addr)) (byte_at old x) in'.is)
      | inr out ↦ others.bytes x out.is ∙ sym (cond-false (covers r x) (value (x - addr)) (byte_at old x) out.is)
    ]

-- an argument more is set
pub args_more : (frame at : ℕ) (offsets widths args : List ℕ) (x : ℕ) (byte : Option ℕ) → at < length offsets → length widths ≡ length offsets → length args ≡ length offsets → with_args frame (drop at offsets) (drop at widths) (drop at args) x byte ≡ with_args frame (drop (at + 1) offsets) (drop (at + 1) widths) (drop (at + 1) args) x (cond (covers (record { addr = frame + get_or offsets at 0; len = get_or widths at 0 }) x) (Some (digit (get_or args at 0) (x - (frame + get_or offsets at 0)))) byte)
args_more frame at offsets widths args x byte lt same same' =
    let o : drop at offsets ≡ get_or offsets at 0 ∷ drop (suc at) offsets = drop-cons offsets at 0 lt in
    let w : drop at widths ≡ get_or widths at 0 ∷ drop (suc at) widths = drop-cons widths at 0 (omega arith) in
    let a : drop at args ≡ get_or args at 0 ∷ drop (suc at) args = drop-cons args at 0 (omega arith) in
    let next : suc at ≡ at + 1 = omega arith in
    ap (λ os. with_args frame os (drop at widths) (drop at args) x byte) o
    ∙ ap (λ ws. with_args frame (get_or offsets at 0 ∷ drop (suc at) offsets) ws (drop at args) x byte) w
    ∙ ap (λ vs. with_args frame (get_or offsets at 0 ∷ drop (suc at) offsets) (get_or widths at 0 ∷ drop (suc at) widths) vs x byte) a
    ∙ ap (λ k. with_args frame (drop k offsets) (drop k widths) (drop k args) x (cond (covers (record { addr = frame + get_or offsets at 0; len = get_or widths at 0 }) x) (Some (digit (get_or args at 0) (x - (frame + get_or offsets at 0)))) byte)) next

-- an object more is put
pub objects_more : (at : ℕ) (objects : List Place) (d : Place) (x : ℕ) (byte : Option ℕ) → at < length objects → byte_of (drop at objects) x byte ≡ byte_of (drop (at + 1) objects) x (cond (covers (object_range (get_or objects at d)) x) (Some (get_or (get_or objects at d).init (x - (get_or objects at d).addr) 0)) byte)
objects_more at objects d x byte lt =
    let o : drop at objects ≡ get_or objects at d ∷ drop (suc at) objects = drop-cons objects at d lt in
    let next : suc at ≡ at + 1 = omega arith in
    ap (λ (os : List Place). byte_of os x byte) o
    ∙ ap (λ k. byte_of (drop k objects) x (cond (covers (object_range (get_or objects at d)) x) (Some (get_or (get_or objects at d).init (x - (get_or objects at d).addr) 0)) byte)) next
