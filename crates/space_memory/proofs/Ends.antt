-- The end of a stack's frames.
use Rattle.std.proofs.Common.{◌≡◌, ℕ, suc, ◌+◌, ◌-◌, ◌<◌, List, [], ◌∷◌, length, get_or, ap, ◌∙◌, arith}
use Rattle.marks.specs.declared.range.Range.{Range}
use Rattle.space_memory.specs.StackFrames.{end_of}

-- it is that of the last one
pub end_of_last : (from : ℕ) (frames : List Range) (d : Range) → 0 < length frames → end_of from frames ≡ (get_or frames (length frames - 1) d).addr + (get_or frames (length frames - 1) d).len
end_of_last from [] d some = absurd (omega arith)
end_of_last from (f ∷ []) d some =
    let first : 0 ≡ length (f ∷ []) - 1 = omega arith in
    ap (λ k. (get_or (f ∷ []) k d).addr + (get_or (f ∷ []) k d).len) first
end_of_last from (f ∷ g ∷ rest) d some =
    let next : suc (length (g ∷ rest) - 1) ≡ length (f ∷ g ∷ rest) - 1 = omega arith in
    end_of_last (f.addr + f.len) (g ∷ rest) d (omega arith)
    ∙ ap (λ k. (get_or (f ∷ g ∷ rest) k d).addr + (get_or (f ∷ g ∷ rest) k d).len) next
