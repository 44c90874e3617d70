-- Frames that lie one above another.
use Rattle.std.proofs.Common.{◌≡◌, ℕ, ◌+◌, ◌-◌, ◌<◌, ◌≤◌, false, ◌||◌, List, [], ◌∷◌, ◌++◌, length, Some, inl, inr, refl, ap, sym, ◌∙◌, arith, length-append, get_or-set_same, get_or-set_other}
use Rattle.std.specs.Prelude.{slice_get}
use Rattle.std.proofs.lemmas.Bool.{cases_lt}
use Rattle.std.proofs.lemmas.List.{get_or_past}
use Rattle.marks.specs.declared.side.Side.TheVariants.{Replay}
use Rattle.marks.specs.Places.{stack, stack_size}
use Rattle.marks.specs.declared.range.Range.{Range}
use Rattle.marks.specs.Ranges.{any_range}
use Rattle.space_memory.specs.StackFrames.{StackState, stack_of, with_frames}
use Rattle.space_memory.specs.StackFrames as memory
use Rattle.replay_runs.specs.Threads.{end_of}
use Rattle.space_memory_laws.specs.Shown.{innermost_last, stack_with}
use Rattle.space_memory_laws.specs.Sound.{AreStacked}
use Rattle.space_memory_laws.proofs.Cells.{cover_cases}

end_snoc : (from : ℕ) (rs : List Range) (r : Range) → memory.end_of from (rs ++ r ∷ []) ≡ r.addr + r.len
end_snoc from [] r = refl
end_snoc from (q ∷ rs) r = end_snoc (q.addr + q.len) rs r

-- the next frame's place
pub end_is : (from : ℕ) (fs : List Range) → memory.end_of from (innermost_last fs) ≡ end_of from fs
end_is from [] = refl
end_is from (f ∷ fs) = end_snoc from (innermost_last fs) f

pub count_is : (fs : List Range) → length (innermost_last fs) ≡ length fs
count_is [] = refl
count_is (f ∷ fs) = let rest = count_is fs in omega (arith, length-append (innermost_last fs) (f ∷ []), rest)

-- each thread has a stack
pub stacks_count : (stacks : List StackState) (t : ℕ) (fs : List Range) → stack_of stacks t ≡ stack_with t fs → t < length stacks
stacks_count stacks t fs is = elim (cases_lt t (length stacks)) [
  | inl lt ↦ lt
  | inr past ↦
      let none : 0 ≡ stack Replay t = ap (λ (k : StackState). k.base) (sym (get_or_past stacks t (record { base = 0; frames = [] }) past) ∙ is) in
      absurd (omega (arith, none))
]

pub same_stack : (stacks : List StackState) (t : ℕ) (frames : List Range) → t < length stacks → stack_of (with_frames stacks t frames) t ≡ record { base = (stack_of stacks t).base; frames = frames }
same_stack stacks t frames lt = get_or-set_same stacks t _ _ lt

pub other_stack : (stacks : List StackState) (t u : ℕ) (frames : List Range) → (t ≡ u → ⊥) → stack_of (with_frames stacks t frames) u ≡ stack_of stacks u
other_stack stacks t u frames ne = get_or-set_other stacks t u _ _ (λ e. ne (sym e))

-- frames end at the last one's end or before it, and begin in the stack
pub base_first : (base : ℕ) (fs : List Range) → AreStacked base fs → base ≤ end_of base fs
base_first base [] h = omega arith
base_first base (f ∷ fs) h = let rest = base_first base fs h.2 in omega (arith, h.0, rest)

pub ends_inside : (base : ℕ) (fs : List Range) → AreStacked base fs → end_of base fs ≤ base + stack_size
ends_inside base [] h = omega arith
ends_inside base (f ∷ fs) h = h.1

-- no frame has an address after the last one
pub none_after : (base : ℕ) (fs : List Range) (x : ℕ) → AreStacked base fs → end_of base fs ≤ x → any_range fs x ≡ false
none_after base [] x h le = refl
none_after base (f ∷ fs) x h le = elim (cover_cases f x) [
  | inl in' ↦ absurd (omega (arith, in'.below, le))
  | inr out ↦ ap (λ b. b || any_range fs x) out.is ∙ none_after base fs x h.2 (omega (arith, h.0, le))
]

-- the stacks of two threads don't meet
pub stacks_apart : (t u x : ℕ) → (t ≡ u → ⊥) → stack Replay t ≤ x → x < stack Replay t + stack_size → stack Replay u ≤ x → x < stack Replay u + stack_size → ⊥
stacks_apart t u x ne a b c d = ne (omega (arith, a, b, c, d))

-- a last item is one item
snoc_last : (xs ys : List Range) (x y : Range) → xs ++ x ∷ [] ≡ ys ++ y ∷ [] → (xs ≡ ys) × (x ≡ y)
snoc_last [] [] x y e = (refl, cc)
snoc_last [] (b ∷ ys) x y e = let n = ap length e in absurd (omega (arith, n, length-append ys (y ∷ [])))
snoc_last (a ∷ xs) [] x y e = let n = ap length e in absurd (omega (arith, n, length-append xs (x ∷ [])))
snoc_last (a ∷ xs) (b ∷ ys) x y e =
    let head : a ≡ b = cc in
    let rest : xs ++ x ∷ [] ≡ ys ++ y ∷ [] = cc in
    let k = snoc_last xs ys x y rest in
    (ap (λ z. z ∷ xs) head ∙ ap (λ zs. b ∷ zs) k.0, k.1)

-- the innermost frame in memory is the innermost of the run
pub record IsInnermost (fs : List Range) (rest : List Range) (frame : Range) : Type 0 where
  pub top : Range
  pub below : List Range
  pub is : fs ≡ top ∷ below
  pub rest_is : rest ≡ innermost_last below
  pub frame_is : frame ≡ top

pub innermost : (fs : List Range) (rest : List Range) (frame : Range) → innermost_last fs ≡ rest ++ frame ∷ [] → IsInnermost fs rest frame
innermost [] rest frame e = let n = ap length e in absurd (omega (arith, n, length-append rest (frame ∷ [])))
innermost (f ∷ fs) rest frame e =
    let k = snoc_last (innermost_last fs) rest f frame e in
    record { top = f; below = fs; is = refl; rest_is = sym k.0; frame_is = sym k.1 }

at_end : (rest : List Range) (frame : Range) → slice_get (rest ++ frame ∷ []) (length rest) ≡ Some frame
at_end [] frame = refl
at_end (r ∷ rest) frame = at_end rest frame

-- the last item of a list
pub last_of : (rest : List Range) (frame : Range) → slice_get (rest ++ frame ∷ []) (length (rest ++ frame ∷ []) - 1) ≡ Some frame
last_of rest frame = let n : length (rest ++ frame ∷ []) - 1 ≡ length rest = omega (arith, length-append rest (frame ∷ [])) in ap (slice_get (rest ++ frame ∷ [])) n ∙ at_end rest frame
