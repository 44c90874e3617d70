-- The code of statements, as it is put together from its end.
use Rattle.std.proofs.Common.{◌≡◌, ℕ, suc, ◌+◌, ◌-◌, ◌≤◌, List, [], ◌∷◌, ◌++◌, length, refl, sym, ap, ◌∙◌, append_assoc, length-append, arith}
use Rattle.c_code.specs.declared.instr.Instr.{Instr}
use Rattle.c_code.specs.declared.instr.Instr.TheVariants.{GoBack, GoOn, SkipIfZero, Turn}
use Rattle.c_lower_placement.specs.Code.{one}
use Rattle.c_lower_bodies.specs.TypedCode.{Turns}

-- an instruction in the place of the one that so many follow
abbrev pub Replaced : List Instr → ℕ → Instr → List Instr → Type 0
Replaced code n i new = (before after : List Instr) (o : Instr) → code ≡ before ++ (o ∷ after) → length after ≡ n → new ≡ before ++ (i ∷ after)

-- what is put before code makes it longer
pub longer : (part old new : List Instr) → new ≡ part ++ old → length old ≤ length new
longer part old new e = let l : length new ≡ length part + length old = ap length e ∙ length-append part old in omega arith

module _ (old : List Instr) (end : ℕ) (at : end ≡ length old) where
  -- where a part was put before old and one instruction
  following : (part : List Instr) (i : Instr) → length (part ++ (i ∷ old)) ≡ length part + 1 + end
  following part i = omega (arith, length-append part (i ∷ old))

  -- the way back is put right, and the Turn before the loop
  pub turned : (inner : List Instr) (code new last : List Instr) → code ≡ inner ++ (GoBack 0 ∷ old) → Replaced code end (GoBack (length code - end - 1)) new → last ≡ Turn ∷ new → last ≡ (Turn ∷ (inner ++ one (GoBack (length inner)))) ++ old
  turned inner code new last ec put el =
      let long : length code ≡ length inner + 1 + end = ap length ec ∙ following inner (GoBack 0) in
      let by : length code - end - 1 ≡ length inner = omega arith in
      let right : new ≡ inner ++ (GoBack (length inner) ∷ old) = put inner old (GoBack 0) ec (sym at) ∙ ap (λ m. inner ++ (GoBack m ∷ old)) by in
      el ∙ ap (λ l. Turn ∷ l) (right ∙ sym (append_assoc inner (one (GoBack (length inner))) old))

  -- a loop whose parts were put together is one whose way back has this length
  looped : (inner : List Instr) (code new : List Instr) (n : ℕ) → code ≡ inner ++ (GoBack 0 ∷ old) → length inner ≡ n → Turns code new end → new ≡ (Turn ∷ (inner ++ one (GoBack n))) ++ old
  looped inner code new n ec ln turns = turns inner old ec (sym at) ∙ ap (λ m. (Turn ∷ (inner ++ one (GoBack m))) ++ old) ln

  pub while_made : (value : List Instr) (f : ℕ → ℕ → List Instr) (again : ℕ) (c1 c2 new : List Instr)
      → c1 ≡ GoBack 0 ∷ old → again ≡ length c1
      → c2 ≡ (value ++ (SkipIfZero (length (f (length c1 - end) (length c1 - again)) + (length c1 - end)) ∷ f (length c1 - end) (length c1 - again))) ++ c1
      → Turns c2 new end
      → new ≡ (Turn ∷ (value ++ (SkipIfZero (length (f 1 0) + 1) ∷ (f 1 0 ++ one (GoBack (length value + 1 + length (f 1 0))))))) ++ old
  while_made value f again c1 c2 new e1 ea e2 turns =
      let l1 : length c1 ≡ suc (length old) = ap length e1 in
      let ds : length c1 - end ≡ 1 = omega arith in
      let da : length c1 - again ≡ 0 = omega arith in
      let body = f 1 0 in
      let skip = SkipIfZero (length body + 1) in
      let inner = value ++ (skip ∷ body) in
      let s2 : c2 ≡ inner ++ (GoBack 0 ∷ old) =
      e2 ∙ (ap (λ n. (value ++ (SkipIfZero (length (f n (length c1 - again)) + n) ∷ f n (length c1 - again))) ++ c1) ds
      ∙ (ap (λ n. (value ++ (SkipIfZero (length (f 1 n) + 1) ∷ f 1 n)) ++ c1) da ∙ ap (λ l. inner ++ l) e1)) in
      let long : length inner ≡ length value + 1 + length body = omega (arith, length-append value (skip ∷ body)) in
      looped inner c2 new (length value + 1 + length body) s2 long turns
      ∙ ap (λ l. (Turn ∷ l) ++ old) (append_assoc value (skip ∷ body) (one (GoBack (length value + 1 + length body))))

  pub do_made : (value : List Instr) (f : ℕ → ℕ → List Instr) (test : ℕ) (c1 c2 c3 c4 new : List Instr)
      → c1 ≡ GoBack 0 ∷ old → c2 ≡ SkipIfZero 1 ∷ c1 → c3 ≡ value ++ c2 → test ≡ length c3 → c4 ≡ f (length c3 - end) (length c3 - test) ++ c3
      → Turns c4 new end
      → new ≡ (Turn ∷ (f (length value + 2) 0 ++ (value ++ (SkipIfZero 1 ∷ one (GoBack (length (f (length value + 2) 0) + length value + 1)))))) ++ old
  do_made value f test c1 c2 c3 c4 new e1 e2 e3 ea e4 turns =
      let skip = SkipIfZero 1 in
      let s2 : c2 ≡ skip ∷ (GoBack 0 ∷ old) = e2 ∙ ap (λ l. skip ∷ l) e1 in
      let s3 : c3 ≡ (value ++ one skip) ++ (GoBack 0 ∷ old) = e3 ∙ (ap (λ l. value ++ l) s2 ∙ sym (append_assoc value (one skip) (GoBack 0 ∷ old))) in
      let lv : length (value ++ one skip) ≡ length value + 1 = omega (arith, length-append value (one skip)) in
      let l3 : length c3 ≡ length value + 1 + 1 + end = ap length s3 ∙ (following (value ++ one skip) (GoBack 0) ∙ ap (λ n. n + 1 + end) lv) in
      let ds : length c3 - end ≡ length value + 2 = omega arith in
      let da : length c3 - test ≡ 0 = omega arith in
      let body = f (length value + 2) 0 in
      let inner = body ++ (value ++ one skip) in
      let s4 : c4 ≡ inner ++ (GoBack 0 ∷ old) =
      e4 ∙ (ap (λ n. f n (length c3 - test) ++ c3) ds ∙ (ap (λ n. f (length value + 2) n ++ c3) da
      ∙ (ap (λ l. body ++ l) s3 ∙ sym (append_assoc body (value ++ one skip) (GoBack 0 ∷ old))))) in
      let long : length inner ≡ length body + length value + 1 = omega (arith, length-append body (value ++ one skip), lv) in
      let back = one (GoBack (length body + length value + 1)) in
      looped inner c4 new (length body + length value + 1) s4 long turns
      ∙ ap (λ l. (Turn ∷ l) ++ old) (append_assoc body (value ++ one skip) back ∙ ap (λ l. body ++ l) (append_assoc value (one skip) back))

  pub for_made : (test : ℕ → List Instr) (final : List Instr) (f : ℕ → ℕ → List Instr) (next : ℕ) (c1 c2 c3 c4 new : List Instr)
      → c1 ≡ GoBack 0 ∷ old → c2 ≡ final ++ c1 → next ≡ length c2 → c3 ≡ f (length c2 - end) (length c2 - next) ++ c2 → c4 ≡ test (length c3 - end) ++ c3
      → Turns c4 new end
      → (let body = f (length final + 1) 0 in
      let head = test (length body + length final + 1) in
      new ≡ (Turn ∷ (head ++ (body ++ (final ++ one (GoBack (length head + length body + length final)))))) ++ old)
  for_made test final f next c1 c2 c3 c4 new e1 e2 ea e3 e4 turns =
      let s2 : c2 ≡ final ++ (GoBack 0 ∷ old) = e2 ∙ ap (λ l. final ++ l) e1 in
      let l2 : length c2 ≡ length final + 1 + end = ap length s2 ∙ following final (GoBack 0) in
      let ds : length c2 - end ≡ length final + 1 = omega arith in
      let da : length c2 - next ≡ 0 = omega arith in
      let body = f (length final + 1) 0 in
      let s3 : c3 ≡ (body ++ final) ++ (GoBack 0 ∷ old) =
      e3 ∙ (ap (λ n. f n (length c2 - next) ++ c2) ds ∙ (ap (λ n. f (length final + 1) n ++ c2) da ∙ (ap (λ l. body ++ l) s2 ∙ sym (append_assoc body final (GoBack 0 ∷ old))))) in
      let lb : length (body ++ final) ≡ length body + length final = length-append body final in
      let l3 : length c3 ≡ length body + length final + 1 + end = ap length s3 ∙ (following (body ++ final) (GoBack 0) ∙ ap (λ n. n + 1 + end) lb) in
      let over : length c3 - end ≡ length body + length final + 1 = omega arith in
      let head = test (length body + length final + 1) in
      let inner = head ++ (body ++ final) in
      let s4 : c4 ≡ inner ++ (GoBack 0 ∷ old) = e4 ∙ (ap (λ n. test n ++ c3) over ∙ (ap (λ l. head ++ l) s3 ∙ sym (append_assoc head (body ++ final) (GoBack 0 ∷ old)))) in
      let long : length inner ≡ length head + length body + length final = omega (arith, length-append head (body ++ final), lb) in
      let back = one (GoBack (length head + length body + length final)) in
      looped inner c4 new (length head + length body + length final) s4 long turns
      ∙ ap (λ l. (Turn ∷ l) ++ old) (append_assoc head (body ++ final) back ∙ ap (λ l. head ++ l) (append_assoc body final back))

  -- a statement before others
  pub more_made : (rest : List Instr) (f : ℕ → ℕ → List Instr) (stop again : ℕ) (code new : List Instr) → stop ≤ end → again ≤ end
      → code ≡ rest ++ old → new ≡ f (length code - stop) (length code - again) ++ code
      → new ≡ (f (length rest + (end - stop)) (length rest + (end - again)) ++ rest) ++ old
  more_made rest f stop again code new hs ha ec en =
      let long : length code ≡ length rest + length old = ap length ec ∙ length-append rest old in
      let ds : length code - stop ≡ length rest + (end - stop) = omega arith in
      let da : length code - again ≡ length rest + (end - again) = omega arith in
      let body = f (length rest + (end - stop)) (length rest + (end - again)) in
      en ∙ (ap (λ n. f n (length code - again) ++ code) ds ∙ (ap (λ n. f (length rest + (end - stop)) n ++ code) da
      ∙ (ap (λ l. body ++ l) ec ∙ sym (append_assoc body rest old))))
