-- What code wants where it makes an event, and the values that it hands over.
use Rattle.std.proofs.Common.{◌≡◌, ℕ, Bool, true, ◌&&◌, eqb, List, sym, subst, eqb-true}
use Rattle.std.specs.Prelude.{is_some}
use Rattle.std.proofs.lemmas.Bool.{and_parts, true≢false}
use Rattle.marks.specs.declared.range.Range.{Range}
use Rattle.marks.specs.Ranges.{Piece, Prepared}
use Rattle.marks.specs.Marks.{Commit, Call, Ret, UpRet, Alloc, Free}
use Rattle.marks.specs.Wants.{Want, Outside, Turns, Loads, Stores, Enters, Leaves, Allocs, Frees, Calls, Below, Gives, Returns, CallsBack, UpReturns, Steps, Fails, event_answer, same_numbers}
use Rattle.c_code.specs.declared.shape.Shape.TheVariants.{Pointer}
use Rattle.c_code.specs.Builtins.{size}
use Rattle.c_code.specs.Machine.{Laid}
use Rattle.c_code.specs.MarkLists.{result_of}
use Rattle.c_code.specs.Typed.{AreArguments, CarriesValues}
use Rattle.log_codec.specs.LogText.{IsWord}
use Rattle.replay_runs.proofs.Replies.{same_numbers_true}
use Rattle.whole_runs_laws.proofs.Lasts.{some_if}
use Rattle.reference_recorder_records_laws.proofs.Words.{word}

module _ (l : Laid) where
  same_args : (f g : ℕ) (args bs : List ℕ) → (eqb g f && same_numbers bs args) ≡ true → AreArguments l f args → AreArguments l g bs
  same_args f g args bs e takes =
      let parts = and_parts (eqb g f) (same_numbers bs args) e in
      subst (λ k. AreArguments l k bs) (sym (eqb-true g f parts.0)) (subst (AreArguments l f) (sym (same_numbers_true bs args parts.1)) takes)

  -- with an equation behind them
  same_args_first : (f g : ℕ) (args bs : List ℕ) (b : Bool) → (eqb g f && (same_numbers bs args && b)) ≡ true → AreArguments l f args → AreArguments l g bs
  same_args_first f g args bs b e takes =
      let parts = and_parts (eqb g f) (same_numbers bs args && b) e in
      let more = and_parts (same_numbers bs args) b parts.1 in
      subst (λ k. AreArguments l k bs) (sym (eqb-true g f parts.0)) (subst (AreArguments l f) (sym (same_numbers_true bs args more.0)) takes)

  -- a Call has arguments of its function
  pub call_takes : (want : Want) (g : ℕ) (bs : List ℕ) (ins : List Piece) (outs : List Range) (prepared : List Prepared) → is_some (event_answer want (Call g bs ins outs prepared)) ≡ true → CarriesValues l want → AreArguments l g bs
  call_takes Outside g bs ins outs prepared e h = absurd (true≢false (sym e))
  call_takes Turns g bs ins outs prepared e h = absurd (true≢false (sym e))
  call_takes (Loads o at n) g bs ins outs prepared e h = absurd (true≢false (sym e))
  call_takes (Stores o at bytes) g bs ins outs prepared e h = absurd (true≢false (sym e))
  call_takes (Enters i f args bytes) g bs ins outs prepared e h = absurd (true≢false (sym e))
  call_takes (Leaves at n) g bs ins outs prepared e h = absurd (true≢false (sym e))
  call_takes (Allocs n) g bs ins outs prepared e h = absurd (true≢false (sym e))
  call_takes (Frees at) g bs ins outs prepared e h = absurd (true≢false (sym e))
  call_takes (Calls i f args) g bs ins outs prepared e h = same_args f g args bs (some_if (eqb g f && same_numbers bs args) _ e) h
  call_takes (Below f args) g bs ins outs prepared e h = absurd (true≢false (sym e))
  call_takes (Gives f args) g bs ins outs prepared e h = absurd (true≢false (sym e))
  call_takes (Returns f args r) g bs ins outs prepared e h = absurd (true≢false (sym e))
  call_takes (CallsBack f args bytes) g bs ins outs prepared e h = absurd (true≢false (sym e))
  call_takes (UpReturns f r) g bs ins outs prepared e h = absurd (true≢false (sym e))
  call_takes (Steps i f args) g bs ins outs prepared e h = absurd (true≢false (sym e))
  call_takes (Fails kind) g bs ins outs prepared e h = absurd (true≢false (sym e))

  -- so has a Ret
  pub ret_takes : (want : Want) (g : ℕ) (bs : List ℕ) (v : ℕ) (same : Bool) (outs : List Piece) (commit : Commit) → is_some (event_answer want (Ret g bs v same outs commit)) ≡ true → CarriesValues l want → AreArguments l g bs
  ret_takes Outside g bs v same outs commit e h = absurd (true≢false (sym e))
  ret_takes Turns g bs v same outs commit e h = absurd (true≢false (sym e))
  ret_takes (Loads o at n) g bs v same outs commit e h = absurd (true≢false (sym e))
  ret_takes (Stores o at bytes) g bs v same outs commit e h = absurd (true≢false (sym e))
  ret_takes (Enters i f args bytes) g bs v same outs commit e h = absurd (true≢false (sym e))
  ret_takes (Leaves at n) g bs v same outs commit e h = absurd (true≢false (sym e))
  ret_takes (Allocs n) g bs v same outs commit e h = absurd (true≢false (sym e))
  ret_takes (Frees at) g bs v same outs commit e h = absurd (true≢false (sym e))
  ret_takes (Calls i f args) g bs v same outs commit e h = absurd (true≢false (sym e))
  ret_takes (Below f args) g bs v same outs commit e h = same_args f g args bs (some_if (eqb g f && same_numbers bs args) _ e) h
  ret_takes (Gives f args) g bs v same outs commit e h = same_args f g args bs (some_if (eqb g f && same_numbers bs args) _ e) h
  ret_takes (Returns f args r) g bs v same outs commit e h = same_args_first f g args bs (eqb v r) (some_if (eqb g f && (same_numbers bs args && eqb v r)) _ e) h.0
  ret_takes (CallsBack f args bytes) g bs v same outs commit e h = absurd (true≢false (sym e))
  ret_takes (UpReturns f r) g bs v same outs commit e h = absurd (true≢false (sym e))
  ret_takes (Steps i f args) g bs v same outs commit e h = absurd (true≢false (sym e))
  ret_takes (Fails kind) g bs v same outs commit e h = absurd (true≢false (sym e))

  -- what returns from a callback, a new block's size and the address of a freed one are words
  pub result_word : (want : Want) (g v : ℕ) → is_some (event_answer want (UpRet g v)) ≡ true → CarriesValues l want → IsWord v
  result_word Outside g v e h = absurd (true≢false (sym e))
  result_word Turns g v e h = absurd (true≢false (sym e))
  result_word (Loads o at n) g v e h = absurd (true≢false (sym e))
  result_word (Stores o at bytes) g v e h = absurd (true≢false (sym e))
  result_word (Enters i f args bytes) g v e h = absurd (true≢false (sym e))
  result_word (Leaves at n) g v e h = absurd (true≢false (sym e))
  result_word (Allocs n) g v e h = absurd (true≢false (sym e))
  result_word (Frees at) g v e h = absurd (true≢false (sym e))
  result_word (Calls i f args) g v e h = absurd (true≢false (sym e))
  result_word (Below f args) g v e h = absurd (true≢false (sym e))
  result_word (Gives f args) g v e h = absurd (true≢false (sym e))
  result_word (Returns f args r) g v e h = absurd (true≢false (sym e))
  result_word (CallsBack f args bytes) g v e h = absurd (true≢false (sym e))
  result_word (UpReturns f r) g v e h = subst IsWord (sym (eqb-true v r (and_parts (eqb g f) (eqb v r) (some_if (eqb g f && eqb v r) _ e)).1)) (word (result_of l f) r h)
  result_word (Steps i f args) g v e h = absurd (true≢false (sym e))
  result_word (Fails kind) g v e h = absurd (true≢false (sym e))

  pub size_word : (want : Want) (at n : ℕ) → is_some (event_answer want (Alloc at n)) ≡ true → CarriesValues l want → IsWord n
  size_word Outside at n e h = absurd (true≢false (sym e))
  size_word Turns at n e h = absurd (true≢false (sym e))
  size_word (Loads o x k) at n e h = absurd (true≢false (sym e))
  size_word (Stores o x bytes) at n e h = absurd (true≢false (sym e))
  size_word (Enters i f args bytes) at n e h = absurd (true≢false (sym e))
  size_word (Leaves x k) at n e h = absurd (true≢false (sym e))
  size_word (Allocs k) at n e h = subst IsWord (sym (eqb-true n k (some_if (eqb n k) _ e))) (word size k h)
  size_word (Frees x) at n e h = absurd (true≢false (sym e))
  size_word (Calls i f args) at n e h = absurd (true≢false (sym e))
  size_word (Below f args) at n e h = absurd (true≢false (sym e))
  size_word (Gives f args) at n e h = absurd (true≢false (sym e))
  size_word (Returns f args r) at n e h = absurd (true≢false (sym e))
  size_word (CallsBack f args bytes) at n e h = absurd (true≢false (sym e))
  size_word (UpReturns f r) at n e h = absurd (true≢false (sym e))
  size_word (Steps i f args) at n e h = absurd (true≢false (sym e))
  size_word (Fails kind) at n e h = absurd (true≢false (sym e))

  pub freed_word : (want : Want) (at n : ℕ) → is_some (event_answer want (Free at n)) ≡ true → CarriesValues l want → IsWord at
  freed_word Outside at n e h = absurd (true≢false (sym e))
  freed_word Turns at n e h = absurd (true≢false (sym e))
  freed_word (Loads o x k) at n e h = absurd (true≢false (sym e))
  freed_word (Stores o x bytes) at n e h = absurd (true≢false (sym e))
  freed_word (Enters i f args bytes) at n e h = absurd (true≢false (sym e))
  freed_word (Leaves x k) at n e h = absurd (true≢false (sym e))
  freed_word (Allocs k) at n e h = absurd (true≢false (sym e))
  freed_word (Frees x) at n e h = subst IsWord (sym (eqb-true at x (some_if (eqb at x) _ e))) (word Pointer x h)
  freed_word (Calls i f args) at n e h = absurd (true≢false (sym e))
  freed_word (Below f args) at n e h = absurd (true≢false (sym e))
  freed_word (Gives f args) at n e h = absurd (true≢false (sym e))
  freed_word (Returns f args r) at n e h = absurd (true≢false (sym e))
  freed_word (CallsBack f args bytes) at n e h = absurd (true≢false (sym e))
  freed_word (UpReturns f r) at n e h = absurd (true≢false (sym e))
  freed_word (Steps i f args) at n e h = absurd (true≢false (sym e))
  freed_word (Fails kind) at n e h = absurd (true≢false (sym e))
