-- The keys of an event, case by case.
use Rattle.std.proofs.Common.{◌≡◌, ℕ, suc, Bool, true, false, cond, leb, List, [], ◌∷◌, ◌++◌, map, length, refl, ap, ◌∙◌, arith}
use Rattle.std.proofs.lemmas.Bool.{lt-leb}
use Rattle.run_events.specs.declared.key.Class.TheVariants.{Async, Callback, Pool, Thread}
use Rattle.run_events.specs.declared.key.Key.{Key}
use Rattle.marks.specs.declared.range.Range.{Range}
use Rattle.marks.specs.declared.fault.FaultKind.{FaultKind}
use Rattle.marks.specs.Ranges.{Piece, Prepared}
use Rattle.marks.specs.Marks.{Commit, Call, Ret, Up, UpRet, Alloc, Free, Stop, Mark}
use Rattle.replay_runs.specs.Keys.{commit_keys, is_last, key, sorted_keys}
use Rattle.replay_runs.specs.Threads.{open_ups, tail}
use Rattle.stub_meaning.specs.Calls.{Done}
use Rattle.stub_calls.specs.Calls.{call_keys, return_keys}
use Rattle.reference_recorder_calls.specs.Mine.{AreOpenUps, mine}
use Rattle.reference_recorder_calls.specs.Said.{AreEndKeys, AreKeysOf}
use Rattle.std.proofs.Common.{Option}

pub last_is : (ups : List ℕ) → leb (length ups) 1 ≡ is_last (tail ups)
last_is [] = refl
last_is (f ∷ []) = refl
last_is (f ∷ (g ∷ fs)) = lt-leb (suc (suc (length fs))) 1 (omega arith)

module _ (p : List Mark) (t : ℕ) where
  pub end_last : (ups seen_ups : List ℕ) (b : Bool) (keys : List Key) → AreOpenUps p t ups → seen_ups ≡ ups → b ≡ is_last (tail seen_ups) → keys ≡ cond b (key Thread t ∷ []) [] → AreEndKeys p t keys
  end_last ups seen_ups b keys open_are same e is memory = is ∙ ap (λ c. cond c (key Thread t ∷ []) []) (e ∙ ap (λ us. is_last (tail us)) (same ∙ open_are memory))

  module _ (d : Done) (keys : List Key) where
    pub call_is : (f : ℕ) (args : List ℕ) (ins : List Piece) (outs : List Range) (prepared : List Prepared) → keys ≡ call_keys d → AreKeysOf p t (Call f args ins outs prepared) d keys
    call_is f args ins outs prepared e i memory said = e ∙ (λ j. sorted_keys (said.0 j ++ (map (key Callback) (said.1 j) ++ map (λ (q : Prepared). key Async q.key) (said.2 j))))

    pub ret_is : (f : ℕ) (args : List ℕ) (v : ℕ) (same : Bool) (outs : List Piece) (commit : Commit) → keys ≡ return_keys d → AreKeysOf p t (Ret f args v same outs commit) d keys
    ret_is f args v same outs commit e i memory said = e ∙ (λ j. sorted_keys (said.0 j ++ commit_keys (said.1 j)))

    pub up_is : (f : ℕ) (args : List ℕ) → keys ≡ key Callback f ∷ [] → AreKeysOf p t (Up f args) d keys
    up_is f args e i memory said = e

    pub end_is : (f v : ℕ) → AreEndKeys p t keys → AreKeysOf p t (UpRet f v) d keys
    end_is f v e i memory said = e memory ∙ go (is_last (tail (open_ups (mine memory t p))))
      where
        go : (b : Bool) → cond b (key Thread t ∷ []) [] ≡ sorted_keys (cond b (key Thread t ∷ []) [])
        go true = refl
        go false = refl

    pub alloc_is : (at size : ℕ) → keys ≡ key Pool 0 ∷ [] → AreKeysOf p t (Alloc at size) d keys
    alloc_is at size e i memory said = e

    pub free_is : (at size : ℕ) → keys ≡ key Pool 0 ∷ [] → AreKeysOf p t (Free at size) d keys
    free_is at size e i memory said = e

    pub stop_is : (fault : Option FaultKind) → keys ≡ [] → AreKeysOf p t (Stop fault) d keys
    stop_is fault e i memory said = e
