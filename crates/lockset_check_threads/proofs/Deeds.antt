-- What marks that answer do to mutexes.
use Rattle.std.proofs.Common.{◌≡◌, ℕ, Bool, true, false, ◌&&◌, eqb, List, [], ◌∷◌, Some, refl, sym, ap, ◌∙◌, subst}
use Rattle.std.specs.Prelude.{not}
use Rattle.std.proofs.lemmas.Bool.{and_parts, eqb-true}
use Rattle.marks.specs.declared.range.Range.{Range}
use Rattle.marks.specs.Ranges.{Piece, Prepared}
use Rattle.marks.specs.declared.side.Side.{Side}
use Rattle.marks.specs.Marks.{EventKind, Call, Ret, Up, UpRet, Alloc, Free, NoRegion, Commit, Act, Step, Fault, Made, Mark}
use Rattle.marks.specs.Wants.{Want, Outside, Turns, Loads, Stores, Enters, Leaves, Allocs, Frees, Calls, Below, Gives, Returns, CallsBack, UpReturns, Steps, Fails, Answer, Go, Value, Frame, CalledBack, Stopped, answer_if, stopped_if, same_numbers, event_answer, answer_to, is_fault_at_byte}
use Rattle.c_code.specs.MarkLists.{reply}
use Rattle.c_code.proofs.Sides.{answered, numbers_same, replied}
use Rattle.lockset_check_laws.specs.Locks.{Deed, Other, deed, event_deed}
use Rattle.lockset_check_threads.specs.Wants.{calls}
use Rattle.lockset_check_threads.proofs.Asked.{IsHeard}

abbrev pub call_deed : ℕ → List ℕ → Deed
call_deed f args = event_deed calls (Call f args [] [] [])

abbrev pub return_deed : ℕ → List ℕ → Deed
return_deed f args = event_deed calls (Ret f args 0 false [] NoRegion)

abbrev pub step_deed : ℕ → List ℕ → Deed
step_deed f args = deed calls (Step f args 0 [] [] [])

-- what a mark does that gives this answer to this want
abbrev pub wanted_deed : Want → Answer → Deed
wanted_deed (Calls i f args) x = call_deed f args
wanted_deed (Below f args) (Value v) = return_deed f args
wanted_deed (Below f args) Go = Other
wanted_deed (Below f args) (Frame at) = Other
wanted_deed (Below f args) (CalledBack g bs) = Other
wanted_deed (Below f args) Stopped = Other
wanted_deed (Gives f args) x = return_deed f args
wanted_deed (Returns f args v) x = return_deed f args
wanted_deed (Steps i f args) x = step_deed f args
wanted_deed Outside x = Other
wanted_deed Turns x = Other
wanted_deed (Loads o at n) x = Other
wanted_deed (Stores o at bytes) x = Other
wanted_deed (Enters i f args bytes) x = Other
wanted_deed (Leaves at n) x = Other
wanted_deed (Allocs n) x = Other
wanted_deed (Frees at) x = Other
wanted_deed (CallsBack f args bytes) x = Other
wanted_deed (UpReturns f v) x = Other
wanted_deed (Fails kind) x = Other

-- ---- only the function and its arguments count

call_is : (f : ℕ) (args : List ℕ) (ins : List Piece) (outs : List Range) (prepared : List Prepared) → event_deed calls (Call f args ins outs prepared) ≡ call_deed f args
call_is f [] ins outs prepared = refl
call_is f (k ∷ []) ins outs prepared = refl
call_is f (j ∷ k ∷ ks) ins outs prepared = refl

return_is : (f : ℕ) (args : List ℕ) (v : ℕ) (same : Bool) (outs : List Piece) (commit : Commit) → event_deed calls (Ret f args v same outs commit) ≡ return_deed f args
return_is f [] v same outs commit = refl
return_is f (k ∷ []) v same outs commit = refl
return_is f (j ∷ k ∷ ks) v same outs commit = refl

step_is : (f : ℕ) (args : List ℕ) (v : ℕ) (ins pieces : List Piece) (freed : List Range) → deed calls (Step f args v ins pieces freed) ≡ step_deed f args
step_is f [] v ins pieces freed = refl
step_is f (k ∷ []) v ins pieces freed = refl
step_is f (j ∷ k ∷ ks) v ins pieces freed = refl

-- the same function and arguments
alike : (d : ℕ → List ℕ → Deed) (g f : ℕ) (bs args : List ℕ) → (eqb g f && same_numbers bs args) ≡ true → d g bs ≡ d f args
alike d g f bs args e =
    let p = and_parts (eqb g f) (same_numbers bs args) e in
    let func : g ≡ f = eqb-true g f p.0 in
    let same : bs ≡ args = numbers_same bs args p.1 in
    λ i. d (func i) (same i)

stopped_heard : (b : Bool) (x : Answer) → stopped_if b ≡ Some x → IsHeard x → ⊥
stopped_heard b x e h = subst IsHeard (sym (answered b Stopped x e).1) h

not_stopped : (b : Bool) (x : Answer) → stopped_if (b && false) ≡ Some x → ⊥
not_stopped true x e = absurd cc
not_stopped false x e = absurd cc

-- ---- events

returned : (f g : ℕ) (args bs : List ℕ) (v w : ℕ) (b same : Bool) (outs : List Piece) (commit : Commit) (x : Answer) (y : Answer) → answer_if (eqb g f && (same_numbers bs args && b)) y ≡ Some x → event_deed calls (Ret g bs w same outs commit) ≡ return_deed f args
returned f g args bs v w b same outs commit x y e =
    let p = and_parts (eqb g f) (same_numbers bs args && b) (answered _ y x e).0 in
    let q = and_parts (same_numbers bs args) b p.1 in
    let func : g ≡ f = eqb-true g f p.0 in
    let args_same : bs ≡ args = numbers_same bs args q.0 in
    return_is g bs w same outs commit ∙ (λ i. return_deed (func i) (args_same i))

gave : (f g : ℕ) (args bs : List ℕ) (w : ℕ) (same : Bool) (outs : List Piece) (commit : Commit) (x y : Answer) → answer_if (eqb g f && same_numbers bs args) y ≡ Some x → event_deed calls (Ret g bs w same outs commit) ≡ return_deed f args
gave f g args bs w same outs commit x y e = return_is g bs w same outs commit ∙ alike return_deed g f bs args (answered (eqb g f && same_numbers bs args) y x e).0

event_deeds : (want : Want) (k : EventKind) (x : Answer) → event_answer want k ≡ Some x → IsHeard x → event_deed calls k ≡ wanted_deed want x
event_deeds (Calls i f args) (Call g bs ins outs prepared) x e h = call_is g bs ins outs prepared ∙ alike call_deed g f bs args (answered (eqb g f && same_numbers bs args) Go x e).0
event_deeds (Gives f args) (Ret g bs w same outs commit) x e h = gave f g args bs w same outs commit x (Value w) e
event_deeds (Returns f args v) (Ret g bs w same outs commit) x e h = returned f g args bs v w (eqb w v) same outs commit x Go e
event_deeds (Below f args) (Ret g bs w same outs commit) x e h = gave f g args bs w same outs commit x (Value w) e ∙ ap (λ y. wanted_deed (Below f args) y) (answered (eqb g f && same_numbers bs args) (Value w) x e).1
event_deeds (Below f args) (Up g bs) x e h = let is : CalledBack g bs ≡ x = cc in ap (λ y. wanted_deed (Below f args) y) is
event_deeds Outside (Up g bs) x e h = refl
event_deeds (Allocs n) (Alloc at size) x e h = refl
event_deeds (Frees at) (Free y size) x e h = refl
event_deeds (CallsBack f args bytes) (Up g bs) x e h = refl
event_deeds (UpReturns f v) (UpRet g w) x e h = refl
event_deeds want k x e h = absurd cc

-- ---- all marks

act_deeds : (want : Want) (a : Act) (x : Answer) → answer_to want a ≡ Some x → IsHeard x → deed calls a ≡ wanted_deed want x
unfolding answer_to
act_deeds (Steps i f args) (Step g bs v ins pieces freed) x e h = step_is g bs v ins pieces freed ∙ alike step_deed g f bs args (answered (eqb g f && same_numbers bs args) (Value v) x e).0
act_deeds (Steps i f args) (Fault kind crosses ins outs access) x e h = absurd (stopped_heard (is_fault_at_byte false (Fault kind crosses ins outs access)) x e h)
act_deeds (Calls i f args) (Fault kind crosses ins outs access) x e h = absurd (stopped_heard (is_fault_at_byte true (Fault kind crosses ins outs access)) x e h)
act_deeds (Frees at) (Step g bs v ins pieces freed) x e h = absurd (not_stopped (not (eqb at 0)) x e)
act_deeds Outside (Made e) x q h = event_deeds Outside e.kind x q h
act_deeds Outside (Step g bs v ins pieces freed) x q h = absurd cc
act_deeds Outside a x q h = refl
act_deeds Turns (Made e) x q h = event_deeds Turns e.kind x q h
act_deeds Turns (Step g bs v ins pieces freed) x q h = absurd cc
act_deeds Turns a x q h = refl
act_deeds (Loads o at n) (Made e) x q h = event_deeds (Loads o at n) e.kind x q h
act_deeds (Loads o at n) (Step g bs v ins pieces freed) x q h = absurd cc
act_deeds (Loads o at n) a x q h = refl
act_deeds (Stores o at bytes) (Made e) x q h = event_deeds (Stores o at bytes) e.kind x q h
act_deeds (Stores o at bytes) (Step g bs v ins pieces freed) x q h = absurd cc
act_deeds (Stores o at bytes) a x q h = refl
act_deeds (Enters i f args bytes) (Made e) x q h = event_deeds (Enters i f args bytes) e.kind x q h
act_deeds (Enters i f args bytes) (Step g bs v ins pieces freed) x q h = absurd cc
act_deeds (Enters i f args bytes) a x q h = refl
act_deeds (Leaves at n) (Made e) x q h = event_deeds (Leaves at n) e.kind x q h
act_deeds (Leaves at n) (Step g bs v ins pieces freed) x q h = absurd cc
act_deeds (Leaves at n) a x q h = refl
act_deeds (Allocs n) (Made e) x q h = event_deeds (Allocs n) e.kind x q h
act_deeds (Allocs n) (Step g bs v ins pieces freed) x q h = absurd cc
act_deeds (Allocs n) a x q h = refl
act_deeds (Frees at) (Made e) x q h = event_deeds (Frees at) e.kind x q h
act_deeds (Frees at) a x q h = refl
act_deeds (CallsBack f args bytes) (Made e) x q h = event_deeds (CallsBack f args bytes) e.kind x q h
act_deeds (CallsBack f args bytes) (Step g bs v ins pieces freed) x q h = absurd cc
act_deeds (CallsBack f args bytes) a x q h = refl
act_deeds (UpReturns f v) (Made e) x q h = event_deeds (UpReturns f v) e.kind x q h
act_deeds (UpReturns f w) (Step g bs v ins pieces freed) x q h = absurd cc
act_deeds (UpReturns f v) a x q h = refl
act_deeds (Fails kind) (Made e) x q h = event_deeds (Fails kind) e.kind x q h
act_deeds (Fails kind) (Step g bs v ins pieces freed) x q h = absurd cc
act_deeds (Fails kind) a x q h = refl
act_deeds (Calls i f args) (Made e) x q h = event_deeds (Calls i f args) e.kind x q h
act_deeds (Calls i f args) a x q h = absurd cc
act_deeds (Steps i f args) (Made e) x q h = event_deeds (Steps i f args) e.kind x q h
act_deeds (Steps i f args) a x q h = absurd cc
act_deeds (Gives f args) (Made e) x q h = event_deeds (Gives f args) e.kind x q h
act_deeds (Gives f args) a x q h = absurd cc
act_deeds (Returns f args v) (Made e) x q h = event_deeds (Returns f args v) e.kind x q h
act_deeds (Returns f args v) a x q h = absurd cc
act_deeds (Below f args) (Made e) x q h = event_deeds (Below f args) e.kind x q h
act_deeds (Below f args) a x q h = absurd cc

pub deeds : (side : Side) (want : Want) (m : Mark) (x : Answer) → reply side want m ≡ Some x → IsHeard x → deed calls m.act ≡ wanted_deed want x
deeds side want m x e h = act_deeds want m.act x (replied side want m x e).1 h
