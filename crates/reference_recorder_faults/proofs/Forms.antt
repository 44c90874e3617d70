-- What the mark of a fault does, by what the code wanted.
use Rattle.std.proofs.Common.{◌≡◌, ℕ, true, false, ◌||◌, List, [], length, Option, Some, None, is_some, refl, sym, ap}
use Rattle.std.proofs.lemmas.Bool.{true≢false}
use Rattle.marks.specs.declared.fault.FaultKind.{FaultKind}
use Rattle.marks.specs.declared.range.Range.{Range}
use Rattle.marks.specs.Ranges.{range}
use Rattle.marks.specs.Marks.{Access, Nowhere, Reading, Writing, Freeing, Act, Fault}
use Rattle.marks.specs.Wants.{Want, Outside, Turns, Loads, Stores, Enters, Leaves, Allocs, Frees, Calls, Below, Gives, Returns, CallsBack, UpReturns, Steps, Fails, answer_to, is_above, is_below}
use Rattle.replay_runs.specs.Threads.{act_fault}
use Rattle.replay_runs.proofs.Replies.{Plain, turn, load, no_load, store, no_store, no_write, enter, full, leave, no_free, no_call, fail, IsNoStep, only_events}
use Rattle.whole_runs_laws.proofs.OneFault.{no_event}

-- the fault of this kind comes at the access that was wanted; at a Call it comes at one of its ranges
abbrev pub FaultForm : Want → FaultKind → Act → Type 0
FaultForm Outside kind a = ⊥
FaultForm Turns kind a = ⊥
FaultForm (Loads o at n) kind a = a ≡ Fault kind false [] [] (Reading (range at n))
FaultForm (Stores o at bytes) kind a = a ≡ Fault kind false [] [] (Writing (range at (length bytes)))
FaultForm (Enters i f args bytes) kind a = a ≡ Fault kind false [] [] Nowhere
FaultForm (Leaves at n) kind a = ⊥
FaultForm (Allocs n) kind a = ⊥
FaultForm (Frees at) kind a = a ≡ Fault kind false [] [] (Freeing at)
FaultForm (Calls i f args) kind a = (ins : List Range) × (outs : List Range) × (access : Access) × (a ≡ Fault kind true ins outs access)
FaultForm (Below f args) kind a = ⊥
FaultForm (Gives f args) kind a = ⊥
FaultForm (Returns f args v) kind a = ⊥
FaultForm (CallsBack f args bytes) kind a = a ≡ Fault kind false [] [] Nowhere
FaultForm (UpReturns f v) kind a = ⊥
FaultForm (Steps i f args) kind a = Unit {0}
FaultForm (Fails k) kind a = a ≡ Fault kind false [] [] Nowhere

same_kind : (k kind : FaultKind) → ◌≡◌ {A = Option FaultKind} (Some k) (Some kind) → k ≡ kind
same_kind k kind e = cc

at_access : (k kind : FaultKind) (access : Access) → ◌≡◌ {A = Option FaultKind} (Some k) (Some kind) → Fault k false [] [] access ≡ Fault kind false [] [] access
at_access k kind access e = ap (λ q. Fault q false [] [] access) (same_kind k kind e)

plain_form : (want : Want) (kind : FaultKind) (a : Act) → Plain want a → act_fault a None ≡ Some kind → FaultForm want kind a
plain_form want kind a turn e = cc
plain_form want kind a (load bytes l) e = cc
plain_form want kind a (no_load {o} {at} {n}) e = at_access _ kind (Reading (range at n)) e
plain_form want kind a store e = cc
plain_form want kind a (no_store {o} {at} {bytes}) e = at_access _ kind (Writing (range at (length bytes))) e
plain_form want kind a (no_write {o} {at} {bytes}) e = at_access _ kind (Writing (range at (length bytes))) e
plain_form want kind a (enter at) e = cc
plain_form want kind a full e = at_access _ kind Nowhere e
plain_form want kind a leave e = cc
plain_form want kind a (no_free {at}) e = at_access _ kind (Freeing at) e
plain_form want kind a (no_call k ins outs access) e = (ins, outs, access, ap (λ q. Fault q true ins outs access) (same_kind k kind e))
plain_form want kind a (fail {k}) e = at_access k kind Nowhere e

form_of : (want : Want) (kind : FaultKind) (a : Act) → IsNoStep want → (is_above want || is_below want) ≡ true → act_fault a None ≡ Some kind → is_some (answer_to want a) ≡ true → FaultForm want kind a
form_of want kind a no_step there e h = plain_form want kind a (only_events want a (no_event a kind e) no_step there h) e

-- a call through an address below the cut faults as the call of a frame does
back_form : (f : ℕ) (args bytes : List ℕ) (kind : FaultKind) (a : Act) → act_fault a None ≡ Some kind → is_some (answer_to (CallsBack f args bytes) a) ≡ true → a ≡ Fault kind false [] [] Nowhere
unfolding answer_to
back_form f args bytes kind (Fault k crosses ins outs access) e h =
    plain_form (Enters false f args bytes) kind (Fault k crosses ins outs access)
    (only_events (Enters false f args bytes) (Fault k crosses ins outs access) refl tt refl h) e
back_form f args bytes kind a e h = cc

-- no fault answers the return of a call
gives_none : (f : ℕ) (args : List ℕ) (kind : FaultKind) (a : Act) → act_fault a None ≡ Some kind → is_some (answer_to (Gives f args) a) ≡ true → ⊥
unfolding answer_to
gives_none f args kind (Fault k crosses ins outs access) e h = true≢false (sym h)
gives_none f args kind a e h = cc

returns_none : (f : ℕ) (args : List ℕ) (v : ℕ) (kind : FaultKind) (a : Act) → act_fault a None ≡ Some kind → is_some (answer_to (Returns f args v) a) ≡ true → ⊥
unfolding answer_to
returns_none f args v kind (Fault k crosses ins outs access) e h = true≢false (sym h)
returns_none f args v kind a e h = cc

pub fault_form : (want : Want) (kind : FaultKind) (a : Act) → act_fault a None ≡ Some kind → is_some (answer_to want a) ≡ true → FaultForm want kind a
fault_form Outside kind a e h = form_of Outside kind a tt refl e h
fault_form Turns kind a e h = form_of Turns kind a tt refl e h
fault_form (Loads o at n) kind a e h = form_of (Loads o at n) kind a tt refl e h
fault_form (Stores o at bytes) kind a e h = form_of (Stores o at bytes) kind a tt refl e h
fault_form (Enters i f args bytes) kind a e h = form_of (Enters i f args bytes) kind a tt refl e h
fault_form (Leaves at n) kind a e h = form_of (Leaves at n) kind a tt refl e h
fault_form (Allocs n) kind a e h = form_of (Allocs n) kind a tt refl e h
fault_form (Frees at) kind a e h = form_of (Frees at) kind a tt refl e h
fault_form (Calls i f args) kind a e h = form_of (Calls i f args) kind a tt refl e h
fault_form (Below f args) kind a e h = form_of (Below f args) kind a tt refl e h
fault_form (Gives f args) kind a e h = gives_none f args kind a e h
fault_form (Returns f args v) kind a e h = returns_none f args v kind a e h
fault_form (CallsBack f args bytes) kind a e h = back_form f args bytes kind a e h
fault_form (UpReturns f v) kind a e h = form_of (UpReturns f v) kind a tt refl e h
fault_form (Steps i f args) kind a e h = tt
fault_form (Fails k) kind a e h = form_of (Fails k) kind a tt refl e h
