-- Only a fault stops what is wanted.
use Rattle.std.proofs.Common.{◌≡◌, Bool, true, false, cond, ◌&&◌, not, eqb, Option, Some, None, refl, sym, ap, ◌∙◌}
use Rattle.marks.specs.declared.side.Side.{Side}
use Rattle.marks.specs.Marks.{EventKind, Call, Ret, Up, UpRet, Alloc, Free, Act, Turn, Load, Store, Enter, Leave, Step, Fault, Made, Mark, side_of}
use Rattle.marks.specs.Wants.{Want, Outside, Turns, Loads, Stores, Enters, Leaves, Allocs, Frees, Calls, Below, Gives, Returns, CallsBack, UpReturns, Steps, Answer, Go, Value, Frame, CalledBack, Stopped, answer_if, answer_to, event_answer}
use Rattle.c_code.specs.MarkLists.{same_side, reply}
use Rattle.replay_runs.specs.Runs.{is_fault}
use Rattle.whole_runs_seen.proofs.Answered.{LeadsOn}

abbrev leads : Option Answer → Bool
leads (Some Stopped) = false
leads (Some Go) = true
leads (Some (Value v)) = true
leads (Some (Frame at)) = true
leads (Some (CalledBack g args)) = true
leads None = true

if_leads : (b : Bool) (x : Answer) → leads (Some x) ≡ true → leads (answer_if b x) ≡ true
if_leads true x h = h
if_leads false x h = refl

not_both : (b : Bool) → leads (answer_if (b && false) Stopped) ≡ true
not_both true = refl
not_both false = refl

event_leads : (want : Want) (k : EventKind) → leads (event_answer want k) ≡ true
event_leads Outside (Up g bs) = refl
event_leads (Allocs n) (Alloc at size) = if_leads _ (Value at) refl
event_leads (Frees at) (Free x size) = if_leads _ Go refl
event_leads (Calls i f args) (Call g bs ins outs prepared) = if_leads _ Go refl
event_leads (Below f args) (Ret g bs v same outs commit) = if_leads _ (Value v) refl
event_leads (Below f args) (Up g bs) = refl
event_leads (Gives f args) (Ret g bs v same outs commit) = if_leads _ (Value v) refl
event_leads (Returns f args v) (Ret g bs w same outs commit) = if_leads _ Go refl
event_leads (CallsBack f args bytes) (Up g bs) = if_leads _ (CalledBack f args) refl
event_leads (UpReturns f v) (UpRet g w) = if_leads _ Go refl
event_leads want k = refl

act_leads : (want : Want) (a : Act) → is_fault a ≡ 0 → leads (answer_to want a) ≡ true
unfolding answer_to
act_leads want (Fault k c ins outs at) e = absurd cc
act_leads want (Made ev) e = event_leads want ev.kind
act_leads Turns Turn e = refl
act_leads (Loads o at n) (Load p x bytes) e = if_leads _ (Value _) refl
act_leads (Stores o at bytes) (Store p x bs) e = if_leads _ Go refl
act_leads (Enters i f args bytes) (Enter g bs at b) e = if_leads _ (Frame at) refl
act_leads (Leaves at n) (Leave x size) e = if_leads _ Go refl
act_leads (Frees at) a e = not_both (not (eqb at 0))
act_leads (CallsBack f args bytes) (Enter g bs at b) e = if_leads _ (Frame at) refl
act_leads (Steps i f args) (Step g bs v ins pieces freed) e = if_leads _ (Value v) refl
act_leads want a e = refl

leads_on : (x : Answer) → leads (Some x) ≡ true → LeadsOn x
leads_on Go h = tt
leads_on (Value v) h = tt
leads_on (Frame at) h = tt
leads_on (CalledBack g args) h = tt
leads_on Stopped h = absurd cc

-- what a mark that is no fault answers leads on
pub answers_lead : (side : Side) (want : Want) (m : Mark) (x : Answer) → is_fault m.act ≡ 0 → reply side want m ≡ Some x → LeadsOn x
unfolding reply
answers_lead side want m x e h = leads_on x (go (same_side (side_of side m.act) m.side) h)
  where
    go : (b : Bool) → cond b (answer_to want m.act) None ≡ Some x → leads (Some x) ≡ true
    go true z = sym (ap leads z) ∙ act_leads want m.act e
    go false z = absurd cc
