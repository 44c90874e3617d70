-- What is told of a mark is what it answers.
use Rattle.std.proofs.Common.{◌≡◌, ℕ, ◌≤◌, Bool, true, false, ◌&&◌, not, eqb, List, [], ◌∷◌, length, Option, Some, None, refl, sym, ap, ◌∙◌, subst, arith, eqb-true}
use Rattle.std.specs.Prelude.{is_some}
use Rattle.std.proofs.lemmas.Bool.{and_parts, true≢false}
use Rattle.marks.specs.declared.side.Side.{Side}
use Rattle.marks.specs.Ranges.{are_bytes, number_of_bytes}
use Rattle.marks.specs.Marks.{EventKind, Call, Ret, Up, UpRet, Alloc, Free, Stop, Act, Turn, Load, Store, Enter, Leave, Step, Fault, Made}
use Rattle.marks.specs.Wants.{Want, Loads, Frees, Below, Gives, Returns, CallsBack, Answer, Go, Value, Frame, CalledBack, Stopped, answer_if, answer_to, event_answer, same_origin}
use Rattle.c_code.specs.Machine.{Laid, Config}
use Rattle.c_code.specs.MarkLists.{Wants}
use Rattle.replay_runs.specs.Runs.{is_fault}
use Rattle.replay_runs.specs.Pool.{is_call, is_call_event}
use Rattle.whole_runs.specs.Outcomes.{Outcome, act_outcome, event_outcome, is_start}
use Rattle.whole_runs_laws.proofs.Lasts.{some_if}
use Rattle.whole_runs_seen.proofs.Entries.{IsOwn}
use Rattle.recorder_threads.specs.declared.wants.Next.{Next as ToldNext}
use Rattle.recorder_threads.specs.declared.wants.Next.TheVariants as next
use Rattle.recorder_threads.specs.declared.wants.Want.{Want as ToldWant}
use Rattle.recorder_threads.specs.declared.wants.Want.TheVariants as told
use Rattle.recorder_threads.specs.Wants.{IsNextTold, IsTold}
use Rattle.reference_recorder_marks.specs.Marks.{without_origin}
use Rattle.reference_recorder_threads.specs.declared.report.Report.{Report}
use Rattle.reference_recorder_threads.specs.declared.report.Report.TheVariants as report
use Rattle.reference_recorder_threads.specs.declared.starts.Start.{Start}
use Rattle.reference_recorder_threads.specs.Telling.{IsPair, IsShort, IsStartOf, act_report, event_report, gives_next, gives_want, ret_report}
use Rattle.reference_recorder_threads.proofs.Replied.{act_reply, event_reply, ret_reply, up_reply}

-- ---- what is told of a want

pub load_told : (l : Laid) (args : List ℕ) (t : ToldWant) (o : Option ℕ) (at n : ℕ) → IsTold l args t (Loads o at n) → n ≤ 8
load_told l args (told.Load x k) o at n h = let few = h.2.few in let same : n ≡ k = cc in omega (arith, few, same)
load_told l args told.Turn o at n h = absurd cc
load_told l args (told.Store x k v) o at n h = absurd cc
load_told l args (told.Enter i f size) o at n h = absurd cc
load_told l args told.Leave o at n h = absurd cc
load_told l args (told.Alloc k) o at n h = absurd cc
load_told l args (told.Free x) o at n h = absurd cc
load_told l args (told.Call i f) o at n h = absurd cc
load_told l args (told.Give f) o at n h = absurd cc
load_told l args (told.Return f v) o at n h = absurd cc
load_told l args (told.CallBack f size) o at n h = absurd cc
load_told l args (told.UpReturn v) o at n h = absurd cc
load_told l args (told.Step i f) o at n h = absurd cc
load_told l args (told.Fault k) o at n h = absurd cc

pub give_told : (l : Laid) (args : List ℕ) (t : ToldWant) (f : ℕ) (bs : List ℕ) → IsTold l args t (Gives f bs) → gives_want t ≡ true
give_told l args (told.Give g) f bs h = refl
give_told l args told.Turn f bs h = absurd cc
give_told l args (told.Load x k) f bs h = absurd cc
give_told l args (told.Store x k v) f bs h = absurd cc
give_told l args (told.Enter i g size) f bs h = absurd cc
give_told l args told.Leave f bs h = absurd cc
give_told l args (told.Alloc k) f bs h = absurd cc
give_told l args (told.Free x) f bs h = absurd cc
give_told l args (told.Call i g) f bs h = absurd cc
give_told l args (told.Return g v) f bs h = absurd cc
give_told l args (told.CallBack g size) f bs h = absurd cc
give_told l args (told.UpReturn v) f bs h = absurd cc
give_told l args (told.Step i g) f bs h = absurd cc
give_told l args (told.Fault k) f bs h = absurd cc

pub return_told : (l : Laid) (args : List ℕ) (t : ToldWant) (f : ℕ) (bs : List ℕ) (v : ℕ) → IsTold l args t (Returns f bs v) → gives_want t ≡ false
return_told l args (told.Give g) f bs v h = absurd cc
return_told l args t f bs v h = refl

pub some_want : (l : Laid) (args : List ℕ) (n : ToldNext) (side : Side) (want : Want) (to : Answer → Config) → IsNextTold l args n (Wants side want to) → (t : ToldWant) × (IsTold l args t want) × (gives_next n ≡ gives_want t)
some_want l args (next.Ended v) side want to h = absurd cc
some_want l args (next.Wants s t) side want to h = let same : h.want ≡ want = cc in (t, subst (IsTold l args t) same h.is_told, refl)

-- ---- what is told of a mark

-- the event is a Ret
abbrev is_ret : EventKind → Bool
is_ret (Call f args ins outs prepared) = false
is_ret (Ret f args v same outs commit) = true
is_ret (Up f args) = false
is_ret (UpRet f v) = false
is_ret (Alloc at size) = false
is_ret (Free at size) = false
is_ret (Stop fault) = false

-- the thread of the call, where there is one
abbrev thread_in : ℕ → Option Outcome → ℕ
thread_in d None = d
thread_in d (Some o) = o.thread

pub none_some : (o : Outcome) → ◌≡◌ {A = Option Outcome} None (Some o) → ⊥
none_some o e = cc

-- it answers so
abbrev pub Shows : Report → Answer → Type 0
Shows report.Nothing x = x ≡ Stopped
Shows report.Go x = x ≡ Go
Shows (report.Value v) x = x ≡ Value v
Shows (report.Frame at) x = x ≡ Frame at
Shows report.Crosses x = x ≡ Go
Shows report.Up x = (f : ℕ) × (args : List ℕ) × (x ≡ CalledBack f args)

up_shows : (want : Want) (g : ℕ) (bs : List ℕ) → Shows report.Up (up_reply want g bs)
up_shows (CallsBack f args bytes) g bs = (f, args, refl)
up_shows want g bs = (g, bs, refl)

-- the value of a Ret is told where a builtin or external gives it
module _ (l : Laid) (side : Side) (want : Want) (gives : Bool) (own : IsOwn l side want) (yes : (f : ℕ) (bs : List ℕ) → want ≡ Gives f bs → gives ≡ true) (no : (f : ℕ) (bs : List ℕ) (v : ℕ) → want ≡ Returns f bs v → gives ≡ false) where
  ret_shows : (q : Want) → want ≡ q → IsOwn l side q → (k : EventKind) (v : ℕ) (x : Answer) → is_ret k ≡ true → event_answer q k ≡ Some x → Shows (ret_report gives v) (ret_reply q v)
  ret_shows (Gives f bs) e o k v x r a = subst (λ g. Shows (ret_report g v) (Value v)) (sym (yes f bs e)) refl
  ret_shows (Returns f bs u) e o k v x r a = subst (λ g. Shows (ret_report g v) Go) (sym (no f bs u e)) refl
  ret_shows (Below f bs) e o k v x r a = absurd o
  ret_shows q e o (Ret f bs u same outs commit) v x r a = absurd cc
  ret_shows q e o k v x r a = absurd cc

  event_shows : (k : EventKind) (x : Answer) → event_answer want k ≡ Some x → Shows (event_report gives k) (event_reply want k)
  event_shows (Call f args ins outs prepared) x a = refl
  event_shows (Ret f args v same outs commit) x a = ret_shows want refl own (Ret f args v same outs commit) v x refl a
  event_shows (Up f args) x a = up_shows want f args
  event_shows (UpRet f v) x a = refl
  event_shows (Alloc at size) x a = refl
  event_shows (Free at size) x a = refl
  event_shows (Stop fault) x a = refl

  pub act_shows : (a : Act) (x : Answer) → answer_to want a ≡ Some x → Shows (act_report gives a) (act_reply want a)
  unfolding answer_to
  act_shows Turn x e = refl
  act_shows (Load o at bytes) x e = refl
  act_shows (Store o at bytes) x e = refl
  act_shows (Enter f args at bytes) x e = refl
  act_shows (Leave at size) x e = refl
  act_shows (Step f args v ins pieces freed) x e = refl
  act_shows (Fault kind crosses ins outs access) x e = refl
  act_shows (Made ev) x e = event_shows ev.kind x e

-- a Call was made
abbrev pub is_crossing : Report → Bool
is_crossing report.Nothing = false
is_crossing report.Go = false
is_crossing (report.Value v) = false
is_crossing (report.Frame at) = false
is_crossing report.Crosses = true
is_crossing report.Up = false

-- a call may come to its result
abbrev pub has_value : Report → Bool
has_value report.Nothing = false
has_value report.Go = true
has_value (report.Value v) = true
has_value (report.Frame at) = false
has_value report.Crosses = false
has_value report.Up = false

ret_crosses : (g : Bool) (v : ℕ) → is_crossing (ret_report g v) ≡ false
ret_crosses true v = refl
ret_crosses false v = refl

event_crosses : (g : Bool) (k : EventKind) → is_call_event k ≡ is_crossing (event_report g k)
event_crosses g (Ret f args v same outs commit) = sym (ret_crosses g v)
event_crosses g k = refl

-- a Call alone is told so
pub call_crosses : (g : Bool) (a : Act) → is_call a ≡ is_crossing (act_report g a)
call_crosses g (Made ev) = event_crosses g ev.kind
call_crosses g a = refl

ret_has : (g : Bool) (v : ℕ) → has_value (ret_report g v) ≡ true
ret_has true v = refl
ret_has false v = refl

event_none : (g : Bool) (t : ℕ) (k : EventKind) → has_value (event_report g k) ≡ false → event_outcome t k ≡ None
event_none g t (Ret f args v same outs commit) h = absurd (true≢false (sym (ret_has g v) ∙ h))
event_none g t k h = refl

-- where no value is told no call comes to its result
pub none_comes : (g : Bool) (t : ℕ) (a : Act) → has_value (act_report g a) ≡ false → act_outcome t a ≡ None
none_comes g t (Step f args v ins pieces freed) h = absurd cc
none_comes g t (Made ev) h = event_none g t ev.kind h
none_comes g t a h = refl

-- the global that a path begins with isn't told
pub same_report : (g : Bool) (a : Act) → act_report g (without_origin a) ≡ act_report g a
same_report g (Load o at bytes) = refl
same_report g a = refl

pub same_outcome : (t : ℕ) (a : Act) → act_outcome t (without_origin a) ≡ act_outcome t a
same_outcome t (Load o at bytes) = refl
same_outcome t a = refl

pub same_short : (a : Act) → IsShort a → IsShort (without_origin a)
same_short (Load o at bytes) h = h
same_short a h = tt

pub outcome_thread : (t : ℕ) (a : Act) (o : Outcome) → act_outcome t a ≡ Some o → o.thread ≡ t
outcome_thread t (Step f args v ins pieces freed) o e = ap (thread_in t) (sym e)
outcome_thread t (Made ev) o e = by ev.kind e
  where
    by : (k : EventKind) → event_outcome t k ≡ Some o → o.thread ≡ t
    by (Ret f args v same outs commit) z = ap (thread_in t) (sym z)
    by k z = absurd cc
outcome_thread t a o e = absurd cc

-- a load answers with as many bytes as were wanted
short_load : (o p : Option ℕ) (at n y : ℕ) (bytes : List ℕ) (x : Answer) → n ≤ 8 → answer_if ((same_origin p o && eqb y at) && (eqb (length bytes) n && are_bytes bytes)) (Value (number_of_bytes bytes)) ≡ Some x → length bytes ≤ 8
short_load o p at n y bytes x few e =
    let b = some_if ((same_origin p o && eqb y at) && (eqb (length bytes) n && are_bytes bytes)) (Value (number_of_bytes bytes)) (ap is_some e) in
    let q = and_parts (eqb (length bytes) n) (are_bytes bytes) (and_parts (same_origin p o && eqb y at) (eqb (length bytes) n && are_bytes bytes) b).1 in
    let same : length bytes ≡ n = eqb-true (length bytes) n q.0 in
    omega (arith, same, few)

pub short_by : (want : Want) (a : Act) (x : Answer) → ((o : Option ℕ) (at n : ℕ) → want ≡ Loads o at n → n ≤ 8) → is_fault a ≡ 0 → answer_to want a ≡ Some x → IsShort a
unfolding answer_to
short_by (Loads o at n) (Load p y bytes) x few none e = short_load o p at n y bytes x (few o at n refl) e
short_by (Frees at) (Load p y bytes) x few none e = absurd (none_is (not (eqb at 0)) e)
  where
    none_is : (b : Bool) → answer_if (b && false) Stopped ≡ Some x → ⊥
    none_is true z = absurd cc
    none_is false z = absurd cc
short_by want (Load p y bytes) x few none e = absurd cc
short_by want a x few none e = tt

-- the result of the call, where there is one
abbrev result_or : ℕ → Option Outcome → ℕ
result_or d None = d
result_or d (Some o) = o.result

-- it is the result of the call
pub result_is : (want : Want) (t : ℕ) (a : Act) (o : Outcome) (v : ℕ) → act_outcome t a ≡ Some o → Value v ≡ act_reply want a → o.result ≡ v
result_is want t (Step f args u ins pieces freed) o v is e = let same : v ≡ u = cc in sym (ap (result_or v) is) ∙ sym same
result_is want t (Made ev) o v is e = by want ev.kind is e
  where
    by : (q : Want) (k : EventKind) → event_outcome t k ≡ Some o → Value v ≡ event_reply q k → o.result ≡ v
    by (Returns g bs x) (Ret f args u same outs commit) z y = absurd cc
    by q (Ret f args u same outs commit) z y = let one : v ≡ u = cc in sym (ap (result_or v) z) ∙ sym one
    by q k z y = absurd cc
result_is want t a o v is e = absurd cc

-- ---- starts

pub pair_starts : (o : Outcome) (r : Option Start) → is_start o ≡ true → IsPair o.args r → IsStartOf (Some o) r
pair_starts o (Some s) e h = record { outcome = o; is = refl; starts = e; args = h }
pair_starts o None e h = λ a b z. let same : o ≡ z.outcome = cc in h a b (subst (λ (p : Outcome). p.args ≡ a ∷ b ∷ []) (sym same) z.args)

pub none_starts : (o : Outcome) → is_start o ≡ false → IsStartOf (Some o) None
none_starts o e = λ a b z. let same : o ≡ z.outcome = cc in true≢false (sym z.starts ∙ (ap is_start (sym same) ∙ e))

pub nothing_starts : IsStartOf None None
nothing_starts = λ a b z. none_some z.outcome z.is
