-- Where a thread's last return of a function stands after a mark, and what its record shows.
use Rattle.std.proofs.Common.{◌≡◌, ℕ, Bool, true, false, cond, eqb, List, [], ◌∷◌, ◌++◌, Option, Some, None, refl, sym, ap, ◌∙◌, subst}
use Rattle.std.specs.Prelude.{slice_get}
use Rattle.std.proofs.lemmas.Bool.{true≢false}
use Rattle.run_events.specs.declared.event.Record.{Record}
use Rattle.marks.specs.Ranges.{piece_bytes}
use Rattle.marks.specs.Marks.{EventKind, Call, Ret, Up, UpRet, Alloc, Free, Stop, Act, Turn, Load, Store, Enter, Leave, Step, Fault, Made, Mark, logged}
use Rattle.marks.specs.Bytes.{Byte}
use Rattle.replay_runs.specs.Runs.{marks_of}
use Rattle.replay_runs.specs.Threads.{Returned, act_return, last_return, return_after, same_return}
use Rattle.replay_runs.specs.Pool.{is_call_event}
use Rattle.replay_runs.specs.Laws.{fresh}
use Rattle.steps_above_interface.specs.State.{KeptState}
use Rattle.steps_above_interface.specs.Returns.{HasReturn, TellsReturn, IsShown, ShowReturns, ShowsEvent, act_index, index_after, last_index}
use Rattle.steps_above_interface.specs.Stands.{AnswersLast, AnswersRepeats, IsCallWith}

-- ---- after a mark

module _ (memory : ℕ → Byte) (past : List Mark) (m : Mark) (t f : ℕ) where
  abbrev last : Option ℕ
  last = last_index f (marks_of (fresh memory) t past)

  after : last_index f (marks_of (fresh memory) t (m ∷ past)) ≡ cond (eqb m.thread t) (act_index f m.index m.act last) last
  after = go (eqb m.thread t)
    where
      go : (b : Bool) → last_index f (cond b (m ∷ marks_of (fresh memory) t past) (marks_of (fresh memory) t past)) ≡ cond b (act_index f m.index m.act last) last
      go true = refl
      go false = refl

  both : (b : Bool) (o : Option ℕ) → o ≡ last → cond b o last ≡ last
  both true o e = e
  both false o e = refl

  -- what is no return of the function leaves it
  pub last_kept : act_index f m.index m.act last ≡ last → last_index f (marks_of (fresh memory) t (m ∷ past)) ≡ last
  last_kept e = after ∙ both (eqb m.thread t) (act_index f m.index m.act last) e

  call_index : (k : EventKind) → is_call_event k ≡ true → index_after f m.index k last ≡ last
  call_index (Call func args ins outs prepared) e = refl
  call_index (Ret func args result same outs commit) e = absurd (true≢false (sym e))
  call_index (Up func args) e = refl
  call_index (UpRet func result) e = refl
  call_index (Alloc at size) e = refl
  call_index (Free at size) e = refl
  call_index (Stop fault) e = refl

  pub call_keeps : (keys : _) → IsCallWith keys m → last_index f (marks_of (fresh memory) t (m ∷ past)) ≡ last
  call_keeps keys c = last_kept (ap (λ a. act_index f m.index a last) c.act ∙ call_index c.event.kind c.call)

-- ---- what the record with that index shows

module _ (records : List Record) (f n : ℕ) where
  event_tells : (k : EventKind) (at : Option ℕ) (gave : Option Returned) → ((r : Record) × (slice_get records n ≡ Some r) × ShowsEvent r.event k) → TellsReturn records at gave → TellsReturn records (index_after f n k at) (return_after f k gave)
  event_tells (Call func args ins outs prepared) at gave shown tells = tells
  event_tells (Ret func args result same outs commit) at gave shown tells = go (eqb func f)
    where
      go : (b : Bool) → TellsReturn records (cond b (Some n) at) (cond b (Some (record { result = result; bytes = piece_bytes outs ++ logged commit })) gave)
      go true = (shown.0, shown.1, (record { result = result; bytes = piece_bytes outs ++ logged commit }, refl, shown.2))
      go false = tells
  event_tells (Up func args) at gave shown tells = tells
  event_tells (UpRet func result) at gave shown tells = tells
  event_tells (Alloc at' size) at gave shown tells = tells
  event_tells (Free at' size) at gave shown tells = tells
  event_tells (Stop fault) at gave shown tells = tells

  act_tells : (a : Act) (at : Option ℕ) (gave : Option Returned) → IsShown records n a → TellsReturn records at gave → TellsReturn records (act_index f n a at) (act_return f a gave)
  act_tells Turn at gave shown tells = tells
  act_tells (Load origin at' bytes) at gave shown tells = tells
  act_tells (Store origin at' bytes) at gave shown tells = tells
  act_tells (Enter func args at' bytes) at gave shown tells = tells
  act_tells (Leave at' size) at gave shown tells = tells
  act_tells (Step func args result ins pieces freed) at gave shown tells = tells
  act_tells (Fault kind crosses ins outs access) at gave shown tells = tells
  act_tells (Made e) at gave shown tells = event_tells e.kind at gave shown tells

pub tells : (records : List Record) (f : ℕ) (mine : List Mark) → ShowReturns records mine → TellsReturn records (last_index f mine) (last_return None f mine)
tells records f [] h = refl
tells records f (m ∷ mine) h = act_tells records f m.index m.act (last_index f mine) (last_return None f mine) h.0 (tells records f mine h.1)

-- ---- what is answered

module _ (s : KeptState) (records : List Record) (t f value : ℕ) (pieces : List (List ℕ)) where
  abbrev again : Returned
  again = record { result = value; bytes = pieces }

  -- no return is kept
  pub none_repeats : AnswersLast s t f None → AnswersRepeats s records t f value pieces false
  none_repeats none i memory past h cached shows =
      let mine = marks_of (fresh memory) t past in
      let nothing : last_return None f mine ≡ None = subst (λ o. TellsReturn records o (last_return None f mine)) (sym (none i memory past h cached)) (tells records f mine shows) in
      sym (ap (λ o. same_return o again) nothing)

  -- the record of the one that is kept tells
  pub some_repeats : (n : ℕ) (answer : Bool) → AnswersLast s t f (Some n) → ((r : Record) (gave : Returned) → slice_get records n ≡ Some r → HasReturn r.event gave → answer ≡ same_return (Some gave) again) → AnswersRepeats s records t f value pieces answer
  some_repeats n answer last told i memory past h cached shows =
      let mine = marks_of (fresh memory) t past in
      let tell : TellsReturn records (Some n) (last_return None f mine) = subst (λ o. TellsReturn records o (last_return None f mine)) (sym (last i memory past h cached)) (tells records f mine shows) in
      told tell.0 tell.2.0 tell.1 tell.2.2 ∙ sym (ap (λ o. same_return o again) tell.2.1)
