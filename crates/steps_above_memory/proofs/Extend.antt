-- A run with one more mark that is no event.
use Rattle.std.proofs.Common.{◌≡◌, ⊎_elim, ℕ, ◌^◌, ◌<◌, Bool, true, false, cond, eqb, List, [], ◌∷◌, Option, None, refl, sym, ap, ◌∙◌, subst, arith}
use Rattle.std.proofs.lemmas.Bool.{and_parts, true≢false}
use Rattle.marks.specs.Places.{thread_count, is_constant, is_system}
use Rattle.marks.specs.declared.fault.FaultKind.{FaultKind}
use Rattle.marks.specs.Marks.{Act, Turn, Load, Store, Enter, Leave, Step, Fault, Made, Mark, is_event}
use Rattle.marks.specs.Bytes.{Byte, Asks, touches, writes}
use Rattle.marks.specs.Wants.{Want}
use Rattle.replay_runs.specs.Runs.{Start, Link, OfThread, OfKey, Allowed, keys_of, is_listed, has, marks_of, byte, is_fault, fault_count}
use Rattle.replay_runs.specs.Known.{NoRace}
use Rattle.replay_runs.specs.Interface.{Interface, Program}
use Rattle.replay_runs.specs.Threads.{act_fault, frames, fault_of}
use Rattle.replay_runs.specs.Rules.{is_reply, KeepsModes, Carries, HasKeys, replay_rules}
use Rattle.replay_runs.specs.Laws.{fresh}
use Rattle.replay_runs.specs.Unseen.{LeavesFirst}
use Rattle.replay_runs.proofs.Alike.{race_step}
use Rattle.steps_above_memory.specs.Above.{GoesWell}
use Rattle.steps_above_memory.specs.Steps.{IsWanted, next_mark}

keys_none : (a : Act) → is_event a ≡ false → keys_of a ≡ []
keys_none Turn e = refl
keys_none (Load origin at bytes) e = refl
keys_none (Store origin at bytes) e = refl
keys_none (Enter func args at bytes) e = refl
keys_none (Leave at size) e = refl
keys_none (Step func args result ins pieces freed) e = refl
keys_none (Fault kind crosses ins outs access) e = refl
keys_none (Made e') e = absurd (true≢false e)

no_keys : (i : Interface) (t : ℕ) (mine : List Mark) (a : Act) → is_event a ≡ false → HasKeys i t mine a
no_keys i t mine Turn e = tt
no_keys i t mine (Load origin at bytes) e = tt
no_keys i t mine (Store origin at bytes) e = tt
no_keys i t mine (Enter func args at bytes) e = tt
no_keys i t mine (Leave at size) e = tt
no_keys i t mine (Step func args result ins pieces freed) e = tt
no_keys i t mine (Fault kind crosses ins outs access) e = tt
no_keys i t mine (Made e') e = absurd (true≢false e)

no_link : (m : Mark) → is_event m.act ≡ false → (l : Link) → has m l ≡ true → ⊥
no_link m e (OfThread u) h = true≢false (sym (and_parts (is_event m.act) (eqb m.thread u) h).0 ∙ e)
no_link m e (OfKey k) h = true≢false (sym h ∙ ap (λ q. is_listed q k) (keys_none m.act e))

-- where there was no fault, no thread has one
sound_act : (a : Act) (f : Option FaultKind) → is_fault a ≡ 0 → act_fault a f ≡ f
sound_act Turn f e = refl
sound_act (Load origin at bytes) f e = refl
sound_act (Store origin at bytes) f e = refl
sound_act (Enter func args at bytes) f e = refl
sound_act (Leave at size) f e = refl
sound_act (Step func args result ins pieces freed) f e = refl
sound_act (Fault kind crosses ins outs access) f e = absurd (omega (arith, e))
sound_act (Made e') f e = refl

no_fault : (memory : ℕ → Byte) (t : ℕ) (past : List Mark) → fault_count past ≡ 0 → fault_of (marks_of (fresh memory) t past) ≡ None
no_fault memory t [] e = refl
no_fault memory t (m ∷ past) e = go (eqb m.thread t) (no_fault memory t past (omega (arith, e)))
  where
    go : (b : Bool) → fault_of (marks_of (fresh memory) t past) ≡ None → fault_of (cond b (m ∷ marks_of (fresh memory) t past) (marks_of (fresh memory) t past)) ≡ None
    go true k = sound_act m.act (fault_of (marks_of (fresh memory) t past)) (omega (arith, e)) ∙ k
    go false k = k

module _ (program : Program) (memory : ℕ → Byte) (past : List Mark) (t : ℕ) (act : Act) (plain : is_event act ≡ false) where
  abbrev s : Start
  s = fresh memory

  abbrev m : Mark
  m = next_mark memory past t act

  -- the mark is one by the rules
  pub allowed : (want : Want) → GoesWell program memory past → t < thread_count → IsWanted program memory past t want →
      is_reply want act ≡ true → KeepsModes program.interface want → Carries program.interface s t (marks_of s t past) want act →
      ((x : ℕ) → touches act x ≡ true → is_system x ≡ false) → ((x : ℕ) → writes act x ≡ true → is_constant x ≡ false) →
      Asks act (λ x. byte s x past) → Allowed (replay_rules program s) s past m
  allowed want h lt w reply modes carries own writable asks = record {
    own = record {
      thread = lt;
      side = refl;
      replies = subst (λ v. is_reply v act ≡ true) (sym w.wants) reply;
      modes = λ z. subst (KeepsModes program.interface) (sym w.wants) modes;
      carries = subst (λ v. Carries program.interface s t (marks_of s t past) v act) (sym w.wants) carries;
      keys = no_keys program.interface t (marks_of s t past) act plain;
      other_space = own;
      read_only = writable;
      running = w.running;
      after_fault = λ ne. absurd (ne (no_fault memory t past h.calm.no_fault));
    };
    index = refl;
    steps = λ e. absurd (true≢false (sym e ∙ plain));
    tickets = λ l k. absurd (no_link m plain l k);
    shared = λ l k. absurd (no_link m plain l k);
    rises = λ l k. absurd (no_link m plain l k);
    least = λ e. absurd (true≢false (sym e ∙ plain));
    bytes = asks;
  }

-- a run with one more mark, whichever, goes well
module _ (program : Program) (memory : ℕ → Byte) (past : List Mark) (t : ℕ) (act : Act) where
  pub goes_on : GoesWell program memory past →
      Allowed (replay_rules program (fresh memory)) (fresh memory) past (next_mark memory past t act) →
      NoRace past (next_mark memory past t act) → LeavesFirst act (frames (marks_of (fresh memory) t past)) → is_fault act ≡ 0 →
      ((x : ℕ) → touches act x ≡ true → x < 2 ^ 64) → GoesWell program memory (next_mark memory past t act ∷ past)
  goes_on h may free first none small = record {
    calm = record {
      starts = h.calm.starts;
      steps = (may, h.calm.steps);
      race_free = (race_step (replay_rules program (fresh memory)) (fresh memory) past (next_mark memory past t act) (may, h.calm.steps)).1 (h.calm.race_free, free);
      in_order = (first, h.calm.in_order);
      no_fault = omega (arith, none, h.calm.no_fault);
    };
    addresses = λ a in' x e. ⊎_elim (λ is. small x (subst (λ (b : Mark). touches b.act x ≡ true) is e)) (λ rest. h.addresses a rest x e) in';
  }
