-- A Free.
use Rattle.std.proofs.Common.{true, false, ◌≡◌, ℕ, zero, suc, cond, eqb, leb, ltb, List, Some, refl, sym, ap, ◌∙◌, subst, eq-eqb, arith}
use Rattle.std.specs.Prelude.{is_some}
use Rattle.std.proofs.lemmas.Bool.{and_parts, ltb-true, ne_eqb}
use Rattle.run_events.specs.declared.key.Class.TheVariants.{Pool}
use Rattle.marks.specs.declared.side.Side.TheVariants.{Replay}
use Rattle.marks.specs.Ranges.{within}
use Rattle.marks.specs.Marks.{Free, Mark}
use Rattle.marks.specs.Wants.{Frees, Go, answer_if, event_answer}
use Rattle.replay_runs.specs.Runs.{OfKey, byte, new_events}
use Rattle.replay_runs.specs.Keys.{key}
use Rattle.replay_runs.specs.Checks.{Passes, checks}
use Rattle.replay_runs.specs.Passing.{FreeMayPass}
use Rattle.replay_runs.specs.Rules.{SharedEvent}
use Rattle.replay_runs.proofs.Passing.{say}
use Rattle.whole_runs.specs.World.{World, begin, interface}
use Rattle.whole_runs.specs.Sides.{seen}
use Rattle.whole_runs.specs.Tests.{tests}
use Rattle.whole_runs.specs.Steps.{Picked}
use Rattle.recorder_memory.specs.Events.{IsBlock}
use Rattle.recorder_threads.specs.declared.wants.Want.TheVariants as told
use Rattle.recorder_events.specs.Making.{CanBe}
use Rattle.recorder_events.proofs.Allocs.{only_key}
use Rattle.reference_recorder_marks.specs.declared.mark.Mark.{Mark as Told}
use Rattle.reference_recorder_marks.specs.Marks.{past}
use Rattle.reference_recorder_origins.proofs.Memory.{byte_seen}
use Rattle.reference_recorder_threads.specs.Telling.{IsPast}
use Rattle.reference_recorder_rules.specs.Steps.{IsToMake}

-- what the marks say, the run says
module _ (w : World) (marks : List Told) (p : IsPast w marks) where
  byte_is : (x : ℕ) → byte (begin w) x (seen (past marks)) ≡ byte (begin w) x (seen p.run)
  byte_is x = ap (λ ms. byte (begin w) x (seen ms)) (sym p.same) ∙ byte_seen w x p.run

-- the size of the block that begins there, or none at NULL
abbrev pub size_in : World → List Mark → (at : ℕ) → ℕ
size_in w p at = cond (eqb at 0) 0 (byte (begin w) at (seen p)).block

is_block : (w : World) (run : List Mark) (t at : ℕ) → Passes (checks (interface w) (begin w) (seen run) t (Frees at)) → IsBlock w run at (size_in w run at)
is_block w p t zero ok = record { asks = λ x e. absurd (none x e); null = refl }
  where
    none : (x : ℕ) → within 0 0 x ≡ true → ⊥
    none x e = let lt = ltb-true x 0 (and_parts (leb 0 x) (ltb x 0) e).1 in omega (arith, lt)
is_block w p t (suc a) ok =
    let n = (byte (begin w) (suc a) (seen p)).block in
    let may : FreeMayPass (begin w) (seen p) t (suc a) = ((say (begin w) (seen p) t (interface w)).frees (suc a) (omega arith)).0 ok in
    let there : eqb (suc a) 0 ≡ false = ne_eqb (suc a) 0 (λ z. absurd (omega (arith, z))) in
    let some : eqb n 0 ≡ false = ne_eqb n 0 (λ z. absurd (omega (arith, z, may.begins))) in
    subst (λ b. IsBlock w p (suc a) (cond b 0 n)) (sym there) (record {
      asks = λ x e. (may.live x e, λ is. ap (λ y. (byte (begin w) y (seen p)).block) is);
      null = there ∙ sym some;
    })

module _ (w : World) (marks : List Told) (t at : ℕ) (args : List ℕ) (h : IsToMake w marks t Replay args (told.Free at)) where
  abbrev run : List Mark
  run = h.at.past.run

  abbrev s : Picked w run
  s = h.at.step

  tested : Passes (tests w run s.thread Replay (Frees at))
  tested = subst (λ d. Passes (tests w run s.thread d (Frees at))) h.at.on_side (subst (λ v. Passes (tests w run s.thread s.side v)) h.at.told h.passes)

  answer : (size : ℕ) → event_answer s.want (Free at size) ≡ Some Go
  answer size = ap (λ v. event_answer v (Free at size)) h.at.told ∙ ap (λ b. answer_if b Go) (eq-eqb at at refl)

  can_be : (size : ℕ) → IsBlock w run at size → CanBe w run s (Free at size)
  can_be size block = record {
    answers = ap is_some (answer size);
    agrees = tt;
    carries = block.null;
    shared = λ k among. subst (λ j. SharedEvent (interface w) (begin w) j.class j.value (new_events (OfKey j) (seen run)) (Free at size)) (only_key (key Pool 0) k among) tt;
    bytes = block.asks;
    passes = h.passes;
  }

  pub can_be_free : (size : ℕ) → size ≡ size_in w (past marks) at → CanBe w run s (Free at size)
  can_be_free size is = can_be size (subst (IsBlock w run at) (sym (is ∙ ap (λ b. cond (eqb at 0) 0 b.block) (byte_is w marks h.at.past at))) (is_block w run s.thread at tested))
