-- Where code ends what isn't there, a fault is found that may not come.
use Rattle.std.proofs.Common.{◌≡◌, inl, inr, ℕ, ◌+◌, ◌≤◌, Bool, true, false, not, eqb, leb, ltb, List, [], Some, None, refl, sym, ◌∙◌, subst, arith, eqb-true}
use Rattle.std.proofs.lemmas.Bool.{leb-true, and_parts, true≢false}
use Rattle.marks.specs.declared.fault.FaultKind.{FaultKind}
use Rattle.marks.specs.declared.fault.FaultKind.TheVariants.{NotLive}
use Rattle.marks.specs.Places.{is_system}
use Rattle.marks.specs.Ranges.{within}
use Rattle.marks.specs.Marks.{Act, Made, Mark, is_event}
use Rattle.marks.specs.Bytes.{Byte, Asks}
use Rattle.marks.specs.Wants.{Leaves, Frees, answer_to}
use Rattle.replay_runs.specs.Runs.{In, marks_of, byte}
use Rattle.replay_runs.specs.Threads.{act_fault}
use Rattle.replay_runs.specs.Rules.{is_reply}
use Rattle.replay_runs.specs.Laws.{IsReplayRun}
use Rattle.replay_runs.specs.Checks.{FaultFound, Finds, checks}
use Rattle.replay_runs.proofs.Replies.{Plain, leave, no_free, plain_is}
use Rattle.replay_runs.specs.Found.{FaultMayCome}
use Rattle.replay_runs_examples.specs.Programs.{run_of, here}
use Rattle.replay_runs_examples.specs.Ends.{leaving, taken, taking}
use Rattle.replay_runs_examples.proofs.Bytes.{all_from, all_from_true, all_in, some_from, access_ranges, event_ranges, ranges_of, for_touched}
use Rattle.replay_runs_examples.proofs.Decide.{all_keys, some_key, all_past, all_past_true, is_run, is_race_free, is_disciplined, disciplined}

no_some : {P : Type 0} (k : FaultKind) → None ≡ Some k → P
no_some k e = absurd cc

fault_is : (a : Act) (k : FaultKind) → act_fault a None ≡ Some k → is_event a ≡ false
fault_is (Made e) k h = no_some k h
fault_is a k h = refl

not_true : (b : Bool) → not b ≡ true → b ≡ true → ⊥
not_true true e f = true≢false (sym e)
not_true false e f = true≢false (sym f)

low : (at n x : ℕ) → within at n x ≡ true → at ≤ x
low at n x e = leb-true at x (and_parts (leb at x) (ltb x (at + n)) e).0

-- the frame

no_leave : (at n : ℕ) (a : Act) (k : FaultKind) → Plain (Leaves at n) a → act_fault a None ≡ Some k → ⊥
no_leave at n a k leave e = no_some k e

no_system : (x : ℕ) → within 0x20000000 16 x ≡ true → is_system x ≡ true → ⊥
unfolding all_from
no_system x e = not_true (is_system x) (all_from_true (λ y. not (is_system y)) 0x20000000 16 refl x e)

pub frame_found : Finds (checks leaving.interface here [] 0 (Leaves 0x20000000 16)) (FaultFound NotLive)
frame_found = inr ((λ x b. no_system x b.0 b.1), inr ((λ x b. b.1.1.1), inl (0x20000000, ((refl, refl), λ y b. low 0x20000000 16 y b.0), refl)))

pub no_frame_fault : FaultMayCome leaving here [] 0 NotLive → ⊥
no_frame_fault f =
    let reply : is_reply (Leaves 0x20000000 16) f.mark.act ≡ true = subst (λ u. is_reply (leaving.want u (marks_of here u [])) f.mark.act ≡ true) f.thread f.allowed.own.replies in
    no_leave 0x20000000 16 f.mark.act NotLive (plain_is leaving.interface (Leaves 0x20000000 16) f.mark.act (fault_is f.mark.act NotLive f.fault) tt reply) f.fault

-- the block

abbrev before : List Mark
before = run_of taking here taken

pub taken_holds : IsReplayRun taking here (run_of taking here taken)
unfolding answer_to all_from all_in some_from access_ranges event_ranges ranges_of for_touched all_keys some_key all_past is_run is_race_free is_disciplined
taken_holds = disciplined taking here (run_of taking here taken) refl

no_system_there : (x : ℕ) → within 0x30000000 16 x ≡ true → is_system x ≡ true → ⊥
unfolding all_from
no_system_there x e = not_true (is_system x) (all_from_true (λ y. not (is_system y)) 0x30000000 16 refl x e)

alone : (a : Mark) → In a before → a.thread ≡ 0
unfolding all_past
alone a i = eqb-true a.thread 0 (all_past_true taking here before (λ b. eqb b.thread 0) refl a i)

some_block : (n : ℕ) → n ≡ 16 → n ≡ 0 → ⊥
some_block n e f = absurd (omega (arith, e, f))

pub block_found : Finds (checks taking.interface here before 0 (Frees 0x30000000)) (FaultFound NotLive)
block_found =
    inr (
      (λ x b. no_system_there x b.0 b.1),
      inr (
        (λ x b. b.1.1.3 (sym b.1.1.2 ∙ alone b.1.1.0 b.1.1.1)),
        inr (
          (λ x b. some_block (byte here 0x30000000 before).block refl b.1),
          inl (0x30000000, ((refl, refl), λ y b. low 0x30000000 16 y b.0), refl),
        ),
      ),
    )

no_block : (at : ℕ) (a : Act) (c : ℕ → Byte) → Plain (Frees at) a → Asks a c → (c at).block ≡ 0
no_block at a c no_free asks = asks.1

pub no_block_fault : FaultMayCome taking here (run_of taking here taken) 0 NotLive → ⊥
no_block_fault f =
    let reply : is_reply (Frees 0x30000000) f.mark.act ≡ true = subst (λ u. is_reply (taking.want u (marks_of here u before)) f.mark.act ≡ true) f.thread f.allowed.own.replies in
    some_block (byte here 0x30000000 before).block refl (no_block 0x30000000 f.mark.act (λ x. byte here x before) (plain_is taking.interface (Frees 0x30000000) f.mark.act (fault_is f.mark.act NotLive f.fault) tt reply) f.allowed.bytes)
