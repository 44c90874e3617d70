-- The call that a Ret ends, and the regions that it holds.
use Rattle.std.proofs.Common.{◌≡◌, ℕ, suc, List, [], ◌∷◌, length, map, refl, sym, ap, ◌∙◌, subst}
use Rattle.marks.specs.Marks.{Mark}
use Rattle.marks.specs.Opens.{OpenCall, open_calls}
use Rattle.marks.specs.Wants.{Want}
use Rattle.c_code.specs.Machine.{Flat}
use Rattle.c_code.specs.Opens.{CallBelow, EndsInnermost, IsFirst, Opens, call_below, opens_by}
use Rattle.stub_operations.specs.declared.operation.StubOp.{StubOp}
use Rattle.stub_operations.specs.declared.operation.StubOp.TheVariants.{ReadIn, HoldOut, Prepare, Register, Commit, KeyAtCall, KeyAtRet, CacheRet, Pass}
use Rattle.stub_meaning.specs.Calls.{Called, done}
use Rattle.replay_runs.specs.Interface.{Interface}
use Rattle.replay_runs.specs.Returns.{AreAnnotated}
use Rattle.replay_runs.specs.Rules.{Closes}
use Rattle.replay_runs.proofs.Returns.{annotated}
use Rattle.whole_runs.specs.World.{World, begin, interface, program_of}
use Rattle.whole_runs.specs.Sides.{own, seen}
use Rattle.whole_runs.specs.Steps.{Picked}
use Rattle.whole_runs.specs.Ends.{Follows}
use Rattle.whole_runs.specs.Fits.{IsFit}
use Rattle.whole_runs_seen.proofs.Calm.{calm_run}
use Rattle.whole_runs_seen.proofs.Wanted.{own_seen}
use Rattle.whole_runs_memory.proofs.Ends.{ends}
use Rattle.recorder_events.specs.Making.{own_above}

-- each region has a used size once there is a result; how many there are doesn't depend on it
module _ (code : Flat) (c : Called) (v : ℕ) where
  abbrev ended : Called
  ended = record c { result = v }

  abbrev begun : Called
  begun = record c { result = 0 }

  pub counted : (ops : List StubOp) → length (done code ended ops).used ≡ length (done code begun ops).outs
  counted [] = refl
  counted (ReadIn p size ∷ ops) = counted ops
  counted (HoldOut p most used ∷ ops) = ap (λ (n : ℕ). suc n) (counted ops)
  counted (Prepare p k most ∷ ops) = counted ops
  counted (Register p ∷ ops) = counted ops
  counted (Commit k used ∷ ops) = counted ops
  counted (KeyAtCall class p ∷ ops) = counted ops
  counted (KeyAtRet class p ∷ ops) = counted ops
  counted (CacheRet ∷ ops) = counted ops
  counted (Pass ∷ ops) = counted ops

-- ---- the innermost call

abbrev pub call_of : ℕ → List ℕ → CallBelow
call_of f args = record { func = f; args = args }

first_closes : (i : Interface) (f : ℕ) (args : List ℕ) (cs : List OpenCall) → IsFirst (call_of f args) (map call_below cs) → AreAnnotated i cs → Closes cs f args (i.outs f args)
first_closes i f args [] h a = absurd h
first_closes i f args (c ∷ cs) h a =
    let g : f ≡ c.func = ap (λ (b : CallBelow). b.func) h in
    let b : args ≡ c.args = ap (λ (b : CallBelow). b.args) h in
    (g, b, (λ j. i.outs (g j) (b j)) ∙ sym a.1)

module _ (w : World) (fit : IsFit w) (run : List Mark) (follows : Follows w run) (s : Picked w run) (f : ℕ) (args : List ℕ) where
  -- it is what the code wants to end next
  pub closes : (want : Want) → s.want ≡ want → ((o : Opens) → EndsInnermost s.side want o → IsFirst (call_of f args) o.calls) →
      Closes (open_calls (own_above w s.thread run)) f args ((interface w).outs f args)
  closes want is ends_it = first_closes (interface w) f args (open_calls (own_above w s.thread run))
      (subst (λ ms. IsFirst (call_of f args) (map call_below (open_calls ms))) (sym (own_seen w run s.thread))
      (ends_it (opens_by (own w s.thread run)) (subst (λ z. EndsInnermost s.side z (opens_by (own w s.thread run))) is (ends w fit run follows s))))
      (annotated (program_of w) (begin w) (λ t. tt) (seen run) (calm_run w fit run follows).steps s.thread)
