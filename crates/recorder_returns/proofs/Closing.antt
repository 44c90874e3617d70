-- The call that a function with a body ends, and what memory is told of it.
use Rattle.std.proofs.Common.{◌≡◌, ℕ, List, [], ◌∷◌, map, Option, Some, None, refl, sym, ap, ◌∙◌, subst}
use Rattle.marks.specs.Marks.{Mark}
use Rattle.marks.specs.Opens.{OpenCall, open_calls}
use Rattle.marks.specs.Wants.{Returns}
use Rattle.c_code.specs.Machine.{func_of}
use Rattle.c_code.specs.Opens.{CallBelow, EndsInnermost, IsFirst, call_below, opens_by}
use Rattle.stub_operations.specs.Stubs.{added_at, or_none}
use Rattle.stub_meaning.specs.Meaning.{called}
use Rattle.replay_runs.specs.Interface.{Committing, Interface}
use Rattle.replay_runs.specs.Returns.{AreAnnotated}
use Rattle.replay_runs.specs.Rules.{Closes}
use Rattle.replay_runs.specs.Runs.{marks_of}
use Rattle.replay_runs.proofs.Returns.{annotated}
use Rattle.space_memory_laws.specs.Returns.{IsCommitted}
use Rattle.whole_runs.specs.World.{World, begin, interface, program_of}
use Rattle.whole_runs.specs.Sides.{own, seen}
use Rattle.whole_runs.specs.Steps.{Picked}
use Rattle.whole_runs.specs.Ends.{Follows}
use Rattle.whole_runs.specs.Fits.{IsFit}
use Rattle.whole_runs_laws.proofs.FaultsAbove.{few_threads}
use Rattle.whole_runs_seen.proofs.Calm.{calm_run}
use Rattle.whole_runs_seen.proofs.Wanted.{own_seen}
use Rattle.whole_runs_memory.specs.Rets.{IsEnding}
use Rattle.whole_runs_memory.proofs.Ends.{ends}
use Rattle.recorder_returns.specs.Bringing.{committing_of}
use Rattle.recorder_returns.proofs.Said.{used_sizes}

abbrev call_of : ℕ → List ℕ → CallBelow
call_of f args = record { func = f; args = args }

pub first_closes : (i : Interface) (f : ℕ) (args : List ℕ) (cs : List OpenCall) → IsFirst (call_of f args) (map call_below cs) → AreAnnotated i cs → Closes cs f args (i.outs f args)
first_closes i f args [] h a = absurd h
first_closes i f args (c ∷ cs) h a =
    let g : f ≡ c.func = ap (λ (b : CallBelow). b.func) h in
    let b : args ≡ c.args = ap (λ (b : CallBelow). b.args) h in
    (g, b, (λ j. i.outs (g j) (b j)) ∙ sym a.1)

pub committed_so : (o : Option Committing) → IsCommitted o (committing_of o)
committed_so None = refl
committed_so (Some c) = refl

module _ (w : World) (fit : IsFit w) (past : List Mark) (follows : Follows w past) (s : Picked w past) (f : ℕ) (args : List ℕ) where
  pub are_annotated : AreAnnotated (interface w) (open_calls (marks_of (begin w) s.thread (seen past)))
  are_annotated = annotated (program_of w) (begin w) (λ t. tt) (seen past) (calm_run w fit past follows).steps s.thread

  module _ (v : ℕ) where
    -- of any call that ends so
    pub ends_so : Closes (open_calls (marks_of (begin w) s.thread (seen past))) f args ((interface w).outs f args) → IsEnding w past s.thread f args v ((interface w).used f args v) (committing_of ((interface w).commits f args v))
    ends_so closes = record {
      thread = few_threads w fit.file past s;
      closes = closes;
      sizes = used_sizes w.laid.code (called (func_of w.laid.code f) args 0) v (or_none (added_at w.stubs f));
      committed = committed_so ((interface w).commits f args v);
    }

    pub body_closes : s.want ≡ Returns f args v → Closes (open_calls (marks_of (begin w) s.thread (seen past))) f args ((interface w).outs f args)
    body_closes is = first_closes (interface w) f args (open_calls (marks_of (begin w) s.thread (seen past)))
        (subst (λ ms. IsFirst (call_of f args) (map call_below (open_calls ms))) (sym (own_seen w past s.thread))
        (subst (λ x. EndsInnermost s.side x (opens_by (own w s.thread past))) is (ends w fit past follows s)))
        are_annotated
