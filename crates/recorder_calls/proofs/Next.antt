-- A Call of which all is said is the next step of the run.
use Rattle.std.proofs.Common.{◌≡◌, ℕ, ◌^◌, ◌<◌, ◌≤◌, Bool, true, false, cond, eqb, List, [], ◌∷◌, length, map, All, refl, sym, ap, ◌∙◌, subst, eqb-true}
use Rattle.std.proofs.lemmas.List.{length-map}
use Rattle.std.proofs.lemmas.List.Elements.{All-nil, All-cons}
use Rattle.run_events.specs.declared.event.Event.{Event}
use Rattle.run_events.specs.declared.event.Event.TheVariants as logged
use Rattle.run_events.specs.declared.key.Key.{Key}
use Rattle.marks.specs.declared.side.Side.TheVariants.{Replay}
use Rattle.marks.specs.Ranges.{Prepared, prepared_ranges, range}
use Rattle.c_code.specs.Machine.{Flat, func_of}
use Rattle.c_code.specs.Typed.{AreArguments, CarriesValues}
use Rattle.stub_operations.specs.declared.operation.StubOp.{StubOp}
use Rattle.stub_operations.specs.declared.operation.StubOp.TheVariants.{ReadIn, HoldOut, Prepare, Register, Commit, KeyAtCall, KeyAtRet, CacheRet, Pass}
use Rattle.stub_meaning.specs.Calls.{Called, Done, argument, counted, done, size_in}
use Rattle.stub_operations.specs.Stubs.{added_at, or_none}
use Rattle.stub_meaning.specs.Meaning.{called}
use Rattle.stub_calls.specs.Calls.{call_keys}
use Rattle.log_codec.specs.LogText.{IsBody}
use Rattle.recorder_book.specs.Sizes.{in_full}
use Rattle.steps_above_memory.specs.declared.parts.CallRegions.{CallRegions}
use Rattle.steps_above_memory.specs.Parts.{IsRegion, regions_under}
use Rattle.steps_above_memory.specs.Calls.{AreRegions, prepares}
use Rattle.whole_runs.specs.World.{World, interface}
use Rattle.recorder_threads.specs.declared.wants.Want.TheVariants as told
use Rattle.recorder_threads.specs.Threads.{args_at}
use Rattle.recorder_state.specs.declared.state.RunState.{RunState}
use Rattle.recorder_plain.proofs.Steps.{carries}
use Rattle.recorder_events.proofs.Arguments.{call_body}
use Rattle.recorder_calls.specs.declared.calling.Calling.{Calling}
use Rattle.recorder_calls.specs.Calls.{AreRegionsOf, IsAtCall, IsCallNext, keys_of_call}
use Rattle.recorder_calls.proofs.FewKeys.{keys_few}

-- ---- regions

-- what a pointer names is empty where it is NULL
is_region : (at n : ℕ) → IsRegion (range at (cond (eqb at 0) 0 n))
is_region at n = by (eqb at 0) refl
  where
    by : (b : Bool) → eqb at 0 ≡ b → cond b (range 0 0) (range at (cond b 0 n)) ≡ range at (cond b 0 n)
    by true e = ap (λ x. range x 0) (sym (eqb-true at 0 e))
    by false e = refl

module _ (code : Flat) (c : Called) where
  ins_are : (ops : List StubOp) → All IsRegion (done code c ops).ins
  ins_are [] = All-nil IsRegion
  ins_are (ReadIn p size ∷ ops) = All-cons IsRegion (range (argument c p) (cond (eqb (argument c p) 0) 0 (counted (size_in c size)))) (done code c ops).ins (is_region (argument c p) (counted (size_in c size))) (ins_are ops)
  ins_are (HoldOut p most used ∷ ops) = ins_are ops
  ins_are (Prepare p k most ∷ ops) = ins_are ops
  ins_are (Register p ∷ ops) = ins_are ops
  ins_are (Commit k used ∷ ops) = ins_are ops
  ins_are (KeyAtCall class p ∷ ops) = ins_are ops
  ins_are (KeyAtRet class p ∷ ops) = ins_are ops
  ins_are (CacheRet ∷ ops) = ins_are ops
  ins_are (Pass ∷ ops) = ins_are ops

  outs_are : (ops : List StubOp) → All IsRegion (done code c ops).outs
  outs_are [] = All-nil IsRegion
  outs_are (ReadIn p size ∷ ops) = outs_are ops
  outs_are (HoldOut p most used ∷ ops) = All-cons IsRegion (range (argument c p) (cond (eqb (argument c p) 0) 0 (counted (size_in c most)))) (done code c ops).outs (is_region (argument c p) (counted (size_in c most))) (outs_are ops)
  outs_are (Prepare p k most ∷ ops) = outs_are ops
  outs_are (Register p ∷ ops) = outs_are ops
  outs_are (Commit k used ∷ ops) = outs_are ops
  outs_are (KeyAtCall class p ∷ ops) = outs_are ops
  outs_are (KeyAtRet class p ∷ ops) = outs_are ops
  outs_are (CacheRet ∷ ops) = outs_are ops
  outs_are (Pass ∷ ops) = outs_are ops

  prepared_are : (ops : List StubOp) → All IsRegion (prepared_ranges (done code c ops).prepares)
  prepared_are [] = All-nil IsRegion
  prepared_are (ReadIn p size ∷ ops) = prepared_are ops
  prepared_are (HoldOut p most used ∷ ops) = prepared_are ops
  prepared_are (Prepare p k most ∷ ops) = All-cons IsRegion (range (argument c p) (cond (eqb (argument c p) 0) 0 (counted (size_in c most)))) (prepared_ranges (done code c ops).prepares) (is_region (argument c p) (counted (size_in c most))) (prepared_are ops)
  prepared_are (Register p ∷ ops) = prepared_are ops
  prepared_are (Commit k used ∷ ops) = prepared_are ops
  prepared_are (KeyAtCall class p ∷ ops) = prepared_are ops
  prepared_are (KeyAtRet class p ∷ ops) = prepared_are ops
  prepared_are (CacheRet ∷ ops) = prepared_are ops
  prepared_are (Pass ∷ ops) = prepared_are ops

under_keys : (ps : List Prepared) → regions_under (map (λ (p : Prepared). p.key) ps) (prepared_ranges ps) ≡ ps
under_keys [] = refl
under_keys (p ∷ ps) = ap (λ qs. p ∷ qs) (under_keys ps)

-- ---- the step

module _ (w : World) (s : RunState) (t func : ℕ) (c : Calling) (h : IsAtCall w s t func c) where
  abbrev args : List ℕ
  args = args_at s.threads t

  abbrev call : Called
  call = called (func_of w.laid.code func) args 0

  abbrev ops : List StubOp
  ops = or_none (added_at w.stubs func)

  abbrev said : Done
  said = done w.laid.code call ops

  pub fits : AreArguments w.laid func args
  fits = subst (CarriesValues w.laid) h.at.told (carries w s t Replay (told.Call h.indirect func) h.at)

  module _ (regions : CallRegions) (are : AreRegionsOf c regions) where
    ins_is : said.ins ≡ regions.ins.now
    ins_is = sym (are.ins ∙ ap (λ (d : Done). d.ins) h.filled.done)

    outs_is : said.outs ≡ regions.outs.now
    outs_is = sym (are.outs ∙ ap (λ (d : Done). d.outs) h.filled.done)

    prepared_is : prepared_ranges said.prepares ≡ regions.prepared.now
    prepared_is = sym (are.prepared ∙ (h.filled.prepared ∙ ap (λ (d : Done). prepared_ranges d.prepares) h.filled.done))

    under_is : map (λ (p : Prepared). p.key) said.prepares ≡ regions.under.now
    under_is = sym (are.under ∙ (h.filled.under ∙ ap (λ (d : Done). map (λ (p : Prepared). p.key) d.prepares) h.filled.done))

    prepares_is : said.prepares ≡ prepares regions
    prepares_is = sym (under_keys said.prepares) ∙ (λ j. regions_under (under_is j) (prepared_is j))

    are_regions : AreRegions regions
    are_regions = record {
      ins = subst (All IsRegion) ins_is (ins_are w.laid.code call ops);
      outs = subst (All IsRegion) outs_is (outs_are w.laid.code call ops);
      prepared = subst (All IsRegion) prepared_is (prepared_are w.laid.code call ops);
      under = ap length (sym under_is) ∙ (length-map said.prepares (λ (p : Prepared). p.key) ∙ (sym (length-map said.prepares (λ (p : Prepared). p.range)) ∙ ap length prepared_is));
    }

    pub next : (keys : List Key) (event : Event) → keys ≡ c.keys.items → logged.Call func args ≡ event → func < 2 ^ 16 → IsCallNext w s t regions keys event
    next keys event keys_is event_is small =
        let all : call_keys said ≡ keys = sym (keys_is ∙ (h.filled.keys ∙ ap call_keys h.filled.done)) in
        record {
          indirect = h.indirect;
          func = func;
          at = h.at;
          wanted = record { modes = h.modes; ins_are = ins_is; outs_are = outs_is; prepares = prepares_is };
          regions_are = are_regions;
          keys_are = ap (keys_of_call (interface w) func args) (sym prepares_is) ∙ all;
          few = subst (λ ks. length ks ≤ 16) all (keys_few w h.at.reached.fit func args fits);
          event_is = event_is;
          body = subst (λ e. IsBody (in_full e)) event_is (call_body w.laid h.at.reached.fit.code.valid func args small fits);
        }
