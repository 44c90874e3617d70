use Rattle.std.proofs.Common.{◌≡◌, [], sym, ap, ◌∙◌}
use Rattle.c_code.specs.Machine.{func_of}
use Rattle.stub_operations.specs.Stubs.{added_at, or_none}
use Rattle.stub_meaning.specs.Calls.{Done, done}
use Rattle.stub_meaning.specs.Meaning.{called, first_of}
use Rattle.stub_calls.specs.Calls.{return_keys}
use Rattle.recorder_state.specs.Inputs.{world_of}
use Rattle.recorder_events.proofs.Results.{on_ok}
use Rattle.recorder_returns.proofs.Few.{keys_said}
use Rattle.recorder_returns.proofs.Said.{cached_same}
use Rattle.recorder_returns.proofs.returning.Returning.read.Goals as goal

pub returns : goal.returns
returns c =
    let w = world_of c.args.inputs in
    let f = c.args.func in
    let args = c.args.args.now in
    let v = c.args.value in
    let ops = or_none (added_at w.stubs f) in
    let after : c.fill_at_return.new.self ≡ done w.laid.code (called (func_of w.laid.code f) args v) ops = c.in_ok-fill_at_return.ensures.done ∙ (λ j. done (c.code-code.ensures j) (called (func_of (c.code-code.ensures j) f) args v) (c.ops-ops.ensures j)) in
    on_ok c.return_keys.result
    (λ keys. record {
      ranges = c.in_ok-fill_at_return.ensures.held ∙ (λ j. (done (c.code-code.ensures j) (called (func_of (c.code-code.ensures j) f) args 0) (c.ops-ops.ensures j)).outs);
      used = ap (λ (d : Done). d.used) after;
      commit = ap (λ (d : Done). first_of d.commits) after;
      cached = ap (λ (d : Done). d.is_cached) after ∙ cached_same w.laid.code (called (func_of w.laid.code f) args v) (called (func_of w.laid.code f) [] 0) ops;
      keys = λ t past same up commit. sym (keys ∙ (ap return_keys after ∙ keys_said w f args v t past same up commit));
    })
    c.return_keys.ensures
