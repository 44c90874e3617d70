-- What is told of a whole run.
use Rattle.std.proofs.Common.{◌≡◌, ◌+◌, ◌^◌, ◌<◌, ◌≤◌, ℕ, List, length, ap, sym, ◌∙◌, arith}
use Rattle.run_events.specs.declared.event.Record.{Record}
use Rattle.space_memory.specs.Spaces.{SpaceState}
use Rattle.whole_runs.specs.declared.ending.Ending.{Ending}
use Rattle.whole_runs.specs.World.{World}
use Rattle.whole_runs.specs.Log.{log_of, replay_output, system_output}
use Rattle.whole_runs.specs.Recorded.{IsRecording, full_records}
use Rattle.reference_recorder_marks.specs.declared.mark.Mark.{Mark as Told}
use Rattle.reference_recorder_marks.specs.Marks.{past as past_of}
use Rattle.reference_recorder_records.specs.Recordable.{AreRecordable}
use Rattle.reference_recorder_log.specs.Records.{AreRecordsOf, IsLogOf, IsOutputOf}
use Rattle.reference_recorder_threads.proofs.Oldest.{as_many}
use Rattle.reference_recorder_laws.proofs.AtEnd.{length_whole}
use Rattle.reference_recorder_records_laws.proofs.Runs.{run_recordable}
use Rattle.reference_recorder_end.specs.Ends.{IsWhole}
use Rattle.reference_recorder_end.proofs.Blank.{log_same, output_same, records_same, system_same}

module _ (w : World) (chunk : ℕ) (marks : List Told) (memory : SpaceState) (ending : Ending) (h : IsWhole w chunk marks memory ending) where
  pub some_records : 1 ≤ chunk
  some_records = let some = h.fit.file.some_records in let e = h.chunk_is in omega (arith, some, e)

  pub few_marks : length marks + 1 < 2 ^ 32
  few_marks =
      let most = length_whole w h.fit h.run ending h.is_run in
      let same = as_many h.run marks h.same in
      omega (arith, most, same)

  pub recordable : AreRecordable marks
  recordable = run_recordable w h.fit h.run ending h.is_run marks h.same

  pub recording : (log : List ℕ) (threads : List (List Record)) (output below : List ℕ) → IsLogOf chunk (past_of marks) log → AreRecordsOf (past_of marks) threads →
      IsOutputOf (past_of marks) output → below ≡ system_output (past_of marks) →
      IsRecording w (record { log = log; threads = threads; memory = memory; output = output; system_output = below; ending = ending })
  recording log threads output below logs records out under = record {
    run = h.run;
    is_run = h.is_run;
    log = logs w h.chunk_is ∙ ap (log_of w) (sym h.same) ∙ log_same w h.run;
    threads = records w ∙ ap (full_records w) (sym h.same) ∙ records_same w h.run;
    memory = h.stands;
    output = out w ∙ ap (replay_output w) (sym h.same) ∙ output_same w h.run;
    system_output = under ∙ ap system_output (sym h.same) ∙ system_same h.run;
  }
