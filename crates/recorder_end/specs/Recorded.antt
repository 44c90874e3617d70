-- What is told of a recorded run, in the words of runs.
use Rattle.whole_runs.specs.Recorded.{Told}
use Rattle.recorder_end.specs.declared.recorded.Recorded.{Recorded}

abbrev pub told : Recorded → Told
told r = record {
  log = r.log;
  threads = r.run.threads;
  memory = r.run.memory;
  output = r.run.output;
  system_output = r.system_output;
  ending = r.ending;
}
