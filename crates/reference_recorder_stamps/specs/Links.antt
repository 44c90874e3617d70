-- The links of events, as the code has them.
use Rattle.replay_runs.specs.Runs as runs
use Rattle.reference_recorder_stamps.specs.declared.links.Link.{Link}
use Rattle.reference_recorder_stamps.specs.declared.links.Link.TheVariants.{Thread, Key}

abbrev pub link_of : Link → runs.Link
link_of (Thread t) = runs.OfThread t
link_of (Key k) = runs.OfKey k
