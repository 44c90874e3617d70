use Rattle.sys_script.specs.Externals.{external_in}
use Rattle.whole_runs_sources.proofs.Answered.{fit_file}
use Rattle.whole_runs_sources.proofs.file.read_files_fit_their_sources.Goals as goal

pub returns : goal.returns
returns c = λ bytes cut script source w h.
    fit_file bytes cut source w h.source h.code h.stubs c.interfaces_say_what_annotations_say.ensures.declared
    (c.read_files_are_fit.ensures (external_in source.program source.interface) script w.file h.file)
