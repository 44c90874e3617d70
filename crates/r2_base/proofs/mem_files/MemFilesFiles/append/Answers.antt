use Rattle.std.proofs.Common.{◌≡◌, ◌∙◌, ap, Option, List, ℕ, Result, Err, subst}
use Rattle.r2_base.specs.Held.{held_in}
use Rattle.r2_base.specs.Names.{GrowsFile}
use Rattle.r2_base.specs.declared.mem_files.MemFiles.{MemFiles}
use Rattle.r2_base.proofs.Growing.{stays_on_err}
use Rattle.r2_base.proofs.mem_files.MemFilesFiles.append.Goals as goal

pub returns-in_err-append_held-2-clause-grows : goal.returns-in_err-append_held-2-clause-grows
returns-in_err-append_held-2-clause-grows c = λ _.
    stays_on_err _ _ _ _ (c.in_err-append_held-2.ensures.err ∙ ap (λ (f : MemFiles). held_in f.files c.args.name.now) c.is_failing.ensures.counted)
    c.from_residual-in_err-append_held-2.ensures.0
