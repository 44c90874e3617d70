use Rattle.sys_script_lines.proofs.Ranges.{read_fits}
use Rattle.sys_script_lines.proofs.laws.read_files_are_fit.Goals as goal

pub returns : goal.returns
returns c = read_fits
