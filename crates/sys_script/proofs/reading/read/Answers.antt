use Rattle.sys_script.specs.Externals.{external_in}
use Rattle.sys_script.proofs.Same.{read_same}
use Rattle.sys_script.proofs.reading.read.Goals as goal

pub returns : goal.returns
returns c = read_same c.in_ok-externals.externals (external_in c.args.program.now c.args.iface.now) c.args.bytes.now c.read_lines.result c.in_ok-externals.ensures c.read_lines.ensures
