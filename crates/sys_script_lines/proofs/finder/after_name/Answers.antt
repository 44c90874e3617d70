use Rattle.std.proofs.Common.{length, take, sym}
use Rattle.std.proofs.lemmas.Slice.Eq.{bytes_eq-Decides}
use Rattle.sys_script_lines.proofs.Firsts.{begins_with}
use Rattle.sys_script_lines.proofs.finder.after_name.Goals as goal

pub returns-then-eq : goal.returns-then-eq
returns-then-eq c =
    let name = c.args.name.now in
    let words = c.args.words.now in
    begins_with 32 words name c.requires c.if-len-words.true c.if-words-len-eq32.true ((bytes_eq-Decides (take (length name) words) name).0 (sym c.if-eq.ensures))
