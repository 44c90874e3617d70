use Rattle.std.proofs.Common.{rules, ◌≡◌, length}
use Rattle.r2_cli_outcome.proofs.Lists.{read_prefix}
use Rattle.r2_cli_outcome.proofs.reading.read_more.Goals as goal

pub returns-clause-prefix : goal.returns-clause-prefix
returns-clause-prefix g c = λ told.
    let place : c.len.result ≡ length c.args.text.now.items = search rules in
    read_prefix _ _ _ _ _ _ (c.in_ok-count.ensures.bytes told) place c.in_ok-extend_from_slice.ensures.items
