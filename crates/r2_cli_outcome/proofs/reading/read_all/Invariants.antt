use Rattle.std.proofs.Common.{◌≡◌, ◌≤◌, ◌+◌, ◌-◌, length, IsTrue}
use Rattle.r2_base.specs.Seen.{OnlyReads}
use Rattle.r2_cli_outcome.specs.Reading.{IsPrefixOf}
use Rattle.r2_cli_outcome.proofs.reading.read_all.Given as goal

abbrev pub invariant-loop-text : goal.invariant-loop-text
invariant-loop-text g l =
    let F = g.F.Files in
    record {
      only : OnlyReads (F.seen l.fn.files) (F.seen l.files);
      prefix : IsTrue (F.seen l.fn.files).tells → IsPrefixOf l.text.items ((F.seen l.fn.files).holds l.name);
      room : length l.piece.items ≡ l.at_once;
      within : length l.text.items ≤ l.most + 1;
    }

abbrev pub decreases-loop-text : goal.decreases-loop-text
decreases-loop-text g l = l.most + 1 - length l.text.items
