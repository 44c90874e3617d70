-- Keys with their tickets, as records hold them.
use Rattle.std.specs.Prelude.{◌<◌, ◌^◌}
use Rattle.run_events.specs.declared.key.KeyMark.{KeyMark}

-- the value of the key is a word, its ticket half a word
abbrev pub IsInRange : KeyMark → Type 0
IsInRange q = (q.key.value < 2 ^ 64) × (q.ticket < 2 ^ 32)
