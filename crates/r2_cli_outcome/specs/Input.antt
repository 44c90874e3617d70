-- The stage that reads an input file: it is there, and no longer than a limit. The limit of a source is with its
-- other limits, in source_limits.
use Rattle.std.specs.Prelude.{◌≤◌, ◌<◌, ◌++◌, ℕ, List, Option, length, codes, Some, None}
use Rattle.r2_cli_outcome.specs.declared.status.Status.TheVariants.{ReadFault, Limit}
use Rattle.r2_cli_outcome.specs.Outcome.{refusal, limit_words}
use Rattle.r2_cli_outcome.specs.Stages.{Answer, passed, ended}

-- bytes of a log
abbrev pub most_log_bytes : ℕ
most_log_bytes = 67108864

-- bytes of a system file
abbrev pub most_system_bytes : ℕ
most_system_bytes = 1048576

pub data Input (reading : List ℕ → Option (List ℕ) → Type 0) (name word : List ℕ) (most : ℕ) :
    Answer (List ℕ) → Type 0 where
  missing : reading name None → Input reading name word most
      (ended (refusal ReadFault (codes "no file " ++ name)))
  too_long : {bytes : List ℕ} → reading name (Some bytes) → most < length bytes →
      Input reading name word most (ended (refusal Limit (limit_words word most)))
  read : {bytes : List ℕ} → reading name (Some bytes) → length bytes ≤ most →
      Input reading name word most (passed bytes)
