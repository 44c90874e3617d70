-- Errors of a source that say the same.
use Rattle.std.specs.Prelude.{ℕ}
use Rattle.front_end.specs.declared.error.SourceError.{SourceError}
use Rattle.front_end.specs.declared.error.SourceRule.TheVariants as rules
use Rattle.front_end.specs.Errors.{found}

-- the same, but for the offset where no source has the tokens, or where one is too deep
pub data SameError : SourceError → SourceError → Type 0 where
  same : {error : SourceError} → SameError error error
  no_tree : (n m : ℕ) → SameError (found rules.Token n) (found rules.Token m)
  too_deep : (n m : ℕ) → SameError (found rules.Deep n) (found rules.Deep m)
