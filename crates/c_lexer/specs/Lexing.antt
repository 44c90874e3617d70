-- The tokens of a source (C11 6.4).
use Rattle.std.specs.Prelude.{◌≡◌, ℕ, ◌+◌, ◌<◌, ◌≤◌, Bool, true, false, List, [], ◌∷◌, drop}
use Rattle.c_lexer.specs.declared.token.Kind.{Kind}
use Rattle.c_lexer.specs.declared.token.Token.{Token}
use Rattle.c_lexer.specs.declared.item.Item.TheVariants as items
use Rattle.c_lexer.specs.declared.item.Fault.{Fault}
use Rattle.c_lexer.specs.declared.item.Fault.TheVariants as faults
use Rattle.c_lexer.specs.declared.error.LexError.{LexError}
use Rattle.c_lexer.specs.declared.error.LexError.TheVariants as errors
use Rattle.c_lexer.specs.Items.{item_at}

-- the error of a fault at an offset
abbrev pub error_at : Fault → ℕ → LexError
error_at faults.BadByte at = errors.BadByte at
error_at faults.OpenText at = errors.OpenText at
error_at faults.BigNumber at = errors.BigNumber at
error_at faults.Directive at = errors.Directive at

-- how a reading ends: with the source, or where it breaks a rule
pub data End : Type 0 where
  Whole : End
  Stopped : LexError → End

-- the bytes from an offset on, with `fresh` as in item_at, are these tokens up to this end
pub data Reads : Bool → ℕ → List ℕ → List Token → End → Type 0 where
  finished : {fresh : Bool} {at : ℕ} {bs : List ℕ} → item_at fresh bs ≡ items.Finished →
      Reads fresh at bs [] Whole
  stopped : {fresh : Bool} {at n : ℕ} {bs : List ℕ} {fault : Fault} →
      item_at fresh bs ≡ items.Fault fault n → Reads fresh at bs [] (Stopped (error_at fault (at + n)))
  skipped : {fresh line : Bool} {at n : ℕ} {bs : List ℕ} {ts : List Token} {end : End} →
      item_at fresh bs ≡ items.Skip n line → Reads line (at + n) (drop n bs) ts end →
      Reads fresh at bs ts end
  token : {fresh : Bool} {at n : ℕ} {bs : List ℕ} {k : Kind} {ts : List Token} {end : End} →
      item_at fresh bs ≡ items.Token n k → Reads false (at + n) (drop n bs) ts end →
      Reads fresh at bs (record { kind = k; from = at; to = at + n } ∷ ts) end

-- the source is these tokens
abbrev pub IsTokens : List ℕ → List Token → Type 0
IsTokens source ts = Reads true 0 source ts Whole

-- the source is tokens up to where it first breaks a rule, with this error
abbrev pub IsLexError : List ℕ → LexError → Type 0
IsLexError source error = (ts : List Token) × Reads true 0 source ts (Stopped error)

-- the tokens stand one after another, from one offset up to another
abbrev pub InOrder : ℕ → List Token → ℕ → Type 0
InOrder at [] end = at ≤ end
InOrder at (t ∷ ts) end = (at ≤ t.from) × (t.from < t.to) × InOrder t.to ts end

-- some reading of the source
abbrev pub HasReading : List ℕ → Type 0
HasReading source = (ts : List Token) × (end : End) × Reads true 0 source ts end

-- what a reading makes of bytes is determined
abbrev pub OneReading : Type 0
OneReading = (fresh : Bool) (at : ℕ) (bs : List ℕ) (ts us : List Token) (d e : End) →
    Reads fresh at bs ts d → Reads fresh at bs us e → (ts ≡ us) × (d ≡ e)

-- what an error says of a source; out of memory says nothing
abbrev pub Refuses : List ℕ → LexError → Type 0
Refuses source errors.Memory = Unit {0}
Refuses source (errors.BadByte at) = IsLexError source (errors.BadByte at)
Refuses source (errors.OpenText at) = IsLexError source (errors.OpenText at)
Refuses source (errors.BigNumber at) = IsLexError source (errors.BigNumber at)
Refuses source (errors.Directive at) = IsLexError source (errors.Directive at)
