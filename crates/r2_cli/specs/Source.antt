-- The stage that reads a source: nothing is found in it, or what is wrong with it is named.
use Rattle.std.specs.Prelude.{◌≢◌, ℕ, List, [], ◌++◌, codes, decimal}
use Rattle.source_limits.specs.Limits.{greatest_frame, greatest_object, most_bytes, most_functions, most_members, most_nodes, most_params, most_values}
use Rattle.c_types.specs.declared.error.Which.TheVariants as numbers
use Rattle.cut_check.specs.Lines.{LinesOf, text_of}
use Rattle.front_end.specs.Sources.{IsWrong}
use Rattle.front_end.specs.declared.error.SourceError.{SourceError}
use Rattle.front_end.specs.declared.error.SourceError.TheVariants as errors
use Rattle.front_end.specs.declared.error.SourceLimit.{SourceLimit}
use Rattle.front_end.specs.declared.error.SourceLimit.TheVariants.{Types, Nodes, Values}
use Rattle.front_end.specs.declared.error.SourceRule.{SourceRule}
use Rattle.front_end.specs.declared.error.SourceRule.TheVariants as rules
use Rattle.r2_cli_outcome.specs.declared.status.Status.TheVariants.{Findings, Source, Limit, NoMemory}
use Rattle.r2_cli_outcome.specs.Outcome.{Outcome, refusal, printed, limit_words}
use Rattle.r2_cli_outcome.specs.Reading.{Reading}
use Rattle.r2_cli_outcome.specs.Stages.{Answer, Stage, passed, ended, ◌>>=◌}
use Rattle.r2_cli_outcome.specs.Input.{Input}

abbrev pub rule_words : SourceRule → List ℕ
rule_words rules.Byte = codes "byte"
rule_words rules.Text = codes "text"
rule_words rules.Number = codes "number"
rule_words rules.Directive = codes "directive"
rule_words rules.Token = codes "token"
rule_words rules.Deep = codes "deep"
rule_words (rules.Type n) = codes "rule " ++ decimal n
rule_words (rules.Annotation n) = codes "annotation " ++ decimal n

-- the words of what is wrong with a source: the offset, and the rule that is broken there
abbrev pub source_words : SourceRule → ℕ → List ℕ
source_words rule n = codes "source " ++ decimal n ++ codes " " ++ rule_words rule

-- the words that say that no declaration names the cut
abbrev pub no_cut_words : List ℕ → List ℕ
no_cut_words cut = codes "no cut " ++ cut

-- the word of a limit that a source exceeds, and its number
abbrev pub limit_word : SourceLimit → List ℕ
limit_word (Types numbers.Functions) = codes "functions"
limit_word (Types numbers.Params) = codes "params"
limit_word (Types numbers.Members) = codes "members"
limit_word (Types numbers.Object) = codes "object"
limit_word (Types numbers.Globals) = codes "globals"
limit_word (Types numbers.Frame) = codes "frame"
limit_word Nodes = codes "code"
limit_word Values = codes "values"

abbrev pub limit_number : SourceLimit → ℕ
limit_number (Types numbers.Functions) = most_functions
limit_number (Types numbers.Params) = most_params
limit_number (Types numbers.Members) = most_members
limit_number (Types numbers.Object) = greatest_object
limit_number (Types numbers.Globals) = greatest_object
limit_number (Types numbers.Frame) = greatest_frame
limit_number Nodes = most_nodes
limit_number Values = most_values

-- how a source is refused with which this is wrong
abbrev pub refused_for : (cut : List ℕ) → SourceError → Outcome
refused_for cut (errors.Fault fault) = refusal Source (source_words fault.rule fault.at)
refused_for cut errors.NoSuchCut = refusal Source (no_cut_words cut)
refused_for cut (errors.Limit limit) = refusal Limit (limit_words (limit_word limit) (limit_number limit))
refused_for cut errors.Memory = refusal NoMemory (codes "no memory")

-- what the bytes of a source come to: what is wrong with it; the lines of what is found in its cut, or else of
-- its guards; or the bytes, where nothing is found
pub data SourceOf (cut bytes : List ℕ) : Answer (List ℕ) → Type 0 where
  wrong : {error : SourceError} → IsWrong bytes cut error →
      SourceOf cut bytes (ended (refused_for cut error))
  found : {lines : List (List ℕ)} → LinesOf bytes cut lines → lines ≢ [] →
      SourceOf cut bytes (ended (printed Findings (text_of lines) []))
  accepted : LinesOf bytes cut [] → SourceOf cut bytes (passed bytes)

-- the reading of a source, its size, its tokens, its grammar, its types with their limits, its annotations
-- with the cut, the limits of flat code, and what is found in the cut or of guards
abbrev pub source : Reading → (src cut : List ℕ) → Stage (List ℕ)
source reading src cut = Input reading src (codes "source") most_bytes >>= SourceOf cut
