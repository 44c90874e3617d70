-- The commands: each is its stages, one after the other, and what it then leaves. The order of the stages
-- is that of refusals.
use Rattle.std.specs.Prelude.{List, [], ◌∷◌, ℕ, codes, Bool, true, false, Option}
use Rattle.log_closure.specs.Events.{LogEvent}
use Rattle.event_texts.specs.EventTexts.{order_text}
use Rattle.cut_check.specs.Stubs.{StubsText}
use Rattle.generated_files.specs.Source.{source_text}
use Rattle.generated_files.specs.declared.texts.TheConstants.{SYSTEM}
use Rattle.front_end.specs.declared.error.SourceRule.TheVariants.{Token, Deep}
use Rattle.r2_base.specs.Seen.{Contents, Store}
use Rattle.r2_cli_outcome.specs.declared.status.Status.TheVariants.{Done, Usage, Source, Short}
use Rattle.r2_cli_outcome.specs.Outcome.{Outcome, file, refusal, printed, line_of}
use Rattle.r2_cli_outcome.specs.Reading.{Reading, Of, AreOf}
use Rattle.r2_cli_outcome.specs.Stages.{Answer, Stage, Only, Comes, passed, ◌>>=◌}
use Rattle.r2_cli_outcome.specs.Log.{log}
use Rattle.r2_cli.specs.declared.help.TheConstants.{HELP, VERSION}
use Rattle.recorded_outcome.specs.Stages.{RecordingOf}
use Rattle.r2_cli.specs.Source.{source, source_words}
use Rattle.r2_cli.specs.System.{system}
use Rattle.r2_cli.specs.Words.{Form, help, version, order, check, stubs, gen, recording, IsForm, IsUsage}

-- the events are printed, of a whole log or of one that is cut short
abbrev pub order_outcome : Bool → List LogEvent → Outcome
order_outcome true events = printed Done (order_text events) []
order_outcome false events = printed Short (order_text events) (line_of (codes "short"))

-- the source of a program with so many rounds is written, and then its system file
abbrev pub generated : (rounds : ℕ) → (src sys : List ℕ) → Outcome
generated rounds src sys = record {
  status = Done;
  writes = record { to = file src; text = source_text rounds } ∷
      record { to = file sys; text = SYSTEM.now } ∷ [];
  line = [];
}

-- the text of the stubs of a source
pub data StubsOf (cut bytes : List ℕ) : Answer (List ℕ) → Type 0 where
  printed_as : {text : List ℕ} → StubsText bytes cut text → StubsOf cut bytes (passed text)

abbrev pub command : Reading → Form → Stage Outcome
command reading help = Only (passed (printed Done HELP.now []))
command reading version = Only (passed (printed Done VERSION.now []))
command reading (order name) = do
  part ← log reading name
  Only (passed (order_outcome part.whole part.events))
command reading (check src cut) = do
  accepted ← source reading src cut
  Only (passed (printed Done (codes "accepted\n") []))
command reading (stubs src cut) = do
  accepted ← source reading src cut
  text ← StubsOf cut accepted
  Only (passed (printed Done text []))
command reading (gen rounds src sys) = Only (passed (generated rounds src sys))
command reading (recording src cut sys log rep) = do
  bytes ← source reading src cut
  script ← system reading sys cut bytes
  RecordingOf log rep cut bytes script

-- the outcome of the words: that of the command whose form they have, or else Usage
pub data IsOutcome (reading : List ℕ → Option (List ℕ) → Type 0) (words : List (List ℕ)) : Outcome →
    Type 0 where
  no_form : IsUsage words → IsOutcome reading words (refusal Usage (codes "usage"))
  formed : (form : Form) {o : Outcome} → IsForm words form → Comes (command reading form) o →
      IsOutcome reading words o

-- the outcome of the words over files: for some contents, which are those of the files where they tell them
abbrev pub OutcomeOf : Store → List (List ℕ) → Outcome → Type 0
OutcomeOf files words o = (contents : Contents) × AreOf files contents × IsOutcome (Of contents) words o

-- the outcomes are the same, but for the offset at which a source without a tree, or with one too deep, is
-- refused
pub data SameOutcome : Outcome → Outcome → Type 0 where
  same : {o : Outcome} → SameOutcome o o
  no_tree : (n m : ℕ) → SameOutcome (refusal Source (source_words Token n))
      (refusal Source (source_words Token m))
  too_deep : (n m : ℕ) → SameOutcome (refusal Source (source_words Deep n))
      (refusal Source (source_words Deep m))
