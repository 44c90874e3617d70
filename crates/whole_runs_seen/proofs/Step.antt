-- What a replay sees of a step may follow what it saw before, and races with nothing.
use Rattle.std.proofs.Common.{◌≡◌, ⊎_elim, Bool, true, false, cond, ◌&&◌, ◌||◌, List, refl, sym, ap, ◌∙◌, subst}
use Rattle.std.specs.Prelude.{is_some}
use Rattle.std.proofs.lemmas.Bool.{and_from, true≢false}
use Rattle.marks.specs.declared.side.Side.{Side}
use Rattle.marks.specs.declared.side.Side.TheVariants.{Replay, System}
use Rattle.marks.specs.Marks.{Event, Act, Turn, Load, Store, Enter, Leave, Step, Fault, Made, Mark, is_event, side_of}
use Rattle.marks.specs.Opens.{is_stop}
use Rattle.marks.specs.Wants.{Want, Outside, Turns, Loads, Stores, Enters, Leaves, Allocs, Frees, Calls, Below, Gives, Returns, CallsBack, UpReturns, Steps, Fails, answer_to, event_answer, is_above, is_below}
use Rattle.c_code.specs.Laws.{seen_above}
use Rattle.replay_runs.specs.Runs.{Start, marks_of, is_fault, Allowed}
use Rattle.replay_runs.specs.Known.{NoRace}
use Rattle.replay_runs.specs.Interface.{Interface, Program}
use Rattle.replay_runs.specs.Rules.{is_reply, Carries, OwnRules, replay_rules}
use Rattle.replay_runs.specs.Checks.{Passes, checks}
use Rattle.replay_runs.specs.Unseen.{Calm}
use Rattle.replay_runs.proofs.Replies.{only_events, IsNoStep}
use Rattle.replay_runs.proofs.Unseen.{race_with_nothing}
use Rattle.whole_runs.specs.World.{World, begin, interface, program_of}
use Rattle.whole_runs.specs.Sides.{seen}
use Rattle.whole_runs.specs.Tests.{checks_above}
use Rattle.whole_runs.specs.Steps.{Picked, IsMade, Agrees}
use Rattle.whole_runs.specs.Ends.{Follows}
use Rattle.whole_runs.specs.Fits.{IsFit}
use Rattle.whole_runs_laws.proofs.PlainSteps.{side_is}
use Rattle.whole_runs_laws.proofs.OneStep.{same_side_true, plain_side}
use Rattle.whole_runs_laws.proofs.FaultsAbove.{running, no_end}
use Rattle.whole_runs_seen.proofs.Entries as entries
use Rattle.whole_runs_seen.proofs.Threads.{AreThreads}
use Rattle.whole_runs_seen.proofs.Seen as seen_step
use Rattle.whole_runs_seen.proofs.SeenEvents.{replay_event, system_event}

module _ (w : World) (fit : IsFit w) (past : List Mark) (follows : Follows w past) (known : AreThreads w past) (calm : Calm (program_of w) (begin w) (seen past))
    (s : Picked w past) (m : Mark) (h : IsMade w past s m) (above : m.side ≡ Replay) where
  abbrev p : Program
  p = program_of w

  abbrev i : Interface
  i = interface w

  abbrev st : Start
  st = begin w

  abbrev rs : List Mark
  rs = seen past

  abbrev mine : List Mark
  mine = marks_of st m.thread rs

  abbrev wanted : Want
  wanted = p.want m.thread mine

  abbrev Fits : Want → Type 0
  Fits = seen_step.Fits w fit past follows known calm s m h above

  pub goes_on : (is_stop m.act ≡ false) × (is_fault m.act ≡ 0)
  goes_on = ((no_end w past s m h).0, no_fault m.act h.agrees)
    where
      no_fault : (a : Act) → Agrees w past s.thread s.side s.want a → is_fault a ≡ 0
      no_fault Turn a = refl
      no_fault (Load o at bytes) a = refl
      no_fault (Store o at bytes) a = refl
      no_fault (Enter f args at bytes) a = refl
      no_fault (Leave at size) a = refl
      no_fault (Step f args v ins pieces freed) a = refl
      no_fault (Fault k c ins outs at) a = absurd a
      no_fault (Made e) a = refl

  answers : is_some (answer_to s.want m.act) ≡ true
  answers = seen_step.answers w fit past follows known calm s m h above

  event_answers : (want : Want) (e : Event) → m.act ≡ Made e → is_some (answer_to want m.act) ≡ true → is_some (event_answer want e.kind) ≡ true
  unfolding answer_to
  event_answers want e z a = subst (λ q. is_some (answer_to want q) ≡ true) z a

  event_of : (a : Act) → is_event a ≡ true → (e : Event) × (a ≡ Made e)
  event_of (Made e) z = (e, refl)
  event_of Turn z = absurd (true≢false (sym z))
  event_of (Load o at bytes) z = absurd (true≢false (sym z))
  event_of (Store o at bytes) z = absurd (true≢false (sym z))
  event_of (Enter f args at bytes) z = absurd (true≢false (sym z))
  event_of (Leave at size) z = absurd (true≢false (sym z))
  event_of (Step f args v ins pieces freed) z = absurd (true≢false (sym z))
  event_of (Fault k c ins outs at) z = absurd (true≢false (sym z))

  -- a mark that is no event is made by code above the cut
  plain_here : is_event m.act ≡ false → s.side ≡ Replay
  plain_here z = sym (plain_side s.side m.act z) ∙ (same_side_true (side_of s.side m.act) m.side (side_is s.side s.want m h.replies) ∙ above)

  carries_own : Carries i st m.thread mine s.want m.act
  carries_own = (seen_step.made w fit past follows known calm s m h above).own.1

  fits_plain : (want : Want) → is_event m.act ≡ false → is_some (answer_to want m.act) ≡ true → Carries i st m.thread mine want m.act → Passes (checks i st rs m.thread want) → IsNoStep want → (is_above want || is_below want) ≡ true → Fits want
  fits_plain want z a c ok n b = seen_step.plain_fits w fit past follows known calm s m h above want m.act refl (only_events want m.act z n b a) goes_on.1 b a c ok

  -- the returns of calls are events
  abbrev IsReturning : Want → Type 0
  IsReturning (Gives f args) = Unit {0}
  IsReturning (Returns f args v) = Unit {0}
  IsReturning want = ⊥

  no_plain : (want : Want) (a : Act) → is_event a ≡ false → is_some (answer_to want a) ≡ true → IsReturning want → ⊥
  unfolding answer_to
  no_plain want (Made e) z y r = true≢false z
  no_plain (Gives f args) a z y r = true≢false (sym y)
  no_plain (Returns f args v) a z y r = true≢false (sym y)
  no_plain want a z y r = r

  plain_by : (want : Want) → entries.IsOwn w.laid Replay want → is_event m.act ≡ false → is_some (answer_to want m.act) ≡ true → Carries i st m.thread mine want m.act → Passes (checks_above w past m.thread want) → Fits (seen_above want)
  unfolding answer_to
  plain_by Outside o z a c ok = absurd o
  plain_by (Below f args) o z a c ok = absurd o
  plain_by (CallsBack f args bytes) o z a c ok = absurd cc
  plain_by (Steps j f args) o z a c ok = absurd (ok.0 _ refl)
  plain_by (Gives f args) o z a c ok = absurd (no_plain (Gives f args) m.act z a tt)
  plain_by (Returns f args v) o z a c ok = absurd (no_plain (Returns f args v) m.act z a tt)
  plain_by Turns o z a c ok = fits_plain Turns z a c ok tt refl
  plain_by (Loads q at n) o z a c ok = fits_plain (Loads q at n) z a c ok tt refl
  plain_by (Stores q at bytes) o z a c ok = fits_plain (Stores q at bytes) z a c ok tt refl
  plain_by (Enters j f args bytes) o z a c ok = fits_plain (Enters j f args bytes) z a c ok tt refl
  plain_by (Leaves at n) o z a c ok = fits_plain (Leaves at n) z a c ok tt refl
  plain_by (Allocs n) o z a c ok = fits_plain (Allocs n) z a c ok tt refl
  plain_by (Frees at) o z a c ok = fits_plain (Frees at) z a c ok tt refl
  plain_by (Calls j f args) o z a c ok = fits_plain (Calls j f args) z a c ok tt refl
  plain_by (UpReturns f v) o z a c ok = fits_plain (UpReturns f v) z a c ok tt refl
  plain_by (Fails k) o z a c ok = fits_plain (Fails k) z a c ok tt refl

  -- what is wanted above the cut is answered there
  fits : Fits wanted
  fits = by (is_event m.act) refl
    where
      told : (e : Event) → m.act ≡ Made e → is_some (event_answer s.want e.kind) ≡ true
      told e z = event_answers s.want e z answers

      by_side : (d : Side) → s.side ≡ d → (e : Event) → m.act ≡ Made e → Fits wanted
      by_side Replay d e z = subst Fits (sym (seen_step.by_own w fit past follows known calm s m h above d))
          (replay_event w fit past follows known calm s m h above e z s.want (subst (λ q. entries.IsOwn w.laid q s.want) d (seen_step.own w fit past follows known calm s m h above)) (told e z) (seen_step.passes w fit past follows known calm s m h above d))
      by_side System d e z =
          system_event w fit past follows known calm s m h above e z s.want (subst (λ q. entries.IsOwn w.laid q s.want) d (seen_step.own w fit past follows known calm s m h above)) (told e z) wanted (seen_step.by_others w fit past follows known calm s m h above d)

      by : (b : Bool) → is_event m.act ≡ b → Fits wanted
      by true z = let e = event_of m.act z in by_side s.side refl e.0 e.1
      by false z =
          let d = plain_here z in
          subst Fits (sym (seen_step.by_own w fit past follows known calm s m h above d))
          (plain_by s.want (subst (λ q. entries.IsOwn w.laid q s.want) d (seen_step.own w fit past follows known calm s m h above)) z answers carries_own (seen_step.passes w fit past follows known calm s m h above d))

  replies_there : (want : Want) → (is_above want || is_below want) ≡ true → is_some (answer_to want m.act) ≡ true → is_reply want m.act ≡ true
  replies_there want b a = ap (λ q. cond q (is_above want) ((is_above want || is_below want) && is_some (answer_to want m.act))) goes_on.0 ∙ and_from _ _ b a

  pub own_rules : OwnRules p st mine m
  own_rules =
      let runs = running w past follows m.thread in
      record {
        thread = seen_step.small w fit past follows known calm s m h above;
        side = above;
        replies = replies_there wanted fits.stands fits.replies;
        modes = λ z. fits.modes;
        carries = fits.carries;
        keys = (seen_step.made w fit past follows known calm s m h above).own.0;
        other_space = fits.own_bytes.other_space;
        read_only = fits.own_bytes.read_only;
        running = runs.0;
        after_fault = λ n. absurd (n runs.1);
      }

  pub allowed : Allowed (replay_rules p st) st rs m
  allowed =
      let made = seen_step.made w fit past follows known calm s m h above in
      record { own = own_rules; index = made.index; steps = made.steps; tickets = made.tickets; shared = made.shared; rises = made.rises; least = made.least; bytes = made.bytes }

  pub unraced : NoRace rs m
  unraced = ⊎_elim (λ u. race_with_nothing p st rs calm m allowed u) (λ n. n) fits.unraced
