-- A thread that stands above the cut may stop.
use Rattle.std.proofs.Common.{◌≡◌, ⊎_elim, ℕ, suc, ◌<◌, true, false, ◌&&◌, List, [], length, refl, sym, subst, arith, eq-eqb, eqb-true}
use Rattle.std.proofs.lemmas.Bool.{and_parts, or_cases, true≢false}
use Rattle.marks.specs.declared.side.Side.TheVariants.{Replay}
use Rattle.marks.specs.Places.{thread_count}
use Rattle.marks.specs.Marks.{Stop, Made, Mark}
use Rattle.marks.specs.Bytes.{touches, writes}
use Rattle.marks.specs.Wants.{is_above}
use Rattle.replay_runs.specs.Runs.{Start, Link, OfThread, OfKey, has, ticket, marks_of, events_with, new_events, last_clock, steps_since}
use Rattle.replay_runs.specs.Interface.{Program}
use Rattle.replay_runs.specs.Threads.{fault_of, is_stopped}
use Rattle.replay_runs.specs.Rules.{SharedRules}
use Rattle.replay_runs.specs.Found.{StopMayCome, StopsMayCome}

module _ (program : Program) (s : Start) (past : List Mark) (t : ℕ) where
  abbrev mine : List Mark
  mine = marks_of s t past

  abbrev stop : Mark
  stop = record { thread = t; side = Replay; index = length (events_with s (OfThread t) past); act = Made (record { kind = Stop (fault_of mine); steps = steps_since mine; keys = []; clock = suc (last_clock (events_with s (OfThread t) past)) }) }

  -- its only link is its thread
  own_link : (P : Link → Type 0) → P (OfThread t) → (l : Link) → has stop l ≡ true → P l
  own_link P p (OfThread u) h = subst (λ v. P (OfThread v)) (eqb-true t u h) p
  own_link P p (OfKey k) h = absurd (true≢false (sym h))

  pub stops : t < thread_count → is_above (program.want t mine) ≡ true → is_stopped mine ≡ false → StopMayCome program s past t
  stops below above running =
      record {
        mark = stop;
        thread = refl;
        stops = refl;
        allowed = record {
          own = record {
            thread = below;
            side = refl;
            replies = above;
            modes = λ z. absurd (true≢false z);
            carries = refl;
            keys = refl;
            other_space = λ x e. absurd (true≢false (sym e));
            read_only = λ x e. absurd (true≢false (sym e));
            running = running;
            after_fault = λ ne. refl;
          };
          index = refl;
          steps = λ e. refl;
          tickets = own_link (λ l. ticket stop l ≡ length (events_with s l past)) refl;
          shared = own_link (λ l. SharedRules program.interface s l (new_events l past) stop) tt;
          rises = own_link (λ l. last_clock (events_with s l past) < suc (last_clock (events_with s (OfThread t) past))) (omega arith);
          least = λ e. (OfThread t, eq-eqb t t refl, refl);
          bytes = λ x. tt;
        };
        no_race = λ a i ne x c. absurd (⊎_elim
            (λ z. true≢false (sym (and_parts (writes a.act x) (touches stop.act x) z).1))
            (λ z. true≢false (sym (and_parts (touches a.act x) (writes stop.act x) z).1))
            (or_cases (writes a.act x && touches stop.act x) (touches a.act x && writes stop.act x) c));
      }

pub halts : (program : Program) (s : Start) → StopsMayCome program s
halts program s past t below above running = stops program s past t below above running
