use Rattle.std.proofs.Common.{◌≡◌, ℕ, List, sym, ap, ◌∙◌, subst}
use Rattle.run_events.specs.declared.key.KeyMark.{KeyMark}
use Rattle.run_events.specs.Tickets.{with_tickets}
use Rattle.steps_above_stamps.specs.Stamps.{CanBeRecorded}
use Rattle.steps_above_stamps.proofs.Ranges.{in_range}
use Rattle.steps_above_stamps.proofs.stamps.with_marks.Goals as goal

pub returns : goal.returns
returns c =
    let marks = c.args.marks in
    let tickets = c.args.stamp.tickets in
    let put : c.set_tickets.new.self ≡ with_tickets marks tickets = c.set_tickets.ensures ∙ ap (λ (ns : List ℕ). with_tickets marks ns) (c.as_slice.ensures ∙ c.unpacked-tickets.ensures) in
    let made : c.stamp_with.result ≡ record { steps = c.args.steps; clock = c.args.stamp.clock; keys = with_tickets marks tickets } = c.stamp_with.ensures.stamp ∙ ap (λ (qs : List KeyMark). record { steps = c.args.steps; clock = c.args.stamp.clock; keys = qs }) put in
    record {
      stamp = made;
      ranges = subst CanBeRecorded (sym made) (record {
        steps = c.stamp_with.ensures.steps;
        clock = c.stamp_with.ensures.clock;
        keys = in_range marks tickets c.requires.count c.requires.words c.requires.small;
      });
    }
