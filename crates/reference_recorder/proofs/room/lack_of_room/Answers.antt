use Rattle.std.proofs.Common.{sym, ◌∙◌, arith}
use Rattle.recorder_state.specs.Inputs.{world_of}
use Rattle.reference_recorder.proofs.Roomy.{few_made, has_room, in_full, no_event, recordable, short, small_made, too_long, too_many}
use Rattle.reference_recorder.proofs.room.lack_of_room.Goals as goal

pub events-requires : goal.events-requires
events-requires c = short (world_of c.args.inputs) c.args.marks.now c.requires.past

pub bytes-requires-clause-few : goal.bytes-requires-clause-few
bytes-requires-clause-few c = few_made (world_of c.args.inputs) c.args.marks.now c.requires.past

pub bytes-requires-clause-form : goal.bytes-requires-clause-form
bytes-requires-clause-form c = recordable (world_of c.args.inputs) c.args.marks.now c.requires.past

pub size_of-requires : goal.size_of-requires
size_of-requires c = in_full (world_of c.args.inputs) c.args.marks.now c.args.mark.now c.requires (sym c.is_event.ensures ∙ c.if-not-is_event.false)

pub overflow_add-so_far : goal.overflow_add-so_far
overflow_add-so_far c =
    let small = small_made (world_of c.args.inputs) c.args.marks.now c.requires.past in
    let a = c.in_ok-so_far.ensures in
    let b = c.in_ok-more.ensures.small in
    omega (arith, small, a, b)

pub returns-then-not-is_event : goal.returns-then-not-is_event
returns-then-not-is_event c = λ m. no_event (world_of c.args.inputs) c.args.marks.now c.args.mark.now m (sym c.is_event.ensures ∙ c.if-not-is_event.true)

pub returns-then-events-ge-MOST_EVENTS : goal.returns-then-events-ge-MOST_EVENTS
returns-then-events-ge-MOST_EVENTS c = λ m.
    let n = c.events.ensures in
    let ge = c.if-events-ge-MOST_EVENTS.true in
    too_many (world_of c.args.inputs) c.args.marks.now c.args.mark.now m (sym c.is_event.ensures ∙ c.if-not-is_event.false) (omega (arith, n, ge))

pub returns-then-so_far-more-gt-MOST_BYTES : goal.returns-then-so_far-more-gt-MOST_BYTES
returns-then-so_far-more-gt-MOST_BYTES c = λ m.
    let n = c.events.ensures in
    let lt = c.if-events-ge-MOST_EVENTS.false in
    let a = c.in_ok-so_far.ensures in
    let b = c.in_ok-more.ensures.size in
    let gt = c.if-so_far-more-gt-MOST_BYTES.true in
    too_long (world_of c.args.inputs) c.args.marks.now c.args.mark.now m (sym c.is_event.ensures ∙ c.if-not-is_event.false) (omega (arith, n, lt)) (omega (arith, a, b, gt))

pub returns : goal.returns
returns c = λ m.
    let n = c.events.ensures in
    let lt = c.if-events-ge-MOST_EVENTS.false in
    let a = c.in_ok-so_far.ensures in
    let b = c.in_ok-more.ensures.size in
    let le = c.if-so_far-more-gt-MOST_BYTES.false in
    has_room (world_of c.args.inputs) c.args.marks.now c.args.mark.now m (sym c.is_event.ensures ∙ c.if-not-is_event.false) (omega (arith, n, lt)) (omega (arith, a, b, le))
