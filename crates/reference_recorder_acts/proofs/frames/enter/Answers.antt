use Rattle.std.proofs.Common.{◌≡◌, ℕ, ◌<◌, List, length, refl, ap, ◌∙◌, subst, arith}
use Rattle.marks.specs.Places.{thread_count}
use Rattle.whole_runs.specs.Sides.{HasRoomOn, place_on}
use Rattle.recorder_state.specs.Inputs.{world_of}
use Rattle.reference_recorder_marks.specs.declared.mark.Act.TheVariants as act
use Rattle.reference_recorder_marks.specs.Marks.{past}
use Rattle.reference_recorder_acts.specs.Acts.{next_after}
use Rattle.reference_recorder_acts.proofs.Marked.{few, few_marks}
use Rattle.reference_recorder_acts.proofs.Entered.{entered, has_room_told, where_none, where_some}
use Rattle.reference_recorder_acts.proofs.frames.enter.Goals as goal

pub room_on-requires : goal.room_on-requires
room_on-requires c =
    let at = c.requires.to.at in
    subst (λ u. u < thread_count) at.of_thread (few (world_of c.args.inputs) c.args.marks.now at.past at.step)

pub unreachable-requires : goal.unreachable-requires
unreachable-requires c =
    let w = world_of c.args.inputs in
    let bytes = c.in_ok-bytes.bytes.items in
    let size : c.len-size.result ≡ length bytes = omega arith in
    let full : HasRoomOn w c.args.side c.args.thread (past c.args.marks.now) c.len-size.result → ⊥ =
    where_none (HasRoomOn w c.args.side c.args.thread (past c.args.marks.now) c.len-size.result → ⊥)
    (λ at. HasRoomOn w c.args.side c.args.thread (past c.args.marks.now) c.len-size.result × (at ≡ place_on w c.args.side c.args.thread (past c.args.marks.now)))
    c.in_ok-at.field-0 c.in_default.is (c.in_ok-at.ensures w) in
    has_room_told w c.args.marks.now c.args.thread c.args.side c.args.func c.args.args.now c.requires bytes (c.in_ok-bytes.ensures w.laid refl)
    (subst (λ (n : ℕ). HasRoomOn w c.args.side c.args.thread (past c.args.marks.now) n → ⊥) size full)

pub next_mark-requires : goal.next_mark-requires
next_mark-requires c = let at = c.requires.to.at in few_marks (world_of c.args.inputs) c.args.marks.now at.past at.step

pub returns : goal.returns
returns c = λ next.
    let w = world_of c.args.inputs in
    let bytes = c.in_ok-bytes.bytes.items in
    let size : c.len-size.result ≡ length bytes = omega arith in
    let room : HasRoomOn w c.args.side c.args.thread (past c.args.marks.now) c.len-size.result × (c.in-Some.at ≡ place_on w c.args.side c.args.thread (past c.args.marks.now)) =
    where_some (HasRoomOn w c.args.side c.args.thread (past c.args.marks.now) c.len-size.result → ⊥)
    (λ at. HasRoomOn w c.args.side c.args.thread (past c.args.marks.now) c.len-size.result × (at ≡ place_on w c.args.side c.args.thread (past c.args.marks.now)))
    c.in_ok-at.field-0 c.in-Some.at c.in-Some.is (c.in_ok-at.ensures w) in
    entered w c.args.marks.now c.args.thread c.args.side c.args.func c.args.args.now next bytes (c.in_ok-bytes.ensures w.laid refl) c.in-Some.at
    (subst (λ (n : ℕ). HasRoomOn w c.args.side c.args.thread (past c.args.marks.now) n) size room.0) room.1 c.next_mark.result
    (c.next_mark.ensures
    ∙ ap (λ (args : List ℕ). next_after c.args.marks.now c.args.thread c.args.side (act.Enter c.args.func args c.in-Some.at c.from.result)) c.in_ok-from_slice.ensures
    ∙ ap (λ (bs : List ℕ). next_after c.args.marks.now c.args.thread c.args.side (act.Enter c.args.func c.args.args.now c.in-Some.at bs)) c.from.ensures)
