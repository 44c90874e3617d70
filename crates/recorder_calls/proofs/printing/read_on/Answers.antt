use Rattle.std.proofs.Common.{◌++◌, ◌<◌, ◌^◌, Err, ap, ◌∙◌, rules}
use Rattle.recorder_calls.specs.Reading.{shown_from}
use Rattle.recorder_calls.proofs.Shown.{read_is}
use Rattle.recorder_calls.proofs.Read.{unread}
use Rattle.recorder_calls.proofs.printing.read_on.Goals as goal

pub returns-in_ok-extend_from_slice-in-Ok : goal.returns-in_ok-extend_from_slice-in-Ok
returns-in_ok-extend_from_slice-in-Ok c may =
    let bytes = c.args.spaces.now.bytes in
    let old = c.args.bytes.now.items in
    c.in_ok-extend_from_slice-in-Ok.ensures.items ∙ ap (λ bs. old ++ bs) (c.as_slice.ensures ∙ (read_is bytes c.args.range.addr c.in-Ok.read c.in-Ok.ensures.bytes ∙ ap (shown_from bytes c.args.range.addr) c.in-Ok.ensures.len))

pub returns-in-Err-Refused : goal.returns-in-Err-Refused
returns-in-Err-Refused c may =
    let small : c.args.range.addr < 2 ^ 64 = search rules in
    absurd (unread c.args.spaces.now.bytes c.args.spaces.now.held.regions _ c.in-Err-Refused.field-0-0 (may small) ((c.in-Err-Refused.ensures.refused c.in-Err-Refused.field-0-0).0 (ap (λ e. Err e) c.in-Err-Refused.field-0-is)))
