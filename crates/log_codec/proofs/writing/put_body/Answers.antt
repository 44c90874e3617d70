use Rattle.std.proofs.Common.{◌++◌, ℕ, List, append_assoc, sym, ap, ◌∙◌}
use Rattle.std.specs.Int.{w64, to_be_bytes}
use Rattle.run_events.specs.declared.event.Event.{Event}
use Rattle.log_codec.specs.LogText.{body_text}
use Rattle.log_codec.proofs.PutTexts.{on_ok}
use Rattle.log_codec.proofs.writing.put_body.Goals as goal

pub returns-in_ok-put-in-Alloc-clause-added : goal.returns-in_ok-put-in-Alloc-clause-added
returns-in_ok-put-in-Alloc-clause-added c =
    let before : List ℕ = c.args.out.now.added in
    let second : List ℕ = c.to_be_bytes-in-Alloc-2.result in
    on_ok c.put-in-Alloc-2.result
    (λ h.
    h ∙ ap (λ (w : List ℕ). w ++ second) c.in_ok-put-in-Alloc.ensures.added
    ∙ append_assoc before c.to_be_bytes-in-Alloc.result second
    ∙ ap (λ (w : List ℕ). before ++ (w ++ second)) c.to_be_bytes-in-Alloc.ensures
    ∙ ap (λ (w : List ℕ). before ++ (to_be_bytes w64 c.in-Alloc.size ++ w)) c.to_be_bytes-in-Alloc-2.ensures
    ∙ ap (λ (e : Event). before ++ body_text to_be_bytes e) (sym c.in-Alloc.is))
    c.put-in-Alloc-2.ensures.added
