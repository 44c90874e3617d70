use Rattle.std.proofs.Common.{inl, inr, refl, sym, ap, ◌∙◌, arith}
use Rattle.std.proofs.lemmas.Bool.{true≢false}
use Rattle.space_memory_access.specs.declared.refusal.Refusal.TheVariants.{Size}
use Rattle.steps_above_memory.specs.Refusals.{refusal_of}
use Rattle.recorder_memory.proofs.answers.put_up.Goals as goal

pub returns-then-region-bytes-clause-refused : goal.returns-then-region-bytes-clause-refused
returns-then-region-bytes-clause-refused c = inl (record {
  long = omega arith;
  found = c.first_spoiled-found.result;
  spoiled = c.first_spoiled-found.ensures;
  refusal_is = c.of.ensures ∙ ap (λ a. refusal_of (Size a)) c.unwrap_or-addr.ensures;
})

pub returns-in-Ok-clause-put : goal.returns-in-Ok-clause-put
returns-in-Ok-clause-put c = record {
  fits = omega arith;
  small = omega arith;
  allowed = c.in-Ok.ensures.allowed.0 refl;
  written = c.in-Ok.ensures.written;
  others = c.in-Ok.ensures.others;
  rest = c.write.ensures.rest;
}

pub returns-in-Err-clause-refused : goal.returns-in-Err-clause-refused
returns-in-Err-clause-refused c = inr (record { fits = omega arith; forbidden = λ ok. true≢false (sym (c.in-Err.ensures.allowed.1 ok)) })
