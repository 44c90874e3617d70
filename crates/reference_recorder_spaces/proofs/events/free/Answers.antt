use Rattle.std.proofs.Common.{inl, inr, ◌<◌, arith}
use Rattle.std.proofs.lemmas.Bool.{cases_eq}
use Rattle.reference_recorder_spaces.proofs.Answered.{not_both}
use Rattle.reference_recorder_spaces.proofs.Pooled.{frees, frees_null, may_free}
use Rattle.reference_recorder_spaces.proofs.events.free.Goals as goal

pub unreachable-requires : goal.unreachable-requires
unreachable-requires c =
    let n = c.requires in
    let why = (c.free_in.ensures.refused c.in-Err.field-0).0 c.in-Err.is in
    may_free c.args.spaces.now n.0 n.2.0 n.2.2 c.args.at n.1 n.2.1 why.0 c.in-Err.field-0 why.1

pub returns : goal.returns
returns c = λ thread size e kind n. elim (cases_eq c.args.at 0) [
  | inl null ↦ frees_null c.args.spaces.now thread e n c.args.at size kind c.free_in.new.self null (c.free_in.ensures.null null).1
  | inr ne ↦
      let some : 0 < c.args.at = omega (arith, ne) in
      frees c.args.spaces.now thread e n c.args.at size kind some c.free_in.new.self c.in-Ok.field-0
      (record { block = c.in-Ok.ensures.length some; sides = c.in-Ok.ensures.freed some; dead = c.in-Ok.ensures.dead; held = c.free_in.ensures.held })
      (λ r p. not_both c.free_in.result c.in-Ok.field-0 r c.in-Ok.is ((c.free_in.ensures.refused r).1 (some, p)))
]
