use Rattle.std.proofs.Common.{length, Some, sym, ap, ◌∙◌, subst}
use Rattle.std.specs.Prelude.{nat_le}
use Rattle.std.specs.Option.{option_map}
use Rattle.std.specs.List.{All}
use Rattle.source_limits.specs.Limits.{greatest_frame}
use Rattle.c_types_model.specs.Layouts.{capped, end_from}
use Rattle.c_types_table.specs.Tables.{IsBelow}
use Rattle.c_types_rules.specs.Limits.{small_body}
use Rattle.c_types_rules.specs.Sources.{extents_in}
use Rattle.c_types_program.specs.Declarations.{IsBody, body_in, types_in}
use Rattle.c_types.proofs.Limited.{frame_le}
use Rattle.c_types.proofs.limits.small_frame.Goals as goal

pub locals_end-requires-clause-locals : goal.locals_end-requires-clause-locals
locals_end-requires-clause-locals c =
    let t = c.args.env.now.table in
    let there : IsBody t (Some c.in-Some.body) = subst (IsBody t) c.in-Some.is c.requires.function.body in
    subst (All (IsBelow (length t.types))) (sym c.as_slice.ensures) there.0

pub returns-in-Some : goal.returns-in-Some
returns-in-Some c =
    let t = c.args.env.now.table in
    λ p e.
    let locals = c.locals_end.ensures p e ∙ ap (λ ids. capped (end_from 0 (extents_in p (types_in t.types ids)))) c.as_slice.ensures in
    ap (λ n. nat_le n greatest_frame) locals ∙ (frame_le (end_from 0 (extents_in p (types_in t.types c.in-Some.body.locals))) ∙ ap (λ b. small_body p (option_map (body_in t) b)) (sym c.in-Some.is))

pub returns-in-None : goal.returns-in-None
returns-in-None c =
    let t = c.args.env.now.table in
    λ p e. ap (λ b. small_body p (option_map (body_in t) b)) (sym c.in-None.is)
