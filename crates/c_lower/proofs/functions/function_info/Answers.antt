use Rattle.std.proofs.Common.{◌≡◌, ℕ, ◌≤◌, List, Option, Some, sym, ap, ◌∙◌, subst}
use Rattle.std.specs.List.{All}
use Rattle.source_limits.specs.Limits.{greatest_frame}
use Rattle.c_code.specs.declared.instr.Instr.{Instr}
use Rattle.c_types_table.specs.declared.ids.TypeId.{TypeId}
use Rattle.c_types_rules.specs.Limits.{frame_size}
use Rattle.c_semantics.specs.Context.{local_offsets}
use Rattle.c_lower_placement.specs.Code.{body_code}
use Rattle.c_types_program.specs.declared.function.Body.{Body}
use Rattle.c_types_program.specs.Declarations.{Declared, body_in, types_in}
use Rattle.c_lower_layout.specs.Sources.{source_in}
use Rattle.c_lower_bodies.specs.Making.{Setting, making, setting}
use Rattle.c_lower_bodies.specs.Short.{IsShort}
use Rattle.c_lower.specs.Lowered.{code_of, frame_of}
use Rattle.c_lower.proofs.functions.function_info.Goals as goal

-- the code that is made of a body is that of the program
made : (p : Declared) (b : Body) (e : Setting) (offsets : List ℕ) (ids : List TypeId) (code : List Instr) → code ≡ body_code (body_in e.declared.table b) (making e) → e ≡ setting p offsets
    → offsets ≡ local_offsets (source_in p) (types_in p.table.types ids) → ids ≡ b.locals → code ≡ code_of p (Some b)
made p b e offsets ids code is with_setting lie locals =
    is
    ∙ (ap (λ (s : Setting). body_code (body_in s.declared.table b) (making s)) with_setting
    ∙ ap (λ (os : List ℕ). body_code (body_in p.table b) (making (setting p os))) (lie ∙ ap (λ (ts : List TypeId). local_offsets (source_in p) (types_in p.table.types ts)) locals))

pub frame-requires-clause-small : goal.frame-requires-clause-small
frame-requires-clause-small c =
    let p = c.args.index.now in
    let small : frame_of p (Some c.in-Some.body) ≤ greatest_frame = subst (λ (b : Option Body). frame_of p b ≤ greatest_frame) c.in-Some.is c.requires.frame in
    subst (λ (ids : List TypeId). frame_size (source_in p).program (types_in p.table.types ids) ≤ greatest_frame) (sym c.as_slice.ensures) small

pub append_to-requires : goal.append_to-requires
append_to-requires c =
    let p = c.args.index.now in
    let short : All IsShort (code_of p (Some c.in-Some.body)) = subst (λ (b : Option Body). All IsShort (code_of p b)) c.in-Some.is c.requires.short in
    let same : c.in_ok-code-in-Some.code ≡ code_of p (Some c.in-Some.body) =
    made p c.in-Some.body c.new.result c.deref.result.now c.as_slice.result.now c.in_ok-code-in-Some.code c.in_ok-code-in-Some.ensures c.new.ensures (c.deref.ensures.value ∙ c.in_ok-frame-in-Some.ensures.offsets) c.as_slice.ensures in
    subst (λ (is : List Instr). All IsShort is) (sym same) short
