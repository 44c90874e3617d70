use Rattle.std.proofs.Common.{◌<◌, List, length, sym, subst, arith}
use Rattle.std.specs.List.{All}
use Rattle.c_types_program.specs.declared.global.Global.{Global}
use Rattle.c_types_program.specs.Declarations.{IsGlobal}
use Rattle.test_marks.proofs.image.globals.Goals as goal

pub extent-extent-requires : goal.extent-extent-requires
extent-extent-requires c =
    let table = c.args.program.now.table in
    let among = c.globals-global-items in
    let all : All (IsGlobal table) among.result.now = subst (λ (gs : List Global). All (IsGlobal table) gs) (sym among.ensures.globals) among.ensures.sound.globals in
    let within : c.loop-global.global-index < length among.result.now = omega arith in
    (subst (λ (g : Global). IsGlobal table g) (sym c.global-item.is) (all c.loop-global.global-index c.global-item.result within)).type
