use Rattle.std.proofs.Common.{◌≡◌, ◌↔◌, Bool, true, ◌&&◌, ◌||◌, not, List, sym, ap, ◌∙◌, subst}
use Rattle.space_memory_laws.specs.Rights.{IsHandedDown}
use Rattle.whole_runs.specs.World.{begin}
use Rattle.whole_runs.specs.Sides.{seen}
use Rattle.reference_recorder_marks.specs.Marks.{past}
use Rattle.reference_recorder_rights.specs.declared.opens.Flags.{Flags}
use Rattle.reference_recorder_rights.specs.Rights.{any_holds, any_reads, past_under}
use Rattle.reference_recorder_rights.proofs.HandedDown.{handed_down, open_flags, region_in}
use Rattle.reference_recorder_rights.proofs.down.is_handed_down.Goals as goal

pub returns : goal.returns
returns c = λ w.
    let p = past c.args.marks.now in
    let x = c.args.addr in
    let t = c.args.thread in
    let fs : List Flags = open_flags w x t p in
    let is : c.is_down.result ≡ (any_holds fs || ((not c.args.write && any_reads fs) || past_under (region_in w p) x p)) =
    c.is_down.ensures
    ∙ ap (λ (gs : List Flags). any_holds gs || ((not c.args.write && any_reads gs) || c.is_prepared.result)) (c.deref.ensures.value ∙ c.in_ok-calls.ensures w)
    ∙ ap (λ (b : Bool). any_holds fs || ((not c.args.write && any_reads fs) || b)) (c.is_prepared.ensures w) in
    subst (λ (b : Bool). (b ≡ true) ↔ IsHandedDown (begin w) (seen p) t c.args.write x) (sym is) (handed_down w p t c.args.write x)
