use Rattle.std.proofs.Common.{◌≡◌, ◌↔◌, ℕ, true, List, [], ◌∷◌, refl, sym, ◌∙◌, subst, arith}
use Rattle.cut_graph_rules.specs.Sources.{mentioned}
use Rattle.cut_graph_paths.specs.Graphs.{IsWithin, Leads, flag}
use Rattle.cut_graph_modes.specs.Runs.{Runs}
use Rattle.cut_graph_modes.proofs.Parts.{part_same}
use Rattle.cut_graph_modes.proofs.Sides.{graph_within}
use Rattle.cut_graph_modes.proofs.Reached.{exactly}
use Rattle.cut_graph_modes.proofs.modes.modes_of.Goals as goal

pub reached-requires-clause-graph : goal.reached-requires-clause-graph
reached-requires-clause-graph c =
    subst (λ (g : List (List ℕ)). IsWithin g) (sym (c.deref.ensures.value ∙ c.in_ok-graph.ensures)) (graph_within (mentioned c.args.functions.now c.args.globals.now) c.args.faces.now)

pub returns : goal.returns
returns c =
    let n = mentioned c.args.functions.now c.args.globals.now in
    let flags = c.in_ok-flags.flags.items in
    let m : Runs = record { above = c.in_ok-above.above.items; below = c.in_ok-below.below.items } in
    exactly n c.args.faces.now c.args.main flags m c.requires.main
    (λ v. subst (λ (g : List (List ℕ)). (flag flags v ≡ true) ↔ Leads g (c.args.main ∷ []) v) (c.deref.ensures.value ∙ c.in_ok-graph.ensures)
    (subst (λ (k : ℕ). (flag flags v ≡ true) ↔ Leads c.deref.result.now (k ∷ []) v) c.from.ensures (c.in_ok-flags.ensures.reached v)))
    (part_same c.in_ok-above.ensures c.deref-2.ensures.value refl (omega arith))
    (part_same c.in_ok-below.ensures c.deref-3.ensures.value (omega arith) (omega arith))
