-- Interfaces that agree on the functions of a source.
use Rattle.std.proofs.Common.{◌≡◌, ◌↔◌, ℕ, Bool, true, List, sym, ap, ◌∙◌, subst}
use Rattle.marks.specs.declared.side.Side.{Side}
use Rattle.marks.specs.declared.side.Side.TheVariants.{Replay, System}
use Rattle.cut_graph_rules.specs.declared.mention.Mention.{Mention}
use Rattle.cut_graph_rules.specs.Sources.{Mentioned, mentioned}
use Rattle.cut_graph_rules.specs.MayRun.{IsFunction, MayRun, begins, below, crosses, stays}
use Rattle.cut_graph_modes.specs.Runs.{Runs, may}

same_runs : (n : Mentioned) (f g : ℕ → Bool) (main : ℕ) → ((h : ℕ) → IsFunction n h → f h ≡ g h) → (side : Side) (k : ℕ) → MayRun n f main side k → MayRun n g main side k
same_runs n f g main same side k begins = begins
same_runs n f g main same side k (stays {f = a} {h} r named inside e) = stays (same_runs n f g main same Replay a r) named inside (sym (same h inside) ∙ e)
same_runs n f g main same side k (crosses {f = a} {h} r named inside e) = crosses (same_runs n f g main same Replay a r) named inside (sym (same h inside) ∙ e)
same_runs n f g main same side k (below {f = a} {h} r named inside) = below (same_runs n f g main same System a r) named inside

for_interface : (n : Mentioned) (f g : ℕ → Bool) (main : ℕ) (m : Runs) → ((h : ℕ) → IsFunction n h → f h ≡ g h) → ((side : Side) (k : ℕ) → (may m side k ≡ true) ↔ MayRun n f main side k) →
    (side : Side) (k : ℕ) → (may m side k ≡ true) ↔ MayRun n g main side k
for_interface n f g main m same exact side k =
    (λ e. same_runs n f g main same side k ((exact side k).0 e), λ r. (exact side k).1 (same_runs n g f main (λ h inside. sym (same h inside)) side k r))

pub for_mentions : (n : Mentioned) (functions globals : List (List Mention)) (f g : ℕ → Bool) (main : ℕ) (m : Runs) → functions ≡ n.functions → globals ≡ n.globals → ((h : ℕ) → IsFunction n h → f h ≡ g h) →
    ((side : Side) (k : ℕ) → (may m side k ≡ true) ↔ MayRun (mentioned functions globals) f main side k) →
    (side : Side) (k : ℕ) → (may m side k ≡ true) ↔ MayRun n g main side k
for_mentions n functions globals f g main m is also same exact =
    let whole : mentioned functions globals ≡ n = ap (λ (x : List (List Mention)). mentioned x globals) is ∙ ap (mentioned n.functions) also in
    for_interface n f g main m same (subst (λ (x : Mentioned). (side : Side) (k : ℕ) → (may m side k ≡ true) ↔ MayRun x f main side k) whole exact)
