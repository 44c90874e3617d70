use Rattle.std.proofs.Common.{◌≡◌, ℕ, ℤ, ◌+◌, List, [], ◌∷◌, ◌++◌, map, sym, ap, ◌∙◌}
use Rattle.std.specs.List.{range_with_len}
use Rattle.c_builtins.specs.Table.{first_source_function}
use Rattle.annot_reader.specs.Interfaces.{holds_at}
use Rattle.lockset_check.proofs.Ranges.{one_more}
use Rattle.lockset_check.proofs.sayings.holds_of.Goals as goal

pub loop-place-preserved : goal.loop-place-preserved
loop-place-preserved c =
    let said : ℕ → List ℤ = λ place. holds_at c.args.iface.now (first_source_function + place) in
    let before = c.loop-place.holds.items in
    let one = c.in_ok-one.one in
    let pushed : c.push.new.self.items ≡ before ++ one ∷ [] = c.in_ok-push.ensures.items in
    pushed
    ∙ (ap (λ (l : List (List ℤ)). l ++ one ∷ []) c.loop-place.invariant
    ∙ (ap (λ (ks : List ℤ). map said (range_with_len 0 c.loop-place.place) ++ ks ∷ []) c.in_ok-one.ensures
    ∙ sym (one_more said c.loop-place.place)))
