use Rattle.std.proofs.Common.{◌≡◌, ℕ, List, length, get_or, ap, ◌∙◌, arith}
use Rattle.system_side.proofs.turns.Turns.wish.Goals as goal

pub index-requires : goal.index-requires
index-requires c =
    let same : length c.self.inside.items.items ≡ length c.args.self.now = ap length c.self.view_is in
    omega (arith, c.turn.ensures.inside, c.self.inside.items.ok.0)

pub returns : goal.returns
returns c =
    let at : c.index.result.now ≡ get_or c.args.self.now c.turn.result c.index.result.now = c.index.ensures ∙ ap (λ (s : List (ℕ × ℕ)). get_or s c.turn.result c.index.result.now) c.self.view_is in
    ap (λ (item : ℕ × ℕ). item.0) at ∙ c.turn.ensures.item c.index.result.now
