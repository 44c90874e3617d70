use Rattle.std.proofs.Common.{◌≡◌, ◌<◌, ◌-◌, ◌↔◌, ℕ, zero, suc, [], ◌∷◌, ◌++◌, ◌∙◌, Option, Some, None, List, IsSome, take, reverse, refl, ap, append-nil, arith}
use Rattle.std.specs.Option.{option_to_list, unwrap_or}
use Rattle.std.proofs.lemmas.List.{reverse-append}
use Rattle.c_parser_nodes.specs.declared.tally.Tally.{Tally}
use Rattle.c_parser_nodes.specs.Tallies.{no_tally, top, rest}
use Rattle.c_parser_nodes.specs.Tallies.{seen}
use Rattle.c_parser_nodes.proofs.tallies.Tallies.pop.Goals as goal

popped : (r : Option Tally) (old new : List Tally) (n : ℕ) → old ≡ new ++ option_to_list r → (IsSome r ↔ (0 < n)) → new ≡ take (n - 1) old → (unwrap_or r no_tally ≡ top (reverse old)) × (reverse new ≡ rest (reverse old))
popped None old new zero e v k = (rw (e, append-nil, k) refl, rw (e, append-nil, k) refl)
popped None old new (suc n) e v k = absurd (let some : IsSome {T = Tally} None = v.1 (omega arith) in cc)
popped (Some f) old new n e v k = (rw (e, reverse-append new (f ∷ [])) refl, rw (e, reverse-append new (f ∷ [])) refl)

pub returns-clause-top : goal.returns-clause-top
unfolding seen
returns-clause-top c =
    c.unwrap_or.ensures ∙ ap (λ (d : Tally). unwrap_or c.pop.result d) c.none.ensures
    ∙ (popped c.pop.result c.args.self.now.stack.items c.pop.new.self.items _ c.pop.ensures.items c.pop.ensures.variant c.pop.ensures.rest).0

pub returns-clause-rest : goal.returns-clause-rest
unfolding seen
returns-clause-rest c = (popped c.pop.result c.args.self.now.stack.items c.pop.new.self.items _ c.pop.ensures.items c.pop.ensures.variant c.pop.ensures.rest).1
