use Rattle.std.proofs.Common.{◌≡◌, ◌<◌, ◌-◌, ◌↔◌, ℕ, zero, suc, [], ◌∷◌, ◌++◌, ◌∙◌, Option, Some, None, List, IsSome, take, reverse, refl, ap, append-nil, arith}
use Rattle.std.specs.Option.{option_to_list, unwrap_or}
use Rattle.std.proofs.lemmas.List.{reverse-append}
use Rattle.c_parser_depth.specs.declared.chain.Chain.{Chain}
use Rattle.c_parser_depth.specs.Chains.{no_chain, top, rest}
use Rattle.c_parser_depth.specs.Seen.{seen}
use Rattle.c_parser_depth.proofs.chains.Chains.pop.Goals as goal

popped : (r : Option Chain) (old new : List Chain) (n : ℕ) → old ≡ new ++ option_to_list r → (IsSome r ↔ (0 < n)) → new ≡ take (n - 1) old → (unwrap_or r no_chain ≡ top (reverse old)) × (reverse new ≡ rest (reverse old))
popped None old new zero e v k = (rw (e, append-nil, k) refl, rw (e, append-nil, k) refl)
popped None old new (suc n) e v k = absurd (let some : IsSome {T = Chain} None = v.1 (omega arith) in cc)
popped (Some f) old new n e v k = (rw (e, reverse-append new (f ∷ [])) refl, rw (e, reverse-append new (f ∷ [])) refl)

pub returns-clause-top : goal.returns-clause-top
unfolding seen
returns-clause-top c =
    c.unwrap_or.ensures ∙ ap (λ (d : Chain). unwrap_or c.pop.result d) c.none.ensures
    ∙ (popped c.pop.result c.args.self.now.stack.items c.pop.new.self.items _ c.pop.ensures.items c.pop.ensures.variant c.pop.ensures.rest).0

pub returns-clause-rest : goal.returns-clause-rest
unfolding seen
returns-clause-rest c = (popped c.pop.result c.args.self.now.stack.items c.pop.new.self.items _ c.pop.ensures.items c.pop.ensures.variant c.pop.ensures.rest).1
