use Rattle.std.proofs.Common.{◌≡◌, ◌<◌, ◌-◌, ◌↔◌, ℕ, zero, suc, [], ◌∷◌, ◌++◌, MatchOption, Option, Some, None, List, IsSome, take, reverse, refl, append-nil, arith}
use Rattle.std.specs.Option.{option_to_list}
use Rattle.std.proofs.lemmas.List.{reverse-append}
use Rattle.c_parser_moves.specs.declared.frame.Frame.{Frame}
use Rattle.c_parser_actions.specs.Seen.{acts_seen, opens_seen}
use Rattle.c_parser_actions.proofs.parser.Parser.pop.Goals as goal

popped : (r : Option Frame) (old new : List Frame) (n : ℕ) → old ≡ new ++ option_to_list r → (IsSome r ↔ (0 < n)) → new ≡ take (n - 1) old → MatchOption r ((reverse old ≡ []) × (reverse new ≡ [])) (λ f. reverse old ≡ f ∷ reverse new)
popped None old new zero e v k = (rw (e, append-nil, k) refl, rw k refl)
popped None old new (suc n) e v k = absurd (let some : IsSome {T = Frame} None = v.1 (omega arith) in cc)
popped (Some f) old new n e v k = rw e (reverse-append new (f ∷ []))

pub returns-clause-opens : goal.returns-clause-opens
unfolding opens_seen
returns-clause-opens c = popped c.pop.result c.args.self.now.frames.items c.pop.new.self.items _ c.pop.ensures.items c.pop.ensures.variant c.pop.ensures.rest

pub returns-clause-acts : goal.returns-clause-acts
unfolding acts_seen
returns-clause-acts c = refl
