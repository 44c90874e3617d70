use Rattle.std.proofs.Common.{◌≡◌, ◌<◌, ◌++◌, ◌∷◌, [], ℕ, List, get_or, length, sym, ap, ◌∙◌, subst, arith}
use Rattle.std.specs.Global.{Vec}
use Rattle.std.proofs.lemmas.List.{length-append}
use Rattle.log_closure.proofs.Index.{filled_more}
use Rattle.log_closure.proofs.closing.empty_lists.Goals as goal

pub loop-thread-init : goal.loop-thread-init
loop-thread-init c = record {
  wide = ap length c.in_ok-lists.ensures.items;
  empty = subst (λ (l : List (Vec ℕ)). (t : ℕ) (d : Vec ℕ) → t < length l → (get_or l t d).items ≡ []) (sym c.in_ok-lists.ensures.items) (λ t d lt. absurd (omega arith));
}

pub loop-thread-preserved : goal.loop-thread-preserved
loop-thread-preserved c =
    let old = c.loop-thread.lists.items in
    let is : c.push.new.self.items ≡ old ++ c.new.result ∷ [] = c.in_ok-push.ensures.items in
    record {
      wide = ap length is ∙ (let z = length-append old (c.new.result ∷ []) in let w = c.loop-thread.invariant.wide in omega (arith, z, w));
      empty = subst (λ (l : List (Vec ℕ)). (t : ℕ) (d : Vec ℕ) → t < length l → (get_or l t d).items ≡ []) (sym is)
          (λ t d lt. filled_more old c.new.result c.new.ensures.items c.loop-thread.invariant.empty t d (let z = length-append old (c.new.result ∷ []) in omega (arith, z, lt)));
    }

pub returns-clause-wide : goal.returns-clause-wide
returns-clause-wide c = let w = c.loop-thread.invariant.wide in omega (arith, w, c.loop-thread-test.false, c.loop-thread.auto._thread-end)

pub returns-clause-empty : goal.returns-clause-empty
returns-clause-empty c = λ t lt d. let w = c.loop-thread.invariant.wide in c.loop-thread.invariant.empty t d (omega (arith, w, lt, c.loop-thread-test.false))
