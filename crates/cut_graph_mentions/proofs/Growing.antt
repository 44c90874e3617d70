-- Lists that grow piece by piece.
use Rattle.std.proofs.Common.{◌≡◌, Bool, true, false, cond, List, [], ◌++◌, Option, Some, None, refl, sym, ap, ◌∙◌, append_assoc, append-nil}
use Rattle.cut_graph_mentions.specs.Growing.{adds, IsAdded}

adds_nothing : {A : Type 0} (o : Option (List A)) → adds o [] ≡ o
adds_nothing None = refl
adds_nothing (Some items) = ap Some (append-nil items)

adds_adds : {A : Type 0} (o : Option (List A)) (a b : List A) → adds (adds o a) b ≡ adds o (a ++ b)
adds_adds None a b = refl
adds_adds (Some items) a b = ap Some (append_assoc items a b)

-- nothing was added
pub nothing : {A : Type 0} (o : Option (List A)) → IsAdded o [] o
nothing o = record { is = λ items e. adds_nothing o ∙ e }

added_then : {A : Type 0} (o p : Option (List A)) (a b : List A) →
    ((items : List A) → p ≡ Some items → adds o a ≡ Some items) →
    (items : List A) → adds p b ≡ Some items → adds o (a ++ b) ≡ Some items
added_then o None a b f items e = cc
added_then o (Some before) a b f items e =
    sym (adds_adds o a b) ∙ (ap (λ x. adds x b) (f before refl) ∙ e)

-- one piece after another
pub two : {A : Type 0} {o p q : Option (List A)} {a b : List A} → IsAdded o a p → IsAdded p b q →
    IsAdded o (a ++ b) q
two {A} {o} {p} {q} {a} {b} f g = record { is = λ items e. added_then o p a b f.is items (g.is items e) }

-- more is added, or memory runs out now
pub put_more : {A : Type 0} (is_full : Bool) (items more : List A) →
    IsAdded (cond is_full None (Some items)) more (cond is_full None (Some (items ++ more)))
put_more true items more = record { is = λ found e. e }
put_more false items more = record { is = λ found e. e }

pub ran_out : {A : Type 0} (old : Option (List A)) (more : List A) → IsAdded old more None
ran_out old more = record { is = λ found e. cc }

-- what was added to nothing is all there is
pub finished : {A : Type 0} {old new : Option (List A)} {more : List A} (items : List A) → old ≡ Some [] →
    IsAdded old more new → new ≡ Some items → items ≡ more
finished {A} {old} {new} {more} items empty f e =
    let whole : Some more ≡ Some items = ap (λ o. adds o more) (sym empty) ∙ f.is items e in cc
