-- Annotations and their items, one after another.
use Rattle.c_types_rules.specs.Checked.{Notes}
use Rattle.std.proofs.Common.{◌≡◌, Bool, List, [], ◌∷◌, Ok, Err, refl, sym, ap, subst}
use Rattle.c_syntax.specs.declared.declaration.Annot.{Annot as AnnotNode}
use Rattle.c_syntax.specs.declared.declaration.Item.{Item as ItemNode}
use Rattle.c_syntax.specs.Nodes.{Nodes}
use Rattle.c_syntax.specs.Syntax.{Annots, Items, Item}
use Rattle.c_syntax.specs.Stands.{StandAnnots, StandItems, StandsItem}
use Rattle.c_types_rules.specs.Environment.{Environment}
use Rattle.c_types_rules.specs.Expressions.{annotation_types, item_types, item_type}
use Rattle.c_types_operators.specs.declared.error.TypeError.{TypeError}
use Rattle.c_types_operators.specs.Answers.{IsNothing}
use Rattle.c_types_environment.specs.States.{notes_of, State}
use Rattle.c_types_expressions.specs.Found.{Found, Finds}
use Rattle.c_types_expressions.proofs.Sequences.{passed, gone_on_after, stopped_before}
use Rattle.c_types_expressions.proofs.Lists.{first_annot, first_item, no_annot, no_item}
use Rattle.c_types_expressions.proofs.Rests.{RestOfAnnots, RestOfItems}

-- ---- annotations

pub annots_begin : (N : Nodes) (E : Environment) (f : Notes) (vs : List AnnotNode) (xs : Annots) → StandAnnots N vs xs → RestOfAnnots N E f f vs xs
annots_begin N E f vs xs h = record { rest = xs; stand = h; go_on = λ h r p. p }

pub annots_next : (N : Nodes) (E : Environment) (f : Notes) (now new : State) (v : AnnotNode) (vs us : List AnnotNode) (xs : Annots) → us ≡ v ∷ vs → now.env ≡ E → RestOfAnnots N E f (notes_of now) us xs →
    ((is : Items) → StandItems N v.items is → Finds now new IsNothing (item_types is now.env) (Ok tt)) → RestOfAnnots N E f (notes_of new) vs xs
annots_next N E f now new v vs us xs u e rest done =
    let one = first_annot N v vs rest.rest (subst (λ ws. StandAnnots N ws rest.rest) u rest.stand) in
    record {
      rest = one.others;
      stand = one.on_others;
      go_on = λ h r p. rest.go_on h r (passed (notes_of now) h IsNothing _ _ r (ap (λ ys. annotation_types ys E) one.is)
          (gone_on_after (notes_of now) (notes_of new) h IsNothing IsNothing (item_types one.items E) (annotation_types one.others E) tt r
          (passed (notes_of now) (notes_of new) IsNothing _ _ (Ok tt) (ap (item_types one.items) (sym e)) (done one.items one.on_items)) p));
    }

pub annots_stop : (N : Nodes) (E : Environment) (f : Notes) (now new : State) (v : AnnotNode) (vs us : List AnnotNode) (xs : Annots) (x : TypeError) → us ≡ v ∷ vs → now.env ≡ E → RestOfAnnots N E f (notes_of now) us xs →
    ((is : Items) → StandItems N v.items is → Finds now new IsNothing (item_types is now.env) (Err x)) → Found f (notes_of new) IsNothing (annotation_types xs E) (Err x)
annots_stop N E f now new v vs us xs x u e rest done =
    let one = first_annot N v vs rest.rest (subst (λ ws. StandAnnots N ws rest.rest) u rest.stand) in
    rest.go_on (notes_of new) (Err x) (passed (notes_of now) (notes_of new) IsNothing _ _ (Err x) (ap (λ ys. annotation_types ys E) one.is)
    (stopped_before (notes_of now) (notes_of new) (notes_of new) IsNothing IsNothing (item_types one.items E) (annotation_types one.others E) x
    (passed (notes_of now) (notes_of new) IsNothing _ _ (Err x) (ap (item_types one.items) (sym e)) (done one.items one.on_items))))

pub annots_end : (N : Nodes) (E : Environment) (f g : Notes) (us : List AnnotNode) (xs : Annots) → us ≡ [] → RestOfAnnots N E f g us xs → Found f g IsNothing (annotation_types xs E) (Ok tt)
annots_end N E f g us xs u rest =
    let none = no_annot N rest.rest (subst (λ ws. StandAnnots N ws rest.rest) u rest.stand) in
    rest.go_on g (Ok tt) (passed g g IsNothing _ _ (Ok tt) (ap (λ ys. annotation_types ys E) none) (tt, refl))

-- ---- items

pub items_begin : (N : Nodes) (E : Environment) (f : Notes) (vs : List ItemNode) (xs : Items) → StandItems N vs xs → RestOfItems N E f f vs xs
items_begin N E f vs xs h = record { rest = xs; stand = h; go_on = λ h r p. p }

pub items_next : (N : Nodes) (E : Environment) (f : Notes) (now new : State) (v : ItemNode) (vs us : List ItemNode) (xs : Items) → us ≡ v ∷ vs → now.env ≡ E → RestOfItems N E f (notes_of now) us xs →
    ((x : Item) → StandsItem N v x → Finds now new IsNothing (item_type x now.env) (Ok tt)) → RestOfItems N E f (notes_of new) vs xs
items_next N E f now new v vs us xs u e rest done =
    let one = first_item N v vs rest.rest (subst (λ ws. StandItems N ws rest.rest) u rest.stand) in
    record {
      rest = one.others;
      stand = one.on_others;
      go_on = λ h r p. rest.go_on h r (passed (notes_of now) h IsNothing _ _ r (ap (λ ys. item_types ys E) one.is)
          (gone_on_after (notes_of now) (notes_of new) h IsNothing IsNothing (item_type one.first E) (item_types one.others E) tt r
          (passed (notes_of now) (notes_of new) IsNothing _ _ (Ok tt) (ap (item_type one.first) (sym e)) (done one.first one.on_first)) p));
    }

pub items_stop : (N : Nodes) (E : Environment) (f : Notes) (now new : State) (v : ItemNode) (vs us : List ItemNode) (xs : Items) (x : TypeError) → us ≡ v ∷ vs → now.env ≡ E → RestOfItems N E f (notes_of now) us xs →
    ((y : Item) → StandsItem N v y → Finds now new IsNothing (item_type y now.env) (Err x)) → Found f (notes_of new) IsNothing (item_types xs E) (Err x)
items_stop N E f now new v vs us xs x u e rest done =
    let one = first_item N v vs rest.rest (subst (λ ws. StandItems N ws rest.rest) u rest.stand) in
    rest.go_on (notes_of new) (Err x) (passed (notes_of now) (notes_of new) IsNothing _ _ (Err x) (ap (λ ys. item_types ys E) one.is)
    (stopped_before (notes_of now) (notes_of new) (notes_of new) IsNothing IsNothing (item_type one.first E) (item_types one.others E) x
    (passed (notes_of now) (notes_of new) IsNothing _ _ (Err x) (ap (item_type one.first) (sym e)) (done one.first one.on_first))))

pub items_end : (N : Nodes) (E : Environment) (f g : Notes) (us : List ItemNode) (xs : Items) → us ≡ [] → RestOfItems N E f g us xs → Found f g IsNothing (item_types xs E) (Ok tt)
items_end N E f g us xs u rest =
    let none = no_item N rest.rest (subst (λ ws. StandItems N ws rest.rest) u rest.stand) in
    rest.go_on g (Ok tt) (passed g g IsNothing _ _ (Ok tt) (ap (λ ys. item_types ys E) none) (tt, refl))
