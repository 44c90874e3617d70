-- What is noted as unevaluated.
use Rattle.std.proofs.Common.{◌≡◌, ◌||◌, ◌++◌, List, [], ◌∷◌, Bool, false, Result, Ok, Err, refl, sym, ap, ◌∙◌, subst}
use Rattle.std.proofs.lemmas.List.{append-nil, map-append}
use Rattle.c_types_rules.specs.Checked.{Checked, Fine, Noted, Broken, Notes, heard, together, unevaluated, ◌>>◌}
use Rattle.c_types_rules.specs.TypedTree.{Typed}
use Rattle.c_types_nodes.specs.declared.ids.NodeId.{NodeId}
use Rattle.c_types_nodes.specs.Tables.{Keeps, node_at}
use Rattle.c_types_nodes.specs.Lists.{AreNodes, nodes_at}
use Rattle.c_types_nodes.proofs.Lists.{nodes_kept}
use Rattle.c_types_operators.specs.declared.error.TypeError.{TypeError}
use Rattle.c_types_operators.specs.declared.error.TypeError.TheVariants.{Rule, Memory}
use Rattle.c_types_operators.specs.Answers.{Agrees}
use Rattle.c_types_environment.specs.States.{State, notes_of}
use Rattle.c_types_expressions.specs.Found.{Finds, Found, IsPart, Stays}
use Rattle.c_types_expressions.proofs.Kept.{same_table}
use Rattle.c_types_expressions.proofs.Sequences.{after_unevaluated, noted_nothing}

module _ (a b : State) (id : NodeId) (e : b ≡ record a { unevaluated = a.unevaluated ++ id ∷ [] }) where
  noted_one : notes_of b ≡ together (notes_of a) (record { large = false; unevaluated = node_at a.table id ∷ [] })
  noted_one = ap notes_of e ∙ ap (λ xs. record { large = a.found_large; unevaluated = xs }) (map-append (node_at a.table) a.unevaluated (id ∷ []))

  pub noted_stays : Stays a b
  noted_stays = let from : State → Type 0 = λ s. Stays a s in subst from (sym e) (record { numbers = same_table a.table; env = refl })

  -- what one step finds after the note
  pub after_one : {C D : Type 0} (js : C → D → Type 0) (c : State) (d : Checked C) (r : Result D TypeError) → Agrees js d r → notes_of c ≡ notes_of b → Finds a c js (unevaluated (node_at a.table id) >> d) r
  after_one js c d r q l = after_unevaluated (notes_of a) (notes_of b) (notes_of c) js (node_at a.table id) d r noted_one (noted_nothing (notes_of b) (notes_of c) js d r l q)

-- ---- what stands unevaluated in a part

-- what was set aside before the part is there after it
module _ (a o b c : State) (set : o ≡ record a { unevaluated = [] }) (back : c ≡ record b { unevaluated = a.unevaluated }) (all : AreNodes a.table a.unevaluated) (kept : Keeps a.table b.table) where
  notes_back : (large : Bool) → b.found_large ≡ large → notes_of c ≡ record { large = large; unevaluated = nodes_at a.table a.unevaluated }
  notes_back large e = ap notes_of back ∙ (ap (λ xs. record { large = b.found_large; unevaluated = xs }) (nodes_kept a.table b.table kept a.unevaluated all) ∙ ap (λ l. record { large = l; unevaluated = nodes_at a.table a.unevaluated }) e)

  part_notes : (n : Notes) → notes_of b ≡ together (notes_of o) n → notes_of b ≡ record { large = n.large || a.found_large; unevaluated = n.unevaluated }
  part_notes n e = e ∙ ap (λ s. together (notes_of s) n) set

  pub part_heard : {C D : Type 0} (is : C → D → Type 0) (x : Checked C) (y : D) → Finds o b is x (Ok y) → Finds a c (IsPart b is) (heard x) (Ok (y, b.unevaluated))
  part_heard is (Fine u) y h =
      let none : notes_of b ≡ record { large = a.found_large; unevaluated = [] } = h.1 ∙ ap notes_of set in
      ((h.0, ap (λ n. n.unevaluated) none), notes_back a.found_large (ap (λ n. n.large) none))
  part_heard is (Noted n u) y h =
      let more = part_notes n h.1 in
      ((h.0, ap (λ m. m.unevaluated) more), notes_back (n.large || a.found_large) (ap (λ m. m.large) more) ∙ ap (λ xs. record { large = n.large || a.found_large; unevaluated = xs }) (sym (append-nil (nodes_at a.table a.unevaluated))))
  part_heard is (Broken from rule) y h = absurd h

-- a rule that is broken in a part
pub part_broken : {C D E : Type 0} (f g h k : Notes) (is : C → D → Type 0) (js : C × List Typed → E → Type 0) (x : Checked C) (e : TypeError) → Found f g is x (Err e) → Found h k js (heard x) (Err e)
part_broken f g h k is js x Memory p = tt
part_broken f g h k is js (Fine u) (Rule m n) p = absurd p
part_broken f g h k is js (Noted w u) (Rule m n) p = absurd p
part_broken f g h k is js (Broken from rule) (Rule m n) p = p

-- what is found may be looked at as something else
pub seen_as : {C D E : Type 0} (f g : Notes) (is : C → D → Type 0) (js : C → E → Type 0) (c : Checked C) (y : D) (z : E) → ((x : C) → is x y → js x z) → Found f g is c (Ok y) → Found f g js c (Ok z)
seen_as f g is js (Fine x) y z m h = (m x h.0, h.1)
seen_as f g is js (Noted n x) y z m h = (m x h.0, h.1)
seen_as f g is js (Broken from rule) y z m h = absurd h

module _ (a o b : State) (set : o ≡ record a { unevaluated = [] }) where
  pub aside_stays : Stays o b → Stays a b
  aside_stays h =
      let P : State → Type 0 = λ z. Stays z b in
      let k = subst P set h in
      record { numbers = k.numbers; env = k.env }

  pub part_stays : (c : State) → c ≡ record b { unevaluated = a.unevaluated } → Stays o b → Stays a c
  part_stays c back h =
      let k = aside_stays h in
      let Q : State → Type 0 = λ z. Stays a z in
      subst Q (sym back) (record { numbers = k.numbers; env = k.env })
