-- Whether a cut is among names.
use Rattle.std.proofs.Common.{◌≡◌, ℕ, ◌+◌, ◌<◌, ◌≤◌, Bool, true, false, ◌||◌, List, [], ◌∷◌, length, get_or, drop, Result, Ok, Err, refl, sym, ap, ◌∙◌, subst, add-one, drop-cons}
use Rattle.std.proofs.Math.ListN.{drop_of_length-le}
use Rattle.c_scopes.specs.Scopes.{same_name}
use Rattle.c_syntax.specs.declared.declaration.Item.{Item}
use Rattle.c_syntax.specs.Nodes.{Nodes}
use Rattle.c_syntax.specs.Syntax.{Item as Factors, Items, NoItems, MoreItems, OneFactor, TwoFactors, NameAtom, NumberAtom, ReturnAtom, SizeofAtom}
use Rattle.c_syntax.specs.Stands.{StandsItem, StandItems}
use Rattle.c_types_rules.specs.Checked.{Checked, Fine, Noted, Broken, ◌>>=◌}
use Rattle.annot_reader_rules.specs.Cuts.{named}
use Rattle.annot_reader_rules.specs.Functions.{names_in}
use Rattle.annot_reader_words.specs.declared.error.AnnotationError.{AnnotationError}
use Rattle.annot_reader_words.specs.declared.error.AnnotationError.TheVariants.{Rule, Memory}
use Rattle.annot_reader_words.specs.Answers.{Tells}
use Rattle.annot_reader_words.proofs.Composing.{memory}
use Rattle.annot_reader_words.specs.Readings.{NamesCut}
use Rattle.annot_reader_words.specs.Steps.{name_in}

-- it was found, or is among the names
abbrev Among : List ℕ → Bool → List (List ℕ) → Bool → Type 0
Among cut found names b = b ≡ (found || named cut names)

abbrev IsCut : List ℕ → List ℕ → Bool → Type 0
IsCut cut name b = b ≡ same_name cut name

abbrev Answer : Type 0
Answer = Result Bool AnnotationError

-- the items that are left decide
abbrev pub Left : Nodes → (from : ℕ) → (cut : List ℕ) → (found : Bool) → List Item → Items → Type 0
Left N from cut found vs is = (js : Items) × StandItems N vs js × ((r : Answer) → Tells (Among cut found) (names_in from js) r → Tells (NamesCut cut) (names_in from is) r)

pub at_first : (N : Nodes) (from : ℕ) (cut : List ℕ) (vs : List Item) (is : Items) → StandItems N vs is → Left N from cut false vs is
at_first N from cut vs is h = (is, h, λ r t. t)

abbrev Next : Nodes → (from : ℕ) → (cut : List ℕ) → (found : Bool) → Item → List Item → Items → Type 0
Next N from cut found v vs is =
    (x : Factors) × (js : Items) × StandsItem N v x × StandItems N vs js × ((r : Answer) → Tells (Among cut found) (names_in from (MoreItems x js)) r → Tells (NamesCut cut) (names_in from is) r)

head : (N : Nodes) (from : ℕ) (cut : List ℕ) (found : Bool) (v : Item) (vs : List Item) (is : Items) → Left N from cut found (v ∷ vs) is → Next N from cut found v vs is
head N from cut found v vs is (NoItems, e, f) = absurd cc
head N from cut found v vs is (MoreItems x js, (w, ws, e, p, q), f) =
    let one : w ≡ v = cc in
    let rest : ws ≡ vs = cc in
    (x, js, subst (λ u. StandsItem N u x) one p, subst (λ us. StandItems N us js) rest q, f)

next : (N : Nodes) (from : ℕ) (cut : List ℕ) (found : Bool) (vs : List Item) (k : ℕ) (d : Item) (is : Items) → k < length vs → Left N from cut found (drop k vs) is → Next N from cut found (get_or vs k d) (drop (k + 1) vs) is
next N from cut found vs k d is h l =
    let one : drop k vs ≡ get_or vs k d ∷ drop (k + 1) vs = rw add-one (drop-cons vs k d h) in
    head N from cut found (get_or vs k d) (drop (k + 1) vs) is (subst (λ ws. Left N from cut found ws is) one l)

-- an item that is no name
no_name : (from : ℕ) (cut : List ℕ) (found : Bool) (x : Factors) (js : Items) (e : AnnotationError) → Tells (IsCut cut) (name_in from x) (Err e) → Tells (Among cut found) (names_in from (MoreItems x js)) (Err e)
no_name from cut found (OneFactor at (NameAtom n)) js (Rule a b) h = absurd h
no_name from cut found (OneFactor at (NameAtom n)) js Memory h = memory (Among cut found) (names_in from js >>= λ names. Fine (n ∷ names))
no_name from cut found (OneFactor at (NumberAtom n)) js (Rule a b) h = h
no_name from cut found (OneFactor at (NumberAtom n)) js Memory h = tt
no_name from cut found (OneFactor at ReturnAtom) js (Rule a b) h = h
no_name from cut found (OneFactor at ReturnAtom) js Memory h = tt
no_name from cut found (OneFactor at (SizeofAtom d)) js (Rule a b) h = h
no_name from cut found (OneFactor at (SizeofAtom d)) js Memory h = tt
no_name from cut found (TwoFactors at a b) js (Rule c d) h = h
no_name from cut found (TwoFactors at a b) js Memory h = tt

turned : (a b c : Bool) → ((a || b) || c) ≡ (b || (a || c))
turned true true c = refl
turned true false c = refl
turned false true c = refl
turned false false c = refl

one_more : (cut name : List ℕ) (found b : Bool) (c : Checked (List (List ℕ))) (r : Answer) → b ≡ same_name cut name → Tells (Among cut (b || found)) c r → Tells (Among cut found) (c >>= λ names. Fine (name ∷ names)) r
one_more cut name found b (Fine ns) (Ok z) e h = h ∙ (turned b found (named cut ns) ∙ ap (λ x. found || (x || named cut ns)) e)
one_more cut name found b (Fine ns) (Err Memory) e h = tt
one_more cut name found b (Fine ns) (Err (Rule f n)) e h = absurd h
one_more cut name found b (Noted n ns) (Ok z) e h = h ∙ (turned b found (named cut ns) ∙ ap (λ x. found || (x || named cut ns)) e)
one_more cut name found b (Noted n ns) (Err Memory) e h = tt
one_more cut name found b (Noted m ns) (Err (Rule f n)) e h = absurd h
one_more cut name found b (Broken f n) (Ok z) e h = absurd h
one_more cut name found b (Broken f n) (Err (Rule g m)) e h = h
one_more cut name found b (Broken f n) (Err Memory) e h = tt

a_name : (from : ℕ) (cut : List ℕ) (found b : Bool) (x : Factors) (js : Items) → Tells (IsCut cut) (name_in from x) (Ok b) → (r : Answer) → Tells (Among cut (b || found)) (names_in from js) r → Tells (Among cut found) (names_in from (MoreItems x js)) r
a_name from cut found b (OneFactor at (NameAtom n)) js h r t = one_more cut n found b (names_in from js) r h t
a_name from cut found b (OneFactor at (NumberAtom n)) js h r t = absurd h
a_name from cut found b (OneFactor at ReturnAtom) js h r t = absurd h
a_name from cut found b (OneFactor at (SizeofAtom d)) js h r t = absurd h
a_name from cut found b (TwoFactors at u v) js h r t = absurd h

pub broken_next : (N : Nodes) (from : ℕ) (cut : List ℕ) (found : Bool) (vs : List Item) (k : ℕ) (d : Item) (is : Items) (e : AnnotationError) → k < length vs → Left N from cut found (drop k vs) is →
    ((x : Factors) → StandsItem N (get_or vs k d) x → Tells (IsCut cut) (name_in from x) (Err e)) → Tells (NamesCut cut) (names_in from is) (Err e)
broken_next N from cut found vs k d is e h l p =
    let n = next N from cut found vs k d is h l in
    n.4 (Err e) (no_name from cut found n.0 n.1 e (p n.0 n.2))

pub past_next : (N : Nodes) (from : ℕ) (cut : List ℕ) (found : Bool) (vs : List Item) (k : ℕ) (d : Item) (is : Items) (b : Bool) → k < length vs → Left N from cut found (drop k vs) is →
    ((x : Factors) → StandsItem N (get_or vs k d) x → Tells (IsCut cut) (name_in from x) (Ok b)) → Left N from cut (b || found) (drop (k + 1) vs) is
past_next N from cut found vs k d is b h l p =
    let n = next N from cut found vs k d is h l in
    (n.1, n.3, λ r t. n.4 r (a_name from cut found b n.0 n.1 (p n.0 n.2) r t))

last : (N : Nodes) (from : ℕ) (cut : List ℕ) (found : Bool) (is : Items) → Left N from cut found [] is → Tells (NamesCut cut) (names_in from is) (Ok found)
last N from cut true is (NoItems, e, f) = f (Ok true) refl
last N from cut false is (NoItems, e, f) = f (Ok false) refl
last N from cut found is (MoreItems x js, (w, ws, e, p, q), f) = absurd cc

pub at_end : (N : Nodes) (from : ℕ) (cut : List ℕ) (found : Bool) (vs : List Item) (k : ℕ) (is : Items) → length vs ≤ k → Left N from cut found (drop k vs) is → Tells (NamesCut cut) (names_in from is) (Ok found)
at_end N from cut found vs k is h l = last N from cut found is (subst (λ ws. Left N from cut found ws is) (drop_of_length-le vs h) l)

-- an item is the cut, or one before was
pub found_here : (here before found : Bool) → here ≡ true → found ≡ here → (here || before) ≡ found
found_here true before found e f = sym f
found_here false before found e f = absurd cc

pub found_before : (here before found : Bool) → here ≡ false → found ≡ before → (here || before) ≡ found
found_before true before found e f = absurd cc
found_before false before found e f = sym f
