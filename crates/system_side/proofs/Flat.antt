-- Answers whose pieces lie in one list.
use Rattle.std.proofs.Common.{◌≡◌, ℕ, ◌+◌, ◌-◌, ◌≤◌, List, [], ◌∷◌, ◌++◌, get_or, length, take, drop, refl, sym, ap, ◌∙◌, arith}
use Rattle.std.specs.List.{All}
use Rattle.std.proofs.lemmas.List.{drop-append-le, take-append-le, length-drop, length-take, take-append-drop, take_all, drop_all, map-append, get_or_append_left, get_or-append-add}
use Rattle.std.proofs.lemmas.List.Elements.{All-get_or, All-head, All-tail, All-weaker}
use Rattle.system_side.specs.declared.answer_list.Entry.{Entry}
use Rattle.system_side.specs.declared.answer_list.Group.{Group}
use Rattle.system_side.specs.AnswerLists.{AreBegun, AreThere, HasGroup, IsWithin, SoFar, answer_in, answers_in, group_in, none, pieces_in}

-- the pieces of a group stay where more follow those of all answers
kept : (ps more : List (List ℕ)) (g : Group) → IsWithin (length ps) g → pieces_in (ps ++ more) g ≡ pieces_in ps g
kept ps more g high =
    let n = length-drop g.first ps in
    ap (take g.count) (drop-append-le g.first ps more (omega (arith, high)))
    ∙ take-append-le g.count (drop g.first ps) more (omega (arith, high, n))

pub all_kept : (gs : List Group) (ps more : List (List ℕ)) (es : List Entry) → AreThere (length ps) gs es → answers_in gs (ps ++ more) es ≡ answers_in gs ps es
all_kept gs ps more [] h = refl
all_kept gs ps more (e ∷ es) h =
    let inside = All-get_or (IsWithin (length ps)) gs e.group none (All-head (HasGroup gs) e es h.grouped) h.inside in
    let same = kept ps more (group_in gs e) inside in
    let rest = all_kept gs ps more es (record { grouped = All-tail (HasGroup gs) e es h.grouped; inside = h.inside }) in
    λ i. record { func = e.func; result = e.result; pieces = same i } ∷ rest i

-- answers stay where more groups follow theirs
pub all_grouped : (gs more : List Group) (ps : List (List ℕ)) (es : List Entry) → All (HasGroup gs) es → answers_in (gs ++ more) ps es ≡ answers_in gs ps es
all_grouped gs more ps [] h = refl
all_grouped gs more ps (e ∷ es) h =
    let same = get_or_append_left gs more none e.group (All-head (HasGroup gs) e es h) in
    let rest = all_grouped gs more ps es (All-tail (HasGroup gs) e es h) in
    λ i. record { func = e.func; result = e.result; pieces = pieces_in ps (same i) } ∷ rest i

-- groups whose pieces are among the first are among more
pub there_in_more : (n m : ℕ) (gs : List Group) (es : List Entry) → n ≤ m → AreThere n gs es → AreThere m gs es
there_in_more n m gs es le h = record {
  grouped = h.grouped;
  inside = All-weaker (IsWithin n) (IsWithin m) (λ g low. omega (arith, low, le)) gs h.inside;
}

-- they stay where the pieces that follow go
pub all_cut : (gs : List Group) (ps : List (List ℕ)) (n : ℕ) (es : List Entry) → AreThere n gs es → n ≤ length ps → answers_in gs (take n ps) es ≡ answers_in gs ps es
all_cut gs ps n es h high =
    let long = length-take n ps in
    sym (all_kept gs (take n ps) (drop n ps) es (there_in_more n (length (take n ps)) gs es (omega (arith, long, high)) h))
    ∙ ap (λ (qs : List (List ℕ)). answers_in gs qs es) (take-append-drop n ps)

pub none_begun : (ps : List (List ℕ)) (n : ℕ) → drop n (take n ps) ≡ []
none_begun ps n = let long = length-take n ps in drop_all n (take n ps) (omega (arith, long))

-- one more piece of the answer that was begun
pub piece_added : (first : ℕ) (gs : List Group) (ps qs : List (List ℕ)) (p : List ℕ) (es : List Entry) (s : SoFar) → qs ≡ ps ++ p ∷ [] → AreBegun first gs ps es → answers_in gs ps es ≡ s.ended → drop first ps ≡ s.begun
    → (answers_in gs qs es ≡ s.ended) × (drop first qs ≡ s.begun ++ p ∷ [])
piece_added first gs ps qs p es s is kept ended begun = (
  ap (λ (xs : List (List ℕ)). answers_in gs xs es) is ∙ (all_kept gs ps (p ∷ []) es (there_in_more first (length ps) gs es kept.start kept.there) ∙ ended),
  ap (drop first) is ∙ (drop-append-le first ps (p ∷ []) kept.start ∙ ap (λ xs. xs ++ p ∷ []) begun),
)

-- one more answer
pub one_more : (gs : List Group) (ps : List (List ℕ)) (es more : List Entry) (e : Entry) (s : SoFar) (pieces : List (List ℕ)) → more ≡ es ++ e ∷ [] → answers_in gs ps es ≡ s.ended → pieces_in ps (group_in gs e) ≡ pieces
    → answers_in gs ps more ≡ s.ended ++ record { func = e.func; result = e.result; pieces = pieces } ∷ []
one_more gs ps es more e s pieces is ended here =
    ap (answers_in gs ps) is ∙ (map-append (answer_in gs ps) es (e ∷ [])
    ∙ (λ i. ended i ++ record { func = e.func; result = e.result; pieces = here i } ∷ []))

-- the group that is put in last
pub last_group : (gs : List Group) (g : Group) → get_or (gs ++ g ∷ []) (length gs) none ≡ g
last_group gs g =
    let here : length gs ≡ length gs + 0 = omega arith in
    ap (λ n. get_or (gs ++ g ∷ []) n none) here ∙ get_or-append-add gs (g ∷ []) 0 none

-- a group of all pieces from the first on
pub all_from : (ps : List (List ℕ)) (first : ℕ) → take (length ps - first) (drop first ps) ≡ drop first ps
all_from ps first = let n = length-drop first ps in take_all (length ps - first) (drop first ps) (omega (arith, n))
