-- Annotations that speak of parameters, by their places.
use Rattle.std.proofs.Common.{◌≡◌, ℕ, zero, suc, ◌+◌, ◌<◌, ◌≤◌, Bool, true, false, if◌then◌else◌, List, [], ◌∷◌, ◌++◌, length, get_or, drop, slice_get, Some, refl, sym, ap, ◌∙◌, subst, add-one, append_assoc, drop-cons, length-drop, arith}
use Rattle.std.proofs.Math.ListN.{drop_of_length-le}
use Rattle.std.proofs.lemmas.Option.{get_or_from_slice_get, slice_get-get_or, slice_get_within}
use Rattle.c_syntax.specs.declared.declaration.Annot.{Annot}
use Rattle.c_syntax.specs.Nodes.{Nodes}
use Rattle.c_syntax.specs.Syntax.{Annots, Annot as Annotated, Annotate, NoAnnots, MoreAnnots}
use Rattle.c_syntax.specs.Stands.{StandAnnots, StandsAnnot}
use Rattle.annot_reader_words.specs.Words.{function_word}
use Rattle.annot_reader_words.proofs.Folding.{AllStand}
use Rattle.annot_reader_words.proofs.Lists.{annots_in}
use Rattle.annot_reader_functions.specs.Known.{of_parameters, parameter_words, places_from, with_place}
use Rattle.annot_reader_functions.specs.Parameters.{AreAnnots}

-- ---- the places, one after another

module _ (N : Nodes) (vs : List Annot) (an : Annots) where
  -- those that are left have the places that are left
  abbrev pub Left : (k : ℕ) → (done : List ℕ) → Type 0
  Left k done = (xs : Annots) × StandAnnots N (drop k vs) xs × ((done ++ places_from k xs) ≡ places_from 0 an)

  pub at_first : StandAnnots N vs an → Left 0 []
  at_first h = (an, h, refl)

  -- the next one speaks of parameters, or doesn't
  head : (k : ℕ) (v : Annot) (done : List ℕ) (b : Bool) (xs : Annots) → of_parameters (function_word v.name) ≡ b → drop k vs ≡ v ∷ drop (k + 1) vs → StandAnnots N (drop k vs) xs → (done ++ places_from k xs) ≡ places_from 0 an →
      (ys : Annots) × StandAnnots N (drop (k + 1) vs) ys × ((done ++ (if b then k ∷ places_from (k + 1) ys else places_from (k + 1) ys)) ≡ places_from 0 an)
  head k v done b NoAnnots e f h g = absurd cc
  head k v done b (MoreAnnots (Annotate from word is) xs) e f (w, ws, i, p, q) g =
      let one : w ≡ v = cc in
      let rest : ws ≡ drop (k + 1) vs = cc in
      let named : v.name ≡ word = ap (λ (z : Annot). z.name) (sym one) ∙ p.1 in
      let spoken : of_parameters (function_word word) ≡ b = ap (λ z. of_parameters (function_word z)) (sym named) ∙ e in (
        xs,
        subst (λ zs. StandAnnots N zs xs) rest q,
        subst (λ (z : Bool). (done ++ (if z then k ∷ places_from (k + 1) xs else places_from (k + 1) xs)) ≡ places_from 0 an) spoken g,
      )

  next : (k : ℕ) (d : Annot) (done : List ℕ) (b : Bool) → k < length vs → of_parameters (function_word (get_or vs k d).name) ≡ b → Left k done →
      (ys : Annots) × StandAnnots N (drop (k + 1) vs) ys × ((done ++ (if b then k ∷ places_from (k + 1) ys else places_from (k + 1) ys)) ≡ places_from 0 an)
  next k d done b h e l =
      let one : drop k vs ≡ get_or vs k d ∷ drop (k + 1) vs = rw add-one (drop-cons vs k d h) in
      head k (get_or vs k d) done b l.0 e one l.1 l.2

  past_this : (k : ℕ) (d : Annot) (done : List ℕ) (b : Bool) → k < length vs → of_parameters (function_word (get_or vs k d).name) ≡ b → Left k done → Left (k + 1) (with_place b k done)
  past_this k d done true h e l = let n = next k d done true h e l in (n.0, n.1, append_assoc done (k ∷ []) (places_from (k + 1) n.0) ∙ n.2)
  past_this k d done false h e l = let n = next k d done false h e l in (n.0, n.1, n.2)

  pub past_next : (k : ℕ) (d : Annot) (done : List ℕ) → k < length vs → Left k done → Left (k + 1) (with_place (of_parameters (function_word (get_or vs k d).name)) k done)
  past_next k d done h l = past_this k d done (of_parameters (function_word (get_or vs k d).name)) h refl l

  nothing_after : (done : List ℕ) → (done ++ []) ≡ done
  nothing_after [] = refl
  nothing_after (n ∷ done) = ap (λ ns. n ∷ ns) (nothing_after done)

  ended : (k : ℕ) (done : List ℕ) (xs : Annots) → drop k vs ≡ [] → StandAnnots N (drop k vs) xs → (done ++ places_from k xs) ≡ places_from 0 an → done ≡ places_from 0 an
  ended k done NoAnnots e h g = sym (nothing_after done) ∙ g
  ended k done (MoreAnnots x xs) e (w, ws, i, p, q) g = absurd cc

  pub at_end : (k : ℕ) (done : List ℕ) → length vs ≤ k → Left k done → done ≡ places_from 0 an
  at_end k done h l = ended k done l.0 (drop_of_length-le vs h) l.1 l.2

-- what stands for the same annotations has the same places
pub same_places : (N : Nodes) (vs : List Annot) (k : ℕ) (an bn : Annots) → StandAnnots N vs an → StandAnnots N vs bn → places_from k an ≡ places_from k bn
same_places N vs k NoAnnots NoAnnots h g = refl
same_places N vs k NoAnnots (MoreAnnots x xs) h (w, ws, i, p, q) = absurd cc
same_places N vs k (MoreAnnots x xs) NoAnnots (w, ws, i, p, q) g = absurd cc
same_places N vs k (MoreAnnots (Annotate from word is) xs) (MoreAnnots (Annotate at name js) ys) (w, ws, i, p, q) (v, us, j, r, s) =
    let both : w ∷ ws ≡ v ∷ us = sym i ∙ j in
    let one : w ≡ v = cc in
    let rest : ws ≡ us = cc in
    let named : word ≡ name = sym p.1 ∙ (ap (λ (z : Annot). z.name) one ∙ r.1) in
    let more : places_from (k + 1) xs ≡ places_from (k + 1) ys = same_places N ws (k + 1) xs ys q (subst (λ zs. StandAnnots N zs ys) (sym rest) s) in
    ap (λ z. if of_parameters (function_word z) then k ∷ places_from (k + 1) xs else places_from (k + 1) xs) named
    ∙ ap (λ zs. if of_parameters (function_word name) then k ∷ zs else zs) more

-- ---- what stands there

-- the annotation at this place stands for this
abbrev pub StandsAt : Nodes → List Annot → ℕ → Annotated → Type 0
StandsAt N vs k x = (v : Annot) × (slice_get vs k ≡ Some v) × StandsAnnot N v x

module _ (N : Nodes) (vs : List Annot) where
  within : (j : ℕ) (v : Annot) (us : List Annot) → drop j vs ≡ v ∷ us → j < length vs
  within j v us f = let long : length (drop j vs) ≡ length (v ∷ us) = ap length f in omega (arith, length-drop j vs, long)

  parts : (j : ℕ) (v : Annot) (us : List Annot) → drop j vs ≡ v ∷ us → (get_or vs j v ≡ v) × (drop (j + 1) vs ≡ us)
  parts j v us f =
      let one : drop j vs ≡ get_or vs j v ∷ drop (j + 1) vs = rw add-one (drop-cons vs j v (within j v us f)) in
      let both : get_or vs j v ∷ drop (j + 1) vs ≡ v ∷ us = sym one ∙ f in
      (cc, cc)

  there : (j : ℕ) (v : Annot) (us : List Annot) → drop j vs ≡ v ∷ us → slice_get vs j ≡ Some v
  there j v us f = slice_get-get_or vs j v (within j v us f) ∙ ap Some (parts j v us f).0

  stand_from : (k : ℕ) (ws : List Annot) (an : Annots) → drop k vs ≡ ws → StandAnnots N ws an → AllStand (StandsAt N vs) (places_from k an) (annots_in (parameter_words an))
  stand_from k ws NoAnnots e h = tt
  stand_from k ws (MoreAnnots (Annotate from word is) xs) e (w, us, i, p, q) =
      let here : drop k vs ≡ w ∷ us = e ∙ i in
      let rest : drop (k + 1) vs ≡ us = (parts k w us here).1 in
      by (of_parameters (function_word word)) (w, there k w us here, p) (stand_from (k + 1) us xs rest q)
    where
      by : (b : Bool) → StandsAt N vs k (Annotate from word is) → AllStand (StandsAt N vs) (places_from (k + 1) xs) (annots_in (parameter_words xs)) →
          AllStand (StandsAt N vs) (if b then k ∷ places_from (k + 1) xs else places_from (k + 1) xs) (annots_in (if b then MoreAnnots (Annotate from word is) (parameter_words xs) else parameter_words xs))
      by true one all = (one, all)
      by false one all = all

  pub stand_listed : (places : List ℕ) (an : Annots) → StandAnnots N vs an → places ≡ places_from 0 an → AllStand (StandsAt N vs) places (annots_in (parameter_words an))
  stand_listed places an h e = subst (λ ks. AllStand (StandsAt N vs) ks (annots_in (parameter_words an))) (sym e) (stand_from 0 vs an refl h)

  -- one of the places is inside
  pub listed_inside : (places : List ℕ) (k d : ℕ) → AreAnnots N vs → ((an : Annots) → StandAnnots N vs an → places ≡ places_from 0 an) → k < length places → get_or places k d < length vs
  listed_inside places k d (an, h, f) e l = inside places (annots_in (parameter_words an)) k l (stand_listed places an h (e an h))
    where
      inside : (js : List ℕ) (xs : List Annotated) (j : ℕ) → j < length js → AllStand (StandsAt N vs) js xs → get_or js j d < length vs
      inside [] xs j l a = absurd (omega arith)
      inside (i ∷ is) [] j l a = absurd a
      inside (i ∷ is) (x ∷ xs) zero l a = slice_get_within vs i a.0.0 a.0.1
      inside (i ∷ is) (x ∷ xs) (suc j) l a = inside is xs j (omega arith) a.1

  -- what stands there
  pub stands_there : (k : ℕ) (d : Annot) (x : Annotated) → StandsAt N vs k x → StandsAnnot N (get_or vs k d) x
  stands_there k d x (v, e, s) = subst (λ (z : Annot). StandsAnnot N z x) (sym (get_or_from_slice_get vs k v d e)) s
