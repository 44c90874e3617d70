-- The numbers of cells where a page isn't there, and what stays where one is made or split.
use Rattle.std.proofs.Common.{◌≡◌, ◌≢◌, ℕ, zero, suc, ◌+◌, ◌*◌, ◌/◌, ◌%◌, ◌<◌, ◌≤◌, Bool, true, false, cond, eqb, List, [], ◌∷◌, ◌++◌, Option, Some, None, length, get_or, refl, sym, ap, ◌∙◌, subst, arith, eq-eqb, eqb-true, length-append}
use Rattle.std.proofs.Math.ListN.{set, get_or-append}
use Rattle.std.proofs.Math.Seq.{get_or-append_seam}
use Rattle.std.proofs.lemmas.Bool.{eqb-false}
use Rattle.std.proofs.lemmas.List.{get_or-set_same, get_or-set_other, length-set}
use Rattle.std.specs.Prelude.{slice_index}
use Rattle.race_watch_pages.specs.declared.pages.WordPage.{WordPage}
use Rattle.race_watch_pages.specs.declared.pages.CellPage.{CellPage}
use Rattle.race_watch_pages.specs.declared.pages.Pages.{Pages}
use Rattle.race_watch_pages.specs.Kept.{kept, size, blank_words, blank_cells, page_of, value_of, value_by, value_of_cells, StandsBy, StandsInWords, StandsInCells, IsThere, IsSplit}

-- a page that isn't there has zeros

no_number : (b : Bool) → let number : ℕ = cond b 0 0 in number ≡ 0
no_number true = refl
no_number false = refl

unless : (n q k : ℕ) → (n ≡ q → k ≡ 0) → cond (eqb n q) k 0 ≡ 0
unless n q k z = go (eqb n q) refl
  where
    go : (b : Bool) → eqb n q ≡ b → cond b k 0 ≡ 0
    go true t = z (eqb-true n q t)
    go false f = refl

words_zero : (cells : List CellPage) (ps : List WordPage) (at c : ℕ) → (at < length ps → (get_or ps at blank_words).number ≡ c / 256 → value_by cells (get_or ps at blank_words).split (get_or ps at blank_words).values c ≡ 0) → value_of cells (get_or ps at blank_words) c ≡ 0
words_zero cells [] at c z = no_number (eqb 0 (c / 256))
words_zero cells (p ∷ ps) zero c z = unless p.number (c / 256) (value_by cells p.split p.values c) (z (omega arith))
words_zero cells (p ∷ ps) (suc k) c z = words_zero cells ps k c (λ lt. z (omega (arith, lt)))

cells_zero : (ps : List CellPage) (at c : ℕ) → (at < length ps → (get_or ps at blank_cells).number ≡ c / 256 → ⊥) → value_of_cells (get_or ps at blank_cells) c ≡ 0
cells_zero [] at c away = no_number (eqb 0 (c / 256))
cells_zero (p ∷ ps) zero c away = unless p.number (c / 256) (slice_index p.values (c % 256)) (λ e. absurd (away (omega arith) e))
cells_zero (p ∷ ps) (suc k) c away = cells_zero ps k c (λ lt. away (omega (arith, lt)))

pub absent_zero : (m : Pages) (c : ℕ) → (IsThere m (c / 256) → ⊥) → kept m c ≡ 0
absent_zero m c away = words_zero m.cells.items m.words.items (slice_index m.index.items (c / 256)) c (λ lt is. go lt is (page_of m (c / 256)).split refl)
  where
    go : slice_index m.index.items (c / 256) < length m.words.items → (page_of m (c / 256)).number ≡ c / 256 → (o : Option ℕ) → (page_of m (c / 256)).split ≡ o → value_by m.cells.items o (page_of m (c / 256)).values c ≡ 0
    go lt is None e = absurd (away (subst (StandsBy m (c / 256)) (sym e) (record { is = refl; within = lt; number = is; whole = e })))
    go lt is (Some k) e = cells_zero m.cells.items k c (λ low own. away (subst (StandsBy m (c / 256)) (sym e) (record { listed = lt; number = is; split = e; within = low; cells = own })))

pub absent_zeros : (m : Pages) (p c : ℕ) → (IsThere m p → ⊥) → c / 256 ≡ p → kept m c ≡ 0
absent_zeros m p c away e = absent_zero m c (λ h. away (subst (IsThere m) e h))

pub absent_low : (m : Pages) (from to bound c : ℕ) → to ≤ from / 256 * 256 + 256 → (IsThere m (from / 256) → ⊥) → from ≤ c → c < to → kept m c ≤ bound
absent_low m from to bound c few away a b =
    let z : kept m c ≡ 0 = absent_zeros m (from / 256) c away (omega (arith, few, a, b)) in
    subst (λ n. n ≤ bound) (sym z) (omega arith)

-- a page that is there is listed
pub there_listed : (m : Pages) (p : ℕ) → IsThere m p → (slice_index m.index.items p < length m.words.items) × ((page_of m p).number ≡ p)
there_listed m p h = go (page_of m p).split refl
  where
    go : (o : Option ℕ) → (page_of m p).split ≡ o → (slice_index m.index.items p < length m.words.items) × ((page_of m p).number ≡ p)
    go None e = let w : StandsInWords m p (slice_index m.index.items p) = subst (StandsBy m p) e h in (w.within, w.number)
    go (Some k) e = let w : StandsInCells m p k = subst (StandsBy m p) e h in (w.listed, w.number)

-- a page stands as it did
record StandsAlike (m n : Pages) (q : ℕ) : Type 0 where
  place : slice_index n.index.items q ≡ slice_index m.index.items q
  long : length m.words.items ≤ length n.words.items
  page : page_of n q ≡ page_of m q
  cells : (k : ℕ) → k < length m.cells.items → (k < length n.cells.items) × (get_or n.cells.items k blank_cells ≡ get_or m.cells.items k blank_cells)

alike_split : (m n : Pages) (q k : ℕ) → StandsAlike m n q → StandsInCells m q k → StandsInCells n q k
alike_split m n q k a h =
    record {
      listed = omega (arith, a.place, a.long, h.listed);
      number = ap (λ (p : WordPage). p.number) a.page ∙ h.number;
      split = ap (λ (p : WordPage). p.split) a.page ∙ h.split;
      within = (a.cells k h.within).0;
      cells = ap (λ (p : CellPage). p.number) (a.cells k h.within).1 ∙ h.cells;
    }

alike_there : (m n : Pages) (q : ℕ) → StandsAlike m n q → IsThere m q → IsThere n q
alike_there m n q a h = go (page_of m q).split refl
  where
    go : (o : Option ℕ) → (page_of m q).split ≡ o → IsThere n q
    go None e =
        let w : StandsInWords m q (slice_index m.index.items q) = subst (StandsBy m q) e h in
        let s : (page_of n q).split ≡ None = ap (λ (p : WordPage). p.split) a.page ∙ e in
        subst (StandsBy n q) (sym s) (record {
          is = refl;
          within = omega (arith, a.place, a.long, w.within);
          number = ap (λ (p : WordPage). p.number) a.page ∙ w.number;
          whole = s;
        })
    go (Some k) e =
        let w : StandsInCells m q k = subst (StandsBy m q) e h in
        subst (StandsBy n q) (sym (ap (λ (p : WordPage). p.split) a.page ∙ e)) (alike_split m n q k a w)

pub split_there : (m : Pages) (q : ℕ) → IsSplit m q → IsThere m q
split_there m q h = subst (StandsBy m q) (sym h.1.split) h.1

-- one page more

end_same : {A : Type 0} (f : A → ℕ) (d x : A) (xs : List A) (k : ℕ) → f x ≡ f d → f (get_or (xs ++ x ∷ []) k d) ≡ f (get_or xs k d)
end_same f d x [] zero z = z
end_same f d x [] (suc k) z = refl
end_same f d x (y ∷ ys) zero z = refl
end_same f d x (y ∷ ys) (suc k) z = end_same f d x ys k z

-- a page of zeros is made where none is
pub record IsMade (m n : Pages) (page : WordPage) (p at : ℕ) : Type 0 where
  pub listed : p < length m.index.items
  pub index : n.index.items ≡ set m.index.items p at
  pub end : at ≡ length m.words.items
  pub words : n.words.items ≡ m.words.items ++ page ∷ []
  pub cells : n.cells.items ≡ m.cells.items
  pub number : page.number ≡ p
  pub whole : page.split ≡ None
  pub away : IsThere m p → ⊥

pub made_same : (m n : Pages) (page : WordPage) (p at c : ℕ) → IsMade m n page p at → slice_index page.values (c % 256 / 4) ≡ 0 → kept n c ≡ kept m c
made_same m n page p at c h z = ap (λ l. value_of l (page_of n (c / 256)) c) h.cells ∙ go (eqb (c / 256) p) refl
  where
    zero_is : value_of m.cells.items page c ≡ 0
    zero_is = ap (λ o. cond (eqb page.number (c / 256)) (value_by m.cells.items o page.values c) 0) h.whole ∙ (ap (λ k. cond (eqb page.number (c / 256)) k 0) z ∙ no_number (eqb page.number (c / 256)))

    go : (b : Bool) → eqb (c / 256) p ≡ b → value_of m.cells.items (page_of n (c / 256)) c ≡ kept m c
    go true t =
        let e : c / 256 ≡ p = eqb-true (c / 256) p t in
        let place : slice_index n.index.items (c / 256) ≡ at = ap (slice_index n.index.items) e ∙ (ap (λ l. slice_index l p) h.index ∙ get_or-set_same m.index.items p at 0 h.listed) in
        let last : page_of n (c / 256) ≡ page = ap (λ k. get_or n.words.items k blank_words) (place ∙ h.end) ∙ (ap (λ l. get_or l (length m.words.items) blank_words) h.words ∙ get_or-append_seam m.words.items page [] blank_words) in
        ap (λ q. value_of m.cells.items q c) last ∙ (zero_is ∙ sym (absent_zeros m p c h.away e))
    go false f =
        let ne : c / 256 ≢ p = eqb-false (c / 256) p f in
        let place : slice_index n.index.items (c / 256) ≡ slice_index m.index.items (c / 256) = ap (λ l. slice_index l (c / 256)) h.index ∙ get_or-set_other m.index.items p (c / 256) at 0 ne in
        ap (λ k. value_of m.cells.items (get_or n.words.items k blank_words) c) place
        ∙ (ap (λ l. value_of m.cells.items (get_or l (slice_index m.index.items (c / 256)) blank_words) c) h.words
        ∙ end_same (λ q. value_of m.cells.items q c) blank_words page m.words.items (slice_index m.index.items (c / 256)) (zero_is ∙ sym (no_number (eqb 0 (c / 256)))))

made_alike : (m n : Pages) (page : WordPage) (p at q : ℕ) → IsMade m n page p at → IsThere m q → StandsAlike m n q
made_alike m n page p at q h there =
    let low = there_listed m q there in
    let ne : q ≢ p = λ e. h.away (subst (IsThere m) e there) in
    let place : slice_index n.index.items q ≡ slice_index m.index.items q = ap (λ l. slice_index l q) h.index ∙ get_or-set_other m.index.items p q at 0 ne in
    record {
      place = place;
      long = omega (arith, ap length h.words, length-append m.words.items (page ∷ []));
      page = ap (λ k. get_or n.words.items k blank_words) place ∙ (ap (λ l. get_or l (slice_index m.index.items q) blank_words) h.words ∙ get_or-append m.words.items (page ∷ []) blank_words (slice_index m.index.items q) low.0);
      cells = λ k lt. (omega (arith, ap length h.cells, lt), ap (λ l. get_or l k blank_cells) h.cells);
    }

pub made_there : (m n : Pages) (page : WordPage) (p at q : ℕ) → IsMade m n page p at → IsThere m q → IsThere n q
made_there m n page p at q h there = alike_there m n q (made_alike m n page p at q h there) there

pub made_split : (m n : Pages) (page : WordPage) (p at q : ℕ) → IsMade m n page p at → IsSplit m q → IsSplit n q
made_split m n page p at q h s = (s.0, alike_split m n q s.0 (made_alike m n page p at q h (split_there m q s)) s.1)

-- each cell of a page gets its own number
pub record IsCut (m n : Pages) (word : WordPage) (page : CellPage) (p at to : ℕ) : Type 0 where
  pub stands : StandsInWords m p at
  pub index : n.index.items ≡ m.index.items
  pub words : n.words.items ≡ set m.words.items at word
  pub end : to ≡ length m.cells.items
  pub cells : n.cells.items ≡ m.cells.items ++ page ∷ []
  pub own : word.number ≡ p
  pub split : word.split ≡ Some to
  pub number : page.number ≡ p

cut_long : (m n : Pages) (word : WordPage) (page : CellPage) (p at to : ℕ) → IsCut m n word page p at to → length n.cells.items ≡ length m.cells.items + 1
cut_long m n word page p at to h = ap length h.cells ∙ length-append m.cells.items (page ∷ [])

cut_last : (m n : Pages) (word : WordPage) (page : CellPage) (p at to : ℕ) → IsCut m n word page p at to → get_or n.cells.items to blank_cells ≡ page
cut_last m n word page p at to h = ap (λ k. get_or n.cells.items k blank_cells) h.end ∙ (ap (λ l. get_or l (length m.cells.items) blank_cells) h.cells ∙ get_or-append_seam m.cells.items page [] blank_cells)

cut_page : (m n : Pages) (word : WordPage) (page : CellPage) (p at to q : ℕ) → IsCut m n word page p at to → q ≡ p → (slice_index n.index.items q ≡ at) × (page_of n q ≡ word)
cut_page m n word page p at to q h e =
    let place : slice_index n.index.items q ≡ at = ap (slice_index n.index.items) e ∙ (ap (λ l. slice_index l p) h.index ∙ h.stands.is) in
    (place, ap (λ k. get_or n.words.items k blank_words) place ∙ (ap (λ l. get_or l at blank_words) h.words ∙ get_or-set_same m.words.items at word blank_words h.stands.within))

-- the page is split now
pub cut_there : (m n : Pages) (word : WordPage) (page : CellPage) (p at to q : ℕ) → IsCut m n word page p at to → q ≡ p → StandsInCells n q to
cut_there m n word page p at to q h e =
    let own = cut_page m n word page p at to q h e in
    record {
      listed = omega (arith, own.0, ap length h.words, length-set m.words.items at word, h.stands.within);
      number = ap (λ (x : WordPage). x.number) own.1 ∙ (h.own ∙ sym e);
      split = ap (λ (x : WordPage). x.split) own.1 ∙ h.split;
      within = omega (arith, cut_long m n word page p at to h, h.end);
      cells = ap (λ (x : CellPage). x.number) (cut_last m n word page p at to h) ∙ (h.number ∙ sym e);
    }

-- no other page stands where it does
cut_alike : (m n : Pages) (word : WordPage) (page : CellPage) (p at to q : ℕ) → IsCut m n word page p at to → q ≢ p → IsThere m q → StandsAlike m n q
cut_alike m n word page p at to q h ne there =
    let low = there_listed m q there in
    let place : slice_index n.index.items q ≡ slice_index m.index.items q = ap (λ l. slice_index l q) h.index in
    let apart : slice_index m.index.items q ≢ at = λ e. ne (sym low.1 ∙ (ap (λ k. (get_or m.words.items k blank_words).number) e ∙ h.stands.number)) in
    record {
      place = place;
      long = omega (arith, ap length h.words, length-set m.words.items at word);
      page = ap (λ k. get_or n.words.items k blank_words) place ∙ (ap (λ l. get_or l (slice_index m.index.items q) blank_words) h.words ∙ get_or-set_other m.words.items at (slice_index m.index.items q) word blank_words apart);
      cells = λ k lt. (omega (arith, cut_long m n word page p at to h, lt), ap (λ l. get_or l k blank_cells) h.cells ∙ get_or-append m.cells.items (page ∷ []) blank_cells k lt);
    }

pub cut_stays : (m n : Pages) (word : WordPage) (page : CellPage) (p at to q : ℕ) → IsCut m n word page p at to → IsThere m q → IsThere n q
cut_stays m n word page p at to q h there = go (eqb q p) refl
  where
    go : (b : Bool) → eqb q p ≡ b → IsThere n q
    go true t = split_there n q (to, cut_there m n word page p at to q h (eqb-true q p t))
    go false f = alike_there m n q (cut_alike m n word page p at to q h (eqb-false q p f) there) there

pub cut_split : (m n : Pages) (word : WordPage) (page : CellPage) (p at to q : ℕ) → IsCut m n word page p at to → IsSplit m q → IsSplit n q
cut_split m n word page p at to q h s = go (eqb q p) refl
  where
    go : (b : Bool) → eqb q p ≡ b → IsSplit n q
    go true t = (to, cut_there m n word page p at to q h (eqb-true q p t))
    go false f = (s.0, alike_split m n q s.0 (cut_alike m n word page p at to q h (eqb-false q p f) (split_there m q s)) s.1)

pub cut_same : (m n : Pages) (word : WordPage) (page : CellPage) (p at to c : ℕ) → IsCut m n word page p at to → (c / 256 ≡ p → slice_index page.values (c % 256) ≡ kept m c) → kept n c ≡ kept m c
cut_same m n word page p at to c h is = go (eqb (c / 256) p) refl
  where
    by_cells : c / 256 ≢ p → (o : Option ℕ) (values : List ℕ) → value_by n.cells.items o values c ≡ value_by m.cells.items o values c
    by_cells ne None values = refl
    by_cells ne (Some j) values = ap (λ l. value_of_cells (get_or l j blank_cells) c) h.cells ∙ end_same (λ q. value_of_cells q c) blank_cells page m.cells.items j (unless page.number (c / 256) (slice_index page.values (c % 256)) (λ e. absurd (ne (sym e ∙ h.number))) ∙ sym (no_number (eqb 0 (c / 256))))

    other : c / 256 ≢ p → (k : ℕ) → value_of n.cells.items (get_or (set m.words.items at word) k blank_words) c ≡ value_of m.cells.items (get_or m.words.items k blank_words) c
    other ne k = at_place (eqb k at) refl
      where
        at_place : (b : Bool) → eqb k at ≡ b → value_of n.cells.items (get_or (set m.words.items at word) k blank_words) c ≡ value_of m.cells.items (get_or m.words.items k blank_words) c
        at_place true t =
            let e : k ≡ at = eqb-true k at t in
            ap (λ j. value_of n.cells.items (get_or (set m.words.items at word) j blank_words) c) e
            ∙ (ap (λ q. value_of n.cells.items q c) (get_or-set_same m.words.items at word blank_words h.stands.within)
            ∙ (unless word.number (c / 256) (value_by n.cells.items word.split word.values c) (λ e. absurd (ne (sym e ∙ h.own)))
            ∙ (sym (unless (get_or m.words.items at blank_words).number (c / 256) (value_by m.cells.items (get_or m.words.items at blank_words).split (get_or m.words.items at blank_words).values c) (λ e. absurd (ne (sym e ∙ h.stands.number))))
            ∙ ap (λ j. value_of m.cells.items (get_or m.words.items j blank_words) c) (sym e))))
        at_place false f =
            ap (λ q. value_of n.cells.items q c) (get_or-set_other m.words.items at k word blank_words (eqb-false k at f))
            ∙ ap (λ v. cond (eqb (get_or m.words.items k blank_words).number (c / 256)) v 0) (by_cells ne (get_or m.words.items k blank_words).split (get_or m.words.items k blank_words).values)

    go : (b : Bool) → eqb (c / 256) p ≡ b → kept n c ≡ kept m c
    go true t =
        let e : c / 256 ≡ p = eqb-true (c / 256) p t in
        let own = cut_page m n word page p at to (c / 256) h e in
        ap (λ q. value_of n.cells.items q c) own.1
        ∙ (ap (λ b. cond b (value_by n.cells.items word.split word.values c) 0) (eq-eqb word.number (c / 256) (h.own ∙ sym e))
        ∙ (ap (λ o. value_by n.cells.items o word.values c) h.split
        ∙ (ap (λ q. value_of_cells q c) (cut_last m n word page p at to h)
        ∙ (ap (λ b. cond b (slice_index page.values (c % 256)) 0) (eq-eqb page.number (c / 256) (h.number ∙ sym e)) ∙ is e))))
    go false f =
        let ne : c / 256 ≢ p = eqb-false (c / 256) p f in
        let k : ℕ = slice_index m.index.items (c / 256) in
        ap (λ j. value_of n.cells.items (get_or n.words.items j blank_words) c) (ap (λ l. slice_index l (c / 256)) h.index)
        ∙ (ap (λ l. value_of n.cells.items (get_or l k blank_words) c) h.words ∙ other ne k)
