-- Pieces that memory shows, of regions that it gives back, are those that a Ret may carry.
use Rattle.std.proofs.Common.{◌≡◌, ℕ, ◌≤◌, List, [], ◌∷◌, ◌++◌, map, length, sym, ◌∙◌, subst, arith}
use Rattle.marks.specs.declared.range.Range.{Range}
use Rattle.marks.specs.Ranges.{Piece, piece_ranges}
use Rattle.space_memory_bytes.specs.Areas.{AreaState}
use Rattle.space_memory_access.specs.declared.holder.Region.{Region}
use Rattle.space_memory.specs.Releases.{AllFilled}
use Rattle.space_memory_laws.specs.Returns.{AreUsedSizes, ShowUsed, used_at}
use Rattle.replay_runs.specs.Rules.{AreUsed, IsUsed}
use Rattle.recorder_returns.specs.Bringing.{HaveBytes}

abbrev pub ranges_of : List Region → List Range
ranges_of gs = map (λ (g : Region). g.range) gs

module _ (bytes : List AreaState) where
  pub are_used : (gs hs : List Region) (ps more : List Piece) (us ms : List ℕ) → ranges_of gs ≡ piece_ranges ps → ShowUsed bytes (ps ++ more) (us ++ ms) → AllFilled bytes (gs ++ hs) (us ++ ms) → AreUsedSizes (piece_ranges ps) us us → HaveBytes (ps ++ more) → AreUsed us ps
  are_used [] hs [] more [] ms e shows filled sizes b = tt
  are_used [] hs [] more (u ∷ us) ms e shows filled sizes b = absurd sizes
  are_used [] hs (p ∷ ps) more us ms e shows filled sizes b = absurd (none e)
    where
      none : ◌≡◌ {A = List Range} [] (piece_ranges (p ∷ ps)) → ⊥
      none z = absurd cc
  are_used (g ∷ gs) hs [] more us ms e shows filled sizes b = absurd (none e)
    where
      none : ◌≡◌ {A = List Range} (ranges_of (g ∷ gs)) [] → ⊥
      none z = absurd cc
  are_used (g ∷ gs) hs (p ∷ ps) more [] ms e shows filled sizes b = absurd sizes
  are_used (g ∷ gs) hs (p ∷ ps) more (u ∷ us) ms e shows filled sizes b =
      let first : g.range ≡ p.range = cc in
      let rest : ranges_of gs ≡ piece_ranges ps = cc in
      let fits : used_at p.range u ≤ p.range.len = subst (λ (r : Range). used_at r u ≤ r.len) first filled.0.fits in
      let n : u ≡ used_at p.range u = sizes.0 in
      let l : length p.bytes ≡ u = shows.0 ∙ sym n in
      ((l, omega (arith, n, fits), b.0), are_used gs hs ps more us ms rest shows.2 filled.1 sizes.1 b.1)

  -- the last one is that of the region that is committed
  pub last_used : (gs : List Region) (h : Region) (ps : List Piece) (p : Piece) (us : List ℕ) (n : ℕ) → ranges_of gs ≡ piece_ranges ps → length us ≡ length ps → h.range ≡ p.range → ShowUsed bytes (ps ++ (p ∷ [])) (us ++ (n ∷ [])) → AllFilled bytes (gs ++ (h ∷ [])) (us ++ (n ∷ [])) → HaveBytes (ps ++ (p ∷ [])) → IsUsed (used_at p.range n) p
  last_used [] h [] p [] n e c is shows filled b = (shows.0, subst (λ (r : Range). used_at r n ≤ r.len) is filled.0.fits, b.0)
  last_used [] h [] p (u ∷ us) n e c is shows filled b = absurd cc
  last_used [] h (q ∷ ps) p us n e c is shows filled b = absurd (none e)
    where
      none : ◌≡◌ {A = List Range} [] (piece_ranges (q ∷ ps)) → ⊥
      none z = absurd cc
  last_used (g ∷ gs) h [] p us n e c is shows filled b = absurd (none e)
    where
      none : ◌≡◌ {A = List Range} (ranges_of (g ∷ gs)) [] → ⊥
      none z = absurd cc
  last_used (g ∷ gs) h (q ∷ ps) p [] n e c is shows filled b = absurd cc
  last_used (g ∷ gs) h (q ∷ ps) p (u ∷ us) n e c is shows filled b =
      let rest : ranges_of gs ≡ piece_ranges ps = cc in
      last_used gs h ps p us n rest (omega (arith, c)) is shows.2 filled.1 b.1
