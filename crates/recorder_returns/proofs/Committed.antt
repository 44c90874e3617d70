-- What a Ret commits, with the bytes that memory shows.
use Rattle.std.proofs.Common.{◌≡◌, ℕ, List, [], ◌∷◌, ◌++◌, length, Option, Some, None, refl, sym, ap, ◌∙◌, subst}
use Rattle.std.specs.Prelude.{option_map}
use Rattle.std.specs.Option.{option_to_list}
use Rattle.marks.specs.declared.range.Range.{Range}
use Rattle.marks.specs.Ranges.{Piece, piece_ranges}
use Rattle.marks.specs.Marks.{Commit, released}
use Rattle.replay_runs.specs.Interface.{Committing}
use Rattle.replay_runs.specs.Rules.{Commits, CommitsUsed, ReleaseRule}
use Rattle.space_memory_access.specs.declared.holder.Region.{Region}
use Rattle.space_memory_access.specs.Held.{prepared_region}
use Rattle.space_memory.specs.Releases.{AllFilled, committed, committed_size}
use Rattle.space_memory.specs.Spaces.{SpaceState}
use Rattle.space_memory_laws.specs.Returns.{ShowUsed}
use Rattle.recorder_returns.specs.Bringing.{CommitsUnder, HaveBytes, IsCommitOf, committing_of}
use Rattle.recorder_returns.proofs.Pieces.{last_used, ranges_of}

module _ (memory : SpaceState) (gs : List Region) (up : List Piece) (used : List ℕ) (commit : Commit) (ranges : ranges_of gs ≡ piece_ranges up) (count : length used ≡ length up) where
  abbrev regions : List Region
  regions = memory.held.regions

  under : (k : ℕ) (o : Option ℕ) → CommitsUnder regions k o commit → ShowUsed memory.bytes (up ++ released commit) (used ++ committed_size (option_map (λ u. (k, u)) o)) → AllFilled memory.bytes (gs ++ committed regions (option_map (λ u. (k, u)) o)) (used ++ committed_size (option_map (λ u. (k, u)) o))
      → HaveBytes (up ++ released commit) → CommitsUsed k o commit
  under k None h shows filled b = h
  under k (Some n) h shows filled b = by (prepared_region regions k) refl
    where
      by : (o : Option Region) → prepared_region regions k ≡ o → CommitsUsed k (Some n) commit
      by None e = absurd (none (ap (option_map (λ (r : Region). r.range)) (sym e) ∙ h.2))
        where
          none : ◌≡◌ {A = Option Range} None (Some h.0.range) → ⊥
          none z = absurd cc
      by (Some g) e =
          let there : ◌≡◌ {A = Option Range} (Some g.range) (Some h.0.range) = ap (option_map (λ (r : Region). r.range)) (sym e) ∙ h.2 in
          let is : g.range ≡ h.0.range = cc in
          subst (CommitsUsed k (Some n)) (sym h.1) (
            refl,
            last_used memory.bytes gs g up h.0 used n ranges count is
                (subst (λ c. ShowUsed memory.bytes (up ++ released c) (used ++ (n ∷ []))) h.1 shows)
                (subst (λ o. AllFilled memory.bytes (gs ++ option_to_list o) (used ++ (n ∷ []))) e filled)
                (subst (λ c. HaveBytes (up ++ released c)) h.1 b),
          )

  pub commits_so : (o : Option Committing) → IsCommitOf regions o commit → ShowUsed memory.bytes (up ++ released commit) (used ++ committed_size (committing_of o)) → AllFilled memory.bytes (gs ++ committed regions (committing_of o)) (used ++ committed_size (committing_of o))
      → HaveBytes (up ++ released commit) → Commits o commit
  commits_so None h shows filled b = h
  commits_so (Some c) h shows filled b = under c.key c.used h shows filled b

-- the region that is released is the one in use
module _ (regions : List Region) (commit : Commit) (x : ℕ) (region : Option Range) (there : option_map (λ (r : Region). r.range) (prepared_region regions x) ≡ region) where
  releases_under : (k : ℕ) (o : Option ℕ) → CommitsUnder regions k o commit → ReleaseRule x region commit
  releases_under k None h = subst (ReleaseRule x region) (sym h) tt
  releases_under k (Some n) h = subst (ReleaseRule x region) (sym h.1) (λ e. sym there ∙ (ap (λ y. option_map (λ (r : Region). r.range) (prepared_region regions y)) (sym e) ∙ h.2))

  pub releases : (o : Option Committing) → IsCommitOf regions o commit → ReleaseRule x region commit
  releases None h = subst (ReleaseRule x region) (sym h) tt
  releases (Some c) h = releases_under c.key c.used h
