-- The live blocks of a run that begin at an address are the one of the pool, if it has one there.
use Rattle.std.proofs.Common.{◌≡◌, ℕ, eqb, List, [], ◌∷◌, Option, Some, None, inl, inr, refl, ap, sym, ◌∙◌}
use Rattle.std.specs.Prelude.{filter}
use Rattle.std.proofs.lemmas.Bool.{cases_eq, cond-true, cond-false, eq-eqb, ne_eqb}
use Rattle.marks.specs.declared.range.Range.{Range}
use Rattle.marks.specs.Ranges.{range}
use Rattle.pool_list.specs.declared.block.Block.{Block}
use Rattle.pool_list.specs.Blocks.{LieBetween, length_at, with_block}
use Rattle.space_memory_laws.specs.Shown.{by_address}
use Rattle.space_memory_laws.proofs.Blocks.{block_of, lie_less, without_new, length_with, length_without}

abbrev pub as_range : ℕ → Option ℕ → List Range
as_range at None = []
as_range at (Some n) = range at n ∷ []

-- of the blocks with one more none but that begins there
none_else : (from to : ℕ) (bs : List Block) (new : Block) → LieBetween from to (with_block bs new) → length_at bs new.addr ≡ None
none_else from to bs new laid =
    sym (ap (λ l. length_at l new.addr) (without_new from to bs new new.addr laid refl))
    ∙ length_without (with_block bs new) new.addr new.addr
    ∙ cond-true (eqb new.addr new.addr) None _ (eq-eqb new.addr new.addr refl)

pub blocks_at : (from to : ℕ) (bs : List Range) (at : ℕ) → LieBetween from to (by_address bs) → filter (λ (b : Range). eqb b.addr at) bs ≡ as_range at (length_at (by_address bs) at)
blocks_at from to [] at laid = refl
blocks_at from to (b ∷ rest) at laid =
    let none = none_else from to (by_address rest) (block_of b) laid in
    let again = blocks_at from to rest at (lie_less from to (by_address rest) (block_of b) laid) in
    elim (cases_eq b.addr at) [
      | inl e ↦
          cond-true (eqb b.addr at) (b ∷ filter (λ (b : Range). eqb b.addr at) rest) _ (eq-eqb b.addr at e)
          ∙ ap (λ q. b ∷ q) (again ∙ ap (as_range at) (ap (length_at (by_address rest)) (sym e) ∙ none))
          ∙ ap (λ a. range a b.len ∷ []) e
          ∙ sym (ap (as_range at) (length_with (by_address rest) (block_of b) at none ∙ cond-true (eqb b.addr at) (Some b.len) _ (eq-eqb b.addr at e)))
      | inr ne ↦
          cond-false (eqb b.addr at) (b ∷ filter (λ (b : Range). eqb b.addr at) rest) _ (ne_eqb b.addr at ne)
          ∙ again
          ∙ sym (ap (as_range at) (length_with (by_address rest) (block_of b) at none ∙ cond-false (eqb b.addr at) (Some b.len) _ (ne_eqb b.addr at ne)))
    ]

-- none begins there exactly where the pool has none
pub none_at : (at : ℕ) (o : Option ℕ) → as_range at o ≡ [] → o ≡ None
none_at at None e = refl
none_at at (Some n) e = absurd cc
