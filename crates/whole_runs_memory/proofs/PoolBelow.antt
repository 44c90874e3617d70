-- Blocks below the cut.
use Rattle.std.proofs.Common.{◌≡◌, ℕ, ◌+◌, ◌≤◌, true, false, cond, eqb, ◌||◌, List, [], ◌∷◌, Option, Some, None, inl, inr, refl, ap, sym, ◌∙◌, subst, arith}
use Rattle.std.proofs.lemmas.Bool.{cond-true, cond-false, ne_eqb}
use Rattle.marks.specs.Places.{system_pool, pool_size}
use Rattle.marks.specs.declared.range.Range.{Range}
use Rattle.marks.specs.Ranges.{Piece, range, covers, any_range}
use Rattle.marks.specs.Marks.{Step, Mark}
use Rattle.marks.specs.Bytes.{granted}
use Rattle.marks.specs.Opens.{frames_after}
use Rattle.marks.specs.Wants.{Want}
use Rattle.c_builtins.specs.declared.builtin.Builtin.{Builtin}
use Rattle.c_builtins.specs.declared.builtin.Builtin.TheVariants as builtins
use Rattle.c_code.specs.Machine.{first}
use Rattle.pool_list.specs.Blocks.{PoolState, LieBetween, length_at, with_block, without_block}
use Rattle.pool_list.specs.Places.{IsLeastPlace}
use Rattle.pool_list.specs.Places as pool
use Rattle.space_memory_bytes.specs.Areas.{byte_at}
use Rattle.space_memory.specs.StackFrames.{stack_of}
use Rattle.space_memory.specs.declared.sides.Sides.{Sides}
use Rattle.space_memory.specs.Sides.{SideState, with_blocks}
use Rattle.space_memory.specs.Spaces.{SpaceState}
use Rattle.space_memory_laws.specs.Shown.{by_address}
use Rattle.space_memory_laws.specs.StandsFor.{StandsFor}
use Rattle.space_memory_laws.proofs.Below as unseen
use Rattle.space_memory_laws.proofs.Blocks.{by_address_without, nothing_without, begins_from, meets_none, misses_all}
use Rattle.space_memory_laws.proofs.Cells.{cover_cases}
use Rattle.replay_runs.specs.Pool.{without, Fits}
use Rattle.whole_runs.specs.World.{World, begin}
use Rattle.whole_runs.specs.Sides.{seen}
use Rattle.whole_runs.specs.Outcomes.{builtin_of}
use Rattle.whole_runs.specs.Memory.{filled, left_by, real}
use Rattle.whole_runs.specs.Below.{builtin_blocks, act_blocks, system_blocks, block_at}
use Rattle.whole_runs.specs.Steps.{StepOf, zeros, IsStep, Agrees}
use Rattle.whole_runs_memory.specs.Stands.{stack_below, pool_below, Stands}
use Rattle.whole_runs_memory.specs.Below.{AllocsBelowAreWhole, RefusedAllocsBelowAreWhole, FreesBelowAreWhole, FreesOfNullBelowAreWhole}
use Rattle.whole_runs_memory.proofs.Seen.{held_same, seen_below, frames_still}
use Rattle.whole_runs_memory.proofs.Bytes.{zeros_are}
use Rattle.whole_runs_memory.proofs.BlocksAt.{as_range, blocks_at}

-- where the blocks of a run lie
pub laid_out : (w : World) (past : List Mark) (now : ℕ → Option ℕ) (memory : SpaceState) → Stands w past now memory → LieBetween system_pool (system_pool + pool_size) (by_address (system_blocks past))
laid_out w past now memory h = subst (λ (q : PoolState). LieBetween q.base (q.base + q.size) q.blocks) h.pool h.above.sound.below.blocks

-- a step of the pool that agrees
abbrev step_of : ℕ → List ℕ → ℕ → List Piece → List Range → StepOf
step_of func args result pieces freed = record { func = func; args = args; result = result; ins = []; pieces = pieces; freed = freed }

agreed : (w : World) (past : List Mark) (m : Mark) (want : Want) (b : Option Builtin) (func : ℕ) (args : List ℕ) (result : ℕ) (pieces : List Piece) (freed : List Range) →
    builtin_of func ≡ b → m.act ≡ Step func args result [] pieces freed → IsStep w past m.thread (step_of func args result pieces freed) b →
    Agrees w past m.thread m.side want m.act
agreed w past m want b func args result pieces freed e is step =
    subst (λ a. Agrees w past m.thread m.side want a) (sym is)
    (subst (IsStep w past m.thread (step_of func args result pieces freed)) (sym e) step)

-- the blocks after it
blocks_now : (m : Mark) (past : List Mark) (b : Option Builtin) (func : ℕ) (args : List ℕ) (result : ℕ) (pieces : List Piece) (freed : List Range) →
    builtin_of func ≡ b → m.act ≡ Step func args result [] pieces freed →
    system_blocks (m ∷ past) ≡ builtin_blocks b args result (system_blocks past)
blocks_now m past b func args result pieces freed e is = ap (λ a. act_blocks a (system_blocks past)) is ∙ ap (λ c. builtin_blocks c args result (system_blocks past)) e

-- ---- blocks that are given

fits : (bs : List Range) (size addr : ℕ) → 1 ≤ size → pool.IsPlace (pool_below bs) size addr → Fits system_pool bs size addr
fits bs size addr some p = record { some = some; aligned = p.aligned; low = p.from_base; high = p.in_pool; free = meets_none bs addr size p.free }

fits_back : (bs : List Range) (size addr : ℕ) → Fits system_pool bs size addr → pool.IsPlace (pool_below bs) size addr
fits_back bs size addr f = record { aligned = f.aligned; from_base = f.low; in_pool = f.high; free = misses_all bs addr size f.free }

with_pool : (old : SideState) (bs : List Range) (size addr : ℕ) → old.pool ≡ pool_below bs →
    (with_blocks old (with_block old.pool.blocks (record { addr = addr; len = size }))).pool ≡ pool_below (range addr size ∷ bs)
with_pool old bs size addr e = ap (λ (q : PoolState). let p : PoolState = record { base = q.base; size = q.size; blocks = with_block q.blocks (record { addr = addr; len = size }) } in p) e

without_pool : (old : SideState) (bs : List Range) (addr : ℕ) → old.pool ≡ pool_below bs →
    LieBetween system_pool (system_pool + pool_size) (by_address bs) →
    (with_blocks old (without_block old.pool.blocks addr)).pool ≡ pool_below (without addr bs)
without_pool old bs addr e laid =
    ap (λ (q : PoolState). let p : PoolState = record { base = q.base; size = q.size; blocks = without_block q.blocks addr } in p) e
    ∙ ap (λ l. let p : PoolState = record { base = system_pool; size = pool_size; blocks = l } in p) (sym (by_address_without system_pool (system_pool + pool_size) bs addr laid))

pub allocs : (w : World) → AllocsBelowAreWhole w
allocs w past old new m want func args addr h below malloc k is = record {
  agrees = agreed w past m want (Some builtins.Malloc) func args addr (zeros addr (granted addr (first args))) [] malloc is (record {
    place = inl (fits (system_blocks past) (first args) addr k.some place_is.is_place, λ x f. place_is.least x (fits_back (system_blocks past) (first args) x f));
    ins = refl;
    pieces = refl;
    freed = refl;
  });
  stands = record {
    above = subst (λ p. StandsFor (begin w) p new) (sym (seen_below w m past below)) (unseen.taken (begin w) (seen past) old new addr (first args) h.above k);
    constants = held_same old new k.held h.constants;
    bytes = λ x. zeroed x ∙ sym (zeros_are addr (first args) x (real w past x)) ∙ ap (λ n. filled (zeros addr n) x (real w past x)) (sym all) ∙ sym (ap (λ a. left_by w (m ∷ past) x a (real w past x)) is);
    stacks = λ t lt. ap (λ (q : SideState). stack_of q.stacks t) system ∙ h.stacks t lt ∙ ap (stack_below t) (sym (frames_still w m past (λ fs. ap (λ a. frames_after a fs) is) t));
    pool = ap (λ (q : SideState). q.pool) system ∙ with_pool old.sides.system (system_blocks past) (first args) addr h.pool ∙ ap pool_below (sym now);
  };
}
  where
    place_is : IsLeastPlace (pool_below (system_blocks past)) (first args) addr
    place_is = subst (λ q. IsLeastPlace q (first args) addr) h.pool k.least

    all : granted addr (first args) ≡ (first args)
    all = cond-false (eqb addr 0) 0 (first args) (ne_eqb addr 0 (λ z. absurd (omega (arith, z, place_is.is_place.from_base))))

    system : new.sides.system ≡ with_blocks old.sides.system (with_block old.sides.system.pool.blocks (record { addr = addr; len = (first args) }))
    system = ap (λ (q : Sides). q.system) k.sides

    now : system_blocks (m ∷ past) ≡ range addr (first args) ∷ (system_blocks past)
    now =
        blocks_now m past (Some builtins.Malloc) func args addr (zeros addr (granted addr (first args))) [] malloc is
        ∙ ap (λ n. cond (eqb n 0) (system_blocks past) (range addr (first args) ∷ (system_blocks past))) all
        ∙ cond-false (eqb (first args) 0) (system_blocks past) (range addr (first args) ∷ (system_blocks past)) (ne_eqb (first args) 0 (λ z. absurd (omega (arith, z, k.some))))

    zeroed : (x : ℕ) → byte_at new.bytes x ≡ cond (covers (range addr (first args)) x) (Some 0) (real w past x)
    zeroed x = elim (cover_cases (range addr (first args)) x) [
      | inl in' ↦ k.fills.filled x in'.is ∙ sym (cond-true (covers (range addr (first args)) x) _ _ in'.is)
      | inr out ↦ k.fills.others.bytes x out.is ∙ h.bytes x ∙ sym (cond-false (covers (range addr (first args)) x) _ _ out.is)
    ]

null_covers : (x : ℕ) → covers (range 0 0) x ≡ false
null_covers x = elim (cover_cases (range 0 0) x) [ inl in' ↦ absurd (omega (arith, in'.below)) | inr out ↦ out.is ]

pub refused_allocs : (w : World) → RefusedAllocsBelowAreWhole w
refused_allocs w past memory m want func args h below malloc none is = record {
  agrees = agreed w past m want (Some builtins.Malloc) func args 0 (zeros 0 (granted 0 (first args))) [] malloc is (record {
    place = inr (
      refl,
      λ x f. elim none [
        | inl z ↦ absurd (omega (arith, z, f.some))
        | inr nowhere ↦ nowhere x (subst (λ q. pool.IsPlace q (first args) x) (sym h.pool) (fits_back (system_blocks past) (first args) x f))
      ],
    );
    ins = refl;
    pieces = refl;
    freed = refl;
  });
  stands = record {
    above = subst (λ p. StandsFor (begin w) p memory) (sym (seen_below w m past below)) h.above;
    constants = h.constants;
    bytes = λ x. h.bytes x ∙ sym (cond-false (covers (range 0 0) x) _ (real w past x) (null_covers x)) ∙ sym (zeros_are 0 0 x (real w past x)) ∙ sym (ap (λ a. left_by w (m ∷ past) x a (real w past x)) is);
    stacks = λ t lt. h.stacks t lt ∙ ap (stack_below t) (sym (frames_still w m past (λ fs. ap (λ a. frames_after a fs) is) t));
    pool = h.pool ∙ ap pool_below (sym (blocks_now m past (Some builtins.Malloc) func args 0 (zeros 0 (granted 0 (first args))) [] malloc is));
  };
}

-- ---- blocks that are freed

-- the bytes of the block that begins at an address
block_bytes : (at : ℕ) (bs : List Range) (n x : ℕ) (v : Option ℕ) → bs ≡ range at n ∷ [] → cond (any_range bs x) None v ≡ cond (covers (range at n) x) None v
block_bytes at bs n x v e = ap (λ q. cond (any_range q x) None v) e ∙ elim (covers (range at n) x) as (λ b. cond (b || false) None v ≡ cond b None v) [ true ↦ refl | false ↦ refl ]

pub frees : (w : World) → FreesBelowAreWhole w
frees w past old new m want func args size h below free k is = record {
  agrees = agreed w past m want (Some builtins.Free) func args 0 [] (block_at (first args) past) free is (record { result = refl; ins = refl; pieces = refl; freed = refl });
  stands = record {
    above = subst (λ p. StandsFor (begin w) p new) (sym (seen_below w m past below)) (unseen.given (begin w) (seen past) old new (first args) size h.above k);
    constants = held_same old new k.held h.constants;
    bytes = λ x. gone x ∙ sym (block_bytes (first args) (block_at (first args) past) size x (real w past x) block) ∙ sym (ap (λ a. left_by w (m ∷ past) x a (real w past x)) is);
    stacks = λ t lt. ap (λ (q : SideState). stack_of q.stacks t) system ∙ h.stacks t lt ∙ ap (stack_below t) (sym (frames_still w m past (λ fs. ap (λ a. frames_after a fs) is) t));
    pool =
        ap (λ (q : SideState). q.pool) system
        ∙ without_pool old.sides.system (system_blocks past) (first args) h.pool laid
        ∙ ap pool_below (sym (blocks_now m past (Some builtins.Free) func args 0 [] (block_at (first args) past) free is));
  };
}
  where
    laid : LieBetween system_pool (system_pool + pool_size) (by_address (system_blocks past))
    laid = laid_out w past (real w past) old h

    block : (block_at (first args) past) ≡ range (first args) size ∷ []
    block =
        blocks_at system_pool (system_pool + pool_size) (system_blocks past) (first args) laid
        ∙ ap (as_range (first args)) (sym (ap (λ (q : PoolState). length_at q.blocks (first args)) h.pool) ∙ k.block)

    system : new.sides.system ≡ with_blocks old.sides.system (without_block old.sides.system.pool.blocks (first args))
    system = ap (λ (q : Sides). q.system) k.sides

    gone : (x : ℕ) → byte_at new.bytes x ≡ cond (covers (range (first args) size) x) None (real w past x)
    gone x = elim (cover_cases (range (first args) size) x) [
      | inl in' ↦ k.dead.filled x in'.is ∙ sym (cond-true (covers (range (first args) size) x) _ _ in'.is)
      | inr out ↦ k.dead.others.bytes x out.is ∙ h.bytes x ∙ sym (cond-false (covers (range (first args) size) x) _ _ out.is)
    ]

pub frees_of_null : (w : World) → FreesOfNullBelowAreWhole w
frees_of_null w past memory m want func args h below free null is = record {
  agrees = agreed w past m want (Some builtins.Free) func args 0 [] (block_at 0 past) free is (record { result = refl; ins = refl; pieces = refl; freed = ap (λ a. block_at a past) (sym null) });
  stands = record {
    above = subst (λ p. StandsFor (begin w) p memory) (sym (seen_below w m past below)) h.above;
    constants = h.constants;
    bytes = λ x. h.bytes x ∙ sym (ap (λ q. cond (any_range q x) None (real w past x)) none) ∙ sym (ap (λ a. left_by w (m ∷ past) x a (real w past x)) is);
    stacks = λ t lt. h.stacks t lt ∙ ap (stack_below t) (sym (frames_still w m past (λ fs. ap (λ a. frames_after a fs) is) t));
    pool =
        h.pool
        ∙ ap pool_below (sym (blocks_now m past (Some builtins.Free) func args 0 [] (block_at 0 past) free is ∙ ap
        (λ a. without a (system_blocks past)) null ∙ nothing_without system_pool (system_pool + pool_size) (system_blocks past) 0 laid
        (omega arith)));
  };
}
  where
    laid : LieBetween system_pool (system_pool + pool_size) (by_address (system_blocks past))
    laid = laid_out w past (real w past) memory h

    low : (o : Option ℕ) → length_at (by_address (system_blocks past)) 0 ≡ o → as_range 0 o ≡ []
    low None e = refl
    low (Some n) e = let p = begins_from system_pool (system_pool + pool_size) (by_address (system_blocks past)) 0 n laid e in absurd (omega (arith, p.0))

    none : (block_at 0 past) ≡ []
    none = blocks_at system_pool (system_pool + pool_size) (system_blocks past) 0 laid ∙ low (length_at (by_address (system_blocks past)) 0) refl
