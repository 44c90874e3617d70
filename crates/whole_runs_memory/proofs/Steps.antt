-- The pieces of one step.
use Rattle.std.proofs.Common.{◌≡◌, ◌+◌, ◌^◌, ◌<◌, List, [], ◌∷◌, ◌++◌, length, inl, inr, refl, ap, sym, ◌∙◌, subst, arith}
use Rattle.marks.specs.Ranges.{Piece, range}
use Rattle.marks.specs.Opens.{frames_after}
use Rattle.space_memory.specs.StackFrames.{stack_of}
use Rattle.space_memory.specs.Spaces.{SpaceState}
use Rattle.space_memory_laws.specs.StandsFor.{StandsFor}
use Rattle.space_memory_laws.proofs.Below as unseen
use Rattle.space_memory_laws.proofs.Cells.{cover_cases, live_ends}
use Rattle.whole_runs.specs.World.{World, begin}
use Rattle.whole_runs.specs.Sides.{seen}
use Rattle.whole_runs.specs.Outcomes.{builtin_of}
use Rattle.whole_runs.specs.Memory.{filled, left_by, real}
use Rattle.whole_runs.specs.Below.{act_blocks, system_blocks, piece_for, pieces_for}
use Rattle.whole_runs_memory.specs.Stands.{stack_below, pool_below}
use Rattle.whole_runs_memory.specs.Steps.{StepsBeginWithNoPiece, WritesArePieces, PiecesGrow, StepsAreWhole}
use Rattle.whole_runs_memory.proofs.Seen.{held_same, seen_below, frames_still}
use Rattle.whole_runs_memory.proofs.Bytes.{written_is, filled_more, fits_filled}
use Rattle.whole_runs_memory.proofs.Plain.{leaves_pool}

pub steps_begin : (w : World) → StepsBeginWithNoPiece w
steps_begin w past memory h = record { stands = h; dead = λ x e. h.bytes x ∙ e }

pub writes : (w : World) → WritesArePieces w
writes w past old new thread pieces r bytes h small fits k = record {
  stands = record {
    above = unseen.written (begin w) (seen past) old new thread r.addr bytes h.stands.above small k;
    constants = held_same old new (ap (λ (q : SpaceState). q.held) k.rest) h.stands.constants;
    bytes = λ x.
        written_is old.bytes new.bytes r.addr bytes x (filled pieces x (real w past x)) k.bytes_are k.others (h.stands.bytes x)
        ∙ sym (fits_filled r bytes x (filled pieces x (real w past x)) fits)
        ∙ sym (filled_more pieces (record { range = r; bytes = bytes }) x (real w past x));
    stacks = λ t lt. ap (λ (q : SpaceState). stack_of q.sides.system.stacks t) k.rest ∙ h.stands.stacks t lt;
    pool = ap (λ (q : SpaceState). q.sides.system.pool) k.rest ∙ h.stands.pool;
  };
  dead = λ x e. elim (cover_cases (range r.addr (length bytes)) x) [
    | inl in' ↦ absurd (k.allowed.live x (in'.from, in'.below, omega (arith, in'.below, ends)) (h.dead x e))
    | inr out ↦ k.others.bytes x out.is ∙ h.dead x e
  ];
}
  where
    ends : r.addr + length bytes < 2 ^ 64
    ends = live_ends old.bytes (range r.addr (length bytes)) h.stands.above.sound.ends small k.allowed.live

append_assoc' : (xs ys zs : List Piece) → (xs ++ ys) ++ zs ≡ xs ++ (ys ++ zs)
append_assoc' [] ys zs = refl
append_assoc' (x ∷ xs) ys zs = ap (λ q. x ∷ q) (append_assoc' xs ys zs)

append_none : (xs : List Piece) → xs ++ [] ≡ xs
append_none [] = refl
append_none (x ∷ xs) = ap (λ q. x ∷ q) (append_none xs)

pub grow : PiecesGrow
grow [] [] x b e = append_none (piece_for x b)
grow [] (c ∷ bs) x b e = absurd (omega (arith, e))
grow (y ∷ xs) [] x b e = absurd (omega (arith, e))
grow (y ∷ xs) (c ∷ bs) x b e =
    ap (λ q. piece_for y c ++ q) (grow xs bs x b (omega (arith, e)))
    ∙ sym (append_assoc' (piece_for y c) (pieces_for xs bs) (piece_for x b))

pub steps : (w : World) → StepsAreWhole w
steps w past memory m func args result ins pieces h below q is = record {
  above = subst (λ p. StandsFor (begin w) p memory) (sym (seen_below w m past below)) h.stands.above;
  constants = h.stands.constants;
  bytes = λ x. h.stands.bytes x ∙ sym (ap (λ a. left_by w (m ∷ past) x a (real w past x)) is);
  stacks = λ t lt. h.stands.stacks t lt ∙ ap (stack_below t) (sym (frames_still w m past (λ fs. ap (λ a. frames_after a fs) is) t));
  pool = h.stands.pool ∙ ap pool_below (sym (ap (λ a. act_blocks a (system_blocks past)) is ∙ leaves_pool (builtin_of func) args result (system_blocks past) q));
}
