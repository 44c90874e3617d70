-- One byte, one mark more.
use Rattle.std.proofs.Common.{◌≡◌, ℕ, Bool, true, false, cond, ◌+◌, ◌<◌, List, ◌∷◌, length, get_or, take, Option, None, refl, ap, sym, ◌∙◌}
use Rattle.marks.specs.declared.side.Side.TheVariants.{Replay}
use Rattle.marks.specs.Marks.{Act, Turn, Load, Store, Enter, Leave, Step, Fault, Made, Mark}
use Rattle.marks.specs.Bytes.{Byte, leaves}
use Rattle.c_code.specs.MarkLists.{same_side}
use Rattle.memory_map.specs.declared.placed.Placed.{Placed}
use Rattle.replay_runs.specs.Runs.{byte}
use Rattle.space_memory.specs.Objects.{byte_of}
use Rattle.whole_runs.specs.World.{World, begin, placed_at}
use Rattle.whole_runs.specs.Sides.{seen}
use Rattle.whole_runs.specs.Memory.{left_by, real}
use Rattle.reference_recorder_marks.specs.declared.mark.Mark.{Mark as Held}
use Rattle.reference_recorder_marks.specs.Marks.{act_of, mark_of, past}
use Rattle.reference_recorder_marks.proofs.Past.{past_more}
use Rattle.reference_recorder_memory.specs.Cells.{byte_step, left_at}

pub byte_more : (w : World) (x : ℕ) (m : Mark) (p : List Mark) →
    byte (begin w) x (seen (m ∷ p)) ≡ byte_step x m (byte (begin w) x (seen p))
byte_more w x m p = go (same_side m.side Replay)
  where
    go : (b : Bool) → byte (begin w) x (cond b (m ∷ seen p) (seen p)) ≡
        cond b (leaves m.act x (byte (begin w) x (seen p))) (byte (begin w) x (seen p))
    go true = refl
    go false = refl

pub left_more : (w : World) (now : List Mark) (x : ℕ) (a : Act) (v : Option ℕ) →
    left_by w now x a v ≡ left_at (byte (begin w) x (seen now)).cell x a v
left_more w now x Turn v = refl
left_more w now x (Load origin at bytes) v = refl
left_more w now x (Store origin at bytes) v = refl
left_more w now x (Enter f args at bytes) v = refl
left_more w now x (Leave at size) v = refl
left_more w now x (Step f args result ins pieces freed) v = refl
left_more w now x (Fault kind crosses ins outs access) v = refl
left_more w now x (Made e) v = refl

pub placed_same : (w : World) (placed : Placed) (x : ℕ) → w.laid.placed ≡ placed →
    byte_of placed.strings x (byte_of placed.globals x None) ≡ placed_at w x
placed_same w placed x e = ap (λ (q : Placed). byte_of q.strings x (byte_of q.globals x None)) (sym e)

-- the byte for code of both sides, one mark more
pub real_more : (w : World) (x : ℕ) (ms : List Held) (i : ℕ) (m : Held) → i < length ms → m ≡ get_or ms i m →
    (b : Byte) → b ≡ byte (begin w) x (seen (past (take (i + 1) ms))) →
    (v : Option ℕ) → v ≡ real w (past (take i ms)) x → (u : Option ℕ) → u ≡ left_at b.cell x (act_of m.act) v →
    u ≡ real w (past (take (i + 1) ms)) x
real_more w x ms i m lt is b here v before u after =
    after ∙ ap (λ (c : Byte). left_at c.cell x (act_of m.act) v) (here ∙ ap (λ p. byte (begin w) x (seen p)) (past_more ms i m lt is))
    ∙ ap (left_at (byte (begin w) x (seen (mark_of m ∷ past (take i ms)))).cell x (act_of m.act)) before
    ∙ sym (left_more w (mark_of m ∷ past (take i ms)) x (act_of m.act) (real w (past (take i ms)) x))
    ∙ ap (λ p. real w p x) (sym (past_more ms i m lt is))
