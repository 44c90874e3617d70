-- What a byte above the cut is, where marks below keep off it.
use Rattle.std.proofs.Common.{◌≡◌, ℕ, Bool, true, false, cond, ◌||◌, List, [], ◌∷◌, ◌++◌, length, Option, Some, None, inl, inr, refl, ap, sym, ◌∙◌, subst}
use Rattle.std.proofs.lemmas.Bool.{cond-false, true≢false}
use Rattle.marks.specs.declared.side.Side.{Side}
use Rattle.marks.specs.declared.side.Side.TheVariants.{Replay, System}
use Rattle.marks.specs.Ranges.{Piece, within, covers, any_range, any_piece, any_prepared, byte_at}
use Rattle.marks.specs.Marks.{EventKind, Call, Ret, Up, UpRet, Alloc, Free, Stop, Act, Turn, Load, Store, Enter, Leave, Step, Fault, Made, Mark, released}
use Rattle.marks.specs.Bytes.{Cell, Dead, Live, Held, IsHeld, hold, give, give_any, granted, event_leaves, cell_after}
use Rattle.space_memory_laws.proofs.Regions.{some_none}
use Rattle.replay_runs.specs.Runs.{byte}
use Rattle.whole_runs.specs.World.{World, begin, placed_at}
use Rattle.whole_runs.specs.Sides.{seen}
use Rattle.whole_runs.specs.Memory.{value_of, changes, left_by, real}
use Rattle.whole_runs_memory.specs.Plain.{IsReally}
use Rattle.whole_runs_memory.specs.Real.{IsNoStep, KeepsOff, MayFollow, BytesKeptOffAreReal}
use Rattle.whole_runs_memory.proofs.Plain.{really}
use Rattle.whole_runs_memory.proofs.Rets.{given_free}
use Rattle.whole_runs_memory.proofs.Seen.{seen_below, seen_above}

-- ---- cells

written_really : (b : Bool) (n : ℕ) (c : Cell) (v : Option ℕ) → IsReally c v → IsReally (cond b (Live n) c) (cond b (Some n) v)
written_really true n c v h = refl
written_really false n c v h = h

gone_really : (b : Bool) (c : Cell) (v : Option ℕ) → IsReally c v → IsReally (cond b Dead c) (cond b None v)
gone_really true c v h = refl
gone_really false c v h = h

held_really : (b : Bool) (c : Cell) (v : Option ℕ) → IsReally c v → IsReally (cond b (hold c) c) v
held_really true Dead v h = h
held_really true (Live n) v h = λ e. some_none n (sym h ∙ e)
held_really true (Held n) v h = h
held_really false c v h = h

-- a byte of which an event says what it is
free_really : (c : Cell) → (IsHeld c → ⊥) → IsReally c (value_of c)
free_really Dead free = refl
free_really (Live v) free = refl
free_really (Held v) free = absurd (free tt)

told : (b : Bool) (c : Cell) (v : Option ℕ) → (b ≡ true → IsHeld c → ⊥) → (b ≡ false → IsReally c v) → IsReally c (cond b (value_of c) v)
told true c v free h = free_really c (free refl)
told false c v free h = h refl

out_of_pieces : (ps : List Piece) (x : ℕ) (c : Cell) → any_piece ps x ≡ false → give_any ps x c ≡ c
out_of_pieces [] x c e = refl
out_of_pieces (p ∷ ps) x c e = go (covers p.range x) e (out_of_pieces ps x c)
  where
    go : (b : Bool) → (b || any_piece ps x) ≡ false → (any_piece ps x ≡ false → give_any ps x c ≡ c) → cond b (give p x c) (give_any ps x c) ≡ c
    go true e again = absurd (true≢false e)
    go false e again = again e

live_free : (b : Bool) (n : ℕ) (c : Cell) → b ≡ true → IsHeld (cond b (Live n) c) → ⊥
live_free true n c e h = h
live_free false n c e h = true≢false (sym e)

dead_free : (b : Bool) (c : Cell) → b ≡ true → IsHeld (cond b Dead c) → ⊥
dead_free true c e h = h
dead_free false c e h = true≢false (sym e)

event_really : (k : EventKind) (x : ℕ) (c : Cell) (v : Option ℕ) → IsReally c v → IsReally (event_leaves k x c) (cond (changes k x) (value_of (event_leaves k x c)) v)
event_really (Call f args ins outs prepared) x c v h = held_really (any_range outs x || any_prepared prepared x) c v h
event_really (Ret f args result same outs commit) x c v h =
    told (any_piece (outs ++ released commit) x) (give_any (outs ++ released commit) x c) v
    (λ is. given_free (outs ++ released commit) x c is)
    (λ not. subst (λ d. IsReally d v) (sym (out_of_pieces (outs ++ released commit) x c not)) h)
event_really (Up f args) x c v h = h
event_really (UpRet f result) x c v h = h
event_really (Alloc at size) x c v h =
    let b = within at (granted at size) x in
    told b (cond b (Live 0) c) v (λ is. live_free b 0 c is) (λ not. subst (λ d. IsReally d v) (sym (cond-false b (Live 0) c not)) h)
event_really (Free at size) x c v h =
    let b = within at size x in
    told b (cond b Dead c) v (λ is. dead_free b c is) (λ not. subst (λ d. IsReally d v) (sym (cond-false b Dead c not)) h)
event_really (Stop fault) x c v h = h

-- ---- marks

module _ (w : World) (past : List Mark) (m : Mark) (x : ℕ) (h : IsReally (byte (begin w) x (seen past)).cell (real w past x)) where
  abbrev c : Cell
  c = (byte (begin w) x (seen past)).cell

  abbrev v : Option ℕ
  v = real w past x

  act_really : (a : Act) → m.act ≡ a → m.side ≡ Replay → IsNoStep a → IsReally (cell_after a x c) (left_by w (m ∷ past) x a v)
  act_really Turn e above still = h
  act_really (Load o at bytes) e above still = h
  act_really (Store o at bytes) e above still = written_really (within at (length bytes) x) (byte_at at bytes x) c v h
  act_really (Enter f args at bytes) e above still = written_really (within at (length bytes) x) (byte_at at bytes x) c v h
  act_really (Leave at size) e above still = gone_really (within at size x) c v h
  act_really (Step f args r ins pieces freed) e above still = absurd still
  act_really (Fault k crosses ins outs access) e above still = h
  act_really (Made ev) e above still =
      subst (λ d. IsReally (event_leaves ev.kind x c) (cond (changes ev.kind x) (value_of d) v))
      (sym (ap (λ p. (byte (begin w) x p).cell) (seen_above w m past above) ∙ ap (λ a. cell_after a x c) e))
      (event_really ev.kind x c v h)

  above_really : m.side ≡ Replay → IsNoStep m.act → IsReally (byte (begin w) x (seen (m ∷ past))).cell (left_by w (m ∷ past) x m.act v)
  above_really above still = subst (λ p. IsReally (byte (begin w) x p).cell (left_by w (m ∷ past) x m.act v)) (sym (seen_above w m past above)) (act_really m.act refl above still)

  pending_really : (d : Cell) (u : Option ℕ) → IsHeld d → (u ≡ None → ⊥) → IsReally d u
  pending_really (Held n) u held there = there
  pending_really Dead u held there = absurd held
  pending_really (Live n) u held there = absurd held

  below_really : m.side ≡ System → KeepsOff w past m x → IsReally (byte (begin w) x (seen (m ∷ past))).cell (left_by w (m ∷ past) x m.act v)
  below_really below off = subst (λ p. IsReally (byte (begin w) x p).cell (left_by w (m ∷ past) x m.act v)) (sym (seen_below w m past below)) (elim off [
    | inl same ↦ subst (IsReally c) (sym same) h
    | inr p ↦ pending_really c (left_by w (m ∷ past) x m.act v) p.0 p.1
  ])

  pub next_really : MayFollow w past m x → IsReally (byte (begin w) x (seen (m ∷ past))).cell (real w (m ∷ past) x)
  next_really may = go m.side refl
    where
      go : (d : Side) → m.side ≡ d → IsReally (byte (begin w) x (seen (m ∷ past))).cell (real w (m ∷ past) x)
      go Replay e = above_really e (may.above e)
      go System e = below_really e (may.below e)

pub kept_off : (w : World) → BytesKeptOffAreReal w
kept_off w [] x all = really (placed_at w x) None
kept_off w (m ∷ past) x all = next_really w past m x (kept_off w past x all.1) all.0
