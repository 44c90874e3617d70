-- What the rules of a run ask of a Call beyond its own thread and keys.
use Rattle.std.specs.Prelude.{◌≡◌, ◌↔◌, ℕ, true, false, ◌||◌, List, ◌++◌}
use Rattle.marks.specs.Places.{is_constant, is_system}
use Rattle.marks.specs.declared.range.Range.{Range}
use Rattle.marks.specs.Ranges.{Piece, Prepared, any_range, any_piece, any_prepared, piece_ranges, prepared_ranges}
use Rattle.marks.specs.Marks.{Call, Event, Made, Mark}
use Rattle.marks.specs.Bytes.{IsLive, touches, writes}
use Rattle.replay_runs.specs.Runs.{Start, byte}
use Rattle.replay_runs.specs.Known.{NoRace}
use Rattle.replay_runs.specs.Passing.{AllMayRead, AllMayWrite}

-- it races with no earlier mark, what it reads and holds is live and not pending, and it touches no system
-- memory and
-- holds no constant
pub record CallIsFree (s : Start) (past : List Mark) (m : Mark) (ins : List Piece) (outs : List Range)
    (prepared : List Prepared) : Type 0 where
  pub no_race : NoRace past m
  pub reads : (x : ℕ) → any_piece ins x ≡ true → IsLive (byte s x past).cell
  pub holds : (x : ℕ) → (any_range outs x || any_prepared prepared x) ≡ true → IsLive (byte s x past).cell
  pub other_space : (x : ℕ) → touches m.act x ≡ true → is_system x ≡ false
  pub read_only : (x : ℕ) → writes m.act x ≡ true → is_constant x ≡ false

-- a Call is so exactly where its thread may read and write its ranges one by one
abbrev pub RangesSayOfACall : Start → List Mark → Type 0
RangesSayOfACall s past =
    (m : Mark) (e : Event) (func : ℕ) (args : List ℕ) (ins : List Piece) (outs : List Range) (prepared :
    List Prepared) → m.act ≡ Made e → e.kind ≡ Call func args ins outs prepared →
    (AllMayRead s past m.thread (piece_ranges ins) ×
    AllMayWrite s past m.thread (outs ++ prepared_ranges prepared)) ↔ CallIsFree s past m ins outs
    prepared
