-- Which places, stubs and system file fit a code: the condition of a recording.
use Rattle.std.specs.Prelude.{◌≡◌, ◌≢◌, ℕ, ◌+◌, ◌<◌, ◌≤◌, ◌^◌, Bool, true, false, List, [], ◌∷◌, length, Contains, Some, None, is_some, slice_get, All, codes, if◌then◌else◌}
use Rattle.marks.specs.declared.side.Side.TheVariants.{Replay, System}
use Rattle.marks.specs.Places.{thread_count, builtin_count}
use Rattle.marks.specs.Ranges.{covers}
use Rattle.memory_map.specs.declared.placed.Place.{Place}
use Rattle.c_builtins.specs.declared.builtin.Builtin.{Builtin}
use Rattle.c_builtins.specs.Table.{number_of, in_interface}
use Rattle.c_code.specs.declared.code.FuncInfo.{FuncInfo}
use Rattle.c_code.specs.declared.instr.Push.TheVariants as push
use Rattle.c_code.specs.declared.instr.Instr.TheVariants as instr
use Rattle.c_code.specs.Builtins.{int}
use Rattle.c_code.specs.Values.{is_value}
use Rattle.c_code.specs.Machine.{Laid, func_of, entry, is_face}
use Rattle.c_code.specs.MarkLists.{has_entry, result_of}
use Rattle.c_code.specs.Valid.{IsValid}
use Rattle.c_code.specs.Typed.{KeepsTypes}
use Rattle.stub_operations.specs.declared.purpose.Purpose.TheVariants.{Record}
use Rattle.stub_meaning.specs.Fits as stubs
use Rattle.space_memory.specs.Objects.{IsInArea, object_range}
use Rattle.system_side.specs.declared.file.Scripted.{Scripted}
use Rattle.whole_runs.specs.World.{World, may_run, main_of, interface_on}
use Rattle.whole_runs.specs.Code.{Names, MayCallAbove}

-- ---- the code

-- `main` is there, is `int main(void)` with a body, and may run above the cut
pub record HasMain (l : Laid) : Type 0 where
  pub info : FuncInfo
  pub known : func_of l.code (main_of l.code) ≡ Some info
  pub name : info.name ≡ codes "main"
  pub params : info.params ≡ []
  pub result : info.result ≡ int
  pub body : has_entry info.entry ≡ true
  pub runs : may_run l.placed Replay (main_of l.code) ≡ true

-- the code is valid, has a `main`, and hands over values of their types alone
pub record IsFitCode (l : Laid) : Type 0 where
  pub valid : IsValid l.code
  pub main : HasMain l
  pub typed : KeepsTypes l

-- ---- the places

abbrev pub Meet : Place → Place → Type 0
Meet o q = (x : ℕ) × (covers (object_range o) x ≡ true) × (covers (object_range q) x ≡ true)

-- each of the objects lies in an area, and meets none of those after it
abbrev pub LieApart : List Place → Type 0
LieApart [] = Unit {0}
LieApart (o ∷ os) = IsInArea o × ((q : Place) → Contains os q → ¬ Meet o q) × LieApart os

-- there is a place for each object that the code names
pub record PlacesObjects (l : Laid) : Type 0 where
  pub globals : (p g : ℕ) → slice_get l.code.instrs p ≡ Some (instr.Push (push.Global g)) →
      g < length l.placed.globals
  pub strings : (p s : ℕ) → slice_get l.code.instrs p ≡ Some (instr.Push (push.Text s)) →
      s < length l.placed.strings
  pub global_areas : LieApart l.placed.globals
  pub string_areas : LieApart l.placed.strings
  pub apart : (o q : Place) → Contains l.placed.globals o → Contains l.placed.strings q → ¬ Meet o q

-- it is said of each function that the code names whether it is of the interface, and in which modes it may
-- run. What nothing is said of is not of the interface, and may run in no mode
pub record PlacesFunctions (l : Laid) : Type 0 where
  pub faces : (p f n : ℕ) → slice_get l.code.instrs p ≡ Some (instr.Call f n) → f < length l.placed.faces
  pub replay : (p f n : ℕ) → slice_get l.code.instrs p ≡ Some (instr.Call f n) → f < length l.placed.replay
  pub system : (p f n : ℕ) → slice_get l.code.instrs p ≡ Some (instr.Call f n) → f < length l.placed.system

-- direct calls keep the modes. No function of the interface, and none of the source without a body, may
-- run above the cut; of the builtins those of the table are of the interface
pub record KeepsModes (l : Laid) : Type 0 where
  pub above : (g f : ℕ) → may_run l.placed Replay g ≡ true → Names l g f → MayCallAbove l f
  pub below : (g f : ℕ) → may_run l.placed System g ≡ true → Names l g f → may_run l.placed System f ≡ true
  pub no_face : (f : ℕ) → may_run l.placed Replay f ≡ true → is_face l f ≡ false
  pub bodies : (f : ℕ) → may_run l.placed Replay f ≡ true → builtin_count ≤ f → has_entry (entry l f) ≡ true
  pub builtins : (b : Builtin) → is_face l (number_of b) ≡ in_interface b

pub record IsFitPlaced (l : Laid) : Type 0 where
  pub objects : PlacesObjects l
  pub functions : PlacesFunctions l
  pub modes : KeepsModes l

-- ---- the file

-- how many pieces a commit takes, where the call has one
abbrev pub committed : Bool → ℕ
committed b = if b then 1 else 0

-- an answer is of an external, gives a value of the result's type, and has as many pieces as the call
-- takes, whatever its arguments
pub record IsFitAnswer (w : World) (a : Scripted) : Type 0 where
  pub source : builtin_count ≤ a.func
  pub info : FuncInfo
  pub known : func_of w.laid.code a.func ≡ Some info
  pub external : info.entry ≡ None
  pub result_is : is_value (result_of w.laid a.func) a.result ≡ true
  pub pieces : (args : List ℕ) → length a.pieces ≡ length ((interface_on w System a.func).outs a.func args) +
      committed (is_some ((interface_on w System a.func).commits a.func args a.result))
  pub bytes : (b : List ℕ) → Contains a.pieces b → All (λ x. x < 256) b

-- an item of the schedule: a thread, and how often it is wished for
pub record IsFitItem (item : ℕ × ℕ) : Type 0 where
  pub thread : item.0 < thread_count
  pub some : 1 ≤ item.1
  pub few : item.1 ≤ 1_000_000

-- the numbers of the file are in their ranges
pub record IsFitFile (w : World) : Type 0 where
  pub budget : w.file.budget ≤ 100_000_000
  pub some_records : 1 ≤ w.file.chunk
  pub few_records : w.file.chunk < 2 ^ 16
  pub some_items : w.file.schedule ≢ []
  pub items : (item : ℕ × ℕ) → Contains w.file.schedule item → IsFitItem item
  pub answers : (a : Scripted) → Contains w.file.answers a → IsFitAnswer w a

-- ---- all of it

pub record IsFit (w : World) : Type 0 where
  pub code : IsFitCode w.laid
  pub placed : IsFitPlaced w.laid
  pub stubs : stubs.IsFit Record w.laid.code (is_face w.laid) w.stubs
  pub file : IsFitFile w
