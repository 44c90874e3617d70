-- Code makes exactly the marks of its source.
use Rattle.std.specs.Prelude.{◌≡◌, ◌≢◌, ℕ, ◌+◌, ◌<◌, ◌≤◌, ltb, true, List, ◌∷◌, ◌++◌, length, reverse, Some, None, is_some, slice_get}
use Rattle.source_limits.specs.Limits.{most_values}
use Rattle.marks.specs.declared.side.Side.{Side}
use Rattle.marks.specs.declared.side.Side.TheVariants.{Replay}
use Rattle.marks.specs.Marks.{Mark}
use Rattle.marks.specs.Places.{builtin_count}
use Rattle.marks.specs.Wants.{answer_to}
use Rattle.c_code.specs.declared.code.FuncInfo.{FuncInfo}
use Rattle.c_code.specs.declared.instr.Instr.{Instr}
use Rattle.c_code.specs.Frames.{params_end}
use Rattle.c_code.specs.Machine.{Flat, Laid, Done, entry, func_of}
use Rattle.c_code.specs.MarkLists.{Split, Above, Wrong, lists, mark_lists, replay_part, result_of, thread_lists, want_above}
use Rattle.c_types_model.specs.Types.{CType}
use Rattle.c_types_rules.specs.TypedTree.{Body}
use Rattle.c_types_rules.specs.Limits.{frame_size}
use Rattle.c_semantics.specs.Arguments.{is_known}
use Rattle.c_semantics.specs.Context.{Source, body_of, param_shapes, result_shape, type_of}
use Rattle.c_semantics.specs.Calls.{behaviour, thread_above, thread_behaviour}
use Rattle.c_lower_placement.specs.Placement.{HasCode, IsSigOf}
use Rattle.c_lower_placement.specs.Code.{Lies, body_code, making}
use Rattle.c_lower_placement.specs.Heights.{Stand, StatementCalls, body_heights, statement_depth}

abbrev pub laid : Source → Flat → Laid
laid s code = record { code = code; placed = s.placed }

-- the code of each function of the source lies in flat code, which knows the results of all functions
pub record IsLowered (s : Source) (code : Flat) : Type 0 where
  pub bodies : (f : ℕ) (b : Body) → body_of s f ≡ Some b → HasCode s code f b
  pub others : (f : ℕ) → body_of s f ≡ None → entry (laid s code) f ≡ None
  pub results : (f : ℕ) → result_of (laid s code) f ≡ result_shape s f

-- what callers know of a function with a body, and where its code stands
pub record IsFunction (s : Source) (code : Flat) (sig : CType → ℕ) (f : ℕ) (b : Body) : Type 0 where
  pub info : FuncInfo
  pub entry : ℕ
  pub known : func_of code f ≡ Some info
  pub begins : info.entry ≡ Some entry
  pub params : info.params ≡ param_shapes s f
  pub result : info.result ≡ result_shape s f
  pub frame : info.frame ≡ frame_size s.program b.locals
  pub lies : Lies code.instrs entry (body_code b (making s code sig b))

-- flat code that holds the code of each function of the source
pub record IsEmitted (s : Source) (code : Flat) (sig : CType → ℕ) : Type 0 where
  pub bodies : (f : ℕ) (b : Body) → body_of s f ≡ Some b → IsFunction s code sig f b
  pub others : (f : ℕ) → body_of s f ≡ None → entry (laid s code) f ≡ None
  pub results : (f : ℕ) → result_of (laid s code) f ≡ result_shape s f
  pub sigs : (t : CType) → IsSigOf s code t (sig t)

-- the mark lists of the code are those of the source, for each function with a body on either side, each
-- thread, and what
-- a thread makes above the cut
pub record MakesTheMarks (s : Source) (code : Flat) : Type 0 where
  pub calls : (side : Side) (f : ℕ) (b : Body) (args : List ℕ) (ms : List Mark) → body_of s f ≡ Some b →
      behaviour Split s side f args ms ≡ mark_lists Split (laid s code) side f args ms
  pub threads : (t : CType) (sig address : ℕ) (args : List ℕ) (ms : List Mark) → IsSigOf s code t sig →
      thread_behaviour s t address args ms ≡ thread_lists (laid s code) sig address args ms
  pub above : (ms : List Mark) → thread_above s ms ≡ lists Above ms (laid s code) (Done 0)

-- the code knows the results of all functions
abbrev pub HasResults : Source → Flat → Type 0
HasResults s code = (f : ℕ) → result_of (laid s code) f ≡ result_shape s f

-- the code knows the functions of the source and the builtins, and of each number what the source says of
-- its type; a builtin has no body in it
pub record KnowsFunctions (s : Source) (code : Flat) : Type 0 where
  pub known : (f : ℕ) → is_known s f ≡ true → (info : FuncInfo) × (func_of code f ≡ Some info)
  pub params : (f : ℕ) (info : FuncInfo) → func_of code f ≡ Some info → info.params ≡ param_shapes s f
  pub results : HasResults s code
  pub sigs : (f : ℕ) (info : FuncInfo) → func_of code f ≡ Some info → IsSigOf s code (type_of s f) info.sig
  pub builtins : (f : ℕ) → ltb f builtin_count ≡ true → entry (laid s code) f ≡ None

-- what a thread of the code wants above the cut is a function of its marks there so far, which the next of
-- them answers: it
-- hangs neither on its marks below the cut nor on the function that it began with
abbrev pub NextAnswersAbove : Source → Flat → Type 0
NextAnswersAbove s code =
    (t : CType) (sig address : ℕ) (args : List ℕ) (ms more : List Mark) (m : Mark) → IsSigOf s code t sig →
    m.side ≡ Replay → thread_lists (laid s code) sig address args (ms ++ m ∷ more) ≢ Wrong →
    is_some (answer_to (want_above (laid s code) (reverse (replay_part ms))) m.act) ≡ true

-- a place within the code of a function
pub record IsWithin (s : Source) (code : Flat) (sig : CType → ℕ) (e : IsEmitted s code sig) (place : ℕ) :
    Type 0 where
  pub func : ℕ
  pub body : Body
  pub defined : body_of s func ≡ Some body
  pub by : ℕ
  pub inside : by < length (body_code body (making s code sig body))
  pub there : (e.bodies func body defined).entry + by ≡ place

-- a function whose evaluation stack is small, each of whose calls has one value per parameter, and whose
-- frame holds its own
-- parameters
pub record IsFit (s : Source) (code : Flat) (sig : CType → ℕ) (f : ℕ) (b : Body) : Type 0 where
  pub few : statement_depth b.statements ≤ most_values
  pub calls : StatementCalls b.statements (making s code sig b)
  pub holds : params_end 0 (param_shapes s f) ≤ frame_size s.program b.locals

-- flat code that holds nothing but the functions of the source, each of them fit, and the depth of the
-- evaluation stack at each place
pub record IsMadeOf (s : Source) (code : Flat) (sig : CType → ℕ) (height : ℕ → ℕ) : Type 0 where
  pub emitted : IsEmitted s code sig
  pub within : (p : ℕ) (i : Instr) → slice_get code.instrs p ≡ Some i → IsWithin s code sig emitted p
  pub stands : (f : ℕ) (b : Body) (d : body_of s f ≡ Some b) →
      Stand height (emitted.bodies f b d).entry (body_heights b)
  pub fits : (f : ℕ) (b : Body) → body_of s f ≡ Some b → IsFit s code sig f b
