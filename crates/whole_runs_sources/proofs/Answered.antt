-- A system file that is read for an accepted source fits it.
use Rattle.std.proofs.Common.{◌≡◌, ◌≤◌, ◌<◌, ℕ, zero, suc, ◌+◌, ◌-◌, Bool, true, false, cond, ◌&&◌, List, [], ◌∷◌, ◌++◌, length, Option, Some, None, refl, sym, ap, ◌∙◌, subst, arith}
use Rattle.std.specs.Prelude.{is_none, is_some, ltb, slice_get}
use Rattle.std.specs.List.{AllByRecursion}
use Rattle.std.specs.Option.{option_and_then, option_map, option_map_or}
use Rattle.std.specs.Str.{bytes_eq}
use Rattle.std.proofs.lemmas.Bool.{le-leb, le-ltb, lt-ltb}
use Rattle.std.proofs.lemmas.List.Elements.{All-contains, All-from_recursion}
use Rattle.std.proofs.lemmas.Option.{same_Some, slice_get_within}
use Rattle.marks.specs.declared.side.Side.TheVariants.{System}
use Rattle.c_builtins.specs.Table.{first_source_function}
use Rattle.c_code.specs.declared.code.FuncInfo.{FuncInfo}
use Rattle.c_code.specs.Machine.{Flat, func_of}
use Rattle.c_code.specs.MarkLists.{result_shape}
use Rattle.c_code.specs.Values.{is_value}
use Rattle.c_types_table.specs.declared.ty.Ty.{Ty}
use Rattle.c_types_table.specs.Tables.{type_at}
use Rattle.c_types_program.specs.declared.function.Body.{Body}
use Rattle.c_types_program.specs.declared.function.Function.{Function}
use Rattle.c_types_program.specs.Declarations.{Declared}
use Rattle.c_lower.specs.Lowered.{entry_at, info_of, lowered}
use Rattle.c_lower.proofs.Emitted.{known}
use Rattle.c_lower.proofs.Laid.{start}
use Rattle.annot_reader_rules.specs.Notes.{Annotated, Notes}
use Rattle.annot_reader_words.specs.declared.notes.Annots.{Annots}
use Rattle.annot_reader_functions.specs.declared.notes.FunctionNotes.{FunctionNotes}
use Rattle.annot_reader.specs.Builtins.{annots_of}
use Rattle.annot_reader.specs.Interface.{Interface}
use Rattle.annot_reader.specs.Interfaces.{IsRead as IsInterfaceOf, SaysOf, annots_at, declared_at, face_of, notes_at}
use Rattle.system_side.specs.declared.file.Scripted.{Scripted}
use Rattle.sys_script_lines.specs.declared.externals.External.{External}
use Rattle.sys_script_lines.specs.Externals.{external_named}
use Rattle.sys_script_lines.specs.Fits as lines
use Rattle.sys_script_lines.specs.Fits.{IsAnswerOf, IsInRange}
use Rattle.sys_script.specs.Externals.{external_in, external_of, externals_from, pieces_of, result_range}
use Rattle.stub_operations.specs.declared.operation.StubOp.{StubOp}
use Rattle.stub_operations.specs.declared.operation.StubOp.TheVariants.{Pass}
use Rattle.stub_operations.specs.declared.purpose.Purpose.TheVariants.{Record}
use Rattle.stub_operations.specs.Operations.{operations, operations_below, passed}
use Rattle.stub_operations.specs.Stubs.{Stubs, added_at, below_at, or_none}
use Rattle.stub_meaning.specs.Calls.{Called, done}
use Rattle.stub_meaning.specs.Meaning.{called, first_of}
use Rattle.call_operations.specs.Said.{call_says}
use Rattle.call_operations.specs.Sets.{AreStubs, builtin_at, has_no_body, is_external, is_function, operations_in, stubs_of}
use Rattle.front_end.specs.declared.source.CheckedSource.{CheckedSource}
use Rattle.front_end_laws.proofs.Whole.{params_few}
use Rattle.whole_runs.specs.World.{World, interface_on, stubs_below}
use Rattle.whole_runs.specs.Fits.{IsFitAnswer, IsFitFile, IsFitItem, committed}
use Rattle.whole_runs_sources.specs.Laws.{IsPlacedAs}
use Rattle.whole_runs_sources.proofs.Counted.{above_pieces, below_pieces}
use Rattle.whole_runs_sources.proofs.Facts.{is_of}
use Rattle.whole_runs_sources.proofs.Values.{result_fits}

-- ---- functions without a body

-- one that is found by a name
record IsListedAt (types : List Ty) (i : Interface) (number : ℕ) (fs : List Function) (e : External) : Type 0 where
  place : ℕ
  function : Function
  there : slice_get fs place ≡ Some function
  without : function.body ≡ None
  is : e ≡ external_of types i (number + place) function

later : (types : List Ty) (i : Interface) (number : ℕ) (f : Function) (fs : List Function) (e : External) → IsListedAt types i (number + 1) fs e → IsListedAt types i number (f ∷ fs) e
later types i number f fs e h =
    let n : number + 1 + h.place ≡ number + suc h.place = omega arith in
    record { place = suc h.place; function = h.function; there = h.there; without = h.without; is = h.is ∙ ap (λ (k : ℕ). external_of types i k h.function) n }

listed : (types : List Ty) (i : Interface) (number : ℕ) (fs : List Function) (name : List ℕ) (e : External) → external_named name (externals_from types i number fs) ≡ Some e → IsListedAt types i number fs e
listed types i number [] name e h = absurd cc
listed types i number (f ∷ fs) name e h = by f.body refl h (λ k. later types i number f fs e (listed types i (number + 1) fs name e k))
  where
    rest : List (List ℕ × External)
    rest = externals_from types i (number + 1) fs

    named : (b : Bool) → f.body ≡ None → cond b (Some (external_of types i number f)) (external_named name rest) ≡ Some e → (external_named name rest ≡ Some e → IsListedAt types i number (f ∷ fs) e) → IsListedAt types i number (f ∷ fs) e
    named true none k more =
        let n : number ≡ number + 0 = omega arith in
        record { place = zero; function = f; there = refl; without = none; is = sym (same_Some (external_of types i number f) e k) ∙ ap (λ (m : ℕ). external_of types i m f) n }
    named false none k more = more k

    by : (o : Option Body) → f.body ≡ o → external_named name (cond (is_some o) rest ((f.name, external_of types i number f) ∷ rest)) ≡ Some e → (external_named name rest ≡ Some e → IsListedAt types i number (f ∷ fs) e) → IsListedAt types i number (f ∷ fs) e
    by (Some b) is k more = more k
    by None is k more = named (bytes_eq name f.name) is k more

-- ---- stubs of such a function

in_face : (b : Bool) (a v : Annots) → cond b (Some a) None ≡ Some v → a ≡ v
in_face true a v h = same_Some a v h
in_face false a v h = absurd cc

found : (o : Option FunctionNotes) (v : Annots) → option_and_then face_of o ≡ Some v → option_map_or (λ (n : FunctionNotes). n.annots) o (annots_of []) ≡ v
found None v h = absurd cc
found (Some n) v h = in_face n.in_cut n.annots v h

module _ (fs : List Function) (i : Interface) (s : Stubs) (are : AreStubs Record fs i s) (place : ℕ) (f : Function) (there : slice_get fs place ≡ Some f) (without : f.body ≡ None) where
  abbrev number : ℕ
  number = first_source_function + place

  not_builtin : ltb number first_source_function ≡ false
  not_builtin = le-ltb number first_source_function (omega arith)

  one_of_source : is_function fs number ≡ true
  one_of_source = let l = slice_get_within fs place f there in lt-ltb number (first_source_function + length fs) (omega (arith, l))

  one_external : is_external fs number ≡ true
  one_external =
      let back : number - first_source_function ≡ place = omega arith in
      ap (λ (b : Bool). b && has_no_body (slice_get fs (number - first_source_function))) (le-leb first_source_function number (omega arith))
      ∙ (ap (λ (k : ℕ). has_no_body (slice_get fs k)) back ∙ (ap has_no_body there ∙ ap (λ (o : Option Body). is_none o) without))

  abbrev says : Annots
  says = declared_at i number

  abbrev ops : List StubOp
  ops = or_none (added_at (stubs_below s number) number)

  -- what is done below the cut where it is called
  pub pieces_here : (code : Flat) (c e : Called) → length says.params ≤ 256 → length (done code c ops).outs + committed (is_some (first_of (done code e ops).commits)) ≡ pieces_of says
  pieces_here code c e few = by (annots_at i number) refl
    where
      abbrev_pieces : List StubOp → ℕ
      abbrev_pieces xs = length (done code c xs).outs + committed (is_some (first_of (done code e xs).commits))

      by : (o : Option Annots) → annots_at i number ≡ o → abbrev_pieces ops ≡ pieces_of says
      by (Some v) is =
          let same : says ≡ v = found (notes_at i number) v is in
          let here : added_at s number ≡ Some (operations (call_says v) ++ Pass ∷ []) =
          are.added number ∙ (ap (λ (b : Bool). cond b (stubs_of Record i number) None) one_of_source
          ∙ (ap (option_map (λ (a : Annots). operations_in number a ++ passed Record)) is ∙ ap (λ (b : Bool). Some (cond b (builtin_at number) (operations (call_says v)) ++ passed Record)) not_builtin)) in
          let stays : stubs_below s number ≡ s = ap (λ (x : Option (List StubOp)). cond (is_some x) s (record { added = s.below; below = [] })) here in
          let all : ops ≡ operations (call_says says) ++ Pass ∷ [] =
          ap (λ (z : Stubs). or_none (added_at z number)) stays ∙ (ap or_none here ∙ ap (λ (a : Annots). operations (call_says a) ++ Pass ∷ []) (sym same)) in
          ap abbrev_pieces all ∙ above_pieces code c e says few
      by None is =
          let none : added_at s number ≡ None =
          are.added number ∙ (ap (λ (b : Bool). cond b (stubs_of Record i number) None) one_of_source ∙ ap (option_map (λ (a : Annots). operations_in number a ++ passed Record)) is) in
          let goes : stubs_below s number ≡ record { added = s.below; below = [] } = ap (λ (x : Option (List StubOp)). cond (is_some x) s (record { added = s.below; below = [] })) none in
          let here : below_at s number ≡ Some (operations_below (call_says says)) =
          are.below number ∙ (ap (λ (b : Bool). cond (b && is_none (annots_at i number)) (Some (operations_below (call_says says))) None) one_external
          ∙ ap (λ (o : Option Annots). cond (is_none o) (Some (operations_below (call_says says))) None) is) in
          let all : ops ≡ operations_below (call_says says) = ap (λ (z : Stubs). or_none (added_at z number)) goes ∙ ap or_none here in
          ap abbrev_pieces all ∙ below_pieces code c e says few

-- ---- the file

to_items : (xs : List (ℕ × ℕ)) → AllByRecursion lines.IsTurn xs → AllByRecursion IsFitItem xs
to_items [] h = tt
to_items (x ∷ xs) h = (record { thread = h.0.thread; some = h.0.some; few = h.0.few }, to_items xs h.1)

module _ (bytes cut : List ℕ) (c : CheckedSource) (w : World) (h : IsPlacedAs bytes cut c w.laid.placed) (code : w.laid.code ≡ c.code) (are : AreStubs Record c.program.functions c.interface w.stubs)
    (declared : (cut : List ℕ) (a : Annotated) (i : Interface) (place : ℕ) (n : Notes) → IsInterfaceOf cut a i → slice_get a.functions place ≡ Some n → SaysOf n (declared_at i (place + first_source_function)))
    (file : lines.IsFit (external_in c.program c.interface) w.file) where
  abbrev d : Declared
  d = c.program

  here : w.laid.code ≡ lowered d
  here = code ∙ (is_of bytes cut c w.laid.placed h).code

  answer_fits : (a : Scripted) → IsAnswerOf (external_in d c.interface) a → IsFitAnswer w a
  answer_fits a is =
      let l = listed d.table.types c.interface first_source_function d.functions is.name is.external is.known in
      let number : a.func ≡ 16 + l.place = is.func ∙ ap (λ (e : External). e.func) l.is in
      let info = info_of d (0 + start d l.place d.functions) l.function in
      let known_here : func_of w.laid.code a.func ≡ Some info = ap (λ (x : Flat). func_of x a.func) here ∙ (ap (func_of (lowered d)) number ∙ known d [] w.laid.placed l.place l.function l.there) in
      let t = type_at d.table.types l.function.ty in
      let in_range : IsInRange (result_range t).0 (result_range t).1 a.result = subst (λ (e : External). IsInRange e.below e.most a.result) l.is is.result in
      let asked : length a.pieces ≡ pieces_of (declared_at c.interface (16 + l.place)) = is.pieces ∙ ap (λ (e : External). e.pieces) l.is in
      let turned : l.place + 16 ≡ 16 + l.place = omega arith in
      let few : length (declared_at c.interface (16 + l.place)).params ≤ 256 =
      subst (λ (k : ℕ). length (declared_at c.interface k).params ≤ 256) turned
      (params_few declared h.says.right.ds h.program d cut c.interface h.annotated h.says.declares (is_of bytes cut c w.laid.placed h).program h.says.annotated (is_of bytes cut c w.laid.placed h).interface l.place l.function l.there) in
      record {
        source = omega (arith, number);
        info = info;
        known = known_here;
        external = ap (λ o. entry_at o (0 + start d l.place d.functions)) l.without;
        result_is = ap (λ (o : Option FuncInfo). is_value (result_shape o) a.result) known_here ∙ result_fits t a.result in_range;
        pieces = λ args.
            subst (λ (f : ℕ). length a.pieces ≡ length ((interface_on w System f).outs f args) + committed (is_some ((interface_on w System f).commits f args a.result))) (sym number)
            (asked ∙ sym (pieces_here d.functions c.interface w.stubs are l.place l.function l.there l.without w.laid.code (called (func_of w.laid.code (16 + l.place)) args 0) (called (func_of w.laid.code (16 + l.place)) args a.result) few));
        bytes = λ b at.
            All-from_recursion (λ (x : ℕ). x < 256) b (All-contains lines.AreBytes a.pieces b (All-from_recursion lines.AreBytes a.pieces is.bytes) at);
      }

  pub fit_file : IsFitFile w
  fit_file = record {
    budget = file.budget;
    some_records = file.some_records;
    few_records = file.few_records;
    some_items = file.some_turns;
    items = λ item at. All-contains IsFitItem w.file.schedule item (All-from_recursion IsFitItem w.file.schedule (to_items w.file.schedule file.turns)) at;
    answers = λ a at. answer_fits a (All-contains (IsAnswerOf (external_in d c.interface)) w.file.answers a (All-from_recursion (IsAnswerOf (external_in d c.interface)) w.file.answers file.answers) at);
  }
