-- Where a run of the code of an accepted source begins.
use Rattle.std.proofs.Common.{◌≡◌, ◌≤◌, ◌<◌, ℕ, zero, suc, ◌+◌, Bool, true, false, ◌&&◌, cond, List, [], ◌∷◌, length, map, Option, Some, None, refl, sym, ap, ◌∙◌, arith}
use Rattle.std.specs.Prelude.{◌↔◌, codes, is_some, nat_lt, not, position, slice_get, unwrap_or}
use Rattle.std.specs.List.{position_or_len}
use Rattle.std.specs.Option.{option_map}
use Rattle.std.proofs.lemmas.Bool.{lt-ltb}
use Rattle.std.proofs.lemmas.Option.{same_Some, slice_get_within}
use Rattle.std.proofs.lemmas.Slice.Eq.{bytes_eq-Decides}
use Rattle.marks.specs.declared.side.Side.TheVariants.{Replay}
use Rattle.marks.specs.Wants.{same_numbers}
use Rattle.memory_map.specs.declared.placed.Placed.{Placed}
use Rattle.c_code.specs.Machine.{Laid, func_of, is_true}
use Rattle.c_code.specs.MarkLists.{has_entry}
use Rattle.c_scopes.specs.Scopes.{same_name}
use Rattle.c_builtins.specs.Table.{first_source_function}
use Rattle.c_types_model.specs.Types.{CType}
use Rattle.c_types_table.specs.Tables.{type_at}
use Rattle.c_types_nodes.specs.Tables.{Table}
use Rattle.c_types_rules.specs.Sources as sources
use Rattle.c_types_rules.specs.Sources.{Program, main, main_type, params_of, result_of}
use Rattle.c_types_program.specs.declared.function.Body.{Body}
use Rattle.c_types_program.specs.declared.function.Function.{Function}
use Rattle.c_types_program.specs.Declarations.{Declared, body_in, function_in}
use Rattle.c_types_program.specs.Programs.{IsProgram}
use Rattle.c_semantics.specs.Context.{shape_of, shapes_of}
use Rattle.c_lower.specs.Lowered.{code_of, entry_at, info_of, infos_from, lowered}
use Rattle.c_lower.proofs.Emitted.{known}
use Rattle.c_lower.proofs.Laid.{infos_counted, start}
use Rattle.cut_graph_rules.specs.Findings.{May}
use Rattle.cut_graph_rules.specs.MayRun.{begins}
use Rattle.isolation_check_rules.specs.Places.{AreFlags}
use Rattle.front_end.specs.declared.source.CheckedSource.{CheckedSource}
use Rattle.cut_check.specs.Sources.{cut_of, is_main, is_named_main, main_of}
use Rattle.cut_check.proofs.MainPlace.{function_count, main_place_is}
use Rattle.cut_graph_sources.proofs.Names.{main_has_a_body}
use Rattle.whole_runs.specs.World as world
use Rattle.whole_runs.specs.World.{may_run}
use Rattle.whole_runs.specs.Fits.{HasMain}
use Rattle.whole_runs_sources.specs.Laws.{IsPlacedAs, laid_at}
use Rattle.whole_runs_sources.proofs.Facts.{is_of, mapped}
use Rattle.whole_runs_sources.proofs.MainType.{main_typed}

abbrev nowhere : Placed
nowhere = record { globals = []; strings = []; replay = []; system = []; faces = [] }

-- ---- flags

none_past : {A : Type 0} (xs : List A) (i : ℕ) → slice_get xs i ≡ None → length xs ≤ i
none_past [] i e = omega arith
none_past (x ∷ xs) zero e = absurd cc
none_past (x ∷ xs) (suc i) e = let l = none_past xs i e in omega (arith, l)

-- the flag of a function of which this holds
pub flag_true : (p : Program) (P : ℕ → Type 0) (flags : List Bool) → AreFlags p P flags → (f : ℕ) → f < first_source_function + length p.functions → P f → is_true (slice_get flags f) ≡ true
flag_true p P flags are f below holds = by (slice_get flags f) refl
  where
    by : (o : Option Bool) → slice_get flags f ≡ o → is_true o ≡ true
    by (Some b) e = (are.exact f b e).1 holds
    by None e = let past = none_past flags f e in absurd (omega (arith, past, below, are.each))

-- ---- names

numbers_names : (xs ys : List ℕ) → same_numbers xs ys ≡ same_name xs ys
numbers_names [] [] = refl
numbers_names [] (y ∷ ys) = refl
numbers_names (x ∷ xs) [] = refl
numbers_names (x ∷ xs) (y ∷ ys) = ap (λ b. (Rattle.std.specs.Prelude.nat_eq x y) && b) (numbers_names xs ys)

-- what passes first passes
pub first_passes : {A : Type 0} (p : A → Bool) (xs : List A) (x : A) → slice_get xs (position_or_len p xs) ≡ Some x → p x ≡ true
first_passes p [] x e = absurd cc
first_passes p (y ∷ xs) x e = by (p y) refl e (λ k. first_passes p xs x k)
  where
    by : (b : Bool) → p y ≡ b → slice_get (y ∷ xs) (cond (not b) (1 + position_or_len p xs) 0) ≡ Some x → (slice_get xs (position_or_len p xs) ≡ Some x → p x ≡ true) → p x ≡ true
    by true is k rest = ap p (sym (same_Some y x k)) ∙ is
    by false is k rest =
        let one : 1 + position_or_len p xs ≡ suc (position_or_len p xs) = omega arith in
        rest (sym (ap (slice_get (y ∷ xs)) one) ∙ k)

-- ---- where `main` stands

module _ (d : Declared) where
  info_main : (at : ℕ) (f : Function) → world.is_main (info_of d at f) ≡ is_named_main f
  info_main at f = numbers_names f.name (codes "main")

  same_place : (at : ℕ) (fs : List Function) → position_or_len world.is_main (infos_from d at fs) ≡ position_or_len is_named_main fs
  same_place at [] = refl
  same_place at (f ∷ fs) =
      let later = at + length (code_of d f.body) in
      ap (λ (b : Bool). cond (not b) (1 + position_or_len world.is_main (infos_from d later fs)) 0) (info_main at f)
      ∙ ap (λ (n : ℕ). cond (not (is_named_main f)) (1 + n) 0) (same_place later fs)

  found_place : (place : ℕ) → position_or_len is_named_main d.functions ≡ place → place < length d.functions → world.main_of (lowered d) ≡ first_source_function + place
  found_place place is within =
      let infos = infos_from d 0 d.functions in
      let at : position_or_len world.is_main infos ≡ place = same_place 0 d.functions ∙ is in
      let there : nat_lt place (length infos) ≡ true = lt-ltb place (length infos) (let many = infos_counted d d.functions 0 in omega (arith, many, within)) in
      ap (λ (n : ℕ). first_source_function + unwrap_or (cond (nat_lt n (length infos)) (Some n) None) 0) at
      ∙ ap (λ (b : Bool). first_source_function + unwrap_or (cond b (Some place) None) 0) there

pub has_body : (t : Table) (o : Option Body) (at : ℕ) → is_some (option_map (body_in t) o) ≡ true → has_entry (entry_at o at) ≡ true
has_body t None at e = absurd cc
has_body t (Some b) at e = refl

-- ---- a `main` of the code

module _ (bytes cut : List ℕ) (c : CheckedSource) (q : Placed) (h : IsPlacedAs bytes cut c q) where
  abbrev d : Declared
  d = c.program

  abbrev p : Program
  p = h.program

  abbrev place : ℕ
  place = position_or_len is_main p.functions

  program : IsProgram d p
  program = (is_of bytes cut c q h).program

  functions : map (function_in d.table) d.functions ≡ p.functions
  functions = ap (λ (r : Program). r.functions) program

  many : length d.functions ≡ length p.functions
  many = function_count d p program

  -- the number of `main`, as the code says and as the cut does
  pub main_is : world.main_of c.code ≡ main_of p
  main_is =
      let (f, at, body) = main_has_a_body h.says.right.ds p h.says.declares in
      let within : place < length d.functions = (let l = slice_get_within p.functions place f at in omega (arith, l, many)) in
      ap world.main_of (is_of bytes cut c q h).code ∙ found_place d place (main_place_is d p program) within

  pub main_below : main_of p < first_source_function + length p.functions
  main_below =
      let (f, at, body) = main_has_a_body h.says.right.ds p h.says.declares in
      let l = slice_get_within p.functions place f at in
      omega (arith, l)

  pub has_main : HasMain (laid_at c q)
  has_main =
      let (f, at, body) = main_has_a_body h.says.right.ds p h.says.declares in
      let (g, there, is) = mapped (function_in d.table) d.functions place f (ap (λ (fs : List sources.Function). slice_get fs place) functions ∙ at) in
      let named : f.name ≡ main = (bytes_eq-Decides f.name main).0 (first_passes is_main p.functions f at) in
      let typed : type_at d.table.types g.ty ≡ main_type = ap (λ (x : sources.Function). x.type) is ∙ main_typed h.says.right.ds p h.says.declares place f at named body in
      let info = info_of d (0 + start d place d.functions) g in
      record {
        info = info;
        known = ap (λ (code : Rattle.c_code.specs.Machine.Flat). func_of code (world.main_of c.code)) (is_of bytes cut c q h).code ∙ (ap (func_of (lowered d)) main_is ∙ known d [] nowhere place g there);
        name = ap (λ (x : sources.Function). x.name) is ∙ named;
        params = ap (λ (t : CType). shapes_of (params_of t)) typed;
        result = ap (λ (t : CType). shape_of (result_of t)) typed;
        body = has_body d.table g.body (0 + start d place d.functions) (ap (λ (x : sources.Function). is_some x.body) is ∙ body);
        runs = ap (may_run q Replay) main_is ∙ flag_true p (May (cut_of cut p h.annotated) Replay) q.replay h.placed.placed.replay (main_of p) main_below begins;
      }
