-- Areas by first functions are those of a cut.
use Rattle.std.proofs.Common.{◌≡◌, inl, inr, ℕ, zero, suc, ◌+◌, ◌-◌, Bool, true, List, [], ◌∷◌, length, map, get_or, refl, sym, ap, ◌∙◌, subst, arith}
use Rattle.std.specs.Prelude.{◌↔◌, Option, Some, None, slice_get}
use Rattle.std.specs.List.{Contains, range_with_len}
use Rattle.std.proofs.lemmas.Bool.{or_cases, or_left, or_right}
use Rattle.std.proofs.lemmas.List.FromFn.{get_or-map-range_with_len, length-map-range_with_len}
use Rattle.std.proofs.lemmas.Option.{slice_get_within}
use Rattle.marks.specs.declared.side.Side.{Side}
use Rattle.marks.specs.declared.side.Side.TheVariants as sides
use Rattle.c_builtins.specs.Table.{first_source_function}
use Rattle.c_types_program.specs.Declarations.{Declared}
use Rattle.cut_graph_rules.specs.declared.mention.Mention.{Mention}
use Rattle.cut_graph_rules.specs.Sources.{Mentioned, mentions_of}
use Rattle.cut_graph_rules.specs.MayRun.{mentions_in}
use Rattle.cut_graph_rules.specs.Findings.{Cut, IsWritten, May}
use Rattle.isolation_check_rows.specs.declared.kind.MentionKind.{MentionKind}
use Rattle.isolation_check_rows.specs.declared.kind.MentionKind.TheVariants as kinds
use Rattle.isolation_check_rows.specs.declared.sides.Counts.TheVariants as counting
use Rattle.isolation_check_rows.specs.Rows.{counts, first_from, flag, mention_of}
use Rattle.isolation_check_rows.specs.Firsts.{Mentions}
use Rattle.isolation_check_rows.proofs.Firsts.{found, nowhere}
use Rattle.isolation_check_findings.specs.Given.{IsCut}
use Rattle.isolation_check_findings.proofs.Naming.{in_function, parts}
use Rattle.isolation_check_rules.specs.declared.area.Area.{Area}
use Rattle.isolation_check_rules.specs.Areas.{AreAreas, IsMentioned, LiesIn, above, below, shared, written}
use Rattle.isolation_check.specs.Areas.{area_at, area_of}

read_there : {A : Type 0} (xs : List A) (k : ℕ) (a : A) → slice_get xs k ≡ Some a → get_or xs k a ≡ a
read_there [] k a e = refl
read_there (x ∷ xs) zero a e = cc
read_there (x ∷ xs) (suc k) a e = read_there xs k a e

-- what a function gives of the number at a place
pub given_there : {A : Type 0} (g : ℕ → A) (n k : ℕ) (a : A) → slice_get (map g (range_with_len 0 n)) k ≡ Some a → g k ≡ a
given_there g n k a e =
    let many = length-map-range_with_len g 0 n in
    let lt = slice_get_within (map g (range_with_len 0 n)) k a e in
    sym (get_or-map-range_with_len g 0 n k k a (omega (arith, lt, many)) (omega arith)) ∙ read_there (map g (range_with_len 0 n)) k a e

module _ (p : Declared) (n : Mentioned) (aboves belows faces : List Bool) (c : Cut) (k : IsCut p n aboves belows faces c) where
  -- ---- functions that count, and what they mention

  mentions_at : (kind : MentionKind) (count : ℕ → Bool) (place q : ℕ) → Mentions kind count place first_source_function n.functions q
      → Contains (mentions_in (mentions_of c.program) (first_source_function + q)) (mention_of kind place)
  mentions_at kind count place q h =
      subst (λ (m : Mentioned). Contains (mentions_in m (first_source_function + q)) (mention_of kind place)) k.mentions
      (subst (λ (l : List Mention). Contains l (mention_of kind place)) (sym (in_function n q h.list h.there)) h.mentions)

  mentioned_by : (kind : MentionKind) (count : ℕ → Bool) (place f : ℕ) → count f ≡ true
      → Contains (mentions_in (mentions_of c.program) f) (mention_of kind place)
      → (q : ℕ) × (f ≡ first_source_function + q) × Mentions kind count place first_source_function n.functions q
  mentioned_by kind count place f runs h =
      let i = parts n f (mention_of kind place) (subst (λ (m : Mentioned). Contains (mentions_in m f) (mention_of kind place)) (sym k.mentions) h) in
      let e : f ≡ first_source_function + (f - first_source_function) = omega (arith, i.of_source) in (
        f - first_source_function,
        e,
        record {
          list = i.list;
          there = i.at;
          counts = subst (λ (g : ℕ). count g ≡ true) e runs;
          mentions = i.mentions;
        },
      )

  -- ---- who mentions a global

  module _ (side : Side) (count : ℕ → Bool) (iff : (f : ℕ) → (count f ≡ true) ↔ May c side f) (place : ℕ) where
    touched : (a : ℕ) → first_from kinds.Global count place first_source_function n.functions ≡ Some a → IsMentioned c side place
    touched a e =
        let f = found kinds.Global count place first_source_function a n.functions e in (
          first_source_function + f.place,
          record {
            runs = (iff (first_source_function + f.place)).0 f.does.counts;
            mentions = mentions_at kinds.Global count place f.place f.does;
          },
        )

    untouched : first_from kinds.Global count place first_source_function n.functions ≡ None → IsMentioned c side place → ⊥
    untouched e (f, t) =
        let q = mentioned_by kinds.Global count place f ((iff f).1 t.runs) t.mentions in
        nowhere kinds.Global count place first_source_function n.functions e q.0 q.2

  -- ---- who writes it

  is_written : (place w : ℕ) → first_from kinds.Written (counts aboves belows counting.Either) place first_source_function n.functions ≡ Some w
      → IsWritten c place
  is_written place w e =
      let f = found kinds.Written (counts aboves belows counting.Either) place first_source_function w n.functions e in
      let by = first_source_function + f.place in
      let writes = mentions_at kinds.Written (counts aboves belows counting.Either) place f.place f.does in
      elim (or_cases (flag aboves by) (flag belows by) f.does.counts) [
        | inl h ↦ record { side = sides.Replay; by = by; runs = (k.replay by).0 h; writes = writes }
        | inr h ↦ record { side = sides.System; by = by; runs = (k.system by).0 h; writes = writes }
      ]

  either : (side : Side) (f : ℕ) → May c side f → counts aboves belows counting.Either f ≡ true
  either sides.Replay f m = or_left (flag aboves f) (flag belows f) ((k.replay f).1 m)
  either sides.System f m = or_right (flag aboves f) (flag belows f) ((k.system f).1 m)

  not_written : (place : ℕ) → first_from kinds.Written (counts aboves belows counting.Either) place first_source_function n.functions ≡ None
      → IsWritten c place → ⊥
  not_written place e h =
      let q = mentioned_by kinds.Written (counts aboves belows counting.Either) place h.by (either h.side h.by h.runs) h.writes in
      nowhere kinds.Written (counts aboves belows counting.Either) place first_source_function n.functions e q.0 q.2

  -- ---- areas

  module _ (place : ℕ) where
    by : (a b w : Option ℕ) → first_from kinds.Global (counts aboves belows counting.Above) place first_source_function n.functions ≡ a
        → first_from kinds.Global (counts aboves belows counting.Below) place first_source_function n.functions ≡ b
        → first_from kinds.Written (counts aboves belows counting.Either) place first_source_function n.functions ≡ w → LiesIn c place (area_of a b w)
    by None None w ea eb ew = above (untouched sides.System (counts aboves belows counting.Below) k.system place eb)
    by (Some a) None w ea eb ew = above (untouched sides.System (counts aboves belows counting.Below) k.system place eb)
    by None (Some b) w ea eb ew =
        below (untouched sides.Replay (counts aboves belows counting.Above) k.replay place ea) (touched sides.System (counts aboves belows counting.Below) k.system place b eb)
    by (Some a) (Some b) None ea eb ew =
        shared (touched sides.Replay (counts aboves belows counting.Above) k.replay place a ea) (touched sides.System (counts aboves belows counting.Below) k.system place b eb) (not_written place ew)
    by (Some a) (Some b) (Some w) ea eb ew =
        written (touched sides.Replay (counts aboves belows counting.Above) k.replay place a ea) (is_written place w ew)

    lies : LiesIn c place (area_at n.functions aboves belows place)
    lies = by _ _ _ refl refl refl

  pub are_areas : (count : ℕ) → count ≡ length c.program.globals → (all : List Area) → all ≡ map (area_at n.functions aboves belows) (range_with_len 0 count) → AreAreas c all
  are_areas count e all is = record {
    each = ap length is ∙ (length-map-range_with_len (area_at n.functions aboves belows) 0 count ∙ e);
    lie = λ place a h.
        subst (λ (x : Area). LiesIn c place x) (given_there (area_at n.functions aboves belows) count place a (sym (ap (λ (l : List Area). slice_get l place) is) ∙ h)) (lies place);
  }
