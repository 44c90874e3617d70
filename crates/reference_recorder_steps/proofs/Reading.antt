-- What `r2_print` reads below the cut, range by range, and that it is there.
use Rattle.std.proofs.Common.{◌≡◌, ℕ, zero, suc, ◌+◌, ◌<◌, Bool, true, false, List, [], ◌∷◌, ◌++◌, length, get_or, take, Option, Some, None, refl, sym, ap, ◌∙◌, inl, inr, arith}
use Rattle.std.proofs.lemmas.Bool.{or_cases, or_left, or_right, true≢false}
use Rattle.std.proofs.lemmas.List.{map-append, take_more}
use Rattle.marks.specs.declared.side.Side.{Side}
use Rattle.marks.specs.declared.side.Side.TheVariants.{System}
use Rattle.marks.specs.declared.range.Range.{Range}
use Rattle.marks.specs.Ranges.{Piece, any_range, covers}
use Rattle.marks.specs.Marks.{Mark}
use Rattle.marks.specs.Wants.{Steps}
use Rattle.memory_map.specs.declared.placed.Placed.{Placed}
use Rattle.c_builtins.specs.declared.builtin.Builtin.{Builtin}
use Rattle.c_builtins.specs.declared.builtin.Builtin.TheVariants as builtins
use Rattle.replay_runs.specs.Interface.{Interface}
use Rattle.replay_runs.specs.Checks.{Checks, Passes, indirect_check}
use Rattle.replay_runs.specs.Rules.{AreWhole}
use Rattle.stub_meaning.specs.Calls.{Done}
use Rattle.whole_runs.specs.World.{World, interface, interface_on}
use Rattle.whole_runs.specs.Outcomes.{builtin_of}
use Rattle.whole_runs.specs.Memory.{Has, HasAll, real}
use Rattle.whole_runs.specs.Below.{read_checks}
use Rattle.whole_runs.specs.Tests.{step_checks, tests}
use Rattle.whole_runs.specs.Steps.{read_by}
use Rattle.recorder_threads.specs.declared.wants.Want.TheVariants as told
use Rattle.reference_recorder_marks.specs.declared.mark.Mark.{Mark as Told}
use Rattle.reference_recorder_marks.specs.Marks.{past}
use Rattle.reference_recorder_targets.specs.Said.{done_on}
use Rattle.reference_recorder_rules.specs.Steps.{IsToMake}
use Rattle.reference_recorder_acts.specs.Bytes.{AreThere, IsRead}
use Rattle.reference_recorder_acts.proofs.Marked.{real_told}
use Rattle.reference_recorder_acts.proofs.Plain.{of_told}
use Rattle.reference_recorder_acts.proofs.Touched.{low_there}
use Rattle.reference_recorder_steps.specs.Reads.{AllThere, AreRead}

-- ---- ranges

-- of each of the ranges all bytes are there
pub one_there : (w : World) (placed : Placed) (marks : List Told) (rs : List Range) (i : ℕ) (d : Range) → w.laid.placed ≡ placed →
    i < length rs → AllThere w marks rs → AreThere placed marks (get_or rs i d)
one_there w placed marks rs i d same lt all = record { world = w; objects = same; each = λ x e. all x (among x rs i lt e) }
  where
    among : (x : ℕ) (qs : List Range) (k : ℕ) → k < length qs → covers (get_or qs k d) x ≡ true → any_range qs x ≡ true
    among x [] k less z = absurd (omega (arith, less))
    among x (q ∷ qs) zero less z = or_left (covers q x) (any_range qs x) z
    among x (q ∷ qs) (suc k) less z = or_right (covers q x) (any_range qs x) (among x qs k (omega (arith, less)) z)

pub none_read : (w : World) (marks : List Told) → AreRead w marks [] []
none_read w marks = record { ranges_are = refl; whole = tt; read = tt }

whole_more : (ps : List Piece) (p : Piece) → AreWhole ps → length p.bytes ≡ p.range.len → AreWhole (ps ++ p ∷ [])
whole_more [] p all e = (e, tt)
whole_more (q ∷ ps) p all e = (all.0, whole_more ps p all.1 e)

has_all_more : (memory : ℕ → Option ℕ) (ps : List Piece) (p : Piece) → HasAll memory ps → Has memory p.range.addr p.bytes →
    HasAll memory (ps ++ p ∷ [])
has_all_more memory [] p all h = (h, tt)
has_all_more memory (q ∷ ps) p all h = (all.0, has_all_more memory ps p all.1 h)

-- one range more
pub read_more : (w : World) (marks : List Told) (rs : List Range) (i : ℕ) (d : Range) (ps : List Piece) (bytes : List ℕ) → i < length rs →
    AreRead w marks (take i rs) ps → IsRead w marks (get_or rs i d) bytes →
    AreRead w marks (take (i + 1) rs) (ps ++ record { range = get_or rs i d; bytes = bytes } ∷ [])
read_more w marks rs i d ps bytes lt before one = record {
  ranges_are =
      map-append (λ (p : Piece). p.range) ps (piece ∷ []) ∙ (ap (λ qs. qs ++ get_or rs i d ∷ []) before.ranges_are ∙ sym (take_more rs i d lt));
  whole = whole_more ps piece before.whole one.count;
  read = has_all_more (real w (past marks)) ps piece before.read one.has;
}
  where
    piece : Piece
    piece = record { range = get_or rs i d; bytes = bytes }

-- what is said of a call there names the ranges
pub named : (w : World) (f : ℕ) (args : List ℕ) (said : Done) (rs : List Range) → said ≡ done_on w System f args 0 → rs ≡ said.ins →
    rs ≡ (interface_on w System f).ins f args
named w f args said rs is e = e ∙ ap (λ (d : Done). d.ins) is

-- ---- what the tests of a step say

past_mode : (i : Interface) (b : Bool) (side : Side) (f : ℕ) (cs : Checks) → Passes (indirect_check i b side f cs) → Passes cs
past_mode i true side f cs p = p.1
past_mode i false side f cs p = p

module _ (w : World) (run : List Mark) (t f : ℕ) (args : List ℕ) where
  no_range_lost : (rs : List Range) → Passes (read_checks w run t rs) → (x : ℕ) → any_range rs x ≡ true → real w run x ≡ None → ⊥
  no_range_lost [] p x e lost = absurd (true≢false (sym e))
  no_range_lost (r ∷ rs) p x e lost = elim (or_cases (covers r x) (any_range rs x) e) [
    | inl here ↦ p.1.0 x (here, lost)
    | inr later ↦ no_range_lost rs p.1.1.1 x later lost
  ]

  -- no byte that is read is lost
  none_lost : (o : Option Builtin) → Passes (step_checks w run t f args o) → (x : ℕ) → any_range (read_by w f args o) x ≡ true →
      real w run x ≡ None → ⊥
  none_lost (Some builtins.Malloc) p x e lost = absurd (true≢false (sym e))
  none_lost (Some builtins.Free) p x e lost = absurd (true≢false (sym e))
  none_lost (Some builtins.Spawn) p x e lost = absurd (true≢false (sym e))
  none_lost (Some builtins.Join) p x e lost = absurd (true≢false (sym e))
  none_lost (Some builtins.Lock) p x e lost = absurd (true≢false (sym e))
  none_lost (Some builtins.Unlock) p x e lost = absurd (true≢false (sym e))
  none_lost (Some builtins.Print) p x e lost = no_range_lost ((interface_on w System f).ins f args) p x e lost
  none_lost None p x e lost = absurd (true≢false (sym e))

-- so each is there
module _ (w : World) (marks : List Told) (thread : ℕ) (i : Bool) (f : ℕ) (args : List ℕ) (to : IsToMake w marks thread System args (told.Step i f)) where
  abbrev ran : List Mark
  ran = to.at.past.run

  passed : Passes (step_checks w ran thread f args (builtin_of f))
  passed =
      past_mode (interface w) i System f (step_checks w ran thread f args (builtin_of f))
      (of_told w marks thread System args (told.Step i f) to.at (Steps i f args) to.at.told (λ u d v. Passes (tests w ran u d v)) to.passes)

  pub all_there : AllThere w marks (read_by w f args (builtin_of f))
  all_there x e = record {
    low = low_there w to.at.past.fit ran to.at.past.follows x there;
    live = λ none. there (sym (real_told w marks to.at.past x) ∙ none);
  }
    where
      there : real w ran x ≡ None → ⊥
      there none = none_lost w ran thread f args (builtin_of f) passed x e none
