-- What one piece and one mark more prints.
use Rattle.std.proofs.Common.{◌≡◌, ℕ, ◌+◌, ◌<◌, ◌≤◌, Bool, true, false, ◌&&◌, cond, List, [], ◌∷◌, ◌++◌, length, get_or, take, refl, sym, ap, ◌∙◌, append_assoc}
use Rattle.std.proofs.lemmas.List.{append-nil, take_all, take_more}
use Rattle.run_events.specs.declared.key.Class.TheVariants.{Out}
use Rattle.marks.specs.declared.side.Side.TheVariants.{Replay}
use Rattle.marks.specs.Ranges.{Piece}
use Rattle.marks.specs.Marks.{Mark}
use Rattle.c_code.specs.MarkLists.{same_side}
use Rattle.replay_runs.specs.Runs.{OfKey, has, new_events}
use Rattle.replay_runs.specs.Keys.{key}
use Rattle.replay_runs.specs.Records.{pieces_in_a_row, printed, printed_by}
use Rattle.whole_runs.specs.Sides.{seen}
use Rattle.whole_runs.specs.Log.{replay_output}
use Rattle.reference_recorder_marks.specs.declared.mark.Mark as coded
use Rattle.reference_recorder_marks.specs.Marks.{act_of, mark_of, past}
use Rattle.reference_recorder_stamps.proofs.Counted.{seen_yes, seen_no}
use Rattle.reference_recorder_log.specs.Records.{IsOutputOf}

row_append : (ps qs : List Piece) → pieces_in_a_row (ps ++ qs) ≡ pieces_in_a_row ps ++ pieces_in_a_row qs
row_append [] qs = refl
row_append (p ∷ ps) qs = ap (λ bs. p.bytes ++ bs) (row_append ps qs) ∙ sym (append_assoc p.bytes (pieces_in_a_row ps) (pieces_in_a_row qs))

pub row_more : (ps : List Piece) (i : ℕ) (p : Piece) → i < length ps → p ≡ get_or ps i p → (old now next : List ℕ) → next ≡ now ++ p.bytes → now ≡ old ++ pieces_in_a_row (take i ps) → next ≡ old ++ pieces_in_a_row (take (i + 1) ps)
row_more ps i p lt is old now next e h =
    e ∙ ap (λ bs. bs ++ p.bytes) h
    ∙ append_assoc old (pieces_in_a_row (take i ps)) p.bytes
    ∙ ap (λ bs. old ++ bs) (
    ap (λ bs. pieces_in_a_row (take i ps) ++ bs) (sym (append-nil p.bytes) ∙ ap (λ (q : Piece). q.bytes ++ []) is)
    ∙ sym (ap pieces_in_a_row (take_more ps i p lt) ∙ row_append (take i ps) (get_or ps i p ∷ [])))

module _ (ms : List coded.Mark) (i : ℕ) (m : coded.Mark) (lt : i < length ms) (is : m ≡ get_or ms i m) where
  pub output_more : (now next : List ℕ) → next ≡ cond (same_side m.side Replay && has (mark_of m) (OfKey (key Out 0))) (now ++ printed (act_of m.act)) now → IsOutputOf (past (take i ms)) now → IsOutputOf (past (take (i + 1) ms)) next
  output_more now next e h w = go (same_side m.side Replay) (has (mark_of m) (OfKey (key Out 0))) refl refl e
    where
      go : (b d : Bool) → same_side m.side Replay ≡ b → has (mark_of m) (OfKey (key Out 0)) ≡ d → next ≡ cond (b && d) (now ++ printed (act_of m.act)) now → next ≡ printed_by (new_events (OfKey (key Out 0)) (seen (past (take (i + 1) ms))))
      go true true above keyed z =
          z ∙ ap (λ bs. bs ++ printed (act_of m.act)) (h w)
          ∙ sym (ap (λ p. printed_by (new_events (OfKey (key Out 0)) p)) (seen_yes ms i m lt is above) ∙ ap (λ b. printed_by (cond b (mark_of m ∷ new_events (OfKey (key Out 0)) (seen (past (take i ms)))) (new_events (OfKey (key Out 0)) (seen (past (take i ms)))))) keyed)
      go true false above keyed z =
          z ∙ h w
          ∙ sym (ap (λ p. printed_by (new_events (OfKey (key Out 0)) p)) (seen_yes ms i m lt is above) ∙ ap (λ b. printed_by (cond b (mark_of m ∷ new_events (OfKey (key Out 0)) (seen (past (take i ms)))) (new_events (OfKey (key Out 0)) (seen (past (take i ms)))))) keyed)
      go false d below keyed z = z ∙ h w ∙ sym (ap (λ p. printed_by (new_events (OfKey (key Out 0)) p)) (seen_no ms i m lt is below))

pub output_all : (ms : List coded.Mark) (i : ℕ) → length ms ≤ i → (bytes : List ℕ) → IsOutputOf (past (take i ms)) bytes → IsOutputOf (past ms) bytes
output_all ms i le bytes h w = h w ∙ ap (λ xs. replay_output w (past xs)) (take_all i ms le)
