-- What is met of one mark, from what is met of its parts.
use Rattle.std.proofs.Common.{◌≡◌, ℕ, Bool, true, false, ◌&&◌, ◌||◌, not, cond, leb, eqb, ◌∙◌, Option, None, List, [], ◌∷◌, ◌++◌, refl, sym, ap, subst}
use Rattle.std.proofs.lemmas.Bool.{and_left}
use Rattle.marks.specs.declared.side.Side.TheVariants.{Replay}
use Rattle.marks.specs.Places.{is_constant}
use Rattle.marks.specs.Ranges.{Piece, any_piece, covers}
use Rattle.marks.specs.Marks.{Mark}
use Rattle.marks.specs.Bytes.{place}
use Rattle.c_code.specs.MarkLists.{same_side}
use Rattle.whole_runs.specs.Sides.{seen}
use Rattle.reference_recorder_races.specs.declared.tested.Tested.{Tested}
use Rattle.reference_recorder_races.specs.Least.{IsLeastAt}
use Rattle.reference_recorder_races.specs.Hits.{meets, meets_act, meets_any, meets_mark, reading, refused, writing}
use Rattle.reference_recorder_races.proofs.Bits.{both_parts, meets_none, read_alone, reading_or, refused_is, write_alone, writing_or}
use Rattle.reference_recorder_races.proofs.Leasts.{no_least, same_least}
use Rattle.reference_recorder_races.proofs.Anys.{IsLesser, piece_append}

module _ (a : Tested) where
  pub none_met : IsLeastAt (λ x. meets a x false false) None
  none_met = no_least (λ x. meets a x false false) (λ x. meets_none (covers a.range x) a.write (is_constant x))

  pub read_met : (s : ℕ → Bool) (o : Option ℕ) → IsLeastAt (λ x. reading a x (s x)) o → IsLeastAt (λ x. meets a x (s x) false) o
  read_met s = same_least (λ x. reading a x (s x)) (λ x. meets a x (s x) false) (λ x. read_alone (covers a.range x) a.write (is_constant x) (s x))

  pub write_met : (s : ℕ → Bool) (o : Option ℕ) → IsLeastAt (λ x. writing a x (s x)) o → IsLeastAt (λ x. meets a x false (s x)) o
  write_met s = same_least (λ x. writing a x (s x)) (λ x. meets a x false (s x)) (λ x. write_alone (covers a.range x) a.write (is_constant x) (s x))

  pub refused_met : (s : ℕ → Bool) (o : Option ℕ) → IsLeastAt (λ x. refused a x (s x)) o → IsLeastAt (λ x. meets a x (s x && is_constant x) (s x && not (is_constant x))) o
  refused_met s = same_least (λ x. refused a x (s x)) (λ x. meets a x (s x && is_constant x) (s x && not (is_constant x))) (λ x. refused_is (covers a.range x) a.write (is_constant x) (s x))

  both_written : (p q : ℕ → Bool) (o : Option ℕ) → IsLeastAt (λ x. writing a x (p x) || writing a x (q x)) o → IsLeastAt (λ x. writing a x (p x || q x)) o
  both_written p q = same_least (λ x. writing a x (p x) || writing a x (q x)) (λ x. writing a x (p x || q x)) (λ x. sym (writing_or (covers a.range x) (p x) (q x)))

  pub call_met : (i o p : ℕ → Bool) (found first second held all : Option ℕ) → IsLeastAt (λ x. reading a x (i x)) found → IsLeastAt (λ x. writing a x (o x)) first → IsLeastAt (λ x. writing a x (p x)) second
      → IsLesser first second held → IsLesser found held all → IsLeastAt (λ x. meets a x (i x) (o x || p x)) all
  call_met i o p found first second held all f g h inner outer = outer (λ x. reading a x (i x)) (λ x. writing a x (o x || p x)) f (both_written o p held (inner (λ x. writing a x (o x)) (λ x. writing a x (p x)) g h))

  pub ret_met : (outs more : List Piece) (first second all : Option ℕ) → IsLeastAt (λ x. writing a x (any_piece outs x)) first → IsLeastAt (λ x. writing a x (any_piece more x)) second → IsLesser first second all
      → IsLeastAt (λ x. meets a x false (any_piece (outs ++ more) x)) all
  ret_met outs more first second all g h outer =
      write_met (any_piece (outs ++ more)) all
      (same_least (λ x. writing a x (any_piece outs x || any_piece more x)) (λ x. writing a x (any_piece (outs ++ more) x)) (λ x. ap (writing a x) (sym (piece_append outs more x))) all
      (both_written (any_piece outs) (any_piece more) all (outer (λ x. writing a x (any_piece outs x)) (λ x. writing a x (any_piece more x)) g h)))

  pub fault_met : (i o r s : ℕ → Bool) (found first second held all : Option ℕ) → IsLeastAt (λ x. reading a x (i x)) found → IsLeastAt (λ x. writing a x (o x)) first → IsLeastAt (λ x. meets a x (r x) (s x)) second
      → IsLesser first second held → IsLesser found held all → IsLeastAt (λ x. meets a x (i x || r x) (o x || s x)) all
  fault_met i o r s found first second held all f g h inner outer =
      same_least (λ x. reading a x (i x) || (writing a x (o x) || meets a x (r x) (s x))) (λ x. meets a x (i x || r x) (o x || s x)) parts all
      (outer (λ x. reading a x (i x)) (λ x. writing a x (o x) || meets a x (r x) (s x)) f (inner (λ x. writing a x (o x)) (λ x. meets a x (r x) (s x)) g h))
    where
      parts : (x : ℕ) → (reading a x (i x) || (writing a x (o x) || meets a x (r x) (s x))) ≡ meets a x (i x || r x) (o x || s x)
      parts x =
          both_parts (reading a x (i x)) (writing a x (o x)) (reading a x (r x)) (writing a x (s x))
          ∙ (λ k. sym (reading_or (covers a.range x) a.write (is_constant x) (i x) (r x)) k || sym (writing_or (covers a.range x) (o x) (s x)) k)

  -- ---- marks of a thread

  pub mark_met : (u known : ℕ) (m : Mark) (o : Option ℕ) → (eqb m.thread u && leb known (place m)) ≡ true → IsLeastAt (meets_act a m.act) o → IsLeastAt (meets_mark a u known m) o
  mark_met u known m o both = same_least (meets_act a m.act) (meets_mark a u known m) (λ x. ap (λ b. b && meets_act a m.act x) (sym both)) o

  pub mark_passed : (u known : ℕ) (m : Mark) → (eqb m.thread u && leb known (place m)) ≡ false → IsLeastAt (meets_mark a u known m) None
  mark_passed u known m absent = no_least (meets_mark a u known m) (λ x. and_left (eqb m.thread u && leb known (place m)) (meets_act a m.act x) absent)

  pub nothing_met : (u known : ℕ) → IsLeastAt (meets_any a u known (seen [])) None
  nothing_met u known = no_least (meets_any a u known (seen [])) (λ x. refl)

  pub after_met : (u known : ℕ) (m : Mark) → same_side m.side Replay ≡ true → (found best new : Option ℕ) → IsLeastAt (meets_mark a u known m) found → IsLesser found best new
      → (before : List Mark) → IsLeastAt (meets_any a u known (seen before)) best → IsLeastAt (meets_any a u known (seen (m ∷ before))) new
  after_met u known m above found best new f outer before h = subst (λ b. IsLeastAt (meets_any a u known (cond b (m ∷ seen before) (seen before))) new) (sym above) (outer (meets_mark a u known m) (meets_any a u known (seen before)) f h)

  pub after_skipped : (u known : ℕ) (m : Mark) → same_side m.side Replay ≡ false → (best : Option ℕ) → (before : List Mark) → IsLeastAt (meets_any a u known (seen before)) best → IsLeastAt (meets_any a u known (seen (m ∷ before))) best
  after_skipped u known m below best before h = subst (λ b. IsLeastAt (meets_any a u known (cond b (m ∷ seen before) (seen before))) best) (sym below) h
