-- The turn with which words begin.
use Rattle.std.proofs.Common.{◌≡◌, ℕ, ◌+◌, ◌*◌, ◌-◌, ◌<◌, ◌≤◌, Bool, true, false, cond, eqb, List, [], ◌∷◌, ◌++◌, length, get_or, take, drop, Some, None, refl, sym, ap, ◌∙◌, subst, append_assoc, append-nil, arith, eqb-true}
use Rattle.std.specs.Prelude.{nat_le}
use Rattle.std.specs.List.{onto_first}
use Rattle.std.specs.Option.{option_and_then, option_map}
use Rattle.std.proofs.lemmas.Bool.{and_parts, leb-true, ne_eqb}
use Rattle.std.proofs.lemmas.List.{take_all}
use Rattle.std.proofs.lemmas.Option.{same_Some}
use Rattle.sys_script_lines.specs.Each.{before, each}
use Rattle.sys_script_lines.specs.Numbers.{IsLeading, digits_from, is_digit, number, number_in, within}
use Rattle.sys_script_lines.specs.Parts.{IsPart, cut_at, onto, parts}
use Rattle.sys_script_lines.specs.Turns.{turn, turn_by}
use Rattle.sys_script_lines.proofs.Digits.{within_is}
use Rattle.sys_script_lines.proofs.Firsts.{part_then}

low : (b : ℕ) → is_digit b ≡ true → 48 ≤ b
low b is = leb-true 48 b (and_parts (nat_le 48 b) (nat_le b 57) is).0

high : (b : ℕ) → is_digit b ≡ true → b ≤ 57
high b is = leb-true b 57 (and_parts (nat_le 48 b) (nat_le b 57) is).1

-- a digit is none of the bytes before it
isnt : (b end : ℕ) → is_digit b ≡ true → end < 48 → eqb b end ≡ false
isnt b end is lt = let le = low b is in ne_eqb b end (λ e. omega (arith, le))

-- one digit more after others
digits_more : (m n b : ℕ) (ds : List ℕ) → is_digit b ≡ true → digits_from m ds ≡ Some n → digits_from m (ds ++ b ∷ []) ≡ Some (n * 10 + (b - 48))
digits_more m n b [] is e = ap (λ c. cond c (Some (m * 10 + (b - 48))) None) is ∙ ap (λ k. Some (k * 10 + (b - 48))) (same_Some m n e)
digits_more m n b (d ∷ ds) is e = by (digits_more (m * 10 + (d - 48)) n b ds is) (is_digit d) refl e
  where
    by : (digits_from (m * 10 + (d - 48)) ds ≡ Some n → digits_from (m * 10 + (d - 48)) (ds ++ b ∷ []) ≡ Some (n * 10 + (b - 48)))
        → (t : Bool) → is_digit d ≡ t → cond t (digits_from (m * 10 + (d - 48)) ds) None ≡ Some n → digits_from m (d ∷ ds ++ b ∷ []) ≡ Some (n * 10 + (b - 48))
    by later true z k = ap (λ c. cond c (digits_from (m * 10 + (d - 48)) (ds ++ b ∷ [])) None) z ∙ later k
    by later false z k = absurd cc

number_more : (n b : ℕ) (ds : List ℕ) → is_digit b ≡ true → 1 ≤ n → number ds ≡ Some n → number (ds ++ b ∷ []) ≡ Some (n * 10 + (b - 48))
number_more n b [] is some e = absurd cc
number_more n b (d ∷ []) is some e = by (eqb d 48) refl
  where
    by : (t : Bool) → eqb d 48 ≡ t → number (d ∷ b ∷ []) ≡ Some (n * 10 + (b - 48))
    by true z =
        let k : Some 0 ≡ Some n = ap (λ c. digits_from 0 (c ∷ [])) (sym (eqb-true d 48 z)) ∙ e in
        let none : 0 ≡ n = same_Some 0 n k in
        absurd (omega (arith, none, some))
    by false z = ap (λ c. cond c None (digits_from 0 (d ∷ b ∷ []))) z ∙ digits_more 0 n b (d ∷ []) is e
number_more n b (d ∷ c ∷ ds) is some e = by (eqb d 48) refl e
  where
    by : (t : Bool) → eqb d 48 ≡ t → cond t None (digits_from 0 (d ∷ c ∷ ds)) ≡ Some n → number (d ∷ c ∷ ds ++ b ∷ []) ≡ Some (n * 10 + (b - 48))
    by true z k = absurd cc
    by false z k = ap (λ t. cond t None (digits_from 0 (d ∷ c ∷ ds ++ b ∷ []))) z ∙ digits_more 0 n b (d ∷ c ∷ ds) is k

number_digits : (n : ℕ) (ds : List ℕ) → number ds ≡ Some n → digits_from 0 ds ≡ Some n
number_digits n [] e = absurd cc
number_digits n (d ∷ []) e = e
number_digits n (d ∷ c ∷ ds) e = by (eqb d 48) e
  where
    by : (t : Bool) → cond t None (digits_from 0 (d ∷ c ∷ ds)) ≡ Some n → digits_from 0 (d ∷ c ∷ ds) ≡ Some n
    by true k = absurd cc
    by false k = k

number_within : (least most n : ℕ) (ds : List ℕ) → number ds ≡ Some n → least ≤ n → n ≤ most → number_in least most ds ≡ Some n
number_within least most n ds e low high = ap (option_and_then (within least most)) e ∙ within_is least most n low high

-- a text as its first byte and what the code names as the others
pub first_then : (text : List ℕ) (b : ℕ) → 1 ≤ length text → get_or text 0 0 ≡ b → text ≡ b ∷ take (length text - 1) (drop 1 text)
first_then [] b le is = absurd (omega arith)
first_then (c ∷ cs) b le is = ap (λ d. d ∷ cs) is ∙ ap (λ r. b ∷ r) (sym (take_all (length (c ∷ cs) - 1) cs (omega arith)))

pub leading_first : (text : List ℕ) → 1 ≤ length text → is_digit (get_or text 0 0) ≡ true → IsLeading text (get_or text 0 0 - 48) (take (length text - 1) (drop 1 text))
leading_first text le is =
    let b = get_or text 0 0 in
    let same : 0 * 10 + (b - 48) ≡ b - 48 = omega arith in
    record {
      digits = b ∷ [];
      text_is = first_then text b le refl;
      number_is = ap (λ c. cond c (Some (0 * 10 + (b - 48))) None) is ∙ ap Some same;
    }

pub leading_more : (all text : List ℕ) (n : ℕ) → 1 ≤ length text → is_digit (get_or text 0 0) ≡ true → 1 ≤ n → IsLeading all n text
    → IsLeading all (n * 10 + (get_or text 0 0 - 48)) (take (length text - 1) (drop 1 text))
leading_more all text n le is some lead =
    let b = get_or text 0 0 in
    record {
      digits = lead.digits ++ b ∷ [];
      text_is = lead.text_is ∙ (ap (λ r. lead.digits ++ r) (first_then text b le refl) ∙ sym (append_assoc lead.digits (b ∷ []) (take (length text - 1) (drop 1 text))));
      number_is = number_more n b lead.digits is some lead.number_is;
    }

part_onto : (end b : ℕ) (bs : List ℕ) → eqb b end ≡ false → IsPart end bs → IsPart end (b ∷ bs)
part_onto end b bs isnt_end h = ap (λ c. cond c ([] ∷ parts end bs) (onto_first b (parts end bs))) isnt_end ∙ ap (onto_first b) h

-- digits before a part
digits_onto : (end m n : ℕ) (ds more : List ℕ) → end < 48 → IsPart end more → digits_from m ds ≡ Some n → IsPart end (ds ++ more)
digits_onto end m n [] more lt h e = h
digits_onto end m n (d ∷ ds) more lt h e = by (digits_onto end (m * 10 + (d - 48)) n ds more lt h) (is_digit d) refl e
  where
    by : (digits_from (m * 10 + (d - 48)) ds ≡ Some n → IsPart end (ds ++ more)) → (t : Bool) → is_digit d ≡ t → cond t (digits_from (m * 10 + (d - 48)) ds) None ≡ Some n → IsPart end (d ∷ ds ++ more)
    by later true z k = part_onto end d (ds ++ more) (isnt d end z lt) (later k)
    by later false z k = absurd cc

digits_part : (n : ℕ) (ds : List ℕ) → number ds ≡ Some n → IsPart 32 ds
digits_part n ds e = subst (IsPart 32) (append-nil ds) (digits_onto 32 0 n ds [] (omega arith) refl (number_digits n ds e))

-- no `*` is among digits
no_star : (m n : ℕ) (ds : List ℕ) → digits_from m ds ≡ Some n → cut_at 42 ds ≡ None
no_star m n [] e = refl
no_star m n (d ∷ ds) e = by (no_star (m * 10 + (d - 48)) n ds) (is_digit d) refl e
  where
    by : (digits_from (m * 10 + (d - 48)) ds ≡ Some n → cut_at 42 ds ≡ None) → (t : Bool) → is_digit d ≡ t → cond t (digits_from (m * 10 + (d - 48)) ds) None ≡ Some n → cut_at 42 (d ∷ ds) ≡ None
    by later true z k = ap (λ c. cond c (Some ([], ds)) (option_map (onto d) (cut_at 42 ds))) (isnt d 42 z (omega arith)) ∙ ap (option_map (onto d)) (later k)
    by later false z k = absurd cc

star_after : (m n : ℕ) (ds es : List ℕ) → digits_from m ds ≡ Some n → cut_at 42 (ds ++ 42 ∷ es) ≡ Some (ds, es)
star_after m n [] es e = refl
star_after m n (d ∷ ds) es e = by (star_after (m * 10 + (d - 48)) n ds es) (is_digit d) refl e
  where
    by : (digits_from (m * 10 + (d - 48)) ds ≡ Some n → cut_at 42 (ds ++ 42 ∷ es) ≡ Some (ds, es)) → (t : Bool) → is_digit d ≡ t → cond t (digits_from (m * 10 + (d - 48)) ds) None ≡ Some n → cut_at 42 (d ∷ ds ++ 42 ∷ es) ≡ Some (d ∷ ds, es)
    by later true z k = ap (λ c. cond c (Some ([], ds ++ 42 ∷ es)) (option_map (onto d) (cut_at 42 (ds ++ 42 ∷ es)))) (isnt d 42 z (omega arith)) ∙ ap (option_map (onto d)) (later k)
    by later false z k = absurd cc

turn_alone : (t : ℕ) (ds : List ℕ) → number ds ≡ Some t → t ≤ 31 → turn ds ≡ Some (t, 1)
turn_alone t ds e few = ap (turn_by ds) (no_star 0 t ds (number_digits t ds e)) ∙ ap (option_map (λ (n : ℕ). (n, 1))) (number_within 0 31 t ds e (omega arith) few)

turn_times : (t s : ℕ) (ds es : List ℕ) → number ds ≡ Some t → t ≤ 31 → number es ≡ Some s → 1 ≤ s → s ≤ 1000000 → turn (ds ++ 42 ∷ es) ≡ Some (t, s)
turn_times t s ds es e few f some most =
    ap (turn_by (ds ++ 42 ∷ es)) (star_after 0 t ds es (number_digits t ds e))
    ∙ (ap (option_and_then (λ (n : ℕ). option_map (λ (m : ℕ). (n, m)) (number_in 1 1000000 es))) (number_within 0 31 t ds e (omega arith) few)
    ∙ ap (option_map (λ (m : ℕ). (t, m))) (number_within 1 1000000 s es f some most))

-- words that begin with a word that is a turn
begins : (words word rest : List ℕ) (next : ℕ × ℕ) → words ≡ word ++ 32 ∷ rest → IsPart 32 word → turn word ≡ Some next → each turn (parts 32 words) ≡ before (each turn (parts 32 rest)) next
begins words word rest next is one e = ap (λ w. each turn (parts 32 w)) is ∙ (ap (each turn) (part_then 32 word rest one) ∙ ap (option_and_then (before (each turn (parts 32 rest)))) e)

pub alone : (words rest : List ℕ) (t : ℕ) → IsLeading words t (32 ∷ rest) → t ≤ 31 → each turn (parts 32 words) ≡ before (each turn (parts 32 rest)) (t, 1)
alone words rest t lead few = begins words lead.digits rest (t, 1) lead.text_is (digits_part t lead.digits lead.number_is) (turn_alone t lead.digits lead.number_is few)

-- the same where the turn is one digit
pub one_digit : (words : List ℕ) → 2 ≤ length words → is_digit (get_or words 0 0) ≡ true → get_or words 1 0 ≡ 32
    → each turn (parts 32 words) ≡ before (each turn (parts 32 (take (length words - 2) (drop 2 words)))) (get_or words 0 0 - 48, 1)
one_digit [] le is blank = absurd (omega arith)
one_digit (t ∷ []) le is blank = absurd (omega arith)
one_digit (t ∷ b ∷ after) le is blank =
    let few = high t is in
    let same : 0 * 10 + (t - 48) ≡ t - 48 = omega arith in
    let lead : IsLeading (t ∷ 32 ∷ after) (t - 48) (32 ∷ after) = record {
      digits = t ∷ [];
      text_is = refl;
      number_is = ap (λ c. cond c (Some (0 * 10 + (t - 48))) None) is ∙ ap Some same;
    } in
    ap (λ (w : ℕ). each turn (parts 32 (t ∷ w ∷ after))) blank
    ∙ (alone (t ∷ 32 ∷ after) after (t - 48) lead (omega (arith, few))
    ∙ ap (λ (r : List ℕ). before (each turn (parts 32 r)) (t - 48, 1)) (sym (take_all (length (t ∷ b ∷ after) - 2) after (omega arith))))

pub times : (words text rest : List ℕ) (t s : ℕ) → IsLeading words t (42 ∷ text) → t ≤ 31 → IsLeading text s (32 ∷ rest) → 1 ≤ s → s ≤ 1000000
    → each turn (parts 32 words) ≡ before (each turn (parts 32 rest)) (t, s)
times words text rest t s lead few steps some most =
    let ds = lead.digits in
    let es = steps.digits in
    let whole : words ≡ (ds ++ 42 ∷ es) ++ 32 ∷ rest = lead.text_is ∙ (ap (λ r. ds ++ 42 ∷ r) steps.text_is ∙ sym (append_assoc ds (42 ∷ es) (32 ∷ rest))) in
    let one : IsPart 32 (ds ++ 42 ∷ es) = digits_onto 32 0 t ds (42 ∷ es) (omega arith) (part_onto 32 42 es refl (digits_part s es steps.number_is)) (number_digits t ds lead.number_is) in
    begins words (ds ++ 42 ∷ es) rest (t, s) whole one (turn_times t s ds es lead.number_is few steps.number_is some most)
