-- What a system file that is read says is in its ranges.
use Rattle.std.proofs.Common.{◌≡◌, ◌≢◌, ◌≤◌, ◌<◌, ◌^◌, ℕ, ◌+◌, ◌-◌, ◌*◌, Bool, true, false, cond, ◌&&◌, eqb, List, [], ◌∷◌, ◌++◌, length, Option, Some, None, Ok, refl, sym, ◌∙◌, subst, arith}
use Rattle.std.specs.Prelude.{codes, nat_le}
use Rattle.std.specs.List.{AllByRecursion}
use Rattle.std.specs.Option.{IfSome, option_and_then, option_map, unwrap_or}
use Rattle.std.specs.Str.{bytes_eq}
use Rattle.std.proofs.lemmas.Bool.{and_parts, leb-true, eqb-true}
use Rattle.std.proofs.lemmas.List.Splits.{length-slice_split}
use Rattle.std.proofs.lemmas.Option.{same_Some}
use Rattle.system_side.specs.declared.file.Scripted.{Scripted}
use Rattle.system_side.specs.declared.file.SysFile.{SysFile}
use Rattle.sys_script_lines.specs.declared.externals.External.{External}
use Rattle.sys_script_lines.specs.Answers.{answer, answer_by, answer_of, result_in, scripted}
use Rattle.sys_script_lines.specs.Each.{before, each}
use Rattle.sys_script_lines.specs.Lines.{Item, Nothing, Budget, Chunk, Schedule, Answer, answer_line, budget_line, chunk_line, said_by, says, schedule_line}
use Rattle.sys_script_lines.specs.Numbers.{number, number_in, within}
use Rattle.sys_script_lines.specs.Parts.{cut_at, parts}
use Rattle.sys_script_lines.specs.Pieces.{hex_byte, hex_bytes, hex_digit, piece}
use Rattle.sys_script_lines.specs.Scripts.{IsRead, SaidSoFar, Script, Reads, Breaks, after_line, at_end, file_of, goes_on, heard, nothing, once, script, script_of}
use Rattle.sys_script_lines.specs.Turns.{thread, turn, turn_by}
use Rattle.sys_script_lines.specs.Fits.{AreBytes, IsAnswerOf, IsFit, IsInRange, IsTurn, below_zero, up_to}

-- ---- options

then_some : {A B : Type 0} (f : A → Option B) (o : Option A) (y : B) → option_and_then f o ≡ Some y → (x : A) × (o ≡ Some x) × (f x ≡ Some y)
then_some f (Some x) y e = (x, refl, e)
then_some f None y e = absurd cc

map_some : {A B : Type 0} (f : A → B) (o : Option A) (y : B) → option_map f o ≡ Some y → (x : A) × (o ≡ Some x) × (f x ≡ y)
map_some f (Some x) y e = (x, refl, same_Some (f x) y e)
map_some f None y e = absurd cc

-- what is there only if a test passes
if_some : {A : Type 0} (b : Bool) (o : Option A) (y : A) → cond b o None ≡ Some y → (b ≡ true) × (o ≡ Some y)
if_some true o y e = (refl, e)
if_some false o y e = absurd cc

-- ---- numbers

within_some : (least most x n : ℕ) → within least most x ≡ Some n → (least ≤ n) × (n ≤ most)
within_some least most x n e =
    let (test, is) = if_some (nat_le least x && nat_le x most) (Some x) n e in
    let same : x ≡ n = same_Some x n is in
    let ends = and_parts (nat_le least x) (nat_le x most) test in
    let low = leb-true least x ends.0 in
    let high = leb-true x most ends.1 in
    (omega (arith, low, same), omega (arith, high, same))

number_within : (least most : ℕ) (text : List ℕ) (n : ℕ) → number_in least most text ≡ Some n → (least ≤ n) × (n ≤ most)
number_within least most text n e =
    let (x, is, in_range) = then_some (within least most) (number text) n e in
    within_some least most x n in_range

-- ---- lists of words

each_all : {A : Type 0} (P : A → Type 0) (item : List ℕ → Option A) → ((w : List ℕ) (x : A) → item w ≡ Some x → P x) → (words : List (List ℕ)) (xs : List A) → each item words ≡ Some xs → AllByRecursion P xs
each_all P item h [] xs e = subst (AllByRecursion P) (same_Some [] xs e) tt
each_all P item h (w ∷ ws) xs e =
    let (x, is, more) = then_some (before (each item ws)) (item w) xs e in
    let (ys, rest, whole) = map_some (λ zs. x ∷ zs) (each item ws) xs more in
    subst (AllByRecursion P) whole (h w x is, each_all P item h ws ys rest)

each_some : {A : Type 0} (item : List ℕ → Option A) (words : List (List ℕ)) (xs : List A) → 0 < length words → each item words ≡ Some xs → xs ≢ []
each_some item [] xs some e = absurd (omega (arith, some))
each_some item (w ∷ ws) xs some e =
    let (x, is, more) = then_some (before (each item ws)) (item w) xs e in
    let (ys, rest, whole) = map_some (λ zs. x ∷ zs) (each item ws) xs more in
    λ none. absurd (let bad : x ∷ ys ≡ [] = whole ∙ none in cc)

-- ---- turns

threads : (text : List ℕ) (t : ℕ) → thread text ≡ Some t → t < 32
threads text t e = let (low, high) = number_within 0 31 text t e in omega (arith, high)

turn_fits : (w : List ℕ) (item : ℕ × ℕ) → turn w ≡ Some item → IsTurn item
turn_fits w item e = by (cut_at 42 w) e
  where
    by : (o : Option (List ℕ × List ℕ)) → turn_by w o ≡ Some item → IsTurn item
    by None k =
        let (t, is, whole) = map_some (λ (n : ℕ). (n, 1)) (thread w) item k in
        subst IsTurn whole (record { thread = threads w t is; some = omega arith; few = omega arith })
    by (Some halves) k =
        let (t, is, more) = then_some _ (thread halves.0) item k in
        let (n, many, whole) = map_some (λ (m : ℕ). (t, m)) (number_in 1 1000000 halves.1) item more in
        let (low, high) = number_within 1 1000000 halves.1 n many in
        subst IsTurn whole (record { thread = threads halves.0 t is; some = low; few = high })

-- ---- pieces

digit_small : (b n : ℕ) → hex_digit b ≡ Some n → n < 16
digit_small b n e = by (nat_le 48 b && nat_le b 57) (nat_le 97 b && nat_le b 102) refl refl e
  where
    by : (c d : Bool) → (nat_le 48 b && nat_le b 57) ≡ c → (nat_le 97 b && nat_le b 102) ≡ d → cond c (Some (b - 48)) (cond d (Some (b - 97 + 10)) None) ≡ Some n → n < 16
    by true d t u k =
        let ends = and_parts (nat_le 48 b) (nat_le b 57) t in
        let high = leb-true b 57 ends.1 in
        let is : b - 48 ≡ n = same_Some (b - 48) n k in
        omega (arith, high, is)
    by false true t u k =
        let ends = and_parts (nat_le 97 b) (nat_le b 102) u in
        let high = leb-true b 102 ends.1 in
        let low = leb-true 97 b ends.0 in
        let is : b - 97 + 10 ≡ n = same_Some (b - 97 + 10) n k in
        omega (arith, high, low, is)
    by false false t u k = absurd cc

byte_small : (high low n : ℕ) → hex_byte high low ≡ Some n → n < 256
byte_small high low n e =
    let (h, is, more) = then_some _ (hex_digit high) n e in
    let (l, also, whole) = map_some (λ (m : ℕ). h * 16 + m) (hex_digit low) n more in
    let a = digit_small high h is in
    let b = digit_small low l also in
    omega (arith, a, b, whole)

bytes_small : (text bs : List ℕ) → hex_bytes text ≡ Some bs → AreBytes bs
bytes_small [] bs e = subst AreBytes (same_Some [] bs e) tt
bytes_small (b ∷ []) bs e = absurd cc
bytes_small (high ∷ low ∷ digits) bs e =
    let (n, is, more) = then_some (before (hex_bytes digits)) (hex_byte high low) bs e in
    let (ms, rest, whole) = map_some (λ (zs : List ℕ). n ∷ zs) (hex_bytes digits) bs more in
    subst AreBytes whole (byte_small high low n is, bytes_small digits ms rest)

piece_small : (w bs : List ℕ) → piece w ≡ Some bs → AreBytes bs
piece_small [] bs e = absurd cc
piece_small (b ∷ []) bs e =
    let (t, is) = if_some (eqb b 45) (Some []) bs e in
    subst AreBytes (same_Some [] bs is) tt
piece_small (b ∷ c ∷ digits) bs e = bytes_small (b ∷ c ∷ digits) bs e

-- ---- answers

result_within : (e : External) (text : List ℕ) (r : ℕ) → result_in e text ≡ Some r → IsInRange e.below e.most r
result_within e [] r h = absurd cc
result_within e (b ∷ bs) r h = by (eqb b 45) h
  where
    by : (c : Bool) → cond c (option_map (λ (n : ℕ). 2 ^ 64 - n) (number_in 1 e.below bs)) (number_in 0 e.most (b ∷ bs)) ≡ Some r → IsInRange e.below e.most r
    by true k =
        let (n, is, whole) = map_some (λ (m : ℕ). 2 ^ 64 - m) (number_in 1 e.below bs) r k in
        let (low, high) = number_within 1 e.below bs n is in
        subst (IsInRange e.below e.most) whole (below_zero {n = n} low high)
    by false k = up_to (number_within 0 e.most (b ∷ bs) r k).1

module _ (who : List ℕ → Option External) where
  answer_fits : (words : List (List ℕ)) (a : Scripted) → answer who words ≡ Some a → IsAnswerOf who a
  answer_fits [] a e = absurd cc
  answer_fits (name ∷ words) a e =
      let (x, known, more) = then_some (λ (x : External). answer_of x words) (who name) a e in
      of_words name x known words more
    where
      of_words : (name : List ℕ) (x : External) → who name ≡ Some x → (words : List (List ℕ)) → answer_of x words ≡ Some a → IsAnswerOf who a
      of_words name x known [] k = absurd cc
      of_words name x known (result ∷ pieces) k =
          let (ps, is, more) = then_some (answer_by x result) (each piece pieces) a k in
          let (many, there) = if_some (eqb (length ps) x.pieces) (option_map (scripted x ps) (result_in x result)) a more in
          let (r, value, whole) = map_some (scripted x ps) (result_in x result) a there in
          subst (IsAnswerOf who) whole (record {
            name = name;
            external = x;
            known = known;
            func = refl;
            result = result_within x result r value;
            pieces = eqb-true (length ps) x.pieces many;
            bytes = each_all AreBytes piece piece_small pieces ps is;
          })

  -- ---- lines

  -- what is said of a schedule
  abbrev IsSchedule : List (ℕ × ℕ) → Type 0
  IsSchedule turns = (turns ≢ []) × AllByRecursion IsTurn turns

  abbrev IsFitSaid : Item → Type 0
  IsFitSaid Nothing = Unit {0}
  IsFitSaid (Budget n) = n ≤ 100000000
  IsFitSaid (Chunk n) = (1 ≤ n) × (n ≤ 65535)
  IsFitSaid (Schedule turns) = IsSchedule turns
  IsFitSaid (Answer a) = IsAnswerOf who a

  parts_some : (text : List ℕ) → 0 < length (parts 32 text)
  parts_some text = let n = length-slice_split (λ (b : ℕ). eqb b 32) text in omega (arith, n)

  said_fits : (word rest : List ℕ) (item : Item) → said_by who word rest ≡ Some item → IsFitSaid item
  said_fits word rest item e = by (bytes_eq word (codes "budget")) (bytes_eq word (codes "chunk")) (bytes_eq word (codes "schedule")) (bytes_eq word (codes "answer")) e
    where
      by : (a b c d : Bool) → cond a (budget_line rest) (cond b (chunk_line rest) (cond c (schedule_line rest) (cond d (answer_line who rest) None))) ≡ Some item → IsFitSaid item
      by true b c d k =
          let (n, is, whole) = map_some Budget (number_in 0 100000000 rest) item k in
          subst IsFitSaid whole (number_within 0 100000000 rest n is).1
      by false true c d k =
          let (n, is, whole) = map_some Chunk (number_in 1 65535 rest) item k in
          subst IsFitSaid whole (number_within 1 65535 rest n is)
      by false false true d k =
          let (turns, is, whole) = map_some Schedule (each turn (parts 32 rest)) item k in
          subst IsFitSaid whole (each_some turn (parts 32 rest) turns (parts_some rest) is, each_all IsTurn turn turn_fits (parts 32 rest) turns is)
      by false false false true k =
          let (a, is, whole) = map_some Answer (answer who (parts 32 rest)) item k in
          subst IsFitSaid whole (answer_fits (parts 32 rest) a is)
      by false false false false k = absurd cc

  line_fits : (line : List ℕ) (item : Item) → says who line ≡ Some item → IsFitSaid item
  line_fits [] item e = subst IsFitSaid (same_Some Nothing item e) tt
  line_fits (b ∷ bs) item e = by (eqb b 35) e
    where
      by : (c : Bool) → cond c (Some Nothing) (option_and_then (λ (h : List ℕ × List ℕ). said_by who h.0 h.1) (cut_at 32 (b ∷ bs))) ≡ Some item → IsFitSaid item
      by true k = subst IsFitSaid (same_Some Nothing item k) tt
      by false k =
          let (h, is, said) = then_some (λ (x : List ℕ × List ℕ). said_by who x.0 x.1) (cut_at 32 (b ∷ bs)) item k in
          said_fits h.0 h.1 item said

  -- ---- files

  record AreFit (s : SaidSoFar) : Type 0 where
    budget : IfSome s.budget (λ n. n ≤ 100000000)
    chunk : IfSome s.chunk (λ n. (1 ≤ n) × (n ≤ 65535))
    schedule : IfSome s.schedule IsSchedule
    answers : AllByRecursion (IsAnswerOf who) s.answers

  once_some : {A : Type 0} (o : Option A) (x : A) (p : Option A) → once o x ≡ Some p → p ≡ Some x
  once_some None x p e = sym (same_Some (Some x) p e)
  once_some (Some y) x p e = absurd cc

  push : {A : Type 0} (P : A → Type 0) (xs : List A) (x : A) → AllByRecursion P xs → P x → AllByRecursion P (xs ++ x ∷ [])
  push P [] x h p = (p, tt)
  push P (y ∷ xs) x h p = (h.0, push P xs x h.1 p)

  heard_fits : (s : SaidSoFar) (item : Item) (t : SaidSoFar) → AreFit s → IsFitSaid item → heard s item ≡ Some t → AreFit t
  heard_fits s Nothing t h i e = subst AreFit (same_Some s t e) h
  heard_fits s (Budget n) t h i e =
      let (o, is, whole) = map_some (λ (p : Option ℕ). record s { budget = p }) (once s.budget n) t e in
      subst AreFit whole (record { budget = subst (λ p. IfSome p (λ m. m ≤ 100000000)) (sym (once_some s.budget n o is)) i; chunk = h.chunk; schedule = h.schedule; answers = h.answers })
  heard_fits s (Chunk n) t h i e =
      let (o, is, whole) = map_some (λ (p : Option ℕ). record s { chunk = p }) (once s.chunk n) t e in
      subst AreFit whole (record { budget = h.budget; chunk = subst (λ p. IfSome p (λ m. (1 ≤ m) × (m ≤ 65535))) (sym (once_some s.chunk n o is)) i; schedule = h.schedule; answers = h.answers })
  heard_fits s (Schedule turns) t h i e =
      let (o, is, whole) = map_some (λ (p : Option (List (ℕ × ℕ))). record s { schedule = p }) (once s.schedule turns) t e in
      subst AreFit whole (record { budget = h.budget; chunk = h.chunk; schedule = subst (λ p. IfSome p IsSchedule) (sym (once_some s.schedule turns o is)) i; answers = h.answers })
  heard_fits s (Answer a) t h i e =
      subst AreFit (same_Some _ t e) (record { budget = h.budget; chunk = h.chunk; schedule = h.schedule; answers = push (IsAnswerOf who) s.answers a h.answers i })

  after_fits : (s : SaidSoFar) (line : List ℕ) (t : SaidSoFar) → AreFit s → after_line who s line ≡ Some t → AreFit t
  after_fits s line t h e =
      let (item, is, more) = then_some (heard s) (says who line) t e in
      heard_fits s item t h (line_fits line item is) more

  end_fits : (line : ℕ) (s : SaidSoFar) (rest : List ℕ) (t : SaidSoFar) → AreFit s → at_end line s rest ≡ Reads t → AreFit t
  end_fits line s [] t h e = let is : s ≡ t = cc in subst AreFit is h
  end_fits line s (b ∷ bs) t h e = absurd cc

  script_fits : (texts : List (List ℕ)) (line : ℕ) (s t : SaidSoFar) → AreFit s → script who line s texts ≡ Reads t → AreFit t
  script_fits [] line s t h e = let is : s ≡ t = cc in subst AreFit is h
  script_fits (text ∷ []) line s t h e = end_fits line s text t h e
  script_fits (text ∷ after ∷ texts) line s t h e = by (after_line who s text) refl e (λ u k. script_fits (after ∷ texts) (line + 1) u t k)
    where
      by : (o : Option SaidSoFar) → after_line who s text ≡ o → goes_on line o (λ (u : SaidSoFar). script who (line + 1) u (after ∷ texts)) ≡ Reads t
          → ((u : SaidSoFar) → AreFit u → script who (line + 1) u (after ∷ texts) ≡ Reads t → AreFit t) → AreFit t
      by None is k rest = absurd cc
      by (Some u) is k rest = rest u (after_fits s text u h is) k

  none_fit : AreFit nothing
  none_fit = record { budget = tt; chunk = tt; schedule = tt; answers = tt }

  or_most : (o : Option ℕ) → IfSome o (λ n. n ≤ 100000000) → unwrap_or o 1000000 ≤ 100000000
  or_most None h = omega arith
  or_most (Some n) h = h

  or_chunk : (o : Option ℕ) → IfSome o (λ n. (1 ≤ n) × (n ≤ 65535)) → (1 ≤ unwrap_or o 64) × (unwrap_or o 64 < 2 ^ 16)
  or_chunk None h = (omega arith, omega arith)
  or_chunk (Some n) h = (h.0, let high = h.1 in omega (arith, high))

  or_schedule : (o : Option (List (ℕ × ℕ))) → IfSome o IsSchedule → IsSchedule (unwrap_or o ((0, 1) ∷ []))
  or_schedule None h = (λ e. absurd cc, (record { thread = omega arith; some = omega arith; few = omega arith }, tt))
  or_schedule (Some turns) h = h

  file_fits : (s : SaidSoFar) → AreFit s → IsFit who (file_of s)
  file_fits s h = record {
    budget = or_most s.budget h.budget;
    some_records = (or_chunk s.chunk h.chunk).0;
    few_records = (or_chunk s.chunk h.chunk).1;
    some_turns = (or_schedule s.schedule h.schedule).0;
    turns = (or_schedule s.schedule h.schedule).1;
    answers = h.answers;
  }

  pub read_fits : (bytes : List ℕ) (file : SysFile) → IsRead (script_of who bytes) (Ok file) → IsFit who file
  read_fits bytes file read = by (script_of who bytes) refl read
    where
      by : (x : Script) → script_of who bytes ≡ x → IsRead x (Ok file) → IsFit who file
      by (Reads s) e is = subst (IsFit who) (sym is) (file_fits s (script_fits (parts 10 bytes) 1 nothing s none_fit e))
      by (Breaks line) e is = absurd is
