-- The records that stand in full in a prefix of a log's text, and what else the text alone says, for any way
-- to spell numbers.
use Rattle.std.proofs.Common.{◌≡◌, ℕ, ◌+◌, ◌-◌, ◌<◌, ◌≤◌, List, [], ◌∷◌, ◌++◌, length, get_or, drop, Option, Some, refl, sym, ap, subst, ◌∙◌, append_assoc, zero-add, arith, inl, inr, ◌⊎◌}
use Rattle.std.specs.List.{AllByRecursion, flat_map}
use Rattle.std.proofs.lemmas.Bool.{cases_lt, le-leb, lt-leb}
use Rattle.std.proofs.lemmas.List.{append-nil, length-append}
use Rattle.byte_format.specs.Reading.{Done, Short, read_list, after}
use Rattle.byte_format.specs.Numbers.{Numbers}
use Rattle.byte_format.proofs.Readers.{IsBytes, bytes-right, done_is}
use Rattle.byte_format.proofs.Prefixes.{same_prefix, cut_done, cut_not, after_nothing}
use Rattle.byte_format.proofs.Spelled.{ReadsNumbers}
use Rattle.run_events.specs.declared.event.Record.{Record}
use Rattle.log_codec.specs.LogText.{Chunk, record_text, chunk_head, chunk_text, end_text, records_of, IsChunk}
use Rattle.log_codec.specs.Kept.{records_within, chunks_within}
use Rattle.log_codec.specs.Reading.{record_at, chunk_head_at, read_chunk, item_at, read_after, read_item}
use Rattle.log_codec.proofs.Formats.{IsOwn, own_made, IsHead, head_of, head_tail, IsItem, item_text, reads_record, reads_chunk_head, reads_item}

-- ---- what stands in the prefix of a text, by lengths alone

module _ (num : Numbers) where
  within_none : (rs : List Record) → records_within num.text 0 rs ≡ []
  within_none [] = refl
  within_none (r ∷ rs) = rw (lt-leb (length (record_text num.text r)) 0 (omega arith)) refl

  pub chunks_none : (cs : List Chunk) → chunks_within num.text 0 cs ≡ []
  chunks_none [] = refl
  chunks_none (c ∷ cs) =
      let head : 0 - length (chunk_head num.text c) ≡ 0 = omega arith in
      let all : 0 - length (chunk_text num.text c) ≡ 0 = omega arith in
      rw (head, within_none c.records, all) (chunks_none cs)

  within_all : (n : ℕ) (rs : List Record) → length (flat_map (record_text num.text) rs) ≤ n → records_within num.text n rs ≡ rs
  within_all n [] le = refl
  within_all n (r ∷ rs) le =
      let len = length-append (record_text num.text r) (flat_map (record_text num.text) rs) in
      rw (le-leb (length (record_text num.text r)) n (omega arith)) (ap (λ (w : List Record). r ∷ w) (within_all (n - length (record_text num.text r)) rs (omega arith)))

  pub chunk_length : (c : Chunk) → length (chunk_text num.text c) ≡ length (chunk_head num.text c) + length (flat_map (record_text num.text) c.records)
  chunk_length c = length-append (chunk_head num.text c) (flat_map (record_text num.text) c.records)

  pub within_prefix : (cs later : List Chunk) (k : ℕ) → chunks_within num.text (length (flat_map (chunk_text num.text) cs) + k) (cs ++ later) ≡ records_of cs ++ chunks_within num.text k later
  within_prefix [] later k = ap (λ n. chunks_within num.text n later) (zero-add k)
  within_prefix (c ∷ cs) later k =
      let n = length (flat_map (chunk_text num.text) (c ∷ cs)) + k in
      let len : length (flat_map (chunk_text num.text) (c ∷ cs)) ≡ length (chunk_text num.text c) + length (flat_map (chunk_text num.text) cs) = length-append (chunk_text num.text c) (flat_map (chunk_text num.text) cs) in
      let size = chunk_length c in
      let all : records_within num.text (n - length (chunk_head num.text c)) c.records ≡ c.records = within_all (n - length (chunk_head num.text c)) c.records (omega arith) in
      let left : n - length (chunk_text num.text c) ≡ length (flat_map (chunk_text num.text) cs) + k = omega arith in
      rw (all, left, within_prefix cs later k) (sym (append_assoc c.records (records_of cs) (chunks_within num.text k later)))

  -- a record has at least one byte
  pub records_bound : (cs : List Chunk) → length (records_of cs) ≤ length (flat_map (chunk_text num.text) cs)
  records_bound [] = omega arith
  records_bound (c ∷ cs) =
      let size = chunk_length c in
      let here = few c.records in
      let more = records_bound cs in
      omega (arith, length-append (chunk_text num.text c) (flat_map (chunk_text num.text) cs), length-append c.records (records_of cs))
    where
      few : (rs : List Record) → length rs ≤ length (flat_map (record_text num.text) rs)
      few [] = omega arith
      few (r ∷ rs) = let h = few rs in omega (arith, length-append (record_text num.text r) (flat_map (record_text num.text) rs))

  -- the letter of a chunk is not that of the end
  pub not_end : (c : Chunk) (total : ℕ) (y z : List ℕ) → chunk_text num.text c ++ y ≡ end_text num.text total ++ z → ⊥
  not_end c total y z e = let heads : get_or (chunk_text num.text c ++ y) 0 0 ≡ get_or (end_text num.text total ++ z) 0 0 = ap (λ (s : List ℕ). get_or s 0 0) e in omega (arith, heads)

abbrev some : Chunk → Option Chunk
some c = Some c

some_is : (d c : Chunk) → some d ≡ some c → d ≡ c
some_is d c e = cc

-- ---- the records that are read before a stop are those that stand in full

module _ (num : Numbers) (laws : ReadsNumbers num) where
  read_within : (thread : ℕ) → thread < 32 → (rs : List Record) → AllByRecursion (IsOwn thread) rs → (y s more : List ℕ) → IsBytes s → flat_map (record_text num.text) rs ++ y ≡ s ++ more → read_list (record_at num thread) (length rs) s ≡ records_within num.text (length s) rs
  unfolding read_list
  read_within thread lt [] each y s more bytes e = refl
  read_within thread lt (r ∷ rs) each y s more bytes e =
      elim (cases_lt (length s) (length (record_text num.text r))) [
        | inl less ↦
            rw (lt-leb (length (record_text num.text r)) (length s) less)
            (after_nothing (record_at num thread s) (λ x. x.0 ∷ read_list (record_at num thread) (length rs) x.1) (cut_not (record_at num thread) (record_text num.text) (IsOwn thread) (reads_record num laws thread lt) r each.0 z s more parts bytes less))
        | inr le ↦
            let d = cut_done (record_at num thread) (record_text num.text) (IsOwn thread) (reads_record num laws thread lt) r each.0 z s more parts le in
            let f = same_prefix (record_text num.text r) z s more parts le in
            let s' = drop (length (record_text num.text r)) s in
            let len : length s ≡ length (record_text num.text r) + length s' = ap length f.0 ∙ length-append (record_text num.text r) s' in
            let left : length s - length (record_text num.text r) ≡ length s' = omega arith in
            let again = read_within thread lt rs each.1 y s' more (bytes-right (record_text num.text r) s' (subst IsBytes f.0 bytes)) (sym f.1) in
            rw (d, le-leb (length (record_text num.text r)) (length s) le, left) (ap (λ (w : List Record). r ∷ w) again)
      ]
    where
      z : List ℕ
      z = flat_map (record_text num.text) rs ++ y

      parts : record_text num.text r ++ z ≡ s ++ more
      parts = sym (append_assoc (record_text num.text r) (flat_map (record_text num.text) rs) y) ∙ e

  read_end : (total : ℕ) (rest more : List ℕ) → end_text num.text total ≡ rest ++ more → read_item num rest ≡ []
  unfolding read_item read_after
  read_end total [] more e = refl
  read_end total (b ∷ s) more e =
      let heads : b ≡ 69 = ap (λ (s : List ℕ). get_or s 0 0) (sym e) in
      rw heads refl

  within_chunk : (c : Chunk) → IsChunk c → (y s more : List ℕ) → IsBytes s → chunk_text num.text c ++ y ≡ s ++ more → records_within num.text (length s - length (chunk_head num.text c)) c.records ≡ read_item num s
  unfolding read_item read_after read_chunk
  within_chunk c fits y [] more bytes e = let none : 0 - length (chunk_head num.text c) ≡ 0 = omega arith in rw none (within_none num c.records)
  within_chunk c fits y (b ∷ s) more bytes e =
      let heads : b ≡ 67 = ap (λ (s : List ℕ). get_or s 0 0) (sym e) in
      let left : length (b ∷ s) - length (chunk_head num.text c) ≡ length s - length (head_tail num h) = omega arith in
      rw (heads, left) (by (cases_lt (length s) (length (head_tail num h))))
    where
      h : ℕ × ℕ
      h = head_of c

      z : List ℕ
      z = flat_map (record_text num.text) c.records ++ y

      parts : head_tail num h ++ z ≡ s ++ more
      parts = sym (append_assoc (head_tail num h) (flat_map (record_text num.text) c.records) y) ∙ ap (λ (w : List ℕ). drop 1 w) e

      fits_head : IsHead h
      fits_head = let t = fits.thread in (omega arith, (fits.some, fits.few))

      by : (length s < length (head_tail num h)) ⊎ (length (head_tail num h) ≤ length s) → records_within num.text (length s - length (head_tail num h)) c.records ≡ after (chunk_head_at num s) (λ h. read_list (record_at num h.0.0) h.0.1 h.1)
      by (inl lt) =
          let none : length s - length (head_tail num h) ≡ 0 = omega arith in
          rw (none, within_none num c.records) (sym (after_nothing (chunk_head_at num s) (λ h. read_list (record_at num h.0.0) h.0.1 h.1) (cut_not (chunk_head_at num) (head_tail num) IsHead (reads_chunk_head num laws) h fits_head z s more parts bytes.1 lt)))
      by (inr le) =
          let d = cut_done (chunk_head_at num) (head_tail num) IsHead (reads_chunk_head num laws) h fits_head z s more parts le in
          let f = same_prefix (head_tail num h) z s more parts le in
          let s' = drop (length (head_tail num h)) s in
          let len : length s ≡ length (head_tail num h) + length s' = ap length f.0 ∙ length-append (head_tail num h) s' in
          let left : length s - length (head_tail num h) ≡ length s' = omega arith in
          let read = read_within c.thread fits.thread c.records (own_made c.thread c.records fits.own fits.each) y s' more (bytes-right (head_tail num h) s' (subst IsBytes f.0 bytes.1)) (sym f.1) in
          rw (d, left) (sym read)

  -- where the bytes end in the middle of a part, the records that stand in full are those that were read
  pub within_last : (later : List Chunk) → AllByRecursion IsChunk later → (n total : ℕ) (rest more : List ℕ) → IsBytes rest → item_at num n rest ≡ Short → flat_map (chunk_text num.text) later ++ end_text num.text total ≡ rest ++ more → chunks_within num.text (length rest) later ≡ read_item num rest
  within_last [] each n total rest more bytes e parts = sym (read_end total rest more parts)
  within_last (c ∷ later) each n total rest more bytes e parts =
      let z = flat_map (chunk_text num.text) later ++ end_text num.text total in
      let whole : chunk_text num.text c ++ z ≡ rest ++ more = sym (append_assoc (chunk_text num.text c) (flat_map (chunk_text num.text) later) (end_text num.text total)) ∙ parts in
      let read = within_chunk c each.0 z rest more bytes whole in
      elim (cases_lt (length rest) (length (chunk_text num.text c))) [
        | inl lt ↦
            let none : length rest - length (chunk_text num.text c) ≡ 0 = omega arith in
            rw (none, chunks_none num later) (append-nil (records_within num.text (length rest - length (chunk_head num.text c)) c.records) ∙ read)
        | inr le ↦
            let d = cut_done (item_at num n) (item_text num n) IsItem (reads_item num laws n) (Some c) each.0 z rest more whole le in
            let both : Short ≡ Done (Some c, drop (length (chunk_text num.text c)) rest) = sym e ∙ d in
            absurd cc
      ]

  -- a text of chunks and an end that begins with these chunks has them first
  pub splits : (cs others : List Chunk) → AllByRecursion IsChunk cs → AllByRecursion IsChunk others → (total : ℕ) (x : List ℕ) → flat_map (chunk_text num.text) others ++ end_text num.text total ≡ flat_map (chunk_text num.text) cs ++ x
      → (later : List Chunk) × (others ≡ cs ++ later) × AllByRecursion IsChunk later × (flat_map (chunk_text num.text) later ++ end_text num.text total ≡ x)
  splits [] others each each' total x e = (others, refl, each', e)
  splits (c ∷ cs) [] each each' total x e = absurd (not_end num c total (flat_map (chunk_text num.text) cs ++ x) [] (sym (append_assoc (chunk_text num.text c) (flat_map (chunk_text num.text) cs) x) ∙ sym e ∙ sym (append-nil (end_text num.text total))))
  splits (c ∷ cs) (d ∷ others) each each' total x e =
      let text = chunk_text num.text in
      let here : item_at num 0 (text c ++ (flat_map text cs ++ x)) ≡ Done (Some c, flat_map text cs ++ x) = (reads_item num laws 0).again (Some c) (flat_map text cs ++ x) each.0 in
      let there : item_at num 0 (text d ++ (flat_map text others ++ end_text num.text total)) ≡ Done (Some d, flat_map text others ++ end_text num.text total) = (reads_item num laws 0).again (Some d) (flat_map text others ++ end_text num.text total) each'.0 in
      let bytes : text d ++ (flat_map text others ++ end_text num.text total) ≡ text c ++ (flat_map text cs ++ x) = sym (append_assoc (text d) (flat_map text others) (end_text num.text total)) ∙ e ∙ append_assoc (text c) (flat_map text cs) x in
      let same = done_is (Some d, flat_map text others ++ end_text num.text total) (Some c, flat_map text cs ++ x) (sym there ∙ ap (item_at num 0) bytes ∙ here) in
      let chunk : d ≡ c = some_is d c (ap (λ (p : Option Chunk × List ℕ). p.0) same) in
      let rest : flat_map text others ++ end_text num.text total ≡ flat_map text cs ++ x = ap (λ (p : Option Chunk × List ℕ). p.1) same in
      let more = splits cs others each.1 each'.1 total x rest in
      (more.0, ap (λ (c : Chunk). c ∷ others) chunk ∙ ap (λ (w : List Chunk). c ∷ w) more.1, more.2, more.3)
