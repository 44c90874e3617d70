-- Where reading a log stops, and what is known then.
use Rattle.std.proofs.Common.{◌≡◌, ℕ, suc, ◌+◌, ◌-◌, ◌^◌, ◌<◌, ◌≤◌, List, [], ◌∷◌, ◌++◌, length, get_or, take, drop, Option, Some, None, Ok, Err, refl, sym, ap, subst, ◌∙◌, append_assoc, arith}
use Rattle.std.specs.List.{AllByRecursion, flat_map}
use Rattle.std.proofs.lemmas.List.{append-nil, length-append, take_at, nil_from_length}
use Rattle.std.proofs.lemmas.List.Concat.{flat_map-append}
use Rattle.byte_format.specs.declared.stop.Stop.{Stop}
use Rattle.byte_format.specs.declared.stop.Stop.TheVariants as stop
use Rattle.byte_format.specs.Reading.{Done, Short, Wrong, Stops, StopsAfter, literal_at}
use Rattle.byte_format.specs.Numbers.{fixed}
use Rattle.byte_format.proofs.Readers.{IsBytes, bytes-right, bytes-left}
use Rattle.byte_format.proofs.Codes.{reads_literal}
use Rattle.byte_format.proofs.Spelled.{reads_fixed}
use Rattle.run_events.specs.declared.event.Record.{Record}
use Rattle.log_codec.specs.declared.kind.Section.{Section}
use Rattle.log_codec.specs.declared.kind.Section.TheVariants as mark
use Rattle.log_codec.specs.LogText.{Chunk, version_1, chunk_text, head_text, end_text, records_of, log_text, IsChunk, AreChunks, IsLogOf, IsLog, BeginsLog}
use Rattle.log_codec.specs.Kept.{chunks_within, log_within, StandInFull, IsFirstWrong}
use Rattle.log_codec.specs.Reading.{item_at, read_item, AddsItem}
use Rattle.log_codec.specs.Parsing.{HasRead}
use Rattle.log_codec.proofs.Formats.{IsItem, item_text, reads_item}
use Rattle.log_codec.proofs.Logs.{chunk_length, within_prefix, records_bound, not_end, chunks_none, within_last, splits}
use Rattle.log_codec.proofs.Causes.{are_kept, names_wrong}

abbrev chunk_bytes : Chunk → List ℕ
chunk_bytes c = chunk_text fixed.text c

abbrev end_bytes : ℕ → List ℕ
end_bytes total = end_text fixed.text total

abbrev head_bytes : List ℕ
head_bytes = head_text version_1

-- ---- the chunks so far

-- the bytes are the head, these chunks and the rest, and the records those of the chunks
pub record Prefix (bytes rest : List ℕ) (records : List Record) : Type 0 where
  pub chunks : List Chunk
  pub each : AllByRecursion IsChunk chunks
  pub parts : bytes ≡ head_bytes ++ (flat_map chunk_bytes chunks ++ rest)
  pub has : records ≡ records_of chunks

prefix_bound : (bytes rest : List ℕ) (records : List Record) → Prefix bytes rest records → length records + length rest ≤ length bytes
prefix_bound bytes rest records f =
    let len : length bytes ≡ length (head_bytes ++ (flat_map chunk_bytes f.chunks ++ rest)) = ap length f.parts in
    let has : length records ≡ length (records_of f.chunks) = ap length f.has in
    let few = records_bound fixed f.chunks in
    omega (arith, length-append (flat_map chunk_bytes f.chunks) rest)

-- a log that begins with the bytes has the chunks so far, and then others whose text begins with the rest
record Later (rest more : List ℕ) (f_chunks cs : List Chunk) : Type 0 where
  pub later : List Chunk
  pub all : cs ≡ f_chunks ++ later
  pub each : AllByRecursion IsChunk later
  pub parts : flat_map chunk_bytes later ++ end_bytes (length (records_of cs)) ≡ rest ++ more

later_of : (bytes rest more : List ℕ) (records : List Record) (f : Prefix bytes rest records) (cs : List Chunk) → IsLogOf (bytes ++ more) cs → Later rest more f.chunks cs
later_of bytes rest more records f cs log =
    let total = length (records_of cs) in
    let whole : head_bytes ++ ((flat_map chunk_bytes f.chunks ++ rest) ++ more) ≡ head_bytes ++ (flat_map chunk_bytes cs ++ end_bytes total) = ap (λ (w : List ℕ). w ++ more) (sym f.parts) ∙ log.1 in
    let tails : (flat_map chunk_bytes f.chunks ++ rest) ++ more ≡ flat_map chunk_bytes cs ++ end_bytes total = ap (λ (w : List ℕ). drop 6 w) whole in
    let s = splits fixed reads_fixed f.chunks cs f.each log.0.0 total (rest ++ more) (sym tails ∙ append_assoc (flat_map chunk_bytes f.chunks) rest more) in
    record { later = s.0; all = s.1; each = s.2; parts = s.3 }

-- the next item of such a log
record Next (rest more : List ℕ) (total : ℕ) : Type 0 where
  pub item : Option Chunk
  pub fits : IsItem item
  pub following : List ℕ
  pub parts : item_text fixed total item ++ following ≡ rest ++ more

next_of : (bytes rest more : List ℕ) (records : List Record) (f : Prefix bytes rest records) (cs : List Chunk) → IsLogOf (bytes ++ more) cs → Next rest more (length records)
next_of bytes rest more records f cs log =
    let l = later_of bytes rest more records f cs log in
    by l.later l.all l.each l.parts
  where
    by : (later : List Chunk) → cs ≡ f.chunks ++ later → AllByRecursion IsChunk later → flat_map chunk_bytes later ++ end_bytes (length (records_of cs)) ≡ rest ++ more → Next rest more (length records)
    by [] all each parts =
        let total : length (records_of cs) ≡ length records = ap (λ w. length (records_of w)) (all ∙ append-nil f.chunks) ∙ ap length (sym f.has) in
        record { item = None; fits = tt; following = []; parts = append-nil (end_bytes (length records)) ∙ ap end_bytes (sym total) ∙ parts }
    by (c ∷ later) all each parts =
        record { item = Some c; fits = each.0; following = flat_map chunk_bytes later ++ end_bytes (length (records_of cs)); parts = sym (append_assoc (chunk_bytes c) (flat_map chunk_bytes later) (end_bytes (length (records_of cs)))) ∙ parts }

-- so the reading of the next item gives one
next_done : (bytes rest more : List ℕ) (records : List Record) (f : Prefix bytes rest records) (cs : List Chunk) → IsLogOf (bytes ++ more) cs → (x : Option Chunk × List ℕ) × (item_at fixed (length records) (rest ++ more) ≡ Done x)
next_done bytes rest more records f cs log =
    let n = next_of bytes rest more records f cs log in
    ((n.item, n.following), ap (item_at fixed (length records)) (sym n.parts) ∙ (reads_item fixed reads_fixed (length records)).again n.item n.following n.fits)

-- ---- the first wrong byte

-- a log text begins with the bytes up to it, and none goes on with it
first_wrong : (bytes prefix : List ℕ) (b : ℕ) (following : List ℕ) → bytes ≡ prefix ++ b ∷ following → BeginsLog prefix → (BeginsLog (prefix ++ b ∷ []) → ⊥) → IsFirstWrong bytes (length bytes - suc (length following))
first_wrong bytes prefix b following parts before here =
    let len : length bytes ≡ length prefix + suc (length following) = ap length parts ∙ length-append prefix (b ∷ following) in
    let at : length bytes - suc (length following) ≡ length prefix = omega arith in
    let regrouped : bytes ≡ (prefix ++ b ∷ []) ++ following = parts ∙ sym (append_assoc prefix (b ∷ []) following) in
    let up_to : take (length prefix) bytes ≡ prefix = ap (take (length prefix)) parts ∙ take_at prefix (b ∷ following) (length prefix) refl in
    let with_it : take (length prefix + 1) bytes ≡ prefix ++ b ∷ [] = ap (take (length prefix + 1)) regrouped ∙ take_at (prefix ++ b ∷ []) following (length prefix + 1) (length-append prefix (b ∷ [])) in
    record {
      within = omega arith;
      before = rw (at, up_to) before;
      here = rw (at, with_it) here;
    }

-- ---- the bytes end in the middle of an item

-- the bytes and what makes them a log text
begins_by : (bytes more : List ℕ) (cs : List Chunk) → AreChunks cs → bytes ++ more ≡ log_text version_1 cs → BeginsLog bytes
begins_by bytes more cs are e = (cs, more, (are, e))

each_append : (cs later : List Chunk) → AllByRecursion IsChunk cs → AllByRecursion IsChunk later → AllByRecursion IsChunk (cs ++ later)
each_append [] later h k = k
each_append (c ∷ cs) later h k = (h.0, each_append cs later h.1 k)

short_begins : (bytes rest : List ℕ) (records : List Record) (f : Prefix bytes rest records) → IsBytes rest → length bytes ≤ 67108864 → item_at fixed (length records) rest ≡ Short → BeginsLog bytes
short_begins bytes rest records f are few e =
    let g = (reads_item fixed reads_fixed (length records)).short rest are e in
    by g.value g.fits g.next g.more g.parts
  where
    total : length (records_of f.chunks) ≡ length records
    total = ap length (sym f.has)

    bound : length records ≤ 67108864
    bound = let h = prefix_bound bytes rest records f in omega arith

    by : (o : Option Chunk) → IsItem o → (next : ℕ) (more : List ℕ) → item_text fixed (length records) o ≡ rest ++ next ∷ more → BeginsLog bytes
    by None fits next more parts =
        begins_by bytes (next ∷ more) f.chunks (f.each, let t = total in let b = bound in omega arith)
        (ap (λ (w : List ℕ). w ++ next ∷ more) f.parts
        ∙ ap (λ (w : List ℕ). head_bytes ++ w) (append_assoc (flat_map chunk_bytes f.chunks) rest (next ∷ more) ∙ ap (λ (w : List ℕ). flat_map chunk_bytes f.chunks ++ w) (sym parts ∙ ap end_bytes (sym total))))
    by (Some c) fits next more parts =
        let cs = f.chunks ++ c ∷ [] in
        let all : records_of cs ≡ records_of f.chunks ++ c.records = flat_map-append (λ (c : Chunk). c.records) f.chunks (c ∷ []) ∙ ap (λ (w : List Record). records_of f.chunks ++ w) (append-nil c.records) in
        let count : length (records_of cs) ≡ length records + length c.records = ap length all ∙ length-append (records_of f.chunks) c.records ∙ ap (λ n. n + length c.records) total in
        let tail = (next ∷ more) ++ end_bytes (length (records_of cs)) in
        let text : flat_map chunk_bytes cs ≡ flat_map chunk_bytes f.chunks ++ chunk_bytes c = flat_map-append chunk_bytes f.chunks (c ∷ []) ∙ ap (λ (w : List ℕ). flat_map chunk_bytes f.chunks ++ w) (append-nil (chunk_bytes c)) in
        let end = end_bytes (length (records_of cs)) in
        begins_by bytes tail cs (each_append f.chunks (c ∷ []) f.each (fits, tt), let b = bound in let few = fits.few in omega arith)
        (ap (λ (w : List ℕ). w ++ tail) f.parts
        ∙ ap (λ (w : List ℕ). head_bytes ++ w)
        (append_assoc (flat_map chunk_bytes f.chunks) rest tail
        ∙ ap (λ (w : List ℕ). flat_map chunk_bytes f.chunks ++ w) (sym (append_assoc rest (next ∷ more) end) ∙ ap (λ (w : List ℕ). w ++ end) (sym parts))
        ∙ sym (append_assoc (flat_map chunk_bytes f.chunks) (chunk_bytes c) end)
        ∙ ap (λ (w : List ℕ). w ++ end) (sym text)))

short_no_log : (bytes rest : List ℕ) (records : List Record) (f : Prefix bytes rest records) → item_at fixed (length records) rest ≡ Short → IsLog bytes → ⊥
short_no_log bytes rest records f e (cs, log) =
    let d = next_done bytes rest [] records f cs (log.0, append-nil bytes ∙ log.1) in
    let short : item_at fixed (length records) (rest ++ []) ≡ Short = ap (item_at fixed (length records)) (append-nil rest) ∙ e in
    let both : Short ≡ Done d.0 = sym short ∙ d.1 in
    absurd cc

-- ---- the records that stand in full, where the bytes end in the middle of an item

prefix_within : (bytes rest : List ℕ) (records : List Record) (f : Prefix bytes rest records) (later : List Chunk) → log_within version_1 (length bytes) (f.chunks ++ later) ≡ records ++ chunks_within fixed.text (length rest) later
prefix_within bytes rest records f later =
    let len : length bytes ≡ length (head_bytes ++ (flat_map chunk_bytes f.chunks ++ rest)) = ap length f.parts in
    let left : length bytes - 6 ≡ length (flat_map chunk_bytes f.chunks) + length rest = omega (arith, length-append (flat_map chunk_bytes f.chunks) rest) in
    rw left (within_prefix fixed f.chunks later (length rest) ∙ ap (λ (w : List Record). w ++ chunks_within fixed.text (length rest) later) (sym f.has))

short_whole : (bytes rest : List ℕ) (records : List Record) (f : Prefix bytes rest records) → IsBytes rest → item_at fixed (length records) rest ≡ Short → StandInFull bytes (records ++ read_item fixed rest)
short_whole bytes rest records f are e cs more log =
    let l = later_of bytes rest more records f cs log in
    let last = within_last fixed reads_fixed l.later l.each (length records) (length (records_of cs)) rest more are e l.parts in
    sym (ap (log_within version_1 (length bytes)) l.all ∙ prefix_within bytes rest records f l.later ∙ ap (λ (w : List Record). records ++ w) last)

-- ---- the end

end_is : (n : ℕ) (rest following : List ℕ) → IsBytes rest → item_at fixed n rest ≡ Done (None, following) → rest ≡ end_bytes n ++ following
end_is n rest following are e = ((reads_item fixed reads_fixed n).takes rest (None, following) are e).0

whole_log : (bytes rest : List ℕ) (records : List Record) (f : Prefix bytes rest records) → IsBytes rest → length bytes ≤ 67108864 → item_at fixed (length records) rest ≡ Done (None, []) → IsLog bytes
whole_log bytes rest records f are few e =
    let total : length records ≡ length (records_of f.chunks) = ap length f.has in
    let b = prefix_bound bytes rest records f in
    let is = end_is (length records) rest [] are e ∙ append-nil (end_bytes (length records)) ∙ ap end_bytes total in
    (f.chunks, ((f.each, omega arith), f.parts ∙ ap (λ (w : List ℕ). head_bytes ++ (flat_map chunk_bytes f.chunks ++ w)) is))

-- where the rest begins with the end there is no further chunk
no_later : (n total : ℕ) (rest following more : List ℕ) (later : List Chunk) → rest ≡ end_bytes n ++ following → flat_map chunk_bytes later ++ end_bytes total ≡ rest ++ more → later ≡ []
no_later n total rest following more [] is parts = refl
no_later n total rest following more (c ∷ later) is parts =
    absurd (not_end fixed c n (flat_map chunk_bytes later ++ end_bytes total) (following ++ more)
    (sym (append_assoc (chunk_bytes c) (flat_map chunk_bytes later) (end_bytes total)) ∙ parts ∙ ap (λ (w : List ℕ). w ++ more) is ∙ append_assoc (end_bytes n) following more))

whole_whole : (bytes rest following : List ℕ) (records : List Record) (f : Prefix bytes rest records) → IsBytes rest → item_at fixed (length records) rest ≡ Done (None, following) → StandInFull bytes records
whole_whole bytes rest following records f are e cs more log =
    let l = later_of bytes rest more records f cs log in
    let none = no_later (length records) (length (records_of cs)) rest following more l.later (end_is (length records) rest following are e) l.parts in
    sym (ap (log_within version_1 (length bytes)) (l.all ∙ ap (λ (w : List Chunk). f.chunks ++ w) none) ∙ prefix_within bytes rest records f [] ∙ append-nil records)

trailing_wrong : (bytes rest : List ℕ) (records : List Record) (f : Prefix bytes rest records) (b : ℕ) (following : List ℕ) → IsBytes rest → length bytes ≤ 67108864 → item_at fixed (length records) rest ≡ Done (None, b ∷ following) → IsFirstWrong bytes (length bytes - suc (length following))
trailing_wrong bytes rest records f b following are few e =
    let n = length records in
    let is = end_is n rest (b ∷ following) are e in
    let total : n ≡ length (records_of f.chunks) = ap length f.has in
    let bound = prefix_bound bytes rest records f in
    let prefix = head_bytes ++ (flat_map chunk_bytes f.chunks ++ end_bytes n) in
    let parts : bytes ≡ prefix ++ b ∷ following = f.parts ∙ ap (λ (w : List ℕ). head_bytes ++ w) (ap (λ (w : List ℕ). flat_map chunk_bytes f.chunks ++ w) is ∙ sym (append_assoc (flat_map chunk_bytes f.chunks) (end_bytes n) (b ∷ following))) in
    let before = begins_by prefix [] f.chunks (f.each, omega arith) (append-nil prefix ∙ ap (λ k. head_bytes ++ (flat_map chunk_bytes f.chunks ++ end_bytes k)) total) in
    first_wrong bytes prefix b following parts before (λ begins. here n begins)
  where
    here : (n : ℕ) → BeginsLog ((head_bytes ++ (flat_map chunk_bytes f.chunks ++ end_bytes n)) ++ b ∷ []) → ⊥
    here n (cs, more, log) =
        let prefix = head_bytes ++ (flat_map chunk_bytes f.chunks ++ end_bytes n) in
        let rest' = end_bytes n ++ b ∷ [] in
        let f' : Prefix (prefix ++ b ∷ []) rest' records = record { chunks = f.chunks; each = f.each; parts = ap (λ (w : List ℕ). head_bytes ++ w) (append_assoc (flat_map chunk_bytes f.chunks) (end_bytes n) (b ∷ [])); has = f.has } in
        let l = later_of (prefix ++ b ∷ []) rest' more records f' cs log in
        let none = no_later n (length (records_of cs)) rest' (b ∷ []) more l.later refl l.parts in
        let same : end_bytes (length (records_of cs)) ≡ rest' ++ more = ap (λ (w : List Chunk). flat_map chunk_bytes w ++ end_bytes (length (records_of cs))) (sym none) ∙ l.parts in
        let len : 5 ≡ length (rest' ++ more) = ap length same in
        omega (arith, length-append rest' more)

-- ---- a wrong byte in an item

item_wrong : (bytes rest : List ℕ) (records : List Record) (f : Prefix bytes rest records) (k : ℕ) → IsBytes rest → length bytes ≤ 67108864 → item_at fixed (length records) rest ≡ Wrong k → (k ≤ length bytes) × IsFirstWrong bytes (length bytes - k)
item_wrong bytes rest records f k are few e =
    let w = (reads_item fixed reads_fixed (length records)).wrong rest k are e in
    let prefix = head_bytes ++ (flat_map chunk_bytes f.chunks ++ w.prefix) in
    let parts : bytes ≡ prefix ++ w.byte ∷ w.after = f.parts ∙ ap (λ (z : List ℕ). head_bytes ++ z) (ap (λ (z : List ℕ). flat_map chunk_bytes f.chunks ++ z) w.parts ∙ sym (append_assoc (flat_map chunk_bytes f.chunks) w.prefix (w.byte ∷ w.after))) in
    let len : length bytes ≡ length prefix + suc (length w.after) = ap length parts ∙ length-append prefix (w.byte ∷ w.after) in
    let f' : Prefix prefix w.prefix records = record { chunks = f.chunks; each = f.each; parts = refl; has = f.has } in
    let before = short_begins prefix w.prefix records f' (bytes-left w.prefix (w.byte ∷ w.after) (subst IsBytes w.parts are)) (omega arith) w.before in
    subst (λ n. (n ≤ length bytes) × IsFirstWrong bytes (length bytes - n)) (sym w.left)
    (omega arith, first_wrong bytes prefix w.byte w.after parts before (here w.prefix w.byte w.stays))
  where
    here : (prefix : List ℕ) (b : ℕ) → ((t : List ℕ) → item_at fixed (length records) (prefix ++ b ∷ t) ≡ Wrong (suc (length t))) → BeginsLog ((head_bytes ++ (flat_map chunk_bytes f.chunks ++ prefix)) ++ b ∷ []) → ⊥
    here prefix b stays (cs, more, log) =
        let all = (head_bytes ++ (flat_map chunk_bytes f.chunks ++ prefix)) ++ b ∷ [] in
        let f' : Prefix all (prefix ++ b ∷ []) records = record { chunks = f.chunks; each = f.each; parts = ap (λ (w : List ℕ). head_bytes ++ w) (append_assoc (flat_map chunk_bytes f.chunks) prefix (b ∷ [])); has = f.has } in
        let d = next_done all (prefix ++ b ∷ []) more records f' cs log in
        let wrong : item_at fixed (length records) ((prefix ++ b ∷ []) ++ more) ≡ Wrong (suc (length more)) = ap (item_at fixed (length records)) (append_assoc prefix (b ∷ []) more) ∙ stays more in
        let both : Wrong (suc (length more)) ≡ Done d.0 = sym wrong ∙ d.1 in
        absurd cc

-- ---- one chunk more

next_prefix : (bytes rest : List ℕ) (records : List Record) (f : Prefix bytes rest records) (c : Chunk) (following : List ℕ) → IsBytes rest → item_at fixed (length records) rest ≡ Done (Some c, following) → Prefix bytes following (records ++ c.records)
next_prefix bytes rest records f c following are e =
    let t = (reads_item fixed reads_fixed (length records)).takes rest (Some c, following) are e in
    let text : flat_map chunk_bytes (f.chunks ++ c ∷ []) ≡ flat_map chunk_bytes f.chunks ++ chunk_bytes c = flat_map-append chunk_bytes f.chunks (c ∷ []) ∙ ap (λ (w : List ℕ). flat_map chunk_bytes f.chunks ++ w) (append-nil (chunk_bytes c)) in
    record {
      chunks = f.chunks ++ c ∷ [];
      each = each_append f.chunks (c ∷ []) f.each (t.1, tt);
      parts = f.parts ∙ ap (λ (w : List ℕ). head_bytes ++ w) (ap (λ (w : List ℕ). flat_map chunk_bytes f.chunks ++ w) t.0 ∙ sym (append_assoc (flat_map chunk_bytes f.chunks) (chunk_bytes c) following) ∙ ap (λ (w : List ℕ). w ++ following) (sym text));
      has = ap (λ (w : List Record). w ++ c.records) f.has ∙ sym (flat_map-append (λ (c : Chunk). c.records) f.chunks (c ∷ []) ∙ ap (λ (w : List Record). records_of f.chunks ++ w) (append-nil c.records));
    }

next_less : (n : ℕ) (rest : List ℕ) (c : Chunk) (following : List ℕ) → IsBytes rest → item_at fixed n rest ≡ Done (Some c, following) → length following < length rest
next_less n rest c following are e =
    let t = (reads_item fixed reads_fixed n).takes rest (Some c, following) are e in
    let len : length rest ≡ length (chunk_bytes c ++ following) = ap length t.0 in
    let size = chunk_length fixed c in
    omega (arith, length-append (chunk_bytes c) following)

rest_bytes : (bytes rest : List ℕ) (records : List Record) → Prefix bytes rest records → IsBytes bytes → IsBytes rest
rest_bytes bytes rest records f are = bytes-right (flat_map chunk_bytes f.chunks) rest (bytes-right head_bytes (flat_map chunk_bytes f.chunks ++ rest) (subst IsBytes f.parts are))

-- ---- the head

head_prefix : (bytes rest : List ℕ) → IsBytes bytes → literal_at head_bytes bytes ≡ Done (tt, rest) → Prefix bytes rest []
head_prefix bytes rest are e = record { chunks = []; each = tt; parts = ((reads_literal head_bytes).takes bytes (tt, rest) are e).0; has = refl }

log_head : (bytes : List ℕ) (cs : List Chunk) → bytes ≡ log_text version_1 cs → literal_at head_bytes bytes ≡ Done (tt, drop 6 bytes)
log_head bytes cs e =
    let rest = flat_map chunk_bytes cs ++ end_bytes (length (records_of cs)) in
    ap (literal_at head_bytes) e ∙ (reads_literal head_bytes).again tt rest tt ∙ ap (λ (w : List ℕ). Done (tt, w)) (ap (drop 6) (sym e))

no_chunks : AreChunks []
no_chunks = (tt, omega arith)

short_head_begins : (bytes : List ℕ) → IsBytes bytes → literal_at head_bytes bytes ≡ Short → BeginsLog bytes
short_head_begins bytes are e =
    let g = (reads_literal head_bytes).short bytes are e in
    begins_by bytes ((g.next ∷ g.more) ++ end_bytes 0) [] no_chunks (sym (append_assoc bytes (g.next ∷ g.more) (end_bytes 0)) ∙ ap (λ (w : List ℕ). w ++ end_bytes 0) (sym g.parts))

short_head_no_log : (bytes : List ℕ) → literal_at head_bytes bytes ≡ Short → IsLog bytes → ⊥
short_head_no_log bytes e (cs, log) =
    let d = log_head bytes cs log.1 in
    let both : Short ≡ Done (tt, drop 6 bytes) = sym e ∙ d in
    absurd cc

short_head_whole : (bytes : List ℕ) → IsBytes bytes → literal_at head_bytes bytes ≡ Short → StandInFull bytes []
short_head_whole bytes are e cs more log =
    let g = (reads_literal head_bytes).short bytes are e in
    let len : 6 ≡ length bytes + suc (length g.more) = ap length g.parts ∙ length-append bytes (g.next ∷ g.more) in
    let none : length bytes - 6 ≡ 0 = omega arith in
    rw none (sym (chunks_none fixed cs))

wrong_head : (bytes : List ℕ) (k : ℕ) → IsBytes bytes → literal_at head_bytes bytes ≡ Wrong k → (k ≤ length bytes) × IsFirstWrong bytes (length bytes - k)
wrong_head bytes k are e =
    let w = (reads_literal head_bytes).wrong bytes k are e in
    let len : length bytes ≡ length w.prefix + suc (length w.after) = ap length w.parts ∙ length-append w.prefix (w.byte ∷ w.after) in
    subst (λ n. (n ≤ length bytes) × IsFirstWrong bytes (length bytes - n)) (sym w.left)
    (omega arith, first_wrong bytes w.prefix w.byte w.after w.parts (short_head_begins w.prefix (bytes-left w.prefix (w.byte ∷ w.after) (subst IsBytes w.parts are)) w.before) (here w.prefix w.byte w.stays))
  where
    here : (prefix : List ℕ) (b : ℕ) → ((t : List ℕ) → literal_at head_bytes (prefix ++ b ∷ t) ≡ Wrong (suc (length t))) → BeginsLog (prefix ++ b ∷ []) → ⊥
    here prefix b stays (cs, more, log) =
        let d = log_head ((prefix ++ b ∷ []) ++ more) cs log.1 in
        let wrong : literal_at head_bytes ((prefix ++ b ∷ []) ++ more) ≡ Wrong (suc (length more)) = ap (literal_at head_bytes) (append_assoc prefix (b ∷ []) more) ∙ stays more in
        let both : Wrong (suc (length more)) ≡ Done (tt, drop 6 ((prefix ++ b ∷ []) ++ more)) = sym wrong ∙ d in
        absurd cc

-- ---- the reading of a whole log, step by step

pub reads_head : (bytes : List ℕ) (rest : List ℕ) → IsBytes bytes → literal_at head_bytes bytes ≡ Done (tt, rest) → Prefix bytes rest []
reads_head bytes rest are e = head_prefix bytes rest are e

-- counted from the end, as readers do
abbrev WrongLeft : List ℕ → ℕ → Type 0
WrongLeft bytes n = (n ≤ length bytes) × IsFirstWrong bytes (length bytes - n)

named : (bytes : List ℕ) (n : ℕ) → WrongLeft bytes n → HasRead bytes (Err (stop.Wrong n)) []
named bytes n wrong = (wrong.0, names_wrong bytes (length bytes - n) wrong.1)

pub head_stops : (e : Stop) (bytes : List ℕ) → IsBytes bytes → Stops e (literal_at head_bytes bytes) → HasRead bytes (Err e) []
head_stops stop.Memory bytes are h = tt
head_stops stop.Short bytes are h = (short_head_no_log bytes h, are_kept bytes [] (short_head_begins bytes are h) (short_head_whole bytes are h))
head_stops (stop.Wrong n) bytes are h = named bytes n (wrong_head bytes n are h)

pub item_stops : (e : Stop) (bytes rest : List ℕ) (records new : List Record) → Prefix bytes rest records → IsBytes bytes → length bytes ≤ 67108864 → StopsAfter records new e (item_at fixed (length records) rest) (read_item fixed rest) → HasRead bytes (Err e) new
item_stops stop.Memory bytes rest records new f are few h = tt
item_stops stop.Short bytes rest records new f are few h =
    let rest_are = rest_bytes bytes rest records f are in
    (short_no_log bytes rest records f h.0, are_kept bytes new (short_begins bytes rest records f rest_are few h.0) (subst (StandInFull bytes) (sym h.1) (short_whole bytes rest records f rest_are h.0)))
item_stops (stop.Wrong n) bytes rest records new f are few h = named bytes n (item_wrong bytes rest records f n (rest_bytes bytes rest records f are) few h)

pub log_ends : (bytes rest : List ℕ) (records new : List Record) → Prefix bytes rest records → IsBytes bytes → length bytes ≤ 67108864 → item_at fixed (length records) rest ≡ Done (None, []) → new ≡ records → HasRead bytes (Ok tt) new
log_ends bytes rest records new f are few h same =
    let rest_are = rest_bytes bytes rest records f are in
    let log = whole_log bytes rest records f rest_are few h in
    let begins : BeginsLog bytes = (log.0, [], (log.1.0, append-nil bytes ∙ log.1.1)) in
    (log, are_kept bytes new begins (subst (StandInFull bytes) (sym same) (whole_whole bytes rest [] records f rest_are h)))

pub bytes_stand : (bytes rest following : List ℕ) (records : List Record) → Prefix bytes rest records → IsBytes bytes → length bytes ≤ 67108864 → item_at fixed (length records) rest ≡ Done (None, following) → 0 < length following → HasRead bytes (Err (stop.Wrong (length following))) []
bytes_stand bytes rest [] records f are few h some = absurd (omega arith)
bytes_stand bytes rest (b ∷ following) records f are few h some =
    let rest_are = rest_bytes bytes rest records f are in
    let is = end_is (length records) rest (b ∷ following) rest_are h in
    let len : length rest ≡ length (end_bytes (length records) ++ b ∷ following) = ap length is in
    let bound = prefix_bound bytes rest records f in
    named bytes (length (b ∷ following)) (omega (arith, length-append (end_bytes (length records)) (b ∷ following)), trailing_wrong bytes rest records f b following rest_are few h)

pub goes_to : (bytes rest following : List ℕ) (records new : List Record) (c : Chunk) → Prefix bytes rest records → IsBytes bytes → item_at fixed (length records) rest ≡ Done (Some c, following) → new ≡ records ++ c.records → Prefix bytes following new × (length following < length rest)
goes_to bytes rest following records new c f are h is =
    let rest_are = rest_bytes bytes rest records f are in
    (subst (Prefix bytes following) (sym is) (next_prefix bytes rest records f c following rest_are h), next_less (length records) rest c following rest_are h)

pub few : (bytes rest : List ℕ) (records : List Record) → Prefix bytes rest records → length bytes ≤ 67108864 → length records < 2 ^ 32
few bytes rest records f le = let b = prefix_bound bytes rest records f in omega arith

pub bytes_from : (s : List ℕ) → ((i : ℕ) → get_or s i 0 < 256) → IsBytes s
bytes_from [] h = tt
bytes_from (x ∷ s) h = (h 0, bytes_from s (λ i. h (suc i)))

-- ---- what a part that was read leaves

pub chunk_leaves : {X : Type 0} (view : X → List ℕ) (bytes rest : List ℕ) (old new : List Record) (m : Section) (x : X) → m ≡ mark.Chunk → Prefix bytes rest old → IsBytes bytes → AddsItem fixed view old new (Ok (m, x)) rest → Prefix bytes (view x) new × (length (view x) < length rest)
chunk_leaves view bytes rest old new mark.Chunk x is f are h = goes_to bytes rest (view x) old new h.0 f are h.1 h.2
chunk_leaves view bytes rest old new mark.End x is f are h = absurd cc

pub end_leaves : {X : Type 0} (view : X → List ℕ) (bytes rest : List ℕ) (old new : List Record) (m : Section) (x : X) → m ≡ mark.End → Prefix bytes rest old → IsBytes bytes → length bytes ≤ 67108864 → length (view x) ≡ 0 → AddsItem fixed view old new (Ok (m, x)) rest → HasRead bytes (Ok tt) new
end_leaves view bytes rest old new mark.Chunk x is f are few none h = absurd cc
end_leaves view bytes rest old new mark.End x is f are few none h =
    log_ends bytes rest old new f are few (h.0 ∙ ap (λ (w : List ℕ). Done (None, w)) (nil_from_length (view x) none)) h.1

pub end_stands : {X : Type 0} (view : X → List ℕ) (bytes rest : List ℕ) (old new : List Record) (m : Section) (x : X) → m ≡ mark.End → Prefix bytes rest old → IsBytes bytes → length bytes ≤ 67108864 → 0 < length (view x) → AddsItem fixed view old new (Ok (m, x)) rest → HasRead bytes (Err (stop.Wrong (length (view x)))) []
end_stands view bytes rest old new mark.Chunk x is f are few some h = absurd cc
end_stands view bytes rest old new mark.End x is f are few some h = bytes_stand bytes rest (view x) old f are few h.0 some
