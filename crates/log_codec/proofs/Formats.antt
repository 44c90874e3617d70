-- Each reader of a part of a log reads what its text says, for any way to spell numbers.
use Rattle.std.proofs.Common.{◌≡◌, ℕ, ◌^◌, ◌<◌, ◌≤◌, Bool, true, false, cond, eqb, leb, List, [], ◌∷◌, ◌++◌, length, Option, Some, None, refl, sym, ap, subst, ◌∙◌, append_assoc, arith}
use Rattle.std.specs.List.{AllByRecursion, flat_map}
use Rattle.std.specs.Int.{w16, w32, w64}
use Rattle.std.proofs.lemmas.Bool.{le-leb, leb-true, eqb-false, ne_eqb}
use Rattle.std.proofs.lemmas.List.{append-nil}
use Rattle.byte_format.specs.Spelling.{counted}
use Rattle.byte_format.specs.Reading.{coded_at, counted_at}
use Rattle.byte_format.specs.Numbers.{Numbers}
use Rattle.byte_format.proofs.Readers.{Reads, then, reads_done, reads_as, reads_chars, reads_code}
use Rattle.byte_format.proofs.Codes.{Always, law_if, law_none, reads_list, reads_counted, reads_most, flag_code, reads_flag, reads_literal}
use Rattle.byte_format.proofs.Spelled.{ReadsNumbers}
use Rattle.run_events.specs.Class.{number_of}
use Rattle.run_events.specs.declared.key.Class.{Class}
use Rattle.run_events.specs.declared.key.Class.TheVariants.{Mutex, User, Callback, Thread, Pool, Out, Async}
use Rattle.run_events.specs.declared.key.KeyMark.{KeyMark}
use Rattle.run_events.specs.declared.event.Reason.{Reason}
use Rattle.run_events.specs.declared.event.Reason.TheVariants.{Halted, Fault}
use Rattle.run_events.specs.declared.event.Event.{Event}
use Rattle.run_events.specs.declared.event.Event.TheVariants.{Call, Ret, Up, UpRet, Alloc, Free, Stop}
use Rattle.run_events.specs.declared.event.Record.{Record}
use Rattle.log_codec.specs.declared.kind.EventTag.{EventTag}
use Rattle.log_codec.specs.declared.kind.EventTag.TheVariants as kind
use Rattle.log_codec.specs.declared.kind.Section.{Section}
use Rattle.log_codec.specs.declared.kind.Section.TheVariants as mark
use Rattle.log_codec.specs.LogText.{Chunk, end_text, key_text, piece_text, reason_number, kind_number, body_text, record_text, chunk_text, IsWord, IsKey, IsPiece, IsReason, IsBody, IsRecord, IsChunk}
use Rattle.log_codec.specs.Reading.{class_from, kind_from, reason_from, mark_from, key_at, piece_at, call_at, up_at, values_at, ret_at, upret_at, alloc_at, free_at, stop_at, body_at, record_at, chunk_head_at, chunk_at, after_mark, item_at}

-- ---- bytes that stand for values

class_law : (b : ℕ) (c : Class) → class_from b ≡ Some c → number_of c ≡ b
class_law b = law_if number_of b 1 Mutex _ refl (law_if number_of b 2 User _ refl (law_if number_of b 3 Callback _ refl (law_if number_of b 4 Thread _ refl (law_if number_of b 5 Pool _ refl (law_if number_of b 6 Out _ refl (law_if number_of b 7 Async _ refl (law_none number_of b)))))))

class_again : (c : Class) → class_from (number_of c) ≡ Some c
class_again Mutex = refl
class_again User = refl
class_again Callback = refl
class_again Thread = refl
class_again Pool = refl
class_again Out = refl
class_again Async = refl

reads_class : Reads (coded_at class_from) (λ c. number_of c ∷ []) Always
reads_class = reads_as (coded_at class_from) _ _ _ Always (reads_code class_from number_of class_law Mutex refl) (λ c f. refl) (λ c f. tt) (λ c f. class_again c)

reason_law : (b : ℕ) (r : Reason) → reason_from b ≡ Some r → reason_number r ≡ b
reason_law b = law_if reason_number b 0 Halted _ refl fault_law where
  by : (r : Reason) (t : Bool) → cond t (Some (Fault b)) None ≡ Some r → reason_number r ≡ b
  by r true e = let is : Fault b ≡ r = cc in ap reason_number (sym is)
  by r false e = absurd cc

  fault_law : (r : Reason) → cond (leb b 6) (Some (Fault b)) None ≡ Some r → reason_number r ≡ b
  fault_law r e = by r (leb b 6) e

fault_fits : (n : ℕ) → reason_from n ≡ Some (Fault n) → (1 ≤ n) × (n ≤ 6)
fault_fits n e = by (eqb n 0) (leb n 6) refl refl e where
  by : (t u : Bool) → eqb n 0 ≡ t → leb n 6 ≡ u → cond t (Some Halted) (cond u (Some (Fault n)) None) ≡ Some (Fault n) → (1 ≤ n) × (n ≤ 6)
  by true u z le e = absurd cc
  by false true z le e = (let ne = eqb-false n 0 z in omega arith, leb-true n 6 le)
  by false false z le e = absurd cc

reason_fits : (r : Reason) → reason_from (reason_number r) ≡ Some r → IsReason r
reason_fits Halted e = tt
reason_fits (Fault n) e = fault_fits n e

fits_reason : (r : Reason) → IsReason r → reason_from (reason_number r) ≡ Some r
fits_reason Halted f = refl
fits_reason (Fault n) f = rw (ne_eqb n 0 (λ e. omega (arith, e, f.0)), le-leb n 6 f.1) refl

reads_reason : Reads (coded_at reason_from) (λ r. reason_number r ∷ []) IsReason
reads_reason = reads_as (coded_at reason_from) _ _ _ IsReason (reads_code reason_from reason_number reason_law Halted refl) (λ r f. refl) reason_fits fits_reason

kind_byte : EventTag → ℕ
kind_byte kind.Call = 1
kind_byte kind.Ret = 2
kind_byte kind.Up = 3
kind_byte kind.UpRet = 4
kind_byte kind.Alloc = 5
kind_byte kind.Free = 6
kind_byte kind.Stop = 7

kind_law : (b : ℕ) (k : EventTag) → kind_from b ≡ Some k → kind_byte k ≡ b
unfolding kind_byte
kind_law b = law_if kind_byte b 1 kind.Call _ refl (law_if kind_byte b 2 kind.Ret _ refl (law_if kind_byte b 3 kind.Up _ refl (law_if kind_byte b 4 kind.UpRet _ refl (law_if kind_byte b 5 kind.Alloc _ refl (law_if kind_byte b 6 kind.Free _ refl (law_if kind_byte b 7 kind.Stop _ refl (law_none kind_byte b)))))))

kind_again : (k : EventTag) → kind_from (kind_byte k) ≡ Some k
unfolding kind_byte
kind_again kind.Call = refl
kind_again kind.Ret = refl
kind_again kind.Up = refl
kind_again kind.UpRet = refl
kind_again kind.Alloc = refl
kind_again kind.Free = refl
kind_again kind.Stop = refl

reads_kind : Reads (coded_at kind_from) (λ k. kind_byte k ∷ []) Always
reads_kind = reads_as (coded_at kind_from) _ _ _ Always (reads_code kind_from kind_byte kind_law kind.Call (kind_again kind.Call)) (λ c f. refl) (λ c f. tt) (λ c f. kind_again c)

abbrev pub mark_code : Section → ℕ
mark_code mark.Chunk = 67
mark_code mark.End = 69

mark_law : (b : ℕ) (m : Section) → mark_from b ≡ Some m → mark_code m ≡ b
mark_law b = law_if mark_code b 67 mark.Chunk _ refl (law_if mark_code b 69 mark.End _ refl (law_none mark_code b))

mark_again : (m : Section) → mark_from (mark_code m) ≡ Some m
mark_again mark.Chunk = refl
mark_again mark.End = refl

pub reads_mark : Reads (coded_at mark_from) (λ m. mark_code m ∷ []) Always
reads_mark = reads_as (coded_at mark_from) _ _ _ Always (reads_code mark_from mark_code mark_law mark.End (mark_again mark.End)) (λ c f. refl) (λ c f. tt) (λ c f. mark_again c)

-- ---- events

abbrev kind_of : Event → EventTag
kind_of (Call func args) = kind.Call
kind_of (Ret same result outs) = kind.Ret
kind_of (Up func args) = kind.Up
kind_of (UpRet result) = kind.UpRet
kind_of (Alloc size addr) = kind.Alloc
kind_of (Free addr) = kind.Free
kind_of (Stop reason) = kind.Stop

kind_is : (e : Event) → kind_byte (kind_of e) ≡ kind_number e
unfolding kind_byte
kind_is (Call func args) = refl
kind_is (Ret same result outs) = refl
kind_is (Up func args) = refl
kind_is (UpRet result) = refl
kind_is (Alloc size addr) = refl
kind_is (Free addr) = refl
kind_is (Stop reason) = refl

abbrev IsOf : EventTag → Event → Type 0
IsOf k e = IsBody e × (kind_of e ≡ k)

func_of : Event → ℕ
func_of (Call func args) = func
func_of (Up func args) = func
func_of e = 0

args_of : Event → List ℕ
args_of (Call func args) = args
args_of (Up func args) = args
args_of e = []

-- the one number of the others, or the first
word_of : Event → ℕ
word_of (Ret same result outs) = result
word_of (UpRet result) = result
word_of (Alloc size addr) = size
word_of (Free addr) = addr
word_of e = 0

addr_of : Event → ℕ
addr_of (Alloc size addr) = addr
addr_of e = 0

same_of : Event → Bool
same_of (Ret same result outs) = same
same_of e = false

outs_of : Event → List (List ℕ)
outs_of (Ret same result outs) = outs
outs_of e = []

reason_of : Event → Reason
reason_of (Stop reason) = reason
reason_of e = Halted

abbrev IsFewWords : List ℕ → Type 0
IsFewWords xs = (length xs ≤ 8) × AllByRecursion IsWord xs

regroup : (a b c d : List ℕ) → a ++ (b ++ (c ++ d)) ≡ a ++ b ++ c ++ d
regroup a b c d = simp append_assoc

-- a record of the thread
abbrev pub IsOwn : ℕ → Record → Type 0
IsOwn thread r = (r.thread ≡ thread) × IsRecord r

own_parts : (thread : ℕ) (rs : List Record) → AllByRecursion (IsOwn thread) rs → AllByRecursion (λ r. r.thread ≡ thread) rs × AllByRecursion IsRecord rs
own_parts thread [] each = (tt, tt)
own_parts thread (r ∷ rs) each = let more = own_parts thread rs each.1 in ((each.0.0, more.0), (each.0.1, more.1))

pub own_made : (thread : ℕ) (rs : List Record) → AllByRecursion (λ r. r.thread ≡ thread) rs → AllByRecursion IsRecord rs → AllByRecursion (IsOwn thread) rs
own_made thread [] own each = tt
own_made thread (r ∷ rs) own each = ((own.0, each.0), own_made thread rs own.1 each.1)

-- the thread and the count of a chunk
abbrev pub IsHead : ℕ × ℕ → Type 0
IsHead h = (h.0 ≤ 31) × ((1 ≤ h.1) × (h.1 < 2 ^ 16))

abbrev pub head_of : Chunk → ℕ × ℕ
head_of c = (c.thread, length c.records)

same_head : (h : ℕ × ℕ) (c : Chunk) → length c.records ≡ h.1 → c.thread ≡ h.0 → head_of c ≡ h
same_head h c e f = ap (λ (t : ℕ). let v : ℕ × ℕ = (t, length c.records) in v) f ∙ ap (λ (n : ℕ). let v : ℕ × ℕ = (h.0, n) in v) e

-- a chunk, or the end
abbrev pub IsItem : Option Chunk → Type 0
IsItem None = Unit {0}
IsItem (Some c) = IsChunk c

abbrev mark_of : Option Chunk → Section
mark_of None = mark.End
mark_of (Some c) = mark.Chunk

abbrev chunk_or : Option Chunk → Chunk
chunk_or None = record { thread = 0; records = [] }
chunk_or (Some c) = c

abbrev IsAfter : Section → Option Chunk → Type 0
IsAfter mark.Chunk o = IsChunk (chunk_or o) × (o ≡ Some (chunk_or o))
IsAfter mark.End o = Unit {0} × (o ≡ None)

after_same : (m : Section) (o : Option Chunk) → IsAfter m o → mark_of o ≡ m
after_same mark.Chunk o f = ap mark_of f.1
after_same mark.End o f = ap mark_of f.1

item_is : (o : Option Chunk) → Unit {0} × IsAfter (mark_of o) o → IsItem o
item_is None f = tt
item_is (Some c) f = f.1.0

is_item : (o : Option Chunk) → IsItem o → Unit {0} × IsAfter (mark_of o) o
is_item None f = (tt, (tt, refl))
is_item (Some c) f = (tt, (f, refl))

module _ (num : Numbers) where
  -- the text of a chunk's head after the letter
  abbrev pub head_tail : ℕ × ℕ → List ℕ
  head_tail h = h.0 ∷ num.text w16 h.1

  -- the text of a chunk after the letter
  abbrev pub chunk_tail : Chunk → List ℕ
  chunk_tail c = head_tail (head_of c) ++ flat_map (record_text num.text) c.records

  abbrev pub item_text : ℕ → Option Chunk → List ℕ
  item_text total None = end_text num.text total
  item_text total (Some c) = chunk_text num.text c

  abbrev after_text : ℕ → Section → Option Chunk → List ℕ
  after_text total mark.Chunk o = chunk_tail (chunk_or o) ++ []
  after_text total mark.End o = num.text w32 total ++ []

module _ (num : Numbers) (laws : ReadsNumbers num) where
  -- ---- a key

  pub reads_key : Reads (key_at num) (key_text num.text) IsKey
  unfolding key_at
  reads_key = reads_as (key_at num) _ (key_text num.text) _ IsKey
      (then (λ (m : KeyMark). m.key.class) reads_class
      (λ class _. then (λ (m : KeyMark). m.key.value) laws.wide64
      (λ value _. then (λ (m : KeyMark). m.ticket) laws.wide32
      (λ ticket _. reads_done (let v : KeyMark = record { key = record { class = class; value = value }; ticket = ticket } in v))
      (λ ticket m _ e. ap (λ (m : KeyMark). m.ticket) e))
      (λ value m _ e. ap (λ (m : KeyMark). m.key.value) e.1))
      (λ class m _ e. ap (λ (m : KeyMark). m.key.class) e.1.1))
      (λ m f. ap (λ (z : List ℕ). number_of m.key.class ∷ (num.text w64 m.key.value ++ z)) (append-nil (num.text w32 m.ticket))) (λ m f. (f.1.0, f.1.1.0)) (λ m f. (tt, (f.0, (f.1, refl))))

  pub reads_piece : Reads (piece_at num) (piece_text num.text) IsPiece
  unfolding piece_at
  reads_piece = reads_as (piece_at num) _ (piece_text num.text) _ IsPiece
      (then length laws.wide32 (λ n _. reads_chars n) (λ n text _ f. f.0))
      (λ text f. refl) (λ text f. (f.0, f.1.1)) (λ text f. (f.0, (refl, f.1)))

  reads_keys : Reads (counted_at (key_at num) 16) (counted (key_text num.text)) (λ xs. (length xs ≤ 16) × AllByRecursion IsKey xs)
  reads_keys = reads_counted (key_at num) (key_text num.text) IsKey reads_key 16

  reads_words : Reads (counted_at (num.at w64) 8) (counted (num.text w64)) (λ xs. (length xs ≤ 8) × AllByRecursion IsWord xs)
  reads_words = reads_counted (num.at w64) (num.text w64) IsWord laws.wide64 8

  reads_pieces : Reads (counted_at (piece_at num) 9) (counted (piece_text num.text)) (λ xs. (length xs ≤ 9) × AllByRecursion IsPiece xs)
  reads_pieces = reads_counted (piece_at num) (piece_text num.text) IsPiece reads_piece 9

  abbrev IsMade : (ℕ → List ℕ → Event) → Event → Type 0
  IsMade make e = (func_of e < 2 ^ 16) × (IsFewWords (args_of e) × (e ≡ make (func_of e) (args_of e)))

  call_text : (e : Event) → IsMade Call e → num.text w16 (func_of e) ++ (counted (num.text w64) (args_of e) ++ []) ≡ body_text num.text e
  unfolding func_of args_of
  call_text (Call func args) f = ap (λ (z : List ℕ). num.text w16 func ++ z) (append-nil (counted (num.text w64) args))
  call_text e f = absurd (let is = f.1.1 in cc)

  call_is : (e : Event) → IsMade Call e → IsOf kind.Call e
  unfolding func_of args_of
  call_is (Call func args) f = ((f.0, f.1.0.0, f.1.0.1), refl)
  call_is e f = absurd (let is = f.1.1 in cc)

  is_call : (e : Event) → IsOf kind.Call e → IsMade Call e
  unfolding func_of args_of
  is_call (Call func args) f = (f.0.0, ((f.0.1, f.0.2), refl))
  is_call e f = absurd (let is = f.1 in cc)

  reads_call : Reads (call_at num) (body_text num.text) (IsOf kind.Call)
  unfolding call_at func_of args_of
  reads_call = reads_as (call_at num) _ (body_text num.text) _ (IsOf kind.Call)
      (then func_of laws.wide16
      (λ func _. then args_of reads_words (λ args _. reads_done (Call func args)) (λ args e _ is. ap args_of is))
      (λ func e _ f. ap func_of f.1))
      call_text call_is is_call

  up_text : (e : Event) → IsMade Up e → num.text w16 (func_of e) ++ (counted (num.text w64) (args_of e) ++ []) ≡ body_text num.text e
  unfolding func_of args_of
  up_text (Up func args) f = ap (λ (z : List ℕ). num.text w16 func ++ z) (append-nil (counted (num.text w64) args))
  up_text e f = absurd (let is = f.1.1 in cc)

  up_is : (e : Event) → IsMade Up e → IsOf kind.Up e
  unfolding func_of args_of
  up_is (Up func args) f = ((f.0, f.1.0.0, f.1.0.1), refl)
  up_is e f = absurd (let is = f.1.1 in cc)

  is_up : (e : Event) → IsOf kind.Up e → IsMade Up e
  unfolding func_of args_of
  is_up (Up func args) f = (f.0.0, ((f.0.1, f.0.2), refl))
  is_up e f = absurd (let is = f.1 in cc)

  reads_up : Reads (up_at num) (body_text num.text) (IsOf kind.Up)
  unfolding up_at func_of args_of
  reads_up = reads_as (up_at num) _ (body_text num.text) _ (IsOf kind.Up)
      (then func_of laws.wide16
      (λ func _. then args_of reads_words (λ args _. reads_done (Up func args)) (λ args e _ is. ap args_of is))
      (λ func e _ f. ap func_of f.1))
      up_text up_is is_up

  abbrev IsFewPieces : List (List ℕ) → Type 0
  IsFewPieces xs = (length xs ≤ 9) × AllByRecursion IsPiece xs

  abbrev values_text : Bool → Event → List ℕ
  values_text true e = []
  values_text false e = num.text w64 (word_of e) ++ (counted (piece_text num.text) (outs_of e) ++ [])

  abbrev AreValues : Bool → Event → Type 0
  AreValues true e = e ≡ Ret true 0 []
  AreValues false e = IsWord (word_of e) × (IsFewPieces (outs_of e) × (e ≡ Ret false (word_of e) (outs_of e)))

  reads_values : (same : Bool) → Reads (values_at num same) (values_text same) (AreValues same)
  unfolding values_at word_of outs_of
  reads_values true = reads_done (Ret true 0 [])
  reads_values false = then word_of laws.wide64
      (λ result _. then outs_of reads_pieces (λ outs _. reads_done (Ret false result outs)) (λ outs e _ is. ap outs_of is))
      (λ result e _ f. ap word_of f.1)

  values_same : (same : Bool) (e : Event) → AreValues same e → same_of e ≡ same
  unfolding same_of
  values_same true e f = ap same_of f
  values_same false e f = ap same_of f.1.1

  abbrev IsRet : Event → Type 0
  IsRet e = Unit {0} × AreValues (same_of e) e

  ret_text : (e : Event) → IsRet e → flag_code (same_of e) ∷ values_text (same_of e) e ≡ body_text num.text e
  unfolding same_of word_of outs_of
  ret_text (Ret true result outs) f = refl
  ret_text (Ret false result outs) f = ap (λ (z : List ℕ). 0 ∷ (num.text w64 result ++ z)) (append-nil (counted (piece_text num.text) outs))
  ret_text e f = absurd (let is = f.1.1.1 in cc)

  ret_is : (e : Event) → IsRet e → IsOf kind.Ret e
  unfolding same_of word_of outs_of
  ret_is (Ret true result outs) f = ((ap word_of f.1, ap outs_of f.1), refl)
  ret_is (Ret false result outs) f = ((f.1.0, f.1.1.0.0, f.1.1.0.1), refl)
  ret_is e f = absurd (let is = f.1.1.1 in cc)

  is_ret : (e : Event) → IsOf kind.Ret e → IsRet e
  unfolding same_of word_of outs_of
  is_ret (Ret true result outs) f = (tt, let r = f.0.0 in let o = f.0.1 in cc)
  is_ret (Ret false result outs) f = (tt, (f.0.0, ((f.0.1, f.0.2), refl)))
  is_ret e f = absurd (let is = f.1 in cc)

  reads_ret : Reads (ret_at num) (body_text num.text) (IsOf kind.Ret)
  unfolding ret_at
  reads_ret = reads_as (ret_at num) _ (body_text num.text) _ (IsOf kind.Ret)
      (then same_of reads_flag (λ same _. reads_values same) (λ same e _ f. values_same same e f))
      ret_text ret_is is_ret

  -- ---- the others

  upret_is : (e : Event) → (word_of e < 2 ^ 64) × (e ≡ UpRet (word_of e)) → (num.text w64 (word_of e) ++ [] ≡ body_text num.text e) × IsOf kind.UpRet e
  unfolding word_of
  upret_is (UpRet result) f = (append-nil (num.text w64 result), (f.0, refl))
  upret_is e f = absurd (let is = f.1 in cc)

  is_upret : (e : Event) → IsOf kind.UpRet e → (word_of e < 2 ^ 64) × (e ≡ UpRet (word_of e))
  unfolding word_of
  is_upret (UpRet result) f = (f.0, refl)
  is_upret e f = absurd (let is = f.1 in cc)

  reads_upret : Reads (upret_at num) (body_text num.text) (IsOf kind.UpRet)
  unfolding upret_at word_of
  reads_upret = reads_as (upret_at num) _ (body_text num.text) _ (IsOf kind.UpRet)
      (then word_of laws.wide64 (λ result _. reads_done (UpRet result)) (λ result e _ is. ap word_of is))
      (λ e f. (upret_is e f).0) (λ e f. (upret_is e f).1) is_upret

  free_is : (e : Event) → (word_of e < 2 ^ 64) × (e ≡ Free (word_of e)) → (num.text w64 (word_of e) ++ [] ≡ body_text num.text e) × IsOf kind.Free e
  unfolding word_of
  free_is (Free addr) f = (append-nil (num.text w64 addr), (f.0, refl))
  free_is e f = absurd (let is = f.1 in cc)

  is_free : (e : Event) → IsOf kind.Free e → (word_of e < 2 ^ 64) × (e ≡ Free (word_of e))
  unfolding word_of
  is_free (Free addr) f = (f.0, refl)
  is_free e f = absurd (let is = f.1 in cc)

  reads_free : Reads (free_at num) (body_text num.text) (IsOf kind.Free)
  unfolding free_at word_of
  reads_free = reads_as (free_at num) _ (body_text num.text) _ (IsOf kind.Free)
      (then word_of laws.wide64 (λ addr _. reads_done (Free addr)) (λ addr e _ is. ap word_of is))
      (λ e f. (free_is e f).0) (λ e f. (free_is e f).1) is_free

  abbrev IsAlloc : Event → Type 0
  IsAlloc e = (word_of e < 2 ^ 64) × ((addr_of e < 2 ^ 64) × (e ≡ Alloc (word_of e) (addr_of e)))

  alloc_is : (e : Event) → IsAlloc e → (num.text w64 (word_of e) ++ (num.text w64 (addr_of e) ++ []) ≡ body_text num.text e) × IsOf kind.Alloc e
  unfolding word_of addr_of
  alloc_is (Alloc size addr) f = (ap (λ (z : List ℕ). num.text w64 size ++ z) (append-nil (num.text w64 addr)), ((f.0, f.1.0), refl))
  alloc_is e f = absurd (let is = f.1.1 in cc)

  is_alloc : (e : Event) → IsOf kind.Alloc e → IsAlloc e
  unfolding word_of addr_of
  is_alloc (Alloc size addr) f = (f.0.0, (f.0.1, refl))
  is_alloc e f = absurd (let is = f.1 in cc)

  reads_alloc : Reads (alloc_at num) (body_text num.text) (IsOf kind.Alloc)
  unfolding alloc_at word_of addr_of
  reads_alloc = reads_as (alloc_at num) _ (body_text num.text) _ (IsOf kind.Alloc)
      (then word_of laws.wide64
      (λ size _. then addr_of laws.wide64 (λ addr _. reads_done (Alloc size addr)) (λ addr e _ is. ap addr_of is))
      (λ size e _ f. ap word_of f.1))
      (λ e f. (alloc_is e f).0) (λ e f. (alloc_is e f).1) is_alloc

  stop_is : (e : Event) → IsReason (reason_of e) × (e ≡ Stop (reason_of e)) → (reason_number (reason_of e) ∷ [] ≡ body_text num.text e) × IsOf kind.Stop e
  unfolding reason_of
  stop_is (Stop reason) f = (refl, (f.0, refl))
  stop_is e f = absurd (let is = f.1 in cc)

  is_stop : (e : Event) → IsOf kind.Stop e → IsReason (reason_of e) × (e ≡ Stop (reason_of e))
  unfolding reason_of
  is_stop (Stop reason) f = (f.0, refl)
  is_stop e f = absurd (let is = f.1 in cc)

  reads_stop : Reads (stop_at num) (body_text num.text) (IsOf kind.Stop)
  unfolding stop_at reason_of
  reads_stop = reads_as (stop_at num) _ (body_text num.text) _ (IsOf kind.Stop)
      (then reason_of reads_reason (λ reason _. reads_done (Stop reason)) (λ reason e _ is. ap reason_of is))
      (λ e f. (stop_is e f).0) (λ e f. (stop_is e f).1) is_stop

  reads_body : (k : EventTag) → Reads (body_at num k) (body_text num.text) (IsOf k)
  unfolding body_at
  reads_body kind.Call = reads_call
  reads_body kind.Ret = reads_ret
  reads_body kind.Up = reads_up
  reads_body kind.UpRet = reads_upret
  reads_body kind.Alloc = reads_alloc
  reads_body kind.Free = reads_free
  reads_body kind.Stop = reads_stop

  record_text_is : (r : Record) → kind_byte (kind_of r.event) ∷ (num.text w32 r.steps ++ (num.text w32 r.clock ++ (counted (key_text num.text) r.keys ++ (body_text num.text r.event ++ [])))) ≡ record_text num.text r
  record_text_is r = rw (kind_is r.event, append-nil (body_text num.text r.event)) (ap (λ (z : List ℕ). kind_number r.event ∷ z) (regroup (num.text w32 r.steps) (num.text w32 r.clock) (counted (key_text num.text) r.keys) (body_text num.text r.event)))

  pub reads_record : (thread : ℕ) → thread < 32 → Reads (record_at num thread) (record_text num.text) (IsOwn thread)
  unfolding record_at
  reads_record thread lt = reads_as (record_at num thread) _ (record_text num.text) _ (IsOwn thread)
      (then (λ (r : Record). kind_of r.event) reads_kind
      (λ k _. then (λ (r : Record). r.steps) laws.wide32
      (λ steps _. then (λ (r : Record). r.clock) laws.wide32
      (λ clock _. then (λ (r : Record). r.keys) reads_keys
      (λ keys _. then (λ (r : Record). r.event) (reads_body k)
      (λ event _. reads_done (let v : Record = record { thread = thread; steps = steps; clock = clock; keys = keys; event = event } in v))
      (λ event r _ is. ap (λ (r : Record). r.event) is))
      (λ keys r _ f. ap (λ (r : Record). r.keys) f.1))
      (λ clock r _ f. ap (λ (r : Record). r.clock) f.1.1))
      (λ steps r _ f. ap (λ (r : Record). r.steps) f.1.1.1))
      (λ k r _ f. f.1.1.1.0.1))
      (λ r f. record_text_is r)
      (λ r f.
      let own : r.thread ≡ thread = ap (λ (r : Record). r.thread) f.1.1.1.1.1 in
      (own, record { thread = subst (λ t. t < 32) (sym own) lt; steps = f.1.0; clock = f.1.1.0; key_count = f.1.1.1.0.0; keys = f.1.1.1.0.1; body = f.1.1.1.1.0.0 }))
      (λ r f. (tt, (f.1.steps, (f.1.clock, ((f.1.key_count, f.1.keys), ((f.1.body, refl), ap (λ t. let v : Record = record { thread = t; steps = r.steps; clock = r.clock; keys = r.keys; event = r.event } in v) f.0))))))

  -- ---- a chunk

  pub reads_chunk_head : Reads (chunk_head_at num) (head_tail num) IsHead
  unfolding chunk_head_at
  reads_chunk_head = reads_as (chunk_head_at num) _ (head_tail num) _ IsHead
      (then (λ (h : ℕ × ℕ). h.0) (reads_most 31)
      (λ thread _. then (λ (h : ℕ × ℕ). h.1) laws.some (λ count _. reads_done (let v : ℕ × ℕ = (thread, count) in v)) (λ count h _ is. ap (λ (h : ℕ × ℕ). h.1) is))
      (λ thread h _ f. ap (λ (h : ℕ × ℕ). h.0) f.1))
      (λ h f. ap (λ (z : List ℕ). h.0 ∷ z) (append-nil (num.text w16 h.1))) (λ h f. (f.0, f.1.0)) (λ h f. (f.0, (f.1, refl)))

  pub reads_chunk : Reads (chunk_at num) (chunk_tail num) IsChunk
  unfolding chunk_at
  reads_chunk = reads_as (chunk_at num) _ (chunk_tail num) _ IsChunk
      (then head_of reads_chunk_head
      (λ h f. then (λ (c : Chunk). c.records) (reads_list (record_at num h.0) (record_text num.text) (IsOwn h.0) (reads_record h.0 (omega (arith, f.0))) h.1)
      (λ rs _. reads_done (let v : Chunk = record { thread = h.0; records = rs } in v))
      (λ rs c _ is. ap (λ (c : Chunk). c.records) is))
      (λ h c _ f. same_head h c f.0.0 (ap (λ (c : Chunk). c.thread) f.1)))
      (λ c f. ap (λ (z : List ℕ). head_tail num (head_of c) ++ z) (append-nil (flat_map (record_text num.text) c.records)))
      (λ c f. record { thread = omega (arith, f.0.0); some = f.0.1.0; few = f.0.1.1; own = (own_parts c.thread c.records f.1.0.1).0; each = (own_parts c.thread c.records f.1.0.1).1 })
      (λ c f. ((omega (arith, f.thread), (f.some, f.few)), ((refl, own_made c.thread c.records f.own f.each), refl)))

  -- ---- a chunk, or the end

  reads_after : (total : ℕ) (m : Section) → Reads (after_mark num m total) (after_text num total m) (IsAfter m)
  unfolding after_mark
  reads_after total mark.Chunk = then chunk_or reads_chunk (λ c _. reads_done (Some c)) (λ c o _ is. ap chunk_or is)
  reads_after total mark.End = then (λ (o : Option Chunk). tt) (reads_literal (num.text w32 total)) (λ u _. reads_done (let v : Option Chunk = None in v)) (λ u o _ is. refl)

  item_is_text : (total : ℕ) (o : Option Chunk) → Unit {0} × IsAfter (mark_of o) o → mark_code (mark_of o) ∷ after_text num total (mark_of o) o ≡ item_text num total o
  item_is_text total None f = ap (λ (z : List ℕ). 69 ∷ z) (append-nil (num.text w32 total))
  item_is_text total (Some c) f = ap (λ (z : List ℕ). 67 ∷ z) (append-nil (chunk_tail num c))

  pub reads_item : (total : ℕ) → Reads (item_at num total) (item_text num total) IsItem
  unfolding item_at
  reads_item total = reads_as (item_at num total) _ (item_text num total) _ IsItem
      (then mark_of reads_mark (λ m _. reads_after total m) (λ m o _ f. after_same m o f))
      (item_is_text total) item_is is_item
