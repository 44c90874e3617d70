-- Text that is added to a target, piece by piece.
use Rattle.std.proofs.Common.{◌≡◌, ◌≢◌, ◌≤◌, ◌<◌, ◌+◌, ◌++◌, ◌∷◌, [], zero, suc, add-one, ℕ, List, Bool, true, false, Option, Some, None, Result, Ok, Err, IsTrue, IfErr, OnOk, OnErr, length, take, drop, get_or, sym, ◌∙◌, ap, arith, refl, subst, cond, bytes_eq, append_assoc, append-nil, length-append}
use Rattle.std.specs.Result.{IsErrAnd}
use Rattle.std.specs.List.{flat_map}
use Rattle.std.proofs.Math.Seq.{take-append-add}
use Rattle.std.proofs.Math.ListN.{drop_of_length-le}
use Rattle.std.proofs.lemmas.List.{append_cancel_left, take-append-le, take-append-drop}
use Rattle.std.proofs.lemmas.Grind.{flat_map-append}
use Rattle.std.proofs.lemmas.Slice.Eq.{bytes_eq-Decides}
use Rattle.run_events.specs.declared.event.EventName.{EventName}
use Rattle.run_events.specs.declared.event.Record.{Record}
use Rattle.log_closure.specs.Events.{LogEvent}
use Rattle.event_texts.specs.EventTexts.{event_line, lines_text, end_line, order_text}
use Rattle.r2_base.specs.Causes.{IsWriteCause}
use Rattle.r2_base.specs.Names.{GrowsFile, content}
use Rattle.r2_base.specs.Seen.{Store, Stream, OnlyWrites}
use Rattle.r2_base.specs.Sinks.{TellsGrowth}
use Rattle.r2_base.specs.declared.fault.Fault.{Fault}
use Rattle.r2_base.specs.declared.fault.Fault.TheVariants.{Failed, Missing, Memory}
use Rattle.r2_cli_outcome.specs.World.{World, Later, world}
use Rattle.r2_cli_outcome.specs.Outcome.{Target, Write, file, out, err}
use Rattle.r2_cli_outcome.specs.After.{After, Adds}
use Rattle.r2_cli_outcome.specs.Left.{IsPart, untouched, prefix, faults_at}
use Rattle.r2_cli_outcome.specs.Sending.{one, AddsAt, Puts, Begins, IsSending, Sends, Stops, failed, memory, Does}
use Rattle.r2_cli_outcome.proofs.StageLemmas.{rose_from}
use Rattle.r2_cli_outcome.proofs.AfterLemmas.{adds_none, adds_then, adds_all, adds_prefix, differ, holds_one}
use Rattle.r2_cli_outcome.proofs.WriteLemmas.{faults_later, that_err}

-- ---- one piece

pub cause_from : (x y z : ℕ) (fault : Fault) → x ≤ y → IsWriteCause y z fault → IsWriteCause x z fault
cause_from x y z Failed le h = rose_from x y z le h
cause_from x y z Missing le h = h
cause_from x y z Memory le h = tt

pub adds_nothing : (t : Target) (a : World) → AddsAt t [] a a
adds_nothing t a begun before p = subst (λ (w : List ℕ). After (one t w) begun a) (sym (append-nil before)) p

pub adds_both : (t : Target) (x y : List ℕ) (a b c : World) → AddsAt t x a b → AddsAt t y b c → AddsAt t (x ++ y) a c
adds_both t x y a b c p q begun before r = subst (λ (w : List ℕ). After (one t w) begun c) (append_assoc before x y) (q begun (before ++ x) (p begun before r))

pub adds_same : (t : Target) (x y : List ℕ) (a b : World) → x ≡ y → AddsAt t x a b → AddsAt t y a b
adds_same t x y a b e p = subst (λ (w : List ℕ). AddsAt t w a b) e p

-- to a sink

more_given : (a old new : Option (List ℕ)) (before text : List ℕ) → Adds a old (before ++ []) → Adds old new text → Adds a new ((before ++ text) ++ [])
more_given a old new before text p q =
    subst (λ (w : List ℕ). Adds a new w) (ap (λ (w : List ℕ). w ++ text) (append-nil before) ∙ sym (append-nil (before ++ text))) (adds_then a old new (before ++ []) text p q)

out_adds : (f : Store) (e : Stream) (old new : Stream) (text : List ℕ) → Adds old.given new.given text → AddsAt out text (world f old e) (world f new e)
out_adds f e old new text g begun before p = record { told = p.told; files = p.files; out = more_given begun.out.given old.given new.given before text p.out g; err = p.err }

err_adds : (f : Store) (o : Stream) (old new : Stream) (text : List ℕ) → Adds old.given new.given text → AddsAt err text (world f o old) (world f o new)
err_adds f o old new text g begun before p = record { told = p.told; files = p.files; out = p.out; err = more_given begun.err.given old.given new.given before text p.err g }

pub out_puts : (f : Store) (e old new : Stream) (text : List ℕ) (result : Result (Unit {0}) Fault) → TellsGrowth old.given new.given result text → IfErr result (IsWriteCause old.faults new.faults)
    → Puts out text (world f old e) (world f new e) result
out_puts f e old new text (Ok done) g cause = out_adds f e old new text (adds_all old.given new.given text g)
out_puts f e old new text (Err fault) g cause = let p = adds_prefix old.given new.given fault text g in ((p.0, p.1, out_adds f e old new (take p.0 text) p.2), cause)

pub err_puts : (f : Store) (o old new : Stream) (text : List ℕ) (result : Result (Unit {0}) Fault) → TellsGrowth old.given new.given result text → IfErr result (IsWriteCause old.faults new.faults)
    → Puts err text (world f o old) (world f o new) result
err_puts f o old new text (Ok done) g cause = err_adds f o old new text (adds_all old.given new.given text g)
err_puts f o old new text (Err fault) g cause = let p = adds_prefix old.given new.given fault text g in ((p.0, p.1, err_adds f o old new (take p.0 text) p.2), cause)

-- to a file

here : (b : Bool) (x y : Option (List ℕ)) → b ≡ true → cond b x y ≡ x
here true x y e = refl
here false x y e = absurd (let k : false ≡ true = e in cc)

elsewhere : (b : Bool) (name n : List ℕ) (x y : Option (List ℕ)) → bytes_eq name n ≡ b → n ≢ name → cond b x y ≡ y
elsewhere true name n x y e ne = absurd (ne (sym ((bytes_eq-Decides name n).0 e)))
elsewhere false name n x y e ne = refl

file_adds : (name text : List ℕ) (f g : Store) (o e : Stream) → OnlyWrites name f g → (IsTrue f.tells → (before : List ℕ) → f.holds name ≡ Some before → g.holds name ≡ Some (before ++ text))
    → AddsAt (file name) text (world f o e) (world g o e)
file_adds name text f g o e only grown begun before p = record {
  told = λ t. only.told (p.told t);
  files = λ t n. holds_one name (before ++ text) g.holds begun.files.holds
      (grown (p.told t) before (p.files t name ∙ here (bytes_eq name name) (Some before) (begun.files.holds name) ((bytes_eq-Decides name name).1 refl)))
      (λ m ne. only.others (p.told t) m ne ∙ p.files t m ∙ elsewhere (bytes_eq name m) name m (Some before) (begun.files.holds m) refl ne) n;
  out = p.out;
  err = p.err;
}

whole_grown : (old new : Option (List ℕ)) (text : List ℕ) → GrowsFile {T = Unit {0}} old new (Ok tt) text → (before : List ℕ) → old ≡ Some before → new ≡ Some (before ++ text)
whole_grown old None text g before e = absurd g
whole_grown old (Some new) text g before e = ap (λ (w : List ℕ). Some w) (g ∙ ap (λ (o : Option (List ℕ)). content o ++ text) e)

part_grown : (old new : Option (List ℕ)) (fault : Fault) (text : List ℕ) → GrowsFile {T = Unit {0}} old new (Err fault) text
    → (n : ℕ) × (n ≤ length text) × ((before : List ℕ) → old ≡ Some before → new ≡ Some (before ++ take n text))
part_grown old None fault text g = (0, omega arith, λ before e. absurd (let never : None ≡ Some before = sym g ∙ e in cc))
part_grown old (Some new) fault text (n, le, e) = (n, le, λ before is. ap (λ (w : List ℕ). Some w) (e ∙ ap (λ (o : Option (List ℕ)). content o ++ take n text) is))

-- of files that don't tell, nothing was added that is known
some_grown : (b : Bool) (f g : Store) (name text : List ℕ) (fault : Fault) → f.tells ≡ b → (IsTrue f.tells → GrowsFile {T = Unit {0}} (f.holds name) (g.holds name) (Err fault) text)
    → (n : ℕ) × (n ≤ length text) × (IsTrue f.tells → (before : List ℕ) → f.holds name ≡ Some before → g.holds name ≡ Some (before ++ take n text))
some_grown true f g name text fault e grows = let p = part_grown (f.holds name) (g.holds name) fault text (grows e) in (p.0, p.1, λ t. p.2)
some_grown false f g name text fault e grows = (0, omega arith, λ t. absurd (let never : false ≡ true = sym e ∙ t in cc))

pub file_puts : (name text : List ℕ) (f g : Store) (o e : Stream) (result : Result (Unit {0}) Fault) → OnlyWrites name f g → (IsTrue f.tells → GrowsFile (f.holds name) (g.holds name) result text)
    → IfErr result (IsWriteCause f.write_faults g.write_faults) → Puts (file name) text (world f o e) (world g o e) result
file_puts name text f g o e (Ok done) only grows cause = file_adds name text f g o e only (λ t. whole_grown (f.holds name) (g.holds name) text (grows t))
file_puts name text f g o e (Err fault) only grows cause =
    let p = some_grown f.tells f g name text fault refl grows in
    ((p.0, p.1, file_adds name (take p.0 text) f g o e only p.2), cause)

pub puts_there : (t u : Target) (text piece : List ℕ) (a b : World) (result : Result (Unit {0}) Fault) → t ≡ u → text ≡ piece → Puts u text a b result → Puts t piece a b result
puts_there t u text piece a b result e d p = subst (λ (x : List ℕ). Puts t x a b result) d (subst (λ (v : Target). Puts v text a b result) (sym e) p)

-- ---- a whole write

pub later_files : (a b : Store) (o e : Stream) → a.read_faults ≤ b.read_faults → a.write_faults ≤ b.write_faults → Later (world a o e) (world b o e)
later_files a b o e r w = record { reads = r; writes = w; out = omega arith; err = omega arith }

pub nothing_begun : (t : Target) (a : World) → After (one t []) a a → (u : Target) → u ≡ t → Begins u a a (Ok tt)
nothing_begun t a p u e = subst (λ (v : Target). After (one v []) a a) (sym e) p

pub out_begun : (a : World) → After (one out []) a a
out_begun a = record { told = λ t. t; files = λ t n. refl; out = adds_none a.out.given; err = adds_none a.err.given }

pub err_begun : (a : World) → After (one err []) a a
err_begun a = record { told = λ t. t; files = λ t n. refl; out = adds_none a.out.given; err = adds_none a.err.given }

same_names : (b : Bool) (name n : List ℕ) (g h : List ℕ → Option (List ℕ)) → bytes_eq name n ≡ b → g name ≡ h name → (n ≢ name → g n ≡ h n) → g n ≡ h n
same_names true name n g h e at others = let k = (bytes_eq-Decides name n).0 e in ap g (sym k) ∙ at ∙ ap h k
same_names false name n g h e at others = others (λ k. differ name n e (sym k))

file_begins : (name : List ℕ) (f g : Store) (o e : Stream) (result : Result (Unit {0}) Fault) → OnlyWrites name f g → (IsTrue f.tells → OnOk result (g.holds name ≡ Some []))
    → (IsTrue f.tells → OnErr result (g.holds name ≡ f.holds name)) → IfErr result (IsWriteCause f.write_faults g.write_faults) → Begins (file name) (world f o e) (world g o e) result
file_begins name f g o e (Ok done) only empty kept cause = record {
  told = only.told;
  files = λ t n. holds_one name [] g.holds f.holds (empty t) (only.others t) n;
  out = adds_none o.given;
  err = adds_none e.given;
}
file_begins name f g o e (Err fault) only empty kept cause = (
  (name, refl),
  record { told = only.told; files = λ t n. same_names (bytes_eq name n) name n g.holds f.holds refl (kept t) (only.others t n); out = adds_none o.given; err = adds_none e.given },
  cause,
)

pub begins_there : (t : Target) (name n : List ℕ) (f g : Store) (o e : Stream) (result : Result (Unit {0}) Fault) → t ≡ file name → n ≡ name → OnlyWrites n f g → (IsTrue f.tells → OnOk result (g.holds n ≡ Some []))
    → (IsTrue f.tells → OnErr result (g.holds n ≡ f.holds n)) → IfErr result (IsWriteCause f.write_faults g.write_faults) → Begins t (world f o e) (world g o e) result
begins_there t name n f g o e result to is only empty kept cause =
    subst (λ (u : Target). Begins u (world f o e) (world g o e) result) (sym (to ∙ ap (λ (k : List ℕ). file k) (sym is))) (file_begins n f g o e result only empty kept cause)

pub stops_one : (w : Write) (part : List Write) (a b : World) (fault : Fault) → IsPart w part → IsWriteCause (faults_at w.to a) (faults_at w.to b) fault → After part a b → Stops (w ∷ []) a b fault
stops_one w part a b Failed is cause after = failed refl (record { before = []; rest = []; part = part; of = refl; is_part = is; are_done = refl }) cause after
stops_one w part a b Missing is cause after = absurd cause
stops_one w part a b Memory is cause after = memory refl (record { before = []; rest = []; part = part; of = refl; is_part = is; are_done = refl }) after

-- the write was begun, and then given its text
pub begun_does : (w : Write) (a b c : World) (result : Result (Unit {0}) Fault) → Later a b → Begins w.to a b (Ok tt) → Puts w.to w.text b c result → Does (w ∷ []) a c result
begun_does w a b c (Ok done) later p q = q a [] p
begun_does w a b c (Err fault) later p ((n, le, adds), cause) =
    stops_one w (one w.to (take n w.text)) a c fault (prefix le) (cause_from (faults_at w.to a) (faults_at w.to b) (faults_at w.to c) fault (faults_later w.to a b later) cause) (adds a [] p)

-- the write could not be begun
pub unbegun_does : (w : Write) (a b : World) (fault : Fault) (result : Result (Unit {0}) Fault) → Begins w.to a b (Err fault) → IsErrAnd result (λ x. x ≡ fault) → Does (w ∷ []) a b result
unbegun_does w a b fault result ((name, is), after, cause) e =
    subst (λ (r : Result (Unit {0}) Fault). Does (w ∷ []) a b r) (sym (that_err result fault e)) (stops_one w [] a b fault (untouched {name = name} is) cause after)

-- ---- a long text

pub nothing_sent : (t : Target) (a : World) (text whole : List ℕ) → text ≡ [] → IsSending t a a text whole whole
nothing_sent t a text whole e = record { sent = []; added = adds_nothing t a; parts = ap (λ (w : List ℕ). w ++ whole) (sym e) }

-- text that stays, and text that is added, where it is long enough
pub stays_waiting : (t : Target) (a : World) (text : List ℕ) → Sends t text text a a (Ok tt)
stays_waiting t a text = ([], refl, adds_nothing t a)

pub all_added : (t : Target) (text rest : List ℕ) (a b : World) → rest ≡ [] → Puts t text a b (Ok tt) → Sends t text rest a b (Ok tt)
all_added t text rest a b e p = (text, sym (append-nil text) ∙ ap (λ (w : List ℕ). text ++ w) (sym e), p)

pub not_added : (t : Target) (text piece rest : List ℕ) (a b : World) (fault : Fault) (result : Result (Unit {0}) Fault) → IsErrAnd result (λ x. x ≡ fault) → piece ≡ text → Puts t piece a b (Err fault)
    → Sends t text rest a b result
not_added t text piece rest a b fault result is e p =
    subst (λ (r : Result (Unit {0}) Fault). Sends t text rest a b r) (sym (that_err result fault is)) (subst (λ (x : List ℕ). Puts t x a b (Err fault)) e p)

-- what was added after a refusal is a prefix of all that was to be added
part_of : (t : Target) (sent piece rest whole : List ℕ) (n : ℕ) (a b c : World) → n ≤ length piece → whole ≡ sent ++ (piece ++ rest) → AddsAt t sent a b → AddsAt t (take n piece) b c
    → (m : ℕ) × (m ≤ length whole) × AddsAt t (take m whole) a c
part_of t sent piece rest whole n a b c le e p q = (
  length sent + n,
  (let size : length whole ≡ length sent + (length piece + length rest) = ap length e ∙ length-append sent (piece ++ rest) ∙ ap (λ (k : ℕ). length sent + k) (length-append piece rest) in omega (arith, le, size)),
  adds_same t (sent ++ take n piece) (take (length sent + n) whole) a c
      (sym (ap (take (length sent + n)) e ∙ take-append-add sent (piece ++ rest) n ∙ ap (λ (w : List ℕ). sent ++ w) (take-append-le n piece rest le)))
      (adds_both t sent (take n piece) a b c p q),
)

pub more_made : (t : Target) (a b : World) (w1 l1 w2 l2 whole : List ℕ) → IsSending t a b w1 l1 whole → w2 ++ l2 ≡ w1 ++ l1 → IsSending t a b w2 l2 whole
more_made t a b w1 l1 w2 l2 whole s is = record { sent = s.sent; added = s.added; parts = s.parts ∙ ap (λ (w : List ℕ). s.sent ++ w) (sym is) }

pub more_sent : (t : Target) (a b c : World) (w1 w2 left whole : List ℕ) → IsSending t a b w1 left whole → Sends t w1 w2 b c (Ok tt) → IsSending t a c w2 left whole
more_sent t a b c w1 w2 left whole s (more, is, added) = record {
  sent = s.sent ++ more;
  added = adds_both t s.sent more a b c s.added added;
  parts = s.parts ∙ ap (λ (w : List ℕ). s.sent ++ w) (ap (λ (w : List ℕ). w ++ left) is ∙ append_assoc more w2 left) ∙ sym (append_assoc s.sent more (w2 ++ left));
}

-- a stop before the next part, when out of memory
pub stops_sending : (t : Target) (a b : World) (waiting left whole : List ℕ) (result : Result (Unit {0}) Fault) → IsErrAnd result (λ x. x ≡ Memory) → IsSending t a b waiting left whole → Puts t whole a b result
stops_sending t a b waiting left whole result is s =
    subst (λ (r : Result (Unit {0}) Fault). Puts t whole a b r) (sym (that_err result Memory is))
    (part_of t s.sent waiting left whole 0 a b b (omega arith) s.parts s.added (adds_nothing t b), tt)

-- a piece that is refused
pub refused_sending : (t : Target) (a b c : World) (fault : Fault) (waiting left whole : List ℕ) (result : Result (Unit {0}) Fault) → IsErrAnd result (λ x. x ≡ fault) → Later a b → IsSending t a b waiting left whole → Puts t waiting b c (Err fault)
    → Puts t whole a c result
refused_sending t a b c fault waiting left whole result is later s ((n, le, added), cause) =
    subst (λ (r : Result (Unit {0}) Fault). Puts t whole a c r) (sym (that_err result fault is)) (
      part_of t s.sent waiting left whole n a b c le s.parts s.added added,
      cause_from (faults_at t a) (faults_at t b) (faults_at t c) fault (faults_later t a b later) cause,
    )

-- nothing more is made, and the rest is sent
pub rest_sent : (t : Target) (a b c : World) (waiting left whole piece : List ℕ) (result : Result (Unit {0}) Fault) → left ≡ [] → Later a b → IsSending t a b waiting left whole → piece ≡ waiting → Puts t piece b c result → Puts t whole a c result
rest_sent t a b c waiting left whole piece result none later s same put = last result put
  where
    all : whole ≡ s.sent ++ piece
    all = s.parts ∙ ap (λ (w : List ℕ). s.sent ++ w) (ap (λ (l : List ℕ). waiting ++ l) none ∙ append-nil waiting ∙ sym same)

    last : (result : Result (Unit {0}) Fault) → Puts t piece b c result → Puts t whole a c result
    last (Ok done) p = adds_same t (s.sent ++ piece) whole a c (sym all) (adds_both t s.sent piece a b c s.added p)
    last (Err fault) ((n, le, added), cause) = (
      part_of t s.sent piece [] whole n a b c le (all ∙ ap (λ (w : List ℕ). s.sent ++ w) (sym (append-nil piece))) s.added added,
      cause_from (faults_at t a) (faults_at t b) (faults_at t c) fault (faults_later t a b later) cause,
    )

-- ---- the events, one after the other

-- the pieces of one item more
piece_step : {X A : Type 0} (f : X → List A) (xs : List X) (i : ℕ) (d : X) → i < length xs → d ≡ get_or xs i d → flat_map f (take (suc i) xs) ≡ flat_map f (take i xs) ++ f d
piece_step f [] i d le is = absurd (omega arith)
piece_step f (x ∷ xs) zero d le is = append-nil (f x) ∙ ap f (sym is)
piece_step f (x ∷ xs) (suc i) d le is = ap (λ w. f x ++ w) (piece_step f xs i d (omega (arith, le)) is) ∙ sym (append_assoc (f x) (flat_map f (take i xs)) (f d))

lines_step : (es : List LogEvent) (i : ℕ) (d : LogEvent) → i < length es → d ≡ get_or es i d → flat_map event_line (take (i + 1) es) ≡ flat_map event_line (take i es) ++ event_line d
lines_step es i d le is = ap (λ (k : ℕ). flat_map event_line (take k es)) (add-one i) ∙ piece_step event_line es i d le is

text_pushed : (lines : List (List ℕ)) (line : List ℕ) → lines_text (lines ++ line ∷ []) ≡ lines_text lines ++ line
text_pushed lines line = flat_map-append (λ (l : List ℕ). l) lines (line ∷ []) ∙ ap (λ (w : List ℕ). lines_text lines ++ w) (append-nil line)

-- one more line of those from a place on
pub line_read : (es : List LogEvent) (from i : ℕ) (d : LogEvent) (lines more : List (List ℕ)) (line : List ℕ) → i < length es → d ≡ get_or es i d → more ≡ lines ++ line ∷ [] → line ≡ event_line d
    → flat_map event_line (take i es) ≡ flat_map event_line (take from es) ++ lines_text lines → flat_map event_line (take (i + 1) es) ≡ flat_map event_line (take from es) ++ lines_text more
line_read es from i d lines more line le is pushed same so_far =
    lines_step es i d le is
    ∙ ap (λ (w : List ℕ). w ++ event_line d) so_far
    ∙ append_assoc (flat_map event_line (take from es)) (lines_text lines) (event_line d)
    ∙ ap (λ (w : List ℕ). flat_map event_line (take from es) ++ (lines_text lines ++ w)) (sym same)
    ∙ ap (λ (w : List ℕ). flat_map event_line (take from es) ++ w) (sym (text_pushed lines line))
    ∙ ap (λ (w : List (List ℕ)). flat_map event_line (take from es) ++ lines_text w) (sym pushed)

-- what is left to be added after so many events
abbrev pub left_over : List LogEvent → ℕ → List ℕ
left_over es i = flat_map event_line (drop i es) ++ end_line (length es)

all_parts : (es : List LogEvent) (i : ℕ) → order_text es ≡ flat_map event_line (take i es) ++ left_over es i
all_parts es i =
    ap (λ (w : List LogEvent). flat_map event_line w ++ end_line (length es)) (sym (take-append-drop i es))
    ∙ ap (λ (w : List ℕ). w ++ end_line (length es)) (flat_map-append event_line (take i es) (drop i es))
    ∙ append_assoc (flat_map event_line (take i es)) (flat_map event_line (drop i es)) (end_line (length es))

-- the lines of the events from one place to another, and what is left then
lines_between : (es : List LogEvent) (lines : List ℕ) (from to : ℕ) → flat_map event_line (take to es) ≡ flat_map event_line (take from es) ++ lines → lines ++ left_over es to ≡ left_over es from
lines_between es lines from to read =
    let before = flat_map event_line (take from es) in
    append_cancel_left before (lines ++ left_over es to) (left_over es from)
    (sym (append_assoc before lines (left_over es to)) ∙ ap (λ (w : List ℕ). w ++ left_over es to) (sym read) ∙ sym (all_parts es to) ∙ all_parts es from)

-- these lines were made
pub lines_made : (t : Target) (es : List LogEvent) (a b : World) (waiting more lines : List ℕ) (from to : ℕ) → flat_map event_line (take to es) ≡ flat_map event_line (take from es) ++ lines
    → IsSending t a b waiting (left_over es from) (order_text es) → more ≡ waiting ++ lines → IsSending t a b more (left_over es to) (order_text es)
lines_made t es a b waiting more lines from to read s e = more_made t a b waiting (left_over es from) more (left_over es to) (order_text es) s
    (ap (λ (w : List ℕ). w ++ left_over es to) e ∙ append_assoc waiting lines (left_over es to) ∙ ap (λ (w : List ℕ). waiting ++ w) (lines_between es lines from to read))

-- the end was made
pub end_made : (t : Target) (es : List LogEvent) (a b : World) (waiting more : List ℕ) (i count : ℕ) → length es ≤ i → count ≡ length es → IsSending t a b waiting (left_over es i) (order_text es)
    → more ≡ waiting ++ end_line count → IsSending t a b more [] (order_text es)
end_made t es a b waiting more i count le is s e = more_made t a b waiting (left_over es i) more [] (order_text es) s
    (append-nil more ∙ e ∙ ap (λ (k : ℕ). waiting ++ end_line k) is ∙ ap (λ (w : List LogEvent). waiting ++ (flat_map event_line w ++ end_line (length es))) (sym (drop_of_length-le es le)))

-- an event with the name and the record at a place is the event there
pub event_of_parts : (es : List LogEvent) (i : ℕ) (d : LogEvent) → d.name ≡ (get_or es i d).name → d.entry ≡ (get_or es i d).entry → d ≡ get_or es i d
event_of_parts es i d same_name same_entry =
    let named : d ≡ record d { name = (get_or es i d).name } = ap (λ (n : EventName). let e : LogEvent = record d { name = n } in e) same_name in
    named ∙ ap (λ (r : Record). let e : LogEvent = record { name = (get_or es i d).name; entry = r } in e) same_entry

-- ---- counts

pub later_writes : (name : List ℕ) (f g : Store) (o e : Stream) → OnlyWrites name f g → Later (world f o e) (world g o e)
later_writes name f g o e only = record { reads = omega (arith, only.read_faults); writes = only.later; out = omega arith; err = omega arith }

pub later_same : (a : World) → Later a a
later_same a = record { reads = omega arith; writes = omega arith; out = omega arith; err = omega arith }

pub later_out : (f : Store) (o p e : Stream) → o.faults ≤ p.faults → Later (world f o e) (world f p e)
later_out f o p e le = record { reads = omega arith; writes = omega arith; out = le; err = omega arith }

pub later_err : (f : Store) (o e d : Stream) → e.faults ≤ d.faults → Later (world f o e) (world f o d)
later_err f o e d le = record { reads = omega arith; writes = omega arith; out = omega arith; err = le }

-- out of memory before anything was added
pub nothing_put : (t : Target) (text : List ℕ) (a : World) (result : Result (Unit {0}) Fault) → IsErrAnd result (λ x. x ≡ Memory) → Puts t text a a result
nothing_put t text a result is = subst (λ (r : Result (Unit {0}) Fault). Puts t text a a r) (sym (that_err result Memory is)) ((0, omega arith, adds_nothing t a), tt)

pub puts_of : (t : Target) (text piece : List ℕ) (a b : World) → piece ≡ text → Puts t piece a b (Ok tt) → Puts t text a b (Ok tt)
puts_of t text piece a b e p = subst (λ (x : List ℕ). Puts t x a b (Ok tt)) e p
