-- What a watch knows of a run that it is told.
use Rattle.std.proofs.Common.{◌≡◌, ℕ, suc, max, Bool, true, false, ◌&&◌, ◌||◌, cond, eqb, List, [], ◌∷◌, map, length, refl, sym, ap, ◌∙◌, eqb-true}
use Rattle.run_events.specs.declared.key.Key.{Key}
use Rattle.run_events.specs.declared.key.KeyMark.{KeyMark}
use Rattle.causal_order.specs.Order.{Link, OfThread, OfKey, same_key, is_listed}
use Rattle.marks.specs.Places.{is_constant}
use Rattle.marks.specs.declared.range.Range.{Range}
use Rattle.marks.specs.Ranges.{covers, any_range}
use Rattle.marks.specs.Marks.{Event, Act, Turn, Load, Store, Enter, Leave, Step, Fault, Made, Mark, is_event}
use Rattle.marks.specs.Bytes.{Byte, reads, writes, touches, late, late_event}
use Rattle.marks.specs.Bytes as bytes
use Rattle.replay_runs.specs.Runs.{keys_of, events_with}
use Rattle.replay_runs.specs.Interface.{Program}
use Rattle.replay_runs.specs.Known.{learned_keys, known, touched_by, wrote_by}
use Rattle.replay_runs.specs.Laws.{fresh}
use Rattle.logical_clock.specs.Events.{occurrence, is_among}
use Rattle.logical_clock.specs.Names.{greatest_of}
use Rattle.race_watch.specs.Told.{Told, Accessed, place, knows, learned}
use Rattle.race_watch.proofs.Last.{last, last_step, last_made}
use Rattle.race_watch_laws.specs.Told.{read_by, written_by, tell, accesses, happens, told_act, told}
use Rattle.race_watch_laws.specs.Laws.{IsRunOf}
use Rattle.race_watch_laws.proofs.Bytes.{reads_same, writes_same}

-- accesses change neither places nor what is known

place_tell : (t : ℕ) (write : Bool) (rs : List Range) (past : List Told) (u : ℕ) → place u (tell t write rs past) ≡ place u past
place_tell t write [] past u = refl
place_tell t write (r ∷ rs) past u = place_tell t write rs (Accessed t r write ∷ past) u

place_accesses : (t : ℕ) (a : Act) (past : List Told) (u : ℕ) → place u (accesses t a past) ≡ place u past
place_accesses t a past u = place_tell t true (written_by a) (tell t false (read_by a) past) u ∙ place_tell t false (read_by a) past u

knows_tell : (t : ℕ) (write : Bool) (rs : List Range) (past : List Told) (l : Link) (u : ℕ) → knows (tell t write rs past) l u ≡ knows past l u
knows_tell t write [] past l u = refl
knows_tell t write (r ∷ rs) past l u = knows_tell t write rs (Accessed t r write ∷ past) l u

knows_accesses : (t : ℕ) (a : Act) (past : List Told) (l : Link) (u : ℕ) → knows (accesses t a past) l u ≡ knows past l u
knows_accesses t a past l u = knows_tell t true (written_by a) (tell t false (read_by a) past) l u ∙ knows_tell t false (read_by a) past l u

-- the last access of a byte, after the accesses of a mark

told_last : (w write : Bool) (u x t : ℕ) (rs : List Range) (past : List Told) → last w u x (tell t write rs past) ≡ cond (eqb t u && ((w || write) && any_range rs x)) (suc (place u past)) (last w u x past)
told_last w write u x t [] past = none (eqb t u) (w || write)
  where
    none : (a b : Bool) → last w u x past ≡ cond (a && (b && false)) (suc (place u past)) (last w u x past)
    none true true = refl
    none true false = refl
    none false b = refl
told_last w write u x t (r ∷ rs) past =
    told_last w write u x t rs (Accessed t r write ∷ past)
    ∙ ap (cond (eqb t u && ((w || write) && any_range rs x)) (suc (place u past))) (last_step w u x t r write past)
    ∙ both (eqb t u) (w || write) (covers r x) (any_range rs x)
  where
    both : (a b c d : Bool) → cond (a && (b && d)) (suc (place u past)) (cond (a && (b && c)) (suc (place u past)) (last w u x past)) ≡ cond (a && (b && (c || d))) (suc (place u past)) (last w u x past)
    both true true true true = refl
    both true true true false = refl
    both true true false d = refl
    both true false c d = refl
    both false b c d = refl

-- the mark touches the byte, or writes it
abbrev pub meets : Bool → Act → ℕ → Bool
meets w a x = cond w (touches a x) (writes a x)

last_accesses : (w : Bool) (u x t : ℕ) (a : Act) (past : List Told) → is_constant x ≡ false → last w u x (accesses t a past) ≡ cond (eqb t u && meets w a x) (suc (place u past)) (last w u x past)
last_accesses w u x t a past free =
    told_last w true u x t (written_by a) (tell t false (read_by a) past)
    ∙ (λ i. cond (eqb t u && ((w || true) && writes_same a x free i)) (suc (place_tell t false (read_by a) past u i)) (told_last w false u x t (read_by a) past i))
    ∙ ap (λ r. cond (eqb t u && ((w || true) && writes a x)) (suc (place u past)) (cond (eqb t u && ((w || false) && r)) (suc (place u past)) (last w u x past))) (reads_same a x free)
    ∙ both (eqb t u) w (reads a x) (writes a x)
  where
    both : (e w r v : Bool) → cond (e && ((w || true) && v)) (suc (place u past)) (cond (e && ((w || false) && r)) (suc (place u past)) (last w u x past)) ≡ cond (e && cond w (r || v) v) (suc (place u past)) (last w u x past)
    both true true true true = refl
    both true true true false = refl
    both true true false v = refl
    both true false r true = refl
    both true false r false = refl
    both false w r v = refl

-- one mark further

abbrev has_act : ℕ → Act → Link → Bool
has_act thread a (OfThread t) = is_event a && eqb thread t
has_act thread a (OfKey k) = is_listed (keys_of a) k

abbrev learned_act : (Link → ℕ → ℕ) → ℕ → ℕ → Act → ℕ → ℕ
learned_act k thread index a t = max (cond (eqb thread t) (suc index) 0) (max (k (OfThread thread) t) (learned_keys k (keys_of a) t))

place_step : (t : ℕ) (a : Act) (past : List Told) (u : ℕ) → place u (told_act t a past) ≡ cond (is_event a && eqb t u) (suc (place u past)) (place u past)
place_step t (Made e) past u = by (late_event e.kind)
  where
    by : (b : Bool) → place u (cond b (accesses t (Made e) (happens t e past)) (happens t e (accesses t (Made e) past))) ≡ cond (eqb t u) (suc (place u past)) (place u past)
    by true = place_accesses t (Made e) (happens t e past) u
    by false = ap (λ n. cond (eqb t u) (suc n) n) (place_accesses t (Made e) past u)
place_step t Turn past u = refl
place_step t (Load origin at bytes) past u = place_accesses t (Load origin at bytes) past u
place_step t (Store origin at bytes) past u = place_accesses t (Store origin at bytes) past u
place_step t (Enter func args at bytes) past u = place_accesses t (Enter func args at bytes) past u
place_step t (Leave at size) past u = place_accesses t (Leave at size) past u
place_step t (Step func args result ins pieces freed) past u = place_accesses t (Step func args result ins pieces freed) past u
place_step t (Fault kind crosses ins outs access) past u = place_accesses t (Fault kind crosses ins outs access) past u

among_same : (qs : List KeyMark) (k : Key) → is_among (map (λ (q : KeyMark). q.key) qs) k ≡ is_listed qs k
among_same [] k = refl
among_same (q ∷ qs) k = ap (λ b. same_key q.key k || b) (among_same qs k)

learned_same : (f g : Link → ℕ → ℕ) → ((l : Link) (u : ℕ) → f l u ≡ g l u) → (qs : List KeyMark) (u : ℕ) → greatest_of (λ k. f (OfKey k) u) (map (λ (q : KeyMark). q.key) qs) ≡ learned_keys g qs u
learned_same f g h [] u = refl
learned_same f g h (q ∷ qs) u = (λ i. max (h (OfKey q.key) u i) (learned_same f g h qs u i))

-- an event, after something that changes neither places nor what is known
event_step : (past before : List Told) (g : Link → ℕ → ℕ) (t index : ℕ) (e : Event) → ((u : ℕ) → place u before ≡ place u past) → ((l : Link) (u : ℕ) → knows before l u ≡ knows past l u) → index ≡ place t past → ((l : Link) (u : ℕ) → knows past l u ≡ g l u)
    → (l : Link) (u : ℕ) → knows (happens t e before) l u ≡ cond (has_act t (Made e) l) (learned_act g t index (Made e) u) (g l u)
event_step past before g t index e places same is h l u = by l
  where
    to_g : (l : Link) (u : ℕ) → knows before l u ≡ g l u
    to_g l u = same l u ∙ h l u

    tells : learned (knows before) (place t before) (occurrence t (map (λ (q : KeyMark). q.key) e.keys)) u ≡ learned_act g t index (Made e) u
    tells = (λ i. max (cond (eqb t u) (suc ((places t ∙ sym is) i)) 0) (max (to_g (OfThread t) u i) (learned_same (knows before) g to_g e.keys u i)))

    by : (l : Link) → knows (happens t e before) l u ≡ cond (has_act t (Made e) l) (learned_act g t index (Made e) u) (g l u)
    by (OfThread v) = (λ i. cond (eqb t v) (tells i) (to_g (OfThread v) u i))
    by (OfKey k) = (λ i. cond (among_same e.keys k i) (tells i) (to_g (OfKey k) u i))

known_step : (past : List Told) (g : Link → ℕ → ℕ) (t index : ℕ) (a : Act) → index ≡ place t past → ((l : Link) (u : ℕ) → knows past l u ≡ g l u) → (l : Link) (u : ℕ) → knows (told_act t a past) l u ≡ cond (has_act t a l) (learned_act g t index a u) (g l u)
known_step past g t index (Made e) is h l u = by (late_event e.kind)
  where
    by : (b : Bool) → knows (cond b (accesses t (Made e) (happens t e past)) (happens t e (accesses t (Made e) past))) l u ≡ cond (has_act t (Made e) l) (learned_act g t index (Made e) u) (g l u)
    by true = knows_accesses t (Made e) (happens t e past) l u ∙ event_step past past g t index e (λ u. refl) (λ l u. refl) is h l u
    by false = event_step past (accesses t (Made e) past) g t index e (place_accesses t (Made e) past) (knows_accesses t (Made e) past) is h l u
known_step past g t index Turn is h (OfThread v) u = h (OfThread v) u
known_step past g t index Turn is h (OfKey k) u = h (OfKey k) u
known_step past g t index (Load origin at bytes) is h (OfThread v) u = knows_accesses t (Load origin at bytes) past (OfThread v) u ∙ h (OfThread v) u
known_step past g t index (Load origin at bytes) is h (OfKey k) u = knows_accesses t (Load origin at bytes) past (OfKey k) u ∙ h (OfKey k) u
known_step past g t index (Store origin at bytes) is h (OfThread v) u = knows_accesses t (Store origin at bytes) past (OfThread v) u ∙ h (OfThread v) u
known_step past g t index (Store origin at bytes) is h (OfKey k) u = knows_accesses t (Store origin at bytes) past (OfKey k) u ∙ h (OfKey k) u
known_step past g t index (Enter func args at bytes) is h (OfThread v) u = knows_accesses t (Enter func args at bytes) past (OfThread v) u ∙ h (OfThread v) u
known_step past g t index (Enter func args at bytes) is h (OfKey k) u = knows_accesses t (Enter func args at bytes) past (OfKey k) u ∙ h (OfKey k) u
known_step past g t index (Leave at size) is h (OfThread v) u = knows_accesses t (Leave at size) past (OfThread v) u ∙ h (OfThread v) u
known_step past g t index (Leave at size) is h (OfKey k) u = knows_accesses t (Leave at size) past (OfKey k) u ∙ h (OfKey k) u
known_step past g t index (Step func args result ins pieces freed) is h (OfThread v) u = knows_accesses t (Step func args result ins pieces freed) past (OfThread v) u ∙ h (OfThread v) u
known_step past g t index (Step func args result ins pieces freed) is h (OfKey k) u = knows_accesses t (Step func args result ins pieces freed) past (OfKey k) u ∙ h (OfKey k) u
known_step past g t index (Fault kind crosses ins outs access) is h (OfThread v) u = knows_accesses t (Fault kind crosses ins outs access) past (OfThread v) u ∙ h (OfThread v) u
known_step past g t index (Fault kind crosses ins outs access) is h (OfKey k) u = knows_accesses t (Fault kind crosses ins outs access) past (OfKey k) u ∙ h (OfKey k) u

-- the last access of a byte that the run tells of
abbrev pub run_last : Bool → List Mark → ℕ → ℕ → ℕ
run_last w past u x = cond w (touched_by past u x) (wrote_by past u x)

pub run_step : (w : Bool) (m : Mark) (past : List Mark) (u x : ℕ) → run_last w (m ∷ past) u x ≡ cond (eqb m.thread u && meets w m.act x) (suc (bytes.place m)) (run_last w past u x)
run_step true m past u x = refl
run_step false m past u x = refl

same_if : (a h : Bool) (p q l k : ℕ) → (a ≡ true → p ≡ q) → l ≡ k → cond (a && h) (suc p) l ≡ cond (a && h) (suc q) k
same_if true true p q l k f e = ap suc (f refl)
same_if true false p q l k f e = e
same_if false h p q l k f e = e

-- a mark that is no event
plain_last : (w : Bool) (u x t index : ℕ) (a : Act) (past : List Told) (old : ℕ) → is_constant x ≡ false → index ≡ place t past → last w u x past ≡ old → last w u x (accesses t a past) ≡ cond (eqb t u && meets w a x) (suc index) old
plain_last w u x t index a past old free is h = last_accesses w u x t a past free ∙ same_if (eqb t u) (meets w a x) (place u past) index (last w u x past) old (λ e. ap (λ v. place v past) (sym (eqb-true t u e)) ∙ sym is) h

last_act : (w : Bool) (u x t index : ℕ) (a : Act) (past : List Told) (old : ℕ) → is_constant x ≡ false → index ≡ place t past → last w u x past ≡ old → last w u x (told_act t a past) ≡ cond (eqb t u && meets w a x) (suc (cond (late a) (suc index) index)) old
last_act w u x t index (Made e) past old free is h = by (late_event e.kind)
  where
    by : (b : Bool) → last w u x (cond b (accesses t (Made e) (happens t e past)) (happens t e (accesses t (Made e) past))) ≡ cond (eqb t u && meets w (Made e) x) (suc (cond b (suc index) index)) old
    by true =
        last_accesses w u x t (Made e) (happens t e past) free
        ∙ same_if (eqb t u) (meets w (Made e) x) (place u (happens t e past)) (suc index) (last w u x (happens t e past)) old
        (λ k. ap (λ c. cond c (suc (place u past)) (place u past)) k ∙ ap suc (ap (λ v. place v past) (sym (eqb-true t u k)) ∙ sym is))
        (last_made w u x (occurrence t (map (λ (q : KeyMark). q.key) e.keys)) past ∙ h)
    by false = last_made w u x (occurrence t (map (λ (q : KeyMark). q.key) e.keys)) (accesses t (Made e) past) ∙ plain_last w u x t index (Made e) past old free is h
last_act w u x t index Turn past old free is h = plain_last w u x t index Turn past old free is h
last_act w u x t index (Load origin at bytes) past old free is h = plain_last w u x t index (Load origin at bytes) past old free is h
last_act w u x t index (Store origin at bytes) past old free is h = plain_last w u x t index (Store origin at bytes) past old free is h
last_act w u x t index (Enter func args at bytes) past old free is h = plain_last w u x t index (Enter func args at bytes) past old free is h
last_act w u x t index (Leave at size) past old free is h = plain_last w u x t index (Leave at size) past old free is h
last_act w u x t index (Step func args result ins pieces freed) past old free is h = plain_last w u x t index (Step func args result ins pieces freed) past old free is h
last_act w u x t index (Fault kind crosses ins outs access) past old free is h = plain_last w u x t index (Fault kind crosses ins outs access) past old free is h

-- the whole run

pub record Tells (memory : ℕ → Byte) (past : List Mark) : Type 0 where
  pub places : (t : ℕ) → place t (told past) ≡ length (events_with (fresh memory) (OfThread t) past)
  pub known : (l : Link) (u : ℕ) → knows (told past) l u ≡ known past l u
  pub last : (w : Bool) (u x : ℕ) → is_constant x ≡ false → last w u x (told past) ≡ run_last w past u x

counted : (memory : ℕ → Byte) (m : Mark) (past : List Mark) (t : ℕ) → cond (is_event m.act && eqb m.thread t) (suc (length (events_with (fresh memory) (OfThread t) past))) (length (events_with (fresh memory) (OfThread t) past)) ≡ length (events_with (fresh memory) (OfThread t) (m ∷ past))
counted memory m past t = go (is_event m.act && eqb m.thread t)
  where
    go : (b : Bool) → cond b (suc (length (events_with (fresh memory) (OfThread t) past))) (length (events_with (fresh memory) (OfThread t) past)) ≡ length (cond b (m ∷ events_with (fresh memory) (OfThread t) past) (events_with (fresh memory) (OfThread t) past))
    go true = refl
    go false = refl

pub tells : (program : Program) (memory : ℕ → Byte) (past : List Mark) → IsRunOf program memory past → Tells memory past
tells program memory [] h = record { places = λ t. refl; known = λ l u. refl; last = λ w u x free. nothing w u x }
  where
    nothing : (w : Bool) (u x : ℕ) → last w u x [] ≡ run_last w [] u x
    nothing true u x = refl
    nothing false u x = refl
tells program memory (m ∷ past) h = step (tells program memory past h.1)
  where
    step : Tells memory past → Tells memory (m ∷ past)
    step k =
        record {
          places = λ t. place_step m.thread m.act (told past) t ∙ ap (λ n. cond (is_event m.act && eqb m.thread t) (suc n) n) (k.places t) ∙ counted memory m past t;
          known = λ l u. known_step (told past) (known past) m.thread m.index m.act index k.known l u ∙ same l u;
          last = λ w u x free. last_act w u x m.thread m.index m.act (told past) (run_last w past u x) free index (k.last w u x free) ∙ sym (run_step w m past u x);
        }
      where
        index : m.index ≡ place m.thread (told past)
        index = h.0.index ∙ sym (k.places m.thread)

        same : (l : Link) (u : ℕ) → cond (has_act m.thread m.act l) (learned_act (known past) m.thread m.index m.act u) (known past l u) ≡ known (m ∷ past) l u
        same (OfThread t) u = refl
        same (OfKey j) u = refl
