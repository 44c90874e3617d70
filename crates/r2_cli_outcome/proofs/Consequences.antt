-- What follows from what a call leaves.
use Rattle.std.proofs.Common.{◌≡◌, ◌++◌, ◌∷◌, [], ◌⊎◌, inl, inr, ℕ, List, Bool, true, false, Some, take, codes, IsTrue, sym, ◌∙◌, ap, refl, subst, cond, bytes_eq}
use Rattle.std.proofs.lemmas.Slice.Eq.{bytes_eq-Decides}
use Rattle.r2_base.specs.Causes.{Rose}
use Rattle.r2_base.specs.Seen.{Contents}
use Rattle.r2_cli_outcome.specs.declared.status.Status.{Status}
use Rattle.r2_cli_outcome.specs.declared.status.Status.TheVariants.{ReadFault, WriteFault, NoMemory}
use Rattle.r2_cli_outcome.specs.World.{World}
use Rattle.r2_cli_outcome.specs.Outcome.{Target, Write, Outcome, file, out, err, line_of}
use Rattle.r2_cli_outcome.specs.After.{After, held_after, held_after_one}
use Rattle.r2_cli_outcome.specs.Left as left
use Rattle.r2_cli_outcome.specs.Left.{Ends, Says, Leaves, StopsAt, IsPart, faults_at}
use Rattle.r2_cli_outcome.specs.Complete.{IsQuiet, LeavesAll}

-- where no count rises, the whole outcome is left, but when out of memory

whole_said : (a b : World) (done : List Write) (status result : Status) (line : List ℕ) → (Rose a.err.faults b.err.faults → ⊥) → (result ≡ NoMemory → ⊥) → Says a b done status line result
    → (status ≡ result) × After (done ++ record { to = err; text = line } ∷ []) a b
whole_said a b done status result line quiet memory (left.whole_line after) = (refl, after)
whole_said a b done status result line quiet memory (left.line_refused le h after) = absurd (quiet h)
whole_said a b done status result line quiet memory (left.line_cut le after) = absurd (memory refl)

quiet_ends : (answers : Outcome → Type 0) (a b : World) (done : List Write) (status result : Status) (line : List ℕ) → IsQuiet a b → (result ≡ NoMemory → ⊥) → Ends answers a b done status line → Says a b done status line result
    → LeavesAll answers a b result
quiet_ends answers a b done status result line quiet memory (left.whole {o = o} is) says =
    let s = whole_said a b o.writes o.status result o.line (quiet.writes err) memory says in
    record { outcome = o; answer = is; status = sym s.0; after = s.1 }
quiet_ends answers a b done status result line quiet memory (left.read_fault h) says = absurd (quiet.reads h)
quiet_ends answers a b done status result line quiet memory (left.write_fault {w = w} is at h) says = absurd (quiet.writes w.to h)
quiet_ends answers a b done status result line quiet memory left.no_memory says =
    absurd (memory (sym (whole_said a b [] NoMemory result (line_of (codes "no memory")) (quiet.writes err) memory says).0))
quiet_ends answers a b done status result line quiet memory (left.no_memory_left is at) says =
    absurd (memory (sym (whole_said a b done NoMemory result (line_of (codes "no memory")) (quiet.writes err) memory says).0))

complete_but : (answers : Outcome → Type 0) (a b : World) (result : Status) → IsQuiet a b → (result ≡ NoMemory → ⊥) → Leaves answers a b result → LeavesAll answers a b result
complete_but answers a b result quiet memory l = quiet_ends answers a b l.done l.status result l.line quiet memory l.ends l.says

is_memory : (s : Status) → (s ≡ NoMemory) ⊎ (s ≡ NoMemory → ⊥)
is_memory NoMemory = inl refl
is_memory s = inr (λ e. cc)

pub complete : (answers : Outcome → Type 0) (a b : World) (result : Status) → IsQuiet a b → Leaves answers a b result → (result ≡ NoMemory) ⊎ LeavesAll answers a b result
complete answers a b result quiet l = elim (is_memory result) [ inl e ↦ inl e | inr e ↦ inr (complete_but answers a b result quiet e l) ]

-- a status that a stopped call doesn't have is that of an outcome, which is left as a whole

IsDecided : Status → Type 0
IsDecided s = (s ≡ ReadFault → ⊥) × (s ≡ WriteFault → ⊥) × (s ≡ NoMemory → ⊥)

decided_said : (old new : World) (done : List Write) (status result : Status) (line : List ℕ) → IsDecided result → Says old new done status line result → (status ≡ result) × After (done ++ record { to = err; text = line } ∷ []) old new
unfolding IsDecided
decided_said old new done status result line is (left.whole_line after) = (refl, after)
decided_said old new done status result line is (left.line_refused le h after) = absurd (is.1 refl)
decided_said old new done status result line is (left.line_cut le after) = absurd (is.2 refl)

decided_ends : (answers : Outcome → Type 0) (old new : World) (done : List Write) (status result : Status) (line : List ℕ) → IsDecided result → Ends answers old new done status line → (status ≡ result)
    → After (done ++ record { to = err; text = line } ∷ []) old new → LeavesAll answers old new result
unfolding IsDecided
decided_ends answers old new done status result line is (left.whole {o = o} answer) e after = record { outcome = o; answer = answer; status = sym e; after = after }
decided_ends answers old new done status result line is (left.read_fault h) e after = absurd (is.0 (sym e))
decided_ends answers old new done status result line is (left.write_fault a at h) e after = absurd (is.1 (sym e))
decided_ends answers old new done status result line is left.no_memory e after = absurd (is.2 (sym e))
decided_ends answers old new done status result line is (left.no_memory_left a at) e after = absurd (is.2 (sym e))

pub decided : (answers : Outcome → Type 0) (old new : World) (result : Status) → (result ≡ ReadFault → ⊥) → (result ≡ WriteFault → ⊥) → (result ≡ NoMemory → ⊥) → Leaves answers old new result → LeavesAll answers old new result
unfolding IsDecided
decided answers old new result r w m l =
    let said = decided_said old new l.done l.status result l.line (r, w, m) l.says in
    decided_ends answers old new l.done l.status result l.line (r, w, m) l.ends said.0 said.1

-- what holds of each outcome's status, of the two faults where a count rose, and of out of memory, holds of the status

ends_cause : (answers : Outcome → Type 0) (P : Status → Type 0) (old new : World) (done : List Write) (status : Status) (line : List ℕ) → ((o : Outcome) → answers o → P o.status)
    → (Rose old.files.read_faults new.files.read_faults → P ReadFault) → ((t : Target) → Rose (faults_at t old) (faults_at t new) → P WriteFault) → P NoMemory → Ends answers old new done status line → P status
ends_cause answers P old new done status line f r w m (left.whole {o = o} is) = f o is
ends_cause answers P old new done status line f r w m (left.read_fault h) = r h
ends_cause answers P old new done status line f r w m (left.write_fault {w = at} is stops h) = w at.to h
ends_cause answers P old new done status line f r w m left.no_memory = m
ends_cause answers P old new done status line f r w m (left.no_memory_left is stops) = m

says_cause : (P : Status → Type 0) (old new : World) (done : List Write) (status result : Status) (line : List ℕ) → P status → ((t : Target) → Rose (faults_at t old) (faults_at t new) → P WriteFault) → P NoMemory
    → Says old new done status line result → P result
says_cause P old new done status result line p w m (left.whole_line after) = p
says_cause P old new done status result line p w m (left.line_refused le h after) = w err h
says_cause P old new done status result line p w m (left.line_cut le after) = m

pub leaves_cause : (answers : Outcome → Type 0) (P : Status → Type 0) (old new : World) (result : Status) → ((o : Outcome) → answers o → P o.status)
    → (Rose old.files.read_faults new.files.read_faults → P ReadFault) → ((t : Target) → Rose (faults_at t old) (faults_at t new) → P WriteFault) → P NoMemory → Leaves answers old new result → P result
leaves_cause answers P old new result f r w m l =
    says_cause P old new l.done l.status result l.line (ends_cause answers P old new l.done l.status l.line f r w m l.ends) w m l.says

-- no name changes to which no outcome writes

-- the write isn't to the name
abbrev pub Avoids : List ℕ → List Write → Type 0
Avoids n [] = Unit {0}
Avoids n (w ∷ ws) = (w.to ≡ file n → ⊥) × Avoids n ws

not_named : (b : Bool) (name n text : List ℕ) (h : Contents) → bytes_eq name n ≡ b → (file name ≡ file n → ⊥) → cond b (Some text) (h n) ≡ h n
not_named true name n text h e ne = absurd (ne (ap (λ (k : List ℕ). file k) ((bytes_eq-Decides name n).0 e)))
not_named false name n text h e ne = refl

one_unnamed : (t : Target) (text n : List ℕ) (h : Contents) → (t ≡ file n → ⊥) → held_after_one t text h n ≡ h n
one_unnamed (file name) text n h ne = not_named (bytes_eq name n) name n text h refl ne
one_unnamed out text n h ne = refl
one_unnamed err text n h ne = refl

unnamed_stay : (ws : List Write) (n : List ℕ) (h : Contents) → Avoids n ws → held_after ws h n ≡ h n
unnamed_stay [] n h u = refl
unnamed_stay (w ∷ ws) n h u = unnamed_stay ws n (held_after_one w.to w.text h) u.1 ∙ one_unnamed w.to w.text n h u.0

avoids_both : (n : List ℕ) (xs ys : List Write) → Avoids n xs → Avoids n ys → Avoids n (xs ++ ys)
avoids_both n [] ys a b = b
avoids_both n (x ∷ xs) ys a b = (a.0, avoids_both n xs ys a.1 b)

avoids_before : (n : List ℕ) (xs ys : List Write) → Avoids n (xs ++ ys) → Avoids n xs
avoids_before n [] ys a = tt
avoids_before n (x ∷ xs) ys a = (a.0, avoids_before n xs ys a.1)

avoids_rest : (n : List ℕ) (xs ys : List Write) → Avoids n (xs ++ ys) → Avoids n ys
avoids_rest n [] ys a = a
avoids_rest n (x ∷ xs) ys a = avoids_rest n xs ys a.1

avoids_part : (n : List ℕ) (w : Write) (part : List Write) → (w.to ≡ file n → ⊥) → IsPart w part → Avoids n part
avoids_part n w part ne (left.untouched e) = tt
avoids_part n w part ne (left.prefix le) = (ne, tt)

avoids_stopped : (n : List ℕ) (writes done : List Write) (w : Write) → Avoids n writes → StopsAt writes w done → Avoids n done
avoids_stopped n writes done w a s =
    let all : Avoids n (s.before ++ w ∷ s.rest) = subst (Avoids n) s.of a in
    subst (Avoids n) (sym s.are_done) (avoids_both n s.before s.part (avoids_before n s.before (w ∷ s.rest) all) (avoids_part n w s.part (avoids_rest n s.before (w ∷ s.rest) all).0 s.is_part))

avoids_done : (answers : Outcome → Type 0) (old new : World) (done : List Write) (status : Status) (line n : List ℕ) → ((o : Outcome) → answers o → Avoids n o.writes) → Ends answers old new done status line → Avoids n done
avoids_done answers old new done status line n f (left.whole {o = o} is) = f o is
avoids_done answers old new done status line n f (left.read_fault h) = tt
avoids_done answers old new done status line n f (left.write_fault {o = o} {w = w} is at h) = avoids_stopped n o.writes done w (f o is) at
avoids_done answers old new done status line n f left.no_memory = tt
avoids_done answers old new done status line n f (left.no_memory_left {o = o} {w = w} is at) = avoids_stopped n o.writes done w (f o is) at

avoids_line : (n text : List ℕ) → Avoids n (record { to = err; text = text } ∷ [])
avoids_line n text = (λ (e : err ≡ file n). cc, tt)

stays : (ws : List Write) (old new : World) (n : List ℕ) → After ws old new → IsTrue old.files.tells → Avoids n ws → new.files.holds n ≡ old.files.holds n
stays ws old new n after told u = after.files told n ∙ unnamed_stay ws n old.files.holds u

name_stays : (old new : World) (done : List Write) (status result : Status) (line n : List ℕ) → IsTrue old.files.tells → Avoids n done → Says old new done status line result → new.files.holds n ≡ old.files.holds n
name_stays old new done status result line n told a (left.whole_line after) =
    stays (done ++ record { to = err; text = line } ∷ []) old new n after told (avoids_both n done (record { to = err; text = line } ∷ []) a (avoids_line n line))
name_stays old new done status result line n told a (left.line_refused {n = k} le h after) =
    stays (done ++ record { to = err; text = take k line } ∷ []) old new n after told (avoids_both n done (record { to = err; text = take k line } ∷ []) a (avoids_line n (take k line)))
name_stays old new done status result line n told a (left.line_cut {n = k} le after) =
    stays (done ++ record { to = err; text = take k line } ∷ []) old new n after told (avoids_both n done (record { to = err; text = take k line } ∷ []) a (avoids_line n (take k line)))

pub other_names_stay : (answers : Outcome → Type 0) (old new : World) (result : Status) (n : List ℕ) → ((o : Outcome) → answers o → Avoids n o.writes) → IsTrue old.files.tells → Leaves answers old new result
    → new.files.holds n ≡ old.files.holds n
other_names_stay answers old new result n f told l = name_stays old new l.done l.status result l.line n told (avoids_done answers old new l.done l.status l.line n f l.ends) l.says
