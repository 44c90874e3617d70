-- What a replay sees of a step is a mark that its rules allow.
use Rattle.std.proofs.Common.{◌≡◌, ◌⊎◌, inl, inr, ⊎_elim, ℕ, ◌<◌, Bool, true, false, ◌&&◌, ◌||◌, List, length, refl, sym, ap, ◌∙◌, subst}
use Rattle.std.specs.Prelude.{is_some}
use Rattle.std.proofs.lemmas.Bool.{and_parts, or_cases, true≢false}
use Rattle.marks.specs.declared.side.Side.TheVariants.{Replay, System}
use Rattle.marks.specs.Places.{thread_count, is_constant, is_system}
use Rattle.marks.specs.Ranges.{range, within, covers}
use Rattle.marks.specs.declared.range.Range.{Range}
use Rattle.marks.specs.Marks.{Act, Mark}
use Rattle.marks.specs.Bytes.{writes, touches}
use Rattle.marks.specs.Wants.{Want, Loads, Enters, answer_to, is_above, is_below}
use Rattle.c_code.specs.Laws.{seen_above}
use Rattle.replay_runs.specs.Runs.{Start, marks_of, is_fault, Allowed}
use Rattle.replay_runs.specs.Known.{NoRace}
use Rattle.replay_runs.specs.Interface.{Interface, Program}
use Rattle.replay_runs.specs.Threads.{frame_place, HasRoom}
use Rattle.replay_runs.specs.Rules.{KeepsModes, Carries}
use Rattle.replay_runs.specs.Checks.{Passes, checks}
use Rattle.replay_runs.specs.Laws.{Undisturbed}
use Rattle.replay_runs.specs.Passing.{EnterMayPass}
use Rattle.replay_runs.specs.Unseen.{TakesUnseen, IsWhole, Calm}
use Rattle.replay_runs.specs.Owning.{IsOwn, ObjectsAreOwn}
use Rattle.replay_runs.proofs.Checked.{exact, load_touches, store_touches, leave_touches}
use Rattle.replay_runs.proofs.Passing.{say}
use Rattle.replay_runs.proofs.Owning as owning
use Rattle.replay_runs.proofs.Unseen.{stay_whole}
use Rattle.replay_runs.proofs.Replies.{Plain, turn, load, no_load, store, no_store, no_write, enter, full, leave, no_free, no_call, fail}
use Rattle.whole_runs.specs.World.{World, begin, interface, program_of}
use Rattle.whole_runs.specs.Sides.{seen}
use Rattle.whole_runs.specs.Tests.{checks_above, tests}
use Rattle.whole_runs.specs.Steps.{Picked, rules_above, IsMade}
use Rattle.whole_runs.specs.Ends.{Follows}
use Rattle.whole_runs.specs.Fits.{IsFit}
use Rattle.whole_runs_laws.proofs.Lasts.{answers_to}
use Rattle.whole_runs_laws.proofs.FaultsAbove.{few_threads}
use Rattle.whole_runs_seen.proofs.Entries as entries
use Rattle.whole_runs_seen.proofs.Threads.{AreThreads, own_want}
use Rattle.whole_runs_seen.proofs.Wanted.{wanted_above, wanted_below}

or_nothing : (b : Bool) → (b || false) ≡ true → b ≡ true
or_nothing true e = refl
or_nothing false e = absurd (true≢false (sym e))

and_false : (b : Bool) → (b && false) ≡ true → ⊥
and_false true e = true≢false (sym e)
and_false false e = true≢false (sym e)

module _ (w : World) (fit : IsFit w) (past : List Mark) (follows : Follows w past) (known : AreThreads w past) (calm : Calm (program_of w) (begin w) (seen past))
    (s : Picked w past) (m : Mark) (h : IsMade w past s m) (above : m.side ≡ Replay) where
  abbrev pub p : Program
  p = program_of w

  abbrev pub i : Interface
  i = interface w

  abbrev pub st : Start
  st = begin w

  abbrev pub rs : List Mark
  rs = seen past

  abbrev pub mine : List Mark
  mine = marks_of st m.thread rs

  abbrev pub wanted : Want
  wanted = p.want m.thread mine

  pub made : Allowed (rules_above i st s.want) st rs m
  made = h.mark.above above

  pub answers : is_some (answer_to s.want m.act) ≡ true
  answers = answers_to s.side s.want m h.replies

  want_is : p.want s.thread (marks_of st s.thread rs) ≡ wanted
  want_is = ap (λ u. p.want u (marks_of st u rs)) (sym h.mark.of_thread)

  pub by_own : s.side ≡ Replay → wanted ≡ seen_above s.want
  by_own e = sym want_is ∙ wanted_above w fit.code past known s e

  pub by_others : s.side ≡ System → is_below wanted ≡ true
  by_others e = ap is_below (sym want_is) ∙ wanted_below w fit.code past known s e

  pub passes : s.side ≡ Replay → Passes (checks_above w past m.thread s.want)
  passes e = subst (λ u. Passes (checks_above w past u s.want)) (sym h.mark.of_thread) (subst (λ d. Passes (tests w past s.thread d s.want)) e h.passes)

  pub own : entries.IsOwn w.laid s.side s.want
  own = own_want w fit.code past known s

  pub whole : IsWhole st rs
  whole = stay_whole p st rs calm

  pub objects : ObjectsAreOwn st rs
  objects = owning.objects_own st rs whole

  pub small : m.thread < thread_count
  small = subst (λ u. u < thread_count) (sym h.mark.of_thread) (few_threads w fit.file past s)

  -- ---- what the mark touches

  -- it is of replay memory, and what it writes is no constant
  pub record TouchesOwn : Type 0 where
    pub other_space : (x : ℕ) → touches m.act x ≡ true → is_system x ≡ false
    pub read_only : (x : ℕ) → writes m.act x ≡ true → is_constant x ≡ false

  pub nothing : ((x : ℕ) → touches m.act x ≡ false) → ((x : ℕ) → writes m.act x ≡ false) → TouchesOwn
  nothing t u = record { other_space = λ x e. absurd (true≢false (sym e ∙ t x)); read_only = λ x e. absurd (true≢false (sym e ∙ u x)) }

  -- all that it touches is own
  pub all_own : ((x : ℕ) → touches m.act x ≡ true → IsOwn x) → ((x : ℕ) → writes m.act x ≡ true → touches m.act x ≡ true) → TouchesOwn
  all_own o u = record { other_space = λ x e. (o x e).0; read_only = λ x e. (o x (u x e)).1 }

  -- of a load, a store, or the end of a frame
  of_access : (write : Bool) (r : Range) → ((x : ℕ) → touches m.act x ≡ covers r x) → ((x : ℕ) → writes m.act x ≡ (write && covers r x)) → Undisturbed st rs m write r → TouchesOwn
  of_access write r t u d = record {
    other_space = λ x e. d.own_space x (sym (t x) ∙ e);
    read_only = λ x e. let z = and_parts write (covers r x) (sym (u x) ∙ e) in d.writable z.0 x z.1;
  }

  -- what touches nothing races with nothing
  pub untouched_races_not : ((x : ℕ) → touches m.act x ≡ false) → ((x : ℕ) → writes m.act x ≡ false) → NoRace rs m
  untouched_races_not t u a j ne x e = ⊎_elim
      (λ z. absurd (and_false (writes a.act x) (sym (ap (λ b. writes a.act x && b) (t x)) ∙ z)))
      (λ z. absurd (and_false (touches a.act x) (sym (ap (λ b. touches a.act x && b) (u x)) ∙ z)))
      (or_cases (writes a.act x && touches m.act x) (touches a.act x && writes m.act x) e)

  -- ---- marks that are no events

  -- what is needed of a mark where this is wanted
  pub record Fits (want : Want) : Type 0 where
    pub stands : (is_above want || is_below want) ≡ true
    pub replies : is_some (answer_to want m.act) ≡ true
    pub modes : KeepsModes i want
    pub carries : Carries i st m.thread mine want m.act
    pub own_bytes : TouchesOwn
    pub unraced : TakesUnseen m.act ⊎ NoRace rs m

  pub plain_fits : (want : Want) (a : Act) → m.act ≡ a → Plain want a → is_fault a ≡ 0 → (is_above want || is_below want) ≡ true → is_some (answer_to want m.act) ≡ true →
      Carries i st m.thread mine want m.act → Passes (checks i st rs m.thread want) → Fits want
  plain_fits want a is turn nf b e c ok = record { stands = b; replies = e; modes = tt; carries = c; own_bytes = nothing (λ x. ap (λ z. touches z x) is) (λ x. ap (λ z. writes z x) is); unraced = inr (untouched_races_not (λ x. ap (λ z. touches z x) is) (λ x. ap (λ z. writes z x) is)) }
  plain_fits want a is (load {o} {at} {n} bytes len) nf b e c ok =
      let t = load_touches m o at bytes is in
      let d = (exact st rs m false (range at (length bytes)) t).0 (subst (λ k. Passes (checks i st rs m.thread (Loads o at k))) (sym len) ok) in
      record { stands = b; replies = e; modes = tt; carries = c; own_bytes = of_access false (range at (length bytes)) t.touched t.written d; unraced = inr d.no_race }
  plain_fits want a is (store {o} {at} {bytes}) nf b e c ok =
      let t = store_touches m o at bytes is in
      let d = (exact st rs m true (range at (length bytes)) t).0 ok in
      record { stands = b; replies = e; modes = tt; carries = c; own_bytes = of_access true (range at (length bytes)) t.touched t.written d; unraced = inr d.no_race }
  plain_fits want a is (enter {i = j} {f} {args} {bytes} at) nf b e c ok =
      let may : EnterMayPass i st rs m.thread j f args bytes = ((say st rs m.thread i).enters j f args bytes).0 ok in
      let room : (at ≡ frame_place m.thread mine) × HasRoom m.thread mine (length bytes) = subst (Carries i st m.thread mine (Enters j f args bytes)) is c in
      record {
        stands = b;
        replies = e;
        modes = may.modes;
        carries = c;
        own_bytes = all_own
            (λ x z. objects.enters m.thread (length bytes) small room.1 x (subst (λ q. within q (length bytes) x ≡ true) room.0 (sym (ap (λ y. touches y x) is) ∙ z)))
            (λ x z. ap (λ y. touches y x) is ∙ (sym (ap (λ y. writes y x) is) ∙ z));
        unraced = inl (subst TakesUnseen (sym is) tt);
      }
  plain_fits want a is (leave {at} {n}) nf b e c ok =
      let t = leave_touches m at n is in
      let d = (exact st rs m true (range at n) t).0 ok in
      record { stands = b; replies = e; modes = tt; carries = c; own_bytes = of_access true (range at n) t.touched t.written d; unraced = inr d.no_race }
  plain_fits want a is no_load nf b e c ok = absurd cc
  plain_fits want a is no_store nf b e c ok = absurd cc
  plain_fits want a is no_write nf b e c ok = absurd cc
  plain_fits want a is full nf b e c ok = absurd cc
  plain_fits want a is no_free nf b e c ok = absurd cc
  plain_fits want a is (no_call k ins outs at) nf b e c ok = absurd cc
  plain_fits want a is fail nf b e c ok = absurd cc
