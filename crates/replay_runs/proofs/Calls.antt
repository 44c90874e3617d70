-- The ranges of a Call, one by one and together.
use Rattle.std.proofs.Common.{◌≡◌, ◌↔◌, ⊎_elim, ℕ, ◌<◌, ◌≤◌, Bool, true, false, ◌&&◌, ◌||◌, not, cond, List, [], ◌∷◌, ◌++◌, refl, sym, ap, ◌∙◌, arith}
use Rattle.std.proofs.lemmas.Bool.{and_parts, or_cases, true≢false, cases_lt}
use Rattle.marks.specs.Places.{is_constant, is_system}
use Rattle.marks.specs.declared.range.Range.{Range}
use Rattle.marks.specs.Ranges.{Piece, Prepared, covers, any_range, any_piece, any_prepared, piece_ranges, prepared_ranges}
use Rattle.marks.specs.Marks.{Call, Event, Made, Mark}
use Rattle.marks.specs.Bytes.{IsLive, event_reads, event_writes, late_event, touches, writes, late, place, conflict}
use Rattle.marks.proofs.Touched.{or_true_left, or_true_right}
use Rattle.replay_runs.specs.Runs.{Start, OfThread, In, byte}
use Rattle.replay_runs.specs.Known.{known, known_at}
use Rattle.replay_runs.specs.Checks.{Races}
use Rattle.replay_runs.proofs.Checked.{races_more, races_less}
use Rattle.replay_runs.specs.Passing.{AllMayRead, AllMayWrite}
use Rattle.replay_runs.specs.Calls.{CallIsFree}

pieces_any : (ps : List Piece) (x : ℕ) → any_range (piece_ranges ps) x ≡ any_piece ps x
pieces_any [] x = refl
pieces_any (p ∷ ps) x = ap (λ b. covers p.range x || b) (pieces_any ps x)

held_any : (rs : List Range) (ps : List Prepared) (x : ℕ) → any_range (rs ++ prepared_ranges ps) x ≡ (any_range rs x || any_prepared ps x)
held_any [] [] x = refl
held_any [] (p ∷ ps) x = ap (λ b. covers p.range x || b) (held_any [] ps x)
held_any (r ∷ rs) ps x = ap (λ b. covers r x || b) (held_any rs ps x) ∙ joined (covers r x) (any_range rs x) (any_prepared ps x)
  where
    joined : (a b c : Bool) → (a || (b || c)) ≡ ((a || b) || c)
    joined true b c = refl
    joined false b c = refl

module _ (s : Start) (past : List Mark) (t : ℕ) where
  -- what t may read, and what it may write, byte by byte
  pub record Reads (has : ℕ → Bool) : Type 0 where
    pub space : (x : ℕ) → has x ≡ true → is_system x ≡ false
    pub unraced : (x u : ℕ) → has x ≡ true → Races past t false x u → ⊥
    pub live : (x : ℕ) → has x ≡ true → IsLive (byte s x past).cell

  pub record Writes (has : ℕ → Bool) : Type 0 where
    pub space : (x : ℕ) → has x ≡ true → is_system x ≡ false
    pub unraced : (x u : ℕ) → has x ≡ true → Races past t true x u → ⊥
    pub live : (x : ℕ) → has x ≡ true → IsLive (byte s x past).cell
    pub constant : (x : ℕ) → has x ≡ true → is_constant x ≡ false

  pub reads_to : (rs : List Range) → AllMayRead s past t rs → Reads (any_range rs)
  reads_to [] h = record { space = λ x e. absurd (true≢false (sym e)); unraced = λ x u e w. true≢false (sym e); live = λ x e. absurd (true≢false (sym e)) }
  reads_to (r ∷ rs) h =
      let k = reads_to rs h.1 in
      record {
        space = λ x e. ⊎_elim (λ z. h.0.own_space x z) (λ z. k.space x z) (or_cases (covers r x) (any_range rs x) e);
        unraced = λ x u e w. ⊎_elim (λ z. h.0.unraced x u z w) (λ z. k.unraced x u z w) (or_cases (covers r x) (any_range rs x) e);
        live = λ x e. ⊎_elim (λ z. h.0.live x z) (λ z. k.live x z) (or_cases (covers r x) (any_range rs x) e);
      }

  pub reads_from : (rs : List Range) → Reads (any_range rs) → AllMayRead s past t rs
  reads_from [] h = tt
  reads_from (r ∷ rs) h = (
    record { own_space = λ x e. h.space x (or_true_left (covers r x) (any_range rs x) e); unraced = λ x u e w. h.unraced x u (or_true_left (covers r x) (any_range rs x) e) w; live = λ x e. h.live x (or_true_left (covers r x) (any_range rs x) e) },
    reads_from rs (record { space = λ x e. h.space x (or_true_right (covers r x) (any_range rs x) e); unraced = λ x u e w. h.unraced x u (or_true_right (covers r x) (any_range rs x) e) w; live = λ x e. h.live x (or_true_right (covers r x) (any_range rs x) e) }),
  )

  pub writes_to : (rs : List Range) → AllMayWrite s past t rs → Writes (any_range rs)
  writes_to [] h = record { space = λ x e. absurd (true≢false (sym e)); unraced = λ x u e w. true≢false (sym e); live = λ x e. absurd (true≢false (sym e)); constant = λ x e. absurd (true≢false (sym e)) }
  writes_to (r ∷ rs) h =
      let k = writes_to rs h.1 in
      record {
        space = λ x e. ⊎_elim (λ z. h.0.own_space x z) (λ z. k.space x z) (or_cases (covers r x) (any_range rs x) e);
        unraced = λ x u e w. ⊎_elim (λ z. h.0.unraced x u z w) (λ z. k.unraced x u z w) (or_cases (covers r x) (any_range rs x) e);
        live = λ x e. ⊎_elim (λ z. h.0.live x z) (λ z. k.live x z) (or_cases (covers r x) (any_range rs x) e);
        constant = λ x e. ⊎_elim (λ z. h.0.writable x z) (λ z. k.constant x z) (or_cases (covers r x) (any_range rs x) e);
      }

  pub writes_from : (rs : List Range) → Writes (any_range rs) → AllMayWrite s past t rs
  writes_from [] h = tt
  writes_from (r ∷ rs) h = (
    record { own_space = λ x e. h.space x (or_true_left (covers r x) (any_range rs x) e); unraced = λ x u e w. h.unraced x u (or_true_left (covers r x) (any_range rs x) e) w; live = λ x e. h.live x (or_true_left (covers r x) (any_range rs x) e); writable = λ x e. h.constant x (or_true_left (covers r x) (any_range rs x) e) },
    writes_from rs (record { space = λ x e. h.space x (or_true_right (covers r x) (any_range rs x) e); unraced = λ x u e w. h.unraced x u (or_true_right (covers r x) (any_range rs x) e) w; live = λ x e. h.live x (or_true_right (covers r x) (any_range rs x) e); constant = λ x e. h.constant x (or_true_right (covers r x) (any_range rs x) e) }),
  )

module _ (s : Start) (past : List Mark) (m : Mark) (e : Event) (func : ℕ) (args : List ℕ) (ins : List Piece) (outs : List Range) (prepared : List Prepared) (is : m.act ≡ Made e) (kind : e.kind ≡ Call func args ins outs prepared) where
  abbrev held : ℕ → Bool
  held x = any_range outs x || any_prepared prepared x

  early : late m.act ≡ false
  early = ap late is ∙ ap late_event kind

  touched : (x : ℕ) → touches m.act x ≡ (any_piece ins x || held x)
  touched x = ap (λ a. touches a x) is ∙ ap (λ k. event_reads k x || event_writes k x) kind

  written : (x : ℕ) → writes m.act x ≡ held x
  written x = ap (λ a. writes a x) is ∙ ap (λ k. event_writes k x) kind

  knows : (u : ℕ) → known_at past m u ≡ known past (OfThread m.thread) u
  knows u = ap (λ b. cond b (known (m ∷ past) (OfThread m.thread) u) (known past (OfThread m.thread) u)) early

  to : Reads s past m.thread (any_piece ins) → Writes s past m.thread held → CallIsFree s past m ins outs prepared
  to r w =
      record {
        no_race = λ a i ne x c. race a i ne x (sym (ap (λ b. (writes a.act x && b) || (touches a.act x && writes m.act x)) (touched x) ∙ ap (λ b. (writes a.act x && (any_piece ins x || held x)) || (touches a.act x && b)) (written x)) ∙ c);
        reads = r.live;
        holds = w.live;
        other_space = λ x t. ⊎_elim (λ z. r.space x z) (λ z. w.space x z) (or_cases (any_piece ins x) (held x) (sym (touched x) ∙ t));
        read_only = λ x t. w.constant x (sym (written x) ∙ t);
      }
    where
      race : (a : Mark) → In a past → (a.thread ≡ m.thread → ⊥) → (x : ℕ) → ((writes a.act x && (any_piece ins x || held x)) || (touches a.act x && held x)) ≡ true → place a < known_at past m a.thread
      race a i ne x c =
          ⊎_elim
          (λ lt. lt)
          (λ le.
          let k : known past (OfThread m.thread) a.thread ≤ place a = omega (arith, le, knows a.thread) in
          absurd (⊎_elim
          (λ z. let p = and_parts (writes a.act x) (any_piece ins x || held x) z in
          ⊎_elim
          (λ y. r.unraced x a.thread y (a, i, refl, ne, or_true_left (writes a.act x) (false && (not (is_constant x) && touches a.act x)) p.0, k))
          (λ y. w.unraced x a.thread y (a, i, refl, ne, or_true_left (writes a.act x) (true && (not (is_constant x) && touches a.act x)) p.0, k))
          (or_cases (any_piece ins x) (held x) p.1))
          (λ z. let p = and_parts (touches a.act x) (held x) z in
          w.unraced x a.thread p.1 (a, i, refl, ne, races_more (writes a.act x) (touches a.act x) true (is_constant x) (λ wr z. true≢false (sym z ∙ w.constant x p.1)) (or_true_right (writes a.act x) (touches a.act x) p.0), k))
          (or_cases (writes a.act x && (any_piece ins x || held x)) (touches a.act x && held x) c)))
          (cases_lt (place a) (known_at past m a.thread))

  met : CallIsFree s past m ins outs prepared → (x u : ℕ) (write : Bool) → Races past m.thread write x u → ((a : Mark) → (writes a.act x || (write && touches a.act x)) ≡ true → conflict a.act m.act x ≡ true) → ⊥
  met f x u write r conflicts =
      let a = r.0 in
      let lt = f.no_race a r.1 (λ z. r.3 (sym r.2 ∙ z)) x (conflicts a (races_less (writes a.act x) (touches a.act x) write (is_constant x) r.4)) in
      let k : known_at past m a.thread ≡ known past (OfThread m.thread) u = knows a.thread ∙ ap (known past (OfThread m.thread)) r.2 in
      absurd (omega (arith, lt, k, r.5))

  first : (w t : Bool) → (w || (false && t)) ≡ true → w ≡ true
  first true t e = refl
  first false t e = e

  by_write : (w t : Bool) → w ≡ true → ((w && true) || t) ≡ true
  by_write true t e = refl
  by_write false t e = absurd (true≢false (sym e))

  by_either : (w t : Bool) → (w || (true && t)) ≡ true → ((w && true) || (t && true)) ≡ true
  by_either true t e = refl
  by_either false true e = refl
  by_either false false e = e

  from : CallIsFree s past m ins outs prepared → Reads s past m.thread (any_piece ins) × Writes s past m.thread held
  from f = (
    record {
      space = λ x e. f.other_space x (touched x ∙ or_true_left (any_piece ins x) (held x) e);
      unraced = λ x u e r. met f x u false r (λ a w. ap (λ b. (writes a.act x && b) || (touches a.act x && writes m.act x)) (touched x ∙ or_true_left (any_piece ins x) (held x) e) ∙ by_write (writes a.act x) (touches a.act x && writes m.act x) (first (writes a.act x) (touches a.act x) w));
      live = f.reads;
    },
    record {
      space = λ x e. f.other_space x (touched x ∙ or_true_right (any_piece ins x) (held x) e);
      unraced = λ x u e r. met f x u true r (λ a w. ap (λ b. (writes a.act x && b) || (touches a.act x && writes m.act x)) (touched x ∙ or_true_right (any_piece ins x) (held x) e) ∙ ap (λ b. (writes a.act x && true) || (touches a.act x && b)) (written x ∙ e) ∙ by_either (writes a.act x) (touches a.act x) w);
      live = f.holds;
      constant = λ x e. f.read_only x (written x ∙ e);
    },
  )

  reads_same : (f g : ℕ → Bool) → ((x : ℕ) → f x ≡ g x) → Reads s past m.thread f → Reads s past m.thread g
  reads_same f g h r = record { space = λ x e. r.space x (h x ∙ e); unraced = λ x u e w. r.unraced x u (h x ∙ e) w; live = λ x e. r.live x (h x ∙ e) }

  writes_same : (f g : ℕ → Bool) → ((x : ℕ) → f x ≡ g x) → Writes s past m.thread f → Writes s past m.thread g
  writes_same f g h r = record { space = λ x e. r.space x (h x ∙ e); unraced = λ x u e w. r.unraced x u (h x ∙ e) w; live = λ x e. r.live x (h x ∙ e); constant = λ x e. r.constant x (h x ∙ e) }

  pub exact : (AllMayRead s past m.thread (piece_ranges ins) × AllMayWrite s past m.thread (outs ++ prepared_ranges prepared)) ↔ CallIsFree s past m ins outs prepared
  exact = (
    (λ h. to (reads_same (any_range (piece_ranges ins)) (any_piece ins) (pieces_any ins) (reads_to s past m.thread (piece_ranges ins) h.0)) (writes_same (any_range (outs ++ prepared_ranges prepared)) held (held_any outs prepared) (writes_to s past m.thread (outs ++ prepared_ranges prepared) h.1))),
    (λ f. let w = from f in
        (reads_from s past m.thread (piece_ranges ins) (reads_same (any_piece ins) (any_range (piece_ranges ins)) (λ x. sym (pieces_any ins x)) w.0), writes_from s past m.thread (outs ++ prepared_ranges prepared) (writes_same held (any_range (outs ++ prepared_ranges prepared)) (λ x. sym (held_any outs prepared x)) w.1))),
  )
