-- System code on the left, what may come below the cut on the right: the marks above the cut of a right list are calls back, and
-- what follows the end.
use Rattle.std.proofs.Common.{◌≡◌, ◌≢◌, ℕ, zero, suc, ◌<◌, ◌≤◌, List, [], ◌∷◌, length, Option, Some, None, refl, sym, ap, ◌∙◌, subst, arith}
use Rattle.marks.specs.declared.side.Side.{Side}
use Rattle.marks.specs.declared.side.Side.TheVariants.{Replay, System}
use Rattle.marks.specs.Marks.{Mark}
use Rattle.marks.specs.Wants.{Want, Outside, Below, CallsBack, Answer, Go, Value, Frame, CalledBack, Stopped}
use Rattle.c_code.specs.MarkLists.{Wrong, replay_part, reply}
use Rattle.c_code.proofs.Sides.{Back, IsPlain, IsUp, back_is, is_below, up_replies}
use Rattle.c_semantics.specs.Reading.{Marks, wrong, ended, heard, ask}
use Rattle.c_semantics.specs.Context.{Source}
use Rattle.c_semantics.specs.Calls.{Bodies, any_below, any_step, called_back, outside, outside_step}
use Rattle.c_semantics.proofs.Relations.{Bounds, Less, AtMost, Relation}
use Rattle.c_semantics.proofs.ReplayMarks.{bounds, drops, expects_is_right, heard_answers, keeps, open_is_right}

-- ---- what may come below the cut

-- it begins anew after each call back, and is read with more than as many rounds as there are marks
pub record Loop (s : Source) (c : Bodies) : Type 0 where
  pub again : ℕ → Marks
  pub starts : (n : ℕ) → again n [] ≢ Wrong
  pub ups : (n : ℕ) (m : Mark) (ms : List Mark) (f : ℕ) (args : List ℕ) → IsUp m f args → again (suc n) (m ∷ ms) ≡ called_back s c f args (λ v. again n) ms

pub under_starts : (s : Source) (c : Bodies) (f : ℕ) (args : List ℕ) (on : ℕ → Marks) (n : ℕ) → any_below n s c f args on [] ≢ Wrong
under_starts s c f args on zero = open_is_right
under_starts s c f args on (suc n) = expects_is_right Replay (Below f args)

pub under_ups : (s : Source) (c : Bodies) (f : ℕ) (args : List ℕ) (on : ℕ → Marks) (n : ℕ) (m : Mark) (ms : List Mark) (g : ℕ) (bs : List ℕ) → IsUp m g bs → any_below (suc n) s c f args on (m ∷ ms) ≡ called_back s c g bs (λ v. any_below n s c f args on) ms
under_ups s c f args on n m ms g bs u = ap (λ o. heard o (any_step s c f on (any_below n s c f args on)) ms) (up_replies (Below f args) m g bs u refl)

-- below a call of the interface
abbrev pub under : (s : Source) (c : Bodies) (f : ℕ) (args : List ℕ) (on : ℕ → Marks) → Loop s c
under s c f args on = record { again = λ n. any_below n s c f args on; starts = under_starts s c f args on; ups = under_ups s c f args on }

pub beyond_starts : (s : Source) (c : Bodies) (n : ℕ) → outside n s c [] ≢ Wrong
beyond_starts s c zero = open_is_right
beyond_starts s c (suc n) = expects_is_right Replay Outside

pub beyond_ups : (s : Source) (c : Bodies) (n : ℕ) (m : Mark) (ms : List Mark) (g : ℕ) (bs : List ℕ) → IsUp m g bs → outside (suc n) s c (m ∷ ms) ≡ called_back s c g bs (λ v. outside n s c) ms
beyond_ups s c n m ms g bs u = ap (λ o. heard o (outside_step s c (outside n s c)) ms) (up_replies Outside m g bs u refl)

-- in no call
abbrev pub beyond : (s : Source) (c : Bodies) → Loop s c
beyond s c = record { again = λ n. outside n s c; starts = beyond_starts s c; ups = beyond_ups s c }

-- ---- the relation

module _ (s : Source) (c : Bodies) (l : Loop s c) (most : ℕ) where
  -- the marks above the cut, which are at most so many, may come below it; what is on the right doesn't count
  abbrev pub Gone : Bounds → Marks → Marks → Type 0
  Gone k p q = (ms : List Mark) (n : ℕ) → length ms ≤ k.left → length ms ≤ k.right → length (replay_part ms) ≤ most → length (replay_part ms) < n → p ms ≢ Wrong → l.again n (replay_part ms) ≢ Wrong

  -- a mark that is below the cut
  pub gone_mark : (m : Mark) (ms : List Mark) (n : ℕ) (r : Option Answer) (go : Answer → Marks) → m.side ≡ System
      → ((a : Answer) → go a ms ≢ Wrong → l.again n (replay_part ms) ≢ Wrong) → heard r go ms ≢ Wrong → l.again n (replay_part (m ∷ ms)) ≢ Wrong
  gone_mark m ms n r go e h right = subst (λ x. l.again n x ≢ Wrong) (sym (drops m ms e)) (by r ms h right)
    where
      by : (r : Option Answer) (ms : List Mark) → ((a : Answer) → go a ms ≢ Wrong → l.again n (replay_part ms) ≢ Wrong) → heard r go ms ≢ Wrong → l.again n (replay_part ms) ≢ Wrong
      by None ms h right = absurd (right refl)
      by (Some Stopped) [] h right = l.starts n
      by (Some Stopped) (x ∷ ms) h right = absurd (right refl)
      by (Some Go) ms h right = h Go right
      by (Some (Value v)) ms h right = h (Value v) right
      by (Some (Frame at)) ms h right = h (Frame at) right
      by (Some (CalledBack g bs)) ms h right = h (CalledBack g bs) right

  pub gone_asks : (k : Bounds) (side : Side) (want : Want) → (side ≡ System) × IsPlain want → (go on : Answer → Marks) → ((a : Answer) (j : Bounds) → Less j k → Gone j (go a) (on a)) → Gone k (ask side want go) (ask side want on)
  gone_asks k side want ok go on h [] n few less fits some right = l.starts n
  gone_asks k side want ok go on h (m ∷ ms) n few less fits some right =
      let a = heard_answers (reply side want m) go ms right in
      let e : m.side ≡ System = is_below want m a.0 ok.1 (ap (λ t. reply t want m) (sym ok.0) ∙ a.1) in
      let long : length (replay_part (m ∷ ms)) ≡ length (replay_part ms) = ap length (drops m ms e) in
      let x : length ms < k.left = omega arith in
      let y : length ms < k.right = omega arith in
      gone_mark m ms n (reply side want m) go e (λ w. h w (bounds (length ms) (length ms)) (x, y) ms n (omega arith) (omega arith) (omega (arith, long, fits)) (omega (arith, long, some))) right

  pub gone_ends : (k : Bounds) (v : ℕ) → Gone k (ended v) (ended v)
  gone_ends k v [] n few less fits some right = l.starts n
  gone_ends k v (m ∷ ms) n few less fits some right = absurd (right refl)

  pub gone_counted : (k : Bounds) (f g : ℕ → Marks) → ((j : Bounds) (n m : ℕ) → AtMost j k → j.left < n → j.right < m → Gone j (f n) (g m)) → Gone k (λ ms. f (suc (length ms)) ms) (λ ms. g (suc (length ms)) ms)
  gone_counted k f g h ms n few less fits some right =
      h (bounds (length ms) (length ms)) (suc (length ms)) (suc (length ms)) (few, less) (omega arith) (omega arith) ms n (omega arith) (omega arith) fits some right

  abbrev pub gone : Relation
  gone = record {
    rel = Gone;
    follows = λ side want. (side ≡ System) × IsPlain want;
    weaker = λ j k p q le d ms n few less fits some right. d ms n (let x = le.0 in omega arith) (let x = le.1 in omega arith) fits some right;
    wrongs = λ k ms n few less fits some right. absurd (right refl);
    asks = gone_asks;
    counted = gone_counted;
  }

  -- where system code calls through an address, the function is called back or entered
  pub back_gone : (k : Bounds) (f : ℕ) (args bytes : List ℕ) (go : Answer → Marks) (q : Marks)
      → ((x : Answer) (j : Bounds) → Less j k → ((g : ℕ) (bs : List ℕ) → x ≡ CalledBack g bs → ⊥) → Gone j (go x) wrong)
      → ((g : ℕ) (bs : List ℕ) (ms : List Mark) (n : ℕ) → length ms < k.left → length ms < k.right → length (replay_part ms) < most → length (replay_part ms) < n → go (CalledBack g bs) ms ≢ Wrong → called_back s c f args (λ v. l.again n) (replay_part ms) ≢ Wrong)
      → Gone k (ask System (CallsBack f args bytes) go) q
  back_gone k f args bytes go q plain up [] n few less fits some right = l.starts n
  back_gone k f args bytes go q plain up (m ∷ ms) n few less fits some right =
      let a = heard_answers (reply System (CallsBack f args bytes) m) go ms right in
      by a.0 (subst (λ o. heard o go ms ≢ Wrong) a.1 right) (back_is m f args bytes a.0 a.1)
    where
      below : (x : Answer) → ((g : ℕ) (bs : List ℕ) → x ≡ CalledBack g bs → ⊥) → heard (Some x) go ms ≢ Wrong → m.side ≡ System → l.again n (replay_part (m ∷ ms)) ≢ Wrong
      below x other h e =
          let long : length (replay_part (m ∷ ms)) ≡ length (replay_part ms) = ap length (drops m ms e) in
          let a : length ms < k.left = omega arith in
          let b : length ms < k.right = omega arith in
          gone_mark m ms n (Some x) (λ w. go x) e (λ w. plain x (bounds (length ms) (length ms)) (a, b) other ms n (omega arith) (omega arith) (omega (arith, long, fits)) (omega (arith, long, some))) (same x h)
        where
          same : (x : Answer) → heard (Some x) go ms ≢ Wrong → heard (Some x) (λ w. go x) ms ≢ Wrong
          same Go h = h
          same (Value v) h = h
          same (Frame at) h = h
          same (CalledBack g bs) h = h
          same Stopped h = h

      rounds : (n : ℕ) → length (replay_part (m ∷ ms)) < n → (g : ℕ) (bs : List ℕ) → go (CalledBack g bs) ms ≢ Wrong → IsUp m f args → l.again n (replay_part (m ∷ ms)) ≢ Wrong
      rounds zero some g bs h u = absurd (omega arith)
      rounds (suc n) some g bs h u =
          let part = keeps m ms u.above in
          let long : length (replay_part (m ∷ ms)) ≡ suc (length (replay_part ms)) = ap length part in
          subst (λ x. l.again (suc n) x ≢ Wrong) (sym part) (subst (λ v. v ≢ Wrong) (sym (l.ups n m (replay_part ms) f args u)) (up g bs ms n (omega arith) (omega arith) (omega (arith, long, fits)) (omega (arith, long, some)) h))

      by : (x : Answer) → heard (Some x) go ms ≢ Wrong → Back m f args x → l.again n (replay_part (m ∷ ms)) ≢ Wrong
      by (CalledBack g bs) h u = rounds n some g bs h u.0
      by Go h e = below Go (λ g bs z. cc) h e
      by (Value v) h e = below (Value v) (λ g bs z. cc) h e
      by (Frame at) h e = below (Frame at) (λ g bs z. cc) h e
      by Stopped h e = below Stopped (λ g bs z. cc) h e
