-- What code wants above the cut, as a function of the marks there, is granted: marks that answer nothing change nothing.
use Rattle.std.proofs.Common.{◌≡◌, ℕ, Bool, true, false, cond, List, [], ◌∷◌, ◌++◌, Option, Some, None, append_assoc, append-nil, ◌⊎◌, inl, inr, refl, sym, ap, ◌∙◌, subst}
use Rattle.std.specs.Prelude.{reverse}
use Rattle.std.proofs.lemmas.List.{reverse-append, reverse-reverse}
use Rattle.marks.specs.declared.side.Side.{Side}
use Rattle.marks.specs.declared.side.Side.TheVariants.{Replay}
use Rattle.marks.specs.Marks.{Mark}
use Rattle.marks.specs.Wants.{Want, Answer, Go, Value, Frame, CalledBack, Stopped}
use Rattle.c_code.specs.Machine.{Laid, Config, Done}
use Rattle.c_code.specs.MarkLists.{Above, Next, Quiet, Wants, Ends, No, Verdict, Expects, step, settled, reply, closed, moved, move, state, at_end, follow, follow_to, lists, want_above, want_of}
use Rattle.c_code.specs.Valid.{IsValid}
use Rattle.c_code.proofs.Prefixes.{state_settled}
use Rattle.c_code.proofs.Settles.{lists_settled}
use Rattle.c_semantics.specs.Reading.{Marks}
use Rattle.c_semantics.specs.Context.{Source}
use Rattle.cut_graph_reached.specs.Answers.{IsAnswered, ModesKept}
use Rattle.cut_graph_laws.specs.Granted.{Permits, WantGranted, WantsAreGranted}
use Rattle.cut_graph_laws.proofs.Cuts.{kept_before}
use Rattle.cut_graph_run_laws.specs.Code.{wanting}
use Rattle.cut_graph_run_laws.proofs.Sides.{wants_above}

-- ---- the last place of a list

pub no_place : (before after : List Mark) (m : Mark) → [] ≡ before ++ (m ∷ after) → ⊥
no_place [] after m e = cc
no_place (b ∷ before) after m e = cc

pub split_last : (xs before after : List Mark) (m k : Mark) → xs ++ (m ∷ []) ≡ before ++ (k ∷ after) → ((rest : List Mark) × (xs ≡ before ++ (k ∷ rest))) ⊎ ((xs ≡ before) × (m ≡ k))
split_last [] [] after m k e = inr (refl, cc)
split_last [] (b ∷ before) after m k e = let rest : [] ≡ before ++ (k ∷ after) = cc in absurd (no_place before after k rest)
split_last (x ∷ xs) [] after m k e = let same : x ≡ k = cc in inl (xs, ap (λ (y : Mark). y ∷ xs) same)
split_last (x ∷ xs) (b ∷ before) after m k e =
    let first : x ≡ b = cc in
    let rest : xs ++ (m ∷ []) ≡ before ++ (k ∷ after) = cc in
    by first (split_last xs before after m k rest)
  where
    by : x ≡ b → ((rest : List Mark) × (xs ≡ before ++ (k ∷ rest))) ⊎ ((xs ≡ before) × (m ≡ k)) → ((rest : List Mark) × (x ∷ xs ≡ (b ∷ before) ++ (k ∷ rest))) ⊎ ((x ∷ xs ≡ b ∷ before) × (m ≡ k))
    by f (inl z) = inl (z.0, λ i. f i ∷ z.1 i)
    by f (inr z) = inr ((λ i. f i ∷ z.0 i), z.1)

-- what is reached in a list by one more mark was reached before, or at the last mark
pub record AtLast (p : Marks) (xs : List Mark) (m : Mark) (side : Side) (want : Want) (x : Answer) : Type 0 where
  pub wanted : p xs ≡ Expects side want
  pub answers : reply side want m ≡ Some x

pub last_or_before : (p : Marks) (xs : List Mark) (m : Mark) (side : Side) (want : Want) (x : Answer) → IsAnswered p (xs ++ (m ∷ [])) side want x → IsAnswered p xs side want x ⊎ AtLast p xs m side want x
last_or_before p xs m side want x a = by (split_last xs a.before a.after m a.mark a.there)
  where
    by : ((rest : List Mark) × (xs ≡ a.before ++ (a.mark ∷ rest))) ⊎ ((xs ≡ a.before) × (m ≡ a.mark)) → IsAnswered p xs side want x ⊎ AtLast p xs m side want x
    by (inl z) = inl (record { before = a.before; mark = a.mark; after = z.0; there = z.1; wanted = a.wanted; answers = a.answers })
    by (inr z) = inr (record { wanted = ap p z.0 ∙ a.wanted; answers = ap (λ (k : Mark). reply side want k) z.1 ∙ a.answers })

-- ---- marks that go on

goes : Option Answer → Bool
goes None = false
goes (Some Stopped) = false
goes (Some Go) = true
goes (Some (Value v)) = true
goes (Some (Frame at)) = true
goes (Some (CalledBack g args)) = true

next_reply : Next → Mark → Option Answer
next_reply (Wants side want to) m = reply side want m
next_reply (Quiet d) m = None
next_reply (Ends v) m = None
next_reply No m = None

stays_so : (o : Option Answer) (to : Answer → Config) (now : Config) → goes o ≡ false → moved o to now ≡ now
unfolding goes
stays_so None to now e = refl
stays_so (Some Stopped) to now e = refl
stays_so (Some Go) to now e = absurd cc
stays_so (Some (Value v)) to now e = absurd cc
stays_so (Some (Frame at)) to now e = absurd cc
stays_so (Some (CalledBack g args)) to now e = absurd cc

no_move : (n : Next) (m : Mark) (now : Config) → goes (next_reply n m) ≡ false → move n m now ≡ now
unfolding next_reply
no_move (Wants side want to) m now e = stays_so (reply side want m) to now e
no_move (Quiet d) m now e = refl
no_move (Ends v) m now e = refl
no_move No m now e = refl

followed_so : (o : Option Answer) (to : Answer → Config) (go : Config → Verdict) (end : Verdict) (now : Config) → goes o ≡ true → follow_to o to go end ≡ go (moved o to now)
unfolding goes
followed_so None to go end now e = absurd cc
followed_so (Some Stopped) to go end now e = absurd cc
followed_so (Some Go) to go end now e = refl
followed_so (Some (Value v)) to go end now e = refl
followed_so (Some (Frame at)) to go end now e = refl
followed_so (Some (CalledBack g args)) to go end now e = refl

followed : (n : Next) (m : Mark) (go : Config → Verdict) (end : Verdict) (now : Config) → goes (next_reply n m) ≡ true → follow n m go end ≡ go (move n m now)
unfolding goes next_reply
followed (Wants side want to) m go end now e = followed_so (reply side want m) to go end now e
followed (Quiet d) m go end now e = absurd cc
followed (Ends v) m go end now e = absurd cc
followed No m go end now e = absurd cc

wanted_end : (n : Next) (side : Side) (want : Want) → at_end n ≡ Expects side want → (to : Answer → Config) × (n ≡ Wants side want to)
wanted_end (Wants s w k) side want e =
    let p : s ≡ side = cc in
    let q : w ≡ want = cc in
    (k, λ i. Wants (p i) (q i) k)
wanted_end (Quiet d) side want e = absurd cc
wanted_end (Ends v) side want e = absurd cc
wanted_end No side want e = absurd cc

module _ (l : Laid) where
  abbrev at : List Mark → Config
  at past = state Above l (Done 0) past

  abbrev goes_on : List Mark → Mark → Bool
  goes_on past m = goes (next_reply (step Above l (at past)) m)

  -- those of the marks that go on, the newest first
  abbrev going : List Mark → List Mark
  going [] = []
  going (m ∷ past) = cond (goes_on past m) (m ∷ going past) (going past)

  stays_at : (past : List Mark) (m : Mark) → goes_on past m ≡ false → at (m ∷ past) ≡ at past
  stays_at past m e = ap (λ (c : Config). settled l c) (no_move (step Above l (at past)) m (at past) e) ∙ state_settled Above l (Done 0) past

  turned : (m : Mark) (past ms : List Mark) → reverse (m ∷ past) ++ ms ≡ reverse past ++ (m ∷ ms)
  turned m past ms = ap (λ (xs : List Mark). xs ++ ms) (reverse-append (m ∷ []) past) ∙ append_assoc (reverse past) (m ∷ []) ms

  -- what is said of a list that begins with them is said from where all marks lead
  Said : List Mark → Type 0
  Said past = (ms : List Mark) → lists Above (reverse (going past) ++ ms) l (Done 0) ≡ lists Above ms l (at past)

  one_said : (past : List Mark) (m : Mark) → Said past → (t : Bool) → goes_on past m ≡ t → (ms : List Mark) → lists Above (reverse (cond t (m ∷ going past) (going past)) ++ ms) l (Done 0) ≡ lists Above ms l (at (m ∷ past))
  unfolding Said
  one_said past m more false e ms = more ms ∙ ap (λ (c : Config). lists Above ms l c) (sym (stays_at past m e))
  one_said past m more true e ms =
      let now = at past in
      ap (λ (xs : List Mark). lists Above xs l (Done 0)) (turned m (going past) ms)
      ∙ (more (m ∷ ms)
      ∙ (ap (λ (c : Config). follow (step Above l c) m (lists Above ms l) (closed ms)) (state_settled Above l (Done 0) past)
      ∙ (followed (step Above l now) m (lists Above ms l) (closed ms) now e ∙ sym (lists_settled l Above ms (move (step Above l now) m now)))))

  said : (past : List Mark) → Said past
  unfolding Said
  said [] ms = sym (lists_settled l Above ms (Done 0))
  said (m ∷ past) ms = one_said past m (said past) (goes_on past m) refl ms

  -- what is said of them is what is wanted
  said_last : (past : List Mark) → lists Above (reverse (going past)) l (Done 0) ≡ at_end (step Above l (at past))
  unfolding Said
  said_last past =
      ap (λ (xs : List Mark). lists Above xs l (Done 0)) (sym (append-nil (reverse (going past))))
      ∙ (said past [] ∙ ap (λ (c : Config). at_end (step Above l c)) (state_settled Above l (Done 0) past))

  -- ---- modes

  abbrev q : Marks
  q = λ ms. lists Above ms l (Done 0)

  module _ (valid : IsValid l.code) (may : Side → ℕ → Type 0) where
    one_more : (past : List Mark) (m : Mark) → ModesKept may (wanting l) (reverse past ++ (m ∷ [])) → ModesKept may q (reverse (going past)) → ModesKept may q (reverse (going past) ++ (m ∷ []))
    one_more past m kept before r k = let i = k.reaches in by (last_or_before q (reverse (going past)) m i.side i.want i.answer i.answered)
      where
        by : IsAnswered q (reverse (going past)) k.reaches.side k.reaches.want k.reaches.answer ⊎ AtLast q (reverse (going past)) m k.reaches.side k.reaches.want k.reaches.answer → may r.side r.func
        by (inl a) = before r (record { reaches = record { side = k.reaches.side; want = k.reaches.want; answer = k.reaches.answer; answered = a; reaches = k.reaches.reaches }; pointer = k.pointer })
        by (inr z) =
            let n = wanted_end (step Above l (at past)) k.reaches.side k.reaches.want (sym (said_last past) ∙ z.wanted) in
            let side : k.reaches.side ≡ Replay = wants_above l valid.height valid.steady past k.reaches.side k.reaches.want n.0 n.1 in
            let want : want_above l (reverse (reverse past)) ≡ k.reaches.want = ap (λ (xs : List Mark). want_above l xs) (reverse-reverse past) ∙ ap want_of n.1 in
            kept r (record {
              reaches = record {
                side = k.reaches.side;
                want = k.reaches.want;
                answer = k.reaches.answer;
                answered = record {
                  before = reverse past;
                  mark = m;
                  after = [];
                  there = refl;
                  wanted = λ j. Expects (sym side j) (want j);
                  answers = z.answers;
                };
                reaches = k.reaches.reaches;
              };
              pointer = k.pointer;
            })

    -- one more mark, which goes on or doesn't
    more_kept : (past : List Mark) (m : Mark) → ModesKept may (wanting l) (reverse past ++ (m ∷ [])) → ModesKept may q (reverse (going past)) → (t : Bool) → ModesKept may q (reverse (cond t (m ∷ going past) (going past)))
    more_kept past m whole before false = before
    more_kept past m whole before true = subst (ModesKept may q) (sym (reverse-append (m ∷ []) (going past))) (one_more past m whole before)

    kept_going : (past : List Mark) → ModesKept may (wanting l) (reverse past) → ModesKept may q (reverse (going past))
    kept_going [] kept = λ r k. let a = k.reaches.answered in absurd (no_place a.before a.after a.mark a.there)
    kept_going (m ∷ past) kept =
        let whole = subst (ModesKept may (wanting l)) (reverse-append (m ∷ []) past) kept in
        more_kept past m whole (kept_going past (kept_before may (wanting l) (reverse past ++ (m ∷ [])) (reverse past) [] m refl whole)) (goes_on past m)

  module _ (valid : IsValid l.code) (s : Source) (p : Permits) (granted : WantsAreGranted s p q) where
    pub wanting_granted : WantsAreGranted s p (wanting l)
    wanting_granted past side want e kept =
        let mine = reverse past in
        let now = ap (λ (v : Verdict). v) e in
        let is_side : Replay ≡ side = cc in
        let is_want : want_above l mine ≡ want = cc in
        let along = kept_going valid p.may mine (subst (ModesKept p.may (wanting l)) (sym (reverse-reverse past)) kept) in
        subst (λ (w : Want). WantGranted s p side w) is_want (subst (λ (z : Side). WantGranted s p z (want_above l mine)) is_side (by mine along (step Above l (at mine)) refl))
      where
        by : (mine : List Mark) → ModesKept p.may q (reverse (going mine)) → (n : Next) → step Above l (at mine) ≡ n → WantGranted s p Replay (want_of n)
        by mine along (Wants z w to) h =
            let side : z ≡ Replay = wants_above l valid.height valid.steady mine z w to h in
            subst (λ (y : Side). WantGranted s p y w) side (granted (reverse (going mine)) z w (said_last mine ∙ ap at_end h) along)
        by mine along (Quiet d) h = tt
        by mine along (Ends v) h = tt
        by mine along No h = tt
