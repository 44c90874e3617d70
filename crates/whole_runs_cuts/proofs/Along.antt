-- What is said of each mark of a thread, said of the whole list.
use Rattle.std.proofs.Common.{◌≡◌, ℕ, List, [], ◌∷◌, ◌++◌, Some, append_assoc, sym, ap, ◌∙◌, subst}
use Rattle.std.specs.Prelude.{true, reverse}
use Rattle.std.proofs.lemmas.List.{reverse-append, reverse-reverse}
use Rattle.marks.specs.declared.side.Side.{Side}
use Rattle.marks.specs.Marks.{Mark}
use Rattle.marks.specs.Wants.{Want, Answer}
use Rattle.c_code.specs.Machine.{Laid, Config}
use Rattle.c_code.specs.MarkLists.{Reading, Next, Quiet, Wants, Ends, No, Expects, reply, at_end, lists, state, step}
use Rattle.c_semantics.specs.Reading.{Marks}
use Rattle.cut_graph_reached.specs.Reached.{Reach, by_pointer, reached}
use Rattle.cut_graph_reached.specs.Answers.{IsAnswered, ModesKept}
use Rattle.whole_runs_seen.proofs.Answered.{AllGoOn, said_all}
use Rattle.whole_runs_cuts.proofs.Tested.{KeptAt}

-- the marks after a place, and those before it, the newest first
turned : (past before after : List Mark) (m : Mark) → reverse past ≡ before ++ (m ∷ after) → past ≡ reverse after ++ (m ∷ reverse before)
turned past before after m e =
    sym (reverse-reverse past) ∙ (ap reverse e ∙ (reverse-append before (m ∷ after) ∙ (ap (λ (xs : List Mark). xs ++ reverse before) (reverse-append (m ∷ []) after) ∙ append_assoc (reverse after) (m ∷ []) (reverse before))))

module _ (r : Reading) (l : Laid) (c : Config) where
  abbrev p : Marks
  p = λ ms. lists r ms l c

  abbrev next : List Mark → Next
  next past = step r l (state r l c past)

  -- of those before a mark what is said of all
  older_go_on : (later past : List Mark) → AllGoOn r l c (later ++ past) → AllGoOn r l c past
  older_go_on [] past h = h
  older_go_on (m ∷ later) past h = older_go_on later past h.1

  module _ (may : Side → ℕ → Type 0) where
    -- each mark keeps to the modes
    abbrev pub AllKept : List Mark → Type 0
    AllKept [] = Unit {0}
    AllKept (m ∷ past) = KeptAt may (next past) m × AllKept past

    older_kept : (later past : List Mark) → AllKept (later ++ past) → AllKept past
    older_kept [] past h = h
    older_kept (m ∷ later) past h = older_kept later past h.1

    kept_there : (n : Next) (m : Mark) (side : Side) (want : Want) (x : Answer) (q : Reach) → at_end n ≡ Expects side want → KeptAt may n m → reply side want m ≡ Some x → by_pointer want ≡ true → reached side want x ≡ Some q → may q.side q.func
    kept_there (Wants a b to) m side want x q e kept answers pointer reaches =
        let es : side ≡ a = cc in
        let ew : want ≡ b = cc in
        kept x q (ap (λ (s : Side). reply s b m) (sym es) ∙ (ap (λ (v : Want). reply side v m) (sym ew) ∙ answers)) (ap by_pointer (sym ew) ∙ pointer) (ap (λ (s : Side). reached s b x) (sym es) ∙ (ap (λ (v : Want). reached side v x) (sym ew) ∙ reaches))
    kept_there (Quiet d) m side want x q e kept answers pointer reaches = absurd cc
    kept_there (Ends v) m side want x q e kept answers pointer reaches = absurd cc
    kept_there No m side want x q e kept answers pointer reaches = absurd cc

    pub all_kept : (past : List Mark) → AllGoOn r l c past → AllKept past → ModesKept may p (reverse past)
    all_kept past go_on kept q k =
        let i = k.reaches in
        let a = i.answered in
        let z = turned past a.before a.after a.mark a.there in
        let older = a.mark ∷ reverse a.before in
        let here = older_kept (reverse a.after) older (subst AllKept z kept) in
        let on = older_go_on (reverse a.after) older (subst (AllGoOn r l c) z go_on) in
        let said : at_end (next (reverse a.before)) ≡ Expects i.side i.want = sym (said_all r l c (reverse a.before) on.1) ∙ (ap p (reverse-reverse a.before) ∙ a.wanted) in
        kept_there (next (reverse a.before)) a.mark i.side i.want i.answer q said here.0 a.answers k.pointer i.reaches

  -- a mark of the list answers what was wanted there
  pub record AnswersAt (past : List Mark) (m : Mark) : Type 0 where
    pub older : List Mark
    pub side : Side
    pub want : Want
    pub to : Answer → Config
    pub answer : Answer
    pub wants : next older ≡ Wants side want to
    pub replies : reply side want m ≡ Some answer
    pub answered : IsAnswered p (reverse past) side want answer

  pub answered_at : (past later older : List Mark) (m : Mark) → past ≡ later ++ (m ∷ older) → AllGoOn r l c past → AnswersAt past m
  answered_at past later older m e go_on =
      let on = older_go_on later (m ∷ older) (subst (AllGoOn r l c) e go_on) in
      let w = on.0.wanted in
      let said : p (reverse older) ≡ Expects w.side w.want = said_all r l c older on.1 ∙ ap at_end w.wants in
      let there : reverse past ≡ reverse older ++ (m ∷ reverse later) = ap reverse e ∙ (reverse-append later (m ∷ older) ∙ (ap (λ (xs : List Mark). xs ++ reverse later) (reverse-append (m ∷ []) older) ∙ append_assoc (reverse older) (m ∷ []) (reverse later))) in
      record {
        older = older;
        side = w.side;
        want = w.want;
        to = w.to;
        answer = w.answer;
        wants = w.wants;
        replies = w.answers;
        answered = record { before = reverse older; mark = m; after = reverse later; there = there; wanted = said; answers = w.answers };
      }
