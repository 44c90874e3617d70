-- A call is stopped at the first bad one of its ranges.
use Rattle.std.proofs.Common.{◌≡◌, ℕ, ◌<◌, Bool, true, false, ◌||◌, List, [], length, get_or, take, None, refl, sym, ap, ◌∙◌, subst}
use Rattle.std.proofs.lemmas.Bool.{true≢false}
use Rattle.marks.specs.declared.fault.FaultKind.{FaultKind}
use Rattle.marks.specs.declared.fault.FaultKind.TheVariants.{NotLive, ReadOnly}
use Rattle.marks.specs.Places.{is_constant}
use Rattle.marks.specs.declared.range.Range.{Range}
use Rattle.marks.specs.Ranges.{any_range}
use Rattle.marks.specs.Marks.{Access, Reading, Writing, Act, Fault, Mark}
use Rattle.marks.specs.Bytes.{AccessAsks, Asks, Byte, Cell, Dead, Live, Held, IsLive, access_writes, writes}
use Rattle.replay_runs.specs.Runs.{byte}
use Rattle.replay_runs.specs.Rules.{StopsCall, AtIn, AtOut, AtConstant, SomeConstant}
use Rattle.whole_runs.specs.World.{World, begin}
use Rattle.whole_runs.specs.Sides.{seen}
use Rattle.reference_recorder_faults.specs.Ranges.{HasDead, IsFirstBad, IsPlaceOfBad, IsStopped, no_range}
use Rattle.reference_recorder_faults.proofs.FirstBad.{covered_by_one, first_bad, some_bad}

not_dead : (c : Cell) → IsLive c → c ≡ Dead → ⊥
not_dead Dead live dead = live
not_dead (Live v) live dead = absurd cc
not_dead (Held v) live dead = live

module _ (w : World) (past : List Mark) where
  abbrev now : ℕ → Byte
  now x = byte (begin w) x (seen past)

  -- what lives has nothing dead
  none_dead : (rs : List Range) → ((x : ℕ) → any_range rs x ≡ true → IsLive (now x).cell) → (k : ℕ) → k < length rs → HasDead w past (get_or rs k no_range) → ⊥
  none_dead rs live k lt dead = not_dead (now dead.0).cell (live dead.0 (covered_by_one rs k dead.0 lt dead.1)) dead.2

  none_constant : (rs : List Range) → ((x : ℕ) → any_range rs x ≡ true → is_constant x ≡ false) → (k : ℕ) → k < length rs → SomeConstant (get_or rs k no_range) → ⊥
  none_constant rs free k lt some = true≢false (sym some.2 ∙ free some.0 (covered_by_one rs k some.0 lt some.1))

  module _ (ins held : List Range) where
    abbrev Stops : FaultKind → List Range → List Range → Access → Type 0
    Stops kind bi bo a = StopsCall ins held kind bi bo a

    abbrev Lives : List Range → List Range → Type 0
    Lives bi bo = (x : ℕ) → (any_range bi x || any_range bo x) ≡ true → IsLive (now x).cell

    left_lives : (bi bo : List Range) → Lives bi bo → (x : ℕ) → any_range bi x ≡ true → IsLive (now x).cell
    left_lives bi bo live x e = live x (ap (λ b. b || any_range bo x) e)

    right_lives : (bi bo : List Range) → Lives bi bo → (x : ℕ) → any_range bo x ≡ true → IsLive (now x).cell
    right_lives bi bo live x e = live x (ap (λ b. any_range bi x || b) e ∙ or_true (any_range bi x))
      where
        or_true : (b : Bool) → (b || true) ≡ true
        or_true true = refl
        or_true false = refl

    abbrev at_read : FaultKind → ℕ → Act
    at_read kind p = Fault kind true (take p ins) [] (Reading (get_or ins p no_range))

    abbrev at_write : FaultKind → ℕ → Act
    at_write kind p = Fault kind true ins (take p held) (Writing (get_or held p no_range))

    -- ---- at a range that is read

    read_by : (kind : FaultKind) (bi bo : List Range) (a : Access) → Stops kind bi bo a → kind ≡ NotLive → Lives bi bo → AccessAsks kind a now → (p : ℕ) → IsFirstBad (HasDead w past) ins p → Fault kind true bi bo a ≡ at_read kind p
    read_by kind bi bo a (AtIn before after r is) e live dead p first =
        let here = first_bad (HasDead w past) before after r dead (none_dead before (left_lives before [] live)) p (subst (λ rs. IsFirstBad (HasDead w past) rs p) is first) in
        λ i. Fault NotLive true ((sym (ap (take p) is ∙ here.0)) i) [] (Reading ((sym (ap (λ rs. get_or rs p no_range) is ∙ here.1)) i))
    read_by kind bi bo a (AtOut before after r is apart) e live dead p first = absurd (none_dead ins (left_lives ins before live) p first.inside first.bad)
    read_by kind bi bo a (AtConstant before after r is apart some) e live dead p first = absurd cc

    -- ---- at one that is held

    written_by : (kind : FaultKind) (bi bo : List Range) (a : Access) → Stops kind bi bo a → kind ≡ NotLive → Lives bi bo → AccessAsks kind a now → IsPlaceOfBad (HasDead w past) ins None → (p : ℕ) → IsFirstBad (HasDead w past) held p → Fault kind true bi bo a ≡ at_write kind p
    written_by kind bi bo a (AtIn before after r is) e live dead none p first = absurd (some_bad (HasDead w past) before after r dead (subst (λ rs. IsPlaceOfBad (HasDead w past) rs None) is none))
    written_by kind bi bo a (AtOut before after r is apart) e live dead none p first =
        let here = first_bad (HasDead w past) before after r dead (none_dead before (right_lives ins before live)) p (subst (λ rs. IsFirstBad (HasDead w past) rs p) is first) in
        λ i. Fault NotLive true ins ((sym (ap (take p) is ∙ here.0)) i) (Writing ((sym (ap (λ rs. get_or rs p no_range) is ∙ here.1)) i))
    written_by kind bi bo a (AtConstant before after r is apart some) e live dead none p first = absurd cc

    never_dead : (kind : FaultKind) (bi bo : List Range) (a : Access) → Stops kind bi bo a → kind ≡ NotLive → AccessAsks kind a now → IsPlaceOfBad (HasDead w past) ins None → IsPlaceOfBad (HasDead w past) held None → ⊥
    never_dead kind bi bo a (AtIn before after r is) e dead none free = some_bad (HasDead w past) before after r dead (subst (λ rs. IsPlaceOfBad (HasDead w past) rs None) is none)
    never_dead kind bi bo a (AtOut before after r is apart) e dead none free = some_bad (HasDead w past) before after r dead (subst (λ rs. IsPlaceOfBad (HasDead w past) rs None) is free)
    never_dead kind bi bo a (AtConstant before after r is apart some) e dead none free = absurd cc

    constant_by : (kind : FaultKind) (bi bo : List Range) (a : Access) → Stops kind bi bo a → kind ≡ ReadOnly → ((x : ℕ) → (any_range bo x || access_writes a x) ≡ true → is_constant x ≡ false) → (p : ℕ) → IsFirstBad SomeConstant held p → Fault kind true bi bo a ≡ at_write kind p
    constant_by kind bi bo a (AtIn before after r is) e free p first = absurd cc
    constant_by kind bi bo a (AtOut before after r is apart) e free p first = absurd cc
    constant_by kind bi bo a (AtConstant before after r is apart some) e free p first =
        let here = first_bad SomeConstant before after r some (none_constant before (λ x h. free x (ap (λ b. b || access_writes (Writing r) x) h))) p (subst (λ rs. IsFirstBad SomeConstant rs p) is first) in
        λ i. Fault ReadOnly true ins ((sym (ap (take p) is ∙ here.0)) i) (Writing ((sym (ap (λ rs. get_or rs p no_range) is ∙ here.1)) i))

    never_constant : (kind : FaultKind) (bi bo : List Range) (a : Access) → Stops kind bi bo a → kind ≡ ReadOnly → IsPlaceOfBad SomeConstant held None → ⊥
    never_constant kind bi bo a (AtIn before after r is) e none = absurd cc
    never_constant kind bi bo a (AtOut before after r is apart) e none = absurd cc
    never_constant kind bi bo a (AtConstant before after r is apart some) e none = some_bad SomeConstant before after r some (subst (λ rs. IsPlaceOfBad SomeConstant rs None) is none)

    -- ---- so it is of the mark of the fault

    module _ (kind : FaultKind) (act : Act) (s : IsStopped w past ins held kind act) where
      asks : Asks (Fault kind true s.before_ins s.before_held s.access) now
      asks = subst (λ a. Asks a now) s.is s.asks

      free : (x : ℕ) → (any_range s.before_held x || access_writes s.access x) ≡ true → is_constant x ≡ false
      free x e = s.read_only x (ap (λ a. writes a x) s.is ∙ e)

      pub stopped_read : kind ≡ NotLive → (p : ℕ) → IsFirstBad (HasDead w past) ins p → act ≡ at_read kind p
      stopped_read e p first = s.is ∙ read_by kind s.before_ins s.before_held s.access s.stops e asks.0 asks.1 p first

      pub stopped_write : kind ≡ NotLive → IsPlaceOfBad (HasDead w past) ins None → (p : ℕ) → IsFirstBad (HasDead w past) held p → act ≡ at_write kind p
      stopped_write e none p first = s.is ∙ written_by kind s.before_ins s.before_held s.access s.stops e asks.0 asks.1 none p first

      pub stopped_dead : kind ≡ NotLive → IsPlaceOfBad (HasDead w past) ins None → IsPlaceOfBad (HasDead w past) held None → ⊥
      stopped_dead e none more = never_dead kind s.before_ins s.before_held s.access s.stops e asks.1 none more

      pub stopped_constant : kind ≡ ReadOnly → (p : ℕ) → IsFirstBad SomeConstant held p → act ≡ at_write kind p
      stopped_constant e p first = s.is ∙ constant_by kind s.before_ins s.before_held s.access s.stops e free p first

      pub stopped_somewhere : kind ≡ ReadOnly → IsPlaceOfBad SomeConstant held None → ⊥
      stopped_somewhere e none = never_constant kind s.before_ins s.before_held s.access s.stops e none
