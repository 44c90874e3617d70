-- Who holds the regions that are left, once a call is undone or closed.
use Rattle.std.proofs.Common.{◌≡◌, Bool, true, false, not, cond, List, [], ◌∷◌, length, map, filter, Option, ℕ, slice_index, refl, sym, ap, ◌∙◌}
use Rattle.std.proofs.lemmas.List.{length-map}
use Rattle.space_memory_access.specs.declared.holder.Holder.{Holder}
use Rattle.space_memory_access.specs.declared.holder.OpenCall.{OpenCall}
use Rattle.space_memory_access.specs.declared.holder.Region.{Region}
use Rattle.space_memory_access.specs.Held.{HeldState, innermost, without_call, without_closed, disown}
use Rattle.space_memory_access.specs.Holders.{is_of, is_out_of, outlives, disowned}
use Rattle.space_memory.specs.Releases.{outs_of}
use Rattle.test_memory.specs.Held.{holders_of}

-- of regions that are chosen by their holders
chosen : (p : Holder → Bool) (rs : List Region) → holders_of (filter (λ r. p r.holder) rs) ≡ filter p (holders_of rs)
chosen p [] = refl
chosen p (r ∷ rs) = go (p r.holder) (chosen p rs)
  where
    go : (b : Bool) → holders_of (filter (λ s. p s.holder) rs) ≡ filter p (holders_of rs) → holders_of (cond b (r ∷ filter (λ s. p s.holder) rs) (filter (λ s. p s.holder) rs)) ≡ cond b (r.holder ∷ filter p (holders_of rs)) (filter p (holders_of rs))
    go true rest = ap (λ (hs : List Holder). r.holder ∷ hs) rest
    go false rest = rest

both_chosen : (p : Holder → Bool) (rs ss : List Region) → holders_of rs ≡ holders_of ss → holders_of (filter (λ r. p r.holder) rs) ≡ holders_of (filter (λ r. p r.holder) ss)
both_chosen p rs ss same = chosen p rs ∙ ap (λ (hs : List Holder). filter p hs) same ∙ sym (chosen p ss)

disowned_all : (call : OpenCall) (rs : List Region) → holders_of (map (disown call) rs) ≡ map (disowned call) (holders_of rs)
disowned_all call [] = refl
disowned_all call (r ∷ rs) = ap (λ (hs : List Holder). disowned call r.holder ∷ hs) (disowned_all call rs)

-- the innermost call of a thread is the same where the calls are counted the same
same_call : (a b : HeldState) (thread : ℕ) → a.depths ≡ b.depths → innermost a thread ≡ innermost b thread
same_call a b thread same = ap (λ (ds : List ℕ). record { thread = thread; depth = slice_index ds thread }) same

pub same_undone : (a b : HeldState) (thread : ℕ) → a.depths ≡ b.depths → holders_of a.regions ≡ holders_of b.regions → holders_of (without_call (innermost a thread) a.regions) ≡ holders_of (without_call (innermost b thread) b.regions)
same_undone a b thread depths holders =
    both_chosen (λ h. not (is_of (innermost a thread) h)) a.regions b.regions holders
    ∙ ap (λ (call : OpenCall). holders_of (without_call call b.regions)) (same_call a b thread depths)

pub same_closed : (a b : HeldState) (thread : ℕ) (commit : Option ℕ) → a.depths ≡ b.depths → holders_of a.regions ≡ holders_of b.regions → holders_of (without_closed (innermost a thread) commit a.regions) ≡ holders_of (without_closed (innermost b thread) commit b.regions)
same_closed a b thread commit depths holders =
    let call : OpenCall = innermost a thread in
    let p : Holder → Bool = λ h. outlives call commit h in
    disowned_all call (filter (λ r. p r.holder) a.regions)
    ∙ ap (λ (hs : List Holder). map (disowned call) hs) (both_chosen p a.regions b.regions holders)
    ∙ sym (disowned_all call (filter (λ r. p r.holder) b.regions))
    ∙ ap (λ (c : OpenCall). holders_of (without_closed c commit b.regions)) (same_call a b thread depths)

pub same_count : (a b : HeldState) (thread : ℕ) → a.depths ≡ b.depths → holders_of a.regions ≡ holders_of b.regions → length (outs_of (innermost a thread) a.regions) ≡ length (outs_of (innermost b thread) b.regions)
same_count a b thread depths holders =
    let call : OpenCall = innermost a thread in
    sym (length-map (outs_of call a.regions) (λ (r : Region). r.holder))
    ∙ ap (λ (hs : List Holder). length hs) (both_chosen (λ h. is_out_of call h) a.regions b.regions holders)
    ∙ length-map (outs_of call b.regions) (λ (r : Region). r.holder)
    ∙ ap (λ (c : OpenCall). length (outs_of c b.regions)) (same_call a b thread depths)
