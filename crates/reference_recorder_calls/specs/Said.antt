-- What is said of a call, where its keys come from.
use Rattle.std.specs.Prelude.{◌≡◌, ℕ, if◌then◌else◌, List, [], ◌∷◌}
use Rattle.run_events.specs.declared.key.Class.TheVariants.{Thread}
use Rattle.run_events.specs.declared.key.Key.{Key}
use Rattle.marks.specs.Marks.{EventKind, Call, Ret, Up, UpRet, Alloc, Free, Stop, Mark}
use Rattle.marks.specs.Bytes.{Byte}
use Rattle.replay_runs.specs.Interface.{Interface}
use Rattle.replay_runs.specs.Keys.{is_last, key, keys_for, sorted_keys}
use Rattle.replay_runs.specs.Threads.{open_ups, tail}
use Rattle.stub_meaning.specs.Calls.{Done}
use Rattle.stub_meaning.specs.Meaning.{first_of}
use Rattle.reference_recorder_calls.specs.Mine.{mine}

-- of the call of the event this is done, as the interface says; of other events it doesn't matter
abbrev pub IsSaid : Interface → Done → EventKind → Type 0
IsSaid i d (Call f args ins outs prepared) = (d.keys_at_call ≡ i.keys_at_call f args) ×
    (d.registers ≡ i.registers f args) × (d.prepares ≡ prepared)
IsSaid i d (Ret f args result same outs commit) = (d.keys_at_return ≡ i.keys_at_return f args) ×
    (first_of d.commits ≡ i.commits f args result)
IsSaid i d (Up f args) = Unit {0}
IsSaid i d (UpRet f result) = Unit {0}
IsSaid i d (Alloc at size) = Unit {0}
IsSaid i d (Free at size) = Unit {0}
IsSaid i d (Stop fault) = Unit {0}

-- these are the keys of the thread's next event
abbrev pub AreKeysOf : List Mark → (thread : ℕ) → EventKind → Done → List Key → Type 0
AreKeysOf past t kind d keys = (i : Interface) (memory : ℕ → Byte) → IsSaid i d kind →
    keys ≡ sorted_keys (keys_for i t (mine memory t past) kind)

-- the thread's own key, where the callback that ends is its last open one
abbrev pub AreEndKeys : List Mark → (thread : ℕ) → List Key → Type 0
AreEndKeys past t keys = (memory : ℕ → Byte) →
    keys ≡ (if is_last (tail (open_ups (mine memory t past))) then key Thread t ∷ [] else [])
