-- Who holds a region, and what that allows.
use Rattle.std.specs.Prelude.{ℕ, Bool, true, false, not, ◌&&◌, ◌==◌, Option, Some, None, if◌then◌else◌}
use Rattle.space_memory_access.specs.declared.holder.OpenCall.{OpenCall}
use Rattle.space_memory_access.specs.declared.holder.Holder.{Holder}
use Rattle.space_memory_access.specs.declared.holder.Holder.TheVariants.{In, Out, Key}

-- whether both are one call
abbrev pub is_same_call : OpenCall → OpenCall → Bool
is_same_call a b = a.thread == b.thread && a.depth == b.depth

-- whether replay code may not touch the region: it is to be written, or prepared
abbrev pub is_pending : Holder → Bool
is_pending (In call) = false
is_pending (Out call) = true
is_pending (Key key by) = true

-- whether system code of the thread may read the region, or write it
abbrev pub serves : ℕ → Bool → Holder → Bool
serves thread write (In call) = not write && call.thread == thread
serves thread write (Out call) = call.thread == thread
serves thread write (Key key by) = true

-- whether the call holds the region to write it
abbrev pub is_out_of : OpenCall → Holder → Bool
is_out_of call (In holder) = false
is_out_of call (Out holder) = is_same_call holder call
is_out_of call (Key key by) = false

-- whether the call holds the region, or, still open, has prepared it
abbrev pub is_of : OpenCall → Holder → Bool
is_of call (In holder) = is_same_call holder call
is_of call (Out holder) = is_same_call holder call
is_of call (Key key None) = false
is_of call (Key key (Some holder)) = is_same_call holder call

-- whether the region stays held once the call is closed, which may commit a key
abbrev pub outlives : OpenCall → Option ℕ → Holder → Bool
outlives call commit (In holder) = not (is_same_call holder call)
outlives call commit (Out holder) = not (is_same_call holder call)
outlives call None (Key key by) = true
outlives call (Some committed) (Key key by) = not (committed == key)

-- whether the region is prepared under the key
abbrev pub has_key : ℕ → Holder → Bool
has_key key (In call) = false
has_key key (Out call) = false
has_key key (Key own by) = own == key

-- the same, once the call is closed
abbrev pub disowned : OpenCall → Holder → Holder
disowned call (In holder) = In holder
disowned call (Out holder) = Out holder
disowned call (Key key None) = Key key None
disowned call (Key key (Some holder)) = if is_same_call holder call then Key key None else Key key
    (Some holder)
