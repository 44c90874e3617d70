-- What is said of one kind of event or of mark, and what of every other.
use Rattle.std.specs.Prelude.{ℕ, List, Option}
use Rattle.marks.specs.Marks.{EventKind, Call, Ret, Up, UpRet, Alloc, Free, Stop, Act, Turn, Load, Store, Enter, Leave, Step, Fault, Made}

-- of a Call, by its function and arguments
abbrev pub if_call : {A : Type 0} → (ℕ → List ℕ → A) → A → EventKind → A
if_call here other (Call func args ins outs prepared) = here func args
if_call here other (Ret func args result same outs commit) = other
if_call here other (Up func args) = other
if_call here other (UpRet func result) = other
if_call here other (Alloc at size) = other
if_call here other (Free at size) = other
if_call here other (Stop fault) = other

-- of a Ret, by its function, arguments and result
abbrev pub if_ret : {A : Type 0} → (ℕ → List ℕ → ℕ → A) → A → EventKind → A
if_ret here other (Call func args ins outs prepared) = other
if_ret here other (Ret func args result same outs commit) = here func args result
if_ret here other (Up func args) = other
if_ret here other (UpRet func result) = other
if_ret here other (Alloc at size) = other
if_ret here other (Free at size) = other
if_ret here other (Stop fault) = other

-- of an Up, by its function and arguments
abbrev pub if_up : {A : Type 0} → (ℕ → List ℕ → A) → A → EventKind → A
if_up here other (Call func args ins outs prepared) = other
if_up here other (Ret func args result same outs commit) = other
if_up here other (Up func args) = here func args
if_up here other (UpRet func result) = other
if_up here other (Alloc at size) = other
if_up here other (Free at size) = other
if_up here other (Stop fault) = other

-- of an UpRet, by its function and result
abbrev pub if_up_ret : {A : Type 0} → (ℕ → ℕ → A) → A → EventKind → A
if_up_ret here other (Call func args ins outs prepared) = other
if_up_ret here other (Ret func args result same outs commit) = other
if_up_ret here other (Up func args) = other
if_up_ret here other (UpRet func result) = here func result
if_up_ret here other (Alloc at size) = other
if_up_ret here other (Free at size) = other
if_up_ret here other (Stop fault) = other

-- of an Alloc, by its address and size
abbrev pub if_alloc : {A : Type 0} → (ℕ → ℕ → A) → A → EventKind → A
if_alloc here other (Call func args ins outs prepared) = other
if_alloc here other (Ret func args result same outs commit) = other
if_alloc here other (Up func args) = other
if_alloc here other (UpRet func result) = other
if_alloc here other (Alloc at size) = here at size
if_alloc here other (Free at size) = other
if_alloc here other (Stop fault) = other

-- of a Free, by its address and size
abbrev pub if_free : {A : Type 0} → (ℕ → ℕ → A) → A → EventKind → A
if_free here other (Call func args ins outs prepared) = other
if_free here other (Ret func args result same outs commit) = other
if_free here other (Up func args) = other
if_free here other (UpRet func result) = other
if_free here other (Alloc at size) = other
if_free here other (Free at size) = here at size
if_free here other (Stop fault) = other

-- of a Turn
abbrev pub if_turn : {A : Type 0} → A → A → Act → A
if_turn here other Turn = here
if_turn here other (Load origin at bytes) = other
if_turn here other (Store origin at bytes) = other
if_turn here other (Enter func args at bytes) = other
if_turn here other (Leave at size) = other
if_turn here other (Step func args result ins pieces freed) = other
if_turn here other (Fault kind crosses ins outs access) = other
if_turn here other (Made e) = other

-- of a Load, by its origin, address and bytes
abbrev pub if_load : {A : Type 0} → (Option ℕ → ℕ → List ℕ → A) → A → Act → A
if_load here other Turn = other
if_load here other (Load origin at bytes) = here origin at bytes
if_load here other (Store origin at bytes) = other
if_load here other (Enter func args at bytes) = other
if_load here other (Leave at size) = other
if_load here other (Step func args result ins pieces freed) = other
if_load here other (Fault kind crosses ins outs access) = other
if_load here other (Made e) = other

-- of a Store, by its origin, address and bytes
abbrev pub if_store : {A : Type 0} → (Option ℕ → ℕ → List ℕ → A) → A → Act → A
if_store here other Turn = other
if_store here other (Load origin at bytes) = other
if_store here other (Store origin at bytes) = here origin at bytes
if_store here other (Enter func args at bytes) = other
if_store here other (Leave at size) = other
if_store here other (Step func args result ins pieces freed) = other
if_store here other (Fault kind crosses ins outs access) = other
if_store here other (Made e) = other

-- of an Enter, by its function, arguments, address and bytes
abbrev pub if_enter : {A : Type 0} → (ℕ → List ℕ → ℕ → List ℕ → A) → A → Act → A
if_enter here other Turn = other
if_enter here other (Load origin at bytes) = other
if_enter here other (Store origin at bytes) = other
if_enter here other (Enter func args at bytes) = here func args at bytes
if_enter here other (Leave at size) = other
if_enter here other (Step func args result ins pieces freed) = other
if_enter here other (Fault kind crosses ins outs access) = other
if_enter here other (Made e) = other

-- of a Leave, by its address and size
abbrev pub if_leave : {A : Type 0} → (ℕ → ℕ → A) → A → Act → A
if_leave here other Turn = other
if_leave here other (Load origin at bytes) = other
if_leave here other (Store origin at bytes) = other
if_leave here other (Enter func args at bytes) = other
if_leave here other (Leave at size) = here at size
if_leave here other (Step func args result ins pieces freed) = other
if_leave here other (Fault kind crosses ins outs access) = other
if_leave here other (Made e) = other

-- of a Step, by its function, arguments and result
abbrev pub if_step : {A : Type 0} → (ℕ → List ℕ → ℕ → A) → A → Act → A
if_step here other Turn = other
if_step here other (Load origin at bytes) = other
if_step here other (Store origin at bytes) = other
if_step here other (Enter func args at bytes) = other
if_step here other (Leave at size) = other
if_step here other (Step func args result ins pieces freed) = here func args result
if_step here other (Fault kind crosses ins outs access) = other
if_step here other (Made e) = other
