-- What a function that reads a text says of its result.
use Rattle.std.specs.Prelude.{◌≡◌, ℕ, Option, Some, None, Result, Ok, Err}
use Rattle.sys_script_lines.specs.declared.error.ScriptError.{ScriptError}
use Rattle.sys_script_lines.specs.declared.error.ScriptError.TheVariants as script
use Rattle.sys_script_lines.specs.declared.error.Wrong.{Wrong}
use Rattle.sys_script_lines.specs.declared.error.Wrong.TheVariants.{Text, Memory}

abbrev pub same : {A : Type 0} → A → A
same x = x

-- seen by a view, it is what the text says; it is wrong exactly where the text says nothing; of memory
-- nothing is said
abbrev pub Says : {A B : Type 0} → (A → B) → Result A Wrong → Option B → Type 0
Says view (Ok x) said = said ≡ Some (view x)
Says view (Err Text) said = said ≡ None
Says view (Err Memory) said = Unit {0}

-- the error of a file in whose line something is wrong
abbrev pub error_at : ℕ → Wrong → ScriptError
error_at line Text = script.Line line
error_at line Memory = script.Memory
