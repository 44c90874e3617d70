-- Functions that are found alike.
use Rattle.std.proofs.Common.{◌≡◌, ℕ, List, Option, Result, subst}
use Rattle.system_side.specs.declared.file.SysFile.{SysFile}
use Rattle.sys_script_lines.specs.declared.error.ScriptError.{ScriptError}
use Rattle.sys_script_lines.specs.declared.externals.External.{External}
use Rattle.sys_script_lines.specs.Externals.{external_named, named_in}
use Rattle.sys_script_lines.specs.Scripts.{IsRead, script_of}

-- a file says the same where each name has the same function
pub read_same : (es : List (List ℕ × External)) (who : List ℕ → Option External) (bytes : List ℕ) (r : Result SysFile ScriptError) → ((name : List ℕ) → external_named name es ≡ who name) → IsRead (script_of (named_in es) bytes) r
    → IsRead (script_of who bytes) r
read_same es who bytes r same is = let alike : named_in es ≡ who = (λ j name. same name j) in subst (λ (w : List ℕ → Option External). IsRead (script_of w bytes) r) alike is
