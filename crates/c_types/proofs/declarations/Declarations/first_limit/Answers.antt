use Rattle.std.proofs.Common.{◌≡◌, true, false, not, length, map, sym, ap, ◌∙◌, refl, subst, arith}
use Rattle.std.specs.Prelude.{nat_le}
use Rattle.std.specs.List.{All}
use Rattle.std.proofs.lemmas.List.{length-map}
use Rattle.source_limits.specs.Limits.{greatest_object, most_functions}
use Rattle.c_types_rules.specs.Limits.{all_keep, few_params, globals_end, small_frame}
use Rattle.c_types_program.specs.Declarations.{IsFunction, IsGlobal, function_in, global_in}
use Rattle.c_types.specs.States.{program_of}
use Rattle.c_types.proofs.Limited.{by_frames, capped_le, large_globals, large_object, le_fails, le_holds, many_functions, many_members, many_params}
use Rattle.c_types.proofs.declarations.Declarations.first_limit.Goals as goal

pub few_params-requires : goal.few_params-requires
few_params-requires c = subst (All (IsFunction c.args.self.now.env.table)) (sym c.deref.ensures.value) c.requires.sound.functions

pub globals_end-requires-clause-globals : goal.globals_end-requires-clause-globals
globals_end-requires-clause-globals c = subst (All (IsGlobal c.args.self.now.env.table)) (sym c.deref-else-found_large.ensures.value) c.requires.sound.globals

pub small_frames-requires-clause-functions : goal.small_frames-requires-clause-functions
small_frames-requires-clause-functions c = subst (All (IsFunction c.args.self.now.env.table)) (sym c.deref-else-globals_end-gt-GREATEST_OBJECT.ensures.value) c.requires.sound.functions

pub returns-then-len-gt-MOST_FUNCTIONS : goal.returns-then-len-gt-MOST_FUNCTIONS
returns-then-len-gt-MOST_FUNCTIONS c =
    let d = c.args.self.now in
    let p = program_of d in
    let l = length-map d.functions.items (function_in d.env.table) in
    sym (many_functions (not d.env.found_large) p (le_fails (length p.functions) most_functions (omega (arith, c.len.ensures))))

pub returns-then-not-few_params : goal.returns-then-not-few_params
returns-then-not-few_params c =
    let d = c.args.self.now in
    let p = program_of d in
    let l = length-map d.functions.items (function_in d.env.table) in
    let some_functions = le_holds (length p.functions) most_functions (omega (arith, c.len.ensures)) in
    let params : all_keep few_params p.functions ≡ false = ap (λ fs. all_keep few_params (map (function_in d.env.table) fs)) (sym c.deref.ensures.value) ∙ (sym c.few_params.ensures ∙ c.if-not-few_params.true) in
    sym (many_params (not d.env.found_large) p some_functions params)

pub returns-then-not-self : goal.returns-then-not-self
returns-then-not-self c =
    let d = c.args.self.now in
    let p = program_of d in
    let l = length-map d.functions.items (function_in d.env.table) in
    let some_functions = le_holds (length p.functions) most_functions (omega (arith, c.len.ensures)) in
    let params : all_keep few_params p.functions ≡ true = ap (λ fs. all_keep few_params (map (function_in d.env.table) fs)) (sym c.deref.ensures.value) ∙ (sym c.few_params.ensures ∙ c.if-not-few_params.false) in
    sym (many_members (not d.env.found_large) p some_functions params (sym c.requires.sound.members ∙ c.if-not-self.true))

pub returns-then-found_large : goal.returns-then-found_large
returns-then-found_large c =
    let d = c.args.self.now in
    let p = program_of d in
    let l = length-map d.functions.items (function_in d.env.table) in
    let some_functions = le_holds (length p.functions) most_functions (omega (arith, c.len.ensures)) in
    let params : all_keep few_params p.functions ≡ true = ap (λ fs. all_keep few_params (map (function_in d.env.table) fs)) (sym c.deref.ensures.value) ∙ (sym c.few_params.ensures ∙ c.if-not-few_params.false) in
    sym (large_object (not d.env.found_large) p some_functions params (sym c.requires.sound.members ∙ c.if-not-self.false) (ap not (sym c.found_large.ensures ∙ c.if-found_large.true)))

pub returns-then-globals_end-gt-GREATEST_OBJECT : goal.returns-then-globals_end-gt-GREATEST_OBJECT
returns-then-globals_end-gt-GREATEST_OBJECT c =
    let d = c.args.self.now in
    let p = program_of d in
    let l = length-map d.functions.items (function_in d.env.table) in
    let some_functions = le_holds (length p.functions) most_functions (omega (arith, c.len.ensures)) in
    let params : all_keep few_params p.functions ≡ true = ap (λ fs. all_keep few_params (map (function_in d.env.table) fs)) (sym c.deref.ensures.value) ∙ (sym c.few_params.ensures ∙ c.if-not-few_params.false) in
    let ends = c.globals_end.ensures p refl (ap (map (global_in d.env.table)) (sym c.deref-else-found_large.ensures.value)) in
    let large : nat_le (globals_end p) greatest_object ≡ false = sym (capped_le (globals_end p) greatest_object (omega arith)) ∙ (ap (λ n. nat_le n greatest_object) (sym ends) ∙ le_fails c.globals_end.result greatest_object c.if-globals_end-gt-GREATEST_OBJECT.true) in
    sym (large_globals (not d.env.found_large) p some_functions params (sym c.requires.sound.members ∙ c.if-not-self.false) (ap not (sym c.found_large.ensures ∙ c.if-found_large.false)) large)

pub returns-then-not-small_frames : goal.returns-then-not-small_frames
returns-then-not-small_frames c =
    let d = c.args.self.now in
    let p = program_of d in
    let l = length-map d.functions.items (function_in d.env.table) in
    let some_functions = le_holds (length p.functions) most_functions (omega (arith, c.len.ensures)) in
    let params : all_keep few_params p.functions ≡ true = ap (λ fs. all_keep few_params (map (function_in d.env.table) fs)) (sym c.deref.ensures.value) ∙ (sym c.few_params.ensures ∙ c.if-not-few_params.false) in
    let ends = c.globals_end.ensures p refl (ap (map (global_in d.env.table)) (sym c.deref-else-found_large.ensures.value)) in
    let small : nat_le (globals_end p) greatest_object ≡ true = sym (capped_le (globals_end p) greatest_object (omega arith)) ∙ (ap (λ n. nat_le n greatest_object) (sym ends) ∙ le_holds c.globals_end.result greatest_object c.if-globals_end-gt-GREATEST_OBJECT.false) in
    let frames : all_keep (small_frame p) p.functions ≡ false = ap (λ fs. all_keep (small_frame p) (map (function_in d.env.table) fs)) (sym c.deref-else-globals_end-gt-GREATEST_OBJECT.ensures.value) ∙ (sym (c.small_frames.ensures p refl) ∙ c.if-not-small_frames.true) in
    sym (by_frames (not d.env.found_large) p _ false some_functions params (sym c.requires.sound.members ∙ c.if-not-self.false) (ap not (sym c.found_large.ensures ∙ c.if-found_large.false)) small frames refl)

pub returns-else-not-small_frames : goal.returns-else-not-small_frames
returns-else-not-small_frames c =
    let d = c.args.self.now in
    let p = program_of d in
    let l = length-map d.functions.items (function_in d.env.table) in
    let some_functions = le_holds (length p.functions) most_functions (omega (arith, c.len.ensures)) in
    let params : all_keep few_params p.functions ≡ true = ap (λ fs. all_keep few_params (map (function_in d.env.table) fs)) (sym c.deref.ensures.value) ∙ (sym c.few_params.ensures ∙ c.if-not-few_params.false) in
    let ends = c.globals_end.ensures p refl (ap (map (global_in d.env.table)) (sym c.deref-else-found_large.ensures.value)) in
    let small : nat_le (globals_end p) greatest_object ≡ true = sym (capped_le (globals_end p) greatest_object (omega arith)) ∙ (ap (λ n. nat_le n greatest_object) (sym ends) ∙ le_holds c.globals_end.result greatest_object c.if-globals_end-gt-GREATEST_OBJECT.false) in
    let frames : all_keep (small_frame p) p.functions ≡ true = ap (λ fs. all_keep (small_frame p) (map (function_in d.env.table) fs)) (sym c.deref-else-globals_end-gt-GREATEST_OBJECT.ensures.value) ∙ (sym (c.small_frames.ensures p refl) ∙ c.if-not-small_frames.false) in
    sym (by_frames (not d.env.found_large) p _ true some_functions params (sym c.requires.sound.members ∙ c.if-not-self.false) (ap not (sym c.found_large.ensures ∙ c.if-found_large.false)) small frames refl)
