use Rattle.std.proofs.Common.{Ok, Err, sym, ap, ◌∙◌, subst, arith}
use Rattle.c_scopes.specs.Scopes.{innermost}
use Rattle.c_syntax.specs.declared.id.DeclId.{DeclId}
use Rattle.c_syntax.specs.Stands.{StandsDecl}
use Rattle.c_types_rules.specs.Environment.{Environment}
use Rattle.annot_reader_rules.specs.Cuts.{all_noted}
use Rattle.annot_reader_rules.specs.Notes.{Annotated}
use Rattle.annot_reader_words.specs.Answers.{Tells}
use Rattle.annot_reader_words.proofs.Composing.{raised, same_tells}
use Rattle.annot_reader_words.proofs.Folding.{at_end, at_first, broken_next, fold, past_next}
use Rattle.annot_reader_words.proofs.Lists.{decls_in, decls_stand}
use Rattle.annot_reader_functions.specs.Known.{AreKnown}
use Rattle.annot_reader_functions.proofs.Saying.{stays_here, stays_through}
use Rattle.annot_reader.specs.Reading.{AreRead, IsReading, noted_step, nothing_read}
use Rattle.annot_reader.proofs.Headed.{headings_stay, numbers_stay}
use Rattle.annot_reader.proofs.Listed.{decl_at, noted_fold}
use Rattle.annot_reader_functions.specs.Seen.{declared_by}
use Rattle.annot_reader.proofs.declarations.read.Goals as goal

abbrev none : DeclId
none = record { 0 = 0 }

pub loop-id-init : goal.loop-id-init
loop-id-init c = (
  stays_here _,
  λ ds p h k n.
      let N = c.args.source.now.tree.now in
      let cut = c.args.source.now.cut.now in
      let step = noted_step (declared_by c.args.env.now).env p in
      let js = IsReading cut in
      (nothing_read, c.new-reading.ensures.read cut, at_first (StandsDecl N) step js js c.args.ids.now (decls_in ds) nothing_read (decls_stand N c.args.ids.now ds h)),
  subst (AreKnown c.args.source.now.tree.now c.args.source.now.cut.now) (sym c.new-reading.ensures.known) tt,
)

pub note-requires-clause-id : goal.note-requires-clause-id
note-requires-clause-id c = decl_at c.args.source.now.tree.now c.args.ids.now c.loop-id.id-index none c.requires.ids (omega arith)

pub note-requires-clause-numbers : goal.note-requires-clause-numbers
note-requires-clause-numbers c = numbers_stay _ _ c.loop-id.invariant.0 c.args.source.now.functions.now c.requires.numbers

pub note-requires-clause-known : goal.note-requires-clause-known
note-requires-clause-known c = c.loop-id.invariant.2

pub loop-id-preserved : goal.loop-id-preserved
loop-id-preserved c = (
  stays_through _ _ _ c.loop-id.invariant.0 c.in_ok-note.ensures.kept,
  λ ds p h k n.
      let N = c.args.source.now.tree.now in
      let cut = c.args.source.now.cut.now in
      let before = declared_by c.args.env.now in
      let now = declared_by c.loop-id.env in
      let stays = c.loop-id.invariant.0 in
      let step = noted_step before.env p in
      let js = IsReading cut in
      let is : Annotated → Unit {0} → Type 0 = λ b u. AreRead cut b c.note.new.self in
      let i = c.loop-id.invariant.1 ds p h k n in
      past_next (StandsDecl N) step is js c.args.ids.now c.loop-id.id-index none i.0 (fold step (decls_in ds) nothing_read) tt (omega arith) i.2
      (λ x t. subst (λ (e : Environment). Tells is (noted_step e p x i.0) (Ok tt)) stays.env
      (c.in_ok-note.ensures.agrees x p i.0 t (headings_stay before now stays c.args.source.now.functions.now p.functions c.requires.numbers k) (ap (λ (e : Environment). innermost e.scopes) stays.env ∙ n) i.1)),
  c.in_ok-note.ensures.known,
)

pub returns-in_err-note-clause-agrees : goal.returns-in_err-note-clause-agrees
returns-in_err-note-clause-agrees c = λ ds p h k n.
    let N = c.args.source.now.tree.now in
    let cut = c.args.source.now.cut.now in
    let before = declared_by c.args.env.now in
    let now = declared_by c.loop-id.env in
    let stays = c.loop-id.invariant.0 in
    let step = noted_step before.env p in
    let js = IsReading cut in
    let is : Annotated → Unit {0} → Type 0 = λ b u. AreRead cut b c.note.new.self in
    let i = c.loop-id.invariant.1 ds p h k n in
    let all = fold step (decls_in ds) nothing_read in
    let e = c.in_err-note.field-0.0 in
    raised js (all_noted before.env p ds nothing_read) c.from_residual.result e c.from_residual.ensures.1
    (same_tells js (all_noted before.env p ds nothing_read) all (Err e) (noted_fold before.env p ds nothing_read)
    (broken_next (StandsDecl N) step is js c.args.ids.now c.loop-id.id-index none i.0 all e (omega arith) i.2
    (λ x t. subst (λ (f : Environment). Tells is (noted_step f p x i.0) (Err e)) stays.env
    (c.in_err-note.ensures.agrees x p i.0 t (headings_stay before now stays c.args.source.now.functions.now p.functions c.requires.numbers k) (ap (λ (f : Environment). innermost f.scopes) stays.env ∙ n) i.1))))

pub returns-clause-agrees : goal.returns-clause-agrees
returns-clause-agrees c = λ ds p h k n.
    let N = c.args.source.now.tree.now in
    let before = declared_by c.args.env.now in
    let step = noted_step before.env p in
    let js = IsReading c.args.source.now.cut.now in
    let i = c.loop-id.invariant.1 ds p h k n in
    let all = fold step (decls_in ds) nothing_read in
    same_tells js (all_noted before.env p ds nothing_read) all (Ok c.loop-id.reading) (noted_fold before.env p ds nothing_read)
    (at_end (StandsDecl N) step js js c.args.ids.now c.loop-id.id-index i.0 all c.loop-id.reading (omega arith) i.2 i.1)
