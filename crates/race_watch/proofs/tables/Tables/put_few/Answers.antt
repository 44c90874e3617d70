use Rattle.std.proofs.Common.{◌∙◌, refl, arith}
use Rattle.race_watch_pages.specs.Kept.{kept}
use Rattle.race_watch.specs.declared.tables.Tables.{Tables}
use Rattle.race_watch.proofs.Epochs.{put_by, put_unused}
use Rattle.race_watch.proofs.tables.Tables.put_few.Goals as goal

pub returns-clause-put : goal.returns-clause-put
returns-clause-put c = λ _. put_by c.args.self.now c.max-self.result c.fill_few.new.self (kept c.args.self.now.epochs) c.args.part c.args.thread c.args.epoch c.args.write c.base.result c.requires.part c.requires.thread c.requires.before c.base.ensures (c.if-not-fill_few.ensures.filled refl) (λ k. refl)

pub returns-clause-tables : goal.returns-clause-tables
returns-clause-tables c =
    let old = c.args.self.now in
    let new : Tables = record { threads = old.threads; used = c.max-self.result; epochs = c.fill_few.new.self } in
    let h = c.requires.tables in
    let m = c.max-self.ensures in
    record {
      size = c.fill_few.ensures.size ∙ h.size;
      few = h.few;
      used = omega (arith, m, h.used, c.requires.thread);
      unused = put_unused old new c.args.thread c.args.epoch c.args.part c.args.write h (omega (arith, m)) (omega (arith, m)) (returns-clause-put c refl);
    }
