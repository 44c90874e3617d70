use Rattle.std.proofs.Common.{◌∙◌, refl, arith}
use Rattle.race_watch.specs.declared.tables.Tables.{Tables}
use Rattle.race_watch.proofs.Epochs.{cells_same, put_by, put_unused, still_unused}
use Rattle.race_watch.proofs.tables.Tables.put.Goals as goal

pub returns-then-is_err-clause-unchanged : goal.returns-then-is_err-clause-unchanged
returns-then-is_err-clause-unchanged c = cells_same c.args.self.now (record { threads = c.args.self.now.threads; used = c.max-self.result; epochs = c.make.new.self }) c.make.ensures.size c.make.ensures.same

pub returns-clause-put : goal.returns-clause-put
returns-clause-put c = put_by c.args.self.now c.max-self.result c.fill.new.self _ c.args.part c.args.thread c.args.epoch c.args.write c.base.result c.requires.part c.requires.thread c.requires.before c.base.ensures c.fill.ensures.filled c.make.ensures.same

pub returns-then-is_err-clause-tables : goal.returns-then-is_err-clause-tables
returns-then-is_err-clause-tables c =
    let old = c.args.self.now in
    let new : Tables = record { threads = old.threads; used = c.max-self.result; epochs = c.make.new.self } in
    let h = c.requires.tables in
    let m = c.max-self.ensures in
    record {
      size = c.make.ensures.size ∙ h.size;
      few = h.few;
      used = omega (arith, m, h.used, c.requires.thread);
      unused = still_unused old new h refl (omega (arith, m)) c.make.ensures.same;
    }

pub returns-clause-tables : goal.returns-clause-tables
returns-clause-tables c =
    let old = c.args.self.now in
    let new : Tables = record { threads = old.threads; used = c.max-self.result; epochs = c.fill.new.self } in
    let h = c.requires.tables in
    let m = c.max-self.ensures in
    record {
      size = c.fill.ensures.size ∙ c.make.ensures.size ∙ h.size;
      few = h.few;
      used = omega (arith, m, h.used, c.requires.thread);
      unused = put_unused old new c.args.thread c.args.epoch c.args.part c.args.write h (omega (arith, m)) (omega (arith, m)) (returns-clause-put c);
    }
