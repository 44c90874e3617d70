use Rattle.std.proofs.Common.{ℕ, List, ◌+◌, ◌++◌, codes, decimal, length, ap, sym, ◌∙◌, append_assoc, arith}
use Rattle.call_inspector.specs.declared.parts.Position.TheVariants.{Events}
use Rattle.call_inspector.specs.declared.parts.State.{State}
use Rattle.call_inspector.specs.Parts.{left_at, left_of, most_at}
use Rattle.call_inspector.proofs.PartSteps.{at_first, entered, item_of, one_thread_fewer, skipped}
use Rattle.call_inspector.proofs.parts.State.begin.Goals as goal

pub returns-then-is_empty : goal.returns-then-is_empty
returns-then-is_empty c =
    let s = c.args.self.now in
    let s2 : State = record s { next = s.next + 1 } in
    let rs = c.as_slice-records.result.now in
    let count = ap length c.as_slice-threads.ensures in
    let lt = c.if-thread-threads.false in
    let item = item_of c.as_slice-threads.result.now s.run.now.threads s.next c.index-threads-thread.result rs c.as_slice-threads.ensures c.as_slice-records.ensures c.index-threads-thread.is in
    record {
      text = ap (λ (w : List ℕ). c.args.text.now.items ++ w)
          (ap (left_at s2) c.requires ∙ sym (skipped s rs (omega (arith, lt, count)) item (sym c.is_empty.ensures ∙ c.if-is_empty.true)) ∙ sym (ap (left_at s) c.requires));
      fewer = (
          let now = ap (most_at s2) c.requires in
          let was = ap (most_at s) c.requires in
          let one = one_thread_fewer s rs (omega (arith, lt, count)) item in
          omega (arith, now, was, one)
          );
    }

pub returns : goal.returns
returns c =
    let s = c.args.self.now in
    let rs = c.as_slice-records.result.now in
    let s2 : State = record s { next = s.next + 1; passed = record { active = c.clear.new.self; end = c.new-self.result }; place = Events s.next c.as_slice-records.result 0 } in
    let count = ap length c.as_slice-threads.ensures in
    let lt = c.if-thread-threads.false in
    let item = item_of c.as_slice-threads.result.now s.run.now.threads s.next c.index-threads-thread.result rs c.as_slice-threads.ensures c.as_slice-records.ensures c.index-threads-thread.is in
    let before = c.args.text.now.items in
    let head : List ℕ = codes "thread " ++ decimal s.next ++ codes "\n" in
    record {
      text = ap (λ (w : List ℕ). w ++ left_of s2) c.in_ok-put_heading.ensures
          ∙ append_assoc before head (left_of s2)
          ∙ ap (λ (w : List ℕ). before ++ (head ++ w)) (at_first s2 s2.passed s.next rs c.clear.ensures c.new-self.ensures)
          ∙ ap (λ (w : List ℕ). before ++ w) (sym (entered s rs (omega (arith, lt, count)) item (sym c.is_empty.ensures ∙ c.if-is_empty.false)) ∙ sym (ap (left_at s) c.requires));
      fewer = (
          let was = ap (most_at s) c.requires in
          let one = one_thread_fewer s rs (omega (arith, lt, count)) item in
          omega (arith, was, one)
          );
    }
