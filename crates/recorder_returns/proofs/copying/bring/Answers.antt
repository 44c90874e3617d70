use Rattle.std.proofs.Common.{◌∙◌, subst}
use Rattle.marks.specs.declared.range.Range.{Range}
use Rattle.replay_runs.specs.Interface.{Committing}
use Rattle.std.specs.Prelude.{ℕ, List, Option}
use Rattle.stub_meaning.specs.Meaning.{first_of}
use Rattle.recorder_returns.specs.Copies.{AddsCommit, AreCopies}
use Rattle.recorder_returns.proofs.Copied.{brought}
use Rattle.recorder_returns.proofs.copying.bring.Goals as goal

pub returns : goal.returns
returns c =
    let s = c.args.spaces.now in
    let said = c.args.returning.now in
    let copies : AreCopies s.bytes said.ranges.items said.done.used c.in_ok-pieces.pieces =
    subst (λ (rs : List Range). AreCopies s.bytes rs said.done.used c.in_ok-pieces.pieces) c.as_slice-regions.ensures.value
    (subst (λ (us : List ℕ). AreCopies s.bytes c.as_slice-regions.result.now us c.in_ok-pieces.pieces) c.used.ensures c.in_ok-pieces.ensures) in
    let adds : AddsCommit s (first_of said.done.commits) c.in_ok-pieces.pieces said.ranges.items c.add_commit.new.pieces c.add_commit.new.ranges.items =
    subst (λ (rs : List Range). AddsCommit s (first_of said.done.commits) c.in_ok-pieces.pieces rs c.add_commit.new.pieces c.add_commit.new.ranges.items) (c.in_ok-ranges.ensures.ok ∙ c.as_slice-regions.ensures.value)
    (subst (λ (o : Option Committing). AddsCommit s o c.in_ok-pieces.pieces c.in_ok-ranges.ranges.items c.add_commit.new.pieces c.add_commit.new.ranges.items) c.commit-commit.ensures c.in_ok-add_commit.ensures) in
    brought s said c.in_ok-pieces.pieces _ copies adds
