-- `graph::Reading::hyper_targets` meets its contract: each `return` is the reading under the tests that led there.
use Rattle.std.proofs.Common.{◌≡◌, ◌+◌, true, leb, le-leb, sym}
use borrow.Author.Tests.{lt-leb}
use Rattle.wire.proofs.Reading.{reading, passed}
use Rattle.wire.proofs.Readers.{run_good, run_bad, all_length}
use Rattle.graph.specs.Format.{most_targets}
use Rattle.graph.specs.Message.{read_targets}
use Rattle.graph.proofs.Good.{targets_end}
use Rattle.graph.proofs.Reading.hyper_targets.Goals as goal
use Rattle.graph.proofs.Reading.hyper_targets.Goals.{Start}

-- the running total is within its limit
few : (c : Start) → leb (c.args.st.seen + c.args.count) most_targets ≡ true
few c = le-leb (c.args.st.seen + c.args.count) most_targets c.requires.1

pub returns-then-self-end : goal.returns-then-self-end
unfolding read_targets
returns-then-self-end c = simp (reading, few (goal.at.returns-then-self-end c).Start, lt-leb _ _ c.if-self-end.true)

pub returns-in_err-past : goal.returns-in_err-past
unfolding read_targets
returns-in_err-past c =
    simp (passed c.from_residual.ensures, reading, few (goal.at.returns-in_err-past c).Start, le-leb _ _ c.if-self-end.false, run_bad _ _ _ _ (sym c.in_err-past.ensures))

pub returns : goal.returns
unfolding read_targets
returns c =
    let ts = run_good _ _ _ _ (sym c.in_ok-past.ensures) in
    simp (
      reading,
      few (goal.at.returns c).Start,
      le-leb _ _ c.if-self-end.false,
      ts.there,
      all_length _ _ _ _ ts.there,
      targets_end _ _ _ _ _ (sym c.in_ok-past.ensures),
    )
