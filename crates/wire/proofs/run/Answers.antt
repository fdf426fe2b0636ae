-- `wire::run` meets its contract: the records that are left may be read, and their run ends the whole run.
use Rattle.wire.proofs.Reading.{passed}
use Rattle.wire.proofs.Runs.{may_first, runs_done, runs_stop, runs_go_on}
use Rattle.wire.proofs.run.Goals as goal

pub loop-init : goal.loop-init
loop-init g c = record { may = c.requires; rest_ends = λ r rest. rest }

pub read-requires : goal.read-requires
read-requires g c = (may_first _ _ c.loop-test.true c.loop.invariant.may).0

pub returns-in_err-st : goal.returns-in_err-st
returns-in_err-st g c = rw (passed c.from_residual.ensures) (c.loop.invariant.rest_ends _ (runs_stop _ c.loop-test.true c.in_err-st.ensures))

pub loop-preserved : goal.loop-preserved
loop-preserved g c = record {
  may = (may_first _ _ c.loop-test.true c.loop.invariant.may).1 _ c.in_ok-st.ensures;
  rest_ends = λ r rest. c.loop.invariant.rest_ends r (runs_go_on _ c.loop-test.true c.in_ok-st.ensures rest);
}

pub returns : goal.returns
returns g c = c.loop.invariant.rest_ends _ (runs_done _ c.loop-test.false)
