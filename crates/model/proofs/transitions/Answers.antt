-- `model::transitions` meets its contract: those that are left fit, and the source before them is at most n.
use Rattle.std.proofs.Common.{◌+◌, ◌*◌, ◌≤◌, length, ◌≡◌, arith, rules}
use Rattle.wire.specs.Read.{Ok}
use Rattle.wire.specs.Reader.{one}
use Rattle.wire.proofs.Runs.{may_run, runs_are}
use Rattle.model.specs.Format.{transition_width}
use Rattle.model.specs.Message as m
use Rattle.model.proofs.Good.{transitions_move, transitions_leave}
use Rattle.model.proofs.transitions.Goals as goal

pub run-requires : goal.run-requires
run-requires c =
    let a = c.args in
    may_run _ _ (λ k st. (st.at + k * transition_width ≤ length a.s.now) × (st.prev ≤ a.n)) (λ k st fit. let here : st.at + transition_width ≤ length a.s.now = omega arith in let most = fit.1 in search rules)
    (λ k st next fit read.
    let is : one (m.transitions a.s.now a.n) st ≡ Ok next = search rules in
    (omega (arith, transitions_move _ _ _ _ is), omega (arith, transitions_leave _ _ _ _ is))) a.k a.first c.requires

pub returns : goal.returns
returns c = runs_are (m.transitions c.args.s.now c.args.n) (λ st r read. search rules) c.run.ensures
