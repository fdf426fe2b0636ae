-- `model::labels` meets its contract: those that are left fit.
use Rattle.std.proofs.Common.{◌+◌, ◌*◌, ◌≤◌, length, ◌≡◌, arith, rules}
use Rattle.wire.specs.Read.{Ok}
use Rattle.wire.specs.Reader.{one}
use Rattle.wire.proofs.Runs.{may_run, runs_are}
use Rattle.model.specs.Format.{label_width}
use Rattle.model.specs.Message as m
use Rattle.model.proofs.Good.{labels_move}
use Rattle.model.proofs.labels.Goals as goal

pub run-requires : goal.run-requires
run-requires c =
    let a = c.args in
    may_run _ _ (λ k st. st.at + k * label_width ≤ length a.s.now) (λ k st fit. let here : st.at + label_width ≤ length a.s.now = omega arith in let bits = c.label_limit-limit.ensures in search rules)
    (λ k st next fit read.
    let is : one (m.labels a.s.now a.p) st ≡ Ok next = search rules in
    omega (arith, labels_move _ _ _ _ is)) a.k a.first c.requires.0

pub returns : goal.returns
returns c = runs_are (m.labels c.args.s.now c.args.p) (λ st r read. search rules) c.run.ensures
