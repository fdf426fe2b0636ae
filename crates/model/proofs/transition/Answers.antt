-- `model::transition` meets its contract: `from` and `to` are read from the transition's part as from the message, and weight and action are there.
use Rattle.std.proofs.Common.{◌≡◌, ◌+◌, sym, ◌∙◌, arith}
use Rattle.wire.specs.Bytes.{number}
use Rattle.wire.specs.Read.{Ok, field, source}
use Rattle.wire.proofs.Fields.{field_value}
use Rattle.wire.proofs.Reading.{reading, passed, cut_source, cut_below}
use Rattle.model.specs.Format.{weight_at, action_at, to_at, transition_width}
use Rattle.model.specs.Message.{read_transition}
use Rattle.model.proofs.transition.Goals as goal
use Rattle.model.proofs.transition.Goals.{In_ok-from}

from_is : (c : In_ok-from) → let a = c.args in source a.s.now a.st.at a.n a.st.prev ≡ Ok c.in_ok-from.from
from_is c =
    let a = c.args in
    sym (c.in_ok-from.ensures ∙ cut_source a.s.now a.st.at (a.st.at + transition_width) c.requires.0 a.n a.st.prev a.st.at (omega arith))

weight_there : (c : In_ok-from) → let a = c.args in field 4 a.s.now (a.st.at + weight_at) ≡ Ok (number 4 a.s.now (a.st.at + weight_at))
weight_there c = field_value 4 _ _ (omega (arith, c.requires.0))

action_there : (c : In_ok-from) → let a = c.args in field 2 a.s.now (a.st.at + action_at) ≡ Ok (number 2 a.s.now (a.st.at + action_at))
action_there c = field_value 2 _ _ (omega (arith, c.requires.0))

pub returns-in_err-from : goal.returns-in_err-from
unfolding read_transition
returns-in_err-from c =
    let a = c.args in
    let at = a.st.at in
    let fault = c.in_err-from.ensures ∙ cut_source a.s.now at (at + transition_width) c.requires.0 a.n a.st.prev at (omega arith) in
    simp (passed c.from_residual.ensures, reading, sym fault)

pub returns-in_err-read_below : goal.returns-in_err-read_below
unfolding read_transition
returns-in_err-read_below c =
    let a = c.args in
    let o = (goal.at.returns-in_err-read_below c).In_ok-from in
    let fault = c.in_err-read_below.ensures ∙ cut_below a.s.now a.st.at (a.st.at + transition_width) c.requires.0 2 to_at a.n _ (omega arith) in
    simp (passed c.from_residual-in_err-read_below.ensures, reading, from_is o, weight_there o, action_there o, sym fault)

pub returns : goal.returns
unfolding read_transition
returns c =
    let a = c.args in
    let o = (goal.at.returns c).In_ok-from in
    let to = c.in_ok-read_below.ensures ∙ cut_below a.s.now a.st.at (a.st.at + transition_width) c.requires.0 2 to_at a.n _ (omega arith) in
    simp (reading, from_is o, weight_there o, action_there o, sym to)
