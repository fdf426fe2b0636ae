-- `model::label` meets its contract: the label is read from its part as from the message.
use Rattle.std.proofs.Common.{◌≡◌, ℕ, ◌+◌, ◌-◌, ◌≤◌, ◌^◌, List, length, take, drop, ◌∙◌, add-zero, arith}
use Rattle.refusal.specs.declared.Fault.{Fault}
use Rattle.wire.specs.Read.{below}
use Rattle.wire.proofs.Reading.{cut_below, faulted, went_on}
use Rattle.model.specs.Format.{label_width}
use Rattle.model.specs.Message.{read_label}
use Rattle.model.proofs.label.Goals as goal

read_here : (s : List ℕ) (at p : ℕ) (e : Fault) {limit : ℕ} → limit ≡ 2 ^ p → at + label_width ≤ length s
    → below 4 (take (at + label_width - at) (drop at s)) 0 limit e ≡ below 4 s at (2 ^ p) e
read_here s at p e is inside = rw is (rw add-zero at (cut_below s at (at + label_width) inside 4 0 (2 ^ p) e (omega arith)))

pub returns-in_err-read_below : goal.returns-in_err-read_below
unfolding read_label
returns-in_err-read_below c = faulted _ (c.in_err-read_below.ensures ∙ read_here _ _ _ _ c.requires.1 c.requires.0) c.from_residual.ensures

pub returns : goal.returns
unfolding read_label
returns c = went_on _ (c.in_ok-read_below.ensures ∙ read_here _ _ _ _ c.requires.1 c.requires.0)
