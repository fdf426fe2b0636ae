-- `operands::read_kind` meets its contract: the operands of each kind of operator.
use mathlib.Core.Path.{sym, ◌∙◌}
use native.Mathlib.Omega.{arith}
use Rattle.operands.proofs.Keeping.{constant_kept, proposition_kept, pair_kept, next_kept, until_kept, acting_kept}
use Rattle.operands.proofs.read_kind.Goals as goal

pub returns-in-0 : goal.returns-in-0
returns-in-0 c = c.constant.ensures ∙ sym (constant_kept c.requires.1 _ _ _ _ (omega arith))

pub returns-in-1 : goal.returns-in-1
returns-in-1 c = c.proposition.ensures ∙ rw c.idle.ensures (sym (proposition_kept c.requires.1 _ _ _ _ (omega arith) (omega arith)))

pub returns-in-2 : goal.returns-in-2
returns-in-2 c = c.both_operands.ensures ∙ rw c.idle-in-2.ensures (sym (pair_kept c.requires.1 _ _ _ _ (omega arith) (omega arith)))

pub returns-in-3 : goal.returns-in-3
returns-in-3 c = c.one_operand.ensures ∙ rw c.idle-in-3.ensures (sym (next_kept c.requires.1 _ _ _ _ (omega arith) (omega arith) c.requires.2))

pub returns-in-4 : goal.returns-in-4
returns-in-4 c = c.both_operands-in-4.ensures ∙ rw c.idle-in-4.ensures (sym (until_kept c.requires.1 _ _ _ _ (omega arith) (omega arith)))

pub returns-in_default : goal.returns-in_default
returns-in_default c = c.one_operand-in_default.ensures ∙ rw c.idle-in_default.ensures (sym (acting_kept c.requires.1 _ _ _ _ (omega arith) (omega arith) c.requires.2))
