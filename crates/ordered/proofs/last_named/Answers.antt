-- `ordered::last_named` meets its contract: each `return` is the test under what led there.
use Rattle.std.proofs.Common.{refl, ◌∙◌, arith, lt-ltb, le-ltb}
use Rattle.ordered.specs.Ordered.{last_named}
use Rattle.ordered.proofs.Told.{below_alone, told_ok}
use Rattle.ordered.proofs.last_named.Goals as goal

pub returns-then-greatest-n : goal.returns-then-greatest-n
unfolding last_named
returns-then-greatest-n c =
    rw (lt-ltb _ _ c.if-greatest-n.true) (c.is_ok.ensures.value ∙ told_ok _ _ _ (c.read_below.ensures ∙ below_alone 2 _ _ _ _ (omega arith)))

pub returns-else-greatest-n : goal.returns-else-greatest-n
unfolding last_named
returns-else-greatest-n c = rw (le-ltb _ _ c.if-greatest-n.false) refl
