-- `sizing::count_held` meets its contract: the states counted, and those left, make the whole.
use mathlib.Core.Bool.{Bool}
use mathlib.Core.Path.{refl, sym, ap, ◌∙◌}
use mir.Val.{bool_byte}
use native.Mathlib.Omega.{arith}
use Rattle.transitions.specs.Looked.{leaf_edges}
use Rattle.transitions.proofs.Accepted.{states_few}
use Rattle.sizing.specs.Size.{bare_size, size_of}
use Rattle.sizing.proofs.Sums.{sizes_all, sizes_turn, sizes_done, leaf_size, bit_few}
use Rattle.sizing.proofs.count_held.Goals as goal

pub loop-a-init : goal.loop-a-init
loop-a-init c = (omega arith, sizes_all _ _ refl)

pub overflow_add-held : goal.overflow_add-held
overflow_add-held c = omega (arith, bit_few c.holds-here.result, c.loop-a.invariant.0, states_few c.args.m.holds)

pub loop-a-preserved : goal.loop-a-preserved
loop-a-preserved c =
    let l = c.loop-a in
    let here = c.holds-here.result in
    let one = ap (λ (b : Bool). size_of (leaf_edges b)) (sym c.holds-here.ensures) ∙ leaf_size here in
    (omega (arith, bit_few here, l.invariant.0), sizes_turn _ _ _ (bare_size l.held) (bare_size (bool_byte here)) l.invariant.1 c.loop-a-test.true one refl)

pub returns : goal.returns
returns c =
    let l = c.loop-a in
    (omega (arith, l.invariant.0), sizes_done _ _ _ (bare_size l.held) l.invariant.1 c.loop-a-test.false)
