-- `sizing::every_until` meets its contract: what is summed, and the states left, make the whole.
use Prim.Native.Nat.{◌+◌, ◌≤◌}
use mathlib.Core.Path.{◌≡◌, refl, ap}
use native.Mathlib.Omega.{arith}
use Rattle.syntax.specs.declared.Quantifier.TheVariants.{Every}
use Rattle.transitions.specs.Views.{model_of}
use Rattle.transitions.proofs.Accepted.{states_few, out_many}
use Rattle.sizing.specs.Size.{add_size, step_size}
use Rattle.sizing.proofs.Sizes.{same}
use Rattle.sizing.proofs.Sums.{sizes_all, sizes_turn, sizes_done}
use Rattle.sizing.proofs.every_until.Invariants.{sum_of}
use Rattle.sizing.proofs.every_until.Goals as goal

pub loop-a-init : goal.loop-a-init
loop-a-init c = (omega arith, omega arith, sizes_all _ _ refl)

pub overflow_add-hypers : goal.overflow_add-hypers
overflow_add-hypers c = omega (arith, c.loop-a.invariant.0, states_few c.args.table.model.holds)

pub overflow_add-targets-in-loop-a : goal.overflow_add-targets-in-loop-a
overflow_add-targets-in-loop-a c =
    omega (arith, c.out_of.ensures.inside, c.args.table.model.holds.transitions_fit, c.loop-a.invariant.1, states_few c.args.table.model.holds)

pub loop-a-preserved : goal.loop-a-preserved
loop-a-preserved c =
    let l = c.loop-a in
    let table = c.args.table in
    let many = c.out_of.result.many in
    let few : many ≤ 65535 = omega (arith, c.out_of.ensures.inside, table.model.holds.transitions_fit) in
    let one = ap (step_size Every) (out_many (model_of table.model) l.a c.out_of.result c.out_of.ensures.list) in
    let any = c.min-own.result in
    let is = c.min-own.ensures in
    let more : sum_of (l.hypers + (1 + any)) (l.targets + (1 + any + many)) c.max-most.result ≡ add_size (sum_of l.hypers l.targets l.most) (step_size Every many) =
    same (omega (arith, is)) (omega (arith, is)) c.max-most.ensures in (
      omega (arith, is, l.invariant.0),
      omega (arith, is, few, l.invariant.1),
      sizes_turn _ _ _ (sum_of l.hypers l.targets l.most) (step_size Every many) l.invariant.2 c.loop-a-test.true one more,
    )

pub returns : goal.returns
returns c = let l = c.loop-a in sizes_done _ _ _ (sum_of l.hypers l.targets l.most) l.invariant.2 c.loop-a-test.false
