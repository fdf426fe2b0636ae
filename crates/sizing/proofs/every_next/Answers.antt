-- `sizing::every_next` meets its contract: what is summed, and the states left, make the whole.
use Prim.Native.Nat.{◌+◌, ◌≤◌}
use mathlib.Core.Path.{◌≡◌, refl, sym, ap, ◌∙◌}
use native.Mathlib.Omega.{arith}
use Rattle.lists.proofs.Kept.{keep_length}
use Rattle.syntax.specs.declared.Quantifier.TheVariants.{Every}
use Rattle.reduction.specs.Built.{looks_at}
use Rattle.wire.proofs.Layouts.{items_length}
use Rattle.model.specs.Format.{transition_at}
use Rattle.transitions.specs.Held.{transition_layout}
use Rattle.transitions.specs.Views.{model_of, list_of}
use Rattle.transitions.proofs.Accepted.{states_few, near_many}
use Rattle.sizing.specs.Size.{add_size, next_size}
use Rattle.sizing.proofs.Sizes.{same}
use Rattle.sizing.proofs.Sums.{sizes_all, sizes_turn, sizes_done}
use Rattle.sizing.proofs.every_next.Invariants.{sum_of}
use Rattle.sizing.proofs.every_next.Goals as goal
use Rattle.sizing.proofs.every_next.Goals.{After-count_near-near}

few : (c : After-count_near-near) → c.count_near-near.result ≤ 65535
few c =
    let a = c.args in
    let o = c.out_of.result in
    omega (
      arith,
      c.count_near-near.ensures,
      keep_length (looks_at a.action a.bound) (list_of o),
      items_length (transition_layout o.bytes.now) o.many (transition_at o.states o.first),
      c.out_of.ensures.inside,
      a.table.model.holds.transitions_fit,
    )

pub loop-a-init : goal.loop-a-init
loop-a-init c = (omega arith, sizes_all _ _ refl)

pub overflow_add-targets : goal.overflow_add-targets
overflow_add-targets c = omega (arith, few (goal.at.overflow_add-targets c).After-count_near-near, c.loop-a.invariant.0, states_few c.args.table.model.holds)

pub loop-a-preserved : goal.loop-a-preserved
loop-a-preserved c =
    let l = c.loop-a in
    let a = c.args in
    let near = c.count_near-near.result in
    let one = ap (next_size Every) (near_many (model_of a.table.model) l.a c.out_of.result c.out_of.ensures.list a.action a.bound ∙ sym c.count_near-near.ensures) in
    let more : sum_of (l.a + 1) (l.targets + near) c.max-most.result ≡ add_size (sum_of l.a l.targets l.most) (next_size Every near) = same refl refl c.max-most.ensures in
    (omega (arith, few (goal.at.loop-a-preserved c).After-count_near-near, l.invariant.0), sizes_turn _ _ _ (sum_of l.a l.targets l.most) (next_size Every near) l.invariant.1 c.loop-a-test.true one more)

pub returns : goal.returns
returns c =
    let l = c.loop-a in
    let n = c.args.table.model.states in
    let all : n ≡ l.a = omega (arith, c.loop-a-test.false) in
    same {x = sum_of n l.targets l.most} all refl refl ∙ sizes_done _ _ _ (sum_of l.a l.targets l.most) l.invariant.1 c.loop-a-test.false
