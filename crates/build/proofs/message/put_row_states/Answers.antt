-- `message::put_row_states` meets its contract: each kind of row has its own, and false and until have no hyperedge.
use Rattle.std.proofs.Common.{ap, rules}
use Rattle.syntax.specs.declared.Row.{Row}
use Rattle.syntax.specs.declared.Row.TheVariants.{True, Proposition, Negation, And, Or, Next}
use Rattle.reduction.specs.Built.{row_edges}
use Rattle.transitions.specs.Held.{held_model}
use Rattle.transitions.specs.Views.{model_of}
use Rattle.build.proofs.Nodes.{row_none}
use Rattle.build.proofs.Puts.{node, row_room, row_whole, true_puts, leaf_puts, not_puts, and_puts, or_puts, next_puts}
use Rattle.build.proofs.message.put_row_states.Goals as goal

-- false and until have none
pub returns-in-False : goal.returns-in-False
returns-in-False c =
    let M = model_of c.args.table.model in
    row_none M c.args.r c.args.row (λ a. ap (λ (row : Row). row_edges M row a) c.in-False.is) c.requires.inside

pub returns-in-Until : goal.returns-in-Until
returns-in-Until c =
    let M = model_of c.args.table.model in
    row_none M c.args.r c.args.row (λ a. ap (λ (row : Row). row_edges M row a) c.in-Until.is) c.requires.inside

pub put_each-requires : goal.put_each-requires
unfolding held_model
put_each-requires c =
    let M = model_of c.args.table.model in
    let r = c.args.r in
    let is = c.in-True.is in
    (node M r True, true_puts M r (rw is at c.requires.row_fits) (λ room at a v long. search rules) (λ room room' at a end e. search rules), row_room M r True _ _ (rw is at c.requires.inside))

pub returns-in-True : goal.returns-in-True
unfolding held_model
returns-in-True c =
    let M = model_of c.args.table.model in
    let r = c.args.r in
    let is = c.in-True.is in
    rw is (row_whole M r True
    (c.put_each.ensures (node M r True)
    (true_puts M r (rw is at c.requires.row_fits) (λ room at a v long. search rules) (λ room room' at a end e. search rules))
    (row_room M r True _ _ (rw is at c.requires.inside))))

pub put_each-requires-in-Proposition : goal.put_each-requires-in-Proposition
unfolding held_model
put_each-requires-in-Proposition c =
    let M = model_of c.args.table.model in
    let r = c.args.r in
    let is = c.in-Proposition.is in
    (node M r (Proposition c.in-Proposition.i), leaf_puts M r c.in-Proposition.i (rw is at c.requires.row_fits) (λ room at a below v long. search rules) (λ room room' at a end e. search rules), row_room M r (Proposition c.in-Proposition.i) _ _ (rw is at c.requires.inside))

pub returns-in-Proposition : goal.returns-in-Proposition
unfolding held_model
returns-in-Proposition c =
    let M = model_of c.args.table.model in
    let r = c.args.r in
    let is = c.in-Proposition.is in
    rw is (row_whole M r (Proposition c.in-Proposition.i)
    (c.put_each-in-Proposition.ensures (node M r (Proposition c.in-Proposition.i))
    (leaf_puts M r c.in-Proposition.i (rw is at c.requires.row_fits) (λ room at a below v long. search rules) (λ room room' at a end e. search rules))
    (row_room M r (Proposition c.in-Proposition.i) _ _ (rw is at c.requires.inside))))

pub put_each-requires-in-Negation : goal.put_each-requires-in-Negation
unfolding held_model
put_each-requires-in-Negation c =
    let M = model_of c.args.table.model in
    let r = c.args.r in
    let is = c.in-Negation.is in
    (node M r (Negation c.in-Negation.i), not_puts M r c.in-Negation.i (rw is at c.requires.row_fits) (λ room at a below v long. search rules) (λ room room' at a end e. search rules), row_room M r (Negation c.in-Negation.i) _ _ (rw is at c.requires.inside))

pub returns-in-Negation : goal.returns-in-Negation
unfolding held_model
returns-in-Negation c =
    let M = model_of c.args.table.model in
    let r = c.args.r in
    let is = c.in-Negation.is in
    rw is (row_whole M r (Negation c.in-Negation.i)
    (c.put_each-in-Negation.ensures (node M r (Negation c.in-Negation.i))
    (not_puts M r c.in-Negation.i (rw is at c.requires.row_fits) (λ room at a below v long. search rules) (λ room room' at a end e. search rules))
    (row_room M r (Negation c.in-Negation.i) _ _ (rw is at c.requires.inside))))

pub put_each-requires-in-And : goal.put_each-requires-in-And
unfolding held_model
put_each-requires-in-And c =
    let M = model_of c.args.table.model in
    let r = c.args.r in
    let is = c.in-And.is in
    (node M r (And c.in-And.l c.in-And.k), and_puts M r c.in-And.l c.in-And.k (rw is at c.requires.row_fits) (λ room at a v left right long. search rules) (λ room room' at a end e. search rules), row_room M r (And c.in-And.l c.in-And.k) _ _ (rw is at c.requires.inside))

pub returns-in-And : goal.returns-in-And
unfolding held_model
returns-in-And c =
    let M = model_of c.args.table.model in
    let r = c.args.r in
    let is = c.in-And.is in
    rw is (row_whole M r (And c.in-And.l c.in-And.k)
    (c.put_each-in-And.ensures (node M r (And c.in-And.l c.in-And.k))
    (and_puts M r c.in-And.l c.in-And.k (rw is at c.requires.row_fits) (λ room at a v left right long. search rules) (λ room room' at a end e. search rules))
    (row_room M r (And c.in-And.l c.in-And.k) _ _ (rw is at c.requires.inside))))

pub put_each-requires-in-Or : goal.put_each-requires-in-Or
unfolding held_model
put_each-requires-in-Or c =
    let M = model_of c.args.table.model in
    let r = c.args.r in
    let is = c.in-Or.is in
    (node M r (Or c.in-Or.l c.in-Or.k), or_puts M r c.in-Or.l c.in-Or.k (rw is at c.requires.row_fits) (λ room at a v left right long. search rules) (λ room room' at a end e. search rules), row_room M r (Or c.in-Or.l c.in-Or.k) _ _ (rw is at c.requires.inside))

pub returns-in-Or : goal.returns-in-Or
unfolding held_model
returns-in-Or c =
    let M = model_of c.args.table.model in
    let r = c.args.r in
    let is = c.in-Or.is in
    rw is (row_whole M r (Or c.in-Or.l c.in-Or.k)
    (c.put_each-in-Or.ensures (node M r (Or c.in-Or.l c.in-Or.k))
    (or_puts M r c.in-Or.l c.in-Or.k (rw is at c.requires.row_fits) (λ room at a v left right long. search rules) (λ room room' at a end e. search rules))
    (row_room M r (Or c.in-Or.l c.in-Or.k) _ _ (rw is at c.requires.inside))))

pub put_each-requires-in-Next : goal.put_each-requires-in-Next
unfolding held_model
put_each-requires-in-Next c =
    let M = model_of c.args.table.model in
    let r = c.args.r in
    let is = c.in-Next.is in
    (node M r (Next c.in-Next.q c.in-Next.action c.in-Next.l c.in-Next.bound), next_puts M r c.in-Next.q c.in-Next.action c.in-Next.l c.in-Next.bound (rw is at c.requires.row_fits) (λ room at a below v operand long. search rules) (λ room room' at a end e. search rules), row_room M r (Next c.in-Next.q c.in-Next.action c.in-Next.l c.in-Next.bound) _ _ (rw is at c.requires.inside))

pub returns-in-Next : goal.returns-in-Next
unfolding held_model
returns-in-Next c =
    let M = model_of c.args.table.model in
    let r = c.args.r in
    let is = c.in-Next.is in
    rw is (row_whole M r (Next c.in-Next.q c.in-Next.action c.in-Next.l c.in-Next.bound)
    (c.put_each-in-Next.ensures (node M r (Next c.in-Next.q c.in-Next.action c.in-Next.l c.in-Next.bound))
    (next_puts M r c.in-Next.q c.in-Next.action c.in-Next.l c.in-Next.bound (rw is at c.requires.row_fits) (λ room at a below v operand long. search rules) (λ room room' at a end e. search rules))
    (row_room M r (Next c.in-Next.q c.in-Next.action c.in-Next.l c.in-Next.bound) _ _ (rw is at c.requires.inside))))
