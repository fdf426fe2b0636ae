-- `sizing::row_most` meets its contract: a state has no hyperedges for what is not looked at, and all other rows are counted.
use mathlib.Core.Bool.{not}
use mathlib.Core.Path.{refl}
use native.Mathlib.Omega.{arith}
use Rattle.model.specs.Model.{holds}
use Rattle.syntax.specs.declared.Quantifier.TheVariants.{Some, Every}
use Rattle.syntax.specs.declared.Row.TheVariants.{Proposition, Negation, Next}
use Rattle.transitions.specs.Held.{held_model}
use Rattle.transitions.specs.Views.{model_of}
use Rattle.transitions.specs.Looked.{leaf_edges}
use Rattle.transitions.proofs.Accepted.{states_few, transitions_few}
use Rattle.sizing.specs.Size.{size_of}
use Rattle.sizing.proofs.Sizes.{next_size_lem, states_small, part_self}
use Rattle.sizing.proofs.Sums.{leaf_at, next_at, row_sizes, leaves_within, some_within, every_within}
use Rattle.sizing.proofs.row_most.Goals as goal

pub returns-in-Proposition : goal.returns-in-Proposition
returns-in-Proposition c =
    let M = model_of c.args.table.model in
    let i = c.in-Proposition.field-0 in
    let few = states_few c.args.table.model.holds in
    let all = row_sizes M (Proposition i) (leaf_at M i) refl (λ a. refl) c.args.table.model.states in
    rw (c.in-Proposition.is, c.bare.ensures) (record { size_of = rw all (leaves_within (holds M i) c.args.table.model.states); hypers_bound = omega (arith, few) })

pub returns-in-Negation : goal.returns-in-Negation
returns-in-Negation c =
    let M = model_of c.args.table.model in
    let i = c.in-Negation.field-0 in
    let few = states_few c.args.table.model.holds in
    let h = holds M i in
    let all = row_sizes M (Negation i) (λ a. size_of (leaf_edges (not (h a)))) refl (λ a. refl) c.args.table.model.states in
    rw (c.in-Negation.is, c.bare-in-Negation.ensures) (record { size_of = rw all (leaves_within (λ a. not (h a)) c.args.table.model.states); hypers_bound = omega (arith, few) })

pub returns-in-Some : goal.returns-in-Some
returns-in-Some c =
    let M = model_of c.args.table.model in
    let all =
    row_sizes M (Next Some c.in-Next.field-1 c.in-Next.field-2 c.in-Next.field-3) (next_at M Some c.in-Next.field-1 c.in-Next.field-3) refl
    (next_size_lem M Some c.in-Next.field-1 c.in-Next.field-2 c.in-Next.field-3) c.args.table.model.states in
    record { size_of = rw (c.in-Next.is, c.in-Some.is, all) (some_within c.args.table.model.holds c.in-Next.field-1 c.in-Next.field-3); hypers_bound = omega (arith, c.args.table.model.holds.transitions_fit) }

pub returns-in-Every : goal.returns-in-Every
returns-in-Every c =
    let M = model_of c.args.table.model in
    let all =
    row_sizes M (Next Every c.in-Next.field-1 c.in-Next.field-2 c.in-Next.field-3) (next_at M Every c.in-Next.field-1 c.in-Next.field-3) refl
    (next_size_lem M Every c.in-Next.field-1 c.in-Next.field-2 c.in-Next.field-3) c.args.table.model.states in
    record { size_of = rw (c.in-Next.is, c.in-Every.is, all) (every_within c.args.table.model.holds c.in-Next.field-1 c.in-Next.field-3); hypers_bound = omega (arith, c.args.table.model.holds.transitions_fit, states_few c.args.table.model.holds) }

pub returns-in_default : goal.returns-in_default
unfolding held_model
returns-in_default c =
    let M = model_of c.args.table.model in
    let small = states_small M (transitions_few c.args.table.model.holds) (states_few c.args.table.model.holds) c.args.row in
    rw c.row_total.ensures (record { size_of = part_self _; hypers_bound = (small.hypers, small.targets) })
