-- `sizing::row_total` meets its contract: that of one state as many times, or what is counted over all.
use Prim.Native.Nat.{ℕ, ◌≤◌}
use mathlib.Core.List.{List}
use mathlib.Core.Bool.{not}
use mathlib.Core.Path.{refl, sym, ◌∙◌}
use native.Mathlib.Omega.{arith}
use Rattle.model.specs.Model.{holds}
use Rattle.syntax.specs.declared.Quantifier.TheVariants.{Some, Every}
use Rattle.syntax.specs.declared.Row.TheVariants.{Proposition, Negation, Next}
use Rattle.transitions.specs.Held.{held_model, HoldsModel}
use Rattle.transitions.specs.Views.{model_of}
use Rattle.sizing.specs.Size.{no_size, bare_size, size_of, state_edges}
use Rattle.transitions.specs.Looked.{leaf_edges}
use Rattle.sizing.proofs.Sizes.{size_alike, next_size_lem}
use Rattle.sizing.proofs.Sums.{leaf_at, next_at, row_sizes, until_sizes, not_leaves}
use Rattle.sizing.proofs.row_total.Goals as goal

-- there is a state
some : {m : List ℕ} {n p t : ℕ} → HoldsModel m n p t → 1 ≤ n
unfolding held_model
some h = h.well_formed.some_state

pub returns-in-True : goal.returns-in-True
unfolding size_of state_edges
returns-in-True c =
    rw c.in-True.is
    (c.bare.ensures ∙ size_alike _ (record { hypers = 1; targets = 0; most = 0 }) (λ a. refl) c.args.table.model.states (some c.args.table.model.holds) {r = bare_size c.args.table.model.states} (omega arith) (omega arith) refl)

pub returns-in-False : goal.returns-in-False
unfolding size_of state_edges
returns-in-False c =
    rw c.in-False.is (size_alike _ no_size (λ a. refl) c.args.table.model.states (some c.args.table.model.holds) (omega arith) (omega arith) refl)

pub returns-in-Proposition : goal.returns-in-Proposition
returns-in-Proposition c =
    let M = model_of c.args.table.model in
    let i = c.in-Proposition.i in
    rw c.in-Proposition.is
    (c.bare-in-Proposition.ensures ∙ c.count_held.ensures.1 ∙ sym (row_sizes M (Proposition i) (leaf_at M i) refl (λ a. refl) c.args.table.model.states))

pub returns-in-Negation : goal.returns-in-Negation
returns-in-Negation c =
    let M = model_of c.args.table.model in
    let i = c.in-Negation.i in
    let h = holds M i in
    rw c.in-Negation.is
    (c.bare-in-Negation.ensures ∙ not_leaves h c.args.table.model.states _ c.count_held-in-Negation.ensures.1
    ∙ sym (row_sizes M (Negation i) (λ a. size_of (leaf_edges (not (h a)))) refl (λ a. refl) c.args.table.model.states))

pub returns-in-And : goal.returns-in-And
unfolding size_of state_edges
returns-in-And c =
    rw c.in-And.is (size_alike _ (record { hypers = 1; targets = 2; most = 2 }) (λ a. refl) c.args.table.model.states (some c.args.table.model.holds) (omega arith) (omega arith) refl)

pub returns-in-Or : goal.returns-in-Or
unfolding size_of state_edges
returns-in-Or c =
    rw c.in-Or.is (size_alike _ (record { hypers = 2; targets = 2; most = 1 }) (λ a. refl) c.args.table.model.states (some c.args.table.model.holds) (omega arith) (omega arith) refl)

pub returns-in-Some : goal.returns-in-Some
returns-in-Some c =
    let M = model_of c.args.table.model in
    rw (c.in-Next.is, c.in-Some.is)
    (c.some_next.ensures
    ∙ sym (row_sizes M (Next Some c.in-Next.k c.in-Next.field-2 c.in-Next.b) (next_at M Some c.in-Next.k c.in-Next.b) refl
    (next_size_lem M Some c.in-Next.k c.in-Next.field-2 c.in-Next.b) c.args.table.model.states))

pub returns-in-Every : goal.returns-in-Every
returns-in-Every c =
    let M = model_of c.args.table.model in
    rw (c.in-Next.is, c.in-Every.is)
    (c.every_next.ensures
    ∙ sym (row_sizes M (Next Every c.in-Next.k c.in-Next.field-2 c.in-Next.b) (next_at M Every c.in-Next.k c.in-Next.b) refl
    (next_size_lem M Every c.in-Next.k c.in-Next.field-2 c.in-Next.b) c.args.table.model.states))

pub returns-in-Some-q : goal.returns-in-Some-q
returns-in-Some-q c =
    let M = model_of c.args.table.model in
    rw (c.in-Until.is, c.in-Some-q.is)
    (c.some_until.ensures ∙ sym (until_sizes M Some c.in-Until.field-1 c.in-Until.field-2 c.in-Until.field-3 c.args.table.model.states))

pub returns-in-Every-q : goal.returns-in-Every-q
returns-in-Every-q c =
    let M = model_of c.args.table.model in
    rw (c.in-Until.is, c.in-Every-q.is)
    (c.every_until.ensures ∙ sym (until_sizes M Every c.in-Until.field-1 c.in-Until.field-2 c.in-Until.field-3 c.args.table.model.states))
