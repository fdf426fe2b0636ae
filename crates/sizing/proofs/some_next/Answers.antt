-- `sizing::some_next` meets its contract: the states' transitions are the model's.
use mathlib.Core.Path.{refl, ap, sym, ◌∙◌}
use Rattle.lists.specs.Making.{keep}
use Rattle.syntax.specs.declared.Quantifier.TheVariants.{Some}
use Rattle.reduction.specs.Built.{looks_at}
use Rattle.model.specs.Model.{Transition}
use Rattle.transitions.specs.Held.{held_model}
use Rattle.sizing.specs.Size.{next_size}
use Rattle.sizing.proofs.Sizes.{same}
use Rattle.sizing.proofs.Sums.{all_nexts}
use lib.ListN.{length}
use mathlib.Core.List.{List}
use Rattle.sizing.proofs.some_next.Goals as goal

pub returns : goal.returns
unfolding held_model
returns c =
    let a = c.args in
    let all = ap (λ (us : List Transition). next_size Some (length (keep (looks_at a.action a.bound) us))) c.all.ensures in
    let near = c.count_near-near.result in
    same {x = record { hypers = near; targets = near; most = c.min.result }} {y = next_size Some near} refl refl c.min.ensures
    ∙ ap (next_size Some) c.count_near-near.ensures ∙ all ∙ sym (all_nexts a.m.holds a.action a.bound)
