-- Where no hyperedge is too large, no state has too many transitions. Assumes nothing.
use Prim.Native.Nat.{ℕ, ◌≤◌, ◌<◌}
use mathlib.Core.List.{List}
use mathlib.Core.Bool.{true}
use mathlib.Core.Path.{◌≡◌, refl}
use native.Mathlib.Omega.{arith}
use lib.ListN.{length}
use Rattle.lists.specs.Lists.{◌∈◌}
use Rattle.lists.proofs.Making.{∈-keep}
use Rattle.lists.proofs.Tests.{clash}
use Rattle.value.specs.declared.Bound.{Bound}
use Rattle.model.specs.Model.{Model}
use Rattle.syntax.specs.declared.Quantifier.{Quantifier}
use Rattle.syntax.specs.declared.Quantifier.TheVariants.{Some, Every}
use Rattle.syntax.specs.declared.Row.{Row}
use Rattle.syntax.specs.declared.Row.TheVariants.{Until}
use Rattle.reduction.specs.Built.{out, row_edges, is_until, untils}
use Rattle.sizing.specs.Size.{◌⊑◌, add_size, size_of, rows_edges, helper_size}
use Rattle.sizing.proofs.Untils.{by_row}
use Rattle.sizing.proofs.Sizes.{part_state, state_size}
use Rattle.records.specs.Bytes.{Narrow}

-- where no hyperedge is too large and there are not too many, a state of a model with an until row has not too many transitions
pub few_narrow : (M : Model) (rows : List Row) {row : Row} → (size_of (rows_edges M rows)).hypers ≤ 65535 → (size_of (rows_edges M rows)).most ≤ 65535
    → row ∈ untils rows → Narrow M
few_narrow M rows {row} few small m a l =
    let k = ∈-keep is_until rows m in
    let part = part_state M rows k.0 a l in
    let is = state_size M row a refl refl refl in
    by_row (λ row. is_until row ≡ true → Within row → length (out M a) < 65535) until_few (λ row e t p. clash t e) row k.1 (rw is at part)
  where
    Within : Row → Type 0
    Within row = add_size (size_of (row_edges M row a)) (helper_size row (length (out M a))) ⊑ size_of (rows_edges M rows)

    until_few : (q : Quantifier) (l r : ℕ) (b : Bound) → true ≡ true → Within (Until q l r b) → length (out M a) < 65535
    until_few Some l r b e p = omega (arith, p.hypers, few)
    until_few Every l r b e p = omega (arith, p.most, small)
