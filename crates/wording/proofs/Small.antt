-- The numbers of an accepted formula are small. Assumes nothing.
use Prim.Native.Nat.{ℕ, zero, suc, ◌^◌, ◌<◌}
use mathlib.Core.List.{List}
use mathlib.Core.Option.{Option, some, none}
use mathlib.Core.Path.{◌≡◌, refl}
use native.Mathlib.Omega.{arith}
use lib.ListN.{get_elem?}
use Rattle.lists.proofs.Places.{first, place-∈}
use Rattle.value.specs.Coded.{Sayable}
use Rattle.value.specs.declared.Bound.{Bound}
use Rattle.value.specs.declared.Bound.TheVariants.{Within, Unbounded}
use Rattle.syntax.specs.declared.Action.{Action}
use Rattle.syntax.specs.declared.Action.TheVariants.{Any, Only}
use Rattle.syntax.specs.declared.Row.{Row}
use Rattle.syntax.specs.Formula.{Formula, true', false', prop, not_prop, and, or, next, until, grow, tree, root_of}
use Rattle.syntax.specs.WellFormed.{WellFormed}

-- propositions and bounds have at most ten digits, actions at most three
abbrev pub SmallBound : Bound → Type 0
SmallBound (Within k) = k < 10 ^ 10
SmallBound Unbounded = Unit

abbrev pub SmallAction : Action → Type 0
SmallAction Any = Unit
SmallAction (Only k) = k < 10 ^ 3

abbrev pub Small : Formula → Type 0
Small true' = Unit
Small false' = Unit
Small (prop i) = i < 10 ^ 10
Small (not_prop i) = i < 10 ^ 10
Small (and φ ψ) = Small φ × Small ψ
Small (or φ ψ) = Small φ × Small ψ
Small (next q A φ b) = SmallAction A × Small φ × SmallBound b
Small (until q φ ψ b) = Small φ × Small ψ × SmallBound b

sayable_small : (b : Bound) → Sayable b → SmallBound b
sayable_small (Within k) h = omega arith
sayable_small Unbounded h = tt

small_tree : {p : ℕ} (rows : List Row) → WellFormed p rows → (n i : ℕ) → Small (tree n rows i)
unfolding tree
small_tree rows w zero i = tt
small_tree {p} rows w (suc n) i = go (get_elem? rows i) refl (small_tree rows w n)
  where
    go : (o : Option Row) → get_elem? rows i ≡ o → ((l : ℕ) → Small (tree n rows l)) → Small (grow o (λ l. tree n rows l))
    go none e small = tt
    go (some Row.True) e small = tt
    go (some Row.False) e small = tt
    go (some (Row.Proposition q)) e small = omega (arith, w.propositions_named i e first, w.propositions_fit)
    go (some (Row.Negation q)) e small = omega (arith, w.propositions_named i e first, w.propositions_fit)
    go (some (Row.And l r)) e small = (small l, small r)
    go (some (Row.Or l r)) e small = (small l, small r)
    go (some (Row.Next q Any l b)) e small = (tt, small l, sayable_small b (w.sayable (place-∈ rows i e)))
    go (some (Row.Next q (Only k) l b)) e small =
        let at = place-∈ rows i e in (omega (arith, w.actions_fit at first), small l, sayable_small b (w.sayable at))
    go (some (Row.Until q l r b)) e small = (small l, small r, sayable_small b (w.sayable (place-∈ rows i e)))

pub accepted_small : {p : ℕ} {rows : List Row} → WellFormed p rows → Small (root_of rows)
accepted_small {rows = rows} w = small_tree rows w _ _
