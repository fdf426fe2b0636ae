-- What is known of accepted messages has one proof at most, so a value may hold it as a ghost field. Assumes nothing.
use Rattle.std.specs.Prelude.{◌≡◌, ℕ, List, [], ◌∷◌, refl}
use Rattle.std.specs.Coded.{code_by, coded×, coded_ℕ, coded_list, Coded, Coded-set, ×_prop, Unit-prop, le_prop}
use Rattle.std.proofs.Props.{props}
use Rattle.lists.specs.Order.{RisingFrom}
use Rattle.value.specs.declared.Bound.{Bound}
use Rattle.value.specs.declared.Bound.TheVariants.{Within, Unbounded}
use Rattle.value.specs.Coded.{Sayable}
use Rattle.model.specs.Model.{Model, Transition}
use Rattle.model.specs.WellFormed as model
use Rattle.syntax.specs.declared.Row.{Row}
use Rattle.syntax.specs.declared.Row.TheVariants.{True, False, Proposition, Negation, And, Or, Next, Until}
use Rattle.syntax.specs.WellFormed as formula
use Rattle.transitions.specs.Held.{HoldsModel, HoldsRows, Starts, Reads}

rising_single : (k : ℕ) (l : List ℕ) → IsProp (RisingFrom k l)
unfolding RisingFrom
rising_single k [] = Unit-prop
rising_single k (a ∷ l) = ×_prop le_prop (rising_single a l)

-- lists of transitions are a set
transition_code : Coded Transition
transition_code =
    code_by (ℕ × (ℕ × (ℕ × ℕ))) (coded× coded_ℕ (coded× coded_ℕ (coded× coded_ℕ coded_ℕ)))
    (λ u. (u.from, (u.weight, (u.action, u.to)))) (λ v. record { from = v.0; weight = v.1.0; action = v.1.1.0; to = v.1.1.1 }) (λ u. refl)

transitions_set : (us vs : List Transition) → IsProp (us ≡ vs)
transitions_set us vs = Coded-set (coded_list transition_code) us vs

sayable_single : (b : Bound) → IsProp (Sayable b)
sayable_single (Within k) = Prim.hlevel props
sayable_single Unbounded = Unit-prop

row_single : (row : Row) → IsProp (formula.SayableRow row)
row_single True = Unit-prop
row_single False = Unit-prop
row_single (Proposition i) = Unit-prop
row_single (Negation i) = Unit-prop
row_single (And l r) = Unit-prop
row_single (Or l r) = Unit-prop
row_single (Next q k l b) = sayable_single b
row_single (Until q l r b) = sayable_single b

formed_single : (M : Model) → IsProp (model.WellFormed M)
formed_single M = Prim.hlevel (props, rising_single)

rows_formed_single : (p : ℕ) (rows : List Row) → IsProp (formula.WellFormed p rows)
rows_formed_single p rows = Prim.hlevel (props, row_single)

pub model_single : (m : List ℕ) (n p t : ℕ) → IsProp (HoldsModel m n p t)
model_single m n p t = Prim.hlevel (props, formed_single)

pub rows_single : (f : List ℕ) (k p : ℕ) → IsProp (HoldsRows f k p)
rows_single f k p = Prim.hlevel (props, rows_formed_single)

pub starts_single : (m : List ℕ) (n t : ℕ) (table : List ℕ) → IsProp (Starts m n t table)
starts_single m n t table = Prim.hlevel (props, transitions_set)

pub reads_single : (m : List ℕ) (n first many : ℕ) → IsProp (Reads m n first many)
reads_single m n first many = Prim.hlevel props
