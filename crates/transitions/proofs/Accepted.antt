-- What accepted messages say of the model and the rows that they hold. Assumes nothing.
use Rattle.std.proofs.Common.{◌≡◌, ℕ, ◌+◌, ◌-◌, ◌^◌, ◌<◌, ◌≤◌, eqb, List, [], ◌∷◌, length, get_or, sym, refl, ap, subst, ◌∙◌, arith}
use lib.ListN.{length-map}
use Rattle.model.specs.Model.{Model, Transition}
use Rattle.lists.specs.Lists.{◌∈◌}
use Rattle.lists.specs.Making.{keep}
use Rattle.lists.proofs.Making.{∈-keep}
use Rattle.value.specs.declared.Bound.{Bound}
use Rattle.syntax.specs.declared.Action.{Action}
use Rattle.wire.specs.Bytes.{number, Bytes}
use Rattle.wire.specs.Layout.{items, end}
use Rattle.syntax.specs.declared.Row.{Row}
use Rattle.syntax.specs.Format.{formula_header, row_width, place_of}
use Rattle.syntax.specs.Layouts.{row_at, row_layout}
use Rattle.reduction.specs.Built.{end_of, out, looks_at, near, leaving}
use Rattle.model.specs.Format.{model_header, label_width, label_at, weight_at, action_at, transition_at}
use Rattle.transitions.specs.Held.{label_layout, transition_layout, transitions_from, held_model, held_rows, HoldsModel, Own, Reads, LeadTo, RiseFrom}
use Rattle.transitions.specs.declared.views.Out.{Out}
use Rattle.transitions.specs.Views.{list_of}
use Rattle.wire.proofs.Bytes.{number_below}
use Rattle.wire.proofs.Layouts.{items_length}
use Rattle.wire.proofs.Parts.{∈-items}
use Rattle.wire.proofs.Stride.{items_at, items_left}

-- the transitions of a state, and how many edges they lead to
abbrev pub own : Model → ℕ → List Transition
own M a = keep (λ u. eqb u.from a) M.transitions

pub out_length : (M : Model) (a : ℕ) → length (out M a) ≡ length (keep (λ u. eqb u.from a) M.transitions)
unfolding out
out_length M a = length-map (own M a) _

pub near_length : (M : Model) (A : Action) (b : Bound) (a : ℕ) → length (near M A b a) ≡ length (keep (looks_at A b) (keep (λ u. eqb u.from a) M.transitions))
unfolding near
near_length M A b a = length-map (keep (looks_at A b) (own M a)) end_of

-- transitions in any bytes can be read: any 4 bytes are a weight, and any 2 an action
any_fit : (m : List ℕ) (n first many : ℕ) → Bytes m → {u : Transition} → u ∈ transitions_from m n first many → (u.weight < 2 ^ 32) × (u.action < 2 ^ 16)
any_fit m n first many bytes {u} i =
    let L = transition_layout m in
    let r = ∈-items L many (transition_at n first) i in
    let at = end L r.0 (transition_at n first) in
    subst (λ (v : Transition). (v.weight < 2 ^ 32) × (v.action < 2 ^ 16)) (sym r.2)
    (omega (arith, number_below 4 m (at + weight_at) bytes), omega (arith, number_below 2 m (at + action_at) bytes))

pub any_read : (m : List ℕ) (n first many : ℕ) → Bytes m → transition_at n (first + many) ≤ length m → Reads m n first many
any_read m n first many bytes long =
    record { long = long; weights_fit = λ i. (any_fit m n first many bytes i).0; actions_fit = λ i. (any_fit m n first many bytes i).1 }

module _ {m : List ℕ} {n p t : ℕ} (h : HoldsModel m n p t) where
  pub states_few : n ≤ 256
  unfolding held_model
  states_few = h.well_formed.states_fit

  pub rising : RiseFrom 0 (transitions_from m n 0 t)
  unfolding held_model
  rising = h.well_formed.ordered

  pub label_at_lem : (a : ℕ) → a < n → get_or (held_model m n p t).labels a 0 ≡ number 4 m (label_at a)
  unfolding held_model
  label_at_lem a below = items_at (label_layout m) label_width (λ at. refl) 0 n model_header a below

  -- all transitions can be read, so those of one state can too
  pub all_read : Reads m n 0 t
  unfolding held_model
  all_read =
      let w = h.well_formed in
      record { long = omega (arith, h.long); weights_fit = λ i. w.weights_fit i; actions_fit = λ i. w.actions_fit i }

  own_among : {a first many : ℕ} → Own m n t a first many → {u : Transition} → u ∈ transitions_from m n first many → u ∈ transitions_from m n 0 t
  own_among {a} {first} {many} o {u} i =
      let kept : u ∈ keep (λ v. eqb v.from a) (transitions_from m n 0 t) = subst (λ us. u ∈ us) (sym o.are) i in
      (∈-keep (λ v. eqb v.from a) (transitions_from m n 0 t) kept).0

  pub own_read : {a first many : ℕ} → Own m n t a first many → Reads m n first many
  unfolding held_model
  own_read o =
      let w = h.well_formed in
      record { long = omega (arith, h.long, o.inside); weights_fit = λ i. w.weights_fit (own_among o i); actions_fit = λ i. w.actions_fit (own_among o i) }

  -- and they lead to states
  pub own_named : {a first many : ℕ} → Own m n t a first many → LeadTo n (transitions_from m n first many)
  unfolding held_model
  own_named o u i = h.well_formed.to_named (own_among o i)

  pub transitions_few : length (held_model m n p t).transitions ≤ 65535
  transitions_few = h.well_formed.transitions_fit

pub rows_length : (f : List ℕ) (k : ℕ) → length (held_rows f k) ≡ k
unfolding held_rows
rows_length f k = items_length (row_layout f) k formula_header

-- a state's transitions, and those that EX or AX looks at
module _ (M : Model) (a : ℕ) (o : Out) (are : list_of o ≡ leaving M a) where
  pub out_many : length (out M a) ≡ o.many
  out_many = out_length M a ∙ ap length (sym are) ∙ items_length (transition_layout o.bytes.now) o.many (transition_at o.states o.first)

  pub near_many : (A : Action) (b : Bound) → length (near M A b a) ≡ length (keep (looks_at A b) (list_of o))
  near_many A b = near_length M A b a ∙ ap (λ us. length (keep (looks_at A b) us)) (sym are)

-- a loop over the rows that counts up: the one at its place, and those behind it
abbrev pub rows_after : List ℕ → (k i : ℕ) → List Row
rows_after f k i = items (row_layout f) (k - i) (place_of i)

pub rows_left : (f : List ℕ) (k i : ℕ) → i < k → rows_after f k i ≡ row_at f (place_of i) ∷ rows_after f k (i + 1)
rows_left f k i h = items_left (row_layout f) row_width (λ at. refl) formula_header k i h

pub rows_first : (f : List ℕ) (k : ℕ) → rows_after f k 0 ≡ held_rows f k
unfolding held_rows
rows_first f k = let all : k - 0 ≡ k = omega arith in rw all

pub rows_none : (f : List ℕ) (k i : ℕ) → k ≤ i → rows_after f k i ≡ []
unfolding items
rows_none f k i h = let none : k - i ≡ 0 = omega arith in rw none
