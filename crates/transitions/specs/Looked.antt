-- What a row looks at among a state's transitions, and what a leaf makes of its label.
use Rattle.std.specs.Prelude.{◌≡◌, ℕ, ◌+◌, ◌-◌, ◌*◌, ◌<◌, ◌≤◌, Bool, true, cond, ◌&&◌, List, [], ◌∷◌, nat_le}
use Rattle.lists.specs.Making.{keep}
use Rattle.wire.specs.Layout.{items}
use Rattle.rules.specs.Graph.{Target}
use Rattle.model.specs.Format.{transition_width}
use Rattle.model.specs.Model.{Transition}
use Rattle.syntax.specs.declared.Action.{Action}
use Rattle.syntax.specs.declared.Action.TheVariants.{Any, Only}
use Rattle.transitions.specs.Held.{transition_layout}

-- the least and the greatest action of a transition that it looks at
abbrev pub lowest : Action → ℕ
lowest Any = 0
lowest (Only k) = k

abbrev pub highest : Action → ℕ
highest Any = 65535
highest (Only k) = k

-- it looks at a transition: its action is from one to another, and its weight is at most the number that says the bound
abbrev pub is_near : (low high most : ℕ) → Transition → Bool
is_near low high most u = nat_le low u.action && (nat_le u.action high && nat_le u.weight most)

-- so many transitions, of those from a position, end with the last that passes a test
pub record UpToLast (m : List ℕ) (test : Transition → Bool) (many at k : ℕ) : Type 0 where
  pub some : k ≤ many
  pub all : keep test (items (transition_layout m) k at) ≡ keep test (items (transition_layout m) many at)
  pub last : 0 < k → test ((transition_layout m).item (at + (k - 1) * transition_width)) ≡ true

-- one hyperedge without targets, or none
abbrev pub leaf_edges : Bool → List (List Target)
leaf_edges b = cond b ([] ∷ []) []
