-- How much room the hyperedges of a graph take: how many, how many targets in all, and in the one with the most.
use Rattle.std.specs.Prelude.{ℕ, zero, suc, ◌+◌, ◌*◌, ◌≤◌, min, max, List, [], ◌∷◌, ◌++◌, Bool, ◌&&◌, length, leb}
use Rattle.lists.specs.Making.{span}
use Rattle.rules.specs.Graph.{Target}
use Rattle.model.specs.Model.{Model}
use Rattle.syntax.specs.declared.Row.{Row}
use Rattle.syntax.specs.declared.Quantifier.{Quantifier}
use Rattle.syntax.specs.declared.Quantifier.TheVariants.{Some, Every}
use Rattle.reduction.specs.Built.{row_edges, helper_edges, if_until}
use Rattle.sizing.specs.declared.Size.{Size}

-- the size of no hyperedge
abbrev pub no_size : Size
no_size = record { hypers = 0; targets = 0; most = 0 }

-- the size of two lists of hyperedges together
abbrev pub add_size : Size → Size → Size
add_size x y = record { hypers = x.hypers + y.hypers; targets = x.targets + y.targets; most = max x.most y.most }

-- of so many hyperedges without targets
abbrev pub bare_size : ℕ → Size
bare_size k = record { hypers = k; targets = 0; most = 0 }

-- n sizes together, those of the numbers from a on
unfoldable pub sizes : (ℕ → Size) → (a n : ℕ) → Size
sizes z a zero = no_size
sizes z a (suc n) = add_size (z a) (sizes z (suc a) n)

-- of the target lists of hyperedges
unfoldable pub size_of : List (List Target) → Size
size_of [] = no_size
size_of (ts ∷ tss) = add_size (record { hypers = 1; targets = length ts; most = length ts }) (size_of tss)

-- the target lists of a row's nodes and of its helpers', state by state; the helpers' place does not matter here
unfoldable pub state_edges : Model → Row → ℕ → List (List Target)
state_edges M row a = row_edges M row a ++ helper_edges M row 0 a

unfoldable pub rows_edges : Model → List Row → List (List Target)
rows_edges M [] = []
rows_edges M (row ∷ rows) = span (state_edges M row) 0 M.states ++ rows_edges M rows

-- of an EX or AX with so many transitions within the bound, and of an until's helper with so many transitions
abbrev pub next_size : Quantifier → ℕ → Size
next_size Some near = record { hypers = near; targets = near; most = min near 1 }
next_size Every near = record { hypers = 1; targets = near; most = near }

abbrev pub step_size : Quantifier → ℕ → Size
step_size Some many = record { hypers = 1 + many; targets = 1 + 2 * many; most = 1 + min many 1 }
step_size Every many = record { hypers = 1 + min many 1; targets = 1 + min many 1 + many; most = 1 + many }

-- of a row's helper, which only an until has
abbrev pub helper_size : Row → ℕ → Size
helper_size row many = if_until row (λ q l r b. step_size q many) no_size

-- so many nodes, and hyperedges of this size, pass no limit
unfoldable pub in_limits : ℕ → Size → Bool
in_limits nodes z = leb nodes 4096 && (leb z.hypers 65535 && (leb z.targets 262144 && leb z.most 65535))

infix 40 ◌⊑◌
-- no number of one is above the other's
pub record ◌⊑◌ (x y : Size) : Type 0 where
  pub hypers : x.hypers ≤ y.hypers
  pub targets : x.targets ≤ y.targets
  pub most : x.most ≤ y.most
