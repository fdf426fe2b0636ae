-- The graph that is built of a model and the rows of a formula. State a and row r have node a + s·r; the j-th until row has also
-- the helper node a + s·(f + j).
use Rattle.std.specs.Prelude.{ℕ, suc, ◌+◌, ◌*◌, List, [], ◌∷◌, ◌++◌, map, Bool, true, false, not, cond, ◌&&◌, eqb, length, take}
use Rattle.lists.specs.Making.{keep, span}
use Rattle.value.specs.declared.Bound.{Bound}
use Rattle.value.specs.Value.{inside}
use Rattle.rules.specs.Graph.{Graph, Hyper, Cover, Target}
use Rattle.model.specs.Model.{Model, Transition, holds}
use Rattle.syntax.specs.declared.Quantifier.{Quantifier}
use Rattle.syntax.specs.declared.Quantifier.TheVariants.{Some, Every}
use Rattle.syntax.specs.declared.Action.{Action}
use Rattle.syntax.specs.Rows.{allows}
use Rattle.syntax.specs.declared.Row.{Row}
use Rattle.syntax.specs.declared.Row.TheVariants.{True, False, Proposition, Negation, And, Or, Next, Until}
pub use Rattle.reduction.specs.Fits.{Fits}

-- a hyperedge's target
abbrev pub to : ℕ → ℕ → Target
to w v = record { weight = w; node = v }

-- a transition's weight and the state it leads to
abbrev pub end_of : Transition → Target
end_of t = to t.weight t.to

-- the transitions of state a, in model order
abbrev pub leaving : Model → ℕ → List Transition
leaving M a = keep (λ (t : Transition). eqb t.from a) M.transitions

-- where they lead
unfoldable pub out : Model → ℕ → List Target
out M a = map end_of (leaving M a)

-- EX or AX looks at a transition: its action is allowed, and its weight is within the bound
abbrev pub looks_at : Action → Bound → Transition → Bool
looks_at A b t = allows A t.action && inside b t.weight

-- where those lead that it looks at
unfoldable pub near : Model → Action → Bound → ℕ → List Target
near M A b a = map end_of (keep (looks_at A b) (leaving M a))

-- the target lists of the hyperedges of a row's node. true, and a proposition or its negation that holds: one without targets;
-- false, or one that doesn't hold: none. and: one, left then right, weights 0. or: two, left first. EX: for each transition that it
-- looks at one with the successor at weight 0. AX: one with all of these. until: none
abbrev pub row_edges : Model → Row → ℕ → List (List Target)
row_edges M True a = [] ∷ []
row_edges M False a = []
row_edges M (Proposition i) a = cond (holds M i a) ([] ∷ []) []
row_edges M (Negation i) a = cond (not (holds M i a)) ([] ∷ []) []
row_edges M (And l r) a = (to 0 (a + M.states * l) ∷ to 0 (a + M.states * r) ∷ []) ∷ []
row_edges M (Or l r) a = (to 0 (a + M.states * l) ∷ []) ∷ (to 0 (a + M.states * r) ∷ []) ∷ []
row_edges M (Next Some A l b) a = map (λ (t : Target). to 0 (t.node + M.states * l) ∷ []) (near M A b a)
row_edges M (Next Every A l b) a = map (λ (t : Target). to 0 (t.node + M.states * l)) (near M A b a) ∷ []
row_edges M (Until q l r b) a = []

-- what stands only where a list has an element
abbrev pub if_any : {A B : Type 0} → List A → List B → List B
if_any [] x = []
if_any (a ∷ l) x = x

-- of an until's helper node, those behind the first; l is the left row, and the helper stands at place h among rows and helpers.
-- E: per transition {left at 0, the successor's helper at its weight}. A: a single one {left at 0, then all successors' helpers}, where there is a transition
abbrev pub step_edges : Model → Quantifier → ℕ → ℕ → ℕ → List (List Target)
step_edges M Some l h a = map (λ (t : Target). to 0 (a + M.states * l) ∷ to t.weight (t.node + M.states * h) ∷ []) (out M a)
step_edges M Every l h a = if_any (out M a) ((to 0 (a + M.states * l) ∷ map (λ (t : Target). to t.weight (t.node + M.states * h)) (out M a)) ∷ [])

-- what f makes of an until row's parts; of any other row, x
abbrev pub if_until : {X : Type 0} → Row → (Quantifier → ℕ → ℕ → Bound → X) → X → X
if_until True f x = x
if_until False f x = x
if_until (Proposition i) f x = x
if_until (Negation i) f x = x
if_until (And l r) f x = x
if_until (Or l r) f x = x
if_until (Next q A l b) f x = x
if_until (Until q l r b) f x = f q l r b

-- the target lists of an until's helper node: first {right at weight 0}
abbrev pub helper_edges : Model → Row → ℕ → ℕ → List (List Target)
helper_edges M row h a = if_until row (λ q l r b. (to 0 (a + M.states * r) ∷ []) ∷ step_edges M q l h a) []

-- the row is an until
abbrev pub is_until : Row → Bool
is_until row = if_until row (λ q l r b. true) false

-- the until rows, in order
abbrev pub untils : List Row → List Row
untils rows = keep is_until rows

-- the place of the helper of row r: behind all rows, and behind the helpers of the until rows before r
abbrev pub helper_at : List Row → ℕ → ℕ
helper_at rows r = length rows + length (untils (take r rows))

-- what a cover edge has beside its source
pub record CoverEnd : Type 0 where
  pub bound : Bound
  pub target : ℕ

-- an until row's node has one cover edge, with its bound, to its helper
abbrev pub row_covers : Model → List Row → Row → ℕ → ℕ → List CoverEnd
row_covers M rows row r a = if_until row (λ q l k b. record { bound = b; target = a + M.states * helper_at rows r } ∷ []) []

-- for each row, from place r on, and each of the s states, what the node a + s·r has, by rising node
unfoldable pub layout : {B E : Type 0} → (ℕ → B → E) → ℕ → (Row → ℕ → ℕ → List B) → ℕ → List Row → List E
layout mk s f r [] = []
layout mk s f r (row ∷ rows) = span (λ a. map (mk (a + s * r)) (f row r a)) 0 s ++ layout mk s f (suc r) rows

-- an edge of v
abbrev pub hyper : ℕ → List Target → Hyper
hyper v ts = record { source = v; targets = ts }

abbrev pub cover : ℕ → CoverEnd → Cover
cover v c = record { source = v; bound = c.bound; target = c.target }

-- the graph: the rows' hyperedges, the helpers', and the cover edges
unfoldable pub graph_of : Model → List Row → Graph
graph_of M rows = record {
  nodes = M.states * (length rows + length (untils rows));
  hypers = layout hyper M.states (λ row r a. row_edges M row a) 0 rows ++ layout hyper M.states (helper_edges M) (length rows) (untils rows);
  covers = layout cover M.states (row_covers M rows) 0 rows;
}
