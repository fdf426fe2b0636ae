-- The bytes of a graph's parts as the builder writes them.
use Rattle.std.specs.Prelude.{ℕ, suc, ◌+◌, ◌*◌, ◌≤◌, ◌<◌, List, [], ◌∷◌, ◌++◌, map, length}
use Rattle.lists.specs.Lists.{◌∈◌}
use Rattle.lists.specs.Making.{keep, span}
use Rattle.value.specs.declared.Bound.{Bound}
use Rattle.wire.specs.Write.{write_all}
use Rattle.graph.specs.Format.{hyper_width, target_width}
use Rattle.graph.specs.Write.{write_target, write_hyper, write_cover}
use Rattle.rules.specs.Graph.{Hyper, Target}
use Rattle.model.specs.Model.{Model, Transition}
use Rattle.syntax.specs.declared.Quantifier.{Quantifier}
use Rattle.syntax.specs.declared.Quantifier.TheVariants.{Some, Every}
use Rattle.syntax.specs.declared.Action.{Action}
use Rattle.syntax.specs.declared.Row.{Row}
use Rattle.syntax.specs.Rows.{operands}
use Rattle.transitions.specs.Looked.{is_near}
use Rattle.reduction.specs.Built.{to, hyper, out, looks_at, row_edges, if_any, step_edges, helper_edges, if_until, layout}

-- how wide a hyperedge with one target and one with two are
abbrev pub single_width : ℕ
single_width = hyper_width + target_width

abbrev pub pair_width : ℕ
pair_width = hyper_width + 2 * target_width

-- the hyperedges of node v with these target lists
abbrev pub hypers_bytes : ℕ → List (List Target) → List ℕ
hypers_bytes v tss = write_all write_hyper (map (hyper v) tss)

-- what a row makes of a list of transitions, with the nodes of its operand or helper that far behind the states
abbrev pub some_next : List Transition → Action → Bound → ℕ → List (List Target)
some_next us A b shift = map (λ u. to 0 (u.to + shift) ∷ []) (keep (looks_at A b) us)

abbrev pub every_next : List Transition → Action → Bound → ℕ → List Target
every_next us A b shift = map (λ u. to 0 (u.to + shift)) (keep (looks_at A b) us)

abbrev pub some_steps : List Transition → ℕ → ℕ → List (List Target)
some_steps us left shift = map (λ u. to 0 left ∷ to u.weight (u.to + shift) ∷ []) us

abbrev pub every_steps : List Transition → ℕ → List Target
every_steps us shift = map (λ u. to u.weight (u.to + shift)) us

-- EX or AX over a list of transitions
abbrev pub next_edges : Quantifier → List Transition → Action → Bound → ℕ → List (List Target)
next_edges Some us A b shift = some_next us A b shift
next_edges Every us A b shift = every_next us A b shift ∷ []

-- what EX or AX writes for a transition to this node, how long that is, and what it writes for those of a list that it looks at
unfoldable pub near_bytes : Quantifier → (v node : ℕ) → List ℕ
near_bytes Some v node = write_hyper (hyper v (to 0 node ∷ []))
near_bytes Every v node = write_target (to 0 node)

unfoldable pub near_width : Quantifier → ℕ
near_width Some = single_width
near_width Every = target_width

abbrev pub nearby_bytes : Quantifier → (v low high most shift : ℕ) → List Transition → List ℕ
nearby_bytes q v low high most shift us = write_all (λ u. near_bytes q v (u.to + shift)) (keep (is_near low high most) us)

-- the helper of state a at place h over a list of transitions: first {right at weight 0}
abbrev pub helper_list : (n a : ℕ) → Quantifier → (l r h : ℕ) → List Transition → List (List Target)
helper_list n a Some l r h us = (to 0 (a + n * r) ∷ []) ∷ some_steps us (a + n * l) (n * h)
helper_list n a Every l r h us = (to 0 (a + n * r) ∷ []) ∷ if_any us ((to 0 (a + n * l) ∷ every_steps us (n * h)) ∷ [])

-- what an until writes for a transition of this weight to this node of a helper, and what for those of a list
unfoldable pub step_bytes : Quantifier → (v left weight node : ℕ) → List ℕ
step_bytes Some v left weight node = write_hyper (hyper v (to 0 left ∷ to weight node ∷ []))
step_bytes Every v left weight node = write_target (to weight node)

abbrev pub steps_bytes : Quantifier → (v left shift : ℕ) → List Transition → List ℕ
steps_bytes q v left shift us = write_all (λ u. step_bytes q v left u.weight (u.to + shift)) us

-- the hyperedges of a row's nodes, of all rows' nodes from place r on, and of all helpers from place h on
abbrev pub row_hypers : Model → ℕ → Row → List Hyper
row_hypers M r row = span (λ a. map (hyper (a + M.states * r)) (row_edges M row a)) 0 M.states

abbrev pub rows_hypers : Model → ℕ → List Row → List Hyper
rows_hypers M r rows = layout hyper M.states (λ row r a. row_edges M row a) r rows

abbrev pub helpers_hypers : Model → ℕ → List Row → List Hyper
helpers_hypers M h us = layout hyper M.states (helper_edges M) h us

-- a row's nodes, all rows' nodes from place r on, an until row's helpers, all helpers
unfoldable pub row_bytes : Model → ℕ → Row → List ℕ
row_bytes M r row = write_all write_hyper (row_hypers M r row)

unfoldable pub rows_bytes : Model → ℕ → List Row → List ℕ
rows_bytes M r rows = write_all write_hyper (rows_hypers M r rows)

unfoldable pub helper_bytes : Model → ℕ → Quantifier → ℕ → ℕ → List ℕ
helper_bytes M h q l r =
    write_all write_hyper (span (λ a. map (hyper (a + M.states * h)) ((to 0 (a + M.states * r) ∷ []) ∷ step_edges M q l h a)) 0 M.states)

unfoldable pub helpers_bytes : Model → ℕ → List Row → List ℕ
helpers_bytes M h us = write_all write_hyper (helpers_hypers M h us)

-- the cover edges of an until row's nodes, and of all rows'
unfoldable pub cover_bytes : (n r h : ℕ) → Bound → List ℕ
cover_bytes n r h b = write_all write_cover (span (λ a. record { source = a + n * r; bound = b; target = a + n * h } ∷ []) 0 n)

unfoldable pub covers_from : (n r h : ℕ) → List Row → List ℕ
covers_from n r h [] = []
covers_from n r h (row ∷ rows) = if_until row (λ q l k b. cover_bytes n r h b ++ covers_from n (suc r) (suc h) rows) (covers_from n (suc r) h rows)

abbrev pub covers_of : ℕ → List Row → List ℕ
covers_of n rows = covers_from n 0 (length rows) rows

-- the node numbers of a row at place r and of its operands fit 2 bytes
pub record RowFits (n r : ℕ) (row : Row) : Type 0 where
  pub node : n * r + n ≤ 4096
  pub operands : {l : ℕ} → l ∈ operands row → l < r

-- no state has so many transitions that the helper of an A until would pass the limit of one hyperedge
abbrev pub Narrow : Model → Type 0
Narrow M = (a : ℕ) → a < M.states → length (out M a) < 65535

-- the node numbers of the helpers of these until rows, from place h on, fit 2 bytes, and their operands stand before them
pub record HelpersFit (M : Model) (h : ℕ) (us : List Row) : Type 0 where
  pub node : M.states * (h + length us) ≤ 4096
  pub operands : {row : Row} {l : ℕ} → row ∈ us → l ∈ operands row → l < h
  pub narrow : {row : Row} → row ∈ us → Narrow M
