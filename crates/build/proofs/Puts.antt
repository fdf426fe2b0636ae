-- What a call that writes the hyperedges of one node must do for them to be written state by state, kind of row by kind of row. Assumes nothing.
use Rattle.std.proofs.Common.{ℕ, ◌+◌, ◌*◌, ◌<◌, ◌≤◌, not, List, [], ◌∷◌, ◌++◌, length, sym, ap, subst, arith, length-append}
use Rattle.std.specs.Borrow.{MutBor}
use Rattle.lists.specs.Making.{span}
use Rattle.lists.proofs.Places.{first, second}
use Rattle.value.specs.declared.Bound.{Bound}
use Rattle.wire.specs.Bytes.{bytes}
use Rattle.wire.specs.Laid.{Laid}
use Rattle.rules.specs.Graph.{Target}
use Rattle.graph.specs.Format.{hyper_width}
use Rattle.graph.specs.Write.{write_hyper}
use Rattle.model.specs.Model.{Model, holds}
use Rattle.syntax.specs.declared.Action.{Action}
use Rattle.syntax.specs.declared.Quantifier.{Quantifier}
use Rattle.syntax.specs.declared.Row.{Row}
use Rattle.syntax.specs.declared.Row.TheVariants.{True, Proposition, Negation, And, Or, Next}
use Rattle.reduction.specs.Built.{to, hyper, leaving, row_edges}
use Rattle.transitions.specs.Looked.{leaf_edges}
use Rattle.records.specs.Bytes.{single_width, pair_width, hypers_bytes, next_edges, row_bytes, RowFits}
use Rattle.records.proofs.Edges.{single_length, pair_length, single_laid, hypers_more, first_fits, bare_fits, bare_laid}
use Rattle.build.specs.Puts.{PutsEach}
use Rattle.build.proofs.Nodes.{row_spans, operand_fits, next_are}

-- what is written for a state's node
abbrev pub node : Model → ℕ → Row → ℕ → List ℕ
node M r row a = hypers_bytes (a + M.states * r) (row_edges M row a)

-- those of all states are the row's, so they fit where these do
pub row_room : (M : Model) (r : ℕ) (row : Row) (at : ℕ) (b : List ℕ) → at + length (row_bytes M r row) ≤ length b → at + length (span (node M r row) 0 M.states) ≤ length b
row_room M r row at b long = subst (λ (w : List ℕ). at + length w ≤ length b) (row_spans M r row) long

pub row_whole : (M : Model) (r : ℕ) (row : Row) {b : List ℕ} {at : ℕ} {b' : List ℕ} {end : ℕ} → Laid b at (span (node M r row) 0 M.states) b' end → Laid b at (row_bytes M r row) b' end
row_whole M r row {b} {at} {b'} {end} l = subst (λ (w : List ℕ). Laid b at w b' end) (sym (row_spans M r row)) l

-- two hyperedges with one target each are as long as two
both_fit : (v : ℕ) (t t' : Target) (at : ℕ) {size : ℕ} → at + length (hypers_bytes v ((t ∷ []) ∷ (t' ∷ []) ∷ [])) ≤ size → at + 2 * single_width ≤ size
both_fit v t t' at long =
    let second : 0 + single_width ≤ length (hypers_bytes v ((t' ∷ []) ∷ [])) = first_fits v (t' ∷ []) [] 0 single_width (single_length v t') (omega arith) in
    omega (arith, ap length (hypers_more v (t ∷ []) ((t' ∷ []) ∷ [])), length-append (write_hyper (hyper v (t ∷ []))) (hypers_bytes v ((t' ∷ []) ∷ [])), single_length v t, second)

module _ (M : Model) (r : ℕ) {pre : MutBor (List ℕ) → ℕ → ℕ → Type 0} {post : MutBor (List ℕ) → ℕ → ℕ → ℕ → MutBor (List ℕ) → Type 0} where
  -- true: a head
  pub true_puts : RowFits M.states r True
      → ((room : MutBor (List ℕ)) (at a : ℕ) → a + M.states * r < 4096 → at + hyper_width ≤ length room.now → pre room at a)
      → ((room room' : MutBor (List ℕ)) (at a end : ℕ) → post room at a end room' → Laid room.now at (bytes 2 (a + M.states * r) ++ bytes 2 0) room'.now end)
      → PutsEach pre post (node M r True) M.states
  true_puts f may lays = record {
    may = λ room at a below long. may room at a (omega (arith, f.node)) (bare_fits (a + M.states * r) at long);
    lays = λ room room' at a end below long e. bare_laid (a + M.states * r) (lays room room' at a end e);
  }

  -- a proposition or its negation: a head, or nothing
  pub leaf_puts : (i : ℕ) → RowFits M.states r (Proposition i)
      → ((room : MutBor (List ℕ)) (at a : ℕ) → a < M.states → a + M.states * r < 4096 → at + length (hypers_bytes (a + M.states * r) (leaf_edges (holds M i a))) ≤ length room.now → pre room at a)
      → ((room room' : MutBor (List ℕ)) (at a end : ℕ) → post room at a end room' → Laid room.now at (hypers_bytes (a + M.states * r) (leaf_edges (holds M i a))) room'.now end)
      → PutsEach pre post (node M r (Proposition i)) M.states
  leaf_puts i f may lays = record {
    may = λ room at a below long. may room at a below (omega (arith, f.node)) long;
    lays = λ room room' at a end below long e. lays room room' at a end e;
  }

  pub not_puts : (i : ℕ) → RowFits M.states r (Negation i)
      → ((room : MutBor (List ℕ)) (at a : ℕ) → a < M.states → a + M.states * r < 4096 → at + length (hypers_bytes (a + M.states * r) (leaf_edges (not (holds M i a)))) ≤ length room.now → pre room at a)
      → ((room room' : MutBor (List ℕ)) (at a end : ℕ) → post room at a end room' → Laid room.now at (hypers_bytes (a + M.states * r) (leaf_edges (not (holds M i a)))) room'.now end)
      → PutsEach pre post (node M r (Negation i)) M.states
  not_puts i f may lays = record {
    may = λ room at a below long. may room at a below (omega (arith, f.node)) long;
    lays = λ room room' at a end below long e. lays room room' at a end e;
  }

  -- an and: a hyperedge with two targets
  pub and_puts : (l k : ℕ) → RowFits M.states r (And l k)
      → ((room : MutBor (List ℕ)) (at a : ℕ) → a + M.states * r < 4096 → a + M.states * l < 4096 → a + M.states * k < 4096 → at + pair_width ≤ length room.now → pre room at a)
      → ((room room' : MutBor (List ℕ)) (at a end : ℕ) → post room at a end room'
      → Laid room.now at (write_hyper (hyper (a + M.states * r) (to 0 (a + M.states * l) ∷ to 0 (a + M.states * k) ∷ []))) room'.now end)
      → PutsEach pre post (node M r (And l k)) M.states
  and_puts l k f may lays = record {
    may = λ room at a below long. may room at a (omega (arith, f.node)) (omega (arith, operand_fits f l first)) (omega (arith, operand_fits f k second)) (first_fits _ _ [] at pair_width (pair_length _ _ _) long);
    lays = λ room room' at a end below long e. single_laid write_hyper _ (lays room room' at a end e);
  }

  -- an or: two with one
  pub or_puts : (l k : ℕ) → RowFits M.states r (Or l k)
      → ((room : MutBor (List ℕ)) (at a : ℕ) → a + M.states * r < 4096 → a + M.states * l < 4096 → a + M.states * k < 4096 → at + 2 * single_width ≤ length room.now → pre room at a)
      → ((room room' : MutBor (List ℕ)) (at a end : ℕ) → post room at a end room'
      → Laid room.now at (hypers_bytes (a + M.states * r) ((to 0 (a + M.states * l) ∷ []) ∷ (to 0 (a + M.states * k) ∷ []) ∷ [])) room'.now end)
      → PutsEach pre post (node M r (Or l k)) M.states
  or_puts l k f may lays = record {
    may = λ room at a below long.
        may room at a (omega (arith, f.node)) (omega (arith, operand_fits f l first)) (omega (arith, operand_fits f k second)) (both_fit (a + M.states * r) (to 0 (a + M.states * l)) (to 0 (a + M.states * k)) at long);
    lays = λ room room' at a end below long e. lays room room' at a end e;
  }

  -- EX and AX: what the state's transitions make
  pub next_puts : (q : Quantifier) (A : Action) (l : ℕ) (b : Bound) → RowFits M.states r (Next q A l b)
      → ((room : MutBor (List ℕ)) (at a : ℕ) → a < M.states → a + M.states * r < 4096 → M.states * l + M.states ≤ 4096
      → at + length (hypers_bytes (a + M.states * r) (next_edges q (leaving M a) A b (M.states * l))) ≤ length room.now → pre room at a)
      → ((room room' : MutBor (List ℕ)) (at a end : ℕ) → post room at a end room'
      → Laid room.now at (hypers_bytes (a + M.states * r) (next_edges q (leaving M a) A b (M.states * l))) room'.now end)
      → PutsEach pre post (node M r (Next q A l b)) M.states
  next_puts q A l b f may lays = record {
    may = λ room at a below long.
        may room at a below (omega (arith, f.node)) (operand_fits f l first)
        (subst (λ (w : List ℕ). at + length w ≤ length room.now) (ap (hypers_bytes (a + M.states * r)) (next_are M a q A l b)) long);
    lays = λ room room' at a end below long e.
        subst (λ (w : List ℕ). Laid room.now at w room'.now end) (sym (ap (hypers_bytes (a + M.states * r)) (next_are M a q A l b))) (lays room room' at a end e);
  }
