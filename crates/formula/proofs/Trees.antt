-- The rows of a message are a tree: the formula of a row is its operator over the formulas of its operands,
-- the root has as many operators and propositions as there are rows, and it reaches every row. Assumes nothing.
use Prim.Native.Nat.{ℕ, zero, suc, ◌+◌, ◌*◌, ◌-◌, ◌≤◌, ◌<◌}
use mathlib.Core.List.Memᴰ
use mathlib.Core.List.{List, [], ◌∷◌}
use mathlib.Core.Logic.{◌⊎◌, inl, inr}
use mathlib.Core.Option.{Option, some, none}
use mathlib.Core.Path.{◌≡◌, refl, sym, ap, ap₂, subst, ◌∙◌}
use native.Mathlib.Nat.{not-suc-le-zero, eq-or-lt_of_le, add-zero, zero-add, one-mul}
use native.Mathlib.Omega.{arith}
use lib.ListN.{length, get_elem?}
use Rattle.lists.specs.Lists.{◌∈◌}
use Rattle.lists.proofs.Places.{first, second, place_lt}
use Rattle.syntax.specs.declared.Row.{Row}
use Rattle.syntax.specs.declared.Row.TheVariants.{True, False, Proposition, Negation, And, Or, Next, Until}
use Rattle.syntax.specs.Rows.{operands, times}
use Rattle.syntax.specs.Formula.{Formula, and, or, next, until, grow, tree, formula_of, root_of, size, Reaches, here, through}
use Rattle.syntax.specs.WellFormed.{RowAt, WellFormed}
use Rattle.formula.proofs.Marks.{all_operands, uses_times}
use Rattle.formula.proofs.Sums.{sum_of, sum_from, sum_of_append, times-∈, sum_from_last, sum_from_same, sum_of_range}

-- operands are earlier rows, as in well-formed rows
pub record Ordered (rows : List Row) : Type 0 where
  pub earlier : (i : ℕ) {row : Row} → RowAt rows i row → {l : ℕ} → l ∈ operands row → l < i

pub ordered : {p : ℕ} {rows : List Row} → WellFormed p rows → Ordered rows
ordered w = record { earlier = λ i at m. w.earlier i at m }

-- ---- the formula of a row

grow_same : (row : Row) (φ ψ : ℕ → Formula) → ((l : ℕ) → l ∈ operands row → φ l ≡ ψ l) → grow (some row) φ ≡ grow (some row) ψ
grow_same True φ ψ q = refl
grow_same False φ ψ q = refl
grow_same (Proposition i) φ ψ q = refl
grow_same (Negation i) φ ψ q = refl
grow_same (And l k) φ ψ q = ap₂ and (q l first) (q k second)
grow_same (Or l k) φ ψ q = ap₂ or (q l first) (q k second)
grow_same (Next c a l b) φ ψ q = ap (λ x. next c a x b) (q l first)
grow_same (Until c l k b) φ ψ q = ap₂ (λ x y. until c x y b) (q l first) (q k second)

module _ (rows : List Row) (ok : Ordered rows) where
  -- any two depths above the row give one tree
  pub tree_same : (n m i : ℕ) → i < n → i < m → tree n rows i ≡ tree m rows i
  unfolding tree
  tree_same zero m i p q = absurd (not-suc-le-zero p)
  tree_same (suc n) zero i p q = absurd (not-suc-le-zero q)
  tree_same (suc n) (suc m) i p q = go (get_elem? rows i) refl (tree_same n m)
    where
      go : (o : Option Row) → get_elem? rows i ≡ o → ((l : ℕ) → l < n → l < m → tree n rows l ≡ tree m rows l) → grow o (λ l. tree n rows l) ≡ grow o (λ l. tree m rows l)
      go none e h = refl
      go (some row) e h = grow_same row (λ l. tree n rows l) (λ l. tree m rows l) (λ l k. let t = ok.earlier i e k in h l (omega arith) (omega arith))

  -- no depth cuts it short
  pub formula_of_row : (i : ℕ) {row : Row} → RowAt rows i row → formula_of rows i ≡ grow (some row) (formula_of rows)
  unfolding tree
  formula_of_row i at = let l = place_lt rows i at in tree_same (length rows) (suc (length rows)) i l (omega arith) ∙ ap (λ o. grow o (formula_of rows)) at

-- ---- all operands together

-- an operand of some row
record Used (rows : List Row) (l : ℕ) : Type 0 where
  place : ℕ
  row : Row
  at : RowAt rows place row
  operand : l ∈ operands row

used : (rows : List Row) {l : ℕ} → l ∈ all_operands rows → Used rows l
unfolding all_operands
used [] m = absurd (Memᴰ.not-nil m)
used (row ∷ rows) {l} m = go (Memᴰ.append_cases (operands row) m) (used rows)
  where
    go : (l ∈ operands row) ⊎ (l ∈ all_operands rows) → (l ∈ all_operands rows → Used rows l) → Used (row ∷ rows) l
    go (inl h) rest = record { place = 0; row = row; at = refl; operand = h }
    go (inr h) rest = let u = rest h in record { place = suc u.place; row = u.row; at = u.at; operand = u.operand }

-- ---- the size of the root

size_grow : (row : Row) (φ : ℕ → Formula) → size (grow (some row) φ) ≡ 1 + sum_of (λ l. size (φ l)) (operands row)
unfolding size sum_of
size_grow True φ = refl
size_grow False φ = refl
size_grow (Proposition i) φ = refl
size_grow (Negation i) φ = refl
size_grow (And l r) φ = omega arith
size_grow (Or l r) φ = omega arith
size_grow (Next q k l b) φ = omega arith
size_grow (Until q l r b) φ = omega arith

-- the rows from place k on have one operator or proposition each, and those of their operands
rows_sum : (w : ℕ → ℕ) (rows : List Row) (k : ℕ) → ((i : ℕ) (row : Row) → RowAt rows i row → w (k + i) ≡ 1 + sum_of w (operands row))
    → sum_from w k (length rows) ≡ length rows + sum_of w (all_operands rows)
unfolding sum_from sum_of all_operands
rows_sum w [] k f = refl
rows_sum w (row ∷ rows) k f =
    let here : w k ≡ 1 + sum_of w (operands row) = rw add-zero at (f 0 row refl) in
    let rest = rows_sum w rows (suc k) (λ i r e. ap w (omega arith) ∙ f (suc i) r e) in
    omega (arith, sum_of_append w (operands row) (all_operands rows))

module _ {p : ℕ} {rows : List Row} (well : WellFormed p rows) where
  -- every row but the last is an operand exactly once, and the last is none
  once : (i : ℕ) → i < length rows - 1 → times i (all_operands rows) ≡ 1
  once i h = sym (uses_times i rows) ∙ well.used_once i (omega arith)

  operand_below : (l : ℕ) → l ∈ all_operands rows → l < length rows - 1
  operand_below l m = let u = used rows m in omega (arith, well.earlier u.place u.at u.operand, place_lt rows u.place u.at)

  -- the root has as many operators and propositions as there are rows
  pub tree_size : size (root_of rows) ≡ length rows
  tree_size =
      let w : ℕ → ℕ = λ i. size (formula_of rows i) in
      let last : ℕ = length rows - 1 in
      let total : sum_from w 0 (length rows) ≡ length rows + sum_of w (all_operands rows) =
      rows_sum w rows 0 (λ i row e. ap w (zero-add i) ∙ ap size (formula_of_row rows (ordered well) i e) ∙ size_grow row (formula_of rows)) in
      let others : sum_of w (all_operands rows) ≡ sum_from w 0 last =
      sum_of_range w (all_operands rows) last operand_below
      ∙ sum_from_same _ w 0 last (λ i h k. ap (λ (t : ℕ). t * w i) (once i (omega arith)) ∙ one-mul (w i)) in
      let ends : sum_from w 0 (length rows) ≡ sum_from w 0 last + w last =
      ap (sum_from w 0) (omega (arith, well.some_row)) ∙ sum_from_last w 0 last ∙ ap (λ (i : ℕ). sum_from w 0 last + w i) (zero-add last) in
      omega arith

  -- the root reaches every row
  reaches : (d i : ℕ) → length rows ≤ i + d → i < length rows → Reaches rows (length rows - 1) i
  reaches zero i h k = absurd (omega arith)
  reaches (suc d) i h k = go (eq-or-lt_of_le (omega arith)) (reaches d)
    where
      go : (i ≡ length rows - 1) ⊎ (i < length rows - 1) → ((j : ℕ) → length rows ≤ j + d → j < length rows → Reaches rows (length rows - 1) j) → Reaches rows (length rows - 1) i
      go (inl e) rest = subst (Reaches rows (length rows - 1)) (sym e) here
      go (inr l) rest =
          let u = used rows (times-∈ i (all_operands rows) (rw (once i l) (omega arith))) in
          let after = well.earlier u.place u.at u.operand in
          through (rest u.place (omega arith) (place_lt rows u.place u.at)) u.at u.operand

  pub root_reaches : (i : ℕ) → i < length rows → Reaches rows (length rows - 1) i
  root_reaches i h = reaches (length rows) i (omega arith) h
