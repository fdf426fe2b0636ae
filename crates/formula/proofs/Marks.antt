-- How often rows are operands: those that are used are marked, and every row but the last is an operand exactly once where as many uses are
-- made as there are such rows, and each of them is marked. Assumes nothing.
use Prim.Native.Nat.{ℕ, zero, suc, ◌+◌, ◌*◌, ◌-◌, ◌%◌, ◌^◌, ◌<◌, ◌≤◌}
use mathlib.Core.Bool.{true, false, cond}
use mathlib.Core.List.{List, [], ◌∷◌, ◌++◌, append-nil, append_assoc}
use mathlib.Core.Logic.{◌⊎◌, inl, inr}
use mathlib.Core.Path.{◌≡◌, refl, sym, ap, ◌∙◌}
use native.Mathlib.Decide.{dec_lt}
use native.Mathlib.Nat.{eq-or-lt_of_le, mul-one, div-eq_of_lt}
use native.Mathlib.Omega.{arith}
use lib.Bits.{bit_or}
use lib.Dec.{eqb}
use lib.ListN.{length, length-append}
use lib.Pow.{pow_pos}
use borrow.Author.Tests.{eq-eqb, ne_eqb, eqb-true, eqb-false}
use Rattle.lists.specs.Lists.{◌∈◌, all, up_to}
use Rattle.lists.proofs.Tests.{by_test}
use Rattle.lists.proofs.Lists.{all_true, true_all, ∈-up_to, up_to-∈}
use Rattle.syntax.specs.declared.Row.{Row}
use Rattle.syntax.specs.declared.Row.TheVariants.{True, False, Proposition, Negation, And, Or, Next, Until}
use Rattle.formula.specs.declared.Uses.{Uses}
use Rattle.formula.specs.Marked.{bit_of, Marked}
use Rattle.syntax.specs.Rows.{operands, times, uses, used_once}
use Rattle.formula.proofs.Bits.{one_shifted, set_same, set_other, bits_below, all_set, set_all}
use Rattle.formula.proofs.Sums.{sum_of, sum_from, times_append, times-∈, sum_from_same, sum_of_range}

-- ---- marks

-- a list with one number more
times_more : (i row : ℕ) (ls : List ℕ) → times i (ls ++ (row ∷ [])) ≡ times i ls + cond (eqb row i) 1 0
unfolding times
times_more i row ls = times_append i ls (row ∷ []) ∙ omega arith

-- one use more
mark_row : {u : Uses} {ls : List ℕ} (row : ℕ) → Marked u ls
    → Marked (record { total = u.total + 1; rows = bit_or u.rows (2 ^ row) }) (ls ++ (row ∷ []))
mark_row {u} {ls} row m = record {
  total_is = simp length-append (omega (arith, m.total_is));
  marked = λ i. by_test (eqb row i) (λ e. same i (eqb-true row i e)) (λ e. other i (eqb-false row i e));
}
  where
    same : (i : ℕ) → row ≡ i → bit_of (bit_or u.rows (2 ^ row)) i ≡ cond (eqb (times i (ls ++ (row ∷ []))) 0) 0 1
    same i e =
        let one : cond {A = ℕ} (eqb row i) 1 0 ≡ 1 = rw (eq-eqb row i e) in
        let some : eqb (times i (ls ++ (row ∷ []))) 0 ≡ false = ne_eqb (times i (ls ++ (row ∷ []))) 0 (λ z. omega (arith, times_more i row ls)) in
        ap (bit_of (bit_or u.rows (2 ^ row))) (sym e) ∙ set_same u.rows row ∙ sym (rw some)

    other : (i : ℕ) → (row ≡ i → ⊥) → bit_of (bit_or u.rows (2 ^ row)) i ≡ cond (eqb (times i (ls ++ (row ∷ []))) 0) 0 1
    other i n =
        let none : cond {A = ℕ} (eqb row i) 1 0 ≡ 0 = rw (ne_eqb row i n) in
        let as_before : times i ls ≡ times i (ls ++ (row ∷ [])) = omega (arith, times_more i row ls) in
        set_other u.rows row i n ∙ m.marked i ∙ ap (λ (t : ℕ). cond (eqb t 0) 0 1) as_before

-- the same, as the code sets the bit
pub mark_more : {u : Uses} {ls : List ℕ} (row : ℕ) → row < 64 → Marked u ls
    → Marked (record { total = u.total + 1; rows = bit_or u.rows (1 * 2 ^ row % 2 ^ 64) }) (ls ++ (row ∷ []))
mark_more row few m = rw (one_shifted row few) (mark_row row m)

-- no use yet
pub mark_none : Marked (record { total = 0; rows = 0 }) []
unfolding times
mark_none = record { total_is = refl; marked = λ i. ap (λ (n : ℕ). n % 2) (div-eq_of_lt (pow_pos i)) }

-- a row's bit is set exactly where the row was used
module _ {u : Uses} {ls : List ℕ} (m : Marked u ls) (i : ℕ) where
  mark_used : bit_of u.rows i ≡ 1 → 1 ≤ times i ls
  mark_used e =
      by_test (eqb (times i ls) 0) (λ t. let none : bit_of u.rows i ≡ 0 = m.marked i ∙ rw t in absurd (omega arith))
      (λ t. omega (arith, eqb-false (times i ls) 0 t))

  used_mark : 1 ≤ times i ls → bit_of u.rows i ≡ 1
  used_mark h = m.marked i ∙ rw (ne_eqb (times i ls) 0 (λ e. omega arith))

  unused_mark : times i ls ≡ 0 → bit_of u.rows i ≡ 0
  unused_mark e = m.marked i ∙ rw (eq-eqb (times i ls) 0 e)

-- ---- all operands together

unfoldable pub all_operands : List Row → List ℕ
all_operands [] = []
all_operands (row ∷ rows) = operands row ++ all_operands rows

pub uses_times : (i : ℕ) (rows : List Row) → uses i rows ≡ times i (all_operands rows)
unfolding uses times all_operands
uses_times i [] = refl
uses_times i (row ∷ rows) = omega (arith, uses_times i rows, times_append i (operands row) (all_operands rows))

pub all_last : (rows : List Row) (row : Row) → all_operands (rows ++ (row ∷ [])) ≡ all_operands rows ++ operands row
unfolding all_operands
all_last [] row = append-nil (operands row)
all_last (first ∷ rows) row =
    ap (λ (ls : List ℕ). operands first ++ ls) (all_last rows row)
    ∙ sym (append_assoc (operands first) (all_operands rows) (operands row))

-- a row has at most two
operands_few : (row : Row) → length (operands row) ≤ 2
operands_few True = omega arith
operands_few False = omega arith
operands_few (Proposition q) = omega arith
operands_few (Negation q) = omega arith
operands_few (And l r) = omega arith
operands_few (Or l r) = omega arith
operands_few (Next q k l b) = omega arith
operands_few (Until q l r b) = omega arith

pub all_few : (rows : List Row) → length (all_operands rows) ≤ 2 * length rows
unfolding all_operands
all_few [] = omega arith
all_few (row ∷ rows) = simp length-append (omega (arith, all_few rows, operands_few row))

-- ---- the rule of use

pub used_each : (rs : List Row) → used_once rs ≡ true → (i : ℕ) → suc i < length rs → uses i rs ≡ 1
unfolding used_once
used_each rs e i h = eqb-true _ _ (all_true (λ j. eqb (uses j rs) 1) (up_to (length rs - 1)) e i (up_to-∈ (length rs - 1) (omega arith)))

pub each_used : (rs : List Row) → ((i : ℕ) → suc i < length rs → uses i rs ≡ 1) → used_once rs ≡ true
unfolding used_once
each_used rs f = true_all (λ j. eqb (uses j rs) 1) (up_to (length rs - 1)) (λ i m. let h = ∈-up_to (length rs - 1) m in eq-eqb _ _ (f i (omega arith)))

-- a list has one of each of its elements
count_all : (ls : List ℕ) → sum_of (λ l. 1) ls ≡ length ls
unfolding sum_of
count_all [] = refl
count_all (l ∷ ls) = omega (arith, count_all ls)

-- numbers that are at least one make at least as many as they are, and no more only where each is one
sum_many : (v : ℕ → ℕ) (k n : ℕ) → ((i : ℕ) → k ≤ i → i < k + n → 1 ≤ v i) → n ≤ sum_from v k n
unfolding sum_from
sum_many v k zero some = omega arith
sum_many v k (suc n) some = omega (arith, some k (omega arith) (omega arith), sum_many v (suc k) n (λ i p q. some i (omega arith) (omega arith)))

sum_full : (v : ℕ → ℕ) (k n : ℕ) → ((i : ℕ) → k ≤ i → i < k + n → 1 ≤ v i) → sum_from v k n ≡ n → (i : ℕ) → k ≤ i → i < k + n → v i ≡ 1
unfolding sum_from
sum_full v k zero some e i p q = absurd (omega arith)
sum_full v k (suc n) some e i p q =
    let later : (j : ℕ) → suc k ≤ j → j < suc k + n → 1 ≤ v j = λ j p q. some j (omega arith) (omega arith) in
    let first = some k (omega arith) (omega arith) in
    let rest = sum_many v (suc k) n later in
    go (omega arith) (eq-or-lt_of_le p) (sum_full v (suc k) n later (omega arith) i)
  where
    go : v k ≡ 1 → (k ≡ i) ⊎ (k < i) → (suc k ≤ i → i < suc k + n → v i ≡ 1) → v i ≡ 1
    go top (inl h) rest = ap v (sym h) ∙ top
    go top (inr h) rest = rest h (omega arith)

sum_ones : (v : ℕ → ℕ) (k n : ℕ) → ((i : ℕ) → k ≤ i → i < k + n → v i ≡ 1) → sum_from v k n ≡ n
unfolding sum_from
sum_ones v k zero f = refl
sum_ones v k (suc n) f = omega (arith, f k (omega arith) (omega arith), sum_ones v (suc k) n (λ i p q. f i (omega arith) (omega arith)))

module _ (rows : List Row) (below : (l : ℕ) → l ∈ all_operands rows → l < length rows - 1) where
  uses_sum : sum_from (λ i. uses i rows) 0 (length rows - 1) ≡ length (all_operands rows)
  uses_sum =
      sum_from_same (λ i. uses i rows) (λ i. times i (all_operands rows) * 1) 0 (length rows - 1) (λ i p q. uses_times i rows ∙ sym (mul-one _))
      ∙ sym (sum_of_range (λ i. 1) (all_operands rows) (length rows - 1) below) ∙ count_all (all_operands rows)

  -- no bit is set but those of the rows before the last
  unused : {u : Uses} → Marked u (all_operands rows) → (i : ℕ) → length rows - 1 ≤ i → bit_of u.rows i ≡ 0
  unused m i h = unused_mark m i (go (dec_lt 0 (times i (all_operands rows))))
    where
      go : Dec (0 < times i (all_operands rows)) → times i (all_operands rows) ≡ 0
      go (yes p) = absurd (omega (arith, below i (times-∈ i (all_operands rows) p)))
      go (no p) = omega arith

  pub marks_fit : {u : Uses} → Marked u (all_operands rows) → u.rows < 2 ^ (length rows - 1)
  marks_fit {u} m = bits_below (length rows - 1) u.rows (unused m)

  -- as many uses as rows before the last, and each of these rows is marked
  pub once_if : {u : Uses} → Marked u (all_operands rows) → u.total + 1 ≡ length rows → u.rows + 1 ≡ 2 ^ (length rows - 1) → used_once rows ≡ true
  once_if {u} m all full =
      let as_many : sum_from (λ i. uses i rows) 0 (length rows - 1) ≡ length rows - 1 = omega (arith, uses_sum, m.total_is) in
      each_used rows (λ i h. sum_full (λ i. uses i rows) 0 (length rows - 1) (λ i p q. some i (omega arith)) as_many i (omega arith) (omega arith))
    where
      some : (i : ℕ) → i < length rows - 1 → 1 ≤ uses i rows
      some i h = rw (uses_times i rows) (mark_used m i (all_set (length rows - 1) u.rows full i h))

  -- and so it is wherever the rule is met
  pub once_many : 1 ≤ length rows → used_once rows ≡ true → length (all_operands rows) + 1 ≡ length rows
  once_many some once = omega (arith, uses_sum, sum_ones (λ i. uses i rows) 0 (length rows - 1) (λ i p q. used_each rows once i (omega arith)))

  pub once_full : {u : Uses} → Marked u (all_operands rows) → used_once rows ≡ true → u.rows + 1 ≡ 2 ^ (length rows - 1)
  once_full {u} m once =
      let used : (i : ℕ) → i < length rows - 1 → bit_of u.rows i ≡ 1 =
      λ i h. used_mark m i (omega (arith, used_each rows once i (omega arith), uses_times i rows)) in
      set_all (length rows - 1) u.rows used (unused m)
