-- The parts of a line, and how long a line is at most. Assumes nothing.
use Prim.Native.Nat.{ℕ, zero, suc, ◌+◌, ◌-◌, ◌<◌, ◌≤◌}
use mathlib.Core.List.{List, [], ◌∷◌, ◌++◌, append_assoc}
use mathlib.Core.Bool.{Bool, true, false}
use mathlib.Core.Path.{◌≡◌, refl, sym, ap, ◌∙◌}
use Rattle.std.proofs.Common.{zero-add, add-zero, append-nil}
use lib.Dec.{eqb}
use native.Mathlib.Omega.{arith}
use lib.ListN.{length, get_or, length-append}
use Rattle.lists.specs.Making.{span}
use Rattle.decimals.specs.Decimal.{word, decimal, long_decimal}
use Rattle.decimals.proofs.Decimal.{decimal_length}
use Rattle.decimals.specs.declared.Writer.{Writer}
use Rattle.decimals.specs.Writer.{RoomFor}
use Rattle.pieces.specs.Pieces.{states_lines}
use Rattle.pieces.specs.Lines.{line, place, refused_line, rounds_line, answer_word, state_line}

-- a word, a number, and the end of the line
pub word_fits : (w : List ℕ) (n at : ℕ) {size : ℕ} → at + length (line (w ++ decimal n)) ≤ size → at + length w + length (decimal n) ≤ size
word_fits w n at h = omega (arith, length-append w (decimal n), length-append (w ++ decimal n) (10 ∷ []))

-- a number and a word behind it, with the end of the line
pub state_parts : (satisfied : Bool) (a : ℕ) → state_line satisfied a ≡ decimal a ++ (answer_word satisfied ++ (10 ∷ []))
unfolding state_line
state_parts satisfied a = append_assoc (decimal a) (answer_word satisfied) (10 ∷ [])

-- ---- no line is long

-- the place of a field at fault
pub place_some : (offset : ℕ) → (offset ≡ 0 → ⊥) → place offset ≡ word " at " ++ long_decimal offset
unfolding place
place_some zero h = absurd (h refl)
place_some (suc k) h = refl

place_length : (offset : ℕ) → length (place offset) ≤ 24
unfolding place
place_length zero = omega arith
place_length (suc k) = simp length-append (omega (arith, decimal_length 20 (suc k)))

refused_length : (number offset : ℕ) → length (refused_line number offset) ≤ 43
unfolding refused_line
refused_length number offset = simp length-append (omega (arith, decimal_length 10 number, place_length offset))

pub refused_fits : (number offset at : ℕ) {size : ℕ} → at + 8192 ≤ size → at + length (refused_line number offset) ≤ size
refused_fits number offset at h = omega (arith, refused_length number offset)

pub rounds_length : (m : ℕ) → length (rounds_line m) ≤ 18
unfolding rounds_line
rounds_length m = simp length-append (omega (arith, decimal_length 10 m))

answer_length : (holds : Bool) → length (answer_word holds) ≤ 4
answer_length true = omega arith
answer_length false = omega arith

pub state_length : (holds : Bool) (a : ℕ) → length (state_line holds a) ≤ 15
unfolding state_line
state_length holds a = simp length-append (omega (arith, decimal_length 10 a, answer_length holds))

-- ---- the lines of all states, one behind the other

span_add : {B : Type 0} (f : ℕ → List B) (a k m : ℕ) → span f a (k + m) ≡ span f a k ++ span f (a + k) m
unfolding span
span_add f a zero m = rw (zero-add, add-zero) refl
span_add {B = B} f a (suc k) m =
    let more : suc k + m ≡ suc (k + m) = omega arith in
    let on : a + suc k ≡ suc a + k = omega arith in
    rw (more, on) (ap (λ (x : List B). f a ++ x) (span_add f (suc a) k m) ∙ sym (append_assoc (f a) (span f (suc a) k) (span f (suc a + k) m)))

-- the lines of the first of them
abbrev pub first_lines : (values : List ℕ) (n : ℕ) → List ℕ
first_lines values n = span (λ a. state_line (eqb (get_or values a 0) 0) a) 0 n

-- one more of them, and it fits what all do
pub states_more : (values : List ℕ) (a : ℕ) → first_lines values (a + 1) ≡ first_lines values a ++ state_line (eqb (get_or values a 0) 0) a
unfolding span
states_more values a = span_add _ 0 a 1 ∙ simp (zero-add, append-nil)

pub state_fits : (values : List ℕ) {a : ℕ} (w : Writer) → a < length values → RoomFor w (states_lines values)
    → RoomFor w (first_lines values a ++ state_line (eqb (get_or values a 0) 0) a)
unfolding states_lines
state_fits values {a} w h fits =
    let n = length values in
    let f : ℕ → List ℕ = λ a. state_line (eqb (get_or values a 0) 0) a in
    let all : a + 1 + (n - (a + 1)) ≡ n = omega arith in
    let rest : List ℕ = span f (0 + (a + 1)) (n - (a + 1)) in
    let whole : span f 0 n ≡ span f 0 (a + 1) ++ rest = ap (span f 0) (sym all) ∙ span_add f 0 (a + 1) (n - (a + 1)) in
    omega (arith, fits, ap length whole, length-append (span f 0 (a + 1)) rest, ap length (states_more values a))
