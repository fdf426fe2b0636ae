-- The text of a row is made of the texts of its operands. Assumes nothing.
use Prim.Native.Nat.{ℕ, ◌+◌, ◌<◌, ◌≤◌}
use mathlib.Core.List.Memᴰ
use mathlib.Core.List.{List, ◌∷◌, ◌++◌, append_assoc}
use mathlib.Core.Option.{some}
use mathlib.Core.Path.{◌≡◌, refl, sym, ap, ◌∙◌}
use mathlib.Core.Logic.{◌⊎◌, ⊎_elim}
use native.Mathlib.Omega.{arith}
use lib.ListN.{length, length-append}
use Rattle.lists.specs.Lists.{◌∈◌}
use Rattle.lists.proofs.Places.{first, second}
use Rattle.lists.proofs.Tests.{by}
use Rattle.wire.proofs.Stride.{items_get}
use Rattle.value.specs.declared.Bound.{Bound}
use Rattle.syntax.specs.Format.{formula_header, row_width, place_of}
use Rattle.syntax.specs.declared.Action.{Action}
use Rattle.syntax.specs.declared.Quantifier.{Quantifier}
use Rattle.syntax.specs.declared.Quantifier.TheVariants.{Some, Every}
use Rattle.syntax.specs.declared.Row.{Row}
use Rattle.syntax.specs.declared.Row.TheVariants.{True, False, Proposition, Negation, And, Or, Next, Until}
use Rattle.syntax.specs.Formula.{Formula, grow, formula_of}
use Rattle.syntax.specs.Rows.{operands}
use Rattle.syntax.specs.Layouts.{row_at, row_layout}
use Rattle.syntax.specs.WellFormed.{RowAt}
use Rattle.formula.proofs.Trees.{formula_of_row}
use Rattle.decimals.specs.Decimal.{word, decimal}
use Rattle.wording.specs.Text.{bound_text, quantifier_text, action_text, text}
use Rattle.wording.specs.Rows.{count_of, rows_of, row_text, Ready}

-- the text of a row, from the texts of its operands, in the pieces that are stored
abbrev pub made : Row → (ℕ → List ℕ) → List ℕ
made True t = word "true"
made False t = word "false"
made (Proposition i) t = word "p" ++ decimal i
made (Negation i) t = word "!p" ++ decimal i
made (And l r) t = word "(" ++ t l ++ word " & " ++ t r ++ word ")"
made (Or l r) t = word "(" ++ t l ++ word " | " ++ t r ++ word ")"
made (Next q k l b) t = quantifier_text q ++ word "X" ++ action_text k ++ bound_text b ++ word " " ++ t l
made (Until q l r b) t = quantifier_text q ++ word "[" ++ t l ++ (word " U" ++ bound_text b ++ word " ") ++ t r ++ word "]"

-- and its length, from their lengths
abbrev pub made_length : Row → (ℕ → ℕ) → ℕ
made_length True n = 4
made_length False n = 5
made_length (Proposition i) n = 1 + length (decimal i)
made_length (Negation i) n = 2 + length (decimal i)
made_length (And l r) n = 5 + n l + n r
made_length (Or l r) n = 5 + n l + n r
made_length (Next q k l b) n = 3 + length (action_text k) + length (bound_text b) + n l
made_length (Until q l r b) n = 6 + length (bound_text b) + n l + n r

pub one_byte : (q : Quantifier) → length (quantifier_text q) ≡ 1
one_byte Some = refl
one_byte Every = refl

-- a quantifier has one byte, and a space follows a bound
pub record Around (q : Quantifier) (b : Bound) : Type 0 where
  pub one : length (quantifier_text q) ≡ 1
  pub spaced : length (bound_text b ++ word " ") ≡ length (bound_text b) + 1

pub around : (q : Quantifier) (b : Bound) → Around q b
around q b = record { one = one_byte q; spaced = length-append (bound_text b) (word " ") }

-- what stands before the operand of EX or AX
pub next_length : (q : Quantifier) (k : Action) (b : Bound)
    → length (quantifier_text q ++ word "X" ++ action_text k ++ bound_text b ++ word " ") ≡ 3 + length (action_text k) + length (bound_text b)
next_length q k b = simp (length-append, one_byte) (omega arith)

length_made : (row : Row) (t : ℕ → List ℕ) → length (made row t) ≡ made_length row (λ l. length (t l))
length_made True t = refl
length_made False t = refl
length_made (Proposition i) t = omega arith
length_made (Negation i) t = omega arith
length_made (And l r) t = simp length-append (omega arith)
length_made (Or l r) t = simp length-append (omega arith)
length_made (Next q k l b) t = simp (length-append, one_byte) (omega arith)
length_made (Until q l r b) t = simp (length-append, one_byte) (omega arith)

among : (n : ℕ → ℕ) {k l x : ℕ} {xs : List ℕ} → l ∈ (x ∷ xs) → n x ≤ k → (l ∈ xs → n l ≤ k) → n l ≤ k
among n (Memᴰ.head e) h f = rw e h
among n (Memᴰ.tail m) h f = f m

-- no operand's is longer
operand_short : (row : Row) (n : ℕ → ℕ) (l : ℕ) → l ∈ operands row → n l ≤ made_length row n
operand_short True n l m = absurd (Memᴰ.not-nil m)
operand_short False n l m = absurd (Memᴰ.not-nil m)
operand_short (Proposition i) n l m = absurd (Memᴰ.not-nil m)
operand_short (Negation i) n l m = absurd (Memᴰ.not-nil m)
operand_short (And x y) n l m = among n m (omega arith) (λ o. among n o (omega arith) (λ p. absurd (Memᴰ.not-nil p)))
operand_short (Or x y) n l m = among n m (omega arith) (λ o. among n o (omega arith) (λ p. absurd (Memᴰ.not-nil p)))
operand_short (Next q k x b) n l m = among n m (omega arith) (λ o. absurd (Memᴰ.not-nil o))
operand_short (Until q x y b) n l m = among n m (omega arith) (λ o. among n o (omega arith) (λ p. absurd (Memᴰ.not-nil p)))

text_grow : (row : Row) (φ : ℕ → Formula) → text (grow (some row) φ) ≡ made row (λ l. text (φ l))
unfolding text
text_grow True φ = refl
text_grow False φ = refl
text_grow (Proposition i) φ = refl
text_grow (Negation i) φ = refl
text_grow (And l r) φ = refl
text_grow (Or l r) φ = refl
text_grow (Next q k l b) φ = refl
text_grow (Until q l r b) φ = simp append_assoc

-- what is known of an operand l of row i
pub record Operand (s : List ℕ) (i l : ℕ) : Type 0 where
  pub earlier : l < i
  pub ready : Ready s l
  pub shorter : length (row_text s l) ≤ length (row_text s i)

module _ {s : List ℕ} {i : ℕ} (ready : Ready s i) where
  module _ {row : Row} (e : row_at s (place_of i) ≡ row) where
    row_there : RowAt (rows_of s) i row
    row_there = items_get (row_layout s) row_width (λ at. refl) (count_of s) formula_header i ready.there ∙ ap some e

    pub row_made : row_text s i ≡ made row (λ l. row_text s l)
    unfolding row_text
    row_made =
        ap text (formula_of_row (rows_of s) (record { earlier = ready.earlier }) i row_there) ∙ text_grow row (λ l. formula_of (rows_of s) l)

    pub row_long : length (row_text s i) ≡ made_length row (λ l. length (row_text s l))
    row_long = ap length row_made ∙ length_made row (λ l. row_text s l)

    pub operand : (l : ℕ) → l ∈ operands row → Operand s i l
    operand l inside =
        let lower = ready.earlier i row_there inside in
        record {
          earlier = lower;
          ready = record { there = omega (arith, ready.there); earlier = ready.earlier };
          shorter = omega (arith, row_long, operand_short row (λ l. length (row_text s l)) l inside);
        }

-- the same of the row that stands there, for the check to apply
pub made_of : (s : List ℕ) (i : ℕ) → Ready s i → row_text s i ≡ made (row_at s (place_of i)) (λ l. row_text s l)
made_of s i ready = row_made ready refl

pub long_of : (s : List ℕ) (i : ℕ) → Ready s i → length (row_text s i) ≡ made_length (row_at s (place_of i)) (λ l. length (row_text s l))
long_of s i ready = row_long ready refl

-- the same once the row has been read
module _ (s : List ℕ) (i : ℕ) {row x : Row} (ready : Ready s i) (read : row ≡ row_at s (place_of i)) (is : row ≡ x) where
  pub read_made : row_text s i ≡ made x (λ l. row_text s l)
  read_made = row_made ready (by read is)

  pub read_long : length (row_text s i) ≡ made_length x (λ l. length (row_text s l))
  read_long = row_long ready (by read is)

  pub read_operand : (l : ℕ) → l ∈ operands x → Operand s i l
  read_operand l inside = operand ready (by read is) l inside

-- ---- `and` and `or` go the same way

-- the sign between their operands
abbrev pub sign : Row → List ℕ
sign (Or l r) = word " | "
sign row = word " & "

pub sign_length : (row : Row) → length (sign row) ≡ 3
sign_length True = refl
sign_length False = refl
sign_length (Proposition i) = refl
sign_length (Negation i) = refl
sign_length (And l r) = refl
sign_length (Or l r) = refl
sign_length (Next q k l b) = refl
sign_length (Until q l r b) = refl

module _ (s : List ℕ) (i : ℕ) {row : Row} (ready : Ready s i) (read : row ≡ row_at s (place_of i)) {l r : ℕ} (two : (row ≡ And l r) ⊎ (row ≡ Or l r)) where
  pub both_made : row_text s i ≡ word "(" ++ row_text s l ++ sign row ++ row_text s r ++ word ")"
  both_made =
      ⊎_elim
      (λ e. read_made s i ready read e ∙ ap (λ (x : Row). word "(" ++ row_text s l ++ sign x ++ row_text s r ++ word ")") (sym e))
      (λ e. read_made s i ready read e ∙ ap (λ (x : Row). word "(" ++ row_text s l ++ sign x ++ row_text s r ++ word ")") (sym e))
      two

  pub both_long : length (row_text s i) ≡ 5 + length (row_text s l) + length (row_text s r)
  both_long = ⊎_elim (λ e. read_long s i ready read e) (λ e. read_long s i ready read e) two

  pub left : Operand s i l
  left = ⊎_elim (λ e. read_operand s i ready read e l first) (λ e. read_operand s i ready read e l first) two

  pub right : Operand s i r
  right = ⊎_elim (λ e. read_operand s i ready read e r second) (λ e. read_operand s i ready read e r second) two
