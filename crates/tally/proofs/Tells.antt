-- The report determines the tally: its numbers can be read back from it. Assumes nothing.
use Prim.Native.Nat.{ℕ, zero, suc, ◌^◌, ◌<◌}
use mathlib.Core.List.Memᴰ
use mathlib.Core.List.{List, [], ◌∷◌, ◌++◌}
use mathlib.Core.Path.{◌≡◌, refl, sym, ap, ap₂, ◌∙◌}
use native.Mathlib.Omega.{arith}
use lib.ListN.{length, get_or, take, drop, length-append}
use lib.Seq.{take_at, drop_at}
use Rattle.lists.specs.Lists.{◌∈◌}
use Rattle.lists.proofs.Places.{first}
use Rattle.decimals.specs.Decimal.{long_decimal}
use Rattle.decimals.proofs.Decimal.{value, leading, after, leading_digits, after_digits, decimal_digits, decimal_value}
use Rattle.tally.specs.declared.Tally.{Tally}
use Rattle.entries.specs.Entries.{places}
use Rattle.lines.specs.Lines.{lines}
use Rattle.tally.specs.Report.{numbers_of, Stored}

-- so many numbers, each ended by a line feed
unfoldable pub numbers_in : ℕ → List ℕ → List ℕ
numbers_in zero s = []
numbers_in (suc k) s = value 0 (leading s) ∷ numbers_in k (drop 1 (after s))

pub lines_read : (l : List ℕ) → ((n : ℕ) → n ∈ l → n < 2 ^ 64) → numbers_in (length l) (lines l) ≡ l
unfolding numbers_in lines
lines_read [] below = refl
lines_read (n ∷ l) below =
    let s : List ℕ = 10 ∷ lines l in
    let digits = decimal_digits 20 n in
    let fits : n < 10 ^ 20 = omega (arith, below n first) in
    let number : value 0 (leading (long_decimal n ++ s)) ≡ n = ap (value 0) (leading_digits (long_decimal n) s digits refl) ∙ decimal_value 20 n fits in
    let rest : numbers_in (length l) (drop 1 (after (long_decimal n ++ s))) ≡ l =
    ap (λ (r : List ℕ). numbers_in (length l) (drop 1 r)) (after_digits (long_decimal n) s digits refl) ∙ lines_read l (λ k m. below k (Memᴰ.tail m)) in
    ap₂ (λ (a : ℕ) (r : List ℕ). a ∷ r) number rest

-- a tally has 15 numbers, and they are read back
numbers_are : (t : Tally) → Stored t → numbers_in 15 (lines (numbers_of t)) ≡ numbers_of t
numbers_are t stored =
    let size : 15 ≡ length (numbers_of t) = omega (arith, stored.counts_are, length-append t.counts (t.sum ∷ t.largest ∷ [])) in
    ap (λ (k : ℕ). numbers_in k (lines (numbers_of t))) size ∙ lines_read (numbers_of t) stored.below

-- one report, one tally
pub report_tells : {t u : Tally} → Stored t → Stored u → lines (numbers_of t) ≡ lines (numbers_of u) → t ≡ u
report_tells {t} {u} a b e =
    let same : numbers_of t ≡ numbers_of u = sym (numbers_are t a) ∙ ap (numbers_in 15) e ∙ numbers_are u b in
    let counts : t.counts ≡ u.counts = sym (take_at t.counts _ places a.counts_are) ∙ ap (take places) same ∙ take_at u.counts _ places b.counts_are in
    let last : ◌≡◌ {A = List ℕ} (t.sum ∷ t.largest ∷ []) (u.sum ∷ u.largest ∷ []) =
    sym (drop_at t.counts _ places a.counts_are) ∙ ap (drop places) same ∙ drop_at u.counts _ places b.counts_are in
    λ i. record { counts = counts i; sum = get_or (last i) 0 0; largest = get_or (last i) 1 0 }
