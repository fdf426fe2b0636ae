-- A text of at most 256 bytes with more behind it. Assumes nothing.
use Rattle.std.proofs.Common.{◌≡◌, ℕ, zero, suc, ◌+◌, ◌-◌, ◌^◌, ◌<◌, ◌≤◌, min, List, [], ◌∷◌, ◌++◌, length, take, sym, refl, ap, ◌∙◌, ⊎_elim, append_assoc, eq-or-lt_of_le, arith, lit<, length-take}
use native.Mathlib.Nat.{pow-le-pow_right}
use Rattle.std.proofs.Math.Seq.{take-append-add}
use Rattle.std.proofs.lemmas.List.{take_min}
use Rattle.io.specs.Digits.{IsDigitCount}
use Rattle.trials.specs.Lines.{more}

-- cutting before more is added, and again after, is cutting once
cut_once : (n : ℕ) (l s : List ℕ) → take n (take n l ++ s) ≡ take n (l ++ s)
cut_once zero l s = refl
cut_once (suc n) [] s = refl
cut_once (suc n) (x ∷ l) s = ap (λ (r : List ℕ). x ∷ r) (cut_once n l s)

more_more : (t a b : List ℕ) → more (more t a) b ≡ more t (a ++ b)
unfolding more
more_more t a b = cut_once 256 (t ++ a) b ∙ ap (take 256) (append_assoc t a b)

-- a text with as much more as fits behind it
pub gathered : (bytes s : List ℕ) (len k : ℕ) → length bytes ≡ 256 → len ≤ 256 → k ≡ min (length s) (256 - len) → take len bytes ++ take k s ≡ more (take len bytes) s
unfolding more
gathered bytes s len k size within e =
    let long : length (take len bytes) ≡ len = length-take len bytes ∙ omega arith in
    let all : 256 ≡ length (take len bytes) + (256 - len) = omega arith in
    let same : k ≡ min (256 - len) (length s) = omega arith in
    rw (same, take_min (256 - len) s) (sym (ap (λ (n : ℕ). take n (take len bytes ++ s)) all ∙ take-append-add (take len bytes) s (256 - len)))

-- a space and then a text
pub more_field : (t s : List ℕ) {u r d : List ℕ} → u ≡ more t (32 ∷ []) → r ≡ more u s → s ≡ d → r ≡ more t (32 ∷ d)
more_field t s space text same = text ∙ rw (space, more_more t (32 ∷ []) s, same) refl

-- a number of 32 bits has 8 hex digits where at least 8 are asked for
pub eight : (n k : ℕ) → n < 2 ^ 32 → IsDigitCount 16 8 n k → k ≡ 8
eight n k small few =
    ⊎_elim
    (λ e. sym e)
    (λ longer.
    let q : 8 ≤ k - 1 = omega arith in
    let h : 16 ^ 8 ≤ 16 ^ (k - 1) = pow-le-pow_right (lit< tt) q in
    let g = few.2 longer in
    absurd (omega arith))
    (eq-or-lt_of_le few.0)
