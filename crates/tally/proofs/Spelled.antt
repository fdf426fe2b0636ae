-- A list by its places: what stands at each, one behind the other. Assumes nothing.
use Prim.Native.Nat.{ℕ, zero, suc, ◌+◌, ◌<◌}
use mathlib.Core.List.{List, [], ◌∷◌}
use mathlib.Core.Path.{◌≡◌, refl, sym, ap, ap₂, ◌∙◌}
use native.Mathlib.Omega.{arith}
use lib.ListN.{length, get_or, set}
use Rattle.lists.specs.Making.{span}
use Rattle.lists.proofs.Making.{span_agree}

-- f 0, f 1, .. for n places
abbrev pub spread : (ℕ → ℕ) → ℕ → ℕ → List ℕ
spread f = span (λ i. f i ∷ [])

-- ---- one more at a place

-- where two functions differ at q alone, by one more, so do the lists of what they give
pub spread_more : (f g : ℕ → ℕ) (q : ℕ) → g q ≡ f q + 1 → ((k : ℕ) → (k ≡ q → ⊥) → g k ≡ f k) → (a n p : ℕ) → p < n → q ≡ a + p
    → spread g a n ≡ set (spread f a n) p (get_or (spread f a n) p 0 + 1)
unfolding span
spread_more f g q more same a zero p h e = absurd (omega arith)
spread_more f g q more same a (suc n) zero h e =
    let here : q ≡ a = omega arith in
    let head : g a ≡ f a + 1 = ap g (sym here) ∙ more ∙ ap (λ (k : ℕ). f k + 1) here in
    ap₂ (λ (b : ℕ) (r : List ℕ). b ∷ r) head (span_agree (λ i. g i ∷ []) (λ i. f i ∷ []) (suc a) n (λ k low high. ap (λ (b : ℕ). b ∷ []) (same k (λ w. absurd (omega arith)))))
spread_more f g q more same a (suc n) (suc p) h e =
    ap₂ (λ (b : ℕ) (r : List ℕ). b ∷ r) (same a (λ w. absurd (omega arith))) (spread_more f g q more same (suc a) n p (omega arith) (omega arith))

pub spread_length : (f : ℕ → ℕ) (a n : ℕ) → length (spread f a n) ≡ n
unfolding span
spread_length f a zero = refl
spread_length f a (suc n) = ap suc (spread_length f (suc a) n)

pub spread_at : (f : ℕ → ℕ) (a n i : ℕ) → i < n → (k : ℕ) → k ≡ a + i → get_or (spread f a n) i 0 ≡ f k
unfolding span
spread_at f a zero i h k e = absurd (omega arith)
spread_at f a (suc n) zero h k e = let here : a ≡ k = omega arith in ap f here
spread_at f a (suc n) (suc i) h k e = spread_at f (suc a) n i (omega arith) k (omega arith)
