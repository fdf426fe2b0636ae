-- Numbers in a room after one was stored: there, elsewhere, and what claims hold then. Assumes nothing.
use Prim.Native.Nat.{ℕ, zero, suc, ◌+◌, ◌-◌, ◌*◌, ◌^◌, ◌≤◌, ◌<◌}
use mathlib.Core.List.{List, ◌++◌}
use mathlib.Core.Logic.{◌⊎◌, inl, inr, ⊎_elim}
use mathlib.Core.Path.{◌≡◌, refl, sym, ap, ap₂, ◌∙◌}
use lib.ListN.{length, get_or, take, drop, length-append, get_or-append}
use lib.Seq.{length-take-le, get_or-take, get_or-drop, get_or-append-add, drop-append-add, drop-drop}
use native.Mathlib.Decide.{dec_lt}
use native.Mathlib.Omega.{arith}
use Rattle.value.specs.Stored.{meaning}
use Rattle.wire.specs.Bytes.{number, bytes, put}
use Rattle.wire.specs.Field.{long_width}
use Rattle.wire.proofs.Bytes.{length_bytes, number_bytes}
use Rattle.wire.proofs.Laid as Laid
use Rattle.support.specs.Claims.{rank_at, claim_width, claimed_value, claimed_rank}

-- the same bytes make the same number
pub number_same : (k : ℕ) (s s' : List ℕ) (at : ℕ) → ((i : ℕ) → i < k → get_or s' (at + i) 0 ≡ get_or s (at + i) 0) → number k s' at ≡ number k s at
unfolding number
number_same zero s s' at f = refl
number_same (suc k) s s' at f = ap₂ (λ (a b : ℕ). a * 256 + b) (number_same k s s' at (λ i l. f i (omega arith))) (f k (omega arith))

module _ (b : List ℕ) (at k n : ℕ) (fits : at + k ≤ length b) where
  front : length (take at b ++ bytes k n) ≡ at + k
  front = length-append (take at b) (bytes k n) ∙ omega (arith, length-take-le at b (omega arith), length_bytes k n)

  pub put_length : length (put b at k n) ≡ length b
  put_length = Laid.same_length (Laid.stored at k n fits refl)

  -- a byte before or behind stays
  byte_stays : (i : ℕ) → (i < at) ⊎ (at + k ≤ i) → get_or (put b at k n) i 0 ≡ get_or b i 0
  unfolding put
  byte_stays i (inl l) =
      let e = length-take-le at b (omega arith) in
      get_or-append (take at b ++ bytes k n) (drop (at + k) b) 0 i (omega (arith, front))
      ∙ get_or-append (take at b) (bytes k n) 0 i (omega arith) ∙ get_or-take at b i 0 l
  byte_stays i (inr l) =
      let r = i - (at + k) in
      let here : i ≡ length (take at b ++ bytes k n) + r = omega (arith, front) in
      let there : at + k + r ≡ i = omega arith in
      ap (λ (j : ℕ). get_or (take at b ++ bytes k n ++ drop (at + k) b) j 0) here
      ∙ get_or-append-add (take at b ++ bytes k n) (drop (at + k) b) r 0 ∙ get_or-drop (at + k) b r 0 ∙ ap (λ (j : ℕ). get_or b j 0) there

  -- so does a number
  pub put_other : (j q : ℕ) → (q + j ≤ at) ⊎ (at + k ≤ q) → number j (put b at k n) q ≡ number j b q
  put_other j q apart = number_same j b (put b at k n) q λ i l.
      byte_stays (q + i) (⊎_elim (λ h. inl (omega arith)) (λ h. inr (omega arith)) apart)

  -- the stored number is there
  pub put_same : n < 256 ^ k → number k (put b at k n) at ≡ n
  unfolding put
  put_same h =
      ap (number k (take at b ++ bytes k n ++ drop (at + k) b)) (sym (length-take-le at b (omega arith)))
      ∙ number_bytes k n (take at b) (drop (at + k) b) h

  -- and what is behind stays
  pub put_past : (m : ℕ) → at + k ≤ m → drop m (put b at k n) ≡ drop m b
  unfolding put
  put_past m l =
      let r = m - (at + k) in
      let here : m ≡ length (take at b ++ bytes k n) + r = omega (arith, front) in
      let there : at + k + r ≡ m = omega arith in
      ap (λ (j : ℕ). drop j (take at b ++ bytes k n ++ drop (at + k) b)) here
      ∙ drop-append-add (take at b ++ bytes k n) (drop (at + k) b) r ∙ drop-drop r (at + k) b ∙ ap (λ (j : ℕ). drop j b) there

-- a rank that is stored, in claims of n nodes
module _ (n : ℕ) (b : List ℕ) (v r : ℕ) (named : v < n) (long : n * claim_width ≤ length b) where
  pub rank_fits : v * claim_width + rank_at + long_width ≤ length b
  rank_fits = omega arith

  pub rank_here : r < 256 ^ 8 → claimed_rank (put b (v * claim_width + rank_at) long_width r) v ≡ r
  rank_here h = put_same b (v * claim_width + rank_at) long_width r rank_fits h

  pub rank_other : (u : ℕ) → ¬ (u ≡ v) → claimed_rank (put b (v * claim_width + rank_at) long_width r) u ≡ claimed_rank b u
  rank_other u h = put_other b (v * claim_width + rank_at) long_width r rank_fits long_width (u * claim_width + rank_at) (go (dec_lt u v))
    where
      go : Dec (u < v) → (u * claim_width + rank_at + long_width ≤ v * claim_width + rank_at) ⊎ (v * claim_width + rank_at + long_width ≤ u * claim_width + rank_at)
      go (yes l) = inl (omega arith)
      go (no l) = inr (omega arith)

  pub rank_values : claimed_value (put b (v * claim_width + rank_at) long_width r) ≡ claimed_value b
  rank_values i u = meaning (put_other b (v * claim_width + rank_at) long_width r rank_fits long_width (u * claim_width) (go (dec_lt v u)) i)
    where
      go : Dec (v < u) → (u * claim_width + long_width ≤ v * claim_width + rank_at) ⊎ (v * claim_width + rank_at + long_width ≤ u * claim_width)
      go (yes l) = inr (omega arith)
      go (no l) = inl (omega arith)
