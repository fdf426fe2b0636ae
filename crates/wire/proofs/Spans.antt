-- A loop over the numbers below n that lays the bytes of each into a room. Assumes nothing.
use Rattle.std.proofs.Common.{◌≡◌, ℕ, ◌+◌, ◌-◌, ◌<◌, ◌≤◌, List, ◌++◌, length, ap, ◌∙◌, subst, arith}
use Rattle.lists.specs.Making.{span}
use Rattle.lists.proofs.Making.{span_more, span_none}
use Rattle.wire.specs.Laid.{Laid}
use Rattle.wire.proofs.Laid.{Left, all_left, none_left, left_fits, left_then}

-- those of the numbers from a on are left
pub record SpanLeft (f : ℕ → List ℕ) (n : ℕ) (b : List ℕ) (at : ℕ) (whole b' : List ℕ) (next a : ℕ) : Type 0 where
  pub left : Left b at whole b' next (span f a (n - a))

pub span_begun : (f : ℕ → List ℕ) (n : ℕ) (b : List ℕ) (at : ℕ) {whole : List ℕ} → whole ≡ span f 0 n → at + length whole ≤ length b → SpanLeft f n b at whole b at 0
span_begun f n b at {whole} e fits = let all : n - 0 ≡ n = omega arith in record { left = rw all (subst (Left b at whole b at) e (all_left b at whole fits)) }

module _ {f : ℕ → List ℕ} {n : ℕ} {b : List ℕ} {at : ℕ} {whole b' : List ℕ} {next a : ℕ} (l : SpanLeft f n b at whole b' next a) where
  pub span_done : n ≤ a → Laid b at whole b' next
  span_done h = none_left (subst (Left b at whole b' next) (span_none f n a h) l.left)

  -- those of a are s
  module _ (h : a < n) {s : List ℕ} (e : f a ≡ s) where
    parts : span f a (n - a) ≡ s ++ span f (a + 1) (n - (a + 1))
    parts = span_more f n a h ∙ ap (λ (t : List ℕ). t ++ span f (a + 1) (n - (a + 1))) e

    -- they fit, and once they are laid in the others' are left
    pub span_fits : next + length s ≤ length b'
    span_fits = left_fits l.left s _ parts

    pub span_then : {b'' : List ℕ} {end : ℕ} → Laid b' next s b'' end → SpanLeft f n b at whole b'' end (a + 1)
    span_then m = record { left = left_then l.left s _ parts m }
