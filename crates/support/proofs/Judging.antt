-- What the numbers that were read say of an edge: whether it is fair to the claims, and whether it backs its source. Assumes nothing.
use Prim.Native.Nat.{ℕ, ◌*◌, ◌≤◌, ◌<◌}
use mathlib.Core.Bool.{Bool, true, false}
use mathlib.Core.List.{List}
use mathlib.Core.Path.{◌≡◌, sym, ap, ◌∙◌}
use native.Mathlib.Omega.{arith}
use Rattle.lists.specs.Lists.{◌∈◌}
use Rattle.lists.proofs.Tests.{clash}
use Rattle.value.specs.Value.{Value, fin, inf, finite}
use Rattle.value.specs.Stored.{stored, meaning, infinite}
use Rattle.value.proofs.Stored.{meaning_infinite, meaning_finite, stored_meaning}
use Rattle.wire.specs.Bytes.{number}
use Rattle.wire.specs.Field.{long_width}
use Rattle.rules.specs.Graph.{Target, Hyper, Cover}
use Rattle.rules.specs.Rounds.{worst, cover_holds}
use Rattle.support.specs.Claims.{claim_width, claimed_value, claimed_rank}
use Rattle.support.specs.Backing.{HyperFair, HyperBacks, CoverFair, CoverBacks}

-- a value whose stored number is not infinity's is what that number means
stored_exact : (w : Value) {a : ℕ} → a ≡ stored w → ¬ (a ≡ infinite) → w ≡ meaning a
unfolding stored
stored_exact (fin w) {a} e h = let q : w ≡ a = omega arith in ap fin q ∙ sym (meaning_finite h)
stored_exact inf e h = absurd (h e)

-- what was read of a hyperedge: the stored value that its source claims, and the one that it gives
pub record HyperRead (claims : List ℕ) (h : Hyper) (claimed given : ℕ) : Type 0 where
  pub claimed_is : claimed ≡ number long_width claims (h.source * claim_width)
  pub fits : claimed ≤ infinite
  pub given_is : given ≡ stored (worst (claimed_value claims) h.targets)

module _ {claims : List ℕ} {h : Hyper} {claimed given : ℕ} (r : HyperRead claims h claimed given) where
  -- the source's value is what was read
  source_is : claimed_value claims h.source ≡ meaning claimed
  source_is = ap meaning (sym r.claimed_is)

  source_stored : stored (claimed_value claims h.source) ≡ claimed
  source_stored = ap stored source_is ∙ stored_meaning claimed r.fits

  pub hyper_fair : claimed ≤ given → HyperFair (claimed_value claims) h
  hyper_fair l = omega (arith, source_stored, r.given_is)

  pub hyper_breaks : given < claimed → ¬ HyperFair (claimed_value claims) h
  hyper_breaks l fair = omega (arith, source_stored, r.given_is)

  pub hyper_more : claimed < given → ¬ HyperBacks (claimed_value claims) (claimed_rank claims) h
  hyper_more l b = omega (arith, source_stored, r.given_is, ap stored b.exact)

  pub hyper_other : ¬ (given ≡ claimed) → ¬ HyperBacks (claimed_value claims) (claimed_rank claims) h
  hyper_other n b = n (r.given_is ∙ ap stored b.exact ∙ source_stored)

  pub hyper_infinite : claimed ≡ infinite → ¬ HyperBacks (claimed_value claims) (claimed_rank claims) h
  hyper_infinite e b = clash b.settled (ap finite (source_is ∙ meaning_infinite e))

  pub hyper_backs : claimed ≤ given → given ≤ claimed → ¬ (claimed ≡ infinite)
      → ((t : Target) → t ∈ h.targets → claimed_rank claims t.node < claimed_rank claims h.source)
      → HyperBacks (claimed_value claims) (claimed_rank claims) h
  hyper_backs l k n lower = record {
    settled = ap finite (source_is ∙ meaning_finite n);
    exact = stored_exact _ (omega (arith, r.given_is)) n ∙ sym source_is;
    lower = lower;
  }

-- what was read of a cover edge: whether it holds, and the stored value that its source claims
pub record CoverRead (claims : List ℕ) (c : Cover) (holds : Bool) : Type 0 where
  pub holds_is : holds ≡ cover_holds (claimed_value claims) c

module _ {claims : List ℕ} {c : Cover} {holds : Bool} (r : CoverRead claims c holds) where
  pub cover_idle : holds ≡ false → CoverFair (claimed_value claims) c × ¬ CoverBacks (claimed_value claims) (claimed_rank claims) c
  cover_idle e = (λ h. clash h (sym r.holds_is ∙ e), λ b. clash b.holds (sym r.holds_is ∙ e))

  module _ (met : holds ≡ true) {claimed : ℕ} (claimed_is : claimed ≡ number long_width claims (c.source * claim_width)) (fits : claimed ≤ infinite) where
    pub cover_breaks : 0 < claimed → ¬ CoverFair (claimed_value claims) c
    unfolding stored
    cover_breaks l fair =
        let zero : stored (meaning claimed) ≡ 0 = ap stored (ap meaning claimed_is ∙ fair (sym r.holds_is ∙ met)) in
        omega (arith, stored_meaning claimed fits)

    pub cover_fair : claimed ≤ 0 → claimed_value claims c.source ≡ fin 0
    cover_fair l =
        let none : claimed ≡ 0 = omega arith in ap meaning (sym claimed_is ∙ none) ∙ meaning_finite (λ e. omega arith)

    pub cover_backs : claimed ≤ 0 → claimed_rank claims c.target < claimed_rank claims c.source
        → CoverBacks (claimed_value claims) (claimed_rank claims) c
    cover_backs l lower = record { holds = sym r.holds_is ∙ met; zero = cover_fair l; lower = lower }
