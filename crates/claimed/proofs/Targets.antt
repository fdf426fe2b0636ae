-- Targets that are judged one by one: those that are left are sound exactly where all are. Assumes nothing.
use Rattle.std.proofs.Common.{◌≡◌, ℕ, zero, suc, ◌-◌, ◌<◌, sym, ◌∙◌, subst, not-suc-le-zero, sub-one, Option, None, Some}
use Rattle.value.specs.Stored.{infinite}
use Rattle.rules.specs.Graph.{Target}
use Rattle.claimed.specs.declared.Given.{Given}
use Rattle.claimed.specs.Targets.{Named}
use Rattle.wire.specs.Layout.{Layout, Sound, none, more}
use Rattle.wire.proofs.Layouts.{sound_more}

module _ {A : Type 0} (L : Layout A) where
  -- one more record is sound
  sound_one : (i p : ℕ) → 0 < i → L.Ok p → Sound L (i - 1) (L.next p) → Sound L i p
  sound_one zero p h ok rest = absurd (not-suc-le-zero h)
  sound_one (suc i) p h ok rest = more ok (rw sub-one at rest)

  -- of the k records at a position i are left, at p
  pub record Rest (k at i p : ℕ) : Type 0 where
    pub whole : Sound L i p → Sound L k at
    pub part : Sound L k at → Sound L i p

  pub rest_all : (k at : ℕ) → Rest k at k at
  rest_all k at = record { whole = λ s. s; part = λ s. s }

module _ {A : Type 0} {L : Layout A} {k at i p : ℕ} (r : Rest L k at i p) where
  -- the next one is sound, or not; or none is left
  pub rest_more : 0 < i → L.Ok p → Rest L k at (i - 1) (L.next p)
  rest_more h ok = record { whole = λ s. r.whole (sound_one L i p h ok s); part = λ s. (sound_more L h (r.part s)).1 }

  pub rest_odd : 0 < i → ¬ L.Ok p → ¬ Sound L k at
  rest_odd h odd s = odd (sound_more L h (r.part s)).0

  pub rest_none : i ≡ 0 → Sound L k at
  rest_none e = r.whole (subst (λ (j : ℕ). Sound L j p) (sym e) none)

-- what was found of the targets that are left is found of all, where one before them is infinite
pub named_rest : {L : Layout Target} {k at i p : ℕ} (gives end : ℕ) → Rest L k at i p → gives ≡ infinite → (r : Option Given) → Named L i p infinite end r → Named L k at gives end r
named_rest gives end r e None odd = λ s. odd (r.part s)
named_rest gives end r e (Some given) (sound, is, ends) = (r.whole sound, is ∙ sym e, ends)
