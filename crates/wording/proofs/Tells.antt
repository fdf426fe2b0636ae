-- The text determines the formula: it can be read back, whatever follows it. Assumes nothing.
use Prim.Native.Nat.{ℕ, zero, suc, ◌+◌, ◌≤◌}
use mathlib.Core.List.{List, [], ◌∷◌, ◌++◌, append_assoc}
use mathlib.Core.Path.{◌≡◌, refl, sym, ap, ◌∙◌}
use mathlib.Core.Bool.{cond}
use native.Mathlib.Omega.{arith}
use lib.Dec.{eqb}
use lib.ListN.{get_or, drop}
use Rattle.value.specs.declared.Bound.{Bound}
use Rattle.value.specs.declared.Bound.TheVariants.{Within, Unbounded}
use Rattle.syntax.specs.declared.Quantifier.{Quantifier}
use Rattle.syntax.specs.declared.Quantifier.TheVariants.{Some, Every}
use Rattle.syntax.specs.declared.Action.{Action}
use Rattle.syntax.specs.declared.Action.TheVariants.{Any, Only}
use Rattle.syntax.specs.declared.Row.{Row}
use Rattle.syntax.specs.Formula.{Formula, true', false', prop, not_prop, and, or, next, until, root_of, size}
use Rattle.syntax.specs.WellFormed.{WellFormed}
use Rattle.wording.specs.Text.{bound_text, quantifier_text, action_text, text}
use Rattle.decimals.proofs.Decimal.{Stops, value, leading, after, decimal_read, decimal_rest}
use Rattle.wording.proofs.Small.{SmallBound, SmallAction, Small, accepted_small}

-- ---- reading a text back: what stands first, and the rest

abbrev Cut : Type 0 → Type 0
Cut A = A × List ℕ

-- a bound begins with `<`
cut_bound : List ℕ → Cut Bound
cut_bound s = cond (eqb (get_or s 0 0) 60) (Within (value 0 (leading (drop 2 s))), after (drop 2 s)) (Unbounded, s)

-- an action begins with `#`
cut_action : List ℕ → Cut Action
cut_action s = cond (eqb (get_or s 0 0) 35) (Only (value 0 (leading (drop 1 s))), after (drop 1 s)) (Any, s)

module _ (cut : List ℕ → Cut Formula) where
  -- past `(`
  cut_both : List ℕ → Cut Formula
  cut_both s =
      let a = cut s in
      let b = cut (drop 3 a.1) in
      (cond (eqb (get_or a.1 1 0) 38) (and a.0 b.0) (or a.0 b.0), drop 1 b.1)

  -- past `X`
  cut_next : Quantifier → List ℕ → Cut Formula
  cut_next q s =
      let k = cut_action s in
      let b = cut_bound k.1 in
      let a = cut (drop 1 b.1) in
      (next q k.0 a.0 b.0, a.1)

  -- past `[`
  cut_until : Quantifier → List ℕ → Cut Formula
  cut_until q s =
      let a = cut s in
      let b = cut_bound (drop 2 a.1) in
      let c = cut (drop 1 b.1) in
      (until q a.0 c.0 b.0, drop 1 c.1)

  -- past `E` or `A`
  cut_quantified : Quantifier → List ℕ → Cut Formula
  cut_quantified q s = cond (eqb (get_or s 0 0) 88) (cut_next q (drop 1 s)) (cut_until q (drop 1 s))

-- a text begins with `t`, `f`, `p`, `!`, `(`, `E` or `A`
cut : ℕ → List ℕ → Cut Formula
cut zero s = (false', s)
cut (suc n) s =
    cond (eqb (get_or s 0 0) 116) (true', drop 4 s)
    (cond (eqb (get_or s 0 0) 102) (false', drop 5 s)
    (cond (eqb (get_or s 0 0) 112) (prop (value 0 (leading (drop 1 s))), after (drop 1 s))
    (cond (eqb (get_or s 0 0) 33) (not_prop (value 0 (leading (drop 2 s))), after (drop 2 s))
    (cond (eqb (get_or s 0 0) 40) (cut_both (λ t. cut n t) (drop 1 s))
    (cond (eqb (get_or s 0 0) 69) (cut_quantified (λ t. cut n t) Some (drop 1 s))
    (cut_quantified (λ t. cut n t) Every (drop 1 s)))))))

bound_cut : (b : Bound) (r : List ℕ) → SmallBound b → cut_bound (bound_text b ++ 32 ∷ r) ≡ (b, 32 ∷ r)
unfolding cut_bound
bound_cut (Within k) r h = rw (decimal_read k (32 ∷ r) h refl, decimal_rest k (32 ∷ r) refl)
bound_cut Unbounded r h = refl

-- behind an action stands `<` or a blank, and neither is a digit
after_action : (b : Bound) (r : List ℕ) → Stops (bound_text b ++ 32 ∷ r)
after_action (Within k) r = refl
after_action Unbounded r = refl

action_cut : (A : Action) (b : Bound) (r : List ℕ) → SmallAction A → cut_action (action_text A ++ (bound_text b ++ 32 ∷ r)) ≡ (A, bound_text b ++ 32 ∷ r)
unfolding cut_action
action_cut (Only k) b r h =
    let rest : List ℕ = bound_text b ++ 32 ∷ r in
    rw (decimal_read k rest (omega arith) (after_action b r), decimal_rest k rest (after_action b r))
action_cut Any (Within k) r h = refl
action_cut Any Unbounded r h = refl

module _ (cut : List ℕ → Cut Formula) (φ : Formula) (s : List ℕ) where
  next_cut : (r : List ℕ) (q : Quantifier) (A : Action) (b : Bound) → SmallAction A → SmallBound b → cut s ≡ (φ, r)
      → cut_quantified cut q (88 ∷ (action_text A ++ (bound_text b ++ 32 ∷ s))) ≡ (next q A φ b, r)
  unfolding cut_next cut_quantified
  next_cut r q A b k h e = rw (action_cut A b s k, bound_cut b s h, e)

  module _ (t r : List ℕ) where
    both_and : {ψ : Formula} → cut s ≡ (φ, 32 ∷ 38 ∷ 32 ∷ t) → cut t ≡ (ψ, 41 ∷ r) → cut_both cut s ≡ (and φ ψ, r)
    unfolding cut_both
    both_and e f = rw (e, f)

    both_or : {ψ : Formula} → cut s ≡ (φ, 32 ∷ 124 ∷ 32 ∷ t) → cut t ≡ (ψ, 41 ∷ r) → cut_both cut s ≡ (or φ ψ, r)
    unfolding cut_both
    both_or e f = rw (e, f)

    until_cut : (q : Quantifier) (b : Bound) → SmallBound b → {ψ : Formula} → cut s ≡ (φ, 32 ∷ 85 ∷ (bound_text b ++ 32 ∷ t)) → cut t ≡ (ψ, 93 ∷ r)
        → cut_quantified cut q (91 ∷ s) ≡ (until q φ ψ b, r)
    unfolding cut_until cut_quantified
    until_cut q b h e f = rw (e, bound_cut b t h, f)

-- texts with what follows them
text_and : (φ ψ : Formula) (r : List ℕ) → text (and φ ψ) ++ r ≡ 40 ∷ (text φ ++ 32 ∷ 38 ∷ 32 ∷ (text ψ ++ 41 ∷ r))
unfolding text
text_and φ ψ r = simp append_assoc

text_or : (φ ψ : Formula) (r : List ℕ) → text (or φ ψ) ++ r ≡ 40 ∷ (text φ ++ 32 ∷ 124 ∷ 32 ∷ (text ψ ++ 41 ∷ r))
unfolding text
text_or φ ψ r = simp append_assoc

text_next : (φ : Formula) (r : List ℕ) (q : Quantifier) (A : Action) (b : Bound)
    → text (next q A φ b) ++ r ≡ quantifier_text q ++ 88 ∷ (action_text A ++ (bound_text b ++ 32 ∷ (text φ ++ r)))
unfolding text
text_next φ r q A b = simp append_assoc

text_until : (φ ψ : Formula) (r : List ℕ) (q : Quantifier) (b : Bound)
    → text (until q φ ψ b) ++ r ≡ quantifier_text q ++ 91 ∷ (text φ ++ 32 ∷ 85 ∷ (bound_text b ++ 32 ∷ (text ψ ++ 93 ∷ r)))
unfolding text
text_until φ ψ r q b = simp append_assoc

quantified : (n : ℕ) (q : Quantifier) (s : List ℕ) → cut (suc n) (quantifier_text q ++ s) ≡ cut_quantified (λ t. cut n t) q s
unfolding cut
quantified n Some s = refl
quantified n Every s = refl

size_some : (φ : Formula) → 1 ≤ size φ
unfolding size
size_some true' = omega arith
size_some false' = omega arith
size_some (prop i) = omega arith
size_some (not_prop i) = omega arith
size_some (and φ ψ) = omega arith
size_some (or φ ψ) = omega arith
size_some (next q A φ b) = omega arith
size_some (until q φ ψ b) = omega arith

cut_text : (n : ℕ) (φ : Formula) (r : List ℕ) → size φ ≤ n → Small φ → Stops r → cut n (text φ ++ r) ≡ (φ, r)
unfolding cut text size
cut_text zero φ r h s e = absurd (omega (arith, size_some φ))
cut_text (suc n) true' r h s e = refl
cut_text (suc n) false' r h s e = refl
cut_text (suc n) (prop i) r h s e = rw (decimal_read i r s e, decimal_rest i r e)
cut_text (suc n) (not_prop i) r h s e = rw (decimal_read i r s e, decimal_rest i r e)
cut_text (suc n) (and φ ψ) r h s e =
    ap (cut (suc n)) (text_and φ ψ r)
    ∙ both_and (λ t. cut n t) φ _ _ r (cut_text n φ _ (omega arith) s.0 refl) (cut_text n ψ (41 ∷ r) (omega arith) s.1 refl)
cut_text (suc n) (or φ ψ) r h s e =
    ap (cut (suc n)) (text_or φ ψ r)
    ∙ both_or (λ t. cut n t) φ _ _ r (cut_text n φ _ (omega arith) s.0 refl) (cut_text n ψ (41 ∷ r) (omega arith) s.1 refl)
cut_text (suc n) (next q A φ b) r h s e =
    ap (cut (suc n)) (text_next φ r q A b) ∙ quantified n q _
    ∙ next_cut (λ t. cut n t) φ _ r q A b s.0 s.2 (cut_text n φ r (omega arith) s.1 e)
cut_text (suc n) (until q φ ψ b) r h s e =
    ap (cut (suc n)) (text_until φ ψ r q b) ∙ quantified n q _
    ∙ until_cut (λ t. cut n t) φ _ _ r q b s.2 (cut_text n φ _ (omega arith) s.0 refl) (cut_text n ψ (93 ∷ r) (omega arith) s.1 refl)

-- ---- the text determines the formula

pub text_tells_rest : (φ ψ : Formula) (r t : List ℕ) → Small φ → Small ψ → Stops r → Stops t → text φ ++ r ≡ text ψ ++ t → (φ ≡ ψ) × (r ≡ t)
text_tells_rest φ ψ r t s s' e e' same =
    let n : ℕ = size φ + size ψ in
    let both : ◌≡◌ {A = Cut Formula} (φ, r) (ψ, t) = sym (cut_text n φ r (omega arith) s e) ∙ ap (cut n) same ∙ cut_text n ψ t (omega arith) s' e' in
    (ap (λ (c : Cut Formula). c.0) both, ap (λ (c : Cut Formula). c.1) both)

pub text_tells : (φ ψ : Formula) → Small φ → Small ψ → text φ ≡ text ψ → φ ≡ ψ
text_tells φ ψ s s' same = (text_tells_rest φ ψ [] [] s s' refl refl (ap (λ (l : List ℕ). l ++ []) same)).0

pub accepted_text_tells : {p p' : ℕ} {rows rows' : List Row} → WellFormed p rows → WellFormed p' rows' → text (root_of rows) ≡ text (root_of rows') → root_of rows ≡ root_of rows'
accepted_text_tells {rows = rows} {rows' = rows'} w w' same =
    text_tells (root_of rows) (root_of rows') (accepted_small w) (accepted_small w') same
