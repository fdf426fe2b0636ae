-- Rounds keep the order of assignments and fall; a round that is settled is the largest assignment that obeys the rules.
-- Assumes nothing.
use mathlib.Core.Path.{sym, ◌∙◌}
use Prim.Native.Nat.{ℕ, zero, suc}
use native.Mathlib.Omega.{arith}
use Rattle.value.specs.Value.{Value, plus, ◌≼◌, ◌⊑◌}
use Rattle.rules.specs.Graph.{Graph, Closed}
use Rattle.rules.specs.Rounds.{Assignment, round, rounds, Agree, Obeys, Settled, Below, Largest}
use Rattle.value.proofs.Values.{plus-≼, ≼-plus, ⊑_trans, ⊑-of_eq, ⊑-inf, ⊑-antisym, meets_mono}
use Rattle.rules.proofs.Reasons.{Reason, by_cover, by_hyper, reason, at_most_lem}

-- a target's sum falls with its value
pub plus_mono : (w : ℕ) {a b : Value} {k : ℕ} → a ⊑ b → plus w b ≼ k → plus w a ≼ k
plus_mono w {a} {b} h p = let q = ≼-plus w b p in plus-≼ w a (h.carries q.1) (omega arith)

module _ (g : Graph) (closed : Closed g) where
  -- a reason under y is a reason under any x below y
  pub reason_mono : {x y : Assignment} {v k : ℕ} → Below g x y → Reason g y v k → Reason g x v k
  reason_mono h (by_cover c m s e) = by_cover c m s (meets_mono c.bound (h c.target (closed.cover m)) e)
  reason_mono h (by_hyper e m s f) = by_hyper e m s (λ t n. plus_mono t.weight (h t.node (closed.hyper m n)) (f t n))

  -- a smaller assignment has a smaller round
  pub round_mono : {x y : Assignment} → Below g x y → Below g (round g x) (round g y)
  round_mono {x} {y} h v l = record { carries = λ p. at_most_lem g x v (reason_mono h (reason g y v p)) }

  -- a round depends on the values of the nodes alone
  pub round_agree : {x y : Assignment} → Agree g x y → Agree g (round g x) (round g y)
  round_agree e v l = ⊑-antisym (round_mono (λ u k. ⊑-of_eq (e u k)) v l) (round_mono (λ u k. ⊑-of_eq (sym (e u k))) v l)

  -- so an assignment that holds round i gives round i + 1
  pub rounds_next : {x : Assignment} (i : ℕ) → Agree g x (rounds g i) → Agree g (round g x) (rounds g (suc i))
  unfolding rounds
  rounds_next i e v l = round_agree e v l

  -- a round is at most the one before it
  pub rounds_fall : (i : ℕ) → Below g (rounds g (suc i)) (rounds g i)
  unfolding rounds
  rounds_fall zero v l = ⊑-inf
  rounds_fall (suc i) v l = round_mono (rounds_fall i) v l

  -- an assignment that obeys the rules is below every round
  pub obeys_below : {a : Assignment} → Obeys g a → (i : ℕ) → Below g a (rounds g i)
  unfolding rounds
  obeys_below o zero v l = ⊑-inf
  obeys_below o (suc i) v l = ⊑_trans (⊑-of_eq (sym (o v l))) (round_mono (obeys_below o i) v l)

  -- a settled round obeys the rules, and is the largest that does
  pub settled_obeys : (i : ℕ) → Settled g i → Obeys g (rounds g i)
  unfolding rounds
  settled_obeys i s v l = s v l

  pub settled_largest : (i : ℕ) → Settled g i → Largest g (rounds g i)
  settled_largest i s = record { obeys = settled_obeys i s; largest = λ y o. obeys_below o i }

-- what holds of an assignment holds of one that agrees with it at every node
pub largest_agree : (g : Graph) → Closed g → {x y : Assignment} → Largest g x → Agree g y x → Largest g y
largest_agree g closed p e = record {
  obeys = λ v l. round_agree g closed e v l ∙ p.obeys v l ∙ sym (e v l);
  largest = λ z o v l. ⊑_trans (p.largest z o v l) (⊑-of_eq (sym (e v l)));
}

-- there is one largest assignment only
pub largest_unique : (g : Graph) (x y : Assignment) → Largest g x → Largest g y → Agree g x y
largest_unique g x y p q v l = ⊑-antisym (q.largest x p.obeys v l) (p.largest y q.obeys v l)
