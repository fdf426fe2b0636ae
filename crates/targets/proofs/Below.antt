-- How far what targets give stays below infinity: of one target, and of targets in two parts, as a loop takes them. Assumes nothing.
use Prim.Native.Nat.{ℕ, zero, suc, ◌+◌, ◌-◌, ◌*◌, ◌/◌, ◌≤◌, min, max}
use mathlib.Core.List.{List, [], ◌∷◌, ◌++◌}
use mathlib.Core.Path.{◌≡◌, refl, sym, ap, subst, ◌∙◌}
use native.Mathlib.Omega.{arith}
use lib.ListN.{length}
use Rattle.value.specs.Value.{plus}
use Rattle.value.specs.Stored.{stored, infinite}
use Rattle.value.proofs.Stored.{stored_le, stored_greatest}
use Rattle.wire.specs.Bytes.{number}
use Rattle.wire.specs.Layout.{items, Sound, none, more}
use Rattle.wire.proofs.Layouts.{end_none}
use Rattle.wire.proofs.Stride.{items_append, end_wide}
use Rattle.wire.proofs.Parts.{sound_at, part_sound}
use Rattle.rules.specs.Graph.{Target}
use Rattle.rules.specs.Rounds.{Assignment, worst}
use Rattle.graph.specs.Format.{node_at, target_width}
use Rattle.graph.specs.Layouts.{target_layout, TargetOk}
use Rattle.targets.specs.Below.{below}

module _ (x : Assignment) where
  pub below_le : (ts : List Target) → below x ts ≤ infinite
  unfolding below
  below_le ts = omega arith

  -- the greatest, from how far it stays below
  pub below_worst : (ts : List Target) → infinite - below x ts ≡ stored (worst x ts)
  unfolding below
  below_worst ts = omega (arith, stored_le (worst x ts))

  below_nil : below x [] ≡ infinite
  unfolding below worst stored
  below_nil = refl

  below_more : (t : Target) (ts : List Target) → below x (t ∷ ts) ≡ min (infinite - stored (plus t.weight (x t.node))) (below x ts)
  unfolding below worst
  below_more t ts = omega (arith, stored_greatest (plus t.weight (x t.node)) (worst x ts))

  below_append : (ts us : List Target) → below x (ts ++ us) ≡ min (below x ts) (below x us)
  below_append [] us = omega (arith, below_le us, below_nil)
  below_append (t ∷ ts) us =
      omega (arith, below_append ts us, below_more t ts, below_more t (ts ++ us))

module _ (s : List ℕ) (n : ℕ) where
  -- sound targets, if there are any, end within the bytes
  pub sound_inside : (k at : ℕ) → Sound (target_layout s n) k at → at + k * target_width ≤ max at (length s)
  sound_inside zero at sound = omega arith
  sound_inside (suc k) at sound =
      let L = target_layout s n in
      let last = subst (TargetOk s n) (end_wide L target_width (λ at. refl) k at) (sound_at L k (omega arith) sound) in
      omega (arith, last.inside)

  -- each of four
  pub sound_four : {at : ℕ} → Sound (target_layout s n) 4 at
      → let b = at + target_width in let c = b + target_width in TargetOk s n at × TargetOk s n b × TargetOk s n c × TargetOk s n (c + target_width)
  sound_four (more a (more b (more c (more d none)))) = (a, b, c, d)

  -- the first j of k targets, and the rest, which stand at p
  module _ (j k at rest p : ℕ) (all : k ≡ j + rest) (there : p ≡ at + j * target_width) where
    pub sound_parts : Sound (target_layout s n) k at → Sound (target_layout s n) j at × Sound (target_layout s n) rest p
    sound_parts sound =
        let L = target_layout s n in
        let first = part_sound L k at 0 j at (omega arith) (λ some. sym (end_none L 0 at refl)) sound in
        let others = part_sound L k at j k p (omega arith) (λ some. there ∙ sym (end_wide L target_width (λ at. refl) j at)) sound in
        let whole : j - 0 ≡ j = omega arith in
        let left : k - j ≡ rest = omega arith in
        (subst (λ (i : ℕ). Sound L i at) whole first, subst (λ (i : ℕ). Sound L i p) left others)

    pub below_parts : (x : Assignment) → let L = target_layout s n in below x (items L k at) ≡ min (below x (items L j at)) (below x (items L rest p))
    below_parts x =
        let L = target_layout s n in
        ap (λ (i : ℕ). below x (items L i at)) all
        ∙ ap (below x) (items_append L target_width (λ at. refl) j rest at)
        ∙ below_append x _ _
        ∙ ap (λ (q : ℕ). min (below x (items L j at)) (below x (items L rest q))) (sym there)

    -- a loop's turn: the least so far, and that over the targets left, make the whole
    pub below_turn : (x : Assignment) (least next whole : ℕ) → let L = target_layout s n in min least (below x (items L k at)) ≡ whole
        → next ≡ min least (below x (items L j at)) → min next (below x (items L rest p)) ≡ whole
    below_turn x least next whole e here = omega (arith, e, here, below_parts x)

  -- the fours, and the targets left over
  pub below_fours : (k at : ℕ) (x : Assignment) → let L = target_layout s n in
      below x (items L k at) ≡ min (below x (items L (k / 4 * 4) at)) (below x (items L (k - k / 4 * 4) (at + k / 4 * (4 * target_width))))
  below_fours k at x = below_parts (k / 4 * 4) k at (k - k / 4 * 4) (at + k / 4 * (4 * target_width)) (omega arith) (omega arith) x

  module _ (x : Assignment) where
    pub below_none : (k at : ℕ) → k ≡ 0 → below x (items (target_layout s n) k at) ≡ infinite
    unfolding items
    below_none k at h = ap (λ (j : ℕ). below x (items (target_layout s n) j at)) h ∙ below_nil x

    pub below_one : (at : ℕ) → below x (items (target_layout s n) 1 at) ≡ infinite - stored (plus (number 4 s at) (x (number 2 s (at + node_at))))
    unfolding items
    below_one at = omega (arith, below_more x ((target_layout s n).item at) [], below_nil x)

    pub below_four : (at : ℕ) → let L = target_layout s n in let b = at + target_width in let c = b + target_width in let d = c + target_width in
        below x (items L 4 at) ≡ min (min (below x (items L 1 at)) (below x (items L 1 b))) (min (below x (items L 1 c)) (below x (items L 1 d)))
    below_four at =
        let b = at + target_width in
        let c = b + target_width in
        omega (arith, below_parts 1 4 at 3 b refl refl x, below_parts 1 3 b 2 c refl refl x, below_parts 1 2 c 1 (c + target_width) refl refl x)
