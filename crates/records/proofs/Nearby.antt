-- A loop that lays in what one makes of each transition that passes a test: what it makes of any is written where the next belongs, and
-- stays there where the transition passes. Assumes nothing.
use Prim.Native.Nat.{ℕ, zero, suc, ◌+◌, ◌*◌, ◌-◌, ◌<◌, ◌≤◌}
use mathlib.Core.List.{List, [], ◌∷◌, ◌++◌, append_assoc}
use mathlib.Core.Bool.{Bool, true, false, cond}
use mathlib.Core.Path.{◌≡◌, refl, sym, ap, ap₂, subst, ◌∙◌}
use native.Mathlib.Nat.{suc-mul}
use native.Mathlib.Omega.{arith}
use lib.ListN.{length, take, drop, length-append}
use lib.Seq.{length-take-le, take_at, drop-drop, drop-append-add}
use Rattle.lists.specs.Lists.{◌∈◌}
use Rattle.lists.specs.Making.{keep}
use Rattle.value.specs.declared.Bound.{Bound}
use Rattle.syntax.specs.declared.Action.{Action}
use Rattle.wire.specs.Bytes.{number}
use Rattle.wire.specs.Laid.{laid, Laid}
use Rattle.wire.specs.Layout.{items}
use Rattle.wire.specs.Write.{write_all}
use Rattle.wire.proofs.Exact.{length_write_all}
use Rattle.wire.proofs.Laid.{Left, none_left, same_length, nothing, said}
use Rattle.wire.proofs.Parts.{∈-items, items-∈}
use Rattle.wire.proofs.Written.{write_all_map, write_all_keep}
use Rattle.graph.specs.Write.{write_target}
use Rattle.graph.proofs.Exact.{target_length}
use Rattle.model.specs.Format.{weight_at, action_at, to_at, transition_width, transition_at}
use Rattle.model.specs.Model.{Transition}
use Rattle.syntax.specs.declared.Quantifier.{Quantifier}
use Rattle.syntax.specs.declared.Quantifier.TheVariants.{Some, Every}
use Rattle.reduction.specs.Built.{to, looks_at}
use Rattle.transitions.specs.Held.{transition_layout, transitions_from, Reads, LeadTo}
use Rattle.records.specs.Bytes.{hypers_bytes, some_next, every_next, near_bytes, near_width, nearby_bytes}
use Rattle.transitions.specs.Looked.{is_near}
use Rattle.transitions.proofs.Counting.{passing_le}
use Rattle.records.proofs.Edges.{single_length, Filling, next_filled}

-- ---- what is laid in where the rest belongs is laid over by it

laid_over : (b : List ℕ) (at : ℕ) (s rest : List ℕ) → at + length s ≤ length b → length s ≤ length rest → laid (laid b at s) at rest ≡ laid b at rest
unfolding laid
laid_over b at s rest inside short =
    let front : List ℕ = take at b ++ s in
    let back : List ℕ = drop (at + length s) b in
    let before : length (take at b) ≡ at = length-take-le at b (omega arith) in
    let long : length front ≡ at + length s = length-append (take at b) s ∙ ap (λ (n : ℕ). n + length s) before in
    let more : ℕ = length rest - length s in
    let same : at + length rest ≡ length front + more = omega arith in
    let past : at + length s + more ≡ at + length rest = omega arith in
    let kept : take at (front ++ back) ≡ take at b = ap (take at) (append_assoc (take at b) s back) ∙ take_at (take at b) (s ++ back) at before in
    let beyond : drop (at + length rest) (front ++ back) ≡ drop (at + length rest) b =
    ap (λ (n : ℕ). drop n (front ++ back)) same ∙ drop-append-add front back more ∙ drop-drop more (at + length s) b ∙ ap (λ (n : ℕ). drop n b) past in
    ap₂ (λ (x y : List ℕ). x ++ rest ++ y) kept beyond

left_over : {b : List ℕ} {at : ℕ} {whole b' : List ℕ} {next : ℕ} {rest s b'' : List ℕ} {end : ℕ} → Left b at whole b' next rest → Laid b' next s b'' end
    → length s ≤ length rest → Left b at whole b'' next rest
left_over {b' = b'} {next} {rest} {s} l m short = record {
  room_is = ap (λ (c : List ℕ). laid c next rest) m.room_is ∙ laid_over b' next s rest m.inside short ∙ l.room_is;
  next_is = l.next_is;
  length_is = same_length m ∙ l.length_is;
  whole_fits = l.whole_fits;
}

-- ---- what EX and AX write for transitions

-- how long it is for one
pub near_long : (q : Quantifier) (v node : ℕ) → length (near_bytes q v node) ≡ near_width q
unfolding near_bytes near_width
near_long Some v node = single_length v (to 0 node)
near_long Every v node = target_length (to 0 node)

pub near_wide : (q : Quantifier) → 0 < near_width q
unfolding near_width
near_wide Some = omega arith
near_wide Every = omega arith

-- fewer transitions can be read too
among : (m : List ℕ) (n first many k : ℕ) → k ≤ many → {u : Transition} → u ∈ transitions_from m n first k → u ∈ transitions_from m n first many
among m n first many k h e =
    let at = ∈-items (transition_layout m) k (transition_at n first) e in
    subst (λ (x : Transition). x ∈ transitions_from m n first many) (sym at.2) (items-∈ (transition_layout m) many (transition_at n first) at.0 (omega (arith, at.1)))

pub fewer_read : {m : List ℕ} {n first many : ℕ} → Reads m n first many → (k : ℕ) → k ≤ many → Reads m n first k
fewer_read {m} {n} {first} {many} r k h = record {
  long = omega (arith, r.long);
  weights_fit = λ e. r.weights_fit (among m n first many k h e);
  actions_fit = λ e. r.actions_fit (among m n first many k h e);
}

pub fewer_named : (m : List ℕ) (n first many : ℕ) → LeadTo n (transitions_from m n first many) → (k : ℕ) → k ≤ many → LeadTo n (transitions_from m n first k)
fewer_named m n first many named k h u e = named u (among m n first many k h e)

-- for those that are looked at it is the hyperedges of EX, or the targets of that of AX
module _ {q : Quantifier} (v low high most shift : ℕ) (us : List Transition) (A : Action) (b : Bound)
    (kept : keep (looks_at A b) us ≡ keep (is_near low high most) us) where
  pub some_nearby : q ≡ Some → hypers_bytes v (some_next us A b shift) ≡ nearby_bytes q v low high most shift us
  unfolding near_bytes
  some_nearby e = rw e (simp write_all_map (ap (write_all (λ u. near_bytes Some v (u.to + shift))) kept))

  pub every_nearby : q ≡ Every → write_all write_target (every_next us A b shift) ≡ nearby_bytes q v low high most shift us
  unfolding near_bytes
  every_nearby e = rw e (simp write_all_map (ap (write_all (λ u. near_bytes Every v (u.to + shift))) kept))

-- ---- the loop

-- the same, with the next position said otherwise
pub filled_at : {m : List ℕ} {n : ℕ} {one : Transition → List ℕ} {b : List ℕ} {at : ℕ} {whole b' : List ℕ} {next p i x : ℕ}
    → Filling m n one b at whole b' next p i → x ≡ next → Filling m n one b at whole b' x p i
filled_at f e = rw e f

-- what is made of a transition that passes
unfoldable pub near : (Transition → Bool) → (Transition → List ℕ) → Transition → List ℕ
near test one u = cond (test u) (one u) []

-- as many bytes as the transitions that pass ask for
pub near_length : (test : Transition → Bool) (one : Transition → List ℕ) (k : ℕ) → ((u : Transition) → length (one u) ≡ k) → (us : List Transition)
    → length (write_all (near test one) us) ≡ length (keep test us) * k
unfolding near
near_length test one k each us = ap length (sym (write_all_keep one test us)) ∙ length_write_all one k each (keep test us)

module _ (m : List ℕ) (n : ℕ) (test : Transition → Bool) (one : Transition → List ℕ) (k : ℕ) (each : (u : Transition) → length (one u) ≡ k) where
  module _ {b : List ℕ} {at : ℕ} {whole b' : List ℕ} {next p i : ℕ} (f : Filling m n (near test one) b at whole b' next p i) where
    abbrev left : ℕ
    left = length (keep test (items (transition_layout m) i p))

    ends : next + left * k ≡ at + length whole
    ends = ap (λ (l : ℕ). next + l) (sym (near_length test one k each (items (transition_layout m) i p))) ∙ f.left.next_is

    -- with no byte left, the whole is laid in
    pub near_none : at + length whole ≤ next → Laid b at whole b' next
    near_none h = go _ f.left (omega (arith, f.left.next_is))
      where
        go : (rest : List ℕ) → Left b at whole b' next rest → length rest ≡ 0 → Laid b at whole b' next
        go [] l e = none_left l
        go (a ∷ rest) l e = absurd (omega arith)

    -- where one that passes is left, bytes are
    pub near_short : 0 < k → 1 ≤ left → next < at + length whole
    near_short pos h = go left ends h
      where
        go : (l : ℕ) → next + l * k ≡ at + length whole → 1 ≤ l → next < at + length whole
        go zero e h = absurd (omega arith)
        go (suc l) e h = let product : suc l * k ≡ l * k + k = suc-mul l k in omega arith

    module _ (h : next < at + length whole) where
      -- with bytes left, there is a transition that passes
      some : (l : ℕ) → next + l * k ≡ at + length whole → (1 ≤ l) × (k ≤ l * k)
      some zero e = absurd (omega arith)
      some (suc l) e = (omega arith, rw suc-mul (omega arith))

      pub near_some : 0 < i
      near_some = omega (arith, (some left ends).0, passing_le (transition_layout m) test i p)

      pub near_fits : next + k ≤ length b'
      near_fits = omega (arith, (some left ends).1, ends, f.left.length_is, f.left.whole_fits)

      -- with its weight and the state that it leads to as they were read
      module _ {w v : ℕ} (weight_is : w ≡ number 4 m (p + weight_at)) (to_is : v ≡ number 2 m (p + to_at)) {b'' : List ℕ} {end : ℕ}
          (put : Laid b' next (one (record { from = number 2 m p; weight = w; action = number 2 m (p + action_at); to = v })) b'' end) where
        abbrev it : Transition
        it = record { from = number 2 m p; weight = w; action = number 2 m (p + action_at); to = v }

        bytes_are : {t : Bool} → test it ≡ t → cond (test it) (one it) [] ≡ cond t (one it) []
        bytes_are e = ap (λ (t : Bool). cond t (one it) []) e

        -- where it passes, what was made of it stays
        pub near_stays : test it ≡ true → Filling m n (near test one) b at whole b'' end (p + transition_width) (i - 1)
        unfolding near
        near_stays e = next_filled m n (near test one) f near_some weight_is to_is (said put (bytes_are e) refl refl)

        -- where it doesn't, it will be laid over
        pub near_goes : test it ≡ false → Filling m n (near test one) b at whole b'' next (p + transition_width) (i - 1)
        unfolding near
        near_goes e =
            let none = nothing b' next (omega (arith, f.left.next_is, f.left.length_is, f.left.whole_fits)) in
            let on = next_filled m n (near test one) f near_some weight_is to_is (said none (bytes_are e) refl refl) in
            record {
              readable = on.readable;
              named = on.named;
              left = left_over on.left put (omega (arith, each it, on.left.next_is, (some left ends).1, ends));
            }
