-- The loop over rounds: how it begins, what holds where a turn begins, how a turn ends, and a round of all records. Assumes nothing.
use Prim.Native.Nat.{ℕ, zero, suc, ◌+◌, ◌-◌, ◌*◌, ◌<◌, ◌≤◌, min}
use mathlib.Core.List.{List, [], ◌∷◌, ◌++◌, append_assoc}
use mathlib.Core.Logic.{inl}
use mathlib.Core.Path.{◌≡◌, refl, sym, ap, ap₂, subst, ◌∙◌}
use lib.ListN.{length, get_or, take, drop, take-append-drop, length-drop}
use lib.Seq.{take-suc, get_or-drop, drop-drop}
use borrow.Author.Tests.{le-leb, lt-leb}
use native.Mathlib.Decide.{ℕ_discrete}
use native.Mathlib.Numerals.{add-one}
use native.Mathlib.Omega.{arith}
use Rattle.value.specs.Stored.{meaning, stored}
use Rattle.value.proofs.Stored.{meaning_stored, stored_le, stored_least}
use Rattle.wire.specs.Layout.{Sound, end}
use Rattle.rules.specs.Graph.{Graph, Closed}
use Rattle.rules.specs.Rounds.{Assignment, Agree, round, rounds, Settled}
use Rattle.rules.specs.Count.{count, First}
use Rattle.rules.proofs.Order.{rounds_next}
use Rattle.rules.proofs.Count.{count_first, first_unique, stops_spent}
use Rattle.rules.proofs.Skip.{Part, skip_round}
use Rattle.graph.specs.Format.{graph_header, cover_width}
use Rattle.graph.specs.Layouts.{hyper_layout, cover_layout, decoded}
use Rattle.graph.specs.Ready.{Ready, Storable}
use Rattle.halves.specs.Held.{held}
use Rattle.halves.specs.Room.{half, Cleared, Raised, Same, Beside}
use Rattle.halves.proofs.Room.{half_at}
use Rattle.scans.specs.Scan.{Done, part_of}
use Rattle.turns.specs.declared.Outcome.TheVariants as Outcome
use Rattle.turns.specs.Outcome.{ended, stored_values, filled}
use Rattle.turns.specs.Turns.{AtRound}

-- numbers that store the values of an assignment
pub values_are : (n : ℕ) (b : List ℕ) (x : Assignment) → n ≤ length b → ((v : ℕ) → v < n → get_or b v 0 ≡ stored (x v)) → take n b ≡ stored_values n x
unfolding stored_values
values_are zero b x h e = refl
values_are (suc n) b x h e =
    take-suc b n 0 (omega arith)
    ∙ ap₂ (λ (l : List ℕ) (k : ℕ). l ++ (k ∷ [])) (values_are n b x (omega arith) (λ v l. e v (omega arith))) (e n (omega arith))

-- a room that holds round i and the next
pub holds_filled : {g : Graph} {budget i : ℕ} {b₀ b : List ℕ} → g.nodes + g.nodes ≤ length b₀ → AtRound g budget i b₀ b → b ≡ filled g i b₀
unfolding filled
holds_filled {g} {budget} {i} {b₀} {b} h w =
    let n = g.nodes in
    let long : n + n ≤ length b = omega (arith, w.same_length) in
    let this = values_are n b (rounds g i) (omega arith) w.this in
    let next = values_are n (drop n b) (rounds g (suc i)) (simp length-drop (omega arith)) (λ v l. get_or-drop n b v 0 ∙ w.next v l) in
    sym (take-append-drop n b)
    ∙ ap₂ ◌++◌ this (sym (take-append-drop n (drop n b)) ∙ ap₂ ◌++◌ next (drop-drop n n b ∙ w.past))
    ∙ sym (append_assoc (stored_values n (rounds g i)) (stored_values n (rounds g (suc i))) (drop (n + n) b₀))

-- what stays is the same seen from any turn
pub from_here : {g : Graph} {budget i : ℕ} {b₀ b : List ℕ} → AtRound g budget i b₀ b → AtRound g budget i b b
from_here a = record {
  within = a.within;
  unsettled = a.unsettled;
  same_length = refl;
  this = a.this;
  next = a.next;
  past = refl;
}

filled_past : (g : Graph) (m : ℕ) (b₀ b : List ℕ) → drop (g.nodes + g.nodes) b ≡ drop (g.nodes + g.nodes) b₀ → filled g m b ≡ filled g m b₀
unfolding filled
filled_past g m b₀ b e = ap (λ (l : List ℕ). stored_values g.nodes (rounds g m) ++ stored_values g.nodes (rounds g (suc m)) ++ l) e

-- so what is filled from a turn on is filled from the start
pub filled_on : {g : Graph} {budget i : ℕ} {b₀ b : List ℕ} → AtRound g budget i b₀ b → (m : ℕ) {b' : List ℕ} → b' ≡ filled g m b → b' ≡ filled g m b₀
filled_on {g} {b₀ = b₀} {b} w m e = e ∙ filled_past g m b₀ b w.past

module _ (g : Graph) (closed : Closed g) (storable : Storable g) where
  -- a stored value of a round means that value
  means : (i v : ℕ) → v < g.nodes → meaning (stored (rounds g i v)) ≡ rounds g i v
  means i v l = meaning_stored (rounds g i v) (λ k e. storable i v k l e)

  -- round 0 everywhere, and round 1 worked out from it
  pub begins : {budget : ℕ} {b₀ b b₁ : List ℕ} → Cleared (g.nodes + g.nodes) b₀ b
      → Done g.nodes 0 g.nodes b b₁ (λ v. min (get_or b (g.nodes + v) 0) (stored (round g (held (half g.nodes 0 b)) v)))
      → AtRound g budget 0 b₀ b₁
  unfolding rounds stored
  begins {budget} {b₀} {b} {b₁} k d =
      let n = g.nodes in
      let first : (v : ℕ) → v < n → get_or b v 0 ≡ stored (rounds g 0 v) = λ v l. k.cleared v (omega arith) in
      let was : Agree g (held (half n 0 b)) (rounds g 0) =
      λ v l. let p : 0 + v ≡ v = omega arith in ap meaning (half_at n 0 b v l ∙ rw p (first v l)) ∙ means 0 v l in
      record {
        within = omega arith;
        unsettled = λ j h. absurd (omega arith);
        same_length = d.same_length ∙ k.same_length;
        this = λ v l. let p : 0 + v ≡ v = omega arith in
            (rw p at (sym (half_at n 0 b₁ v l))) ∙ ap (λ (x : List ℕ). get_or x v 0) d.this ∙ (rw p at (half_at n 0 b v l)) ∙ first v l;
        next = λ v l. omega (arith, d.each v l, ap stored (rounds_next g closed 0 was v l), k.cleared (n + v) (omega arith), stored_le (rounds g 1 v));
        past = d.past ∙ k.rest;
      }

  module _ {budget i : ℕ} {b₀ b : List ℕ} (w : AtRound g budget i b₀ b) where
    -- a number that is the same in both halves stays
    pub same_stays : (v : ℕ) → v < g.nodes → get_or b v 0 ≡ get_or b (g.nodes + v) 0 → rounds g i v ≡ rounds g (suc i) v
    same_stays v l e = sym (means i v l) ∙ ap meaning (sym (w.this v l) ∙ e ∙ w.next v l) ∙ means (suc i) v l

    same_settled : Same g.nodes b → Settled g i
    same_settled s v l = sym (same_stays v l (s v l))

    settled_same : Settled g i → Same g.nodes b
    settled_same s v l = w.this v l ∙ ap stored (sym (s v l)) ∙ sym (w.next v l)

    -- it is the same: settled, at the count
    pub ends_settled : Same g.nodes b → Outcome.Settled i ≡ ended g budget
    unfolding ended
    ends_settled s =
        let first : First g i = record { settled = same_settled s; before = w.unsettled } in
        let e : count g ≡ i = first_unique g (count g) i (count_first g closed) first in
        rw (e, le-leb i budget w.within)

    not_settled : ¬ Same g.nodes b → (j : ℕ) → j ≤ i → ¬ Settled g j
    not_settled ns j h = go (ℕ_discrete j i)
      where
        go : Dec (j ≡ i) → ¬ Settled g j
        go (yes e) s = ns (settled_same (rw e at s))
        go (no e) s = w.unsettled j (omega arith) s

    -- it is another, and the budget is spent
    pub ends_spent : ¬ Same g.nodes b → i ≡ budget → Outcome.Spent i ≡ ended g budget
    unfolding ended
    ends_spent ns e =
        let later = stops_spent g closed budget (λ j h. not_settled ns j (omega arith)) in
        rw (lt-leb (count g) budget later) (ap Outcome.Spent e)

    -- it is another: the first half is brought up to it, and a part of the graph that has all that is not idle is taken in
    pub goes_on : ¬ Same g.nodes b → ¬ (i ≡ budget) → {b₁ b₂ : List ℕ} → Raised g.nodes g.nodes b b₁
        → (p : Graph) → Part g p (rounds g (suc i))
        → Done g.nodes 0 g.nodes b₁ b₂ (λ v. min (get_or b₁ (g.nodes + v) 0) (stored (round p (held (half g.nodes 0 b₁)) v)))
        → AtRound g budget (i + 1) b₀ b₂
    goes_on ns unspent {b₁} {b₂} d p part t =
        let n = g.nodes in
        let this : (v : ℕ) → v < n → get_or b₁ v 0 ≡ stored (rounds g (suc i) v) = λ v l. d.done v l ∙ w.next v l in
        let here : (v : ℕ) → v < n → get_or b₁ (n + v) 0 ≡ stored (rounds g (suc i) v) = λ v l. d.stays (n + v) (omega arith) ∙ w.next v l in
        let was : Agree g (held (half n 0 b₁)) (rounds g (suc i)) =
        λ v l. let q : 0 + v ≡ v = omega arith in ap meaning (half_at n 0 b₁ v l ∙ rw q (this v l)) ∙ means (suc i) v l in
        rw (add-one i) (record {
          within = omega (arith, w.within);
          unsettled = λ j h. not_settled ns j (omega arith);
          same_length = t.same_length ∙ d.same_length ∙ w.same_length;
          this = λ v l. let q : 0 + v ≡ v = omega arith in
              (rw q at (sym (half_at n 0 b₂ v l))) ∙ ap (λ (x : List ℕ). get_or x v 0) t.this ∙ (rw q at (half_at n 0 b₁ v l)) ∙ this v l;
          next = λ v l.
              let a = round p (held (half n 0 b₁)) v in
              omega (arith, t.each v l, here v l, stored_least (rounds g (suc i) v) a, ap stored (skip_round g p closed (suc i) part was v l));
          past = t.past ∙ d.past ∙ w.past;
        })

-- a round that takes in all records: the cover edges stand behind the hyperedges
pub covers_behind : {s : List ℕ} {n h c middle : ℕ} → Ready s n h c → middle ≡ end (hyper_layout s n) h graph_header → Sound (cover_layout s n) c middle
covers_behind {s} {n} {c = c} ready behind = subst (Sound (cover_layout s n) c) (sym behind) ready.sound.covers

-- all records, with all cover edges behind the hyperedges, are no less than the graph
whole_part : (s : List ℕ) (n h c middle : ℕ) (x : Assignment) → middle ≡ end (hyper_layout s n) h graph_header → Part (decoded s n h c) (part_of s n h graph_header (c - 0) (middle + 0 * cover_width)) x
unfolding decoded part_of
whole_part s n h c middle x behind =
    let at : middle + 0 * cover_width ≡ end (hyper_layout s n) h graph_header = omega (arith, behind) in
    let all : c - 0 ≡ c = omega arith in
    rw (at, all) (record { nodes = refl; hyper_of = λ m. m; cover_of = λ m. m; hyper_in = λ m. inl m; cover_in = λ m. inl m })

-- it is another: the first half is brought up to it, and all records are taken in
pub full_round : {s : List ℕ} {n h c middle budget i : ℕ} {b₀ b b₁ b₂ : List ℕ} → Ready s n h c → middle ≡ end (hyper_layout s n) h graph_header
    → AtRound (decoded s n h c) budget i b₀ b → ¬ Same n b → ¬ (i ≡ budget) → Raised n n b b₁
    → Done n 0 n b₁ b₂ (λ v. min (get_or b₁ (n + v) 0) (stored (round (part_of s n h graph_header (c - 0) (middle + 0 * cover_width)) (held (half n 0 b₁)) v)))
    → AtRound (decoded s n h c) budget (i + 1) b₀ b₂
unfolding decoded
full_round ready behind w ns unspent d t = goes_on _ ready.closed ready.storable w ns unspent d _ (whole_part _ _ _ _ _ _ behind) t

-- of what it left nothing is said yet: any node may be another
pub anywhere : {n : ℕ} {b : List ℕ} → Beside n 0 n b
anywhere = record { before = λ v l h. absurd (omega arith); behind = λ v l h. absurd (omega arith) }
