-- Hyperedges that are passed together: what passes is read without a fault. Assumes nothing.
use Prim.Native.Nat.{ℕ, zero, suc, ◌+◌, ◌*◌, ◌-◌, ◌/◌, ◌<◌, ◌≤◌, max}
use mathlib.Core.List.{List}
use mathlib.Core.Bool.{Bool, true, false, ◌&&◌, and_assoc}
use mathlib.Core.Path.{◌≡◌, refl, sym, ap, subst, ◌∙◌}
use lib.ListN.{length}
use lib.Dec.{ltb, leb}
use borrow.Author.Tests.{le-leb, leb-true, ltb-true, ltb-false, lt-ltb, le-ltb}
use native.Mathlib.Nat.{suc-add, zero-add}
use native.Mathlib.Omega.{arith}
use Rattle.lists.proofs.Tests.{by_test, and_left, and_right}
use Rattle.std.specs.Prelude.{Some, None}
use Rattle.wire.specs.Bytes.{number, Bytes}
use Rattle.wire.specs.Read.{Ok}
use Rattle.wire.specs.Reader.{one, run}
use Rattle.wire.specs.declared.State.{State}
use Rattle.wire.proofs.Fields.{field_value}
use Rattle.wire.proofs.Reading.{reading, good_source, good_then}
use Rattle.wire.proofs.Readers.{run_none, run_more, run_good, all_length}
use Rattle.ordered.proofs.Told.{named_above}
use Rattle.graph.specs.Format.{most_targets, target_count_at, hyper_width, node_at, target_width}
use Rattle.graph.specs.Message.{read_hyper, read_targets, targets, hypers, first_target, after_hyper}
use Rattle.graph.specs.Names.{fours, all_named}
use Rattle.graph.specs.Near.{greatest, gathered, source_at, count_at, many, behind, pass, sound}
use Rattle.graph.specs.declared.Gathered.{Gathered}
use Rattle.graph.specs.declared.Rest.{Rest}
use Rattle.graph.specs.declared.Passed.{Passed}
use Rattle.graph.proofs.Names.{run_past}

-- the greater of two is below a limit where both are
max_below : (a b l : ℕ) → ltb (max a b) l ≡ (ltb a l && ltb b l)
max_below a b l =
    by_test (ltb a l)
    (λ t.
    let less = ltb-true a l t in
    by_test (ltb b l)
    (λ u. let less-too = ltb-true b l u in lt-ltb (max a b) l (omega arith) ∙ sym (rw (t, u) refl))
    (λ f. let more = ltb-false b l f in le-ltb (max a b) l (omega arith) ∙ sym (rw (t, f) refl)))
    (λ f. let more = ltb-false a l f in le-ltb (max a b) l (omega arith) ∙ sym (rw f refl))

module _ (s : List ℕ) where
  -- targets, and targets behind them
  pub greatest_split : (i j at : ℕ) → greatest s (i + j) at ≡ max (greatest s i at) (greatest s j (at + i * target_width))
  unfolding greatest
  greatest_split zero j at =
      let same : at + 0 * target_width ≡ at = omega arith in
      let rest : ℕ = greatest s j at in
      rw (zero-add, same) (let z : rest ≡ max 0 rest = omega arith in z)
  greatest_split (suc i) j at =
      let same : at + target_width + i * target_width ≡ at + suc i * target_width = omega arith in
      let here : ℕ = number 4 s (at + node_at) in
      let near : ℕ = greatest s i (at + target_width) in
      let far : ℕ = greatest s j (at + suc i * target_width) in
      rw (suc-add i j, greatest_split i j (at + target_width), same) (let z : max here (max near far) ≡ max (max here near) far = omega arith in z)

  -- one target
  pub greatest_one : (at : ℕ) → greatest s 1 at ≡ number 4 s (at + node_at)
  unfolding greatest
  greatest_one at = omega arith

  -- four
  pub greatest_four : (at : ℕ) → greatest s 4 at
      ≡ max (max (number 4 s (at + node_at)) (number 4 s (at + target_width + node_at)))
      (max (number 4 s (at + target_width + target_width + node_at)) (number 4 s (at + target_width + target_width + target_width + node_at)))
  unfolding greatest
  greatest_four at = omega arith

  -- what was gathered of the targets before a place, w at a time
  pub record SoFar (w first before at most : ℕ) : Type 0 where
    pub many : ℕ
    pub reached : at ≡ first + many * w * target_width
    pub is : most ≡ max before (greatest s (many * w) first)

  pub none_so_far : (w first before : ℕ) → SoFar w first before first before
  unfolding greatest
  none_so_far w first before =
      let none : 0 * w ≡ 0 = omega arith in
      let same : before ≡ max before 0 = omega arith in
      record { many = 0; reached = omega arith; is = rw none same }

  pub one_more : {w first before at most : ℕ} (g : SoFar w first before at most) (next here : ℕ) → here ≡ greatest s w at → next ≡ max most here
      → SoFar w first before (at + w * target_width) next
  one_more {w} {first} {before} {at} {most} g next here is becomes =
      let count : (g.many + 1) * w ≡ g.many * w + w = omega arith in
      let split = greatest_split (g.many * w) w first in
      let place : first + g.many * w * target_width ≡ at = sym g.reached in
      let all : greatest s ((g.many + 1) * w) first ≡ max (greatest s (g.many * w) first) here =
      rw count (split ∙ rw (place, is) refl) in
      record { many = g.many + 1; reached = omega (arith, g.reached, count); is = omega (arith, all, g.is, becomes) }

  -- fours, and the targets behind them, are k
  pub greatest_all : (k first end before : ℕ) → end ≡ first + k * target_width → let many = fours first end * 4 in
      max (max before (greatest s many first)) (greatest s ((end - (first + many * target_width)) / target_width) (first + many * target_width))
      ≡ max before (greatest s k first)
  greatest_all k first end before e =
      let many : ℕ = fours first end * 4 in
      let rest : ℕ = (end - (first + many * target_width)) / target_width in
      let all : many + rest ≡ k = omega (arith, e) in
      let split = greatest_split many rest first in
      let same = ap (λ (j : ℕ). greatest s j first) all in
      omega (arith, split, same)

  -- so all of them are gathered
  pub gathered_all : (k end : ℕ) (from : Gathered) → end ≡ from.at + k * target_width
      → let first = gathered s (fours from.at end * 4) from in gathered s ((end - first.at) / target_width) first ≡ gathered s k from
  gathered_all k end from e =
      let many : ℕ = fours from.at end * 4 in
      let behind_them : ℕ = from.at + many * target_width in
      let there : behind_them + (end - behind_them) / target_width * target_width ≡ from.at + k * target_width = omega (arith, e) in
      let most = greatest_all k from.at end from.most e in
      λ i. record { at = there i; most = most i }

  -- the greatest is below n times 65,536 where all targets name nodes
  pub greatest_named : (n : ℕ) → Bytes s → (k at g : ℕ) → ltb (max g (greatest s k at)) (n * 65536) ≡ (ltb g (n * 65536) && all_named s n k at)
  unfolding greatest all_named
  greatest_named n bytes zero at g =
      let same : max g 0 ≡ g = omega arith in rw same (and_true (ltb g (n * 65536)))
    where
      and_true : (b : Bool) → b ≡ (b && true)
      and_true true = refl
      and_true false = refl
  greatest_named n bytes (suc k) at g =
      let here : ℕ = number 4 s (at + node_at) in
      let rest : ℕ = greatest s k (at + target_width) in
      let same : max g (max here rest) ≡ max (max g here) rest = omega arith in
      rw (same, greatest_named n bytes k (at + target_width) (max g here), max_below g here (n * 65536), named_above s n (at + node_at) bytes, and_assoc) refl

module _ (s : List ℕ) (n : ℕ) where
  -- targets that name nodes are read
  targets_named : (k : ℕ) (st : State) → st.at + k * target_width ≤ length s → all_named s n k st.at ≡ true
      → run (targets s n) k st ≡ Ok (record { at = st.at + k * target_width; prev = st.prev; seen = st.seen })
  targets_named k st inside named =
      let left : k - k ≡ 0 = omega arith in
      sym (run_past s n k k st (omega arith) inside named)
      ∙ ap (λ (j : ℕ). run (targets s n) j (record { at = st.at + k * target_width; prev = st.prev; seen = st.seen })) left ∙ run_none _ _

  -- so is a hyperedge of a node, whose targets do, that fits and is in order
  hyper_named : (st : State) → let source = source_at s st.at in let count = count_at s st.at in
      st.prev ≤ source → source < n → st.seen + count ≤ most_targets → st.at + hyper_width + count * target_width ≤ length s
      → all_named s n count (st.at + hyper_width) ≡ true → one (hypers s n) st ≡ Ok (after_hyper st source count)
  unfolding read_hyper read_targets
  hyper_named st rises less few inside named =
      let count = count_at s st.at in
      let source = good_source s st.at n st.prev st.at (field_value 2 s st.at (omega arith)) less rises in
      let there = field_value 2 s (st.at + target_count_at) (omega arith) in
      let ts = run_good _ _ _ _ (targets_named count (first_target st) inside named) in
      simp (
        reading,
        le-leb (st.at + hyper_width) (length s) (omega arith),
        source,
        there,
        le-leb (st.seen + count) most_targets few,
        le-leb (st.at + hyper_width + count * target_width) (length s) inside,
        ts.there,
        all_length _ _ _ _ ts.there,
      )

  -- where one hyperedge more was passed and all are sound, those before it are sound and it is read
  pub passed_reads : (p : Passed) → Bytes s → p.rest.st.prev ≤ source_at s p.rest.st.at
      → p.rest.st.at + hyper_width + count_at s p.rest.st.at * target_width ≤ length s → sound n (behind s p) ≡ true
      → (sound n p ≡ true) × (one (hypers s n) p.rest.st ≡ Ok (behind s p).rest.st)
  unfolding sound
  passed_reads p bytes rises inside all =
      let st = p.rest.st in
      let count = count_at s st.at in
      let first : ℕ = st.at + hyper_width in
      let source = source_at s st.at in
      let most : Bool = ltb (max p.most (greatest s count first)) (n * 65536) in
      let a_node : Bool = ltb source n in
      let few_enough : Bool = leb (st.seen + count) most_targets in
      let names : most ≡ true = and_left most (a_node && few_enough) all in
      let more : (a_node && few_enough) ≡ true = and_right most (a_node && few_enough) all in
      let less : source < n = ltb-true source n (and_left a_node few_enough more) in
      let few : st.seen + count ≤ most_targets = leb-true (st.seen + count) most_targets (and_right a_node few_enough more) in
      let so_far : Bool = ltb p.most (n * 65536) in
      let here : Bool = all_named s n count first in
      let both : (so_far && here) ≡ true = sym (greatest_named s n bytes count first p.most) ∙ names in
      let before : so_far ≡ true = and_left so_far here both in
      let named : here ≡ true = and_right so_far here both in
      let prev = lt-ltb st.prev n (omega arith) in
      let seen = le-leb st.seen most_targets (omega arith) in
      (all_three before prev seen, hyper_named st rises less few inside named)
    where
      all_three : {a b c : Bool} → a ≡ true → b ≡ true → c ≡ true → (a && (b && c)) ≡ true
      all_three e f g = rw (e, f, g) refl

  -- what a pass says: one is left, it ends at the last place or before, its source does not fall, and this is the state behind it
  pub record PassedOn (last : ℕ) (p next : Passed) : Type 0 where
    pub left : 0 < p.rest.left
    pub inside : p.rest.st.at + hyper_width + count_at s p.rest.st.at * target_width ≤ last
    pub rises : p.rest.st.prev ≤ source_at s p.rest.st.at
    pub is : next ≡ behind s p

  pub passes : (last : ℕ) (p next : Passed) → Some next ≡ pass s last p → PassedOn last p next
  unfolding pass
  passes last p next e =
      let st = p.rest.st in
      let end : ℕ = st.at + hyper_width + count_at s st.at * target_width in
      let one_left : Bool = ltb 0 p.rest.left in
      let fits : Bool = leb end last in
      let follows : Bool = leb st.prev (source_at s st.at) in
      let not_many : Bool = ltb (count_at s st.at) (many s) in
      by_test (one_left && (not_many && (fits && follows)))
      (λ t.
      let more = and_right not_many (fits && follows) (and_right one_left (not_many && (fits && follows)) t) in
      let same : Some next ≡ Some (behind s p) = rw t at e in
      record {
        left = ltb-true 0 p.rest.left (and_left one_left (not_many && (fits && follows)) t);
        inside = leb-true end last (and_left fits follows more);
        rises = leb-true st.prev (source_at s st.at) (and_right fits follows more);
        is = cc;
      })
      (λ f. let none : Some next ≡ None = rw f at e in absurd (never_some none))
    where
      never_some : {q : Passed} → Some q ≡ None → ⊥
      never_some z = cc

  -- those that are sound stay within what may be read
  pub sound_stays : (p : Passed) → sound n p ≡ true → (p.rest.st.prev ≤ n) × (p.rest.st.seen ≤ most_targets)
  unfolding sound
  sound_stays p all =
      let names : Bool = ltb p.most (n * 65536) in
      let a_node : Bool = ltb p.rest.st.prev n in
      let few_enough : Bool = leb p.rest.st.seen most_targets in
      let more : (a_node && few_enough) ≡ true = and_right names (a_node && few_enough) all in
      let less : p.rest.st.prev < n = ltb-true p.rest.st.prev n (and_left a_node few_enough more) in
      (omega (arith, less), leb-true p.rest.st.seen most_targets (and_right a_node few_enough more))

  -- hyperedges that are passed: if they are sound, what is left of them reads as all of them do
  pub record Passing (last : ℕ) (rest : Rest) (p : Passed) : Type 0 where
    pub inside : p.rest.st.at ≤ last
    pub few : p.rest.st.seen ≤ most_targets + p.rest.st.at
    pub fewer : p.rest.left ≤ rest.left
    pub reads : sound n p ≡ true → run (hypers s n) p.rest.left p.rest.st ≡ run (hypers s n) rest.left rest.st

  pub passing_on : {last : ℕ} {rest : Rest} {p next : Passed} → Bytes s → last ≤ length s → Passing last rest p → PassedOn last p next → Passing last rest next
  passing_on {last} {rest} {p} {next} bytes fits so_far on =
      subst (λ (q : Passed). Passing last rest q) (sym on.is)
      (record {
        inside = on.inside;
        few = omega (arith, so_far.few);
        fewer = omega (arith, so_far.fewer);
        reads = λ all.
            let here = passed_reads p bytes on.rises (omega (arith, on.inside)) all in
            sym (run_more (hypers s n) p.rest.left p.rest.st on.left ∙ rw (here.1, good_then) refl) ∙ so_far.reads here.0;
      })
