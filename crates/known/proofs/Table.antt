-- The known graphs are as the paper says: one table, one claim, and what a row of it says of the rounds. And G is written in the paper's
-- 62 bytes. Assumes nothing.
use Prim.Native.Nat.{ℕ, zero, suc, ◌+◌}
use mathlib.Core.List.Memᴰ
use mathlib.Core.List.{List, [], ◌∷◌, map}
use mathlib.Core.Bool.{Bool, true, false, cond}
use Rattle.std.specs.Prelude.{Option, Some}
use mathlib.Core.Option.{some}
use mathlib.Core.Path.{◌≡◌, refl, sym, ap, ◌∙◌}
use native.Mathlib.Omega.{arith}
use lib.Dec.{leb}
use lib.ListN.{get_elem?}
use Rattle.lists.specs.Lists.{◌∈◌, any, all, up_to, first_from}
use Rattle.lists.specs.Making.{keep, span}
use Rattle.value.specs.Value.{Value, at_most}
use Rattle.wire.specs.Read.{Ok}
use Rattle.wire.specs.Bytes.{bytes}
use Rattle.wire.specs.Write.{write_all, message}
use Rattle.rules.specs.Graph.{Graph}
use Rattle.rules.specs.Rounds.{rounds, round, best, worst, covered}
use Rattle.rules.specs.Count.{count, unchanged}
use Rattle.graph.specs.Stored.{ruled}
use Rattle.graph.specs.Write.{write_target, write_hyper, write_cover, write_body, write_graph}
use Rattle.turns.specs.declared.Outcome.TheVariants as Outcome
use Rattle.turns.specs.Outcome.{outcome_number, outcome_count, ended}
use Rattle.reduction.specs.Built.{out, near, layout, graph_of}
use Rattle.settling.specs.declared.Verdict.{Verdict}
use Rattle.questions.specs.Question.{Question, graph_for, root_node}
use Rattle.settling.specs.Answer.{answer_verdict, verdict_of, answer_of}
use Rattle.known.specs.Table.{Row, Given, graph_in, each_from, worked, ask, known, G}

pub known_hold : map worked known ≡ map (λ (r : Row). r.gives) known
unfolding ended answer_of rounds round best worst covered count unchanged first_from any all up_to keep span out near layout graph_of
known_hold = refl

pub written-G :
    write_graph G ≡ 0 ∷ 0 ∷ 0 ∷ 0x3E ∷ 1 ∷ 1 ∷ 0 ∷ 4 ∷ 0 ∷ 0 ∷ 0 ∷ 4 ∷ 0 ∷ 1
    ∷ 0 ∷ 1 ∷ 0 ∷ 2 ∷ 0 ∷ 0 ∷ 0 ∷ 3 ∷ 0 ∷ 2 ∷ 0 ∷ 0 ∷ 0 ∷ 1 ∷ 0 ∷ 3
    ∷ 0 ∷ 1 ∷ 0 ∷ 1 ∷ 0 ∷ 0 ∷ 0 ∷ 7 ∷ 0 ∷ 3
    ∷ 0 ∷ 2 ∷ 0 ∷ 1 ∷ 0 ∷ 0 ∷ 0 ∷ 1 ∷ 0 ∷ 3
    ∷ 0 ∷ 3 ∷ 0 ∷ 0
    ∷ 0 ∷ 0 ∷ 0 ∷ 0 ∷ 0 ∷ 5 ∷ 0 ∷ 1 ∷ []
unfolding write_graph write_body write_hyper write_target write_cover write_all message bytes
written-G = refl

-- ---- what a row says of the rounds

each_agrees : {A B : Type 0} (f g : A → B) (l : List A) → map f l ≡ map g l → {a : A} → a ∈ l → f a ≡ g a
each_agrees f g [] e m = elim m [ ]
each_agrees f g (c ∷ l) e (Memᴰ.head q) = rw q cc
each_agrees f g (c ∷ l) e (Memᴰ.tail m) = let rest : map f l ≡ map g l = cc in each_agrees f g l rest m

each_at : {A : Type 0} (n a v : ℕ) (f : ℕ → A) {y : A} → get_elem? (each_from a n f) v ≡ some y → f (a + v) ≡ y
each_at zero a v f e = let z : ◌≡◌ {A = ℕ} 0 1 = cc in absurd (omega arith)
each_at (suc n) a zero f e = let here : a + 0 ≡ a = omega arith in rw here cc
each_at (suc n) a (suc v) f e = let there : a + suc v ≡ suc a + v = omega arith in rw there (each_at n (suc a) v f e)

module _ (r : Row) (m : r ∈ known) where
  abbrev g : Graph
  g = ruled (graph_in r.subject)

  given : worked r ≡ r.gives
  given = each_agrees worked (λ (r : Row). r.gives) known known_hold m

  -- where it says OK, its budget allows the count that it says
  pub row_within : r.gives.number ≡ 0 → (leb (count g) r.budget ≡ true) × (count g ≡ r.gives.count)
  unfolding ended
  row_within ok = go (leb (count g) r.budget) refl (ap (λ (x : Given). x.number) given ∙ ok) (ap (λ (x : Given). x.count) given)
    where
      go : (t : Bool) → leb (count g) r.budget ≡ t → outcome_number (cond t (Outcome.Settled (count g)) (Outcome.Spent r.budget)) ≡ 0
          → outcome_count (cond t (Outcome.Settled (count g)) (Outcome.Spent r.budget)) ≡ r.gives.count
          → (leb (count g) r.budget ≡ true) × (count g ≡ r.gives.count)
      go true is e c = (is, c)
      go false is e c = absurd (omega arith)

  -- and the values are those of that round
  pub row_value : (v : ℕ) {x : Value} → get_elem? r.gives.values v ≡ some x → rounds g r.gives.count v ≡ x
  row_value v e =
      let at : ℕ = outcome_count (ended g r.budget) in
      let is : at ≡ r.gives.count = ap (λ (x : Given). x.count) given in
      ap (λ (i : ℕ). rounds g i v) (sym is) ∙ ap (rounds g at) (omega arith)
      ∙ each_at g.nodes 0 v (rounds g at) (ap (λ (x : Given). get_elem? x.values v) given ∙ e)

-- a verdict that is said is there
each_some : (ys : List Verdict) (a : ℕ) {y : Verdict} → get_elem? ys a ≡ some y → get_elem? (map Some ys) a ≡ some (Some y)
each_some [] a e = cc
each_some (x ∷ ys) zero e = let same : x ≡ _ = cc in ap (λ (z : Verdict). some (Some z)) same
each_some (x ∷ ys) (suc a) e = each_some ys a e

some_same : {x y : Verdict} → ◌≡◌ {A = Option Verdict} (Some x) (Some y) → x ≡ y
some_same e = cc

-- a row of a question that says OK: the verdict that it says of a state is yes exactly where the root row's node has value 0 in its round
pub row_verdict : (q : Question) (b m : ℕ) (vs : List Value) (ys : List Verdict) → ask q b 0 m vs ys ∈ known → (a : ℕ) {y : Verdict}
    → get_elem? ys a ≡ some y → verdict_of (at_most (rounds (graph_for q) m (root_node q a)) 0) ≡ y
unfolding answer_of
row_verdict q b m vs ys there a {y} e =
    let r = ask q b 0 m vs ys in
    let w = row_within r there refl in
    let said : answer_verdict (answer_of (Ok q) (0 + a) b) ≡ Some y =
    each_at q.model.states 0 a (λ state. answer_verdict (answer_of (Ok q) state b)) (ap (λ (x : Given). get_elem? x.verdicts a) (given r there) ∙ each_some ys a e) in
    let from : 0 + a ≡ a = omega arith in
    some_same (rw (from, w.0, w.1) at said)
