-- `records::put_next` meets its contract: a hyperedge for each transition, or all their targets, and before them a head.
use Prim.Native.Nat.{ℕ, ◌+◌, ◌*◌, ◌≤◌}
use mathlib.Core.List.{List, ◌++◌}
use mathlib.Core.Path.{◌≡◌, refl, sym, ap, subst, ◌∙◌}
use native.Mathlib.Omega.{arith}
use lib.ListN.{length, length-append}
use Rattle.lists.specs.Making.{keep}
use Rattle.value.specs.declared.Bound.{Bound}
use Rattle.value.specs.Coded.{code_of}
use Rattle.wire.specs.Bytes.{bytes}
use Rattle.wire.specs.Laid.{Laid}
use Rattle.wire.specs.Write.{write_all}
use Rattle.wire.proofs.Laid.{said, same_length as as_long}
use Rattle.graph.specs.Format.{hyper_width}
use Rattle.graph.specs.Write.{write_target, write_hyper}
use Rattle.model.specs.Format.{transition_at}
use Rattle.model.specs.Model.{Transition}
use Rattle.syntax.specs.declared.Action.{Action}
use Rattle.syntax.specs.declared.Quantifier.{Quantifier}
use Rattle.syntax.specs.declared.Quantifier.TheVariants.{Some, Every}
use Rattle.reduction.specs.Built.{hyper, looks_at}
use Rattle.transitions.specs.declared.views.Out.{Out}
use Rattle.transitions.specs.Held.{transition_layout}
use Rattle.transitions.specs.Views.{list_of}
use Rattle.records.specs.Bytes.{hypers_bytes, some_next, every_next, near_width, nearby_bytes}
use Rattle.transitions.specs.Looked.{lowest, highest, is_near}
use Rattle.transitions.proofs.Counting.{passing_le, coded_keep}
use Rattle.records.proofs.Edges.{head_length, hypers_one, single_laid, head_laid, every_count}
use Rattle.records.proofs.Nearby.{some_nearby, every_nearby}
use Rattle.records.proofs.put_next.Goals as goal
use Rattle.records.proofs.put_next.Goals.{After-put_looked-near, After-put_looked-near-in-Every, In-Every}

module _ (o : Out) (v : ℕ) (A : Action) (b : Bound) (shift : ℕ) {most : ℕ} (coded : most ≡ code_of b) where
  -- the transitions of the state
  abbrev own : List Transition
  own = list_of o

  -- those that are looked at by the action and the bound are those by the numbers that say them
  kept : keep (looks_at A b) own ≡ keep (is_near (lowest A) (highest A) most) own
  kept = coded_keep A b own (λ u i. o.reads.weights_fit i) (λ u i. o.reads.actions_fit i) ∙ ap (λ (most : ℕ). keep (is_near (lowest A) (highest A) most) own) (sym coded)

  -- what is written for them: the hyperedges of EX
  some_bytes : {q : Quantifier} → q ≡ Some → hypers_bytes v (some_next own A b shift) ≡ nearby_bytes q v (lowest A) (highest A) most shift own
  some_bytes is = some_nearby _ _ _ _ _ _ A b kept is

  -- or the targets of that of AX
  every_bytes : {q : Quantifier} → q ≡ Every → write_all write_target (every_next own A b shift) ≡ nearby_bytes q v (lowest A) (highest A) most shift own
  every_bytes is = every_nearby _ _ _ _ _ _ A b kept is

  -- which are as many as are looked at
  as_many : length (every_next own A b shift) ≡ length (keep (is_near (lowest A) (highest A) most) own)
  as_many = every_count own A b shift ∙ ap length kept

pub put_looked-near-requires : goal.put_looked-near-requires
put_looked-near-requires c =
    let a = c.args in
    let written = some_bytes a.out a.v a.action a.bound a.shift c.code-most.ensures c.in-Some.is in
    record {
      named = c.requires.named;
      shift_fits = c.requires.shift_fits;
      inside = subst (λ (w : List ℕ). a.at + length w ≤ length a.room.now) written (rw c.in-Some.is at c.requires.inside);
    }

some_laid : (c : After-put_looked-near) → let a = c.args in
    Laid a.room.now a.at (hypers_bytes a.v (some_next (list_of a.out) a.action a.bound a.shift)) c.put_looked-near.new.room (a.at + c.put_looked-near.result * 10)
unfolding near_width
some_laid c =
    let a = c.args in
    let written = some_bytes a.out a.v a.action a.bound a.shift c.code-most.ensures c.in-Some.is in
    said c.put_looked-near.ensures.laid written refl (ap (λ (q : Quantifier). a.at + c.put_looked-near.result * near_width q) (sym c.in-Some.is))

pub overflow_mul-result : goal.overflow_mul-result
overflow_mul-result c = let laid = some_laid (goal.at.overflow_mul-result c).After-put_looked-near in omega (arith, laid.inside, laid.next_is)

pub overflow_add-result : goal.overflow_add-result
overflow_add-result c = let laid = some_laid (goal.at.overflow_add-result c).After-put_looked-near in omega (arith, laid.inside, laid.next_is)

-- the targets fit behind their head
targets_fit : (c : In-Every) → let a = c.args in
    a.at + hyper_width + length (write_all write_target (every_next (list_of a.out) a.action a.bound a.shift)) ≤ length a.room.now
targets_fit c =
    let a = c.args in
    let targets = every_next (list_of a.out) a.action a.bound a.shift in
    let head = bytes 2 a.v ++ bytes 2 (length targets) in
    let all = rw (hypers_one a.v targets) at (rw c.in-Every.is at c.requires.inside) in
    omega (arith, all, head_length a.v (length targets), length-append head (write_all write_target targets))

pub overflow_add-targets : goal.overflow_add-targets
overflow_add-targets c = omega (arith, targets_fit c)

pub put_looked-near-requires-in-Every : goal.put_looked-near-requires-in-Every
put_looked-near-requires-in-Every c =
    let a = c.args in
    let written = every_bytes a.out a.v a.action a.bound a.shift c.code-most.ensures c.in-Every.is in
    record {
      named = c.requires.named;
      shift_fits = c.requires.shift_fits;
      inside =
          subst (λ (w : List ℕ). a.at + hyper_width + length w ≤ length a.room.now) written
          (targets_fit (goal.at.put_looked-near-requires-in-Every c).In-Every);
    }

every_laid : (c : After-put_looked-near-in-Every) → let a = c.args in
    Laid a.room.now (a.at + hyper_width) (write_all write_target (every_next (list_of a.out) a.action a.bound a.shift))
    c.put_looked-near-in-Every.new.room (a.at + hyper_width + c.put_looked-near-in-Every.result * 6)
unfolding near_width
every_laid c =
    let a = c.args in
    let written = every_bytes a.out a.v a.action a.bound a.shift c.code-most.ensures c.in-Every.is in
    said c.put_looked-near-in-Every.ensures.laid written refl (ap (λ (q : Quantifier). a.at + hyper_width + c.put_looked-near-in-Every.result * near_width q) (sym c.in-Every.is))

-- as many as are looked at
count : (c : After-put_looked-near-in-Every) → let a = c.args in
    c.put_looked-near-in-Every.result ≡ length (every_next (list_of a.out) a.action a.bound a.shift)
count c =
    let a = c.args in
    c.put_looked-near-in-Every.ensures.value
    ∙ sym (as_many a.out a.v a.action a.bound a.shift c.code-most.ensures)

pub overflow_cast-near : goal.overflow_cast-near
overflow_cast-near c =
    let a = c.args in
    let few = passing_le (transition_layout a.out.bytes.now) (looks_at a.action a.bound) a.out.many (transition_at a.out.states a.out.first) in
    omega (arith, count (goal.at.overflow_cast-near c).After-put_looked-near-in-Every, every_count (list_of a.out) a.action a.bound a.shift, few)

pub put_head-requires : goal.put_head-requires
put_head-requires c =
    omega (arith, targets_fit (goal.at.put_head-requires c).In-Every, as_long (every_laid (goal.at.put_head-requires c).After-put_looked-near-in-Every))

pub overflow_mul-result-in-Every : goal.overflow_mul-result-in-Every
overflow_mul-result-in-Every c = let laid = every_laid (goal.at.overflow_mul-result-in-Every c).After-put_looked-near-in-Every in omega (arith, laid.inside, laid.next_is)

pub overflow_add-result-in-Every : goal.overflow_add-result-in-Every
overflow_add-result-in-Every c = let laid = every_laid (goal.at.overflow_add-result-in-Every c).After-put_looked-near-in-Every in omega (arith, laid.inside, laid.next_is)

pub returns-in-Some : goal.returns-in-Some
returns-in-Some c = rw c.in-Some.is (some_laid (goal.at.returns-in-Some c).After-put_looked-near)

pub returns-in-Every : goal.returns-in-Every
returns-in-Every c =
    let a = c.args in
    let targets = every_next (list_of a.out) a.action a.bound a.shift in
    let laid = every_laid (goal.at.returns-in-Every c).After-put_looked-near-in-Every in
    let own_head = said c.put_head.ensures (ap (λ (k : ℕ). bytes 2 a.v ++ bytes 2 k) (sym (count (goal.at.returns-in-Every c).After-put_looked-near-in-Every))) refl refl in
    rw c.in-Every.is (single_laid write_hyper (hyper a.v targets) (head_laid a.v targets laid own_head))
