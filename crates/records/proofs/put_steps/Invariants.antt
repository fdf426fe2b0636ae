-- `records::put_steps` meets its contract: what is written for the transitions left makes the whole.
use Prim.Native.Nat.{ℕ, ◌+◌, ◌-◌}
use mathlib.Core.List.{List}
use Rattle.syntax.specs.declared.Quantifier.{Quantifier}
use Rattle.model.specs.Model.{Transition}
use Rattle.transitions.specs.Views.{list_of}
use Rattle.records.specs.Bytes.{step_bytes, steps_bytes}
use Rattle.records.proofs.Edges.{Filling}
use Rattle.records.proofs.put_steps.Given as goal

-- the bytes of one transition
abbrev pub one : Quantifier → (v left shift : ℕ) → Transition → List ℕ
one q v left shift u = step_bytes q v left u.weight (u.to + shift)

abbrev pub invariant-loop : goal.invariant-loop
invariant-loop l =
    let out = l.out in
    Filling out.bytes.now out.states (one l.q l.v l.left l.shift) l.initial.room l.at (steps_bytes l.q l.v l.left l.shift (list_of out)) l.room l.next l.p (out.many - l.counter)
