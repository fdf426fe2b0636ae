-- `message::put_helper` meets its contract: the hyperedge to right, and behind it those of the steps.
use Prim.Native.Nat.{ℕ, ◌+◌, ◌*◌, ◌<◌, ◌≤◌}
use mathlib.Core.List.{List, [], ◌∷◌, ◌++◌, map}
use mathlib.Core.Path.{◌≡◌, refl, ap, subst}
use native.Mathlib.Omega.{arith}
use lib.ListN.{length, length-append}
use Rattle.wire.specs.Bytes.{bytes}
use Rattle.wire.specs.Laid.{Laid}
use Rattle.wire.specs.Write.{write_all}
use Rattle.wire.proofs.Laid.{fits, said}
use Rattle.rules.specs.Graph.{Target}
use Rattle.graph.specs.Write.{write_target, write_hyper}
use Rattle.syntax.specs.declared.Quantifier.{Quantifier}
use Rattle.syntax.specs.declared.Quantifier.TheVariants.{Some, Every}
use Rattle.reduction.specs.Built.{to, hyper}
use Rattle.transitions.specs.declared.views.Out.{Out}
use Rattle.transitions.specs.Views.{list_of}
use Rattle.records.specs.Bytes.{hypers_bytes, helper_list, some_steps, every_steps, steps_bytes}
use Rattle.graph.proofs.Exact.{target_length}
use Rattle.records.proofs.Edges.{head_length, hypers_more, single_laid, more_laid, hyper_laid}
use Rattle.build.proofs.Helpers.{right_fits, steps_some, steps_none, every_parts, steps_count, some_stepped, every_stepped}
use Rattle.build.proofs.message.put_helper.Goals as goal
use Rattle.build.proofs.message.put_helper.Goals.{After-put_head-head, Else-out-lt1}

-- a state's node, and as a target at weight 0
abbrev node : Out → (a place : ℕ) → ℕ
node o a place = a + o.states * place

abbrev side : Out → (a place : ℕ) → Target
side o a place = to 0 (node o a place)

-- the steps of an E until; those of an A until, and the head of its second hyperedge
abbrev jumps : Out → (a h l : ℕ) → List (List Target)
jumps o a h l = some_steps (list_of o) (node o a l) (o.states * h)

abbrev steps : Out → ℕ → List Target
steps o h = every_steps (list_of o) (o.states * h)

abbrev head : Out → (a h l : ℕ) → List ℕ
head o a h l = bytes 2 (node o a h) ++ bytes 2 (length (side o a l ∷ steps o h))

module _ (o : Out) (a h l k at : ℕ) {q : Quantifier} {size : ℕ} (long : at + length (hypers_bytes (node o a h) (helper_list o.states a q l k h (list_of o))) ≤ size) where
  -- of an E until: behind the first hyperedge stand those of the steps
  some_room : q ≡ Some → at + length (write_hyper (hyper (node o a h) (side o a k ∷ [])) ++ hypers_bytes (node o a h) (jumps o a h l)) ≤ size
  some_room is = rw (hypers_more (node o a h) (side o a k ∷ []) (jumps o a h l)) at (rw is at long)

  -- of an A until: a second one, where there are transitions
  every_room : q ≡ Every → 0 < o.many
      → at + length (write_hyper (hyper (node o a h) (side o a k ∷ [])) ++ (head o a h l ++ (write_target (side o a l) ++ write_all write_target (steps o h)))) ≤ size
  every_room is some =
      let second = steps_some o.bytes.now o.states o.first o.many ((side o a l ∷ steps o h) ∷ []) some in
      rw (every_parts (node o a h) (side o a k ∷ []) (side o a l) (steps o h)) at (rw second at (rw is at long))

pub put_single-second-requires : goal.put_single-second-requires
put_single-second-requires c =
    let a = c.args in
    right_fits (node a.out a.a a.h) a.out.states a.a a.q a.l a.k a.h (list_of a.out) a.at c.requires.inside

-- what is written for the transitions is the steps of an E until, or of an A until
module _ (o : Out) (a h l : ℕ) {q : Quantifier} where
  some_bytes : q ≡ Some → hypers_bytes (node o a h) (jumps o a h l) ≡ steps_bytes q (node o a h) (node o a l) (o.states * h) (list_of o)
  some_bytes is = some_stepped _ _ _ _ is

  every_bytes : q ≡ Every → write_all write_target (steps o h) ≡ steps_bytes q (node o a h) (node o a l) (o.states * h) (list_of o)
  every_bytes is = every_stepped _ _ _ _ is

pub put_steps-requires : goal.put_steps-requires
put_steps-requires c =
    let a = c.args in
    let room = c.put_single-second.new.room in
    let left = fits c.put_single-second.ensures _ (some_room a.out a.a a.h a.l a.k a.at c.requires.inside c.in-Some.is) in
    record { named = c.requires.named; shift_fits = c.requires.nodes_fit.1; inside = subst (λ (w : List ℕ). c.put_single-second.result + length w ≤ length room) (some_bytes a.out a.a a.h a.l c.in-Some.is) left }

-- the second hyperedge of an A until fits behind the first, and its targets behind its head
second_fits : (c : Else-out-lt1) → let a = c.args in
    c.put_single-second.result + length (head a.out a.a a.h a.l ++ (write_target (side a.out a.a a.l) ++ write_all write_target (steps a.out a.h))) ≤ length c.put_single-second.new.room
second_fits c =
    let a = c.args in
    let some : 0 < a.out.many = omega arith in
    fits c.put_single-second.ensures _ (every_room a.out a.a a.h a.l a.k a.at c.requires.inside c.in-Every.is some)

pub put_head-head-requires : goal.put_head-head-requires
put_head-head-requires c =
    let a = c.args in
    let o = a.out in
    omega (
      arith,
      second_fits (goal.at.put_head-head-requires c).Else-out-lt1,
      head_length (node o a.a a.h) (length (side o a.a a.l ∷ steps o a.h)),
      length-append (head o a.a a.h a.l) (write_target (side o a.a a.l) ++ write_all write_target (steps o a.h)),
    )

head_laid : (c : After-put_head-head) → let a = c.args in Laid c.put_single-second.new.room c.put_single-second.result (head a.out a.a a.h a.l) c.put_head-head.new.room c.put_head-head.result
head_laid c =
    let a = c.args in
    let o = a.out in
    said c.put_head-head.ensures (ap (λ (k : ℕ). bytes 2 (node o a.a a.h) ++ bytes 2 k) (steps_count o.bytes.now o.states o.first o.many (o.states * a.h) (side o a.a a.l))) refl refl

targets_fit : (c : After-put_head-head) → let a = c.args in
    c.put_single-second.result + length (head a.out a.a a.h a.l ++ (write_target (side a.out a.a a.l) ++ write_all write_target (steps a.out a.h))) ≤ length c.put_single-second.new.room
    → c.put_head-head.result + length (write_target (side a.out a.a a.l) ++ write_all write_target (steps a.out a.h)) ≤ length c.put_head-head.new.room
targets_fit c second = fits (head_laid c) _ second

pub put_target-targets-requires : goal.put_target-targets-requires
put_target-targets-requires c =
    let place = goal.at.put_target-targets-requires c in
    let a = c.args in
    let left = side a.out a.a a.l in
    omega (arith, targets_fit place.After-put_head-head (second_fits place.Else-out-lt1), target_length left, length-append (write_target left) (write_all write_target (steps a.out a.h)))

pub put_steps-requires-in-Every : goal.put_steps-requires-in-Every
put_steps-requires-in-Every c =
    let place = goal.at.put_steps-requires-in-Every c in
    let a = c.args in
    let room = c.put_target-targets.new.room in
    let left = fits c.put_target-targets.ensures _ (targets_fit place.After-put_head-head (second_fits place.Else-out-lt1)) in
    record { named = c.requires.named; shift_fits = c.requires.nodes_fit.1; inside = subst (λ (w : List ℕ). c.put_target-targets.result + length w ≤ length room) (every_bytes a.out a.a a.h a.l c.in-Every.is) left }

pub returns-then-out-lt1 : goal.returns-then-out-lt1
returns-then-out-lt1 c =
    let a = c.args in
    let o = a.out in
    let none = steps_none o.bytes.now o.states o.first o.many ((side o a.a a.l ∷ steps o a.h) ∷ []) (omega arith) in
    rw (c.in-Every.is, none) (single_laid write_hyper (hyper (node o a.a a.h) (side o a.a a.k ∷ [])) c.put_single-second.ensures)

pub returns-in-Some : goal.returns-in-Some
returns-in-Some c =
    let a = c.args in
    let o = a.out in
    let v = node o a.a a.h in
    rw c.in-Some.is
    (more_laid write_hyper (hyper v (side o a.a a.k ∷ [])) c.put_single-second.ensures (map (hyper v) (jumps o a.a a.h a.l)) (said c.put_steps.ensures (some_bytes o a.a a.h a.l c.in-Some.is) refl refl))

pub returns-else-out-lt1 : goal.returns-else-out-lt1
returns-else-out-lt1 c =
    let place = goal.at.returns-else-out-lt1 c in
    let a = c.args in
    let o = a.out in
    let v = node o a.a a.h in
    let left = side o a.a a.l in
    let some = steps_some o.bytes.now o.states o.first o.many ((left ∷ steps o a.h) ∷ []) (omega arith) in
    let targets = more_laid write_target left c.put_target-targets.ensures (steps o a.h) (said c.put_steps-in-Every.ensures (every_bytes o a.a a.h a.l c.in-Every.is) refl refl) in
    let second = hyper_laid v (left ∷ steps o a.h) (head_laid place.After-put_head-head) targets in
    rw (c.in-Every.is, some) (more_laid write_hyper _ c.put_single-second.ensures _ (single_laid write_hyper (hyper v (left ∷ steps o a.h)) second))
