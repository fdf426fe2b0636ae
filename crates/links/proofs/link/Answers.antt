-- `links::link` meets its contract: the next of the targets that are left is a node, and it is linked.
use Prim.Native.Nat.{ℕ, ◌+◌, ◌-◌, ◌*◌, ◌<◌}
use mathlib.Core.List.{[]}
use mathlib.Core.Path.{◌≡◌, refl, subst, ◌∙◌}
use lib.ListN.{length, length-set}
use native.Mathlib.Omega.{arith}
use Rattle.wire.proofs.Layouts.{sound_more}
use Rattle.graph.specs.Format.{hyper_width, target_width}
use Rattle.graph.specs.Layouts.{TargetOk}
use Rattle.links.specs.Links.{Linked}
use Rattle.links.proofs.Linking.{long_set, linked_end, linked_turn}
use Rattle.links.proofs.link.Goals as goal
use Rattle.links.proofs.link.Goals.{In-loop-i}

-- one is left, and it is sound
some : (c : In-loop-i) → 0 < c.args.k - c.loop-i.i
some c = omega (arith, c.loop-i-test.true)

here : (c : In-loop-i) → TargetOk c.args.g.bytes.now c.args.g.nodes (c.args.p + hyper_width + c.loop-i.i * target_width)
here c = (sound_more _ (some c) c.loop-i.invariant.sound).0

pub number_at-v-requires : goal.number_at-v-requires
number_at-v-requires c = omega (arith, (here (goal.at.number_at-v-requires c).In-loop-i).inside)

-- every target is a node
pub returns-then-g-v : goal.returns-then-g-v
returns-then-g-v c = absurd (omega (arith, c.if-g-v.true, c.number_at-v.ensures, (here (goal.at.returns-then-g-v c).In-loop-i).named))

pub loop-i-preserved : goal.loop-i-preserved
loop-i-preserved c =
    let a = c.args in
    let l = c.loop-i in
    let one = some (goal.at.loop-i-preserved c).In-loop-i in
    let target = here (goal.at.loop-i-preserved c).In-loop-i in
    let left : a.k - (l.i + 1) ≡ a.k - l.i - 1 = omega arith in
    let on : a.p + hyper_width + (l.i + 1) * target_width ≡ a.p + hyper_width + l.i * target_width + target_width = omega arith in
    let room : l.at < length a.places.now = omega arith in
    record {
      all = omega (arith, l.invariant.all);
      sound = rw (left, on) (sound_more _ one l.invariant.sound).1;
      heads_long = length-set l.heads _ _ ∙ l.invariant.heads_long;
      long = long_set l.invariant.long _ _ _ _;
      linked = λ most j e d. rw (left, on) (linked_turn _ _ (l.invariant.linked most j e d) j refl one (omega (arith, l.invariant.long.many)) _ c.number_at-v.ensures (omega (arith, target.named, c.number_at-v.ensures)) _ e _ (refl, refl, c.number_at-source.ensures));
    }

pub returns-clause-linked : goal.returns-clause-linked
returns-clause-linked c =
    let a = c.args in
    let l = c.loop-i in
    let none : a.k - l.i ≡ 0 = omega arith in
    let all : l.at ≡ a.place + a.k = omega arith in
    λ most j e d. subst (λ (many : ℕ). Linked a.g.bytes.now a.g.nodes a.g.middle most (j + 1) [] 0 many l.heads l.places) all (linked_end _ _ (l.invariant.linked most j e d) none)
