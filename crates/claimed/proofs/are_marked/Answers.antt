-- `claimed::are_marked` meets its contract: no bit is gathered exactly where the nodes passed are marked.
use Rattle.std.proofs.Common.{◌≡◌, ◌+◌, ◌-◌, ◌<◌, get_or, drop, take, sym, ◌∙◌, arith, add_assoc, below_more, length-take, length-drop}
use Rattle.std.proofs.lemmas.List.{get_or-drop, get_or-take}
use Rattle.lists.proofs.Apart.{still_same, both_same, none_apart}
use Rattle.claimed.proofs.are_marked.Goals as goal
use Rattle.claimed.proofs.are_marked.Goals.{In-loop-mark}

-- the next mark of the part is that of the next node, which is one of those asked for
next : (c : In-loop-mark) → c.loop-mark.mark-index < c.args.to - c.args.from
next c = omega (arith, c.loop-mark-test.true, simp (length-take, length-drop) at c.loop-mark-test.true)

mark_is : (c : In-loop-mark) → let a = c.args in
    get_or (take (a.to - a.from) (drop a.from a.marks.now)) c.loop-mark.mark-index 0 ≡ get_or a.marks.now (a.from + c.loop-mark.mark-index) 0
mark_is c = let a = c.args in
    get_or-take (a.to - a.from) (drop a.from a.marks.now) c.loop-mark.mark-index 0 (next c) ∙ get_or-drop a.from a.marks.now c.loop-mark.mark-index 0

pub loop-mark-preserved : goal.loop-mark-preserved
loop-mark-preserved c =
    let l = c.loop-mark in
    let here = (goal.at.loop-mark-preserved c).In-loop-mark in
    let a = c.args in
    let mark = get_or (take (a.to - a.from) (drop a.from a.marks.now)) l.mark-index 0 in
    let v = a.from + l.mark-index in (
      λ e. rw (← add_assoc a.from l.mark-index 1) (below_more _ _ (l.invariant.0 (still_same l.unmarked mark 1 e)) (λ h. sym (mark_is here) ∙ both_same l.unmarked mark 1 e)),
      λ all. none_apart l.unmarked mark 1 (l.invariant.1 all) (mark_is here ∙ all v (omega (arith, next here)) (omega arith)),
    )
