-- `Notes::note_hypers` meets its contract: the first j hyperedges are noted, or long.
use Prim.Native.Nat.{ℕ, ◌+◌, ◌*◌}
use mathlib.Core.Bool.{Bool}
use mathlib.Core.Path.{◌≡◌, refl, sym, ap, subst, ◌∙◌}
use native.Mathlib.Omega.{arith}
use lib.ListN.{length}
use Rattle.wire.specs.Bytes.{number}
use Rattle.wire.specs.Layout.{items, end, Sound}
use Rattle.wire.proofs.Layouts.{end_none, items_length}
use Rattle.wire.proofs.Parts.{end_next, sound_at}
use Rattle.graph.specs.Format.{graph_header, target_count_at, hyper_width, target_width}
use Rattle.graph.specs.Layouts.{target_layout, hyper_layout, HyperOk}
use Rattle.notes.specs.Index.{targets_at, long_for, Noted}
use Rattle.notes.proofs.Noting.{noted_open, noted_long, none_short, longs_none, longs_short, longs_more, same_covers, same_covers_on}
use Rattle.notes.proofs.Notes.note_hypers.Goals as goal
use Rattle.notes.proofs.Notes.note_hypers.Goals.{In-loop-j, then-count-before, else-count-before+then-is_long, else-count-before+else-is_long}

-- the next hyperedge is sound
here : (c : In-loop-j) → HyperOk c.args.g.bytes.now c.args.g.nodes c.loop-j.p
here c =
    let g = c.args.g in
    subst (HyperOk g.bytes.now g.nodes) (sym c.loop-j.invariant.0.stands) (sound_at (hyper_layout g.bytes.now g.nodes) c.loop-j.j c.loop-j-test.true g.sound)

-- k is its count
abbrev Counts : In-loop-j → ℕ → Type 0
Counts c k = k ≡ number 2 c.args.g.bytes.now (c.loop-j.p + target_count_at)

-- its targets, with a count that is its own
its_targets : (c : In-loop-j) (k : ℕ) → Counts c k → let g = c.args.g in let l = c.loop-j in
    targets_at g.bytes.now g.nodes l.j ≡ items (target_layout g.bytes.now g.nodes) k (l.p + hyper_width)
its_targets c k e =
    let g = c.args.g in
    let l = c.loop-j in
    ap (λ (q : ℕ). ((hyper_layout g.bytes.now g.nodes).item q).targets) (sym l.invariant.0.stands)
    ∙ ap (λ (k : ℕ). items (target_layout g.bytes.now g.nodes) k (l.p + hyper_width)) (sym e)

-- whether it is long
is_long : (c : In-loop-j) (k : ℕ) → Counts c k → {t : Bool} → long_for c.args.g.nodes k ≡ t
    → long_for c.args.g.nodes (length (targets_at c.args.g.bytes.now c.args.g.nodes c.loop-j.j)) ≡ t
is_long c k e is =
    let g = c.args.g in
    ap (long_for g.nodes) (ap length (its_targets c k e) ∙ items_length (target_layout g.bytes.now g.nodes) k (c.loop-j.p + hyper_width)) ∙ is

-- its targets are sound, and what is to be noted of it
its_sound : (c : In-loop-j) (k : ℕ) → Counts c k → Sound (target_layout c.args.g.bytes.now c.args.g.nodes) k (c.loop-j.p + hyper_width)
its_sound c k e = rw e (here c).sound

opened : (c : In-loop-j) (k : ℕ) → Counts c k → let g = c.args.g in let l = c.loop-j in
    Noted g.bytes.now g.nodes (l.j + 1) (items (target_layout g.bytes.now g.nodes) k (l.p + hyper_width)) l.self.slots
opened c k e = noted_open c.args.g.bytes.now c.args.g.nodes c.loop-j.invariant.1 _ (its_targets c k e)

-- where the next one stands
next : (c : In-loop-j) {stride : ℕ} → let g = c.args.g in let l = c.loop-j in
    stride ≡ hyper_width + number 2 g.bytes.now (l.p + target_count_at) * target_width → l.p + stride ≡ end (hyper_layout g.bytes.now g.nodes) (l.j + 1) graph_header
next c {stride} e =
    let g = c.args.g in
    let l = c.loop-j in
    let L = hyper_layout g.bytes.now g.nodes in
    let there : l.p + stride ≡ l.p + hyper_width + number 2 g.bytes.now (l.p + target_count_at) * target_width = omega arith in
    there ∙ ap L.next l.invariant.0.stands ∙ sym (end_next L l.j graph_header)

-- how wide a hyperedge of k targets is
abbrev wide : ℕ → ℕ
wide k = hyper_width + k * target_width

pub loop-j-init : goal.loop-j-init
loop-j-init c =
    let g = c.args.g in
    (record { stands = sym (end_none _ 0 graph_header refl); wide = refl; short = none_short g.bytes.now g.nodes }, c.requires.noted, longs_none g.bytes.now g.nodes, same_covers)

pub overflow_add-p : goal.overflow_add-p
overflow_add-p c = omega (arith, (here (goal.at.overflow_add-p c).In-loop-j).inside)

pub number_at-count-requires : goal.number_at-count-requires
number_at-count-requires c = omega (arith, (here (goal.at.number_at-count-requires c).In-loop-j).inside)

pub note-requires : goal.note-requires
note-requires c =
    let at = (goal.at.note-requires c).In-loop-j in
    let e = sym c.if-count-before.true ∙ c.number_at-count.ensures in
    record { sound = its_sound at _ e; hyper_width_in_bounds = (here at).inside; p_value = c.loop-j.invariant.0.stands; j_lt_unnoted = omega (arith, c.ranges.g, c.loop-j-test.true); noted = opened at _ e }

pub overflow_add-p-then-count-before : goal.overflow_add-p-then-count-before
overflow_add-p-then-count-before c =
    omega (arith, (here (goal.at.overflow_add-p-then-count-before c).In-loop-j).inside, c.loop-j.invariant.0.wide, sym c.if-count-before.true ∙ c.number_at-count.ensures)

pub overflow_add-p-then-is_long-2 : goal.overflow_add-p-then-is_long-2
overflow_add-p-then-is_long-2 c = omega (arith, (here (goal.at.overflow_add-p-then-is_long-2 c).In-loop-j).inside)

pub note-requires-else-is_long : goal.note-requires-else-is_long
note-requires-else-is_long c =
    let at = (goal.at.note-requires-else-is_long c).In-loop-j in
    let e = c.number_at-count.ensures in
    record { sound = its_sound at _ e; hyper_width_in_bounds = (here at).inside; p_value = c.loop-j.invariant.0.stands; j_lt_unnoted = omega (arith, c.ranges.g, c.loop-j-test.true); noted = opened at _ e }

pub overflow_add-p-else-is_long : goal.overflow_add-p-else-is_long
overflow_add-p-else-is_long c = omega (arith, (here (goal.at.overflow_add-p-else-is_long c).In-loop-j).inside)

pub loop-j-preserved : goal.loop-j-preserved
loop-j-preserved c =
    let at = (goal.at.loop-j-preserved c).In-loop-j in
    let l = c.loop-j in
    let i = l.invariant.0 in
    let s = c.args.g.bytes.now in
    let n = c.args.g.nodes in
    let count = c.number_at-count.ensures in
    elim c.if-count-before.branch [
      | then-count-before w ↦
          let again = sym w.if-count-before.true ∙ count in
          rw (w.self-is, w.p-is, w.before-is, w.stride-is, w.longs-is) (
            record { stands = next at (i.wide ∙ ap wide again); wide = i.wide; short = i.short },
            w.note.ensures.noted,
            longs_short s n l.invariant.2 (is_long at _ again i.short),
            same_covers_on l.invariant.3 w.note.ensures.covers_kept,
          )
      | else-count-before+then-is_long w ↦
          let long = is_long at _ count (sym w.is_long.ensures ∙ w.if-is_long.true) in
          rw (w.self-is, w.p-is, w.before-is, w.stride-is, w.longs-is, w.note_hyper.ensures) (
            record { stands = next at (ap wide count); wide = i.wide; short = i.short },
            noted_long s n l.invariant.1 long,
            longs_more s n l.invariant.2 _ i.stands,
            l.invariant.3,
          )
      | else-count-before+else-is_long w ↦
          let short = sym w.is_long.ensures ∙ w.if-is_long.false in
          rw (w.self-is, w.p-is, w.before-is, w.stride-is, w.longs-is) (
            record { stands = next at (ap wide count); wide = refl; short = short },
            w.note-else-is_long.ensures.noted,
            longs_short s n l.invariant.2 (is_long at _ count short),
            same_covers_on l.invariant.3 w.note-else-is_long.ensures.covers_kept,
          )
    ]
