-- `message::put_covers` meets its contract: the cover edges of the rows that are left make the whole.
use Prim.Native.Nat.{◌+◌}
use mathlib.Core.Path.{◌≡◌, sym, ap, ◌∙◌}
use native.Mathlib.Omega.{arith}
use Rattle.syntax.specs.Format.{row_width, place_of}
use Rattle.reduction.specs.Built.{is_until}
use Rattle.sizing.proofs.Untils.{not_until}
use Rattle.build.proofs.Covers.{covering_all, covering_none, helper_fits, until_fits, until_covered, other_covered}
use Rattle.build.proofs.message.put_covers.Goals as goal

pub loop-r-init : goal.loop-r-init
loop-r-init c = covering_all _ _ _ c.args.f.holds _ _ c.requires.nodes_fit c.requires.inside

pub put_cover_states-next-requires : goal.put_cover_states-next-requires
put_cover_states-next-requires c =
    let l = c.loop-r in
    let is = sym c.row.ensures ∙ c.in-Until.is in
    record { nodes_fit = (helper_fits _ _ _ l.invariant c.loop-r-test.true is, omega (arith, l.invariant.behind)); inside = until_fits _ _ _ l.invariant c.loop-r-test.true is }

pub overflow_add-h : goal.overflow_add-h
overflow_add-h c = omega (arith, c.loop-r.invariant.near, c.args.f.holds.rows_fit)

pub loop-r-preserved : goal.loop-r-preserved
loop-r-preserved c =
    let there : place_of c.loop-r.r + row_width ≡ place_of (c.loop-r.r + 1) = omega arith in
    let is = sym c.row.ensures ∙ c.in-Until.is in
    rw there at (until_covered _ _ _ c.loop-r.invariant c.loop-r-test.true is c.put_cover_states-next.ensures)

pub loop-r-preserved-in_default : goal.loop-r-preserved-in_default
loop-r-preserved-in_default c =
    let there : place_of c.loop-r.r + row_width ≡ place_of (c.loop-r.r + 1) = omega arith in
    let other = ap is_until (sym c.row.ensures) ∙ not_until c.row.result c.in_default.not-Until in
    rw there at (other_covered _ _ _ c.loop-r.invariant c.loop-r-test.true other)

pub shape_of-room : goal.shape_of-room
shape_of-room c = c.loop-r.invariant.left.length_is

pub returns : goal.returns
returns c = covering_none _ _ _ c.loop-r.invariant c.loop-r-test.false
