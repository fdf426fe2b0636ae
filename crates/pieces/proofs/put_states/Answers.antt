-- `pieces::put_states` meets its contract: one state's line after another.
use Rattle.std.proofs.Common.{◌≡◌, length, ap, arith}
use Rattle.lists.specs.Making.{span}
use Rattle.decimals.proofs.Writing.{nothing, ◌then◌, fits, said}
use Rattle.pieces.specs.Pieces.{states_lines}
use Rattle.pieces.proofs.Lines.{first_lines, states_more, state_fits}
use Rattle.pieces.proofs.put_states.Goals as goal

pub loop-a-init : goal.loop-a-init
unfolding span
loop-a-init c = nothing _ (omega (arith, c.requires.fits))

pub put_state-requires : goal.put_state-requires
put_state-requires c = fits c.loop-a.invariant _ (state_fits _ c.args.out.now (omega arith) c.requires.fits)

pub loop-a-preserved : goal.loop-a-preserved
loop-a-preserved c = said (c.loop-a.invariant then c.put_state.ensures) (states_more _ _)

pub returns : goal.returns
unfolding states_lines
returns c =
    let all : length c.args.values.now ≡ c.loop-a.a = omega arith in
    said c.loop-a.invariant (ap (first_lines c.args.values.now) all)
