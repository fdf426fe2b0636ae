-- `changes::raise_changed` meets its contract: the next of the list is a node, and its number is brought up.
use Prim.Native.Nat.{◌<◌}
use mathlib.Core.Path.{◌≡◌, refl}
use native.Mathlib.Omega.{arith}
use lib.ListN.{length}
use Rattle.changes.proofs.Listing.{raising_none, raising_more, raising_all}
use Rattle.changes.proofs.raise_changed.Goals as goal

pub loop-node-init : goal.loop-node-init
loop-node-init c = raising_none

pub loop-node-preserved : goal.loop-node-preserved
loop-node-preserved c =
    let i = c.loop-node.node-index in
    let below : i < length c.args.nodes.now = omega arith in
    raising_more c.loop-node.invariant refl (c.requires.names.named i below) c.requires.both_halves

pub returns : goal.returns
returns c =
    let all : c.loop-node.node-index ≡ length c.args.nodes.now = omega arith in
    raising_all c.loop-node.invariant all c.requires.names
