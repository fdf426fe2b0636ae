-- `chains::take_linked` meets its contract: the records of the chain up to a link are taken in, and the nodes that they change are listed.
use Prim.Native.Nat.{ℕ, ◌+◌, ◌≤◌}
use mathlib.Core.List.{List}
use mathlib.Core.Path.{◌≡◌}
use lib.ListN.{length, get_or}
use Rattle.rules.specs.Graph.{Graph}
use Rattle.links.specs.Links.{place_at, Reached, RecordAt, Told}
use Rattle.changes.specs.Listed.{Listed}
use Rattle.chains.specs.Taken.{Taken}
use Rattle.chains.proofs.Taking.{Walking}
use Rattle.chains.proofs.take_linked.Given as goal

abbrev pub invariant-loop-link : goal.invariant-loop-link
invariant-loop-link l = record {
  inside : l.link ≤ length l.places;
  same_length : length l.room ≡ length l.initial.room;
  as_long : length l.nodes ≡ length l.initial.nodes;
  records : (q : ℕ) → Reached l.places q l.link → RecordAt l.g.bytes.now l.g.nodes l.g.hypers l.g.covers l.g.middle (place_at l.places q).spot × Told l.g.bytes.now l.places q;
  walking : (b₀ : List ℕ) (p : Graph) → l.g.nodes + l.g.nodes ≤ length b₀ → Taken l.g.bytes.now l.g.nodes l.g.hypers l.g.covers l.g.middle b₀ l.initial.room p
      → Walking l.g.bytes.now l.g.nodes l.g.hypers l.g.covers l.g.middle l.places (get_or l.heads l.v 0) l.link b₀ l.room p;
  listed : Listed l.g.nodes l.g.nodes l.listed l.room l.nodes;
}

abbrev pub decreases-loop-link : goal.decreases-loop-link
decreases-loop-link l = l.link
