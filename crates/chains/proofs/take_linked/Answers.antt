-- `chains::take_linked` meets its contract: the next place of the chain is one, and a record stands where it tells.
use Prim.Native.Nat.{◌+◌, ◌-◌, ◌<◌}
use mathlib.Core.Path.{◌≡◌, refl, ◌∙◌}
use native.Mathlib.Omega.{arith}
use Rattle.wire.specs.Bytes.{number}
use Rattle.links.specs.Links.{place_at, here, further, RecordAt}
use Rattle.chains.proofs.Taking.{record_ok, record_source, walking_none, walking_more, walking_all}
use Rattle.chains.proofs.take_linked.Goals as goal
use Rattle.chains.proofs.take_linked.Goals.{In-loop-link}

pub loop-link-init : goal.loop-link-init
loop-link-init c = let index = c.requires.index in
    record { inside = index.within _; same_length = refl; as_long = refl; records = λ q r. (index.records _ q r, index.told _ q r); walking = λ b₀ p l d. walking_none d; listed = c.requires.listed }

module _ (c : In-loop-link) where
  -- the link leads to the place before it, where a record stands
  back : c.loop-link.link ≡ c.loop-link.link - 1 + 1
  back = omega (arith, c.loop-link-test.true)

  at_record : RecordAt c.args.g.bytes.now c.args.g.nodes c.args.g.hypers c.args.g.covers c.args.g.middle (place_at c.args.places.now (c.loop-link.link - 1)).spot
  at_record = (c.loop-link.invariant.records _ (here back)).0

  -- and its source is told
  told : (place_at c.args.places.now (c.loop-link.link - 1)).source ≡ number 2 c.args.g.bytes.now (place_at c.args.places.now (c.loop-link.link - 1)).spot
  told = (c.loop-link.invariant.records _ (here back)).1

  named : (place_at c.args.places.now (c.loop-link.link - 1)).source < c.args.g.nodes
  named = omega (arith, told, record_source c.args.g.sound c.args.g.behind at_record)

pub take_source-listed-requires-clause-record_ok : goal.take_source-listed-requires-clause-record_ok
take_source-listed-requires-clause-record_ok c = record_ok c.args.g.sound c.args.g.behind (at_record (goal.at.take_source-listed-requires-clause-record_ok c).In-loop-link)

pub take_source-listed-requires-clause-source_named : goal.take_source-listed-requires-clause-source_named
take_source-listed-requires-clause-source_named c = let t = (goal.at.take_source-listed-requires-clause-source_named c).In-loop-link in (named t, told t)

pub loop-link-preserved : goal.loop-link-preserved
loop-link-preserved c =
    let t = (goal.at.loop-link-preserved c).In-loop-link in
    let l = c.loop-link.invariant in
    record {
      inside = omega (arith, l.inside, c.requires.index.falls (c.loop-link.link - 1), back t);
      same_length = c.take_source-listed.auto.room ∙ l.same_length;
      as_long = c.take_source-listed.auto.nodes ∙ l.as_long;
      records = λ q m. l.records q (further _ (back t) m);
      walking = λ b₀ p long d. walking_more (l.walking b₀ p long d) c.args.g.sound c.args.g.behind long _ (back t) refl (at_record t) c.take_source-listed.ensures.record_in;
      listed = c.take_source-listed.ensures.listed;
    }

pub loop-link-smaller : goal.loop-link-smaller
loop-link-smaller c = omega (arith, c.requires.index.falls (c.loop-link.link - 1), c.loop-link-test.true)

pub returns-clause-further : goal.returns-clause-further
returns-clause-further c = λ b₀ p long d. walking_all (c.loop-link.invariant.walking b₀ p long d) (omega arith)
