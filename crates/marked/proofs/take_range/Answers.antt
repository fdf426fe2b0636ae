-- `marked::take_range` meets its contract.
use native.Mathlib.Omega.{arith}
use Rattle.graph.proofs.Viewed.{covers_climb}
use Rattle.marked.proofs.Taking.{range_sound, range_past, took_range}
use Rattle.marked.proofs.take_range.Goals as goal

pub next_round-past-requires : goal.next_round-past-requires
next_round-past-requires c = let d = c.requires.stands in
    rw c.cover_edges-covers.ensures (record { sound = range_sound d c.saturating_sub-k.ensures c.args.g.ready.sound.hypers; z_le_count = d.covers_upto; n_in_bounds = c.requires.n_in_bounds })

pub hypers_from-from-requires : goal.hypers_from-from-requires
hypers_from-from-requires c = let d = c.requires.stands in
    rw c.hyperedges-hypers.ensures (record { climbs = c.args.g.ready.hypers_climb; z_le_count = d.upto; at_value = d.there })

pub covers_from-covers_from-requires : goal.covers_from-covers_from-requires
covers_from-covers_from-requires c = rw c.cover_edges-covers.ensures (record { climbs = covers_climb c.args.g; z_le_count = c.requires.stands.covers_upto })

pub covers_to-covers_to-requires : goal.covers_to-covers_to-requires
covers_to-covers_to-requires c = rw c.cover_edges-covers.ensures (record { climbs = covers_climb c.args.g; z_le_count = c.requires.stands.covers_upto })

pub hypers_to-to-requires : goal.hypers_to-to-requires
hypers_to-to-requires c = let d = c.requires.stands in
    rw c.hyperedges-hypers.ensures (record { climbs = c.args.g.ready.hypers_climb; z_le_count = d.upto; past_value = range_past d c.saturating_sub-k.ensures (rw c.cover_edges-covers.ensures at c.next_round-past.ensures.value) })

pub returns : goal.returns
returns c =
    let hf = rw c.hyperedges-hypers.ensures at c.hypers_from-from.ensures in
    let ht = rw c.hyperedges-hypers.ensures at c.hypers_to-to.ensures in
    let cf = rw c.cover_edges-covers.ensures at c.covers_from-covers_from.ensures in
    let ct = rw c.cover_edges-covers.ensures at c.covers_to-covers_to.ensures in
    let done = rw c.cover_edges-covers.ensures at c.next_round-past.ensures.done in
    let lo = c.min-lo.ensures in
    let hi = c.max-hi.ensures in
    let all = c.max.ensures in
    rw c.whole.ensures (took_range c.requires.stands c.saturating_sub-k.ensures (omega (arith, all)) (omega (arith, lo, hi, all, hf.0, ht.0, ct.0)) done
    (λ j l h. (omega (arith, lo, hf.1 j l h), omega (arith, hi, all, ht.1 j l h)))
    (λ j l h. (omega (arith, lo, cf.1 j l h), omega (arith, hi, all, ct.1 j l h))))
