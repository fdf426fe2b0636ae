-- Counts in a header: what a good one says of the bytes, and that a count in its limits is read. Assumes nothing.
use Rattle.std.proofs.Common.{◌≡◌, ℕ, ◌≤◌, List, refl, ap, ◌∙◌, le-leb, leb-true}
use Rattle.wire.specs.Counts.{read_count}
use Rattle.wire.specs.Field.{width_of}
use Rattle.wire.specs.Read.{Ok, field}
use Rattle.wire.specs.declared.Count.{Count}
use Rattle.wire.proofs.Reading.{bind_good, demand_good, good_same}
use Rattle.wire.proofs.Exact.{good_bind, good_demand}

-- what a good count says
pub record CountAt (s : List ℕ) (count : Count) (n : ℕ) : Type 0 where
  pub there : field (width_of count.width) s count.at ≡ Ok n
  pub no_less : count.least ≤ n
  pub no_more : n ≤ count.most

module _ (s : List ℕ) (count : Count) {n : ℕ} where
  pub count_good : read_count s count ≡ Ok n → CountAt s count n
  unfolding read_count
  count_good e =
      let n = bind_good _ _ e in
      let low = demand_good _ _ _ n.rest in
      let high = demand_good _ _ _ low.1 in
      let same = good_same high.1 in
      record {
        there = n.first ∙ ap Ok same;
        no_less = rw (← same) (leb-true _ _ low.0);
        no_more = rw (← same) (leb-true _ _ high.0);
      }

  pub good_count : field (width_of count.width) s count.at ≡ Ok n → count.least ≤ n → n ≤ count.most → read_count s count ≡ Ok n
  unfolding read_count
  good_count e low high = good_bind _ e (good_demand _ (le-leb _ _ low) (good_demand _ (le-leb _ _ high) refl))
