-- A count in a header: outside of what is allowed it is LIMIT, at the count's field.
use Rattle.std.specs.Prelude.{ℕ, List, nat_le}
use Rattle.refusal.specs.declared.Refusal.TheVariants.{Limit}
use Rattle.wire.specs.Read.{Read, Ok, ◌>>=◌, ◌>>◌, demand, field}
use Rattle.wire.specs.Field.{width_of}
use Rattle.wire.specs.declared.Count.{Count}

-- the number where the count stands, from its least to its most
unfoldable pub read_count : List ℕ → Count → Read ℕ
read_count s count = do
  n ← field (width_of count.width) s count.at
  demand (nat_le count.least n) Limit count.at
  demand (nat_le n count.most) Limit count.at
  Ok n
