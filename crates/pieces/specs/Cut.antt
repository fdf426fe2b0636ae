-- Where the model ends in what the program reads.
use Rattle.std.specs.Prelude.{ℕ, List, length, leb}
use Rattle.refusal.specs.Number.{nowhere}
use Rattle.refusal.specs.declared.Refusal.TheVariants.{Length}
use Rattle.wire.specs.Read.{Read, Ok, ◌>>=◌, ◌>>◌, demand, field}

-- at most 8,192 bytes; the model ends where its length field says; if that can't be done, or the input is longer, LENGTH
unfoldable pub read_cut : (input : List ℕ) → Read ℕ
read_cut input = do
  demand (leb (length input) 8192) Length nowhere
  total ← field 4 input 0
  demand (leb total (length input)) Length nowhere
  Ok total
