-- One running tally: how many yes, how many no, how many of each refusal number, the exact sum of reported rounds, the largest.
use Rattle.std.specs.Prelude.{ℕ, ◌+◌, ◌^◌, max, List, [], ◌∷◌, Bool, ◌&&◌, ltb, get_or, set, replicate}
use Rattle.entries.specs.Entries.{places}
use Rattle.tally.specs.declared.Tally.{Tally}

-- no more entries than that are accepted
abbrev pub most_accepted : ℕ
most_accepted = 4294967295

-- it starts at zero
unfoldable pub at_zero : Tally
at_zero = record { counts = replicate places 0; sum = 0; largest = 0 }

-- the counts together
unfoldable pub together : List ℕ → ℕ
together [] = 0
together (n ∷ ns) = n + together ns

-- one more at a place, with so many rounds
unfoldable pub counted_at : Tally → ℕ → ℕ → Tally
counted_at t at rounds = record { counts = set t.counts at (get_or t.counts at 0 + 1); sum = t.sum + rounds; largest = max t.largest rounds }

-- the most is not yet counted. A tally that began at zero has room for any sum (`sum_fits`); one that did not is at its end too where
-- its sum would pass 64 bits
unfoldable pub takes_more : Tally → ℕ → Bool
takes_more t rounds = ltb (together t.counts) most_accepted && ltb (t.sum + rounds) (2 ^ 64)
