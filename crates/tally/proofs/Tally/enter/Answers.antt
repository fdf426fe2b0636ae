-- `Tally::enter` meets its contract: NAME, then LIMIT, then the entry is counted.
use Rattle.std.specs.Prelude.{Ok}
use mathlib.Core.Path.{◌≡◌, sym, ◌∙◌, ap, ap₂}
use Prim.Native.Nat.{◌<◌}
use lib.ListN.{length}
use mathlib.Core.Bool.{true}
use native.Mathlib.Omega.{arith}
use Rattle.lists.proofs.Tests.{by}
use Rattle.tally.specs.declared.Tally.{Tally}
use Rattle.entries.specs.Entries.{is_entry, rounds_of, count_place}
use Rattle.tally.specs.Tally.{takes_more, counted_at}
use Rattle.tally.proofs.Counting.{one_of}
use Rattle.tally.proofs.Answers.{has_place, takes_counts, takes_fits, no_entry, at_end, entry_counted}
use borrow.Author.Rules.{rules}
use Rattle.tally.proofs.Tally.enter.Goals as goal
use Rattle.tally.proofs.Tally.enter.Goals.{After-is_entry, After-takes_more}

-- what the tests showed
is_one : (c : After-is_entry) → c.is_entry.result ≡ true → is_entry c.args.entry ≡ true
is_one c h = by c.is_entry.ensures h

-- whether there was room, by the rounds of the entry
room : (c : After-takes_more) → c.takes_more.result ≡ takes_more c.args.self (rounds_of c.args.entry)
room c = c.takes_more.ensures ∙ ap (takes_more c.args.self) c.rounds-rounds.ensures

pub returns-then-not-is_entry : goal.returns-then-not-is_entry
returns-then-not-is_entry c = sym (no_entry _ _ (by c.is_entry.ensures c.if-not-is_entry.true))

pub returns-then-not-takes_more : goal.returns-then-not-takes_more
returns-then-not-takes_more c =
    sym (at_end _ _ (is_one (goal.at.returns-then-not-takes_more c).After-is_entry c.if-not-is_entry.false) (by (room (goal.at.returns-then-not-takes_more c).After-takes_more) c.if-not-takes_more.true))

pub counted-tally-requires : goal.counted-tally-requires
counted-tally-requires c =
    let size : length c.args.self.counts ≡ 13 = search rules in
    let is-entry = is_one (goal.at.counted-tally-requires c).After-is_entry c.if-not-is_entry.false in
    let takes-here = by (room (goal.at.counted-tally-requires c).After-takes_more) c.if-not-takes_more.false in
    let inside : c.place.result < 13 = omega (arith, has_place c.args.entry is-entry, c.place.ensures) in (
      inside,
      omega (arith, takes_counts _ _ takes-here, one_of c.args.self.counts c.place.result (omega arith)),
      omega (arith, takes_fits _ _ takes-here, c.rounds-rounds.ensures),
    )

pub returns : goal.returns
returns c =
    let a = c.args in
    let same : c.counted-tally.result ≡ counted_at a.self (count_place a.entry) (rounds_of a.entry) =
    c.counted-tally.ensures ∙ ap₂ (counted_at a.self) c.place.ensures c.rounds-rounds.ensures in
    ap (λ (t : Tally). record { tally = t; answer = Ok tt }) same
    ∙ sym (entry_counted _ _ (is_one (goal.at.returns c).After-is_entry c.if-not-is_entry.false) (by (room (goal.at.returns c).After-takes_more) c.if-not-takes_more.false))
