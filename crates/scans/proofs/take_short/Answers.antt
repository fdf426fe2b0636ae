-- `scans::take_short` meets its contract: in the first round, with targets nothing is below infinity.
use Prim.Native.Nat.{ℕ, ◌+◌}
use mathlib.Core.Bool.{not}
use mathlib.Core.Path.{sym, ap, ◌∙◌}
use native.Mathlib.Omega.{arith}
use borrow.Author.Tests.{ne_eqb}
use lib.ListN.{set}
use Rattle.scans.proofs.Infinite.{first_none, first_some}
use Rattle.scans.proofs.take_short.Goals as goal

pub returns-then-k-eq0 : goal.returns-then-k-eq0
returns-then-k-eq0 g c =
    let a = c.args in
    ap (λ (v : ℕ). set a.room.now (a.n + v) 0) c.number_at-source.ensures ∙ sym (first_none a.s.now a.n a.at a.room.now (sym c.requires.k_value ∙ c.if-k-eq0.true))

pub returns-else-k-eq0 : goal.returns-else-k-eq0
returns-else-k-eq0 g c =
    let a = c.args in
    sym (first_some a.s.now a.n a.at a.room.now c.requires.hyper_ok (omega (arith, c.requires.k_value, c.if-k-eq0.false)) (c.requires.all_infinite (ap not (ne_eqb g.row.FIRST 0 c.if-this-ne0.true))) (λ v. omega (arith, c.type_inv.room v)))
