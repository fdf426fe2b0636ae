-- `formula::all_rows` meets its contract: the rows that were read, and those that are left, are the whole reading, and the operands of the
-- first are marked.
use Prim.Native.Nat.{ℕ, ◌+◌, ◌*◌, ◌-◌, ◌%◌, ◌^◌, ◌<◌, ◌≤◌}
use mathlib.Core.List.Memᴰ
use mathlib.Core.List.{List, [], ◌∷◌, ◌++◌}
use mathlib.Core.Bool.{true, false}
use mathlib.Core.Path.{◌≡◌, refl, sym, ap, subst, ◌∙◌}
use mathlib.Core.Logic.{⊎_elim}
use native.Mathlib.Omega.{arith}
use lib.ListN.{length, take, drop, length-append}
use lib.Pow.{pow-lt}
use Rattle.lists.proofs.Tests.{by_test}
use Rattle.lists.specs.Lists.{◌∈◌}
use Rattle.wire.specs.Read.{Read, Ok}
use Rattle.wire.specs.Reader.{read_all}
use Rattle.wire.specs.Begin.{start}
use Rattle.wire.proofs.Reading.{reading, passed}
use Rattle.syntax.specs.declared.Row.{Row}
use Rattle.kinds.specs.declared.Operands.{Operands}
use Rattle.syntax.specs.Format.{formula_header, row_width}
use Rattle.syntax.specs.Rows.{operands, used_once}
use Rattle.syntax.specs.Message.{row_from, read_row, rows}
use Rattle.kinds.specs.Kept.{listed, judged}
use Rattle.formula.specs.Answers.{checked}
use Rattle.formula.proofs.Answered.{Kept, listed_are, judged_fine, judged_refused}
use Rattle.formula.proofs.Good.{row_part, row_good}
use Rattle.formula.proofs.Begun.{begun, begun_next, begun_bad, begun_none}
use Rattle.formula.proofs.Bits.{one_shifted}
use Rattle.formula.proofs.Marks.{mark_none, all_operands, all_last, all_few, marks_fit, once_if, once_many, once_full}
use Rattle.formula.proofs.all_rows.Goals as goal
use Rattle.formula.proofs.all_rows.Goals.{After-loop-place, In_ok-row, In-loop-place}
use Rattle.formula.proofs.all_rows.Invariants.{here}

pub loop-place-init : goal.loop-place-init
unfolding all_operands
loop-place-init c =
    let all : c.args.f - 0 ≡ c.args.f = omega arith in
    let none : (l : ℕ) → l ∈ [] → l < c.args.f - 1 = λ l m. absurd (Memᴰ.not-nil m) in
    record { stands = refl; counted = record { got = []; long = refl; marked = mark_none; below = none; left = rw all (begun _ _ _) } }

-- a row is inside the message
inside : (c : In-loop-place) → c.loop-place.at + row_width ≤ length c.args.s.now
inside c = omega (arith, c.loop-place.invariant.stands, c.loop-place-test.true, c.requires.0)

-- its part of the message gives what the message does
of_part : (s : List ℕ) (p at place : ℕ) {r : Read Operands} → at + row_width ≤ length s → r ≡ judged (row_from (take (at + 8 - at) (drop at s)) 0 at p place)
    → r ≡ judged (read_row s p (here at place))
of_part s p at place fits read =
    let wide : at + 8 - at ≡ row_width = omega arith in
    let part = rw wide at read in
    part ∙ ap judged (row_part s at fits at p place)

row_read : (c : In_ok-row) → let l = c.loop-place in let a = c.args in
    Kept (read_row a.s.now a.p (here l.at l.place)) c.in_ok-row.row
row_read c =
    let l = c.loop-place in
    let a = c.args in
    judged_fine _ (sym (of_part a.s.now a.p l.at l.place (omega (arith, l.invariant.stands, c.loop-place-test.true, c.requires.0)) c.in_ok-row.ensures))

-- the operands of a row that was read
listed_of : {x : Read Row} {k : Operands} (r : Kept x k) → listed k ≡ operands r.row
listed_of r = rw (← r.are) (listed_are r.row)

pub returns-in_err-row : goal.returns-in_err-row
unfolding checked
returns-in_err-row c =
    let l = c.loop-place in
    let a = c.args in
    let refused = judged_refused _ (sym (of_part a.s.now a.p l.at l.place (omega (arith, l.invariant.stands, c.loop-place-test.true, c.requires.0)) c.in_err-row.ensures)) in
    let faulty = begun_bad _ (omega (arith, c.loop-place-test.true)) l.invariant.counted.left refused in
    simp (passed c.from_residual.ensures, faulty, reading)

pub of_row-uses-requires : goal.of_row-uses-requires
of_row-uses-requires c =
    let counted = c.loop-place.invariant.counted in
    let few = c.requires.2 in
    let r = row_read c in
    let names = (row_good _ _ (here _ _) _ r.read).fine.names in (
      λ l m. omega (arith, names.earlier (subst (λ (ls : List ℕ). l ∈ ls) (listed_of r) m), c.loop-place-test.true, few),
      omega (arith, counted.marked.total_is, all_few counted.got, counted.long, c.loop-place-test.true, few),
    )

pub loop-place-preserved : goal.loop-place-preserved
loop-place-preserved c =
    let inv = c.loop-place.invariant in
    let counted = inv.counted in
    let place = c.loop-place.place in
    let f = c.args.f in
    let fewer : f - place - 1 ≡ f - (place + 1) = omega arith in
    let r = row_read (goal.at.loop-place-preserved c).In_ok-row in
    let next = begun_next _ (omega (arith, c.loop-place-test.true)) counted.left r.read in
    record {
      stands = omega (arith, inv.stands);
      counted = record {
        got = counted.got ++ (r.row ∷ []);
        long = simp length-append (omega (arith, counted.long));
        marked = rw (all_last, ← listed_of r) (c.of_row-uses.ensures _ counted.marked);
        below = λ l m.
            ⊎_elim (λ q. counted.below l q) (λ q. omega (arith, (row_good _ _ (here _ _) _ r.read).fine.names.earlier q, c.loop-place-test.true))
            (Memᴰ.append_cases (all_operands counted.got) (rw all_last at m));
        left = rw fewer at next;
      };
    }

-- all rows were read, and none of their operands is the last
record All (s : List ℕ) (p f : ℕ) (got : List Row) : Type 0 where
  there : read_all (rows s p) f (start formula_header) ≡ Ok got
  many : length got ≡ f
  below : (l : ℕ) → l ∈ all_operands got → l < length got - 1

all_read : (c : After-loop-place) → let a = c.args in All a.s.now a.p a.f c.loop-place.invariant.counted.got
all_read c =
    let l = c.loop-place in
    let many : length l.invariant.counted.got ≡ c.args.f = omega (arith, c.loop-place-test.false, l.auto.place-end, l.invariant.counted.long) in
    record {
      there = begun_none _ (omega (arith, c.loop-place-test.false, l.auto.place-end)) l.invariant.counted.left;
      many = many;
      below = λ k m. omega (arith, l.invariant.counted.below k m);
    }

-- the power that is one more than the bits of all rows but the last, as the code has it
power_is : (c : After-loop-place) → 1 * 2 ^ (c.args.f - 1) % 2 ^ 64 ≡ 2 ^ (length c.loop-place.invariant.counted.got - 1)
power_is c = one_shifted _ (omega (arith, c.requires.2)) ∙ ap (λ (n : ℕ). 2 ^ (n - 1)) (sym (all_read c).many)

pub overflow_add-uses : goal.overflow_add-uses
overflow_add-uses c =
    let counted = c.loop-place.invariant.counted in
    omega (arith, counted.marked.total_is, all_few counted.got, (all_read (goal.at.overflow_add-uses c).After-loop-place).many, c.requires.2)

pub returns-then-uses-f : goal.returns-then-uses-f
unfolding checked
returns-then-uses-f c =
    let all = all_read (goal.at.returns-then-uses-f c).After-loop-place in
    let counted = c.loop-place.invariant.counted in
    let many = once_many counted.got all.below (omega (arith, all.many, c.requires.1)) in
    let misused : used_once counted.got ≡ false =
    by_test _ (λ t. absurd (c.if-uses-f.true (omega (arith, counted.marked.total_is, all.many, many t)))) (λ u. u) in
    simp (reading, all.there, misused)

pub overflow_add-uses-2 : goal.overflow_add-uses-2
overflow_add-uses-2 c =
    let all = all_read (goal.at.overflow_add-uses-2 c).After-loop-place in
    let counted = c.loop-place.invariant.counted in
    let few : 2 ^ (length counted.got - 1) < 2 ^ 64 = pow-lt {j = 64} (omega (arith, all.many, c.requires.2)) in
    omega (arith, few, marks_fit counted.got all.below counted.marked)

pub returns-then-uses-f-2 : goal.returns-then-uses-f-2
unfolding checked
returns-then-uses-f-2 c =
    let all = all_read (goal.at.returns-then-uses-f-2 c).After-loop-place in
    let counted = c.loop-place.invariant.counted in
    let used : used_once counted.got ≡ true =
    once_if counted.got all.below counted.marked (omega (arith, all.many, c.if-uses-f.false)) (c.if-uses-f-2.true ∙ power_is (goal.at.returns-then-uses-f-2 c).After-loop-place) in
    simp (reading, all.there, used, all.many)

pub returns : goal.returns
unfolding checked
returns c =
    let all = all_read (goal.at.returns c).After-loop-place in
    let counted = c.loop-place.invariant.counted in
    let misused : used_once counted.got ≡ false =
    by_test _ (λ t. absurd (c.if-uses-f-2.false (once_full counted.got all.below counted.marked t ∙ sym (power_is (goal.at.returns c).After-loop-place)))) (λ u. u) in
    simp (reading, all.there, misused)
