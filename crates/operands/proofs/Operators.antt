-- Operators one by one, and which fields each kind of them uses. Assumes nothing.
use Prim.Native.Nat.{ℕ, zero, suc, ◌≤◌}
use mathlib.Core.Bool.{Bool, true, false}
use mathlib.Core.Path.{◌≡◌}
use native.Mathlib.Omega.{arith}
use lib.Dec.{ltb}
use borrow.Author.Tests.{lt-leb, le-leb, lt-ltb, le-ltb}
use Rattle.syntax.specs.Rows.{uses_left, uses_right, uses_bound}

-- by which operator it is
pub by_operator : (P : ℕ → Type 0) → P 0 → P 1 → P 2 → P 3 → P 4 → P 5 → P 6 → P 7 → P 8 → P 9 → P 10 → P 11 → (o : ℕ) → o ≤ 11 → P o
by_operator P p0 p1 p2 p3 p4 p5 p6 p7 p8 p9 p10 p11 zero h = p0
by_operator P p0 p1 p2 p3 p4 p5 p6 p7 p8 p9 p10 p11 (suc zero) h = p1
by_operator P p0 p1 p2 p3 p4 p5 p6 p7 p8 p9 p10 p11 (suc (suc zero)) h = p2
by_operator P p0 p1 p2 p3 p4 p5 p6 p7 p8 p9 p10 p11 (suc (suc (suc zero))) h = p3
by_operator P p0 p1 p2 p3 p4 p5 p6 p7 p8 p9 p10 p11 (suc (suc (suc (suc zero)))) h = p4
by_operator P p0 p1 p2 p3 p4 p5 p6 p7 p8 p9 p10 p11 (suc (suc (suc (suc (suc zero))))) h = p5
by_operator P p0 p1 p2 p3 p4 p5 p6 p7 p8 p9 p10 p11 (suc (suc (suc (suc (suc (suc zero)))))) h = p6
by_operator P p0 p1 p2 p3 p4 p5 p6 p7 p8 p9 p10 p11 (suc (suc (suc (suc (suc (suc (suc zero))))))) h = p7
by_operator P p0 p1 p2 p3 p4 p5 p6 p7 p8 p9 p10 p11 (suc (suc (suc (suc (suc (suc (suc (suc zero)))))))) h = p8
by_operator P p0 p1 p2 p3 p4 p5 p6 p7 p8 p9 p10 p11 (suc (suc (suc (suc (suc (suc (suc (suc (suc zero))))))))) h = p9
by_operator P p0 p1 p2 p3 p4 p5 p6 p7 p8 p9 p10 p11 (suc (suc (suc (suc (suc (suc (suc (suc (suc (suc zero)))))))))) h = p10
by_operator P p0 p1 p2 p3 p4 p5 p6 p7 p8 p9 p10 p11 (suc (suc (suc (suc (suc (suc (suc (suc (suc (suc (suc zero))))))))))) h = p11
by_operator P p0 p1 p2 p3 p4 p5 p6 p7 p8 p9 p10 p11 (suc (suc (suc (suc (suc (suc (suc (suc (suc (suc (suc (suc n)))))))))))) h = absurd (omega arith)

-- which fields an operator uses, and whether left is a proposition
pub record Uses (operator : ℕ) (left right bound proposition : Bool) : Type 0 where
  pub of_left : uses_left operator ≡ left
  pub of_right : uses_right operator ≡ right
  pub of_bound : uses_bound operator ≡ bound
  pub names : ltb operator 4 ≡ proposition

pub constant_uses : (o : ℕ) → o ≤ 1 → Uses o false false false true
constant_uses o h = record {
  of_left = lt-leb 2 o (omega arith);
  of_right = rw (lt-ltb o 6 (omega arith)) (lt-leb 4 o (omega arith));
  of_bound = lt-leb 6 o (omega arith);
  names = lt-ltb o 4 (omega arith);
}

pub proposition_uses : (o : ℕ) → 2 ≤ o → o ≤ 3 → Uses o true false false true
proposition_uses o l h = record {
  of_left = le-leb 2 o l;
  of_right = rw (lt-ltb o 6 (omega arith)) (lt-leb 4 o (omega arith));
  of_bound = lt-leb 6 o (omega arith);
  names = lt-ltb o 4 (omega arith);
}

pub pair_uses : (o : ℕ) → 4 ≤ o → o ≤ 5 → Uses o true true false false
pair_uses o l h = record {
  of_left = le-leb 2 o (omega arith);
  of_right = rw (lt-ltb o 6 (omega arith)) (le-leb 4 o l);
  of_bound = lt-leb 6 o (omega arith);
  names = le-ltb o 4 l;
}

pub next_uses : (o : ℕ) → 6 ≤ o → o ≤ 7 → Uses o true false true false
next_uses o l h = record {
  of_left = le-leb 2 o (omega arith);
  of_right = rw (le-ltb o 6 l) (lt-leb 8 o (omega arith));
  of_bound = le-leb 6 o l;
  names = le-ltb o 4 (omega arith);
}

pub full_uses : (o : ℕ) → 8 ≤ o → Uses o true true true false
full_uses o l = record {
  of_left = le-leb 2 o (omega arith);
  of_right = rw (le-ltb o 6 (omega arith)) (le-leb 8 o l);
  of_bound = le-leb 6 o (omega arith);
  names = le-ltb o 4 (omega arith);
}
