-- `formula::Uses::of_row` meets its contract: each operand of the row is one use more.
use mathlib.Core.List.Memᴰ
use mathlib.Core.List.{[], ◌∷◌, ◌++◌, append-nil, append_assoc}
use mathlib.Core.Path.{◌≡◌, refl}
use native.Mathlib.Omega.{arith}
use Rattle.formula.proofs.Uses.of_row.Goals as goal

pub one_more-requires : goal.one_more-requires
one_more-requires c =
    (c.requires.0 c.in-One.l (rw c.in-One.is (Memᴰ.head refl)), omega arith)

pub one_more-requires-in-Both : goal.one_more-requires-in-Both
one_more-requires-in-Both c =
    (c.requires.0 c.in-Both.l (rw c.in-Both.is (Memᴰ.head refl)), omega arith)

pub one_more-requires-in-Both-2 : goal.one_more-requires-in-Both-2
one_more-requires-in-Both-2 c =
    let r = c.in-Both.r in
    (c.requires.0 r (rw c.in-Both.is (Memᴰ.tail (Memᴰ.head refl))), omega (arith, c.one_more-in-Both.ensures.total_value))

pub returns-in-None : goal.returns-in-None
returns-in-None c = λ ls m. rw (c.in-None.is, append-nil) m

pub returns-in-One : goal.returns-in-One
returns-in-One c = λ ls m. rw c.in-One.is (c.one_more.ensures.row_marked ls m)

pub returns-in-Both : goal.returns-in-Both
returns-in-Both c = λ ls m.
    let l = c.in-Both.l in
    let r = c.in-Both.r in
    let joined : (ls ++ (l ∷ [])) ++ (r ∷ []) ≡ ls ++ (l ∷ r ∷ []) = append_assoc ls _ _ in
    rw (c.in-Both.is, ← joined) (c.one_more-in-Both-2.ensures.row_marked _ (c.one_more-in-Both.ensures.row_marked ls m))
