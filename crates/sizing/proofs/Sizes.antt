-- How much room hyperedges take: of joins, of spans, of a row's nodes and its helpers', and of a graph. Assumes nothing.
use Prim.Native.Nat.{ℕ, zero, suc, ◌+◌, ◌*◌, ◌≤◌, ◌<◌, min, max}
use mathlib.Core.List.Memᴰ
use mathlib.Core.List.{List, [], ◌∷◌, ◌++◌, map}
use mathlib.Core.Bool.{Bool, true, false, not, cond}
use mathlib.Core.Path.{◌≡◌, refl, sym, ap, ap₂, ◌∙◌}
use native.Mathlib.Nat.{suc-mul, add_comm}
use native.Mathlib.Omega.{arith}
use lib.ListN.{length, length-map}
use lib.Dec.{ltb, eqb}
use borrow.Author.Tests.{ltb-true, ltb-false, le-ltb, eqb-true, eqb-false}
use Rattle.lists.specs.Lists.{◌∈◌}
use Rattle.lists.specs.Making.{span}
use Rattle.lists.proofs.Tests.{by_test}
use Rattle.lists.proofs.Kept.{keep_length}
use Rattle.value.specs.declared.Bound.{Bound}
use Rattle.syntax.specs.declared.Action.{Action}
use Rattle.rules.specs.Graph.{Target}
use Rattle.model.specs.Model.{Model, holds}
use Rattle.syntax.specs.declared.Quantifier.{Quantifier}
use Rattle.syntax.specs.declared.Quantifier.TheVariants.{Some, Every}
use Rattle.syntax.specs.declared.Row.{Row}
use Rattle.syntax.specs.declared.Row.TheVariants.{True, False, Proposition, Negation, And, Or, Next, Until}
use Rattle.reduction.specs.Built.{to, out, looks_at, near, row_edges, if_any, helper_edges}
use Rattle.sizing.specs.declared.Size.{Size}
use Rattle.sizing.specs.Size.{◌⊑◌, no_size, add_size, size_of, state_edges, rows_edges, next_size, step_size, helper_size}
use Rattle.transitions.specs.Looked.{leaf_edges}
use Rattle.transitions.proofs.Accepted.{own, out_length, near_length}
use Rattle.sizing.proofs.Untils.{other_row, by_row}

-- ---- sums of sizes

-- equal part by part
pub same : {x y : Size} → x.hypers ≡ y.hypers → x.targets ≡ y.targets → x.most ≡ y.most → x ≡ y
same p q r = λ i. record { hypers = p i; targets = q i; most = r i }

pub add_none : (x : Size) → add_size x no_size ≡ x
add_none x = same (omega arith) (omega arith) (omega arith)

pub none_add : (x : Size) → add_size no_size x ≡ x
none_add x = same (omega arith) (omega arith) (omega arith)

pub add_assoc : (x y z : Size) → add_size (add_size x y) z ≡ add_size x (add_size y z)
add_assoc x y z = same (omega arith) (omega arith) (omega arith)

pub add_swap : (x y z w : Size) → add_size (add_size x y) (add_size z w) ≡ add_size (add_size x z) (add_size y w)
add_swap x y z w = same (omega arith) (omega arith) (omega arith)

-- ---- lists of target lists

pub size_append : (xs ys : List (List Target)) → size_of (xs ++ ys) ≡ add_size (size_of xs) (size_of ys)
unfolding size_of
size_append [] ys = sym (none_add (size_of ys))
size_append (ts ∷ xs) ys =
    let one : Size = record { hypers = 1; targets = length ts; most = length ts } in
    ap (add_size one) (size_append xs ys) ∙ sym (add_assoc one (size_of xs) (size_of ys))

-- a list for each element, all of one length
pub size_map : {A : Type 0} (f : A → List Target) (k : ℕ) → ((a : A) → length (f a) ≡ k) → (l : List A)
    → size_of (map f l) ≡ record { hypers = length l; targets = length l * k; most = cond (ltb (length l) 1) 0 k }
unfolding size_of
size_map f k each [] = same refl (omega arith) refl
size_map f k each (a ∷ l) =
    let rest = size_map f k each l in
    let n = length l in
    let most : max (length (f a)) (cond (ltb n 1) 0 k) ≡ k = by_test (ltb n 1) (λ e. rw e (omega (arith, each a))) (λ e. rw e (omega (arith, each a))) in
    ap (add_size (record { hypers = 1; targets = length (f a); most = length (f a) })) rest
    ∙ same (omega arith) (omega (arith, each a)) (most ∙ sym (rw (le-ltb (suc n) 1 (omega arith))))

-- over a span of numbers
pub size_span : (f g : ℕ → List (List Target)) → ((a : ℕ) → size_of (f a) ≡ size_of (g a)) → (a n : ℕ) → size_of (span f a n) ≡ size_of (span g a n)
unfolding span
size_span f g each a zero = refl
size_span f g each a (suc n) =
    size_append (f a) (span f (suc a) n) ∙ ap₂ add_size (each a) (size_span f g each (suc a) n) ∙ sym (size_append (g a) (span g (suc a) n))

pub size_spans : (f g : ℕ → List (List Target)) (a n : ℕ) → size_of (span (λ c. f c ++ g c) a n) ≡ add_size (size_of (span f a n)) (size_of (span g a n))
unfolding span size_of
size_spans f g a zero = refl
size_spans f g a (suc n) =
    size_append (f a ++ g a) (span (λ c. f c ++ g c) (suc a) n)
    ∙ ap₂ add_size (size_append (f a) (g a)) (size_spans f g (suc a) n)
    ∙ add_swap (size_of (f a)) (size_of (g a)) (size_of (span f (suc a) n)) (size_of (span g (suc a) n))
    ∙ ap₂ add_size (sym (size_append (f a) (span f (suc a) n))) (sym (size_append (g a) (span g (suc a) n)))

-- over states that are all alike
size_same : (f : ℕ → List (List Target)) (z : Size) → ((a : ℕ) → size_of (f a) ≡ z) → (a n : ℕ)
    → size_of (span f a (suc n)) ≡ record { hypers = suc n * z.hypers; targets = suc n * z.targets; most = z.most }
unfolding size_of span
size_same f z h a zero = size_append (f a) [] ∙ rw (h a) (same (omega arith) (omega arith) (omega arith))
size_same f z h a (suc n) =
    size_append (f a) (span f (suc a) (suc n)) ∙ ap₂ add_size (h a) (size_same f z h (suc a) n)
    ∙ same (sym (suc-mul (suc n) z.hypers ∙ add_comm _ _)) (sym (suc-mul (suc n) z.targets ∙ add_comm _ _)) (omega arith)

pub size_alike : (f : ℕ → List (List Target)) (z : Size) → ((a : ℕ) → size_of (f a) ≡ z) → (n : ℕ) → 1 ≤ n → {r : Size} → r.hypers ≡ n * z.hypers
    → r.targets ≡ n * z.targets → r.most ≡ z.most → r ≡ size_of (span f 0 n)
size_alike f z h zero some p q l = absurd (omega arith)
size_alike f z h (suc n) some p q l = same p q l ∙ sym (size_same f z h 0 n)

-- a turn of a loop over rows
pub rows_turn : (M : Model) (row : Row) (rows : List Row) (sum one : Size) {w : Size} → add_size sum (size_of (rows_edges M (row ∷ rows))) ≡ w
    → size_of (span (state_edges M row) 0 M.states) ≡ one → add_size (add_size sum one) (size_of (rows_edges M rows)) ≡ w
unfolding rows_edges
rows_turn M row rows sum one whole is =
    let rest = size_of (rows_edges M rows) in
    let more = size_append (span (state_edges M row) 0 M.states) (rows_edges M rows) ∙ ap (λ (z : Size). add_size z rest) is in
    add_assoc sum one rest ∙ ap (add_size sum) (sym more) ∙ whole

-- ---- a row's nodes and its helpers'

-- EX and AX, from the number of transitions that they look at
pub next_size_lem : (M : Model) (q : Quantifier) (A : Action) (l : ℕ) (b : Bound) (a : ℕ) → size_of (row_edges M (Next q A l b) a) ≡ next_size q (length (near M A b a))
unfolding size_of
next_size_lem M Some A l b a =
    let n = length (near M A b a) in
    let most : cond (ltb n 1) 0 1 ≡ min n 1 = by_test (ltb n 1) (λ e. rw e (omega (arith, ltb-true))) (λ e. rw e (omega (arith, ltb-false))) in
    size_map _ 1 (λ t. refl) (near M A b a) ∙ same refl (omega arith) most
next_size_lem M Every A l b a = let n = length-map (near M A b a) (λ (t : Target). to 0 (t.node + M.states * l)) in same refl (omega arith) (omega arith)

-- a helper, from the number of transitions; where it stands does not matter
pub helper_size_lem : (M : Model) (row : Row) (h a : ℕ) → size_of (helper_edges M row h a) ≡ helper_size row (length (out M a))
unfolding size_of
helper_size_lem M row h a = by_row (λ row. size_of (helper_edges M row h a) ≡ helper_size row n) until (λ row e. ap size_of (other_row row _ [] e) ∙ sym (other_row row _ no_size e)) row
  where
    n : ℕ
    n = length (out M a)

    until : (q : Quantifier) (l r : ℕ) (b : Bound) → size_of (helper_edges M (Until q l r b) h a) ≡ step_size q n
    until Some l r b =
        let most : max 1 (cond (ltb n 1) 0 2) ≡ 1 + min n 1 = by_test (ltb n 1) (λ e. rw e (omega (arith, ltb-true))) (λ e. rw e (omega (arith, ltb-false))) in
        ap (add_size (record { hypers = 1; targets = 1; most = 1 })) (size_map _ 2 (λ t. refl) (out M a)) ∙ same refl (omega arith) most
    until Every l r b = every (out M a)
      where
        every : (ts : List Target) → size_of ((to 0 (a + M.states * r) ∷ []) ∷ if_any ts ((to 0 (a + M.states * l) ∷ map (λ (t : Target). to t.weight (t.node + M.states * h)) ts) ∷ []))
            ≡ step_size Every (length ts)
        every [] = refl
        every (t ∷ ts) =
            let k = length-map (t ∷ ts) (λ (t : Target). to t.weight (t.node + M.states * h)) in
            same (omega arith) (omega arith) (omega arith)

-- both together, from the two
pub state_size : (M : Model) (row : Row) (a : ℕ) {many : ℕ} {own helper : Size} → length (out M a) ≡ many → own ≡ size_of (row_edges M row a) → helper ≡ helper_size row many
    → size_of (state_edges M row a) ≡ add_size own helper
unfolding state_edges
state_size M row a e p q =
    size_append (row_edges M row a) (helper_edges M row 0 a) ∙ ap₂ add_size (sym p) (helper_size_lem M row 0 a ∙ ap (helper_size row) e ∙ sym q)

-- ---- no sum is large

pub record Small (k : ℕ) (z : Size) : Type 0 where
  pub hypers : z.hypers ≤ k
  pub targets : z.targets ≤ k

small_span : (f : ℕ → List (List Target)) (k : ℕ) → ((a : ℕ) → Small k (size_of (f a))) → (a n : ℕ) → Small (n * k) (size_of (span f a n))
unfolding span size_of
small_span f k each a zero = omega arith
small_span f k each a (suc n) =
    let here = each a in
    let rest = small_span f k each (suc a) n in
    rw (size_append (f a) (span f (suc a) n)) (omega arith)

module _ (M : Model) (few : length M.transitions ≤ 65535) where
  out_few : (a : ℕ) → length (out M a) ≤ 65535
  out_few a = omega (arith, out_length M a, keep_length (λ u. eqb u.from a) M.transitions)

  near_few : (A : Action) (b : Bound) (a : ℕ) → length (near M A b a) ≤ 65535
  near_few A b a = omega (arith, near_length M A b a, keep_length (looks_at A b) (own M a), keep_length (λ u. eqb u.from a) M.transitions)

  next_small : (q : Quantifier) (A : Action) (b : Bound) (a : ℕ) → Small 65535 (next_size q (length (near M A b a)))
  next_small Some A b a = omega (arith, near_few A b a)
  next_small Every A b a = omega (arith, near_few A b a)

  leaf_small : (t : Bool) → Small 65535 (size_of (leaf_edges t))
  unfolding size_of
  leaf_small true = omega arith
  leaf_small false = omega arith

  row_small : (row : Row) (a : ℕ) → Small 65535 (size_of (row_edges M row a))
  unfolding size_of
  row_small True a = omega arith
  row_small False a = omega arith
  row_small (Proposition i) a = leaf_small (holds M i a)
  row_small (Negation i) a = leaf_small (not (holds M i a))
  row_small (And l r) a = omega arith
  row_small (Or l r) a = omega arith
  row_small (Next q A l b) a = rw (next_size_lem M q A l b a) (next_small q A b a)
  row_small (Until q l r b) a = omega arith

  step_small : (q : Quantifier) (a : ℕ) → Small 131071 (step_size q (length (out M a)))
  step_small Some a = omega (arith, out_few a)
  step_small Every a = omega (arith, out_few a)

  helper_small : (row : Row) (a : ℕ) → Small 131071 (helper_size row (length (out M a)))
  helper_small row a =
      by_row (λ row. Small 131071 (helper_size row (length (out M a)))) (λ q l r b. step_small q a) (λ row e. rw (other_row row (λ q l r b. step_size q (length (out M a))) no_size e) (omega arith)) row

  state_small : (row : Row) (a : ℕ) → Small 262144 (size_of (state_edges M row a))
  state_small row a = let here = row_small row a in let helper = helper_small row a in rw (state_size M row a refl refl refl) (omega arith)

  -- with at most 256 states
  module _ (states : M.states ≤ 256) where
    pub states_small : (row : Row) → Small 67108864 (size_of (span (state_edges M row) 0 M.states))
    states_small row = let h = small_span (state_edges M row) 262144 (state_small row) 0 M.states in omega arith

    pub rows_small : (rows : List Row) → Small (length rows * 67108864) (size_of (rows_edges M rows))
    unfolding rows_edges size_of
    rows_small [] = omega arith
    rows_small (row ∷ rows) =
        let here = states_small row in
        let rest = rows_small rows in
        rw (size_append (span (state_edges M row) 0 M.states) (rows_edges M rows)) (omega arith)

-- the part of a small sum that is summed first is small
pub small_part : {k : ℕ} (x y : Size) {w : Size} → add_size x y ≡ w → Small k w → Small k x
small_part x y e h = omega (arith, ap (λ (z : Size). z.hypers) e, ap (λ (z : Size). z.targets) e, h.hypers, h.targets)

-- ---- a part is no larger than the whole

part_left : (x y : Size) {z : Size} → z ⊑ x → z ⊑ add_size x y
part_left x y h = record { hypers = omega (arith, h.hypers); targets = omega (arith, h.targets); most = omega (arith, h.most) }

part_right : (x y : Size) {z : Size} → z ⊑ y → z ⊑ add_size x y
part_right x y h = record { hypers = omega (arith, h.hypers); targets = omega (arith, h.targets); most = omega (arith, h.most) }

pub part_self : (x : Size) → x ⊑ x
part_self x = record { hypers = omega arith; targets = omega arith; most = omega arith }

part_span : (f : ℕ → List (List Target)) (a n c : ℕ) → a ≤ c → c < a + n → size_of (f c) ⊑ size_of (span f a n)
unfolding span
part_span f a zero c p q = absurd (omega arith)
part_span f a (suc n) c p q =
    rw (size_append (f a) (span f (suc a) n))
    (by_test (eqb c a)
    (λ e. rw (eqb-true c a e) (part_left (size_of (f a)) (size_of (span f (suc a) n)) (part_self (size_of (f a)))))
    (λ e. part_right (size_of (f a)) (size_of (span f (suc a) n)) (part_span f (suc a) n c (omega (arith, eqb-false c a e)) (omega arith))))

-- of a state and a row
pub part_state : (M : Model) {row : Row} (rows : List Row) → row ∈ rows → (a : ℕ) → a < M.states → size_of (state_edges M row a) ⊑ size_of (rows_edges M rows)
unfolding rows_edges
part_state M [] m a l = elim m [ ]
part_state M (c ∷ rows) (Memᴰ.head e) a l =
    rw (size_append (span (state_edges M c) 0 M.states) (rows_edges M rows), e)
    (part_left (size_of (span (state_edges M c) 0 M.states)) (size_of (rows_edges M rows)) (part_span (state_edges M c) 0 M.states a (omega arith) (omega arith)))
part_state M (c ∷ rows) (Memᴰ.tail m) a l =
    rw (size_append (span (state_edges M c) 0 M.states) (rows_edges M rows))
    (part_right (size_of (span (state_edges M c) 0 M.states)) (size_of (rows_edges M rows)) (part_state M rows m a l))

-- a loop over rows whose sum is no less than theirs: at first, at the end, and a turn
pub most_all : (x : Size) → x ⊑ add_size no_size x
most_all x = part_right no_size x (part_self x)

pub most_done : (x : Size) {w : Size} → w ⊑ add_size x no_size → w ⊑ x
most_done x h = record { hypers = omega (arith, h.hypers); targets = omega (arith, h.targets); most = omega (arith, h.most) }

pub most_turn : (M : Model) (row : Row) (rows : List Row) (sum one : Size) {w : Size} → w ⊑ add_size sum (size_of (rows_edges M (row ∷ rows)))
    → size_of (span (state_edges M row) 0 M.states) ⊑ one → w ⊑ add_size (add_size sum one) (size_of (rows_edges M rows))
unfolding rows_edges
most_turn M row rows sum one whole few =
    let all = rw (size_append (span (state_edges M row) 0 M.states) (rows_edges M rows)) at whole in
    record { hypers = omega (arith, all.hypers, few.hypers); targets = omega (arith, all.targets, few.targets); most = omega (arith, all.most, few.most) }
