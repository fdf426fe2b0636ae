-- The bytes of cover edges, state by state and row by row. Assumes nothing.
use Prim.Native.Nat.{ℕ, suc, ◌+◌, ◌*◌, ◌-◌, ◌<◌, ◌≤◌}
use mathlib.Core.List.{List, [], ◌∷◌, ◌++◌, append-nil}
use mathlib.Core.Bool.{true, false}
use mathlib.Core.Path.{◌≡◌, sym, ap, subst, ◌∙◌}
use native.Mathlib.Nat.{mul-le-mul_left, mul-suc}
use native.Mathlib.Numerals.{add-one}
use native.Mathlib.Omega.{arith}
use lib.ListN.{length, length-append}
use Rattle.std.specs.Borrow.{MutBor}
use Rattle.build.specs.Puts.{PutsEach}
use Rattle.lists.specs.Making.{span}
use Rattle.value.specs.declared.Bound.{Bound}
use Rattle.value.specs.Coded.{code_of}
use Rattle.wire.specs.Bytes.{bytes}
use Rattle.wire.specs.Laid.{Laid}
use Rattle.wire.specs.Layout.{items}
use Rattle.wire.specs.Write.{write_all}
use Rattle.wire.proofs.Bytes.{length_bytes}
use Rattle.wire.proofs.Laid.{Left, all_left, none_left, left_fits, left_then}
use Rattle.wire.proofs.Layouts.{items_more}
use Rattle.graph.specs.Format.{cover_width}
use Rattle.graph.specs.Write.{write_cover}
use Rattle.syntax.specs.Format.{formula_header, row_width}
use Rattle.syntax.specs.declared.Quantifier.{Quantifier}
use Rattle.syntax.specs.declared.Row.{Row}
use Rattle.syntax.specs.declared.Row.TheVariants.{Until}
use Rattle.syntax.specs.Layouts.{row_at, row_layout}
use Rattle.reduction.specs.Built.{is_until, untils}
use Rattle.transitions.specs.Held.{held_rows, HoldsRows}
use Rattle.records.specs.Bytes.{cover_bytes, covers_from, covers_of}
use Rattle.transitions.proofs.Accepted.{rows_length}
use Rattle.transitions.proofs.Counting.{passing_turn}
use Rattle.lists.proofs.Making.{span_agree}
use Rattle.wire.proofs.Written.{span_written}
use Rattle.sizing.proofs.Untils.{other_row}

-- ---- an until row's, with its bound as a number

module _ (n r h code : ℕ) where
  -- the one of state a
  abbrev pub cover_of : ℕ → List ℕ
  cover_of a = bytes 2 (a + n * r) ++ bytes 4 code ++ bytes 2 (a + n * h)

  pub cover_length : (a : ℕ) → length (cover_of a) ≡ cover_width
  cover_length a = simp (length-append, length_bytes)

-- a call that writes them, one for each state
pub cover_puts : (n r h code : ℕ) → n * r + n ≤ 4096 → n * h + n ≤ 4096 → {pre : MutBor (List ℕ) → ℕ → ℕ → Type 0} {post : MutBor (List ℕ) → ℕ → ℕ → ℕ → MutBor (List ℕ) → Type 0}
    → ((room : MutBor (List ℕ)) (at a : ℕ) → a + n * r < 4096 → a + n * h < 4096 → at + cover_width ≤ length room.now → pre room at a)
    → ((room room' : MutBor (List ℕ)) (at a end : ℕ) → post room at a end room' → Laid room.now at (cover_of n r h code a) room'.now end)
    → PutsEach pre post (cover_of n r h code) n
cover_puts n r h code row helper may lays = record {
  may = λ room at a below long. may room at a (omega arith) (omega arith) (omega (arith, cover_length n r h code a));
  lays = λ room room' at a end below long e. lays room room' at a end e;
}

pub covers_coded : (n r h : ℕ) (b : Bound) → cover_bytes n r h b ≡ span (cover_of n r h (code_of b)) 0 n
unfolding cover_bytes write_cover write_all
covers_coded n r h b =
    span_written write_cover (λ a. record { source = a + n * r; bound = b; target = a + n * h } ∷ []) 0 n
    ∙ span_agree _ (cover_of n r h (code_of b)) 0 n (λ a p q. append-nil _)

-- ---- all rows'

module _ (n r h : ℕ) (row : Row) (rows : List Row) where
  -- an until row, and any other
  pub covers_until : {q : Quantifier} {l k : ℕ} {b : Bound} → row ≡ Until q l k b → covers_from n r h (row ∷ rows) ≡ cover_bytes n r h b ++ covers_from n (r + 1) (h + 1) rows
  unfolding covers_from
  covers_until e = rw (e, add-one r, add-one h)

  pub covers_other : is_until row ≡ false → covers_from n r h (row ∷ rows) ≡ covers_from n (r + 1) h rows
  unfolding covers_from
  covers_other e = rw add-one (other_row row (λ q l k b. cover_bytes n r h b ++ covers_from n (suc r) (suc h) rows) (covers_from n (suc r) h rows) e)

-- a loop over k rows: the rows from place r on can be read, the helper of the next until stands at place h behind all rows, and the
-- bytes of their cover edges are left
module _ (n : ℕ) (f : List ℕ) (k : ℕ) where
  abbrev rows_left : (row_from r : ℕ) → List Row
  rows_left row_from r = items (row_layout f) (k - r) row_from

  pub record Covering (b : List ℕ) (at : ℕ) (whole b' : List ℕ) (next row_from h r : ℕ) : Type 0 where
    pub readable : row_from + (k - r) * row_width ≤ length f
    pub behind : k ≤ h
    pub near : h ≤ k + r
    pub nodes_fit : n * (h + length (untils (rows_left row_from r))) ≤ 4096
    pub left : Left b at whole b' next (covers_from n r h (rows_left row_from r))

  pub covering_all : {p : ℕ} → HoldsRows f k p → (b : List ℕ) (at : ℕ) → n * (k + length (untils (held_rows f k))) ≤ 4096
      → at + length (covers_of n (held_rows f k)) ≤ length b → Covering b at (covers_of n (held_rows f k)) b at formula_header k 0
  unfolding held_rows
  covering_all held b at nodes fits =
      let all : k - 0 ≡ k = omega arith in
      let whole : covers_of n (held_rows f k) ≡ covers_from n 0 k (held_rows f k) = ap (λ (h : ℕ). covers_from n 0 h (held_rows f k)) (rows_length f k) in
      record {
        readable = omega (arith, held.long);
        behind = omega arith;
        near = omega arith;
        nodes_fit = rw all nodes;
        left = rw all (subst (Left b at (covers_of n (held_rows f k)) b at) whole (all_left b at (covers_of n (held_rows f k)) fits));
      }

  module _ {b : List ℕ} {at : ℕ} {whole b' : List ℕ} {next row_from h r : ℕ} (c : Covering b at whole b' next row_from h r) where
    pub covering_none : k ≤ r → Laid b at whole b' next
    unfolding items covers_from
    covering_none e = let none : k - r ≡ 0 = omega arith in none_left (rw none at c.left)

    module _ (below : r < k) where
      abbrev rest : List Row
      rest = rows_left (row_from + row_width) (r + 1)

      less : k - r - 1 ≡ k - (r + 1)
      less = omega arith

      here : rows_left row_from r ≡ row_at f row_from ∷ rest
      here = rw less at (items_more (row_layout f) (k - r) row_from (omega arith))

      -- the next row can be read
      pub row_readable : row_from + row_width ≤ length f
      row_readable = omega (arith, c.readable)

      -- an until: its helper's nodes are below the limit
      module _ {q : Quantifier} {l m : ℕ} {limit : Bound} (is : row_at f row_from ≡ Until q l m limit) where
        one_more : length (untils (rows_left row_from r)) ≡ 1 + length (untils rest)
        one_more = rw less at (passing_turn (row_layout f) is_until (k - r) row_from (omega arith) true (sym (ap is_until is)))

        bytes_are : covers_from n r h (rows_left row_from r) ≡ cover_bytes n r h limit ++ covers_from n (r + 1) (h + 1) rest
        bytes_are = ap (covers_from n r h) here ∙ covers_until n r h (row_at f row_from) rest is

        pub helper_fits : n * h + n ≤ 4096
        helper_fits =
            let within : n * suc h ≤ n * (h + length (untils (rows_left row_from r))) = mul-le-mul_left n (omega (arith, one_more)) in
            omega (arith, c.nodes_fit, rw mul-suc at within)

        -- its cover edges fit, and once they are laid in the others are left
        pub until_fits : next + length (cover_bytes n r h limit) ≤ length b'
        until_fits = left_fits c.left (cover_bytes n r h limit) (covers_from n (r + 1) (h + 1) rest) bytes_are

        pub until_covered : {b'' : List ℕ} {end : ℕ} → Laid b' next (cover_bytes n r h limit) b'' end → Covering b at whole b'' end (row_from + row_width) (h + 1) (r + 1)
        until_covered laid = record {
          readable = omega (arith, c.readable);
          behind = omega (arith, c.behind);
          near = omega (arith, c.near);
          nodes_fit =
              let same : h + 1 + length (untils rest) ≡ h + length (untils (rows_left row_from r)) = omega (arith, one_more) in
              rw same c.nodes_fit;
          left = left_then c.left (cover_bytes n r h limit) (covers_from n (r + 1) (h + 1) rest) bytes_are laid;
        }

      -- any other row has none
      pub other_covered : is_until (row_at f row_from) ≡ false → Covering b at whole b' next (row_from + row_width) h (r + 1)
      other_covered e = record {
        readable = omega (arith, c.readable);
        behind = omega (arith, c.behind);
        near = omega (arith, c.near);
        nodes_fit = let fewer : length (untils rest) ≡ length (untils (rows_left row_from r)) = omega (arith, rw less at (passing_turn (row_layout f) is_until (k - r) row_from (omega arith) false (sym e))) in rw fewer c.nodes_fit;
        left = subst (Left b at whole b' next) (ap (covers_from n r h) here ∙ covers_other n r h (row_at f row_from) rest e) c.left;
      }
