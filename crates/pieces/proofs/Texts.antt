-- The text of a formula, written into the front of the program's room; and the lines of a settled question fit. Assumes nothing.
use Prim.Native.Nat.{ℕ, ◌+◌, ◌-◌, ◌*◌, ◌≤◌}
use Rattle.std.specs.Result.{result_unwrap_or}
use borrow.Rule.Slice.PartMut.{put_mid}
use mathlib.Core.List.{List, [], ◌∷◌, ◌++◌, append_assoc}
use mathlib.Core.Path.{◌≡◌, refl, sym, ap, ◌∙◌}
use native.Mathlib.Omega.{arith}
use Rattle.std.proofs.lemmas.List.{drop_all}
use Rattle.std.proofs.Common.{append-nil, add-zero, drop-drop, length-drop}
use lib.ListN.{length, take, drop, length-append, take-append-drop}
use lib.Seq.{take_all}
use borrow.Author.Tests.{le-ltb}
use Rattle.wire.specs.Bytes.{Bytes}
use Rattle.wire.specs.Laid.{laid, Laid}
use Rattle.wire.specs.Read.{Read, Ok, Err}
use Rattle.wire.proofs.Laid.{nothing}
use Rattle.syntax.specs.declared.Row.{Row}
use Rattle.syntax.specs.Formula.{root_of}
use Rattle.syntax.specs.Message.{read_formula}
use Rattle.formula.proofs.Exact.{accepted_written}
use Rattle.wording.specs.Text.{text}
use Rattle.text.specs.Written.{written_of, text_room}
use Rattle.wording.proofs.Length.{accepted_text_length}
use Rattle.lists.proofs.Making.{span_short}
use Rattle.pieces.specs.Lines.{line, rounds_line}
use Rattle.pieces.specs.Pieces.{states_lines, text_in, ended_lines}
use Rattle.pieces.proofs.Lines.{rounds_length, state_length}

-- no accepted formula's text is long
pub text_short : (p : ℕ) (s : List ℕ) → Bytes s → length (text_in (read_formula p s)) ≤ 1216
unfolding text_in
text_short p s bytes = go (read_formula p s) refl
  where
    go : (x : Read (List Row)) → read_formula p s ≡ x → length (text_in x) ≤ 1216
    go (Ok rows) e = accepted_text_length (accepted_written p s rows bytes e).1
    go (Err r) e = omega arith

-- what the writing of the text answers and leaves in what is left of a room, from a position on
module _ (p : ℕ) (s b : List ℕ) (at k : ℕ) (bytes : Bytes s) (long : at + 2048 ≤ length b) (left : k ≡ length b - at) where
  none_behind : drop k (drop at b) ≡ []
  none_behind = drop_all k (drop at b) (simp length-drop (omega arith))

  rest_is : take k (drop at b) ≡ drop at b
  rest_is = take_all k (drop at b) (simp length-drop (omega arith))

  module _ {r : Read ℕ} {r' : List ℕ} {n : ℕ} (answer : r ≡ written_of (read_formula p s) (take k (drop at b))) (room : r' ≡ text_room (read_formula p s) (take k (drop at b)))
      (length_is : n ≡ result_unwrap_or r 0) where
    pub text_laid : Laid b at (text_in (read_formula p s)) (put_mid at k b r') (at + n)
    unfolding text_in written_of text_room laid
    text_laid = go (read_formula p s) (text_short p s bytes) answer room
      where
        go : (x : Read (List Row)) → length (text_in x) ≤ 1216 → r ≡ written_of x (take k (drop at b)) → r' ≡ text_room x (take k (drop at b))
            → Laid b at (text_in x) (put_mid at k b r') (at + n)
        go (Ok rows) short a l =
            let t : List ℕ = text (root_of rows) in
            let fits = le-ltb (length (take k (drop at b))) (length t) (omega (arith, ap length rest_is, length-drop at b)) in
            let told : r ≡ Ok (length t) = a ∙ rw fits in
            let now : r' ≡ t ++ drop (length t) (take k (drop at b)) = l ∙ rw fits in
            record {
              inside = omega arith;
              room_is =
                  rw (none_behind, append-nil)
                  (ap (λ (x : List ℕ). take at b ++ x) (now ∙ ap (λ (x : List ℕ). t ++ drop (length t) x) rest_is ∙ ap (λ (x : List ℕ). t ++ x) (drop-drop (length t) at b))
                  ∙ sym (append_assoc (take at b) t (drop (at + length t) b)));
              next_is = ap (λ (j : ℕ). at + j) (length_is ∙ ap (λ (x : Read ℕ). result_unwrap_or x 0) told);
            }
        go (Err e) short a l =
            let as_it_came : put_mid at k b r' ≡ b = rw (none_behind, append-nil) (ap (λ (x : List ℕ). take at b ++ x) (l ∙ rest_is) ∙ take-append-drop at b) in
            let no_length : at + n ≡ at = ap (λ (j : ℕ). at + j) (length_is ∙ ap (λ (x : Read ℕ). result_unwrap_or x 0) a) ∙ add-zero at in
            rw (as_it_came, no_length) (nothing b at (omega arith))

-- ---- the lines of a settled question

states_length : (values : List ℕ) → length (states_lines values) ≤ length values * 15
unfolding states_lines
states_length values = span_short _ 15 (λ a. state_length _ a) 0 (length values)

-- they fit 8,192 bytes
pub ended_fit : (p : ℕ) (s : List ℕ) (m : ℕ) (values : List ℕ) (at : ℕ) {size : ℕ} → Bytes s → length values ≤ 256 → at + 8192 ≤ size
    → at + length (ended_lines (read_formula p s) m values) ≤ size
unfolding ended_lines
ended_fit p s m values at bytes few long =
    let t = text_in (read_formula p s) in
    omega (
      arith,
      text_short p s bytes,
      length-append t (10 ∷ []),
      length-append (line t) (rounds_line m),
      length-append (line t ++ rounds_line m) (states_lines values),
      rounds_length m,
      states_length values,
    )
