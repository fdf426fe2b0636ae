-- The lines of the report: one more of them, how long they are, and the answer in each of the two cases. Assumes nothing.
use Prim.Native.Nat.{ℕ, ◌+◌, ◌*◌, ◌<◌, ◌≤◌}
use mathlib.Core.List.{List, [], ◌∷◌, ◌++◌, append_assoc}
use mathlib.Core.Path.{◌≡◌, refl, sym, ap, ap₂, ◌∙◌}
use native.Mathlib.Numerals.{add-one}
use native.Mathlib.Omega.{arith}
use lib.ListN.{length, get_or, take, drop, length-append, take-append-drop}
use lib.Seq.{take-suc, take_at}
use borrow.Author.Tests.{lt-ltb, le-ltb}
use Rattle.std.proofs.Common.{Result, Ok, Err}
use Rattle.refusal.specs.Number.{unplaced}
use Rattle.wire.specs.Read.{Read}
use Rattle.refusal.specs.declared.Refusal.TheVariants.{Room}
use Rattle.wire.specs.Laid.{laid, Laid}
use Rattle.decimals.specs.Decimal.{long_decimal}
use Rattle.decimals.proofs.Decimal.{decimal_length}
use Rattle.decimals.specs.declared.Writer.{Writer}
use Rattle.decimals.specs.Writer.{RoomFor}
use Rattle.lines.specs.Lines.{lines, reported_of, report_room}

-- the lines of numbers one after another
lines_append : (l m : List ℕ) → lines (l ++ m) ≡ lines l ++ lines m
unfolding lines
lines_append [] m = refl
lines_append (n ∷ l) m = rw (lines_append l m) (sym (append_assoc (long_decimal n) (10 ∷ lines l) (lines m)))

module _ (l : List ℕ) (i : ℕ) (h : i < length l) where
  -- the lines before a place, and its own
  pub lines_more : lines (take (i + 1) l) ≡ lines (take i l) ++ long_decimal (get_or l i 0) ++ (10 ∷ [])
  unfolding lines
  lines_more = rw (add-one, take-suc l i 0 h, lines_append) (sym (append_assoc (lines (take i l)) (long_decimal (get_or l i 0)) (10 ∷ [])))

  -- and those behind it
  pub lines_at : lines l ≡ lines (take i l) ++ long_decimal (get_or l i 0) ++ (10 ∷ []) ++ lines (drop (i + 1) l)
  lines_at = ap lines (sym (take-append-drop (i + 1) l)) ∙ lines_append (take (i + 1) l) (drop (i + 1) l) ∙ ap (λ (s : List ℕ). s ++ lines (drop (i + 1) l)) lines_more

  -- the next line fits what the whole fits
  pub line_fits : (w : Writer) → RoomFor w (lines l) → RoomFor w (lines (take i l) ++ long_decimal (get_or l i 0) ++ (10 ∷ []))
  line_fits w fits =
      omega (arith, fits, ap length lines_at, length-append (lines (take i l) ++ long_decimal (get_or l i 0) ++ (10 ∷ [])) (lines (drop (i + 1) l)))

-- a number has at most 20 digits
pub lines_length : (l : List ℕ) → length (lines l) ≤ 21 * length l
unfolding lines
lines_length [] = omega arith
lines_length (n ∷ l) = simp length-append (omega (arith, decimal_length 20 n, lines_length l))

-- ---- at the front of a room

module _ {b s b' : List ℕ} {next : ℕ} (l : Laid b 0 s b' next) where
  room_now : b' ≡ s ++ drop (length s) b
  unfolding laid
  room_now = let from : 0 + length s ≡ length s = omega arith in l.room_is ∙ ap (λ (n : ℕ). s ++ drop n b) from

  pub length_now : next ≡ length s
  length_now = omega (arith, l.next_is)

  pub lines_front : take next b' ≡ s
  lines_front = ap₂ take length_now room_now ∙ take_at s (drop (length s) b) (length s) refl

-- ---- the two answers

-- the answer r, and the room room' that room became
abbrev pub Answered : (numbers room : List ℕ) → Read ℕ → (room' : List ℕ) → Type 0
Answered numbers room r room' = record { answer : r ≡ reported_of numbers room; room : room' ≡ report_room numbers room }

module _ (numbers room : List ℕ) where
  pub no_room : length room < length (lines numbers) → Answered numbers room (Err (unplaced Room)) room
  unfolding reported_of report_room
  no_room h = rw (lt-ltb (length room) (length (lines numbers)) h) (record { answer = refl; room = refl })

  pub written : {front : List ℕ} {n : ℕ} → front ≡ lines numbers → n ≡ length (lines numbers) → n ≤ length room → Answered numbers room (Ok n) (front ++ drop n room)
  unfolding reported_of report_room
  written e k h = rw (e, k, le-ltb (length room) (length (lines numbers)) (omega arith)) (record { answer = refl; room = refl })
