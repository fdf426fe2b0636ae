-- The answer and the room in each of the three cases. Assumes nothing.
use Prim.Native.Nat.{ℕ, ◌+◌, ◌<◌}
use mathlib.Core.List.{List, ◌++◌}
use mathlib.Core.Path.{◌≡◌, refl, ap, ◌∙◌}
use lib.ListN.{length, drop}
use borrow.Author.Tests.{lt-ltb, le-ltb}
use native.Mathlib.Omega.{arith}
use Rattle.refusal.specs.Number.{unplaced}
use Rattle.refusal.specs.declared.Fault.{Fault}
use Rattle.refusal.specs.declared.Refusal.TheVariants.{Room}
use Rattle.wire.specs.Read.{Read, Ok, Err}
use Rattle.syntax.specs.declared.Row.{Row}
use Rattle.syntax.specs.Formula.{root_of}
use Rattle.wording.specs.Text.{text}
use Rattle.wire.specs.Laid.{laid, Laid}
use Rattle.text.specs.Written.{written_of, text_room}

-- the answer r, and the room b' that b became
abbrev pub Answered : Read (List Row) → List ℕ → Read ℕ → List ℕ → Type 0
Answered x b r b' = record { answer : r ≡ written_of x b; room : b' ≡ text_room x b }

pub refused : (x : Read (List Row)) (b : List ℕ) {e : Fault} {r : Read ℕ} → x ≡ Err e → r ≡ Err e → Answered x b r b
unfolding written_of text_room
refused x b h is = rw h (record { answer = is; room = refl })

module _ (x : Read (List Row)) (b : List ℕ) (rows : List Row) (h : x ≡ Ok rows) where
  pub no_room : length b < length (text (root_of rows)) → Answered x b (Err (unplaced Room)) b
  unfolding written_of text_room
  no_room k = rw (h, lt-ltb (length b) (length (text (root_of rows))) k) (record { answer = refl; room = refl })

  pub written : {b' : List ℕ} {n : ℕ} → Laid b 0 (text (root_of rows)) b' n → Answered x b (Ok n) b'
  unfolding written_of text_room laid
  written {b'} {n} l =
      let t : List ℕ = text (root_of rows) in
      let end : n ≡ length t = omega (arith, l.next_is) in
      let from : 0 + length t ≡ length t = omega arith in
      rw (h, end, le-ltb (length b) (length t) (omega (arith, l.inside))) (record {
        answer = refl;
        room = l.room_is ∙ ap (λ (k : ℕ). t ++ drop k b) from;
      })
