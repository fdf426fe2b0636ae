-- What is shown of a report, exit by exit: its length, and what is left in the three rooms. Assumes nothing.
use Prim.Native.Nat.{ℕ, ◌+◌, ◌<◌, ◌≤◌}
use mathlib.Core.List.{List, ◌++◌}
use mathlib.Core.Path.{◌≡◌, refl, sym, ap, subst, ◌∙◌}
use native.Mathlib.Omega.{arith}
use lib.ListN.{length, take, drop}
use lib.Seq.{length-take-le}
use borrow.Author.Tests.{leb-true, le-leb, lt-leb}
use Rattle.std.specs.Counts.{IsPrefixLen}
use Rattle.refusal.specs.declared.Fault.{Fault}
use Rattle.refusal.specs.Number.{number_of}
use Rattle.wire.specs.Laid.{laid, Laid}
use Rattle.wire.specs.Read.{Read, Ok, Err}
use Rattle.wire.proofs.Laid.{same_length}
use Rattle.wire.proofs.Reading.{good_then, bad_then, bind_good, demand_good, good_same}
use Rattle.decimals.specs.declared.Writer.{Writer}
use Rattle.decimals.specs.Writer.{Wrote}
use Rattle.questions.specs.Question.{Question}
use Rattle.settling.specs.Answer.{read_settled, bytes_of}
use Rattle.pieces.specs.Lines.{refused_line}
use Rattle.pieces.specs.Cut.{read_cut}
use Rattle.report.specs.Output.{read_input, output_within, output_of, left_of, report_length, report_out, report_bytes, report_values}

-- ---- where the model ends

module _ (s : List ℕ) where
  -- it ends inside, and the formula is the rest
  pub end_inside : {k : ℕ} → read_cut s ≡ Ok k → k ≤ length s
  unfolding read_cut
  end_inside {k} h =
      let d = demand_good _ _ _ h in
      let t = bind_good _ _ d.1 in
      let e = demand_good _ _ _ t.rest in
      subst (λ (i : ℕ). i ≤ length s) (good_same e.1) (leb-true _ _ e.0)

  module _ (b v : List ℕ) where
    pub end_reads : {k : ℕ} {m f : List ℕ} → read_cut s ≡ Ok k → m ≡ take k s → f ≡ drop k s → read_input s b v ≡ read_settled m f b v
    unfolding read_input
    end_reads h front back = rw (h, front, back) (good_then _ _)

    pub end_refused : {e : Fault} → read_cut s ≡ Err e → read_input s b v ≡ Err e
    unfolding read_input
    end_refused h = rw h (bad_then _ _)

-- ---- the exits

-- what is written of what is read, and what is left in the other two rooms
abbrev pub Put : Read Question → (b v : List ℕ) (w w' : Writer) (b' v' : List ℕ) → Type 0
Put x b v w w' b' v' = record { wrote : Wrote w (output_of x) w'; bytes_after : b' ≡ bytes_of x b; values_after : v' ≡ left_of x v }

module _ {x : Read Question} (b v : List ℕ) {w w' : Writer} where
  pub put_fault : {e : Fault} → x ≡ Err e → Wrote w (refused_line (number_of e.refusal) e.offset) w' → Put x b v w w' b v
  unfolding output_within bytes_of left_of
  put_fault is put = rw is (record { wrote = put; bytes_after = refl; values_after = refl })

  -- that of another reading that is the same
  pub put_as : {y : Read Question} {b' v' : List ℕ} → x ≡ y → Put y b v w w' b' v' → Put x b v w w' b' v'
  put_as is put = rw is put

-- the length r, and the rooms as they are left
abbrev pub Reported : Read Question → (b v o : List ℕ) → ℕ → (o' b' v' : List ℕ) → Type 0
Reported x b v o r o' b' v' = record {
  value : r ≡ report_length x o;
  out_after : o' ≡ report_out x o;
  bytes_after : b' ≡ report_bytes x b o;
  values_after : v' ≡ report_values x v o;
  prefix_len : IsPrefixLen r o';
}

module _ (x : Read Question) (b v o : List ℕ) where
  -- the room is too small
  pub none_reported : length o < 8192 → Reported x b v o 0 o b v
  unfolding report_length report_out report_bytes report_values
  none_reported h =
      rw (lt-leb 8192 (length o) h) (record { value = refl; out_after = refl; bytes_after = refl; values_after = refl; prefix_len = (omega arith, refl) })

  -- the output stands in it
  pub reported : {r : ℕ} {o' b' v' : List ℕ} → 8192 ≤ length o → Laid o 0 (output_of x) o' r → b' ≡ bytes_of x b → v' ≡ left_of x v
      → Reported x b v o r o' b' v'
  unfolding report_length report_out report_bytes report_values laid
  reported {r} {o'} h l p q =
      let fit : r ≤ length o' = omega (arith, same_length l, l.inside, l.next_is) in
      let from : 0 + length (output_of x) ≡ length (output_of x) = omega arith in
      let room : o' ≡ output_of x ++ drop (length (output_of x)) o = l.room_is ∙ ap (λ (k : ℕ). output_of x ++ drop k o) from in
      rw (le-leb 8192 (length o) h) (record {
        value = omega (arith, l.next_is);
        out_after = room;
        bytes_after = p;
        values_after = q;
        prefix_len = (fit, sym (length-take-le r o' fit));
      })
