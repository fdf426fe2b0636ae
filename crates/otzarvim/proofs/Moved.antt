-- From what was read, through the report, to what is written.
use Rattle.std.proofs.Common.{◌≡◌, ℕ, ◌≤◌, List, None, Some, IfSome, Result, Ok, Err, OnOk, OnErr, length, take, drop, refl, ap, subst, ◌∙◌, le-leb, take_at}
use Rattle.std.specs.declared.option.Option.{Option}
use Rattle.std.specs.Io.KnownBytes.{Appends}
use Rattle.intake.specs.Fronts.{AppendsFront}
use Rattle.report.specs.Output.{read_input, output_of, zero_bytes, zero_values, report_length, report_out}

-- the output for these bytes
abbrev pub output_for : List ℕ → List ℕ
output_for input = output_of (read_input input zero_bytes zero_values)

-- the report stands at the front of a room that holds every report
pub report_front : (input came left : List ℕ) (len : ℕ) → 8192 ≤ length came → len ≡ report_length (read_input input zero_bytes zero_values) came
    → left ≡ report_out (read_input input zero_bytes zero_values) came → take len left ≡ output_for input
unfolding report_length report_out
report_front input came left len room long is =
    let all = output_for input in
    rw (long, is, le-leb 8192 (length came) room) (take_at all (drop (length all) came) (length all) refl)

-- what is said of the output for the bytes that were read is said of that for the first of those that the reader gives
for_first : (P : List ℕ → Type 0) (a : Option (List ℕ)) (read written : List ℕ) → IfSome a (λ xs. read ≡ take 8193 xs) → written ≡ output_for read → P written
    → IfSome a (λ xs. P (output_for (take 8193 xs)))
for_first P None read written first is said = tt
for_first P (Some xs) read written first is said = subst P (is ∙ ap output_for first) said

-- what is written is the output for the bytes that were read, which are the first of those that the reader gives
pub moved : {X E : Type 0} (r : Result X E) (a w v : Option (List ℕ)) (read written : List ℕ) → IfSome a (λ xs. read ≡ take 8193 xs) → written ≡ output_for read
    → OnOk r (Appends w v written) → OnOk r (IfSome a (λ xs. Appends w v (output_for (take 8193 xs))))
moved (Err e) a w v read written first is done = tt
moved (Ok x) a w v read written first is done = for_first (Appends w v) a read written first is done

-- where a write fails, some front of that output is written
pub moved_part : {X E : Type 0} (r : Result X E) (a w v : Option (List ℕ)) (read written : List ℕ) → IfSome a (λ xs. read ≡ take 8193 xs) → written ≡ output_for read
    → OnErr r (AppendsFront w v written) → OnErr r (IfSome a (λ xs. AppendsFront w v (output_for (take 8193 xs))))
moved_part (Err e) a w v read written first is part = for_first (AppendsFront w v) a read written first is part
moved_part (Ok x) a w v read written first is part = tt
