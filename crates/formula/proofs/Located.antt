-- A fault of a formula message is of no field, or of a field that starts inside the message. Assumes nothing.
use Prim.Native.Nat.{ℕ, zero, suc, ◌+◌, ◌≤◌}
use mathlib.Core.Bool.{Bool, true, false}
use mathlib.Core.List.{List}
use mathlib.Core.Path.{◌≡◌, refl, sym, ap, subst, ◌∙◌}
use native.Mathlib.Omega.{arith}
use lib.ListN.{length}
use Rattle.refusal.specs.declared.Fault.{Fault}
use Rattle.wire.specs.declared.State.{State}
use Rattle.wire.specs.Read.{Read, Ok, Err, ◌>>=◌, ◌>>◌, unless, field, below, misnamed}
use Rattle.wire.specs.Reader.{read_all}
use Rattle.wire.specs.Start.{only, read_start, version_at, kind_at}
use Rattle.wire.specs.Counts.{read_count}
use Rattle.wire.specs.Begin.{start}
use Rattle.wire.proofs.Fields.{refused_short, value_inside}
use Rattle.wire.proofs.Reading.{never, bad_same}
use Rattle.syntax.specs.Format.{formula_header, rows_count, place_of}
use Rattle.syntax.specs.Rows.{uses_left, uses_right, uses_bound}
use Rattle.syntax.specs.Message.{ill_formed, spare, operand, fields_from, row_from, rows, read_header, read_formula}
use Rattle.formula.specs.Located as at-start
use Rattle.formula.specs.Located.{FieldStart, Located, of_no_field, of_field}
use Rattle.formula.proofs.Good.{header_good}

-- ---- readings whose faults are all located

-- every fault of a reading is of no field of s, or of one that starts inside
record Faults (s : List ℕ) {A : Type 0} (x : Read A) : Type 0 where
  located : {f : Fault} → x ≡ Err f → Located s f

module _ {s : List ℕ} where
  none : {A : Type 0} (a : A) → Faults s (Ok a)
  none a = record { located = λ e. absurd (never (sym e)) }

  then : {A B : Type 0} (x : Read A) {k : A → Read B} → Faults s x → ((a : A) → x ≡ Ok a → Faults s (k a)) → Faults s (x >>= k)
  unfolding ◌>>=◌
  then (Ok a) p q = q a refl
  then (Err e) p q = record { located = λ h. p.located (ap Err (bad_same h)) }

  and : {B : Type 0} (x : Read Unit) {r : Read B} → Faults s x → (x ≡ Ok tt → Faults s r) → Faults s (x >> r)
  unfolding ◌>>◌
  and (Ok a) p q = q refl
  and (Err e) p q = record { located = λ h. p.located (ap Err (bad_same h)) }

  -- a test's fault
  test : (t : Bool) {e : Fault} → Located s e → Faults s (unless t e)
  unfolding unless
  test true l = none tt
  test false l = record { located = λ h. subst (Located s) (bad_same h) l }

  -- a field that doesn't fit is no field's fault; one that is not below its limit is there
  there : (k at : ℕ) → Faults s (field k s at)
  there k at = go (field k s at) refl
    where
      go : (x : Read ℕ) → field k s at ≡ x → Faults s x
      go (Ok n) e = none n
      go (Err f) e = record { located = λ h. of_no_field (ap (λ (g : Fault). g.offset) (sym (bad_same h) ∙ refused_short k s at e)) }

  limited : (k at limit : ℕ) {e : Fault} → (at + k ≤ length s → Located s e) → Faults s (below k s at limit e)
  unfolding below
  limited k at limit l = then _ (there k at) (λ n e. and _ (test _ (l (value_inside k s at e))) (λ h. none n))

-- ---- the header

module _ (s : List ℕ) where
  only_faults : (at allowed : ℕ) → (at + 1 ≤ length s → FieldStart s at) → Faults s (only s at allowed)
  unfolding only
  only_faults at allowed starts =
      then _ (there 1 at) (λ n e. let inside = value_inside 1 s at e in and _ (test _ (of_field (omega arith) (starts inside))) (λ h. none n))

  header_faults : Faults s (read_header s)
  unfolding read_header read_start read_count
  header_faults =
      and _
      (and _ (test _ (of_no_field refl)) (λ h.
      then _ (there 4 0) (λ total e.
      and _ (test _ (of_no_field refl)) (λ h.
      then _ (only_faults version_at _ (λ h. at-start.version)) (λ v e.
      then _ (only_faults kind_at _ (λ h. at-start.kind)) (λ k e. none tt))))))
      (λ h.
      then _
      (then _ (there 1 rows_count.at) (λ n e.
      let inside = value_inside 1 s rows_count.at e in
      and _ (test _ (of_field (omega arith) at-start.row_count)) (λ h.
      and _ (test _ (of_field (omega arith) at-start.row_count)) (λ h. none n))))
      (λ f e. and _ (test _ (of_no_field refl)) (λ h. none f)))

  -- ---- rows

  spare_faults : (used : Bool) (k at offset : ℕ) → Located s (ill_formed offset) → Faults s (spare used k s at offset)
  unfolding spare
  spare_faults true k at offset l = none 0
  spare_faults false k at offset l = limited k at 1 (λ h. l)

  operand_faults : (used : Bool) (at limit offset : ℕ) → Located s (misnamed offset) → Faults s (operand used s at limit offset)
  unfolding operand
  operand_faults true at limit offset l = limited 1 at limit (λ h. l)
  operand_faults false at limit offset l = none 0

  -- row i, which is inside the message
  row_faults : (p i : ℕ) → place_of (suc i) ≤ length s → Faults s (row_from s (place_of i) (place_of i) p i)
  unfolding row_from fields_from
  row_faults p i h =
      then _ (there 1 (place_of i)) (λ o e.
      and _ (test _ (of_field (omega arith) (at-start.operator i h))) (λ known.
      then _ (spare_faults (uses_left o) 1 _ _ (of_field (omega arith) (at-start.left i h))) (λ l e.
      then _ (spare_faults (uses_right o) 1 _ _ (of_field (omega arith) (at-start.right i h))) (λ r e.
      then _ (spare_faults false 1 _ _ (of_field (omega arith) (at-start.zero i h))) (λ z e.
      then _ (spare_faults (uses_bound o) 4 _ _ (of_field (omega arith) (at-start.bound i h))) (λ b e.
      then _ (operand_faults (uses_left o) _ _ _ (of_field (omega arith) (at-start.left i h))) (λ left e.
      then _ (operand_faults (uses_right o) _ _ _ (of_field (omega arith) (at-start.right i h))) (λ right e.
      then _ (there 4 _) (λ bound e. none _)))))))))

  rows_faults : (p k : ℕ) (st : State) → st.at ≡ place_of st.seen → place_of (st.seen + k) ≤ length s → Faults s (read_all (rows s p) k st)
  unfolding read_all
  rows_faults p zero st here inside = none _
  rows_faults p (suc k) st here inside =
      let row : Faults s (row_from s st.at st.at p st.seen) =
      subst (λ (at : ℕ). Faults s (row_from s at at p st.seen)) (sym here) (row_faults p st.seen (omega arith)) in
      then _ row (λ a e.
      then _ (rows_faults p k ((rows s p).next st a) (omega (arith, here)) (omega arith)) (λ xs e. none _))

-- ---- the message

formula_faults : (p : ℕ) (s : List ℕ) → Faults s (read_formula p s)
unfolding read_formula
formula_faults p s =
    and _ (test _ (of_no_field refl)) (λ few.
    then _ (header_faults s) (λ f e.
    then _ (rows_faults s p f (start formula_header) refl (omega (arith, (header_good s f e).long))) (λ rs e.
    and _ (test _ (of_no_field refl)) (λ used. none rs))))

pub fault_located : (p : ℕ) (s : List ℕ) {f : Fault} → read_formula p s ≡ Err f → Located s f
fault_located p s e = (formula_faults p s).located e
