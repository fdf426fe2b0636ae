-- Records that are in order are read without a fault. Assumes nothing.
use Prim.Native.Nat.{ℕ, zero, suc, ◌+◌, ◌*◌, ◌<◌, ◌≤◌}
use mathlib.Core.List.{List}
use mathlib.Core.Bool.{Bool, true, ◌&&◌}
use mathlib.Core.Path.{◌≡◌, ◌∙◌}
use lib.ListN.{length}
use lib.Dec.{leb, ltb}
use borrow.Author.Tests.{leb-true, ltb-true}
use native.Mathlib.Numerals.{sub-one}
use native.Mathlib.Omega.{arith}
use Rattle.lists.proofs.Tests.{and_left, and_right}
use Rattle.wire.specs.Bytes.{number}
use Rattle.wire.specs.Read.{Ok}
use Rattle.wire.specs.Reader.{Reader, one, run}
use Rattle.wire.specs.declared.State.{State}
use Rattle.wire.proofs.Reading.{good_then}
use Rattle.wire.proofs.Readers.{run_none, run_more}
use Rattle.ordered.specs.Ordered.{record_width, in_order}

module _ (s : List ℕ) (n target_at : ℕ) where
  -- the state past a record
  abbrev pub passed : State → State
  passed st = record { at = st.at + record_width target_at; prev = number 2 s st.at; seen = st.seen }

  -- records that a reader reads without a fault where they are in order
  module _ {A : Type 0} (R : Reader State A) where
    abbrev pub ReadsInOrder : Type 0
    ReadsInOrder =
        (st : State) → st.at + record_width target_at ≤ length s → st.prev ≤ number 2 s st.at
        → number 2 s st.at < n → number 2 s (st.at + target_at) < n → one R st ≡ Ok (passed st)

    -- a run of k records that ends behind them
    pub record Ended (k : ℕ) (st : State) : Type 0 where
      pub last : State
      pub runs : run R k st ≡ Ok last
      pub there : last.at ≡ st.at + k * record_width target_at

    pub in_order_runs : ReadsInOrder → (k : ℕ) (st : State) → st.at + k * record_width target_at ≤ length s
        → in_order s n target_at k st.prev st.at ≡ true → Ended k st
    unfolding in_order
    in_order_runs reads zero st inside ordered = record { last = st; runs = run_none _ st; there = omega arith }
    in_order_runs reads (suc k) st inside ordered =
        let source : ℕ = number 2 s st.at in
        let target : ℕ = number 2 s (st.at + target_at) in
        let rest : Bool = in_order s n target_at k source (st.at + record_width target_at) in
        let rises = and_left (leb st.prev source) (ltb source n && (ltb target n && rest)) ordered in
        let behind = and_right (leb st.prev source) (ltb source n && (ltb target n && rest)) ordered in
        let less = and_left (ltb source n) (ltb target n && rest) behind in
        let last = and_right (ltb source n) (ltb target n && rest) behind in
        let first = reads st (omega arith) (leb-true _ _ rises) (ltb-true _ _ less) (ltb-true _ _ (and_left (ltb target n) rest last)) in
        let end = in_order_runs reads k (passed st) (omega arith) (and_right (ltb target n) rest last) in
        record {
          last = end.last;
          runs = run_more R (suc k) st (omega arith) ∙ rw (first, good_then, sub-one) end.runs;
          there = omega (arith, end.there);
        }
