-- The header, the hyperedges, the cover edges and nothing behind them are the whole reading of a graph message, and the other way round.
-- Assumes nothing.
use Prim.Native.Nat.{ℕ, ◌+◌, ◌*◌, ◌≤◌}
use mathlib.Core.List.{List}
use mathlib.Core.Path.{◌≡◌, refl, sym, ap, ap₂, subst, ◌∙◌}
use lib.ListN.{length}
use borrow.Author.Tests.{eq-eqb}
use native.Mathlib.Omega.{arith}
use Rattle.wire.specs.Read.{Ok}
use Rattle.wire.specs.Reader.{read_all, past, run}
use Rattle.wire.specs.Begin.{start}
use Rattle.wire.specs.Layout.{items, end}
use Rattle.wire.specs.declared.State.{State}
use Rattle.wire.proofs.Fields.{value_inside}
use Rattle.wire.proofs.Readers.{run_good, run_keeps, all_length, past_wide}
use Rattle.wire.proofs.Layouts.{reads_all, items_length}
use Rattle.wire.proofs.Exact.{good_bind, good_demand}
use Rattle.graph.specs.Format.{graph_header, cover_width}
use Rattle.graph.specs.Layouts.{hyper_layout, cover_layout, decoded}
use Rattle.graph.specs.Message.{hypers, covers, read_header, read_graph}
use Rattle.graph.proofs.Good.{header_good, hypers_stay, graph_good}
use Rattle.graph.proofs.Accepted.{hypers_read, accepted_holds}

module _ (s : List ℕ) {n h c : ℕ} (head : read_header s ≡ Ok (record { nodes = n; hypers = h; covers = c; targets = 0 })) where
  pub header_inside : graph_header ≤ length s
  header_inside = omega (arith, value_inside 2 s 12 (header_good s _ head).c_counted.there)

  pub few_nodes : n ≤ 4096
  few_nodes = (header_good s _ head).n_counted.no_more

module _ (s : List ℕ) (n h c : ℕ) where
  -- where the hyperedges end
  pub middle_is : {past₁ : State} → run (hypers s n) h (start graph_header) ≡ Ok past₁ → past₁.at ≡ end (hyper_layout s n) h graph_header
  middle_is e =
      let r = run_good _ _ _ _ e in
      ap (λ (st : State). st.at) (sym r.ends) ∙ (reads_all (hyper_layout s n) (hypers s n) (hypers_read s n) h (start graph_header) r.got r.there).end_is

  pub middle_inside : graph_header ≤ length s → {past₁ : State} → run (hypers s n) h (start graph_header) ≡ Ok past₁ → past₁.at ≤ length s
  middle_inside l e = run_keeps (hypers s n) (λ (st : State). st.at ≤ length s) (λ st next e. (hypers_stay s n st next e).0) h (start graph_header) _ l e

  -- of a message that is read
  module _ (read : read_graph s ≡ Ok (decoded s n h c)) where
    hypers_there : read_all (hypers s n) h (start graph_header) ≡ Ok (items (hyper_layout s n) h graph_header)
    unfolding decoded
    hypers_there = subst (λ (k : ℕ). read_all (hypers s n) k (start graph_header) ≡ Ok (items (hyper_layout s n) h graph_header)) (items_length (hyper_layout s n) h graph_header)
        (graph_good {s = s} {g = decoded s n h c} read).hypers_there

    pub hypers_run : run (hypers s n) h (start graph_header) ≡ Ok (past (hypers s n) (start graph_header) (items (hyper_layout s n) h graph_header))
    unfolding run
    hypers_run = good_bind _ hypers_there refl

    covers_there : read_all (covers s n) c (start (end (hyper_layout s n) h graph_header)) ≡ Ok (items (cover_layout s n) c (end (hyper_layout s n) h graph_header))
    unfolding decoded
    covers_there =
        let middle = end (hyper_layout s n) h graph_header in
        let cs = items (cover_layout s n) c middle in
        subst (λ (k : ℕ). read_all (covers s n) k (start middle) ≡ Ok cs) (items_length (cover_layout s n) c middle)
        (subst (λ (m : ℕ). read_all (covers s n) (length cs) (start m) ≡ Ok cs) (middle_is hypers_run) (graph_good {s = s} {g = decoded s n h c} read).covers_there)

    pub covers_run : run (covers s n) c (start (end (hyper_layout s n) h graph_header))
        ≡ Ok (past (covers s n) (start (end (hyper_layout s n) h graph_header)) (items (cover_layout s n) c (end (hyper_layout s n) h graph_header)))
    unfolding run
    covers_run = good_bind _ covers_there refl

    pub whole_length : end (hyper_layout s n) h graph_header + c * cover_width ≡ length s
    unfolding decoded
    whole_length =
        let st = start (past (hypers s n) (start graph_header) (items (hyper_layout s n) h graph_header)).at in
        let cs = items (cover_layout s n) c (end (hyper_layout s n) h graph_header) in
        let wide = past_wide (covers s n) cover_width (λ u a. refl) st cs in
        let ends = (graph_good {s = s} {g = decoded s n h c} read).ends in
        omega (arith, wide, ends, middle_is hypers_run, items_length (cover_layout s n) c (end (hyper_layout s n) h graph_header))

  -- a message is read
  pub whole_reads : read_header s ≡ Ok (record { nodes = n; hypers = h; covers = c; targets = 0 }) → {past₁ past₂ : State} {middle : ℕ} → run (hypers s n) h (start graph_header) ≡ Ok past₁ → past₁.at ≡ middle
      → middle + c * cover_width ≡ length s → run (covers s n) c (start middle) ≡ Ok past₂ → read_graph s ≡ Ok (decoded s n h c)
  unfolding read_graph
  whole_reads head {middle = middle} hs at fits cs =
      let H = run_good _ _ _ _ hs in
      let C = run_good _ _ _ _ cs in
      let st = start (past (hypers s n) (start graph_header) H.got).at in
      let led : (past (hypers s n) (start graph_header) H.got).at ≡ middle = ap (λ (u : State). u.at) H.ends ∙ at in
      let there : read_all (covers s n) c st ≡ Ok C.got = subst (λ (m : ℕ). read_all (covers s n) c (start m) ≡ Ok C.got) (sym led) C.there in
      let count : length C.got ≡ c = all_length _ _ _ _ C.there in
      let last : (past (covers s n) st C.got).at ≡ length s = omega (arith, past_wide (covers s n) cover_width (λ u a. refl) st C.got) in
      let r : read_graph s ≡ Ok (record { nodes = n; hypers = H.got; covers = C.got }) =
      good_bind _ head (good_bind _ H.there (good_bind _ there (good_demand _ (eq-eqb _ _ last) refl))) in
      r ∙ ap Ok ((accepted_holds s _ r).is ∙ ap₂ (decoded s n) (all_length _ _ _ _ H.there) count)
