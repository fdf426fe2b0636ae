-- `claims::accepts` meets its contract: where a scan finds something odd the message is not read or an edge is not fair; where it finds nothing
-- the message is read, and the marks say which nodes have a support.
use Rattle.std.proofs.Common.{◌≡◌, ℕ, None, Some, replicate, length, refl, sym, ◌∙◌, arith}
use Rattle.std.proofs.lemmas.List.{length-replicate}
use Rattle.lists.proofs.Tests.{clash}
use Rattle.wire.specs.Bytes.{Bytes}
use Rattle.wire.specs.Layout.{end}
use Rattle.wire.specs.Read.{Ok}
use Rattle.rules.specs.Graph.{Closed}
use Rattle.graph.specs.Format.{graph_header}
use Rattle.graph.specs.Layouts.{hyper_layout, decoded}
use Rattle.graph.specs.Message.{read_graph}
use Rattle.graph.proofs.Exact.{accepted_written}
use Rattle.graph.proofs.Whole.{few_nodes, header_inside, middle_is, middle_inside, hypers_run, covers_run, whole_length, whole_reads}
use Rattle.claims.proofs.Checking.{message_light, unmarked_none, hypers_fair, covers_fair, unmarked, all_marked}
use Rattle.claims.proofs.Scanning.{HypersScanned, CoversScanned, hypers_scanned, covers_scanned}
use Rattle.claims.proofs.accepts.Goals as goal
use Rattle.claims.proofs.accepts.Goals.{In-Some, Start}

-- a message that is read holds a closed graph
closed : (b : Start) → Bytes b.args.s.now → read_graph b.args.s.now ≡ Ok (decoded b.args.s.now b.args.claims.nodes b.args.h b.args.c)
    → Closed (decoded b.args.s.now b.args.claims.nodes b.args.h b.args.c)
closed b bytes read = (accepted_written b.args.s.now _ bytes read).1.closed

-- no node is marked at first
long : length (replicate {A = ℕ} 4096 0) ≡ 4096
long = length-replicate {A = ℕ} 4096 0

-- what the scan of the hyperedges found
past_hypers : (c : In-Some) → let a = c.args in HypersScanned a.s.now a.claims.nodes (few_nodes _ c.requires) a.claims.bytes.now a.h (replicate 4096 0) c.scan.new.marks (Some c.in-Some.middle)
past_hypers c = let a = c.args in
    hypers_scanned a.s.now a.claims.nodes (few_nodes _ c.requires) a.claims.bytes.now a.h (replicate 4096 0) c.scan.new.marks (Some c.in-Some.middle) long c.in-Some.ensures

ends : (c : In-Some) → c.in-Some.middle ≡ end (hyper_layout c.args.s.now c.args.claims.nodes) c.args.h graph_header
ends c = let (past, run, at) = (past_hypers c).0 in sym at ∙ middle_is c.args.s.now c.args.claims.nodes c.args.h c.args.c run

pub scan-requires : goal.scan-requires
scan-requires c = (few_nodes _ c.requires, header_inside _ c.requires, omega arith, omega arith)

pub returns-in_default : goal.returns-in_default
unfolding decoded
returns-in_default c = let a = c.args in let b = (goal.at.returns-in_default c).Start in (
  λ e. clash e refl,
  λ q read ok. hypers_scanned a.s.now a.claims.nodes (few_nodes _ c.requires) a.claims.bytes.now a.h (replicate 4096 0) c.scan.new.marks None long c.in_default.ensures
      _ (hypers_run a.s.now a.claims.nodes a.h a.c read) (hypers_fair (decoded _ _ _ _) (closed b (λ i. omega (arith, c.type_inv.s i)) read) _ _ ok),
)

pub overflow_add-middle : goal.overflow_add-middle
overflow_add-middle c =
    let (past, run, at) = (past_hypers c).0 in
    omega (arith, at, middle_inside c.args.s.now c.args.claims.nodes c.args.h c.args.c (header_inside _ c.requires) run)

pub returns-then-middle-c : goal.returns-then-middle-c
returns-then-middle-c c = let a = c.args in (
  λ e. clash e refl,
  λ q read ok. c.if-middle-c.true (omega (arith, ends (goal.at.returns-then-middle-c c).In-Some, whole_length a.s.now a.claims.nodes a.h a.c read)),
)

-- what the scan of the cover edges found, which start where the hyperedges end
pub returns-in_default-scan : goal.returns-in_default-scan
unfolding decoded
returns-in_default-scan c =
    let a = c.args in
    let here = goal.at.returns-in_default-scan c in
    let odd : CoversScanned a.s.now a.claims.nodes (few_nodes _ c.requires) a.claims.bytes.now a.c c.in-Some.middle c.scan.new.marks c.scan-2.new.marks None =
    covers_scanned a.s.now a.claims.nodes (few_nodes _ c.requires) a.claims.bytes.now a.c c.in-Some.middle c.scan.new.marks c.scan-2.new.marks None c.scan.array_long
    c.in_default-scan.ensures in (
      λ e. clash e refl,
      λ q read ok. (rw (ends here.In-Some) at odd) _ (covers_run a.s.now a.claims.nodes a.h a.c read)
          (covers_fair (decoded _ _ _ _) (closed here.Start (λ i. omega (arith, c.type_inv.s i)) read) _ _ ok),
    )

pub scan-requires-2 : goal.scan-requires-2
scan-requires-2 c = (few_nodes _ c.requires, omega (arith, c.if-middle-c.false), omega arith)

pub all_backed-requires : goal.all_backed-requires
all_backed-requires c = few_nodes _ c.requires

pub returns : goal.returns
unfolding decoded
returns c =
    let a = c.args in
    let here = goal.at.returns c in
    let bytes : Bytes a.s.now = λ i. omega (arith, c.type_inv.s i) in
    let hs = past_hypers here.In-Some in
    let (past₁, run₁, at₁) = hs.0 in
    let found : CoversScanned a.s.now a.claims.nodes (few_nodes _ c.requires) a.claims.bytes.now a.c c.in-Some.middle c.scan.new.marks c.scan-2.new.marks (Some c.in-Some-scan.field-0) =
    covers_scanned a.s.now a.claims.nodes (few_nodes _ c.requires) a.claims.bytes.now a.c c.in-Some.middle c.scan.new.marks c.scan-2.new.marks _ c.scan.array_long
    c.in-Some-scan.ensures in
    let (past₂, run₂, at₂) = found.0 in
    let marked = rw (ends here.In-Some) at found.1 in
    let whole = whole_reads a.s.now a.claims.nodes a.h a.c c.requires run₁ at₁ (omega (arith, c.if-middle-c.false)) run₂ in
    let g = decoded a.s.now a.claims.nodes a.h a.c in (
      λ e. (
        whole,
        all_marked g (closed here.Start bytes whole) _ _ hs.1 marked (unmarked_none 4096) (few_nodes _ c.requires) (message_light a.s.now a.claims.nodes a.h a.c bytes)
            (c.all_backed.ensures.0 e),
      ),
      λ e read. unmarked g (closed here.Start bytes read) _ _ hs.1 marked (c.all_backed.ensures.1 e),
    )
