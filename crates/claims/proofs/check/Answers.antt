-- `claims::check` meets its contract: a fault of the header, claims of the wrong length, or a graph and claims that are accepted or not.
use Rattle.std.proofs.Common.{◌≡◌, sym, arith}
use Rattle.std.proofs.lemmas.Result.{err_from_is_err_and}
use Rattle.wire.specs.Bytes.{Bytes}
use Rattle.wire.specs.Read.{Ok}
use Rattle.graph.specs.Message.{read_header}
use Rattle.graph.proofs.Whole.{few_nodes}
use Rattle.claims.proofs.Answering.{header_targets, shown_header, shown_wrong, shown_accepted, shown_rejected}
use Rattle.claims.proofs.check.Goals as goal
use Rattle.claims.proofs.check.Goals.{After-header, In_ok-counts}

-- the message is bytes, and its header is read
bytes : (c : After-header) → Bytes c.args.message.now
bytes c i = omega (arith, c.type_inv.message i)

head : (c : In_ok-counts) → read_header c.args.message.now ≡ Ok c.in_ok-counts.counts
head c = sym c.in_ok-counts.ensures

pub returns-in_err-counts : goal.returns-in_err-counts
returns-in_err-counts c =
    let p = err_from_is_err_and c.from_residual.result c.from_residual.ensures.1 in
    let it = shown_header _ _ (bytes (goal.at.returns-in_err-counts c).After-header) (sym c.in_err-counts.ensures) in
    rw (p.1, p.2) (record { answer = it.0; promise = it.1 })

pub invariant_of-lent : goal.invariant_of-lent
invariant_of-lent c = omega (arith, c.if-claims-nodes.false)

pub accepts-requires : goal.accepts-requires
accepts-requires c = header_targets _ (head (goal.at.accepts-requires c).In_ok-counts)

pub returns-then-accepts : goal.returns-then-accepts
returns-then-accepts c =
    let at = goal.at.returns-then-accepts c in
    let (read, ok) = c.accepts.ensures.0 c.if-accepts.true in
    let it = shown_accepted _ _ (bytes at.After-header) (head at.In_ok-counts) c.if-claims-nodes.false read ok in
    record { answer = it.0; promise = it.1 }

pub returns-then-claims-nodes : goal.returns-then-claims-nodes
returns-then-claims-nodes c =
    let at = goal.at.returns-then-claims-nodes c in
    let it = shown_wrong _ _ (bytes at.After-header) (head at.In_ok-counts) c.if-claims-nodes.true c.check.ensures in
    rw c.and.ensures (record { answer = it.0; promise = it.1 })

pub returns : goal.returns
returns c =
    let at = goal.at.returns c in
    let it = shown_rejected _ _ (bytes at.After-header) (head at.In_ok-counts) c.if-claims-nodes.false (c.accepts.ensures.1 c.if-accepts.false) c.check-2.ensures in
    rw c.and-2.ensures (record { answer = it.0; promise = it.1 })
