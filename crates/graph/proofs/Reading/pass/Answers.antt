-- `graph::Reading::pass` meets its contract: it is passed where all three tests pass.
use Rattle.std.proofs.Common.{ℕ, Some, ◌≡◌, ◌+◌, ◌-◌, ◌*◌, ◌/◌, ◌∙◌, ap, le-leb, arith, refl}
use borrow.Author.Tests.{lt-leb, lt-ltb, le-ltb}
use Rattle.graph.specs.Format.{hyper_width, target_width}
use Rattle.graph.specs.declared.Gathered.{Gathered}
use Rattle.graph.proofs.Near.{gathered_all}
use Rattle.graph.specs.Near.{gathered, behind, pass, source_at, count_at}
use Rattle.graph.proofs.Reading.pass.Goals as goal
use Rattle.graph.proofs.Reading.pass.Goals.{then-p-eq0-via-then-p-eq0, then-p-eq0-via-else-p-eq0+then-count-ge-MANY, then-p-eq0-via-else-p-eq0+else-count-ge-MANY+then-last-end, then-p-eq0-via-else-p-eq0+else-count-ge-MANY+else-last-end+then-source-st}

pub returns-then-p-eq0 : goal.returns-then-p-eq0
unfolding pass
returns-then-p-eq0 c =
    let a = c.args in
    let st = a.p.rest.st in
    let s = a.self.bytes.now in
    let source = c.number_at-source.ensures in
    let count = c.number_at-count.ensures in
    elim c.then-p-eq0.branch [
      | then-p-eq0-via-then-p-eq0 w ↦ rw (le-ltb 0 a.p.rest.left (omega (arith, w.if-p-eq0.true))) refl
      | then-p-eq0-via-else-p-eq0+then-count-ge-MANY w ↦ rw (
        lt-ltb 0 a.p.rest.left (omega (arith, w.if-p-eq0.false)),
        le-ltb (count_at s st.at) 32 (omega (arith, count, w.if-count-ge-MANY.true)),
      ) refl
      | then-p-eq0-via-else-p-eq0+else-count-ge-MANY+then-last-end w ↦ rw (
        lt-ltb 0 a.p.rest.left (omega (arith, w.if-p-eq0.false)),
        lt-ltb (count_at s st.at) 32 (omega (arith, count, w.if-count-ge-MANY.false)),
        lt-leb (st.at + hyper_width + count_at s st.at * target_width) a.last (omega (arith, count, w.if-last-end.true)),
      ) refl
      | then-p-eq0-via-else-p-eq0+else-count-ge-MANY+else-last-end+then-source-st w ↦ rw (
        lt-ltb 0 a.p.rest.left (omega (arith, w.if-p-eq0.false)),
        lt-ltb (count_at s st.at) 32 (omega (arith, count, w.if-count-ge-MANY.false)),
        le-leb (st.at + hyper_width + count_at s st.at * target_width) a.last (omega (arith, count, w.if-last-end.false)),
        lt-leb st.prev (source_at s st.at) (omega (arith, source, w.if-source-st.true)),
      ) refl
    ]

pub returns : goal.returns
unfolding pass
returns c =
    let a = c.args in
    let st = a.p.rest.st in
    let s = a.self.bytes.now in
    let source = c.number_at-source.ensures in
    let count = c.number_at-count.ensures in
    let from : Gathered = record { at = st.at + hyper_width; most = a.p.most } in
    let end : ℕ = from.at + c.number_at-count.result * target_width in
    let all : c.gather-all.result ≡ gathered s (count_at s st.at) from =
    c.gather-all.ensures
    ∙ ap (λ (g : Gathered). gathered s ((end - g.at) / target_width) g) c.gather_fours-fours.ensures
    ∙ gathered_all s c.number_at-count.result end from refl
    ∙ ap (λ (k : ℕ). gathered s k from) count in
    let seen : st.seen + c.number_at-count.result ≡ (behind s a.p).rest.st.seen = omega (arith, count) in
    rw (
      lt-ltb 0 a.p.rest.left (omega (arith, c.if-p-eq0.false)),
      lt-ltb (count_at s st.at) 32 (omega (arith, count, c.if-count-ge-MANY.false)),
      le-leb (st.at + hyper_width + count_at s st.at * target_width) a.last (omega (arith, count, c.if-last-end.false)),
      le-leb st.prev (source_at s st.at) (omega (arith, source, c.if-source-st.false)),
    ) (λ i. Some (record {
      rest = record { st = record { at = (all i).at; seen = seen i; prev = source i }; left = a.p.rest.left - 1 };
      most = (all i).most;
    }))
