-- `graph::Reading::sound` meets its contract: the three tests are those of the definition.
use Rattle.std.proofs.Common.{◌∙◌, ◌*◌, refl, arith}
use borrow.Author.Tests.{lt-ltb, le-ltb}
use Rattle.graph.specs.Near.{sound}
use Rattle.graph.proofs.Reading.sound.Goals as goal
use Rattle.graph.proofs.Reading.sound.Goals.{then-p-self, else-p-self}

pub returns-then-p-self-2 : goal.returns-then-p-self-2
unfolding sound
returns-then-p-self-2 c =
    let p = c.args.p in
    let n = c.args.self.nodes in
    let both = c.if-p-self-2.true in
    rw (lt-ltb p.most (n * 65536) both.0, lt-ltb p.rest.st.prev n both.1) refl

pub returns-else-p-self-2 : goal.returns-else-p-self-2
unfolding sound
returns-else-p-self-2 c =
    let p = c.args.p in
    let n = c.args.self.nodes in
    elim c.if-p-self.branch [
      | then-p-self w ↦
          let no_node = le-ltb p.rest.st.prev n (omega (arith, c.if-p-self-2.either, w.if-p-self.true)) in
          rw (lt-ltb p.most (n * 65536) w.if-p-self.true, no_node) (w.t-4-is ∙ no_node)
      | else-p-self w ↦ rw (le-ltb p.most (n * 65536) w.if-p-self.false) (w.t-4-is ∙ le-ltb p.most (n * 65536) w.if-p-self.false)
    ]
