-- `graph::Reading::four_named` meets its contract: each test is that of one more target.
use Rattle.std.proofs.Common.{◌≡◌, ◌+◌, Bool, true, false, ◌&&◌, sym, ◌∙◌, arith}
use Rattle.graph.specs.Format.{target_width}
use Rattle.graph.specs.Names.{target_named, all_named}
use Rattle.ordered.proofs.Told.{below_part, told_ok}
use Rattle.graph.proofs.Reading.four_named.Goals as goal
use Rattle.graph.proofs.Reading.four_named.Goals.{then-named, else-named, then-named-2, else-named-2}

never : {A : Type 0} {v : Bool} → v ≡ true → v ≡ false → A
never t f = let z : true ≡ false = sym t ∙ f in cc

-- three tests that passed, and one more; and three that did not pass all
passed_on : (a b c d : Bool) {v r : Bool} → v ≡ ((a && b) && c) → v ≡ true → r ≡ d → r ≡ (a && (b && (c && (d && true))))
passed_on true true true true e t is = is
passed_on true true true false e t is = is
passed_on true true false d e t is = never t e
passed_on true false c d e t is = never t e
passed_on false b c d e t is = never t e

stopped_there : (a b c d : Bool) {v : Bool} → v ≡ ((a && b) && c) → v ≡ false → v ≡ (a && (b && (c && (d && true))))
stopped_there true true true d e f = never e f
stopped_there true true false d e f = f
stopped_there true false c d e f = f
stopped_there false b c d e f = f

pub returns-then-named-3 : goal.returns-then-named-3
unfolding all_named
returns-then-named-3 c =
    let a = c.args in
    let one : Bool = target_named a.self.bytes.now a.self.nodes a.at in
    let other : Bool = target_named a.self.bytes.now a.self.nodes (a.at + target_width) in
    let third : Bool = target_named a.self.bytes.now a.self.nodes (a.at + target_width + target_width) in
    let last : Bool = target_named a.self.bytes.now a.self.nodes (a.at + target_width + target_width + target_width) in
    let two : c.if-named.value ≡ (one && other) =
    elim c.if-named.branch [
      | then-named w ↦ rw (← w.if-named.ensures) (w.value-is ∙ w.named-then-named.ensures)
      | else-named w ↦ rw (← w.if-named.ensures) (w.value-is ∙ w.if-named.false)
    ] in
    let three : c.if-named-2.value ≡ (c.if-named.value && third) =
    elim c.if-named-2.branch [
      | then-named-2 w ↦ rw w.if-named-2.true (w.value-is ∙ w.named-then-named-2.ensures)
      | else-named-2 w ↦ rw w.if-named-2.false (w.value-is ∙ w.if-named-2.false)
    ] in
    let node = c.read_below.ensures ∙ below_part 2 a.self.bytes.now (a.at + target_width + target_width + target_width) _ 4 _ _ (omega arith) (omega arith) in
    passed_on one other third last (rw two at three) c.if-named-3.true (c.is_ok.ensures.value ∙ told_ok _ _ _ node)

pub returns-else-named-3 : goal.returns-else-named-3
unfolding all_named
returns-else-named-3 c =
    let a = c.args in
    let one : Bool = target_named a.self.bytes.now a.self.nodes a.at in
    let other : Bool = target_named a.self.bytes.now a.self.nodes (a.at + target_width) in
    let third : Bool = target_named a.self.bytes.now a.self.nodes (a.at + target_width + target_width) in
    let last : Bool = target_named a.self.bytes.now a.self.nodes (a.at + target_width + target_width + target_width) in
    let two : c.if-named.value ≡ (one && other) =
    elim c.if-named.branch [
      | then-named w ↦ rw (← w.if-named.ensures) (w.value-is ∙ w.named-then-named.ensures)
      | else-named w ↦ rw (← w.if-named.ensures) (w.value-is ∙ w.if-named.false)
    ] in
    let three : c.if-named-2.value ≡ (c.if-named.value && third) =
    elim c.if-named-2.branch [
      | then-named-2 w ↦ rw w.if-named-2.true (w.value-is ∙ w.named-then-named-2.ensures)
      | else-named-2 w ↦ rw w.if-named-2.false (w.value-is ∙ w.if-named-2.false)
    ] in
    stopped_there one other third last (rw two at three) c.if-named-3.false
