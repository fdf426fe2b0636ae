-- `backing::hyper_backs` meets its contract.
use Rattle.std.proofs.Common.{ℕ, ◌+◌, ap, ◌∙◌, arith}
use Rattle.value.specs.Stored.{stored}
use Rattle.wire.specs.Layout.{items}
use Rattle.rules.specs.Rounds.{worst}
use Rattle.graph.specs.Format.{hyper_width}
use Rattle.graph.specs.Layouts.{target_layout}
use Rattle.support.specs.Claims.{claimed_value}
use Rattle.backing.proofs.hyper_backs.Goals as goal

pub worst-most-requires : goal.worst-most-requires
worst-most-requires c = rw c.number_at-count.ensures c.requires.sound

pub hyper_rests-requires : goal.hyper_rests-requires
hyper_rests-requires c = let a = c.args in record {
  hyper_ok = c.requires;
  source_value = c.number_at-source.ensures;
  given_value = c.worst-most.ensures
      ∙ ap (λ (k : ℕ). stored (worst (claimed_value a.claims.bytes.now) (items (target_layout a.s.now a.claims.nodes) k (a.at + hyper_width)))) c.number_at-count.ensures;
  given_end = omega (arith, c.number_at-count.ensures);
}
