-- `message::put_helper_states` meets its contract: the helpers, state by state.
use Rattle.std.proofs.Common.{◌+◌, ◌≤◌, List, ℕ, length, sym, subst, rules}
use Rattle.wire.specs.Laid.{Laid}
use Rattle.transitions.specs.Held.{held_model}
use Rattle.transitions.specs.Views.{model_of}
use Rattle.build.specs.Puts.{helper_of}
use Rattle.build.proofs.Helpers.{helper_spans}
use Rattle.build.proofs.message.put_helper_states.Goals as goal

pub put_each-requires : goal.put_each-requires
unfolding held_model
put_each-requires c =
    let M = model_of c.args.table.model in
    let a = c.args in (
      helper_of M a.h a.q a.l a.k,
      record { may = λ room at s below long. search rules; lays = λ room room' at s end below long e. search rules },
      subst (λ (w : List ℕ). a.at + length w ≤ length a.room.now) (helper_spans M a.h a.q a.l a.k) c.requires.inside,
    )

pub returns : goal.returns
unfolding held_model
returns c =
    let M = model_of c.args.table.model in
    let a = c.args in
    let room = a.room.now in
    subst (λ (w : List ℕ). Laid room a.at w c.put_each.new.room c.put_each.result) (sym (helper_spans M a.h a.q a.l a.k))
    (c.put_each.ensures (helper_of M a.h a.q a.l a.k)
    (record { may = λ room at s below long. search rules; lays = λ room room' at s end below long e. search rules })
    (subst (λ (w : List ℕ). a.at + length w ≤ length room) (helper_spans M a.h a.q a.l a.k) c.requires.inside))
