-- `message::put_helper_state` meets its contract: the state's transitions are those that the table tells.
use Rattle.std.proofs.Common.{ℕ, ◌+◌, ◌≤◌, List, length, sym, subst}
use Rattle.wire.specs.Laid.{Laid}
use Rattle.transitions.specs.Held.{held_model}
use Rattle.transitions.specs.Views.{model_of}
use Rattle.build.proofs.Nodes.{place_fits}
use Rattle.build.proofs.Helpers.{own_narrow, helper_is}
use Rattle.build.proofs.message.put_helper_state.Goals as goal

pub put_helper-requires : goal.put_helper-requires
unfolding held_model
put_helper-requires c =
    let a = c.args in
    let M = model_of a.table.model in
    let n = a.table.model.states in
    let out = c.out_of.ensures in
    let fit = c.requires.nodes_fit in
    record {
      nodes_fit = rw out.states (c.requires.state, fit.0, place_fits n a.h a.l fit.0 fit.1, place_fits n a.h a.k fit.0 fit.2);
      named = out.named;
      few = own_narrow M a.a c.out_of.result out.list c.requires.state c.requires.narrow;
      inside = rw (out.list, out.states) (subst (λ (w : List ℕ). a.at + length w ≤ length a.room.now) (helper_is M a.a a.h a.q a.l a.k) c.requires.inside);
    }

pub returns : goal.returns
unfolding held_model
returns c =
    let a = c.args in
    let M = model_of a.table.model in
    let room = a.room.now in
    let done = rw (c.out_of.ensures.list, c.out_of.ensures.states) at c.put_helper.ensures in
    subst (λ (w : List ℕ). Laid room a.at w c.put_helper.new.room c.put_helper.result) (sym (helper_is M a.a a.h a.q a.l a.k)) done
