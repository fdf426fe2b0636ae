-- `message::put_cover_states` meets its contract: a cover edge for each state, with its bound as a number.
use Rattle.std.proofs.Common.{◌≡◌, ℕ, ◌+◌, ◌*◌, ◌≤◌, List, length, sym, subst, ap, ◌∙◌, rules}
use Rattle.lists.specs.Making.{span}
use Rattle.wire.specs.Laid.{Laid}
use Rattle.records.specs.Bytes.{cover_bytes}
use Rattle.build.proofs.Nodes.{place_fits}
use Rattle.build.proofs.Covers.{cover_of, covers_coded, cover_puts}
use Rattle.build.proofs.message.put_cover_states.Goals as goal
use Rattle.build.proofs.message.put_cover_states.Goals.{After-code-code, Start}

-- the nodes of the until row stand before those of its helper
row_fits : (s : Start) → s.args.n * s.args.r + s.args.n ≤ 4096
row_fits s = place_fits s.args.n s.args.h s.args.r s.requires.nodes_fit.0 s.requires.nodes_fit.1

-- the whole, with the bound as a number
coded : (c : After-code-code) → let a = c.args in cover_bytes a.n a.r a.h a.bound ≡ span (cover_of a.n a.r a.h c.code-code.result) 0 a.n
coded c = let a = c.args in covers_coded a.n a.r a.h a.bound ∙ ap (λ (code : ℕ). span (cover_of a.n a.r a.h code) 0 a.n) (sym c.code-code.ensures)

pub put_each-requires : goal.put_each-requires
put_each-requires c =
    let a = c.args in
    let code = c.code-code.result in
    let place = goal.at.put_each-requires c in (
      cover_of a.n a.r a.h code,
      cover_puts a.n a.r a.h code (row_fits place.Start) c.requires.nodes_fit.0 (λ room at s source target long. search rules) (λ room room' at s end e. search rules),
      subst (λ (w : List ℕ). a.at + length w ≤ length a.room.now) (coded place.After-code-code) c.requires.inside,
    )

pub returns : goal.returns
returns c =
    let a = c.args in
    let room = a.room.now in
    let code = c.code-code.result in
    let place = goal.at.returns c in
    subst (λ (w : List ℕ). Laid room a.at w c.put_each.new.room c.put_each.result) (sym (coded place.After-code-code))
    (c.put_each.ensures (cover_of a.n a.r a.h code)
    (cover_puts a.n a.r a.h code (row_fits place.Start) c.requires.nodes_fit.0 (λ room at s source target long. search rules) (λ room room' at s end e. search rules))
    (subst (λ (w : List ℕ). a.at + length w ≤ length room) (coded place.After-code-code) c.requires.inside))
