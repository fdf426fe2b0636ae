-- `pieces::put_text` meets its contract: the text stands in the front of what is left of the room, and the rest stays.
use Rattle.std.proofs.Common.{◌+◌, ◌-◌, length, refl, arith}
use borrow.Rule.Slice.PartMut.{put_mid}
use Rattle.wire.specs.Bytes.{Bytes}
use Rattle.wire.specs.Laid.{Laid}
use Rattle.syntax.specs.Message.{read_formula}
use Rattle.pieces.specs.Pieces.{text_in}
use Rattle.pieces.proofs.Texts.{text_laid}
use Rattle.decimals.proofs.Writing.{wrote}
use Rattle.pieces.proofs.put_text.Goals as goal
use Rattle.pieces.proofs.put_text.Goals.{After-unwrap_or}

laid_in : (c : After-unwrap_or) → let b = c.args.out.now.room.now in let at = c.args.out.now.at in
    Laid b at (text_in (read_formula c.args.p c.args.f.now)) (put_mid at (length b - at) b c.text-written.new.room) (at + c.unwrap_or.result)
laid_in c =
    let bytes : Bytes c.args.f.now = λ i. omega (arith, c.type_inv.f i) in
    text_laid c.args.p c.args.f.now c.args.out.now.room.now c.args.out.now.at _ bytes c.requires refl c.text-written.ensures.answer c.text-written.ensures.room c.unwrap_or.ensures

pub overflow_add-out : goal.overflow_add-out
overflow_add-out c = omega (arith, (laid_in (goal.at.overflow_add-out c).After-unwrap_or).inside, (laid_in (goal.at.overflow_add-out c).After-unwrap_or).next_is)

pub returns : goal.returns
returns c = wrote refl (laid_in (goal.at.returns c).After-unwrap_or)
