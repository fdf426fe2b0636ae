-- `Notes::publish` meets its contract: the first span, then the second.
use mathlib.Core.Path.{refl}
use Rattle.notes.proofs.Publishing.{published_begin, published_over, published_rest}
use Rattle.notes.proofs.Notes.publish.Goals as goal

pub returns : goal.returns
returns c =
    published_rest c.requires.besides (c.publish_range.ensures _ c.requires.n_in_bounds (published_over c.requires.besides (c.publish_range-m.ensures _ c.requires.n_in_bounds (published_begin c.requires.besides refl))))
