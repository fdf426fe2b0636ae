-- `wire::store_long` meets its contract: std's bytes of the number are its bytes.
use Rattle.std.proofs.Common.{◌∙◌}
use Rattle.wire.proofs.Stored.{put_copied}
use Rattle.wire.proofs.store_long.Goals as goal

pub returns : goal.returns
returns c = put_copied _ _ 8 c.args.v (c.copy_from_slice.ensures.after ∙ c.to_be_bytes.ensures)
