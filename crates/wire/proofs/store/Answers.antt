-- `wire::store` meets its contract: std's bytes of the number are its bytes.
use Rattle.std.proofs.Common.{◌%◌, ◌∙◌}
use Rattle.wire.proofs.Bytes.{put_one, put_low}
use Rattle.wire.proofs.Stored.{put_copied}
use Rattle.wire.proofs.store.Goals as goal

pub returns-in-One : goal.returns-in-One
returns-in-One c = rw c.in-One.is (put_one _ _ _ (rw c.in-One.is at c.requires))

pub returns-in-Two : goal.returns-in-Two
returns-in-Two c = rw c.in-Two.is (put_copied _ _ 2 (c.args.v % 65536) (c.copy_from_slice.ensures.after ∙ c.to_be_bytes.ensures) ∙ put_low _ _ _)

pub returns-in-Four : goal.returns-in-Four
returns-in-Four c = rw c.in-Four.is (put_copied _ _ 4 c.args.v (c.copy_from_slice-in-Four.ensures.after ∙ c.to_be_bytes-in-Four.ensures))
