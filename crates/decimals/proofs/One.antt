-- One answer and one content of every lent room: two calls with the same arguments that satisfy the contract of a public function agree.
-- Here a are the arguments, r is the result, and s is what stands in each argument at the end, in the order of the parameters. Assumes nothing.
use Rattle.std.proofs.Common.{◌≡◌, List, ℕ, sym, ◌∙◌}
use Rattle.decimals.specs.declared.Writer.{Writer}
use Rattle.decimals.specs.Writer.{Wrote}
use Rattle.decimals.proofs.Writer.word.Reads as word
use Rattle.decimals.proofs.Writer.long.Reads as long
use Rattle.decimals.proofs.Writer.decimal.Reads as decimal
use Rattle.decimals.proofs.Writer.number.Reads as number
use Rattle.decimals.proofs.decimal_length.Reads as decimal-length

-- the room and the position
abbrev pub Same : Writer → Writer → Type 0
Same w x = (w.room.now ≡ x.room.now) × (w.at ≡ x.at)

same : {w x y : Writer} {s : List ℕ} → Wrote w s x → Wrote w s y → Same x y
same p q = (p.laid.room_is ∙ sym q.laid.room_is, p.laid.next_is ∙ sym q.laid.next_is)

-- `decimals::Writer::word`
pub one_word : (κs : _) (a : _) (r r' : _) (s s' : _) → word.Post κs a r s → word.Post κs a r' s' → Same s.0.now s'.0.now
one_word κs a r r' s s' p q = same p q

-- `decimals::Writer::long`
pub one_long : (κs : _) (a : _) (r r' : _) (s s' : _) → long.Post κs a r s → long.Post κs a r' s' → Same s.0.now s'.0.now
one_long κs a r r' s s' p q = same p q

-- `decimals::Writer::decimal`
pub one_decimal : (κs : _) (a : _) (r r' : _) (s s' : _) → decimal.Post κs a r s → decimal.Post κs a r' s' → Same s.0.now s'.0.now
one_decimal κs a r r' s s' p q = same p q

-- `decimals::Writer::number`
pub one_number : (κs : _) (a : _) (r r' : _) (s s' : _) → number.Post κs a r s → number.Post κs a r' s' → Same s.0.now s'.0.now
one_number κs a r r' s s' p q = same p q

-- `decimals::decimal_length`
pub one_decimal_length : (κs : _) (a : _) (r r' : _) (s s' : _) → decimal-length.Post κs a r s → decimal-length.Post κs a r' s' → r ≡ r'
one_decimal_length κs a r r' s s' p q = p ∙ sym q
