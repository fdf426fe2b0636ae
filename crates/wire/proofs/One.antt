-- One answer and one content of the lent room: two calls with the same arguments that satisfy the contract of a public function agree.
-- Here a are the arguments, r is the result, and s is what stands in each argument at the end. Assumes nothing.
use Rattle.std.proofs.Common.{◌≡◌, sym, ◌∙◌}
use Rattle.wire.proofs.Width.bytes.Reads as Width-bytes
use Rattle.wire.proofs.read.Reads as read
use Rattle.wire.proofs.read_below.Reads as read_below
use Rattle.wire.proofs.follows.Reads as follows
use Rattle.wire.proofs.read_source.Reads as read-source
use Rattle.wire.proofs.number_at.Reads as number_at
use Rattle.wire.proofs.store.Reads as store
use Rattle.wire.proofs.open.Reads as opening
use Rattle.wire.proofs.read_count.Reads as read_count
use Rattle.wire.proofs.long_at.Reads as long-at
use Rattle.wire.proofs.store_long.Reads as store_long
use Rattle.wire.proofs.State.start.Reads as State-start
use Rattle.wire.proofs.run.Reads as run
use Rattle.wire.proofs.Runs.{one_end}
use Rattle.wire.specs.contracts.run.F-Fn.{words}
use Rattle.wire.specs.Read.{Read}
use Rattle.wire.specs.declared.State.{State}

-- `wire::Width::bytes`
pub one_bytes : (κs : _) (a : _) (r r' : _) (s s' : _) → Width-bytes.Post κs a r s → Width-bytes.Post κs a r' s' → r ≡ r'
one_bytes κs a r r' s s' p q = p ∙ sym q

-- `wire::read_below`
pub one_read_below : (κs : _) (a : _) (r r' : _) (s s' : _) → read_below.Post κs a r s → read_below.Post κs a r' s' → r ≡ r'
one_read_below κs a r r' s s' p q = p ∙ sym q

-- `wire::follows`
pub one_follows : (κs : _) (a : _) (r r' : _) (s s' : _) → follows.Post κs a r s → follows.Post κs a r' s' → r ≡ r'
one_follows κs a r r' s s' p q = p ∙ sym q

-- `wire::read_source`
pub one_read_source : (κs : _) (a : _) (r r' : _) (s s' : _) → read-source.Post κs a r s → read-source.Post κs a r' s' → r ≡ r'
one_read_source κs a r r' s s' p q = p ∙ sym q

-- `wire::read`
pub one_read : (κs : _) (a : _) (r r' : _) (s s' : _) → read.Post κs a r s → read.Post κs a r' s' → r ≡ r'
one_read κs a r r' s s' p q = p ∙ sym q

-- `wire::number_at`
pub one_number_at : (κs : _) (a : _) (r r' : _) (s s' : _) → number_at.Post κs a r s → number_at.Post κs a r' s' → r ≡ r'
one_number_at κs a r r' s s' p q = p ∙ sym q

-- `wire::store`: the room
pub one_store : (κs : _) (a : _) (r r' : _) (s s' : _) → store.Post κs a r s → store.Post κs a r' s' → s.0.now ≡ s'.0.now
one_store κs a r r' s s' p q = p ∙ sym q

-- `wire::open`
pub one_open : (κs : _) (a : _) (r r' : _) (s s' : _) → opening.Post κs a r s → opening.Post κs a r' s' → r ≡ r'
one_open κs a r r' s s' p q = p ∙ sym q

-- `wire::read_count`
pub one_read_count : (κs : _) (a : _) (r r' : _) (s s' : _) → read_count.Post κs a r s → read_count.Post κs a r' s' → r ≡ r'
one_read_count κs a r r' s s' p q = p ∙ sym q

-- `wire::long_at`
pub one_long_at : (κs : _) (a : _) (r r' : _) (s s' : _) → long-at.Post κs a r s → long-at.Post κs a r' s' → r ≡ r'
one_long_at κs a r r' s s' p q = p ∙ sym q

-- `wire::store_long`: the room
pub one_store_long : (κs : _) (a : _) (r r' : _) (s s' : _) → store_long.Post κs a r s → store_long.Post κs a r' s' → s.0.now ≡ s'.0.now
one_store_long κs a r r' s s' p q = p ∙ sym q

-- `wire::State::start`
pub one_start : (κs : _) (a : _) (r r' : _) (s s' : _) → State-start.Post κs a r s → State-start.Post κs a r' s' → r ≡ r'
one_start κs a r r' s s' p q = p ∙ sym q

-- `wire::run`, by a closure F that gives one answer in each state
pub one_run : (F : _) (laws : _) (w : _) (d₀ d₁ d₂ d₃ : _) (κs : _) (a : _) (r r' : _) (s s' : _)
    → run.Post F laws w d₀ d₁ d₂ d₃ κs a r s → run.Post F laws w d₀ d₁ d₂ d₃ κs a r' s'
    → ((st : State) (x y : Read State) → (words F w).post a.1.1.0 st x → (words F w).post a.1.1.0 st y → x ≡ y) → r ≡ r'
one_run F laws w d₀ d₁ d₂ d₃ κs a r r' s s' p q one = one_end one p q
