-- One answer: two calls with the same arguments that satisfy the contract of a public function agree.
-- Here a are the arguments, r is the result, and s is what stands in each argument at the end, in the order of the parameters. Assumes nothing.
use Prim.Native.Nat.{ℕ}
use mathlib.Core.Bool.{Bool, true, false}
use mathlib.Core.List.{List}
use mathlib.Core.Path.{◌≡◌, refl, sym, ◌∙◌}
use Rattle.wire.specs.Read.{Read, Ok, Err}
use Rattle.graph.specs.Stored.{StoredGraph}
use Rattle.claims.specs.Answers.{read_claims, Judges}
use Rattle.claims.proofs.check.Reads as check

-- the checker's answer
pub judges_one : (x : Read StoredGraph) (claims : List ℕ) (r r' : Read Bool) → Judges x claims r → Judges x claims r' → ◌≡◌ {A = Read Bool} r r'
judges_one (Ok g) claims (Ok true) (Ok true) p q = refl
judges_one (Ok g) claims (Ok true) (Ok false) p q = absurd (q p)
judges_one (Ok g) claims (Ok false) (Ok true) p q = absurd (p q)
judges_one (Ok g) claims (Ok false) (Ok false) p q = refl
judges_one (Ok g) claims (Err e) r' p q = absurd p
judges_one (Ok g) claims (Ok true) (Err e) p q = absurd q
judges_one (Ok g) claims (Ok false) (Err e) p q = absurd q
judges_one (Err e) claims r r' p q = p ∙ sym q

-- `claims::check`
pub one_check : (κs : _) (a : _) (r r' : _) (s s' : _) → check.Post κs a r s → check.Post κs a r' s' → r ≡ r'
one_check κs a r r' s s' p q = judges_one (read_claims a.0.now a.1.0.now) a.1.0.now r r' p.0 q.0
