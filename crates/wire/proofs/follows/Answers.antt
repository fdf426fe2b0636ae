-- `wire::follows` meets its contract: what wraps is below what is left up to n only where the source is below n and not below the one before it.
use Rattle.std.proofs.Common.{◌≡◌, ℕ, ◌+◌, ◌-◌, ◌%◌, ◌^◌, ◌<◌, ◌≤◌, ◌&&◌, ltb, leb, arith, ltb-false, ltb-true, le-ltb, lt-ltb, leb-false, leb-true}
use Rattle.lists.proofs.Tests.{by_test}
use Rattle.wire.proofs.follows.Goals as goal

-- how far a source is above the one before it, modulo 2^32
tells : (source n prev above : ℕ) → prev ≤ n → n < 2 ^ 32 → above < 2 ^ 32 → (above + prev) % 2 ^ 32 ≡ source → ltb above (n - prev) ≡ (ltb source n && leb prev source)
tells source n prev above most fits small wraps =
    by_test (ltb source n)
    (λ named. let less = ltb-true source n named in
    by_test (leb prev source)
    (λ up. let more = leb-true prev source up in rw (named, up) (lt-ltb above (n - prev) (omega arith)))
    (λ down. let low = leb-false prev source down in rw (named, down) (le-ltb above (n - prev) (omega arith))))
    (λ unnamed. let high = ltb-false source n unnamed in rw unnamed (le-ltb above (n - prev) (omega arith)))

pub returns : goal.returns
returns c = let a = c.args in tells a.source a.n a.prev _ c.requires (omega arith) (omega arith) (omega arith)
