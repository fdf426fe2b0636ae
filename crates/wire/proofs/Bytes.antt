-- Big-endian numbers, over the width: the bytes of a number make it, and the number of bytes has them. Assumes nothing.
use Rattle.std.proofs.Common.{◌≡◌, ℕ, zero, suc, ◌+◌, ◌-◌, ◌*◌, ◌/◌, ◌%◌, ◌^◌, ◌<◌, ◌≤◌, ltb, List, [], ◌∷◌, ◌++◌, length, get_or, take, drop, set, sym, refl, ◌∙◌, ap₂, append_assoc, append-nil, not-suc-le-zero, add-zero, add_assoc, add-suc, mul_assoc, pow-suc, add-one, sub-one, arith, length-append, length-drop, length-set, take-append-drop, length-take, get_or-drop, drop-cons, get_or-take, take-suc, get_or-set_same, drop-set-lt, ltb-false, ltb-true}
use lib.ListN.{get_or-eq_default}
use lib.Seq.{take-set-le, get_or_at}
use Rattle.lists.proofs.Tests.{by_test}
use Rattle.wire.specs.Bytes.{number, bytes, put, Bytes}

pub length_bytes : (k n : ℕ) → length (bytes k n) ≡ k
unfolding bytes
length_bytes zero n = refl
length_bytes (suc k) n = simp (length-append, length_bytes k) (omega arith)

-- k bytes make a number below 256 ^ k
pub number_below : (k : ℕ) (s : List ℕ) (at : ℕ) → Bytes s → number k s at < 256 ^ k
unfolding number
number_below zero s at h = omega arith
number_below (suc k) s at h = simp pow-suc (omega (arith, number_below k s at h, h (at + k)))

-- one byte more
pub number_more : (k : ℕ) (s : List ℕ) (at : ℕ) → number (k + 1) s at ≡ number k s at * 256 + get_or s (at + k) 0
unfolding number
number_more k s at = rw add-one

-- j bytes and k behind them
pub number_split : (j k : ℕ) (s : List ℕ) (at : ℕ) → number (j + k) s at ≡ number j s at * 256 ^ k + number k s (at + j)
unfolding number
number_split j zero s at = rw (add-zero j) (omega arith)
number_split j (suc k) s at =
    rw (add-suc, pow-suc, ← mul_assoc, add_assoc) (omega (arith, number_split j k s at))

-- four bytes are a number of two above and one below
pub two_and_two : (s : List ℕ) (at : ℕ) → Bytes s → (number 4 s at ≡ number 2 s at * 65536 + number 2 s (at + 2)) × (number 2 s (at + 2) < 65536)
two_and_two s at bytes = (omega (arith, number_split 2 2 s at), omega (arith, number_below 2 s (at + 2) bytes))

-- the bytes of a number make the number, wherever they stand
pub number_bytes : (k n : ℕ) (p r : List ℕ) → n < 256 ^ k → number k (p ++ bytes k n ++ r) (length p) ≡ n
unfolding number bytes
number_bytes zero n p r h = omega arith
number_bytes (suc k) n p r h =
    let below : n / 256 < 256 ^ k = omega (arith, simp pow-suc at h) in
    let front : length (p ++ bytes k (n / 256)) ≡ length p + k = simp (length-append, length_bytes) in
    let last : get_or (p ++ bytes k (n / 256) ++ n % 256 ∷ r) (length p + k) 0 ≡ n % 256 = get_or_at (p ++ bytes k (n / 256)) (n % 256) r 0 (length p + k) front in
    let regroup : p ++ (bytes k (n / 256) ++ (n % 256 ∷ [])) ++ r ≡ p ++ bytes k (n / 256) ++ n % 256 ∷ r = simp append_assoc in
    rw regroup (omega (arith, number_bytes k (n / 256) p (n % 256 ∷ r) below, last))

-- the bytes of the number that k bytes make are those bytes
pub bytes_number : (k : ℕ) (s : List ℕ) (at : ℕ) → Bytes s → at + k ≤ length s → bytes k (number k s at) ≡ take k (drop at s)
unfolding number bytes
bytes_number zero s at b h = refl
bytes_number (suc k) s at b h =
    let n : ℕ = number k s at in
    let x : ℕ = get_or s (at + k) 0 in
    let high : (n * 256 + x) / 256 ≡ n = omega (arith, b (at + k)) in
    let low : (n * 256 + x) % 256 ≡ x = omega (arith, b (at + k)) in
    let inside : k < length (drop at s) = simp length-drop (omega arith) in
    rw (high, low, take-suc (drop at s) k 0 inside, get_or-drop, bytes_number k s at b (omega arith))

-- nothing is stored at width 0
pub put_none : (b : List ℕ) (at n : ℕ) → put b at 0 n ≡ b
unfolding put bytes
put_none b at n = simp (append-nil, add-zero, take-append-drop)

put_suc : (b : List ℕ) (at k n : ℕ) → at + suc k ≤ length b → put b at (suc k) n ≡ put (set b (at + k) (n % 256)) at k (n / 256)
unfolding put bytes
put_suc b at k n h =
    let b' : List ℕ = set b (at + k) (n % 256) in
    let inside : at + k < length b' = simp length-set (omega arith) in
    let inside₀ : at + k < length b = omega arith in
    let front : take at b' ≡ take at b = take-set-le at b (at + k) (n % 256) (omega arith) in
    let back : drop (at + k) b' ≡ n % 256 ∷ drop (at + suc k) b =
    drop-cons b' (at + k) 0 inside
    ∙ ap₂ ◌∷◌ (get_or-set_same b (at + k) (n % 256) 0 inside₀) (simp add-suc (drop-set-lt (suc (at + k)) b (at + k) (n % 256) (omega arith))) in
    rw (front, back) (simp append_assoc)

-- the last byte can be stored first
pub put_last : (b : List ℕ) (at k n : ℕ) → 0 < k → at + k ≤ length b → put (set b (at + (k - 1)) (n % 256)) at (k - 1) (n / 256) ≡ put b at k n
put_last b at zero n p h = absurd (not-suc-le-zero p)
put_last b at (suc k) n p h = simp sub-one (sym (put_suc b at k n h))

-- one byte
pub put_one : (b : List ℕ) (at n : ℕ) → at + 1 ≤ length b → set b at (n % 256) ≡ put b at 1 n
put_one b at n h =
    let one : put (set b (at + 0) (n % 256)) at 0 (n / 256) ≡ put b at 1 n = put_last b at 1 n (omega arith) h in
    sym (put_none (set b at (n % 256)) at (n / 256)) ∙ (rw add-zero at one)

-- two hang on what is below 65,536
pub put_low : (b : List ℕ) (at n : ℕ) → put b at 2 (n % 65536) ≡ put b at 2 n
unfolding put bytes
put_low b at n =
    let high : n % 65536 / 256 % 256 ≡ n / 256 % 256 = omega arith in
    let low : n % 65536 % 256 ≡ n % 256 = omega arith in
    rw (high, low)

-- parts of bytes are bytes
pub front_bytes : (k : ℕ) (s : List ℕ) → Bytes s → Bytes (take k s)
front_bytes k s bytes i = by_test (ltb i k)
    (λ l. rw (get_or-take k s i 0 (ltb-true i k l)) (bytes i))
    (λ l. rw (get_or-eq_default (take k s) 0 {n = i} (omega (arith, length-take k s, ltb-false i k l))) (omega arith))

pub rest_bytes : (k : ℕ) (s : List ℕ) → Bytes s → Bytes (drop k s)
rest_bytes k s bytes i = rw (get_or-drop k s i 0) (bytes _)
