-- The bytes of a number as std's method gives them are its bytes. Assumes nothing.
use Rattle.std.proofs.Common.{◌≡◌, ℕ, zero, suc, ◌+◌, ◌-◌, ◌/◌, ◌%◌, ◌^◌, List, [], ◌∷◌, ◌++◌, take, drop, refl, sym, ap, ◌∙◌, append_assoc, arith}
use Rattle.std.proofs.Math.Nat.{div-div-eq-div-mul, pow-succ'}
use Rattle.std.proofs.lemmas.List.{drop-drop}
use borrow.Rule.Slice.PartMut.{put_mid}
use Rattle.std.specs.Int.{byte_at, bytes_high_first}
use Rattle.wire.specs.Bytes.{bytes, put}

-- the bytes above the lowest are those of the number without it
byte_above : (k n : ℕ) → byte_at (suc k) n ≡ byte_at k (n / 256)
byte_above zero n = refl
byte_above (suc k) n = ap (λ (q : ℕ). q % 256) (ap (λ (d : ℕ). n / d) (pow-succ' 256 (suc k)) ∙ sym (div-div-eq-div-mul n 256 (256 ^ suc k)))

high_last : (k n : ℕ) → bytes_high_first (suc k) n ≡ bytes_high_first k (n / 256) ++ (n % 256 ∷ [])
high_last zero n = refl
high_last (suc k) n = ap (λ (l : List ℕ). byte_at (suc k) n ∷ l) (high_last k n) ∙ ap (λ (b : ℕ). b ∷ bytes_high_first k (n / 256) ++ (n % 256 ∷ [])) (byte_above k n)

pub bytes_are : (k n : ℕ) → bytes_high_first k n ≡ bytes k n
unfolding bytes
bytes_are zero n = refl
bytes_are (suc k) n = high_last k n ∙ ap (λ (l : List ℕ). l ++ (n % 256 ∷ [])) (bytes_are k (n / 256))

-- a part of the room that they were copied to
pub put_copied : (b : List ℕ) (at k n : ℕ) {ys : List ℕ} → ys ≡ bytes_high_first k n → put_mid at (at + k - at) b ys ≡ put b at k n
unfolding put
put_copied b at k n {ys} is =
    let long : at + k - at ≡ k = omega arith in
    rw (long, is, bytes_are) (ap (λ (rest : List ℕ). take at b ++ (bytes k n ++ rest)) (drop-drop k at b) ∙ sym (append_assoc (take at b) (bytes k n) (drop (at + k) b)))
