-- What stands at the front of a room that is filled from known bytes, and at the front of bytes that are written.
use Rattle.std.proofs.Common.{◌≡◌, ℕ, ◌+◌, ◌-◌, ◌<◌, ◌≤◌, List, ◌++◌, None, Some, IfSome, length, take, drop, sym, ap, ◌∙◌, append-nil, arith, le_refl, drop_at, length-take-le, length-drop, take_all, take_at, eq-or-lt_of_le, ⊎_elim}
use Rattle.std.proofs.lemmas.Slice.{take-put_mid_below}
use Rattle.std.specs.Io.KnownBytes.{Consumes, IsAtEnd}
use Rattle.std.specs.declared.option.Option.{Option}
use borrow.Rule.Slice.PartMut.{put_mid, post_of}
use lib.Seq.{take-add, take-append-le}

-- a part that was read in place stands behind what was there before
pub take-front : (a k n : ℕ) (xs ys : List ℕ) → a ≤ length xs → n ≤ length ys → take (a + n) (put_mid a k xs ys) ≡ take a xs ++ take n ys
take-front a k n xs ys within fits =
    let after = post_of a k xs in
    take-add a n (put_mid a k xs ys)
    ∙ ap (λ l. l ++ take n (drop a (put_mid a k xs ys))) (take-put_mid_below _ _ _ _ _ (le_refl a) within)
    ∙ ap (λ l. take a xs ++ take n l) (drop_at (take a xs) (ys ++ after) a (length-take-le a xs within))
    ∙ ap (λ l. take a xs ++ l) (take-append-le n ys after fits)

-- the next n bytes stand at the front of those that follow
pub take_next : (a n : ℕ) (xs : List ℕ) → take (a + n) xs ≡ take a xs ++ take n (take (length xs - a) (drop a xs))
take_next a n xs = take-add a n xs ∙ ap (λ l. take a xs ++ take n l) (sym (take_all (length xs - a) (drop a xs) (omega (arith, length-drop a xs))))

-- what was read, and is short only at the end, is the first of the bytes, as many as there is room for
pub first_bytes : (a b : Option (List ℕ)) (bs : List ℕ) (most : ℕ) → Consumes a b bs → length bs ≤ most → (length bs < most → IsAtEnd b) → IfSome a (λ xs. bs ≡ take most xs)
first_bytes None b bs most read fits end = tt
first_bytes (Some xs) None bs most read fits end = absurd read
first_bytes (Some xs) (Some ys) bs most read fits end =
    ⊎_elim
    (λ full. sym (take_at bs ys most full) ∙ ap (take most) (sym read))
    (λ less.
    let whole : xs ≡ bs = read ∙ ap (λ l. bs ++ l) (end less) ∙ append-nil bs in
    sym (take_all most bs fits) ∙ ap (take most) (sym whole))
    (eq-or-lt_of_le fits)
