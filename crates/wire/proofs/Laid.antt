-- Bytes laid into a room one after another are laid in at once. Assumes nothing.
use Rattle.std.proofs.Common.{◌≡◌, ℕ, ◌+◌, ◌<◌, ◌≤◌, List, [], ◌∷◌, ◌++◌, length, take, drop, set, sym, refl, ap, ◌∙◌, ap₂, append_assoc, append-nil, add-zero, add-one, arith, length-append, length-drop, take-append-drop, length-take-le, drop-drop, take_at}
use lib.Seq.{drop-append-add, append_snoc, set_split}
use Rattle.wire.specs.Bytes.{bytes, put}
use Rattle.wire.specs.Laid.{laid, Laid}
use Rattle.wire.proofs.Bytes.{length_bytes}

module _ (b : List ℕ) (at : ℕ) where
  laid_none : laid b at [] ≡ b
  unfolding laid
  laid_none = simp (append-nil, add-zero, take-append-drop)

  laid_one : (a : ℕ) → at < length b → laid b at (a ∷ []) ≡ set b at a
  unfolding laid
  laid_one a h = append_snoc (take at b) a (drop (at + 1) b) ∙ rw add-one (sym (set_split b at a h))

  -- what stands before, with the bytes
  front_length : (s : List ℕ) → at ≤ length b → length (take at b ++ s) ≡ at + length s
  front_length s h = length-append (take at b) s ∙ ap (λ (n : ℕ). n + length s) (length-take-le at b h)

  laid_length : (s : List ℕ) → at + length s ≤ length b → length (laid b at s) ≡ length b
  unfolding laid
  laid_length s h = simp (length-append (take at b ++ s), length-drop) (omega (arith, front_length s (omega arith)))

  laid_then : (s t : List ℕ) → at ≤ length b → laid (laid b at s) (at + length s) t ≡ laid b at (s ++ t)
  unfolding laid
  laid_then s t h =
      let front : List ℕ = take at b ++ s in
      let rest : List ℕ = drop (at + length s) b in
      let total : at + length s + length t ≡ at + length (s ++ t) = omega (arith, length-append s t) in
      let back : drop (at + length s + length t) (front ++ rest) ≡ drop (at + length s + length t) b =
      ap (λ (n : ℕ). drop (n + length t) (front ++ rest)) (sym (front_length s h)) ∙ drop-append-add front rest (length t) ∙ drop-drop (length t) (at + length s) b in
      ap₂ (λ (x y : List ℕ). x ++ t ++ y) (take_at front rest (at + length s) (front_length s h)) back
      ∙ ap₂ (λ (x : List ℕ) (n : ℕ). x ++ drop n b) (append_assoc (take at b) s t) total

-- ---- the same of what a store leaves

pub nothing : (b : List ℕ) (at : ℕ) → at ≤ length b → Laid b at [] b at
nothing b at h = record { inside = omega arith; room_is = sym (laid_none b at); next_is = omega arith }

one : (b : List ℕ) (at a : ℕ) → at < length b → Laid b at (a ∷ []) (set b at a) (at + 1)
one b at a h = record { inside = omega arith; room_is = sym (laid_one b at a h); next_is = refl }

module _ {b : List ℕ} {at : ℕ} {s b' : List ℕ} {next : ℕ} where
  infixl 20 ◌then◌
  pub same_length : Laid b at s b' next → length b' ≡ length b
  same_length l = ap length l.room_is ∙ laid_length b at s l.inside

  -- one after another is at once
  pub ◌then◌ : {t b'' : List ℕ} {end : ℕ} → Laid b at s b' next → Laid b' next t b'' end → Laid b at (s ++ t) b'' end
  ◌then◌ {t} {b''} {end} l m = record {
    inside = omega (arith, m.inside, l.next_is, same_length l, length-append s t);
    room_is =
        m.room_is ∙ ap₂ (λ (c : List ℕ) (n : ℕ). laid c n t) l.room_is l.next_is ∙ laid_then b at s t (omega (arith, l.inside));
    next_is = omega (arith, m.next_is, l.next_is, length-append s t);
  }

  -- what is to come next still fits, and so where more follows it
  pub fits : Laid b at s b' next → (t : List ℕ) → at + length (s ++ t) ≤ length b → next + length t ≤ length b'
  fits l t h = omega (arith, same_length l, l.next_is, length-append s t)

  pub fits_before : Laid b at s b' next → (t u : List ℕ) → at + length (s ++ t ++ u) ≤ length b → next + length t ≤ length b'
  fits_before l t u h = fits l t (omega (arith, length-append (s ++ t) u))

  -- one byte more
  pub more : Laid b at s b' next → (a : ℕ) → at + length s < length b → Laid b at (s ++ (a ∷ [])) (set b' next a) (next + 1)
  more l a h = l then one b' next a (omega (arith, same_length l, l.next_is))

  -- the same, said otherwise
  pub said : {t c : List ℕ} {end : ℕ} → Laid b at s b' next → t ≡ s → c ≡ b' → end ≡ next → Laid b at t c end
  said l e f g = record {
    inside = omega (arith, l.inside, ap length e);
    room_is = f ∙ l.room_is ∙ ap (laid b at) (sym e);
    next_is = g ∙ l.next_is ∙ ap (λ (u : List ℕ). at + length u) (sym e);
  }

-- ---- a number's bytes

-- storing a number lays its bytes in
pub laid_put : (b : List ℕ) (at k n : ℕ) → put b at k n ≡ laid b at (bytes k n)
unfolding put laid
laid_put b at k n = rw (length_bytes k n)

pub stored : {b b' : List ℕ} (at k n : ℕ) → at + k ≤ length b → b' ≡ put b at k n → Laid b at (bytes k n) b' (at + k)
stored {b} at k n h e = record { inside = rw length_bytes h; room_is = e ∙ laid_put b at k n; next_is = rw length_bytes }

-- bytes of a known length end that much further on, in a room as long as before
pub sized : {b : List ℕ} {at : ℕ} {s b' : List ℕ} {next : ℕ} → Laid b at s b' next → (k : ℕ) → length s ≡ k → (next ≡ at + k) × (length b' ≡ length b)
sized l k e = (omega (arith, l.next_is), same_length l)

-- ---- what a loop has still to lay in

-- laying the rest into the room as it is now makes the whole, and that fits
pub record Left (b : List ℕ) (at : ℕ) (whole b' : List ℕ) (next : ℕ) (rest : List ℕ) : Type 0 where
  pub room_is : laid b' next rest ≡ laid b at whole
  pub next_is : next + length rest ≡ at + length whole
  pub length_is : length b' ≡ length b
  pub whole_fits : at + length whole ≤ length b

pub all_left : (b : List ℕ) (at : ℕ) (whole : List ℕ) → at + length whole ≤ length b → Left b at whole b at whole
all_left b at whole h = record { room_is = refl; next_is = refl; length_is = refl; whole_fits = h }

pub none_left : {b : List ℕ} {at : ℕ} {whole b' : List ℕ} {next : ℕ} → Left b at whole b' next [] → Laid b at whole b' next
none_left {b' = b'} {next} l = record {
  inside = l.whole_fits;
  room_is = sym (laid_none b' next) ∙ l.room_is;
  next_is = omega (arith, l.next_is);
}

module _ {b : List ℕ} {at : ℕ} {whole b' : List ℕ} {next : ℕ} {rest : List ℕ} (l : Left b at whole b' next rest) (s t : List ℕ) (e : rest ≡ s ++ t) where
  -- what comes next fits
  pub left_fits : next + length s ≤ length b'
  left_fits = omega (arith, ap length e, length-append s t, l.next_is, l.length_is, l.whole_fits)

  -- once it is laid in, the rest is left
  pub left_then : {b'' : List ℕ} {end : ℕ} → Laid b' next s b'' end → Left b at whole b'' end t
  left_then {b''} {end} m = record {
    room_is =
        ap₂ (λ (c : List ℕ) (n : ℕ). laid c n t) m.room_is m.next_is ∙ laid_then b' next s t (omega (arith, left_fits))
        ∙ ap (laid b' next) (sym e) ∙ l.room_is;
    next_is = omega (arith, m.next_is, ap length e, length-append s t, l.next_is);
    length_is = same_length m ∙ l.length_is;
    whole_fits = l.whole_fits;
  }
