-- What is written one after another is written at once. Assumes nothing.
use Rattle.std.proofs.Common.{◌≡◌, ℕ, List, [], ◌++◌, length, take, sym, refl, ap, ◌∙◌, append_assoc, length-append, drop-drop, arith}
use borrow.Rule.Slice.PartMut.{put_mid}
use Rattle.wire.specs.Laid.{laid, Laid}
use Rattle.wire.proofs.Laid as l
use Rattle.decimals.specs.declared.Writer.{Writer}
use Rattle.decimals.specs.Writer.{RoomFor, Wrote}

-- a part of the room as long as the bytes holds them now
pub copied : (b : List ℕ) (at k : ℕ) (s : List ℕ) → k ≡ length s → put_mid at k b s ≡ laid b at s
unfolding laid
copied b at k s e = rw (e, append_assoc) (ap (λ (x : List ℕ). take at b ++ (s ++ x)) (drop-drop (length s) at b))

-- what comes first fits where it fits with what follows
pub fits_first : (w : Writer) (s t : List ℕ) → RoomFor w (s ++ t) → RoomFor w s
fits_first w s t h = omega (arith, h, length-append s t)

-- bytes laid into the same room
pub wrote : {w w' : Writer} {s : List ℕ} → w'.room.ghost_name ≡ w.room.ghost_name → Laid w.room.now w.at s w'.room.now w'.at → Wrote w s w'
wrote same laid = record { same_room = same; same_length = l.same_length laid; laid = laid }

pub nothing : (w : Writer) → RoomFor w [] → Wrote w [] w
nothing w h = wrote refl (l.nothing w.room.now w.at (omega (arith, h)))

module _ {w : Writer} {s : List ℕ} {w' : Writer} where
  infixl 20 ◌then◌
  pub ◌then◌ : {t : List ℕ} {w'' : Writer} → Wrote w s w' → Wrote w' t w'' → Wrote w (s ++ t) w''
  ◌then◌ p q = wrote (q.same_room ∙ p.same_room) (l.◌then◌ p.laid q.laid)

  -- the same, by a name that a function's attribute can cite
  pub both : {t : List ℕ} {w'' : Writer} → Wrote w s w' → Wrote w' t w'' → Wrote w (s ++ t) w''
  both p q = p then q

  -- what is to come next still fits, and so where more follows it
  pub fits : Wrote w s w' → (t : List ℕ) → RoomFor w (s ++ t) → RoomFor w' t
  fits p t h = l.fits p.laid t h

  pub fits_before : Wrote w s w' → (t u : List ℕ) → RoomFor w (s ++ t ++ u) → RoomFor w' t
  fits_before p t u h = l.fits_before p.laid t u h

  -- the same, said otherwise
  pub said : {t : List ℕ} → Wrote w s w' → t ≡ s → Wrote w t w'
  said p e = wrote p.same_room (l.said p.laid e refl refl)

  -- the room that the writer was lent holds them once it comes back
  pub lent : {b : List ℕ} → Wrote w s w' → (w.room.ghost_name ≡ w'.room.ghost_name → b ≡ w'.room.now) → Laid w.room.now w.at s b w'.at
  lent p back = l.said p.laid refl (back (sym p.same_room)) refl
