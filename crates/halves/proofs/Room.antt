-- The halves of a room: their numbers, where they are the same, and bringing the first up to the second. Assumes nothing.
use Prim.Native.Nat.{ℕ, ◌+◌, ◌-◌, ◌<◌, ◌≤◌}
use mathlib.Core.List.{List}
use mathlib.Core.Path.{◌≡◌, refl, sym, ◌∙◌}
use lib.ListN.{length, get_or, set, drop, length-set}
use lib.Seq.{drop-set-lt, get_or-set_same, get_or-set_other, get_or-take, get_or-drop}
use native.Mathlib.Decide.{ℕ_discrete, dec_lt}
use native.Mathlib.Omega.{arith}
use Rattle.halves.specs.Room.{half, Raised, Alike, Level, Same, Beside}

-- the numbers of a half
pub half_at : (n from : ℕ) (b : List ℕ) (v : ℕ) → v < n → get_or (half n from b) v 0 ≡ get_or b (from + v) 0
half_at n from b v l = get_or-take n (drop from b) v 0 l ∙ get_or-drop from b v 0

-- one more behind those that are the same; and all of them counted from the first
pub level_one : (n from i : ℕ) (b : List ℕ) → Level n from i b → get_or b i 0 ≡ get_or b (n + i) 0 → Level n from (i + 1) b
level_one n from i b below here v l h = go (ℕ_discrete v i)
  where
    go : Dec (v ≡ i) → get_or b v 0 ≡ get_or b (n + v) 0
    go (yes e) = rw e here
    go (no e) = below v l (omega arith)

pub level_alike : (n at k : ℕ) (b : List ℕ) → Level n at (at + k) b → Alike n at k b
level_alike n at k b same v h = same (at + v) (omega arith) (omega arith)

pub alike_level : (n at k : ℕ) (b : List ℕ) → Alike n at k b → Level n at (at + k) b
alike_level n at k b same v l h = let e : at + (v - at) ≡ v = omega arith in rw e at (same (v - at) (omega arith))

-- k more behind those that are the same; and where no more can differ
pub level_more : {from : ℕ} (n i k : ℕ) (b : List ℕ) → Level n from i b → Alike n i k b → Level n from (i + k) b
level_more n i k b below more v l h = go (dec_lt v i)
  where
    go : Dec (v < i) → get_or b v 0 ≡ get_or b (n + v) 0
    go (yes m) = below v l m
    go (no m) = let e : i + (v - i) ≡ v = omega arith in rw e at (more (v - i) (omega arith))

pub same_all : {n lo hi : ℕ} {b : List ℕ} → Level n lo hi b → Beside n lo hi b → Same n b
same_all {n} {lo} {hi} {b} inside beside v l = go (dec_lt v lo) (dec_lt v hi)
  where
    go : Dec (v < lo) → Dec (v < hi) → get_or b v 0 ≡ get_or b (n + v) 0
    go (yes m) q = beside.before v m l
    go (no m) (yes q) = inside v (omega arith) q
    go (no m) (no q) = beside.behind v (omega arith) l

-- the first half: none, k more that are the same, and one more
pub raised_none : {n : ℕ} {b : List ℕ} → Raised n 0 b b
raised_none = record { same_length = refl; done = λ v l. absurd (omega arith); stays = λ v l. refl; past = refl }

module _ {n i : ℕ} {b₀ b : List ℕ} (d : Raised n i b₀ b) where
  pub raised_alike : (k : ℕ) → Alike n i k b → Raised n (i + k) b₀ b × ((v : ℕ) → i ≤ v → v < i + k → get_or b₀ v 0 ≡ get_or b₀ (n + v) 0)
  raised_alike k same = (
    record {
      same_length = d.same_length;
      done = λ v l. go v l (dec_lt v i);
      stays = λ v l. d.stays v (omega arith);
      past = d.past;
    },
    λ v l h. sym (d.stays v l) ∙ here v l h ∙ d.stays (n + v) (omega arith),
  )
    where
      here : (v : ℕ) → i ≤ v → v < i + k → get_or b v 0 ≡ get_or b (n + v) 0
      here v h l = let e : i + (v - i) ≡ v = omega arith in rw e at (same (v - i) (omega arith))

      go : (v : ℕ) → v < i + k → Dec (v < i) → get_or b v 0 ≡ get_or b₀ (n + v) 0
      go v l (yes h) = d.done v h
      go v l (no h) = here v (omega arith) l ∙ d.stays (n + v) (omega arith)

  pub raised_set : i < n → n + n ≤ length b₀ → Raised n (i + 1) b₀ (set b i (get_or b (n + i) 0))
  raised_set inside room = record {
    same_length = length-set b i _ ∙ d.same_length;
    done = λ v l. go v l (ℕ_discrete v i);
    stays = λ v l. let ne : ¬ (v ≡ i) = λ e. omega arith in get_or-set_other b i v _ 0 ne ∙ d.stays v (omega arith);
    past = drop-set-lt (n + n) b i _ (omega arith) ∙ d.past;
  }
    where
      go : (v : ℕ) → v < i + 1 → Dec (v ≡ i) → get_or (set b i (get_or b (n + i) 0)) v 0 ≡ get_or b₀ (n + v) 0
      go v l (yes e) = rw (e, get_or-set_same b i (get_or b (n + i) 0) 0 (omega (arith, d.same_length))) (d.stays (n + i) (omega arith))
      go v l (no e) = get_or-set_other b i v _ 0 e ∙ d.done v (omega arith)
