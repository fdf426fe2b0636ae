-- A walk over the records of a message: those behind it are done, those before it are left. Assumes nothing.
use Prim.Native.Nat.{ℕ, ◌-◌, ◌<◌}
use mathlib.Core.List.Memᴰ
use mathlib.Core.List.{◌∷◌}
use mathlib.Core.Logic.{◌⊎◌, inl, inr}
use mathlib.Core.Path.{◌≡◌, refl, sym, subst, ◌∙◌}
use Rattle.lists.specs.Lists.{◌∈◌}
use Rattle.wire.specs.Layout.{Layout, items, end, Sound}
use Rattle.wire.proofs.Layouts.{items_more, end_more, end_none, sound_more}

-- of the k records at a position i are left, at p
pub record Walking {A : Type 0} (L : Layout A) (k at : ℕ) (Done : A → Type 0) (i p : ℕ) : Type 0 where
  pub ends : end L i p ≡ end L k at
  pub left : (e : A) → e ∈ items L i p → e ∈ items L k at
  pub done : (e : A) → e ∈ items L k at → Done e ⊎ (e ∈ items L i p)

module _ {A : Type 0} {L : Layout A} {k at : ℕ} {Done : A → Type 0} where
  -- all are left
  pub walking_all : Walking L k at Done k at
  walking_all = record { ends = refl; left = λ e m. m; done = λ e m. inr m }

  module _ {i p : ℕ} (w : Walking L k at Done i p) where
    -- the next one is one of them
    pub walking_one : 0 < i → L.item p ∈ items L k at
    walking_one h = w.left (L.item p) (rw (items_more L i p h) (Memᴰ.head refl))

    -- once it is done too, one less is left
    pub walking_turn : {Done' : A → Type 0} → 0 < i → ((e : A) → Done e → Done' e) → Done' (L.item p) → Walking L k at Done' (i - 1) (L.next p)
    walking_turn {Done'} h stays here = record {
      ends = sym (end_more L i p h) ∙ w.ends;
      left = λ e m. w.left e (rw (items_more L i p h) (Memᴰ.tail m));
      done = λ e m. go e (w.done e m);
    }
      where
        split : (e : A) → e ∈ (L.item p ∷ items L (i - 1) (L.next p)) → Done' e ⊎ (e ∈ items L (i - 1) (L.next p))
        split e (Memᴰ.head q) = inl (subst Done' (sym q) here)
        split e (Memᴰ.tail m) = inr m

        go : (e : A) → Done e ⊎ (e ∈ items L i p) → Done' e ⊎ (e ∈ items L (i - 1) (L.next p))
        go e (inl d) = inl (stays e d)
        go e (inr m) = split e (rw (items_more L i p h) at m)

    -- none is left
    pub walking_end : i ≡ 0 → p ≡ end L k at
    walking_end h = sym (end_none L i p h) ∙ w.ends

    pub walking_done : i ≡ 0 → (e : A) → e ∈ items L k at → Done e
    unfolding items
    walking_done h e m = go (w.done e m)
      where
        go : Done e ⊎ (e ∈ items L i p) → Done e
        go (inl d) = d
        go (inr m) = absurd (Memᴰ.not-nil (subst (λ (j : ℕ). e ∈ items L j p) h m))

-- the same where those that are left are sound
pub record Passing {A : Type 0} (L : Layout A) (k at : ℕ) (Done : A → Type 0) (i p : ℕ) : Type 0 where
  pub sound : Sound L i p
  pub walk : Walking L k at Done i p

module _ {A : Type 0} {L : Layout A} {k at : ℕ} {Done : A → Type 0} where
  pub passing_all : Sound L k at → Passing L k at Done k at
  passing_all sound = record { sound = sound; walk = walking_all }

  module _ {i p : ℕ} (w : Passing L k at Done i p) where
    -- the next one is sound, and one of them
    pub passing_here : 0 < i → L.Ok p
    passing_here h = (sound_more L h w.sound).0

    pub passing_one : 0 < i → L.item p ∈ items L k at
    passing_one h = walking_one w.walk h

    pub passing_turn : {Done' : A → Type 0} → 0 < i → ((e : A) → Done e → Done' e) → Done' (L.item p) → Passing L k at Done' (i - 1) (L.next p)
    passing_turn h stays here = record { sound = (sound_more L h w.sound).1; walk = walking_turn w.walk h stays here }

    pub passing_end : i ≡ 0 → p ≡ end L k at
    passing_end h = walking_end w.walk h

    pub passing_done : i ≡ 0 → (e : A) → e ∈ items L k at → Done e
    passing_done h e m = walking_done w.walk h e m
