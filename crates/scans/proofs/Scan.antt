-- A scan over the records of a message: a turn takes the next record in. Assumes nothing.
use Prim.Native.Nat.{ℕ, ◌+◌, ◌*◌, ◌-◌, ◌<◌, ◌≤◌, min}
use mathlib.Core.List.{List, ◌∷◌}
use mathlib.Core.Bool.{Bool, true, false, cond, ◌||◌, ◌&&◌}
use mathlib.Core.Path.{◌≡◌, refl, sym, ap, subst, ◌∙◌}
use lib.ListN.{length, get_or, set, length-set, get_or-eq_default}
use lib.Seq.{get_or-set_same, get_or-set_other}
use lib.Dec.{eqb}
use borrow.Author.Tests.{eq-eqb, ne_eqb}
use native.Mathlib.Decide.{ℕ_discrete, dec_lt}
use native.Mathlib.Omega.{arith}
use Rattle.lists.specs.Lists.{any}
use Rattle.value.specs.Value.{meets}
use Rattle.value.specs.Stored.{stored, infinite}
use Rattle.value.proofs.Stored.{stored_least}
use Rattle.wire.specs.Bytes.{number}
use Rattle.wire.specs.Layout.{items, end, Sound}
use Rattle.wire.proofs.Layouts.{items_more, end_more, end_none, sound_more}
use Rattle.rules.specs.Graph.{Hyper, Cover}
use Rattle.rules.specs.Rounds.{Assignment, cover_holds, worst, best, covered}
use Rattle.value.specs.Coded.{bound_of}
use Rattle.graph.specs.Format.{target_count_at, hyper_width, target_width, cover_bound_at, cover_target_at, cover_width}
use Rattle.graph.specs.Layouts.{target_layout, hyper_layout, cover_layout, HyperOk, CoverOk}
use Rattle.halves.specs.Held.{held}
use Rattle.halves.specs.Room.{half}
use Rattle.scans.specs.Scan.{Sides, lowered, hyper_in, Going, Done}
use Rattle.scans.proofs.Going.{going_on, going_set}

-- what is left to do to a node's next number: the hyperedges, the cover edges
abbrev pub left_hypers : Assignment → List Hyper → ℕ → ℕ → ℕ
left_hypers x hs v a = min a (stored (best x v hs))

abbrev pub left_covers : Assignment → List Cover → ℕ → ℕ → ℕ
left_covers x cs v a = cond (covered x v cs) 0 a

module _ (x : Assignment) where
  -- a hyperedge of a node, and of another
  best_here : (h : Hyper) (hs : List Hyper) (j a new : ℕ) → h.source ≡ j → new ≡ min a (stored (worst x h.targets))
      → left_hypers x hs j new ≡ left_hypers x (h ∷ hs) j a
  unfolding best
  best_here h hs j a new e is = rw (eq-eqb h.source j e) (omega (arith, stored_least (worst x h.targets) (best x j hs)))

  best_there : (h : Hyper) (hs : List Hyper) (v a : ℕ) → ¬ (h.source ≡ v) → left_hypers x hs v a ≡ left_hypers x (h ∷ hs) v a
  unfolding best
  best_there h hs v a e = rw (ne_eqb h.source v e)

  -- a cover edge that holds, at its node; of another node; that does not hold
  covered_here : (c : Cover) (cs : List Cover) (j a : ℕ) → c.source ≡ j → cover_holds x c ≡ true → left_covers x cs j 0 ≡ left_covers x (c ∷ cs) j a
  unfolding covered any
  covered_here c cs j a e met = rw (eq-eqb c.source j e, met) (go (covered x j cs))
    where
      go : (t : Bool) → ◌≡◌ {A = ℕ} (cond t 0 0) 0
      go true = refl
      go false = refl

  covered_there : (c : Cover) (cs : List Cover) (v a : ℕ) → ¬ (c.source ≡ v) → left_covers x cs v a ≡ left_covers x (c ∷ cs) v a
  unfolding covered any
  covered_there c cs v a e = rw (ne_eqb c.source v e)

  covered_unmet : (c : Cover) (cs : List Cover) (v a : ℕ) → cover_holds x c ≡ false → left_covers x cs v a ≡ left_covers x (c ∷ cs) v a
  unfolding covered any
  covered_unmet c cs v a unmet = rw unmet (go (eqb c.source v))
    where
      go : (t : Bool) → left_covers x cs v a ≡ cond (t && false || covered x v cs) 0 a
      go true = refl
      go false = refl

-- a turn takes the next hyperedge in; at the end nothing is left to do
module _ (s : List ℕ) (n from to : ℕ) (x : Assignment) (i p : ℕ) {b₀ b : List ℕ} {all : ℕ → ℕ}
    (g : Going n from to b₀ b (left_hypers x (items (hyper_layout s n) i p)) all) where
  pub hypers_turn : Sides n from to → n + n ≤ length b₀ → 0 < i → HyperOk s n p → held (half n from b) ≡ x
      → Going n from to b₀ (hyper_in s n from to p b) (left_hypers x (items (hyper_layout s n) (i - 1) (p + hyper_width + number 2 s (p + target_count_at) * target_width))) all
  hypers_turn sides room h ok this =
      let g' = subst (λ (l : List Hyper). Going n from to b₀ b (left_hypers x l) all) (items_more (hyper_layout s n) i p h) g in
      let new = ap (λ (y : Assignment). min (get_or b (to + number 2 s p) 0) (stored (worst y (items (target_layout s n) (number 2 s (p + target_count_at)) (p + hyper_width))))) this in
      going_set g' sides room _ _ ok.named (best_here x _ _ _ _ _ refl new) (λ v a ne. best_there x _ _ v a (λ q. ne (sym q)))

  pub hypers_end : i ≡ 0 → ((v : ℕ) → get_or b v 0 ≤ infinite) → Done n from to b₀ b all
  unfolding items best stored
  hypers_end h fits =
      let g' = subst (λ (j : ℕ). Going n from to b₀ b (left_hypers x (items (hyper_layout s n) j p)) all) h g in
      record {
        same_length = g.same_length;
        this = g.this;
        past = g.past;
        each = λ v l. omega (arith, g'.each v l, fits (to + v));
      }

-- numbers that are stored fit still once a hyperedge is taken in
pub lowered_fits : (s : List ℕ) (to at k : ℕ) (b : List ℕ) → ((v : ℕ) → get_or b v 0 ≤ infinite) → (v : ℕ) → get_or (lowered s to at k b) v 0 ≤ infinite
lowered_fits s to at k b fits v = go (ℕ_discrete v (to + number 2 s at)) (dec_lt (to + number 2 s at) (length b))
  where
    go : Dec (v ≡ to + number 2 s at) → Dec (to + number 2 s at < length b) → get_or (lowered s to at k b) v 0 ≤ infinite
    go (no e) q = rw (get_or-set_other b (to + number 2 s at) v (min (get_or b (to + number 2 s at) 0) k) 0 e) (fits v)
    go (yes e) (yes h) = rw (e, get_or-set_same b (to + number 2 s at) (min (get_or b (to + number 2 s at) 0) k) 0 h) (omega (arith, fits (to + number 2 s at)))
    go (yes e) (no h) =
        let long = length-set b (to + number 2 s at) (min (get_or b (to + number 2 s at) 0) k) in
        rw (e, get_or-eq_default (lowered s to at k b) 0 {n = to + number 2 s at} (omega (arith, long))) (omega arith)

-- i hyperedges at p are left to take in, of k at a position
pub record Left (s : List ℕ) (n from to k at : ℕ) (b₀ b : List ℕ) (i p : ℕ) : Type 0 where
  pub sound : Sound (hyper_layout s n) i p
  pub ends : end (hyper_layout s n) i p ≡ end (hyper_layout s n) k at
  pub going : Going n from to b₀ b (left_hypers (held (half n from b₀)) (items (hyper_layout s n) i p))
      (λ v. left_hypers (held (half n from b₀)) (items (hyper_layout s n) k at) v (get_or b₀ (to + v) 0))

-- all are
pub left_all : {s : List ℕ} {n from to k at : ℕ} {b : List ℕ} → Sound (hyper_layout s n) k at → Left s n from to k at b b k at
left_all sound = record { sound = sound; ends = refl; going = record { same_length = refl; this = refl; past = refl; each = λ v h. refl } }

module _ {s : List ℕ} {n from to k at : ℕ} {b₀ b : List ℕ} {i p : ℕ} (d : Left s n from to k at b₀ b i p) where
  -- the next one is sound
  pub left_here : 0 < i → HyperOk s n p
  left_here h = (sound_more _ h d.sound).0

  -- once it is taken in, one less is left, a stride further
  pub left_turn : Sides n from to → n + n ≤ length b₀ → 0 < i → {b' : List ℕ} → b' ≡ hyper_in s n from to p b
      → {stride : ℕ} → stride ≡ hyper_width + number 2 s (p + target_count_at) * target_width → {j : ℕ} → j ≡ i - 1 → Left s n from to k at b₀ b' j (p + stride)
  left_turn sides room h is {stride} e less =
      let next : p + stride ≡ p + hyper_width + number 2 s (p + target_count_at) * target_width = omega arith in
      rw (is, next, less) (record {
        sound = (sound_more _ h d.sound).1;
        ends = sym (end_more _ _ _ h) ∙ d.ends;
        going = hypers_turn _ _ _ _ _ i p d.going sides room h (left_here h) (ap held d.going.this);
      })

  -- none is
  pub left_none : i ≡ 0 → ((v : ℕ) → get_or b v 0 ≤ infinite)
      → (p ≡ end (hyper_layout s n) k at) × Done n from to b₀ b (λ v. left_hypers (held (half n from b₀)) (items (hyper_layout s n) k at) v (get_or b₀ (to + v) 0))
  left_none e fits = (sym (end_none _ _ _ e) ∙ d.ends, hypers_end _ _ _ _ _ _ _ d.going e fits)

-- a turn takes the next cover edge in, whether it holds or not; at the end nothing is left to do
module _ (s : List ℕ) (n from to : ℕ) (x : Assignment) (i p : ℕ) {b₀ b : List ℕ} {all : ℕ → ℕ}
    (g : Going n from to b₀ b (left_covers x (items (cover_layout s n) i p)) all) where
  abbrev pub Met : Bool → Type 0
  Met t = meets (bound_of (number 4 s (p + cover_bound_at))) (x (number 2 s (p + cover_target_at))) ≡ t

  pub covers_met : Sides n from to → n + n ≤ length b₀ → 0 < i → CoverOk s n p → Met true
      → Going n from to b₀ (set b (to + number 2 s p) 0) (left_covers x (items (cover_layout s n) (i - 1) (p + cover_width))) all
  covers_met sides room h ok met =
      let g' = subst (λ (l : List Cover). Going n from to b₀ b (left_covers x l) all) (items_more (cover_layout s n) i p h) g in
      going_set g' sides room _ 0 ok.named (covered_here x _ _ _ _ refl met) (λ v a ne. covered_there x _ _ v a (λ q. ne (sym q)))

  pub covers_unmet : 0 < i → Met false → Going n from to b₀ b (left_covers x (items (cover_layout s n) (i - 1) (p + cover_width))) all
  covers_unmet h unmet =
      let g' = subst (λ (l : List Cover). Going n from to b₀ b (left_covers x l) all) (items_more (cover_layout s n) i p h) g in
      going_on g' (λ v a l. covered_unmet x _ _ v a unmet)

  pub covers_end : i ≡ 0 → Done n from to b₀ b all
  unfolding items covered any
  covers_end h =
      let g' = subst (λ (j : ℕ). Going n from to b₀ b (left_covers x (items (cover_layout s n) j p)) all) h g in
      going_on g' (λ v a l. refl)
