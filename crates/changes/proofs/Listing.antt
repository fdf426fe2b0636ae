-- The nodes that changed, listed: one more of a pass, and a record that changes its source or does not. Assumes nothing.
use Prim.Native.Nat.{ℕ, zero, suc, ◌+◌, ◌<◌, ◌≤◌}
use mathlib.Core.List.{List}
use mathlib.Core.Logic.{◌⊎◌, inl, inr}
use mathlib.Core.Path.{◌≡◌, refl, sym, ◌∙◌}
use lib.ListN.{length, get_or, set, take, drop, length-set}
use Rattle.std.proofs.lemmas.List.{get_or-take, length-take-le}
use lib.Seq.{get_or-set_same, get_or-set_other, drop-set-lt}
use borrow.Author.Tests.{eq-eqb, ne_eqb}
use native.Mathlib.Decide.{ℕ_discrete}
use native.Mathlib.Omega.{arith}
use native.Mathlib.Numerals.{add-one}
use Rattle.halves.specs.Room.{Same, Raised}
use Rattle.changes.specs.Listed.{Fallen, changes, Listed, Names}

-- what a record does to the numbers of the nodes: that of its source may fall in the next round
pub record Lowers (n source : ℕ) (b b' : List ℕ) : Type 0 where
  pub same_length : length b' ≡ length b
  pub this : (v : ℕ) → v < n → get_or b' v 0 ≡ get_or b v 0
  pub others : (v : ℕ) → v < n → ¬ (v ≡ source) → get_or b' (n + v) 0 ≡ get_or b (n + v) 0
  pub falls : get_or b' (n + source) 0 ≤ get_or b (n + source) 0

-- a node changed, or it did not
counts_same : (n i : ℕ) (b : List ℕ) → get_or b i 0 ≡ get_or b (n + i) 0 → changes n b (suc i) ≡ changes n b i
unfolding changes
counts_same n i b e = rw (eq-eqb (get_or b i 0) (get_or b (n + i) 0) e) (omega arith)

counts_other : (n i : ℕ) (b : List ℕ) → ¬ (get_or b i 0 ≡ get_or b (n + i) 0) → changes n b (suc i) ≡ 1 + changes n b i
unfolding changes
counts_other n i b e = rw (ne_eqb (get_or b i 0) (get_or b (n + i) 0) e) refl

-- no more than there are nodes
changes_le : (n : ℕ) (b : List ℕ) (i : ℕ) → changes n b i ≤ i
unfolding changes
changes_le n b zero = omega arith
changes_le n b (suc i) = go (ℕ_discrete (get_or b i 0) (get_or b (n + i) 0)) (changes_le n b i)
  where
    go : Dec (get_or b i 0 ≡ get_or b (n + i) 0) → changes n b i ≤ i → changes n b (suc i) ≤ suc i
    go (yes e) h = omega (arith, counts_same n i b e)
    go (no e) h = omega (arith, counts_other n i b e)

-- none, where the halves are the same
changes_none : (n : ℕ) (b : List ℕ) (i : ℕ) → ((v : ℕ) → v < i → get_or b v 0 ≡ get_or b (n + v) 0) → changes n b i ≡ 0
unfolding changes
changes_none n b zero same = refl
changes_none n b (suc i) same = counts_same n i b (same i (omega arith)) ∙ changes_none n b i (λ v l. same v (omega arith))

module _ (n : ℕ) (b b' : List ℕ) where
  -- no fewer, where each that changed did so here too
  changes_mono : (i : ℕ) → ((v : ℕ) → v < i → ¬ (get_or b v 0 ≡ get_or b (n + v) 0) → ¬ (get_or b' v 0 ≡ get_or b' (n + v) 0)) → changes n b i ≤ changes n b' i
  unfolding changes
  changes_mono zero still = omega arith
  changes_mono (suc i) still = go (ℕ_discrete (get_or b i 0) (get_or b (n + i) 0)) (ℕ_discrete (get_or b' i 0) (get_or b' (n + i) 0)) (changes_mono i (λ v l. still v (omega arith)))
    where
      go : Dec (get_or b i 0 ≡ get_or b (n + i) 0) → Dec (get_or b' i 0 ≡ get_or b' (n + i) 0) → changes n b i ≤ changes n b' i → changes n b (suc i) ≤ changes n b' (suc i)
      go (yes e) (yes e') h = omega (arith, counts_same n i b e, counts_same n i b' e')
      go (yes e) (no e') h = omega (arith, counts_same n i b e, counts_other n i b' e')
      go (no e) (yes e') h = absurd (still i (omega arith) e e')
      go (no e) (no e') h = omega (arith, counts_other n i b e, counts_other n i b' e')

  -- one more, where another one did
  changes_more : (w i : ℕ) → w < i → get_or b w 0 ≡ get_or b (n + w) 0 → ¬ (get_or b' w 0 ≡ get_or b' (n + w) 0)
      → ((v : ℕ) → v < i → ¬ (get_or b v 0 ≡ get_or b (n + v) 0) → ¬ (get_or b' v 0 ≡ get_or b' (n + v) 0)) → changes n b i < changes n b' i
  unfolding changes
  changes_more w zero l same other still = absurd (omega arith)
  changes_more w (suc i) l same other still = go (ℕ_discrete w i) (λ h. changes_more w i h same other (λ v l'. still v (omega arith)))
    where
      rest : Dec (get_or b i 0 ≡ get_or b (n + i) 0) → Dec (get_or b' i 0 ≡ get_or b' (n + i) 0) → changes n b i < changes n b' i → changes n b (suc i) < changes n b' (suc i)
      rest (yes e) (yes e') h = omega (arith, counts_same n i b e, counts_same n i b' e')
      rest (yes e) (no e') h = omega (arith, counts_same n i b e, counts_other n i b' e')
      rest (no e) (yes e') h = absurd (still i (omega arith) e e')
      rest (no e) (no e') h = omega (arith, counts_other n i b e, counts_other n i b' e')

      go : Dec (w ≡ i) → (w < i → changes n b i < changes n b' i) → changes n b (suc i) < changes n b' (suc i)
      go (yes e) before =
          let same' : get_or b i 0 ≡ get_or b (n + i) 0 = rw e at same in
          let other' : ¬ (get_or b' i 0 ≡ get_or b' (n + i) 0) = rw e at other in
          omega (arith, counts_same n i b same', counts_other n i b' other', changes_mono i (λ v l'. still v (omega arith)))
      go (no e) before = rest (ℕ_discrete (get_or b i 0) (get_or b (n + i) 0)) (ℕ_discrete (get_or b' i 0) (get_or b' (n + i) 0)) (before (omega arith))

-- nothing is listed yet: of no node, and where the halves are the same
pub listed_none : {n : ℕ} {b changed : List ℕ} → n ≤ length changed → Fallen n b → Listed n 0 0 b changed
listed_none long fallen = record { long = long; fallen = fallen; few = omega arith; named = λ k l. absurd (omega arith); reach = λ v l. absurd (omega arith) }

pub listed_level : {n : ℕ} {b changed : List ℕ} → n ≤ length changed → Same n b → Listed n n 0 b changed
listed_level long same = record { long = long; fallen = λ v l. omega (arith, same v l); few = omega arith; named = λ k l. absurd (omega arith); reach = λ v l ne. absurd (ne (same v l)) }

module _ {n i many : ℕ} {b changed : List ℕ} (d : Listed n i many b changed) where
  -- no more are listed than there are nodes
  pub listed_few : many ≤ i
  listed_few = omega (arith, d.few, changes_le n b i)

  -- a node that did not change, and one that did
  pub listed_same : get_or b i 0 ≡ get_or b (n + i) 0 → Listed n (i + 1) many b changed
  listed_same e = rw (add-one i) (record { long = d.long; fallen = d.fallen; few = omega (arith, d.few, counts_same n i b e); named = d.named; reach = λ v l ne. go v l ne (ℕ_discrete v i) })
    where
      go : (v : ℕ) → v < suc i → ¬ (get_or b v 0 ≡ get_or b (n + v) 0) → Dec (v ≡ i) → (k : ℕ) × (k < many) × (get_or changed k 0 ≡ v)
      go v l ne (yes z) = absurd (ne (rw z e))
      go v l ne (no z) = d.reach v (omega arith) ne

-- nothing is listed exactly where the halves are the same
module _ {n many : ℕ} {b changed : List ℕ} (d : Listed n n many b changed) where
  pub listed_over : many ≡ 0 → Same n b
  listed_over e v l = go (ℕ_discrete (get_or b v 0) (get_or b (n + v) 0))
    where
      go : Dec (get_or b v 0 ≡ get_or b (n + v) 0) → get_or b v 0 ≡ get_or b (n + v) 0
      go (yes q) = q
      go (no q) = let r = d.reach v l q in absurd (omega (arith, r.1))

  pub listed_some : ¬ (many ≡ 0) → ¬ Same n b
  listed_some e same = e (omega (arith, d.few, changes_none n b n same))

-- the part of a list that is listed: so many, each as it stands in the list
module _ (many : ℕ) (nodes part : List ℕ) (is : part ≡ take many nodes) where
  pub part_length : many ≤ length nodes → length part ≡ many
  part_length few = rw is (length-take-le many nodes few)

  pub part_at : (i : ℕ) → i < many → get_or part i 0 ≡ get_or nodes i 0
  part_at i below = rw is (get_or-take many nodes i 0 below)

-- so that part names every node that changed
pub listed_names : {n many : ℕ} {b nodes part : List ℕ} → Listed n n many b nodes → part ≡ take many nodes → Names n b part
listed_names {n} {many} {b} {nodes} {part} d is = record {
  named = λ k l. let below : k < many = omega (arith, long) in let same = part_at many nodes part is k below in omega (arith, same, d.named k below);
  reach = λ v l ne. let r = d.reach v l ne in (r.0, omega (arith, long, r.1), part_at many nodes part is r.0 r.1 ∙ r.2);
}
  where
    long : length part ≡ many
    long = let few = listed_few d in part_length many nodes part is (omega (arith, d.long))

-- a node more in the list
module _ (many : ℕ) (changed : List ℕ) (w : ℕ) (free : many < length changed) where
  more_named : {n : ℕ} → w < n → ((k : ℕ) → k < many → get_or changed k 0 < n) → (k : ℕ) → k < many + 1 → get_or (set changed many w) k 0 < n
  more_named {n} l named k h = go (ℕ_discrete k many)
    where
      go : Dec (k ≡ many) → get_or (set changed many w) k 0 < n
      go (yes e) = rw (e, get_or-set_same changed many w 0 free) l
      go (no e) =
          let apart : ¬ (k ≡ many) = λ q. e (omega arith) in
          rw (get_or-set_other changed many k w 0 apart) (named k (omega arith))

  more_here : (k : ℕ) × (k < many + 1) × (get_or (set changed many w) k 0 ≡ w)
  more_here = (many, omega arith, get_or-set_same changed many w 0 free)

  more_there : {v : ℕ} → (k : ℕ) × (k < many) × (get_or changed k 0 ≡ v) → (k : ℕ) × (k < many + 1) × (get_or (set changed many w) k 0 ≡ v)
  more_there r =
      let apart : ¬ (r.0 ≡ many) = λ q. omega (arith, r.1) in
      (r.0, omega (arith, r.1), get_or-set_other changed many r.0 w 0 apart ∙ r.2)

pub listed_more : {n i many : ℕ} {b changed : List ℕ} → Listed n i many b changed → i < n → ¬ (get_or b i 0 ≡ get_or b (n + i) 0) → many < length changed
    → Listed n (i + 1) (many + 1) b (set changed many i)
listed_more {n} {i} {many} {b} {changed} d inside ne free = rw (add-one i) (record {
  long = omega (arith, length-set changed many i, d.long);
  fallen = d.fallen;
  few = omega (arith, d.few, counts_other n i b ne);
  named = more_named many changed i free inside d.named;
  reach = λ v l e. go v l e (ℕ_discrete v i);
})
  where
    go : (v : ℕ) → v < suc i → ¬ (get_or b v 0 ≡ get_or b (n + v) 0) → Dec (v ≡ i) → (k : ℕ) × (k < many + 1) × (get_or (set changed many i) k 0 ≡ v)
    go v l e (yes z) = rw z (more_here many changed i free)
    go v l e (no z) = more_there many changed i free (d.reach v (omega arith) e)

-- a record is taken in
module _ {n many source : ℕ} {b b' changed : List ℕ} (d : Listed n n many b changed) (named : source < n) (r : Lowers n source b b') where
  still : (v : ℕ) → v < n → ¬ (get_or b v 0 ≡ get_or b (n + v) 0) → ¬ (get_or b' v 0 ≡ get_or b' (n + v) 0)
  still v l ne = go (ℕ_discrete v source)
    where
      go : Dec (v ≡ source) → ¬ (get_or b' v 0 ≡ get_or b' (n + v) 0)
      go (no e) q = ne (sym (r.this v l) ∙ q ∙ r.others v l e)
      go (yes e) q =
          let q' : get_or b' source 0 ≡ get_or b' (n + source) 0 = rw e at q in
          let ne' : ¬ (get_or b source 0 ≡ get_or b (n + source) 0) = rw e at ne in
          ne' (omega (arith, d.fallen source named, r.falls, r.this source named))

  fallen_on : Fallen n b'
  fallen_on v l = go (ℕ_discrete v source)
    where
      go : Dec (v ≡ source) → get_or b' (n + v) 0 ≤ get_or b' v 0
      go (no e) = rw (r.others v l e, r.this v l) (d.fallen v l)
      go (yes e) = rw e (omega (arith, d.fallen source named, r.falls, r.this source named))

  -- its source had changed already, or stays
  pub listed_stays : (get_or b source 0 ≡ get_or b (n + source) 0 → get_or b' (n + source) 0 ≡ get_or b (n + source) 0) → Listed n n many b' changed
  listed_stays stays = record { long = d.long; fallen = fallen_on; few = omega (arith, d.few, changes_mono n b b' n still); named = d.named; reach = λ v l ne. d.reach v l (before v l ne (ℕ_discrete v source)) }
    where
      before : (v : ℕ) → v < n → ¬ (get_or b' v 0 ≡ get_or b' (n + v) 0) → Dec (v ≡ source) → ¬ (get_or b v 0 ≡ get_or b (n + v) 0)
      before v l ne (no e) q = ne (r.this v l ∙ q ∙ sym (r.others v l e))
      before v l ne (yes e) q =
          let q' : get_or b source 0 ≡ get_or b (n + source) 0 = rw e at q in
          let ne' : ¬ (get_or b' source 0 ≡ get_or b' (n + source) 0) = rw e at ne in
          ne' (r.this source named ∙ q' ∙ sym (stays q'))

  module _ (same : get_or b source 0 ≡ get_or b (n + source) 0) (other : ¬ (get_or b' (n + source) 0 ≡ get_or b (n + source) 0)) where
    changed_now : ¬ (get_or b' source 0 ≡ get_or b' (n + source) 0)
    changed_now q = other (sym q ∙ r.this source named ∙ same)

    one_more : many + 1 ≤ changes n b' n
    one_more = omega (arith, d.few, changes_more n b b' source n named same changed_now still)

    -- there is room for it in the list
    pub listed_room : many < n
    listed_room = omega (arith, one_more, changes_le n b' n)

    -- its source changes
    pub listed_source : many < length changed → Listed n n (many + 1) b' (set changed many source)
    listed_source free = record {
      long = omega (arith, length-set changed many source, d.long);
      fallen = fallen_on;
      few = one_more;
      named = more_named many changed source free named d.named;
      reach = λ v l ne. go v l ne (ℕ_discrete v source);
    }
      where
        go : (v : ℕ) → v < n → ¬ (get_or b' v 0 ≡ get_or b' (n + v) 0) → Dec (v ≡ source) → (k : ℕ) × (k < many + 1) × (get_or (set changed many source) k 0 ≡ v)
        go v l ne (yes e) = rw e (more_here many changed source free)
        go v l ne (no e) = more_there many changed source free (d.reach v l (λ q. ne (r.this v l ∙ q ∙ sym (r.others v l e))))

-- the first half is brought up at the first i nodes that are listed
pub record Raising (n i : ℕ) (b₀ b changed : List ℕ) : Type 0 where
  pub same_length : length b ≡ length b₀
  pub each : (v : ℕ) → v < n → (get_or b v 0 ≡ get_or b₀ (n + v) 0) ⊎ ((get_or b v 0 ≡ get_or b₀ v 0) × ((k : ℕ) → k < i → ¬ (get_or changed k 0 ≡ v)))
  pub stays : (v : ℕ) → n ≤ v → get_or b v 0 ≡ get_or b₀ v 0
  pub past : drop (n + n) b ≡ drop (n + n) b₀

pub raising_none : {n : ℕ} {b changed : List ℕ} → Raising n 0 b b changed
raising_none = record { same_length = refl; each = λ v l. inr (refl, λ k h. absurd (omega arith)); stays = λ v l. refl; past = refl }

module _ {n i : ℕ} {b₀ b changed : List ℕ} (d : Raising n i b₀ b changed) where
  pub raising_more : {w : ℕ} → w ≡ get_or changed i 0 → w < n → n + n ≤ length b₀ → Raising n (i + 1) b₀ (set b w (get_or b (n + w) 0)) changed
  raising_more {w} is named long = record {
    same_length = length-set b w (get_or b (n + w) 0) ∙ d.same_length;
    each = λ v l. at v (ℕ_discrete v w) (d.each v l);
    stays = λ v l. let apart : ¬ (v ≡ w) = λ q. omega arith in get_or-set_other b w v (get_or b (n + w) 0) 0 apart ∙ d.stays v l;
    past = drop-set-lt (n + n) b w (get_or b (n + w) 0) (omega arith) ∙ d.past;
  }
    where
      at : (v : ℕ) → Dec (v ≡ w) → (get_or b v 0 ≡ get_or b₀ (n + v) 0) ⊎ ((get_or b v 0 ≡ get_or b₀ v 0) × ((k : ℕ) → k < i → ¬ (get_or changed k 0 ≡ v)))
          → (get_or (set b w (get_or b (n + w) 0)) v 0 ≡ get_or b₀ (n + v) 0) ⊎ ((get_or (set b w (get_or b (n + w) 0)) v 0 ≡ get_or b₀ v 0) × ((k : ℕ) → k < i + 1 → ¬ (get_or changed k 0 ≡ v)))
      at v (yes e) r = inl (rw e (get_or-set_same b w (get_or b (n + w) 0) 0 (omega (arith, d.same_length)) ∙ d.stays (n + w) (omega arith)))
      at v (no e) (inl q) = inl (get_or-set_other b w v (get_or b (n + w) 0) 0 e ∙ q)
      at v (no e) (inr (q, out)) = inr (get_or-set_other b w v (get_or b (n + w) 0) 0 e ∙ q, λ k l. away k l (ℕ_discrete k i))
        where
          away : (k : ℕ) → k < i + 1 → Dec (k ≡ i) → ¬ (get_or changed k 0 ≡ v)
          away k l (yes z) u = e (sym (is ∙ (rw z at u)))
          away k l (no z) u = out k (omega arith) u

  -- all of them: the halves differ nowhere else
  pub raising_all : i ≡ length changed → Names n b₀ changed → Raised n n b₀ b
  raising_all whole names = record { same_length = d.same_length; done = λ v l. up v l (d.each v l) (ℕ_discrete (get_or b₀ v 0) (get_or b₀ (n + v) 0)); stays = d.stays; past = d.past }
    where
      up : (v : ℕ) → v < n → (get_or b v 0 ≡ get_or b₀ (n + v) 0) ⊎ ((get_or b v 0 ≡ get_or b₀ v 0) × ((k : ℕ) → k < i → ¬ (get_or changed k 0 ≡ v))) → Dec (get_or b₀ v 0 ≡ get_or b₀ (n + v) 0)
          → get_or b v 0 ≡ get_or b₀ (n + v) 0
      up v l (inl e) t = e
      up v l (inr (e, out)) (yes q) = e ∙ q
      up v l (inr (e, out)) (no ne) = let r = names.reach v l ne in absurd (out r.0 (omega (arith, whole, r.1)) r.2)

-- a half that is brought up is the same as the other
pub raised_same : {n : ℕ} {b₀ b : List ℕ} → Raised n n b₀ b → Same n b
raised_same {n} d v l = d.done v l ∙ sym (d.stays (n + v) (omega arith))
