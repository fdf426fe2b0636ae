-- Linking places: one place more keeps what every chain finds, and its node finds it. Assumes nothing.
use Prim.Native.Nat.{ℕ, zero, suc, ◌+◌, ◌-◌, ◌*◌, ◌<◌, ◌≤◌}
use mathlib.Core.List.Memᴰ
use mathlib.Core.List.{List, []}
use mathlib.Core.Logic.{◌⊎◌, inl, inr}
use mathlib.Core.Path.{◌≡◌, refl, sym, ap, subst, ◌∙◌}
use lib.ListN.{length, get_or, set, length-set, replicate, length-replicate}
use lib.Seq.{get_or-set_same, get_or-set_other}
use native.Mathlib.Decide.{ℕ_discrete, dec_lt}
use native.Mathlib.Omega.{arith}
use Rattle.lists.specs.Lists.{◌∈◌}
use Rattle.lists.proofs.Zeros.{zeros_at}
use Rattle.wire.specs.Bytes.{number}
use Rattle.wire.specs.Layout.{items, end}
use Rattle.wire.proofs.Layouts.{items_more}
use Rattle.wire.proofs.Parts.{end_add}
use Rattle.rules.specs.Graph.{Target}
use Rattle.graph.specs.Format.{graph_header, hyper_width, target_width}
use Rattle.graph.specs.Layouts.{target_layout, hyper_layout}
use Rattle.links.specs.declared.Place.{Place}
use Rattle.links.specs.Links.{nothing, place_at, Reached, here, further, Finds, RecordAt, hyper, cover, hyper_at, targets_at, cover_at, target_of, Long, Told, Linked, Index}

-- an item of a list in which one was set, at any place
set_at : {A : Type 0} (P : A → Type 0) (d : A) (l : List A) (u : ℕ) (k : A) (v : ℕ) → u < length l → (v ≡ u → P k) → (¬ (v ≡ u) → P (get_or l v d)) → P (get_or (set l u k) v d)
set_at P d l u k v h at-it beside = go (ℕ_discrete v u)
  where
    go : Dec (v ≡ u) → P (get_or (set l u k) v d)
    go (yes e) = rw (e, get_or-set_same l u k d h) (at-it e)
    go (no e) = rw (get_or-set_other l u v k d e) (beside e)

-- a list of so many places of nothing has no other
nothing_at : (most q : ℕ) → place_at (replicate most nothing) q ≡ nothing
nothing_at zero q = refl
nothing_at (suc most) zero = refl
nothing_at (suc most) (suc q) = nothing_at most q

-- lists in which nothing is linked, and lists in which a place is set, are long enough
pub long_nothing : (n most : ℕ) → n ≤ most → most ≤ 65535 → Long n most (replicate most 0) (replicate most nothing)
long_nothing n most l h =
    record { nodes = omega (arith, length-replicate {A = ℕ} most 0); many = length-replicate {A = Place} most nothing; short = h }

pub long_set : {n most : ℕ} {heads : List ℕ} {places : List Place} → Long n most heads places → (v a q : ℕ) (b : Place) → Long n most (set heads v a) (set places q b)
long_set {n} {most} {heads} {places} d v a q b =
    record { nodes = omega (arith, length-set heads v a, d.nodes); many = length-set places q b ∙ d.many; short = d.short }

-- lists are as long as they are
pub long_own : {n most : ℕ} {heads : List ℕ} {places : List Place} → Long n most heads places → Long n (length places) heads places
long_own d = record { nodes = d.nodes; many = refl; short = omega (arith, d.many, d.short) }

-- a chain stays below its head
pub reached_below : {places : List Place} {q head : ℕ} → ((p : ℕ) → (place_at places p).link ≤ p) → Reached places q head → q < head
reached_below falls (here e) = omega arith
reached_below falls (further place e r) = let l = reached_below falls r in omega (arith, falls place)

-- nothing is reached from 0, and from place k + 1 that place and what its link reaches
pub reached_none : {A : Type 0} {places : List Place} {q head : ℕ} → head ≡ 0 → Reached places q head → A
reached_none z (here e) = absurd (omega arith)
reached_none z (further place e r) = absurd (omega arith)

pub reached_cases : {places : List Place} {q head : ℕ} (place : ℕ) → head ≡ place + 1 → Reached places q head → (q ≡ place) ⊎ Reached places q (place_at places place).link
reached_cases place z (here e) = inl (omega arith)
reached_cases {places} {q} place z (further other e r) =
    let same : other ≡ place = omega arith in inr (subst (λ (p : ℕ). Reached places q (place_at places p).link) same r)

-- a place that is set behind a chain leaves it
reached_set : {places : List Place} {q head : ℕ} → ((p : ℕ) → (place_at places p).link ≤ p) → (place : ℕ) (w : Place) → head ≤ place → Reached places q head → Reached (set places place w) q head
reached_set falls place w l (here e) = here e
reached_set {places} {q} falls place w l (further other e r) =
    let apart : ¬ (other ≡ place) = λ z. omega arith in
    let rest = reached_set falls place w (omega (arith, falls other)) r in
    further other e (rw (get_or-set_other places place other w nothing apart) rest)

-- what a new place of node v tells: the node's head, where the record stands, and its source
abbrev pub Tells : (s heads : List ℕ) → (v at : ℕ) → Place → Type 0
Tells s heads v at w = (w.link ≡ get_or heads v 0) × (w.spot ≡ at) × (w.source ≡ number 2 s at)

-- one place more for node v: its link is the node's head, and it is the node's head
module _ {s : List ℕ} {n middle most h c many : ℕ} {rest : List Target} {heads : List ℕ} {places : List Place} (d : Linked s n middle most h rest c many heads places)
    (room : many < length places) (v : ℕ) (named : v < n) (at : ℕ) (w : Place) (tells : Tells s heads v at w) where
  new_head : get_or (set heads v (many + 1)) v 0 ≡ many + 1
  new_head = get_or-set_same heads v (many + 1) 0 (omega (arith, d.long.nodes))

  new_place : place_at (set places many w) many ≡ w
  new_place = get_or-set_same places many w nothing room

  -- what was found still is
  found_still : {u p : ℕ} → Finds heads places u p → Finds (set heads v (many + 1)) (set places many w) u p
  found_still {u} {p} f =
      let old : Reached (set places many w) f.place (get_or heads u 0) = reached_set d.falls many w (d.within u) f.reached in
      let below = reached_below d.falls f.reached in
      let apart : ¬ (f.place ≡ many) = λ z. omega (arith, d.within u) in
      record {
        place = f.place;
        reached = go (ℕ_discrete u v) old;
        stands = ap (λ (k : Place). k.spot) (get_or-set_other places many f.place w nothing apart) ∙ f.stands;
      }
    where
      go : Dec (u ≡ v) → Reached (set places many w) f.place (get_or heads u 0) → Reached (set places many w) f.place (get_or (set heads v (many + 1)) u 0)
      go (yes e) old =
          let is : get_or (set heads v (many + 1)) u 0 ≡ many + 1 = rw e new_head in
          let link : (place_at (set places many w) many).link ≡ get_or heads u 0 = rw (e, new_place) tells.0 in
          further many is (rw link old)
      go (no e) old = rw (get_or-set_other heads v u (many + 1) 0 e) old

  -- and so is the new one
  found_new : Finds (set heads v (many + 1)) (set places many w) v at
  found_new = record { place = many; reached = here new_head; stands = ap (λ (k : Place). k.spot) new_place ∙ tells.1 }

  within_more : (u : ℕ) → get_or (set heads v (many + 1)) u 0 ≤ many + 1
  within_more u = set_at (λ (k : ℕ). k ≤ many + 1) 0 heads v (many + 1) u (omega (arith, d.long.nodes)) (λ e. omega arith) (λ e. omega (arith, d.within u))

  falls_more : (q : ℕ) → (place_at (set places many w) q).link ≤ q
  falls_more q = set_at (λ (k : Place). k.link ≤ q) nothing places many w q room (λ e. omega (arith, tells.0, d.within v)) (λ e. d.falls q)

  records_more : {h' c' : ℕ} → h ≤ h' → c ≤ c' → RecordAt s n h' c' middle at → (q : ℕ) → q < many + 1 → RecordAt s n h' c' middle (place_at (set places many w) q).spot
  records_more {h'} {c'} hs cs new q l = set_at (λ (k : Place). RecordAt s n h' c' middle k.spot) nothing places many w q room (λ e. rw tells.1 new) (λ e. wider (d.records q (omega arith)))
    where
      wider : {p : ℕ} → RecordAt s n h c middle p → RecordAt s n h' c' middle p
      wider (hyper j l e) = hyper j (omega arith) e
      wider (cover j l e) = cover j (omega arith) e

  -- its record's source is told
  told_more : (q : ℕ) → q < many + 1 → Told s (set places many w) q
  told_more q l = set_at (λ (k : Place). k.source ≡ number 2 s k.spot) nothing places many w q room (λ e. rw tells.1 tells.2) (λ e. d.told q (omega arith))

-- nothing is linked
pub linked_none : (s : List ℕ) (n middle most : ℕ) → n ≤ most → most ≤ 65535 → Linked s n middle most 0 [] 0 0 (replicate most 0) (replicate most nothing)
linked_none s n middle most l h = record {
  long = long_nothing n most l h;
  within = λ v. omega (arith, zeros_at most v);
  falls = λ q. rw (nothing_at most q) (omega arith);
  records = λ q k. absurd (omega arith);
  told = λ q k. absurd (omega arith);
  hypers = λ j t k. absurd (omega arith);
  covers = λ j k. absurd (omega arith);
}

-- the targets of one hyperedge more are left to link
module _ {s : List ℕ} {n middle most j many : ℕ} {heads : List ℕ} {places : List Place} (d : Linked s n middle most j [] 0 many heads places) where
  pub linked_open : (ts : List Target) → targets_at s n j ≡ ts → Linked s n middle most (j + 1) ts 0 many heads places
  linked_open ts e = record {
    long = d.long;
    within = d.within;
    falls = d.falls;
    records = λ q l. wider (d.records q l);
    told = d.told;
    hypers = λ i t l m. go i t l m (dec_lt i j);
    covers = λ i l. absurd (omega arith);
  }
    where
      wider : {p : ℕ} → RecordAt s n j 0 middle p → RecordAt s n (j + 1) 0 middle p
      wider (hyper i l e) = hyper i (omega arith) e
      wider (cover i l e) = cover i l e

      go : (i : ℕ) (t : Target) → i < j + 1 → t ∈ targets_at s n i → Dec (i < j) → Finds heads places t.node (hyper_at s n i) ⊎ ((i + 1 ≡ j + 1) × (t ∈ ts))
      go i t l m (yes h) = old (d.hypers i t h m)
        where
          old : Finds heads places t.node (hyper_at s n i) ⊎ ((i + 1 ≡ j) × (t ∈ [])) → Finds heads places t.node (hyper_at s n i) ⊎ ((i + 1 ≡ j + 1) × (t ∈ ts))
          old (inl f) = inl f
          old (inr q) = absurd (Memᴰ.not-nil q.1)
      go i t l m (no h) = let same : i ≡ j = omega arith in inr (omega arith, rw (ap (targets_at s n) same ∙ e) at m)

-- none is left
module _ {s : List ℕ} {n middle most h many : ℕ} {heads : List ℕ} {places : List Place} (i q : ℕ) (d : Linked s n middle most h (items (target_layout s n) i q) 0 many heads places) where
  pub linked_end : i ≡ 0 → Linked s n middle most h [] 0 many heads places
  unfolding items
  linked_end e = subst (λ (k : ℕ). Linked s n middle most h (items (target_layout s n) k q) 0 many heads places) e d

  -- the next of them is linked
  pub linked_turn : (j : ℕ) → h ≡ j + 1 → 0 < i → many < length places → (v : ℕ) → v ≡ ((target_layout s n).item q).node → v < n → (at : ℕ) → at ≡ hyper_at s n j → (w : Place) → Tells s heads v at w
      → Linked s n middle most h (items (target_layout s n) (i - 1) (q + target_width)) 0 (many + 1) (set heads v (many + 1)) (set places many w)
  linked_turn j last some room v is named at there w tells = record {
    long = long_set d.long v (many + 1) many w;
    within = within_more d room v named at w tells;
    falls = falls_more d room v named at w tells;
    records = records_more d room v named at w tells (omega arith) (omega arith) (hyper j (omega arith) there);
    told = told_more d room v named at w tells;
    hypers = λ k t l m. go k t (d.hypers k t l m);
    covers = λ k l. absurd (omega arith);
  }
    where
      left : List Target
      left = items (target_layout s n) (i - 1) (q + target_width)

      go : (k : ℕ) (t : Target) → Finds heads places t.node (hyper_at s n k) ⊎ ((k + 1 ≡ h) × (t ∈ items (target_layout s n) i q))
          → Finds (set heads v (many + 1)) (set places many w) t.node (hyper_at s n k) ⊎ ((k + 1 ≡ h) × (t ∈ items (target_layout s n) (i - 1) (q + target_width)))
      go k t (inl f) = inl (found_still d room v named at w tells f)
      go k t (inr m) = new (Memᴰ.cases_cons (subst (λ (ts : List Target). t ∈ ts) (items_more (target_layout s n) i q some) m.1))
        where
          new : (t ≡ (target_layout s n).item q) ⊎ (t ∈ items (target_layout s n) (i - 1) (q + target_width))
              → Finds (set heads v (many + 1)) (set places many w) t.node (hyper_at s n k) ⊎ ((k + 1 ≡ h) × (t ∈ items (target_layout s n) (i - 1) (q + target_width)))
          new (inl e) =
              let same : k ≡ j = omega (arith, m.0) in
              let node : t.node ≡ v = ap (λ (u : Target). u.node) e ∙ sym is in
              let where_at : hyper_at s n k ≡ at = ap (hyper_at s n) same ∙ sym there in
              inl (rw (node, where_at) (found_new d room v named at w tells))
          new (inr l) = inr (m.0, l)

-- one cover edge more is linked
module _ {s : List ℕ} {n middle most h j many : ℕ} {heads : List ℕ} {places : List Place} (d : Linked s n middle most h [] j many heads places) where
  pub linked_cover : many < length places → (v : ℕ) → v ≡ target_of s n middle j → v < n → (at : ℕ) → at ≡ cover_at s n middle j → (w : Place) → Tells s heads v at w
      → Linked s n middle most h [] (j + 1) (many + 1) (set heads v (many + 1)) (set places many w)
  linked_cover room v is named at there w tells = record {
    long = long_set d.long v (many + 1) many w;
    within = within_more d room v named at w tells;
    falls = falls_more d room v named at w tells;
    records = records_more d room v named at w tells (omega arith) (omega arith) (cover j (omega arith) there);
    told = told_more d room v named at w tells;
    hypers = λ k t l m. old k t (d.hypers k t l m);
    covers = λ k l. go k (dec_lt k j) l;
  }
    where
      old : (k : ℕ) (t : Target) → Finds heads places t.node (hyper_at s n k) ⊎ ((k + 1 ≡ h) × (t ∈ []))
          → Finds (set heads v (many + 1)) (set places many w) t.node (hyper_at s n k) ⊎ ((k + 1 ≡ h) × (t ∈ []))
      old k t (inl f) = inl (found_still d room v named at w tells f)
      old k t (inr m) = inr m

      go : (k : ℕ) → Dec (k < j) → k < j + 1 → Finds (set heads v (many + 1)) (set places many w) (target_of s n middle k) (cover_at s n middle k)
      go k (yes l) _ = found_still d room v named at w tells (d.covers k l)
      go k (no l) below =
          let same : k ≡ j = omega arith in
          rw (same, sym is, sym there) (found_new d room v named at w tells)

  -- all are linked
  pub linked_all : many ≤ length places → Index s n h j middle most heads places
  linked_all few = record {
    long = d.long;
    within = λ v. omega (arith, d.within v);
    falls = d.falls;
    records = λ v q r. d.records q (omega (arith, reached_below d.falls r, d.within v));
    told = λ v q r. d.told q (omega (arith, reached_below d.falls r, d.within v));
    hypers = λ k t l m. go k t (d.hypers k t l m);
    covers = d.covers;
  }
    where
      go : (k : ℕ) (t : Target) → Finds heads places t.node (hyper_at s n k) ⊎ ((k + 1 ≡ h) × (t ∈ [])) → Finds heads places t.node (hyper_at s n k)
      go k t (inl f) = f
      go k t (inr q) = absurd (Memᴰ.not-nil q.1)

-- what is linked in lists of a length is linked in lists that are as long as they are
pub index_own : {s : List ℕ} {n h c middle most : ℕ} {heads : List ℕ} {places : List Place} → Index s n h c middle most heads places → Index s n h c middle (length places) heads places
index_own {s} {n} {h} {c} {middle} {heads = heads} {places} d = subst (λ (k : ℕ). Index s n h c middle k heads places) (sym d.long.many) d

-- each hyperedge takes its fixed bytes
module _ (s : List ℕ) (n : ℕ) where
  far : (k at : ℕ) → at + k * hyper_width ≤ end (hyper_layout s n) k at
  unfolding end
  far zero at = omega arith
  far (suc k) at = omega (arith, far k (at + hyper_width + number 2 s (at + 2) * target_width))

  pub hyper_far : (j h : ℕ) → j ≤ h → hyper_at s n j + (h - j) * hyper_width ≤ hyper_at s n h
  hyper_far j h l =
      let whole : j + (h - j) ≡ h = omega arith in
      let split = ap (λ (k : ℕ). end (hyper_layout s n) k graph_header) (sym whole) ∙ end_add (hyper_layout s n) j (h - j) graph_header in
      omega (arith, split, far (h - j) (hyper_at s n j))
