-- Taking records in, one after the other and some of them twice: the part of the graph that they make grows by each. Assumes nothing.
use Prim.Native.Nat.{ℕ, ◌+◌, ◌<◌, ◌≤◌, min}
use mathlib.Core.List.Memᴰ
use mathlib.Core.List.{List, [], ◌∷◌}
use mathlib.Core.Bool.{Bool, true, false, cond, ◌||◌, ◌&&◌}
use mathlib.Core.Logic.{◌⊎◌, inl, inr}
use mathlib.Core.Path.{◌≡◌, refl, sym, ap, ap₂, subst, ◌∙◌}
use lib.ListN.{length, get_or, set, take, length-set}
use lib.Dec.{eqb}
use lib.Seq.{get_or-set_same, get_or-set_other, set-get_or}
use borrow.Author.Tests.{eq-eqb, ne_eqb, lt-ltb, le-ltb}
use native.Mathlib.Decide.{ℕ_discrete}
use native.Mathlib.Omega.{arith}
use Rattle.lists.specs.Lists.{◌∈◌, any}
use Rattle.value.specs.Value.{Value, fin, inf, least}
use Rattle.value.specs.Stored.{stored, infinite}
use Rattle.value.proofs.Stored.{stored_le, stored_least}
use Rattle.wire.specs.Bytes.{number}
use Rattle.wire.specs.Layout.{items}
use Rattle.wire.proofs.Stride.{end_wide}
use Rattle.wire.proofs.Parts.{sound_at, items-∈}
use Rattle.rules.specs.Graph.{Graph, Hyper, Cover}
use Rattle.rules.specs.Rounds.{Assignment, cover_holds, worst, best, covered, round}
use Rattle.graph.specs.Format.{graph_header, target_count_at, hyper_width}
use Rattle.graph.specs.Layouts.{target_layout, hyper_layout, cover_layout, HyperOk, CoverOk, Scannable}
use Rattle.halves.specs.Held.{held}
use Rattle.halves.specs.Room.{half}
use Rattle.scans.specs.Scan.{lowered, forth, Going, Done}
use Rattle.scans.proofs.Going.{going_set}
use Rattle.links.specs.declared.Place.{Place}
use Rattle.links.specs.Links.{place_at, Reached, RecordAt, hyper, cover, hyper_at, cover_at}
use Rattle.changes.proofs.Listing.{Lowers, part_length, part_at}
use Rattle.chains.specs.Taken.{RecordOk, given_at, RecordIn, Has, Taken, Further, TakenAll}
use Rattle.links.proofs.Linking.{reached_cases, reached_none, hyper_far}

-- a part with one hyperedge more, and with one cover edge more
abbrev with_hyper : Graph → Hyper → Graph
with_hyper p x = record { nodes = p.nodes; hypers = x ∷ p.hypers; covers = p.covers }

abbrev with_cover : Graph → Cover → Graph
with_cover p x = record { nodes = p.nodes; hypers = p.hypers; covers = x ∷ p.covers }

-- what a record gives, by its kind
given_hyper : (s : List ℕ) (n middle at : ℕ) (x : List ℕ) → at < middle → given_at s n middle at x ≡ stored (worst (held x) ((hyper_layout s n).item at).targets)
unfolding given_at
given_hyper s n middle at x l = rw (lt-ltb at middle l) refl

pub given_worst : (s : List ℕ) (n middle at : ℕ) (x : List ℕ) {k v : ℕ} → at < middle → k ≡ number 2 s (at + target_count_at)
    → v ≡ stored (worst (held x) (items (target_layout s n) k (at + hyper_width))) → v ≡ given_at s n middle at x
given_worst s n middle at x l count e = (rw count at e) ∙ sym (given_hyper s n middle at x l)

pub given_cover : (s : List ℕ) (n middle at : ℕ) (x : List ℕ) → middle ≤ at → given_at s n middle at x ≡ cond (cover_holds (held x) ((cover_layout s n).item at)) 0 infinite
unfolding given_at
given_cover s n middle at x l = rw (le-ltb at middle l) refl

-- a node's next number, lowered to k where the node is the source
abbrev lower : (source k : ℕ) → (v a : ℕ) → ℕ
lower source k v a = cond (eqb source v) (min a k) a

-- what a record gives makes the round of a part without it that of the part with it
module _ (p : Graph) (y : Assignment) where
  hyper_gives : (x : Hyper) (v a : ℕ) → lower x.source (stored (worst y x.targets)) v (min a (stored (round p y v))) ≡ min a (stored (round (with_hyper p x) y v))
  unfolding round best stored
  hyper_gives x v a = go (eqb x.source v) (covered y v p.covers)
    where
      w : Value
      w = worst y x.targets

      b : Value
      b = best y v p.hypers

      go : (here t : Bool) → cond here (min (min a (stored (cond t (fin 0) b))) (stored w)) (min a (stored (cond t (fin 0) b))) ≡ min a (stored (cond t (fin 0) (least (cond here w inf) b)))
      go true true = omega arith
      go true false = omega (arith, stored_least w b)
      go false t = refl

  cover_gives : (x : Cover) (v a : ℕ) → lower x.source (cond (cover_holds y x) 0 infinite) v (min a (stored (round p y v))) ≡ min a (stored (round (with_cover p x) y v))
  unfolding round covered any stored
  cover_gives x v a = go (eqb x.source v) (cover_holds y x)
    where
      b : Bool → Value
      b t = cond (t || covered y v p.covers) (fin 0) (best y v p.hypers)

      go : (here holds : Bool) → cond here (min (min a (stored (b false))) (cond holds 0 infinite)) (min a (stored (b false))) ≡ min a (stored (b (here && holds)))
      go true true = omega arith
      go true false = omega (arith, stored_le (b false))
      go false holds = refl

module _ {s : List ℕ} {n h c middle : ℕ} {b₀ b : List ℕ} {p : Graph} (d : Taken s n h c middle b₀ b p) (long : n + n ≤ length b₀) where
  -- the room, a record more taken in
  room_more : (at : ℕ) → number 2 s at < n → (k : ℕ) (q : Graph)
      → ((v a : ℕ) → lower (number 2 s at) k v (min a (stored (round p (held (half n 0 b₀)) v))) ≡ min a (stored (round q (held (half n 0 b₀)) v)))
      → Done n 0 n b₀ (lowered s n at k b) (λ v. min (get_or b₀ (n + v) 0) (stored (round q (held (half n 0 b₀)) v)))
  room_more at named k q gives =
      let j = number 2 s at in
      let before : Going n 0 n b₀ b (lower j k) (λ v. min (get_or b₀ (n + v) 0) (stored (round q (held (half n 0 b₀)) v))) = record {
        same_length = d.room.same_length;
        this = d.room.this;
        past = d.room.past;
        each = λ v l. ap (lower j k v) (d.room.each v l) ∙ gives v (get_or b₀ (n + v) 0);
      } in
      going_set before (forth refl refl) long j (min (get_or b (n + j) 0) k) named (rw (eq-eqb j j refl) refl) (λ v a ne. rw (ne_eqb j v (λ e. ne (sym e))) refl)

  -- a hyperedge more
  taken_hyper : (at : ℕ) → at < middle → HyperOk s n at → (hyper_layout s n).item at ∈ items (hyper_layout s n) h graph_header → {b' : List ℕ} → RecordIn s n middle at b b'
      → Taken s n h c middle b₀ b' (with_hyper p ((hyper_layout s n).item at))
  taken_hyper at before ok member {b'} is = record {
    nodes = d.nodes;
    room = rw (is, given_hyper s n middle at (half n 0 b) before, d.room.this) (room_more at ok.named _ _ (hyper_gives p (held (half n 0 b₀)) ((hyper_layout s n).item at)));
    hyper_of = λ m. of_hyper (Memᴰ.cases_cons m);
    cover_of = d.cover_of;
  }
    where
      of_hyper : {x : Hyper} → (x ≡ (hyper_layout s n).item at) ⊎ (x ∈ p.hypers) → x ∈ items (hyper_layout s n) h graph_header
      of_hyper (inl e) = subst (λ (y : Hyper). y ∈ items (hyper_layout s n) h graph_header) (sym e) member
      of_hyper (inr m) = d.hyper_of m

  -- a cover edge more
  taken_cover : (at : ℕ) → middle ≤ at → CoverOk s n at → (cover_layout s n).item at ∈ items (cover_layout s n) c middle → {b' : List ℕ} → RecordIn s n middle at b b'
      → Taken s n h c middle b₀ b' (with_cover p ((cover_layout s n).item at))
  taken_cover at behind ok member {b'} is = record {
    nodes = d.nodes;
    room = rw (is, given_cover s n middle at (half n 0 b) behind, d.room.this) (room_more at ok.named _ _ (cover_gives p (held (half n 0 b₀)) ((cover_layout s n).item at)));
    hyper_of = d.hyper_of;
    cover_of = λ m. of_cover (Memᴰ.cases_cons m);
  }
    where
      of_cover : {x : Cover} → (x ≡ (cover_layout s n).item at) ⊎ (x ∈ p.covers) → x ∈ items (cover_layout s n) c middle
      of_cover (inl e) = subst (λ (y : Cover). y ∈ items (cover_layout s n) c middle) (sym e) member
      of_cover (inr m) = d.cover_of m

-- where a record of a sound graph stands, and that it is sound
module _ {s : List ℕ} {n h c middle at : ℕ} (sound : Scannable s n h c) (behind : middle ≡ hyper_at s n h) where
  hyper_before : (j : ℕ) → j < h → at ≡ hyper_at s n j → at < middle
  hyper_before j l e = omega (arith, hyper_far s n j h (omega arith))

  cover_behind : (j : ℕ) → at ≡ cover_at s n middle j → middle ≤ at
  cover_behind j e = omega (arith, end_wide (cover_layout s n) 8 (λ p. refl) j middle)

  hyper_ok : (j : ℕ) → j < h → at ≡ hyper_at s n j → HyperOk s n at
  hyper_ok j l e = rw e (sound_at (hyper_layout s n) j l sound.hypers)

  cover_ok : (j : ℕ) → j < c → at ≡ cover_at s n middle j → CoverOk s n at
  cover_ok j l e = rw (e, behind) (sound_at (cover_layout s n) j l sound.covers)

  pub record_ok : RecordAt s n h c middle at → RecordOk s n middle at
  record_ok (hyper j l e) = record { hyper = λ k. hyper_ok j l e; cover = λ k. absurd (omega (arith, hyper_before j l e)) }
  record_ok (cover j l e) = record { hyper = λ k. absurd (omega (arith, cover_behind j e)); cover = λ k. cover_ok j l e }

  -- its source is a node
  pub record_source : RecordAt s n h c middle at → number 2 s at < n
  record_source (hyper j l e) = (hyper_ok j l e).named
  record_source (cover j l e) = (cover_ok j l e).named

-- the records of a chain: those up to a place are taken in
pub record Walking (s : List ℕ) (n h c middle : ℕ) (places : List Place) (head place : ℕ) (b₀ b : List ℕ) (p : Graph) : Type 0 where
  pub part : Graph
  pub taken : Taken s n h c middle b₀ b part
  pub keeps : (at : ℕ) → Has s n middle p at → Has s n middle part at
  pub has : (q : ℕ) → Reached places q head → Has s n middle part (place_at places q).spot ⊎ Reached places q place

pub walking_none : {s : List ℕ} {n h c middle : ℕ} {places : List Place} {head : ℕ} {b₀ b : List ℕ} {p : Graph}
    → Taken s n h c middle b₀ b p → Walking s n h c middle places head head b₀ b p
walking_none {p = p} d = record { part = p; taken = d; keeps = λ at m. m; has = λ q r. inr r }

module _ {s : List ℕ} {n h c middle : ℕ} {places : List Place} {head place : ℕ} {b₀ b : List ℕ} {p : Graph} (d : Walking s n h c middle places head place b₀ b p) where
  -- all are
  pub walking_all : place ≡ 0 → Further s n h c middle places head b₀ b p
  walking_all e = record { part = d.part; taken = d.taken; keeps = d.keeps; has = λ q r. go (d.has q r) }
    where
      go : {q : ℕ} → Has s n middle d.part (place_at places q).spot ⊎ Reached places q place → Has s n middle d.part (place_at places q).spot
      go (inl m) = m
      go (inr r) = reached_none e r

  -- with a part that has one record more
  walking_with : (i : ℕ) → place ≡ i + 1 → {at : ℕ} → at ≡ (place_at places i).spot → {b' : List ℕ} {part : Graph} → Taken s n h c middle b₀ b' part
      → ((k : ℕ) → Has s n middle d.part k → Has s n middle part k) → Has s n middle part at → Walking s n h c middle places head (place_at places i).link b₀ b' p
  walking_with i e there {part = part} taken more new = record { part = part; taken = taken; keeps = λ k m. more k (d.keeps k m); has = λ q r. go q (d.has q r) }
    where
      go : (q : ℕ) → Has s n middle d.part (place_at places q).spot ⊎ Reached places q place → Has s n middle part (place_at places q).spot ⊎ Reached places q (place_at places i).link
      go q (inl m) = inl (more (place_at places q).spot m)
      go q (inr r) = rest (reached_cases i e r)
        where
          rest : (q ≡ i) ⊎ Reached places q (place_at places i).link → Has s n middle part (place_at places q).spot ⊎ Reached places q (place_at places i).link
          rest (inl z) = inl (rw (z, sym there) new)
          rest (inr r') = inr r'

  -- the record of the next place
  pub walking_more : Scannable s n h c → middle ≡ hyper_at s n h → n + n ≤ length b₀ → (i : ℕ) → place ≡ i + 1 → {at : ℕ} → at ≡ (place_at places i).spot → RecordAt s n h c middle at
      → {b' : List ℕ} → RecordIn s n middle at b b' → Walking s n h c middle places head (place_at places i).link b₀ b' p
  walking_more sound behind long i e {at} there (hyper j l z) {b'} took =
      let before = hyper_before sound behind j l z in
      let member : (hyper_layout s n).item at ∈ items (hyper_layout s n) h graph_header = rw z (items-∈ (hyper_layout s n) h graph_header j l) in
      walking_with i e there (taken_hyper d.taken long at before (hyper_ok sound behind j l z) member took)
      (λ k m. record { hyper = λ q. Memᴰ.tail (m.hyper q); cover = m.cover })
      (record { hyper = λ q. Memᴰ.head refl; cover = λ q. absurd (omega arith) })
  walking_more sound behind long i e {at} there (cover j l z) {b'} took =
      let after = cover_behind sound behind j z in
      let member : (cover_layout s n).item at ∈ items (cover_layout s n) c middle = rw z (items-∈ (cover_layout s n) c middle j l) in
      walking_with i e there (taken_cover d.taken long at after (cover_ok sound behind j l z) member took)
      (λ k m. record { hyper = m.hyper; cover = λ q. Memᴰ.tail (m.cover q) })
      (record { hyper = λ q. absurd (omega arith); cover = λ q. Memᴰ.head refl })

-- the chains of the first i nodes that are listed: none, and one more
module _ {s : List ℕ} {n h c middle : ℕ} {nodes heads : List ℕ} {places : List Place} {b₀ : List ℕ} where
  pub taken_none : ((v : ℕ) → get_or b₀ v 0 ≤ infinite) → TakenAll s n h c middle 0 nodes heads places b₀ b₀
  unfolding round covered best any stored
  taken_none fits = record {
    part = record { nodes = n; hypers = []; covers = [] };
    taken = record {
      nodes = refl;
      room = record { same_length = refl; this = refl; past = refl; each = λ v l. omega (arith, fits (n + v)) };
      hyper_of = λ m. absurd (Memᴰ.not-nil m);
      cover_of = λ m. absurd (Memᴰ.not-nil m);
    };
    has = λ k l. absurd (omega arith);
  }

  pub taken_more : {i : ℕ} {b b' : List ℕ} (d : TakenAll s n h c middle i nodes heads places b₀ b)
      → Further s n h c middle places (get_or heads (get_or nodes i 0) 0) b₀ b' d.part → TakenAll s n h c middle (i + 1) nodes heads places b₀ b'
  taken_more {i} d f = record { part = f.part; taken = f.taken; has = λ k l q r. go k l q r (ℕ_discrete k i) }
    where
      go : (k : ℕ) → k < i + 1 → (q : ℕ) → Reached places q (get_or heads (get_or nodes k 0) 0) → Dec (k ≡ i) → Has s n middle f.part (place_at places q).spot
      go k l q r (yes e) = f.has q (rw e at r)
      go k l q r (no e) = f.keeps _ (d.has k (omega arith) q r)

-- those of a list's front, and so those of so many in the list
pub taken_front : {s : List ℕ} {n h c middle many : ℕ} {nodes part heads : List ℕ} {places : List Place} {b₀ b : List ℕ} → part ≡ take many nodes → many ≤ length nodes
    → TakenAll s n h c middle (length part) part heads places b₀ b → TakenAll s n h c middle many nodes heads places b₀ b
taken_front {s = s} {many = many} {nodes = nodes} {part = part} {heads = heads} {places = places} is few d = record {
  part = d.part;
  taken = d.taken;
  has = λ k l q r. d.has k (omega (arith, part_length many nodes part is few)) q (subst (λ (v : ℕ). Reached places q (get_or heads v 0)) (sym (part_at many nodes part is k l)) r);
}

-- a record gives its source k: the room stays where the source has no more, and else the source gets it
module _ (s : List ℕ) (n middle at source k : ℕ) (b : List ℕ) (is : source ≡ number 2 s at) (gives : k ≡ given_at s n middle at (half n 0 b)) where
  lowered_is : lowered s n at (given_at s n middle at (half n 0 b)) b ≡ set b (n + source) (min (get_or b (n + source) 0) k)
  lowered_is = sym (ap₂ (λ (j g : ℕ). set b (n + j) (min (get_or b (n + j) 0) g)) is gives)

  pub record_stays : get_or b (n + source) 0 ≤ k → RecordIn s n middle at b b
  record_stays l = sym (lowered_is ∙ ap (set b (n + source)) (omega arith) ∙ set-get_or b (n + source) 0)

  pub record_falls : k ≤ get_or b (n + source) 0 → RecordIn s n middle at b (set b (n + source) k)
  record_falls l = sym (lowered_is ∙ ap (set b (n + source)) (omega arith))

-- so the source's next number falls and changes, and no other does
pub source_falls : (n source k : ℕ) (b : List ℕ) → n + n ≤ length b → source < n → k < get_or b (n + source) 0
    → Lowers n source b (set b (n + source) k) × ¬ (get_or (set b (n + source) k) (n + source) 0 ≡ get_or b (n + source) 0)
source_falls n source k b long named less =
    let new = get_or-set_same b (n + source) k 0 (omega arith) in (
      record {
        same_length = length-set b (n + source) k;
        this = λ v l. let apart : ¬ (v ≡ n + source) = λ q. omega arith in get_or-set_other b (n + source) v k 0 apart;
        others = λ v l ne. let apart : ¬ (n + v ≡ n + source) = λ q. ne (omega arith) in get_or-set_other b (n + source) (n + v) k 0 apart;
        falls = omega arith;
      },
      λ q. omega arith,
    )
