-- Edges laid into the room one after another, and the loops over transitions that do so. Assumes nothing.
use Prim.Native.Nat.{ℕ, ◌+◌, ◌*◌, ◌-◌, ◌<◌, ◌≤◌}
use mathlib.Core.List.Memᴰ
use mathlib.Core.List.{List, [], ◌∷◌, ◌++◌, append-nil, append_assoc}
use mathlib.Core.Path.{◌≡◌, refl, sym, ap, ap₂, subst, ◌∙◌}
use native.Mathlib.Omega.{arith}
use lib.ListN.{length, take, drop, length-append, length-map}
use lib.Seq.{length-take-le, take-append-le, take-take, drop_at}
use Rattle.lists.specs.Lists.{◌∈◌}
use Rattle.lists.specs.Making.{keep}
use Rattle.value.specs.declared.Bound.{Bound}
use Rattle.wire.specs.Bytes.{bytes, number}
use Rattle.wire.specs.Laid.{laid, Laid}
use Rattle.wire.specs.Layout.{items}
use Rattle.wire.specs.Write.{write_all}
use Rattle.wire.proofs.Bytes.{length_bytes}
use Rattle.wire.proofs.Laid.{Left, all_left, none_left, left_fits, left_then, nothing, ◌then◌, said}
use Rattle.wire.proofs.Layouts.{items_more}
use Rattle.rules.specs.Graph.{Target}
use Rattle.graph.proofs.Exact.{hyper_length}
use Rattle.graph.specs.Format.{hyper_width}
use Rattle.graph.specs.Write.{write_target, write_hyper}
use Rattle.model.specs.Format.{weight_at, action_at, to_at, transition_width, transition_at}
use Rattle.model.specs.Model.{Transition}
use Rattle.syntax.specs.declared.Action.{Action}
use Rattle.reduction.specs.Built.{to, hyper, looks_at}
use Rattle.transitions.specs.Held.{transition_layout, transitions_from, Reads, LeadTo}
use Rattle.records.specs.Bytes.{single_width, pair_width, hypers_bytes, every_next}

-- ---- lists of records

module _ {A : Type 0} (w : A → List ℕ) {b : List ℕ} {at : ℕ} {b' : List ℕ} {next : ℕ} (a : A) (h : Laid b at (w a) b' next) where
  pub single_laid : Laid b at (write_all w (a ∷ [])) b' next
  unfolding write_all
  single_laid = said h (append-nil (w a)) refl refl

  pub more_laid : (l : List A) {b'' : List ℕ} {end : ℕ} → Laid b' next (write_all w l) b'' end → Laid b at (write_all w (a ∷ l)) b'' end
  unfolding write_all
  more_laid l m = h then m

-- ---- the parts of a hyperedge

pub head_length : (v k : ℕ) → length (bytes 2 v ++ bytes 2 k) ≡ hyper_width
head_length v k = simp (length-append, length_bytes)

pub single_length : (v : ℕ) (t : Target) → length (write_hyper (hyper v (t ∷ []))) ≡ single_width
single_length v t = hyper_length (hyper v (t ∷ []))

pub pair_length : (v : ℕ) (t t' : Target) → length (write_hyper (hyper v (t ∷ t' ∷ []))) ≡ pair_width
pair_length v t t' = hyper_length (hyper v (t ∷ t' ∷ []))

-- a hyperedge is its head, and behind it its targets
pub hyper_laid : {b : List ℕ} {at : ℕ} {b' : List ℕ} {next : ℕ} {b'' : List ℕ} {end : ℕ} (v : ℕ) (ts : List Target)
    → Laid b at (bytes 2 v ++ bytes 2 (length ts)) b' next → Laid b' next (write_all write_target ts) b'' end
    → Laid b at (write_hyper (hyper v ts)) b'' end
unfolding write_hyper
hyper_laid v ts h m = h then m

-- or what stands in front is laid in last, once the rest stands: so is a head before its targets
laid_before : (b : List ℕ) (at : ℕ) (s t : List ℕ) → at + length s + length t ≤ length b → laid (laid b (at + length s) t) at s ≡ laid b at (s ++ t)
unfolding laid
laid_before b at s t h =
    let k : ℕ = at + length s in
    let front : List ℕ = take k b in
    let rest : List ℕ = drop (k + length t) b in
    let long : length front ≡ k = length-take-le k b (omega arith) in
    let kept : take at (front ++ t ++ rest) ≡ take at b =
    take-append-le at (front ++ t) rest (omega (arith, length-append front t, long)) ∙ take-append-le at front t (omega (arith, long)) ∙ take-take at k b (omega arith) in
    let beyond : drop k (front ++ t ++ rest) ≡ t ++ rest = ap (drop k) (append_assoc front t rest) ∙ drop_at front (t ++ rest) k long in
    let total : k + length t ≡ at + length (s ++ t) = omega (arith, length-append s t) in
    ap₂ (λ (x y : List ℕ). x ++ s ++ y) kept beyond ∙ sym (append_assoc (take at b ++ s) t rest)
    ∙ ap₂ (λ (x : List ℕ) (n : ℕ). x ++ drop n b) (append_assoc (take at b) s t) total

pub front_laid : {b : List ℕ} {at : ℕ} {t b' : List ℕ} {next : ℕ} {s b'' : List ℕ} {end : ℕ} (k : ℕ)
    → length s ≡ k → Laid b (at + k) t b' next → Laid b' at s b'' end → Laid b at (s ++ t) b'' next
front_laid {b} {at} {t} {s = s} k long l m =
    let there : at + k ≡ at + length s = omega (arith, long) in
    let fits : at + length s + length t ≤ length b = omega (arith, there, l.inside) in
    record {
      inside = omega (arith, fits, length-append s t);
      room_is = m.room_is ∙ ap (λ (c : List ℕ). laid c at s) (l.room_is ∙ ap (λ (n : ℕ). laid b n t) there) ∙ laid_before b at s t fits;
      next_is = omega (arith, there, l.next_is, length-append s t);
    }

pub head_laid : {b : List ℕ} {at : ℕ} {b' : List ℕ} {next : ℕ} {b'' : List ℕ} {end : ℕ} (v : ℕ) (ts : List Target)
    → Laid b (at + hyper_width) (write_all write_target ts) b' next → Laid b' at (bytes 2 v ++ bytes 2 (length ts)) b'' end
    → Laid b at (write_hyper (hyper v ts)) b'' next
unfolding write_hyper
head_laid v ts l m = front_laid hyper_width (head_length v (length ts)) l m

-- ---- a loop over transitions that lays in what one makes of each

module _ (m : List ℕ) (n : ℕ) (one : Transition → List ℕ) where
  -- the i transitions from p on can be read, they lead to states, and their bytes are left
  pub record Filling (b : List ℕ) (at : ℕ) (whole b' : List ℕ) (next p i : ℕ) : Type 0 where
    pub readable : p + i * transition_width ≤ length m
    pub named : {u : Transition} → u ∈ items (transition_layout m) i p → u.to < n
    pub left : Left b at whole b' next (write_all one (items (transition_layout m) i p))

  pub filling_all : {first many : ℕ} → Reads m n first many → LeadTo n (transitions_from m n first many) → (b : List ℕ) (at p : ℕ) {whole : List ℕ} → whole ≡ write_all one (transitions_from m n first many)
      → at + length whole ≤ length b → p ≡ transition_at n first → Filling b at whole b at p many
  filling_all {first} {many} r named b at p {whole} e fits is = rw is record {
    readable = omega (arith, r.long);
    named = λ {u} i. named u i;
    left = subst (Left b at whole b at) e (all_left b at whole fits);
  }

  module _ {b : List ℕ} {at : ℕ} {whole b' : List ℕ} {next p i : ℕ} (f : Filling b at whole b' next p i) where
    pub filling_none : i ≡ 0 → Laid b at whole b' next
    unfolding items write_all
    filling_none e = none_left (rw e at f.left)

    module _ (h : 0 < i) where
      here : items (transition_layout m) i p ≡ (transition_layout m).item p ∷ items (transition_layout m) (i - 1) (p + transition_width)
      here = items_more (transition_layout m) i p h

      -- the next one can be read
      pub next_readable : p + transition_width ≤ length m
      next_readable = omega (arith, f.readable)

      -- and leads to a state
      pub next_named : {v : ℕ} → v ≡ number 2 m (p + to_at) → v < n
      next_named e = rw e (f.named {u = (transition_layout m).item p} (rw here (Memᴰ.head refl)))

      -- with its weight and the state that it leads to as they were read
      module _ {w v : ℕ} (weight_is : w ≡ number 4 m (p + weight_at)) (to_is : v ≡ number 2 m (p + to_at)) where
        abbrev made : List ℕ
        made = one (record { from = number 2 m p; weight = w; action = number 2 m (p + action_at); to = v })

        parts : write_all one (items (transition_layout m) i p) ≡ made ++ write_all one (items (transition_layout m) (i - 1) (p + transition_width))
        unfolding write_all
        parts = rw (weight_is, to_is) (ap (write_all one) here)

        -- what one makes of it fits
        pub next_fits : next + length made ≤ length b'
        next_fits = left_fits f.left made _ parts

        -- and once that is laid in, the others are left
        pub next_filled : {b'' : List ℕ} {end : ℕ} → Laid b' next made b'' end → Filling b at whole b'' end (p + transition_width) (i - 1)
        next_filled l = record {
          readable = omega (arith, f.readable);
          named = λ {u} e. f.named {u = u} (rw here (Memᴰ.tail e));
          left = left_then f.left made _ parts l;
        }

-- ---- the hyperedges of a node, part by part

pub hypers_more : (v : ℕ) (ts : List Target) (tss : List (List Target)) → hypers_bytes v (ts ∷ tss) ≡ write_hyper (hyper v ts) ++ hypers_bytes v tss
unfolding write_all
hypers_more v ts tss = refl

pub hypers_one : (v : ℕ) (ts : List Target) → hypers_bytes v (ts ∷ []) ≡ (bytes 2 v ++ bytes 2 (length ts)) ++ write_all write_target ts
unfolding write_all write_hyper
hypers_one v ts = append-nil _

-- where all fit, the first does
pub first_fits : (v : ℕ) (ts : List Target) (tss : List (List Target)) (at : ℕ) {size : ℕ} (k : ℕ) → length (write_hyper (hyper v ts)) ≡ k
    → at + length (hypers_bytes v (ts ∷ tss)) ≤ size → at + k ≤ size
first_fits v ts tss at k e h = omega (arith, ap length (hypers_more v ts tss), length-append (write_hyper (hyper v ts)) (hypers_bytes v tss))

-- a hyperedge without targets is its head
bare_is : (v : ℕ) → hypers_bytes v ([] ∷ []) ≡ bytes 2 v ++ bytes 2 0
unfolding write_all
bare_is v = hypers_one v [] ∙ append-nil _

pub bare_fits : (v at : ℕ) {size : ℕ} → at + length (hypers_bytes v ([] ∷ [])) ≤ size → at + hyper_width ≤ size
bare_fits v at h = omega (arith, ap length (bare_is v), head_length v 0)

pub bare_laid : (v : ℕ) {b : List ℕ} {at : ℕ} {b' : List ℕ} {next : ℕ} → Laid b at (bytes 2 v ++ bytes 2 0) b' next → Laid b at (hypers_bytes v ([] ∷ [])) b' next
bare_laid v l = said l (bare_is v) refl refl

pub none_laid : (v : ℕ) (b : List ℕ) (at : ℕ) → at + length (hypers_bytes v []) ≤ length b → Laid b at (hypers_bytes v []) b at
unfolding write_all
none_laid v b at h = nothing b at (omega arith)

-- an AX has a target for each transition that it looks at
pub every_count : (us : List Transition) (A : Action) (b : Bound) (shift : ℕ) → length (every_next us A b shift) ≡ length (keep (looks_at A b) us)
every_count us A b shift = length-map (keep (looks_at A b) us) (λ u. to 0 (u.to + shift))
