-- The hyperedges of helper nodes: the parts of one, state by state, and the loop over rows that lays them in. Assumes nothing.
use Prim.Native.Nat.{ℕ, suc, ◌+◌, ◌*◌, ◌-◌, ◌<◌, ◌≤◌}
use mathlib.Core.List.Memᴰ
use mathlib.Core.List.{List, [], ◌∷◌, ◌++◌, map}
use mathlib.Core.Bool.{false}
use mathlib.Core.Path.{◌≡◌, refl, ap, subst, ◌∙◌}
use native.Mathlib.Nat.{mul-le-mul_left, mul-suc}
use native.Mathlib.Numerals.{add-one}
use native.Mathlib.Omega.{arith}
use lib.ListN.{length, length-map}
use Rattle.lists.specs.Making.{keep, span}
use Rattle.lists.proofs.Kept.{keep_pass, keep_fail}
use Rattle.value.specs.declared.Bound.{Bound}
use Rattle.wire.specs.Bytes.{bytes}
use Rattle.wire.specs.Laid.{Laid}
use Rattle.wire.specs.Layout.{items}
use Rattle.wire.specs.Write.{write_all}
use Rattle.wire.proofs.Laid.{Left, all_left, none_left, left_fits, left_then}
use Rattle.wire.proofs.Layouts.{items_more, items_length}
use Rattle.rules.specs.Graph.{Target}
use Rattle.graph.specs.Write.{write_target, write_hyper}
use Rattle.model.specs.Format.{transition_at}
use Rattle.model.specs.Model.{Model, Transition}
use Rattle.syntax.specs.Format.{formula_header, row_width}
use Rattle.syntax.specs.declared.Quantifier.{Quantifier}
use Rattle.syntax.specs.declared.Quantifier.TheVariants.{Some, Every}
use Rattle.syntax.specs.declared.Row.{Row}
use Rattle.syntax.specs.declared.Row.TheVariants.{Until}
use Rattle.syntax.specs.Layouts.{row_at, row_layout}
use Rattle.reduction.specs.Built.{to, hyper, leaving, if_any, step_edges, helper_edges, is_until, untils, layout}
use Rattle.transitions.specs.declared.views.Out.{Out}
use Rattle.transitions.specs.Held.{transition_layout, transitions_from, held_rows, HoldsRows}
use Rattle.transitions.specs.Views.{list_of}
use Rattle.records.specs.Bytes.{single_width, hypers_bytes, some_steps, every_steps, helper_list, step_bytes, steps_bytes, helper_bytes, helpers_bytes, Narrow, HelpersFit}
use Rattle.transitions.proofs.Accepted.{out_many}
use Rattle.records.proofs.Edges.{single_length, hypers_more, hypers_one, first_fits}
use Rattle.build.specs.Puts.{helper_of}
use Rattle.build.proofs.Nodes.{helper_are}
use Rattle.wire.proofs.Written.{write_all_append, write_all_map, span_written}

-- ---- the helper of a state

-- where it fits, its first hyperedge does
pub right_fits : (v n a : ℕ) (q : Quantifier) (l r h : ℕ) (us : List Transition) (at : ℕ) {size : ℕ}
    → at + length (hypers_bytes v (helper_list n a q l r h us)) ≤ size → at + single_width ≤ size
right_fits v n a Some l r h us at f = first_fits v _ (some_steps us (a + n * l) (n * h)) at single_width (single_length v (to 0 (a + n * r))) f
right_fits v n a Every l r h us at f = first_fits v _ (if_any us ((to 0 (a + n * l) ∷ every_steps us (n * h)) ∷ [])) at single_width (single_length v (to 0 (a + n * r))) f

-- what an A until has for transitions, where there is one and where there is none
pub steps_some : {A : Type 0} (m : List ℕ) (n first many : ℕ) (x : List A) → 0 < many → if_any (transitions_from m n first many) x ≡ x
steps_some m n first many x some = rw (items_more (transition_layout m) many (transition_at n first) some)

pub steps_none : {A : Type 0} (m : List ℕ) (n first many : ℕ) (x : List A) → many ≡ 0 → if_any (transitions_from m n first many) x ≡ []
unfolding items
steps_none m n first many x none = rw none

-- the second of an A until: a head, the target of left, and one for each transition
pub every_parts : (v : ℕ) (ts : List Target) (left : Target) (steps : List Target)
    → hypers_bytes v (ts ∷ (left ∷ steps) ∷ [])
    ≡ write_hyper (hyper v ts) ++ ((bytes 2 v ++ bytes 2 (length (left ∷ steps))) ++ (write_target left ++ write_all write_target steps))
unfolding write_all
every_parts v ts left steps = hypers_more v ts ((left ∷ steps) ∷ []) ∙ ap (λ (s : List ℕ). write_hyper (hyper v ts) ++ s) (hypers_one v (left ∷ steps))

pub steps_count : (m : List ℕ) (n first many shift : ℕ) (left : Target) → length (left ∷ every_steps (transitions_from m n first many) shift) ≡ many + 1
steps_count m n first many shift left =
    let us = transitions_from m n first many in
    omega (arith, length-map us (λ u. to u.weight (u.to + shift)), items_length (transition_layout m) many (transition_at n first))

-- what is written for transitions is the hyperedges of an E until, or the targets of that of an A until
module _ {q : Quantifier} (v left shift : ℕ) (us : List Transition) where
  pub some_stepped : q ≡ Some → hypers_bytes v (some_steps us left shift) ≡ steps_bytes q v left shift us
  unfolding step_bytes
  some_stepped e = rw e (simp write_all_map)

  pub every_stepped : q ≡ Every → write_all write_target (every_steps us shift) ≡ steps_bytes q v left shift us
  unfolding step_bytes
  every_stepped e = rw e (simp write_all_map)

-- a state of a narrow model has not too many transitions
pub own_narrow : (M : Model) (a : ℕ) (o : Out) → list_of o ≡ leaving M a → a < M.states → Narrow M → o.many < 65535
own_narrow M a o are below narrow = rw (out_many M a o are) at (narrow a below)

-- ---- an until row's helpers, state by state

pub helper_spans : (M : Model) (h : ℕ) (q : Quantifier) (l r : ℕ) → helper_bytes M h q l r ≡ span (helper_of M h q l r) 0 M.states
unfolding helper_bytes
helper_spans M h q l r = span_written write_hyper (λ a. map (hyper (a + M.states * h)) ((to 0 (a + M.states * r) ∷ []) ∷ step_edges M q l h a)) 0 M.states

pub helper_is : (M : Model) (a h : ℕ) (q : Quantifier) (l r : ℕ) → helper_of M h q l r a ≡ hypers_bytes (a + M.states * h) (helper_list M.states a q l r h (leaving M a))
helper_is M a h q l r = ap (hypers_bytes (a + M.states * h)) (helper_are M a q l r h)

-- ---- a loop over the rows that lays in the helpers of those that are untils

-- an until row more
helpers_more : (M : Model) (h : ℕ) (q : Quantifier) (l r : ℕ) (limit : Bound) (us : List Row)
    → helpers_bytes M h (Until q l r limit ∷ us) ≡ helper_bytes M h q l r ++ helpers_bytes M (h + 1) us
unfolding helpers_bytes helper_bytes layout
helpers_more M h q l r limit us = rw add-one (write_all_append write_hyper _ (layout hyper M.states (helper_edges M) (suc h) us))

module _ {M : Model} {h : ℕ} {row : Row} {us : List Row} (f : HelpersFit M h (row ∷ us)) where
  fit_here : M.states * h + M.states ≤ 4096
  fit_here =
      let below : M.states * suc h ≤ M.states * (h + length (row ∷ us)) = mul-le-mul_left M.states (omega arith) in
      omega (arith, f.node, rw mul-suc at below)

  fit_next : HelpersFit M (h + 1) us
  fit_next =
      let same : h + length (row ∷ us) ≡ h + 1 + length us = omega arith in
      record {
        node = rw same at f.node;
        operands = λ m o. omega (arith, f.operands (Memᴰ.tail m) o);
        narrow = λ m. f.narrow (Memᴰ.tail m);
      }

-- i rows from p on can be read, and the helpers of the untils among them are left, from place h on
pub record RowsLeft (M : Model) (f b : List ℕ) (at : ℕ) (whole b' : List ℕ) (next p h i : ℕ) : Type 0 where
  pub readable : p + i * row_width ≤ length f
  pub few : h + i ≤ 128
  pub fit : HelpersFit M h (untils (items (row_layout f) i p))
  pub left : Left b at whole b' next (helpers_bytes M h (untils (items (row_layout f) i p)))

pub rows_all : {M : Model} {f : List ℕ} {k p : ℕ} → HoldsRows f k p → HelpersFit M k (untils (held_rows f k)) → (b : List ℕ) (at : ℕ)
    → at + length (helpers_bytes M k (untils (held_rows f k))) ≤ length b → RowsLeft M f b at (helpers_bytes M k (untils (held_rows f k))) b at formula_header k k
unfolding held_rows
rows_all r fit b at fits = record { readable = omega (arith, r.long); few = omega (arith, r.rows_fit); fit = fit; left = all_left b at _ fits }

module _ {M : Model} {f b : List ℕ} {at : ℕ} {whole b' : List ℕ} {next p h i : ℕ} (s : RowsLeft M f b at whole b' next p h i) where
  pub rows_none : i ≡ 0 → Laid b at whole b' next
  unfolding items keep helpers_bytes layout write_all
  rows_none e = none_left (rw e at s.left)

  module _ (some : 0 < i) where
    abbrev rest : List Row
    rest = untils (items (row_layout f) (i - 1) (p + row_width))

    -- the next row is an until
    module _ {q : Quantifier} {l r : ℕ} {limit : Bound} (row_is : row_at f p ≡ Until q l r limit) where
      these : untils (items (row_layout f) i p) ≡ Until q l r limit ∷ rest
      these =
          ap untils (items_more (row_layout f) i p some ∙ ap (λ (row : Row). row ∷ items (row_layout f) (i - 1) (p + row_width)) row_is)
          ∙ keep_pass is_until (Until q l r limit) (items (row_layout f) (i - 1) (p + row_width)) refl

      fit : HelpersFit M h (Until q l r limit ∷ rest)
      fit = subst (HelpersFit M h) these s.fit

      until_parts : helpers_bytes M h (untils (items (row_layout f) i p)) ≡ helper_bytes M h q l r ++ helpers_bytes M (h + 1) rest
      until_parts = ap (helpers_bytes M h) these ∙ helpers_more M h q l r limit rest

      -- what its helpers ask for, and they fit
      pub until_fit : (M.states * h + M.states ≤ 4096) × (l < h) × (r < h) × Narrow M
      until_fit = (
        fit_here fit,
        fit.operands (Memᴰ.head refl) (Memᴰ.head refl),
        fit.operands (Memᴰ.head refl) (Memᴰ.tail (Memᴰ.head refl)),
        fit.narrow (Memᴰ.head refl),
      )

      pub until_fits : next + length (helper_bytes M h q l r) ≤ length b'
      until_fits = left_fits s.left (helper_bytes M h q l r) _ until_parts

      -- once they are laid in, the others are left
      pub until_then : {b'' : List ℕ} {end : ℕ} → Laid b' next (helper_bytes M h q l r) b'' end → RowsLeft M f b at whole b'' end (p + row_width) (h + 1) (i - 1)
      until_then laid = record {
        readable = omega (arith, s.readable);
        few = omega (arith, s.few);
        fit = fit_next fit;
        left = left_then s.left (helper_bytes M h q l r) _ until_parts laid;
      }

    -- it is none
    pub other_then : is_until (row_at f p) ≡ false → RowsLeft M f b at whole b' next (p + row_width) h (i - 1)
    other_then e =
        let same = ap untils (items_more (row_layout f) i p some) ∙ keep_fail is_until (row_at f p) (items (row_layout f) (i - 1) (p + row_width)) e in
        record {
          readable = omega (arith, s.readable);
          few = omega (arith, s.few);
          fit = subst (HelpersFit M h) same s.fit;
          left = subst (λ (us : List Row). Left b at whole b' next (helpers_bytes M h us)) same s.left;
        }
