-- The list of a state's transitions has what leads from the state, and nothing else; so do those that EX or AX looks at. What stands where
-- a list has an element. Assumes nothing.
use Prim.Native.Nat.{ℕ}
use borrow.Author.Tests.{eq-eqb, eqb-true}
use lib.Dec.{eqb}
use mathlib.Core.Path.{◌≡◌, refl, sym, subst}
use mathlib.Core.Bool.{Bool, true}
use mathlib.Core.List.Memᴰ
use mathlib.Core.List.{List, [], ◌∷◌}
use Rattle.lists.specs.Lists.{◌∈◌}
use Rattle.lists.specs.Making.{keep}
use Rattle.lists.proofs.Making.{∈-keep, keep-∈}
use Rattle.lists.proofs.Places.{first}
use Rattle.lists.proofs.Tests.{and_left, and_right}
use Rattle.value.specs.declared.Bound.{Bound}
use Rattle.value.specs.Value.{inside}
use Rattle.rules.specs.Graph.{Target}
use Rattle.model.specs.Model.{Model, Transition}
use Rattle.syntax.specs.declared.Action.{Action}
use Rattle.syntax.specs.Rows.{allows}
use Rattle.runs.specs.Systems.{Leads, Step, system_of}
use Rattle.reduction.specs.Built.{to, end_of, leaving, out, looks_at, near, if_any}

module _ {A B : Type 0} where
  pub any-∈ : {l : List A} {t : A} {x : B} {xs : List B} → t ∈ l → x ∈ xs → x ∈ if_any l xs
  any-∈ {l = []} m n = elim m [ ]
  any-∈ {l = a ∷ l} m n = n

  pub ∈-any : (l : List A) {x : B} {xs : List B} → x ∈ if_any l xs → (t : A) × (t ∈ l) × (x ∈ xs)
  ∈-any [] n = elim n [ ]
  ∈-any (a ∷ l) n = (a, first, n)

module _ (M : Model) (a : ℕ) where
  abbrev from_here : Transition → Bool
  from_here t = eqb t.from a

  -- a step of a is a transition that leaves it
  step_leaves : {w k c : ℕ} → Step M a w k c → record { from = a; weight = w; action = k; to = c } ∈ leaving M a
  step_leaves m = keep-∈ from_here m (eq-eqb a a refl)

  leaves_step : {u : Transition} → u ∈ leaving M a → Step M a u.weight u.action u.to
  leaves_step {u} m =
      let h = ∈-keep from_here M.transitions m in
      Memᴰ.cast (λ i. record { from = sym (eqb-true u.from a h.1) i; weight = u.weight; action = u.action; to = u.to }) h.0

  pub leads_out : {w c : ℕ} → Leads (system_of M) a w c → to w c ∈ out M a
  unfolding out
  leads_out (k, m) = Memᴰ.map end_of (step_leaves m)

  pub out_leads : {t : Target} → t ∈ out M a → Leads (system_of M) a t.weight t.node
  unfolding out
  out_leads m =
      let (u, k, e) = Memᴰ.of_map end_of (leaving M a) m in
      (u.action, subst (λ (t : Target). Step M a t.weight u.action t.node) e (leaves_step k))

  module _ (A : Action) (b : Bound) where
    pub step_near : {w k c : ℕ} → Step M a w k c → allows A k ≡ true → inside b w ≡ true → to w c ∈ near M A b a
    unfolding near
    step_near m t e = Memᴰ.map end_of (keep-∈ (looks_at A b) (step_leaves m) (rw t e))

    -- a step that EX or AX looks at
    pub record Looked (t : Target) : Type 0 where
      pub action : ℕ
      pub step : Step M a t.weight action t.node
      pub allowed : allows A action ≡ true
      pub near : inside b t.weight ≡ true

    pub near_step : {t : Target} → t ∈ near M A b a → Looked t
    unfolding near
    near_step m =
        let (u, k, e) = Memᴰ.of_map end_of (keep (looks_at A b) (leaving M a)) m in
        let h = ∈-keep (looks_at A b) (leaving M a) k in
        let looked : Looked (end_of u) = record {
          action = u.action;
          step = leaves_step h.0;
          allowed = and_left (allows A u.action) (inside b u.weight) h.1;
          near = and_right (allows A u.action) (inside b u.weight) h.1;
        } in
        subst Looked e looked
