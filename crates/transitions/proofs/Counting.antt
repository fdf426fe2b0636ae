-- A loop that counts the records that pass a test; the test whether EX or AX looks at a transition. Assumes nothing.
use Rattle.std.proofs.Common.{◌≡◌, ℕ, zero, suc, ◌+◌, ◌-◌, ◌*◌, ◌^◌, ◌<◌, ◌≤◌, Bool, true, false, ◌&&◌, eqb, leb, List, [], ◌∷◌, length, sym, refl, ap, ◌∙◌, subst, arith, eq-eqb, ne_eqb, le-leb}
use mathlib.Core.List.Memᴰ
use mir.Val.{bool_byte}
use native.Mathlib.Decide.{dec_lt}
use borrow.Author.Tests.{lt-leb}
use Rattle.lists.specs.Lists.{◌∈◌}
use Rattle.lists.specs.Making.{keep}
use Rattle.lists.proofs.Kept.{keep_length, keep_pass, keep_fail}
use Rattle.lists.proofs.Making.{keep-∈}
use Rattle.value.specs.declared.Bound.{Bound}
use Rattle.value.specs.declared.Bound.TheVariants.{Within, Unbounded}
use Rattle.value.specs.Value.{inside}
use Rattle.value.specs.Coded.{no_bound, code_of}
use Rattle.wire.specs.Layout.{Layout, items}
use Rattle.wire.proofs.Layouts.{items_more, items_length}
use Rattle.wire.proofs.Parts.{items-∈}
use Rattle.wire.proofs.Stride.{end_wide}
use Rattle.model.specs.Model.{Transition}
use Rattle.syntax.specs.declared.Action.{Action}
use Rattle.syntax.specs.declared.Action.TheVariants.{Any, Only}
use Rattle.syntax.specs.Rows.{allows}
use Rattle.reduction.specs.Built.{looks_at}
use Rattle.transitions.specs.Looked.{lowest, highest, is_near}

-- a list in which something stands is not empty
some_in : {A : Type 0} {a : A} (l : List A) → a ∈ l → 1 ≤ length l
some_in [] m = absurd (Memᴰ.not-nil m)
some_in (b ∷ l) m = omega arith

module _ {A : Type 0} (L : Layout A) (p : A → Bool) where
  -- the records that pass, among so many from a position
  abbrev pub passing : ℕ → ℕ → ℕ
  passing k at = length (keep p (items L k at))

  pub passing_le : (k at : ℕ) → passing k at ≤ k
  passing_le k at = omega (arith, keep_length p (items L k at), items_length L k at)

  pub passing_none : (k at : ℕ) → k ≡ 0 → passing k at ≡ 0
  unfolding items keep
  passing_none k at e = ap (λ (j : ℕ). passing j at) e

  -- a turn: those counted, and those to come, make the whole
  module _ (k at : ℕ) (some : 0 < k) where
    passing_here : p (L.item at) ≡ true → passing k at ≡ 1 + passing (k - 1) (L.next at)
    passing_here e = ap (λ l. length (keep p l)) (items_more L k at some) ∙ ap length (keep_pass p (L.item at) (items L (k - 1) (L.next at)) e) ∙ omega arith

    passing_there : p (L.item at) ≡ false → passing k at ≡ passing (k - 1) (L.next at)
    passing_there e = ap (λ l. length (keep p l)) (items_more L k at some) ∙ ap length (keep_fail p (L.item at) (items L (k - 1) (L.next at)) e)

    pub passing_turn : (b : Bool) → b ≡ p (L.item at) → passing k at ≡ bool_byte b + passing (k - 1) (L.next at)
    passing_turn true e = passing_here (sym e)
    passing_turn false e = passing_there (sym e) ∙ omega arith

  -- up to the last that passes: one that doesn't adds nothing at the end, and one that does is counted
  module _ (w : ℕ) (wide : (at : ℕ) → L.next at ≡ at + w) where
    pub last_fails : (k at : ℕ) → p (L.item (at + k * w)) ≡ false → keep p (items L (suc k) at) ≡ keep p (items L k at)
    unfolding items keep
    last_fails zero at e = let here : at + 0 * w ≡ at = omega arith in keep_fail p (L.item at) [] (rw here at e)
    last_fails (suc k) at e =
        let there : at + w + k * w ≡ at + suc k * w = omega arith in
        let rest = last_fails k (at + w) (rw there e) in
        rw (wide at, rest) refl

    pub last_passes : (k at : ℕ) → p (L.item (at + k * w)) ≡ true → 1 ≤ passing (suc k) at
    last_passes k at e =
        let it : L.item (at + k * w) ∈ items L (suc k) at = subst (λ (x : ℕ). L.item x ∈ items L (suc k) at) (end_wide L w wide k at) (items-∈ L (suc k) at k (omega arith)) in
        some_in (keep p (items L (suc k) at)) (keep-∈ p it e)

-- an action of 2 bytes is allowed exactly when it is from the least to the greatest that is
allowed : (A : Action) (a : ℕ) (x : Bool) → a ≤ 65535 → (allows A a && x) ≡ (leb (lowest A) a && (leb a (highest A) && x))
allowed Any a x small = rw (le-leb 0 a (omega arith), le-leb a 65535 small) refl
allowed (Only k) a x small = go (dec_lt a k) (dec_lt k a)
  where
    go : Dec (a < k) → Dec (k < a) → (eqb a k && x) ≡ (leb k a && (leb a k && x))
    go (yes l) d = rw (ne_eqb a k (λ e. absurd (omega arith)), lt-leb k a l) refl
    go (no h) (yes l) = rw (ne_eqb a k (λ e. absurd (omega arith)), le-leb k a (omega arith), lt-leb a k l) refl
    go (no h) (no g) = rw (eq-eqb a k (omega arith), le-leb k a (omega arith), le-leb a k (omega arith)) refl

-- a weight of 4 bytes is within a bound exactly when it is at most the number that says it
within : (b : Bound) (w : ℕ) → w ≤ no_bound → inside b w ≡ leb w (code_of b)
within (Within k) w small = refl
within Unbounded w small = sym (le-leb w no_bound small)

-- so transitions whose fields fit are looked at by these numbers
pub coded_keep : (A : Action) (b : Bound) (us : List Transition) → ((u : Transition) → u ∈ us → u.weight < 2 ^ 32) → ((u : Transition) → u ∈ us → u.action < 2 ^ 16)
    → keep (looks_at A b) us ≡ keep (is_near (lowest A) (highest A) (code_of b)) us
unfolding keep
coded_keep A b [] weights actions = refl
coded_keep A b (u ∷ us) weights actions =
    let w : u.weight < 2 ^ 32 = weights u (Memᴰ.head refl) in
    let a : u.action < 2 ^ 16 = actions u (Memᴰ.head refl) in
    let same : (allows A u.action && inside b u.weight) ≡ (leb (lowest A) u.action && (leb u.action (highest A) && leb u.weight (code_of b))) =
    ap (λ (x : Bool). allows A u.action && x) (within b u.weight (omega arith)) ∙ allowed A u.action (leb u.weight (code_of b)) (omega arith) in
    rw (same, coded_keep A b us (λ v i. weights v (Memᴰ.tail i)) (λ v i. actions v (Memᴰ.tail i))) refl

-- all are looked at where no action and no bound is given
pub unbounded_all : {A : Type 0} (l : List A) → length (keep (λ a. true) l) ≡ length l
unfolding keep
unbounded_all [] = refl
unbounded_all (a ∷ l) = ap suc (unbounded_all l)
