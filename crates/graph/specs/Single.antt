-- What work on an accepted message relies on has one proof at most, so a value may hold it as a ghost field.
use Rattle.std.specs.Prelude.{ℕ, zero, suc, List}
use Rattle.std.specs.Coded.{le_prop}
use Rattle.wire.specs.Layout.{Layout, Sound, none, more}
use Rattle.rules.specs.Graph.{Graph, Closed}
use Rattle.graph.specs.Layouts.{TargetOk, HyperOk, CoverOk, target_layout, hyper_layout, cover_layout, Scannable}
use Rattle.graph.specs.Format.{graph_header}
use Rattle.graph.specs.Ready.{Ready}

sound_single : {A : Type 0} (L : Layout A) → ((at : ℕ) → IsProp (L.Ok at)) → (k at : ℕ) → IsProp (Sound L k at)
sound_single L ok zero at none none = λ i. none
sound_single L ok (suc k) at (more p s) (more q t) = λ i. more (ok at p q i) (sound_single L ok k (L.next at) s t i)

module _ (s : List ℕ) (n : ℕ) where
  target_single : (at : ℕ) → IsProp (TargetOk s n at)
  target_single at x y = λ i. record { inside = le_prop x.inside y.inside i; named = le_prop x.named y.named i }

  targets_single : (k at : ℕ) → IsProp (Sound (target_layout s n) k at)
  targets_single = sound_single (target_layout s n) target_single

  hyper_single : (at : ℕ) → IsProp (HyperOk s n at)
  hyper_single at x y = λ i. record {
    inside = le_prop x.inside y.inside i;
    named = le_prop x.named y.named i;
    sound = targets_single _ _ x.sound y.sound i;
  }

  cover_single : (at : ℕ) → IsProp (CoverOk s n at)
  cover_single at x y = λ i. record {
    inside = le_prop x.inside y.inside i;
    named = le_prop x.named y.named i;
    target_named = le_prop x.target_named y.target_named i;
  }

closed_single : (g : Graph) → IsProp (Closed g)
closed_single g x y = λ i. record {
  hyper_source = λ m. le_prop (x.hyper_source m) (y.hyper_source m) i;
  hyper = λ m o. le_prop (x.hyper m o) (y.hyper m o) i;
  cover_source = λ m. le_prop (x.cover_source m) (y.cover_source m) i;
  cover = λ m. le_prop (x.cover m) (y.cover m) i;
}

pub hypers_single : (s : List ℕ) (n h : ℕ) → IsProp (Sound (hyper_layout s n) h graph_header)
hypers_single s n h = sound_single (hyper_layout s n) (hyper_single s n) h graph_header

pub covers_single : (s : List ℕ) (n c at : ℕ) → IsProp (Sound (cover_layout s n) c at)
covers_single s n c at = sound_single (cover_layout s n) (cover_single s n) c at

pub scannable_single : (s : List ℕ) (n h c : ℕ) → IsProp (Scannable s n h c)
scannable_single s n h c x y = λ i. record {
  hypers = hypers_single s n h x.hypers y.hypers i;
  covers = covers_single s n c _ x.covers y.covers i;
}

pub ready_single : (s : List ℕ) (n h c : ℕ) → IsProp (Ready s n h c)
ready_single s n h c x y = λ i. record {
  sound = scannable_single s n h c x.sound y.sound i;
  closed = closed_single _ x.closed y.closed i;
  storable = λ a v k l e. le_prop (x.storable a v k l e) (y.storable a v k l e) i;
  hypers_climb = λ a b l m. le_prop (x.hypers_climb a b l m) (y.hypers_climb a b l m) i;
  covers_climb = λ a b l m. le_prop (x.covers_climb a b l m) (y.covers_climb a b l m) i;
}
