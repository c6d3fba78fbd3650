-- The operators of Definition 2 keep what is carried from one language over to another. Assumes nothing.
use Prim.Native.Nat.{ℕ, zero, suc}
use mathlib.Core.List.{List, [], ◌∷◌, ◌++◌}
use Rattle.definitions.specs.Definition2.{Parts, Overlaps, Begins, Repeats, none, more, InARow, CountedParts}

module _ (P P' Q Q' : List ℕ → Type 0) (f : (w : List ℕ) → P w → P' w) (g : (w : List ℕ) → Q w → Q' w) where
  pub map_parts : (w : List ℕ) → Parts P Q w → Parts P' Q' w
  map_parts w h = record { w1 = h.w1; w2 = h.w2; whole = h.whole; first = f h.w1 h.first; second = g h.w2 h.second }

  pub map_overlaps : (w : List ℕ) → Overlaps P Q w → Overlaps P' Q' w
  map_overlaps w h = record { w1 = h.w1; x = h.x; w2 = h.w2; whole = h.whole; first = f (h.w1 ++ (h.x ∷ [])) h.first; second = g (h.x ∷ h.w2) h.second }

pub map_repeats : (P P' : List ℕ → Type 0) (f : (w : List ℕ) → P w → P' w) (w : List ℕ) → Repeats P w → Repeats P' w
map_repeats P P' f w none = none
map_repeats P P' f w (more u v e n a r) = more u v e n (f u a) (map_repeats P P' f v r)

pub map_begins : (P P' : List ℕ → Type 0) (f : (w : List ℕ) → P w → P' w) (w : List ℕ) → Begins P w → Begins P' w
map_begins P P' f w h = record { w1 = h.w1; w2 = h.w2; whole = h.whole; first = f h.w1 h.first }

pub map_row : (P P' : List ℕ → Type 0) (f : (w : List ℕ) → P w → P' w) (k : ℕ) (w : List ℕ) → InARow P k w → InARow P' k w
map_row P P' f zero w h = h
map_row P P' f (suc k) w h = map_parts P P' (InARow P k) (InARow P' k) f (map_row P P' f k) w h

pub map_counted : (P P' : List ℕ → Type 0) (f : (w : List ℕ) → P w → P' w) (i j : ℕ) (w : List ℕ) → CountedParts i j P w → CountedParts i j P' w
map_counted P P' f i j w h = record { k = h.k; low = h.low; high = h.high; parts = map_row P P' f h.k w h.parts }
