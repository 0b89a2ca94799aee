-- Cuts, and the points that meet them. Assumes nothing.
use Rattle.std.specs.Prelude.{◌≡◌, ℕ, ◌*◌, ◌<◌, Bool, true, false, List, [], ◌∷◌, length, ℤ, ◌+ℤ◌, ◌≤ℤ◌, Some, None, Option, refl}
use Rattle.interface.specs.declared.cut.Cut.{Cut}
use Rattle.interface.specs.CutBounds.{valid_cut}
use Rattle.interface.specs.Nodes.{value}

-- the cut (p, q, c), where there is one
abbrev pub cut_if : (p q : ℕ) (c : ℤ) (b : Bool) → valid_cut p q c ≡ b → Option Cut
cut_if p q c true e = Some (record { p = p; q = q; c = c; ok = e })
cut_if p q c false e = None

abbrev pub cut_of : ℕ → ℕ → ℤ → Option Cut
cut_of p q c = cut_if p q c (valid_cut p q c) refl

-- v(p) + v(q) ≤ c; every point meets a cut with a node that is not on its line
abbrev pub Meets : List ℤ → Cut → Type 0
Meets x t = t.p < 2 * length x → t.q < 2 * length x → (value x t.p +ℤ value x t.q) ≤ℤ t.c

-- the point meets every cut of the list
abbrev pub MeetsAll : List ℤ → List Cut → Type 0
MeetsAll x [] = Unit {0}
MeetsAll x (t ∷ ts) = Meets x t × MeetsAll x ts
