-- What a shape means: its answers, its laws, how it is made, and when it is exact. Assumes nothing.
use Rattle.std.specs.Prelude.{◌≡◌, ℕ, ◌+◌, ◌*◌, ◌/◌, ◌%◌, ◌<◌, ◌≤◌, Bool, true, false, cond, ◌≢◌, List, [], ◌∷◌, map, ℤ, pos, ◌+ℤ◌, neg_ℤ, ◌≤ℤ◌, is_some, Some, Decides, Option, nat_lt}
use Rattle.std.specs.List.{range_with_len}
use Rattle.interface.specs.declared.cut.Cut.{Cut}
use Rattle.interface.specs.declared.extent.Extent.{Extent}
use Rattle.interface.specs.declared.extent.Extent.TheVariants.{Void, Lone, Open}
use Rattle.interface.specs.declared.home.Home.{Home}
use Rattle.interface.specs.declared.point.Point.{Point}
use Rattle.interface.specs.declared.reading.Reading.{Reading}
use Rattle.interface.specs.Cuts.{Meets, MeetsAll}
use Rattle.interface.specs.Homes.{Passes, InHome}
use Rattle.interface.specs.Nodes.{opp, value}
use Rattle.interface.specs.Numbers.{half, within}
use Rattle.interface.specs.Points.{values_of}

-- a shape's answer to each question, on every value of its type
pub record ShapeModel (S : Type 0) : Type 0 where
  pub n : S → ℕ
  pub start : Home → S
  pub cut : S → Cut → S
  pub lower : S → S
  pub upper : S → S
  pub extent : S → Extent
  pub limit : S → ℕ → ℕ → ℤ
  pub holds : S → List ℤ → Bool
  pub offer : S → Option Point
  pub halvings : S → ℕ

-- the shapes that there are: started from a home that passes its check, then cut and split
pub data Made {S : Type 0} (M : ShapeModel S) : S → Type 0 where
  by_start : (h : Home) → Passes h → Made M (M.start h)
  by_cut : {s : S} → Made M s → (t : Cut) → Made M (M.cut s t)
  by_lower : {s : S} → Made M s → Made M (M.lower s)
  by_upper : {s : S} → Made M s → Made M (M.upper s)

-- 1 where the test holds, else 0
abbrev pub one_if : Bool → ℕ
one_if b = cond b 1 0

-- the meaning of a shape, a field for each sentence
pub record ShapeLaws {S : Type 0} (M : ShapeModel S) : Type 0 where
  -- made from a home it has the home's settings and holds exactly the points within it
  pub start_n : (h : Home) → Passes h → M.n (M.start h) ≡ h.n
  pub start_holds : (h : Home) → Passes h → (x : List ℤ) → Decides (M.holds (M.start h) x) (InHome h x)
  -- no operation alters how many settings there are
  pub cut_n : (s : S) → Made M s → (t : Cut) → M.n (M.cut s t) ≡ M.n s
  pub split_n : (s : S) → Made M s → (M.n (M.lower s) ≡ M.n s) × (M.n (M.upper s) ≡ M.n s)
  -- a cut keeps every held point that meets it and adds none
  pub cut_keeps : (s : S) → Made M s → (t : Cut) (x : List ℤ) → M.holds s x ≡ true → Meets x t → M.holds (M.cut s t) x ≡ true
  pub cut_adds_none : (s : S) → Made M s → (t : Cut) (x : List ℤ) → M.holds (M.cut s t) x ≡ true → M.holds s x ≡ true
  -- void only if no point is held, lone only if exactly one is
  pub void_holds : (s : S) → Made M s → M.extent s ≡ Void → (x : List ℤ) → M.holds s x ≡ false
  pub lone_holds : (s : S) → Made M s → M.extent s ≡ Lone → (x : List ℤ) × (M.holds s x ≡ true) × ((y : List ℤ) → M.holds s y ≡ true → y ≡ x)
  -- no held point is above a limit; a limit lies within two million; one of a node with itself is even
  pub limit_above : (s : S) → Made M s → (x : List ℤ) → M.holds s x ≡ true → (p q : ℕ) → p < 2 * M.n s → q < 2 * M.n s → (value x p +ℤ value x q) ≤ℤ M.limit s p q
  pub limit_within : (s : S) → Made M s → (p q : ℕ) → within 2000000 (M.limit s p q) ≡ true
  pub limit_even : (s : S) → Made M s → (p : ℕ) → (z : ℤ) × (M.limit s p p ≡ z +ℤ z)
  -- a lone shape's limits are the exact sums
  pub lone_limit : (s : S) → Made M s → M.extent s ≡ Lone → (x : List ℤ) → M.holds s x ≡ true → (p q : ℕ) → p < 2 * M.n s → q < 2 * M.n s → M.limit s p q ≡ value x p +ℤ value x q
  -- a limit is 0 for opposite nodes, for a node that is not on the line, and on a void shape
  pub limit_opposite : (s : S) → Made M s → (p : ℕ) → M.limit s p (opp p) ≡ pos 0
  pub limit_off : (s : S) → Made M s → (p q : ℕ) → 2 * M.n s ≤ p → (M.limit s p q ≡ pos 0) × (M.limit s q p ≡ pos 0)
  pub limit_void : (s : S) → Made M s → M.extent s ≡ Void → (p q : ℕ) → M.limit s p q ≡ pos 0
  -- an offered point is held, and a lone shape offers one
  pub offer_holds : (s : S) → Made M s → (x : Point) → M.offer s ≡ Some x → M.holds s (values_of x) ≡ true
  pub lone_offers : (s : S) → Made M s → M.extent s ≡ Lone → is_some (M.offer s) ≡ true
  -- no cut raises the halvings, and an open shape has at least one
  pub cut_halvings : (s : S) → Made M s → (t : Cut) → M.halvings (M.cut s t) ≤ M.halvings s
  pub open_halvings : (s : S) → Made M s → M.extent s ≡ Open → 1 ≤ M.halvings s
  -- an open shape's held points lie each in exactly one part, no part adds any, each part has fewer halvings
  pub split_holds : (s : S) → Made M s → M.extent s ≡ Open → (x : List ℤ) → one_if (M.holds (M.lower s) x) + one_if (M.holds (M.upper s) x) ≡ one_if (M.holds s x)
  pub split_halvings : (s : S) → Made M s → M.extent s ≡ Open → (M.halvings (M.lower s) < M.halvings s) × (M.halvings (M.upper s) < M.halvings s)
  -- any other shape's parts are the shape itself
  pub split_same : (s : S) → Made M s → M.extent s ≢ Open → (M.lower s ≡ s) × (M.upper s ≡ s)

-- the range of setting k, lowest first, from the limits of its two nodes with themselves, halved; (0, 0) past the eighth setting
abbrev pub range_of : {S : Type 0} → ShapeModel S → S → ℕ → ℤ × ℤ
range_of M s k = cond (nat_lt k 8) (neg_ℤ (half (M.limit s (2 * k + 1) (2 * k + 1))), half (M.limit s (2 * k) (2 * k))) (pos 0, pos 0)

-- all limits of a shape
abbrev pub reading_of : {S : Type 0} → ShapeModel S → S → Reading
reading_of M s = record { n = M.n s; limits = map (λ k. M.limit s (k / 16) (k % 16)) (range_with_len 0 256) }

-- the shape made from a home by cuts, the first of the list first
abbrev pub cut_by : {S : Type 0} → ShapeModel S → S → List Cut → S
cut_by M s [] = s
cut_by M s (t ∷ ts) = cut_by M (M.cut s t) ts

abbrev pub built : {S : Type 0} → ShapeModel S → Home → List Cut → S
built M h ts = cut_by M (M.start h) ts

-- a shape is exact if what is built holds exactly the points of home that meet every cut, reaches each limit, and is void if it holds no point
pub record Exact {S : Type 0} (M : ShapeModel S) : Type 0 where
  pub exact_holds : (h : Home) → Passes h → (ts : List Cut) (x : List ℤ) → Decides (M.holds (built M h ts) x) (InHome h x × MeetsAll x ts)
  pub exact_limit : (h : Home) → Passes h → (ts : List Cut) → M.extent (built M h ts) ≢ Void → (p q : ℕ) → p < 2 * h.n → q < 2 * h.n → q ≢ opp p → (x : List ℤ) × (M.holds (built M h ts) x ≡ true) × (value x p +ℤ value x q ≡ M.limit (built M h ts) p q)
  pub exact_void : (h : Home) → Passes h → (ts : List Cut) → ((x : List ℤ) → M.holds (built M h ts) x ≡ false) → M.extent (built M h ts) ≡ Void
