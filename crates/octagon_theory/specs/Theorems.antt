-- What holds of the limits, for every home and every list of cuts. Assumes nothing.
use Rattle.std.specs.Prelude.{◌≡◌, ℕ, ◌*◌, ◌<◌, ◌≤◌, true, false, ◌≢◌, ◌⊎◌, ◌↔◌, List, [], ◌∷◌, ◌++◌, length, ℤ, pos, ◌+ℤ◌, ◌≤ℤ◌, ◌<ℤ◌, Decides}
use Rattle.interface.specs.declared.cut.Cut.{Cut}
use Rattle.interface.specs.declared.home.Home.{Home}
use Rattle.interface.specs.Cuts.{MeetsAll}
use Rattle.interface.specs.Homes.{InHome, Passes}
use Rattle.interface.specs.Nodes.{opp, value}
use Rattle.interface.specs.Numbers.{half, within}
use Rattle.interface.specs.Points.{NoLater}
use Rattle.octagon_theory.specs.Limits.{top_of, entry, LeastSum, least, void, limit}
use Rattle.octagon_theory.specs.Matrices.{TightlyClosed, Below, shortest, rounded, least_values}

-- the points within the home that meet every cut
abbrev pub Within : Home → List Cut → List ℤ → Type 0
Within h ts x = InHome h x × MeetsAll x ts

-- z is the greatest v(p) + v(q) of the points x with S x: none has more, and some point has z
pub record Greatest (S : List ℤ → Type 0) (p q : ℕ) (z : ℤ) : Type 0 where
  pub above : (x : List ℤ) → S x → (value x p +ℤ value x q) ≤ℤ z
  pub reached : (x : List ℤ) × S x × (value x p +ℤ value x q ≡ z)

-- the form of C that computes is the least sum of a chain
abbrev pub LeastSumsAreLeast : Type 0
LeastSumsAreLeast = (h : Home) (ts : List Cut) → 0 < h.n → (p q : ℕ) → LeastSum h.n (entry h ts) p q (least h ts p q)

-- unless void, the limit of two nodes on the line is the greatest sum of their values, and some point reaches it
abbrev pub EveryLimitIsReached : Type 0
EveryLimitIsReached = (h : Home) (ts : List Cut) → void h ts ≡ false → (p q : ℕ) → p < 2 * h.n → q < 2 * h.n → Greatest (Within h ts) p q (limit h ts p q)

-- void says that there is no point, and nothing else
abbrev pub VoidIsNoPoint : Type 0
VoidIsNoPoint = (h : Home) (ts : List Cut) → Decides (void h ts) ((x : List ℤ) → Within h ts x → ⊥)

-- limits lie within two million, are symmetric and even on the diagonal, at all nodes
pub record Shown (L : ℕ → ℕ → ℤ) : Type 0 where
  pub bounded : (p q : ℕ) → within 2000000 (L p q) ≡ true
  pub symmetric : (p q : ℕ) → L p q ≡ L q p
  pub even : (p : ℕ) → L p p ≡ (half (L p p) +ℤ half (L p p))

abbrev pub LimitsCanBeShown : Type 0
LimitsCanBeShown = (h : Home) → Passes h → (ts : List Cut) → Shown (limit h ts)

-- unless void, the limits are tightly closed
abbrev pub LimitsAreTight : Type 0
LimitsAreTight = (h : Home) (ts : List Cut) → void h ts ≡ false → TightlyClosed h.n (limit h ts)

-- unless void, the points that keep every limit are those within the home that meet every cut
abbrev pub LimitsHoldThePoints : Type 0
LimitsHoldThePoints = (h : Home) (ts : List Cut) → void h ts ≡ false → (x : List ℤ) → Within h ts x ↔ ((length x ≡ h.n) × Below (limit h ts) x)

-- where each limit of a node with itself and its opposite's leave one value, there is one point, and the limits are its sums
abbrev pub OnePointIsLeft : Type 0
OnePointIsLeft = (h : Home) (ts : List Cut) → void h ts ≡ false → ((p : ℕ) → p < 2 * h.n → (limit h ts p p +ℤ limit h ts (opp p) (opp p)) ≡ pos 0) → (x : List ℤ) → Within h ts x → ((y : List ℤ) → Within h ts y → y ≡ x) × ((p q : ℕ) → p < 2 * h.n → q < 2 * h.n → limit h ts p q ≡ (value x p +ℤ value x q))

-- two homes and lists of cuts with the same points have the same limits
abbrev pub Same : Home → List Cut → Home → List Cut → Type 0
Same h ts h' ts' = (void h ts ≡ void h' ts') × ((p q : ℕ) → limit h ts p q ≡ limit h' ts' p q)

abbrev pub PointsDecideLimits : Type 0
PointsDecideLimits = (h h' : Home) (ts ts' : List Cut) → h.n ≡ h'.n → ((x : List ℤ) → Within h ts x → Within h' ts' x) → ((x : List ℤ) → Within h' ts' x → Within h ts x) → Same h ts h' ts'

-- a home alone has a point, and its limits are the sums of the greatest values
abbrev pub HomeAlone : Type 0
HomeAlone = (h : Home) → Passes h → (void h [] ≡ false) × ((p q : ℕ) → p < 2 * h.n → q < 2 * h.n → q ≢ opp p → limit h [] p q ≡ (top_of h p +ℤ top_of h q))

-- one cut more on the cuts ts
pub record OneMore (h : Home) (ts : List Cut) (t : Cut) : Type 0 where
  -- void stays void
  pub stays_void : void h ts ≡ true → void h (ts ++ (t ∷ [])) ≡ true
  -- a cut with a node that is not on the line changes nothing
  pub off_line : (2 * h.n ≤ t.p) ⊎ (2 * h.n ≤ t.q) → Same h (ts ++ (t ∷ [])) h ts
  -- nor does one that is no lower than its limit
  pub idle : void h ts ≡ false → t.p < 2 * h.n → t.q < 2 * h.n → limit h ts t.p t.q ≤ℤ t.c → Same h (ts ++ (t ∷ [])) h ts
  -- one below the least sum of its nodes' values leaves no point
  pub empties : void h ts ≡ false → t.p < 2 * h.n → t.q < 2 * h.n → (t.c +ℤ limit h ts (opp t.p) (opp t.q)) <ℤ pos 0 → void h (ts ++ (t ∷ [])) ≡ true
  -- any other: the least of five ways, rounded and joined
  pub lowers : void h ts ≡ false → t.p < 2 * h.n → t.q < 2 * h.n → pos 0 ≤ℤ (t.c +ℤ limit h ts (opp t.p) (opp t.q)) → (void h (ts ++ (t ∷ [])) ≡ false) × ((i j : ℕ) → i < 2 * h.n → j < 2 * h.n → limit h (ts ++ (t ∷ [])) i j ≡ rounded (shortest (limit h ts) (opp t.p) (opp t.q) t.c) i j)
  -- no limit rises, and the limit of the cut's nodes is at most its bound
  pub shrinks : void h (ts ++ (t ∷ [])) ≡ false → (p q : ℕ) → p < 2 * h.n → q < 2 * h.n → limit h (ts ++ (t ∷ [])) p q ≤ℤ limit h ts p q
  pub obeyed : void h (ts ++ (t ∷ [])) ≡ false → t.p < 2 * h.n → t.q < 2 * h.n → limit h (ts ++ (t ∷ [])) t.p t.q ≤ℤ t.c

abbrev pub OneCutAtATime : Type 0
OneCutAtATime = (h : Home) (ts : List Cut) (t : Cut) → OneMore h ts t

-- unless void, the least values one after the other are a point, and no point comes before it
abbrev pub LeastValuesAreLeast : Type 0
LeastValuesAreLeast = (h : Home) (ts : List Cut) → void h ts ≡ false → Within h ts (least_values (limit h ts) [] h.n) × ((x : List ℤ) → Within h ts x → NoLater (least_values (limit h ts) [] h.n) x)
