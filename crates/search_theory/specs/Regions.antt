-- What becomes of one region: it is refined by rounds of cuts, then dropped, handed out or split. Assumes nothing.
use Rattle.std.specs.Prelude.{ℕ, zero, suc, Bool, true, false, cond, List, [], ◌∷◌, ℤ, Some, None, Option}
use Rattle.std.specs.Cmp.Lexicographic.{pointwise}
use Rattle.std.specs.List.{range_with_len}
use Rattle.std.specs.Ordering.{int_eq}
use Rattle.interface.specs.declared.cut.Cut.{Cut}
use Rattle.interface.specs.declared.extent.Extent.{Extent}
use Rattle.interface.specs.declared.extent.Extent.TheVariants.{Void, Lone, Open}
use Rattle.interface.specs.declared.point.Point.{Point}
use Rattle.interface.specs.declared.reading.Reading.{Reading}
use Rattle.interface.specs.declared.verdict.Verdict.{Verdict}
use Rattle.interface.specs.declared.verdict.Verdict.TheVariants.{Nothing, All, Unknown}
use Rattle.interface.specs.Rules.{RuleModel}
use Rattle.interface.specs.Shapes.{ShapeModel, reading_of}
use Rattle.search_theory.specs.declared.fate.Fate.{Fate}
use Rattle.search_theory.specs.declared.fate.Fate.TheVariants.{Dropped, HandedOut, Split}

-- an open region may be split
abbrev pub is_open : Extent → Bool
is_open Void = false
is_open Lone = false
is_open Open = true

abbrev pub is_void : Extent → Bool
is_void Void = true
is_void Lone = false
is_void Open = false

abbrev pub same_number : ℤ → ℤ → Bool
same_number = int_eq

abbrev pub same_numbers : List ℤ → List ℤ → Bool
same_numbers = pointwise same_number

-- two readings have the same limits
abbrev pub same_limits : Reading → Reading → Bool
same_limits g h = same_numbers g.limits h.limits

-- what two groups of rules say together: nothing if either does, all if both do
abbrev pub both : Verdict → Verdict → Verdict
both Nothing v = Nothing
both All v = v
both Unknown Nothing = Nothing
both Unknown All = Unknown
both Unknown Unknown = Unknown

-- dropped where no point can meet the rules, handed out where every point does and one is offered, else split
abbrev pub fate_by : Verdict → Option Point → Fate
fate_by Nothing o = Dropped
fate_by All None = Split
fate_by All (Some x) = HandedOut x
fate_by Unknown o = Split

-- all limits of a shape; shut, so that no proof computes the 256 of them
unfoldable pub read : {S : Type 0} → ShapeModel S → S → Reading
read M s = reading_of M s

-- the shape after a cut, if there is one
abbrev pub cut_if_any : {S : Type 0} → ShapeModel S → S → Option Cut → S
cut_if_any M s None = s
cut_if_any M s (Some t) = M.cut s t

-- what all rules say of the points within a reading
abbrev pub judged : {R : Type 0} → RuleModel R → List R → Reading → Verdict
judged K [] g = All
judged K (r ∷ rs) g = both (K.judge r g) (judged K rs g)

module _ {S R : Type 0} (M : ShapeModel S) (K : RuleModel R) where
  -- cut i of a rule, proposed on a fresh reading; a region that is not open stays as it is
  abbrev pub tighten : R → ℕ → S → S
  tighten r i s = cond (is_open (M.extent s)) (cut_if_any M s (K.proposed r (read M s) i)) s

  -- the cuts of one rule whose numbers are listed
  abbrev pub by_cuts : R → List ℕ → S → S
  by_cuts r [] s = s
  by_cuts r (i ∷ is) s = by_cuts r is (tighten r i s)

  -- one round: each rule in order, its cuts 0, 1 and 2
  abbrev pub by_rules : List R → S → S
  by_rules [] s = s
  by_rules (r ∷ rs) s = by_rules rs (by_cuts r (range_with_len 0 3) s)

  -- up to so many rounds, until one alters no limit
  abbrev pub by_rounds : ℕ → List R → S → S
  by_rounds zero rs s = s
  by_rounds (suc k) rs s = cond (same_limits (read M s) (read M (by_rules rs s))) (by_rules rs s) (by_rounds k rs (by_rules rs s))

  -- shut, so that no proof computes the rounds
  unfoldable pub refine : List R → S → S
  refine rs s = by_rounds 8 rs s

  -- what becomes of a refined region
  abbrev pub classify : List R → S → Fate
  classify rs s = cond (is_void (M.extent s)) Dropped (fate_by (judged K rs (read M s)) (M.offer s))
