-- Steps on lists alone: what waits, the next to be taken first, and what was handed out, the first first. Assumes nothing.
use Rattle.std.specs.Prelude.{ℕ, zero, suc, List, [], ◌∷◌, ◌++◌}
use Rattle.interface.specs.Rules.{RuleModel}
use Rattle.interface.specs.Shapes.{ShapeModel}
use Rattle.search_theory.specs.declared.fate.Fate.{Fate}
use Rattle.search_theory.specs.declared.fate.Fate.TheVariants.{Dropped, HandedOut, Split}
use Rattle.search_theory.specs.declared.region.Region.{Region}
use Rattle.search_theory.specs.Regions.{refine, classify}

pub record Held (S : Type 0) : Type 0 where
  pub waiting : List S
  pub handed : List (Region S)

abbrev pub held : {S : Type 0} → List S → List (Region S) → Held S
held ws hs = record { waiting = ws; handed = hs }

-- a refined region is dropped, goes to what was handed out, or is replaced by its lower part, which is next, and its upper part behind it
abbrev pub placed : {S : Type 0} → ShapeModel S → S → Fate → List S → List (Region S) → Held S
placed M s Dropped ws hs = held ws hs
placed M s (HandedOut x) ws hs = held ws (hs ++ record { shape = s; point = x } ∷ [])
placed M s Split ws hs = held (M.lower s ∷ M.upper s ∷ ws) hs

module _ {S R : Type 0} (M : ShapeModel S) (K : RuleModel R) (rs : List R) where
  -- one step takes the next waiting region and refines it
  abbrev pub walk_one : List S → List (Region S) → Held S
  walk_one [] hs = held [] hs
  walk_one (s ∷ ws) hs = placed M (refine M K rs s) (classify M K rs (refine M K rs s)) ws hs

  -- so many steps
  abbrev pub walk : ℕ → Held S → Held S
  walk zero h = h
  walk (suc k) h = walk k (walk_one h.waiting h.handed)
