-- The calls that solve a problem, one after the other, and what is true of their answer. Assumes nothing.
use Rattle.std.specs.Prelude.{◌≡◌, ℕ, ◌+◌, ◌<◌, ◌≤◌, true, false, ◌≢◌, ◌↔◌, List, [], ◌∷◌, map, length, take, ℤ, Ok}
use Rattle.std.specs.List.{AllByRecursion}
use Rattle.interface.specs.declared.home.Home.{Home}
use Rattle.interface.specs.Homes.{InHome, Passes}
use Rattle.interface.specs.Points.{values_of}
use Rattle.interface.specs.Rules.{RuleModel}
use Rattle.interface.specs.Shapes.{ShapeModel}
use Rattle.search_theory.specs.declared.checkpoint.Checkpoint.{Checkpoint}
use Rattle.search_theory.specs.declared.outcome.Outcome.TheVariants.{Done, StackFull}
use Rattle.search_theory.specs.declared.region.Region.{Region}
use Rattle.search_theory.specs.declared.reply.Reply.TheVariants.{Ran}
use Rattle.search_theory.specs.declared.report.Report.{Report}
use Rattle.search_theory.specs.declared.request.Request.{Request}
use Rattle.search_theory.specs.declared.request.Request.TheVariants.{State, Begin, Run}
use Rattle.search_theory.specs.Requests.{World, Answered, answer}
use Rattle.search_theory.specs.Solving.{opened}
use Rattle.search_theory.specs.Standing.{MeetsRules, shape_of, how_many, shapes_of}

-- a point within the home that meets every rule
abbrev pub Setting : {R : Type 0} → RuleModel R → Home → List R → List ℤ → Type 0
Setting K h rs x = InHome h x × MeetsRules K h.n rs x

-- the slices that the calls are lent
pub record Slices (S R : Type 0) : Type 0 where
  pub rules : List R
  pub checkpoints : List (Checkpoint S)
  pub stack : List S
  pub out : List (Region S)

-- what is true of a run's report p and of the regions that it handed out
pub record TrueOf {S R : Type 0} (M : ShapeModel S) (K : RuleModel R) (h : Home) (rs : List R) (places : ℕ) (p : Report) (handed : List (Region S)) : Type 0 where
  -- every point that a region holds is a setting that meets the rules, and its own point is one
  pub sound : AllByRecursion (λ g. ((x : List ℤ) → M.holds g.shape x ≡ true → Setting K h rs x) × (M.holds g.shape (values_of g.point) ≡ true)) handed
  -- at done, each setting that meets the rules lies in exactly one region
  pub cover : p.outcome ≡ Done → (x : List ℤ) → Setting K h rs x → how_many M (shapes_of handed) x ≡ 1
  -- at done, nothing was found exactly if there is no such setting
  pub found : p.outcome ≡ Done → (p.found ≡ false) ↔ ((x : List ℤ) → Setting K h rs x → ⊥)
  -- one place more than the halvings is enough
  pub room : 1 + M.halvings (shape_of M K h rs) ≤ places → p.outcome ≢ StackFull

module _ {S R : Type 0} (M : ShapeModel S) (K : RuleModel R) where
  -- the world after these calls, each lent the whole slices
  abbrev pub after_calls : World S R → List (Region S) → List (Request R) → World S R
  after_calls w out [] = w
  after_calls w out (q ∷ qs) = after_calls (answer M K w out q).world out qs

  abbrev pub fresh : Home → Slices S R → World S R
  fresh h m = record { solver = opened M h; rules = m.rules; checkpoints = m.checkpoints; stack = m.stack }

  -- every rule stands
  abbrev pub stated_all : Home → Slices S R → List R → World S R
  stated_all h m rs = after_calls (fresh h m) m.out (map State rs)

  -- then the search begins, and runs once
  abbrev pub begun : Home → Slices S R → List R → World S R
  begun h m rs = (answer M K (stated_all h m rs) m.out Begin).world

  abbrev pub solved : Home → Slices S R → List R → ℕ → Answered S R
  solved h m rs budget = answer M K (begun h m rs) m.out (Run budget)

  -- a home and rules that pass their checks, and places for them
  pub record Solvable (h : Home) (m : Slices S R) (rs : List R) : Type 0 where
    pub home_passes : Passes h
    pub rules_pass : AllByRecursion (λ r. K.check h.n r ≡ Ok tt) rs
    pub few : length rs ≤ 32
    pub places : length rs ≤ length m.rules
    pub some_stack : 0 < length m.stack

  -- the run is accepted, its report is true, and what it handed out had its places in the out slice
  abbrev pub SolvesTruly : Type 0
  SolvesTruly = (h : Home) (m : Slices S R) (rs : List R) → Solvable h m rs → (budget : ℕ) → (p : Report) × ((solved h m rs budget).reply ≡ Ok (Ran p)) × TrueOf M K h rs (length m.stack) p (take p.count (solved h m rs budget).out) × (length (take p.count (solved h m rs budget).out) ≤ length m.out)
