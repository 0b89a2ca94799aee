-- What a run means, in terms of the regions that wait and those handed out, and of the points that they hold. Assumes nothing.
use Rattle.std.specs.Prelude.{◌≡◌, ℕ, ◌+◌, ◌<◌, ◌≤◌, Bool, true, ◌≢◌, ◌⊎◌, ◌↔◌, List, [], ◌∷◌, ◌++◌, reverse, length, take, drop, ℤ, Ok}
use Rattle.std.specs.List.{AllByRecursion}
use Rattle.interface.specs.declared.point.Point.{Point}
use Rattle.interface.specs.Points.{values_of}
use Rattle.interface.specs.Rules.{RuleModel}
use Rattle.interface.specs.Shapes.{ShapeModel, Made}
use Rattle.search_theory.specs.declared.fate.Fate.{Fate}
use Rattle.search_theory.specs.declared.fate.Fate.TheVariants.{HandedOut, Split}
use Rattle.search_theory.specs.declared.outcome.Outcome.TheVariants.{Done, Spent, ListFull, StackFull}
use Rattle.search_theory.specs.declared.region.Region.{Region}
use Rattle.search_theory.specs.declared.report.Report.{Report}
use Rattle.search_theory.specs.Regions.{refine, classify}
use Rattle.search_theory.specs.Solving.{Solving, Left}
use Rattle.search_theory.specs.Standing.{MeetsRules, how_many, shapes_of}
use Rattle.search_theory.specs.Walks.{held, walk}

-- regions of n settings that making, cutting or splitting gave
abbrev pub AllMade : {S : Type 0} → ShapeModel S → ℕ → List S → Type 0
AllMade M n ss = AllByRecursion (λ s. Made M s × (M.n s ≡ n)) ss

-- every point that the region holds meets the rules, and it holds its own
abbrev pub OnlyFitting : {S R : Type 0} → ShapeModel S → RuleModel R → ℕ → List R → Region S → Type 0
OnlyFitting M K n rs g = ((x : List ℤ) → M.holds g.shape x ≡ true → MeetsRules K n rs x) × (M.holds g.shape (values_of g.point) ≡ true)

-- below the next region each leaves room for one more than its halvings
abbrev pub RoomUnder : {S : Type 0} → ShapeModel S → ℕ → List S → Type 0
RoomUnder M most [] = Unit {0}
RoomUnder M most (s ∷ ss) = (M.halvings s + length ss < most) × RoomUnder M most ss

-- the waiting regions, the next first, can be split to the end without more than most of them under the next
abbrev pub Room : {S : Type 0} → ShapeModel S → ℕ → List S → Type 0
Room M most [] = Unit {0}
Room M most (s ∷ ss) = (M.halvings s + length ss ≤ most) × RoomUnder M most ss

-- a run: the rules that stand, the solver, the stack and the out slice before it, its budget, its report, and the same after it
pub record Runs (S R : Type 0) : Type 0 where
  pub rules : List R
  pub budget : ℕ
  pub report : Report
  pub found : Bool
  pub waiting : List S
  pub waiting_after : List S
  pub stack : List S
  pub stack_after : List S
  pub out : List (Region S)
  pub out_after : List (Region S)

-- what it handed out
abbrev pub given : {S R : Type 0} → Runs S R → List (Region S)
given r = take r.report.count r.out_after

module _ {S R : Type 0} (M : ShapeModel S) (K : RuleModel R) where
  -- the last waiting region will have this fate
  abbrev pub NextIs : List R → List S → Fate → Type 0
  NextIs rs ws f = (s : S) × ((under : List S) × (ws ≡ under ++ s ∷ [])) × (classify M K rs (refine M K rs s) ≡ f)

  -- when a run ends how
  pub record Outcomes (r : Runs S R) : Type 0 where
    pub done : (r.report.outcome ≡ Done) ↔ (r.waiting_after ≡ [])
    pub spent : (r.report.outcome ≡ Spent) ↔ ((r.waiting_after ≢ []) × (r.report.steps ≡ r.budget))
    pub list_full : (r.report.outcome ≡ ListFull) ↔ ((r.report.steps < r.budget) × ((x : Point) × NextIs r.rules r.waiting_after (HandedOut x)) × (r.report.count ≡ length r.out))
    pub stack_full : (r.report.outcome ≡ StackFull) ↔ ((r.report.steps < r.budget) × NextIs r.rules r.waiting_after Split × (length r.waiting_after ≡ length r.stack))

  -- what a run does: as many steps as it says, from the last waiting region on, and nothing past what it hands out is written
  pub record Moves (r : Runs S R) : Type 0 where
    pub by_steps : held (reverse r.waiting_after) (given r) ≡ walk M K r.rules r.report.steps (held (reverse r.waiting) [])
    pub within_budget : r.report.steps ≤ r.budget
    pub stack_places : length r.stack_after ≡ length r.stack
    pub out_places : (length r.out_after ≡ length r.out) × (r.report.count ≤ length r.out) × (drop r.report.count r.out_after ≡ drop r.report.count r.out)
    pub says_found : (r.report.found ≡ true) ↔ ((r.found ≡ true) ⊎ (given r ≢ []))

  -- what that means for points, where the waiting regions are made
  pub record Keeps (n : ℕ) (r : Runs S R) : Type 0 where
    pub still_made : AllMade M n r.waiting_after
    -- each point that meets the rules lies in as many regions as before
    pub same_counts : (x : List ℤ) → MeetsRules K n r.rules x → how_many M (shapes_of (given r)) x + how_many M r.waiting_after x ≡ how_many M r.waiting x
    pub only_fitting : AllByRecursion (OnlyFitting M K n r.rules) (given r)
    -- at done, a region was handed out exactly if a waiting one held a point that meets the rules
    pub truly_found : r.report.outcome ≡ Done → (given r ≡ []) ↔ ((x : List ℤ) → MeetsRules K n r.rules x → how_many M r.waiting x ≡ 0)
    -- with a place more than most the stack does not fill
    pub room_kept : (most : ℕ) → Room M most (reverse r.waiting) → Room M most (reverse r.waiting_after)
    pub never_full : (most : ℕ) → Room M most (reverse r.waiting) → most < length r.stack → r.report.outcome ≢ StackFull

-- a run as its call shows it
abbrev pub run_seen : {S R : Type 0} → Solving S → List R → List S → List (Region S) → ℕ → Report → Solving S → List S → List (Region S) → Runs S R
run_seen s rules stack out budget p s' stack' out' = record { rules = take s.rules rules; budget = budget; report = p; found = s.found; waiting = take s.waiting stack; waiting_after = take s'.waiting stack'; stack = stack; stack_after = stack'; out = out; out_after = out' }

-- every accepted run ends as it must, moves by its steps, and keeps the points
abbrev pub RunLaws : {S R : Type 0} → ShapeModel S → RuleModel R → Solving S → List R → List S → List (Region S) → ℕ → Left S Report (List S × List (Region S)) → Type 0
RunLaws M K s rules stack out budget l = (p : Report) → l.reply ≡ Ok p → let r = run_seen s rules stack out budget p l.solver l.slices.0 l.slices.1 in Outcomes M K r × Moves M K r × ((n : ℕ) → AllMade M n r.waiting → Keeps M K n r)
