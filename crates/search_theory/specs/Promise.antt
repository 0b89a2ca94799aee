-- What holds after any call on any history. Assumes nothing.
use Rattle.std.specs.Prelude.{◌≡◌, ℕ, ◌+◌, ◌*◌, ◌<◌, true, false, ◌≢◌, ◌↔◌, List, [], ◌++◌, map, reverse, length, take, ℤ, ◌+ℤ◌, ◌≤ℤ◌, Ok, Err, Decides, Result}
use Rattle.std.specs.List.{AllByRecursion}
use Rattle.interface.specs.declared.fault.SolverFault.{SolverFault}
use Rattle.interface.specs.declared.fault.SolverFault.TheVariants.{Void}
use Rattle.interface.specs.declared.home.Home.{Home}
use Rattle.interface.specs.Cuts.{MeetsAll}
use Rattle.interface.specs.Homes.{InHome}
use Rattle.interface.specs.Nodes.{opp, value}
use Rattle.interface.specs.Points.{values_of}
use Rattle.interface.specs.Rules.{RuleModel}
use Rattle.interface.specs.Shapes.{ShapeModel, Exact}
use Rattle.search_theory.specs.declared.checkpoint.Checkpoint.{Checkpoint}
use Rattle.search_theory.specs.declared.outcome.Outcome.TheVariants.{Done, StackFull}
use Rattle.search_theory.specs.declared.phase.Phase.TheVariants.{Searching}
use Rattle.search_theory.specs.declared.region.Region.{Region}
use Rattle.search_theory.specs.declared.reply.Reply.{Reply}
use Rattle.search_theory.specs.declared.reply.Reply.TheVariants.{Ran, LimitIs}
use Rattle.search_theory.specs.declared.report.Report.{Report}
use Rattle.search_theory.specs.declared.request.Request.{Request}
use Rattle.search_theory.specs.declared.request.Request.TheVariants.{Run, Limit}
use Rattle.search_theory.specs.Ledgers.{Ledger, History, noted}
use Rattle.search_theory.specs.Requests.{World, whole, answer}
use Rattle.search_theory.specs.Standing.{MeetsRules, standing_cuts, shape_of, how_many, shapes_of}

-- the first k places of the slice are these
abbrev pub Front : {A : Type 0} → ℕ → List A → List A → Type 0
Front k slice these = (k ≡ length these) × (take k slice ≡ these)

-- a point within the home that meets every rule that stands
abbrev pub Fits : {S R : Type 0} → RuleModel R → Ledger S R → List ℤ → Type 0
Fits K l x = InHome l.home x × MeetsRules K l.home.n l.standing x

-- a point within the home and every standing cut
abbrev pub WithinCuts : {S R : Type 0} → RuleModel R → Ledger S R → List ℤ → Type 0
WithinCuts K l x = InHome l.home x × MeetsAll x (standing_cuts K l.home.n l.standing)

-- every point that the region holds fits, and it holds its own
abbrev pub Sound : {S R : Type 0} → ShapeModel S → RuleModel R → Ledger S R → Region S → Type 0
Sound M K l g = ((x : List ℤ) → M.holds g.shape x ≡ true → Fits K l x) × (M.holds g.shape (values_of g.point) ≡ true)

-- what a mark stored when these rules stood
abbrev pub checkpoint_of : {S R : Type 0} → ShapeModel S → RuleModel R → Home → List R → Checkpoint S
checkpoint_of M K h rs = record { shape = shape_of M K h rs; rules = length rs }

-- solver and slices are what the ledger says
pub record Ties {S R : Type 0} (M : ShapeModel S) (K : RuleModel R) (l : Ledger S R) (w : World S R) : Type 0 where
  pub of_shape : w.solver.shape ≡ shape_of M K l.home l.standing
  pub of_rules : Front w.solver.rules w.rules l.standing
  pub of_checkpoints : Front w.solver.marks w.checkpoints (reverse (map (checkpoint_of M K l.home) l.notes))
  pub of_stack : Front w.solver.waiting w.stack (reverse l.search.regions.waiting)
  pub of_phase : w.solver.phase ≡ l.search.phase
  pub of_found : l.search.phase ≡ Searching → Decides w.solver.found (l.search.regions.handed ≢ [])

-- a call: the ledger before and after it, the world and the out slice after it
pub record Called (S R : Type 0) : Type 0 where
  pub request : Request R
  pub reply : Result Reply SolverFault
  pub before : Ledger S R
  pub after : Ledger S R
  pub world : World S R
  pub out : List (Region S)

module _ {S R : Type 0} (M : ShapeModel S) (K : RuleModel R) where
  -- the call of a request, lent what w has, with the whole slices in view
  abbrev pub called : Ledger S R → World S R → List R → List (Checkpoint S) → List S → List (Region S) → Request R → Called S R
  called l w rest more deep out q = let a = answer M K w out q in record { request = q; reply = a.reply; before = l; after = noted M K l (length w.stack) q a.reply; world = whole a.world rest more deep; out = a.out }

module _ {S R : Type 0} (c : Called S R) where
  abbrev pub SearchingNow : Type 0
  SearchingNow = c.after.search.phase ≡ Searching

  -- the call was a run that answered this report
  abbrev pub RunWith : Report → Type 0
  RunWith p = ((b : ℕ) × (c.request ≡ Run b)) × (c.reply ≡ Ok (Ran p))

-- what holds for every shape
pub record Kept {S R : Type 0} (M : ShapeModel S) (K : RuleModel R) (c : Called S R) : Type 0 where
  pub ties : Ties M K c.after c.world
  -- what a run hands out stands at the front of the out slice
  pub put_out : (p : Report) → RunWith c p → c.after.search.regions.handed ≡ c.before.search.regions.handed ++ take p.count c.out
  -- every point that fits lies in exactly one region, handed out or waiting
  pub exact_cover : SearchingNow c → (x : List ℤ) → Fits K c.after x → how_many M (shapes_of c.after.search.regions.handed) x + how_many M c.after.search.regions.waiting x ≡ 1
  pub sound_regions : SearchingNow c → AllByRecursion (Sound M K c.after) c.after.search.regions.handed
  -- at done, nothing was found exactly if no point fits
  pub truthful_found : (p : Report) → RunWith c p → p.outcome ≡ Done → (p.found ≡ false) ↔ ((x : List ℤ) → Fits K c.after x → ⊥)
  -- one place more than the halvings is enough
  pub stack_suffices : c.after.search.ample ≡ true → (p : Report) → RunWith c p → p.outcome ≢ StackFull

-- what holds besides for shapes that are exact
pub record KeptLimits {S R : Type 0} (K : RuleModel R) (c : Called S R) : Type 0 where
  -- an answered limit is reached by a point within home and cuts, and exceeded by none
  pub limits_reached : (a b : ℕ) (m : ℤ) → c.request ≡ Limit a b → c.reply ≡ Ok (LimitIs m) → ((x : List ℤ) × WithinCuts K c.after x × (value x a +ℤ value x b ≡ m)) × ((x : List ℤ) → WithinCuts K c.after x → (value x a +ℤ value x b) ≤ℤ m)
  -- at nodes on the line that are not opposite, a limit is refused exactly if there is no such point, and then as that of a void shape; else it is answered
  pub truthful_refusal : (a b : ℕ) → c.request ≡ Limit a b → a < 2 * c.after.home.n → b < 2 * c.after.home.n → b ≢ opp a → ((c.reply ≡ Err Void) ↔ ((x : List ℤ) → WithinCuts K c.after x → ⊥)) × (c.reply ≢ Err Void → (m : ℤ) × (c.reply ≡ Ok (LimitIs m)))

-- all of it after any call on any history
abbrev pub Promise : {S R : Type 0} → ShapeModel S → RuleModel R → Type 0
Promise {S} {R} M K = (l : Ledger S R) (w : World S R) (rest : List R) (more : List (Checkpoint S)) (deep : List S) → History M K l (whole w rest more deep) → (out : List (Region S)) (q : Request R) → Kept M K (called M K l w rest more deep out q) × (Exact M → KeptLimits K (called M K l w rest more deep out q))
