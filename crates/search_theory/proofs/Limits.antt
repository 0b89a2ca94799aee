-- The limits of an exact shape: the solver's shape holds exactly the points within home and standing cuts. Assumes nothing.
use Rattle.std.proofs.Common.{◌≡◌, ℕ, ◌*◌, ◌<◌, Bool, true, false, eqb, leb, ◌≢◌, ◌↔◌, List, [], ◌∷◌, length, ℤ, ◌+ℤ◌, ◌≤ℤ◌, Ok, Err, Result, sym, refl, ap, ◌∙◌, subst, ⊎_elim}
use Rattle.std.proofs.lemmas.Bool.{cases_Bool, leb-false, lt-leb, eqb-false, ne_eqb, both_ways, true≢false, false≢true}
use Rattle.interface.specs.declared.extent.Extent.{Extent}
use Rattle.interface.specs.declared.extent.Extent.TheVariants.{Void as Empty, Lone, Open}
use Rattle.interface.specs.declared.fault.RecordFault.TheVariants.{Node, Clash}
use Rattle.interface.specs.declared.fault.SolverFault.{SolverFault}
use Rattle.interface.specs.declared.fault.SolverFault.TheVariants.{Record, Void}
use Rattle.interface.specs.Grounds.{first_fault}
use Rattle.interface.specs.Nodes.{opp, value}
use Rattle.interface.specs.Rules.{RuleModel, RuleLaws}
use Rattle.interface.specs.Shapes.{ShapeModel, ShapeLaws, Exact}
use Rattle.search_theory.specs.declared.checkpoint.Checkpoint.{Checkpoint}
use Rattle.search_theory.specs.declared.region.Region.{Region}
use Rattle.search_theory.specs.declared.reply.Reply.{Reply}
use Rattle.search_theory.specs.declared.reply.Reply.TheVariants.{Accepted, Ran, LimitIs}
use Rattle.search_theory.specs.declared.request.Request.{Request}
use Rattle.search_theory.specs.declared.request.Request.TheVariants.{Limit}
use Rattle.search_theory.specs.Calls.{Grounds, limit_call, limit_grounds}
use Rattle.search_theory.specs.Ledgers.{Ledger, noted}
use Rattle.search_theory.specs.Promise.{WithinCuts, Called, called, KeptLimits}
use Rattle.search_theory.specs.Regions.{is_void}
use Rattle.search_theory.specs.Requests.{World, whole, replied}
use Rattle.search_theory.specs.Solving.{Solving, decided}
use Rattle.search_theory.specs.Standing.{standing_cuts, shape_of}
use Rattle.search_theory.proofs.Cases.{ok≢err, err≢ok}
use Rattle.search_theory.proofs.Counting.{false_if_not}
use Rattle.search_theory.proofs.Grounds.{none_hold, ok_same}
use Rattle.search_theory.proofs.Invariant.{Inv}
use Rattle.search_theory.proofs.Standing.{shape_made, shape_n}

limit_in : ℤ → Reply → ℤ
limit_in d Accepted = d
limit_in d (Ran p) = d
limit_in d (LimitIs z) = z

limit_same : (y z : ℤ) → LimitIs y ≡ LimitIs z → y ≡ z
unfolding limit_in
limit_same y z e = ap (limit_in y) e

replied_limit : (r : Result ℤ SolverFault) (z : ℤ) → replied LimitIs r ≡ Ok (LimitIs z) → r ≡ Ok z
replied_limit (Ok y) z e = ap Ok (limit_same y z (ok_same e))
replied_limit (Err f) z e = absurd (err≢ok e)

void_if : (e : Extent) → is_void e ≡ true → e ≡ Empty
void_if Empty h = refl
void_if Lone h = absurd (false≢true h)
void_if Open h = absurd (false≢true h)

skip : {F : Type 0} (b : Bool) (f : F) (gs : List (Bool × F)) → b ≡ false → first_fault ((b, f) ∷ gs) ≡ first_fault gs
skip true f gs e = absurd (true≢false e)
skip false f gs e = refl

-- an answered limit is that of a shape that is not void, at nodes on the line that are not opposite
module _ {S : Type 0} (M : ShapeModel S) (s : Solving S) (a b : ℕ) where
  answered_if : (g : Result (Unit {0}) SolverFault) → first_fault (limit_grounds M s a b) ≡ g → (m : ℤ) → decided g Err (Ok (M.limit s.shape a b)) ≡ Ok m → (a < 2 * M.n s.shape) × (b < 2 * M.n s.shape) × (b ≢ opp a) × (M.extent s.shape ≢ Empty) × (M.limit s.shape a b ≡ m)
  answered_if (Err f) e m d = absurd (err≢ok d)
  answered_if (Ok u) e m d =
      let h = none_hold (limit_grounds M s a b) u e in (
        leb-false _ _ h.0,
        leb-false _ _ h.1.0,
        eqb-false _ _ h.1.1.0,
        λ z. both_ways _ h.1.1.1.0 (ap is_void z),
        ok_same d,
      )

  -- at such nodes only a void shape is refused
  decided_by_void : a < 2 * M.n s.shape → b < 2 * M.n s.shape → b ≢ opp a → (v : Bool) → is_void (M.extent s.shape) ≡ v → limit_call M s a b ≡ decided (first_fault ((v, Void) ∷ [])) Err (Ok (M.limit s.shape a b))
  decided_by_void ha hb hab v e =
      let answer : Result (Unit {0}) SolverFault → Result ℤ SolverFault = λ g. decided g Err (Ok (M.limit s.shape a b)) in
      let last : Grounds = (is_void (M.extent s.shape), Void) ∷ [] in
      let third : Grounds = (eqb b (opp a), Record (Clash 3)) ∷ last in
      let second : Grounds = (leb (2 * M.n s.shape) b, Record (Node 3)) ∷ third in
      ap answer (skip (leb (2 * M.n s.shape) a) (Record (Node 2)) second (lt-leb _ _ ha) ∙ skip (leb (2 * M.n s.shape) b) (Record (Node 3)) third (lt-leb _ _ hb) ∙ skip (eqb b (opp a)) (Record (Clash 3)) last (ne_eqb _ _ hab) ∙ ap (λ x. first_fault ((x, Void) ∷ [])) e)

module _ {S R : Type 0} {M : ShapeModel S} {K : RuleModel R} (L : ShapeLaws M) (J : RuleLaws K) (exact : Exact M) (l : Ledger S R) (w : World S R) (rest : List R) (more : List (Checkpoint S)) (deep : List S) (inv : Inv M K l (whole w rest more deep)) (out : List (Region S)) where
  abbrev shape : S
  shape = w.solver.shape

  abbrev cuts : S
  cuts = shape_of M K l.home l.standing

  is_shape : shape ≡ cuts
  is_shape = inv.ties.of_shape

  has_n : M.n shape ≡ l.home.n
  has_n = ap M.n is_shape ∙ shape_n L J l.home inv.passes l.standing

  within : (x : List ℤ) → M.holds cuts x ≡ true → WithinCuts K l x
  within x h = (exact.exact_holds l.home inv.passes (standing_cuts K l.home.n l.standing) x).0 h

  held : (x : List ℤ) → WithinCuts K l x → M.holds cuts x ≡ true
  held x h = (exact.exact_holds l.home inv.passes (standing_cuts K l.home.n l.standing) x).1 h

  abbrev Reached : ℕ → ℕ → ℤ → Ledger S R → Type 0
  Reached a b m k = ((x : List ℤ) × WithinCuts K k x × (value x a +ℤ value x b ≡ m)) × ((x : List ℤ) → WithinCuts K k x → (value x a +ℤ value x b) ≤ℤ m)

  reached : (a b : ℕ) (m : ℤ) → limit_call M w.solver a b ≡ Ok m → Reached a b m l
  reached a b m e =
      let f = answered_if M w.solver a b (first_fault (limit_grounds M w.solver a b)) refl m e in
      let ha : a < 2 * l.home.n = subst (λ n. a < 2 * n) has_n f.0 in
      let hb : b < 2 * l.home.n = subst (λ n. b < 2 * n) has_n f.1 in
      let filled : M.extent cuts ≢ Empty = λ z. f.3 (ap M.extent is_shape ∙ z) in
      let is_m : M.limit cuts a b ≡ m = ap (λ t. M.limit t a b) (sym is_shape) ∙ f.4 in
      let x = exact.exact_limit l.home inv.passes (standing_cuts K l.home.n l.standing) filled a b ha hb f.2 in
      let n = shape_n L J l.home inv.passes l.standing in
      ((x.0, within x.0 x.1, x.2 ∙ is_m), λ y h. subst (λ z. (value y a +ℤ value y b) ≤ℤ z) is_m (L.limit_above cuts (shape_made L J l.home inv.passes l.standing) y (held y h) a b (subst (λ k. a < 2 * k) (sym n) ha) (subst (λ k. b < 2 * k) (sym n) hb)))

  abbrev Refusal : Ledger S R → Result Reply SolverFault → Type 0
  Refusal k r = ((r ≡ Err Void) ↔ ((x : List ℤ) → WithinCuts K k x → ⊥)) × (r ≢ Err Void → (m : ℤ) × (r ≡ Ok (LimitIs m)))

  refusal : (a b : ℕ) → a < 2 * l.home.n → b < 2 * l.home.n → b ≢ opp a → Refusal l (replied LimitIs (limit_call M w.solver a b))
  refusal a b ha hb hab =
      let by = decided_by_void M w.solver a b (subst (λ n. a < 2 * n) (sym has_n) ha) (subst (λ n. b < 2 * n) (sym has_n) hb) hab in
      ⊎_elim (λ v. subst (λ r. Refusal l (replied LimitIs r)) (sym (by true v)) (when_void (void_if _ v))) (λ v. subst (λ r. Refusal l (replied LimitIs r)) (sym (by false v)) (when_filled v)) (cases_Bool (is_void (M.extent shape)))
    where
      when_void : M.extent shape ≡ Empty → Refusal l (Err Void)
      when_void e = ((λ z x h. both_ways _ (L.void_holds cuts (shape_made L J l.home inv.passes l.standing) (ap M.extent (sym is_shape) ∙ e) x) (held x h), λ z. refl), λ z. absurd (z refl))

      when_filled : is_void (M.extent shape) ≡ false → Refusal l (Ok (LimitIs (M.limit shape a b)))
      when_filled v = (
        (
          λ z. absurd (ok≢err z),
          λ none. absurd (both_ways _ v (ap is_void (ap M.extent is_shape ∙ exact.exact_void l.home inv.passes (standing_cuts K l.home.n l.standing) (λ x. false_if_not _ (λ h. none x (within x h)))))),
        ),
        λ z. (M.limit shape a b, refl),
      )

  -- a limit changes nothing in the ledger
  same_ledger : (a b : ℕ) (r : Result Reply SolverFault) → noted M K l (length w.stack) (Limit a b) r ≡ l
  same_ledger a b (Ok z) = refl
  same_ledger a b (Err f) = refl

  abbrev at : Request R → Called S R
  at q = called M K l w rest more deep out q

  pub kept_limits : (q : Request R) → KeptLimits K (at q)
  kept_limits q = record {
    limits_reached = λ a b m e. subst (λ q. (at q).reply ≡ Ok (LimitIs m) → Reached a b m (at q).after) (sym e) (λ r. subst (Reached a b m) (sym (same_ledger a b _)) (reached a b m (replied_limit _ m r)));
    truthful_refusal = λ a b e. subst (λ q. a < 2 * (at q).after.home.n → b < 2 * (at q).after.home.n → b ≢ opp a → Refusal (at q).after (at q).reply) (sym e) (subst (λ k. a < 2 * k.home.n → b < 2 * k.home.n → b ≢ opp a → Refusal k (at (Limit a b)).reply) (sym (same_ledger a b _)) (refusal a b));
  }
