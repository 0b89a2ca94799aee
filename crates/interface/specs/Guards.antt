-- A rule from its core: what it answers of a record that passes its check, and what its core has to show. Assumes nothing.
use Rattle.std.specs.Prelude.{◌≡◌, ℕ, Bool, true, false, cond, ◌&&◌, List, [], ◌∷◌, length, ℤ, is_ok, Some, None, Option}
use Rattle.interface.specs.declared.cut.Cut.{Cut}
use Rattle.interface.specs.declared.fault.RecordFault.{RecordFault}
use Rattle.interface.specs.declared.reading.Reading.{Reading}
use Rattle.interface.specs.declared.verdict.Verdict.{Verdict}
use Rattle.interface.specs.declared.verdict.Verdict.TheVariants.{Nothing, All, Unknown}
use Rattle.interface.specs.Cuts.{Meets}
use Rattle.interface.specs.Grounds.{first_fault}
use Rattle.interface.specs.Readings.{Within, SumsOf}
use Rattle.interface.specs.Rules.{RuleModel}

-- the grounds that refuse a record on a line of n settings, in their order, and the answers where none holds
pub record CoreModel (R : Type 0) : Type 0 where
  pub grounds : ℕ → R → List (Bool × RecordFault)
  pub meets : R → List ℤ → Bool
  -- no point within the reading meets the rule
  pub none_within : R → Reading → Bool
  -- every point within the reading meets it
  pub all_within : R → Reading → Bool
  pub standing : R → Option Cut
  pub proposed : R → Reading → ℕ → Option Cut

-- nothing is tried before all
abbrev pub verdict : Bool → Bool → Verdict
verdict nothing all = cond nothing Nothing (cond all All Unknown)

-- the record makes sense on a line of n settings
abbrev pub passes : {R : Type 0} → CoreModel R → ℕ → R → Bool
passes K n r = is_ok (first_fault (K.grounds n r))

-- a record that fails its check is never met, is judged nothing and proposes no cut
abbrev pub guarded : {R : Type 0} → CoreModel R → RuleModel R
guarded K = record {
  check = λ n r. first_fault (K.grounds n r);
  meets = λ n r x. passes K n r && K.meets r x;
  judge = λ r g. cond (passes K g.n r) (verdict (K.none_within r g) (K.all_within r g)) Nothing;
  standing = λ n r. cond (passes K n r) (K.standing r) None;
  proposed = λ r g i. cond (passes K g.n r) (K.proposed r g i) None;
}

-- no ground of the list holds
abbrev pub Clear : List (Bool × RecordFault) → Type 0
Clear [] = Unit {0}
Clear (g ∷ gs) = (g.0 ≡ false) × Clear gs

-- what the core of a rule has to show, of a record that passes its check
pub record CoreLaws {R : Type 0} (K : CoreModel R) : Type 0 where
  pub none_meets : (r : R) (g : Reading) → Clear (K.grounds g.n r) → K.none_within r g ≡ true → (x : List ℤ) → Within g x → K.meets r x ≡ false
  pub all_meet : (r : R) (g : Reading) → Clear (K.grounds g.n r) → K.all_within r g ≡ true → (x : List ℤ) → Within g x → K.meets r x ≡ true
  pub known : (r : R) (g : Reading) → Clear (K.grounds g.n r) → (x : List ℤ) → SumsOf g x → K.none_within r g ≡ false → K.all_within r g ≡ false → ⊥
  pub standing_met : (n : ℕ) (r : R) → Clear (K.grounds n r) → (t : Cut) → K.standing r ≡ Some t → (x : List ℤ) → length x ≡ n → K.meets r x ≡ true → Meets x t
  pub proposed_met : (r : R) (g : Reading) → Clear (K.grounds g.n r) → (i : ℕ) (t : Cut) → K.proposed r g i ≡ Some t → (x : List ℤ) → Within g x → K.meets r x ≡ true → Meets x t
