-- What a rule means: its answers and its laws. Assumes nothing.
use Rattle.std.specs.Prelude.{◌≡◌, ℕ, Bool, true, false, ◌≢◌, List, length, ℤ, Some, None, Err, Option, Result}
use Rattle.interface.specs.declared.cut.Cut.{Cut}
use Rattle.interface.specs.declared.fault.RecordFault.{RecordFault}
use Rattle.interface.specs.declared.reading.Reading.{Reading}
use Rattle.interface.specs.declared.verdict.Verdict.{Verdict}
use Rattle.interface.specs.declared.verdict.Verdict.TheVariants.{Nothing, All, Unknown}
use Rattle.interface.specs.Cuts.{Meets}
use Rattle.interface.specs.Readings.{Within, SumsOf}

-- a rule's answer to each question, on every value of its type; n is how many settings the line has
pub record RuleModel (R : Type 0) : Type 0 where
  pub check : ℕ → R → Result (Unit {0}) RecordFault
  pub meets : ℕ → R → List ℤ → Bool
  pub judge : R → Reading → Verdict
  pub standing : ℕ → R → Option Cut
  pub proposed : R → Reading → ℕ → Option Cut

-- the meaning of a rule, a field for each sentence
pub record RuleLaws {R : Type 0} (K : RuleModel R) : Type 0 where
  -- a record that fails its check is never met, is judged nothing and proposes no cut
  pub failed_meets : (n : ℕ) (r : R) (f : RecordFault) → K.check n r ≡ Err f → (x : List ℤ) → K.meets n r x ≡ false
  pub failed_judge : (r : R) (g : Reading) (f : RecordFault) → K.check g.n r ≡ Err f → K.judge r g ≡ Nothing
  pub failed_standing : (n : ℕ) (r : R) (f : RecordFault) → K.check n r ≡ Err f → K.standing n r ≡ None
  pub failed_proposed : (r : R) (g : Reading) (f : RecordFault) → K.check g.n r ≡ Err f → (i : ℕ) → K.proposed r g i ≡ None
  -- judged nothing only if no point within the reading meets it, all only if every one does, and one of both on one point's exact sums
  pub nothing_meets : (r : R) (g : Reading) → K.judge r g ≡ Nothing → (x : List ℤ) → Within g x → K.meets g.n r x ≡ false
  pub all_meet : (r : R) (g : Reading) → K.judge r g ≡ All → (x : List ℤ) → Within g x → K.meets g.n r x ≡ true
  pub known_on_one : (r : R) (g : Reading) (x : List ℤ) → SumsOf g x → K.judge r g ≢ Unknown
  -- the standing cut is met by every point that meets the rule, a proposed one by every such point within the reading
  pub standing_met : (n : ℕ) (r : R) (t : Cut) → K.standing n r ≡ Some t → (x : List ℤ) → length x ≡ n → K.meets n r x ≡ true → Meets x t
  pub proposed_met : (r : R) (g : Reading) (i : ℕ) (t : Cut) → K.proposed r g i ≡ Some t → (x : List ℤ) → Within g x → K.meets g.n r x ≡ true → Meets x t
