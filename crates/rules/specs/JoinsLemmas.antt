-- A rule of either of two keeps the laws that both keep. Assumes nothing.
use Rattle.std.specs.Prelude.{◌≡◌, ℕ, true, false, ◌≢◌, List, length, ℤ, Some, None, Err}
use Rattle.interface.specs.declared.cut.Cut.{Cut}
use Rattle.interface.specs.declared.fault.RecordFault.{RecordFault}
use Rattle.interface.specs.declared.reading.Reading.{Reading}
use Rattle.interface.specs.declared.verdict.Verdict.TheVariants.{Nothing, All, Unknown}
use Rattle.interface.specs.Cuts.{Meets}
use Rattle.interface.specs.Readings.{Within, SumsOf}
use Rattle.interface.specs.Rules.{RuleModel, RuleLaws}
use Rattle.rules.specs.declared.joined.Joined.{Joined}
use Rattle.rules.specs.declared.joined.Joined.TheVariants.{First, Second}
use Rattle.rules.specs.Joins.{joined}

-- what holds of every first and of every second holds of either
either_holds : {A B : Type 0} (P : Joined A B → Type 0) → ((a : A) → P (First a)) → ((b : B) → P (Second b)) → (r : Joined A B) → P r
either_holds P f g (First a) = f a
either_holds P f g (Second b) = g b

module _ {A B : Type 0} (K : RuleModel A) (M : RuleModel B) (L : RuleLaws K) (N : RuleLaws M) where
  abbrev J : RuleModel (Joined A B)
  J = joined K M

  pub joined_laws : RuleLaws (joined K M)
  joined_laws = record {
    failed_meets = λ n. either_holds (λ r. (f : RecordFault) → J.check n r ≡ Err f → (x : List ℤ) → J.meets n r x ≡ false) (L.failed_meets n) (N.failed_meets n);
    failed_judge = either_holds (λ r. (g : Reading) (f : RecordFault) → J.check g.n r ≡ Err f → J.judge r g ≡ Nothing) L.failed_judge N.failed_judge;
    failed_standing = λ n. either_holds (λ r. (f : RecordFault) → J.check n r ≡ Err f → J.standing n r ≡ None) (L.failed_standing n) (N.failed_standing n);
    failed_proposed = either_holds (λ r. (g : Reading) (f : RecordFault) → J.check g.n r ≡ Err f → (i : ℕ) → J.proposed r g i ≡ None) L.failed_proposed N.failed_proposed;
    nothing_meets = either_holds (λ r. (g : Reading) → J.judge r g ≡ Nothing → (x : List ℤ) → Within g x → J.meets g.n r x ≡ false) L.nothing_meets N.nothing_meets;
    all_meet = either_holds (λ r. (g : Reading) → J.judge r g ≡ All → (x : List ℤ) → Within g x → J.meets g.n r x ≡ true) L.all_meet N.all_meet;
    known_on_one = either_holds (λ r. (g : Reading) (x : List ℤ) → SumsOf g x → J.judge r g ≢ Unknown) L.known_on_one N.known_on_one;
    standing_met = λ n. either_holds (λ r. (t : Cut) → J.standing n r ≡ Some t → (x : List ℤ) → length x ≡ n → J.meets n r x ≡ true → Meets x t) (L.standing_met n) (N.standing_met n);
    proposed_met = either_holds (λ r. (g : Reading) (i : ℕ) (t : Cut) → J.proposed r g i ≡ Some t → (x : List ℤ) → Within g x → J.meets g.n r x ≡ true → Meets x t) L.proposed_met N.proposed_met;
  }
