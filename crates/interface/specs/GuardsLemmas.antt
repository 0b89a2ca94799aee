-- The laws of a guarded rule from those of its core: a failing record answers by its guard alone. Assumes nothing.
use Rattle.std.proofs.Common.{◌≡◌, ℕ, Bool, true, false, cond, ◌&&◌, List, [], ◌∷◌, length, ℤ, is_ok, Some, None, Ok, refl, ap}
use Rattle.std.proofs.lemmas.Bool.{and_left, cond-false, false≢true}
use Rattle.interface.specs.declared.cut.Cut.{Cut}
use Rattle.interface.specs.declared.fault.RecordFault.{RecordFault}
use Rattle.interface.specs.declared.reading.Reading.{Reading}
use Rattle.interface.specs.declared.verdict.Verdict.TheVariants.{Nothing, All, Unknown}
use Rattle.interface.specs.Cuts.{Meets}
use Rattle.interface.specs.Grounds.{first_fault}
use Rattle.interface.specs.Readings.{Within, SumsOf}
use Rattle.interface.specs.Rules.{RuleLaws}
use Rattle.interface.specs.Guards.{CoreModel, CoreLaws, Clear, verdict, passes, guarded}

clear : (gs : List (Bool × RecordFault)) → is_ok (first_fault gs) ≡ true → Clear gs
clear [] e = tt
clear (g ∷ gs) e = by g.0 (clear gs) e
  where
    by : (b : Bool) → (is_ok (first_fault gs) ≡ true → Clear gs) → is_ok (first_fault ((b, g.1) ∷ gs)) ≡ true → (b ≡ false) × Clear gs
    by true more h = absurd (false≢true h)
    by false more h = (refl, more h)

pub clear_ok : (gs : List (Bool × RecordFault)) → first_fault gs ≡ Ok tt → Clear gs
clear_ok gs e = clear gs (ap is_ok e)

judged_nothing : (o a : Bool) → verdict o a ≡ Nothing → o ≡ true
judged_nothing true a e = refl
judged_nothing false true e = absurd cc
judged_nothing false false e = absurd cc

judged_all : (o a : Bool) → verdict o a ≡ All → a ≡ true
judged_all true a e = absurd cc
judged_all false true e = refl
judged_all false false e = absurd cc

judged_unknown : (o a : Bool) → verdict o a ≡ Unknown → (o ≡ false) × (a ≡ false)
judged_unknown true a e = absurd cc
judged_unknown false true e = absurd cc
judged_unknown false false e = (refl, refl)

module _ {R : Type 0} (K : CoreModel R) (L : CoreLaws K) where
  nothing_meets : (r : R) (g : Reading) (b : Bool) → passes K g.n r ≡ b → cond b (verdict (K.none_within r g) (K.all_within r g)) Nothing ≡ Nothing → (x : List ℤ) → Within g x → (b && K.meets r x) ≡ false
  nothing_meets r g true p e x w = L.none_meets r g (clear _ p) (judged_nothing _ _ e) x w
  nothing_meets r g false p e x w = refl

  all_meet : (r : R) (g : Reading) (b : Bool) → passes K g.n r ≡ b → cond b (verdict (K.none_within r g) (K.all_within r g)) Nothing ≡ All → (x : List ℤ) → Within g x → (b && K.meets r x) ≡ true
  all_meet r g true p e x w = L.all_meet r g (clear _ p) (judged_all _ _ e) x w
  all_meet r g false p e x w = absurd cc

  known : (r : R) (g : Reading) (b : Bool) → passes K g.n r ≡ b → (x : List ℤ) → SumsOf g x → cond b (verdict (K.none_within r g) (K.all_within r g)) Nothing ≡ Unknown → ⊥
  known r g true p x s e = let u = judged_unknown _ _ e in L.known r g (clear _ p) x s u.0 u.1
  known r g false p x s e = cc

  standing_met : (n : ℕ) (r : R) (b : Bool) → passes K n r ≡ b → (t : Cut) → cond b (K.standing r) None ≡ Some t → (x : List ℤ) → length x ≡ n → (b && K.meets r x) ≡ true → Meets x t
  standing_met n r true p t e x l m = L.standing_met n r (clear _ p) t e x l m
  standing_met n r false p t e x l m = absurd (false≢true m)

  proposed_met : (r : R) (g : Reading) (b : Bool) → passes K g.n r ≡ b → (i : ℕ) (t : Cut) → cond b (K.proposed r g i) None ≡ Some t → (x : List ℤ) → Within g x → (b && K.meets r x) ≡ true → Meets x t
  proposed_met r g true p i t e x w m = L.proposed_met r g (clear _ p) i t e x w m
  proposed_met r g false p i t e x w m = absurd (false≢true m)

  pub guarded_laws : RuleLaws (guarded K)
  guarded_laws = record {
    failed_meets = λ n r f e x. and_left _ _ (ap is_ok e);
    failed_judge = λ r g f e. cond-false _ _ _ (ap is_ok e);
    failed_standing = λ n r f e. cond-false _ _ _ (ap is_ok e);
    failed_proposed = λ r g f e i. cond-false _ _ _ (ap is_ok e);
    nothing_meets = λ r g e x w. nothing_meets r g (passes K g.n r) refl e x w;
    all_meet = λ r g e x w. all_meet r g (passes K g.n r) refl e x w;
    known_on_one = λ r g x s e. known r g (passes K g.n r) refl x s e;
    standing_met = λ n r t e x l m. standing_met n r (passes K n r) refl t e x l m;
    proposed_met = λ r g i t e x w m. proposed_met r g (passes K g.n r) refl i t e x w m;
  }
