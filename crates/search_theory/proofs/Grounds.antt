-- An accepted call: none of its grounds holds. Assumes nothing.
use Rattle.std.proofs.Common.{◌≡◌, Bool, true, false, List, [], ◌∷◌, ◌++◌, Ok, Err, Result, refl, ap}
use Rattle.std.proofs.lemmas.Bool.{true≢false}
use Rattle.interface.specs.declared.fault.RecordFault.{RecordFault}
use Rattle.interface.specs.Grounds.{first_fault}
use Rattle.search_theory.specs.Calls.{Grounds, record_grounds}
use Rattle.search_theory.proofs.Cases.{err≢ok}

-- no ground of the list holds
abbrev pub NoneHold : {F : Type 0} → List (Bool × F) → Type 0
NoneHold [] = Unit {0}
NoneHold (g ∷ gs) = (g.0 ≡ false) × NoneHold gs

pub none_hold : {F : Type 0} (gs : List (Bool × F)) (u : Unit {0}) → first_fault gs ≡ Ok u → NoneHold gs
none_hold [] u e = tt
none_hold {F} (g ∷ gs) u e = by g.0 g.1 e (none_hold gs u)
  where
    by : (b : Bool) (f : F) → first_fault ((b, f) ∷ gs) ≡ Ok u → (first_fault gs ≡ Ok u → NoneHold gs) → (b ≡ false) × NoneHold gs
    by true f e more = absurd (err≢ok e)
    by false f e more = (refl, more e)

-- what stands after a record's own grounds
pub none_after_record : (c : Result (Unit {0}) RecordFault) (gs : Grounds) → NoneHold (record_grounds c ++ gs) → NoneHold gs
none_after_record (Ok u) gs h = h
none_after_record (Err f) gs h = absurd (true≢false h.0)

from_ok : {A B : Type 0} → A → Result A B → A
from_ok d (Ok a) = a
from_ok d (Err b) = d

pub ok_same : {A B : Type 0} {a b : A} → ◌≡◌ {A = Result A B} (Ok a) (Ok b) → a ≡ b
unfolding from_ok
ok_same {a} e = ap (from_ok a) e
