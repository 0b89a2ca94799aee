-- Grounds for a refusal, in their order: the first that holds decides. Assumes nothing.
use Rattle.std.specs.Prelude.{Bool, cond, List, [], ◌∷◌, Ok, Err, Result}

-- accepted, or refused with the fault of the first ground whose condition holds
abbrev pub first_fault : {F : Type 0} → List (Bool × F) → Result (Unit {0}) F
first_fault [] = Ok tt
first_fault (g ∷ gs) = cond g.0 (Err g.1) (first_fault gs)

-- what the first check answers, and where it accepts, what the second does
abbrev pub next : {F : Type 0} → Result (Unit {0}) F → Result (Unit {0}) F → Result (Unit {0}) F
next (Ok u) r = r
next (Err f) r = Err f
