-- Enums taken apart: each case with its equation. Assumes nothing.
use Rattle.std.proofs.Common.{◌≡◌, ◌≢◌, ◌⊎◌, Some, None, Ok, Err, Option, Result, sym, refl, subst, inl, inr}
use Rattle.interface.specs.declared.extent.Extent.{Extent}
use Rattle.interface.specs.declared.extent.Extent.TheVariants.{Void, Lone, Open}
use Rattle.interface.specs.declared.verdict.Verdict.{Verdict}
use Rattle.interface.specs.declared.verdict.Verdict.TheVariants.{Nothing, All, Unknown}
use Rattle.search_theory.specs.declared.phase.Phase.{Phase}
use Rattle.search_theory.specs.declared.phase.Phase.TheVariants.{Stating, Searching}

abbrev IsOk : {A B : Type 0} → Result A B → Type 0
IsOk (Ok a) = Unit {0}
IsOk (Err b) = ⊥

abbrev IsSome : {A : Type 0} → Option A → Type 0
IsSome (Some a) = Unit {0}
IsSome None = ⊥

abbrev IsOpen : Extent → Type 0
IsOpen Void = ⊥
IsOpen Lone = ⊥
IsOpen Open = Unit {0}

abbrev IsVoid : Extent → Type 0
IsVoid Void = Unit {0}
IsVoid Lone = ⊥
IsVoid Open = ⊥

abbrev IsNothing : Verdict → Type 0
IsNothing Nothing = Unit {0}
IsNothing All = ⊥
IsNothing Unknown = ⊥

abbrev IsAll : Verdict → Type 0
IsAll Nothing = ⊥
IsAll All = Unit {0}
IsAll Unknown = ⊥

abbrev IsSearching : Phase → Type 0
IsSearching Stating = ⊥
IsSearching Searching = Unit {0}

pub ok≢err : {A B : Type 0} {a : A} {b : B} → Ok a ≡ Err b → ⊥
ok≢err e = subst IsOk e tt

pub err≢ok : {A B : Type 0} {a : A} {b : B} → Err b ≡ Ok a → ⊥
err≢ok e = ok≢err (sym e)

pub some≢none : {A : Type 0} {a : A} → Some a ≡ None → ⊥
some≢none e = subst IsSome e tt

pub none≢some : {A : Type 0} {a : A} → None ≡ Some a → ⊥
none≢some e = some≢none (sym e)

pub open≢void : Open ≢ Void
open≢void e = subst IsOpen e tt

pub open≢lone : Open ≢ Lone
open≢lone e = subst IsOpen e tt

pub void≢lone : Void ≢ Lone
void≢lone e = subst IsVoid e tt

pub void≢open : Void ≢ Open
void≢open e = subst IsVoid e tt

pub lone≢open : Lone ≢ Open
lone≢open e = open≢lone (sym e)

pub lone≢void : Lone ≢ Void
lone≢void e = void≢lone (sym e)

pub nothing≢all : Nothing ≢ All
nothing≢all e = subst IsNothing e tt

pub nothing≢unknown : Nothing ≢ Unknown
nothing≢unknown e = subst IsNothing e tt

pub all≢unknown : All ≢ Unknown
all≢unknown e = subst IsAll e tt

pub all≢nothing : All ≢ Nothing
all≢nothing e = subst IsAll e tt

pub unknown≢nothing : Unknown ≢ Nothing
unknown≢nothing e = nothing≢unknown (sym e)

pub unknown≢all : Unknown ≢ All
unknown≢all e = all≢unknown (sym e)

pub stating≢searching : Stating ≢ Searching
stating≢searching e = subst IsSearching (sym e) tt

pub cases_open : (e : Extent) → (e ≡ Open) ⊎ (e ≢ Open)
cases_open Void = inr void≢open
cases_open Lone = inr lone≢open
cases_open Open = inl refl
