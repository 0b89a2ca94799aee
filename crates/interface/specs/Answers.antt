-- The enums that are answers: each case with its number. Assumes nothing.
use Rattle.std.specs.Prelude.{ℕ}
use Rattle.interface.specs.declared.extent.Extent.{Extent}
use Rattle.interface.specs.declared.extent.Extent.TheVariants.{Void, Lone, Open}
use Rattle.interface.specs.declared.verdict.Verdict.{Verdict}
use Rattle.interface.specs.declared.verdict.Verdict.TheVariants.{Nothing, All, Unknown}

abbrev pub extent_number : Extent → ℕ
extent_number Void = 0
extent_number Lone = 1
extent_number Open = 2

abbrev pub verdict_number : Verdict → ℕ
verdict_number Nothing = 0
verdict_number All = 1
verdict_number Unknown = 2
