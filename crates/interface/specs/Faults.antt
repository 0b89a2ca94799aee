-- The one table of faults: every case with its number, its layer (1 text, 2 frame, 3 record, 4 solver) and its place. Assumes nothing.
use Rattle.std.specs.Prelude.{ℕ}
use Rattle.interface.specs.declared.fault.Code.{Code}
use Rattle.interface.specs.declared.fault.TextFault.{TextFault}
use Rattle.interface.specs.declared.fault.TextFault.TheVariants.{Size, Byte, Long, Digits, Unended}
use Rattle.interface.specs.declared.fault.FrameFault.{FrameFault}
use Rattle.interface.specs.declared.fault.FrameFault.TheVariants.{Text, Kind, Order, Length}
use Rattle.interface.specs.declared.fault.RecordFault.{RecordFault}
use Rattle.interface.specs.declared.fault.RecordFault.TheVariants.{Frame, Settings, Range, Crossed, Node, Clash, Number, Empty}
use Rattle.interface.specs.declared.fault.SolverFault.{SolverFault}
use Rattle.interface.specs.declared.fault.SolverFault.TheVariants.{Record, Rules, Phase, Short, Unmarked, Marks, Stack, Void}

abbrev coded : ℕ → ℕ → ℕ → Code
coded n l p = record { number = n; layer = l; place = p }

abbrev pub text_code : TextFault → Code
text_code Size = coded 1 1 0
text_code (Byte p) = coded 2 1 p
text_code (Long p) = coded 3 1 p
text_code (Digits p) = coded 4 1 p
text_code (Unended p) = coded 5 1 p

abbrev pub frame_code : FrameFault → Code
frame_code (Text f) = text_code f
frame_code (Kind p) = coded 6 2 p
frame_code (Order p) = coded 7 2 p
frame_code (Length p) = coded 8 2 p

abbrev pub record_code : RecordFault → Code
record_code (Frame f) = frame_code f
record_code (Settings p) = coded 9 3 p
record_code (Range p) = coded 10 3 p
record_code (Crossed p) = coded 11 3 p
record_code (Node p) = coded 12 3 p
record_code (Clash p) = coded 13 3 p
record_code (Number p) = coded 14 3 p
record_code (Empty p) = coded 15 3 p

abbrev pub solver_code : SolverFault → Code
solver_code (Record f) = record_code f
solver_code Rules = coded 16 4 0
solver_code Phase = coded 17 4 0
solver_code Short = coded 18 4 0
solver_code Unmarked = coded 19 4 0
solver_code Marks = coded 20 4 0
solver_code Stack = coded 21 4 0
solver_code Void = coded 22 4 0
