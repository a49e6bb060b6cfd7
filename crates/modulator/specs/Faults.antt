-- The numbers of the refusals. Assumes nothing.
use Rattle.std.specs.Prelude.{ℕ}
use Rattle.modulator.specs.declared.fault.ModulatorFault.{ModulatorFault}
use Rattle.modulator.specs.declared.fault.ModulatorFault.TheVariants.{Length, Slots, Frame}

abbrev pub number : ModulatorFault → ℕ
number Length = 8
number Slots = 9
number Frame = 10
