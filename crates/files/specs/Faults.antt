-- Which fault an error of the system is told as.
use Rattle.std.specs.declared.io.ErrorKind.{ErrorKind}
use Rattle.std.specs.declared.io.ErrorKind.TheVariants.{OutOfMemory}
use Rattle.files.specs.declared.fault.OpenFault.{OpenFault}
use Rattle.files.specs.declared.fault.OpenFault.TheVariants as opening
use Rattle.files.specs.declared.fault.LoadFault.{LoadFault}
use Rattle.files.specs.declared.fault.LoadFault.TheVariants as loading

-- an opening that failed for want of memory is told so, and every other failure is the device's
abbrev pub open_fault : ErrorKind → OpenFault
open_fault OutOfMemory = opening.Memory
open_fault _ = opening.Device

-- a read that failed for want of memory is told so, and every other failure is the device's
abbrev pub load_fault : ErrorKind → LoadFault
load_fault OutOfMemory = loading.Memory
load_fault _ = loading.Device

-- a file that can't be opened is told as one that can't be read
abbrev pub unopened : OpenFault → LoadFault
unopened opening.Memory = loading.Memory
unopened opening.Device = loading.Device
