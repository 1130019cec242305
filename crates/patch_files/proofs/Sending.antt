-- A file's device crosses threads.
use denote.RattleType.{RattleType}
use denote.Param.Send.{IsSend, sendable}
use Rattle.std.proofs.Crossing.{crosses}
use Rattle.patch_device.specs.contracts.files.FileDevice as FileDevice

pub file_send : (F : RattleType) → IsSend F → IsSend (FileDevice.the_row F)
file_send F s = search (crosses, sendable) depth 40
