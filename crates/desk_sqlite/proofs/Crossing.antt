-- A store in a file may go to another thread, as the connection within may.
use denote.RattleType.{RattleType}
use denote.Param.Send.{IsSend, sendable}
use Rattle.std.proofs.Crossing.{crosses}
use Rattle.sqlite_std_file.specs.contracts.host.Host as Host
use Rattle.sqlite_std_file.specs.contracts.host.HostCalls.TheImpl as HostCalls
use Rattle.sqlite_disk.specs.contracts.start.Unknown as Unknown
use Rattle.sqlite_disk.specs.contracts.start.UnknownStart.TheImpl as UnknownStart
use Rattle.sqlite_disk.specs.contracts.modelled.Modelled as Modelled
use Rattle.sqlite_disk.specs.contracts.modelled.ModelledDisk.TheImpl as ModelledDisk
use Rattle.sqlite_disk.proofs.modelled.Modelled.TheSendSync as file
use Rattle.sqlite_disk.specs.declared.Disk.{Ghosts}
use Rattle.desk_sqlite.specs.contracts.file_keeper.FileKeeper.{the_row}
use Rattle.desk_sqlite.proofs.file_keeper.FileKeeper.TheSendSync as file_keeper

abbrev File : RattleType
File = Modelled.the_row Host.the_row Unknown.the_row HostCalls.ghosts UnknownStart.ghosts

abbrev disk : Ghosts File.Denot
disk = ModelledDisk.ghosts Host.the_row Unknown.the_row HostCalls.ghosts ModelledDisk.no_dict UnknownStart.ghosts ModelledDisk.no_dict ModelledDisk.no_dict

-- a store in a file
abbrev pub Kept : RattleType
Kept = the_row File disk

host_send : IsSend Host.the_row
host_send = search (sendable, crosses) depth 20

file_send : IsSend File
file_send = file.the_send Host.the_row Unknown.the_row HostCalls.ghosts UnknownStart.ghosts host_send

pub file_keeper_send : IsSend Kept
file_keeper_send = file_keeper.the_send File disk file_send
