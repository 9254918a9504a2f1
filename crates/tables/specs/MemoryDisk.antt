-- What a file in memory holds, and how many of its calls failed.
use Rattle.std.specs.Prelude.{ℕ, List}
use Rattle.tables.specs.declared.memory_disk.MemoryDisk.{MemoryDisk}

abbrev pub bytes_of : MemoryDisk → List ℕ
bytes_of disk = disk.bytes.items

abbrev pub faults_of : MemoryDisk → ℕ
faults_of disk = disk.faults
