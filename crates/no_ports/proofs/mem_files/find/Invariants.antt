use Rattle.std.proofs.Common.{◌≡◌, drop}
use Rattle.no_ports.specs.Memory.{entries, file_of}
use Rattle.no_ports.proofs.mem_files.find.Given as goal

-- what was passed by has another name
abbrev pub invariant-loop-other : goal.invariant-loop-other
invariant-loop-other l = file_of (entries (drop l.other-index l.files)) l.name ≡ file_of (entries l.files) l.name
