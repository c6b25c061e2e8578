use Rattle.std.proofs.Common.{◌≡◌, ◌+◌, ◌-◌, ◌*◌, ◌++◌, ◌≤◌, None, drop, length, vec_capacity}
use Rattle.diva_image.specs.Elf.{load_fault, loaded_from, program_header_size, program_headers_in}
use Rattle.diva_image.proofs.elf.append_loads.Given as goal

abbrev pub invariant-loop-at : goal.invariant-loop-at
invariant-loop-at l =
    let rest = program_headers_in (l.count - l.at) (drop (program_header_size * l.at) l.table) in
    record {
      made : loaded_from l.base (program_headers_in l.count l.table) l.bytes
          ≡ l.memory.items ++ loaded_from (l.base + length l.memory.items) rest l.bytes;
      room : length (loaded_from l.base (program_headers_in l.count l.table) l.bytes) ≤ vec_capacity l.memory;
      fits : load_fault (l.base + length l.memory.items) (length l.bytes) 0 rest ≡ None;
    }
