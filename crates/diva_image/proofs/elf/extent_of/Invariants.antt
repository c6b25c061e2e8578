use Rattle.std.proofs.Common.{◌≡◌, ◌+◌, ◌-◌, ◌*◌, drop}
use Rattle.std.specs.Option.{option_or}
use Rattle.diva_image.specs.Elf.{end_of_loads, first_load, load_fault, program_header_size, program_headers_in}
use Rattle.diva_image.specs.Inner.{end_of_bytes}
use Rattle.diva_image.proofs.elf.extent_of.Given as goal

abbrev pub invariant-loop-at : goal.invariant-loop-at
invariant-loop-at l =
    let all = program_headers_in l.header.e_phnum l.table in
    let rest = program_headers_in (l.header.e_phnum - l.at) (drop (program_header_size * l.at) l.table) in
    record {
      fault : load_fault 0 l.len l.header.e_phoff all ≡ load_fault l.extent.end l.len (l.header.e_phoff + program_header_size * l.at) rest;
      first : first_load all ≡ option_or l.extent.first (first_load rest);
      end : end_of_loads 0 all ≡ end_of_loads l.extent.end rest;
      filled : end_of_bytes 0 all ≡ end_of_bytes l.extent.filled rest;
    }
