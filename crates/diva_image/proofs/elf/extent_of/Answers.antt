-- One program header after another.
use Rattle.std.proofs.Common.{◌≡◌, ◌+◌, ◌*◌, ℕ, List, arith, ap, sym, ◌∙◌}
use Rattle.std.specs.Option.{option_or}
use Rattle.std.proofs.lemmas.List.{take_rest}
use Rattle.diva_image.specs.Elf.{end_of_loads, first_load, load_fault, program_header_size}
use Rattle.diva_image.specs.Inner.{end_of_bytes}
use Rattle.diva_image.specs.declared.elf_header.ProgramHeader.{ProgramHeader}
use Rattle.diva_image.proofs.Loads.{headers_from, next_header, no_fault, none_left, option_or_none}
use Rattle.diva_image.proofs.elf.extent_of.Goals as goal

pub returns-in-Err-clause-fault : goal.returns-in-Err-clause-fault
returns-in-Err-clause-fault c =
    let at = c.loop-at.at in
    let rest = headers_from c.args.header.now.e_phnum (at + 1) c.args.table.now in
    let next = next_header c.args.header.now.e_phnum at c.args.table.now c.read-program_header.result c.loop-at-test.true (rw take_rest at c.read-program_header.ensures) in
    c.loop-at.invariant.fault ∙ ap (load_fault c.loop-at.extent.end c.args.len (c.args.header.now.e_phoff + program_header_size * at)) next ∙ c.in-Err.ensures.fault rest

pub loop-at-preserved : goal.loop-at-preserved
loop-at-preserved c =
    let at = c.loop-at.at in
    let rest = headers_from c.args.header.now.e_phnum (at + 1) c.args.table.now in
    let next = next_header c.args.header.now.e_phnum at c.args.table.now c.read-program_header.result c.loop-at-test.true (rw take_rest at c.read-program_header.ensures) in
    let place = c.args.header.now.e_phoff + program_header_size * at in
    let later : place + program_header_size ≡ c.args.header.now.e_phoff + program_header_size * (at + 1) = omega arith in
    record {
      fault = c.loop-at.invariant.fault ∙ ap (load_fault c.loop-at.extent.end c.args.len place) next ∙ c.in-Ok.ensures.passes rest
          ∙ ap (λ (p : ℕ). load_fault c.in-Ok.next.end c.args.len p rest) later;
      first = c.loop-at.invariant.first ∙ ap (λ (hs : List ProgramHeader). option_or c.loop-at.extent.first (first_load hs)) next ∙ c.in-Ok.ensures.first rest;
      end = c.loop-at.invariant.end ∙ ap (end_of_loads c.loop-at.extent.end) next ∙ c.in-Ok.ensures.end rest;
      filled = c.loop-at.invariant.filled ∙ ap (end_of_bytes c.loop-at.extent.filled) next ∙ c.in-Ok.ensures.filled rest;
    }

pub returns-clause-first : goal.returns-clause-first
returns-clause-first c =
    let left = none_left c.args.header.now.e_phnum c.loop-at.at c.args.table.now c.loop-at-test.false in
    sym (c.loop-at.invariant.first ∙ ap (λ (hs : List ProgramHeader). option_or c.loop-at.extent.first (first_load hs)) left ∙ option_or_none c.loop-at.extent.first)

pub returns-clause-end : goal.returns-clause-end
returns-clause-end c =
    let left = none_left c.args.header.now.e_phnum c.loop-at.at c.args.table.now c.loop-at-test.false in
    sym (c.loop-at.invariant.end ∙ ap (end_of_loads c.loop-at.extent.end) left)

pub returns-clause-filled : goal.returns-clause-filled
returns-clause-filled c =
    let left = none_left c.args.header.now.e_phnum c.loop-at.at c.args.table.now c.loop-at-test.false in
    sym (c.loop-at.invariant.filled ∙ ap (end_of_bytes c.loop-at.extent.filled) left)

pub returns-clause-faultless : goal.returns-clause-faultless
returns-clause-faultless c =
    let left = none_left c.args.header.now.e_phnum c.loop-at.at c.args.table.now c.loop-at-test.false in
    c.loop-at.invariant.fault ∙ ap (load_fault c.loop-at.extent.end c.args.len (c.args.header.now.e_phoff + program_header_size * c.loop-at.at)) left
    ∙ no_fault c.loop-at.extent.end c.args.len (c.args.header.now.e_phoff + program_header_size * c.loop-at.at)
