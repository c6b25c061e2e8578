-- The loads lie in memory, one behind the other.
use Rattle.std.proofs.Common.{length, ◌∙◌}
use Rattle.diva_image.specs.Elf.{program_headers_in}
use Rattle.diva_image.proofs.Loads.{extent_is, lowered_loads, payload_fits}
use Rattle.diva_image.proofs.elf.read_elf.Goals as goal

pub bounds_of-requires-clause-loads : goal.bounds_of-requires-clause-loads
bounds_of-requires-clause-loads c =
    extent_is (length c.args.bytes.now) c.read-header.result.e_phoff (program_headers_in c.read-header.result.e_phnum c.table_of-table.result.now)
    c.in_ok-extent.extent.first c.in_ok-extent.extent.end c.in_ok-extent.ensures.faultless c.in_ok-extent.ensures.first c.in_ok-extent.ensures.end

pub loaded_from-requires-clause-loads : goal.loaded_from-requires-clause-loads
loaded_from-requires-clause-loads c =
    lowered_loads (length c.args.bytes.now) c.read-header.result.e_phoff (program_headers_in c.read-header.result.e_phnum c.table_of-table.result.now)
    c.in_ok-extent.extent.first c.in_ok-bounds.bounds.base c.in_ok-extent.ensures.faultless c.in_ok-extent.ensures.first c.in_ok-bounds.ensures.some
    (λ first is-first. (c.in_ok-bounds.ensures.bounds first is-first).0)

pub invariant_of-result : goal.invariant_of-result
invariant_of-result c =
    let hs = program_headers_in c.read-header.result.e_phnum c.table_of-table.result.now in
    let made = c.new.ensures ∙ c.in_ok-payload.ensures in
    record {
      rules = record {
        placed = c.in_ok-bounds.ensures.placed;
        payload_fits = rw made (payload_fits (length c.args.bytes.now) c.read-header.result.e_phoff hs c.args.bytes.now c.in_ok-extent.extent.first c.in_ok-extent.extent.end c.args.room
            c.in_ok-bounds.bounds.base c.in_ok-bounds.bounds.size c.in_ok-extent.ensures.faultless c.in_ok-extent.ensures.first c.in_ok-extent.ensures.end c.in_ok-bounds.ensures.some
            c.in_ok-bounds.ensures.bounds);
      };
    }
