-- One program header after another.
use Rattle.std.proofs.Common.{◌≡◌, arith, ◌+◌, ◌-◌, ◌++◌, ℕ, List, Vec, Global, replicate, take, length, drop, vec_capacity, ap, sym, ◌∙◌}
use Rattle.std.proofs.lemmas.List.{take_rest}
use Rattle.diva_image.specs.Elf.{loaded_from, program_headers_in}
use Rattle.diva_image.proofs.Loads.{headers_from, load_later, loaded_end, more_loaded, next_fits, next_made, next_now, room_for_load, same_loaded}
use Rattle.diva_image.proofs.elf.append_loads.Goals as goal
use Rattle.diva_image.proofs.elf.append_loads.Goals.{then-has_bytes, else-has_bytes}

pub append_load-requires-clause-behind : goal.append_load-requires-clause-behind
append_load-requires-clause-behind c =
    (next_now c.args.count c.loop-at.at c.args.table.now c.args.bytes.now c.loop-at.memory.items c.args.base c.read-load.result c.loop-at-test.true (rw take_rest at c.read-load.ensures)
    c.loop-at.invariant.fits (sym c.if-has_bytes.ensures)).0

pub append_load-requires-clause-inside : goal.append_load-requires-clause-inside
append_load-requires-clause-inside c =
    (next_now c.args.count c.loop-at.at c.args.table.now c.args.bytes.now c.loop-at.memory.items c.args.base c.read-load.result c.loop-at-test.true (rw take_rest at c.read-load.ensures)
    c.loop-at.invariant.fits (sym c.if-has_bytes.ensures)).1

pub append_load-requires-clause-room : goal.append_load-requires-clause-room
append_load-requires-clause-room c =
    let table = c.args.table.now in
    let file = c.args.bytes.now in
    let memory = c.loop-at.memory.items in
    let all = loaded_from c.args.base (program_headers_in c.args.count table) file in
    let made = next_made c.args.count c.loop-at.at table file memory c.args.base c.read-load.result c.loop-at-test.true (rw take_rest at c.read-load.ensures) all c.loop-at.invariant.made in
    let now = next_now c.args.count c.loop-at.at table file memory c.args.base c.read-load.result c.loop-at-test.true (rw take_rest at c.read-load.ensures) c.loop-at.invariant.fits (sym c.if-has_bytes.ensures) in
    room_for_load c.args.base all memory file c.read-load.result (headers_from c.args.count (c.loop-at.at + 1) c.args.table.now) (vec_capacity c.loop-at.memory) made c.loop-at.invariant.room (sym c.if-has_bytes.ensures) now.0 now.1

pub loop-at-preserved : goal.loop-at-preserved
loop-at-preserved c =
    let table = c.args.table.now in
    let at = c.loop-at.at in
    let base = c.args.base in
    let file = c.args.bytes.now in
    let memory = c.loop-at.memory.items in
    let all = loaded_from base (program_headers_in c.args.count table) file in
    let made = next_made c.args.count at table file memory base c.read-load.result c.loop-at-test.true (rw take_rest at c.read-load.ensures) all c.loop-at.invariant.made in
    elim c.if-has_bytes.branch [
      | then-has_bytes w ↦
          let now = next_now c.args.count at table file memory base c.read-load.result c.loop-at-test.true (rw take_rest at c.read-load.ensures) c.loop-at.invariant.fits (sym w.if-has_bytes.ensures) in
          let more = c.if-has_bytes.memory.items in
          let appended : more ≡ memory ++ replicate (c.read-load.result.p_vaddr - base - length memory) 0 ++ take c.read-load.result.p_filesz (drop c.read-load.result.p_offset file)
          = ap (λ (v : Vec ℕ Global). v.items) w.memory-is ∙ w.append_load.ensures.appended in
          let end = loaded_end base memory more file c.read-load.result now.0 now.1 appended in
          record {
            made = more_loaded base all memory more file c.read-load.result (headers_from c.args.count (c.loop-at.at + 1) c.args.table.now) made (sym w.if-has_bytes.ensures) now.0 end appended;
            room = rw w.memory-is (omega (arith, c.loop-at.invariant.room, w.append_load.ensures.room));
            fits = rw end now.2;
          }
      | else-has_bytes w ↦
          let same : c.if-has_bytes.memory.items ≡ memory = ap (λ (v : Vec ℕ Global). v.items) w.memory-is in
          record {
            made = rw same (made ∙ ap (λ (m : List ℕ). memory ++ m) (same_loaded (base + length memory) c.read-load.result (headers_from c.args.count (c.loop-at.at + 1) c.args.table.now) file (sym w.if-has_bytes.ensures)));
            room = rw w.memory-is c.loop-at.invariant.room;
            fits = rw same (load_later (base + length memory) (length file) 0 c.read-load.result (headers_from c.args.count (c.loop-at.at + 1) c.args.table.now)
                (next_fits c.args.count at table file memory base c.read-load.result c.loop-at-test.true (rw take_rest at c.read-load.ensures) c.loop-at.invariant.fits));
          }
    ]
