-- The line at a place is that of its 32 bytes, or of those that are left.
use Rattle.std.proofs.Common.{◌<◌, length}
use Rattle.std.proofs.lemmas.List.{take_rest}
use Rattle.std.specs.Int.{div_ceil}
use Rattle.diva_trace.proofs.Numbered.{length_numbered, line_numbered, front_min}
use Rattle.diva_trace.proofs.writers.OutLinesLineList.line.Goals as goal

pub returns : goal.returns
returns c =
    let inside : c.args.at < div_ceil (length c.args.self.now.bytes.now) 32 = rw length_numbered at c.requires in
    rw (line_numbered, c.out_line.ensures, c.min.ensures, take_rest, front_min)
