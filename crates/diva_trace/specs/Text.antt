-- The text of a run: its parts, and the whole.
-- Cited by `write_run`, `write_commits`, `write_hart`, `write_tally` and the writers of their parts.
use Rattle.std.specs.Prelude.{◌≡◌, ℕ, ◌+◌, ◌-◌, ◌*◌, List, [], ◌∷◌, ◌++◌, length, map, min, take, drop, Option, Some, None}
use Rattle.std.specs.Int.{div_ceil}
use Rattle.std.specs.List.{concat, range_with_len}
use Rattle.diva_memory.specs.Bytes.{Bytes}
use Rattle.diva_isa.specs.State.{State, memory_of}
use Rattle.diva_isa.specs.End.{end_of}
use Rattle.diva_isa.specs.declared.end.End.{End}
use Rattle.diva_isa.specs.declared.record.Record.{Record}
use Rattle.diva_core.specs.Headline.{dues}
use Rattle.diva_core.specs.Timed.{Timed}
use Rattle.diva_core.specs.declared.flushes.FlushRow.{FlushRow}
use Rattle.diva_trace.specs.Lines.{commit_line, flush_line, hart_line, end_line_of, count_line, cycles_line, flushed_line, flushes_line, runs_line, same_line, silent_line, soak_line, output_line, out_line, registers_line, pc_line, mem_line}
use Rattle.diva_trace.specs.declared.report.Dump.{Dump}
use Rattle.diva_trace.specs.declared.report.HartReport.{HartReport}
use Rattle.diva_trace.specs.declared.report.Report.{Report}
use Rattle.diva_trace.specs.declared.report.SoakCore.TheVariants.{Scalar, Own}
use Rattle.diva_trace.specs.declared.report.Tally.{Tally}

-- ---- what was committed

-- a line for each record; the first has this number
abbrev pub commit_lines : (first : ℕ) → List Record → List (List ℕ)
commit_lines first [] = []
commit_lines first (r ∷ records) = commit_line first r ∷ commit_lines (first + 1) records

unfoldable pub commits_text : (first : ℕ) → List Record → List ℕ
commits_text first records = concat (commit_lines first records)

-- the commit lines of the first n instructions from a state on
abbrev pub trace_of : State → (n : ℕ) → List ℕ
trace_of s n = commits_text 0 (dues n s)

-- n lines, by their numbers from 0 on
abbrev pub numbered : ℕ → (ℕ → List ℕ) → List (List ℕ)
numbered n line = map line (range_with_len 0 n)

-- ---- the lines of each part

-- a line for each flush
abbrev pub flush_lines : List FlushRow → List (List ℕ)
flush_lines rows = map flush_line rows

-- 32 bytes a line, the last one shorter
abbrev pub out_lines : List ℕ → List (List ℕ)
out_lines bytes = numbered (div_ceil (length bytes) 32) (λ n. out_line (take 32 (drop (32 * n) bytes)))

-- 16 bytes a line, the last one shorter
abbrev pub dump_lines : Bytes → Dump → List (List ℕ)
dump_lines m dump = numbered (div_ceil dump.len 16) (λ n. mem_line m (dump.addr + 16 * n) (min 16 (dump.len - 16 * n)))

-- ---- the parts

-- the flushes that are kept, in order
unfoldable pub rows_text : List FlushRow → List ℕ
rows_text rows = concat (flush_lines rows)

-- how the run ended, and its counts
unfoldable pub summary_text : End → (count cycles flushes silent : ℕ) → List ℕ
summary_text end count cycles flushes silent = end_line_of end ++ count_line count ++ cycles_line cycles ++ flushes_line flushes silent

-- how many bytes the program put out, and the bytes
unfoldable pub output_text : List ℕ → List ℕ
output_text bytes = output_line (length bytes) ++ concat (out_lines bytes)

-- the registers in eight lines of four, and the pc
unfoldable pub registers_text : (regs : List ℕ) (pc : ℕ) → List ℕ
registers_text regs pc = concat (numbered 8 (λ n. registers_line regs (4 * n))) ++ pc_line pc

-- a part of memory
unfoldable pub dump_text : Bytes → Dump → List ℕ
dump_text m dump = concat (dump_lines m dump)

-- the same, where it is asked for
abbrev pub asked_text : Bytes → Option Dump → List ℕ
asked_text m None = []
asked_text m (Some dump) = dump_text m dump

-- ---- the whole

-- the text of a run that ended at this machine, behind its commit lines
abbrev pub text_of : Timed → Option Dump → List ℕ
text_of m dump =
    rows_text m.under.log.rows
    ++ summary_text (end_of m.arch.end) m.count m.cycles m.under.log.flushes m.under.log.silent
    ++ output_text m.arch.output
    ++ registers_text m.arch.regs m.arch.pc
    ++ asked_text (memory_of m.arch) dump

-- the same, of what a report says of the machine
abbrev pub text_in : Report → List ℕ
text_in r =
    rows_text r.rows.now
    ++ summary_text r.end r.count r.cycles r.flushes r.silent
    ++ output_text r.output.now
    ++ registers_text r.view.now.regs r.view.now.pc
    ++ asked_text (memory_of r.view.now) r.dump

-- a report says what the machine is, through a view that shows its state as one that goes on
pub record IsReportOf (m : Timed) (r : Report) : Type 0 where
  pub rows : r.rows.now ≡ m.under.log.rows
  pub end : r.end ≡ end_of m.arch.end
  pub count : r.count ≡ m.count
  pub cycles : r.cycles ≡ m.cycles
  pub flushes : r.flushes ≡ m.under.log.flushes
  pub silent : r.silent ≡ m.under.log.silent
  pub output : r.output.now ≡ m.arch.output
  pub view : r.view.now ≡ record m.arch { end = 0 }

-- ---- the text of two harts

-- the lines of a hart that ended at this machine: its number, how it ended, its counts, its output, and its registers and pc
abbrev pub hart_text : (number : ℕ) → Timed → List ℕ
hart_text number m =
    hart_line number
    ++ end_line_of (end_of m.arch.end)
    ++ count_line m.count
    ++ flushes_line m.under.log.flushes m.under.log.silent
    ++ output_text m.arch.output
    ++ registers_text m.arch.regs m.arch.pc

-- the same, of what a report says of the hart
abbrev pub hart_text_in : (number : ℕ) → HartReport → List ℕ
hart_text_in number r =
    hart_line number
    ++ end_line_of r.end
    ++ count_line r.count
    ++ flushes_line r.flushes r.silent
    ++ output_text r.output.now
    ++ registers_text r.view.now.regs r.view.now.pc

-- a report says what the hart's machine is, through a view that shows its registers and its pc
pub record IsHartReportOf (m : Timed) (r : HartReport) : Type 0 where
  pub end : r.end ≡ end_of m.arch.end
  pub count : r.count ≡ m.count
  pub flushes : r.flushes ≡ m.under.log.flushes
  pub silent : r.silent ≡ m.under.log.silent
  pub output : r.output.now ≡ m.arch.output
  pub regs : r.view.now.regs ≡ m.arch.regs
  pub pc : r.view.now.pc ≡ m.arch.pc

-- the text of two harts over one memory: the cycles run, the lines of each hart, and a part of that memory, where it is asked for
abbrev pub harts_text : (cycles : ℕ) → (first second : Timed) → Bytes → Option Dump → List ℕ
harts_text cycles first second memory dump =
    cycles_line cycles
    ++ hart_text 0 first
    ++ hart_text 1 second
    ++ asked_text memory dump

-- ---- the text of two runs

-- a line for each of them, and how the second one ended, with its output, registers and pc
abbrev pub soak_text : (first second : Timed) → List ℕ
soak_text first second =
    soak_line Scalar first.count first.cycles first.under.log.flushes
    ++ soak_line Own second.count second.cycles second.under.log.flushes
    ++ end_line_of (end_of second.arch.end)
    ++ output_text second.arch.output
    ++ registers_text second.arch.regs second.arch.pc

-- ---- the text of a campaign

-- what was counted of its runs
abbrev pub tally_text : Tally → List ℕ
tally_text tally = runs_line tally.runs ++ same_line tally.same ++ flushed_line tally.flushed ++ silent_line tally.silent

-- the same, and how its first run ended, with its count, output, registers and pc
abbrev pub campaign_text : Tally → (first : Timed) → List ℕ
campaign_text tally first =
    tally_text tally
    ++ end_line_of (end_of first.arch.end)
    ++ count_line first.count
    ++ output_text first.arch.output
    ++ registers_text first.arch.regs first.arch.pc
