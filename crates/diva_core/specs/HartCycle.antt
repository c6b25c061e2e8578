-- What a cycle of one hart promises, whatever is handed over.
-- Cited in `Cycles.antt`, for `Machine::cycle`; in `Headline.antt`, for `Duo::cycle`.
use Rattle.std.specs.Prelude.{◌≡◌, ◌-◌, List, ◌⊎◌, Some, None}
use Rattle.diva_isa.specs.declared.record.Record.{Record}
use Rattle.diva_core.specs.declared.flushes.FlushRow.{FlushRow}
use Rattle.diva_core.specs.Timed.{Timed}
use Rattle.diva_core.specs.Headline.{ByClaims, BySolo, IsRowOf, Rises, SameLog, dues}

-- it was not flushed: the log is as it was, and no instruction began to run solo
pub record WithoutFlush (m last : Timed) : Type 0 where
  pub log : SameLog m last
  pub solo : (last.under.solo ≡ None) ⊎ (last.under.solo ≡ m.under.solo)

-- it was flushed: the log has this row more, with the cause of this cycle, and the next instruction runs solo from now on
pub record WithFlush (m last : Timed) (row : FlushRow) : Type 0 where
  pub added : IsRowOf m last row
  pub solo : last.under.solo ≡ Some last.cycles

pub record FlushesOnce (m last : Timed) : Type 0 where
  pub row : FlushRow
  pub is : WithFlush m last row

-- a cycle led a hart from the machine m, as its claims are judged, to `last`, and committed these records
pub record IsHartCycle (m last : Timed) (records : List Record) : Type 0 where
  -- the count has not fallen, and the state is the table's after the counted instructions
  pub rises : Rises m last
  -- the records are those of the counted instructions
  pub due : records ≡ dues (last.count - m.count) m.arch
  -- they are claims that waited at the front, each accepted six or more cycles before, or the one instruction that ran solo for six cycles
  pub commits : ByClaims m records ⊎ BySolo m records
  -- it was flushed only where a claim differs from what is due, or idle stands at the limit; and only with a flush an instruction begins
  -- to run solo
  pub logs : WithoutFlush m last ⊎ FlushesOnce m last
