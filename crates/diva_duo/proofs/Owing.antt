-- How many stores a machine owes plays no part in what its cycle promises.
use Rattle.std.proofs.Common.{ℕ, List, ◌⊎◌, inl, inr}
use Rattle.diva_isa.specs.declared.record.Record.{Record}
use Rattle.diva_core.specs.declared.flushes.FlushRow.{FlushRow}
use Rattle.diva_core.specs.declared.flushes.Cause.{Cause}
use Rattle.diva_core.specs.declared.flushes.Cause.TheVariants.{Differs, Silent}
use Rattle.diva_core.specs.Timed.{Timed}
use Rattle.diva_core.specs.Headline.{ByClaims, BySolo, IsCause, IsRowOf}
use Rattle.diva_core.specs.HartCycle.{FlushesOnce, IsHartCycle, WithoutFlush}

module _ (b n : Timed) (o : ℕ) where
  abbrev owing : Timed
  owing = record b { owed = o }

  by_owing : (records : List Record) → ByClaims b records ⊎ BySolo b records → ByClaims owing records ⊎ BySolo owing records
  by_owing records (inl c) = inl (record { rest = c.rest; claims = c.claims })
  by_owing records (inr s) = inr (record { start = s.start; since = s.since; passed = s.passed; one = s.one })

  cause_owing : (cause : Cause) → IsCause b n cause → IsCause owing n cause
  cause_owing (Differs d) r = record { p = r.p; waited = r.waited; ready = r.ready; differs = r.differs }
  cause_owing (Silent limit) r = r

  row_owing : (row : FlushRow) → IsRowOf b n row → IsRowOf owing n row
  row_owing row r =
      record {
        has = r.has;
        cycle = r.cycle;
        at = r.at;
        caused = cause_owing row.cause r.caused;
      }

  logs_owing : WithoutFlush b n ⊎ FlushesOnce b n → WithoutFlush owing n ⊎ FlushesOnce owing n
  logs_owing (inl s) = inl (record { log = s.log; solo = s.solo })
  logs_owing (inr f) = inr (record { row = f.row; is = record { added = row_owing f.row f.is.added; solo = f.is.solo } })

  pub cycle_owing : (records : List Record) → IsHartCycle b n records → IsHartCycle owing n records
  cycle_owing records c =
      record {
        rises = record { counted = c.rises.counted; stepped = c.rises.stepped };
        due = c.due;
        commits = by_owing records c.commits;
        logs = logs_owing c.logs;
      }
