-- What a cycle of one hart promises.
use Rattle.std.proofs.Common.{◌≡◌, ◌≢◌, ◌+◌, ◌-◌, ℕ, List, Some, None, refl, ap, sym, ◌∙◌, arith, ◌⊎◌, inl, inr}
use Rattle.diva_isa.specs.declared.record.Record.{Record}
use Rattle.diva_core.specs.declared.flushes.FlushRow.{FlushRow}
use Rattle.diva_core.specs.Timed.{Log, Timed}
use Rattle.diva_core.specs.Cycle.{Rule, cycle_of}
use Rattle.diva_core.specs.Machine.{IsMachine}
use Rattle.diva_core.specs.Headline.{HasRow, SameLog, dues}
use Rattle.diva_core.specs.HartCycle.{FlushesOnce, IsHartCycle, WithoutFlush}
use Rattle.diva_core.proofs.Commits.{commits-records}
use Rattle.diva_core.proofs.Cycling.{Cycled, barks, differed, ended, finished, idled, ran, waited}
use Rattle.diva_core.proofs.Outcomes.{Rises-any, any-base, by-cases, commit-cases, log-cases}

not_more : (b n : Timed) → SameLog b n → n.under.log.flushes ≢ b.under.log.flushes + 1
not_more b n log e = let f = ap (λ (l : Log). l.flushes) log in absurd (omega arith)

not_same : (b n : Timed) (row : FlushRow) → HasRow b n row → n.under.log.flushes ≢ b.under.log.flushes
not_same b n row log e = let f = ap (λ (l : Log). l.flushes) log in absurd (omega arith)

-- ---- by the ways in which a cycle goes

module _ {rule : Rule} where
  solo_same : (b : Timed) (list : List Record) (n : Timed) → Cycled rule b list n → n.under.log.flushes ≡ b.under.log.flushes → (n.under.solo ≡ None) ⊎ (n.under.solo ≡ b.under.solo)
  solo_same b list n (idled r) e = inl r.solo
  solo_same b list n (ran r) e = inl r.solo
  solo_same b list n (barks r) e = absurd (not_same b n _ r.log e)
  solo_same b list n (differed r) e = absurd (not_same b n _ r.log e)
  solo_same b list n (ended r) e = inl r.solo
  solo_same b list n (finished r) e = inl r.solo
  solo_same b list n (waited r) e = inr (r.solo ∙ sym r.since)

  solo_now : (b : Timed) (list : List Record) (n : Timed) → Cycled rule b list n → n.under.log.flushes ≡ b.under.log.flushes + 1 → n.under.solo ≡ Some n.cycles
  solo_now b list n (idled r) e = absurd (not_more b n r.log e)
  solo_now b list n (ran r) e = absurd (not_more b n r.log e)
  solo_now b list n (barks r) e = r.solo ∙ ap Some (sym r.base.cycles)
  solo_now b list n (differed r) e = r.solo ∙ ap Some (sym r.base.cycles)
  solo_now b list n (ended r) e = absurd (not_more b n r.log e)
  solo_now b list n (finished r) e = absurd (not_more b n r.log e)
  solo_now b list n (waited r) e = absurd (not_more b n r.log e)

  logs_by : (b : Timed) (list : List Record) (n : Timed) → IsMachine b → Cycled rule b list n → WithoutFlush b n ⊎ FlushesOnce b n
  logs_by b list n inv c = elim (log-cases b list n inv c) [
    | inl same ↦ inl (record { log = same; solo = solo_same b list n c (ap (λ (l : Log). l.flushes) same) })
    | inr more ↦ inr (record { row = more.row; is = record { added = more.is; solo = solo_now b list n c (ap (λ (l : Log). l.flushes) more.is.has) } })
  ]

  pub hart_cycle_by : (b : Timed) (list : List Record) (n : Timed) → IsMachine b → Cycled rule b list n → IsHartCycle b n (dues (n.count - b.count) b.arch)
  hart_cycle_by b list n inv c =
      record {
        rises = Rises-any b n (any-base b list n c);
        due = refl;
        commits = commits-records b n (commit-cases b list n c);
        logs = logs_by b list n inv c;
      }

-- a machine of which nothing has changed but the number of its cycles
pub hart_cycle_none : (m n : Timed) (cycles : ℕ) → n ≡ record m { cycles = cycles } → IsHartCycle m n (dues (n.count - m.count) m.arch)
hart_cycle_none m n cycles e =
    let none : n.count - m.count ≡ 0 = let same = ap (λ (z : Timed). z.count) e in omega arith in
    record {
      rises = record { counted = (let same = ap (λ (z : Timed). z.count) e in omega arith); stepped = rw none (ap (λ (z : Timed). z.arch) e) };
      due = refl;
      commits = inl (record { rest = m.under.pending; claims = rw none refl });
      logs = inl (record {
        log = ap (λ (z : Timed). z.under.log) e;
        solo = inr (ap (λ (z : Timed). z.under.solo) e);
      });
    }

-- the machine's own cycle
pub hart_cycle : (m : Timed) (list : List Record) → IsMachine m → IsHartCycle m (cycle_of m list) (dues ((cycle_of m list).count - m.count) m.arch)
hart_cycle m list inv =
    by-cases (λ n. IsHartCycle m n (dues (n.count - m.count) m.arch)) m list inv (λ on c. hart_cycle_by m list _ inv c) (λ off. hart_cycle_none m m m.cycles refl)
