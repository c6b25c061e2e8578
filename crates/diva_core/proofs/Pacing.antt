-- What turns promise, whatever the core hands over.
use Rattle.std.proofs.Common.{◌≡◌, List, [], ◌∷◌, ap, sym, ◌∙◌, subst}
use Rattle.diva_isa.specs.declared.record.Record.{Record}
use Rattle.diva_core.specs.Timed.{Timed}
use Rattle.diva_core.specs.Cycle.{cycle_of, run_of}
use Rattle.diva_core.specs.History.{Meaning, Turns, lists_of}
use Rattle.diva_core.specs.Machine.{IsMachine}
use Rattle.diva_core.specs.Headline.{Rises, AddsRows, WillCount, KeepsPace, AreCommitted}
use Rattle.diva_core.proofs.Progressing.{progress, run-rises, run-stays, run-undos}
use Rattle.diva_core.proofs.Reaching.{run-pace}
use Rattle.diva_core.specs.Right.{AreRight, IsCalm, StaysCalm}
use Rattle.diva_core.proofs.Adding.{run-adds}
use Rattle.diva_core.proofs.Listing.{run_calm}
use Rattle.diva_core.proofs.Turning.{IsHistory-run}
use Rattle.diva_core.proofs.Outcomes.{records_by}
use Rattle.diva_core.proofs.Keeping.{stays}

pub will_count : (m : Timed) → IsMachine m → WillCount m
will_count m inv on lists long = progress m lists inv on long

-- each cycle commits claims that waited, or the one instruction that ran solo
pub are_committed : (m : Timed) (lists : List (List Record)) → IsMachine m → AreCommitted m lists
are_committed m [] inv = tt
are_committed m (list ∷ rest) inv = (records_by m list inv, are_committed (cycle_of m list) rest (stays m list inv))

module _ {C : Type 0} (gives : Meaning C) (m : Timed) (core : C) (last : Timed) (final : C) (inv : IsMachine m) (t : Turns gives m core last final) where
  abbrev lists : List (List Record)
  lists = lists_of t.history

  reached : last ≡ run_of m lists
  reached = IsHistory-run gives m core t.history last final t.good

  pub turns-rise : Rises m last
  turns-rise = subst (Rises m) (sym reached) (run-rises m lists inv)

  pub turns-stay : IsMachine last
  turns-stay = subst IsMachine (sym reached) (run-stays m lists inv)

  -- no instruction is taken back
  pub turns-undos : last.under.undos ≡ m.under.undos
  turns-undos = ap (λ (n : Timed). n.under.undos) reached ∙ run-undos m lists inv

  pub turns-pace : KeepsPace m last
  turns-pace = subst (KeepsPace m) (sym reached) (run-pace m lists inv)

  pub turns-commit : AreCommitted m lists
  turns-commit = are_committed m lists inv

  pub turns-rows : AddsRows m lists last
  turns-rows = subst (AddsRows m lists) (sym reached) (run-adds lists m inv)

  pub turns-calm : IsCalm m → AreRight m lists → StaysCalm m last
  turns-calm calm right = subst (StaysCalm m) (sym reached) (run_calm m lists inv calm right)
