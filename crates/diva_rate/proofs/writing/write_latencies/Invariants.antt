-- What was put, group by group.
use Rattle.std.proofs.Common.{Ok, map, take}
use Rattle.std.specs.List.{concat}
use Rattle.diva_outside.specs.Lent.{lent}
use Rattle.diva_outside.specs.Sink.{PutsTo}
use Rattle.diva_outside.specs.declared.sink.SinkFailed.{SinkFailed}
use Rattle.diva_rate.specs.Lines.{latency_line}
use Rattle.diva_rate.proofs.writing.write_latencies.Given as goal

-- the groups so far were put
abbrev pub invariant-loop-rates : goal.invariant-loop-rates
invariant-loop-rates g l =
    PutsTo {E = SinkFailed} (lent g.S.Sink.account l.initial.sink l.sink) (concat (take l.rates-index (map latency_line l.groups))) (Ok tt)
