-- What is written of files, as the answer that it is.
use Rattle.std.proofs.Common.{◌≡◌, ◌⊎◌, List, [], Result, Ok, Err, inl, inr, refl, ap}
use Rattle.diva_outside.specs.Lent.{given}
use Rattle.diva_outside.specs.Lines.{LineFault}
use Rattle.diva_outside.specs.Sink.{LentSink, PutsTo, Takes}
use Rattle.diva_outside.specs.Text.{Text}
use Rattle.diva_outside.specs.declared.sink.SinkFailed.{SinkFailed}
use Rattle.diva_outside.proofs.Sinks.{past_nothing}
use Rattle.diva_source.specs.Source.{LentSource}
use Rattle.diva_rate.specs.Rates.{Rates}
use Rattle.diva_rate.specs.Text.{rates_text}
use Rattle.diva_process.specs.Answers.{IsDone, IsJudged}
use Rattle.diva_process.specs.Programs.{FileBytes}
use Rattle.diva_process.specs.Writing.{WritesText}
use Rattle.diva_process.specs.declared.status.Status.{Status}
use Rattle.diva_process.specs.declared.status.Status.TheVariants.{Halted}
use Rattle.diva_process.specs.declared.stop.Failure.{Failure}
use Rattle.diva_process.specs.declared.stop.Failure.TheVariants.{Cut, Memory}
use Rattle.diva_rating.specs.Inner.{HasRatesOf, StopsReading, WritesStop}
use Rattle.diva_rating.specs.Rated.{HasRated, no_memory, no_memory_line, rated, rating_of, refused, refused_line, unread, unread_line}
use Rattle.diva_rating.specs.declared.rating.RateStop.{RateStop}
use Rattle.diva_rating.specs.declared.rating.RateStop.TheVariants as stop

module _ {D S : Type 0} (source : LentSource D) (names : List Text) (bytes : FileBytes) (sink : LentSink S) where
  -- a whole text, and a part of it
  whole : (text : Text) (ends : Status) → HasRated names source (Ok ends) text → Takes sink text → WritesText (rating_of source) names bytes sink (Ok ends)
  whole text ends means takes = record { text = text; means = means; written = takes }

  -- ---- the rates

  pub wrote_rates : (rates : Rates) (h : HasRatesOf (given source).contents names rates) → PutsTo {E = SinkFailed} sink (rates_text h.kept) (Ok tt)
      → WritesText (rating_of source) names bytes sink (Ok Halted)
  wrote_rates rates h put =
      whole (rates_text h.kept) Halted (rated (record { kept = h.kept; keeps = h.keeps; rates = record { lines = refl; ends = refl; cut = tt } }))
      (record { appended = put.ok; uncounted = put.uncounted })

  pub cut_rates : (rates : Rates) (h : HasRatesOf (given source).contents names rates) (e : SinkFailed) → PutsTo sink (rates_text h.kept) (Err e)
      → WritesText (rating_of source) names bytes sink (Err Cut)
  cut_rates rates h e put =
      record {
        rose = put.failed;
        put = [];
        text = rates_text h.kept;
        means = rated (record { kept = h.kept; keeps = h.keeps; rates = record { lines = refl; ends = tt; cut = refl } });
        written = past_nothing sink (rates_text h.kept) put.part;
      }

  -- ---- a line that says why there are none

  pub wrote_stop : (why : RateStop) (result : Result Status Failure) → StopsReading source names why → WritesStop why sink result
      → WritesText (rating_of source) names bytes sink result
  wrote_stop (stop.Unread name) (Ok ends) s w =
      whole (unread_line name.now) ends (unread (record {
        before = s.before;
        name = s.name;
        later = s.later;
        in_order = s.in_order;
        kept = s.kept;
        keeps = s.keeps;
        holds = record { cause = s.holds.1; written = record { lines = ap unread_line s.holds.0; ends = w.0; cut = tt } };
      })) w.1
  wrote_stop (stop.Unread name) (Err Cut) s w =
      record {
        rose = w.0;
        put = [];
        text = unread_line name.now;
        means = unread (record {
          before = s.before;
          name = s.name;
          later = s.later;
          in_order = s.in_order;
          kept = s.kept;
          keeps = s.keeps;
          holds = record { cause = s.holds.1; written = record { lines = ap unread_line s.holds.0; ends = tt; cut = refl } };
        });
        written = past_nothing sink (unread_line name.now) w.1;
      }
  wrote_stop (stop.Unread name) (Err Memory) s w = absurd w
  wrote_stop (stop.Refused name line kind) (Ok ends) s w =
      let fault : LineFault = record { line = line; kind = kind } in
      whole (refused_line name.now fault) ends (refused (record {
        before = s.before;
        name = s.name;
        later = s.later;
        in_order = s.in_order;
        kept = s.kept;
        keeps = s.keeps;
        holds = record {
          bytes = s.holds.bytes;
          read = s.holds.read;
          fault = fault;
          first = s.holds.first;
          written = record { lines = ap (λ (n : Text). refused_line n fault) s.holds.same; ends = w.0; cut = tt };
        };
      })) w.1
  wrote_stop (stop.Refused name line kind) (Err Cut) s w =
      let fault : LineFault = record { line = line; kind = kind } in
      record {
        rose = w.0;
        put = [];
        text = refused_line name.now fault;
        means = refused (record {
          before = s.before;
          name = s.name;
          later = s.later;
          in_order = s.in_order;
          kept = s.kept;
          keeps = s.keeps;
          holds = record {
            bytes = s.holds.bytes;
            read = s.holds.read;
            fault = fault;
            first = s.holds.first;
            written = record { lines = ap (λ (n : Text). refused_line n fault) s.holds.same; ends = tt; cut = refl };
          };
        });
        written = past_nothing sink (refused_line name.now fault) w.1;
      }
  wrote_stop (stop.Refused name line kind) (Err Memory) s w = absurd w
  wrote_stop stop.Memory (Ok ends) s w = whole no_memory_line ends (no_memory (record { lines = refl; ends = w.0; cut = tt })) w.1
  wrote_stop stop.Memory (Err Cut) s w =
      record { rose = w.0; put = []; text = no_memory_line; means = no_memory (record { lines = refl; ends = tt; cut = refl }); written = past_nothing sink no_memory_line w.1 }
  wrote_stop stop.Memory (Err Memory) s w = absurd w

-- with which statuses the rates of lines can end
pub rated_ends : {D : Type 0} (names : List Text) (source : LentSource D) (status : Status) (text : Text) → HasRated names source (Ok status) text
    → IsDone status ⊎ IsJudged status
rated_ends names source status text (rated h) = inl (inl h.rates.ends)
rated_ends names source status text (unread h) = inr (inr (inr h.holds.written.ends))
rated_ends names source status text (refused h) = inr (inr (inl h.holds.written.ends))
rated_ends names source status text (no_memory h) = inr (inr (inr h.ends))
