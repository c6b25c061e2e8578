use Rattle.std.proofs.Common.{◌≡◌, ◌+◌, ◌&&◌, ℕ, ap, arith, subst, sym, ◌∙◌, true}
use Rattle.diva_ooo.specs.Board.{is_loading}
use Rattle.diva_ooo.specs.declared.board.Board.{Board}
use Rattle.diva_ooo.specs.declared.mark_set.MarkSet.{MarkSet}
use Rattle.diva_ooo.specs.declared.profile.Profile.{Profile}
use Rattle.diva_ooo.specs.Issue.{is_available}
use Rattle.diva_ooo.proofs.Boarding.{IsPut, board_pushed, open_waiting, put_else, put_if}
use Rattle.diva_ooo.proofs.board.Board.push.Goals.{else-has_sources_behind, else-is_loading, else-is_storing, then-has_sources_behind, then-is_loading, then-is_storing}
use Rattle.diva_ooo.specs.WindowEntry.{profile_of}
use Rattle.diva_ooo.proofs.board.Board.push.Goals as goal

pub returns-clause-board : goal.returns-clause-board
returns-clause-board c = λ w e i long waits none is.
    let b = c.args.self.now in
    let profile = c.args.profile.now in
    let mark = b.base + c.args.at in
    let s1 = c.if-has_sources_behind.self in
    let s2 = c.if-is_storing.self in
    let s3 = c.if-is_loading.self in
    let field : (get : Profile → ℕ) → get profile ≡ get (profile_of e) = λ get. ap get (sym is) in
    let candidates : (t : MarkSet) × (s1 ≡ record b { candidates = t }) × IsPut c.has_sources_behind.result mark b.candidates t =
    elim c.if-has_sources_behind.branch [
      | then-has_sources_behind v ↦ (v.put.new.self, v.self-is, put_if c.has_sources_behind.result mark b.candidates v.put.new.self v.if-has_sources_behind.true v.put.ensures)
      | else-has_sources_behind v ↦ (b.candidates, v.self-is, put_else c.has_sources_behind.result mark b.candidates v.if-has_sources_behind.false)
    ] in
    let storing : (t : MarkSet) × (s2 ≡ record s1 { waiting = c.put-2.new.self; storing = t }) × IsPut c.is_storing.result mark s1.storing t =
    elim c.if-is_storing.branch [
      | then-is_storing v ↦ (v.put-then-is_storing.new.self, v.self-is, put_if c.is_storing.result mark s1.storing v.put-then-is_storing.new.self v.if-is_storing.true v.put-then-is_storing.ensures)
      | else-is_storing v ↦ (s1.storing, v.self-is, put_else c.is_storing.result mark s1.storing v.if-is_storing.false)
    ] in
    let loads : (t : MarkSet) × (s3 ≡ record s2 { loads = t }) × IsPut c.is_loading.result mark s2.loads t =
    elim c.if-is_loading.branch [
      | then-is_loading v ↦ (v.put-then-is_loading.new.self, v.self-is, put_if c.is_loading.result mark s2.loads v.put-then-is_loading.new.self v.if-is_loading.true v.put-then-is_loading.ensures)
      | else-is_loading v ↦ (s2.loads, v.self-is, put_else c.is_loading.result mark s2.loads v.if-is_loading.false)
    ] in
    let stored : s2 ≡ record b { candidates = candidates.0; waiting = c.put-2.new.self; storing = storing.0 } =
    storing.1 ∙ ap (λ (s : Board). record s { waiting = c.put-2.new.self; storing = storing.0 }) candidates.1 in
    let loaded : s3 ≡ record b { candidates = candidates.0; waiting = c.put-2.new.self; storing = storing.0; loads = loads.0 } =
    loads.1 ∙ ap (λ (s : Board). record s { loads = loads.0 }) stored in
    let sources : c.has_sources_behind.result ≡ (is_available w (profile_of e).rs1 && is_available w (profile_of e).rs2) =
    c.has_sources_behind.ensures w i (omega arith)
    ∙ ap (λ (p : Profile). is_available w p.rs1 && is_available w p.rs2) (sym is) in
    let waiting : IsPut true mark b.waiting c.put-2.new.self = subst (λ (s : Board). IsPut true mark s.waiting c.put-2.new.self) candidates.1 c.put-2.ensures in
    let stores : IsPut c.is_storing.result mark b.storing storing.0 = subst (λ (s : Board). IsPut c.is_storing.result mark s.storing storing.0) candidates.1 storing.2 in
    let loading : IsPut c.is_loading.result mark b.loads loads.0 = subst (λ (s : Board). IsPut c.is_loading.result mark s.loads loads.0) stored loads.2 in
    board_pushed w e b s3 candidates.0 c.put-2.new.self storing.0 loads.0 c.put-3.new.self c.put-4.new.self c.put-5.new.self
    c.from.result c.from-2.result c.from-3.result c.has_sources_behind.result c.is_storing.result c.is_loading.result
    i waits none (c.from.ensures ∙ field (λ p. p.rd)) (c.from-2.ensures ∙ field (λ p. p.rs1)) (c.from-3.ensures ∙ field (λ p. p.rs2))
    sources (c.is_storing.ensures ∙ open_waiting e profile (sym is) waits) (c.is_loading.ensures ∙ ap (λ (p : Profile). is_loading p.class) (sym is))
    loaded
    (rw long candidates.2) (rw long waiting) (rw long stores) (rw long loading)
    (rw long c.put-3.ensures) (rw long c.put-4.ensures) (rw long c.put-5.ensures)
