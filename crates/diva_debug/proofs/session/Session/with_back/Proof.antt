-- `with_back` calls for memory and looks at the answer. Where it is an `Ok`, the reference to the core goes into the session;
-- at `Err` it is given up as it came, so that the core is as it was. The borrow checker proves no such clause where the type of
-- what is lent is a parameter.
use mathlib.Core.Path.{◌≡◌, refl, sym, subst}
use mathlib.Core.Bool.{true, ◌&&◌}
use mathlib.Core.List.{List, [], ◌∷◌, ◌++◌}
use Prim.Native.Nat.{ℕ, ◌≤◌}
use lib.Dec.{T, lit<}
use mir.Syntax.{Body, a_type, named, dcons, dnil, w32}
use mir.Val.{Val, WT, has_ty, vptr, vint, vstruct, vcons, vnil, of_list}
use mir.MapTy.{inst_fn}
use base.Logic.{SProp, ent, emp, id⊢}
use base.Fml.{Fml, Lft, ftrue, flft, fres}
use prog.Wp.{WpFn, Wp, after_seq, at_return}
use types.Kit.{Seq, Go, prop, ‵, raw, ◌⊛◌, some, later, at_ret, any_q, ◌$◌, ◌∵◌, !, qed, by, move, keep, drop, split, split3, join, fsplit, fsplit3, fjoin, fpack, feq_i, pick, await, rewrite, suffices, use0, use1, use2}
use types.Run.{stop, fld, addr, lit, of_opd, no_more, and_then, first, exec, returns, enter, switches_on}
use types.ByLocal.{alloc_all, pass_all, free_all, look_at, get, get_in, get_tag, through, sets, sets_last, lands_as, env}
use types.Part.{agg, whole}
use types.Match.{live, vrt, in_variant}
use contract.Monad.{fact, fact_i}
use contract.BorrowLft.{◌⊑◌}
use contract.Running.{tables}
use denote.Exit.{yes, no}
use denote.RattleType.{RattleType, Valss, owns}
use denote.Signature.{types_at, plain, named_lft}
use denote.Builtin.{u32, RefMutOf}
use denote.Ref.{MutRef}
use denote.Steps.{nothing, heard}
use denote.Param.{param, layout, bounded}
use denote.Struct.Struct.{within}
use denote.Struct.Declared as Declared
use denote.Triple.Clauses.{Lasts, lasts}
use denote.Triple.Call.{calls_at}
use denote.Triple.Spec.{triple_of}
use denote.Triple.Table.{framed}
use denote.Triple.Walked.{Stays, stay_dropped, walk_of, Goes-dropped, Goes-spent_ref}
use Rattle.std.proofs.raw_atomic.Walks.{proved_at, leaves}
use Rattle.std.proofs.VecSteps.Shapes.{after, head, arm_body}
use Rattle.std.proofs.RcSteps.{first_Good}
use Rattle.std.proofs.ResultValues.{and_tt, ok_of, err_of}
use Rattle.std.specs.Prelude.{IfOk, Ok, Err}
use Rattle.std.specs.Borrow.{RestsIfErr}
use Rattle.std.specs.contracts.result.Result as RS
use Rattle.std.specs.contracts.alloc.Global as heap
use Rattle.std.proofs.alloc.Global.TheLaws as heap_laws
use Rattle.std.specs.contracts.alloc.AllocError as failed
use Rattle.std.proofs.alloc.AllocError.TheLaws as failed_laws
use Rattle.diva_machine.specs.contracts.machine.Machine as given
use Rattle.diva_machine.proofs.machine.Machine.TheLaws as given_laws
use Rattle.diva_debug.specs.contracts.rewindable.Rewindable as made
use Rattle.diva_debug.proofs.rewindable.Rewindable.TheLaws as made_laws
use Rattle.diva_debug.specs.contracts.session.Session as session
use Rattle.diva_debug.specs.contracts.rewindable.Rewindable.with_room as g
use Rattle.diva_debug.proofs.rewindable.Rewindable.with_room.Met.{met}
use Rattle.diva_debug.proofs.Lending.{Good, tells, arms, follows_itself, rests}
use Rattle.diva_debug.specs.contracts.session.Session.with_back.{ended, clauses}
use Rattle.diva_debug.specs.contracts.session.Session.with_back.Key.{name as #self}
use Rattle.diva_debug.proofs.session.Session.with_back.Statement.{statement}
use Rattle.diva_debug.proofs.session.Session.with_back.Code as code

pub with_back_spec : {M : Type 1} → statement M
with_back_spec 𝓤 𝓛 𝓜 𝓡 wired C L gives d met-core =
    let H = 𝓛.H in let 𝓣 = tables 𝓤 H 𝓜 𝓡 𝓡.env in let R : RattleType = param 0 C in
    let En = ended C gives d in let c = clauses C gives d 𝓛 𝓜.mem 𝓡.returns in
    let inst = bounded (a_type ∷ []) (C, tt) (dcons d dnil) in let fn = inst_fn inst code.function in
    let Alloc = plain (λ _. heap.the_row) in let Given = plain (λ _. given.the_row) in let Keep = plain (λ _. u32) in
    let Lent = RefMutOf (0 ∷ []) tt (plain (λ _. R)) (λ _. tt) in
    let hs : Stays En.signature.params En.kept =
    (stay_dropped Alloc yes, (stay_dropped Given yes, (stay_dropped Lent no, (stay_dropped Keep yes, tt)))) in
    proved_at 𝓛 En hs c 𝓜 𝓡 (
      Goes-dropped 𝓛 2 Alloc yes (λ κs x f. refl),
      (
        Goes-dropped 𝓛 2 Given yes (λ κs x f. refl),
        (Goes-spent_ref 𝓛 2 (0 ∷ []) tt (plain (λ _. R)), (Goes-dropped 𝓛 2 Keep yes (λ κs x f. refl), tt)),
      ),
    )
    (#self inst) fn (code.unfolded 𝓤 H 𝓜 𝓡 wired (C, tt) d) (λ z are.
    let κs = z.0.0 in let qs = z.0.1 in let a = z.0.3 in let vss = z.0.4 in let κ : Lft = κs.0 in
    let m = a.1.0 in let lent = a.1.1.0 in let γ : ℕ = lent.ghost_name in let n : ℕ = a.1.1.1.0 in
    let b : ℕ = lent.ref_ptr.0 in let o : ℕ = lent.ref_ptr.1 in let Width : Type 0 = m.timed.config.width ≡ 1 in
    let Post : Val → SProp 𝓤 = (walk_of 𝓛 En hs c).post z in let Run : List Val → SProp 𝓤 = λ ws. WpFn 𝓤 H 𝓣.C 𝓣.Λ fn ws Post in
    let toks = ‵ (flft κ qs.0) ⊛ ‵ (flft κs.1.0 qs.1.0) ⊛ ‵ ftrue in
    -- what is left to show where u is returned
    let Kept : RattleType = session.the_row (named_lft 2 0 tt κs) R in let Res : RattleType = RS.the_row Kept failed.the_row in
    let Rests : Res.Denot → Fml = λ u. RestsIfErr R lent (λ s. s.core.ghost_name) u (λ left. left ≡ lent.now) in
    let Made : Res.Denot → Type 0 = λ u. IfOk u (λ s. s.rewindable ≡ record { machine = m; undos = []; keep = n }) in
    let Shown : Res.Denot → Type 0 = λ u. IfOk u (λ s. s.core.now ≡ lent.now) in
    let Same : Res.Denot → Type 0 = λ u. IfOk u (λ s. s.core.ghost_name ≡ γ) in
    let out : (u : Res.Denot) (v : Val) → Made u → Shown u → Same u
    → Seq (Go {0}) 𝓛 (‵ (Rests u) ∷ ‵ (Res.own_val u (v ∷ [])) ∷ toks ∷ []) (prop (Post v)) = λ u v is-made shown same.
    use0 𝓛 (raw (fact 𝓤 (Same u))) (fact_i 𝓤 (Same u) (emp 𝓤) same) $
    use0 𝓛 (raw (fact 𝓤 (Shown u))) (fact_i 𝓤 (Shown u) (emp 𝓤) shown) $ join ! $
    use0 𝓛 (raw (fact 𝓤 (Made u))) (fact_i 𝓤 (Made u) (emp 𝓤) is-made) $ join ! $ move ! (1 ∷ 0 ∷ []) $ join ! $
    nothing ! $ nothing ! $ fjoin ! $ nothing ! $ fjoin ! $ nothing ! $ fjoin ! $ nothing ! $ fjoin ! $ keep ! (3 ∷ 0 ∷ 2 ∷ 1 ∷ []) $
    by ! (leaves 𝓛 En hs c z v u _ _) in
    qed 𝓛 ((toks ⊛ ‵ (owns (types_at En.signature.params κs) a vss))
    ∷ (raw (fact 𝓤 (κs.1.0 ⊑ C.lives)) ⊛ raw (fact 𝓤 Width) ⊛ raw (fact 𝓤 (m.timed.count ≡ 0)) ⊛ raw (fact 𝓤 (1 ≤ n)) ⊛ raw (fact 𝓤 (n ≤ 4096))) ∷ []) ∵
    move ! (1 ∷ []) $ split3 ! $ drop ! $ heard ! Width (λ width. drop ! $ split ! $ move ! (1 ∷ []) $
    fsplit ! $ move ! (1 ∷ []) $ fsplit ! $ move ! (1 ∷ []) $ fsplit ! $ move ! (1 ∷ []) $ fsplit ! $ keep ! (4 ∷ 3 ∷ 2 ∷ 0 ∷ 5 ∷ []) $
    tells ! heap.the_row heap_laws.the_row_laws a.0 vss.0 (λ va ea ga. move ! (1 ∷ []) $
    tells ! given.the_row given_laws.the_row_laws m vss.1.0 (λ vm em gm.
    rewrite ! 2 (λ (us : List Val). ‵ ((MutRef (named 0) κ R).own_val lent us)) are.1.1.0.0 refl $
    rewrite ! 3 (λ (us : List Val). ‵ (u32.own_val n us)) are.1.1.1.0.0 refl $
    let args : List Val = va ∷ vm ∷ vptr b o ∷ vint w32 n ∷ [] in
    suffices ! (Run args) (subst (λ (us : List Val). ent 𝓤 (Run args) (Run us))
    (sym (λ i. ea i ++ (em i ++ (are.1.1.0.0 i ++ (are.1.1.1.0.0 i ++ []))))) (id⊢ 𝓤 (Run args))) $
    enter ! 𝓣.C 𝓣.Λ fn args Post $
    alloc_all ! (λ l. pass_all ! refl (ga, (gm, ((tt, tt), ((tt, record { fits = are.1.1.1.0.1 }), tt)))) $ let Ev = env fn.locals l in
    sets ! (of_opd ! (get ! refl)) refl gm $
    -- [the machine; the allocator; the reference; the number; the tokens]
    let G = triple_of 𝓛 g.signature (g.spec 𝓛 𝓜.mem 𝓡.returns) in
    let y : G.Ghost = ((tt, tt, tt, (a.0, (m, (n, tt))), (va ∷ [], (vm ∷ [], (vint w32 n ∷ [], tt)))), tt) in
    let Out : RattleType = RS.the_row made.the_row failed.the_row in
    let Built : Out.Denot → Type 0 = λ r. IfOk r (λ s. s ≡ record { machine = m; undos = []; keep = n }) in
    move ! (3 ∷ []) $ nothing ! $ move ! (1 ∷ 0 ∷ []) $ fjoin ! $ move ! (1 ∷ 0 ∷ []) $ fjoin ! $ move ! (1 ∷ 0 ∷ []) $ fjoin ! $
    nothing ! $ join ! $ use0 𝓛 (raw (fact 𝓤 Width)) (fact_i 𝓤 Width (emp 𝓤) width) $ move ! (1 ∷ 0 ∷ []) $ use2 𝓛 (raw (G.pre y)) (id⊢ 𝓤 (G.pre y)) $
    calls_at ! (framed 𝓤 H 𝓜 𝓣) G (met 𝓤 𝓛 𝓜 𝓡 (code.calls-diva_debug::rewindable::Rewindable::with_room 𝓡.env wired)) y
    (and_then ! (get ! refl) (and_then ! (get ! refl) (and_then ! (get ! refl) (no_more !)))) (λ v.
    use1 𝓛 (later (some (λ (r : Out.Denot). (‵ ftrue ⊛ ‵ (Out.own_val r (v ∷ [])))
    ⊛ some (λ (ls : Lasts g.ended tt y.0.3). ‵ (lasts g.ended tt y.0.3 ls) ⊛ raw (fact 𝓤 (Built r)))))) (id⊢ 𝓤 (G.post y v)) $
    await ! tt $ pick ! (λ r. split ! $ split ! $ drop ! $ move ! (1 ∷ []) $ pick ! (λ ls. split ! $ drop ! $ heard ! (Built r) (λ built.
    -- [the `Result` of the call; the reference; the tokens]
    let Then = any_q (after_seq 𝓤 H (Wp 𝓤 H 𝓣.C 𝓣.Λ Ev (after 3 fn.body) (at_return 𝓤 H Ev Post)) (at_return 𝓤 H Ev Post)) in
    let branch : Body = head (after 2 fn.body) in
    arms ! made.the_row failed.the_row made_laws.the_row_laws failed_laws.the_row_laws r v
    -- `Ok`: the reference is in the session, under its own name
    (λ s w is e good. let call-good = first_Good (layout made.the_row) w good in
    let vs : Val = vstruct (vcons w (vcons (vptr b o) vnil)) in let vs-good : Good Kept vs = (and_tt _ good.0, (good.1, (tt, tt))) in
    let h : Kept.Denot = record { rewindable = s; core = lent } in let u-good = first_Good (layout Kept) vs vs-good in
    lands_as ! e refl call-good $ first ! $ switches_on ! (get_tag ! (vrt ! refl (fld ! refl (stop !))) (whole !)) $ exec ! 𝓣.C 𝓣.Λ Ev (arm_body 0 branch) Then $
    sets ! (of_opd ! (get_in ! (vrt ! refl (fld ! refl (stop !))) (in_variant ! 0 0 refl refl (whole !)))) refl good $ sets ! (of_opd ! (get ! refl)) refl good $
    sets ! (addr ! (through ! refl (stop !))) refl (tt, tt) $ sets ! (agg ! (and_then ! (get ! refl) (and_then ! (get ! refl) (no_more !)))) refl vs-good $
    sets_last ! (agg ! (and_then ! (lit ! tt) (and_then ! (get ! refl) (no_more !)))) refl u-good $
    exec ! 𝓣.C 𝓣.Λ Ev (after 3 fn.body) (at_ret Ev Post) $ sets ! (of_opd ! (get ! refl)) refl u-good $ returns ! (look_at ! 0 refl) $ free_all ! refl $
    move ! (1 ∷ []) $ nothing ! $ move ! (1 ∷ 0 ∷ []) $ fjoin ! $ move ! (1 ∷ 0 ∷ []) $ fjoin ! $ feq_i ! (List Val) (vs ∷ []) (vs ∷ []) refl $ fjoin ! $
    fpack ! (Valss ((made.the_field).row ∷ MutRef (named 0) κ R ∷ []))
    (within (Declared.shape (session.the_type (named_lft 2 0 tt κs) R)) ((made.the_field).into s, (lent, tt)) (vs ∷ [])) (w ∷ [], (vptr b o ∷ [], tt)) $
    use1 𝓛 (‵ (Res.own_val (Ok h) (live 0 (of_list (vs ∷ [])) ∷ []))) (ok_of 𝓛 Kept failed.the_row h vs) $
    use0 𝓛 (‵ (Rests (Ok h))) (follows_itself 𝓛 R γ _ _ (λ x. refl) lent.now tt) $
    by ! (out (Ok h) (live 0 (of_list (vs ∷ []))) (subst Built is built) refl refl).prf)
    -- `Err`: the reference is given up, and what stood behind it still does
    (λ x w is e good. let u : Val = live 1 (of_list (w ∷ [])) in
    let u-good : T (has_ty (layout failed.the_row) w && true) × WT u = (and_tt _ good.0, (record { fits = lit< tt }, (good.1, tt))) in
    lands_as ! e refl u-good $ first ! $ switches_on ! (get_tag ! (vrt ! refl (fld ! refl (stop !))) (whole !)) $ exec ! 𝓣.C 𝓣.Λ Ev (arm_body 1 branch) Then $
    sets ! (of_opd ! (get_in ! (vrt ! refl (fld ! refl (stop !))) (in_variant ! 1 0 refl refl (whole !)))) refl good $
    sets_last ! (agg ! (and_then ! (lit ! tt) (and_then ! (get ! refl) (no_more !)))) refl u-good $
    exec ! 𝓣.C 𝓣.Λ Ev (after 3 fn.body) (at_ret Ev Post) $ sets ! (of_opd ! (get ! refl)) refl u-good $ returns ! (look_at ! 0 refl) $ free_all ! refl $
    use1 𝓛 (‵ (Res.own_val (Err x) (u ∷ []))) (err_of 𝓛 Kept failed.the_row x w) $ move ! (1 ∷ []) $ fsplit3 ! $ move ! (1 ∷ []) $
    use1 𝓛 (‵ (fres γ (R.coded.code lent.now))) (𝓛.names.obs-res γ (R.coded.code lent.now)) $
    use1 𝓛 (‵ (Rests (Err x))) (rests 𝓛 R γ _ _ (λ x. tt) lent.now refl) $ keep ! (0 ∷ 3 ∷ 4 ∷ []) $ by ! (out (Err x) u tt tt tt).prf))))))))))
