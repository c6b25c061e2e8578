-- Steps of a proof by hand: what is owned of a value, a `Result` by its variant, and how a lender ends.
use mathlib.Core.Path.{◌≡◌, refl, ap, ◌∙◌}
use mathlib.Core.List.{List, [], ◌∷◌, ◌++◌}
use mathlib.Core.Option.{some, none}
use lib.Dec.{T}
use seplogic.Ra.Ura.{Ura}
use mir.Syntax.{Ty}
use mir.Val.{Val, WT, has_ty, of_list}
use base.Logic.{ent, wand, emp, via, id⊢, ex_i}
use base.Fml.{Fml, GName, fsep, feq, fex, fres, fauth}
use types.Logic.{Logic, sem}
use types.Kit.{Item, Goal, Seq, ‵, ◌$◌, ◌∵◌, !, qed, move, drop, fsplit, fpick, feq_l, feq_i, fjoin, fpack, rewrite, each, assume, done}
use types.Match.{live}
use denote.RattleType.{RattleType}
use denote.Laws.{Is, shows, Typed}
use denote.Param.{param, layout}
use denote.Param.Laws.{Laws, param_laws}
use denote.Steps.{peeks, only}
use denote.Follow.{follows, follows_if, follows_so, such_by, follows_by}
use Rattle.std.specs.Prelude.{Ok, Err}
use Rattle.std.specs.contracts.result.Result as RS

-- a machine value of a type
abbrev pub Good : RattleType → Val → Type 0
Good R v = T (has_ty (layout R) v) × WT v

-- of one type there is one machine value
one : (τ : Ty) (vs : List Val) → Typed (τ ∷ []) vs → (v : Val) × ((vs ≡ v ∷ []) × (T (has_ty τ v) × WT v))
one τ [] t = absurd t
one τ (v ∷ []) t = (v, (refl, t.0))
one τ (v ∷ w ∷ vs) t = absurd t.1

module _ {M : Type 1} {𝓤 : Ura M} {𝓛 : Logic 𝓤} {K : Type 0} {Γ : List (Item 𝓤)} {G : Goal 𝓤 𝓛.H} where
  -- what is owned of a value is one machine value, of its type
  pub tells : K → (R : RattleType) → Laws R → (x : R.Denot) (vs : List Val)
      → ((v : Val) → vs ≡ v ∷ [] → Good R v → Seq K 𝓛 (‵ (R.own_val x (v ∷ [])) ∷ Γ) G) → Seq K 𝓛 (‵ (R.own_val x vs) ∷ Γ) G
  tells t R L x vs k =
      peeks t (param 0 R) (Is (param 0 R)) (shows 𝓛 (param 0 R)) x vs (λ is.
      let it = one (layout R) vs (((param_laws 0 R L).lawful 𝓛).typed x vs is) in
      rewrite t 0 (λ (us : List Val). ‵ (R.own_val x us)) it.1.0 refl $ k it.0 it.1.0 it.1.1)

  -- a `Result` by its variant
  pub arms : K → (S E : RattleType) → Laws S → Laws E → (r : (RS.the_row S E).Denot) (v : Val)
      → ((x : S.Denot) (w : Val) → r ≡ Ok x → v ≡ live 0 (of_list (w ∷ [])) → Good S w → Seq K 𝓛 (‵ (S.own_val x (w ∷ [])) ∷ Γ) G)
      → ((e : E.Denot) (w : Val) → r ≡ Err e → v ≡ live 1 (of_list (w ∷ [])) → Good E w → Seq K 𝓛 (‵ (E.own_val e (w ∷ [])) ∷ Γ) G)
      → Seq K 𝓛 (‵ ((RS.the_row S E).own_val r (v ∷ [])) ∷ Γ) G
  arms t S E LS LE (Ok x) v ok err =
      fpick t (λ us. fsplit t $ feq_l t (λ e. fpick t (λ vss. fsplit t $ feq_l t (λ e₁. fsplit t $ move t (1 ∷ []) $ drop t $
      tells t S LS x vss.0 (λ w e₂ good. ok x w refl (ap only (e ∙ ap (λ (ws : List Val). live 0 (of_list ws) ∷ []) (e₁ ∙ ap (λ (ws : List Val). ws ++ []) e₂))) good)))))
  arms t S E LS LE (Err x) v ok err =
      fpick t (λ us. fsplit t $ feq_l t (λ e. fpick t (λ vss. fsplit t $ feq_l t (λ e₁. fsplit t $ move t (1 ∷ []) $ drop t $
      tells t E LE x vss.0 (λ w e₂ good. err x w refl (ap only (e ∙ ap (λ (ws : List Val). live 1 (of_list ws) ∷ []) (e₁ ∙ ap (λ (ws : List Val). ws ++ []) e₂))) good)))))

module _ {M : Type 1} {𝓤 : Ura M} (𝓛 : Logic 𝓤) (R : RattleType) (γ : GName) where
  open 𝓛 use {A}

  same : ent 𝓤 (emp 𝓤) (sem 𝓛 (follows R R γ γ (λ w. w)))
  same =
      let From : R.Denot → R.Denot → Fml = λ z w. fsep (feq R.Denot z w) (fauth γ (R.coded.code w)) in
      let said = qed 𝓛 [] ∵ each ! (λ (w : R.Denot). wand 𝓤 (A.res γ (R.coded.code w)) (A.res γ (R.coded.code w))) (λ w.
      assume ! (‵ (fres γ (R.coded.code w))) $ done !) in
      let back = qed 𝓛 [] ∵ each ! (λ (z : R.Denot). wand 𝓤 (A.auth γ (R.coded.code z)) (sem 𝓛 (fex R.Denot (From z)))) (λ z.
      assume ! (‵ (fauth γ (R.coded.code z))) $ feq_i ! R.Denot z z refl $ fjoin ! $ fpack ! R.Denot (From z) z $ done !) in
      record { apply = λ a p. (said.apply a p, back.apply a p) }

  same_if : (v : R.Denot) → ent 𝓤 (emp 𝓤) (sem 𝓛 (follows_if R R γ (some γ) (λ w. w) v))
  unfolding follows_by
  same_if v = same

  rests_if : (v : R.Denot) → ent 𝓤 (A.res γ (R.coded.code v)) (sem 𝓛 (follows_if R R γ none (λ w. w) v))
  unfolding follows_by
  rests_if v = id⊢ 𝓤 (A.res γ (R.coded.code v))

  module _ (P : R.Denot → R.Denot → Type 0) (P₀ : R.Denot → Type 0) where
    abbrev Ends : Type 0
    Ends = (s : (R.Denot → R.Denot) × R.Denot) × ((w : R.Denot) → P w (s.0 w)) × P₀ s.1

    -- a lender that is itself in the result ends as the last value behind it
    pub follows_itself : ((w : R.Denot) → P w w) → (v : R.Denot) → P₀ v → ent 𝓤 (emp 𝓤) (sem 𝓛 (follows_so R R γ (some γ) P P₀))
    unfolding such_by
    follows_itself p v p₀ = via 𝓤 (sem 𝓛 (follows_if R R γ (some γ) (λ w. w) v)) (same_if v)
        (ex_i 𝓤 (λ (y : Ends). sem 𝓛 (follows_if R R γ (some γ) y.0.0 y.0.1)) (((λ w. w), v), p, p₀))

    -- one that was given up ends as what was behind it then
    pub rests : ((w : R.Denot) → P w w) → (v : R.Denot) → P₀ v → ent 𝓤 (A.res γ (R.coded.code v)) (sem 𝓛 (follows_so R R γ none P P₀))
    unfolding such_by
    rests p v p₀ = via 𝓤 (sem 𝓛 (follows_if R R γ none (λ w. w) v)) (rests_if v)
        (ex_i 𝓤 (λ (y : Ends). sem 𝓛 (follows_if R R γ none y.0.0 y.0.1)) (((λ w. w), v), p, p₀))
