-- Neither argument is read: both are let go, and the tokens of their lifetimes kept. The list that the result tells is
-- chosen at the end.
use Rattle.std.proofs.Common.{[], ◌∷◌, refl}
use Rattle.std.proofs.raw_atomic.Walks.{proved}
use types.Kit.{‵, raw, ◌⊛◌, ◌$◌, ◌∵◌, !, qed, done, move, keep, split, join, use0, suffices}
use types.Run.{enter, no_more, returns}
use types.ByLocal.{alloc_all, pass_all, free_all, look_at, sets}
use types.Part.{agg}
use base.Fml.{ftrue}
use base.Logic.{emp}
use denote.Exit.{yes}
use denote.Ref.{shr_vals}
use denote.RattleType.{owns}
use denote.Signature.{types_at}
use denote.Steps.{nothing}
use denote.Triple.Entry.{alive}
use denote.Triple.Walked.{Stays, walk_of, says, stay_dropped, ends_at}
use Rattle.outside.specs.Notes.{with_note}
use Rattle.outside.specs.contracts.trace.Trace.{the_row}
use Rattle.outside.specs.contracts.trace.Trace.and as promise
use Rattle.outside.proofs.Weightless.{no_bytes, for_nothing}
use Rattle.outside.proofs.trace.Trace.and.Statement.{statement}
use Rattle.outside.proofs.trace.Trace.and.Code as code

-- nothing is had of either argument at the return
abbrev both_go : Stays promise.ended.signature.params promise.ended.kept
both_go = (stay_dropped _ yes, (stay_dropped _ yes, tt))

pub and_spec : {M : Type 1} → statement M
and_spec 𝓤 𝓛 𝓜 𝓡 wired =
    let clauses = promise.clauses 𝓛 𝓜.mem 𝓡.returns in
    let W = walk_of 𝓛 promise.ended both_go clauses in
    proved 𝓛 promise.ended both_go clauses 𝓜 𝓡
    (λ κs x w vs fit. 𝓛.laws.⇛_intro (emp 𝓤), (λ κs x w vs fit. 𝓛.laws.⇛_intro (emp 𝓤), tt))
    promise.Key.name code.function (code.unfolded 𝓤 𝓛.H 𝓜 𝓡 wired)
    (λ κs. (shr_vals, (shr_vals, tt)))
    (λ κs. (λ x vs is. is.0, (λ x vs is. is.0, tt)))
    (λ κs qs bounds arguments ghost facts.
    let old = arguments.0 in let note = arguments.1.0 in
    let told = with_note old.now.noted note.now in
    let y : W.Ghost = ((κs, qs, bounds, arguments, (shr_vals old, (shr_vals note, tt))), tt) in
    let Result = the_row.own_val (record { noted = told }) (no_bytes ∷ []) in
    qed 𝓛 ((raw (alive 𝓛 promise.signature κs qs) ⊛ ‵ (owns (types_at promise.signature.params κs) arguments y.0.4)) ∷ ‵ ftrue ∷ []) ∵
    split ! $ keep ! (0 ∷ []) $
    enter ! _ _ _ _ _ $ alloc_all ! (λ l. pass_all ! refl ((tt, tt), ((tt, tt), tt)) $
    sets ! (agg ! (no_more !)) refl (tt, tt) $
    returns ! (look_at ! 0 refl) $ free_all ! refl $
    -- [the tokens of the lifetimes]
    suffices ! _ (ends_at 𝓛 promise.ended both_go clauses y no_bytes (record { noted = told }) (tt, (tt, tt)) (tt, (tt, tt))) $ says ! refl $
    use0 𝓛 (‵ Result) (for_nothing 𝓛 told) $
    nothing ! $ nothing ! $ join ! $ nothing ! $ join ! $ move ! (2 ∷ []) $ done !))
