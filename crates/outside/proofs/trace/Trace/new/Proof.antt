-- The body puts the struct without bytes into the result's place and returns. The list that it tells is chosen at the end.
use Rattle.std.proofs.Common.{[], ◌∷◌, refl}
use Rattle.std.proofs.raw_atomic.Walks.{proved}
use base.Fml.{ftrue}
use types.Kit.{‵, raw, ◌$◌, ◌∵◌, !, qed, done, drop, use0, suffices}
use types.Run.{enter, no_more, returns}
use types.ByLocal.{alloc_all, pass_all, free_all, look_at, sets}
use types.Part.{agg}
use denote.Steps.{nothing}
use denote.Triple.Entry.{on_entry}
use denote.Triple.Walked.{walk_of, says, ends_at}
use Rattle.outside.specs.contracts.trace.Trace.{the_row}
use Rattle.outside.specs.contracts.trace.Trace.new as promise
use Rattle.outside.specs.Readings.{nothing_noted}
use Rattle.outside.proofs.Weightless.{no_bytes, for_nothing}
use Rattle.outside.proofs.trace.Trace.new.Statement.{statement}
use Rattle.outside.proofs.trace.Trace.new.Code as code

pub new_spec : {M : Type 1} → statement M
new_spec 𝓤 𝓛 𝓜 𝓡 wired =
    let clauses = promise.clauses 𝓛 𝓜.mem 𝓡.returns in
    let W = walk_of 𝓛 promise.ended tt clauses in
    proved 𝓛 promise.ended tt clauses 𝓜 𝓡 tt
    promise.Key.name code.function (code.unfolded 𝓤 𝓛.H 𝓜 𝓡 wired)
    (λ κs. tt) (λ κs. tt) (λ κs qs bounds arguments ghost facts.
    let y : W.Ghost = ((κs, qs, bounds, arguments, tt), tt) in
    qed 𝓛 (raw (on_entry 𝓛 promise.signature κs qs arguments tt) ∷ ‵ ftrue ∷ []) ∵ drop ! $ drop ! $
    enter ! _ _ _ _ _ $ alloc_all ! (λ l. pass_all ! refl tt $
    sets ! (agg ! (no_more !)) refl (tt, tt) $
    returns ! (look_at ! 0 refl) $ free_all ! refl $
    suffices ! _ (ends_at 𝓛 promise.ended tt clauses y no_bytes (record { noted = nothing_noted }) tt tt) $ says ! refl $
    use0 𝓛 (‵ (the_row.own_val (record { noted = nothing_noted }) (no_bytes ∷ []))) (for_nothing 𝓛 nothing_noted) $
    nothing ! $ nothing ! $ done !))
