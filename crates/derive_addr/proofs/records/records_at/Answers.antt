use Rattle.std.proofs.Common.{◌≡◌, sym, ◌∙◌, subst, IfOk}
use Rattle.live_model.specs.Records.{address_records, address_records_of}
use Rattle.object_geometry.proofs.Derived.{made_of_object, made_of_nothing}
use Rattle.derive_addr.proofs.records.records_at.Goals as goal

pub returns-in-Some : goal.returns-in-Some
unfolding address_records_of
returns-in-Some c =
    subst (λ rs. IfOk c.records_of.result (λ records. records.items ≡ rs))
    (sym (made_of_object (address_records c.args.rules.now) c.args.look.now c.args.id.now c.in-Some.entity.now c.in-Some.ensures.found)) c.records_of.ensures

pub returns-in-None : goal.returns-in-None
unfolding address_records_of
returns-in-None c = c.new.ensures.items ∙ sym (made_of_nothing (address_records c.args.rules.now) c.args.look.now c.args.id.now c.in-None.ensures.found)
